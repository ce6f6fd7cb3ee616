use Rattle.std.proofs.Common.{◌≡◌, ◌++◌, refl, sym, ap, ◌∙◌, subst}
use Rattle.std.specs.Prelude.{codes}
use Rattle.pipe_why_inputs.proofs.misfit.job_text.Goals as goal

pub returns : goal.returns
returns c = λ none.
    let told = c.in_ok-push_misfit.ensures refl none in
    record {
      misfit = told.misfit;
      is_told = told.is_told;
      text = told.begins.0;
      written = told.begins.1 ∙ ap (λ bytes. bytes ++ told.begins.0) (c.in_ok-push_str.ensures.bytes ∙ ap (λ bytes. bytes ++ codes "not a job: ") c.new-out.ensures.bytes);
      begins = told.begins.2;
    }
