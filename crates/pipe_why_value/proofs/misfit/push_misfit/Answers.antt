use Rattle.std.proofs.Common.{◌≡◌, refl, sym, ap, ◌∙◌, subst, Some}
use Rattle.serde_json.specs.Read.{read}
use Rattle.pipe_value.specs.View.{view}
use Rattle.pipe_why_value.specs.Order.{tree_of}
use Rattle.pipe_why_value.specs.Places.{IsTold, whole_want}
use Rattle.pipe_why_value.proofs.Looks.{on_ok, told_first}
use Rattle.pipe_why_value.proofs.misfit.push_misfit.Goals as goal

pub misfits_of-requires : goal.misfits_of-requires
misfits_of-requires c = ap read (c.text_in-text.ensures c.requires.utf8) ∙ c.requires.reads

pub returns : goal.returns
returns c =
    let d = view c.args.value.now in
    let same : c.text_in-text.result.now ≡ c.args.bytes.now = c.text_in-text.ensures c.requires.utf8 in
    on_ok c.push_told.result
    (λ begins job none. record {
      misfit = c.first_or_whole-misfit.result;
      is_told = subst (λ b. IsTold (whole_want c.args.kind, d, tree_of b) c.first_or_whole-misfit.result) same
          (told_first (whole_want c.args.kind, d, tree_of c.text_in-text.result.now) _ c.first_or_whole-misfit.result c.in_ok-first.ensures.told (λ no. none ((c.in_ok-first.ensures.none job).0 no)) c.first_or_whole-misfit.ensures);
      begins = begins;
    })
    c.push_told.ensures
