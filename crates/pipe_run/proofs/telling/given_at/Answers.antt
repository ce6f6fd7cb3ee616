use Rattle.std.proofs.Common.{ap, arith, ◌∙◌}
use Rattle.pipe_run.proofs.Sums.{count-at, count-target}
use Rattle.pipe_run.proofs.telling.given_at.Goals as goal

pub returns-then-place-len : goal.returns-then-place-len
returns-then-place-len g c =
    ap (λ st. st.given) c.index.ensures ∙ count-at c.args.stages.now.items c.args.target.now c.args.place c.index.result.now (omega (arith, c.if-place-len.true, c.len.ensures, c.args.stages.now.ok.0))

pub returns : goal.returns
returns g c = count-target c.args.stages.now.items c.args.target.now c.args.place (omega (arith, c.if-place-len.false, c.len.ensures, c.args.stages.now.ok.0)) c.requires
