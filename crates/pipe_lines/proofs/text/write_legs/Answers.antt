use Rattle.std.proofs.Common.{◌≡◌, ℕ, List, [], ◌+◌, ◌∷◌, ◌++◌, drop, ap, sym, subst, ◌∙◌, append_assoc, append-nil, arith, rules}
use Rattle.std.proofs.Output.{has_written_append}
use Rattle.std.proofs.lemmas.List.{drop_all, drop_more}
use Rattle.std.specs.Fmt.{HasWritten}
use Rattle.std.specs.List.{flat_map}
use Rattle.pipe_lines.specs.Lines.{leg_text}
use Rattle.pipe_lines.proofs.text.write_legs.Goals as goal

pub loop-leg-preserved : goal.loop-leg-preserved
loop-leg-preserved g c = λ plain.
    let so_far = c.loop-leg.invariant plain in
    let legs = c.args.legs.now in
    let i = c.loop-leg.leg-index in
    let leg = c.leg-item.result in
    let more = drop_more legs i leg c.loop-leg-test.true ∙ ap (λ x. x ∷ drop (i + 1) legs) (sym c.leg-item.is) in (
      so_far.0 ++ leg_text leg,
      has_written_append _ _ _ _ _ _ so_far.1 (c.write_part.ensures so_far.1.plain (search rules)),
      append_assoc so_far.0 (leg_text leg) _ ∙ ap (λ l. so_far.0 ++ flat_map leg_text l) (sym more) ∙ so_far.2,
    )

pub returns : goal.returns
returns g c = λ plain ok.
    let so_far = c.loop-leg.invariant plain in
    let legs = c.args.legs.now in
    let i = c.loop-leg.leg-index in
    let none : drop i legs ≡ [] = drop_all i legs (omega (arith, c.loop-leg-test.false)) in
    let T : List ℕ → Type 0 = λ written. HasWritten g.W.Write.write_str_gives c.args.f.now written c.loop-leg.f in
    subst T (sym (append-nil so_far.0) ∙ ap (λ rest. so_far.0 ++ flat_map leg_text rest) (sym none) ∙ so_far.2) so_far.1
