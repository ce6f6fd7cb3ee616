use Rattle.std.proofs.Common.{◌≡◌, ◌∷◌, ◌++◌, [], List, ℕ, w64, to_z, of_z, to_z-of_z, ap, ◌∙◌}
use Rattle.std.proofs.lemmas.Result.{on_ok_weaker}
use Rattle.std.specs.Fmt.{signed_decimal}
use Rattle.json.proofs.Printed.Decimals.{IsNumber-signed_decimal}
use Rattle.json.specs.Token as token
use Rattle.pipe_spell.proofs.Fronts.{printable_push, wrote_integer}
use Rattle.pipe_spell.proofs.numbers.write_i64.Goals as goal

pub returns-clause-ok : goal.returns-clause-ok
returns-clause-ok c =
    let text : signed_decimal (to_z w64 (of_z w64 c.args.z)) ≡ signed_decimal c.args.z = ap signed_decimal (to_z-of_z c.ranges.z) in
    let old = c.args.out.now.tokens in
    on_ok_weaker c.i64.result (λ e. wrote_integer c.args.z old c.i64.new.self.tokens c.ranges.z (e ∙ ap (λ (s : List ℕ). old ++ token.number s ∷ []) text)) c.i64.ensures.ok

pub returns-clause-printable : goal.returns-clause-printable
returns-clause-printable c =
    let text : signed_decimal (to_z w64 (of_z w64 c.args.z)) ≡ signed_decimal c.args.z = ap signed_decimal (to_z-of_z c.ranges.z) in
    let old = c.args.out.now.tokens in
    on_ok_weaker c.i64.result (λ e.
    printable_push (token.number (signed_decimal c.args.z)) old c.i64.new.self.tokens (IsNumber-signed_decimal c.args.z c.ranges.z.sfits)
    (e ∙ ap (λ (s : List ℕ). old ++ token.number s ∷ []) text)) c.i64.ensures.ok
