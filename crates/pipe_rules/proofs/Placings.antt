-- Where conjuncts go, by what they read.
use Rattle.std.proofs.Common.{◌≡◌, Bool, true, false, ap, sym, ◌∙◌}
use Rattle.pipe_expr.specs.Formula.{Formula}
use Rattle.pipe_rules.specs.Placing.{Placing, Above, OnInputs, OnLeft, OnRight, on_inputs_if, on_left_or, on_right_or}

pub goes-in : (b : Bool) (c below f : Formula) → b ≡ true → f ≡ below → OnInputs f ≡ on_inputs_if b c below
goes-in b c below f e is = ap OnInputs is ∙ ap (λ t. on_inputs_if t c below) (sym e)

pub stays-above : (b : Bool) (c below : Formula) → b ≡ false → Above c ≡ on_inputs_if b c below
stays-above b c below e = ap (λ t. on_inputs_if t c below) (sym e)

pub goes-left : (b : Bool) (c : Formula) (other : Placing) → b ≡ true → OnLeft c ≡ on_left_or b c other
goes-left b c other e = ap (λ t. on_left_or t c other) (sym e)

pub not-left : (b : Bool) (c : Formula) (other p : Placing) → b ≡ false → p ≡ other → p ≡ on_left_or b c other
not-left b c other p e is = is ∙ ap (λ t. on_left_or t c other) (sym e)

pub goes-right : (b : Bool) (below f : Formula) (other : Placing) → b ≡ true → f ≡ below → OnRight f ≡ on_right_or b below other
goes-right b below f other e is = ap OnRight is ∙ ap (λ t. on_right_or t below other) (sym e)

pub not-right : (b : Bool) (below : Formula) (other : Placing) → b ≡ false → other ≡ on_right_or b below other
not-right b below other e = ap (λ t. on_right_or t below other) (sym e)

pub ruleset placing_rules = (goes-in, stays-above, goes-left, not-left, goes-right, not-right)
