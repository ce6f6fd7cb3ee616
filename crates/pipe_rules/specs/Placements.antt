-- The placing that a value of the code is.
use Rattle.pipe_expr.specs.Formula.{formula_of}
use Rattle.pipe_rules.specs.Placing.{Placing, Above, OnInputs, OnLeft, OnRight}
use Rattle.pipe_rules.specs.declared.placement.Placement.{Placement}
use Rattle.pipe_rules.specs.declared.placement.Placement.TheVariants as placement

abbrev pub placing_of : Placement → Placing
placing_of (placement.Above conjunct) = Above (formula_of conjunct)
placing_of (placement.OnInputs conjunct) = OnInputs (formula_of conjunct)
placing_of (placement.OnLeft conjunct) = OnLeft (formula_of conjunct)
placing_of (placement.OnRight conjunct) = OnRight (formula_of conjunct)
