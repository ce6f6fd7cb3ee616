-- What the values of the code stand for.
use Rattle.std.specs.Prelude.{map}
use Rattle.pipe_expr.specs.Formula.{formula_of}
use Rattle.pipe_rules.specs.Parted.{Parts}
use Rattle.pipe_rules.specs.declared.parting.Parted.{Parted}
use Rattle.pipe_rules.specs.declared.sharing.Shares.{Shares}
use Rattle.pipe_rules.specs.Reach.{formulas_in}

abbrev pub placed_in : Parted → Parts
placed_in p = record {
  above = map formula_of p.above;
  inputs = map formula_of p.inputs;
  left = map formula_of p.left;
  right = map formula_of p.right;
}

abbrev pub parts_in : Shares → Parts
parts_in s = record {
  above = map formula_of s.above;
  inputs = map formula_of s.inputs;
  left = formulas_in s.left;
  right = map formula_of s.right;
}
