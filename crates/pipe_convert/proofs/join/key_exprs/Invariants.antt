use Rattle.std.proofs.Common.{◌≡◌, ◌++◌, drop}
use Rattle.std.specs.List.{AllByRecursion}
use Rattle.pipe_expr.specs.Formula.{formulas_of}
use Rattle.pipe_table.specs.Spec.{IsMadeFor, formulas_in}
use Rattle.pipe_convert.specs.Keys.{AreKeys}
use Rattle.pipe_convert.proofs.join.key_exprs.Given as goal

abbrev pub invariant-loop-key : goal.invariant-loop-key
invariant-loop-key l = record {
  typed : AreKeys l.schema (formulas_of (drop l.key-index l.keys));
  made_for : AllByRecursion (IsMadeFor l.schema) l.made;
  same : formulas_in l.made ++ formulas_of (drop l.key-index l.keys) ≡ formulas_of l.keys;
}
