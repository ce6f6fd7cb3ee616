-- The test of two cells decides whether they are one.
use Rattle.std.proofs.Common.{◌≡◌, true, refl, ap}
use Rattle.std.specs.Cmp.{booleans_Decides, signed_Decides}
use Rattle.std.specs.Cmp.Lexicographic.{bytes_decides}
use Rattle.std.proofs.lemmas.Bool.Decides.{Decides-eqb}
use Rattle.pipe_schema.specs.Cell.{eq_cell}
use Rattle.pipe_schema.specs.declared.any_value.AnyValue.{AnyValue}
use Rattle.pipe_schema.specs.declared.any_value.AnyValue.TheVariants as cell

pub eq_cell-sound : (a b : AnyValue) → eq_cell a b ≡ true → a ≡ b
eq_cell-sound cell.Null cell.Null h = refl
eq_cell-sound (cell.Int32 a) (cell.Int32 b) h = ap cell.Int32 ((signed_Decides a b).0 h)
eq_cell-sound (cell.Int64 a) (cell.Int64 b) h = ap cell.Int64 ((signed_Decides a b).0 h)
eq_cell-sound (cell.UInt32 a) (cell.UInt32 b) h = ap cell.UInt32 ((Decides-eqb a b).0 h)
eq_cell-sound (cell.UInt64 a) (cell.UInt64 b) h = ap cell.UInt64 ((Decides-eqb a b).0 h)
eq_cell-sound (cell.Boolean a) (cell.Boolean b) h = ap cell.Boolean ((booleans_Decides a b).0 h)
eq_cell-sound (cell.String a) (cell.String b) h = ap cell.String ((bytes_decides a b).0 h)
eq_cell-sound (cell.Binary a) (cell.Binary b) h = ap cell.Binary ((bytes_decides a b).0 h)
eq_cell-sound (cell.Int128 a) (cell.Int128 b) h = ap cell.Int128 ((signed_Decides a b).0 h)
eq_cell-sound _ _ h = cc

pub eq_cell-refl : (a : AnyValue) → eq_cell a a ≡ true
eq_cell-refl cell.Null = refl
eq_cell-refl (cell.Int32 a) = (signed_Decides a a).1 refl
eq_cell-refl (cell.Int64 a) = (signed_Decides a a).1 refl
eq_cell-refl (cell.UInt32 a) = (Decides-eqb a a).1 refl
eq_cell-refl (cell.UInt64 a) = (Decides-eqb a a).1 refl
eq_cell-refl (cell.Boolean a) = (booleans_Decides a a).1 refl
eq_cell-refl (cell.String a) = (bytes_decides a a).1 refl
eq_cell-refl (cell.Binary a) = (bytes_decides a a).1 refl
eq_cell-refl (cell.Int128 a) = (signed_Decides a a).1 refl
