-- Testing cells for null.
use Rattle.std.proofs.Common.{◌≡◌, ℕ, zero, suc, ◌<◌, Bool, true, false, List, [], ◌∷◌, Some, length, map, replicate, refl, ap, ◌∙◌, arith}
use Rattle.std.specs.Bool.{beq}
use Rattle.std.proofs.lemmas.List.{length-map}
use Rattle.pipe_schema.specs.Cell.{is_null_cell, boolean_cell}
use Rattle.pipe_column.specs.Column.{nullable_at}
use Rattle.pipe_column.specs.Series.{cell_at}
use Rattle.pipe_schema.specs.declared.any_value.AnyValue.{AnyValue}
use Rattle.pipe_expr.specs.Nullables.{null_test, null_found}
use Rattle.pipe_expr.specs.Values.{null_test_cell}
use Rattle.pipe_expr.proofs.Operands.{map-replicate}

null_beq : (found wanted : Bool) (c : AnyValue) → is_null_cell c ≡ found → Some (beq found wanted) ≡ null_found wanted c
null_beq true true c h = rw h refl
null_beq true false c h = rw h refl
null_beq false true c h = rw h refl
null_beq false false c h = rw h refl

pub null_found-beq : (wanted : Bool) (c : AnyValue) → Some (beq (is_null_cell c) wanted) ≡ null_found wanted c
null_found-beq wanted c = null_beq (is_null_cell c) wanted c refl

pub nullable_at-null : (wanted : Bool) (cells : List AnyValue) (i : ℕ) → i < length (map (null_found wanted) cells) → Some (beq (is_null_cell (cell_at cells i)) wanted) ≡ nullable_at (map (null_found wanted) cells) i
nullable_at-null wanted [] i h = absurd (omega arith)
nullable_at-null wanted (c ∷ cells) zero h = null_found-beq wanted c
nullable_at-null wanted (c ∷ cells) (suc i) h = nullable_at-null wanted cells i (omega arith)

pub null_repeated : (wanted : Bool) (n : ℕ) (c : AnyValue) → replicate n (Some (beq (is_null_cell c) wanted)) ≡ map (null_found wanted) (replicate n c)
null_repeated wanted n c = ap (replicate n) (null_found-beq wanted c) ∙ map-replicate (null_found wanted) n c

pub null-cells : (wanted : Bool) (cells : List AnyValue) → map boolean_cell (map (null_found wanted) cells) ≡ map (null_test_cell wanted) cells
null-cells wanted [] = refl
null-cells wanted (c ∷ cells) = ap (λ l. null_test_cell wanted c ∷ l) (null-cells wanted cells)

pub ruleset null_rules = (nullable_at-null, null_repeated, length-map, null-cells)
