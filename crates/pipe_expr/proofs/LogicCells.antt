-- Logic on cells is logic on the truth values in them.
use Rattle.std.proofs.Common.{◌≡◌, ℕ, zero, suc, Bool, true, false, List, [], ◌∷◌, Option, Some, None, length, map, replicate, refl, ap, sym, ◌∙◌, arith}
use Rattle.std.specs.Ordering.{bool_cmp, is_ne}
use Rattle.std.proofs.lemmas.List.{length-replicate}
use Rattle.pipe_schema.specs.Cell.{boolean_cell}
use Rattle.pipe_schema.specs.declared.any_value.AnyValue.TheVariants as cell
use Rattle.pipe_schema.specs.declared.any_value.AnyValue.{AnyValue}
use Rattle.pipe_expr.specs.Values.{both_of, either_of, opposite_of, compared}
use Rattle.pipe_expr.specs.Nullables.{zip_with, strictly, tested, both, either}
use Rattle.pipe_expr.specs.Operands.{Zips, IsOperand, operand_cells}
use Rattle.pipe_expr.specs.declared.operand.Operand.{Operand}
use Rattle.pipe_expr.specs.declared.operand.Operand.TheVariants as operand
use Rattle.pipe_expr.proofs.Zips.{zips-cells}
use Rattle.pipe_expr.proofs.ComparedCells.{compared-boolean}

both_cell : (a b : Option Bool) → boolean_cell (both a b) ≡ both_of (boolean_cell a) (boolean_cell b)
both_cell (Some a) (Some b) = refl
both_cell (Some a) None = refl
both_cell None (Some b) = refl
both_cell None None = refl

either_cell : (a b : Option Bool) → boolean_cell (either a b) ≡ either_of (boolean_cell a) (boolean_cell b)
either_cell (Some a) (Some b) = refl
either_cell (Some a) None = refl
either_cell None (Some b) = refl
either_cell None None = refl

pub both-cells : {left right made : List AnyValue} → Zips boolean_cell boolean_cell both left right made → made ≡ zip_with both_of left right
both-cells z = zips-cells boolean_cell boolean_cell both both_of both_cell z

pub either-cells : {left right made : List AnyValue} → Zips boolean_cell boolean_cell either left right made → made ≡ zip_with either_of left right
either-cells z = zips-cells boolean_cell boolean_cell either either_of either_cell z

opposite_cell : (a : Option Bool) → compared is_ne (boolean_cell a) (cell.Boolean true) ≡ opposite_of (boolean_cell a)
opposite_cell (Some true) = refl
opposite_cell (Some false) = refl
opposite_cell None = refl

others : (n : ℕ) (xs : List (Option Bool)) → length (map boolean_cell xs) ≡ n → zip_with (compared is_ne) (map boolean_cell xs) (replicate n (cell.Boolean true)) ≡ map opposite_of (map boolean_cell xs)
others n [] h = refl
others zero (x ∷ xs) h = absurd (omega arith)
others (suc n) (x ∷ xs) h = ap (λ c. c ∷ zip_with (compared is_ne) (map boolean_cell xs) (replicate n (cell.Boolean true))) (opposite_cell x) ∙ ap (λ l. opposite_of (boolean_cell x) ∷ l) (others n xs (omega arith))

operand_count : (rows : ℕ) (o : Operand) → IsOperand rows o → length (operand_cells rows o) ≡ rows
operand_count rows (operand.Lent series) h = h
operand_count rows (operand.Owned made) h = h
operand_count rows (operand.Constant dtype c) h = length-replicate rows c.now

-- what isn't true is the other truth value
pub opposite-cells : (rows : ℕ) (o : Operand) {made : List AnyValue} → IsOperand rows o → Zips boolean_cell boolean_cell (strictly (tested bool_cmp is_ne)) (operand_cells rows o) (replicate rows (cell.Boolean true)) made → made ≡ map opposite_of (operand_cells rows o)
opposite-cells rows o sized z = compared-boolean is_ne z ∙ rw z.is_left (others rows z.a (ap length (sym z.is_left) ∙ operand_count rows o sized))
