-- Comparing cells is comparing the values in them.
use Rattle.std.proofs.Common.{◌≡◌, Bool, List, Some, None, refl}
use Rattle.std.specs.Ordering.{nat_cmp, int_cmp, bool_cmp}
use Rattle.std.specs.Cmp.Lexicographic.{slice_cmp}
use Rattle.std.specs.declared.cmp.Ordering.{Ordering}
use Rattle.pipe_schema.specs.Cell.{int32_cell, int64_cell, uint32_cell, uint64_cell, boolean_cell, string_cell, binary_cell, int128_cell}
use Rattle.pipe_schema.specs.declared.any_value.AnyValue.{AnyValue}
use Rattle.pipe_expr.specs.Values.{compared}
use Rattle.pipe_expr.specs.Nullables.{zip_with, strictly, tested}
use Rattle.pipe_expr.specs.Operands.{Zips}
use Rattle.pipe_expr.proofs.Zips.{zips-cells}

pub compared-int32 : (test : Ordering → Bool) {left right made : List AnyValue} → Zips int32_cell boolean_cell (strictly (tested int_cmp test)) left right made → made ≡ zip_with (compared test) left right
compared-int32 test z = zips-cells int32_cell boolean_cell (strictly (tested int_cmp test)) (compared test) (elim [ Some a ↦ elim [ Some b ↦ refl | None ↦ refl ] | None ↦ elim [ Some b ↦ refl | None ↦ refl ] ]) z

pub compared-int64 : (test : Ordering → Bool) {left right made : List AnyValue} → Zips int64_cell boolean_cell (strictly (tested int_cmp test)) left right made → made ≡ zip_with (compared test) left right
compared-int64 test z = zips-cells int64_cell boolean_cell (strictly (tested int_cmp test)) (compared test) (elim [ Some a ↦ elim [ Some b ↦ refl | None ↦ refl ] | None ↦ elim [ Some b ↦ refl | None ↦ refl ] ]) z

pub compared-int128 : (test : Ordering → Bool) {left right made : List AnyValue} → Zips int128_cell boolean_cell (strictly (tested int_cmp test)) left right made → made ≡ zip_with (compared test) left right
compared-int128 test z = zips-cells int128_cell boolean_cell (strictly (tested int_cmp test)) (compared test) (elim [ Some a ↦ elim [ Some b ↦ refl | None ↦ refl ] | None ↦ elim [ Some b ↦ refl | None ↦ refl ] ]) z

pub compared-uint32 : (test : Ordering → Bool) {left right made : List AnyValue} → Zips uint32_cell boolean_cell (strictly (tested nat_cmp test)) left right made → made ≡ zip_with (compared test) left right
compared-uint32 test z = zips-cells uint32_cell boolean_cell (strictly (tested nat_cmp test)) (compared test) (elim [ Some a ↦ elim [ Some b ↦ refl | None ↦ refl ] | None ↦ elim [ Some b ↦ refl | None ↦ refl ] ]) z

pub compared-uint64 : (test : Ordering → Bool) {left right made : List AnyValue} → Zips uint64_cell boolean_cell (strictly (tested nat_cmp test)) left right made → made ≡ zip_with (compared test) left right
compared-uint64 test z = zips-cells uint64_cell boolean_cell (strictly (tested nat_cmp test)) (compared test) (elim [ Some a ↦ elim [ Some b ↦ refl | None ↦ refl ] | None ↦ elim [ Some b ↦ refl | None ↦ refl ] ]) z

pub compared-boolean : (test : Ordering → Bool) {left right made : List AnyValue} → Zips boolean_cell boolean_cell (strictly (tested bool_cmp test)) left right made → made ≡ zip_with (compared test) left right
compared-boolean test z = zips-cells boolean_cell boolean_cell (strictly (tested bool_cmp test)) (compared test) (elim [ Some a ↦ elim [ Some b ↦ refl | None ↦ refl ] | None ↦ elim [ Some b ↦ refl | None ↦ refl ] ]) z

pub compared-string : (test : Ordering → Bool) {left right made : List AnyValue} → Zips string_cell boolean_cell (strictly (tested (slice_cmp nat_cmp) test)) left right made → made ≡ zip_with (compared test) left right
compared-string test z = zips-cells string_cell boolean_cell (strictly (tested (slice_cmp nat_cmp) test)) (compared test) (elim [ Some a ↦ elim [ Some b ↦ refl | None ↦ refl ] | None ↦ elim [ Some b ↦ refl | None ↦ refl ] ]) z

pub compared-binary : (test : Ordering → Bool) {left right made : List AnyValue} → Zips binary_cell boolean_cell (strictly (tested (slice_cmp nat_cmp) test)) left right made → made ≡ zip_with (compared test) left right
compared-binary test z = zips-cells binary_cell boolean_cell (strictly (tested (slice_cmp nat_cmp) test)) (compared test) (elim [ Some a ↦ elim [ Some b ↦ refl | None ↦ refl ] | None ↦ elim [ Some b ↦ refl | None ↦ refl ] ]) z
