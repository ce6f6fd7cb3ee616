-- What operators owe by law: what an idle operator owes for a frame is what becomes of its rows.
use Rattle.std.proofs.Common.{◌≡◌, Bool, true, false, List, [], ◌∷◌, refl, ap, subst}
use Rattle.std.specs.List.{flat_map}
use Rattle.pipe_frame.specs.Frame.{Table}
use Rattle.pipe_schema.specs.Rows.{Row, Same}
use Rattle.pipe_schema.proofs.Weights.{Same-from_bag, SameBag-from_equal}
use Rattle.pipe_ops.specs.Each.{passed_row}
use Rattle.pipe_ops.specs.Pieces.{all_of}

pub same-equal : {a b : List Row} → a ≡ b → Same a b
same-equal e = Same-from_bag (SameBag-from_equal e)

-- no flush is due where none ever is
abbrev IsFalse : Bool → Type 0
IsFalse true = ⊥
IsFalse false = Unit {0}

pub never_due : {P : Type 0} → false ≡ true → P
never_due h = absurd (subst IsFalse h tt)

-- each row passes
passed-all : (rows : List Row) → rows ≡ flat_map passed_row rows
passed-all [] = refl
passed-all (row ∷ rows) = ap (λ l. row ∷ l) (passed-all rows)

pub pass_owes : (frame : Table) → Same frame.rows (all_of passed_row frame)
pass_owes frame = same-equal (passed-all frame.rows)
