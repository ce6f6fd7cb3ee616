-- The line of a plan has no float.
use Rattle.std.proofs.Common.{◌≡◌, ℕ, ℤ, pos, negsuc, List, [], ◌∷◌, map, Bool, true, false, ◌||◌, Option, Some, None, refl, ap, ap₂, ◌∙◌, ◌^◌, Result, Ok, Err, Vec, Global}
use Rattle.std.specs.Prelude.{nat_lt, if◌then◌else◌, IfOk}
use Rattle.serde_json.specs.Data.{Data, boolean, null, number, string}
use Rattle.serde_json.specs.Find.{of_integer}
use Rattle.serde_json.specs.View.{items_of}
use Rattle.serde_json.specs.Written.{has_float, items_have_float}
use Rattle.pipe_plan.specs.Node.{Node}
use Rattle.pipe_plan.specs.Node as node
use Rattle.pipe_plan.specs.Plan.{Plan}
use Rattle.pipe_plan.specs.Under.{node_at}
use Rattle.pipe_plan.specs.declared.ir.PlanSlice.{PlanSlice}
use Rattle.pipe_parts.specs.Choices.{Choice}
use Rattle.pipe_parts.specs.Parts.{frame_in, gather_nodes}
use Rattle.pipe_parts.specs.declared.wish.Wish.{Wish}
use Rattle.pipe_parts.specs.declared.wish.Wish.TheVariants.{Split, Key, Whole}
use Rattle.pipe_parts.specs.declared.obstacles.Obstacle.{Obstacle}
use Rattle.pipe_job.specs.Line.{line_of}
use Rattle.pipe_job.specs.NodeSpelling.{slice_spelling}
use Rattle.pipe_job.specs.Spelling.{list, maybe, whole}
use Rattle.pipe_parts.specs.PartsLines.{cut_spelling, first_spelling, nodes_spelling, one_spelling, parts_spelling, rows_spelling, scan_spelling}

items_plain : {A : Type 0} (spell : A → Data) → ((x : A) → has_float (spell x) ≡ false) → (xs : List A) → items_have_float (items_of (map spell xs)) ≡ false
items_plain spell plain [] = refl
items_plain spell plain (x ∷ xs) = ap₂ (λ (a b : Bool). a || b) (plain x) (items_plain spell plain xs)

list_plain : {A : Type 0} (spell : A → Data) → ((x : A) → has_float (spell x) ≡ false) → (xs : List A) → has_float (list spell xs) ≡ false
list_plain spell plain xs = items_plain spell plain xs

texts_plain : (xs : List (List ℕ)) → has_float (list string xs) ≡ false
texts_plain xs = list_plain string (λ x. refl) xs

truths_plain : (xs : List Bool) → has_float (list boolean xs) ≡ false
truths_plain xs = list_plain boolean (λ x. refl) xs

integer_plain : (z : ℤ) → has_float (number (of_integer z)) ≡ false
integer_plain (pos n) = refl
integer_plain (negsuc n) = refl

slice_plain : (s : PlanSlice) → has_float (slice_spelling s) ≡ false
slice_plain s = rw (integer_plain s.offset)

maybe_slice_plain : (s : Option PlanSlice) → has_float (maybe slice_spelling s) ≡ false
maybe_slice_plain None = refl
maybe_slice_plain (Some s) = slice_plain s

gather_plain : (x : Node) → has_float (nodes_spelling (gather_nodes x)) ≡ false
gather_plain (node.DataFrameScan frame columns) = refl
gather_plain (node.Filter input predicate) = refl
gather_plain (node.SimpleProjection input columns) = refl
gather_plain (node.Select input exprs) = refl
gather_plain (node.HStack input exprs) = refl
gather_plain (node.MapFunction input function) = refl
gather_plain (node.Union inputs) = refl
gather_plain (node.Join left right left_on right_on options) = refl
gather_plain (node.Sort input by o) = rw (texts_plain by, truths_plain o.descending, truths_plain o.nulls_last, maybe_slice_plain o.slice)

cut_plain : (cut : Wish) (frame scan : ℕ) → has_float (cut_spelling cut frame scan) ≡ false
cut_plain Split frame scan = refl
cut_plain (Key key columns) frame scan = rw (texts_plain columns)
cut_plain Whole frame scan = refl

rows_plain : (rows : ℕ) → has_float (rows_spelling rows) ≡ false
rows_plain rows =
    let split : (b : Bool) → has_float (if b then whole rows else null) ≡ false = elim [
      | true ↦ refl
      | false ↦ refl
    ] in split (nat_lt rows (2 ^ 64))

parts_plain : (plan : Plan) (root : ℕ) (choice : Choice) (rows : ℕ) → has_float (parts_spelling plan root choice rows) ≡ false
parts_plain plan root choice rows =
    rw (gather_plain (node_at plan.nodes root), list_plain (scan_spelling plan) (λ one. cut_plain one.cut (frame_in (node_at plan.nodes one.scan)) one.scan) choice, rows_plain rows)

one_plain : (plan : Plan) (root : ℕ) (scans : Choice) (found : Obstacle) → has_float (one_spelling plan root scans found) ≡ false
one_plain plan root scans found = rw (list_plain (first_spelling plan) (λ one. refl) scans)

pub parts_written : {E : Type 0} (r : Result (Vec ℕ Global) E) (v : Data) (plan : Plan) (root : ℕ) (choice : Choice) (rows : ℕ) → v ≡ parts_spelling plan root choice rows → IfOk r (λ line. has_float v ≡ false → line.items ≡ line_of v) → IfOk r (λ line. line.items ≡ line_of (parts_spelling plan root choice rows))
parts_written (Ok line) v plan root choice rows e h = h (ap has_float e ∙ parts_plain plan root choice rows) ∙ ap line_of e
parts_written (Err x) v plan root choice rows e h = h

pub one_written : {E : Type 0} (r : Result (Vec ℕ Global) E) (v : Data) (plan : Plan) (root : ℕ) (scans : Choice) (found : Obstacle) → v ≡ one_spelling plan root scans found → IfOk r (λ line. has_float v ≡ false → line.items ≡ line_of v) → IfOk r (λ line. line.items ≡ line_of (one_spelling plan root scans found))
one_written (Ok line) v plan root scans found e h = h (ap has_float e ∙ one_plain plan root scans found) ∙ ap line_of e
one_written (Err x) v plan root scans found e h = h
