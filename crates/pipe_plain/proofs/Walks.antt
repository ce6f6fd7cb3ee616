-- A table of the first nodes, made one node at a time, is the walk.
use Rattle.std.proofs.Common.{◌≡◌, ℕ, zero, suc, ◌+◌, ◌<◌, ◌≤◌, Bool, true, false, eqb, get_or, length, List, [], ◌∷◌, ◌++◌, map, refl, ap, sym, ◌∙◌, arith, ◌⊎◌, inl, inr}
use Rattle.std.specs.Prelude.{◌||◌}
use Rattle.std.specs.List.{range_with_len, list_any}
use Rattle.std.proofs.lemmas.Bool.{cases_lt}
use Rattle.std.proofs.lemmas.Bool.Decides.{Decides-eqb}
use Rattle.std.proofs.lemmas.List.{get_or_past, get_or_default, get_or-map}
use Rattle.std.proofs.lemmas.List.FromFn.{get_or-map-range_with_len, length-map-range_with_len, map-range_with_len_more}
use Rattle.pipe_schema.specs.declared.field.Field.{Field}
use Rattle.pipe_schema.specs.Rows.{Row}
use Rattle.pipe_plan.specs.Walk.{walk}
use Rattle.pipe_plan.specs.Under.{node_at, reaches_at, inputs_of}
use Rattle.pipe_plan.specs.Schemas.{node_schema, schema_at}
use Rattle.pipe_plan.specs.PlanRows.{node_rows, rows_at}
use Rattle.pipe_plan.specs.Node.{Node, node_of}
use Rattle.pipe_plan.specs.Node as node
use Rattle.pipe_plan.specs.Plan.{Plan}
use Rattle.pipe_plan.specs.declared.ir.IR.{IR}
use Rattle.pipe_plan.specs.declared.ir.IR.TheVariants as ir
use Rattle.pipe_plain.specs.Tables.{table, at_place}

different : (n m : ℕ) → (n ≡ m → ⊥) → eqb n m ≡ false
different n m h =
    let split : (b : Bool) → eqb n m ≡ b → b ≡ false = elim [ true ↦ λ e. absurd (h ((Decides-eqb n m).0 e)) | false ↦ λ _. refl ]
    in split (eqb n m) refl

-- a walk has nothing at the nodes that it hasn't come to
pub walk-past : {X : Type 0} (none : X) (f : (ℕ → X) → ℕ → X) (k n : ℕ) → k ≤ n → walk none f k n ≡ none
walk-past none f zero n le = refl
walk-past none f (suc k) n le = let e = different n k (λ same. omega arith) in rw e (walk-past none f k n (omega arith))

-- a table tells the walk at every number
pub table-tells : {X : Type 0} (none : X) (f : (ℕ → X) → ℕ → X) (k n : ℕ) → get_or (table none f k) n none ≡ walk none f k n
table-tells none f k n =
    let split : (n < k) ⊎ (k ≤ n) → get_or (table none f k) n none ≡ walk none f k n =
    elim [
      | inl lt ↦ get_or-map-range_with_len (walk none f k) 0 k n n none lt (omega arith)
      | inr le ↦ get_or_past (table none f k) n none (let e = length-map-range_with_len (walk none f k) 0 k in omega arith) ∙ sym (walk-past none f k n le)
    ]
    in split (cases_lt n k)

pub table-walks : {X : Type 0} (none : X) (f : (ℕ → X) → ℕ → X) (k : ℕ) → at_place none (table none f k) ≡ walk none f k
table-walks none f k = λ i. λ n. table-tells none f k n i

map_range : {X : Type 0} (g h : ℕ → X) (a m : ℕ) → ((i : ℕ) → i < a + m → g i ≡ h i) → map g (range_with_len a m) ≡ map h (range_with_len a m)
map_range g h a zero e = refl
map_range g h a (suc m) e = let here = e a (omega arith) in let rest = map_range g h (a + 1) m (λ i lt. e i (omega arith)) in rw (here, rest) refl

-- one node more
pub table-more : {X : Type 0} (none : X) (f : (ℕ → X) → ℕ → X) (k : ℕ) → table none f (k + 1) ≡ table none f k ++ f (walk none f k) k ∷ []
table-more none f k =
    let self : eqb k k ≡ true = (Decides-eqb k k).1 refl in
    let low : map (walk none f (suc k)) (range_with_len 0 k) ≡ table none f k = map_range (walk none f (suc k)) (walk none f k) 0 k (λ i lt. let e = different i k (λ same. omega arith) in rw e refl) in
    let next : k + 1 ≡ suc k = omega arith in
    let all : table none f (k + 1) ≡ map (walk none f (suc k)) (range_with_len 0 k) ++ walk none f (suc k) k ∷ [] = ap (λ j. map (walk none f j) (range_with_len 0 (k + 1))) next ∙ map-range_with_len_more (walk none f (suc k)) 0 k k (omega arith) in
    all ∙ rw (low, self) refl

-- the node that stands at a place
pub node-there : (nodes : List IR) (k : ℕ) (x : IR) → k < length nodes → x ≡ get_or nodes k x → node_of x ≡ node_at (map node_of nodes) k
node-there nodes k x within is =
    let none : IR = ir.Union [] in
    ap node_of (is ∙ get_or_default nodes k x none within) ∙ sym (get_or-map node_of nodes k none (node.Union []) within)

pub schemas-more : (plan : Plan) (k : ℕ) (schemas : List (List Field)) (x : Node) (made : List Field) → schemas ≡ table [] (schema_at plan) k → x ≡ node_at plan.nodes k → made ≡ node_schema plan.frames (at_place [] schemas) x → schemas ++ made ∷ [] ≡ table [] (schema_at plan) (k + 1)
schemas-more plan k schemas x made s n m =
    let below : at_place [] schemas ≡ walk [] (schema_at plan) k = ap (at_place []) s ∙ table-walks [] (schema_at plan) k in
    let here : made ≡ schema_at plan (walk [] (schema_at plan) k) k = m ∙ ap (λ b. node_schema plan.frames b x) below ∙ ap (node_schema plan.frames (walk [] (schema_at plan) k)) n in
    rw (here, s) (sym (table-more [] (schema_at plan) k))

pub rows-more : (plan : Plan) (k : ℕ) (schemas : List (List Field)) (tables : List (List Row)) (x : Node) (made : List Row) → schemas ≡ table [] (schema_at plan) k → tables ≡ table [] (rows_at plan) k → x ≡ node_at plan.nodes k → made ≡ node_rows plan.frames (at_place [] schemas) (at_place [] tables) x → tables ++ made ∷ [] ≡ table [] (rows_at plan) (k + 1)
rows-more plan k schemas tables x made s t n m =
    let fields : at_place [] schemas ≡ walk [] (schema_at plan) k = ap (at_place []) s ∙ table-walks [] (schema_at plan) k in
    let below : at_place [] tables ≡ walk [] (rows_at plan) k = ap (at_place []) t ∙ table-walks [] (rows_at plan) k in
    let here : made ≡ rows_at plan (walk [] (rows_at plan) k) k =
    m ∙ ap (λ b. node_rows plan.frames b (at_place [] tables) x) fields ∙ ap (λ b. node_rows plan.frames (walk [] (schema_at plan) k) b x) below ∙ ap (node_rows plan.frames (walk [] (schema_at plan) k) (walk [] (rows_at plan) k)) n in
    rw (here, t) (sym (table-more [] (rows_at plan) k))

pub under-more : (nodes : List Node) (n k : ℕ) (marks : List Bool) (x : Node) (made : Bool) → marks ≡ table false (reaches_at nodes n) k → x ≡ node_at nodes k → made ≡ (eqb k n || list_any (at_place false marks) (inputs_of x)) → marks ++ made ∷ [] ≡ table false (reaches_at nodes n) (k + 1)
under-more nodes n k marks x made t e m =
    let below : at_place false marks ≡ walk false (reaches_at nodes n) k = ap (at_place false) t ∙ table-walks false (reaches_at nodes n) k in
    let here : made ≡ reaches_at nodes n (walk false (reaches_at nodes n) k) k = m ∙ ap (λ b. eqb k n || list_any b (inputs_of x)) below ∙ ap (λ y. eqb k n || list_any (walk false (reaches_at nodes n) k) (inputs_of y)) e in
    rw (here, t) (sym (table-more false (reaches_at nodes n) k))
