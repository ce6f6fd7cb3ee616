-- Conjuncts are truth values where they go.
use Rattle.std.proofs.Common.{◌≡◌, ℕ, Bool, true, false, cond, eqb, List, [], ◌∷◌, ◌++◌, Option, Some, None, is_some, map, refl, ap, sym, ◌∙◌, subst}
use Rattle.std.specs.Prelude.{◌&&◌}
use Rattle.std.specs.List.{AllByRecursion, flat_map}
use Rattle.std.proofs.lemmas.Bool.Decides.{Decides-eqb}
use Rattle.pipe_schema.specs.Cell.{eq_dtype}
use Rattle.pipe_frame.specs.Frame.{Table}
use Rattle.pipe_schema.specs.Rows.{Row}
use Rattle.pipe_schema.specs.Schema.{has_name, names_of}
use Rattle.pipe_schema.specs.declared.data_type.DataType.{DataType}
use Rattle.pipe_schema.specs.declared.data_type.DataType.TheVariants as dtype
use Rattle.pipe_schema.specs.declared.field.Field.{Field}
use Rattle.pipe_expr.specs.Formula.{Formula, Column, Literal, Add, Sub, Mul, Eq, NotEq, Lt, LtEq, Gt, GtEq, And, Or, Not, IsNull, IsNotNull}
use Rattle.pipe_expr.specs.Types.{type_of, logic_type}
use Rattle.pipe_expr.proofs.Known.{typed_known}
use Rattle.pipe_expr.specs.Joins.{Join}
use Rattle.pipe_expr.specs.declared.join_words.FunctionIR.{FunctionIR}
use Rattle.pipe_expr.specs.declared.join_words.FunctionIR.TheVariants as function
use Rattle.pipe_expr.specs.declared.join_words.JoinType.{JoinType}
use Rattle.pipe_expr.specs.declared.join_words.JoinType.TheVariants as how
use Rattle.pipe_plan.specs.Node.{Node}
use Rattle.pipe_plan.specs.Node as node
use Rattle.pipe_plan.specs.declared.ir.PlanSlice.{PlanSlice}
use Rattle.pipe_plan.specs.Under.{inputs_of}
use Rattle.pipe_plan.specs.Schemas.{node_schema, join_over}
use Rattle.pipe_events.proofs.Lists.{all-append, all-map, all-flat}
use Rattle.pipe_events.proofs.Rows.{same-dtype}
use Rattle.pipe_rules.specs.Conjuncts.{conjuncts_of, all_conjuncts}
use Rattle.pipe_rules.specs.Names.{with_names}
use Rattle.pipe_rules.specs.Placing.{Placing, Above, OnInputs, OnLeft, OnRight, placing, reads_only, on_inputs_if, is_plain, plain_name, is_passed_on, old_name, below_function, is_not_in, right_name, on_left_or, on_right_or, on_right, below_join, below_slice}
use Rattle.pipe_rules.specs.Placed.{first_input, second_input, placing_at, is_input, IsReady, HasTypeOf}
use Rattle.pipe_rules.proofs.Filters.{all-of}
use Rattle.pipe_rules.proofs.TypesDown.{types-down}
use Rattle.pipe_rules.specs.FilterLaws.{IsKnown, IsPredicate}
use Rattle.pipe_rules.specs.Low.{is_and, Stays, IsConjunct}
use Rattle.pipe_rules.specs.Parted.{above_in, inputs_in, left_in, right_in, is_join, part_for, parted}

pub predicate-known : (s : List Field) (c : Formula) → IsPredicate s c → IsKnown s c
predicate-known s c e = typed_known c s (ap is_some e)

pub conjuncts-known : (s : List Field) (cs : List Formula) → AllByRecursion (IsConjunct s) cs → AllByRecursion (IsKnown s) cs
conjuncts-known s cs h = all-of (IsConjunct s) (IsKnown s) (λ c e. predicate-known s c e.typed) cs h

and-types : (a b : Option DataType) → logic_type a b ≡ Some dtype.Boolean → (a ≡ Some dtype.Boolean) × (b ≡ Some dtype.Boolean)
and-types None b e = cc
and-types (Some a) None e = cc
and-types (Some a) (Some b) e =
    let split : (p q : Bool) → eq_dtype a dtype.Boolean ≡ p → eq_dtype b dtype.Boolean ≡ q → cond (p && q) (Some dtype.Boolean) None ≡ Some dtype.Boolean → (Some a ≡ Some dtype.Boolean) × (Some b ≡ Some dtype.Boolean) = elim [
      | true ↦ elim [
        | true ↦ λ f g _. (ap Some (same-dtype a dtype.Boolean f), ap Some (same-dtype b dtype.Boolean g))
        | false ↦ λ f g h. cc
      ]
      | false ↦ λ q f g h. cc
    ]
    in split (eq_dtype a dtype.Boolean) (eq_dtype b dtype.Boolean) refl refl e

-- the conjuncts of a predicate are truth values
pub conjuncts-typed : (s : List Field) (p : Formula) → IsPredicate s p → AllByRecursion (IsConjunct s) (conjuncts_of p)
conjuncts-typed s (And a b) e =
    let both = and-types (type_of a s) (type_of b s) e in
    all-append (IsConjunct s) (conjuncts_of a) (conjuncts_of b) (conjuncts-typed s a both.0) (conjuncts-typed s b both.1)
conjuncts-typed s (Column name) e = (record { typed = e; single = refl }, tt)
conjuncts-typed s (Literal t value) e = (record { typed = e; single = refl }, tt)
conjuncts-typed s (Add a b) e = (record { typed = e; single = refl }, tt)
conjuncts-typed s (Sub a b) e = (record { typed = e; single = refl }, tt)
conjuncts-typed s (Mul a b) e = (record { typed = e; single = refl }, tt)
conjuncts-typed s (Eq a b) e = (record { typed = e; single = refl }, tt)
conjuncts-typed s (NotEq a b) e = (record { typed = e; single = refl }, tt)
conjuncts-typed s (Lt a b) e = (record { typed = e; single = refl }, tt)
conjuncts-typed s (LtEq a b) e = (record { typed = e; single = refl }, tt)
conjuncts-typed s (Gt a b) e = (record { typed = e; single = refl }, tt)
conjuncts-typed s (GtEq a b) e = (record { typed = e; single = refl }, tt)
conjuncts-typed s (Or a b) e = (record { typed = e; single = refl }, tt)
conjuncts-typed s (Not a) e = (record { typed = e; single = refl }, tt)
conjuncts-typed s (IsNull a) e = (record { typed = e; single = refl }, tt)
conjuncts-typed s (IsNotNull a) e = (record { typed = e; single = refl }, tt)

all-first : {X : Type 0} (P : X → Type 0) (a b : List X) → AllByRecursion P (a ++ b) → AllByRecursion P a
all-first P [] b h = tt
all-first P (x ∷ a) b h = (h.0, all-first P a b h.1)

all-second : {X : Type 0} (P : X → Type 0) (a b : List X) → AllByRecursion P (a ++ b) → AllByRecursion P b
all-second P [] b h = h
all-second P (x ∷ a) b h = all-second P a b h.1

-- what is joined of truth values is one
pub whole-typed : (s : List Field) (p : Formula) → AllByRecursion (IsConjunct s) (conjuncts_of p) → IsPredicate s p
whole-typed s (And a b) h =
    let first = whole-typed s a (all-first (IsConjunct s) (conjuncts_of a) (conjuncts_of b) h) in
    let second = whole-typed s b (all-second (IsConjunct s) (conjuncts_of a) (conjuncts_of b) h) in
    ap (λ t. logic_type t (type_of b s)) first ∙ ap (logic_type (Some dtype.Boolean)) second
whole-typed s (Column name) h = h.0.typed
whole-typed s (Literal t value) h = h.0.typed
whole-typed s (Add a b) h = h.0.typed
whole-typed s (Sub a b) h = h.0.typed
whole-typed s (Mul a b) h = h.0.typed
whole-typed s (Eq a b) h = h.0.typed
whole-typed s (NotEq a b) h = h.0.typed
whole-typed s (Lt a b) h = h.0.typed
whole-typed s (LtEq a b) h = h.0.typed
whole-typed s (Gt a b) h = h.0.typed
whole-typed s (GtEq a b) h = h.0.typed
whole-typed s (Or a b) h = h.0.typed
whole-typed s (Not a) h = h.0.typed
whole-typed s (IsNull a) h = h.0.typed
whole-typed s (IsNotNull a) h = h.0.typed

-- a conjunct alone
alone : (f : Formula) → is_and f ≡ false → conjuncts_of f ≡ f ∷ []
alone (And a b) e = absurd (let no_ : true ≡ false = e in cc)
alone (Column name) e = refl
alone (Literal t value) e = refl
alone (Add a b) e = refl
alone (Sub a b) e = refl
alone (Mul a b) e = refl
alone (Eq a b) e = refl
alone (NotEq a b) e = refl
alone (Lt a b) e = refl
alone (LtEq a b) e = refl
alone (Gt a b) e = refl
alone (GtEq a b) e = refl
alone (Or a b) e = refl
alone (Not a) e = refl
alone (IsNull a) e = refl
alone (IsNotNull a) e = refl

-- of some conjuncts each is its only part
pub all-alone : (P : Formula → Type 0) (fs : List Formula) → AllByRecursion (λ f. is_and f ≡ false) fs → AllByRecursion P fs → AllByRecursion P (all_conjuncts fs)
all-alone P [] single h = tt
all-alone P (f ∷ fs) single h = subst (λ l. AllByRecursion P (l ++ all_conjuncts fs)) (sym (alone f single.0)) (h.0, all-alone P fs single.1 h.1)

-- ---- what is placed is a conjunct as well

renamed-and : (h : List ℕ → List ℕ) (f : Formula) → is_and (with_names h f) ≡ is_and f
renamed-and h (And a b) = refl
renamed-and h (Column name) = refl
renamed-and h (Literal t value) = refl
renamed-and h (Add a b) = refl
renamed-and h (Sub a b) = refl
renamed-and h (Mul a b) = refl
renamed-and h (Eq a b) = refl
renamed-and h (NotEq a b) = refl
renamed-and h (Lt a b) = refl
renamed-and h (LtEq a b) = refl
renamed-and h (Gt a b) = refl
renamed-and h (GtEq a b) = refl
renamed-and h (Or a b) = refl
renamed-and h (Not a) = refl
renamed-and h (IsNull a) = refl
renamed-and h (IsNotNull a) = refl

abbrev formula_in : Placing → Formula
formula_in (Above f) = f
formula_in (OnInputs f) = f
formula_in (OnLeft f) = f
formula_in (OnRight f) = f

if-and : (b : Bool) (c below : Formula) → is_and below ≡ is_and c → is_and (formula_in (on_inputs_if b c below)) ≡ is_and c
if-and true c below e = e
if-and false c below e = refl

left-and : (b : Bool) (c : Formula) (other : Placing) → is_and (formula_in other) ≡ is_and c → is_and (formula_in (on_left_or b c other)) ≡ is_and c
left-and true c other e = refl
left-and false c other e = e

right-and : (b : Bool) (c below : Formula) → is_and below ≡ is_and c → is_and (formula_in (on_right_or b below (Above c))) ≡ is_and c
right-and true c below e = e
right-and false c below e = refl

join-and : (how : JoinType) (j : Join) (c : Formula) → is_and (formula_in (below_join how j c)) ≡ is_and c
join-and how.Inner j c = left-and (reads_only (has_name (names_of j.left)) c) c (on_right j c) (right-and (reads_only (is_not_in j.left) c) c (with_names (right_name j j.right) c) (renamed-and (right_name j j.right) c))
join-and how.Cross j c = left-and (reads_only (has_name (names_of j.left)) c) c (on_right j c) (right-and (reads_only (is_not_in j.left) c) c (with_names (right_name j j.right) c) (renamed-and (right_name j j.right) c))
join-and how.Left j c = left-and (reads_only (has_name (names_of j.left)) c) c (Above c) refl
join-and how.Semi j c = left-and (reads_only (has_name (names_of j.left)) c) c (Above c) refl
join-and how.Anti j c = left-and (reads_only (has_name (names_of j.left)) c) c (Above c) refl
join-and how.Full j c = refl

slice-and : (slice : Option PlanSlice) (c : Formula) → is_and (formula_in (below_slice slice c)) ≡ is_and c
slice-and None c = refl
slice-and (Some slice) c = refl

function-and : (s : List Field) (function : FunctionIR) (c : Formula) → is_and (formula_in (below_function s function c)) ≡ is_and c
function-and s (function.Unpivot on index variable value) c = if-and (reads_only (has_name index) c) c c refl
function-and s (function.Rename pairs) c = renamed-and (old_name pairs s) c

placed-and : (s t : List Field) (x : Node) (c : Formula) → is_and (formula_in (placing s t x c)) ≡ is_and c
placed-and s t (node.DataFrameScan frame columns) c = refl
placed-and s t (node.Filter input predicate) c = refl
placed-and s t (node.SimpleProjection input columns) c = refl
placed-and s t (node.Select input exprs) c = if-and (reads_only (is_plain exprs) c) c (with_names (plain_name exprs) c) (renamed-and (plain_name exprs) c)
placed-and s t (node.HStack input exprs) c = if-and (reads_only (is_passed_on s exprs) c) c c refl
placed-and s t (node.MapFunction input function) c = function-and s function c
placed-and s t (node.Union inputs) c = refl
placed-and s t (node.Join left right left_on right_on options) c = join-and options.how (join_over s t left_on right_on options) c
placed-and s t (node.Sort input by options) c = slice-and options.slice c

-- a conjunct that stays above a node
pub record IsKept (out : List Field) (schema : ℕ → List Field) (x : Node) (f : Formula) : Type 0 where
  pub conjunct : IsConjunct out f
  pub stays : Stays schema x f

module _ (frames : List Table) (schema : ℕ → List Field) (rows : ℕ → List Row) (x : Node) (ready : IsReady frames schema rows x) where
  abbrev Out : List Field
  Out = node_schema frames schema x

  abbrev Kept : Formula → Type 0
  Kept = IsKept Out schema x

  abbrev Fine : Placing → Type 0
  Fine (Above f) = Kept f
  Fine (OnInputs f) = (i : ℕ) → is_input x i ≡ true → IsConjunct (schema i) f
  Fine (OnLeft f) = IsConjunct (schema (first_input (inputs_of x))) f
  Fine (OnRight f) = IsConjunct (schema (second_input (inputs_of x))) f

  fine-by : (c : Formula) (p : Placing) → placing_at schema x c ≡ p → IsConjunct Out c → is_and (formula_in p) ≡ is_and c → HasTypeOf frames schema x c p → Fine p
  fine-by c (Above f) at e same h = record { conjunct = subst (IsConjunct Out) (sym h) e; stays = ap (placing_at schema x) h ∙ at }
  fine-by c (OnInputs f) at e same h = λ i m. record { typed = h i m ∙ e.typed; single = same ∙ e.single }
  fine-by c (OnLeft f) at e same h = record { typed = h ∙ e.typed; single = same ∙ e.single }
  fine-by c (OnRight f) at e same h = record { typed = h ∙ e.typed; single = same ∙ e.single }

  fine : (c : Formula) → IsConjunct Out c → Fine (placing_at schema x c)
  fine c e = fine-by c (placing_at schema x c) refl e (placed-and (schema (first_input (inputs_of x))) (schema (second_input (inputs_of x))) x c) (types-down frames schema rows x c ready (predicate-known Out c e.typed))

  all-fine : (cs : List Formula) → AllByRecursion (IsConjunct Out) cs → AllByRecursion Fine (map (placing_at schema x) cs)
  all-fine cs h = all-map (IsConjunct Out) Fine (placing_at schema x) fine cs h

  from-above : (p : Placing) → Fine p → AllByRecursion Kept (above_in p)
  from-above (Above f) h = (h, tt)
  from-above (OnInputs f) h = tt
  from-above (OnLeft f) h = tt
  from-above (OnRight f) h = tt

  pub above-kept : (cs : List Formula) → AllByRecursion (IsConjunct Out) cs → AllByRecursion (IsKept Out schema x) (parted schema x cs).above
  above-kept cs h = all-flat Fine Kept above_in from-above (map (placing_at schema x) cs) (all-fine cs h)

  from-inputs : (i : ℕ) → is_input x i ≡ true → (p : Placing) → Fine p → AllByRecursion (IsConjunct (schema i)) (inputs_in p)
  from-inputs i m (Above f) h = tt
  from-inputs i m (OnInputs f) h = (h i m, tt)
  from-inputs i m (OnLeft f) h = tt
  from-inputs i m (OnRight f) h = tt

  from-left : (p : Placing) → Fine p → AllByRecursion (IsConjunct (schema (first_input (inputs_of x)))) (left_in p)
  from-left (Above f) h = tt
  from-left (OnInputs f) h = tt
  from-left (OnLeft f) h = (h, tt)
  from-left (OnRight f) h = tt

  from-right : (p : Placing) → Fine p → AllByRecursion (IsConjunct (schema (second_input (inputs_of x)))) (right_in p)
  from-right (Above f) h = tt
  from-right (OnInputs f) h = tt
  from-right (OnLeft f) h = tt
  from-right (OnRight f) h = (h, tt)

  pub part-typed : (cs : List Formula) → AllByRecursion (IsConjunct Out) cs → (i : ℕ) → is_input x i ≡ true → AllByRecursion (IsConjunct (schema i)) (part_for x (parted schema x cs) i)
  part-typed cs h i m =
      let ps = map (placing_at schema x) cs in
      let fines = all-fine cs h in
      let l = first_input (inputs_of x) in
      let r = second_input (inputs_of x) in
      let split : (a b c : Bool) → eqb i l ≡ b → eqb i r ≡ c → AllByRecursion (IsConjunct (schema i)) (cond a (cond b (flat_map left_in ps) (cond c (flat_map right_in ps) [])) (flat_map inputs_in ps)) = elim [
        | true ↦ elim [
          | true ↦ λ c e f. subst (λ k. AllByRecursion (IsConjunct (schema k)) (flat_map left_in ps)) (sym ((Decides-eqb i l).0 e)) (all-flat Fine (IsConjunct (schema l)) left_in from-left ps fines)
          | false ↦ elim [
            | true ↦ λ e f. subst (λ k. AllByRecursion (IsConjunct (schema k)) (flat_map right_in ps)) (sym ((Decides-eqb i r).0 f)) (all-flat Fine (IsConjunct (schema r)) right_in from-right ps fines)
            | false ↦ λ e f. tt
          ]
        ]
        | false ↦ λ b c e f. all-flat Fine (IsConjunct (schema i)) inputs_in (from-inputs i m) ps fines
      ]
      in split (is_join x) (eqb i l) (eqb i r) refl refl
