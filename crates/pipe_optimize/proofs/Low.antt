-- The conjuncts of a filter stay where they are while columns are left out.
use Rattle.std.proofs.Common.{◌≡◌, ℕ, Bool, true, false, not, ◌&&◌, List, [], ◌∷◌, refl, ap, ◌∙◌}
use Rattle.std.specs.List.{AllByRecursion, list_all}
use Rattle.pipe_frame.specs.Frame.{Table}
use Rattle.pipe_schema.specs.Schema.{has_name, names_of}
use Rattle.pipe_schema.specs.declared.field.Field.{Field}
use Rattle.pipe_expr.specs.Formula.{Formula, Column, Literal, Add, Sub, Mul, Eq, NotEq, Lt, LtEq, Gt, GtEq, And, Or, Not, IsNull, IsNotNull}
use Rattle.pipe_expr.specs.Types.{columns_in}
use Rattle.pipe_expr.specs.Joins.{Join}
use Rattle.pipe_expr.specs.declared.join_words.JoinType.{JoinType}
use Rattle.pipe_expr.specs.declared.join_words.JoinType.TheVariants as how
use Rattle.pipe_expr.specs.declared.join_words.FunctionIR.TheVariants as function
use Rattle.pipe_plan.specs.Node.{Node}
use Rattle.pipe_plan.specs.Node as node
use Rattle.pipe_plan.specs.Schemas.{join_over, node_schema}
use Rattle.pipe_events.proofs.Lists.{all-append}
use Rattle.pipe_rules.specs.Conjuncts.{conjuncts_of}
use Rattle.pipe_rules.specs.Names.{with_names}
use Rattle.pipe_rules.specs.Placing.{Placing, Above, OnInputs, OnLeft, OnRight, reads_only, on_inputs_if, column_under, is_there, is_plain, plain_name, is_replacing, is_passed_on, is_not_in, right_name, on_left_or, on_right_or, on_left, on_right, below_join}
use Rattle.pipe_rules.specs.Placed.{placing_at}
use Rattle.pipe_rules.proofs.Filters.{all-of, all-left, all-right}
use Rattle.pipe_rules.specs.Low.{is_filter}
use Rattle.pipe_rules.proofs.Renumber.{two}
use Rattle.pipe_rules.specs.Needs.{Names, needed_exprs, columns_read}
use Rattle.pipe_rules.specs.Narrowed.{narrow_node}
use Rattle.pipe_rules.specs.NeedLaws.{IsWanted}
use Rattle.pipe_rules.proofs.Exprs.{expr-kept}
use Rattle.pipe_optimize.specs.Needed.{is_scan}
use Rattle.pipe_optimize.proofs.NameLists.{first-is, or-left}
use Rattle.pipe_optimize.proofs.Cut.{cut-has}
use Rattle.pipe_optimize.proofs.Over.{IsOver, met-true}
use Rattle.pipe_optimize.proofs.Joined.{left-need, sides-left}

all-same : (p q : Names) (names : List (List ℕ)) → AllByRecursion (λ name. p name ≡ q name) names → list_all p names ≡ list_all q names
all-same p q [] h = refl
all-same p q (n ∷ names) h = two (λ a b. a && b) h.0 (all-same p q names h.1)

if-above : (b : Bool) (c below : Formula) → on_inputs_if b c below ≡ Above c → b ≡ false
if-above true c below e = absurd (let no_ : OnInputs below ≡ Above c = e in cc)
if-above false c below e = refl

left-above : (b : Bool) (c : Formula) (other : Placing) → on_left_or b c other ≡ Above c → (b ≡ false) × (other ≡ Above c)
left-above true c other e = absurd (let no_ : OnLeft c ≡ Above c = e in cc)
left-above false c other e = (refl, e)

right-above : (b : Bool) (below c : Formula) → on_right_or b below (Above c) ≡ Above c → b ≡ false
right-above true below c e = absurd (let no_ : OnRight below ≡ Above c = e in cc)
right-above false below c e = refl

-- what a conjunct reads is read by the predicate
pub conjuncts-read : (P : List ℕ → Type 0) (f : Formula) → AllByRecursion P (columns_in f) → AllByRecursion (λ c. AllByRecursion P (columns_in c)) (conjuncts_of f)
conjuncts-read P (Column name) h = (h, tt)
conjuncts-read P (Literal t value) h = (h, tt)
conjuncts-read P (Add left right) h = (h, tt)
conjuncts-read P (Sub left right) h = (h, tt)
conjuncts-read P (Mul left right) h = (h, tt)
conjuncts-read P (Eq left right) h = (h, tt)
conjuncts-read P (NotEq left right) h = (h, tt)
conjuncts-read P (Lt left right) h = (h, tt)
conjuncts-read P (LtEq left right) h = (h, tt)
conjuncts-read P (Gt left right) h = (h, tt)
conjuncts-read P (GtEq left right) h = (h, tt)
conjuncts-read P (And left right) h = all-append (λ c. AllByRecursion P (columns_in c)) (conjuncts_of left) (conjuncts_of right) (conjuncts-read P left (all-left P (columns_in left) (columns_in right) h)) (conjuncts-read P right (all-right P (columns_in left) (columns_in right) h))
conjuncts-read P (Or left right) h = (h, tt)
conjuncts-read P (Not inner) h = (h, tt)
conjuncts-read P (IsNull inner) h = (h, tt)
conjuncts-read P (IsNotNull inner) h = (h, tt)

-- ---- kinds stay

pub filter-narrow : (frames : List Table) (t : ℕ → List Field) (needed : Names) (x : Node) → is_filter (narrow_node frames t needed x) ≡ is_filter x
filter-narrow frames t needed (node.DataFrameScan frame columns) = refl
filter-narrow frames t needed (node.Filter input predicate) = refl
filter-narrow frames t needed (node.SimpleProjection input columns) = refl
filter-narrow frames t needed (node.Select input exprs) = refl
filter-narrow frames t needed (node.HStack input exprs) = refl
filter-narrow frames t needed (node.MapFunction input function) = refl
filter-narrow frames t needed (node.Union inputs) = refl
filter-narrow frames t needed (node.Join left right left_on right_on options) = refl
filter-narrow frames t needed (node.Sort input by options) = refl

pub scan-narrow : (frames : List Table) (t : ℕ → List Field) (needed : Names) (x : Node) → is_scan (narrow_node frames t needed x) ≡ is_scan x
scan-narrow frames t needed (node.DataFrameScan frame columns) = refl
scan-narrow frames t needed (node.Filter input predicate) = refl
scan-narrow frames t needed (node.SimpleProjection input columns) = refl
scan-narrow frames t needed (node.Select input exprs) = refl
scan-narrow frames t needed (node.HStack input exprs) = refl
scan-narrow frames t needed (node.MapFunction input function) = refl
scan-narrow frames t needed (node.Union inputs) = refl
scan-narrow frames t needed (node.Join left right left_on right_on options) = refl
scan-narrow frames t needed (node.Sort input by options) = refl

-- ---- a conjunct on a node

module _ (frames : List Table) (s t : ℕ → List Field) (needed : Names) (needs : ℕ → Names) (c : Formula) where
  abbrev Reads : Node → Type 0
  Reads x = AllByRecursion (IsWanted needed (node_schema frames s x)) (columns_in c)

  below-join : (kind : JoinType) (j k : Join) → ((name : List ℕ) → needed name ≡ true → has_name (names_of k.left) name ≡ has_name (names_of j.left) name) → AllByRecursion (λ name. needed name ≡ true) (columns_in c) → below_join kind j c ≡ Above c → below_join kind k c ≡ Above c
  below-join kind j k same reads =
      let lefts : reads_only (has_name (names_of k.left)) c ≡ reads_only (has_name (names_of j.left)) c = all-same (has_name (names_of k.left)) (has_name (names_of j.left)) (columns_in c) (all-of (λ name. needed name ≡ true) (λ name. has_name (names_of k.left) name ≡ has_name (names_of j.left) name) same (columns_in c) reads) in
      let others : reads_only (is_not_in k.left) c ≡ reads_only (is_not_in j.left) c = all-same (is_not_in k.left) (is_not_in j.left) (columns_in c) (all-of (λ name. needed name ≡ true) (λ name. is_not_in k.left name ≡ is_not_in j.left name) (λ name n. ap not (same name n)) (columns_in c) reads) in
      let one : (other more : Placing) → (other ≡ Above c → more ≡ Above c) → on_left j c other ≡ Above c → on_left k c more ≡ Above c = λ other more f e. (
      let both = left-above (reads_only (has_name (names_of j.left)) c) c other e in
      ap (λ b. on_left_or b c more) (lefts ∙ both.0) ∙ f both.1) in
      let next : on_right j c ≡ Above c → on_right k c ≡ Above c = λ e. ap (λ b. on_right_or b (with_names (right_name k k.right) c) (Above c)) (others ∙ right-above (reads_only (is_not_in j.left) c) (with_names (right_name j j.right) c) c e) in
      let split : (how_ : JoinType) → below_join how_ j c ≡ Above c → below_join how_ k c ≡ Above c = elim [
        | how.Inner ↦ one (on_right j c) (on_right k c) next
        | how.Left ↦ one (Above c) (Above c) (λ e. e)
        | how.Full ↦ λ e. refl
        | how.Cross ↦ one (on_right j c) (on_right k c) next
        | how.Semi ↦ one (Above c) (Above c) (λ e. e)
        | how.Anti ↦ one (Above c) (Above c) (λ e. e)
      ] in split kind

  pub stays-left : (x : Node) → IsOver frames s t needed needs x → Reads x → placing_at s x c ≡ Above c → placing_at t (narrow_node frames t needed x) c ≡ Above c
  stays-left (node.DataFrameScan frame columns) over reads e = refl
  stays-left (node.Filter input predicate) over reads e = e
  stays-left (node.SimpleProjection input columns) over reads e = e
  stays-left (node.Select input exprs) over reads e =
      let some = needed_exprs needed exprs in
      let same : reads_only (is_plain some) c ≡ reads_only (is_plain exprs) c = all-same (is_plain some) (is_plain exprs) (columns_in c) (all-of (IsWanted needed (node_schema frames s (node.Select input exprs))) (λ name. is_plain some name ≡ is_plain exprs name) (λ name w. ap (λ o. is_there (column_under o)) (expr-kept needed exprs name w.wanted)) (columns_in c) reads) in
      ap (λ b. on_inputs_if b c (with_names (plain_name some) c)) (same ∙ if-above (reads_only (is_plain exprs) c) c (with_names (plain_name exprs) c) e)
  stays-left (node.HStack input exprs) over reads e =
      let x = node.HStack input exprs in
      let some = needed_exprs needed exprs in
      let own = first-is input [] in
      let same : reads_only (is_passed_on (t input) some) c ≡ reads_only (is_passed_on (s input) exprs) c = all-same (is_passed_on (t input) some) (is_passed_on (s input) exprs) (columns_in c) (all-of (IsWanted needed (node_schema frames s x)) (λ name. is_passed_on (t input) some name ≡ is_passed_on (s input) exprs name)
      (λ name w. two (λ a b. a && b) (cut-has (needs input) (s input) (t input) (over.cut input own) name (λ has. met-true frames s t needed needs x over input name own has (or-left (needed name) (has_name (columns_read some) name) w.wanted))) (ap (λ o. not (is_replacing o)) (expr-kept needed exprs name w.wanted))) (columns_in c) reads) in
      ap (λ b. on_inputs_if b c c) (same ∙ if-above (reads_only (is_passed_on (s input) exprs) c) c c e)
  stays-left (node.MapFunction input (function.Unpivot on index variable value)) over reads e = e
  stays-left (node.MapFunction input (function.Rename pairs)) over reads e = absurd cc
  stays-left (node.Union inputs) over reads e = e
  stays-left (node.Join left right left_on right_on options) over reads e =
      let j = join_over (s left) (s right) left_on right_on options in
      let k = join_over (t left) (t right) left_on right_on options in
      let sides = sides-left frames s t needed needs left right left_on right_on options over in
      below-join options.how j k (λ name n. cut-has (needs left) (s left) (t left) sides.left name (λ has. left-need j needed (needs left) (needs right) (t left) (t right) sides name has n))
      (all-of (IsWanted needed (node_schema frames s (node.Join left right left_on right_on options))) (λ name. needed name ≡ true) (λ name w. w.wanted) (columns_in c) reads) e
  stays-left (node.Sort input by options) over reads e = e
