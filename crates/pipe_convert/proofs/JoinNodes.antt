-- A join under the root is a node that joins two others.
use Rattle.std.proofs.Common.{◌≡◌, ℕ, zero, suc, ◌+◌, ◌<◌, ◌==◌, Bool, true, false, cond, List, [], ◌∷◌, ◌++◌, length, refl, ap, sym, subst, ◌∙◌, arith, Option, Some, None, get_or}
use Rattle.std.specs.List.{list_all}
use Rattle.std.proofs.lemmas.List.{length_push}
use Rattle.std.specs.declared.alloc.Global.{Global}
use Rattle.std.specs.declared.sync.Arc.{Arc}
use Rattle.pipe_expr.specs.Formula.{Formula}
use Rattle.pipe_plan.specs.Faults.{IsWellFormed}
use Rattle.pipe_plan.specs.Node.{Node}
use Rattle.pipe_plan.specs.Node as node
use Rattle.pipe_plan.specs.Under.{is_under, node_at}
use Rattle.pipe_plan.specs.declared.ir.JoinOptions.{JoinOptions}
use Rattle.pipe_plan.specs.declared.ir.SortOptions.{SortOptions}
use Rattle.pipe_driver.specs.Branches.{is_scan_at}
use Rattle.pipe_table.specs.declared.spec.JoinSpec.{JoinSpec}
use Rattle.pipe_check.specs.Checked.{Checked}
use Rattle.pipe_convert.specs.Converted.{IsNode}
use Rattle.pipe_convert.proofs.Granted.{granted}
use Rattle.pipe_driver.specs.Shape.{kind_of, kind_at, union_kind, is_joining, is_sorting}
use Rattle.pipe_driver.proofs.Tests.{and-cases, and-both, by_test, eq-is, eq-not}
use Rattle.pipe_convert.specs.Joins.{IsSpecOf, IsSomeSpecOf, IsOfJoin, AreSpecs, spec_or_none, spec_at}
use Rattle.pipe_convert.specs.Nodes.{IsUnder, plan_in, nodes_in, meaning_in}

-- a node that joins two others
pub record IsJoinNode (plan : Checked) (n : ℕ) : Type 0 where
  pub left : ℕ
  pub right : ℕ
  pub left_on : List Formula
  pub right_on : List Formula
  pub options : JoinOptions
  pub at_n : IsNode plan n (node.Join left right left_on right_on options)

no_union : (b : Bool) (is : List ℕ) → is_joining (union_kind b is) ≡ false
no_union true is = refl
no_union false is = refl

joins_two : (plan : Checked) (n : ℕ) (x : Node) → IsUnder plan n → node_at (nodes_in plan) n ≡ x → is_joining (kind_of (nodes_in plan) x) ≡ true → IsJoinNode plan n
joins_two plan n (node.DataFrameScan frame columns) u is h = absurd (let f : false ≡ true = h in cc)
joins_two plan n (node.Filter k predicate) u is h = absurd (let f : false ≡ true = h in cc)
joins_two plan n (node.SimpleProjection k columns) u is h = absurd (let f : false ≡ true = h in cc)
joins_two plan n (node.Select k exprs) u is h = absurd (let f : false ≡ true = h in cc)
joins_two plan n (node.HStack k exprs) u is h = absurd (let f : false ≡ true = h in cc)
joins_two plan n (node.MapFunction k function) u is h = absurd (let f : false ≡ true = h in cc)
joins_two plan n (node.Union is) u same h = absurd (let f : false ≡ true = sym (no_union (list_all (is_scan_at (nodes_in plan)) is) is) ∙ h in cc)
joins_two plan n (node.Join l r left_on right_on options) u is h = record { left = l; right = r; left_on = left_on; right_on = right_on; options = options; at_n = record { under = u; is = is } }
joins_two plan n (node.Sort k by options) u is h = absurd (let f : false ≡ true = h in cc)

pub join_node : (plan : Checked) (n : ℕ) → (meaning_in plan).is_join n ≡ true → IsJoinNode plan n
join_node plan n h =
    let c = and-cases (is_under (nodes_in plan) plan.root n) (is_joining (kind_at (nodes_in plan) n)) h in
    joins_two plan n (node_at (nodes_in plan) n) c.0 refl c.1

-- and the other way round
pub joins : (plan : Checked) (n left right : ℕ) (left_on right_on : List Formula) (options : JoinOptions) → IsNode plan n (node.Join left right left_on right_on options) → (meaning_in plan).is_join n ≡ true
joins plan n left right left_on right_on options at_n =
    and-both (is_under (nodes_in plan) plan.root n) (is_joining (kind_at (nodes_in plan) n)) at_n.under (ap (λ x. is_joining (kind_of (nodes_in plan) x)) at_n.is)

-- a node that sorts another is a sort
pub sorts : (plan : Checked) (n input : ℕ) (by : List (List ℕ)) (options : SortOptions) → IsNode plan n (node.Sort input by options) → (meaning_in plan).is_sort n ≡ true
sorts plan n input by options at_n =
    and-both (is_under (nodes_in plan) plan.root n) (is_sorting (kind_at (nodes_in plan) n)) at_n.under (ap (λ x. is_sorting (kind_of (nodes_in plan) x)) at_n.is)

union_sorts : (b : Bool) (is : List ℕ) → is_sorting (union_kind b is) ≡ false
union_sorts true is = refl
union_sorts false is = refl

-- a node of another kind is no sort
pub not_sorting : (plan : Checked) (n : ℕ) (x : Node) → node_at (nodes_in plan) n ≡ x → is_sorting (kind_of (nodes_in plan) x) ≡ false → (meaning_in plan).is_sort n ≡ true → ⊥
not_sorting plan n x is no_sort h =
    let c = and-cases (is_under (nodes_in plan) plan.root n) (is_sorting (kind_at (nodes_in plan) n)) h in
    let f : true ≡ false = sym c.1 ∙ ap (λ y. is_sorting (kind_of (nodes_in plan) y)) is ∙ no_sort in cc

pub union_not_sorting : (plan : Checked) (is : List ℕ) → is_sorting (kind_of (nodes_in plan) (node.Union is)) ≡ false
union_not_sorting plan is = union_sorts (list_all (is_scan_at (nodes_in plan)) is) is

pub under_sort : (plan : Checked) (n : ℕ) → (meaning_in plan).is_sort n ≡ true → IsUnder plan n
under_sort plan n h = (and-cases (is_under (nodes_in plan) plan.root n) (is_sorting (kind_at (nodes_in plan) n)) h).0

pub under_join : (plan : Checked) (n : ℕ) → (meaning_in plan).is_join n ≡ true → IsUnder plan n
under_join plan n h = (and-cases (is_under (nodes_in plan) plan.root n) (is_joining (kind_at (nodes_in plan) n)) h).0

-- a node that is no join
pub no_join : (plan : Checked) (n : ℕ) → is_joining (kind_at (nodes_in plan) n) ≡ false → (meaning_in plan).is_join n ≡ false
no_join plan n h =
    let split : (b : Bool) → cond b (is_joining (kind_at (nodes_in plan) n)) false ≡ false = elim [ true ↦ h | false ↦ refl ] in
    split (is_under (nodes_in plan) plan.root n)

pub no_union_join : (plan : Checked) (n : ℕ) (is : List ℕ) → node_at (nodes_in plan) n ≡ node.Union is → is_joining (kind_at (nodes_in plan) n) ≡ false
no_union_join plan n is same = ap (λ x. is_joining (kind_of (nodes_in plan) x)) same ∙ no_union (list_all (is_scan_at (nodes_in plan)) is) is

-- ---- the spec in a list

pub same_at : {A : Type 0} (xs : List A) (i : ℕ) (a b : A) → i < length xs → get_or xs i a ≡ get_or xs i b
same_at [] i a b lt = absurd (omega arith)
same_at (x ∷ xs) zero a b lt = refl
same_at (x ∷ xs) (suc i) a b lt = same_at xs i a b (omega arith)

get_behind : {A : Type 0} (xs : List A) (x d : A) → get_or (xs ++ x ∷ []) (length xs) d ≡ x
get_behind [] x d = refl
get_behind (y ∷ xs) x d = get_behind xs x d

get_front : {A : Type 0} (xs ys : List A) (i : ℕ) (d : A) → i < length xs → get_or (xs ++ ys) i d ≡ get_or xs i d
get_front [] ys i d lt = absurd (omega arith)
get_front (x ∷ xs) ys zero d lt = refl
get_front (x ∷ xs) ys (suc i) d lt = get_front xs ys i d (omega arith)

pub spec_there : (plan : Checked) (specs : List (Option (Arc JoinSpec Global))) (n : ℕ) → IsWellFormed (plan_in plan) plan.root → AreSpecs plan specs → (meaning_in plan).is_join n ≡ true → n < length specs
spec_there plan specs n good are join =
    let low = (granted (plan_in plan) plan.root n (node_at (nodes_in plan) n) good (under_join plan n join) refl).there in
    let same = are.sized in omega arith

-- what stands at a join's number is the join's spec
pub spec_found : (plan : Checked) (specs : List (Option (Arc JoinSpec Global))) (n : ℕ) (found : Option (Arc JoinSpec Global)) → IsWellFormed (plan_in plan) plan.root → AreSpecs plan specs → (meaning_in plan).is_join n ≡ true → found ≡ get_or specs n found → IsSomeSpecOf plan n found × (spec_or_none found ≡ spec_at specs n)
spec_found plan specs n found good are join is =
    let same : found ≡ get_or specs n None = is ∙ same_at specs n found None (spec_there plan specs n good are join) in
    (rw same (are.each n join), ap spec_or_none same)

pub some_spec : (plan : Checked) (n : ℕ) (found : Option (Arc JoinSpec Global)) → IsSomeSpecOf plan n found → found ≡ None → ⊥
some_spec plan n None h e = h
some_spec plan n (Some spec) h e = let f : Some spec ≡ None = e in cc

pub spec_of_some : (plan : Checked) (specs : List (Option (Arc JoinSpec Global))) (n : ℕ) (found : Option (Arc JoinSpec Global)) (spec : Arc JoinSpec Global) → found ≡ Some spec → IsSomeSpecOf plan n found × (spec_or_none found ≡ spec_at specs n) → IsSpecOf plan n spec.value × (spec.value ≡ spec_at specs n)
spec_of_some plan specs n found spec e h = rw e at h

-- ---- specs by number

-- no spec of a node that isn't under the root
pub not_under : (plan : Checked) (n : ℕ) → is_under (nodes_in plan) plan.root n ≡ false → IsOfJoin plan n None
not_under plan n out join = let f : true ≡ false = sym (under_join plan n join) ∙ out in cc

pub sized_next : {A : Type 0} (n : ℕ) (old new : List A) (x : A) → new ≡ old ++ x ∷ [] → length old ≡ n → length new ≡ n + 1
sized_next n old new x is sized = ap length is ∙ length_push old x ∙ ap (λ m. m + 1) sized

pub specs_next : (plan : Checked) (n : ℕ) (old new : List (Option (Arc JoinSpec Global))) (o : Option (Arc JoinSpec Global)) → new ≡ old ++ o ∷ [] → length old ≡ n → IsOfJoin plan n o → ((k : ℕ) → k < n → IsOfJoin plan k (get_or old k None)) → (k : ℕ) → k < n + 1 → IsOfJoin plan k (get_or new k None)
specs_next plan n old new o is sized here known k lt =
    by_test (IsOfJoin plan k (get_or new k None)) (k == n)
    (λ e. (
    let same = eq-is k n e in
    let found : get_or new k None ≡ o = ap (λ l. get_or l k None) is ∙ ap (λ m. get_or (old ++ o ∷ []) m None) (same ∙ sym sized) ∙ get_behind old o None in
    subst (λ x. IsOfJoin plan k x) (sym found) (subst (λ m. IsOfJoin plan m o) (sym same) here)))
    (λ e. (
    let ne = eq-not k n e in
    let low : k < n = omega arith in
    let found : get_or new k None ≡ get_or old k None = ap (λ l. get_or l k None) is ∙ get_front old (o ∷ []) k None (omega arith) in
    subst (λ x. IsOfJoin plan k x) (sym found) (known k low)))

pub specs_done : (plan : Checked) (n : ℕ) (specs : List (Option (Arc JoinSpec Global))) → IsWellFormed (plan_in plan) plan.root → n ≡ length (nodes_in plan) → length specs ≡ n → ((k : ℕ) → k < n → IsOfJoin plan k (get_or specs k None)) → AreSpecs plan specs
specs_done plan n specs good all sized known = record {
  sized = sized ∙ all;
  each = λ k join. (
      let low = (granted (plan_in plan) plan.root k (node_at (nodes_in plan) k) good (under_join plan k join) refl).there in
      known k (omega arith) join);
}
