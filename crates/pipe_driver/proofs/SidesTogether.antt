-- The branches that begin on one side stand one behind the other.
use Rattle.std.proofs.Common.{◌≡◌, ◌≢◌, ℕ, zero, suc, ◌<◌, Bool, true, false, cond, ◌==◌, ◌||◌, List, [], ◌∷◌, ◌++◌, map, length, inl, inr, refl, ap, sym, subst, ◌∙◌, arith}
use Rattle.std.specs.List.{flat_map, list_any, AllByRecursion}
use Rattle.pipe_plan.specs.Under.{is_under}
use Rattle.pipe_driver.specs.declared.branch.SinkAt.TheVariants as at
use Rattle.pipe_driver.specs.Shape.{Kind, Begins, Each, Unites, Joins, Sorts, is_joining}
use Rattle.pipe_driver.specs.Meaning.{Tree, is_join_at, is_built_under, side_at, tree_of, meaning_of}
use Rattle.pipe_driver.specs.Legs.{Way, ways_of}
use Rattle.pipe_driver.proofs.Paths.{trails, within, are_trails, ways_are, way_of_trail}
use Rattle.pipe_driver.proofs.PlanParts.{there, is_tree}
use Rattle.pipe_driver.proofs.Sides.{join_at, is_join_there, join_inputs, side_cases}
use Rattle.pipe_driver.proofs.Tests.{by_test, eq-is, eq-not, or-case, or-right, or-first, and-both, all-append}
use Rattle.pipe_driver.proofs.Trails.{Trail, closed_by}
use Rattle.pipe_driver.proofs.Trees.{IsTree, IsInput, AreInputs, AreApart, under_inputs}
use Rattle.pipe_driver.specs.Blocks.{is_together, begins_on, SidesStandTogether}
use Rattle.pipe_driver.proofs.Firsts.{starts_in, firsts_by, firsts_are, root_starts}
use Rattle.pipe_driver.proofs.Together.{Passes, FailsTest, none_together, together_then_none, none_then_together, all_together, together_mapped}

-- a source below a node
pub record IsSourceIn (t : Tree) (n k : ℕ) : Type 0 where
  pub under : t.under n k ≡ true
  pub begins : t.kind k ≡ Begins

abbrev AreFirsts : Tree → (ℕ → List ℕ) → Type 0
AreFirsts t firsts = (n : ℕ) → t.under t.root n ≡ true → firsts n ≡ firsts_by firsts n (t.kind n)

module _ (t : Tree) (good : IsTree t) (firsts : ℕ → List ℕ) (are : AreFirsts t firsts) where
  up_all : (i n : ℕ) (ks : List ℕ) → ((k : ℕ) → t.under i k ≡ true → t.under n k ≡ true) → AllByRecursion (IsSourceIn t i) ks → AllByRecursion (IsSourceIn t n) ks
  up_all i n [] up h = tt
  up_all i n (k ∷ ks) up h = (record { under = up k h.0.under; begins = h.0.begins }, up_all i n ks up h.1)

  ups_of : (n : ℕ) (is : List ℕ) → AllByRecursion (IsInput t n) is → AllByRecursion (λ i. (k : ℕ) → t.under i k ≡ true → t.under n k ≡ true) is
  ups_of n [] h = tt
  ups_of n (i ∷ is) h = (h.0.within, ups_of n is h.1)

  roots_of : (n : ℕ) (is : List ℕ) → AllByRecursion (IsInput t n) is → AllByRecursion (λ i. t.under t.root i ≡ true) is
  roots_of n [] h = tt
  roots_of n (i ∷ is) h = (h.0.under, roots_of n is h.1)

  all_known : (P : ℕ → Type 0) (b n : ℕ) (is : List ℕ) → n < suc b → AllByRecursion (IsInput t n) is → ((i : ℕ) → i < b → t.under t.root i ≡ true → P i) → AllByRecursion P is
  all_known P b n [] lt h known = tt
  all_known P b n (i ∷ is) lt h known = ((let l = h.0.lower in known i (omega arith) h.0.under), all_known P b n is lt h.1 known)

  -- ---- the sources of a node are below it

  union_sources : (n : ℕ) (is : List ℕ) → AllByRecursion (λ i. (k : ℕ) → t.under i k ≡ true → t.under n k ≡ true) is → AllByRecursion (λ i. AllByRecursion (IsSourceIn t i) (firsts i)) is → AllByRecursion (IsSourceIn t n) (flat_map firsts is)
  union_sources n [] ups known = tt
  union_sources n (i ∷ is) ups known = all-append (IsSourceIn t n) (firsts i) (flat_map firsts is) (up_all i n (firsts i) ups.0 known.0) (union_sources n is ups.1 known.1)

  sources_by : (b n : ℕ) (x : Kind) → t.kind n ≡ x → n < suc b → t.under t.root n ≡ true → AreInputs t n x → ((i : ℕ) → i < b → t.under t.root i ≡ true → AllByRecursion (IsSourceIn t i) (firsts i)) → AllByRecursion (IsSourceIn t n) (firsts_by firsts n x)
  sources_by b n Begins e lt u inputs known = (record { under = good.self n u; begins = e }, tt)
  sources_by b n (Each i) e lt u inputs known = (let l = inputs.lower in up_all i n (firsts i) inputs.within (known i (omega arith) inputs.under))
  sources_by b n (Unites is) e lt u inputs known = union_sources n is (ups_of n is inputs.0) (all_known (λ i. AllByRecursion (IsSourceIn t i) (firsts i)) b n is lt inputs.0 known)
  sources_by b n (Joins l r) e lt u inputs known =
      let ll = inputs.0.lower in let lr = inputs.1.lower in
      all-append (IsSourceIn t n) (firsts l) (firsts r) (up_all l n (firsts l) inputs.0.within (known l (omega arith) inputs.0.under)) (up_all r n (firsts r) inputs.1.within (known r (omega arith) inputs.1.under))
  sources_by b n (Sorts i) e lt u inputs known = (let l = inputs.lower in up_all i n (firsts i) inputs.within (known i (omega arith) inputs.under))

  sources_in : (b n : ℕ) → n < b → t.under t.root n ≡ true → AllByRecursion (IsSourceIn t n) (firsts n)
  sources_in zero n lt u = absurd (omega arith)
  sources_in (suc b) n lt u = subst (AllByRecursion (IsSourceIn t n)) (sym (are n u)) (sources_by b n (t.kind n) refl lt u (good.inputs n u) (λ i l v. sources_in b i l v))

  pub sources_of : (n : ℕ) → t.under t.root n ≡ true → AllByRecursion (IsSourceIn t n) (firsts n)
  sources_of n u = sources_in (suc n) n (omega arith) u

  -- ---- one side

  module _ (j built probed : ℕ) (in_root : t.under t.root j ≡ true) (kind : t.kind j ≡ Joins built probed) where
    abbrev test : ℕ → Bool
    test k = side_at t j k

    inputs : AreInputs t j (Joins built probed)
    inputs = join_inputs t j built probed good in_root kind

    join : is_join_at t j ≡ true
    join = is_join_there t j built probed in_root kind

    -- a source below the built side is of it
    on_side : (ks : List ℕ) → AllByRecursion (IsSourceIn t built) ks → AllByRecursion (Passes test) ks
    on_side [] h = tt
    on_side (k ∷ ks) h = (
      and-both (is_join_at t j) ((k == j) || is_built_under t.under (t.kind j) k) join (or-right (k == j) (is_built_under t.under (t.kind j) k) (ap (λ x. is_built_under t.under x k) kind ∙ h.0.under)),
      on_side ks h.1,
    )

    -- a source that isn't below it is not
    off_one : (k : ℕ) → t.kind k ≡ Begins → (t.under built k ≡ true → ⊥) → test k ≡ false
    off_one k begins apart =
        by_test (test k ≡ false) (test k)
        (λ e. (
        let c = side_cases t j k e in
        let same : Joins c.0.built c.0.probed ≡ Joins built probed = sym c.0.kind ∙ kind in
        let is : c.0.built ≡ built = cc in
        elim c.1 [
          | inl q ↦ absurd (let f : Begins ≡ Joins built probed = sym begins ∙ ap t.kind q ∙ kind in cc)
          | inr w ↦ absurd (apart (ap (λ b. t.under b k) (sym is) ∙ w))
        ]))
        (λ e. e)

    off_side : (i : ℕ) (ks : List ℕ) → ((k : ℕ) → t.under i k ≡ true → t.under built k ≡ true → ⊥) → AllByRecursion (IsSourceIn t i) ks → AllByRecursion (FailsTest test) ks
    off_side i [] apart h = tt
    off_side i (k ∷ ks) apart h = (off_one k h.0.begins (apart k h.0.under), off_side i ks apart h.1)

    -- what is below the built side is below each node that the join is below
    below_join : (i k : ℕ) → t.under t.root i ≡ true → t.under i j ≡ true → t.under built k ≡ true → t.under i k ≡ true
    below_join i k v u h = good.trans i j k v u (inputs.0.within k h)

    union_none : (i : ℕ) (is : List ℕ) → t.under t.root i ≡ true → t.under i j ≡ true → ((k : ℕ) → t.under i k ≡ true → list_any (λ o. t.under o k) is ≡ true → ⊥) → AllByRecursion (λ o. t.under t.root o ≡ true) is → AllByRecursion (FailsTest test) (flat_map firsts is)
    union_none i [] v u apart roots = tt
    union_none i (o ∷ is) v u apart roots =
        all-append (FailsTest test) (firsts o) (flat_map firsts is)
        (off_side o (firsts o) (λ k a b. apart k (below_join i k v u b) (or-first (t.under o k) (list_any (λ x. t.under x k) is) a)) (sources_of o roots.0))
        (union_none i is v u (λ k a b. apart k a (or-right (t.under o k) (list_any (λ x. t.under x k) is) b)) roots.1)

    any_below : (is : List ℕ) (k : ℕ) → AllByRecursion (λ o. t.under t.root o ≡ true) is → list_any (λ o. t.under o j) is ≡ true → t.under built k ≡ true → list_any (λ o. t.under o k) is ≡ true
    any_below [] k roots some h = some
    any_below (o ∷ is) k roots some h =
        elim (or-case (t.under o j) (list_any (λ x. t.under x j) is) some) [
          | inl e ↦ or-first (t.under o k) (list_any (λ x. t.under x k) is) (below_join o k roots.0 e h)
          | inr e ↦ or-right (t.under o k) (list_any (λ x. t.under x k) is) (any_below is k roots.1 e h)
        ]

    union_together : (is : List ℕ) → AreApart t is → AllByRecursion (λ o. t.under t.root o ≡ true) is → list_any (λ o. t.under o j) is ≡ true → AllByRecursion (λ o. t.under o j ≡ true → is_together test (firsts o) ≡ true) is → is_together test (flat_map firsts is) ≡ true
    union_together [] apart roots some known = absurd (let f : false ≡ true = some in cc)
    union_together (i ∷ is) apart roots some known =
        by_test (is_together test (flat_map firsts (i ∷ is)) ≡ true) (t.under i j)
        (λ e. together_then_none test (firsts i) (flat_map firsts is) (known.0 e) (union_none i is roots.0 e apart.0 roots.1))
        (λ e. (
        let later : list_any (λ o. t.under o j) is ≡ true = sym (ap (λ b. b || list_any (λ o. t.under o j) is) e) ∙ some in
        none_then_together test (firsts i) (flat_map firsts is)
        (off_side i (firsts i) (λ k a b. apart.0 k a (any_below is k roots.1 later b)) (sources_of i roots.0))
        (union_together is apart.1 roots.1 later known.1)))

    -- of a node that the join is below, or of the join itself
    together_by : (b n : ℕ) (x : Kind) → t.kind n ≡ x → n < suc b → t.under t.root n ≡ true → t.under n j ≡ true → n ≢ j → AreInputs t n x → under_inputs t.under x j ≡ true
        → ((i : ℕ) → i < b → t.under t.root i ≡ true → t.under i j ≡ true → is_together test (firsts i) ≡ true) → is_together test (firsts_by firsts n x) ≡ true
    together_by b n Begins e lt u v ne are_inputs below known = absurd (let f : false ≡ true = below in cc)
    together_by b n (Each i) e lt u v ne are_inputs below known = (let l = are_inputs.lower in known i (omega arith) are_inputs.under below)
    together_by b n (Unites is) e lt u v ne are_inputs below known = union_together is are_inputs.1 (roots_of n is are_inputs.0) below (all_known (λ o. t.under o j ≡ true → is_together test (firsts o) ≡ true) b n is lt are_inputs.0 known)
    together_by b n (Joins l r) e lt u v ne are_inputs below known =
        let ll = are_inputs.0.lower in let lr = are_inputs.1.lower in
        by_test (is_together test (firsts l ++ firsts r) ≡ true) (t.under l j)
        (λ q. together_then_none test (firsts l) (firsts r) (known l (omega arith) are_inputs.0.under q) (off_side r (firsts r) (λ k a c. are_inputs.2 k (below_join l k are_inputs.0.under q c) a) (sources_of r are_inputs.1.under)))
        (λ q. (
        let right : t.under r j ≡ true = sym (ap (λ c. c || t.under r j) q) ∙ below in
        none_then_together test (firsts l) (firsts r) (off_side l (firsts l) (λ k a c. are_inputs.2 k a (below_join r k are_inputs.1.under right c)) (sources_of l are_inputs.0.under)) (known r (omega arith) are_inputs.1.under right)))
    together_by b n (Sorts i) e lt u v ne are_inputs below known = (let l = are_inputs.lower in known i (omega arith) are_inputs.under below)

    own : is_together test (firsts j) ≡ true
    own = ap (is_together test) (are j in_root ∙ ap (firsts_by firsts j) kind)
        ∙ together_then_none test (firsts built) (firsts probed) (all_together test (firsts built) (on_side (firsts built) (sources_of built inputs.0.under)))
        (off_side probed (firsts probed) (λ k a b. inputs.2 k b a) (sources_of probed inputs.1.under))

    together_in : (b n : ℕ) → n < b → t.under t.root n ≡ true → t.under n j ≡ true → is_together test (firsts n) ≡ true
    together_in zero n lt u v = absurd (omega arith)
    together_in (suc b) n lt u v =
        by_test (is_together test (firsts n) ≡ true) (n == j)
        (λ e. subst (λ k. is_together test (firsts k) ≡ true) (sym (eq-is n j e)) own)
        (λ e. ap (is_together test) (are n u) ∙ together_by b n (t.kind n) refl lt u v (eq-not n j e) (good.inputs n u)
        (good.parts n j u v (λ q. eq-not n j e (sym q)) (good.joins_run j in_root (ap is_joining kind))) (λ i l w h. together_in b i l w h))

-- ---- of a plan

all_off : (t : Tree) (j : ℕ) (ks : List ℕ) → is_join_at t j ≡ false → AllByRecursion (FailsTest (side_at t j)) ks
all_off t j [] e = tt
all_off t j (k ∷ ks) e = (ap (λ b. cond b ((k == j) || is_built_under t.under (t.kind j) k) false) e, all_off t j ks e)

-- where there is no join, there is no side
no_side : (t : Tree) (j : ℕ) (ks : List ℕ) → is_join_at t j ≡ false → is_together (side_at t j) ks ≡ true
no_side t j ks e = none_together (side_at t j) ks (all_off t j ks e)

stands : (t : Tree) → IsTree t → (firsts : ℕ → List ℕ) → AreFirsts t firsts → (j : ℕ) (b : Bool) → is_join_at t j ≡ b → is_together (side_at t j) (firsts t.root) ≡ true
stands t good firsts are j true e =
    let is = join_at t j e in
    together_in t good firsts are j is.built is.probed is.under is.kind (suc t.root) t.root (omega arith) good.root_under is.under
stands t good firsts are j false e = no_side t j (firsts t.root) e

abbrev way_start : Way → ℕ
way_start p = p.start

ways_start : (ps : List Trail) → map way_start (map way_of_trail ps) ≡ starts_in ps
ways_start [] = refl
ways_start (p ∷ ps) = ap (λ l. p.start ∷ l) (ways_start ps)

pub stand_together : SidesStandTogether
stand_together plan root j good =
    let t = tree_of plan root in
    let tree = is_tree plan root good in
    let inside : (n : ℕ) → is_under plan.nodes root n ≡ true → n < length plan.nodes = λ n u. there plan root n good u in
    let rooted = tree.root_under in
    let ps = trails plan root in
    let closed = map (closed_by at.Ordered (length plan.nodes)) ps in
    let same : ways_of plan root ≡ map way_of_trail closed = ways_are plan root (within plan root root good (there plan root root good rooted) rooted) in
    let firsts : ℕ → List ℕ = λ n. starts_in (trails plan n) in
    ap (is_together (begins_on (meaning_of plan root) j)) same
    ∙ together_mapped (side_at t j) way_start (map way_of_trail closed)
    ∙ ap (is_together (side_at t j)) (ways_start closed ∙ root_starts at.Ordered (length plan.nodes) ps)
    ∙ stands t tree firsts (firsts_are t (trails plan) (are_trails plan root good inside)) j (is_join_at t j) refl
