-- What the code reads of a plan's nodes and of lists of numbers.
use Rattle.std.proofs.Common.{◌≡◌, ℕ, zero, suc, ◌+◌, ◌<◌, Bool, true, false, eqb, ◌||◌, List, [], ◌∷◌, ◌++◌, length, map, take, get_or, refl, ap, sym, ◌∙◌, subst, arith, length-append, Option, Some, None, IfSome, IfNone}
use Rattle.pipe_expr.specs.declared.expr.Expr.{Expr}
use Rattle.pipe_expr.specs.Formula.{Formula, formula_of}
use Rattle.pipe_rules.specs.Conjuncts.{conjuncts_of}
use Rattle.pipe_plan.specs.Node.{Node, node_of}
use Rattle.pipe_plan.specs.Plan.{Plan, plan_of}
use Rattle.pipe_plan.specs.Under.{node_at, is_under}
use Rattle.pipe_plan.specs.Faults.{IsWellFormed}
use Rattle.pipe_plan.specs.declared.arena.Arena.{Arena}
use Rattle.pipe_plan.specs.declared.ir.IR.{IR}
use Rattle.pipe_plan.specs.declared.ir.IR.TheVariants as ir
use Rattle.pipe_check.proofs.Walks.{member, itself}
use Rattle.pipe_rules.specs.Parted.{Parts, part_for}
use Rattle.pipe_rules.specs.Low.{is_filter}
use Rattle.pipe_rules.specs.Grown.{IsRewritten, AreRewritten}
use Rattle.pipe_rules.proofs.Remade.{none-rewritten, next-rewritten}
use Rattle.pipe_rules.proofs.Steps.{there}

pub map-long : {A B : Type 0} (f : A → B) (xs : List A) → length (map f xs) ≡ length xs
map-long f [] = refl
map-long f (x ∷ xs) = ap suc (map-long f xs)

pub in-bounds : (arena : Arena) (root n : ℕ) (slice : List IR) → IsWellFormed (plan_of arena) root → is_under (plan_of arena).nodes root n ≡ true → slice ≡ arena.nodes → n < length slice
in-bounds arena root n slice good under is = (let lt = there (plan_of arena) root good n under in let e = map-long node_of arena.nodes in let f : length slice ≡ length arena.nodes = ap length is in omega arith)

pub read-at : (nodes : List IR) (n : ℕ) (x : IR) → n < length nodes → x ≡ get_or nodes n x → node_at (map node_of nodes) n ≡ node_of x
read-at [] n x lt is = absurd (omega arith)
read-at (y ∷ nodes) zero x lt is = ap node_of (sym is)
read-at (y ∷ nodes) (suc n) x lt is = read-at nodes n x (omega arith) is

pub node-read : (arena : Arena) (n : ℕ) (slice : List IR) (x : IR) → slice ≡ arena.nodes → n < length slice → x ≡ get_or slice n x → node_at (plan_of arena).nodes n ≡ node_of x
node-read arena n slice x same lt is = ap (λ l. node_at (map node_of l) n) (sym same) ∙ read-at slice n x lt is

-- what is no filter
pub not-filter : (x : IR) → ((input : ℕ) (predicate : Expr) → x ≡ ir.Filter input predicate → ⊥) → is_filter (node_of x) ≡ false
not-filter (ir.DataFrameScan a b) h = refl
not-filter (ir.Filter a b) h = absurd (h a b refl)
not-filter (ir.SimpleProjection a b) h = refl
not-filter (ir.Select a b) h = refl
not-filter (ir.HStack a b) h = refl
not-filter (ir.MapFunction a b) h = refl
not-filter (ir.Union a) h = refl
not-filter (ir.Join a b c d e) h = refl
not-filter (ir.Sort a b c) h = refl

-- ---- the inputs

later : (a b : Bool) → b ≡ true → (a || b) ≡ true
later true b e = refl
later false b e = e

pub item-member : (xs : List ℕ) (i d : ℕ) → i < length xs → member (get_or xs i d) xs ≡ true
item-member [] i d lt = absurd (omega arith)
item-member (x ∷ xs) zero d lt = (let e = itself x in rw e refl)
item-member (x ∷ xs) (suc i) d lt = later (eqb x (get_or xs i d)) (member (get_or xs i d) xs) (item-member xs i d (omega arith))

pub item-same : (xs : List ℕ) (i d e : ℕ) → i < length xs → get_or xs i d ≡ get_or xs i e
item-same [] i d e lt = absurd (omega arith)
item-same (x ∷ xs) zero d e lt = refl
item-same (x ∷ xs) (suc i) d e lt = item-same xs i d e (omega arith)

module _ (plan : Plan) (x : Node) (parts : Parts) where
  pub first-none : (old : List Node) (ks : List ℕ) → ks ≡ [] → AreRewritten plan old old x parts [] ks
  first-none old ks is = subst (AreRewritten plan old old x parts []) (sym is) (none-rewritten plan x parts old)

  pub one-next : (old middle new : List Node) (ns ks all : List ℕ) (i n k : ℕ) (share : List Formula) → AreRewritten plan old middle x parts (take i ns) ks → i < length ns → n ≡ get_or ns i 0 → share ≡ part_for x parts n → IsRewritten plan middle new n share k → all ≡ ks ++ k ∷ [] → AreRewritten plan old new x parts (take (i + 1) ns) all
  one-next old middle new ns ks all i n k share before lt is shared one pushed =
      let own = subst (λ l. IsRewritten plan middle new n l k) shared one in
      let here : n ≡ get_or ns i n = is ∙ item-same ns i 0 n lt in
      let next = next-rewritten plan x parts old middle new ns ks i n k before lt here own in
      let more : suc i ≡ i + 1 = omega arith in
      subst (λ m. AreRewritten plan old new x parts (take m ns) all) more (subst (AreRewritten plan old new x parts (take (suc i) ns)) (sym pushed) next)

-- ---- the end of a node

pub one-longer : (xs : List Node) (x : Node) (ys : List Node) → ys ≡ xs ++ x ∷ [] → length ys ≡ suc (length xs)
one-longer xs x ys is = (let e = length-append xs (x ∷ []) in let f : length ys ≡ length (xs ++ x ∷ []) = ap length is in let z : length (x ∷ []) ≡ 1 = refl in omega arith)

-- no conjunct, where there is no predicate
pub none-left : {A B : Type 0} (made : Option A) (conjuncts : List B) → made ≡ None → IfNone made (conjuncts ≡ []) → conjuncts ≡ []
none-left made conjuncts is h = subst (λ m. IfNone m (conjuncts ≡ [])) is h

pub some-left : (made : Option Expr) (predicate : Expr) (all : List Formula) → made ≡ Some predicate → IfSome made (λ p. conjuncts_of (formula_of p) ≡ all) → conjuncts_of (formula_of predicate) ≡ all
some-left made predicate all is h = subst (λ m. IfSome m (λ p. conjuncts_of (formula_of p) ≡ all)) is h

-- what a number is named by another
pub named-as : (p : ℕ → Bool) {a b : ℕ} → a ≡ b → p b ≡ true → p a ≡ true
named-as p is h = ap p is ∙ h

-- what was rewritten behind no other nodes, under no conjuncts
pub begun : (plan : Plan) (old new : List Node) (n root : ℕ) (cs : List Formula) (k : ℕ) → old ≡ [] → n ≡ root → cs ≡ [] → IsRewritten plan old new n cs k → IsRewritten plan [] new root [] k
begun plan old new n root cs k first is none h =
    subst (λ o. IsRewritten plan o new root [] k) first (subst (λ m. IsRewritten plan old new m [] k) is (subst (λ l. IsRewritten plan old new n l k) none h))
