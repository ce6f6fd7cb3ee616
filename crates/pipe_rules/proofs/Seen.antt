-- The schemas over which the conjuncts of a node are placed.
use Rattle.std.proofs.Common.{◌≡◌, ℕ, true, false, eqb, List, [], ◌∷◌, ◌++◌, map, refl, ap, sym, ◌∙◌, append-nil, append_assoc}
use Rattle.std.specs.Prelude.{◌||◌}
use Rattle.std.specs.List.{flat_map}
use Rattle.pipe_schema.specs.declared.field.Field.{Field}
use Rattle.pipe_expr.specs.Formula.{Formula}
use Rattle.pipe_expr.specs.declared.join_words.FunctionIR.TheVariants as function
use Rattle.pipe_plan.specs.Node.{Node}
use Rattle.pipe_plan.specs.Node as node
use Rattle.pipe_plan.specs.Plan.{Plan}
use Rattle.pipe_plan.specs.Under.{node_at, inputs_of, is_under}
use Rattle.pipe_plan.specs.Faults.{IsWellFormed}
use Rattle.pipe_check.proofs.Walks.{member, itself}
use Rattle.pipe_rules.specs.Placing.{Placing, placing}
use Rattle.pipe_rules.specs.Placed.{placing_at}
use Rattle.pipe_rules.proofs.Placed.{map-push}
use Rattle.pipe_rules.specs.Parted.{Parts, parts_of, above_in, inputs_in, left_in, right_in, parted, one_more}
use Rattle.pipe_rules.specs.Renumbered.{first_or, second_or}
use Rattle.pipe_rules.proofs.Granted.{granted}

seen : (schema : ℕ → List Field) (n : ℕ) (x : Node) (c : Formula) → placing (schema (first_or n (inputs_of x))) (schema (second_or n (inputs_of x))) x c ≡ placing_at schema x c
seen schema n (node.DataFrameScan frame columns) c = refl
seen schema n (node.Filter input predicate) c = refl
seen schema n (node.SimpleProjection input columns) c = refl
seen schema n (node.Select input exprs) c = refl
seen schema n (node.HStack input exprs) c = refl
seen schema n (node.MapFunction input (function.Unpivot on index variable value)) c = refl
seen schema n (node.MapFunction input (function.Rename pairs)) c = refl
seen schema n (node.Union inputs) c = refl
seen schema n (node.Join left right left_on right_on options) c = refl
seen schema n (node.Sort input by options) c = refl

map-all : {A B : Type 0} (f g : A → B) (xs : List A) → ((x : A) → f x ≡ g x) → map f xs ≡ map g xs
map-all f g [] h = refl
map-all f g (x ∷ xs) h = ap (λ b. b ∷ map f xs) (h x) ∙ ap (λ l. g x ∷ l) (map-all f g xs h)

pub all-seen : (schema : ℕ → List Field) (n : ℕ) (x : Node) (cs : List Formula) (inputs : List ℕ) (left right : List Field) → inputs ≡ inputs_of x → left ≡ schema (first_or n inputs) → right ≡ schema (second_or n inputs) → parts_of (map (placing left right x) cs) ≡ parted schema x cs
all-seen schema n x cs inputs left right is l r =
    ap (λ f. parts_of (map (placing f right x) cs)) (l ∙ ap (λ is. schema (first_or n is)) is)
    ∙ ap (λ f. parts_of (map (placing (schema (first_or n (inputs_of x))) f x) cs)) (r ∙ ap (λ is. schema (second_or n is)) is)
    ∙ ap parts_of (map-all (placing (schema (first_or n (inputs_of x))) (schema (second_or n (inputs_of x))) x) (placing_at schema x) cs (seen schema n x))

first-is : (i : ℕ) (is : List ℕ) → member i (i ∷ is) ≡ true
first-is i is = let self : eqb i i ≡ true = itself i in rw self refl

next-is : (h i : ℕ) (is : List ℕ) → member i is ≡ true → member i (h ∷ is) ≡ true
next-is h i is e = elim (eqb h i) as (λ b. (b || member i is) ≡ true) [ true ↦ refl | false ↦ e ]

-- a number that is a node's or an input's
one-of : (P : ℕ → Type 0) (n : ℕ) (is : List ℕ) → P n → ((i : ℕ) → member i is ≡ true → P i) → P (first_or n is)
one-of P n [] own h = own
one-of P n (i ∷ is) own h = h i (first-is i is)

other-of : (P : ℕ → Type 0) (n : ℕ) (is : List ℕ) → P n → ((i : ℕ) → member i is ≡ true → P i) → P (second_or n is)
other-of P n [] own h = own
other-of P n (i ∷ is) own h = one-of P i is (h i (first-is i is)) (λ k m. h k (next-is i k is m))

module _ (plan : Plan) (root n : ℕ) (good : IsWellFormed plan root) (under : is_under plan.nodes root n ≡ true) where
  abbrev IsUnder : ℕ → Type 0
  IsUnder i = is_under plan.nodes root i ≡ true

  pub input-under : (inputs : List ℕ) (x : Node) → node_at plan.nodes n ≡ x → inputs ≡ inputs_of x → (i : ℕ) → member i inputs ≡ true → IsUnder i
  input-under inputs x at is i m = ((granted plan root n good under).fed i (ap (member i) (ap inputs_of at ∙ sym is) ∙ m)).1

  pub first-under : (inputs : List ℕ) (x : Node) → node_at plan.nodes n ≡ x → inputs ≡ inputs_of x → IsUnder (first_or n inputs)
  first-under inputs x at is = one-of IsUnder n inputs under (input-under inputs x at is)

  pub second-under : (inputs : List ℕ) (x : Node) → node_at plan.nodes n ≡ x → inputs ≡ inputs_of x → IsUnder (second_or n inputs)
  second-under inputs x at is = other-of IsUnder n inputs under (input-under inputs x at is)

-- ---- one more conjunct

flat-push : {A B : Type 0} (f : A → List B) (xs : List A) (x : A) → flat_map f (xs ++ x ∷ []) ≡ flat_map f xs ++ f x
flat-push f [] x = append-nil (f x)
flat-push f (y ∷ xs) x = ap (λ l. f y ++ l) (flat-push f xs x) ∙ sym (append_assoc (f y) (flat_map f xs) (f x))

parts-push : (ps : List Placing) (p : Placing) → parts_of (ps ++ p ∷ []) ≡ one_more (parts_of ps) p
parts-push ps p =
    let make : List Formula → List Formula → List Formula → List Formula → Parts = λ a b c d. record { above = a; inputs = b; left = c; right = d } in
    let all = ps ++ p ∷ [] in
    let old = parts_of ps in
    ap (λ a. make a (flat_map inputs_in all) (flat_map left_in all) (flat_map right_in all)) (flat-push above_in ps p)
    ∙ ap (λ b. make (old.above ++ above_in p) b (flat_map left_in all) (flat_map right_in all)) (flat-push inputs_in ps p)
    ∙ ap (λ c. make (old.above ++ above_in p) (old.inputs ++ inputs_in p) c (flat_map right_in all)) (flat-push left_in ps p)
    ∙ ap (λ d. make (old.above ++ above_in p) (old.inputs ++ inputs_in p) (old.left ++ left_in p) d) (flat-push right_in ps p)

pub next-parted : {A : Type 0} (f : A → Placing) (yielded : List A) (x : A) (old new : Parts) → old ≡ parts_of (map f yielded) → new ≡ one_more old (f x) → new ≡ parts_of (map f (yielded ++ x ∷ []))
next-parted f yielded x old new so_far more =
    more
    ∙ ap (λ q. one_more q (f x)) so_far
    ∙ sym (parts-push (map f yielded) (f x))
    ∙ ap parts_of (sym (map-push f yielded x))
