-- The choices for a node, by those for its inputs.
use Rattle.std.proofs.Common.{◌≡◌, ℕ, zero, suc, ◌-◌, ◌<◌, ◌≤◌, Bool, true, false, eqb, ◌||◌, List, [], ◌∷◌, ◌++◌, map, length, drop, take, get_or, append-nil, append_assoc, Option, Some, None, refl, ap, sym, subst, ◌∙◌, arith, ◌⊎◌, inl, inr}
use Rattle.std.specs.Prelude.{Result, Ok, Err, IfOk, slice_index_or}
use Rattle.std.specs.Option.{option_to_list}
use Rattle.std.specs.List.{AllByRecursion, flat_map}
use Rattle.pipe_schema.specs.Schema.{has_name, names_of}
use Rattle.pipe_schema.specs.declared.field.Field.{Field}
use Rattle.pipe_expr.specs.Formula.{Formula}
use Rattle.pipe_plan.specs.declared.ir.JoinOptions.{JoinOptions}
use Rattle.pipe_plan.specs.declared.ir.SortOptions.{SortOptions}
use Rattle.pipe_plan.specs.Node.{Node}
use Rattle.pipe_plan.specs.Node as node
use Rattle.pipe_plan.specs.Plan.{Plan}
use Rattle.pipe_plan.specs.Under.{node_at, inputs_of, is_under}
use Rattle.pipe_plan.specs.Schemas.{schemas_to, schema_of}
use Rattle.pipe_plan.specs.Faults.{IsWellFormed}
use Rattle.pipe_check.proofs.Walks.{member, itself, walk-at, walk-below, schema-below}
use Rattle.pipe_events.proofs.Lists.{all-append}
use Rattle.pipe_rules.specs.Placed.{first_input}
use Rattle.pipe_rules.proofs.Filters.{all-left, all-right}
use Rattle.pipe_parts.proofs.Granted.{granted}
use Rattle.pipe_parts.specs.Wishes.{ways, alone, alike, name_if, name_before, columns_below, key_by, wishes_below, join_ways, slice_ways}
use Rattle.pipe_parts.specs.Choices.{Choice, IsIn, before_each, in_pairs, choices_for, node_choices, choices_at, no_choice, choices_to, choices_of}
use Rattle.pipe_parts.specs.Parts.{frame_in}
use Rattle.pipe_parts.specs.declared.wish.Wish.{Wish}
use Rattle.pipe_parts.specs.declared.wish.Wish.TheVariants.{Key}
use Rattle.pipe_parts.proofs.Asked.{in-append, in-map, in-flat}
use Rattle.pipe_parts.proofs.Plans.{ways-agree}
use Rattle.pipe_parts.specs.declared.found.Found.{Found}
use Rattle.pipe_parts.specs.Least.{IsNoLess, IsBest}
use Rattle.pipe_parts.specs.declared.keys.Sides.{Sides}
use Rattle.pipe_parts.specs.Sides.{AreFed, AreOneKey, IsKeyedBy, IsLeftOf, sides_in}
use Rattle.pipe_parts.proofs.Best.{pairs-nil, in-left, in-right, in-paired}

flat-same : {X Y : Type 0} (f g : X → List Y) (xs : List X) → ((x : X) → f x ≡ g x) → flat_map f xs ≡ flat_map g xs
flat-same f g [] h = refl
flat-same f g (x ∷ xs) h = ap (λ l. l ++ flat_map f xs) (h x) ∙ ap (λ l. g x ++ l) (flat-same f g xs h)

pub first-member : (i : ℕ) (is : List ℕ) → member i (i ∷ is) ≡ true
first-member i is = let e = itself i in rw e refl

pub later-member : (i k : ℕ) (is : List ℕ) → member k is ≡ true → member k (i ∷ is) ≡ true
later-member i k is m = elim (eqb i k) as (λ t. (t || member k is) ≡ true) [ true ↦ refl | false ↦ m ]

module _ (a b : ℕ → Wish → List Choice) where
  for-agree : (is : List ℕ) → ((i : ℕ) → member i is ≡ true → (w : Wish) → a i w ≡ b i w) → (ws : List Wish) → choices_for a is ws ≡ choices_for b is ws
  for-agree [] h [] = refl
  for-agree [] h (w ∷ ws) = refl
  for-agree (i ∷ is) h [] = refl
  for-agree (i ∷ is) h (w ∷ ws) =
      ap (λ l. in_pairs l (choices_for a is ws)) (h i (first-member i is) w)
      ∙ ap (in_pairs (b i w)) (for-agree is (λ k m. h k (later-member i k is m)) ws)

  node-agree : (n : ℕ) (x : Node) (asked : List (List Wish)) (wish : Wish) → ((i : ℕ) → member i (inputs_of x) ≡ true → (w : Wish) → a i w ≡ b i w) → node_choices a n x asked wish ≡ node_choices b n x asked wish
  node-agree n (node.DataFrameScan frame columns) asked wish h = refl
  node-agree n (node.Filter input predicate) asked wish h = flat-same (choices_for a (input ∷ [])) (choices_for b (input ∷ [])) asked (for-agree (input ∷ []) h)
  node-agree n (node.SimpleProjection input columns) asked wish h = flat-same (choices_for a (input ∷ [])) (choices_for b (input ∷ [])) asked (for-agree (input ∷ []) h)
  node-agree n (node.Select input exprs) asked wish h = flat-same (choices_for a (input ∷ [])) (choices_for b (input ∷ [])) asked (for-agree (input ∷ []) h)
  node-agree n (node.HStack input exprs) asked wish h = flat-same (choices_for a (input ∷ [])) (choices_for b (input ∷ [])) asked (for-agree (input ∷ []) h)
  node-agree n (node.MapFunction input function) asked wish h = flat-same (choices_for a (input ∷ [])) (choices_for b (input ∷ [])) asked (for-agree (input ∷ []) h)
  node-agree n (node.Union inputs) asked wish h = flat-same (choices_for a inputs) (choices_for b inputs) asked (for-agree inputs h)
  node-agree n (node.Join left right left_on right_on options) asked wish h = flat-same (choices_for a (left ∷ right ∷ [])) (choices_for b (left ∷ right ∷ [])) asked (for-agree (left ∷ right ∷ []) h)
  node-agree n (node.Sort input by options) asked wish h = flat-same (choices_for a (input ∷ [])) (choices_for b (input ∷ [])) asked (for-agree (input ∷ []) h)

-- the choices for a node, over those for its inputs
pub own : (plan : Plan) (root : ℕ) → IsWellFormed plan root → (n : ℕ) → is_under plan.nodes root n ≡ true → (x : Node) → node_at plan.nodes n ≡ x → (wish : Wish) → choices_of plan n wish ≡ node_choices (choices_of plan) n x (ways (schema_of plan (first_input (inputs_of x))) n x wish) wish
own plan root good n under x at wish =
    let y = node_at plan.nodes n in
    let g = granted plan root n good under in
    let there = g.there in
    let low = choices_to plan n in
    ap (λ f. f wish) (walk-at no_choice (choices_at plan) (length plan.nodes) n there)
    ∙ ap (λ asked. node_choices low n y asked wish) (ways-agree (schemas_to plan n) (schema_of plan) n y wish (λ i m. schema-below plan n i (g.fed i m).0 there))
    ∙ node-agree low (choices_of plan) n y (ways (schema_of plan (first_input (inputs_of y))) n y wish) wish (λ i m w. (let below = (g.fed i m).0 in ap (λ f. f w) (walk-below no_choice (choices_at plan) n (length plan.nodes) i below (omega arith))))
    ∙ ap (λ z. node_choices (choices_of plan) n z (ways (schema_of plan (first_input (inputs_of z))) n z wish) wish) at

-- the inputs of a node
members-fed : (plan : Plan) (root n : ℕ) (is : List ℕ) → ((i : ℕ) → member i is ≡ true → (i < n) × (is_under plan.nodes root i ≡ true)) → AreFed plan root n is
members-fed plan root n [] h = tt
members-fed plan root n (i ∷ is) h = (h i (first-member i is), members-fed plan root n is (λ k m. h k (later-member i k is m)))

pub fed : (plan : Plan) (root : ℕ) → IsWellFormed plan root → (n : ℕ) → is_under plan.nodes root n ≡ true → (x : Node) → node_at plan.nodes n ≡ x → AreFed plan root n (inputs_of x)
fed plan root good n under x at = subst (λ y. AreFed plan root n (inputs_of y)) at (members-fed plan root n (inputs_of (node_at plan.nodes n)) (granted plan root n good under).fed)

-- ---- a pair of first choices with either of two lists

map-append : {X Y : Type 0} (f : X → Y) (a b : List X) → map f (a ++ b) ≡ map f a ++ map f b
map-append f [] b = refl
map-append f (x ∷ a) b = ap (λ l. f x ∷ l) (map-append f a b)

all-spread : (P : Choice → Type 0) (xs ys zs : List Choice) → AllByRecursion P (in_pairs xs (ys ++ zs)) → AllByRecursion P (in_pairs xs ys) × AllByRecursion P (in_pairs xs zs)
all-spread P [] ys zs h = (tt, tt)
all-spread P (x ∷ xs) ys zs h =
    let put : Choice → Choice = λ c. x ++ c in
    let first = subst (AllByRecursion P) (map-append put ys zs) (all-left P (map put (ys ++ zs)) (in_pairs xs (ys ++ zs)) h) in
    let rest = all-spread P xs ys zs (all-right P (map put (ys ++ zs)) (in_pairs xs (ys ++ zs)) h) in
    (all-append P (map put ys) (in_pairs xs ys) (all-left P (map put ys) (map put zs) first) rest.0, all-append P (map put zs) (in_pairs xs zs) (all-right P (map put ys) (map put zs) first) rest.1)

none-of : (l : List Choice) → AllByRecursion (λ c. ⊥) l → l ≡ []
none-of [] h = refl
none-of (x ∷ l) h = absurd h.0

spread-in : (c : Choice) (xs ys zs : List Choice) → IsIn c (in_pairs xs (ys ++ zs)) → IsIn c (in_pairs xs ys ++ in_pairs xs zs)
spread-in c xs ys zs h =
    let first = in-flat (before_each (ys ++ zs)) xs c h in
    let x : Choice = first.0 in
    let later = in-map (λ d. x ++ d) (ys ++ zs) c first.2 in
    let d : Choice = later.0 in
    let split : IsIn d ys ⊎ IsIn d zs → IsIn c (in_pairs xs ys ++ in_pairs xs zs) = elim [
      | inl k ↦ in-left c (in_pairs xs ys) (in_pairs xs zs) (subst (λ e. IsIn e (in_pairs xs ys)) later.2 (in-paired x d xs ys first.1 k))
      | inr k ↦ in-right c (in_pairs xs ys) (in_pairs xs zs) (subst (λ e. IsIn e (in_pairs xs zs)) later.2 (in-paired x d xs zs first.1 k))
    ] in split (in-append d ys zs later.1)

flat-take : {A B : Type 0} (f : A → List B) (xs : List A) (i : ℕ) (d : A) → i < length xs → flat_map f (take i xs) ++ f (get_or xs i d) ≡ flat_map f (take (suc i) xs)
flat-take f [] i d h = absurd (omega arith)
flat-take f (x ∷ xs) zero d h = sym (append-nil (f x))
flat-take f (x ∷ xs) (suc i) d h = append_assoc (f x) (flat_map f (take i xs)) (f (get_or xs i d)) ∙ ap (λ l. f x ++ l) (flat-take f xs i d (omega arith))

flat-mapped : {A B D : Type 0} (f : B → List D) (g : A → B) (xs : List A) → flat_map f (map g xs) ≡ flat_map (λ x. f (g x)) xs
flat-mapped f g [] = refl
flat-mapped f g (x ∷ xs) = ap (λ l. f (g x) ++ l) (flat-mapped f g xs)

drop-step : (xs : List ℕ) (i d : ℕ) → i < length xs → drop i xs ≡ get_or xs i d ∷ drop (suc i) xs
drop-step [] i d h = absurd (omega arith)
drop-step (x ∷ xs) zero d h = refl
drop-step (x ∷ xs) (suc i) d h = drop-step xs i d (omega arith)

drop-all : {A : Type 0} (xs : List A) → drop (length xs) xs ≡ []
drop-all [] = refl
drop-all (x ∷ xs) = drop-all xs

module _ (plan : Plan) (sizes : List ℕ) (C : ℕ → Wish → List Choice) where
  abbrev Best : List Choice → Option Found → Type 0
  Best = IsBest plan sizes

  -- one input, one wish
  pub one-for : (i : ℕ) (w : Wish) → flat_map (choices_for C (i ∷ [])) (alone w ∷ []) ≡ C i w
  one-for i w = append-nil (in_pairs (C i w) ([] ∷ [])) ∙ pairs-nil (C i w)

  pub one-below : (i : ℕ) (found : Option Found) (w : Wish) (ws : List Wish) → w ∷ [] ≡ ws → Best (C i w) found → Best (flat_map (choices_for C (i ∷ [])) (map alone ws)) found
  one-below i found w ws e h = subst (λ l. Best (flat_map (choices_for C (i ∷ [])) (map alone l)) found) e (subst (λ l. Best l found) (sym (one-for i w)) h)

  pub none-below : (i : ℕ) (ws : List Wish) → [] ≡ ws → Best (flat_map (choices_for C (i ∷ [])) (map alone ws)) None
  none-below i ws e = sym (ap (λ l. flat_map (choices_for C (i ∷ [])) (map alone l)) e)

  -- two inputs
  pub pair-for : (l r : ℕ) (v w : Wish) → choices_for C (l ∷ r ∷ []) (v ∷ w ∷ []) ≡ in_pairs (C l v) (C r w)
  pair-for l r v w = ap (in_pairs (C l v)) (pairs-nil (C r w))

  -- one way
  pub one-way : (l r : ℕ) (found : Option Found) (v w : Wish) → Best (in_pairs (C l v) (C r w)) found → Best (flat_map (choices_for C (l ∷ r ∷ [])) ((v ∷ w ∷ []) ∷ [])) found
  one-way l r found v w h = subst (λ k. Best k found) (sym (append-nil (choices_for C (l ∷ r ∷ []) (v ∷ w ∷ [])) ∙ pair-for l r v w)) h

  pub spread : (found : Option Found) (xs ys zs : List Choice) → Best (in_pairs xs (ys ++ zs)) found → Best (in_pairs xs ys ++ in_pairs xs zs) found
  spread None xs ys zs h =
      let both = all-spread (λ c. ⊥) xs ys zs (subst (AllByRecursion (λ c. ⊥)) (sym h) tt) in
      ap (λ l. l ++ in_pairs xs zs) (none-of (in_pairs xs ys) both.0) ∙ none-of (in_pairs xs zs) both.1
  spread (Some f) xs ys zs h = record {
    allowed = spread-in f.cuts xs ys zs h.allowed;
    whole = h.whole;
    least = (let both = all-spread (IsNoLess plan sizes f.whole) xs ys zs h.least in all-append (IsNoLess plan sizes f.whole) (in_pairs xs ys) (in_pairs xs zs) both.0 both.1);
  }

  -- a left side by one key, with either of two wishes of the right
  pub two-ways : (l r : ℕ) (found : Option Found) (v w : Wish) (way : Sides) → way.left ≡ v → Best (in_pairs (C l v) (C r w ++ C r way.right)) found → Best (flat_map (choices_for C (l ∷ r ∷ [])) ((v ∷ w ∷ []) ∷ sides_in way ∷ [])) found
  two-ways l r found v w way is h =
      let apart = spread found (C l v) (C r w) (C r way.right) h in
      let other : in_pairs (C l v) (C r way.right) ≡ choices_for C (l ∷ r ∷ []) (sides_in way) = ap (λ u. in_pairs (C l u) (C r way.right)) (sym is) ∙ sym (pair-for l r way.left way.right) in
      subst (λ k. Best k found)
      (ap (λ k. k ++ in_pairs (C l v) (C r way.right)) (sym (pair-for l r v w))
      ∙ ap (λ k. choices_for C (l ∷ r ∷ []) (v ∷ w ∷ []) ++ k) (other ∙ sym (append-nil (choices_for C (l ∷ r ∷ []) (sides_in way))))) apart

  -- one more way of a join
  pub next-way : (l r : ℕ) (found : Option Found) (ws : List Sides) (i : ℕ) (way : Sides) → i < length ws → way ≡ get_or ws i way → Best (flat_map (choices_for C (l ∷ r ∷ [])) (map sides_in (take i ws)) ++ in_pairs (C l way.left) (C r way.right)) found → Best (flat_map (choices_for C (l ∷ r ∷ [])) (map sides_in (take (suc i) ws))) found
  next-way l r found ws i way lt is h =
      let F : List Wish → List Choice = choices_for C (l ∷ r ∷ []) in
      let f : Sides → List Choice = λ s. F (sides_in s) in
      subst (λ k. Best k found)
      (ap (λ k. flat_map F (map sides_in (take i ws)) ++ k) (sym (pair-for l r way.left way.right))
      ∙ ap (λ k. k ++ f way) (flat-mapped F sides_in (take i ws))
      ∙ ap (λ s. flat_map f (take i ws) ++ f s) is
      ∙ flat-take f ws i way lt
      ∙ sym (flat-mapped F sides_in (take (suc i) ws))) h

  -- one more input of a union, from the end
  pub next-input : (wish : Wish) (found : Option Found) (is : List ℕ) (place d : ℕ) → 0 < place → place ≤ length is → Best (in_pairs (C (get_or is (place - 1) d) wish) (choices_for C (drop place is) (alike wish (drop place is)))) found → Best (choices_for C (drop (place - 1) is) (alike wish (drop (place - 1) is))) found
  next-input wish found is place d some le h =
      let back : suc (place - 1) ≡ place = omega arith in
      let step : drop (place - 1) is ≡ get_or is (place - 1) d ∷ drop place is = drop-step is (place - 1) d (omega arith) ∙ ap (λ k. get_or is (place - 1) d ∷ drop k is) back in
      subst (λ l. Best (choices_for C l (alike wish l)) found) (sym step) h

  pub no-input : (wish : Wish) (found : Option Found) (is : List ℕ) → Best ([] ∷ []) found → Best (choices_for C (drop (length is) is) (alike wish (drop (length is) is))) found
  no-input wish found is h = subst (λ l. Best (choices_for C l (alike wish l)) found) (sym (drop-all is)) h

  -- ---- equal lists

  pub one-list : (i : ℕ) (w : Wish) (ws : List Wish) → w ∷ [] ≡ ws → C i w ≡ flat_map (choices_for C (i ∷ [])) (map alone ws)
  one-list i w ws e = sym (one-for i w) ∙ ap (λ l. flat_map (choices_for C (i ∷ [])) (map alone l)) e

  pub none-list : (i : ℕ) (ws : List Wish) → [] ≡ ws → flat_map (choices_for C (i ∷ [])) (map alone ws) ≡ []
  none-list i ws e = sym (ap (λ l. flat_map (choices_for C (i ∷ [])) (map alone l)) e)

  pub way-list : (l r : ℕ) (v w : Wish) → in_pairs (C l v) (C r w) ≡ flat_map (choices_for C (l ∷ r ∷ [])) ((v ∷ w ∷ []) ∷ [])
  way-list l r v w = sym (append-nil (choices_for C (l ∷ r ∷ []) (v ∷ w ∷ [])) ∙ pair-for l r v w)

  pub ok-list : {E : Type 0} (r : Result (Option Found) E) (a b : List Choice) → a ≡ b → IfOk r (Best a) → IfOk r (Best b)
  ok-list r a b e h = subst (λ l. IfOk r (Best l)) e h

  pub two-ways-ok : {E : Type 0} (found : Result (Option Found) E) (l r : ℕ) (v w : Wish) (way : Sides) → way.left ≡ v → IfOk found (Best (in_pairs (C l v) (C r w ++ C r way.right))) → IfOk found (Best (flat_map (choices_for C (l ∷ r ∷ [])) ((v ∷ w ∷ []) ∷ sides_in way ∷ [])))
  two-ways-ok (Ok x) l r v w way is h = two-ways l r x v w way is h
  two-ways-ok (Err e) l r v w way is h = h

-- ---- what calls answer

pub both-ok : {E : Type 0} (r : Result (Option Found) E) (a b : Option Found) → IfOk r (λ found. (plan : Plan) (sizes : List ℕ) (xs ys : List Choice) → IsBest plan sizes xs a → IsBest plan sizes ys b → IsBest plan sizes (in_pairs xs ys) found) → (plan : Plan) (sizes : List ℕ) (xs ys : List Choice) → IsBest plan sizes xs a → IsBest plan sizes ys b → IfOk r (IsBest plan sizes (in_pairs xs ys))
both-ok (Ok x) a b h plan sizes xs ys ha hb = h plan sizes xs ys ha hb
both-ok (Err e) a b h plan sizes xs ys ha hb = h

pub one-ok : {E : Type 0} (r : Result (Option Found) E) (scan rows : ℕ) (cut : Wish) → IfOk r (λ found. (plan : Plan) (sizes : List ℕ) → rows ≡ slice_index_or sizes (frame_in (node_at plan.nodes scan)) 0 → IsBest plan sizes ((record { scan = scan; cut = cut } ∷ []) ∷ []) found) → (plan : Plan) (sizes : List ℕ) → rows ≡ slice_index_or sizes (frame_in (node_at plan.nodes scan)) 0 → IfOk r (IsBest plan sizes ((record { scan = scan; cut = cut } ∷ []) ∷ []))
one-ok (Ok x) scan rows cut h plan sizes e = h plan sizes e
one-ok (Err x) scan rows cut h plan sizes e = h

-- ---- nodes

module _ (plan : Plan) (sizes : List ℕ) (root : ℕ) (good : IsWellFormed plan root) (n : ℕ) (under : is_under plan.nodes root n ≡ true) (wish : Wish) where
  abbrev A : ℕ → Wish → List Choice
  A = choices_of plan

  abbrev s : ℕ → List Field
  s = schema_of plan

  abbrev Done : {E : Type 0} → Result (Option Found) E → List Choice → Type 0
  Done r l = IfOk r (IsBest plan sizes l)

  pub below-done : {E : Type 0} (r : Result (Option Found) E) (input : ℕ) (x z : Node) → z ≡ node_at plan.nodes n → z ≡ x → node_choices A n x (ways (s (first_input (inputs_of x))) n x wish) wish ≡ flat_map (choices_for A (input ∷ [])) (map alone (wishes_below (s input) x wish)) → Done r (flat_map (choices_for A (input ∷ [])) (map alone (wishes_below (s input) z wish))) → Done r (choices_of plan n wish)
  below-done r input x z at is unary h =
      subst (Done r)
      (ap (λ y. flat_map (choices_for A (input ∷ [])) (map alone (wishes_below (s input) y wish))) is
      ∙ sym unary ∙ sym (own plan root good n under x (sym at ∙ is) wish)) h

  pub union-done : {E : Type 0} (r : Result (Option Found) E) (is js : List ℕ) → node_at plan.nodes n ≡ node.Union is → js ≡ is → Done r (choices_for A js (alike wish js)) → Done r (choices_of plan n wish)
  union-done r is js at same h =
      subst (Done r)
      (ap (λ l. choices_for A l (alike wish l)) same ∙ sym (append-nil (choices_for A is (alike wish is))) ∙ sym (own plan root good n under (node.Union is) at wish)) h

  pub sort-done : {E : Type 0} (r : Result (Option Found) E) (input : ℕ) (by : List (List ℕ)) (options : SortOptions) → node_at plan.nodes n ≡ node.Sort input by options → Done r (flat_map (choices_for A (input ∷ [])) (slice_ways options.slice wish)) → Done r (choices_of plan n wish)
  sort-done r input by options at h = subst (Done r) (sym (own plan root good n under (node.Sort input by options) at wish)) h

  pub join-done : {E : Type 0} (r : Result (Option Found) E) (left right : ℕ) (lo lo2 ro ro2 : List Formula) (options : JoinOptions) (z : Node) → z ≡ node_at plan.nodes n → z ≡ node.Join left right lo ro options → lo2 ≡ lo → ro2 ≡ ro → Done r (flat_map (choices_for A (left ∷ right ∷ [])) (join_ways options.how n lo2 ro2 (wishes_below (s left) z wish) wish)) → Done r (choices_of plan n wish)
  join-done r left right lo lo2 ro ro2 options z at is el er h =
      subst (Done r)
      (ap (λ l. flat_map (choices_for A (left ∷ right ∷ [])) (join_ways options.how n l ro2 (wishes_below (s left) z wish) wish)) el
      ∙ ap (λ l. flat_map (choices_for A (left ∷ right ∷ [])) (join_ways options.how n lo l (wishes_below (s left) z wish) wish)) er
      ∙ ap (λ y. flat_map (choices_for A (left ∷ right ∷ [])) (join_ways options.how n lo ro (wishes_below (s left) y wish) wish)) is
      ∙ sym (own plan root good n under (node.Join left right lo ro options) (sym at ∙ is) wish)) h

  pub scan-done : {E : Type 0} (r : Result (Option Found) E) (frame : ℕ) (columns : Option (List (List ℕ))) → node_at plan.nodes n ≡ node.DataFrameScan frame columns → Done r ((record { scan = n; cut = wish } ∷ []) ∷ []) → Done r (choices_of plan n wish)
  scan-done r frame columns at h = subst (Done r) (sym (own plan root good n under (node.DataFrameScan frame columns) at wish)) h

pub fed-at : (plan : Plan) (root n : ℕ) (is : List ℕ) → AreFed plan root n is → (i d : ℕ) → i < length is → (get_or is i d < n) × (is_under plan.nodes root (get_or is i d) ≡ true)
fed-at plan root n [] h i d lt = absurd (omega arith)
fed-at plan root n (x ∷ is) h zero d lt = h.0
fed-at plan root n (x ∷ is) h (suc i) d lt = fed-at plan root n is h.1 i d (omega arith)

pub take-all : {A : Type 0} (xs : List A) (i : ℕ) → length xs ≤ i → take i xs ≡ xs
take-all [] zero le = refl
take-all [] (suc i) le = refl
take-all (x ∷ xs) zero le = absurd (omega arith)
take-all (x ∷ xs) (suc i) le = ap (λ l. x ∷ l) (take-all xs i (omega arith))

-- ---- a key from above

inner-of : {X : Type 0} {a b : X} → Some a ≡ Some b → a ≡ b
inner-of e = cc

left-columns : (input : List Field) (x : Node) → IsLeftOf x → (names columns : List (List ℕ)) → columns_below input x names ≡ Some columns → names ≡ columns
left-columns input x left [] columns e = inner-of e
left-columns input x left (name ∷ names) columns e =
    let split : (b : Bool) (os : Option (List (List ℕ))) → columns_below input x names ≡ os → name_before (name_if b name) os ≡ Some columns → (name ∷ names) ≡ columns = elim [
      | false ↦ λ os b k. absurd (let no_ : None ≡ Some columns = k in cc)
      | true ↦ elim [
        | None ↦ λ b k. absurd (let no_ : None ≡ Some columns = k in cc)
        | Some later ↦ λ b k. ap (λ l. name ∷ l) (left-columns input x left names later b) ∙ inner-of k
      ]
    ] in split (has_name (names_of input) name) (columns_below input x names) refl (sym (ap (λ o. name_before o (columns_below input x names)) (left input name)) ∙ e)

pub one-key : (input : List Field) (x : Node) → IsLeftOf x → (wish : Wish) (key : ℕ) (columns others : List (List ℕ)) → wish ≡ Key key columns → others ≡ columns → (below : Option Wish) (keyed : Option Sides) → option_to_list below ≡ wishes_below input x wish → IsKeyedBy key others keyed → AreOneKey below keyed
one-key input x left wish key columns others is same None keyed e h = tt
one-key input x left wish key columns others is same (Some below) None e h = tt
one-key input x left wish key columns others is same (Some below) (Some sides) e h =
    let listed : below ∷ [] ≡ key_by key (columns_below input x columns) = e ∙ ap (wishes_below input x) is in
    let split : (os : Option (List (List ℕ))) → columns_below input x columns ≡ os → below ∷ [] ≡ key_by key os → sides.left ≡ below = elim [
      | None ↦ λ _ k. absurd (let no_ : below ∷ [] ≡ [] = k in cc)
      | Some found ↦ λ b k. (let own_ : below ≡ Key key found = cc in h ∙ ap (Key key) (same ∙ left-columns input x left columns found b) ∙ sym own_)
    ] in split (columns_below input x columns) refl listed
