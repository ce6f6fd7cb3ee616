-- Nodes that can't be had as wished: the first input in the way, and why a node has no way.
use Rattle.std.proofs.Common.{◌≡◌, ℕ, zero, suc, ◌-◌, ◌<◌, ◌≤◌, Bool, true, false, List, [], ◌∷◌, ◌++◌, map, length, drop, get_or, Option, Some, None, refl, ap, sym, subst, ◌∙◌, arith, ◌⊎◌, inl, inr, append-nil, append_assoc}
use Rattle.std.specs.Prelude.{◌&&◌, if◌then◌else◌, Result, Ok, Err, IfOk}
use Rattle.std.specs.List.{AllByRecursion, flat_map, list_all}
use Rattle.pipe_schema.specs.declared.field.Field.{Field}
use Rattle.pipe_expr.specs.Formula.{Formula}
use Rattle.pipe_expr.specs.Joins.{column_names}
use Rattle.pipe_expr.specs.declared.join_words.JoinType.{JoinType}
use Rattle.pipe_expr.specs.declared.join_words.JoinType.TheVariants as how
use Rattle.pipe_plan.specs.Node.{Node}
use Rattle.pipe_plan.specs.Node as node
use Rattle.pipe_plan.specs.Plan.{Plan}
use Rattle.pipe_plan.specs.Under.{inputs_of, is_under, node_at}
use Rattle.pipe_plan.specs.Faults.{IsWellFormed, is_column}
use Rattle.pipe_plan.specs.declared.ir.JoinOptions.{JoinOptions}
use Rattle.pipe_plan.specs.declared.ir.PlanSlice.{PlanSlice}
use Rattle.pipe_plan.specs.declared.ir.SortOptions.{SortOptions}
use Rattle.pipe_events.proofs.Lists.{all-append}
use Rattle.pipe_parts.specs.Wishes.{alike, alone, beside_whole, by_key, column_below, columns_below, join_ways, key_by, key_ways, keyed_on, name_before, same_names, slice_ways, split_ways, ways, wishes_below}
use Rattle.pipe_parts.specs.Choices.{Choice, IsIn, choices_for, choices_of, in_pairs, node_choices}
use Rattle.pipe_parts.specs.declared.wish.Wish.{Wish}
use Rattle.pipe_parts.specs.declared.wish.Wish.TheVariants.{Split, Key, Whole}
use Rattle.pipe_parts.specs.declared.obstacles.Obstacle.{Obstacle}
use Rattle.pipe_parts.specs.Obstacles.{AreBarred, AreHad, Asked, HasLength, HasNoColumn, IsBarred, IsFirst, IsFirstBarred, IsFoundAmong, IsFoundAt, IsFoundOn, IsObstacle, IsWhy, asked_ways, schema_below, why_joined, why_of}
use Rattle.pipe_parts.proofs.Best.{pairs-none}
use Rattle.pipe_parts.proofs.Own.{own}

-- ---- lists

not-nil : {X : Type 0} (x : X) (xs : List X) → x ∷ xs ≡ [] → ⊥
not-nil x xs e = cc

append-left : {X : Type 0} (xs ys : List X) → xs ++ ys ≡ [] → xs ≡ []
append-left [] ys e = refl
append-left (x ∷ xs) ys e = absurd (not-nil x (xs ++ ys) e)

append-right : {X : Type 0} (xs ys : List X) → xs ++ ys ≡ [] → ys ≡ []
append-right [] ys e = e
append-right (x ∷ xs) ys e = absurd (not-nil x (xs ++ ys) e)

map-nil : {X Y : Type 0} (f : X → Y) (xs : List X) → map f xs ≡ [] → xs ≡ []
map-nil f [] e = refl
map-nil f (x ∷ xs) e = absurd (not-nil (f x) (map f xs) e)

flat-at : {X Y : Type 0} (f : X → List Y) (xs : List X) (k : ℕ) (x : X) → k < length xs → x ≡ get_or xs k x → flat_map f xs ≡ [] → f x ≡ []
flat-at f [] k x lt is e = absurd (omega arith)
flat-at f (y ∷ ys) zero x lt is e = ap f is ∙ append-left (f y) (flat_map f ys) e
flat-at f (y ∷ ys) (suc k) x lt is e = flat-at f ys k x (omega arith) is (append-right (f y) (flat_map f ys) e)

pub drop-at : {X : Type 0} (xs : List X) (k : ℕ) (d : X) → k < length xs → drop k xs ≡ get_or xs k d ∷ drop (suc k) xs
drop-at [] k d lt = absurd (omega arith)
drop-at (x ∷ xs) zero d lt = refl
drop-at (x ∷ xs) (suc k) d lt = drop-at xs k d (omega arith)

drop-past : {X : Type 0} (xs : List X) (k : ℕ) → length xs ≤ k → drop k xs ≡ []
drop-past [] zero le = refl
drop-past [] (suc k) le = refl
drop-past (x ∷ xs) zero le = absurd (omega arith)
drop-past (x ∷ xs) (suc k) le = drop-past xs k (omega arith)

pub all-at : {X : Type 0} (P : X → Type 0) (xs : List X) (k : ℕ) (x : X) → AllByRecursion P xs → k < length xs → x ≡ get_or xs k x → P x
all-at P [] k x h lt is = absurd (omega arith)
all-at P (y ∷ ys) zero x h lt is = subst P (sym is) h.0
all-at P (y ∷ ys) (suc k) x h lt is = all-at P ys k x h.1 (omega arith) is

pairs-some : (xs ys : List Choice) → in_pairs xs ys ≡ [] → (xs ≡ []) ⊎ (ys ≡ [])
pairs-some [] ys e = inl refl
pairs-some (x ∷ xs) [] e = inr refl
pairs-some (x ∷ xs) (y ∷ ys) e = absurd (not-nil _ _ e)

-- ---- inputs, each as asked

first-none : (plan : Plan) (is : List ℕ) (ws : List Wish) (b : Asked) → IsFirstBarred plan is ws b → choices_for (choices_of plan) is ws ≡ []
first-none plan [] ws b h = absurd h
first-none plan (i ∷ is) [] b h = absurd h
first-none plan (i ∷ is) (w ∷ ws) b (inl h) = ap (λ xs. in_pairs xs (choices_for (choices_of plan) is ws)) (ap (λ (a : Asked). choices_of plan a.node a.wish) h.0 ∙ h.1)
first-none plan (i ∷ is) (w ∷ ws) b (inr h) = ap (in_pairs (choices_of plan i w)) (first-none plan is ws b h.1) ∙ pairs-none (choices_of plan i w)

had-some : (plan : Plan) (is : List ℕ) (ws : List Wish) → AreHad plan is ws → choices_for (choices_of plan) is ws ≡ [] → ⊥
had-some plan [] [] h e = not-nil _ _ e
had-some plan [] (w ∷ ws) h e = h
had-some plan (i ∷ is) [] h e = h
had-some plan (i ∷ is) (w ∷ ws) h e =
    let split : (choices_of plan i w ≡ []) ⊎ (choices_for (choices_of plan) is ws ≡ []) → ⊥ = elim [
      | inl k ↦ h.0 k
      | inr k ↦ had-some plan is ws h.1 k
    ] in split (pairs-some (choices_of plan i w) (choices_for (choices_of plan) is ws) e)

one-had : (plan : Plan) (i : ℕ) (w : Wish) (is : List ℕ) (ws : List Wish) → (IsBarred plan (record { node = i; wish = w }) → ⊥) → (r : Option Obstacle) → IsFoundOn plan is ws r → IsFoundOn plan (i ∷ is) (w ∷ ws) r
one-had plan i w is ws had None h = (had, h)
one-had plan i w is ws had (Some f) h = record { below = h.below; first = inr (had, h.first); obstacle = h.obstacle }

one-held : (plan : Plan) (i : ℕ) (w : Wish) (is : List ℕ) (ws : List Wish) (f : Obstacle) → IsObstacle plan (record { node = i; wish = w }) f → IsFirst plan (i ∷ is) (w ∷ ws) f
one-held plan i w is ws f h = record { below = record { node = i; wish = w }; first = inl (refl, h.barred); obstacle = h }

-- the inputs before a place can be had
abbrev pub ArePassed : Plan → List ℕ → List Wish → ℕ → Type 0
ArePassed plan is ws k = (r : Option Obstacle) → IsFoundOn plan (drop k is) (drop k ws) r → IsFoundOn plan is ws r

pub none-passed : (plan : Plan) (is : List ℕ) (ws : List Wish) → ArePassed plan is ws 0
none-passed plan is ws = λ r h. h

pub one-passed : (plan : Plan) (is : List ℕ) (ws : List Wish) (k i : ℕ) (w : Wish) → length ws ≡ length is → k < length is → i ≡ get_or is k 0 → w ≡ get_or ws k w → (IsBarred plan (record { node = i; wish = w }) → ⊥) → ArePassed plan is ws k → ArePassed plan is ws (suc k)
one-passed plan is ws k i w long lt ie we had h = λ r f.
    let first : drop k is ≡ i ∷ drop (suc k) is = drop-at is k 0 lt ∙ ap (λ j. j ∷ drop (suc k) is) (sym ie) in
    let second : drop k ws ≡ w ∷ drop (suc k) ws = drop-at ws k w (omega arith) ∙ ap (λ j. j ∷ drop (suc k) ws) (sym we) in
    h r (subst (λ l. IsFoundOn plan l (drop k ws) r) (sym first) (subst (λ l. IsFoundOn plan (i ∷ drop (suc k) is) l r) (sym second) (one-had plan i w (drop (suc k) is) (drop (suc k) ws) had r f)))

pub passed-held : (plan : Plan) (is : List ℕ) (ws : List Wish) (k i : ℕ) (w : Wish) (f : Obstacle) → length ws ≡ length is → k < length is → i ≡ get_or is k 0 → w ≡ get_or ws k w → IsObstacle plan (record { node = i; wish = w }) f → ArePassed plan is ws k → IsFirst plan is ws f
passed-held plan is ws k i w f long lt ie we held h =
    let first : drop k is ≡ i ∷ drop (suc k) is = drop-at is k 0 lt ∙ ap (λ j. j ∷ drop (suc k) is) (sym ie) in
    let second : drop k ws ≡ w ∷ drop (suc k) ws = drop-at ws k w (omega arith) ∙ ap (λ j. j ∷ drop (suc k) ws) (sym we) in
    h (Some f) (subst (λ l. IsFirst plan l (drop k ws) f) (sym first) (subst (λ l. IsFirst plan (i ∷ drop (suc k) is) l f) (sym second) (one-held plan i w (drop (suc k) is) (drop (suc k) ws) f held)))

pub all-passed : (plan : Plan) (is : List ℕ) (ws : List Wish) (k : ℕ) → length ws ≡ length is → length is ≤ k → ArePassed plan is ws k → AreHad plan is ws
all-passed plan is ws k long le h =
    h None (subst (λ l. AreHad plan l (drop k ws)) (sym (drop-past is k le)) (subst (AreHad plan []) (sym (drop-past ws k (omega arith))) tt))

-- ---- ways, from the last to the first

module _ (plan : Plan) (is : List ℕ) (ways : List (List Wish)) (here : Obstacle) where
  abbrev f : List Wish → List Choice
  f = choices_for (choices_of plan) is

  pub no-way-yet : AreBarred plan is (drop (length ways) ways) here here
  no-way-yet = subst (λ l. AreBarred plan is l here here) (sym (drop-past ways (length ways) (omega arith))) (record { none = refl; first = refl })

  pub next-barred : (found first : Obstacle) (place : ℕ) (way : List Wish) → 0 < place → place ≤ length ways → way ≡ get_or ways (place - 1) way → AreBarred plan is (drop place ways) here found → IsFirst plan is way first → AreBarred plan is (drop (place - 1) ways) here first
  next-barred found first place way some le at h k =
      let back : suc (place - 1) ≡ place = omega arith in
      let step : drop (place - 1) ways ≡ way ∷ drop place ways = drop-at ways (place - 1) way (omega arith) ∙ ap (λ w. w ∷ drop (suc (place - 1)) ways) (sym at) ∙ ap (λ j. way ∷ drop j ways) back in
      subst (λ l. AreBarred plan is l here first) (sym step) (record {
        none = ap (λ l. l ++ flat_map f (drop place ways)) (first-none plan is way k.below k.first) ∙ h.none;
        first = k;
      })

  pub one-gone : (place : ℕ) (way : List Wish) → place < length ways → way ≡ get_or ways place way → AreHad plan is way → flat_map f ways ≡ [] → ⊥
  one-gone place way lt at had e = had-some plan is way had (flat-at f ways place way lt at e)

  pub all-barred : (found : Obstacle) (place : ℕ) → place ≤ 0 → AreBarred plan is (drop place ways) here found → AreBarred plan is ways here found
  all-barred found place end h =
      let first : place ≡ 0 = omega arith in
      subst (λ k. AreBarred plan is (drop k ways) here found) first h

-- ---- why a node has no way

record Missing (input : List Field) (x : Node) (columns : List (List ℕ)) : Type 0 where
  pub name : List ℕ
  pub one : IsIn name columns
  pub none : column_below input x name ≡ None

missing : (input : List Field) (x : Node) (columns : List (List ℕ)) → columns_below input x columns ≡ None → Missing input x columns
missing input x [] e = absurd (let none_ : Some [] ≡ None = e in cc)
missing input x (name ∷ names) e =
    let split : (o : Option (List ℕ)) (os : Option (List (List ℕ))) → column_below input x name ≡ o → columns_below input x names ≡ os → name_before o os ≡ None → Missing input x (name ∷ names) = elim [
      | None ↦ λ os a b k. record { name = name; one = inl refl; none = a }
      | Some below ↦ elim [
        | None ↦ λ a b k. (let later = missing input x names b in record { name = later.name; one = inr later.one; none = later.none })
        | Some others ↦ λ a b k. absurd (let none_ : Some (below ∷ others) ≡ None = k in cc)
      ]
    ] in split (column_below input x name) (columns_below input x names) refl refl e

no-column : (input : List Field) (x : Node) (wish : Wish) → wishes_below input x wish ≡ [] → HasNoColumn input x wish
no-column input x Split e = absurd (not-nil _ _ e)
no-column input x (Key key columns) e =
    let split : (o : Option (List (List ℕ))) → columns_below input x columns ≡ o → key_by key o ≡ [] → HasNoColumn input x (Key key columns) = elim [
      | None ↦ λ a k. (let m = missing input x columns a in record { key = key; columns = columns; wished = refl; name = m.name; one = m.one; none = m.none })
      | Some below ↦ λ a k. absurd (not-nil _ _ k)
    ] in split (columns_below input x columns) refl e
no-column input x Whole e = absurd (not-nil _ _ e)

other-keys : (key : ℕ) (lo ro : List Formula) → by_key key lo ro ≡ [] → (list_all is_column lo && list_all is_column ro) ≡ false
other-keys key lo ro e =
    let made : List (List Wish) = (Key key (column_names lo) ∷ Key key (column_names ro) ∷ []) ∷ [] in
    let split : (b : Bool) → (list_all is_column lo && list_all is_column ro) ≡ b → (if b then made else []) ≡ [] → (list_all is_column lo && list_all is_column ro) ≡ false = elim [
      | true ↦ λ a k. absurd (not-nil _ _ k)
      | false ↦ λ a k. a
    ] in split (list_all is_column lo && list_all is_column ro) refl e

joined-why : (input : List Field) (x : Node) (n left right : ℕ) (lo ro : List Formula) (options : JoinOptions) → x ≡ node.Join left right lo ro options → (kind : JoinType) → options.how ≡ kind → (wish : Wish) → join_ways kind n lo ro (wishes_below input x wish) wish ≡ [] → IsWhy input x wish (why_joined kind wish)
joined-why input x n left right lo ro options is how.Inner k Split e = absurd (not-nil _ _ e)
joined-why input x n left right lo ro options is how.Inner k (Key key columns) e = no-column input x (Key key columns) (map-nil beside_whole (wishes_below input x (Key key columns)) (append-left (map beside_whole (wishes_below input x (Key key columns))) (keyed_on key columns lo ro) e))
joined-why input x n left right lo ro options is how.Inner k Whole e = absurd (not-nil _ _ e)
joined-why input x n left right lo ro options is how.Left k Split e = absurd (not-nil _ _ e)
joined-why input x n left right lo ro options is how.Left k (Key key columns) e = no-column input x (Key key columns) (map-nil beside_whole (wishes_below input x (Key key columns)) (append-left (map beside_whole (wishes_below input x (Key key columns))) (keyed_on key columns lo ro) e))
joined-why input x n left right lo ro options is how.Left k Whole e = absurd (not-nil _ _ e)
joined-why input x n left right lo ro options is how.Full k Split e = (record { join = record { left = left; right = right; left_on = lo; right_on = ro; options = options; is = is; full = k }; keys = other-keys n lo ro e }, refl)
joined-why input x n left right lo ro options is how.Full k (Key key columns) e = (record { left = left; right = right; left_on = lo; right_on = ro; options = options; is = is; full = k }, tt)
joined-why input x n left right lo ro options is how.Full k Whole e = absurd (not-nil _ _ e)
joined-why input x n left right lo ro options is how.Cross k Split e = absurd (not-nil _ _ e)
joined-why input x n left right lo ro options is how.Cross k (Key key columns) e = no-column input x (Key key columns) (map-nil beside_whole (wishes_below input x (Key key columns)) e)
joined-why input x n left right lo ro options is how.Cross k Whole e = absurd (not-nil _ _ e)
joined-why input x n left right lo ro options is how.Semi k Split e = absurd (not-nil _ _ e)
joined-why input x n left right lo ro options is how.Semi k (Key key columns) e = no-column input x (Key key columns) (map-nil beside_whole (wishes_below input x (Key key columns)) (append-left (map beside_whole (wishes_below input x (Key key columns))) (keyed_on key columns lo ro) e))
joined-why input x n left right lo ro options is how.Semi k Whole e = absurd (not-nil _ _ e)
joined-why input x n left right lo ro options is how.Anti k Split e = absurd (not-nil _ _ e)
joined-why input x n left right lo ro options is how.Anti k (Key key columns) e = no-column input x (Key key columns) (map-nil beside_whole (wishes_below input x (Key key columns)) (append-left (map beside_whole (wishes_below input x (Key key columns))) (keyed_on key columns lo ro) e))
joined-why input x n left right lo ro options is how.Anti k Whole e = absurd (not-nil _ _ e)

sorted-why : (input : List Field) (x : Node) (below : ℕ) (by : List (List ℕ)) (options : SortOptions) → x ≡ node.Sort below by options → (slice : Option PlanSlice) → options.slice ≡ slice → (wish : Wish) → slice_ways slice wish ≡ [] → IsWhy input x wish (why_of (node.Sort below by options) wish)
sorted-why input x below by options is None k wish e = absurd (not-nil _ _ e)
sorted-why input x below by options is (Some slice) k Split e = (record { input = below; by = by; options = options; slice = slice; is = is; sliced = k }, tt)
sorted-why input x below by options is (Some slice) k (Key key columns) e = (record { input = below; by = by; options = options; slice = slice; is = is; sliced = k }, tt)
sorted-why input x below by options is (Some slice) k Whole e = absurd (not-nil _ _ e)

why-true : (input : List Field) (n : ℕ) (x : Node) (wish : Wish) → ways input n x wish ≡ [] → IsWhy input x wish (why_of x wish)
why-true input n (node.DataFrameScan frame columns) wish e = absurd (not-nil _ _ e)
why-true input n (node.Filter below predicate) wish e = no-column input (node.Filter below predicate) wish (map-nil alone (wishes_below input (node.Filter below predicate) wish) e)
why-true input n (node.SimpleProjection below columns) wish e = no-column input (node.SimpleProjection below columns) wish (map-nil alone (wishes_below input (node.SimpleProjection below columns) wish) e)
why-true input n (node.Select below exprs) wish e = no-column input (node.Select below exprs) wish (map-nil alone (wishes_below input (node.Select below exprs) wish) e)
why-true input n (node.HStack below exprs) wish e = no-column input (node.HStack below exprs) wish (map-nil alone (wishes_below input (node.HStack below exprs) wish) e)
why-true input n (node.MapFunction below function) wish e = no-column input (node.MapFunction below function) wish (map-nil alone (wishes_below input (node.MapFunction below function) wish) e)
why-true input n (node.Union inputs) wish e = absurd (not-nil _ _ e)
why-true input n (node.Join left right lo ro options) wish e = joined-why input (node.Join left right lo ro options) n left right lo ro options refl options.how refl wish e
why-true input n (node.Sort below by options) wish e = sorted-why input (node.Sort below by options) below by options refl options.slice refl wish e

-- ---- a node, over its ways

flat-of : (C : ℕ → Wish → List Choice) (input : List Field) (n : ℕ) (x : Node) (wish : Wish) → node_choices C n x (ways input n x wish) wish ≡ [] → flat_map (choices_for C (inputs_of x)) (ways input n x wish) ≡ []
flat-of C input n (node.DataFrameScan frame columns) wish e = absurd (not-nil _ _ e)
flat-of C input n (node.Filter below predicate) wish e = e
flat-of C input n (node.SimpleProjection below columns) wish e = e
flat-of C input n (node.Select below exprs) wish e = e
flat-of C input n (node.HStack below exprs) wish e = e
flat-of C input n (node.MapFunction below function) wish e = e
flat-of C input n (node.Union inputs) wish e = e
flat-of C input n (node.Join left right lo ro options) wish e = e
flat-of C input n (node.Sort below by options) wish e = e

of-flat : (C : ℕ → Wish → List Choice) (input : List Field) (n : ℕ) (x : Node) (wish : Wish) → flat_map (choices_for C (inputs_of x)) (ways input n x wish) ≡ [] → node_choices C n x (ways input n x wish) wish ≡ []
of-flat C input n (node.DataFrameScan frame columns) wish e = absurd (not-nil _ _ e)
of-flat C input n (node.Filter below predicate) wish e = e
of-flat C input n (node.SimpleProjection below columns) wish e = e
of-flat C input n (node.Select below exprs) wish e = e
of-flat C input n (node.HStack below exprs) wish e = e
of-flat C input n (node.MapFunction below function) wish e = e
of-flat C input n (node.Union inputs) wish e = e
of-flat C input n (node.Join left right lo ro options) wish e = e
of-flat C input n (node.Sort below by options) wish e = e

by-ways : (plan : Plan) (n : ℕ) (wish : Wish) (here : Obstacle) (r : Option Obstacle) (ws : List (List Wish)) → asked_ways plan (record { node = n; wish = wish }) ≡ ws → here.node ≡ n → here.why ≡ why_of (node_at plan.nodes n) wish → (choices_of plan n wish ≡ [] → flat_map (choices_for (choices_of plan) (inputs_of (node_at plan.nodes n))) ws ≡ []) → (flat_map (choices_for (choices_of plan) (inputs_of (node_at plan.nodes n))) ws ≡ [] → choices_of plan n wish ≡ []) → IsFoundAmong plan (inputs_of (node_at plan.nodes n)) ws here r → IsFoundAt plan (record { node = n; wish = wish }) r
by-ways plan n wish here None ws e at why to from h = λ b. h (to b)
by-ways plan n wish here (Some found) [] e at why to from h =
    let same : found.node ≡ n = ap (λ (o : Obstacle). o.node) h.first ∙ at in
    let told : found.why ≡ why_of (node_at plan.nodes n) wish = ap (λ (o : Obstacle). o.why) h.first ∙ why in
    let told_so : IsWhy (schema_below plan (record { node = n; wish = wish })) (node_at plan.nodes n) wish found.why = subst (IsWhy (schema_below plan (record { node = n; wish = wish })) (node_at plan.nodes n) wish) (sym told) (why-true (schema_below plan (record { node = n; wish = wish })) n (node_at plan.nodes n) wish e) in
    record {
      barred = from h.none;
      path = [];
      wish = wish;
      leads = ap (λ k. record { node = k; wish = wish }) (sym same);
      no_way = subst (λ k. asked_ways plan (record { node = k; wish = wish }) ≡ []) (sym same) e;
      why = subst (λ k. IsWhy (schema_below plan (record { node = k; wish = wish })) (node_at plan.nodes k) wish found.why) (sym same) told_so;
    }
by-ways plan n wish here (Some found) (way ∷ others) e at why to from h =
    let first = h.first in
    let on = first.obstacle in
    record {
      barred = from h.none;
      path = first.below ∷ on.path;
      wish = on.wish;
      leads = (record { barred = from h.none; way = way; others = others; ways = e; first = first.first }, on.leads);
      no_way = on.no_way;
      why = on.why;
    }

-- what is found among a node's ways is found for the node
pub by-node : (plan : Plan) (root : ℕ) → IsWellFormed plan root → (n : ℕ) → is_under plan.nodes root n ≡ true → (wish : Wish) (is : List ℕ) (ws : List (List Wish)) (here : Obstacle) (r : Option Obstacle) → is ≡ inputs_of (node_at plan.nodes n) → ws ≡ asked_ways plan (record { node = n; wish = wish }) → here.node ≡ n → here.why ≡ why_of (node_at plan.nodes n) wish → IsFoundAmong plan is ws here r → IsFoundAt plan (record { node = n; wish = wish }) r
by-node plan root good n under wish is ws here r ie we at why h =
    let x = node_at plan.nodes n in
    let asked : Asked = record { node = n; wish = wish } in
    let its = own plan root good n under x refl wish in
    by-ways plan n wish here r (asked_ways plan asked) refl at why
    (λ e. flat-of (choices_of plan) (schema_below plan asked) n x wish (sym its ∙ e))
    (λ e. its ∙ of-flat (choices_of plan) (schema_below plan asked) n x wish e)
    (subst (λ l. IsFoundAmong plan l (asked_ways plan asked) here r) ie (subst (λ l. IsFoundAmong plan is l here r) we h))

pub by-node-ok : {E : Type 0} (r : Result (Option Obstacle) E) (plan : Plan) (root : ℕ) → IsWellFormed plan root → (n : ℕ) → is_under plan.nodes root n ≡ true → (wish : Wish) (is : List ℕ) (ws : List (List Wish)) (here : Obstacle) → is ≡ inputs_of (node_at plan.nodes n) → ws ≡ asked_ways plan (record { node = n; wish = wish }) → here.node ≡ n → here.why ≡ why_of (node_at plan.nodes n) wish → IfOk r (IsFoundAmong plan is ws here) → IfOk r (IsFoundAt plan (record { node = n; wish = wish }))
by-node-ok (Ok found) plan root good n under wish is ws here ie we at why h = by-node plan root good n under wish is ws here found ie we at why h
by-node-ok (Err e) plan root good n under wish is ws here ie we at why h = h

-- ---- a way has a wish for each input

alone-long : (i : ℕ) (ws : List Wish) → AllByRecursion (HasLength (i ∷ [])) (map alone ws)
alone-long i [] = tt
alone-long i (w ∷ ws) = (refl, alone-long i ws)

beside-long : (l r : ℕ) (ws : List Wish) → AllByRecursion (HasLength (l ∷ r ∷ [])) (map beside_whole ws)
beside-long l r [] = tt
beside-long l r (w ∷ ws) = (refl, beside-long l r ws)

alike-long : (wish : Wish) (is : List ℕ) → length (alike wish is) ≡ length is
alike-long wish [] = refl
alike-long wish (i ∷ is) = ap suc (alike-long wish is)

by-key-long : (l r key : ℕ) (lo ro : List Formula) → AllByRecursion (HasLength (l ∷ r ∷ [])) (by_key key lo ro)
by-key-long l r key lo ro =
    let made : List (List Wish) = (Key key (column_names lo) ∷ Key key (column_names ro) ∷ []) ∷ [] in
    let split : (b : Bool) → AllByRecursion (HasLength (l ∷ r ∷ [])) (if b then made else []) = elim [
      | true ↦ (refl, tt)
      | false ↦ tt
    ] in split (list_all is_column lo && list_all is_column ro)

keyed-long : (l r key : ℕ) (columns : List (List ℕ)) (lo ro : List Formula) → AllByRecursion (HasLength (l ∷ r ∷ [])) (keyed_on key columns lo ro)
keyed-long l r key columns lo ro =
    let split : (b : Bool) → AllByRecursion (HasLength (l ∷ r ∷ [])) (if b then by_key key lo ro else []) = elim [
      | true ↦ by-key-long l r key lo ro
      | false ↦ tt
    ] in split (same_names columns (column_names lo))

split-long : (l r : ℕ) (kind : JoinType) (keyed : List (List Wish)) → AllByRecursion (HasLength (l ∷ r ∷ [])) keyed → AllByRecursion (HasLength (l ∷ r ∷ [])) (split_ways kind keyed)
split-long l r how.Inner keyed h = (refl, (refl, h))
split-long l r how.Left keyed h = (refl, h)
split-long l r how.Full keyed h = h
split-long l r how.Cross keyed h = (refl, (refl, tt))
split-long l r how.Semi keyed h = (refl, h)
split-long l r how.Anti keyed h = (refl, h)

key-long : (l r : ℕ) (kind : JoinType) (left keyed : List (List Wish)) → AllByRecursion (HasLength (l ∷ r ∷ [])) left → AllByRecursion (HasLength (l ∷ r ∷ [])) keyed → AllByRecursion (HasLength (l ∷ r ∷ [])) (key_ways kind left keyed)
key-long l r how.Inner left keyed h k = all-append (HasLength (l ∷ r ∷ [])) left keyed h k
key-long l r how.Left left keyed h k = all-append (HasLength (l ∷ r ∷ [])) left keyed h k
key-long l r how.Full left keyed h k = tt
key-long l r how.Cross left keyed h k = h
key-long l r how.Semi left keyed h k = all-append (HasLength (l ∷ r ∷ [])) left keyed h k
key-long l r how.Anti left keyed h k = all-append (HasLength (l ∷ r ∷ [])) left keyed h k

joined-long : (l r n : ℕ) (kind : JoinType) (lo ro : List Formula) (below : List Wish) (wish : Wish) → AllByRecursion (HasLength (l ∷ r ∷ [])) (join_ways kind n lo ro below wish)
joined-long l r n kind lo ro below Split = split-long l r kind (by_key n lo ro) (by-key-long l r n lo ro)
joined-long l r n kind lo ro below (Key key columns) = key-long l r kind (map beside_whole below) (keyed_on key columns lo ro) (beside-long l r below) (keyed-long l r key columns lo ro)
joined-long l r n kind lo ro below Whole = (refl, tt)

sorted-long : (i : ℕ) (slice : Option PlanSlice) (wish : Wish) → AllByRecursion (HasLength (i ∷ [])) (slice_ways slice wish)
sorted-long i None wish = (refl, tt)
sorted-long i (Some slice) Split = tt
sorted-long i (Some slice) (Key key columns) = tt
sorted-long i (Some slice) Whole = (refl, tt)

node-long : (input : List Field) (n : ℕ) (x : Node) (wish : Wish) → AllByRecursion (HasLength (inputs_of x)) (ways input n x wish)
node-long input n (node.DataFrameScan frame columns) wish = (refl, tt)
node-long input n (node.Filter below predicate) wish = alone-long below (wishes_below input (node.Filter below predicate) wish)
node-long input n (node.SimpleProjection below columns) wish = alone-long below (wishes_below input (node.SimpleProjection below columns) wish)
node-long input n (node.Select below exprs) wish = alone-long below (wishes_below input (node.Select below exprs) wish)
node-long input n (node.HStack below exprs) wish = alone-long below (wishes_below input (node.HStack below exprs) wish)
node-long input n (node.MapFunction below function) wish = alone-long below (wishes_below input (node.MapFunction below function) wish)
node-long input n (node.Union inputs) wish = (alike-long wish inputs, tt)
node-long input n (node.Join left right lo ro options) wish = joined-long left right n options.how lo ro (wishes_below input (node.Join left right lo ro options) wish) wish
node-long input n (node.Sort below by options) wish = sorted-long below options.slice wish

pub ways-long : (input : List Field) (n : ℕ) (x : Node) (wish : Wish) (is : List ℕ) (ws : List (List Wish)) → is ≡ inputs_of x → ws ≡ ways input n x wish → AllByRecursion (HasLength is) ws
ways-long input n x wish is ws ie we = subst (λ l. AllByRecursion (HasLength l) ws) (sym ie) (subst (AllByRecursion (HasLength (inputs_of x))) (sym we) (node-long input n x wish))

-- ---- one wish for all inputs

pub next-alike : (way whole : List Wish) (wish : Wish) (i : ℕ) (rest : List ℕ) → way ++ alike wish (i ∷ rest) ≡ whole → (way ++ wish ∷ []) ++ alike wish rest ≡ whole
next-alike way whole wish i rest e = append_assoc way (wish ∷ []) (alike wish rest) ∙ e

pub last-alike : (way whole : List Wish) → way ++ [] ≡ whole → way ≡ whole
last-alike way whole e = sym (append-nil way) ∙ e

pub ruleset alike_rules = (next-alike, last-alike)
