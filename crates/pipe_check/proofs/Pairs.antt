-- Two lists, compared pair by pair.
use Rattle.std.proofs.Common.{◌≡◌, ℕ, ◌+◌, ◌<◌, ◌≤◌, Bool, true, false, not, List, [], ◌∷◌, map, drop, length, get_or, refl, ap, sym, ◌∙◌, arith}
use Rattle.std.specs.Prelude.{◌||◌, ◌&&◌}
use Rattle.std.specs.Cmp.Lexicographic.{pointwise}
use Rattle.std.proofs.lemmas.List.{drop_more}
use Rattle.std.proofs.Math.ListN.{drop_of_length-le}
use Rattle.pipe_schema.specs.declared.field.Field.{Field}
use Rattle.pipe_expr.specs.Formula.{Formula, formula_of}
use Rattle.pipe_expr.specs.Types.{type_of}
use Rattle.pipe_expr.specs.declared.expr.Expr.{Expr}
use Rattle.pipe_plan.specs.Faults.{eq_field, eq_types, keys_differ}

-- ---- fields

fields-next : (a b : List Field) (i : ℕ) (x y : Field) → i < length a → length a ≡ length b → x ≡ get_or a i x → y ≡ get_or b i y → pointwise eq_field (drop i a) (drop i b) ≡ (eq_field x y && pointwise eq_field (drop (i + 1) a) (drop (i + 1) b))
fields-next a b i x y lt same is_x is_y =
    let left : drop i a ≡ x ∷ drop (i + 1) a = drop_more a i x lt ∙ ap (λ z. z ∷ drop (i + 1) a) (sym is_x) in
    let right : drop i b ≡ y ∷ drop (i + 1) b = drop_more b i y (omega arith) ∙ ap (λ z. z ∷ drop (i + 1) b) (sym is_y) in
    ap (λ xs. pointwise eq_field xs (drop i b)) left ∙ ap (pointwise eq_field (x ∷ drop (i + 1) a)) right

and-false : (p q : Bool) → false ≡ q → false ≡ (p && q)
and-false true q e = e
and-false false q e = refl

-- lists that aren't as long
pub not_as_long : (a b : List Field) → (length a ≡ length b → ⊥) → false ≡ pointwise eq_field a b
not_as_long [] [] n = absurd (n refl)
not_as_long [] (y ∷ b) n = refl
not_as_long (x ∷ a) [] n = refl
not_as_long (x ∷ a) (y ∷ b) n =
    let rest = not_as_long a b (λ e. n (omega (arith, e))) in
    and-false (eq_field x y) (pointwise eq_field a b) rest

-- a pair that differs
pub pair_differs : (a b : List Field) (i : ℕ) (x y : Field) → i < length a → length a ≡ length b → x ≡ get_or a i x → y ≡ get_or b i y → eq_field x y ≡ false → pointwise eq_field (drop i a) (drop i b) ≡ pointwise eq_field a b → false ≡ pointwise eq_field a b
pair_differs a b i x y lt same is_x is_y e rest =
    sym (fields-next a b i x y lt same is_x is_y ∙ ap (λ p. p && pointwise eq_field (drop (i + 1) a) (drop (i + 1) b)) e) ∙ rest

-- a pair that is the same
pub pair_same : (a b : List Field) (i : ℕ) (x y : Field) → i < length a → length a ≡ length b → x ≡ get_or a i x → y ≡ get_or b i y → eq_field x y ≡ true → pointwise eq_field (drop i a) (drop i b) ≡ pointwise eq_field a b → pointwise eq_field (drop (i + 1) a) (drop (i + 1) b) ≡ pointwise eq_field a b
pair_same a b i x y lt same is_x is_y e rest =
    sym (fields-next a b i x y lt same is_x is_y ∙ ap (λ p. p && pointwise eq_field (drop (i + 1) a) (drop (i + 1) b)) e) ∙ rest

-- no pair is left
pub no_pair_left : (a b : List Field) (i : ℕ) → length a ≤ i → length a ≡ length b → pointwise eq_field (drop i a) (drop i b) ≡ pointwise eq_field a b → true ≡ pointwise eq_field a b
no_pair_left a b i past same rest =
    let left : drop i a ≡ [] = drop_of_length-le a past in
    let beyond : length b ≤ i = omega arith in
    let right : drop i b ≡ [] = drop_of_length-le b beyond in
    sym (ap (λ xs. pointwise eq_field xs (drop i b)) left ∙ ap (pointwise eq_field []) right) ∙ rest

pub ruleset pair_rules = (not_as_long, pair_differs, pair_same, no_pair_left)

-- ---- keys

-- whether key pairs differ, from a place on
abbrev pub keys_from : List Field → List Field → List Expr → List Expr → ℕ → Bool
keys_from left right left_on right_on i = keys_differ left right (map formula_of (drop i left_on)) (map formula_of (drop i right_on))

abbrev pub pair_types_differ : List Field → List Field → Expr → Expr → Bool
pair_types_differ left right l r = not (eq_types (type_of (formula_of l) left) (type_of (formula_of r) right))

keys-next : (left right : List Field) (left_on right_on : List Expr) (i : ℕ) (l r : Expr) → i < length left_on → i < length right_on → l ≡ get_or left_on i l → r ≡ get_or right_on i r → keys_from left right left_on right_on i ≡ (pair_types_differ left right l r || keys_from left right left_on right_on (i + 1))
keys-next left right left_on right_on i l r lt within is_l is_r =
    let ls : drop i left_on ≡ l ∷ drop (i + 1) left_on = drop_more left_on i l lt ∙ ap (λ z. z ∷ drop (i + 1) left_on) (sym is_l) in
    let rs : drop i right_on ≡ r ∷ drop (i + 1) right_on = drop_more right_on i r within ∙ ap (λ z. z ∷ drop (i + 1) right_on) (sym is_r) in
    ap (λ xs. keys_differ left right (map formula_of xs) (map formula_of (drop i right_on))) ls
    ∙ ap (λ ys. keys_differ left right (map formula_of (l ∷ drop (i + 1) left_on)) (map formula_of ys)) rs

pub key_differs : (left right : List Field) (left_on right_on : List Expr) (i : ℕ) (l r : Expr) → i < length left_on → i < length right_on → l ≡ get_or left_on i l → r ≡ get_or right_on i r → pair_types_differ left right l r ≡ true → keys_from left right left_on right_on i ≡ keys_from left right left_on right_on 0 → true ≡ keys_from left right left_on right_on 0
key_differs left right left_on right_on i l r lt within is_l is_r e rest =
    sym (keys-next left right left_on right_on i l r lt within is_l is_r ∙ ap (λ p. p || keys_from left right left_on right_on (i + 1)) e) ∙ rest

pub key_same : (left right : List Field) (left_on right_on : List Expr) (i : ℕ) (l r : Expr) → i < length left_on → i < length right_on → l ≡ get_or left_on i l → r ≡ get_or right_on i r → pair_types_differ left right l r ≡ false → keys_from left right left_on right_on i ≡ keys_from left right left_on right_on 0 → keys_from left right left_on right_on (i + 1) ≡ keys_from left right left_on right_on 0
key_same left right left_on right_on i l r lt within is_l is_r e rest =
    sym (keys-next left right left_on right_on i l r lt within is_l is_r ∙ ap (λ p. p || keys_from left right left_on right_on (i + 1)) e) ∙ rest

pub no_left_key : (left right : List Field) (left_on right_on : List Expr) (i : ℕ) → length left_on ≤ i → keys_from left right left_on right_on i ≡ keys_from left right left_on right_on 0 → false ≡ keys_from left right left_on right_on 0
no_left_key left right left_on right_on i past rest =
    let none : drop i left_on ≡ [] = drop_of_length-le left_on past in
    sym (ap (λ xs. keys_differ left right (map formula_of xs) (map formula_of (drop i right_on))) none) ∙ rest

none-right : (left right : List Field) (ls : List Formula) → keys_differ left right ls [] ≡ false
none-right left right [] = refl
none-right left right (l ∷ ls) = refl

pub no_right_key : (left right : List Field) (left_on right_on : List Expr) (i : ℕ) → length right_on ≤ i → keys_from left right left_on right_on i ≡ keys_from left right left_on right_on 0 → false ≡ keys_from left right left_on right_on 0
no_right_key left right left_on right_on i past rest =
    let none : drop i right_on ≡ [] = drop_of_length-le right_on past in
    sym (ap (λ ys. keys_differ left right (map formula_of (drop i left_on)) (map formula_of ys)) none ∙ none-right left right (map formula_of (drop i left_on))) ∙ rest

pub ruleset key_rules = (key_differs, key_same, no_left_key, no_right_key)
