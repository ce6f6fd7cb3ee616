-- What pushing and reading does to the validity and values of a column.
use Rattle.std.proofs.Common.{◌≡◌, ℕ, zero, suc, ◌<◌, Bool, true, false, List, [], ◌∷◌, ◌++◌, Some, None, length, get_or, map, take, drop, Option, refl, ap, sym, subst, ◌∙◌, arith}
use Rattle.std.specs.List.{slice_get}
use Rattle.std.proofs.lemmas.Option.{get_or_from_slice_get}
use Rattle.std.proofs.lemmas.List.{length-map, length-drop, get_or_default}
use Rattle.pipe_column.specs.Column.{nullable, nullables, nullable_at, nullable_in, value_at}

-- one more place
pub nullables-push : {T : Type 0} (validity : List Bool) (xs : List T) (m : Bool) (x : T) → length validity ≡ length xs → nullables (validity ++ m ∷ []) (xs ++ x ∷ []) ≡ nullables validity xs ++ nullable m x ∷ []
nullables-push [] [] true x h = refl
nullables-push [] [] false x h = refl
nullables-push [] (_ ∷ _) m x h = cc
nullables-push (_ ∷ _) [] m x h = cc
nullables-push (true ∷ validity) (y ∷ xs) m x h = ap (λ l. Some y ∷ l) (nullables-push validity xs m x (omega arith))
nullables-push (false ∷ validity) (y ∷ xs) m x h = ap (λ l. None ∷ l) (nullables-push validity xs m x (omega arith))

-- as many places as values
pub length-nullables : {T : Type 0} (validity : List Bool) (xs : List T) → length validity ≡ length xs → length (nullables validity xs) ≡ length xs
length-nullables [] [] h = refl
length-nullables [] (_ ∷ _) h = cc
length-nullables (_ ∷ _) [] h = cc
length-nullables (true ∷ validity) (y ∷ xs) h = ap suc (length-nullables validity xs (omega arith))
length-nullables (false ∷ validity) (y ∷ xs) h = ap suc (length-nullables validity xs (omega arith))

-- what stands at a place
slice_get-nullables : {T : Type 0} (validity : List Bool) (xs : List T) (i : ℕ) (m : Bool) (x : T) → length validity ≡ length xs → i < length xs → m ≡ get_or validity i m → x ≡ get_or xs i x → slice_get (nullables validity xs) i ≡ Some (nullable m x)
slice_get-nullables [] [] i m x h lt p q = absurd (omega arith)
slice_get-nullables [] (_ ∷ _) i m x h lt p q = cc
slice_get-nullables (_ ∷ _) [] i m x h lt p q = cc
slice_get-nullables (true ∷ validity) (y ∷ xs) zero m x h lt p q = grind arith
slice_get-nullables (false ∷ validity) (y ∷ xs) zero m x h lt p q = grind arith
slice_get-nullables (true ∷ validity) (y ∷ xs) (suc i) m x h lt p q = slice_get-nullables validity xs i m x (omega arith) (omega arith) p q
slice_get-nullables (false ∷ validity) (y ∷ xs) (suc i) m x h lt p q = slice_get-nullables validity xs i m x (omega arith) (omega arith) p q

pub get_or-nullables : {T : Type 0} (validity : List Bool) (xs : List T) (i : ℕ) (m : Bool) (x : T) → length validity ≡ length xs → i < length xs → m ≡ get_or validity i m → x ≡ get_or xs i x → get_or (nullables validity xs) i None ≡ nullable m x
get_or-nullables validity xs i m x h lt p q = get_or_from_slice_get (nullables validity xs) i (nullable m x) None (slice_get-nullables validity xs i m x h lt p q)

-- the places of both
pub nullables-append : {T : Type 0} (m n : List Bool) (xs ys : List T) → length m ≡ length xs → nullables (m ++ n) (xs ++ ys) ≡ nullables m xs ++ nullables n ys
nullables-append [] n [] ys h = refl
nullables-append [] n (_ ∷ _) ys h = cc
nullables-append (_ ∷ _) n [] ys h = cc
nullables-append (true ∷ m) n (x ∷ xs) ys h = ap (λ l. Some x ∷ l) (nullables-append m n xs ys (omega arith))
nullables-append (false ∷ m) n (x ∷ xs) ys h = ap (λ l. None ∷ l) (nullables-append m n xs ys (omega arith))

-- so many places from the front
pub nullables-take : {T : Type 0} (n : ℕ) (validity : List Bool) (xs : List T) → length validity ≡ length xs → nullables (take n validity) (take n xs) ≡ take n (nullables validity xs)
nullables-take zero validity xs h = refl
nullables-take (suc n) [] [] h = refl
nullables-take (suc n) [] (_ ∷ _) h = cc
nullables-take (suc n) (_ ∷ _) [] h = cc
nullables-take (suc n) (true ∷ validity) (x ∷ xs) h = ap (λ l. Some x ∷ l) (nullables-take n validity xs (omega arith))
nullables-take (suc n) (false ∷ validity) (x ∷ xs) h = ap (λ l. None ∷ l) (nullables-take n validity xs (omega arith))

-- the places from a place on
pub nullables-drop : {T : Type 0} (n : ℕ) (validity : List Bool) (xs : List T) → length validity ≡ length xs → nullables (drop n validity) (drop n xs) ≡ drop n (nullables validity xs)
nullables-drop zero validity xs h = refl
nullables-drop (suc n) [] [] h = refl
nullables-drop (suc n) [] (_ ∷ _) h = cc
nullables-drop (suc n) (_ ∷ _) [] h = cc
nullables-drop (suc n) (true ∷ validity) (x ∷ xs) h = nullables-drop n validity xs (omega arith)
nullables-drop (suc n) (false ∷ validity) (x ∷ xs) h = nullables-drop n validity xs (omega arith)

pub nullables-part : {T : Type 0} (from count : ℕ) (validity : List Bool) (xs : List T) → length validity ≡ length xs → nullables (take count (drop from validity)) (take count (drop from xs)) ≡ take count (drop from (nullables validity xs))
nullables-part from count validity xs h = nullables-take count (drop from validity) (drop from xs) (omega (arith, length-drop from validity, length-drop from xs)) ∙ ap (take count) (nullables-drop from validity xs h)

-- what stands at a place, be it there or not
nullable_at-nullables : {T : Type 0} (validity : List Bool) (xs : List T) (other : T) (i : ℕ) → length validity ≡ length xs → nullable (get_or validity i false) (get_or xs i other) ≡ nullable_at (nullables validity xs) i
nullable_at-nullables [] [] other i h = refl
nullable_at-nullables [] (_ ∷ _) other i h = cc
nullable_at-nullables (_ ∷ _) [] other i h = cc
nullable_at-nullables (true ∷ validity) (x ∷ xs) other zero h = refl
nullable_at-nullables (false ∷ validity) (x ∷ xs) other zero h = refl
nullable_at-nullables (true ∷ validity) (x ∷ xs) other (suc i) h = nullable_at-nullables validity xs other i (omega arith)
nullable_at-nullables (false ∷ validity) (x ∷ xs) other (suc i) h = nullable_at-nullables validity xs other i (omega arith)

nullable_in-nullables : {T : Type 0} (validity : List Bool) (xs : List T) (other : T) (place : Option ℕ) → length validity ≡ length xs → nullable (value_at validity false place) (value_at xs other place) ≡ nullable_in (nullables validity xs) place
nullable_in-nullables validity xs other (Some i) h = nullable_at-nullables validity xs other i h
nullable_in-nullables validity xs other None h = refl

nullables-cons : {T : Type 0} (m : Bool) (x : T) (validity : List Bool) (xs : List T) → nullables (m ∷ validity) (x ∷ xs) ≡ nullable m x ∷ nullables validity xs
nullables-cons true x validity xs = refl
nullables-cons false x validity xs = refl

-- gathering the validity and the values is gathering the places
pub nullables-gather : {T : Type 0} (validity : List Bool) (xs : List T) (other : T) (places : List (Option ℕ)) → length validity ≡ length xs → nullables (map (value_at validity false) places) (map (value_at xs other) places) ≡ map (nullable_in (nullables validity xs)) places
nullables-gather validity xs other [] h = refl
nullables-gather validity xs other (place ∷ places) h =
    nullables-cons (value_at validity false place) (value_at xs other place) _ _
    ∙ ap (λ s. s ∷ nullables (map (value_at validity false) places) (map (value_at xs other) places)) (nullable_in-nullables validity xs other place h)
    ∙ ap (λ l. nullable_in (nullables validity xs) place ∷ l) (nullables-gather validity xs other places h)

pub length-gathered : {A B T : Type 0} (f : T → A) (g : T → B) (places : List T) → length (map f places) ≡ length (map g places)
length-gathered f g places = length-map places f ∙ sym (length-map places g)

-- the same of the column that the validity and values are seen as
pub nullable_seen : {T : Type 0} (validity : List Bool) (xs : List T) (i : ℕ) (m : Bool) (d x : T) {now : List (Option T)} → nullables validity xs ≡ now → length validity ≡ length xs → i < length now → m ≡ get_or validity i m → x ≡ get_or xs i d → nullable_at now i ≡ nullable m x
nullable_seen {T = T} validity xs i m d x v h lt p q =
    let Claim : List (Option T) → Type 0 = λ now. i < length now → nullable_at now i ≡ nullable m x in
    let below : i < length (nullables validity xs) → nullable_at (nullables validity xs) i ≡ nullable m x = λ at.
    let inside : i < length xs = omega (arith, length-nullables validity xs h) in
    get_or-nullables validity xs i m x h inside p (q ∙ get_or_default xs i d x inside)
    in subst Claim v below lt

-- the same where the values are read off a slice
pub nullable_shown : {T : Type 0} (validity : List Bool) (xs : List T) (i : ℕ) (d x : T) {m : Bool} {ys : List T} {now : List (Option T)} → nullables validity xs ≡ now → length validity ≡ length xs → m ≡ get_or validity i false → ys ≡ xs → x ≡ get_or ys i d → nullable_at now i ≡ nullable m x
nullable_shown validity xs i d x {m = m} v h p q at =
    let valid : nullable m x ≡ nullable (get_or validity i false) x = ap (λ b. nullable b x) p in
    let value : nullable (get_or validity i false) x ≡ nullable (get_or validity i false) (get_or xs i d) = ap (nullable (get_or validity i false)) (at ∙ ap (λ l. get_or l i d) q) in
    sym (valid ∙ value ∙ nullable_at-nullables validity xs d i h ∙ ap (λ l. nullable_at l i) v)

pub nullables_gathered : {T : Type 0} (validity : List Bool) (xs : List T) (other : T) (places : List (Option ℕ)) {ms : List Bool} {ys : List T} {now : List (Option T)} → nullables validity xs ≡ now → length validity ≡ length xs → ms ≡ map (value_at validity false) places → ys ≡ map (value_at xs other) places → nullables ms ys ≡ map (nullable_in now) places
nullables_gathered validity xs other places v h p q = rw (p, q) (nullables-gather validity xs other places h ∙ ap (λ now. map (nullable_in now) places) v)

-- for the methods of a column
pub ruleset nullable_rules = (nullables-push, length-nullables, get_or-nullables, nullables-append, nullables-take, nullables-part, length-gathered)
