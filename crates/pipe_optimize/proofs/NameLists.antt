-- Lists of names: which pass a test, which stand once, and what is made of them.
use Rattle.std.proofs.Common.{◌≡◌, ℕ, Bool, true, false, cond, eqb, ◌||◌, ◌&&◌, List, [], ◌∷◌, ◌++◌, map, Some, None, refl, ap, sym, ◌∙◌}
use Rattle.std.specs.Prelude.{filter}
use Rattle.std.specs.Str.{bytes_eq}
use Rattle.std.specs.List.{AllByRecursion, list_any}
use Rattle.std.proofs.lemmas.Bool.Decides.{Decides-eqb}
use Rattle.pipe_schema.specs.Schema.{has_name, first_repeated}
use Rattle.pipe_rules.proofs.Under.{own-name, same-name, once-first, once-rest}
use Rattle.pipe_rules.proofs.Filters.{all-always}
use Rattle.pipe_check.proofs.Names.{text_there, text_missing, renamed_there, renamed_missing}
use Rattle.pipe_rules.specs.Needs.{Names}

-- ---- truth values

pub and-true : (a b : Bool) → a ≡ true → b ≡ true → (a && b) ≡ true
and-true true b e f = f
and-true false b e f = cc

pub or-left : (a b : Bool) → a ≡ true → (a || b) ≡ true
or-left true b e = refl
or-left false b e = cc

pub or-right : (a b : Bool) → b ≡ true → (a || b) ≡ true
or-right true b e = refl
or-right false b e = e

pub or-assoc : (a b c : Bool) → ((a || b) || c) ≡ (a || (b || c))
or-assoc true b c = refl
or-assoc false b c = refl

pub clash : {X : Type 0} (b : Bool) → b ≡ true → b ≡ false → X
clash true e f = absurd (let no_ : true ≡ false = f in cc)
clash false e f = absurd (let no_ : false ≡ true = e in cc)

-- what leads to nothing is false
pub never : (b : Bool) → (b ≡ true → ⊥) → b ≡ false
never true h = absurd (h refl)
never false h = refl

pub first-is : (i : ℕ) (is : List ℕ) → list_any (λ m. eqb m i) (i ∷ is) ≡ true
first-is i is = let e : eqb i i ≡ true = (Decides-eqb i i).1 refl in rw e refl

pub next-is : (h i : ℕ) (is : List ℕ) → list_any (λ m. eqb m i) is ≡ true → list_any (λ m. eqb m i) (h ∷ is) ≡ true
next-is h i is e = or-right (eqb h i) (list_any (λ m. eqb m i) is) e

-- the only one of some numbers
pub only-one : (n i : ℕ) → list_any (λ m. eqb m i) (n ∷ []) ≡ true → n ≡ i
only-one n i e =
    let split : (b : Bool) → eqb n i ≡ b → (b || false) ≡ true → n ≡ i = elim [
      | true ↦ λ f g. (Decides-eqb n i).0 f
      | false ↦ λ f g. absurd (let no_ : false ≡ true = g in cc)
    ] in split (eqb n i) refl e

-- the second of two numbers
pub second-one : (n o i : ℕ) → list_any (λ m. eqb m i) (n ∷ o ∷ []) ≡ true → eqb i n ≡ false → o ≡ i
second-one n o i e out =
    let split : (b : Bool) → eqb n i ≡ b → (b || list_any (λ m. eqb m i) (o ∷ [])) ≡ true → o ≡ i = elim [
      | true ↦ λ f g. (let same : n ≡ i = (Decides-eqb n i).0 f in let yes : eqb i n ≡ true = (Decides-eqb i n).1 (sym same) in clash (eqb i n) yes out)
      | false ↦ λ f g. only-one o i g
    ] in split (eqb n i) refl e

-- ---- names that pass

pub some-needed : (needed : Names) (names : List (List ℕ)) (name : List ℕ) → has_name names name ≡ true → needed name ≡ true → list_any needed names ≡ true
some-needed needed [] name h n = cc
some-needed needed (x ∷ names) name h n =
    let split : (b c : Bool) → bytes_eq x name ≡ b → needed x ≡ c → (b || has_name names name) ≡ true → (c || list_any needed names) ≡ true = elim [
      | true ↦ elim [
        | true ↦ λ e f g. refl
        | false ↦ λ e f g. (let yes : needed x ≡ true = ap needed (same-name x name e) ∙ n in cc)
      ]
      | false ↦ elim [
        | true ↦ λ e f g. refl
        | false ↦ λ e f g. some-needed needed names name g n
      ]
    ] in split (bytes_eq x name) (needed x) refl refl h

-- what follows from a name that passes
pub any-name : (needed : Names) (names : List (List ℕ)) (Q : Type 0) → ((x : List ℕ) → has_name names x ≡ true → needed x ≡ true → Q) → list_any needed names ≡ true → Q
any-name needed [] Q f h = absurd (let no_ : false ≡ true = h in cc)
any-name needed (x ∷ names) Q f h =
    let split : (c : Bool) → needed x ≡ c → (c || list_any needed names) ≡ true → Q = elim [
      | true ↦ λ e g. f x (let own = own-name x in rw own refl) e
      | false ↦ λ e g. any-name needed names Q (λ y there n. f y (or-right (bytes_eq x y) (has_name names y) there) n) g
    ] in split (needed x) refl h

pub head-has : (names : List (List ℕ)) (name : List ℕ) (rest : List (List ℕ)) → names ≡ name ∷ rest → has_name names name ≡ true
head-has names name rest is = (let own = own-name name in ap (λ l. has_name l name) is ∙ or-left (bytes_eq name name) (has_name rest name) own)

-- a name stands first
pub record Begins (name : List ℕ) (names : List (List ℕ)) : Type 0 where
  pub rest : List (List ℕ)
  pub is : names ≡ name ∷ rest

pub first-kept : (needed : Names) (names : List (List ℕ)) (name : List ℕ) (rest : List (List ℕ)) → names ≡ name ∷ rest → needed name ≡ true → Begins name (filter needed names)
first-kept needed names name rest is n = record {
  rest = filter needed rest;
  is = ap (filter needed) is ∙ ap (λ b. cond b (name ∷ filter needed rest) (filter needed rest)) n;
}

-- ---- tests one after another

pub filter-twice : {X : Type 0} (a b : X → Bool) (xs : List X) → AllByRecursion (λ x. a x ≡ true → b x ≡ true) xs → filter a (filter b xs) ≡ filter a xs
filter-twice a b [] h = refl
filter-twice a b (x ∷ xs) h =
    let rest = filter-twice a b xs h.1 in
    let split : (c d : Bool) → b x ≡ c → a x ≡ d → filter a (cond c (x ∷ filter b xs) (filter b xs)) ≡ cond d (x ∷ filter a xs) (filter a xs) = elim [
      | true ↦ elim [
        | true ↦ λ e f. ap (λ t. cond t (x ∷ filter a (filter b xs)) (filter a (filter b xs))) f ∙ ap (λ l. x ∷ l) rest
        | false ↦ λ e f. ap (λ t. cond t (x ∷ filter a (filter b xs)) (filter a (filter b xs))) f ∙ rest
      ]
      | false ↦ elim [
        | true ↦ λ e f. clash (b x) (h.0 f) e
        | false ↦ λ e f. rest
      ]
    ] in split (b x) (a x) refl refl

pub filter-again : {X : Type 0} (a : X → Bool) (xs : List X) → filter a (filter a xs) ≡ filter a xs
filter-again a xs = filter-twice a a xs (all-always (λ x. a x ≡ true → a x ≡ true) (λ x h. h) xs)

-- what is kept passes, and was there
pub all-kept : {X : Type 0} (needed : X → Bool) (P : X → Type 0) (xs : List X) → AllByRecursion P xs → AllByRecursion (λ x. (needed x ≡ true) × P x) (filter needed xs)
all-kept needed P [] h = tt
all-kept needed P (x ∷ xs) h =
    let rest = all-kept needed P xs h.1 in
    let split : (b : Bool) → needed x ≡ b → AllByRecursion (λ y. (needed y ≡ true) × P y) (cond b (x ∷ filter needed xs) (filter needed xs)) = elim [
      | true ↦ λ e. ((e, h.0), rest)
      | false ↦ λ e. rest
    ] in split (needed x) refl

-- ---- lists behind one another

pub has-append : (a b : List (List ℕ)) (name : List ℕ) → has_name (a ++ b) name ≡ (has_name a name || has_name b name)
has-append [] b name = refl
has-append (n ∷ a) b name =
    ap (λ t. bytes_eq n name || t) (has-append a b name)
    ∙ sym (or-assoc (bytes_eq n name) (has_name a name) (has_name b name))

pub has-first : (a b : List (List ℕ)) (name : List ℕ) → has_name a name ≡ true → has_name (a ++ b) name ≡ true
has-first a b name h = has-append a b name ∙ or-left (has_name a name) (has_name b name) h

pub has-second : (a b : List (List ℕ)) (name : List ℕ) → has_name b name ≡ true → has_name (a ++ b) name ≡ true
has-second a b name h = has-append a b name ∙ or-right (has_name a name) (has_name b name) h

pub has-either : (a b : List (List ℕ)) (name : List ℕ) (Q : Type 0) → (has_name a name ≡ true → Q) → (has_name b name ≡ true → Q) → has_name (a ++ b) name ≡ true → Q
has-either a b name Q f g h =
    let split : (c : Bool) → has_name a name ≡ c → (c || has_name b name) ≡ true → Q = elim [
      | true ↦ λ e k. f e
      | false ↦ λ e k. g k
    ] in split (has_name a name) refl (sym (has-append a b name) ∙ h)

pub once-made : (name : List ℕ) (names : List (List ℕ)) → has_name names name ≡ false → first_repeated names ≡ None → first_repeated (name ∷ names) ≡ None
once-made name names out once = ap (λ b. cond b (Some name) (first_repeated names)) out ∙ once

pub once-left : (a b : List (List ℕ)) → first_repeated (a ++ b) ≡ None → first_repeated a ≡ None
once-left [] b once = refl
once-left (n ∷ a) b once =
    let out = once-first n (a ++ b) once in
    once-made n a (never (has_name a n) (λ yes. clash (has_name (a ++ b) n) (has-first a b n yes) out)) (once-left a b (once-rest n (a ++ b) once))

pub once-right : (a b : List (List ℕ)) → first_repeated (a ++ b) ≡ None → first_repeated b ≡ None
once-right [] b once = once
once-right (n ∷ a) b once = once-right a b (once-rest n (a ++ b) once)

pub once-clash : (a b : List (List ℕ)) (name : List ℕ) → first_repeated (a ++ b) ≡ None → has_name a name ≡ true → has_name b name ≡ true → ⊥
once-clash [] b name once h k = absurd (let no_ : false ≡ true = h in cc)
once-clash (n ∷ a) b name once h k =
    let split : (c : Bool) → bytes_eq n name ≡ c → (c || has_name a name) ≡ true → ⊥ = elim [
      | true ↦ λ e g. clash (has_name (a ++ b) n) (ap (has_name (a ++ b)) (same-name n name e) ∙ has-second a b name k) (once-first n (a ++ b) once)
      | false ↦ λ e g. once-clash a b name (once-rest n (a ++ b) once) g k
    ] in split (bytes_eq n name) refl h

pub once-both : (a b : List (List ℕ)) → first_repeated a ≡ None → first_repeated b ≡ None → ((name : List ℕ) → has_name a name ≡ true → has_name b name ≡ true → ⊥) → first_repeated (a ++ b) ≡ None
once-both [] b once other apart = other
once-both (n ∷ a) b once other apart =
    let own = own-name n in
    let out : has_name (a ++ b) n ≡ false = never (has_name (a ++ b) n) (has-either a b n ⊥ (λ yes. clash (has_name a n) yes (once-first n a once)) (λ yes. apart n (or-left (bytes_eq n n) (has_name a n) own) yes)) in
    once-made n (a ++ b) out (once-both a b (once-rest n a once) other (λ name h k. apart name (or-right (bytes_eq n name) (has_name a name) h) k))

-- ---- what is made of names

pub has-map : (f : List ℕ → List ℕ) (names : List (List ℕ)) (name : List ℕ) → has_name names name ≡ true → has_name (map f names) (f name) ≡ true
has-map f [] name h = cc
has-map f (n ∷ names) name h =
    let split : (b : Bool) → bytes_eq n name ≡ b → (b || has_name names name) ≡ true → (bytes_eq (f n) (f name) || has_name (map f names) (f name)) ≡ true = elim [
      | true ↦ λ e g. (let own = own-name (f name) in or-left (bytes_eq (f n) (f name)) (has_name (map f names) (f name)) (ap (λ m. bytes_eq (f m) (f name)) (same-name n name e) ∙ own))
      | false ↦ λ e g. or-right (bytes_eq (f n) (f name)) (has_name (map f names) (f name)) (has-map f names name g)
    ] in split (bytes_eq n name) refl h

pub map-from : (f : List ℕ → List ℕ) (names : List (List ℕ)) (name : List ℕ) (Q : Type 0) → ((m : List ℕ) → has_name names m ≡ true → f m ≡ name → Q) → has_name (map f names) name ≡ true → Q
map-from f [] name Q g h = absurd (let no_ : false ≡ true = h in cc)
map-from f (n ∷ names) name Q g h =
    let split : (b : Bool) → bytes_eq (f n) name ≡ b → (b || has_name (map f names) name) ≡ true → Q = elim [
      | true ↦ λ e k. g n (let own = own-name n in or-left (bytes_eq n n) (has_name names n) own) (same-name (f n) name e)
      | false ↦ λ e k. map-from f names name Q (λ m there is. g m (or-right (bytes_eq n m) (has_name names m) there) is) k
    ] in split (bytes_eq (f n) name) refl h

-- names of which what is made differs stand once when made
pub once-map : (f : List ℕ → List ℕ) (names : List (List ℕ)) → first_repeated names ≡ None → ((a b : List ℕ) → has_name names a ≡ true → has_name names b ≡ true → f a ≡ f b → a ≡ b) → first_repeated (map f names) ≡ None
once-map f [] once apart = refl
once-map f (n ∷ names) once apart =
    let own = own-name n in
    let out : has_name (map f names) (f n) ≡ false = never (has_name (map f names) (f n)) (map-from f names (f n) ⊥ (λ m there is.
    clash (has_name names n) (ap (has_name names) (apart n m (or-left (bytes_eq n n) (has_name names n) own) (or-right (bytes_eq n m) (has_name names m) there) (sym is)) ∙ there) (once-first n names once))) in
    once-made (f n) (map f names) out (once-map f names (once-rest n names once) (λ a b h k same. apart a b (or-right (bytes_eq n a) (has_name names a) h) (or-right (bytes_eq n b) (has_name names b) k) same))

-- and the other way round
pub map-apart : (f : List ℕ → List ℕ) (names : List (List ℕ)) → first_repeated (map f names) ≡ None → (a b : List ℕ) → has_name names a ≡ true → has_name names b ≡ true → f a ≡ f b → a ≡ b
map-apart f [] once a b h k same = absurd (let no_ : false ≡ true = h in cc)
map-apart f (n ∷ names) once a b h k same =
    let out = once-first (f n) (map f names) once in
    let split : (c d : Bool) → bytes_eq n a ≡ c → bytes_eq n b ≡ d → (c || has_name names a) ≡ true → (d || has_name names b) ≡ true → a ≡ b = elim [
      | true ↦ elim [
        | true ↦ λ e g p q. sym (same-name n a e) ∙ same-name n b g
        | false ↦ λ e g p q. clash (has_name (map f names) (f n)) (ap (has_name (map f names)) (ap f (same-name n a e) ∙ same) ∙ has-map f names b q) out
      ]
      | false ↦ elim [
        | true ↦ λ e g p q. clash (has_name (map f names) (f n)) (ap (has_name (map f names)) (ap f (same-name n b g) ∙ sym same) ∙ has-map f names a p) out
        | false ↦ λ e g p q. map-apart f names (once-rest (f n) (map f names) once) a b p q same
      ]
    ] in split (bytes_eq n a) (bytes_eq n b) refl refl h k

pub ruleset name_rules = (text_there, text_missing, renamed_there, renamed_missing)
