-- Columns whose byte strings are UTF-8.
use Rattle.std.proofs.Common.{◌≡◌, ℕ, zero, suc, List, [], ◌∷◌, ◌++◌, Option, Some, None, map, take, drop, subst, sym}
use Rattle.std.specs.Str.{IsUtf8}
use Rattle.pipe_column.specs.Column.{nullable_at, nullable_in, AreTexts}

-- a nullable text is one
abbrev pub MayBeText : Option (List ℕ) → Type 0
MayBeText (Some text) = IsUtf8 text
MayBeText None = Unit {0}

AreTexts-cons : (x : Option (List ℕ)) (column : List (Option (List ℕ))) → MayBeText x → AreTexts column → AreTexts (x ∷ column)
AreTexts-cons (Some text) column h k = (h, k)
AreTexts-cons None column h k = k

AreTexts-head : (x : Option (List ℕ)) (column : List (Option (List ℕ))) → AreTexts (x ∷ column) → MayBeText x
AreTexts-head (Some text) column h = h.0
AreTexts-head None column h = tt

AreTexts-rest : (x : Option (List ℕ)) (column : List (Option (List ℕ))) → AreTexts (x ∷ column) → AreTexts column
AreTexts-rest (Some text) column h = h.1
AreTexts-rest None column h = h

pub AreTexts-append : (a b : List (Option (List ℕ))) → AreTexts a → AreTexts b → AreTexts (a ++ b)
AreTexts-append [] b h k = k
AreTexts-append (x ∷ a) b h k = AreTexts-cons x (a ++ b) (AreTexts-head x a h) (AreTexts-append a b (AreTexts-rest x a h) k)

pub AreTexts-take : (n : ℕ) (column : List (Option (List ℕ))) → AreTexts column → AreTexts (take n column)
AreTexts-take zero column h = tt
AreTexts-take (suc n) [] h = tt
AreTexts-take (suc n) (x ∷ column) h = AreTexts-cons x (take n column) (AreTexts-head x column h) (AreTexts-take n column (AreTexts-rest x column h))

pub AreTexts-drop : (n : ℕ) (column : List (Option (List ℕ))) → AreTexts column → AreTexts (drop n column)
AreTexts-drop zero column h = h
AreTexts-drop (suc n) [] h = tt
AreTexts-drop (suc n) (x ∷ column) h = AreTexts-drop n column (AreTexts-rest x column h)

pub MayBeText-at : (column : List (Option (List ℕ))) (i : ℕ) → AreTexts column → MayBeText (nullable_at column i)
MayBeText-at [] i h = tt
MayBeText-at (x ∷ column) zero h = AreTexts-head x column h
MayBeText-at (x ∷ column) (suc i) h = MayBeText-at column i (AreTexts-rest x column h)

-- the bytes at a place are a text
pub IsUtf8-at : (column : List (Option (List ℕ))) (i : ℕ) (bytes : List ℕ) → Some bytes ≡ nullable_at column i → AreTexts column → IsUtf8 bytes
IsUtf8-at column i bytes e h = subst MayBeText (sym e) (MayBeText-at column i h)

MayBeText-in : (column : List (Option (List ℕ))) (place : Option ℕ) → AreTexts column → MayBeText (nullable_in column place)
MayBeText-in column (Some i) h = MayBeText-at column i h
MayBeText-in column None h = tt

pub AreTexts-taken : (column : List (Option (List ℕ))) (places : List (Option ℕ)) → AreTexts column → AreTexts (map (nullable_in column) places)
AreTexts-taken column [] h = tt
AreTexts-taken column (place ∷ places) h = AreTexts-cons (nullable_in column place) _ (MayBeText-in column place h) (AreTexts-taken column places h)

pub AreTexts-push_text : (column : List (Option (List ℕ))) (text : List ℕ) → AreTexts column → IsUtf8 text → AreTexts (column ++ Some text ∷ [])
AreTexts-push_text column text h k = AreTexts-append column (Some text ∷ []) h (k, tt)

pub AreTexts-push_null : (column : List (Option (List ℕ))) → AreTexts column → AreTexts (column ++ None ∷ [])
AreTexts-push_null column h = AreTexts-append column (None ∷ []) h tt

-- for the methods of a column of texts
pub ruleset texts_rules = (AreTexts-append, AreTexts-take, AreTexts-drop, IsUtf8-at, AreTexts-taken, AreTexts-push_text, AreTexts-push_null)
