-- Byte strings one after another in one list of bytes.
use Rattle.std.proofs.Common.{◌≡◌, ℕ, zero, suc, ◌+◌, ◌-◌, ◌<◌, ◌≤◌, List, [], ◌∷◌, ◌++◌, length, get_or, map, take, drop, refl, ap, sym, subst, ◌∙◌, arith, length-append}
use Rattle.std.specs.Prelude.{All}
use Rattle.std.specs.List.{slice_range}
use Rattle.std.proofs.lemmas.List.{take-append-le, drop-append-le, length-drop, take_all, drop_at, drop-take, take-take, drop-drop, get_or-take, length-take-le}
use Rattle.std.proofs.lemmas.List.Elements.{All-cons, All-nil}
use Rattle.std.proofs.Math.Seq.{drop-append-add}
use Rattle.pipe_column.specs.Column.{pieces_from, EndsFrom, less, more}

-- as many pieces as ends
pub length-pieces_from : (start : ℕ) (bytes ends : List ℕ) → length (pieces_from start bytes ends) ≡ length ends
length-pieces_from start bytes [] = refl
length-pieces_from start bytes (e ∷ ends) = ap suc (length-pieces_from e bytes ends)

-- the ends lie within the total
pub EndsFrom-start : (start total : ℕ) (ends : List ℕ) → EndsFrom start total ends → start ≤ total
EndsFrom-start start total [] h = omega arith
EndsFrom-start start total (e ∷ ends) h = omega (arith, h.0, EndsFrom-start e total ends h.1)

pub EndsFrom-at : (start total i : ℕ) (ends : List ℕ) → EndsFrom start total ends → i < length ends → (get_or (start ∷ ends) i 0 ≤ get_or ends i 0) × (get_or ends i 0 ≤ total)
EndsFrom-at start total i [] h lt = absurd (omega arith)
EndsFrom-at start total zero (e ∷ ends) h lt = (h.0, EndsFrom-start e total ends h.1)
EndsFrom-at start total (suc i) (e ∷ ends) h lt = EndsFrom-at e total i ends h.1 (omega arith)

-- the piece at a place
pub get_or-pieces_from : (start i : ℕ) (bytes ends : List ℕ) → i < length ends → get_or (pieces_from start bytes ends) i [] ≡ slice_range bytes (get_or (start ∷ ends) i 0) (get_or ends i 0)
get_or-pieces_from start i bytes [] lt = absurd (omega arith)
get_or-pieces_from start zero bytes (e ∷ ends) lt = refl
get_or-pieces_from start (suc i) bytes (e ∷ ends) lt = get_or-pieces_from e i bytes ends (omega arith)

-- more bytes behind change no piece
slice_range-append : (start end : ℕ) (a b : List ℕ) → start ≤ end → end ≤ length a → slice_range (a ++ b) start end ≡ slice_range a start end
slice_range-append start end a b le inside =
    ap (take (end - start)) (drop-append-le start a b (omega arith))
    ∙ take-append-le (end - start) (drop start a) b (omega (arith, length-drop start a))

-- the rest of the bytes
slice_range-end : (start : ℕ) (a b : List ℕ) (end : ℕ) → start ≡ length a → end ≡ length a + length b → slice_range (a ++ b) start end ≡ b
slice_range-end start a b end s e = ap (take (end - start)) (drop_at a b start (sym s)) ∙ take_all (end - start) b (omega arith)

-- one more piece
pub pieces_from-push : (start : ℕ) (bytes ends piece : List ℕ) (total : ℕ) → EndsFrom start (length bytes) ends → total ≡ length bytes + length piece → pieces_from start (bytes ++ piece) (ends ++ total ∷ []) ≡ pieces_from start bytes ends ++ piece ∷ []
pieces_from-push start bytes [] piece total h e = ap (λ p. p ∷ []) (slice_range-end start bytes piece total h e)
pieces_from-push start bytes (end ∷ ends) piece total h e =
    ap (λ p. p ∷ pieces_from end (bytes ++ piece) (ends ++ total ∷ [])) (slice_range-append start end bytes piece h.0 (EndsFrom-start end (length bytes) ends h.1))
    ∙ ap (λ ps. slice_range bytes start end ∷ ps) (pieces_from-push end bytes ends piece total h.1 e)

pub EndsFrom-push : (start before total : ℕ) (ends : List ℕ) → EndsFrom start before ends → before ≤ total → EndsFrom start total (ends ++ total ∷ [])
EndsFrom-push start before total [] h le = (omega arith, refl)
EndsFrom-push start before total (e ∷ ends) h le = (h.0, EndsFrom-push e before total ends h.1 le)

-- ---- a part of the pieces

pub pieces_from-take : (start n : ℕ) (bytes ends : List ℕ) → pieces_from start bytes (take n ends) ≡ take n (pieces_from start bytes ends)
pieces_from-take start zero bytes ends = refl
pieces_from-take start (suc n) bytes [] = refl
pieces_from-take start (suc n) bytes (e ∷ ends) = ap (λ ps. slice_range bytes start e ∷ ps) (pieces_from-take e n bytes ends)

pub pieces_from-drop : (start n : ℕ) (bytes ends : List ℕ) → n ≤ length ends → pieces_from (get_or (start ∷ ends) n 0) bytes (drop n ends) ≡ drop n (pieces_from start bytes ends)
pieces_from-drop start zero bytes ends le = refl
pieces_from-drop start (suc n) bytes [] le = absurd (omega arith)
pieces_from-drop start (suc n) bytes (e ∷ ends) le = pieces_from-drop e n bytes ends (omega arith)

EndsFrom-take : (start total n : ℕ) (ends : List ℕ) → EndsFrom start total ends → n ≤ length ends → EndsFrom start (get_or (start ∷ ends) n 0) (take n ends)
EndsFrom-take start total zero ends h le = refl
EndsFrom-take start total (suc n) [] h le = absurd (omega arith)
EndsFrom-take start total (suc n) (e ∷ ends) h le = (h.0, EndsFrom-take e total n ends h.1 (omega arith))

-- where a place begins doesn't depend on what stands behind it
start-take : (a i n : ℕ) (ends : List ℕ) → i ≤ n → get_or (a ∷ take n ends) i 0 ≡ get_or (a ∷ ends) i 0
start-take a zero n ends le = refl
start-take a (suc i) n ends le = get_or-take n ends i 0 (omega arith)

EndsFrom-drop : (start total n : ℕ) (ends : List ℕ) → EndsFrom start total ends → n ≤ length ends → EndsFrom (get_or (start ∷ ends) n 0) total (drop n ends)
EndsFrom-drop start total zero ends h le = h
EndsFrom-drop start total (suc n) [] h le = absurd (omega arith)
EndsFrom-drop start total (suc n) (e ∷ ends) h le = EndsFrom-drop e total n ends h.1 (omega arith)

-- a range of a range
slice_range-range : (s t a e : ℕ) (bytes : List ℕ) → s ≤ a → a ≤ e → e ≤ t → slice_range (slice_range bytes s t) (a - s) (e - s) ≡ slice_range bytes a e
slice_range-range s t a e bytes sa ae et =
    let whole : t - s ≡ (a - s) + (t - a) = omega arith in
    let inner : drop (a - s) (take (t - s) (drop s bytes)) ≡ take (t - a) (drop a bytes) =
    ap (λ n. drop (a - s) (take n (drop s bytes))) whole ∙ drop-take (a - s) (t - a) (drop s bytes) ∙ ap (take (t - a)) (drop-drop (a - s) s bytes ∙ ap (λ n. drop n bytes) (omega arith)) in
    let short : (e - s) - (a - s) ≡ e - a = omega arith in
    ap (λ n. take n (drop (a - s) (take (t - s) (drop s bytes)))) short ∙ ap (take (e - a)) inner ∙ take-take (e - a) (t - a) (drop a bytes) (omega arith)

pieces_from-range : (s t a : ℕ) (bytes ends : List ℕ) → s ≤ a → EndsFrom a t ends → pieces_from (a - s) (slice_range bytes s t) (map (less s) ends) ≡ pieces_from a bytes ends
pieces_from-range s t a bytes [] le h = refl
pieces_from-range s t a bytes (e ∷ ends) le h =
    ap (λ p. p ∷ pieces_from (e - s) (slice_range bytes s t) (map (less s) ends)) (slice_range-range s t a e bytes le h.0 (EndsFrom-start e t ends h.1))
    ∙ ap (λ ps. slice_range bytes a e ∷ ps) (pieces_from-range s t e bytes ends (omega (arith, h.0)) h.1)

EndsFrom-less : (s t a : ℕ) (ends : List ℕ) → s ≤ a → EndsFrom a t ends → EndsFrom (a - s) (t - s) (map (less s) ends)
EndsFrom-less s t a [] le h = ap (λ n. n - s) h
EndsFrom-less s t a (e ∷ ends) le h = (omega (arith, h.0), EndsFrom-less s t e ends (omega (arith, h.0)) h.1)

-- the bytes behind the last end don't matter
slice_range-within : (t a e : ℕ) (bytes : List ℕ) → a ≤ e → e ≤ t → slice_range (take t bytes) a e ≡ slice_range bytes a e
slice_range-within t a e bytes ae et =
    let whole : t ≡ a + (t - a) = omega arith in
    let inner : drop a (take t bytes) ≡ take (t - a) (drop a bytes) = ap (λ n. drop a (take n bytes)) whole ∙ drop-take a (t - a) bytes in
    ap (take (e - a)) inner ∙ take-take (e - a) (t - a) (drop a bytes) (omega arith)

pieces_from-within : (t a : ℕ) (bytes ends : List ℕ) → EndsFrom a t ends → pieces_from a (take t bytes) ends ≡ pieces_from a bytes ends
pieces_from-within t a bytes [] h = refl
pieces_from-within t a bytes (e ∷ ends) h =
    ap (λ p. p ∷ pieces_from e (take t bytes) ends) (slice_range-within t a e bytes h.0 (EndsFrom-start e t ends h.1))
    ∙ ap (λ ps. slice_range bytes a e ∷ ps) (pieces_from-within t e bytes ends h.1)

-- ---- pieces behind pieces

EndsFrom-append : (a b c : ℕ) (xs ys : List ℕ) → EndsFrom a b xs → EndsFrom b c ys → EndsFrom a c (xs ++ ys)
EndsFrom-append a b c [] ys h k = rw h k
EndsFrom-append a b c (e ∷ xs) ys h k = (h.0, EndsFrom-append e b c xs ys h.1 k)

EndsFrom-more : (s a t : ℕ) (ends : List ℕ) → EndsFrom a t ends → EndsFrom (s + a) (s + t) (map (more s) ends)
EndsFrom-more s a t [] h = ap (λ n. s + n) h
EndsFrom-more s a t (e ∷ ends) h = (omega (arith, h.0), EndsFrom-more s e t ends h.1)

pieces_from-behind : (a : ℕ) (front bytes ends : List ℕ) → EndsFrom a (length bytes) ends → pieces_from (length front + a) (front ++ bytes) (map (more (length front)) ends) ≡ pieces_from a bytes ends
pieces_from-behind a front bytes [] h = refl
pieces_from-behind a front bytes (e ∷ ends) h =
    let wide : (length front + e) - (length front + a) ≡ e - a = omega arith in
    ap (λ p. p ∷ pieces_from (length front + e) (front ++ bytes) (map (more (length front)) ends)) (ap (λ l. take ((length front + e) - (length front + a)) l) (drop-append-add front bytes a) ∙ ap (λ n. take n (drop a bytes)) wide)
    ∙ ap (λ ps. slice_range bytes a e ∷ ps) (pieces_from-behind e front bytes ends h.1)

pieces_from-before : (a : ℕ) (bytes behind ends further : List ℕ) → EndsFrom a (length bytes) ends → pieces_from a (bytes ++ behind) (ends ++ further) ≡ pieces_from a bytes ends ++ pieces_from (length bytes) (bytes ++ behind) further
pieces_from-before a bytes behind [] further h = ap (λ n. pieces_from n (bytes ++ behind) further) h
pieces_from-before a bytes behind (e ∷ ends) further h =
    ap (λ p. p ∷ pieces_from e (bytes ++ behind) (ends ++ further)) (slice_range-append a e bytes behind h.0 (EndsFrom-start e (length bytes) ends h.1))
    ∙ ap (λ ps. slice_range bytes a e ∷ ps) (pieces_from-before e bytes behind ends further h.1)

-- the pieces of both
pub pieces_from-append : (bytes ends behind further : List ℕ) → EndsFrom 0 (length bytes) ends → EndsFrom 0 (length behind) further → pieces_from 0 (bytes ++ behind) (ends ++ map (more (length bytes)) further) ≡ pieces_from 0 bytes ends ++ pieces_from 0 behind further
pieces_from-append bytes ends behind further h k =
    pieces_from-before 0 bytes behind ends (map (more (length bytes)) further) h
    ∙ ap (λ l. pieces_from 0 bytes ends ++ l) (ap (λ n. pieces_from n (bytes ++ behind) (map (more (length bytes)) further)) (omega arith) ∙ pieces_from-behind 0 bytes behind further k)

pub EndsFrom-both : (bytes ends behind further : List ℕ) → EndsFrom 0 (length bytes) ends → EndsFrom 0 (length behind) further → EndsFrom 0 (length (bytes ++ behind)) (ends ++ map (more (length bytes)) further)
EndsFrom-both bytes ends behind further h k =
    let later : EndsFrom (length bytes) (length (bytes ++ behind)) (map (more (length bytes)) further) = rw (length-append bytes behind) (let e : length bytes ≡ length bytes + 0 = omega arith in let P : ℕ → Type 0 = λ n. EndsFrom n (length bytes + length behind) (map (more (length bytes)) further) in subst P (sym e) (EndsFrom-more (length bytes) 0 (length behind) further k)) in
    EndsFrom-append 0 (length bytes) (length (bytes ++ behind)) ends _ h later

-- each end, counted from an earlier start, is small enough where the total is
pub EndsFrom-fits : (a total front most : ℕ) (ends : List ℕ) → EndsFrom a total ends → front + total < most → All (λ e. front + e < most) ends
EndsFrom-fits a total front most [] h lt = let P : ℕ → Type 0 = λ e. front + e < most in All-nil P
EndsFrom-fits a total front most (e ∷ ends) h lt = let P : ℕ → Type 0 = λ e. front + e < most in All-cons P e ends (omega (arith, EndsFrom-start e total ends h.1)) (EndsFrom-fits e total front most ends h.1 lt)

-- ---- so many pieces from a place on, and from the front

-- a place begins within the total
pub starts-within : (a total i : ℕ) (ends : List ℕ) → EndsFrom a total ends → i ≤ length ends → get_or (a ∷ ends) i 0 ≤ total
starts-within a total zero ends h le = EndsFrom-start a total ends h
starts-within a total (suc i) [] h le = absurd (omega arith)
starts-within a total (suc i) (e ∷ ends) h le = starts-within e total i ends h.1 (omega arith)

-- a later place begins no earlier
pub starts-rise : (a total i n : ℕ) (ends : List ℕ) → EndsFrom a total ends → i + n ≤ length ends → get_or (a ∷ ends) i 0 ≤ get_or (a ∷ ends) (i + n) 0
starts-rise a total i n ends h le =
    let before = EndsFrom-take a total (i + n) ends h le in
    let short : i ≤ length (take (i + n) ends) = omega (arith, length-take-le (i + n) ends le) in
    let same : get_or (a ∷ take (i + n) ends) i 0 ≡ get_or (a ∷ ends) i 0 = start-take a i (i + n) ends (omega arith) in
    rw (← same) (starts-within a (get_or (a ∷ ends) (i + n) 0) i (take (i + n) ends) before short)

part_ends : (from count : ℕ) (bytes ends : List ℕ) → EndsFrom 0 (length bytes) ends → from + count ≤ length ends → EndsFrom (get_or (0 ∷ ends) from 0) (get_or (0 ∷ ends) (from + count) 0) (take count (drop from ends))
part_ends from count bytes ends h le =
    let whole = EndsFrom-drop 0 (get_or (0 ∷ ends) (from + count) 0) from (take (from + count) ends) (EndsFrom-take 0 (length bytes) (from + count) ends h le) (omega (arith, length-take-le (from + count) ends le)) in
    let P : List ℕ → ℕ → Type 0 = λ l n. EndsFrom n (get_or (0 ∷ ends) (from + count) 0) l in
    let moved : P (take count (drop from ends)) (get_or (0 ∷ take (from + count) ends) from 0) = subst (λ l. P l (get_or (0 ∷ take (from + count) ends) from 0)) (drop-take from count ends) whole in
    subst (λ n. P (take count (drop from ends)) n) (start-take 0 from (from + count) ends (omega arith)) moved

pub pieces_from-part : (bytes ends : List ℕ) (from count s t : ℕ) → EndsFrom 0 (length bytes) ends → from + count ≤ length ends → s ≡ get_or (0 ∷ ends) from 0 → t ≡ get_or (0 ∷ ends) (from + count) 0 → pieces_from 0 (slice_range bytes s t) (map (less s) (take count (drop from ends))) ≡ take count (drop from (pieces_from 0 bytes ends))
pieces_from-part bytes ends from count s t h le es et =
    let part : EndsFrom s t (take count (drop from ends)) = rw (es, et) (part_ends from count bytes ends h le) in
    let zeroed : 0 ≡ s - s = omega arith in
    ap (λ n. pieces_from n (slice_range bytes s t) (map (less s) (take count (drop from ends)))) zeroed
    ∙ pieces_from-range s t s bytes (take count (drop from ends)) (omega arith) part
    ∙ pieces_from-take s count bytes (drop from ends)
    ∙ ap (take count) (ap (λ n. pieces_from n bytes (drop from ends)) es ∙ pieces_from-drop 0 from bytes ends (omega arith))

pub EndsFrom-part : (bytes ends : List ℕ) (from count s t : ℕ) → EndsFrom 0 (length bytes) ends → from + count ≤ length ends → s ≡ get_or (0 ∷ ends) from 0 → t ≡ get_or (0 ∷ ends) (from + count) 0 → EndsFrom 0 (length (slice_range bytes s t)) (map (less s) (take count (drop from ends)))
EndsFrom-part bytes ends from count s t h le es et =
    let part : EndsFrom s t (take count (drop from ends)) = rw (es, et) (part_ends from count bytes ends h le) in
    let inside : t ≤ length bytes = rw et (starts-within 0 (length bytes) (from + count) ends h le) in
    let long : length (slice_range bytes s t) ≡ t - s = length-take-le (t - s) (drop s bytes) (omega (arith, length-drop s bytes)) in
    let zeroed : s - s ≡ 0 = omega arith in
    let P : ℕ → Type 0 = λ n. EndsFrom n (t - s) (map (less s) (take count (drop from ends))) in
    rw long (subst P zeroed (EndsFrom-less s t s (take count (drop from ends)) (omega arith) part))

pub pieces_from-front : (bytes ends : List ℕ) (count t : ℕ) → EndsFrom 0 (length bytes) ends → count ≤ length ends → t ≡ get_or (0 ∷ ends) count 0 → pieces_from 0 (take t bytes) (take count ends) ≡ take count (pieces_from 0 bytes ends)
pieces_from-front bytes ends count t h le et =
    let front : EndsFrom 0 t (take count ends) = rw et (EndsFrom-take 0 (length bytes) count ends h le) in
    pieces_from-within t 0 bytes (take count ends) front ∙ pieces_from-take 0 count bytes ends

pub EndsFrom-front : (bytes ends : List ℕ) (count t : ℕ) → EndsFrom 0 (length bytes) ends → count ≤ length ends → t ≡ get_or (0 ∷ ends) count 0 → EndsFrom 0 (length (take t bytes)) (take count ends)
EndsFrom-front bytes ends count t h le et =
    let inside : t ≤ length bytes = rw et (starts-within 0 (length bytes) count ends h le) in
    rw (length-take-le t bytes inside) (rw et (EndsFrom-take 0 (length bytes) count ends h le))

pub ruleset pieces_rules = (length-pieces_from, EndsFrom-at, get_or-pieces_from, pieces_from-push, EndsFrom-push, pieces_from-append, EndsFrom-both, starts-within, starts-rise, pieces_from-part, EndsFrom-part, pieces_from-front, EndsFrom-front)
