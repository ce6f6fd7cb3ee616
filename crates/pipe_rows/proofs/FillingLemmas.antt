-- Rows that are filled in one buffer.
use Rattle.std.proofs.Common.{◌≡◌, ℕ, zero, suc, ◌+◌, ◌-◌, ◌<◌, ◌≤◌, List, [], ◌∷◌, ◌++◌, length, get_or, set, take, drop, refl, ap, sym, ◌∙◌, arith, append_assoc, Vec, Bool, map}
use borrow.Author.Count.{below_more}
use Rattle.std.specs.Prelude.{slice_range, false}
use Rattle.std.specs.Vec.{with_items}
use Rattle.std.proofs.lemmas.List.{take-append-le, take-append-drop, drop-append-le, length-drop, length-take, length-take-le, length-append, map-append, take_all, with_items_is, get_or-set_same, get_or-set_other, set-get_or, append-nil, get_or-map, ext_get_or, length-set, length-map}
use Rattle.std.proofs.lemmas.List.FromFn.{get_or-map-range_with_len, length-map-range_with_len}
use Rattle.pipe_schema.specs.Rows.{Row}
use Rattle.pipe_column.specs.Series.{Cells}
use Rattle.pipe_column.specs.Columns.{row_at, column_rows}
use Rattle.std.proofs.lemmas.Slice.{drop-append-drop}
use Rattle.std.proofs.Math.Seq.{take-append_seam, take-suc}
use Rattle.pipe_column.specs.Column.{pieces_from, EndsFrom}
use Rattle.pipe_rows.specs.Encoded.{Encoded, unmarked, marked_rows}
use Rattle.pipe_rows.specs.Filling.{OpenRow, open_rows, open_row_at, appended, patched, unwritten, written_of, written_rows, AreWithin, HasRoom, AreFull}
use Rattle.pipe_rows.proofs.EncodedLemmas.{get_or-marked_rows, length-marked_rows}

-- as many rows as cursors
pub length-open_rows : (start : ℕ) (cursors ends : List ℕ) (buffer : List ℕ) (room : ℕ) → AreWithin start cursors ends room → length (open_rows start cursors ends buffer) ≡ length cursors
length-open_rows start [] ends buffer room h = refl
length-open_rows start (cursor ∷ cursors) [] buffer room h = absurd h
length-open_rows start (cursor ∷ cursors) (end ∷ ends) buffer room h = ap suc (length-open_rows end cursors ends buffer room h.2)

-- ---- a buffer with a part that is written anew

pub length-patched : (buffer : List ℕ) (at : ℕ) (bytes : List ℕ) → at + length bytes ≤ length buffer → length (patched buffer at bytes) ≡ length buffer
length-patched buffer at bytes h = omega (arith, length-append (take at buffer) (bytes ++ drop (at + length bytes) buffer), length-append bytes (drop (at + length bytes) buffer), length-take-le at buffer (omega arith), length-drop (at + length bytes) buffer)

-- a part that lies within the front of a list
range-front : (xs ys : List ℕ) (a b : ℕ) → a ≤ b → b ≤ length xs → slice_range (xs ++ ys) a b ≡ slice_range xs a b
range-front xs ys a b le inside =
    ap (take (b - a)) (drop-append-le a xs ys (omega arith)) ∙ take-append-le (b - a) (drop a xs) ys (omega (arith, length-drop a xs))

-- a part before what is written
pub range-before : (buffer : List ℕ) (at : ℕ) (bytes : List ℕ) (a b : ℕ) → at ≤ length buffer → a ≤ b → b ≤ at → slice_range (patched buffer at bytes) a b ≡ slice_range buffer a b
range-before buffer at bytes a b inside le before =
    let long : length (take at buffer) ≡ at = length-take-le at buffer inside in
    range-front (take at buffer) (bytes ++ drop (at + length bytes) buffer) a b le (omega arith)
    ∙ sym (range-front (take at buffer) (drop at buffer) a b le (omega arith))
    ∙ ap (λ l. slice_range l a b) (take-append-drop at buffer)

-- a part behind it
pub range-behind : (buffer : List ℕ) (at : ℕ) (bytes : List ℕ) (a b : ℕ) → at ≤ length buffer → at + length bytes ≤ a → slice_range (patched buffer at bytes) a b ≡ slice_range buffer a b
range-behind buffer at bytes a b inside behind =
    let long : length (take at buffer ++ bytes) ≡ at + length bytes = omega (arith, length-append (take at buffer) bytes, length-take-le at buffer inside) in
    ap (λ l. slice_range l a b) (sym (append_assoc (take at buffer) bytes (drop (at + length bytes) buffer)))
    ∙ ap (take (b - a)) (drop-append-drop (at + length bytes) buffer (take at buffer ++ bytes) a behind long)

-- a part that ends with it
pub range-grown : (buffer : List ℕ) (at : ℕ) (bytes : List ℕ) (a : ℕ) → at ≤ length buffer → a ≤ at → slice_range (patched buffer at bytes) a (at + length bytes) ≡ slice_range buffer a at ++ bytes
range-grown buffer at bytes a inside le =
    let front : List ℕ = take at buffer in
    let rest : List ℕ = drop (at + length bytes) buffer in
    let long : length front ≡ at = length-take-le at buffer inside in
    let old : drop a front ≡ slice_range buffer a at =
    sym (take_all (at - a) (drop a front) (omega (arith, length-drop a front)))
    ∙ sym (range-front front (drop at buffer) a at le (omega arith))
    ∙ ap (λ l. slice_range l a at) (take-append-drop at buffer) in
    let wide : at + length bytes - a ≡ length (drop a front ++ bytes) = omega (arith, length-append (drop a front) bytes, length-drop a front) in
    ap (take (at + length bytes - a)) (drop-append-le a front (bytes ++ rest) (omega arith) ∙ sym (append_assoc (drop a front) bytes rest))
    ∙ ap (λ n. take n ((drop a front ++ bytes) ++ rest)) wide
    ∙ take-append_seam (drop a front ++ bytes) rest
    ∙ ap (λ l. l ++ bytes) old

-- ---- the rows of such a buffer

-- a row starts at or behind where the rows start
start_below : (start : ℕ) (cursors ends : List ℕ) (room i : ℕ) → AreWithin start cursors ends room → i < length cursors → start ≤ get_or cursors i 0
start_below start [] ends room i h lt = absurd (omega arith)
start_below start (cursor ∷ cursors) [] room i h lt = absurd h
start_below start (cursor ∷ cursors) (end ∷ ends) room zero h lt = h.0
start_below start (cursor ∷ cursors) (end ∷ ends) room (suc i) h lt = let first = h.0 in let second = h.1 in let below = start_below end cursors ends room i h.2 (omega arith) in omega arith

start_within : (start : ℕ) (cursors ends : List ℕ) (room : ℕ) → AreWithin start cursors ends room → start ≤ room
start_within start [] [] room h = omega arith
start_within start [] (end ∷ ends) room h = absurd h
start_within start (cursor ∷ cursors) [] room h = absurd h
start_within start (cursor ∷ cursors) (end ∷ ends) room h = let first = h.0 in let second = h.1 in let below = start_within end cursors ends room h.2 in omega arith

-- what is written ends within the row
module _ (buffer bytes : List ℕ) where
  pub room_behind : (start : ℕ) (cursors ends : List ℕ) (i : ℕ) → AreWithin start cursors ends (length buffer) → i < length cursors → HasRoom bytes (open_row_at (open_rows start cursors ends buffer) i) → get_or cursors i 0 + length bytes ≤ get_or ends i 0 × get_or ends i 0 ≤ length buffer
  room_behind start [] ends i h lt room = absurd (omega arith)
  room_behind start (cursor ∷ cursors) [] i h lt room = absurd h
  room_behind start (cursor ∷ cursors) (end ∷ ends) zero h lt room =
      let first = h.0 in let second = h.1 in let last = start_within end cursors ends (length buffer) h.2 in
      let long : length (slice_range buffer start cursor) ≡ cursor - start = omega (arith, length-take (cursor - start) (drop start buffer), length-drop start buffer) in
      (omega arith, last)
  room_behind start (cursor ∷ cursors) (end ∷ ends) (suc i) h lt room = room_behind end cursors ends i h.2 (omega arith) room

pub within_moved : (start : ℕ) (cursors ends : List ℕ) (room i to : ℕ) → AreWithin start cursors ends room → i < length cursors → get_or cursors i 0 ≤ to → to ≤ get_or ends i 0 → AreWithin start (set cursors i to) ends room
within_moved start [] ends room i to h lt up down = absurd (omega arith)
within_moved start (cursor ∷ cursors) [] room i to h lt up down = absurd h
within_moved start (cursor ∷ cursors) (end ∷ ends) room zero to h lt up down = (let first = h.0 in omega arith, down, h.2)
within_moved start (cursor ∷ cursors) (end ∷ ends) room (suc i) to h lt up down = (h.0, h.1, within_moved end cursors ends room i to h.2 (omega arith) up down)

-- rows behind what is written
slots_behind : (buffer : List ℕ) (at : ℕ) (bytes : List ℕ) (start : ℕ) (cursors ends : List ℕ) → at ≤ length buffer → at + length bytes ≤ start → AreWithin start cursors ends (length buffer) → open_rows start cursors ends (patched buffer at bytes) ≡ open_rows start cursors ends buffer
slots_behind buffer at bytes start [] ends inside behind h = refl
slots_behind buffer at bytes start (cursor ∷ cursors) [] inside behind h = refl
slots_behind buffer at bytes start (cursor ∷ cursors) (end ∷ ends) inside behind h =
    ap (λ l. record { written = l; width = end - start } ∷ open_rows end cursors ends (patched buffer at bytes)) (range-behind buffer at bytes start cursor inside behind)
    ∙ ap (λ l. record { written = slice_range buffer start cursor; width = end - start } ∷ l) (slots_behind buffer at bytes end cursors ends inside (let first = h.0 in let second = h.1 in omega arith) h.2)

-- what is written at a row's cursor goes to that row
pub slots_appended : (buffer bytes : List ℕ) (start : ℕ) (cursors ends : List ℕ) (i : ℕ) → AreWithin start cursors ends (length buffer) → i < length cursors → get_or cursors i 0 + length bytes ≤ get_or ends i 0 → get_or ends i 0 ≤ length buffer
    → open_rows start (set cursors i (get_or cursors i 0 + length bytes)) ends (patched buffer (get_or cursors i 0) bytes) ≡ set (open_rows start cursors ends buffer) i (appended bytes (open_row_at (open_rows start cursors ends buffer) i))
slots_appended buffer bytes start [] ends i h lt fits inside = absurd (omega arith)
slots_appended buffer bytes start (cursor ∷ cursors) [] i h lt fits inside = absurd h
slots_appended buffer bytes start (cursor ∷ cursors) (end ∷ ends) zero h lt fits inside =
    ap (λ l. record { written = l; width = end - start } ∷ open_rows end cursors ends (patched buffer cursor bytes)) (range-grown buffer cursor bytes start (omega arith) h.0)
    ∙ ap (λ l. record { written = slice_range buffer start cursor ++ bytes; width = end - start } ∷ l) (slots_behind buffer cursor bytes end cursors ends (omega arith) fits h.2)
slots_appended buffer bytes start (cursor ∷ cursors) (end ∷ ends) (suc i) h lt fits inside =
    let below = start_below end cursors ends (length buffer) i h.2 (omega arith) in
    let second = h.1 in
    ap (λ l. record { written = l; width = end - start } ∷ open_rows end (set cursors i (get_or cursors i 0 + length bytes)) ends (patched buffer (get_or cursors i 0) bytes)) (range-before buffer (get_or cursors i 0) bytes start cursor (omega arith) h.0 (omega arith))
    ∙ ap (λ l. record { written = slice_range buffer start cursor; width = end - start } ∷ l) (slots_appended buffer bytes end cursors ends i h.2 (omega arith) fits inside)

get_or-any : (xs : List ℕ) (i d e : ℕ) → i < length xs → get_or xs i d ≡ get_or xs i e
get_or-any [] i d e lt = absurd (omega arith)
get_or-any (x ∷ xs) zero d e lt = refl
get_or-any (x ∷ xs) (suc i) d e lt = get_or-any xs i d e (omega arith)

-- some bytes are written to a row that has room
module _ (buffer bytes cursors ends : List ℕ) (i at : ℕ) (seen : List OpenRow) (v : open_rows 0 cursors ends buffer ≡ seen) (h : AreWithin 0 cursors ends (length buffer)) (lt : i < length seen) (room : HasRoom bytes (open_row_at seen i)) (read : at ≡ get_or cursors i at) where
  inside : i < length cursors
  inside = omega (arith, length-open_rows 0 cursors ends buffer (length buffer) h, ap length v)

  at_cursor : at ≡ get_or cursors i 0
  at_cursor = read ∙ get_or-any cursors i at 0 inside

  fits : at + length bytes ≤ get_or ends i 0 × get_or ends i 0 ≤ length buffer
  fits = rw at_cursor (room_behind buffer bytes 0 cursors ends i h inside (rw v room))

  pub put_fits : at + length bytes ≤ length buffer
  put_fits = let below = fits.0 in let last = fits.1 in omega arith

  pub put_within : (new : List ℕ) → new ≡ patched buffer at bytes → AreWithin 0 (set cursors i (at + length bytes)) ends (length new)
  put_within new e = rw (e, length-patched buffer at bytes put_fits) (within_moved 0 cursors ends (length buffer) i (at + length bytes) h inside (let same = at_cursor in omega arith) fits.0)

  pub put_seen : (new : List ℕ) → new ≡ patched buffer at bytes → open_rows 0 (set cursors i (at + length bytes)) ends new ≡ set seen i (appended bytes (open_row_at seen i))
  put_seen new e = rw (e, at_cursor, ← v) (slots_appended buffer bytes 0 cursors ends i h inside (let below = fits.0 in let same = at_cursor in omega arith) fits.1)

-- the buffer of a vector
pub written_items : {Z : Type 0} (v : Vec ℕ Z) (new : List ℕ) (at : ℕ) (bytes : List ℕ) → at + length bytes ≤ length v.items → new ≡ patched v.items at bytes → (with_items v new).items ≡ patched v.items at bytes
written_items v new at bytes h e = with_items_is v new (ap length e ∙ length-patched v.items at bytes h ∙ sym v.ok.0) ∙ e

-- bytes that are written one after another
pub appended_twice : (slots : List OpenRow) (i : ℕ) (a b : List ℕ) → i < length slots → set (set slots i (appended a (open_row_at slots i))) i (appended b (open_row_at (set slots i (appended a (open_row_at slots i))) i)) ≡ set slots i (appended (a ++ b) (open_row_at slots i))
appended_twice [] i a b lt = absurd (omega arith)
appended_twice (slot ∷ slots) zero a b lt = ap (λ l. record slot { written = l } ∷ slots) (append_assoc slot.written a b)
appended_twice (slot ∷ slots) (suc i) a b lt = ap (λ l. slot ∷ l) (appended_twice slots i a b (omega arith))

pub append_twice : (slots one two : List OpenRow) (i : ℕ) (a b : List ℕ) → i < length slots → one ≡ set slots i (appended a (open_row_at slots i)) → two ≡ set one i (appended b (open_row_at one i)) → two ≡ set slots i (appended (a ++ b) (open_row_at slots i))
append_twice slots one two i a b lt e f = rw (f, e) (appended_twice slots i a b lt)

-- ---- the rows at first

-- where the last row ends
abbrev last_end : ℕ → List ℕ → ℕ
last_end start [] = start
last_end start (end ∷ ends) = last_end end ends

last_end-push : (start : ℕ) (ends : List ℕ) (end : ℕ) → last_end start (ends ++ end ∷ []) ≡ end
last_end-push start [] end = refl
last_end-push start (first ∷ ends) end = last_end-push first ends end

-- one more row, behind the others
pub slots_pushed : (start : ℕ) (cursors ends : List ℕ) (width : ℕ) (buffer : List ℕ) → length cursors ≡ length ends → open_rows start (cursors ++ last_end start ends ∷ []) (ends ++ (last_end start ends + width) ∷ []) buffer ≡ open_rows start cursors ends buffer ++ unwritten width ∷ []
slots_pushed start [] [] width buffer h =
    let none : start - start ≡ 0 = omega arith in
    let wide : start + width - start ≡ width = omega arith in
    ap (λ n. record { written = take n (drop start buffer); width = start + width - start } ∷ []) none ∙ ap (λ n. record { written = []; width = n } ∷ []) wide
slots_pushed start [] (_ ∷ _) width buffer h = cc
slots_pushed start (_ ∷ _) [] width buffer h = cc
slots_pushed start (cursor ∷ cursors) (end ∷ ends) width buffer h = ap (λ l. record { written = slice_range buffer start cursor; width = end - start } ∷ l) (slots_pushed end cursors ends width buffer (omega arith))

pub within_pushed : (start : ℕ) (cursors ends : List ℕ) (width : ℕ) → AreWithin start cursors ends (last_end start ends) → AreWithin start (cursors ++ last_end start ends ∷ []) (ends ++ (last_end start ends + width) ∷ []) (last_end start ends + width)
within_pushed start [] [] width h = (omega arith, omega arith, refl)
within_pushed start [] (_ ∷ _) width h = absurd h
within_pushed start (_ ∷ _) [] width h = absurd h
within_pushed start (cursor ∷ cursors) (end ∷ ends) width h = (h.0, h.1, within_pushed end cursors ends width h.2)

length-within : (start : ℕ) (cursors ends : List ℕ) (room : ℕ) → AreWithin start cursors ends room → length cursors ≡ length ends
length-within start [] [] room h = refl
length-within start [] (_ ∷ _) room h = absurd h
length-within start (_ ∷ _) [] room h = absurd h
length-within start (cursor ∷ cursors) (end ∷ ends) room h = ap suc (length-within end cursors ends room h.2)

-- the rows of the first widths
pub record Started (cursors ends widths : List ℕ) (end : ℕ) : Type 0 where
  pub last : last_end 0 ends ≡ end
  pub within : AreWithin 0 cursors ends end
  pub slots : (buffer : List ℕ) → open_rows 0 cursors ends buffer ≡ map unwritten widths

pub started : Started [] [] [] 0
started = record { last = refl; within = omega arith; slots = λ buffer. refl }

pub take_one : (xs : List ℕ) (i : ℕ) → i < length xs → take (i + 1) xs ≡ take i xs ++ get_or xs i 0 ∷ []
take_one xs i lt = let next : i + 1 ≡ suc i = omega arith in ap (λ n. take n xs) next ∙ take-suc xs i 0 lt

pub started_more : (cursors ends widths : List ℕ) (end width next : ℕ) {more : List ℕ} {further : List ℕ} {wider : List ℕ} → Started cursors ends widths end → next ≡ end + width → more ≡ cursors ++ end ∷ [] → further ≡ ends ++ next ∷ [] → wider ≡ widths ++ width ∷ [] → Started more further wider next
started_more cursors ends widths end width next s n e f g =
    rw (g, f, e, n, ← s.last) (record {
      last = last_end-push 0 ends (last_end 0 ends + width);
      within = within_pushed 0 cursors ends width (rw s.last s.within);
      slots = λ buffer. slots_pushed 0 cursors ends width buffer (length-within 0 cursors ends end s.within) ∙ ap (λ l. l ++ unwritten width ∷ []) (s.slots buffer) ∙ sym (map-append unwritten widths (width ∷ []));
    })

-- ---- the rows at last

pub ends_rise : (start : ℕ) (cursors ends : List ℕ) (room : ℕ) → AreWithin start cursors ends room → EndsFrom start room ends
ends_rise start [] [] room h = h
ends_rise start [] (_ ∷ _) room h = absurd h
ends_rise start (_ ∷ _) [] room h = absurd h
ends_rise start (cursor ∷ cursors) (end ∷ ends) room h = (let first = h.0 in let second = h.1 in omega arith, ends_rise end cursors ends room h.2)

-- where each row has all its bytes, the pieces of the buffer are the rows
full_pieces : (start : ℕ) (cursors ends : List ℕ) (buffer : List ℕ) → AreWithin start cursors ends (length buffer) → AreFull (open_rows start cursors ends buffer) → pieces_from start buffer ends ≡ written_rows (open_rows start cursors ends buffer)
full_pieces start [] [] buffer h full = refl
full_pieces start [] (_ ∷ _) buffer h full = absurd h
full_pieces start (_ ∷ _) [] buffer h full = absurd h
full_pieces start (cursor ∷ cursors) (end ∷ ends) buffer h full =
    let first = h.0 in let second = h.1 in let last = start_within end cursors ends (length buffer) h.2 in
    let wide : length (slice_range buffer start cursor) ≡ end - start = full 0 (omega arith) in
    let same : end ≡ cursor = omega (arith, length-take (cursor - start) (drop start buffer), length-drop start buffer) in
    ap (λ n. slice_range buffer start n ∷ pieces_from end buffer ends) same
    ∙ ap (λ l. slice_range buffer start cursor ∷ l) (full_pieces end cursors ends buffer h.2 (λ j below. full (suc j) (omega arith)))

pub finished_pieces : (cursors ends buffer : List ℕ) (seen : List OpenRow) → open_rows 0 cursors ends buffer ≡ seen → AreWithin 0 cursors ends (length buffer) → AreFull seen → pieces_from 0 buffer ends ≡ written_rows seen
finished_pieces cursors ends buffer seen v h full = full_pieces 0 cursors ends buffer h (rw v full) ∙ ap written_rows v

-- ---- bytes in two parts

pub room_first : (a b : List ℕ) (slot : OpenRow) → HasRoom (a ++ b) slot → HasRoom a slot
room_first a b slot h = omega (arith, length-append a b)

pub room_second : (slots one : List OpenRow) (i : ℕ) (a b : List ℕ) → i < length slots → HasRoom (a ++ b) (open_row_at slots i) → one ≡ set slots i (appended a (open_row_at slots i)) → HasRoom b (open_row_at one i)
room_second slots one i a b lt h e =
    let here : open_row_at one i ≡ appended a (open_row_at slots i) = rw e (get_or-set_same slots i (appended a (open_row_at slots i)) (unwritten 0) lt) in
    rw here (omega (arith, length-append a b, length-append (open_row_at slots i).written a))

pub length-one : (slots one : List OpenRow) (i : ℕ) (slot : OpenRow) → one ≡ set slots i slot → length one ≡ length slots
length-one slots one i slot e = ap length e ∙ length-set slots i slot

-- ---- bytes one after another

-- what is left of some bytes that a row gets
pub record Appending (i : ℕ) (rest : List ℕ) (now : List OpenRow) (whole : List ℕ) (before : List OpenRow) : Type 0 where
  pub count : length now ≡ length before
  pub room : HasRoom rest (open_row_at now i)
  pub same : set now i (appended rest (open_row_at now i)) ≡ set before i (appended whole (open_row_at before i))

pub appending_more : (i : ℕ) (a b rest whole : List ℕ) (now one before : List OpenRow) → Appending i rest now whole before → i < length before → rest ≡ a ++ b → one ≡ set now i (appended a (open_row_at now i)) → Appending i b one whole before
appending_more i a b rest whole now one before s lt split e =
    let inside : i < length now = let long = s.count in omega arith in
    record {
      count = length-one now one i (appended a (open_row_at now i)) e ∙ s.count;
      room = room_second now one i a b inside (rw (← split) s.room) e;
      same = append_twice now one (set one i (appended b (open_row_at one i))) i a b inside e refl ∙ ap (λ l. set now i (appended l (open_row_at now i))) (sym split) ∙ s.same;
    }

pub appending_end : (i : ℕ) (whole : List ℕ) (now before : List OpenRow) → Appending i [] now whole before → now ≡ set before i (appended whole (open_row_at before i))
appending_end i whole now before s = sym (ap (λ l. set now i (record (open_row_at now i) { written = l })) (append-nil (open_row_at now i).written) ∙ set-get_or now i (unwritten 0)) ∙ s.same

-- ---- one place after another

-- the first places of a list were replaced
pub record Stored {X : Type 0} (d : X) (i : ℕ) (f : ℕ → X → X) (now before : List X) : Type 0 where
  pub count : length now ≡ length before
  pub done : (k : ℕ) → k < i → k < length before → get_or now k d ≡ f k (get_or before k d)
  pub rest : (k : ℕ) → i ≤ k → get_or now k d ≡ get_or before k d

pub stored_none : {X : Type 0} (d : X) (f : ℕ → X → X) (xs : List X) → Stored d 0 f xs xs
stored_none d f xs = record { count = refl; done = λ k lt below. absurd (omega arith); rest = λ k le. refl }

pub stored_more : {X : Type 0} (d : X) (i : ℕ) (f : ℕ → X → X) (now before new : List X) (y : X) → Stored d i f now before → i < length before → y ≡ f i (get_or now i d) → new ≡ set now i y → Stored d (i + 1) f new before
stored_more {X} d i f now before new y s lt made e =
    let inside : i < length now = let long = s.count in omega arith in
    let here : get_or new i d ≡ f i (get_or before i d) = rw e (get_or-set_same now i y d inside) ∙ made ∙ ap (f i) (s.rest i (omega arith)) in
    record {
      count = ap length e ∙ length-set now i y ∙ s.count;
      done = below_more (λ k. k < length before → get_or new k d ≡ f k (get_or before k d)) i (λ k low below. rw e (get_or-set_other now i k y d (λ same. omega arith)) ∙ s.done k low below) (λ below. here);
      rest = λ k le. rw e (get_or-set_other now i k y d (λ same. omega arith)) ∙ s.rest k (omega arith);
    }

pub stored_all : {X : Type 0} (d : X) (i : ℕ) (f : ℕ → X → X) (now before : List X) → Stored d i f now before → length before ≤ i → (k : ℕ) → k < length before → get_or now k d ≡ f k (get_or before k d)
stored_all d i f now before s le k lt = s.done k (omega arith) lt

-- where each place is replaced by a function of it, the list is mapped
pub stored_map : {X : Type 0} (d : X) (i : ℕ) (f : X → X) (now before : List X) → Stored d i (λ k x. f x) now before → length before ≤ i → now ≡ map f before
stored_map d i f now before s le = ext_get_or d now (map f before) (s.count ∙ sym (length-map before f)) (λ k lt. let below : k < length before = (let count = s.count in omega arith) in s.done k (omega arith) below ∙ sym (get_or-map f before k d d below))

-- ---- all rows

module _ (n : ℕ) (widths : List ℕ) (first : List OpenRow) (bytes : ℕ → List ℕ) (count : length widths ≡ n) (w : (i : ℕ) → i < n → get_or widths i 0 ≡ length (bytes i)) (f : first ≡ map unwritten widths) where
  pub first_count : length first ≡ n
  first_count = ap length f ∙ length-map widths unwritten ∙ count

  first_at : (i : ℕ) → i < n → open_row_at first i ≡ unwritten (length (bytes i))
  first_at i lt = rw f (get_or-map unwritten widths i 0 (unwritten 0) (omega (arith, count))) ∙ ap unwritten (w i lt)

  pub first_room : (i : ℕ) → i < length first → HasRoom (bytes i) (open_row_at first i)
  first_room i lt = rw (first_at i (omega (arith, first_count))) (omega arith)

  module _ (last : List OpenRow) (same : length last ≡ length first) (l : (i : ℕ) → i < length first → open_row_at last i ≡ appended (bytes i) (open_row_at first i)) where
    pub last_count : length last ≡ n
    last_count = same ∙ first_count

    last_at : (i : ℕ) → i < n → open_row_at last i ≡ record { written = bytes i; width = length (bytes i) }
    last_at i lt = l i (omega (arith, first_count)) ∙ ap (appended (bytes i)) (first_at i lt)

    pub last_full : AreFull last
    last_full i lt = rw (last_at i (omega (arith, last_count))) refl

    -- the rows of the buffer with their marks
    pub rows_made : (columns : List Cells) (encoded : Row → Encoded) (marks : List Bool) → ((i : ℕ) → i < n → encoded (row_at columns i) ≡ record { bytes = bytes i; has_null = get_or marks i false }) → length marks ≡ length last → marked_rows (written_rows last) marks ≡ map encoded (column_rows columns n)
    rows_made columns encoded marks e long =
        let wide : length (written_rows last) ≡ length last = length-map last written_of in
        let count : length (marked_rows (written_rows last) marks) ≡ length last = length-marked_rows (written_rows last) marks (long ∙ sym wide) ∙ wide in
        ext_get_or (unmarked []) (marked_rows (written_rows last) marks) (map encoded (column_rows columns n)) (count ∙ last_count ∙ sym (length-map (column_rows columns n) encoded ∙ length-map-range_with_len (row_at columns) 0 n))
        (λ i lt.
        let inside : i < n = omega (arith, count, last_count) in
        let below : i < length last = omega (arith, count) in
        get_or-marked_rows (written_rows last) marks i false (unmarked []) (long ∙ sym wide) (omega (arith, wide))
        ∙ ap (λ l. record { bytes = l; has_null = get_or marks i false }) (get_or-map written_of last i (unwritten 0) [] below ∙ ap written_of (last_at i inside))
        ∙ sym (e i inside)
        ∙ ap encoded (sym (get_or-map-range_with_len (row_at columns) 0 n i i [] inside (omega arith)))
        ∙ sym (get_or-map encoded (column_rows columns n) i [] (unmarked []) (omega (arith, length-map-range_with_len (row_at columns) 0 n))))

pub ruleset filling_rules = (length-open_rows)
