-- How the pieces of a chunk follow each other, and what they pay.
use Rattle.std.proofs.Common.{◌≡◌, ℕ, ◌+◌, ◌/◌, ◌^◌, ◌<◌, ◌≤◌, Bool, true, false, cond, ltb, List, [], ◌∷◌, ◌++◌, Option, Some, None, length, map, take, drop, refl, ap, subst, sym, ◌∙◌, arith, drop-drop, length-drop, length-append, length-take}
use Rattle.std.specs.List.{flat_map}
use Rattle.std.proofs.lemmas.Grind.{flat_map-append}
use Rattle.std.proofs.lemmas.List.{length-map, take-append-drop, take_all}
use Rattle.std.proofs.Math.Nat.{div-le_self}
use Rattle.std.proofs.lemmas.Bool.{ltb-true}
use Rattle.pipe_frame.specs.Frame.{Table}
use Rattle.pipe_schema.specs.Rows.{Row}
use Rattle.pipe_frame.specs.declared.chunk.DataChunk.{DataChunk}
use Rattle.pipe_schema.specs.declared.field.Field.{Field}
use Rattle.pipe_expr.specs.Projections.{function_rows, function_fields, renamed_field, unpivoted_row}
use Rattle.pipe_expr.specs.declared.join_words.RenamePair.{RenamePair}
use Rattle.pipe_source.specs.Renamings.{renamed_frame}
use Rattle.std.proofs.lemmas.List.{map-id}
use Rattle.std.proofs.lemmas.List.Concat.{flat_map_single}
use Rattle.pipe_expr.specs.declared.join_words.FunctionIR.{FunctionIR}
use Rattle.pipe_expr.specs.declared.join_words.FunctionIR.TheVariants as function
use Rattle.pipe_ops.specs.Laws.{same-equal}
use Rattle.pipe_ops.specs.Offsets.{split_pieces, joined_pieces, Covers, Adjoin}
use Rattle.pipe_ops.specs.Pieces.{is_more, Pays, AnswersUnder}
use Rattle.pipe_ops.proofs.Covered.{split-covers, joined-covers}
use Rattle.pipe_source.specs.Applied.{applied, Applies}
use Rattle.pipe_source.specs.Cutting.{begun_pieces, IsFirst, is_none_left, should_grow, next_size, next_pieces}
use Rattle.pipe_source.specs.Operators.{pieces_of, turn_for, IsPiece, AnswersFor, Turns}
use Rattle.pipe_source.specs.declared.function.FunctionOperator.{FunctionOperator}
use Rattle.pipe_source.specs.Turns.{start_of, owed_of, FitsHeight, Fits, begun_of, Turn, is_unpivot, answer_with, applied_chunk, part_of_piece, made_by, aim_of, left_after, size_after, turn_of}
use Rattle.pipe_ops.specs.ChunkSizes.{chunk_size}
use Rattle.pipe_ops.specs.declared.operator.OperatorResult.{OperatorResult}
use Rattle.pipe_ops.specs.declared.operator.OperatorResult.TheVariants.{HaveMoreOutPut, Finished}

-- the first of some pieces
pub first-some : (begun left : List (ℕ × ℕ)) (p : ℕ × ℕ) → IsFirst begun (Some p) left → begun ≡ p ∷ left
first-some [] left p h = absurd h
first-some (q ∷ qs) left p h = ap (λ x. x ∷ qs) (sym h.0) ∙ ap (λ l. p ∷ l) (sym h.1)

pub first-none : (begun left : List (ℕ × ℕ)) → IsFirst begun None left → (begun ≡ []) × (left ≡ [])
first-none [] left h = (refl, h)
first-none (q ∷ qs) left h = absurd h

-- pieces that go up to an end begin before it, and adjoin
pub covers-within : (at end : ℕ) (ps : List (ℕ × ℕ)) → Covers at ps end → at ≤ end
covers-within at end [] h = omega arith
covers-within at end (p ∷ ps) h = let later = covers-within (at + p.1) end ps h.2 in omega arith

pub covers-adjoin : (at end : ℕ) (ps : List (ℕ × ℕ)) → Covers at ps end → end < 2 ^ 32 → Adjoin ps
covers-adjoin at end [] h fits = tt
covers-adjoin at end (p ∷ []) h fits = let e : at + p.1 ≡ end = h.2 in omega (arith, h.0)
covers-adjoin at end (p ∷ q ∷ ps) h fits = (omega (arith, h.0, h.2.0), covers-adjoin (at + p.1) end (q ∷ ps) h.2 fits)

-- the pieces of a chunk that is begun: the first begins where the rows begin that are owed, and they go up to the end
pub record Begun (pieces : List (ℕ × ℕ)) (height : ℕ) (p : ℕ × ℕ) (left : List (ℕ × ℕ)) : Type 0 where
  pub covers : Covers p.0 (p ∷ left) height
  pub start : start_of pieces ≡ p.0

begun-is : (pieces begun left : List (ℕ × ℕ)) (height : ℕ) (p : ℕ × ℕ) → begun ≡ p ∷ left → Covers (start_of begun) begun height → start_of pieces ≡ start_of begun → Begun pieces height p left
begun-is pieces begun left height p e covers start = record {
  covers = subst (λ (ps : List (ℕ × ℕ)). Covers (start_of ps) ps height) e covers;
  start = start ∙ ap start_of e;
}

covers-start : (height : ℕ) (ps : List (ℕ × ℕ)) → Covers 0 ps height → (0 ≡ start_of ps) × Covers (start_of ps) ps height
covers-start height [] h = (refl, h)
covers-start height (p ∷ ps) h = (sym h.0, subst (λ at. Covers at (p ∷ ps) height) (sym h.0) h)

begun-split : (size height : ℕ) (p : ℕ × ℕ) (left : List (ℕ × ℕ)) → begun_pieces size height [] ≡ p ∷ left → Begun [] height p left
begun-split size height p left e =
    let n = height / size in
    let split : (b : Bool) → ltb 1 n ≡ b → cond b (split_pieces height n) [] ≡ p ∷ left → Begun [] height p left = elim [
      | true ↦ λ many made. (
          let few : n ≤ height = div-le_self height size in
          let some : 1 < n = ltb-true 1 n many in
          let there = covers-start height (split_pieces height n) (split-covers height n (omega arith) few) in
          begun-is [] (split_pieces height n) left height p made there.1 there.0)
      | false ↦ λ few none. absurd (cc)
    ] in split (ltb 1 n) refl e

pub begun-first : (size height : ℕ) (pieces : List (ℕ × ℕ)) (p : ℕ × ℕ) (left : List (ℕ × ℕ)) → FitsHeight pieces height → begun_pieces size height pieces ≡ p ∷ left → Begun pieces height p left
begun-first size height [] p left fits e = begun-split size height p left e
begun-first size height (q ∷ qs) p left fits e = begun-is (q ∷ qs) (q ∷ qs) left height p e fits refl

pub begun-none : (size height : ℕ) (pieces : List (ℕ × ℕ)) → begun_pieces size height pieces ≡ [] → pieces ≡ []
begun-none size height [] e = refl
begun-none size height (q ∷ qs) e = absurd (cc)

-- the pieces that are left after one go on where it ends
pub covers-next : (made height aim at end : ℕ) (left : List (ℕ × ℕ)) → Covers at left end → Covers at (next_pieces made height aim left) end
covers-next made height aim at end left h =
    let split : (b : Bool) → Covers at (cond b (joined_pieces left) left) end = elim [ true ↦ joined-covers at end left h | false ↦ h ] in
    split (should_grow made height aim)

pub fits-next : (at end : ℕ) (left : List (ℕ × ℕ)) → Covers at left end → FitsHeight left end
fits-next at end [] h = tt
fits-next at end (p ∷ ps) h = subst (λ n. Covers n (p ∷ ps) end) (sym h.0) h

-- one row or more gives one row or more, where each does
some-rows : {X Y : Type 0} (f : X → List Y) (xs : List X) → ((x : X) → 0 < length (f x)) → 0 < length xs → 0 < length (flat_map f xs)
some-rows f [] each some = absurd (omega arith)
some-rows f (x ∷ xs) each some = let here = each x in omega (arith, length-append (f x) (flat_map f xs))

module _ {X : Type 0} (f : X → List Row) (each : (x : X) → 0 < length (f x)) (rows : List X) (p : ℕ × ℕ) where
  abbrev given : List Row
  given = flat_map f (take p.1 (drop p.0 rows))

  pub given-some : 0 < p.1 → p.0 + p.1 ≤ length rows → 0 < length given
  given-some some room =
      some-rows f (take p.1 (drop p.0 rows)) each (omega (arith, length-take p.1 (drop p.0 rows), length-drop p.0 rows))

  pub given-last : p.0 + p.1 ≡ length rows → flat_map f (drop p.0 rows) ≡ given
  given-last all =
      ap (flat_map f) (sym (take_all p.1 (drop p.0 rows) (omega (arith, length-drop p.0 rows))))

  pub given-first : flat_map f (drop p.0 rows) ≡ given ++ flat_map f (drop (p.0 + p.1) rows)
  given-first =
      ap (flat_map f) (sym (take-append-drop p.1 (drop p.0 rows)))
      ∙ flat_map-append f (take p.1 (drop p.0 rows)) (drop p.1 (drop p.0 rows))
      ∙ ap (λ (xs : List X). given ++ flat_map f xs) (drop-drop p.1 p.0 rows)

-- an unpivot makes one row or more of each
unpivot-some : (on index : List (List ℕ)) (variable value : List ℕ) (schema : List Field) → 0 < length on → (row : Row) → 0 < length (function_rows (function.Unpivot on index variable value) schema row)
unpivot-some on index variable value schema some row = omega (arith, some, length-map on (unpivoted_row schema index row))

module _ (on index : List (List ℕ)) (variable value : List ℕ) (workers size : ℕ) (chunk : DataChunk) (some : 0 < length on) where
  abbrev f : FunctionIR
  f = function.Unpivot on index variable value

  abbrev rows_of : Row → List Row
  rows_of = function_rows f chunk.frame.schema

  -- a piece, with what is left after it
  piece-pays : (p : ℕ × ℕ) (left : List (ℕ × ℕ)) → 0 < p.1 → p.0 + p.1 ≤ length chunk.frame.rows → Covers (p.0 + p.1) left (length chunk.frame.rows) → Pays (flat_map rows_of (drop p.0 chunk.frame.rows)) (owed_of f left chunk.frame) (answer_with left (applied_chunk f chunk (part_of_piece chunk p)))
  piece-pays p [] more room covers =
      same-equal (given-last rows_of (unpivot-some on index variable value chunk.frame.schema some) chunk.frame.rows p covers)
  piece-pays p (q ∷ qs) more room covers =
      let each = unpivot-some on index variable value chunk.frame.schema some in
      let end = covers-within (q.0 + q.1) (length chunk.frame.rows) qs (subst (λ n. Covers (n + q.1) qs (length chunk.frame.rows)) (sym covers.0) covers.2) in (
        given-some rows_of each chunk.frame.rows p more room,
        some-rows rows_of (drop q.0 chunk.frame.rows) each (omega (arith, covers.1, end, length-drop q.0 chunk.frame.rows)),
        same-equal (given-first rows_of each chunk.frame.rows p ∙ ap (λ n. given rows_of each chunk.frame.rows p ++ flat_map rows_of (drop n chunk.frame.rows)) (sym covers.0)),
      )

  unpivot-pays : (pieces begun : List (ℕ × ℕ)) → begun ≡ begun_pieces size (length chunk.frame.rows) pieces → FitsHeight pieces (length chunk.frame.rows) → Pays (owed_of f pieces chunk.frame) (owed_of f (turn_of f workers size chunk begun).left chunk.frame) (turn_of f workers size chunk begun).answer
  unpivot-pays pieces [] e fits =
      same-equal (ap (λ ps. owed_of f ps chunk.frame) (begun-none size (length chunk.frame.rows) pieces (sym e)))
  unpivot-pays pieces (p ∷ ps) e fits =
      let begun = begun-first size (length chunk.frame.rows) pieces p ps fits (sym e) in
      let end = covers-within (p.0 + p.1) (length chunk.frame.rows) ps begun.covers.2 in
      subst (λ at. Pays (flat_map rows_of (drop at chunk.frame.rows)) (owed_of f (turn_of f workers size chunk (p ∷ ps)).left chunk.frame) (turn_of f workers size chunk (p ∷ ps)).answer) (sym begun.start)
      (piece-pays p (left_after f workers chunk p ps) begun.covers.1 end (covers-next (made_by f chunk p) (length chunk.frame.rows) (aim_of workers chunk) (p.0 + p.1) (length chunk.frame.rows) ps begun.covers.2))

  unpivot-fits : (pieces begun : List (ℕ × ℕ)) → begun ≡ begun_pieces size (length chunk.frame.rows) pieces → FitsHeight pieces (length chunk.frame.rows) → FitsHeight (turn_of f workers size chunk begun).left (length chunk.frame.rows)
  unpivot-fits pieces [] e fits = tt
  unpivot-fits pieces (p ∷ ps) e fits =
      let begun = begun-first size (length chunk.frame.rows) pieces p ps fits (sym e) in
      fits-next (p.0 + p.1) (length chunk.frame.rows) (left_after f workers chunk p ps) (covers-next (made_by f chunk p) (length chunk.frame.rows) (aim_of workers chunk) (p.0 + p.1) (length chunk.frame.rows) ps begun.covers.2)

-- what a call pays, and how it leaves the chunk
pub turn-pays : (f : FunctionIR) (workers size : ℕ) (pieces : List (ℕ × ℕ)) (chunk : DataChunk) → Applies f chunk.frame.schema → Fits f pieces (length chunk.frame.rows) → let turn = turn_of f workers size chunk (begun_of f size (length chunk.frame.rows) pieces) in Pays (owed_of f pieces chunk.frame) (owed_of f turn.left chunk.frame) turn.answer
turn-pays (function.Unpivot on index variable value) workers size pieces chunk applies fits =
    unpivot-pays on index variable value workers size chunk applies.0.some pieces _ refl fits
turn-pays (function.Rename pairs) workers size pieces chunk applies fits =
    same-equal (ap (λ ps. owed_of (function.Rename pairs) ps chunk.frame) fits)

pub turn-fits : (f : FunctionIR) (workers size : ℕ) (pieces : List (ℕ × ℕ)) (chunk : DataChunk) → Applies f chunk.frame.schema → Fits f pieces (length chunk.frame.rows) → Fits f (turn_of f workers size chunk (begun_of f size (length chunk.frame.rows) pieces)).left (length chunk.frame.rows)
turn-fits (function.Unpivot on index variable value) workers size pieces chunk applies fits =
    unpivot-fits on index variable value workers size chunk applies.0.some pieces _ refl fits
turn-fits (function.Rename pairs) workers size pieces chunk applies fits = refl

last-with : (left : List (ℕ × ℕ)) (piece : DataChunk) → is_more (answer_with left piece) ≡ false → left ≡ []
last-with [] piece h = refl
last-with (p ∷ ps) piece h = absurd (cc)

-- nothing is left after the last piece
pub turn-last : (f : FunctionIR) (workers size : ℕ) (chunk : DataChunk) (begun : List (ℕ × ℕ)) → is_more (turn_of f workers size chunk begun).answer ≡ false → (turn_of f workers size chunk begun).left ≡ []
turn-last f workers size chunk [] h = refl
turn-last f workers size chunk (p ∷ ps) h = last-with (left_after f workers chunk p ps) (applied_chunk f chunk (part_of_piece chunk p)) h

under-with : (schema : List Field) (index : ℕ) (left : List (ℕ × ℕ)) (piece : DataChunk) → piece.frame.schema ≡ schema → piece.chunk_index ≡ index → AnswersUnder schema index (answer_with left piece)
under-with schema index [] piece s i = (s, i)
under-with schema index (p ∷ ps) piece s i = (s, i)

-- a piece has the schema of the function, and the chunk's index
pub turn-under : (f : FunctionIR) (workers size : ℕ) (chunk : DataChunk) (begun : List (ℕ × ℕ)) → AnswersUnder (function_fields f chunk.frame.schema) chunk.chunk_index (turn_of f workers size chunk begun).answer
turn-under f workers size chunk [] = (refl, refl)
turn-under f workers size chunk (p ∷ ps) = under-with (function_fields f chunk.frame.schema) chunk.chunk_index (left_after f workers chunk p ps) (applied_chunk f chunk (part_of_piece chunk p)) refl refl

-- ---- an unpivot's call, as its code makes it

begun-unpivot : (f : FunctionIR) (size height : ℕ) (pieces : List (ℕ × ℕ)) → is_unpivot f ≡ true → begun_of f size height pieces ≡ begun_pieces size height pieces
begun-unpivot (function.Unpivot on index variable value) size height pieces h = refl
begun-unpivot (function.Rename pairs) size height pieces h = absurd (cc)

fits-unpivot : (f : FunctionIR) (pieces : List (ℕ × ℕ)) (height : ℕ) → is_unpivot f ≡ true → Fits f pieces height → FitsHeight pieces height
fits-unpivot (function.Unpivot on index variable value) pieces height h fits = fits
fits-unpivot (function.Rename pairs) pieces height h fits = absurd (cc)

-- the first piece, where there is one
pub begun-by : (f : FunctionIR) (size height rows : ℕ) (pieces left : List (ℕ × ℕ)) (first : Option (ℕ × ℕ)) (p : ℕ × ℕ) → is_unpivot f ≡ true → Fits f pieces rows → height ≡ rows → IsFirst (begun_pieces size height pieces) first left → first ≡ Some p → Begun pieces rows p left
begun-by f size height rows pieces left first p unpivot fits same h is =
    let some : IsFirst (begun_pieces size rows pieces) (Some p) left =
    subst (λ (o : Option (ℕ × ℕ)). IsFirst (begun_pieces size rows pieces) o left) is (subst (λ n. IsFirst (begun_pieces size n pieces) first left) same h) in
    begun-first size rows pieces p left (fits-unpivot f pieces rows unpivot fits) (first-some (begun_pieces size rows pieces) left p some)

-- how a call goes on after a piece
pub record Goes (turn : Turn) (answer : OperatorResult) (size : ℕ) (left : List (ℕ × ℕ)) : Type 0 where
  pub answered : answer ≡ turn.answer
  pub sized : size ≡ turn.size
  pub leaves : left ≡ turn.left

pub goes-on : (f : FunctionIR) (workers size height count width aim next : ℕ) (chunk : DataChunk) (pieces left after : List (ℕ × ℕ)) (first : Option (ℕ × ℕ)) (p : ℕ × ℕ) (made : Table) (piece : DataChunk) → is_unpivot f ≡ true → height ≡ length chunk.frame.rows → IsFirst (begun_pieces size height pieces) first left → first ≡ Some p → made ≡ applied f (part_of_piece chunk p) → count ≡ length made.rows → width ≡ length chunk.frame.schema → aim ≡ chunk_size width workers → piece ≡ record { chunk_index = chunk.chunk_index; frame = made } → next ≡ next_size size count height aim → after ≡ next_pieces count height aim left → Goes (turn_of f workers size chunk (begun_of f size (length chunk.frame.rows) pieces)) (answer_with after piece) next after
goes-on f workers size height count width aim next chunk pieces left after first p made piece unpivot h is some m n w a e s l =
    let rows = length chunk.frame.rows in
    let begun : begun_of f size rows pieces ≡ p ∷ left =
    begun-unpivot f size rows pieces unpivot
    ∙ first-some (begun_pieces size rows pieces) left p (subst (λ (o : Option (ℕ × ℕ)). IsFirst (begun_pieces size rows pieces) o left) some (subst (λ k. IsFirst (begun_pieces size k pieces) first left) h is)) in
    let counted : count ≡ made_by f chunk p = n ∙ ap (λ (t : Table). length t.rows) m in
    let aimed : aim ≡ aim_of workers chunk = a ∙ ap (λ k. chunk_size k workers) w in
    let left_is : after ≡ left_after f workers chunk p left =
    l ∙ ap (λ k. next_pieces k height aim left) counted ∙ ap (λ k. next_pieces (made_by f chunk p) k aim left) h ∙ ap (λ k. next_pieces (made_by f chunk p) rows k left) aimed in
    let size_is : next ≡ size_after f workers size chunk p =
    s ∙ ap (λ k. next_size size k height aim) counted ∙ ap (λ k. next_size size (made_by f chunk p) k aim) h ∙ ap (λ k. next_size size (made_by f chunk p) rows k) aimed in
    let whole : piece ≡ applied_chunk f chunk (part_of_piece chunk p) = e ∙ ap (λ (t : Table). record { chunk_index = chunk.chunk_index; frame = t }) m in
    let there : Goes (turn_of f workers size chunk (p ∷ left)) (answer_with after piece) next after = record {
      answered = ap (λ (ps : List (ℕ × ℕ)). answer_with ps piece) left_is ∙ ap (answer_with (left_after f workers chunk p left)) whole;
      sized = size_is;
      leaves = left_is;
    } in
    subst (λ (ps : List (ℕ × ℕ)). Goes (turn_of f workers size chunk ps) (answer_with after piece) next after) (sym begun) there

-- the answer by what is left
pub answer-last : (left : List (ℕ × ℕ)) (piece : DataChunk) (b : Bool) → b ≡ is_none_left left → b ≡ true → Finished piece ≡ answer_with left piece
answer-last [] piece b e h = refl
answer-last (p ∷ ps) piece b e h = absurd (let no : false ≡ true = sym e ∙ h in cc)

pub answer-more : (left : List (ℕ × ℕ)) (piece : DataChunk) (b : Bool) → b ≡ is_none_left left → b ≡ false → HaveMoreOutPut piece ≡ answer_with left piece
answer-more [] piece b e h = absurd (let no : true ≡ false = sym e ∙ h in cc)
answer-more (p ∷ ps) piece b e h = refl

-- ---- a renaming's call

rename-whole : (pairs : List RenamePair) (frame : Table) → renamed_frame pairs frame ≡ applied (function.Rename pairs) frame
rename-whole pairs frame =
    ap (λ (rows : List Row). record { schema = map (renamed_field pairs) frame.schema; rows = rows }) (sym (flat_map_single (λ row. row) frame.rows ∙ map-id frame.rows))

pub rename-goes : (f : FunctionIR) (pairs more : List RenamePair) (workers size : ℕ) (pieces : List (ℕ × ℕ)) (chunk : DataChunk) (made : Table) (piece : DataChunk) → f ≡ function.Rename pairs → more ≡ pairs → Fits f pieces (length chunk.frame.rows) → made ≡ renamed_frame more chunk.frame → piece ≡ record { chunk_index = chunk.chunk_index; frame = made } → Goes (turn_of f workers size chunk (begun_of f size (length chunk.frame.rows) pieces)) (Finished piece) size pieces
rename-goes f pairs more workers size pieces chunk made piece is m fits made_is piece_is =
    let whole : made ≡ applied (function.Rename pairs) chunk.frame = made_is ∙ ap (λ (ps : List RenamePair). renamed_frame ps chunk.frame) m ∙ rename-whole pairs chunk.frame in
    let none : pieces ≡ [] = subst (λ (g : FunctionIR). Fits g pieces (length chunk.frame.rows)) is fits in
    let there : Goes (turn_of (function.Rename pairs) workers size chunk []) (Finished piece) size pieces = record {
      answered = ap Finished (piece_is ∙ ap (λ (t : Table). record { chunk_index = chunk.chunk_index; frame = t }) whole);
      sized = refl;
      leaves = none;
    } in
    subst (λ (g : FunctionIR). Goes (turn_of g workers size chunk (begun_of g size (length chunk.frame.rows) pieces)) (Finished piece) size pieces) (sym is) there

-- ---- what an operator that goes on so pays, and how it stands

pub turned-pays : (f g : FunctionIR) (workers size : ℕ) (pieces left : List (ℕ × ℕ)) (chunk : DataChunk) (answer : OperatorResult) → Applies f chunk.frame.schema → Fits f pieces (length chunk.frame.rows) → g ≡ f → let turn = turn_of f workers size chunk (begun_of f size (length chunk.frame.rows) pieces) in answer ≡ turn.answer → left ≡ turn.left → Pays (owed_of f pieces chunk.frame) (owed_of g left chunk.frame) answer
turned-pays f g workers size pieces left chunk answer applies fits same a l =
    let turn : Turn = turn_of f workers size chunk (begun_of f size (length chunk.frame.rows) pieces) in
    subst (λ (h : FunctionIR). Pays (owed_of f pieces chunk.frame) (owed_of h left chunk.frame) answer) (sym same)
    (subst (λ (ps : List (ℕ × ℕ)). Pays (owed_of f pieces chunk.frame) (owed_of f ps chunk.frame) answer) (sym l)
    (subst (λ (r : OperatorResult). Pays (owed_of f pieces chunk.frame) (owed_of f turn.left chunk.frame) r) (sym a) (turn-pays f workers size pieces chunk applies fits)))

pub turned-fits : (f g : FunctionIR) (workers size : ℕ) (pieces left : List (ℕ × ℕ)) (chunk : DataChunk) → Applies f chunk.frame.schema → Fits f pieces (length chunk.frame.rows) → g ≡ f → left ≡ (turn_of f workers size chunk (begun_of f size (length chunk.frame.rows) pieces)).left → Fits g left (length chunk.frame.rows)
turned-fits f g workers size pieces left chunk applies fits same l =
    subst (λ (h : FunctionIR). Fits h left (length chunk.frame.rows)) (sym same)
    (subst (λ (ps : List (ℕ × ℕ)). Fits f ps (length chunk.frame.rows)) (sym l) (turn-fits f workers size pieces chunk applies fits))

-- ---- what it answers is a piece

with-piece : (left : List (ℕ × ℕ)) (piece : DataChunk) → IsPiece (answer_with left piece)
with-piece [] piece = tt
with-piece (p ∷ ps) piece = tt

turn-piece : (f : FunctionIR) (workers size : ℕ) (chunk : DataChunk) (begun : List (ℕ × ℕ)) → IsPiece (turn_of f workers size chunk begun).answer
turn-piece f workers size chunk [] = tt
turn-piece f workers size chunk (p ∷ ps) = with-piece (left_after f workers chunk p ps) (applied_chunk f chunk (part_of_piece chunk p))

pub turned-answers : (op new : FunctionOperator) (chunk : DataChunk) (answer : OperatorResult) → Turns (turn_for op chunk) new answer → AnswersFor op chunk answer
turned-answers op new chunk answer turns = record {
  some = subst IsPiece (sym turns.answer_is) (turn-piece op.function op.workers op.cutting.size chunk (begun_of op.function op.cutting.size (length chunk.frame.rows) (pieces_of op)));
  turn = turns.answer_is;
}
