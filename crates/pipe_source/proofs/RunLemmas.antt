-- Runs of chunks: one more chunk, and what they are together.
use Rattle.std.proofs.Common.{◌≡◌, ℕ, suc, zero, ◌+◌, ◌-◌, ◌<◌, ◌≤◌, List, [], ◌∷◌, ◌++◌, length, take, drop, refl, ap, sym, ◌∙◌, subst, arith, append_assoc, length-drop, drop-drop}
use Rattle.std.specs.Prelude.{All, slice_index_or}
use Rattle.std.specs.List.{flat_map, sum_by}
use Rattle.std.specs.List.Sorted.{IsNonDecreasingBy}
use Rattle.std.proofs.lemmas.List.{take_all, append-nil, at_drop_more, take-append-le, drop-append-le, take-append-drop}
use Rattle.std.proofs.lemmas.List.Sums.{sum_by-cons, sum_by-append}
use Rattle.std.proofs.lemmas.List.Elements.{All-append}
use Rattle.std.proofs.lemmas.List.Sorted.{IsNonDecreasingBy-push, IsNonDecreasingBy-short}
use Rattle.pipe_frame.specs.Chunks.{HasSchema, chunk_rows}
use Rattle.pipe_frame.specs.Frame.{Table}
use Rattle.pipe_schema.specs.Rows.{Row}
use Rattle.pipe_frame.specs.declared.chunk.DataChunk.{DataChunk}
use Rattle.pipe_schema.specs.declared.field.Field.{Field}
use Rattle.pipe_source.specs.Ordered.{index_in}
use Rattle.pipe_source.specs.Runs.{IsRun, IsUpTo, IsFrom, BeginsFrom, height_in, cut_rows}
use Rattle.pipe_source.specs.declared.chunk_run.Piece.{Piece}

-- one piece more
pub cut_more : (schema : List Field) (rows more : List Row) (pieces : List Piece) (piece : Piece) → sum_by height_in pieces ≡ length rows → piece.height ≡ length more
    → cut_rows schema (rows ++ more) (pieces ++ (piece ∷ [])) ≡ cut_rows schema rows pieces ++ (record { chunk_index = piece.chunk_index; frame = record { schema = schema; rows = more } } ∷ [])
cut_more schema [] more [] piece whole high = rw (high, take_all (length more) more (omega arith)) refl
cut_more schema (row ∷ rows) more [] piece whole high = absurd (omega (arith, whole))
cut_more schema rows more (p ∷ pieces) piece whole high =
    let sum = sum_by-cons height_in p pieces in
    let fits : p.height ≤ length rows = omega (arith, whole, sum) in
    let front : take p.height (rows ++ more) ≡ take p.height rows = take-append-le p.height rows more fits in
    let back : drop p.height (rows ++ more) ≡ drop p.height rows ++ more = drop-append-le p.height rows more fits in
    let rest = cut_more schema (drop p.height rows) more pieces piece (omega (arith, whole, sum, length-drop p.height rows)) high in
    rw (front, back, rest) refl

-- the pieces' rows together
pub cut_whole : (schema : List Field) (rows : List Row) (pieces : List Piece) → sum_by height_in pieces ≡ length rows → flat_map chunk_rows (cut_rows schema rows pieces) ≡ rows
cut_whole schema [] [] whole = refl
cut_whole schema (row ∷ rows) [] whole = absurd (omega (arith, whole))
cut_whole schema rows (p ∷ pieces) whole =
    let rest = cut_whole schema (drop p.height rows) pieces (omega (arith, whole, sum_by-cons height_in p pieces, length-drop p.height rows)) in
    ap (λ l. take p.height rows ++ l) rest ∙ take-append-drop p.height rows

pub cut_schema : (schema : List Field) (rows : List Row) (pieces : List Piece) → All (HasSchema schema) (cut_rows schema rows pieces)
cut_schema schema rows [] k d less = absurd (omega arith)
cut_schema schema rows (p ∷ pieces) zero d less = refl
cut_schema schema rows (p ∷ pieces) (suc k) d less = cut_schema schema (drop p.height rows) pieces k d (omega (arith, less))

-- where the first piece has no lower index, no chunk has
pub from_first : (schema : List Field) (rows : List Row) (pieces : List Piece) (first : ℕ) → BeginsFrom first pieces → IsNonDecreasingBy index_in (cut_rows schema rows pieces) → All (IsFrom first) (cut_rows schema rows pieces)
from_first schema rows [] first begins rises k d less = absurd (omega (arith, less))
from_first schema rows (p ∷ pieces) first begins rises k d less = omega (arith, begins, rises 0 k d (omega arith) less)

-- the only piece is the frame
pub only_piece : (schema : List Field) (rows : List Row) (pieces : List Piece) (piece : Piece) → length pieces ≡ 1 → piece ≡ slice_index_or pieces 0 piece → sum_by height_in pieces ≡ length rows
    → cut_rows schema rows pieces ≡ record { chunk_index = piece.chunk_index; frame = record { schema = schema; rows = rows } } ∷ []
only_piece schema rows [] piece one at whole = absurd (omega (arith, one))
only_piece schema rows (p ∷ []) piece one at whole =
    let high : p.height ≡ length rows = omega (arith, whole, sum_by-cons height_in p []) in
    rw (at, high, take_all (length rows) rows (omega arith)) refl
only_piece schema rows (p ∷ q ∷ pieces) piece one at whole = absurd (omega (arith, one))

-- a run of one chunk
pub run_of_one : (chunk : DataChunk) (piece : Piece) → piece.chunk_index ≡ chunk.chunk_index → piece.height ≡ length chunk.frame.rows
    → cut_rows chunk.frame.schema chunk.frame.rows (piece ∷ []) ≡ chunk ∷ []
run_of_one chunk piece index high = rw (index, high, take_all (length chunk.frame.rows) chunk.frame.rows (omega arith)) refl

pub is_run_of_one : (chunk : DataChunk) (pieces : List Piece) (piece : Piece) → pieces ≡ piece ∷ [] → piece.chunk_index ≡ chunk.chunk_index → piece.height ≡ length chunk.frame.rows → IsRun chunk pieces
is_run_of_one chunk pieces piece e index high =
    let one = ap (cut_rows chunk.frame.schema chunk.frame.rows) e ∙ run_of_one chunk piece index high in
    record {
      whole = ap (sum_by height_in) e ∙ omega (arith, high);
      rises = subst (IsNonDecreasingBy index_in) (sym one) (IsNonDecreasingBy-short index_in (chunk ∷ []) (omega arith));
      below = subst (All (IsUpTo chunk.chunk_index)) (sym one) (λ k d less. let z : k ≡ 0 = omega (arith, less) in rw z (omega arith));
    }

sum_more : (pieces : List Piece) (piece : Piece) → sum_by height_in (pieces ++ (piece ∷ [])) ≡ sum_by height_in pieces + piece.height
sum_more pieces piece = let one : sum_by height_in (piece ∷ []) ≡ piece.height = omega arith in sum_by-append height_in pieces (piece ∷ []) ∙ ap (λ n. sum_by height_in pieces + n) one

length-more : (rows more : List Row) → length (rows ++ more) ≡ length rows + length more
length-more [] more = omega arith
length-more (row ∷ rows) more = omega (arith, length-more rows more)

-- a run with a chunk more
pub is_run_of_more : (all new chunk : DataChunk) (pieces pieces' : List Piece) (piece : Piece) → IsRun all pieces
    → new.frame ≡ record { schema = all.frame.schema; rows = all.frame.rows ++ chunk.frame.rows } → new.chunk_index ≡ piece.chunk_index
    → pieces' ≡ pieces ++ (piece ∷ []) → piece.chunk_index ≡ chunk.chunk_index → piece.height ≡ length chunk.frame.rows → all.frame.schema ≡ chunk.frame.schema → all.chunk_index ≤ chunk.chunk_index
    → IsRun new pieces' × (cut_rows new.frame.schema new.frame.rows pieces' ≡ cut_rows all.frame.schema all.frame.rows pieces ++ (chunk ∷ []))
is_run_of_more all new chunk pieces pieces' piece run frame last e index high schema up =
    let schema' : new.frame.schema ≡ all.frame.schema = ap (λ (t : Table). t.schema) frame in
    let rows' : new.frame.rows ≡ all.frame.rows ++ chunk.frame.rows = ap (λ (t : Table). t.rows) frame in
    let cut : cut_rows new.frame.schema new.frame.rows pieces' ≡ cut_rows all.frame.schema all.frame.rows pieces ++ (chunk ∷ []) =
    ap (λ s. cut_rows s new.frame.rows pieces') schema'
    ∙ ap (λ r. cut_rows all.frame.schema r pieces') rows'
    ∙ ap (cut_rows all.frame.schema (all.frame.rows ++ chunk.frame.rows)) e
    ∙ cut_more all.frame.schema all.frame.rows chunk.frame.rows pieces piece run.whole high
    ∙ ap (λ (c : DataChunk). cut_rows all.frame.schema all.frame.rows pieces ++ (c ∷ [])) (ap (λ i. record { chunk_index = i; frame = record { schema = all.frame.schema; rows = chunk.frame.rows } }) index ∙ ap (λ s. record { chunk_index = chunk.chunk_index; frame = record { schema = s; rows = chunk.frame.rows } }) schema)
    in (
      record {
        whole = ap (sum_by height_in) e ∙ sum_more pieces piece ∙ ap (λ n. n + piece.height) run.whole ∙ ap (λ n. length all.frame.rows + n) high ∙ sym (length-more all.frame.rows chunk.frame.rows) ∙ sym (ap length rows');
        rises = subst (IsNonDecreasingBy index_in) (sym cut) (IsNonDecreasingBy-push index_in (cut_rows all.frame.schema all.frame.rows pieces) chunk run.rises (λ d some. omega (arith, up, run.below (length (cut_rows all.frame.schema all.frame.rows pieces) - 1) d (omega (arith, some)))));
        below = subst (All (IsUpTo new.chunk_index)) (sym cut) (All-append (IsUpTo new.chunk_index) (cut_rows all.frame.schema all.frame.rows pieces) (chunk ∷ []) (λ k d less. omega (arith, up, last, index, run.below k d less)) (λ k d less. let z : k ≡ 0 = omega (arith, less) in rw z (omega (arith, last, index))));
      },
      cut,
    )

-- the pieces behind a place, and those behind the next
pub cut_next : (schema : List Field) (rows : List Row) (at at' : ℕ) (piece : Piece) (rest : List Piece) (out out' goal : List DataChunk) (chunk : DataChunk) → at' ≡ at + piece.height
    → chunk ≡ record { chunk_index = piece.chunk_index; frame = record { schema = schema; rows = take piece.height (drop at rows) } } → out' ≡ out ++ (chunk ∷ [])
    → out ++ cut_rows schema (drop at rows) (piece ∷ rest) ≡ goal → out' ++ cut_rows schema (drop at' rows) rest ≡ goal
cut_next schema rows at at' piece rest out out' goal chunk step is push known =
    let back : drop piece.height (drop at rows) ≡ drop at' rows = drop-drop piece.height at rows ∙ ap (λ k. drop k rows) (omega (arith, step)) in
    ap (λ l. l ++ cut_rows schema (drop at' rows) rest) push
    ∙ append_assoc out (chunk ∷ []) (cut_rows schema (drop at' rows) rest)
    ∙ ap (λ (c : DataChunk). out ++ (c ∷ cut_rows schema (drop at' rows) rest)) is
    ∙ ap (λ l. out ++ (record { chunk_index = piece.chunk_index; frame = record { schema = schema; rows = take piece.height (drop at rows) } } ∷ cut_rows schema l rest)) (sym back)
    ∙ known

-- the chunks so far and those of the pieces that are left are all, and so are the rows
pub record IsCutSoFar (schema : List Field) (rows : List Row) (at : ℕ) (rest : List Piece) (out goal : List DataChunk) : Type 0 where
  pub chunks : out ++ cut_rows schema (drop at rows) rest ≡ goal
  pub left : at + sum_by height_in rest ≡ length rows

-- none yet
pub cut_begins : (schema : List Field) (rows : List Row) (pieces : List Piece) (out : List DataChunk) → sum_by height_in pieces ≡ length rows → IsCutSoFar schema rows 0 pieces out (out ++ cut_rows schema rows pieces)
cut_begins schema rows pieces out whole = record { chunks = refl; left = omega (arith, whole) }

-- the next piece is the one at its place
pub cut_here : (schema : List Field) (rows : List Row) (at i : ℕ) (pieces : List Piece) (d : Piece) (out goal : List DataChunk) → i < length pieces → IsCutSoFar schema rows at (drop i pieces) out goal
    → IsCutSoFar schema rows at (slice_index_or pieces i d ∷ drop (i + 1) pieces) out goal
cut_here schema rows at i pieces d out goal less known = subst (λ (l : List Piece). IsCutSoFar schema rows at l out goal) (at_drop_more (λ (l : List Piece). l) pieces i d less) known

-- one more fits,
pub cut_fits : (schema : List Field) (rows : List Row) (at : ℕ) (piece : Piece) (rest : List Piece) (out goal : List DataChunk) → IsCutSoFar schema rows at (piece ∷ rest) out goal → at + piece.height ≤ length rows
cut_fits schema rows at piece rest out goal known = omega (arith, known.left, sum_by-cons height_in piece rest)

-- and is put behind
pub cut_goes_on : (schema : List Field) (rows : List Row) (at at' : ℕ) (piece : Piece) (rest : List Piece) (out out' goal : List DataChunk) (chunk : DataChunk) → IsCutSoFar schema rows at (piece ∷ rest) out goal → at' ≡ at + piece.height
    → chunk ≡ record { chunk_index = piece.chunk_index; frame = record { schema = schema; rows = take piece.height (drop at rows) } } → out' ≡ out ++ (chunk ∷ []) → IsCutSoFar schema rows at' rest out' goal
cut_goes_on schema rows at at' piece rest out out' goal chunk known step is push = record {
  chunks = cut_next schema rows at at' piece rest out out' goal chunk step is push known.chunks;
  left = omega (arith, known.left, sum_by-cons height_in piece rest, step);
}

pub cut_ends : (schema : List Field) (rows : List Row) (at : ℕ) (rest : List Piece) (out goal : List DataChunk) → IsCutSoFar schema rows at rest out goal → rest ≡ [] → out ≡ goal
cut_ends schema rows at rest out goal known none = sym (append-nil out) ∙ sym (ap (λ r. out ++ cut_rows schema (drop at rows) r) none) ∙ known.chunks
