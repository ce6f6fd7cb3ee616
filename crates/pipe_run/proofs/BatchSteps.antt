-- Batches of a source: their rows, their schema, and what is left.
use Rattle.std.proofs.Common.{◌≡◌, ℕ, zero, suc, ◌+◌, ◌*◌, ◌<◌, ◌≤◌, List, [], ◌∷◌, ◌++◌, length, take, drop, refl, ap, sym, ◌∙◌, subst, arith, append_assoc, length-append, length-drop}
use Rattle.std.specs.List.{All, AllByRecursion}
use Rattle.std.proofs.lemmas.List.{take-append-drop, drop_all}
use Rattle.pipe_schema.specs.Rows.{Row}
use Rattle.pipe_schema.specs.declared.field.Field.{Field}
use Rattle.std.specs.declared.alloc.Global.{Global}
use Rattle.std.specs.declared.vec.Vec.{Vec}
use Rattle.pipe_ops.specs.Batches.{Left, cut, batch, after_batch, IsSpent, IsBatch, Answers, index_after}
use Rattle.pipe_ops.specs.declared.source.Morsel.{Morsel}
use Rattle.pipe_ops.specs.declared.source.SourceResult.{SourceResult}
use Rattle.pipe_ops.specs.declared.source.SourceResult.TheVariants.{Finished, GotMoreData}
use Rattle.pipe_run.specs.Claimed.{schema_in, IsOfSchema}
use Rattle.pipe_run.specs.Dealt.{rows_of_all}
use Rattle.pipe_run.specs.NotedRounds.{Gives}
use Rattle.pipe_run.specs.Rounds.{left_rows, IsLeftOf, index_past, IsFew}

-- ---- the chunks of one frame

pub cut-rows : (n size index part from : ℕ) (schema : List Field) (rows : List Row) → rows ≡ rows_of_all (cut n size index part from schema rows) ++ drop (n * size) rows
cut-rows zero size index part from schema rows = let e : 0 * size ≡ 0 = omega arith in rw e refl
cut-rows (suc n) size index part from schema [] = sym (drop_all (suc n * size) [] (omega arith))
cut-rows (suc n) size index part from schema (x ∷ xs) =
    let rows = x ∷ xs in
    let later = rows_of_all (cut n size (index + 1) part (from + size) schema (drop size rows)) in
    let e : size + n * size ≡ suc n * size = omega arith in
    let rest : drop size rows ≡ later ++ drop (suc n * size) rows =
    cut-rows n size (index + 1) part (from + size) schema (drop size rows) ∙ ap (λ l. later ++ l) (dropped size (n * size) rows ∙ ap (λ k. drop k rows) e) in
    sym (take-append-drop size rows) ∙ ap (λ l. take size rows ++ l) rest ∙ sym (append_assoc (take size rows) later (drop (suc n * size) rows))
  where
    dropped : (a b : ℕ) (l : List Row) → drop b (drop a l) ≡ drop (a + b) l
    dropped zero b l = let e : 0 + b ≡ b = omega arith in rw e refl
    dropped (suc a) b [] = drop_all b [] (omega arith) ∙ sym (drop_all (suc a + b) [] (omega arith))
    dropped (suc a) b (y ∷ l) = let e : suc a + b ≡ suc (a + b) = omega arith in rw e (dropped a b l)

-- each chunk has a row
pub cut-long : (n size index part from : ℕ) (schema : List Field) (rows : List Row) → 0 < size → length (cut n size index part from schema rows) ≤ length (rows_of_all (cut n size index part from schema rows))
cut-long zero size index part from schema rows some = omega arith
cut-long (suc n) size index part from schema [] some = omega arith
cut-long (suc n) zero index part from schema (x ∷ xs) some = absurd (omega (arith, some))
cut-long (suc n) (suc size) index part from schema (x ∷ xs) some =
    let rows = x ∷ xs in
    let others = cut n (suc size) (index + 1) part (from + suc size) schema (drop (suc size) rows) in
    omega (arith, cut-long n (suc size) (index + 1) part (from + suc size) schema (drop (suc size) rows) some, length-append (take (suc size) rows) (rows_of_all others))

pub cut-few : (n size index part from : ℕ) (schema : List Field) (rows : List Row) → length (cut n size index part from schema rows) ≤ n
cut-few zero size index part from schema rows = omega arith
cut-few (suc n) size index part from schema [] = omega arith
cut-few (suc n) size index part from schema (x ∷ xs) = omega (arith, cut-few n size (index + 1) part (from + size) schema (drop size (x ∷ xs)))

-- and so many chunks have at most so many rows
pub cut-size : (n size index part from : ℕ) (schema : List Field) (rows : List Row) → length (rows_of_all (cut n size index part from schema rows)) ≤ n * size
cut-size n size index part from schema rows =
    let made = rows_of_all (cut n size index part from schema rows) in
    omega (arith, ap length (cut-rows n size index part from schema rows), length-append made (drop (n * size) rows), length-drop (n * size) rows)

cut-schema : (n size index part from : ℕ) (schema : List Field) (rows : List Row) → All (IsOfSchema schema) (cut n size index part from schema rows)
cut-schema zero size index part from schema rows i d less = absurd (omega arith)
cut-schema (suc n) size index part from schema [] i d less = absurd (omega arith)
cut-schema (suc n) size index part from schema (x ∷ xs) zero d less = refl
cut-schema (suc n) size index part from schema (x ∷ xs) (suc i) d less = cut-schema n size (index + 1) part (from + size) schema (drop size (x ∷ xs)) i d (omega arith)

cut-spent : (n size index part from : ℕ) (schema : List Field) (rows : List Row) → 0 < n → cut n size index part from schema rows ≡ [] → rows ≡ []
cut-spent zero size index part from schema rows some e = absurd (omega (arith, some))
cut-spent (suc n) size index part from schema [] some e = refl
cut-spent (suc n) size index part from schema (x ∷ xs) some e = cc

-- ---- the chunks of the first frame that isn't out

module _ (n size index : ℕ) where
  rows-by : (part : ℕ) (l : Left) (ls : List Left) (rows : List Row) → l.rows ≡ rows → left_rows ls ≡ rows_of_all (batch n size index (part + 1) ls) ++ left_rows (after_batch n size ls) → left_rows (l ∷ ls) ≡ rows_of_all (batch n size index part (l ∷ ls)) ++ left_rows (after_batch n size (l ∷ ls))
  rows-by part l ls [] e h = rw e h
  rows-by part l ls (x ∷ xs) e h =
      let made = rows_of_all (cut n size index part l.from l.schema (x ∷ xs)) in
      rw e (ap (λ k. k ++ left_rows ls) (cut-rows n size index part l.from l.schema (x ∷ xs)) ∙ append_assoc made (drop (n * size) (x ∷ xs)) (left_rows ls))

  pub batch-rows : (part : ℕ) (ls : List Left) → left_rows ls ≡ rows_of_all (batch n size index part ls) ++ left_rows (after_batch n size ls)
  batch-rows part [] = refl
  batch-rows part (l ∷ ls) = rows-by part l ls l.rows refl (batch-rows (part + 1) ls)

  long-by : (part : ℕ) (l : Left) (ls : List Left) (rows : List Row) → l.rows ≡ rows → 0 < size → length (batch n size index (part + 1) ls) ≤ length (rows_of_all (batch n size index (part + 1) ls)) → length (batch n size index part (l ∷ ls)) ≤ length (rows_of_all (batch n size index part (l ∷ ls)))
  long-by part l ls [] e some h = rw e h
  long-by part l ls (x ∷ xs) e some h = rw e (cut-long n size index part l.from l.schema (x ∷ xs) some)

  pub batch-long : (part : ℕ) (ls : List Left) → 0 < size → length (batch n size index part ls) ≤ length (rows_of_all (batch n size index part ls))
  batch-long part [] some = omega arith
  batch-long part (l ∷ ls) some = long-by part l ls l.rows refl some (batch-long (part + 1) ls some)

  few-by : (part : ℕ) (l : Left) (ls : List Left) (rows : List Row) → l.rows ≡ rows → length (batch n size index (part + 1) ls) ≤ n → length (batch n size index part (l ∷ ls)) ≤ n
  few-by part l ls [] e h = rw e h
  few-by part l ls (x ∷ xs) e h = rw e (cut-few n size index part l.from l.schema (x ∷ xs))

  pub batch-few : (part : ℕ) (ls : List Left) → length (batch n size index part ls) ≤ n
  batch-few part [] = omega arith
  batch-few part (l ∷ ls) = few-by part l ls l.rows refl (batch-few (part + 1) ls)

  size-by : (part : ℕ) (l : Left) (ls : List Left) (rows : List Row) → l.rows ≡ rows → length (rows_of_all (batch n size index (part + 1) ls)) ≤ n * size → length (rows_of_all (batch n size index part (l ∷ ls))) ≤ n * size
  size-by part l ls [] e h = rw e h
  size-by part l ls (x ∷ xs) e h = rw e (cut-size n size index part l.from l.schema (x ∷ xs))

  pub batch-size : (part : ℕ) (ls : List Left) → length (rows_of_all (batch n size index part ls)) ≤ n * size
  batch-size part [] = omega arith
  batch-size part (l ∷ ls) = size-by part l ls l.rows refl (batch-size (part + 1) ls)

  schema-by : (schema : List Field) (part : ℕ) (l : Left) (ls : List Left) (rows : List Row) → l.rows ≡ rows → l.schema ≡ schema → All (IsOfSchema schema) (batch n size index (part + 1) ls) → All (IsOfSchema schema) (batch n size index part (l ∷ ls))
  schema-by schema part l ls [] e is h = rw e h
  schema-by schema part l ls (x ∷ xs) e is h = rw e (subst (λ (f : List Field). All (IsOfSchema f) (cut n size index part l.from l.schema (x ∷ xs))) is (cut-schema n size index part l.from l.schema (x ∷ xs)))

  pub batch-schema : (schema : List Field) (part : ℕ) (ls : List Left) → AllByRecursion (IsLeftOf schema) ls → All (IsOfSchema schema) (batch n size index part ls)
  batch-schema schema part [] h = λ i d less. absurd (omega (arith, less))
  batch-schema schema part (l ∷ ls) h = schema-by schema part l ls l.rows refl h.0 (batch-schema schema (part + 1) ls h.1)

  left-by : (schema : List Field) (l : Left) (ls : List Left) (rows : List Row) → l.rows ≡ rows → l.schema ≡ schema → AllByRecursion (IsLeftOf schema) ls → AllByRecursion (IsLeftOf schema) (after_batch n size ls) → AllByRecursion (IsLeftOf schema) (after_batch n size (l ∷ ls))
  left-by schema l ls [] e is all h = rw e (is, h)
  left-by schema l ls (x ∷ xs) e is all h = rw e (is, all)

  pub left-schema : (schema : List Field) (ls : List Left) → AllByRecursion (IsLeftOf schema) ls → AllByRecursion (IsLeftOf schema) (after_batch n size ls)
  left-schema schema [] h = h
  left-schema schema (l ∷ ls) h = left-by schema l ls l.rows refl h.0 h.1 (left-schema schema ls h.1)

  spent-by : (part : ℕ) (l : Left) (ls : List Left) (rows : List Row) → l.rows ≡ rows → 0 < n → (batch n size index (part + 1) ls ≡ [] → left_rows ls ≡ []) → batch n size index part (l ∷ ls) ≡ [] → left_rows (l ∷ ls) ≡ []
  spent-by part l ls [] e some h = rw e h
  spent-by part l ls (x ∷ xs) e some h = rw e (λ f. absurd (let none : x ∷ xs ≡ [] = cut-spent n size index part l.from l.schema (x ∷ xs) some f in cc))

  -- no chunk is left, so no row is
  pub spent-rows : (part : ℕ) (ls : List Left) → 0 < n → batch n size index part ls ≡ [] → left_rows ls ≡ []
  spent-rows part [] some e = refl
  spent-rows part (l ∷ ls) some e = spent-by part l ls l.rows refl some (λ f. spent-rows (part + 1) ls some f) e

-- the schema of chunks that have one
pub schema-first : (schema : List Field) (ms : List Morsel) → 0 < length ms → All (IsOfSchema schema) ms → schema_in ms ≡ schema
schema-first schema [] some h = absurd (omega (arith, some))
schema-first schema (m ∷ ms) some h = h 0 m (omega arith)

-- one batch more
pub gave-more : (n size index : ℕ) (rounds : List (List Morsel)) (ms : List Morsel) (old mid new : List Left) → Gives n size index rounds old mid → ms ≡ batch n size (index_past index rounds) 0 mid → new ≡ after_batch n size mid → Gives n size index (rounds ++ ms ∷ []) old new
gave-more n size index [] ms old mid new h e f =
    (e ∙ ap (batch n size index 0) h, f ∙ ap (after_batch n size) h)
gave-more n size index (m ∷ rounds) ms old mid new h e f = (h.0, gave-more n size (index + length m) rounds ms (after_batch n size old) mid new h.1 e f)

pub index-more : (index : ℕ) (rounds : List (List Morsel)) (ms : List Morsel) → index_past index (rounds ++ ms ∷ []) ≡ index_past index rounds + length ms
index-more index [] ms = refl
index-more index (m ∷ rounds) ms = index-more (index + length m) rounds ms

pub few-more : (most : ℕ) (rounds : List (List Morsel)) (ms : List Morsel) → AllByRecursion (IsFew most) rounds → IsFew most ms → AllByRecursion (IsFew most) (rounds ++ ms ∷ [])
few-more most [] ms h one = (one, tt)
few-more most (m ∷ rounds) ms h one = (h.0, few-more most rounds ms h.1 one)

-- what an answer of a source says, by its kind
module _ (n size index : ℕ) (old new : List Left) (answer : SourceResult) (gives : Answers n size index old new answer) (next : ℕ) (moved : next ≡ index_after index answer) where
  module _ (morsels : Vec Morsel Global) (ms : List Morsel) (same : ms ≡ morsels.items) (e : answer ≡ GotMoreData morsels) where
    pub got : IsBatch n size index ms old new
    got = subst (λ (l : List Morsel). IsBatch n size index l old new) (sym same) (subst (λ (r : SourceResult). Answers n size index old new r) e gives)

    pub index-got : next ≡ index + length ms
    index-got = subst (λ (r : SourceResult). next ≡ index_after index r) e moved ∙ ap (λ (l : List Morsel). index + length l) (sym same)

  module _ (e : answer ≡ Finished) where
    pub got-none : IsSpent n size index old × (new ≡ old)
    got-none = subst (λ (r : SourceResult). Answers n size index old new r) e gives

    pub index-same : next ≡ index
    index-same = subst (λ (r : SourceResult). next ≡ index_after index r) e moved
