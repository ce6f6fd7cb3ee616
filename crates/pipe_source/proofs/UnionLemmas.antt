-- The chunks of sources one after another.
use Rattle.std.proofs.Common.{◌≡◌, ℕ, zero, suc, ◌+◌, ◌<◌, List, [], ◌∷◌, ◌++◌, length, map, drop, refl, ap, sym, ◌∙◌, arith}
use Rattle.std.proofs.lemmas.List.{length-map}
use Rattle.pipe_schema.specs.Rows.{Row}
use Rattle.pipe_schema.specs.declared.field.Field.{Field}
use Rattle.pipe_ops.specs.declared.source.Morsel.{Morsel}
use Rattle.pipe_ops.specs.declared.source.SourceResult.{SourceResult}
use Rattle.pipe_ops.specs.declared.source.SourceResult.TheVariants.{Finished, GotMoreData}
use Rattle.pipe_ops.specs.Batches.{Left, cut, pick, batch, after_batch, Answers}
use Rattle.pipe_source.specs.Morsels.{later, ArePartsBelow}
use Rattle.pipe_source.specs.Supplies.{AnswersFrom, IsBatchFrom}
use Rattle.pipe_source.proofs.CutLemmas.{cut_some}

-- no row is left
abbrev AllOut : List Left → Type 0
AllOut [] = Unit {0}
AllOut (l ∷ ls) = (l.rows ≡ []) × AllOut ls

cut_shift : (n size index part before from : ℕ) (schema : List Field) (xs : List Row) → map (later before) (cut n size index part from schema xs) ≡ cut n size index (part + before) from schema xs
cut_shift zero size index part before from schema xs = refl
cut_shift (suc n) size index part before from schema [] = refl
cut_shift (suc n) size index part before from schema (x ∷ xs) = rw (cut_shift n size (index + 1) part before (from + size) schema (drop size (x ∷ xs))) refl

pick_shift : (before : ℕ) (rows : List Row) (a b c d : List Morsel) → map (later before) a ≡ c → map (later before) b ≡ d → map (later before) (pick rows a b) ≡ pick rows c d
pick_shift before [] a b c d e f = e
pick_shift before (x ∷ rows) a b c d e f = f

-- the chunks of a source among others
pub batch_shift : (n size index part before : ℕ) (ls : List Left) → map (later before) (batch n size index part ls) ≡ batch n size index (part + before) ls
batch_shift n size index part before [] = refl
batch_shift n size index part before (l ∷ ls) =
    let e : part + 1 + before ≡ part + before + 1 = omega arith in
    pick_shift before l.rows _ _ _ _ (batch_shift n size index (part + 1) before ls ∙ ap (λ (k : ℕ). batch n size index k ls) e) (cut_shift n size index part before l.from l.schema l.rows)

pick_at : {X : Type 0} (rows : List Row) (a b : X) → rows ≡ [] → pick rows a b ≡ a
pick_at [] a b e = refl
pick_at (x ∷ rows) a b e = cc

-- sources that are out give nothing
pub batch_past : (n size index part : ℕ) (out ls : List Left) → AllOut out → batch n size index part (out ++ ls) ≡ batch n size index (part + length out) ls
batch_past n size index part [] ls h = ap (λ (k : ℕ). batch n size index k ls) (omega arith)
batch_past n size index part (l ∷ out) ls h = pick_at l.rows _ _ h.0 ∙ batch_past n size index (part + 1) out ls h.1 ∙ ap (λ (k : ℕ). batch n size index k ls) (omega arith)

pub after_past : (n size : ℕ) (out ls : List Left) → AllOut out → after_batch n size (out ++ ls) ≡ out ++ after_batch n size ls
after_past n size [] ls h = refl
after_past n size (l ∷ out) ls h = pick_at l.rows _ _ h.0 ∙ ap (λ (m : List Left). l ∷ m) (after_past n size out ls h.1)

pick_first : (rows : List Row) (x x' y : List Morsel) → (rows ≡ [] → x' ≡ x) → pick rows x' y ≡ pick rows x y
pick_first [] x x' y h = h refl
pick_first (r ∷ rows) x x' y h = refl

pick_append : (rows : List Row) (b x x' y y' : List Left) → (rows ≡ [] → x' ≡ x ++ b) → y' ≡ y ++ b → pick rows x' y' ≡ pick rows x y ++ b
pick_append [] b x x' y y' h e = h refl
pick_append (r ∷ rows) b x x' y y' h e = e

pick_nil : (rows : List Row) (x y : List Morsel) → pick rows x y ≡ [] → (y ≡ [] → rows ≡ []) → rows ≡ []
pick_nil [] x y e h = refl
pick_nil (r ∷ rows) x y e h = h e

-- a source that gives something
pub batch_first : (n size index part : ℕ) (a b : List Left) → (batch n size index part a ≡ [] → ⊥) → batch n size index part (a ++ b) ≡ batch n size index part a
batch_first n size index part [] b some = absurd (some refl)
batch_first n size index part (l ∷ a) b some = pick_first l.rows _ _ _ (λ e. batch_first n size index (part + 1) a b (λ none. some (pick_at l.rows _ _ e ∙ none)))

pub after_first : (n size index part : ℕ) (a b : List Left) → (batch n size index part a ≡ [] → ⊥) → after_batch n size (a ++ b) ≡ after_batch n size a ++ b
after_first n size index part [] b some = absurd (some refl)
after_first n size index part (l ∷ a) b some = pick_append l.rows b _ _ _ _ (λ e. ap (λ (m : List Left). l ∷ m) (after_first n size index (part + 1) a b (λ none. some (pick_at l.rows _ _ e ∙ none)))) refl

-- a source that gives nothing is out
pub batch_out : (n size index part : ℕ) (a : List Left) → 0 < n → batch n size index part a ≡ [] → AllOut a
batch_out n size index part [] some e = tt
batch_out n size index part (l ∷ a) some e =
    let out : l.rows ≡ [] = pick_nil l.rows (batch n size index (part + 1) a) (cut n size index part l.from l.schema l.rows) e (cut_some n size index part l.from l.schema l.rows some) in
    (out, batch_out n size index (part + 1) a some (sym (pick_at l.rows _ _ out) ∙ e))

cut_parts : (end before n size index part from : ℕ) (schema : List Field) (xs : List Row) → part + before < end → ArePartsBelow end before (cut n size index part from schema xs)
cut_parts end before zero size index part from schema xs h = tt
cut_parts end before (suc n) size index part from schema [] h = tt
cut_parts end before (suc n) size index part from schema (x ∷ xs) h = (h, cut_parts end before n size (index + 1) part (from + size) schema (drop size (x ∷ xs)) h)

pick_parts : (end before : ℕ) (rows : List Row) (x y : List Morsel) → ArePartsBelow end before x → ArePartsBelow end before y → ArePartsBelow end before (pick rows x y)
pick_parts end before [] x y h k = h
pick_parts end before (r ∷ rows) x y h k = k

pub batch_parts : (end before n size index part : ℕ) (a : List Left) → part + length a + before < end → ArePartsBelow end before (batch n size index part a)
batch_parts end before n size index part [] h = tt
batch_parts end before n size index part (l ∷ a) h = pick_parts end before l.rows _ _ (batch_parts end before n size index (part + 1) a (omega arith)) (cut_parts end before n size index part l.from l.schema l.rows (omega arith))

pub some_not_none : {X : Type 0} (xs ys : List X) → xs ≡ ys → 0 < length xs → ys ≡ [] → ⊥
some_not_none xs ys e some none = let z = ap length (e ∙ none) in absurd (omega arith)

-- the first source gives chunks
pub first_gives : (n size index before : ℕ) (ms ms' : List Morsel) (a a' b old : List Left) → old ≡ a ++ b → ms' ≡ map (later before) ms → ms ≡ batch n size index 0 a → a' ≡ after_batch n size a → 0 < length ms
    → IsBatchFrom before n size index ms' old (a' ++ b)
first_gives n size index before ms ms' a a' b old o s m f some =
    let none = some_not_none ms _ m some in
    let long : length ms' ≡ length ms = ap length s ∙ length-map ms (later before) in
    let all : map (later before) (batch n size index 0 a) ≡ batch n size index before a = batch_shift n size index 0 before a ∙ ap (λ (k : ℕ). batch n size index k a) (omega arith) in
    let here : batch n size index before a ≡ [] → ⊥ = λ e. some_not_none ms' (batch n size index before a) (s ∙ ap (map (later before)) m ∙ all) (omega arith) e in
    record {
      chunks = s ∙ ap (map (later before)) m ∙ all ∙ sym (batch_first n size index before a b here) ∙ ap (batch n size index before) (sym o);
      some = omega arith;
      left = ap (λ (l : List Left). l ++ b) f ∙ sym (after_first n size index before a b here) ∙ ap (after_batch n size) (sym o);
    }

-- the first source is out
pub rest_gives : (before n size index : ℕ) (r : SourceResult) (a a' b b' old : List Left) → 0 < n → old ≡ a ++ b → batch n size index 0 a ≡ [] → a' ≡ a
    → AnswersFrom (before + length a) n size index b b' r → AnswersFrom before n size index old (a' ++ b') r
rest_gives before n size index Finished a a' b b' old some o none same h =
    let out = batch_out n size index 0 a some none in
    (rw o (batch_past n size index before a b out ∙ h.0), rw (same, o, h.1) refl)
rest_gives before n size index (GotMoreData ms) a a' b b' old some o none same h =
    let out = batch_out n size index 0 a some none in
    record {
      chunks = rw o (h.chunks ∙ sym (batch_past n size index before a b out));
      some = h.some;
      left = rw (same, o, h.left) (sym (after_past n size a b out));
    }

-- a list of sources behind no other answers as a source does
pub from_none : (n size index : ℕ) (old new : List Left) (r : SourceResult) → AnswersFrom 0 n size index old new r → Answers n size index old new r
from_none n size index old new Finished h = h
from_none n size index old new (GotMoreData ms) h = record { chunks = h.chunks; some = h.some; left = h.left }
