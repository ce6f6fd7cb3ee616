-- The chunks of one frame.
use Rattle.std.proofs.Common.{◌≡◌, ℕ, zero, suc, ◌+◌, ◌*◌, ◌-◌, ◌<◌, ◌≤◌, inl, inr, List, [], ◌∷◌, ◌++◌, length, take, drop, refl, ap, sym, ◌∙◌, arith, append_assoc, length-drop, drop-drop}
use Rattle.std.specs.Prelude.{min}
use Rattle.std.proofs.lemmas.List.{take_all, drop_all, append-nil}
use Rattle.std.proofs.lemmas.Bool.{cases_lt}
use Rattle.pipe_schema.specs.Rows.{Row}
use Rattle.pipe_schema.specs.declared.field.Field.{Field}
use Rattle.pipe_ops.specs.declared.source.Morsel.{Morsel}
use Rattle.pipe_ops.specs.Batches.{Left, cut, pick, passed, batch, after_batch}

pub cut_none : (n size index part from : ℕ) (schema : List Field) (xs : List Row) → xs ≡ [] → cut n size index part from schema xs ≡ []
cut_none zero size index part from schema xs e = refl
cut_none (suc n) size index part from schema xs e = rw e refl

-- one chunk more
pub cut_step : (n size index part from : ℕ) (schema : List Field) (width from' : ℕ) (xs : List Row) → 0 < length xs → width ≡ min (length xs) size → from' ≡ from + width
    → cut (suc n) size index part from schema xs ≡ record { chunk = record { chunk_index = index; frame = record { schema = schema; rows = take width xs } }; part = part; from = from } ∷ cut n size (index + 1) part from' schema (drop width xs)
cut_step n size index part from schema width from' [] some w f = absurd (omega arith)
cut_step n size index part from schema width from' (x ∷ xs) some w f =
    let whole : size ≤ length (x ∷ xs) → cut (suc n) size index part from schema (x ∷ xs) ≡ record { chunk = record { chunk_index = index; frame = record { schema = schema; rows = take width (x ∷ xs) } }; part = part; from = from } ∷ cut n size (index + 1) part from' schema (drop width (x ∷ xs)) =
    λ h. let e : width ≡ size = omega arith in rw (f, e) refl in
    let short : length (x ∷ xs) < size → cut (suc n) size index part from schema (x ∷ xs) ≡ record { chunk = record { chunk_index = index; frame = record { schema = schema; rows = take width (x ∷ xs) } }; part = part; from = from } ∷ cut n size (index + 1) part from' schema (drop width (x ∷ xs)) =
    λ h. let e : width ≡ length (x ∷ xs) = omega arith in
    let t : take size (x ∷ xs) ≡ take width (x ∷ xs) = take_all size (x ∷ xs) (omega arith) ∙ sym (take_all width (x ∷ xs) (omega arith)) in
    let d : cut n size (index + 1) part (from + size) schema (drop size (x ∷ xs)) ≡ cut n size (index + 1) part from' schema (drop width (x ∷ xs)) = cut_none n size (index + 1) part (from + size) schema _ (drop_all size (x ∷ xs) (omega arith)) ∙ sym (cut_none n size (index + 1) part from' schema _ (drop_all width (x ∷ xs) (omega arith))) in
    rw (t, d) refl
    in elim (cases_lt (length (x ∷ xs)) size) [ inl h ↦ short h | inr h ↦ whole h ]

-- the chunks so far, and one more
pub cut_on : (many i size index part : ℕ) (schema : List Field) (at width : ℕ) (rows own : List Row) (out out' goal : List Morsel) (m : Morsel) → i < many → at < length rows → width ≡ min (length rows - at) size → own ≡ take width (drop at rows)
    → m ≡ record { chunk = record { chunk_index = index + i; frame = record { schema = schema; rows = own } }; part = part; from = at } → out' ≡ out ++ (m ∷ [])
    → out ++ cut (many - i) size (index + i) part at schema (drop at rows) ≡ goal
    → out' ++ cut (many - (i + 1)) size (index + (i + 1)) part (at + width) schema (drop (at + width) rows) ≡ goal
cut_on many i size index part schema at width rows own out out' goal m lt some e o is push known =
    let n : many - i ≡ suc (many - (i + 1)) = omega arith in
    let long = length-drop at rows in
    let step = cut_step (many - (i + 1)) size (index + i) part at schema width (at + width) (drop at rows) (omega arith) (omega arith) refl in
    let i' : index + i + 1 ≡ index + (i + 1) = omega arith in
    let d : drop width (drop at rows) ≡ drop (at + width) rows = drop-drop width at rows ∙ ap (λ k. drop k rows) (omega arith) in
    let known' = rw (n, step, i', d) at known in
    let m' : m ≡ record { chunk = record { chunk_index = index + i; frame = record { schema = schema; rows = take width (drop at rows) } }; part = part; from = at } = is ∙ rw o refl in
    rw push (append_assoc out (m ∷ []) (cut (many - (i + 1)) size (index + (i + 1)) part (at + width) schema (drop (at + width) rows)) ∙ rw m' known')

pub cut_end : (n size index part from : ℕ) (schema : List Field) (xs : List Row) (out goal : List Morsel) → out ++ cut n size index part from schema xs ≡ goal → xs ≡ [] → out ≡ goal
cut_end n size index part from schema xs out goal known e = sym (append-nil out) ∙ rw (cut_none n size index part from schema xs e) at known

pub cut_length : (n size index part from : ℕ) (schema : List Field) (xs : List Row) → length (cut n size index part from schema xs) ≤ n
cut_length zero size index part from schema xs = omega arith
cut_length (suc n) size index part from schema [] = omega arith
cut_length (suc n) size index part from schema (x ∷ xs) = omega (arith, cut_length n size (index + 1) part (from + size) schema (drop size (x ∷ xs)))

pub cut_some : (n size index part from : ℕ) (schema : List Field) (xs : List Row) → 0 < n → cut n size index part from schema xs ≡ [] → xs ≡ []
cut_some zero size index part from schema xs some e = absurd (omega arith)
cut_some (suc n) size index part from schema [] some e = refl
cut_some (suc n) size index part from schema (x ∷ xs) some e = cc

pub pick_none : {X : Type 0} (rows : List Row) (a b : X) → rows ≡ [] → pick rows a b ≡ a
pick_none [] a b e = refl
pick_none (x ∷ rows) a b e = cc

pub pick_some : {X : Type 0} (rows : List Row) (a b : X) → (rows ≡ [] → ⊥) → pick rows a b ≡ b
pick_some [] a b e = absurd (e refl)
pick_some (x ∷ rows) a b e = refl

-- a single frame's answer
pub frame_gives : (n size index : ℕ) (l l' : Left) (made : List Morsel) → 0 < n → made ≡ cut n size index 0 l.from l.schema l.rows → 0 < length made → l' ≡ passed (n * size) l → (made ≡ batch n size index 0 (l ∷ [])) × (◌≡◌ {A = List Left} (l' ∷ []) (after_batch n size (l ∷ [])))
frame_gives n size index l l' made some m long e =
    let there : l.rows ≡ [] → ⊥ = λ none. let z = ap length (m ∙ cut_none n size index 0 l.from l.schema l.rows none) in absurd (omega arith) in
    (m ∙ sym (pick_some l.rows [] (cut n size index 0 l.from l.schema l.rows) there), rw e (sym (pick_some l.rows (l ∷ []) (passed (n * size) l ∷ []) there)))

pub frame_out : (n size index : ℕ) (l : Left) (made : List Morsel) → 0 < n → made ≡ cut n size index 0 l.from l.schema l.rows → length made ≡ 0 → batch n size index 0 (l ∷ []) ≡ []
frame_out n size index l [] some m none = pick_none l.rows [] _ (cut_some n size index 0 l.from l.schema l.rows some (sym m))
frame_out n size index l (x ∷ made) some m none = cc
