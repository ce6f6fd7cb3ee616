-- Chunks joined in order, and what is left, are the rows.
use Rattle.std.proofs.Common.{◌≡◌, ℕ, zero, suc, ◌+◌, ◌*◌, ◌<◌, List, [], ◌∷◌, ◌++◌, take, drop, refl, ap, sym, ◌∙◌, arith, append_assoc, drop-drop, length-take}
use Rattle.std.specs.List.{flat_map, AllByRecursion}
use Rattle.std.proofs.lemmas.List.{take-append-drop, drop_all}
use Rattle.pipe_schema.specs.Rows.{Row}
use Rattle.pipe_schema.specs.declared.field.Field.{Field}
use Rattle.pipe_ops.specs.Batches.{Left, cut, pick, batch, after_batch}
use Rattle.pipe_ops.specs.declared.source.Morsel.{Morsel}
use Rattle.pipe_source.specs.Morsels.{morsel_rows}
use Rattle.pipe_source.specs.Law.{all_rows, HasUpTo, GivenAndLeftAreAll, ChunksHaveRows}

cut_joined : (n size index part from : ℕ) (schema : List Field) (xs : List Row) → flat_map morsel_rows (cut n size index part from schema xs) ++ drop (n * size) xs ≡ xs
cut_joined zero size index part from schema xs = let e : 0 * size ≡ 0 = omega arith in rw e refl
cut_joined (suc n) size index part from schema [] = drop_all (suc n * size) [] (omega arith)
cut_joined (suc n) size index part from schema (x ∷ xs) =
    let others = cut_joined n size (index + 1) part (from + size) schema (drop size (x ∷ xs)) in
    let e : drop (suc n * size) (x ∷ xs) ≡ drop (n * size) (drop size (x ∷ xs)) = sym (drop-drop (n * size) size (x ∷ xs) ∙ ap (λ (k : ℕ). drop k (x ∷ xs)) (omega arith)) in
    rw e (append_assoc (take size (x ∷ xs)) (flat_map morsel_rows (cut n size (index + 1) part (from + size) schema (drop size (x ∷ xs)))) (drop (n * size) (drop size (x ∷ xs))) ∙ ap (λ (l : List Row). take size (x ∷ xs) ++ l) others ∙ take-append-drop size (x ∷ xs))

pick_joined : (rows more : List Row) (a b : List Morsel) (c d : List Left) → (rows ≡ [] → flat_map morsel_rows a ++ all_rows c ≡ rows ++ more) → flat_map morsel_rows b ++ all_rows d ≡ rows ++ more → flat_map morsel_rows (pick rows a b) ++ all_rows (pick rows c d) ≡ rows ++ more
pick_joined [] more a b c d h k = h refl
pick_joined (x ∷ rows) more a b c d h k = k

pub joined : GivenAndLeftAreAll
joined count size index part [] = refl
joined count size index part (l ∷ ls) =
    pick_joined l.rows (all_rows ls) _ _ _ _
    (λ e. (let more : flat_map morsel_rows (batch count size index (part + 1) ls) ++ all_rows (after_batch count size ls) ≡ all_rows ls = joined count size index (part + 1) ls in rw e more))
    (sym (append_assoc (flat_map morsel_rows (cut count size index part l.from l.schema l.rows)) (drop (count * size) l.rows) (all_rows ls)) ∙ ap (λ (r : List Row). r ++ all_rows ls) (cut_joined count size index part l.from l.schema l.rows))

cut_some_rows : (n size index part from : ℕ) (schema : List Field) (xs : List Row) → 0 < size → AllByRecursion (HasUpTo size) (cut n size index part from schema xs)
cut_some_rows zero size index part from schema xs some = tt
cut_some_rows (suc n) size index part from schema [] some = tt
cut_some_rows (suc n) size index part from schema (x ∷ xs) some =
    let long = length-take size (x ∷ xs) in
    ((omega arith, omega arith), cut_some_rows n size (index + 1) part (from + size) schema (drop size (x ∷ xs)) some)

pick_some_rows : (size : ℕ) (rows : List Row) (a b : List Morsel) → AllByRecursion (HasUpTo size) a → AllByRecursion (HasUpTo size) b → AllByRecursion (HasUpTo size) (pick rows a b)
pick_some_rows size [] a b h k = h
pick_some_rows size (x ∷ rows) a b h k = k

pub some_rows : ChunksHaveRows
some_rows count size index part [] some = tt
some_rows count size index part (l ∷ ls) some = pick_some_rows size l.rows _ _ (some_rows count size index (part + 1) ls some) (cut_some_rows count size index part l.from l.schema l.rows some)
