-- How many rows a build has behind its first chunk.
use Rattle.std.proofs.Common.{◌≡◌, ◌≤◌, List, [], ◌∷◌, ◌++◌, length, ap, sym, ◌∙◌}
use Rattle.std.proofs.lemmas.List.{append-nil}
use Rattle.std.proofs.lemmas.List.Concat.{flat_map-append}
use Rattle.pipe_schema.specs.Rows.{Row}
use Rattle.pipe_table.specs.Kept.{BuildRows, build_rows, own_rows, with_chunk}

-- a chunk's rows stand behind the others
with_chunk-rows : {H : Type 0} (build : BuildRows H) (rows : List Row) → build_rows (with_chunk build rows) ≡ build_rows build ++ rows
with_chunk-rows build [] = sym (append-nil (build_rows build))
with_chunk-rows build (row ∷ rows) = flat_map-append own_rows build.chunks ((row ∷ rows) ∷ []) ∙ ap (λ l. build_rows build ++ l) (append-nil (row ∷ rows))

-- a build without rows has those of the chunk that was put into it
pub few_of_one : {H : Type 0} (new old : BuildRows H) (rows given : List Row) → new ≡ with_chunk old rows → build_rows old ≡ [] → rows ≡ given → length given ≤ 1000 → length (build_rows new) ≤ 1000
few_of_one new old rows given e none are few =
    let is : build_rows new ≡ given = ap build_rows e ∙ with_chunk-rows old rows ∙ ap (λ l. l ++ rows) none ∙ are in
    rw is few
