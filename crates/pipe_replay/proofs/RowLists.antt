-- Rows of a list that pass, and those at some positions, one row more.
use Rattle.std.proofs.Common.{◌≡◌, ℕ, ◌+◌, ◌<◌, Bool, List, [], ◌∷◌, ◌++◌, length, get_or, take, filter, refl, ap, sym, ◌∙◌}
use Rattle.std.proofs.lemmas.List.{take_more}
use Rattle.std.proofs.lemmas.List.Elements.{filter-append}
use Rattle.std.specs.Prelude.{slice_index_or}
use Rattle.std.specs.List.{range_with_len}
use Rattle.std.proofs.lemmas.List.FromFn.{map-range_with_len_more}
use Rattle.pipe_schema.specs.Rows.{Row}
use Rattle.pipe_events.specs.Worlds.{picked}

pub rows-next : (p : Row → Bool) (bag : List Row) (i : ℕ) (row : Row) (before after : List Row) → before ≡ filter p (take i bag) → i < length bag → row ≡ get_or bag i row → after ≡ before ++ filter p (row ∷ []) → after ≡ filter p (take (i + 1) bag)
rows-next p bag i row before after so_far lt is e =
    let next : take (i + 1) bag ≡ take i bag ++ row ∷ [] = take_more bag i row lt ∙ ap (λ x. take i bag ++ x ∷ []) (sym is) in
    e ∙ ap (λ l. l ++ filter p (row ∷ [])) so_far ∙ sym (filter-append p (take i bag) (row ∷ [])) ∙ ap (filter p) (sym next)

pub picked-next : (rows : List Row) (from i : ℕ) (before after : List Row) → before ≡ picked rows (range_with_len from i) → after ≡ before ++ slice_index_or rows (from + i) [] ∷ [] → after ≡ picked rows (range_with_len from (i + 1))
picked-next rows from i before after so_far e =
    e ∙ ap (λ l. l ++ slice_index_or rows (from + i) [] ∷ []) so_far
    ∙ sym (map-range_with_len_more (λ p. slice_index_or rows p []) from i (from + i) refl)
