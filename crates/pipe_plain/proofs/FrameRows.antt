-- A list read item by item.
use Rattle.std.proofs.Common.{◌≡◌, ℕ, ◌+◌, List, [], ◌∷◌, ◌++◌, Some, take, ap, sym, ◌∙◌}
use Rattle.std.specs.Prelude.{slice_get}
use Rattle.std.proofs.lemmas.List.{take_more}
use Rattle.std.proofs.lemmas.Option.{slice_get_within, get_or_from_slice_get}

pub read-next : {X : Type 0} (xs out : List X) (i : ℕ) (x : X) → out ≡ take i xs → slice_get xs i ≡ Some x → out ++ x ∷ [] ≡ take (i + 1) xs
read-next xs out i x so_far read =
    let same = get_or_from_slice_get xs i x x read in
    let next = take_more xs i x (slice_get_within xs i x read) in
    rw so_far (sym (next ∙ ap (λ y. take i xs ++ y ∷ []) same))
