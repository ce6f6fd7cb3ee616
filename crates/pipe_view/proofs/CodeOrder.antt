-- The order of codes: it is total, and codes that it doesn't tell apart are one.
use Rattle.std.proofs.Common.{◌≡◌, ℕ, List, [], ◌∷◌, refl, ap, sym, ◌∙◌}
use Rattle.std.specs.Cmp.Lexicographic.{slice_cmp}
use Rattle.std.specs.Ordering.{nat_cmp, ordering_then}
use Rattle.std.specs.declared.cmp.Ordering.{Ordering}
use Rattle.std.specs.declared.cmp.Ordering.TheVariants.{Less, Equal, Greater}
use Rattle.std.specs.Cmp.{IsTotalOrder}
use Rattle.std.proofs.lemmas.Cmp.{ranked, tied_itself, nat_list_cmp_total}
use Rattle.pipe_view.specs.Codes.{Code, code_cmp}

pub code_total : IsTotalOrder code_cmp
code_total = nat_list_cmp_total

-- a code is tied with itself
pub code_itself : (c : Code) → code_cmp c c ≡ Equal
code_itself c = tied_itself nat_list_cmp_total c

first_tied : (o p : Ordering) → ordering_then o p ≡ Equal → o ≡ Equal
first_tied Less p e = e
first_tied Equal p e = refl
first_tied Greater p e = e

last_tied : (o p : Ordering) → ordering_then o p ≡ Equal → p ≡ Equal
last_tied Less p e = cc
last_tied Equal p e = e
last_tied Greater p e = cc

-- and with no other
pub same_code : (c d : Code) → code_cmp c d ≡ Equal → c ≡ d
same_code [] [] e = refl
same_code [] (y ∷ ys) e = cc
same_code (x ∷ xs) [] e = cc
same_code (x ∷ xs) (y ∷ ys) e =
    let first : x ≡ y = ranked x y Equal (sym (first_tied (nat_cmp x y) (slice_cmp nat_cmp xs ys) e)) in
    let rest = same_code xs ys (last_tied (nat_cmp x y) (slice_cmp nat_cmp xs ys) e) in
    ap (λ z. z ∷ xs) first ∙ ap (λ l. y ∷ l) rest
