-- Of each key that was marked there is one winner, and each number below a count stands in its range once.
use Rattle.std.proofs.Common.{◌≡◌, ℕ, zero, suc, ◌+◌, ◌<◌, ◌≤◌, List, [], ◌∷◌, Option, None, Some, true, false, refl, ap, arith}
use Rattle.std.proofs.lemmas.Bool.{false≢true, true≢false}
use Rattle.std.specs.List.{range_with_len}
use Rattle.pipe_chain.specs.Sums.{one_at, times}
use Rattle.pipe_chain.specs.Flags.{is_marked, winners_from, winners, wins}
use Rattle.pipe_chain.proofs.SumLemmas.{one_at-same, one_at-other}

wins_below : (flags : List (Option ℕ)) (from key : ℕ) → key < from → wins key (winners_from from flags) ≡ 0
wins_below [] from key lt = refl
wins_below (None ∷ flags) from key lt = wins_below flags (suc from) key (omega arith)
wins_below (Some lane ∷ flags) from key lt = omega (arith, one_at-other key from (λ e. omega arith), wins_below flags (suc from) key (omega arith))

one_win_from : (flags : List (Option ℕ)) (from i key : ℕ) → key ≡ i + from → is_marked flags i ≡ true → wins key (winners_from from flags) ≡ 1
one_win_from [] from i key e stands = absurd (false≢true stands)
one_win_from (None ∷ flags) from zero key e stands = absurd (false≢true stands)
one_win_from (None ∷ flags) from (suc i) key e stands = one_win_from flags (suc from) i key (omega arith) stands
one_win_from (Some lane ∷ flags) from zero key e stands =
    let same : from ≡ key = omega arith in
    omega (arith, ap (one_at key) same, one_at-same key, wins_below flags (suc from) key (omega arith))
one_win_from (Some lane ∷ flags) from (suc i) key e stands = omega (arith, one_at-other key from (λ q. omega arith), one_win_from flags (suc from) i key (omega arith) stands)

no_win_from : (flags : List (Option ℕ)) (from i key : ℕ) → key ≡ i + from → is_marked flags i ≡ false → wins key (winners_from from flags) ≡ 0
no_win_from [] from i key e none = refl
no_win_from (None ∷ flags) from zero key e none = wins_below flags (suc from) key (omega arith)
no_win_from (None ∷ flags) from (suc i) key e none = no_win_from flags (suc from) i key (omega arith) none
no_win_from (Some lane ∷ flags) from zero key e none = absurd (true≢false none)
no_win_from (Some lane ∷ flags) from (suc i) key e none = omega (arith, one_at-other key from (λ q. omega arith), no_win_from flags (suc from) i key (omega arith) none)

pub one_win : (flags : List (Option ℕ)) (key : ℕ) → is_marked flags key ≡ true → wins key (winners flags) ≡ 1
one_win flags key stands = one_win_from flags 0 key key (omega arith) stands

pub no_win : (flags : List (Option ℕ)) (key : ℕ) → is_marked flags key ≡ false → wins key (winners flags) ≡ 0
no_win flags key none = no_win_from flags 0 key key (omega arith) none

none_before : (a count n : ℕ) → n < a → times n (range_with_len a count) ≡ 0
none_before a zero n lt = refl
none_before a (suc count) n lt = omega (arith, one_at-other n a (λ e. omega arith), none_before (a + 1) count n (omega arith))

one_within : (a count n i : ℕ) → n ≡ a + i → i < count → times n (range_with_len a count) ≡ 1
one_within a zero n i e lt = absurd (omega arith)
one_within a (suc count) n zero e lt =
    let same : a ≡ n = omega arith in
    omega (arith, ap (one_at n) same, one_at-same n, none_before (a + 1) count n (omega arith))
one_within a (suc count) n (suc i) e lt = omega (arith, one_at-other n a (λ q. omega arith), one_within (a + 1) count n i (omega arith) (omega arith))

none_behind : (a count n : ℕ) → a + count ≤ n → times n (range_with_len a count) ≡ 0
none_behind a zero n le = refl
none_behind a (suc count) n le = omega (arith, one_at-other n a (λ e. omega arith), none_behind (a + 1) count n (omega arith))

pub one_draw : (count n : ℕ) → n < count → times n (range_with_len 0 count) ≡ 1
one_draw count n lt = one_within 0 count n n (omega arith) lt

pub no_draw : (count n : ℕ) → count ≤ n → times n (range_with_len 0 count) ≡ 0
no_draw count n le = none_behind 0 count n (omega arith)
