-- Numbers of rows in a word: the first, and those behind it.
use Rattle.std.proofs.Common.{◌≡◌, ◌∙◌, ℕ, ◌+◌, ◌<◌, List, [], ◌∷◌, ◌++◌, Option, Some, None, Bool, true, false, Bor, map, length, refl, ap, sym, arith, append_assoc, length-drop}
use Rattle.std.specs.Prelude.{is_some}
use Rattle.std.specs.List.{slice_split, position_or_len, before_first, after_first}
use Rattle.std.proofs.lemmas.List.Splits.{slice_split_first, slice_split_none}
use Rattle.std.proofs.lemmas.List.Sums.{fails_before_first}
use Rattle.std.proofs.lemmas.Str.Pattern.{IsSplitOnceResult, split_once_first}
use Rattle.pipe_selftest.specs.Words.{start_in}
use Rattle.pipe_cli.specs.Commands.{Request, Parts, heights_request}
use Rattle.pipe_cli.specs.Heights.{is_comma, with_first, all_there, heights_in}

-- a word with a comma,
pub heights_first : (word : List ℕ) → position_or_len is_comma word < length word → heights_in word ≡ with_first (start_in (before_first is_comma word)) (heights_in (after_first is_comma word))
heights_first word less = ap (λ (parts : List (List ℕ)). all_there (map start_in parts)) (slice_split_first is_comma word 0 less)

-- and one without
pub heights_last : (word : List ℕ) → position_or_len is_comma word ≡ length word → heights_in word ≡ with_first (start_in word) (Some [])
heights_last word none = ap (λ (parts : List (List ℕ)). all_there (map start_in parts)) (slice_split_none is_comma word (λ k d less. fails_before_first is_comma word k d (omega (arith, none, less))))

-- what a cut at the first comma leaves, and that it is shorter
pub heights_step : (word : List ℕ) (x : Bor (List ℕ) × Bor (List ℕ)) → IsSplitOnceResult 44 word (Some x) → heights_in word ≡ with_first (start_in x.0.now) (heights_in x.1.now)
heights_step word x cut =
    let parts = split_once_first 44 word (Some x) cut (omega arith) in
    heights_first word parts.0
    ∙ ap (λ (a : List ℕ). with_first (start_in a) (heights_in (after_first is_comma word))) (sym parts.1)
    ∙ ap (λ (b : List ℕ). with_first (start_in x.0.now) (heights_in b)) (sym parts.2)

pub heights_shorter : (word : List ℕ) (x : Bor (List ℕ) × Bor (List ℕ)) → IsSplitOnceResult 44 word (Some x) → length x.1.now < length word
heights_shorter word x cut =
    let parts = split_once_first 44 word (Some x) cut (omega arith) in
    omega (arith, parts.0, ap length parts.2, length-drop (position_or_len is_comma word + 1) word)

pub heights_end : (word : List ℕ) (r : Option (Bor (List ℕ) × Bor (List ℕ))) → IsSplitOnceResult 44 word r → r ≡ None → heights_in word ≡ with_first (start_in word) (Some [])
heights_end word None cut none = heights_last word (split_once_first 44 word None cut (omega arith))
heights_end word (Some x) cut none = cc

-- ---- whether numbers are there

there_first : (first : Option ℕ) (more : Option (List ℕ)) → is_some first ≡ true → is_some (with_first first more) ≡ is_some more
there_first (Some n) (Some more) there = refl
there_first (Some n) None there = refl
there_first None more there = cc

there_last : (first : Option ℕ) → is_some (with_first first (Some [])) ≡ is_some first
there_last (Some n) = refl
there_last None = refl

-- a number is there, and so those behind it decide,
pub are_more : (word all : List ℕ) (x : Bor (List ℕ) × Bor (List ℕ)) → IsSplitOnceResult 44 word (Some x) → is_some (start_in x.0.now) ≡ true → is_some (heights_in word) ≡ is_some (heights_in all) → is_some (heights_in x.1.now) ≡ is_some (heights_in all)
are_more word all x cut there known = sym (there_first (start_in x.0.now) (heights_in x.1.now) there) ∙ sym (ap is_some (heights_step word x cut)) ∙ known

-- or isn't
pub are_none : (word all : List ℕ) (x : Bor (List ℕ) × Bor (List ℕ)) → IsSplitOnceResult 44 word (Some x) → start_in x.0.now ≡ None → is_some (heights_in word) ≡ is_some (heights_in all) → false ≡ is_some (heights_in all)
are_none word all x cut none known = sym (ap (λ (n : Option ℕ). is_some (with_first n (heights_in x.1.now))) none) ∙ sym (ap is_some (heights_step word x cut)) ∙ known

-- the last one decides
pub are_all : (word all : List ℕ) (r : Option (Bor (List ℕ) × Bor (List ℕ))) → IsSplitOnceResult 44 word r → r ≡ None → is_some (heights_in word) ≡ is_some (heights_in all) → is_some (start_in word) ≡ is_some (heights_in all)
are_all word all r cut none known = sym (there_last (start_in word)) ∙ sym (ap is_some (heights_end word r cut none)) ∙ known

-- ---- which numbers

-- numbers before others, where these are there
abbrev pub after : List ℕ → Option (List ℕ) → Option (List ℕ)
after ns None = None
after ns (Some more) = Some (ns ++ more)

after_first_of : (ns : List ℕ) (n : ℕ) (more : Option (List ℕ)) → after ns (with_first (Some n) more) ≡ after (ns ++ (n ∷ [])) more
after_first_of ns n (Some more) = ap Some (sym (append_assoc ns (n ∷ []) more))
after_first_of ns n None = refl

pub with_one_more : (word all ns ns' : List ℕ) (n : ℕ) (x : Bor (List ℕ) × Bor (List ℕ)) → IsSplitOnceResult 44 word (Some x) → Some n ≡ start_in x.0.now → ns' ≡ ns ++ (n ∷ []) → after ns (heights_in word) ≡ heights_in all → after ns' (heights_in x.1.now) ≡ heights_in all
with_one_more word all ns ns' n x cut is push known =
    ap (λ (l : List ℕ). after l (heights_in x.1.now)) push
    ∙ sym (after_first_of ns n (heights_in x.1.now))
    ∙ ap (λ (o : Option ℕ). after ns (with_first o (heights_in x.1.now))) is
    ∙ sym (ap (after ns) (heights_step word x cut))
    ∙ known

pub with_none : (word all ns : List ℕ) (x : Bor (List ℕ) × Bor (List ℕ)) → IsSplitOnceResult 44 word (Some x) → start_in x.0.now ≡ None → after ns (heights_in word) ≡ heights_in all → heights_in all ≡ None
with_none word all ns x cut none known = sym known ∙ ap (after ns) (heights_step word x cut) ∙ ap (λ (o : Option ℕ). after ns (with_first o (heights_in x.1.now))) none

pub with_last : (word all ns ns' : List ℕ) (n : ℕ) (r : Option (Bor (List ℕ) × Bor (List ℕ))) → IsSplitOnceResult 44 word r → r ≡ None → Some n ≡ start_in word → ns' ≡ ns ++ (n ∷ []) → after ns (heights_in word) ≡ heights_in all → Some ns' ≡ heights_in all
with_last word all ns ns' n r cut none is push known =
    ap Some push ∙ ap (λ (o : Option ℕ). after ns (with_first o (Some []))) is ∙ sym (ap (after ns) (heights_end word r cut none)) ∙ known

pub with_no_last : (word all ns : List ℕ) (r : Option (Bor (List ℕ) × Bor (List ℕ))) → IsSplitOnceResult 44 word r → r ≡ None → start_in word ≡ None → after ns (heights_in word) ≡ heights_in all → heights_in all ≡ None
with_no_last word all ns r cut end none known = sym known ∙ ap (after ns) (heights_end word r cut end) ∙ ap (λ (o : Option ℕ). after ns (with_first o (Some []))) none

-- numbers that are there are asked for
pub asked_heights : (told : Option (List ℕ)) → is_some told ≡ true → Some (Parts told) ≡ heights_request told
asked_heights (Some heights) there = refl
asked_heights None there = cc
