-- Lists in which those that pass a test stand together.
use Rattle.std.proofs.Common.{◌≡◌, Bool, true, false, not, cond, ◌||◌, List, [], ◌∷◌, ◌++◌, map, refl, ap, sym, ◌∙◌}
use Rattle.std.specs.List.{list_any, AllByRecursion}
use Rattle.pipe_driver.proofs.Tests.{by_test, all-append}
use Rattle.pipe_driver.specs.Blocks.{is_in_front, is_together}

module _ {X : Type 0} (test : X → Bool) where
  abbrev pub Passes : X → Type 0
  Passes x = test x ≡ true

  abbrev pub FailsTest : X → Type 0
  FailsTest x = test x ≡ false

  none_any : (xs : List X) → AllByRecursion FailsTest xs → list_any test xs ≡ false
  none_any [] h = refl
  none_any (x ∷ xs) h = ap (λ b. b || list_any test xs) h.0 ∙ none_any xs h.1

  any_none : (xs : List X) → not (list_any test xs) ≡ true → AllByRecursion FailsTest xs
  any_none [] h = tt
  any_none (x ∷ xs) h =
      by_test (AllByRecursion FailsTest (x ∷ xs)) (test x)
      (λ e. absurd (let f : false ≡ true = sym (ap (λ b. not (b || list_any test xs)) e) ∙ h in cc))
      (λ e. (e, any_none xs (sym (ap (λ b. not (b || list_any test xs)) e) ∙ h)))

  none_in_front : (xs : List X) → AllByRecursion FailsTest xs → is_in_front test xs ≡ true
  none_in_front [] h = refl
  none_in_front (x ∷ xs) h = ap (λ b. cond b (is_in_front test xs) (not (list_any test xs))) h.0 ∙ ap not (none_any xs h.1)

  pub none_together : (xs : List X) → AllByRecursion FailsTest xs → is_together test xs ≡ true
  none_together [] h = refl
  none_together (x ∷ xs) h = ap (λ b. cond b (is_in_front test xs) (is_together test xs)) h.0 ∙ none_together xs h.1

  front_then_none : (xs ys : List X) → is_in_front test xs ≡ true → AllByRecursion FailsTest ys → is_in_front test (xs ++ ys) ≡ true
  front_then_none [] ys h none = none_in_front ys none
  front_then_none (x ∷ xs) ys h none =
      by_test (is_in_front test ((x ∷ xs) ++ ys) ≡ true) (test x)
      (λ e. ap (λ b. cond b (is_in_front test (xs ++ ys)) (not (list_any test (xs ++ ys)))) e ∙ front_then_none xs ys (sym (ap (λ b. cond b (is_in_front test xs) (not (list_any test xs))) e) ∙ h) none)
      (λ e. ap (λ b. cond b (is_in_front test (xs ++ ys)) (not (list_any test (xs ++ ys)))) e ∙ ap not (none_any (xs ++ ys) (all-append FailsTest xs ys (any_none xs (sym (ap (λ b. cond b (is_in_front test xs) (not (list_any test xs))) e) ∙ h)) none)))

  pub together_then_none : (xs ys : List X) → is_together test xs ≡ true → AllByRecursion FailsTest ys → is_together test (xs ++ ys) ≡ true
  together_then_none [] ys h none = none_together ys none
  together_then_none (x ∷ xs) ys h none =
      by_test (is_together test ((x ∷ xs) ++ ys) ≡ true) (test x)
      (λ e. ap (λ b. cond b (is_in_front test (xs ++ ys)) (is_together test (xs ++ ys))) e ∙ front_then_none xs ys (sym (ap (λ b. cond b (is_in_front test xs) (is_together test xs)) e) ∙ h) none)
      (λ e. ap (λ b. cond b (is_in_front test (xs ++ ys)) (is_together test (xs ++ ys))) e ∙ together_then_none xs ys (sym (ap (λ b. cond b (is_in_front test xs) (is_together test xs)) e) ∙ h) none)

  pub none_then_together : (xs ys : List X) → AllByRecursion FailsTest xs → is_together test ys ≡ true → is_together test (xs ++ ys) ≡ true
  none_then_together [] ys none h = h
  none_then_together (x ∷ xs) ys none h = ap (λ b. cond b (is_in_front test (xs ++ ys)) (is_together test (xs ++ ys))) none.0 ∙ none_then_together xs ys none.1 h

  all_in_front : (xs : List X) → AllByRecursion Passes xs → is_in_front test xs ≡ true
  all_in_front [] h = refl
  all_in_front (x ∷ xs) h = ap (λ b. cond b (is_in_front test xs) (not (list_any test xs))) h.0 ∙ all_in_front xs h.1

  pub all_together : (xs : List X) → AllByRecursion Passes xs → is_together test xs ≡ true
  all_together [] h = refl
  all_together (x ∷ xs) h = ap (λ b. cond b (is_in_front test xs) (is_together test xs)) h.0 ∙ all_in_front xs h.1

  -- lists that are tested by a part of each element
  any_mapped : {Y : Type 0} (f : Y → X) (ys : List Y) → list_any (λ y. test (f y)) ys ≡ list_any test (map f ys)
  any_mapped f [] = refl
  any_mapped f (y ∷ ys) = ap (λ b. test (f y) || b) (any_mapped f ys)

  front_mapped : {Y : Type 0} (f : Y → X) (ys : List Y) → is_in_front (λ y. test (f y)) ys ≡ is_in_front test (map f ys)
  front_mapped f [] = refl
  front_mapped f (y ∷ ys) = ap (λ b. cond (test (f y)) b (not (list_any (λ z. test (f z)) ys))) (front_mapped f ys) ∙ ap (λ b. cond (test (f y)) (is_in_front test (map f ys)) (not b)) (any_mapped f ys)

  pub together_mapped : {Y : Type 0} (f : Y → X) (ys : List Y) → is_together (λ y. test (f y)) ys ≡ is_together test (map f ys)
  together_mapped f [] = refl
  together_mapped f (y ∷ ys) = ap (λ b. cond (test (f y)) b (is_together (λ z. test (f z)) ys)) (front_mapped f ys) ∙ ap (cond (test (f y)) (is_in_front test (map f ys))) (together_mapped f ys)
