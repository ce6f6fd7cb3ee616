-- Names that stand again, found by a map of the names behind.
use Rattle.std.proofs.Common.{◌≡◌, ℕ, Bool, true, false, cond, List, ◌∷◌, Option, Some, refl, ap, sym, ◌∙◌}
use Rattle.std.specs.Prelude.{is_some, ◌||◌}
use Rattle.std.specs.Str.{bytes_eq}
use Rattle.pipe_schema.specs.Schema.{has_name, first_repeated}

some_or : {X : Type 0} (b : Bool) (x : X) (o : Option X) → is_some (cond b (Some x) o) ≡ (b || is_some o)
some_or true x o = refl
some_or false x o = refl

-- one more name
pub has_more : {X : Type 0} (key name q : List ℕ) (rest all : List (List ℕ)) (x : X) (before after : Option X) → after ≡ cond (bytes_eq key q) (Some x) before → key ≡ name → is_some before ≡ has_name rest q → all ≡ name ∷ rest → is_some after ≡ has_name all q
has_more key name q rest all x before after e same has is =
    ap is_some e ∙ some_or (bytes_eq key q) x before ∙ ap (λ k. bytes_eq k q || is_some before) same ∙ ap (λ b. bytes_eq name q || b) has ∙ sym (ap (λ names. has_name names q) is)

-- the first name stands again, or doesn't
pub repeated_yes : (name : List ℕ) (rest all : List (List ℕ)) → has_name rest name ≡ true → all ≡ name ∷ rest → Some name ≡ first_repeated all
repeated_yes name rest all h is = sym (ap first_repeated is ∙ ap (λ b. cond b (Some name) (first_repeated rest)) h)

pub repeated_no : (name : List ℕ) (rest all : List (List ℕ)) (found : Option (List ℕ)) → has_name rest name ≡ false → found ≡ first_repeated rest → all ≡ name ∷ rest → found ≡ first_repeated all
repeated_no name rest all found h e is = e ∙ sym (ap first_repeated is ∙ ap (λ b. cond b (Some name) (first_repeated rest)) h)
