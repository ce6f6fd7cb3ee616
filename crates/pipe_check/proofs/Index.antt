-- An index of things by their names, made from the last thing to the first.
use Rattle.std.proofs.Common.{◌≡◌, ℕ, Bool, true, false, cond, List, [], ◌∷◌, Option, Some, None, map, refl, ap, sym, ◌∙◌, Bor}
use Rattle.std.specs.Prelude.{is_some, ◌||◌}
use Rattle.std.specs.Option.{option_copied}
use Rattle.std.specs.Str.{bytes_eq}
use Rattle.pipe_schema.specs.Schema.{has_name, first_repeated}
use Rattle.pipe_check.specs.Named.{first_named}

copied_more : {N : Type 0} (b : Bool) (r : Bor N) (o : Option (Bor N)) → option_copied (cond b (Some r) o) ≡ cond b (Some r.now) (option_copied o)
copied_more true r o = refl
copied_more false r o = refl

-- one more thing
pub index_more : {N : Type 0} (f : N → List ℕ) (key q : List ℕ) (r : Bor N) (x : N) (rest all : List N) (before after : Option (Bor N)) → after ≡ cond (bytes_eq key q) (Some r) before → key ≡ f x → r.now ≡ x → option_copied before ≡ first_named f rest q → all ≡ x ∷ rest → option_copied after ≡ first_named f all q
index_more f key q r x rest all before after e same is has whole =
    ap option_copied e ∙ copied_more (bytes_eq key q) r before
    ∙ ap (λ y. cond (bytes_eq key q) (Some y) (option_copied before)) is
    ∙ ap (λ k. cond (bytes_eq k q) (Some x) (option_copied before)) same
    ∙ ap (λ o. cond (bytes_eq (f x) q) (Some x) o) has
    ∙ sym (ap (λ xs. first_named f xs q) whole)

some_copied : {N : Type 0} (o : Option (Bor N)) → is_some (option_copied o) ≡ is_some o
some_copied None = refl
some_copied (Some r) = refl

has_first : {N : Type 0} (f : N → List ℕ) (xs : List N) (name : List ℕ) → has_name (map f xs) name ≡ is_some (first_named f xs name)
has_first f [] name = refl
has_first f (x ∷ xs) name =
    elim (bytes_eq (f x) name) as (λ b. (b || has_name (map f xs) name) ≡ is_some (cond b (Some x) (first_named f xs name))) [
      | true ↦ refl
      | false ↦ has_first f xs name
    ]

-- its name stands again, or doesn't
pub stands_again : {N : Type 0} (f : N → List ℕ) (x : N) (name : List ℕ) (rest all : List N) (old : Option (Bor N)) → name ≡ f x → option_copied old ≡ first_named f rest name → is_some old ≡ true → all ≡ x ∷ rest → Some name ≡ first_repeated (map f all)
stands_again f x name rest all old same is there whole =
    let there' : has_name (map f rest) (f x) ≡ true = ap (has_name (map f rest)) (sym same) ∙ has_first f rest name ∙ ap is_some (sym is) ∙ some_copied old ∙ there in
    ap Some same ∙ sym (ap (λ xs. first_repeated (map f xs)) whole ∙ ap (λ b. cond b (Some (f x)) (first_repeated (map f rest))) there')

pub stands_once : {N : Type 0} (f : N → List ℕ) (x : N) (name : List ℕ) (rest all : List N) (old : Option (Bor N)) (found : Option (List ℕ)) → name ≡ f x → option_copied old ≡ first_named f rest name → is_some old ≡ false → found ≡ first_repeated (map f rest) → all ≡ x ∷ rest → found ≡ first_repeated (map f all)
stands_once f x name rest all old found same is missing so_far whole =
    let missing' : has_name (map f rest) (f x) ≡ false = ap (has_name (map f rest)) (sym same) ∙ has_first f rest name ∙ ap is_some (sym is) ∙ some_copied old ∙ missing in
    so_far ∙ sym (ap (λ xs. first_repeated (map f xs)) whole ∙ ap (λ b. cond b (Some (f x)) (first_repeated (map f rest))) missing')
