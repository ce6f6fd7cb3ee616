-- How far a reader of a list has come.
use Rattle.std.proofs.Common.{◌≡◌, ◌<◌, ◌≤◌, ℕ, suc, map, List, [], ◌∷◌, ◌++◌, Bool, false, ◌&&◌, length, take, drop, get_or, is_some, refl, ap, ap₂, sym, ◌∙◌, subst, drop-cons, take-suc, arith}
use Rattle.std.proofs.lemmas.List.{take_all, map-append}
use Rattle.std.proofs.lemmas.Bool.{and_right}
use Rattle.std.specs.List.{AllByRecursion}
use Rattle.serde_json.specs.Data.{Data, null, boolean, number, string, array, object}
use Rattle.serde_json.specs.Find.{as_array}
use Rattle.serde_json.specs.View.{items_of}
use Rattle.pipe_value.specs.Items.{elements, IsArrayOf}
use Rattle.pipe_job.specs.Shape.{all_items, is_list}
use Rattle.pipe_job.specs.Spelling.{list}

-- the items so far spell what was read, and where a later item is none of the kind, the whole is no list of them
pub record SoFar {A : Type 0} (spelling : A → Data) (fits : A → Type 0) (shape : Data → Bool) (all : List Data) (i : ℕ) (items : List A) : Type 0 where
  pub spelled : take i all ≡ map spelling items
  pub fitting : AllByRecursion fits items
  pub refused : all_items shape (items_of (drop i all)) ≡ false → all_items shape (items_of all) ≡ false

fit_one_more : {A : Type 0} (Fits : A → Type 0) (items : List A) (x : A) → AllByRecursion Fits items → Fits x → AllByRecursion Fits (items ++ x ∷ [])
fit_one_more Fits [] x h f = (f, h)
fit_one_more Fits (y ∷ items) x h f = (h.0, fit_one_more Fits items x h.1 f)

-- at the start
pub none_yet : {A : Type 0} (spell : A → Data) (Fits : A → Type 0) (shape : Data → Bool) (all : List Data) → SoFar spell Fits shape all 0 []
none_yet spell Fits shape all = record { spelled = refl; fitting = tt; refused = λ h. h }

-- what is in front of the further items
next_item : (all : List Data) (i : ℕ) → i < length all → drop i all ≡ get_or all i null ∷ drop (suc i) all
next_item all i lt = drop-cons all i null lt

-- one item more
pub one_more : {A : Type 0} (spell : A → Data) (Fits : A → Type 0) (shape : Data → Bool) (all : List Data) (i : ℕ) (items : List A) (x : A) → i < length all
    → SoFar spell Fits shape all i items → (get_or all i null ≡ spell x) × Fits x → SoFar spell Fits shape all (suc i) (items ++ x ∷ [])
one_more spell Fits shape all i items x lt so read = record {
  spelled = take-suc all i null lt ∙ ap₂ (λ (ds : List Data) (d : Data). ds ++ d ∷ []) so.spelled read.0 ∙ sym (map-append spell items (x ∷ []));
  fitting = fit_one_more Fits items x so.fitting read.1;
  refused = λ fails. so.refused (ap (λ (ds : List Data). all_items shape (items_of ds)) (next_item all i lt) ∙ and_right (shape (get_or all i null)) (all_items shape (items_of (drop (suc i) all))) fails);
}

-- at the end, all is read
pub all_read : {A : Type 0} (spell : A → Data) (Fits : A → Type 0) (shape : Data → Bool) (value : Data) (i : ℕ) (items : List A) → IsArrayOf value i
    → SoFar spell Fits shape (elements value) i items → (value ≡ list spell items) × AllByRecursion Fits items
all_read spell Fits shape value i items is so =
    let all = elements value in
    let same : all ≡ map spell items = sym (take_all i all (omega (arith, is.counted))) ∙ so.spelled in
    (is.is_array ∙ ap (λ (ds : List Data). array (items_of ds)) same, so.fitting)

-- where an item is none of the kind, the whole is no list of them
pub none_read : {A : Type 0} (spell : A → Data) (Fits : A → Type 0) (shape : Data → Bool) (value : Data) (n i : ℕ) (items : List A) → IsArrayOf value n → i < length (elements value)
    → SoFar spell Fits shape (elements value) i items → shape (get_or (elements value) i null) ≡ false → is_list shape value ≡ false
none_read spell Fits shape value n i items is lt so fails =
    let all = elements value in
    ap (is_list shape) is.is_array ∙ so.refused (ap (λ (ds : List Data). all_items shape (items_of ds)) (next_item all i lt) ∙ ap (λ (b : Bool). b && all_items shape (items_of (drop (suc i) all))) fails)

-- what is no array is no list
pub no_list : (shape : Data → Bool) (d : Data) → is_some (as_array d) ≡ false → is_list shape d ≡ false
no_list shape null h = refl
no_list shape (boolean b) h = refl
no_list shape (number n) h = refl
no_list shape (string s) h = refl
no_list shape (array ds) h = absurd (cc)
no_list shape (object ms) h = refl

pub ruleset list_rules = (none_yet, one_more, all_read, none_read, no_list)
