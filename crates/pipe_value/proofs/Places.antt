-- The items of an array by their places.
use Rattle.std.specs.Prelude.{IfOk, Result, Ok, Err, Option, option_map}
use Rattle.std.specs.Option.{option_copied}
use Rattle.std.proofs.Common.{◌≡◌, ℕ, zero, suc, ◌+◌, ◌<◌, List, [], ◌∷◌, ◌++◌, map, length, get_or, Bor, refl, sym, ap, ◌∙◌, subst, arith}
use Rattle.serde_json.specs.Data.{Data, null, array}
use Rattle.serde_json.specs.View.{items_of}
use Rattle.pipe_value.specs.Items.{list_of, elements, nullable_text, IsFound, IsFoundText, IsArrayOf}
use Rattle.pipe_value.specs.View.{view}
use Rattle.pipe_value.specs.declared.columns.Found.{Found}
use Rattle.pipe_value.specs.declared.columns.Found.TheVariants.{Here, Past}
use Rattle.pipe_value.specs.declared.columns.FoundText.{FoundText}
use Rattle.pipe_value.specs.declared.columns.FoundText.TheVariants.{Here as HereText, Past as PastText}
use Rattle.pipe_value.specs.declared.value.Value.{Value}

list_of-items_of : (ds : List Data) → list_of (items_of ds) ≡ ds
list_of-items_of [] = refl
list_of-items_of (d ∷ ds) = ap (λ (es : List Data). d ∷ es) (list_of-items_of ds)

pub elements_of : (d : Data) (ds : List Data) → d ≡ array (items_of ds) → elements d ≡ ds
elements_of d ds e = ap elements e ∙ list_of-items_of ds

pub array_of : (d : Data) (ds : List Data) (n : ℕ) → d ≡ array (items_of ds) → n ≡ length ds → IsArrayOf d n
array_of d ds n e c = let same = elements_of d ds e in record {
  is_array = e ∙ ap (λ (es : List Data). array (items_of es)) (sym same);
  counted = c ∙ ap length (sym same);
}

pub counted : (vs : List Value) → length vs ≡ length (map view vs)
counted [] = refl
counted (v ∷ vs) = ap suc (counted vs)

pub counted_both : (ds : List Data) (vs : List Value) → length ds + length vs ≡ length (ds ++ map view vs)
counted_both [] vs = omega (arith, counted vs)
counted_both (d ∷ ds) vs = omega (arith, counted_both ds vs)

pub at_value : (vs : List Value) (i : ℕ) (d : Value) → i < length vs → view (get_or vs i d) ≡ get_or (map view vs) i null
at_value [] i d h = absurd (omega arith)
at_value (v ∷ vs) zero d h = refl
at_value (v ∷ vs) (suc i) d h = at_value vs i d (omega arith)

pub at_front : (ds es : List Data) (i : ℕ) → i < length ds → get_or ds i null ≡ get_or (ds ++ es) i null
at_front [] es i h = absurd (omega arith)
at_front (d ∷ ds) es zero h = refl
at_front (d ∷ ds) es (suc i) h = at_front ds es i (omega arith)

pub at_back : (ds es : List Data) (k : ℕ) → get_or es k null ≡ get_or (ds ++ es) (length ds + k) null
at_back [] es k = let e : k ≡ 0 + k = omega arith in ap (λ i. get_or es i null) e
at_back (d ∷ ds) es k = let e : suc (length ds + k) ≡ suc (length ds) + k = omega arith in at_back ds es k ∙ ap (λ i. get_or (d ∷ (ds ++ es)) i null) e

pub found_here : (ds : List Data) (i : ℕ) (f : Found) (v : Value) → f ≡ Here v → IsFound ds i f → (i < length ds) × (view v ≡ get_or ds i null)
found_here ds i f v e h = subst (IsFound ds i) e h

pub found_past : (ds : List Data) (i : ℕ) (f : Found) (k : ℕ) → f ≡ Past k → IsFound ds i f → i ≡ length ds + k
found_past ds i f k e h = subst (IsFound ds i) e h

pub text_here : (ds : List Data) (i : ℕ) (f : FoundText) (text : Option (Option (Bor (List ℕ)))) → f ≡ HereText text → IsFoundText ds i f → (i < length ds) × (option_map option_copied text ≡ nullable_text (get_or ds i null))
text_here ds i f text e h = subst (IsFoundText ds i) e h

pub text_past : (ds : List Data) (i : ℕ) (f : FoundText) (k : ℕ) → f ≡ PastText k → IsFoundText ds i f → i ≡ length ds + k
text_past ds i f k e h = subst (IsFoundText ds i) e h

pub within_values : (d : Data) (vs : List Value) (i : ℕ) → elements d ≡ map view vs → i < length (elements d) → i < length vs
within_values d vs i e h = omega (arith, h, ap length e ∙ sym (counted vs))

pub within_further : (d : Data) (ds : List Data) (vs : List Value) (i k : ℕ) → elements d ≡ ds ++ map view vs → i < length (elements d) → i ≡ length ds + k → k < length vs
within_further d ds vs i k e h p = omega (arith, h, p, ap length e ∙ sym (counted_both ds vs))

pub handed_on : {E : Type 0} (r : Result Value E) (P Q : Value → Type 0) → ((v : Value) → P v → Q v) → IfOk r P → IfOk r Q
handed_on (Ok v) P Q each h = each v h
handed_on (Err e) P Q each h = h
