-- Arrays of two and objects of one member, and how deep their parts are.
use Rattle.std.proofs.Common.{◌≡◌, ℕ, ◌<◌, List, ap, ap₂, sym, ◌∙◌, arith, length, get_or, [], ◌∷◌, is_some, false, refl}
use Rattle.serde_json.specs.Data.{Data, null, boolean, number, string, array, object, no_items, item, no_members, member, depth}
use Rattle.serde_json.specs.Find.{as_array}
use Rattle.serde_json.specs.View.{items_of}
use Rattle.pipe_value.specs.Items.{elements, IsArrayOf}
use Rattle.pipe_job.specs.Shape.{is_couple}

pub depth_single : (v d : Data) (k : List ℕ) → v ≡ object (member k d no_members) → depth d < depth v
depth_single v d k e = omega (arith, ap depth e)

pub depth_first : (v a b : Data) → v ≡ array (item a (item b no_items)) → depth a < depth v
depth_first v a b e = omega (arith, ap depth e)

pub depth_second : (v a b : Data) → v ≡ array (item a (item b no_items)) → depth b < depth v
depth_second v a b e = omega (arith, ap depth e)

-- ---- the items of an array of two

two_in : (ds : List Data) → length ds ≡ 2 → items_of ds ≡ item (get_or ds 0 null) (item (get_or ds 1 null) no_items)
two_in (a ∷ b ∷ []) h = refl
two_in [] h = absurd (omega arith)
two_in (a ∷ []) h = absurd (omega arith)
two_in (a ∷ b ∷ c ∷ ds) h = absurd (omega arith)

not_two_in : (ds : List Data) → (length ds ≡ 2 → ⊥) → is_couple (array (items_of ds)) ≡ false
not_two_in [] h = refl
not_two_in (a ∷ []) h = refl
not_two_in (a ∷ b ∷ []) h = absurd (h (omega arith))
not_two_in (a ∷ b ∷ c ∷ ds) h = refl

pub two_of : (v d e : Data) (n : ℕ) → IsArrayOf v n → n ≡ 2 → d ≡ get_or (elements v) 0 null → e ≡ get_or (elements v) 1 null → v ≡ array (item d (item e no_items))
two_of v d e n is two first second =
    is.is_array ∙ ap array (two_in (elements v) (sym is.counted ∙ two)) ∙ ap₂ (λ (a b : Data). array (item a (item b no_items))) (sym first) (sym second)

pub not_two : (v : Data) (n : ℕ) → IsArrayOf v n → (n ≡ 2 → ⊥) → is_couple v ≡ false
not_two v n is other = ap is_couple is.is_array ∙ not_two_in (elements v) (λ two. other (is.counted ∙ two))

pub no_couple : (d : Data) → is_some (as_array d) ≡ false → is_couple d ≡ false
no_couple null h = refl
no_couple (boolean b) h = refl
no_couple (number n) h = refl
no_couple (string s) h = refl
no_couple (array ds) h = absurd (cc)
no_couple (object ms) h = refl

pub within_two : (v : Data) (n i : ℕ) → IsArrayOf v n → n ≡ 2 → i < 2 → i < length (elements v)
within_two v n i is two lt = omega (arith, is.counted, two, lt)

pub ruleset couple_rules = (two_of, not_two, no_couple, within_two)
