-- Arrays of three, and edits.
use Rattle.std.proofs.Common.{◌≡◌, ℕ, ◌<◌, List, Bool, true, false, ◌&&◌, ap, sym, ◌∙◌, arith, length, get_or, [], ◌∷◌, None, refl}
use Rattle.serde_json.specs.Data.{Data, null, boolean, number, string, array, object, no_items, item}
use Rattle.serde_json.specs.Find.{as_array}
use Rattle.serde_json.specs.View.{items_of}
use Rattle.pipe_value.specs.Items.{elements, IsArrayOf}
use Rattle.pipe_job.specs.Shape.{is_list}
use Rattle.pipe_job.specs.Spelling.{list}
use Rattle.pipe_view.specs.RawSpelling.{is_kind, is_raw_cell, is_raw_edit, is_side, is_triple, kind_name, raw_cell_spelling, raw_edit_spelling, side_name}
use Rattle.pipe_view.specs.declared.raw_edit.RawEdit.{RawEdit}

three_in : (ds : List Data) → length ds ≡ 3 → items_of ds ≡ item (get_or ds 0 null) (item (get_or ds 1 null) (item (get_or ds 2 null) no_items))
three_in (a ∷ b ∷ c ∷ []) h = refl
three_in [] h = absurd (omega arith)
three_in (a ∷ []) h = absurd (omega arith)
three_in (a ∷ b ∷ []) h = absurd (omega arith)
three_in (a ∷ b ∷ c ∷ d ∷ ds) h = absurd (omega arith)

not_three_in : (ds : List Data) → (length ds ≡ 3 → ⊥) → is_triple (array (items_of ds)) ≡ false
not_three_in [] h = refl
not_three_in (a ∷ []) h = refl
not_three_in (a ∷ b ∷ []) h = refl
not_three_in (a ∷ b ∷ c ∷ []) h = absurd (h (omega arith))
not_three_in (a ∷ b ∷ c ∷ d ∷ ds) h = refl

pub three_of : (v a b c : Data) (n : ℕ) → IsArrayOf v n → n ≡ 3 → a ≡ get_or (elements v) 0 null → b ≡ get_or (elements v) 1 null → c ≡ get_or (elements v) 2 null → v ≡ array (item a (item b (item c no_items)))
three_of v a b c n is three first second third =
    is.is_array ∙ ap array (three_in (elements v) (sym is.counted ∙ three))
    ∙ ap (λ (x : Data). array (item x (item (get_or (elements v) 1 null) (item (get_or (elements v) 2 null) no_items)))) (sym first)
    ∙ ap (λ (x : Data). array (item a (item x (item (get_or (elements v) 2 null) no_items)))) (sym second)
    ∙ ap (λ (x : Data). array (item a (item b (item x no_items)))) (sym third)

pub not_three : (v : Data) (n : ℕ) → IsArrayOf v n → (n ≡ 3 → ⊥) → is_triple v ≡ false
not_three v n is other = ap is_triple is.is_array ∙ not_three_in (elements v) (λ three. other (is.counted ∙ three))

pub no_triple : (d : Data) → as_array d ≡ None → is_triple d ≡ false
no_triple null h = refl
no_triple (boolean b) h = refl
no_triple (number n) h = refl
no_triple (string s) h = refl
no_triple (array ds) h = absurd (cc)
no_triple (object ms) h = refl

pub within_three : (v : Data) (n i : ℕ) → IsArrayOf v n → n ≡ 3 → i < 3 → i < length (elements v)
within_three v n i is three lt = omega (arith, is.counted, three, lt)

pub ruleset triple_rules = (three_of, not_three, no_triple, within_three)

-- ---- edits

pub other_triple : (v : Data) → is_triple v ≡ false → is_raw_edit v ≡ false
other_triple null h = refl
other_triple (boolean b) h = refl
other_triple (number n) h = refl
other_triple (string s) h = refl
other_triple (array no_items) h = refl
other_triple (array (item a no_items)) h = refl
other_triple (array (item a (item b no_items))) h = refl
other_triple (array (item a (item b (item c no_items)))) h = cc
other_triple (array (item a (item b (item c (item d ds))))) h = refl
other_triple (object ms) h = refl

pub and_none : (a b : Bool) → b ≡ false → (a && b) ≡ false
and_none true b h = h
and_none false b h = refl

pub none_and : (a b : Bool) → a ≡ false → (a && b) ≡ false
none_and true b h = cc
none_and false b h = refl

pub other_side : (v a b c : Data) → v ≡ array (item a (item b (item c no_items))) → is_side a ≡ false → is_raw_edit v ≡ false
other_side v a b c e h = ap is_raw_edit e ∙ none_and (is_side a) (is_kind b && is_list is_raw_cell c) h

pub other_kind : (v a b c : Data) → v ≡ array (item a (item b (item c no_items))) → is_kind b ≡ false → is_raw_edit v ≡ false
other_kind v a b c e h = ap is_raw_edit e ∙ and_none (is_side a) (is_kind b && is_list is_raw_cell c) (none_and (is_kind b) (is_list is_raw_cell c) h)

pub other_cells : (v a b c : Data) → v ≡ array (item a (item b (item c no_items))) → is_list is_raw_cell c ≡ false → is_raw_edit v ≡ false
other_cells v a b c e h = ap is_raw_edit e ∙ and_none (is_side a) (is_kind b && is_list is_raw_cell c) (and_none (is_kind b) (is_list is_raw_cell c) h)

pub edit_read : (v a b c : Data) (edit : RawEdit) → v ≡ array (item a (item b (item c no_items))) → a ≡ string (side_name edit.side) → b ≡ string (kind_name edit.kind) → c ≡ list raw_cell_spelling edit.cells → v ≡ raw_edit_spelling edit
edit_read v a b c edit e f g h =
    e ∙ ap (λ (x : Data). array (item x (item b (item c no_items)))) f
    ∙ ap (λ (x : Data). array (item (string (side_name edit.side)) (item x (item c no_items)))) g
    ∙ ap (λ (x : Data). array (item (string (side_name edit.side)) (item (string (kind_name edit.kind)) (item x no_items)))) h

pub ruleset edit_rules = (other_triple, other_side, other_kind, other_cells, edit_read)
