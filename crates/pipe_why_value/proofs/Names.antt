-- The names of columns, in an ordered map.
use Rattle.std.proofs.Common.{◌≡◌, ◌<◌, ◌+◌, ℕ, List, [], Bool, true, false, cond, Option, Some, None, refl, sym, ap, ◌∙◌, arith, String, BTreeMap}
use Rattle.std.specs.BTreeMap.{get_by_text, is_at}
use Rattle.std.specs.Map.{lookup}
use Rattle.std.specs.Ordering.{nat_cmp}
use Rattle.std.specs.Prelude.{string_bytes}
use Rattle.std.specs.Cmp.Lexicographic.{bytes_decides, slice_cmp}
use Rattle.std.specs.Str.{bytes_eq}
use Rattle.std.specs.declared.alloc.Global.{Global}
use Rattle.serde_json.specs.Data.{Data}
use Rattle.pipe_why_value.specs.Places.{name_at}
use Rattle.pipe_why_value.specs.Walks.{AreNames}

abbrev place_in : Option ℕ → ℕ
place_in None = 0
place_in (Some j) = j

none_found : (j : ℕ) → None ≡ Some j → ⊥
none_found j h = cc

-- no name
pub no_names : (d : Data) (names : BTreeMap (String Global) ℕ) → names.entries ≡ [] → AreNames d 0 names
no_names d names empty = λ name j found. absurd (none_found j (sym (ap (λ (es : List (String Global × ℕ)). lookup (is_at (λ (k : String Global). slice_cmp nat_cmp name (string_bytes k))) es) empty) ∙ found))

-- no further name
pub names_kept : (d : Data) (i : ℕ) (names : BTreeMap (String Global) ℕ) → AreNames d i names → AreNames d (i + 1) names
names_kept d i names were = λ name j found. let was = were name j found in (omega (arith, was.0), was.1)

by_case : (b : Bool) (d : Data) (i j : ℕ) (put name : List ℕ) (old : BTreeMap (String Global) ℕ) → AreNames d i old → name_at d i ≡ put
    → bytes_eq put name ≡ b → cond b (Some i) (get_by_text old name) ≡ Some j → (j < i + 1) × (name_at d j ≡ name)
by_case true d i j put name old were here same found =
    let is : i ≡ j = ap place_in found in
    (omega (arith, is), ap (name_at d) (sym is) ∙ here ∙ (bytes_decides put name).0 same)
by_case false d i j put name old were here other found = let was = were name j found in (omega (arith, was.0), was.1)

-- the name of the column at a place
pub names_put : (d : Data) (i : ℕ) (put : List ℕ) (old new : BTreeMap (String Global) ℕ) → AreNames d i old → name_at d i ≡ put
    → ((name : List ℕ) → get_by_text new name ≡ cond (bytes_eq put name) (Some i) (get_by_text old name)) → AreNames d (i + 1) new
names_put d i put old new were here updates = λ name j found.
    by_case (bytes_eq put name) d i j put name old were here refl (sym (updates name) ∙ found)
