-- Names in the order of an object's members.
use Rattle.std.specs.Prelude.{ℕ, List, Bool, true, false}
use Rattle.std.specs.Cmp.Lexicographic.{slice_cmp}
use Rattle.std.specs.Ordering.{nat_cmp, match_ordering}
use Rattle.serde_json.specs.Data.{Members, no_members, member}

-- whether a name stands before the first of some members
abbrev pub is_before : List ℕ → Members → Bool
is_before name no_members = true
is_before name (member k d ms) = match_ordering (slice_cmp nat_cmp name k) true false false
