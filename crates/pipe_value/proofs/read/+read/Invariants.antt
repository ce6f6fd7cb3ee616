use Rattle.std.proofs.Common.{◌≡◌, ℕ, ◌+◌, ◌*◌, ◌≤◌, length, map}
use Rattle.json.specs.Json.{items, members, value, parse_map}
use Rattle.serde_json.specs.Data.{no_members}
use Rattle.serde_json.specs.Read.{of_items, of_members, converted}
use Rattle.pipe_value.specs.Read.{items_before, array_after, filled_data}
use Rattle.pipe_value.specs.View.{view, members_view}
use Rattle.pipe_value.proofs.read.+read.Given as goal

abbrev pub decreases-read : goal.decreases-read
decreases-read l = 3 * l.depth

abbrev pub decreases-read_items : goal.decreases-read_items
decreases-read_items l = 3 * l.depth + 2

abbrev pub decreases-read_members : goal.decreases-read_members
decreases-read_members l = 3 * l.depth + 1

abbrev pub decreases-read_more : goal.decreases-read_more
decreases-read_more l = 3 * l.depth + 1

abbrev pub invariant-read_items-items : goal.invariant-read_items-items
invariant-read_items-items l =
    (n : ℕ) × (length l.reader ≤ n)
    × (converted of_items (items (value l.depth) (length l.initial.reader) l.initial.reader) ≡ parse_map (items_before (map view l.found.items)) (converted of_items (items (value l.depth) n l.reader)))
    × (length l.reader ≤ length l.initial.reader)

abbrev pub decreases-read_items-items : goal.decreases-read_items-items
decreases-read_items-items l = length l.reader

abbrev pub invariant-read_members-members : goal.invariant-read_members-members
invariant-read_members-members l =
    (n : ℕ) × (length l.reader ≤ n)
    × (converted (λ ms. of_members ms no_members) (members (value l.depth) (length l.initial.reader) l.initial.reader) ≡ converted (λ ms. of_members ms (members_view l.found.entries)) (members (value l.depth) n l.reader))
    × (length l.reader ≤ length l.initial.reader)

abbrev pub decreases-read_members-members : goal.decreases-read_members-members
decreases-read_members-members l = length l.reader

-- what of the tokens from the start on is read with those items before it
abbrev pub invariant-read_more-items : goal.invariant-read_more-items
invariant-read_more-items l =
    ((n : ℕ) → length l.initial.reader ≤ n → (m : ℕ) × (length l.reader ≤ m)
    × (array_after (filled_data l.initial.found) (converted of_items (items (value l.depth) n l.initial.reader)) ≡ array_after (filled_data l.found) (converted of_items (items (value l.depth) m l.reader))))
    × (length l.reader ≤ length l.initial.reader)

abbrev pub decreases-read_more-items : goal.decreases-read_more-items
decreases-read_more-items l = length l.reader
