use Rattle.std.proofs.Common.{◌≡◌, ◌+◌, ◌*◌, ℕ, Some, None}
use Rattle.serde_json.specs.Data.{depth}
use Rattle.pipe_value.specs.View.{view}
use Rattle.pipe_why_text.specs.Members.{item_wanted, members_in, members_of}
use Rattle.pipe_why_text.specs.declared.want.Want.{Want}
use Rattle.pipe_why_text.specs.declared.want.Want.TheVariants as want
use Rattle.pipe_why_value.specs.Places.{AreGoodBefore}
use Rattle.pipe_why_value.specs.Order.{names_in, written}
use Rattle.pipe_why_value.specs.Walks.{Looked}
use Rattle.pipe_why_value.proofs.Orders.{AreGoodLasts}
use Rattle.pipe_why_value.proofs.looking.+walk.Given as goal

abbrev pub decreases-look_at : goal.decreases-look_at
decreases-look_at l = 20 * depth (view l.value.now) + 19

abbrev pub decreases-parts : goal.decreases-parts
decreases-parts l = 20 * depth (view l.value.now) + 18

abbrev pub decreases-object : goal.decreases-object
decreases-object l = 20 * depth (view l.value.now) + 17

abbrev pub decreases-array : goal.decreases-array
decreases-array l = 20 * depth (view l.value.now) + 17

abbrev pub decreases-known_object : goal.decreases-known_object
decreases-known_object l = 20 * depth (view l.value.now) + 16

abbrev pub decreases-array_items : goal.decreases-array_items
decreases-array_items l = 20 * depth (view l.value.now) + 16

abbrev pub decreases-members : goal.decreases-members
decreases-members l = 20 * depth (view l.value.now) + 15

abbrev pub decreases-expr : goal.decreases-expr
decreases-expr l = 20 * depth (view l.value.now) + 15

abbrev pub decreases-items : goal.decreases-items
decreases-items l = 20 * depth (view l.value.now) + 14

abbrev pub decreases-couple : goal.decreases-couple
decreases-couple l = 20 * depth (view l.value.now) + 14

abbrev pub decreases-placed_members : goal.decreases-placed_members
decreases-placed_members l = 20 * depth (view l.value.now) + 14

abbrev pub decreases-form_member : goal.decreases-form_member
decreases-form_member l = 20 * depth (view l.value.now) + 14

abbrev pub decreases-member : goal.decreases-member
decreases-member l = 20 * depth (view l.parent.now) + 13

abbrev pub decreases-form_value : goal.decreases-form_value
decreases-form_value l = 20 * depth (view l.value.now) + 20

abbrev pub decreases-item : goal.decreases-item
decreases-item l = 20 * depth (view l.value.now) + 12

abbrev pub decreases-member_value : goal.decreases-member_value
decreases-member_value l = 20 * depth (view l.parent.now) + 11

abbrev pub decreases-last_member : goal.decreases-last_member
decreases-last_member l = 20 * depth (view l.parent.now) + 12

abbrev pub invariant-items-loop-i : goal.invariant-items-loop-i
invariant-items-loop-i l = (w : Want) → ((i : ℕ) → item_wanted w i ≡ Some l.want) → record {
  looked : Looked (w, view l.value, written l.fn.tree) l.fn.walk l.walk;
  good : l.walk.first ≡ None → AreGoodBefore (w, view l.value, written l.fn.tree) l.i;
}

abbrev pub invariant-placed_members-loop-i : goal.invariant-placed_members-loop-i
invariant-placed_members-loop-i l = (w : Want) → members_in l.known ≡ members_of w (view l.value) → record {
  looked : Looked (w, view l.value, written l.fn.tree) l.fn.walk l.walk;
  good : l.walk.first ≡ None → AreGoodLasts (w, view l.value, written l.fn.tree) (names_in l.members) l.i;
}
