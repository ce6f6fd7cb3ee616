use Rattle.std.proofs.Common.{◌≡◌, None}
use Rattle.json.specs.Json.{Json}
use Rattle.pipe_value.specs.View.{view}
use Rattle.pipe_why_text.specs.Members.{members_in, members_of}
use Rattle.pipe_why_text.specs.declared.want.Want.{Want}
use Rattle.pipe_why_value.specs.Places.{AreGoodParts}
use Rattle.pipe_why_value.specs.Walks.{Looked}
use Rattle.pipe_why_value.proofs.walk.Walk.missing.Given as goal

abbrev pub invariant-loop-member : goal.invariant-loop-member
invariant-loop-member l = (w : Want) → members_in l.known ≡ members_of w (view l.value) → (t : Json) → (l.fn.self.first ≡ None → AreGoodParts (w, view l.value, t))
    → Looked (w, view l.value, t) l.fn.self l.self
