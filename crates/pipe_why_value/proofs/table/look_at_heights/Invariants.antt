use Rattle.std.proofs.Common.{◌≡◌, None}
use Rattle.json.specs.Json.{Json}
use Rattle.pipe_value.specs.View.{view}
use Rattle.pipe_why_text.specs.declared.want.Want.TheVariants as want
use Rattle.pipe_why_value.specs.Places.{AreGoodParts}
use Rattle.pipe_why_value.specs.Walks.{Looked}
use Rattle.pipe_why_value.proofs.table.look_at_heights.Given as goal

abbrev pub invariant-loop-i : goal.invariant-loop-i
invariant-loop-i l = (t : Json) → (l.fn.walk.first ≡ None → AreGoodParts (want.Columns, view l.columns, t)) → Looked (want.Columns, view l.columns, t) l.fn.walk l.walk
