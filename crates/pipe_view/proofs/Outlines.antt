-- Members in their order.
use Rattle.std.proofs.Common.{◌≡◌, ℕ, List, Bool, false, codes, ap, ◌∙◌, refl, Result, Ok, Err}
use Rattle.std.specs.Result.{IsErrAnd}
use Rattle.pipe_job.specs.Reads.{ReadWhere}
use Rattle.pipe_job.specs.declared.misread.Misread.{Misread}
use Rattle.pipe_job.specs.declared.misread.Misread.TheVariants.{Other, Memory}
use Rattle.serde_json.specs.Data.{Data, null, boolean, number, string, array, object, Members, member, no_members}
use Rattle.pipe_job.specs.Shape.{after, begins, is_end, is_object}
use Rattle.pipe_view.specs.RawReplays.{has_members, is_any, outline_data}

not_begun : (name : List ℕ) (rest : Members → Bool) (ms : Members) → begins name ms ≡ false → after name is_any rest ms ≡ false
not_begun name rest no_members h = refl
not_begun name rest (member k d ms) h = rw h refl

abbrev from_version : Members → Bool
from_version ms = after (codes "version") is_any is_end ms

abbrev from_limit : Members → Bool
from_limit ms = after (codes "row_limit") is_any from_version ms

abbrev from_join : Members → Bool
from_join ms = after (codes "join") is_any from_limit ms

abbrev from_frames : Members → Bool
from_frames ms = after (codes "frames") is_any from_join ms

abbrev from_edits : Members → Bool
from_edits ms = after (codes "edits") is_any from_frames ms

pub no_object : (v : Data) → is_object v ≡ false → has_members v ≡ false
no_object null h = refl
no_object (boolean b) h = refl
no_object (number n) h = refl
no_object (string s) h = refl
no_object (array ds) h = refl
no_object (object ms) h = cc

pub no_edits : (v : Data) (m : Members) → v ≡ object m → begins (codes "edits") m ≡ false → has_members v ≡ false
no_edits v m e h = ap has_members e ∙ not_begun (codes "edits") from_frames m h

pub no_frames : (v a : Data) (m m1 : Members) → v ≡ object m → m ≡ member (codes "edits") a m1 → begins (codes "frames") m1 ≡ false → has_members v ≡ false
no_frames v a m m1 e f h = ap has_members e ∙ ap from_edits f ∙ not_begun (codes "frames") from_join m1 h

pub no_join : (v a b : Data) (m m1 m2 : Members) → v ≡ object m → m ≡ member (codes "edits") a m1 → m1 ≡ member (codes "frames") b m2 → begins (codes "join") m2 ≡ false → has_members v ≡ false
no_join v a b m m1 m2 e f g h = ap has_members e ∙ ap from_edits f ∙ ap from_frames g ∙ not_begun (codes "join") from_limit m2 h

pub no_limit : (v a b c : Data) (m m1 m2 m3 : Members) → v ≡ object m → m ≡ member (codes "edits") a m1 → m1 ≡ member (codes "frames") b m2 → m2 ≡ member (codes "join") c m3 → begins (codes "row_limit") m3 ≡ false → has_members v ≡ false
no_limit v a b c m m1 m2 m3 e f g i h = ap has_members e ∙ ap from_edits f ∙ ap from_frames g ∙ ap from_join i ∙ not_begun (codes "row_limit") from_version m3 h

pub no_version : (v a b c d : Data) (m m1 m2 m3 m4 : Members) → v ≡ object m → m ≡ member (codes "edits") a m1 → m1 ≡ member (codes "frames") b m2 → m2 ≡ member (codes "join") c m3 → m3 ≡ member (codes "row_limit") d m4 → begins (codes "version") m4 ≡ false → has_members v ≡ false
no_version v a b c d m m1 m2 m3 m4 e f g i j h = ap has_members e ∙ ap from_edits f ∙ ap from_frames g ∙ ap from_join i ∙ ap from_limit j ∙ not_begun (codes "version") is_end m4 h

pub no_more : (v a b c d x : Data) (m m1 m2 m3 m4 m5 : Members) → v ≡ object m → m ≡ member (codes "edits") a m1 → m1 ≡ member (codes "frames") b m2 → m2 ≡ member (codes "join") c m3 → m3 ≡ member (codes "row_limit") d m4 → m4 ≡ member (codes "version") x m5 → is_end m5 ≡ false → has_members v ≡ false
no_more v a b c d x m m1 m2 m3 m4 m5 e f g i j k h = ap has_members e ∙ ap from_edits f ∙ ap from_frames g ∙ ap from_join i ∙ ap from_limit j ∙ ap from_version k ∙ h

pub all_there : (v a b c d x : Data) (m m1 m2 m3 m4 m5 : Members) → v ≡ object m → m ≡ member (codes "edits") a m1 → m1 ≡ member (codes "frames") b m2 → m2 ≡ member (codes "join") c m3 → m3 ≡ member (codes "row_limit") d m4 → m4 ≡ member (codes "version") x m5 → m5 ≡ no_members → v ≡ outline_data a b c d x
all_there v a b c d x m m1 m2 m3 m4 m5 e f g i j k l =
    e ∙ ap object (f ∙ ap (member (codes "edits") a) (g ∙ ap (member (codes "frames") b) (i ∙ ap (member (codes "join") c) (j ∙ ap (member (codes "row_limit") d) (k ∙ ap (member (codes "version") x) l)))))

pub ruleset outline_rules = (no_object, no_edits, no_frames, no_join, no_limit, no_version, no_more, all_there)

-- a refusal that is passed on
pub passed : {X Y : Type 0} (here later : Bool) (P : X → Type 0) (Q : Y → Type 0) (e : Misread) (r : Result Y Misread) → ReadWhere later P (Err e) → IsErrAnd r (λ f. f ≡ e) → (later ≡ false → here ≡ false) → ReadWhere here Q r
passed here later P Q e (Ok y) h k up = absurd k
passed here later P Q Other (Err f) h k up = rw k (up h)
passed here later P Q Memory (Err f) h k up = rw k tt
