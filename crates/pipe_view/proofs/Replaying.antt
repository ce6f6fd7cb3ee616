-- Where a member isn't as it has to be, the value spells no view and its edits.
use Rattle.std.proofs.Common.{◌≡◌, ℕ, List, Bool, true, false, ◌&&◌, codes, ap, ◌∙◌, refl}
use Rattle.std.specs.Str.{bytes_eq}
use Rattle.serde_json.specs.Data.{Data, null, boolean, number, string, array, object, Members, member, no_members}
use Rattle.pipe_job.specs.Kinds.{is_node}
use Rattle.pipe_job.specs.NodeSpelling.{node_spelling}
use Rattle.pipe_job.specs.Shape.{after, is_end, is_list, is_unsigned}
use Rattle.pipe_job.specs.Spelling.{list, whole}
use Rattle.pipe_plan.specs.Node.{node_of}
use Rattle.pipe_view.specs.declared.raw_replay.RawReplay.{RawReplay}
use Rattle.pipe_view.specs.RawReplays.{raw_replay_spelling, are_two_frames, frames_spelling, has_members, is_any, is_raw_replay, outline_data}
use Rattle.pipe_view.specs.RawSpelling.{is_raw_edit, raw_edit_spelling}
use Rattle.pipe_view.proofs.Triples.{and_none, none_and}

-- the tests of the members, one by one
abbrev five : (a b c d e : Bool) → Bool
five a b c d e = a && (b && (c && (d && e)))

and_true : (a : Bool) → (a && true) ≡ a
and_true true = refl
and_true false = refl

pub first_none : (a b c d e : Bool) → a ≡ false → five a b c d e ≡ false
first_none a b c d e h = none_and a (b && (c && (d && e))) h

pub second_none : (a b c d e : Bool) → b ≡ false → five a b c d e ≡ false
second_none a b c d e h = and_none a (b && (c && (d && e))) (none_and b (c && (d && e)) h)

pub third_none : (a b c d e : Bool) → c ≡ false → five a b c d e ≡ false
third_none a b c d e h = and_none a (b && (c && (d && e))) (and_none b (c && (d && e)) (none_and c (d && e) h))

pub fourth_none : (a b c d e : Bool) → d ≡ false → five a b c d e ≡ false
fourth_none a b c d e h = and_none a (b && (c && (d && e))) (and_none b (c && (d && e)) (and_none c (d && e) (none_and d e h)))

pub fifth_none : (a b c d e : Bool) → e ≡ false → five a b c d e ≡ false
fifth_none a b c d e h = and_none a (b && (c && (d && e))) (and_none b (c && (d && e)) (and_none c (d && e) (and_none d e h)))

-- with these members, the value is one where each of them is what it has to be
tests : (v a b c d e : Data) → v ≡ outline_data a b c d e → is_raw_replay v ≡ five (is_list is_raw_edit a) (are_two_frames b) (is_node c) (is_unsigned 32 d) (is_unsigned 32 e && true)
tests v a b c d e h = ap is_raw_replay h

pub other_edits : (v a b c d e : Data) → v ≡ outline_data a b c d e → is_list is_raw_edit a ≡ false → is_raw_replay v ≡ false
other_edits v a b c d e h f = tests v a b c d e h ∙ first_none (is_list is_raw_edit a) (are_two_frames b) (is_node c) (is_unsigned 32 d) (is_unsigned 32 e && true) f

pub other_frames : (v a b c d e : Data) → v ≡ outline_data a b c d e → are_two_frames b ≡ false → is_raw_replay v ≡ false
other_frames v a b c d e h f = tests v a b c d e h ∙ second_none (is_list is_raw_edit a) (are_two_frames b) (is_node c) (is_unsigned 32 d) (is_unsigned 32 e && true) f

pub other_join : (v a b c d e : Data) → v ≡ outline_data a b c d e → is_node c ≡ false → is_raw_replay v ≡ false
other_join v a b c d e h f = tests v a b c d e h ∙ third_none (is_list is_raw_edit a) (are_two_frames b) (is_node c) (is_unsigned 32 d) (is_unsigned 32 e && true) f

pub other_limit : (v a b c d e : Data) → v ≡ outline_data a b c d e → is_unsigned 32 d ≡ false → is_raw_replay v ≡ false
other_limit v a b c d e h f = tests v a b c d e h ∙ fourth_none (is_list is_raw_edit a) (are_two_frames b) (is_node c) (is_unsigned 32 d) (is_unsigned 32 e && true) f

pub other_version : (v a b c d e : Data) → v ≡ outline_data a b c d e → is_unsigned 32 e ≡ false → is_raw_replay v ≡ false
other_version v a b c d e h f = tests v a b c d e h ∙ fifth_none (is_list is_raw_edit a) (are_two_frames b) (is_node c) (is_unsigned 32 d) (is_unsigned 32 e && true) (none_and (is_unsigned 32 e) true f)

pub replay_read : (v a b c d e : Data) (r : RawReplay) → v ≡ outline_data a b c d e → a ≡ list raw_edit_spelling r.edits → b ≡ frames_spelling r.left r.right → c ≡ node_spelling (node_of r.join) → d ≡ whole r.row_limit → e ≡ whole r.version → v ≡ raw_replay_spelling r
replay_read v a b c d e r h i j k l m =
    h ∙ ap (λ (x : Data). outline_data x b c d e) i
    ∙ ap (λ (x : Data). outline_data (list raw_edit_spelling r.edits) x c d e) j
    ∙ ap (λ (x : Data). outline_data (list raw_edit_spelling r.edits) (frames_spelling r.left r.right) x d e) k
    ∙ ap (λ (x : Data). outline_data (list raw_edit_spelling r.edits) (frames_spelling r.left r.right) (node_spelling (node_of r.join)) x e) l
    ∙ ap (outline_data (list raw_edit_spelling r.edits) (frames_spelling r.left r.right) (node_spelling (node_of r.join)) (whole r.row_limit)) m

-- ---- no members of these names

and_weaker : (a s r t : Bool) → (r ≡ false → t ≡ false) → ((a && true) && r) ≡ false → ((a && s) && t) ≡ false
and_weaker false s r t up h = refl
and_weaker true false r t up h = refl
and_weaker true true r t up h = up h

-- what fails for any value of a member fails for one of a shape
weaker : (name : List ℕ) (shape : Data → Bool) (rest others : Members → Bool) (ms : Members) → ((more : Members) → rest more ≡ false → others more ≡ false) → after name is_any rest ms ≡ false → after name shape others ms ≡ false
weaker name shape rest others no_members up h = refl
weaker name shape rest others (member k d ms) up h = and_weaker (bytes_eq k name) (shape d) (rest ms) (others ms) (up ms) h

abbrev any_version : Members → Bool
any_version ms = after (codes "version") is_any is_end ms

abbrev any_limit : Members → Bool
any_limit ms = after (codes "row_limit") is_any any_version ms

abbrev any_join : Members → Bool
any_join ms = after (codes "join") is_any any_limit ms

abbrev any_frames : Members → Bool
any_frames ms = after (codes "frames") is_any any_join ms

abbrev from_version : Members → Bool
from_version ms = after (codes "version") (is_unsigned 32) is_end ms

abbrev from_limit : Members → Bool
from_limit ms = after (codes "row_limit") (is_unsigned 32) from_version ms

abbrev from_join : Members → Bool
from_join ms = after (codes "join") is_node from_limit ms

abbrev from_frames : Members → Bool
from_frames ms = after (codes "frames") are_two_frames from_join ms

no_version : (ms : Members) → any_version ms ≡ false → from_version ms ≡ false
no_version ms h = weaker (codes "version") (is_unsigned 32) is_end is_end ms (λ more none. none) h

no_limit : (ms : Members) → any_limit ms ≡ false → from_limit ms ≡ false
no_limit ms h = weaker (codes "row_limit") (is_unsigned 32) any_version from_version ms no_version h

no_join : (ms : Members) → any_join ms ≡ false → from_join ms ≡ false
no_join ms h = weaker (codes "join") is_node any_limit from_limit ms no_limit h

no_frames : (ms : Members) → any_frames ms ≡ false → from_frames ms ≡ false
no_frames ms h = weaker (codes "frames") are_two_frames any_join from_join ms no_join h

pub other_members : (v : Data) → has_members v ≡ false → is_raw_replay v ≡ false
other_members null h = refl
other_members (boolean b) h = refl
other_members (number n) h = refl
other_members (string s) h = refl
other_members (array ds) h = refl
other_members (object ms) h = weaker (codes "edits") (is_list is_raw_edit) any_frames from_frames ms no_frames h

pub ruleset replay_rules = (other_members, other_edits, other_frames, other_join, other_limit, other_version, replay_read)
