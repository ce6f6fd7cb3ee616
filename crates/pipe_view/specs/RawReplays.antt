-- The members of a view and its edits.
use Rattle.std.specs.Prelude.{◌<◌, ◌^◌, Bool, true, codes}
use Rattle.std.specs.List.{AllByRecursion}
use Rattle.serde_json.specs.Data.{Data, object, member, no_members}
use Rattle.pipe_frame.specs.Frame.{Table}
use Rattle.pipe_plan.specs.Node.{node_of}
use Rattle.pipe_job.specs.FrameSpelling.{frame_spelling, FrameFits}
use Rattle.pipe_job.specs.Kinds.{is_node}
use Rattle.pipe_job.specs.NodeSpelling.{node_spelling, NodeFits}
use Rattle.pipe_job.specs.Shape.{after, is_end, is_frame, is_list, is_unsigned, on_couple, on_object}
use Rattle.pipe_job.specs.Spelling.{couple, list, whole}
use Rattle.pipe_view.specs.RawSpelling.{RawEditFits, is_raw_edit, raw_edit_spelling}
use Rattle.pipe_view.specs.declared.raw_replay.RawReplay.{RawReplay}

abbrev pub is_any : Data → Bool
is_any d = true

-- an object with these members
abbrev pub outline_data : (edits frames join row_limit version : Data) → Data
outline_data edits frames join row_limit version =
    object (member (codes "edits") edits (member (codes "frames") frames (member (codes "join") join
    (member (codes "row_limit") row_limit (member (codes "version") version no_members)))))

abbrev pub has_members : Data → Bool
has_members d =
    on_object (after (codes "edits") is_any (after (codes "frames") is_any (after (codes "join") is_any
    (after (codes "row_limit") is_any (after (codes "version") is_any is_end))))) d

-- ---- the values of the members

abbrev pub frames_spelling : Table → Table → Data
frames_spelling left right = couple (frame_spelling left) (frame_spelling right)

abbrev pub are_two_frames : Data → Bool
are_two_frames d = on_couple is_frame is_frame d

abbrev pub raw_replay_spelling : RawReplay → Data
raw_replay_spelling r =
    outline_data (list raw_edit_spelling r.edits) (frames_spelling r.left r.right) (node_spelling (node_of r.join)) (whole r.row_limit) (whole r.version)

pub record RawReplayFits (r : RawReplay) : Type 0 where
  pub version : r.version < 2 ^ 32
  pub row_limit : r.row_limit < 2 ^ 32
  pub left : FrameFits r.left
  pub right : FrameFits r.right
  pub join : NodeFits (node_of r.join)
  pub edits : AllByRecursion RawEditFits r.edits

-- whether a value spells one: its members are these, and each is what it has to be
abbrev pub is_raw_replay : Data → Bool
is_raw_replay d =
    on_object (after (codes "edits") (is_list is_raw_edit) (after (codes "frames") are_two_frames (after (codes "join") is_node
    (after (codes "row_limit") (is_unsigned 32) (after (codes "version") (is_unsigned 32) is_end))))) d
