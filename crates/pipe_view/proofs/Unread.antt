-- What can't be read spells no view and its edits.
use Rattle.std.proofs.Common.{Result, Ok, Err, ◌≡◌, List, [], ◌∷◌, Bool, true, false, ◌&&◌, map, refl, ap, ap₂, sym, ◌∙◌, subst, true≢false, ◌⊎◌, inl, inr, arith}
use Rattle.std.specs.List.{AllByRecursion}
use Rattle.std.specs.Result.{IsErrAnd}
use Rattle.serde_json.specs.Data.{Data, array}
use Rattle.serde_json.specs.View.{items_of}
use Rattle.pipe_frame.specs.Frame.{Table}
use Rattle.pipe_schema.specs.Rows.{Row}
use Rattle.pipe_schema.specs.declared.field.Field.{Field}
use Rattle.pipe_plan.specs.Node.{Node, node_of}
use Rattle.pipe_job.specs.FrameSpelling.{frame_spelling}
use Rattle.pipe_job.specs.JobSpelling.{Task, task_spelling}
use Rattle.pipe_job.specs.NodeSpelling.{node_spelling, NodeFits}
use Rattle.pipe_job.specs.Reads.{ReadWhere}
use Rattle.pipe_job.specs.Shape.{is_cell}
use Rattle.pipe_job.specs.declared.misread.Misread.{Misread}
use Rattle.pipe_job.specs.declared.misread.Misread.TheVariants.{Other, Memory}
use Rattle.pipe_job.specs.Spelling.{cell_spelling, list}
use Rattle.pipe_job.specs.Version.{VersionFits}
use Rattle.pipe_job.proofs.OneJob.{one_frame, one_task}
use Rattle.pipe_view.specs.declared.row_edit.RowEdit.{RowEdit}
use Rattle.pipe_view.specs.EditSpelling.{EditFits, RowFits, are_cells, are_edits, columns_on, edit_spelling, is_edit, row_spelling}
use Rattle.pipe_view.specs.RawReplays.{RawReplayFits, is_raw_replay, raw_replay_spelling}
use Rattle.pipe_view.specs.RawSpelling.{raw_cell_spelling, raw_edit_spelling, side_name}
use Rattle.pipe_view.specs.ReplaySpelling.{PartsFit, ReadsParts, SpellsNoParts, joins_both, kept_node, replay_spelling, replay_task}
use Rattle.pipe_view.specs.declared.raw_cell.RawCell.{RawCell}
use Rattle.pipe_view.specs.declared.raw_edit.RawEdit.{RawEdit}
use Rattle.pipe_view.specs.declared.raw_replay.RawReplay.{RawReplay}
use Rattle.pipe_view.specs.declared.replay.Replay.{Replay}
use Rattle.pipe_view.proofs.Again.{cell_again, raw_again}
use Rattle.pipe_view.proofs.Embedded.{fits_with, task_with}
use Rattle.pipe_view.proofs.OneReplay.{node_in, one_side}

pub no_raw : (v : Data) → is_raw_replay v ≡ false → SpellsNoParts v
no_raw v none = λ r e h. true≢false (sym (ap is_raw_replay e ∙ raw_again r h) ∙ none)

either : (A B : Type 0) → A ⊎ B → (A → ⊥) → (B → ⊥) → ⊥
either A B (inl a) f g = f a
either A B (inr b) f g = g b

-- a version that is neither 1 nor 2
pub no_version : (v : Data) (raw : RawReplay) → v ≡ raw_replay_spelling raw → (raw.version ≡ 1 → ⊥) → (raw.version ≡ 2 → ⊥) → SpellsNoParts v
no_version v raw e one two = λ r same h. (
    let version : raw.version ≡ r.version = cc in
    either (r.version ≡ 1) (r.version ≡ 2) h.version (λ k. one (version ∙ k)) (λ k. two (version ∙ k)))

one_node : (a b : Node) → NodeFits a → NodeFits b → node_spelling a ≡ node_spelling b → a ≡ b
one_node a b h k e =
    let spelled : task_spelling (task_with 2 0 [] a) ≡ task_spelling (task_with 2 0 [] b) = cc in
    ap (λ (t : Task). node_in t.plan.nodes a) (one_task (task_with 2 0 [] a) (task_with 2 0 [] b) (fits_with 2 0 [] a (inr refl) (omega arith) tt h) (fits_with 2 0 [] b (inr refl) (omega arith) tt k) spelled)

-- a node that is no join of 0 and 1
pub no_both : (v : Data) (raw : RawReplay) → v ≡ raw_replay_spelling raw → RawReplayFits raw → joins_both (node_of raw.join) ≡ false → SpellsNoParts v
no_both v raw e fits none = λ r same h. (
    let spelled : node_spelling (node_of raw.join) ≡ node_spelling r.join = cc in
    let node = one_node (node_of raw.join) r.join fits.join h.join spelled in
    true≢false (sym (ap joins_both node ∙ h.both) ∙ none))

-- ---- edits

cells_typed : (fields : List Field) (cells : List RawCell) (row : Row) → list raw_cell_spelling cells ≡ row_spelling row → RowFits fields row → are_cells fields cells ≡ true
cells_typed [] [] [] e h = refl
cells_typed [] [] (x ∷ row) e h = absurd h
cells_typed [] (c ∷ cells) [] e h = cc
cells_typed [] (c ∷ cells) (x ∷ row) e h = absurd h
cells_typed (f ∷ fields) cells [] e h = absurd h
cells_typed (f ∷ fields) [] (x ∷ row) e h = cc
cells_typed (f ∷ fields) (c ∷ cells) (x ∷ row) e h =
    let first : raw_cell_spelling c ≡ cell_spelling x = cc in
    let rest : list raw_cell_spelling cells ≡ row_spelling row = cc in
    ap₂ (λ (a b : Bool). a && b) (ap (is_cell f.dtype) first ∙ cell_again f.dtype x h.0) (cells_typed fields cells row rest h.1)

edit_typed : (left right : List Field) (raw : RawEdit) (edit : RowEdit) → raw_edit_spelling raw ≡ edit_spelling edit → EditFits left right edit → is_edit left right raw ≡ true
edit_typed left right raw edit e h =
    let sides : side_name raw.side ≡ side_name edit.side = cc in
    let cells : list raw_cell_spelling raw.cells ≡ row_spelling edit.row = cc in
    let side = one_side raw.side edit.side sides in
    cells_typed (columns_on raw.side left right) raw.cells edit.row cells (subst (λ s. RowFits (columns_on s left right) edit.row) (sym side) h)

edits_typed : (left right : List Field) (raws : List RawEdit) (edits : List RowEdit) → list raw_edit_spelling raws ≡ list edit_spelling edits → AllByRecursion (EditFits left right) edits → are_edits left right raws ≡ true
edits_typed left right [] [] e h = refl
edits_typed left right [] (y ∷ edits) e h = cc
edits_typed left right (raw ∷ raws) [] e h = cc
edits_typed left right (raw ∷ raws) (edit ∷ edits) e h =
    let first : raw_edit_spelling raw ≡ edit_spelling edit = cc in
    let rest : list raw_edit_spelling raws ≡ list edit_spelling edits = cc in
    ap₂ (λ (a b : Bool). a && b) (edit_typed left right raw edit first h.0) (edits_typed left right raws edits rest h.1)

-- an edit that is none of its table
pub no_edits : (v : Data) (raw : RawReplay) → v ≡ raw_replay_spelling raw → RawReplayFits raw → are_edits raw.left.schema raw.right.schema raw.edits ≡ false → SpellsNoParts v
no_edits v raw e fits none = λ r same h. (
    let lefts : frame_spelling raw.left ≡ frame_spelling r.left = cc in
    let rights : frame_spelling raw.right ≡ frame_spelling r.right = cc in
    let lists : list raw_edit_spelling raw.edits ≡ list edit_spelling r.edits = cc in
    let left = one_frame raw.left r.left fits.left h.left lefts in
    let right = one_frame raw.right r.right fits.right h.right rights in
    let here = ap (λ (t : Table). are_edits t.schema raw.right.schema raw.edits) left ∙ ap (λ (t : Table). are_edits r.left.schema t.schema raw.edits) right in
    true≢false (sym (here ∙ edits_typed r.left.schema r.right.schema raw.edits r.edits lists h.edits) ∙ none))

pub edits_unread : {X : Type 0} (v : Data) (b : Bool) (P : X → Type 0) (e : Misread) (r : Result Replay Misread) → ReadWhere b P (Err e) → IsErrAnd r (λ f. f ≡ e) → (b ≡ false → SpellsNoParts v) → ReadsParts v r
edits_unread v b P e (Ok y) h k up = absurd k
edits_unread v b P Other (Err f) h k up = rw k (up h)
edits_unread v b P Memory (Err f) h k up = rw k tt

-- ---- what was read

pub all_typed : (v : Data) (raw : RawReplay) (r : Replay) → v ≡ raw_replay_spelling raw → RawReplayFits raw → r.version ≡ raw.version → r.row_limit ≡ raw.row_limit → r.left ≡ raw.left → r.right ≡ raw.right
    → VersionFits raw.version → node_of raw.join ≡ kept_node r.join → map raw_edit_spelling raw.edits ≡ map edit_spelling r.edits → AllByRecursion (EditFits raw.left.schema raw.right.schema) r.edits
    → (v ≡ replay_spelling (replay_task r)) × PartsFit (replay_task r)
all_typed v raw r e fits version row_limit left right known join edits typed =
    let lists : list raw_edit_spelling raw.edits ≡ list edit_spelling r.edits = ap (λ (ds : List Data). array (items_of ds)) edits in
    let nodes : node_spelling (node_of raw.join) ≡ node_spelling (kept_node r.join) = ap node_spelling join in
    let spelled : raw_replay_spelling raw ≡ replay_spelling (replay_task r) = cc in (
      e ∙ spelled,
      record {
        version = subst VersionFits (sym version) known;
        row_limit = rw row_limit fits.row_limit;
        left = rw left fits.left;
        right = rw right fits.right;
        join = subst NodeFits join fits.join;
        both = refl;
        edits = rw (left, right) typed;
      },
    )

pub ruleset parts_rules = (no_raw, no_version, no_both, no_edits, all_typed)
