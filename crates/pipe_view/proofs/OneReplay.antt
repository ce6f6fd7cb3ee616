-- A value spells one view and its edits at most.
use Rattle.std.proofs.Common.{◌≡◌, ℕ, List, [], ◌∷◌, true, refl, ap, ap₂, sym, ◌∙◌, subst, true≢false, codes}
use Rattle.std.specs.Str.{bytes_eq}
use Rattle.std.specs.List.{AllByRecursion}
use Rattle.serde_json.specs.Data.{Data}
use Rattle.pipe_frame.specs.Frame.{Table}
use Rattle.pipe_schema.specs.Rows.{Row}
use Rattle.pipe_schema.specs.declared.field.Field.{Field}
use Rattle.pipe_plan.specs.Node.{Node}
use Rattle.pipe_job.specs.FrameSpelling.{frame_spelling}
use Rattle.pipe_job.specs.JobSpelling.{Task, task_spelling}
use Rattle.pipe_job.specs.NodeSpelling.{node_spelling}
use Rattle.pipe_job.specs.Spelling.{list, cell_spelling}
use Rattle.pipe_job.proofs.OneFormula.{one_cell}
use Rattle.pipe_job.proofs.OneJob.{one_task}
use Rattle.pipe_view.specs.declared.row_edit.EditKind.{EditKind}
use Rattle.pipe_view.specs.declared.row_edit.EditKind.TheVariants as kind
use Rattle.pipe_view.specs.declared.row_edit.RowEdit.{RowEdit}
use Rattle.pipe_view.specs.declared.side.ViewSide.{ViewSide}
use Rattle.pipe_view.specs.declared.side.ViewSide.TheVariants as side
use Rattle.pipe_view.specs.EditSpelling.{EditFits, RowFits, columns_on, edit_spelling, row_spelling}
use Rattle.pipe_view.specs.RawSpelling.{kind_name, side_name}
use Rattle.pipe_view.specs.ReplaySpelling.{PartsFit, ReplayTask, Spells, replay_has_int128, replay_spelling}
use Rattle.pipe_view.proofs.Embedded.{fits_with, task_with}

-- ---- edits

one_row : (fields : List Field) (a b : Row) → RowFits fields a → RowFits fields b → row_spelling a ≡ row_spelling b → a ≡ b
one_row [] [] [] h k e = refl
one_row [] [] (y ∷ b) h k e = absurd k
one_row [] (x ∷ a) b h k e = absurd h
one_row (f ∷ fields) [] b h k e = absurd h
one_row (f ∷ fields) (x ∷ a) [] h k e = absurd k
one_row (f ∷ fields) (x ∷ a) (y ∷ b) h k e =
    let first : cell_spelling x ≡ cell_spelling y = cc in
    let rest : row_spelling a ≡ row_spelling b = cc in
    ap₂ (λ z zs. z ∷ zs) (one_cell f.dtype x y h.0 k.0 first) (one_row fields a b h.1 k.1 rest)

pub one_side : (a b : ViewSide) → side_name a ≡ side_name b → a ≡ b
one_side side.Left side.Left e = refl
one_side side.Left side.Right e = absurd (true≢false (ap (λ (s : List ℕ). bytes_eq s (codes "left")) e))
one_side side.Right side.Left e = absurd (true≢false (ap (λ (s : List ℕ). bytes_eq s (codes "right")) e))
one_side side.Right side.Right e = refl

one_kind : (a b : EditKind) → kind_name a ≡ kind_name b → a ≡ b
one_kind kind.Insert kind.Insert e = refl
one_kind kind.Insert kind.Remove e = absurd (true≢false (ap (λ (s : List ℕ). bytes_eq s (codes "insert")) e))
one_kind kind.Remove kind.Insert e = absurd (true≢false (ap (λ (s : List ℕ). bytes_eq s (codes "remove")) e))
one_kind kind.Remove kind.Remove e = refl

edit_from : ViewSide → EditKind → Row → RowEdit
edit_from s k r = record { side = s; kind = k; row = r }

edit_back : (e : RowEdit) → edit_from e.side e.kind e.row ≡ e
unfolding edit_from
edit_back e = refl

one_edit : (left right : List Field) (a b : RowEdit) → EditFits left right a → EditFits left right b → edit_spelling a ≡ edit_spelling b → a ≡ b
one_edit left right a b h k e =
    let sides : side_name a.side ≡ side_name b.side = cc in
    let kinds : kind_name a.kind ≡ kind_name b.kind = cc in
    let rows : row_spelling a.row ≡ row_spelling b.row = cc in
    let side_is = one_side a.side b.side sides in
    let kind_is = one_kind a.kind b.kind kinds in
    let fits = subst (λ s. RowFits (columns_on s left right) a.row) side_is h in
    let row_is = one_row (columns_on b.side left right) a.row b.row fits k rows in
    let same : edit_from a.side a.kind a.row ≡ edit_from b.side b.kind b.row = cc in
    sym (edit_back a) ∙ same ∙ edit_back b

one_edits : (left right : List Field) (a b : List RowEdit) → AllByRecursion (EditFits left right) a → AllByRecursion (EditFits left right) b → list edit_spelling a ≡ list edit_spelling b → a ≡ b
one_edits left right [] [] h k e = refl
one_edits left right [] (y ∷ b) h k e = cc
one_edits left right (x ∷ a) [] h k e = cc
one_edits left right (x ∷ a) (y ∷ b) h k e =
    let first : edit_spelling x ≡ edit_spelling y = cc in
    let rest : list edit_spelling a ≡ list edit_spelling b = cc in
    ap₂ (λ z zs. z ∷ zs) (one_edit left right x y h.0 k.0 first) (one_edits left right a b h.1 k.1 rest)

-- ---- the other members, as those of a job

abbrev as_task : ReplayTask → Task
as_task r = task_with r.version r.row_limit (r.left ∷ r.right ∷ []) r.join

task_spelled : (a b : ReplayTask) → frame_spelling a.left ≡ frame_spelling b.left → frame_spelling a.right ≡ frame_spelling b.right → node_spelling a.join ≡ node_spelling b.join → a.row_limit ≡ b.row_limit → a.version ≡ b.version → task_spelling (as_task a) ≡ task_spelling (as_task b)
task_spelled a b left right join row_limit version = cc

abbrev first_of : List Table → Table → Table
first_of [] d = d
first_of (t ∷ ts) d = t

abbrev second_of : List Table → Table → Table
second_of [] d = d
second_of (t ∷ ts) d = first_of ts d

abbrev pub node_in : List Node → Node → Node
node_in [] d = d
node_in (n ∷ ns) d = n

replay_from : (version row_limit : ℕ) → Table → Table → Node → List RowEdit → ReplayTask
replay_from version row_limit left right join edits = record { version = version; row_limit = row_limit; left = left; right = right; join = join; edits = edits }

replay_back : (t : ReplayTask) → replay_from t.version t.row_limit t.left t.right t.join t.edits ≡ t
unfolding replay_from
replay_back t = refl

pub one_of : (a b : ReplayTask) → PartsFit a → PartsFit b → replay_spelling a ≡ replay_spelling b → a ≡ b
one_of a b h k e =
    let version : a.version ≡ b.version = cc in
    let row_limit : a.row_limit ≡ b.row_limit = cc in
    let lefts : frame_spelling a.left ≡ frame_spelling b.left = cc in
    let rights : frame_spelling a.right ≡ frame_spelling b.right = cc in
    let joins : node_spelling a.join ≡ node_spelling b.join = cc in
    let lists : list edit_spelling a.edits ≡ list edit_spelling b.edits = cc in
    let one = fits_with a.version a.row_limit (a.left ∷ a.right ∷ []) a.join h.version h.row_limit (h.left, (h.right, tt)) h.join in
    let two = fits_with b.version b.row_limit (b.left ∷ b.right ∷ []) b.join k.version k.row_limit (k.left, (k.right, tt)) k.join in
    let task : as_task a ≡ as_task b = one_task (as_task a) (as_task b) one two (task_spelled a b lefts rights joins row_limit version) in
    let left : a.left ≡ b.left = ap (λ (t : Task). first_of t.plan.frames a.left) task in
    let right : a.right ≡ b.right = ap (λ (t : Task). second_of t.plan.frames a.left) task in
    let join : a.join ≡ b.join = ap (λ (t : Task). node_in t.plan.nodes a.join) task in
    let first = subst (λ (t : Table). AllByRecursion (EditFits t.schema a.right.schema) a.edits) left h.edits in
    let fits = subst (λ (t : Table). AllByRecursion (EditFits b.left.schema t.schema) a.edits) right first in
    let edits = one_edits b.left.schema b.right.schema a.edits b.edits fits k.edits lists in
    let same : replay_from a.version a.row_limit a.left a.right a.join a.edits ≡ replay_from b.version b.row_limit b.left b.right b.join b.edits = cc in
    sym (replay_back a) ∙ same ∙ replay_back b

pub one_replay : (v : Data) (a b : ReplayTask) → Spells v a → Spells v b → a ≡ b
one_replay v a b s t = one_of a b s.fits.parts t.fits.parts (sym s.spelled ∙ t.spelled)

-- where the types are not those of the version, the value spells none
pub too_early : (v : Data) (t : ReplayTask) → v ≡ replay_spelling t → PartsFit t → t.version ≡ 1 → replay_has_int128 t ≡ true → (other : ReplayTask) → Spells v other → ⊥
too_early v t e h version has other s =
    let same : t ≡ other = one_of t other h s.fits.parts (sym e ∙ s.spelled) in
    let none = s.fits.types (sym (ap (λ (u : ReplayTask). u.version) same) ∙ version) in
    true≢false (sym has ∙ ap replay_has_int128 same ∙ none)
