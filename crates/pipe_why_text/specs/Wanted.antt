-- What may stand at a place of a job: the test of the spelling of each part, by the definitions of the reader of jobs.
use Rattle.std.specs.Prelude.{◌≡◌, Bool, true, false, is_some, codes, List, ℕ, [], ◌∷◌, ◌++◌}
use Rattle.serde_json.specs.Data.{Data}
use Rattle.serde_json.specs.Find.{as_array}
use Rattle.pipe_job.specs.JobSpelling.{Spells, Task}
use Rattle.pipe_job.specs.Kinds.{is_node, is_version}
use Rattle.pipe_job.specs.Shape.{is_cell, is_coalesce, is_column, is_couple, is_exactly, is_expr, is_frame, is_hint, is_how, is_list, is_maybe, is_named, is_object, is_one_of, is_pair, is_signed, is_slice, is_text, is_truth, is_type, is_unsigned, is_word, node_words, unary_words, binary_words}
use Rattle.pipe_why_text.specs.declared.want.Foreign.{Foreign}
use Rattle.pipe_why_text.specs.declared.want.Foreign.TheVariants as foreign
use Rattle.pipe_why_text.specs.declared.want.Want.{Want}
use Rattle.pipe_why_text.specs.declared.want.Want.TheVariants as want

-- whether a value spells a part of what another command reads: of the whole, of its two tables, its edits and their rows
-- their outermost form
abbrev pub is_foreign : Foreign → Data → Bool
is_foreign foreign.Reconciliation d = is_object d
is_foreign foreign.Replay d = is_object d
is_foreign foreign.TwoFrames d = is_couple d
is_foreign foreign.KeptJoin d = is_node d
is_foreign foreign.JoinWord d = is_word (codes "Join") d
is_foreign foreign.LeftTable d = is_exactly 0 d
is_foreign foreign.RightTable d = is_exactly 1 d
is_foreign foreign.Edits d = is_some (as_array d)
is_foreign foreign.Edit d = is_some (as_array d)
is_foreign foreign.Side d = is_one_of (codes "left" ∷ codes "right" ∷ []) d
is_foreign foreign.Word d = is_one_of (codes "insert" ∷ codes "remove" ∷ []) d
is_foreign foreign.Row d = is_some (as_array d)

-- whether a value spells what is wanted of it; of a whole job, a literal and the sides of an operator this is their
-- outermost form, whose parts have tests of their own
abbrev pub is_wanted : Want → Data → Bool
is_wanted want.Job d = is_object d
is_wanted want.Literal d = is_object d
is_wanted want.Sides d = is_couple d
is_wanted (want.Cells t) d = is_list (is_cell t) d
is_wanted want.Version d = is_version d
is_wanted want.Whole32 d = is_unsigned 32 d
is_wanted want.Whole64 d = is_unsigned 64 d
is_wanted want.MaybeWhole64 d = is_maybe (is_unsigned 64) d
is_wanted want.Signed64 d = is_signed 63 d
is_wanted want.Truth d = is_truth d
is_wanted want.Text d = is_text d
is_wanted want.Frames d = is_list is_frame d
is_wanted want.Frame d = is_frame d
is_wanted want.Columns d = is_list is_column d
is_wanted want.Column d = is_column d
is_wanted want.Type d = is_type d
is_wanted (want.Cell t) d = is_cell t d
is_wanted want.Nodes d = is_list is_node d
is_wanted want.Node d = is_node d
is_wanted want.Kind d = is_one_of node_words d
is_wanted want.How d = is_how d
is_wanted want.Coalesce d = is_coalesce d
is_wanted want.Hint d = is_hint d
is_wanted want.Slice d = is_maybe is_slice d
is_wanted want.Texts d = is_list is_text d
is_wanted want.MaybeTexts d = is_maybe (is_list is_text) d
is_wanted want.Truths d = is_list is_truth d
is_wanted want.Numbers d = is_list (is_unsigned 32) d
is_wanted want.Expr d = is_expr d
is_wanted want.Exprs d = is_list is_expr d
is_wanted want.NamedExpr d = is_named d
is_wanted want.NamedExprs d = is_list is_named d
is_wanted want.Pair d = is_pair d
is_wanted want.Pairs d = is_list is_pair d
is_wanted (want.Foreign f) d = is_foreign f d

-- the spelling of each that fits has the shape
abbrev pub HasShape : {X : Type 0} → (Data → Bool) → (X → Data) → (X → Type 0) → Type 0
HasShape {X = X} shape spell Fits = (x : X) → Fits x → shape (spell x) ≡ true

-- the value spells a job
abbrev pub SpellsJob : Data → Type 0
SpellsJob d = (task : Task) × Spells d task

-- the value doesn't spell what is wanted of it: a whole job is spelled by none, and anything else fails its test
abbrev pub Misspells : Want → Data → Type 0
Misspells want.Job d = (task : Task) → Spells d task → ⊥
Misspells w d = is_wanted w d ≡ false

-- the names that the one member of an expression may have
abbrev pub form_words : List (List ℕ)
form_words = codes "col" ∷ codes "lit" ∷ unary_words ++ binary_words
