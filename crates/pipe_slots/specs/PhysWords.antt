-- What an operator of a plan takes, gives, marks and owes: what the one that it is takes, gives, marks and owes.
use Rattle.std.specs.Prelude.{◌≡◌, ℕ, List, [], Bool, false, length, codes}
use Rattle.std.specs.List.{flat_map}
use Rattle.pipe_frame.specs.Frame.{Table}
use Rattle.pipe_schema.specs.Rows.{Row}
use Rattle.pipe_frame.specs.declared.chunk.DataChunk.{DataChunk}
use Rattle.pipe_schema.specs.declared.field.Field.{Field}
use Rattle.pipe_expr.specs.Formula.{NamedFormula, named_formula_of}
use Rattle.pipe_expr.specs.Physical.{Physical}
use Rattle.pipe_expr.specs.Projections.{fields_named, select_fields, hstack_fields, function_fields, function_rows}
use Rattle.pipe_source.specs.Applied.{Applies}
use Rattle.pipe_source.specs.Operators.{pieces_of, AnswersFor}
use Rattle.pipe_source.specs.Turns.{owed_of, Fits}
use Rattle.pipe_ops.specs.Each.{IsPredicate, filtered_row, named_row, passed_row}
use Rattle.pipe_ops.specs.Exprs.{exprs_in, CanProject, CanStack, projected_row, stacked_row}
use Rattle.pipe_ops.specs.Pieces.{all_of, IsWhole}
use Rattle.pipe_ops.specs.declared.operator.OperatorResult.{OperatorResult}
use Rattle.pipe_chain.specs.Executed.{Owed}
use Rattle.pipe_chain.specs.Flow.{Work, Acts, no_acts}
use Rattle.pipe_chain.specs.Unmarking.{no_key, no_row}
use Rattle.pipe_slots.specs.CallBackWords.{kind_in, spec_in, seated_in, acts_by, rest_in, ready_in, idle_in, answers_by, is_flushing, KeepsNothing, closed_in, owed_in, keeps_in}
use Rattle.pipe_slots.specs.JoinWords.{takes_join, output_join, flushed_join, suits_join, work_join}
use Rattle.pipe_slots.specs.Kinds.{kind_of}
use Rattle.pipe_slots.specs.Places.{Place}
use Rattle.pipe_slots.specs.declared.phys_operator.PhysOperator.{PhysOperator}
use Rattle.pipe_slots.specs.declared.phys_operator.PhysOperator.TheVariants as op
use Rattle.pipe_slots.specs.declared.probe_kind.ProbeKind.{ProbeKind}
use Rattle.pipe_slots.specs.declared.slot.Slot.{Slot}

-- the formula of an expression, and the schema that it was made for
abbrev pub expr_of : Physical → NamedFormula
expr_of p = named_formula_of p.expr

abbrev pub schema_of : Physical → List Field
schema_of p = p.schema

-- the probe of a place
abbrev pub kind_at : Place → ProbeKind
kind_at p = kind_of p.spec.how p.spec.swapped

-- ---- schemas and text

abbrev pub takes_of : {H : Type 0} → PhysOperator H → List Field → Type 0
takes_of (op.Filter f) s = IsPredicate (schema_of f.predicate.value) (expr_of f.predicate.value) s
takes_of (op.SimpleProjection p) s = s ≡ p.input_schema
takes_of (op.Projection p) s = CanProject schema_of expr_of p.exprs s
takes_of (op.Hstack p) s = CanStack schema_of expr_of p.input_schema p.exprs s
takes_of (op.Function f) s = Applies f.function s
takes_of (op.Pass p) s = Unit {0}
takes_of (op.PlaceHolder p) s = takes_join (kind_at p) p.spec s
takes_of (op.CallBack c) s = takes_join (kind_in c) (spec_in c) s

abbrev pub output_of : {H : Type 0} → PhysOperator H → List Field → List Field
output_of (op.Filter f) s = s
output_of (op.SimpleProjection p) s = fields_named s p.columns
output_of (op.Projection p) s = select_fields s (exprs_in expr_of p.exprs)
output_of (op.Hstack p) s = hstack_fields s (exprs_in expr_of p.exprs)
output_of (op.Function f) s = function_fields f.function s
output_of (op.Pass p) s = s
output_of (op.PlaceHolder p) s = output_join (kind_at p) p.spec
output_of (op.CallBack c) s = output_join (kind_in c) (spec_in c)

abbrev pub flushed_of : {H : Type 0} → PhysOperator H → List Field
flushed_of (op.Filter f) = []
flushed_of (op.SimpleProjection p) = []
flushed_of (op.Projection p) = []
flushed_of (op.Hstack p) = []
flushed_of (op.Function f) = []
flushed_of (op.Pass p) = []
flushed_of (op.PlaceHolder p) = flushed_join (kind_at p) p.spec
flushed_of (op.CallBack c) = flushed_join (kind_in c) (spec_in c)

-- what runs: of a place, its probe
abbrev pub text_of : {H : Type 0} → PhysOperator H → List ℕ
text_of (op.Filter f) = codes "filter"
text_of (op.SimpleProjection p) = codes "fast_projection"
text_of (op.Projection p) = codes "projection"
text_of (op.Hstack p) = codes "hstack"
text_of (op.Function f) = codes "function"
text_of (op.Pass p) = p.name.now
text_of (op.PlaceHolder p) = codes "callback"
text_of (op.CallBack c) = codes "callback"

-- the text that stands for it in a plan's pipelines
abbrev pub planned_text : {H : Type 0} → PhysOperator H → List ℕ
planned_text (op.Filter f) = codes "filter"
planned_text (op.SimpleProjection p) = codes "fast_projection"
planned_text (op.Projection p) = codes "projection"
planned_text (op.Hstack p) = codes "hstack"
planned_text (op.Function f) = codes "function"
planned_text (op.Pass p) = p.name.now
planned_text (op.PlaceHolder p) = codes "placeholder"
planned_text (op.CallBack c) = codes "callback"

-- ---- what was made for it

abbrev pub suits_of : {H : Type 0} → PhysOperator H → Slot H → Type 0
suits_of (op.Filter f) slot = KeepsNothing slot
suits_of (op.SimpleProjection p) slot = KeepsNothing slot
suits_of (op.Projection p) slot = KeepsNothing slot
suits_of (op.Hstack p) slot = KeepsNothing slot
suits_of (op.Function f) slot = KeepsNothing slot
suits_of (op.Pass p) slot = KeepsNothing slot
suits_of (op.PlaceHolder p) slot = suits_join (kind_at p) p.spec slot
suits_of (op.CallBack c) slot = suits_join (kind_in c) (spec_in c) slot

-- no chunk comes into a place
abbrev pub seated_of : {H : Type 0} → PhysOperator H → Slot H → Type 0
seated_of (op.Filter f) slot = Unit {0}
seated_of (op.SimpleProjection p) slot = Unit {0}
seated_of (op.Projection p) slot = Unit {0}
seated_of (op.Hstack p) slot = Unit {0}
seated_of (op.Function f) slot = Unit {0}
seated_of (op.Pass p) slot = Unit {0}
seated_of (op.PlaceHolder p) slot = ⊥
seated_of (op.CallBack c) slot = seated_in c slot

abbrev pub closed_of : {H : Type 0} → (hash_of : H → List ℕ → ℕ) → PhysOperator H → Slot H → Type 0
closed_of hash_of (op.Filter f) slot = KeepsNothing slot
closed_of hash_of (op.SimpleProjection p) slot = KeepsNothing slot
closed_of hash_of (op.Projection p) slot = KeepsNothing slot
closed_of hash_of (op.Hstack p) slot = KeepsNothing slot
closed_of hash_of (op.Function f) slot = KeepsNothing slot
closed_of hash_of (op.Pass p) slot = KeepsNothing slot
closed_of hash_of (op.PlaceHolder p) slot = ⊥
closed_of hash_of (op.CallBack c) slot = closed_in hash_of c slot

-- ---- what it does

abbrev pub each_work : (Row → List Row) → Work
each_work each = record { each = each; asks = no_key; gains = no_row }

abbrev pub work_of : {H : Type 0} → PhysOperator H → List Field → Slot H → Work
work_of (op.Filter f) s slot = each_work (filtered_row (expr_of f.predicate.value) s)
work_of (op.SimpleProjection p) s slot = each_work (named_row p.columns s)
work_of (op.Projection p) s slot = each_work (projected_row (exprs_in expr_of p.exprs) s)
work_of (op.Hstack p) s slot = each_work (stacked_row (exprs_in expr_of p.exprs) s)
work_of (op.Function f) s slot = each_work (function_rows f.function s)
work_of (op.Pass p) s slot = each_work passed_row
work_of (op.PlaceHolder p) s slot = work_join (kind_at p) p.spec slot
work_of (op.CallBack c) s slot = work_join (kind_in c) (spec_in c) slot

abbrev pub acts_of : {H : Type 0} → PhysOperator H → Acts
acts_of (op.Filter f) = no_acts
acts_of (op.SimpleProjection p) = no_acts
acts_of (op.Projection p) = no_acts
acts_of (op.Hstack p) = no_acts
acts_of (op.Function f) = no_acts
acts_of (op.Pass p) = no_acts
acts_of (op.PlaceHolder p) = no_acts
acts_of (op.CallBack c) = acts_by c

-- ---- a chunk that was begun

abbrev pub owed_rows : List Row → Owed
owed_rows rows = record { rows = rows; keys = [] }

-- all that some work makes of a frame's rows
abbrev pub whole_debt : Work → Table → Owed
whole_debt w frame =
    record { rows = flat_map w.each frame.rows; keys = flat_map w.asks frame.rows }

abbrev pub rest_of : {H : Type 0} → PhysOperator H → Slot H → Table → Owed
rest_of (op.Filter f) slot frame =
    owed_rows (all_of (filtered_row (expr_of f.predicate.value) frame.schema) frame)
rest_of (op.SimpleProjection p) slot frame =
    owed_rows (all_of (named_row p.columns frame.schema) frame)
rest_of (op.Projection p) slot frame =
    owed_rows (all_of (projected_row (exprs_in expr_of p.exprs) frame.schema) frame)
rest_of (op.Hstack p) slot frame =
    owed_rows (all_of (stacked_row (exprs_in expr_of p.exprs) frame.schema) frame)
rest_of (op.Function f) slot frame = owed_rows (owed_of f.function (pieces_of f) frame)
rest_of (op.Pass p) slot frame = owed_rows frame.rows
rest_of (op.PlaceHolder p) slot frame = whole_debt (work_join (kind_at p) p.spec slot) frame
rest_of (op.CallBack c) slot frame = rest_in c slot frame

abbrev pub ready_of : {H : Type 0} → PhysOperator H → Slot H → Table → Type 0
ready_of (op.Filter f) slot frame = Unit {0}
ready_of (op.SimpleProjection p) slot frame = Unit {0}
ready_of (op.Projection p) slot frame = Unit {0}
ready_of (op.Hstack p) slot frame = Unit {0}
ready_of (op.Function f) slot frame = Fits f.function (pieces_of f) (length frame.rows)
ready_of (op.Pass p) slot frame = Unit {0}
ready_of (op.PlaceHolder p) slot frame = Unit {0}
ready_of (op.CallBack c) slot frame = ready_in c slot frame

-- a place never begins anything, and is never idle: no lane has one
abbrev pub idle_of : {H : Type 0} → PhysOperator H → Type 0
idle_of (op.Filter f) = Unit {0}
idle_of (op.SimpleProjection p) = Unit {0}
idle_of (op.Projection p) = Unit {0}
idle_of (op.Hstack p) = Unit {0}
idle_of (op.Function f) = pieces_of f ≡ []
idle_of (op.Pass p) = Unit {0}
idle_of (op.PlaceHolder p) = ⊥
idle_of (op.CallBack c) = idle_in c

-- what an answer may be: a function's, as it cuts its chunks; a join's, as its probe answers; else
-- one piece
abbrev pub answers_of : {H : Type 0} → PhysOperator H → (rows : ℕ) → Slot H → DataChunk →
    OperatorResult → Type 0
answers_of (op.Filter f) rows slot chunk answer = IsWhole answer
answers_of (op.SimpleProjection p) rows slot chunk answer = IsWhole answer
answers_of (op.Projection p) rows slot chunk answer = IsWhole answer
answers_of (op.Hstack p) rows slot chunk answer = IsWhole answer
answers_of (op.Function f) rows slot chunk answer = AnswersFor f chunk answer
answers_of (op.Pass p) rows slot chunk answer = IsWhole answer
answers_of (op.PlaceHolder p) rows slot chunk answer = Unit {0}
answers_of (op.CallBack c) rows slot chunk answer = answers_by c rows slot chunk answer

-- ---- a flush

abbrev pub is_flushing_of : {H : Type 0} → PhysOperator H → Bool
is_flushing_of (op.Filter f) = false
is_flushing_of (op.SimpleProjection p) = false
is_flushing_of (op.Projection p) = false
is_flushing_of (op.Hstack p) = false
is_flushing_of (op.Function f) = false
is_flushing_of (op.Pass p) = false
is_flushing_of (op.PlaceHolder p) = false
is_flushing_of (op.CallBack c) = is_flushing c

abbrev pub flush_owed : {H : Type 0} → (hash_of : H → List ℕ → ℕ) → PhysOperator H → Slot H → List Row
flush_owed hash_of (op.Filter f) slot = []
flush_owed hash_of (op.SimpleProjection p) slot = []
flush_owed hash_of (op.Projection p) slot = []
flush_owed hash_of (op.Hstack p) slot = []
flush_owed hash_of (op.Function f) slot = []
flush_owed hash_of (op.Pass p) slot = []
flush_owed hash_of (op.PlaceHolder p) slot = []
flush_owed hash_of (op.CallBack c) slot = owed_in hash_of c slot

abbrev pub keeps_of : {H : Type 0} → PhysOperator H → Type 0
keeps_of (op.Filter f) = ⊥
keeps_of (op.SimpleProjection p) = ⊥
keeps_of (op.Projection p) = ⊥
keeps_of (op.Hstack p) = ⊥
keeps_of (op.Function f) = ⊥
keeps_of (op.Pass p) = ⊥
keeps_of (op.PlaceHolder p) = ⊥
keeps_of (op.CallBack c) = keeps_in c
