-- What spells what is wanted has its shape.
use Rattle.std.proofs.Common.{◌≡◌, ◌<◌, ◌^◌, ℕ, ℤ, List, Bool, true, Option, Some, None, refl, ap, ap₂, sym, ◌∙◌}
use Rattle.std.specs.Prelude.{⊤, FitsSigned, codes, string_bytes}
use Rattle.std.specs.List.{AllByRecursion}
use Rattle.std.specs.Int.{w32, w64, w128}
use Rattle.hex.specs.Hex.{IsBytes}
use Rattle.serde_json.specs.Data.{Data, null, boolean, number, unsigned, string, array, object}
use Rattle.serde_json.specs.Find.{of_integer}
use Rattle.pipe_schema.specs.declared.any_value.AnyValue.TheVariants as cell
use Rattle.pipe_schema.specs.declared.data_type.DataType.{DataType}
use Rattle.pipe_schema.specs.declared.data_type.DataType.TheVariants as dtype
use Rattle.pipe_expr.specs.Formula.{formula_of, named_formula_of}
use Rattle.pipe_plan.specs.Node.{node_of}
use Rattle.pipe_job.specs.Shape.{is_cell, is_decimal, is_expr, is_frame, is_hex, is_hint, is_list, is_maybe, is_named, is_pair, is_signed, is_slice, is_text, is_truth, is_type, is_unsigned, is_column, is_coalesce, is_how}
use Rattle.pipe_job.specs.Kinds.{is_node}
use Rattle.pipe_job.specs.Spelling.{maybe, MaybeFits, list, whole, decimal_spelling, hex_spelling, type_spelling}
use Rattle.pipe_job.specs.FormulaSpelling.{expr_spelling, ExprFits, named_expr_spelling, NamedExprFits}
use Rattle.pipe_job.specs.NodeSpelling.{how_spelling, coalesce_spelling, hint_spelling, HintFits, ir_spelling, IrFits, pair_spelling, slice_spelling, SliceFits}
use Rattle.pipe_job.specs.FrameSpelling.{column_spelling, ColumnFits, frame_spelling, FrameFits}
use Rattle.pipe_job.proofs.Again.{unsigned_again, int64_again, int32_again, list_again, cell_again, formula_again, named_again, slice_again, how_again, coalesce_again, hint_again, node_again, column_again, frame_again}
use Rattle.pipe_why_text.specs.Wanted.{HasShape, SpellsJob, is_wanted}
use Rattle.pipe_why_text.specs.declared.want.Want.TheVariants as want

-- ---- what may be null, and lists

maybe_shape : (shape : Data → Bool) (d : Data) → shape d ≡ true → is_maybe shape d ≡ true
maybe_shape shape null h = refl
maybe_shape shape (boolean b) h = h
maybe_shape shape (number n) h = h
maybe_shape shape (string s) h = h
maybe_shape shape (array ds) h = h
maybe_shape shape (object ms) h = h

pub maybes : {X : Type 0} (shape : Data → Bool) (spell : X → Data) (Fits : X → Type 0) → HasShape shape spell Fits → HasShape (is_maybe shape) (maybe spell) (MaybeFits Fits)
maybes shape spell Fits each None h = refl
maybes shape spell Fits each (Some x) h = maybe_shape shape (spell x) (each x h)

pub lists : {X : Type 0} (shape : Data → Bool) (spell : X → Data) (Fits : X → Type 0) → HasShape shape spell Fits → HasShape (is_list shape) (list spell) (AllByRecursion Fits)
lists shape spell Fits each xs h = list_again spell Fits shape each xs h

-- ---- what a job has

pub signed32 : HasShape (is_signed 31) (λ (z : ℤ). number (of_integer z)) (FitsSigned w32)
signed32 z h = int32_again z h

pub signed64 : HasShape (is_signed 63) (λ (z : ℤ). number (of_integer z)) (FitsSigned w64)
signed64 z h = int64_again z h

pub unsigned32 : HasShape (is_unsigned 32) (λ (n : ℕ). number (unsigned n)) (λ n. n < 2 ^ 32)
unsigned32 n h = unsigned_again 32 n h

pub unsigned64 : HasShape (is_unsigned 64) (λ (n : ℕ). number (unsigned n)) (λ n. n < 2 ^ 64)
unsigned64 n h = unsigned_again 64 n h

pub truths : HasShape is_truth boolean (λ b. ⊤)
truths b h = refl

pub texts : HasShape is_text string (λ s. ⊤)
texts s h = refl

pub bytes : HasShape is_hex hex_spelling IsBytes
bytes b h = cell_again dtype.Binary (cell.Binary b) (refl, h)

pub decimals : HasShape is_decimal decimal_spelling (FitsSigned w128)
decimals z h = cell_again dtype.Int128 (cell.Int128 z) (refl, h)

pub types : HasShape is_type type_spelling (λ t. ⊤)
types dtype.Int32 h = refl
types dtype.Int64 h = refl
types dtype.UInt32 h = refl
types dtype.UInt64 h = refl
types dtype.Boolean h = refl
types dtype.String h = refl
types dtype.Binary h = refl
types dtype.Int128 h = refl

pub pairs : HasShape is_pair pair_spelling (λ p. ⊤)
pairs p h = refl

pub exprs : HasShape is_expr expr_spelling ExprFits
exprs e h = formula_again (formula_of e) h

pub named_exprs : HasShape is_named named_expr_spelling NamedExprFits
named_exprs e h = named_again (named_formula_of e) h

pub slices : HasShape is_slice slice_spelling SliceFits
slices s h = slice_again s h

pub hows : HasShape is_how how_spelling (λ w. ⊤)
hows w h = how_again w

pub coalesces : HasShape is_coalesce coalesce_spelling (λ c. ⊤)
coalesces c h = coalesce_again c

pub hints : HasShape is_hint hint_spelling HintFits
hints n h = hint_again n h

pub nodes : HasShape is_node ir_spelling IrFits
nodes n h = node_again (node_of n) h

pub columns : HasShape is_column column_spelling ColumnFits
columns c h = column_again c h

pub frames : HasShape is_frame frame_spelling FrameFits
frames f h = frame_again f h

-- a value that spells a job is an object
pub job_object : (d : Data) → SpellsJob d → is_wanted want.Job d ≡ true
job_object d s = ap (is_wanted want.Job) s.1.spelled
