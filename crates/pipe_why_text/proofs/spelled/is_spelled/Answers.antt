use Rattle.std.proofs.Common.{◌≡◌, ◌<◌, ◌^◌, ℕ}
use Rattle.std.specs.Prelude.{⊤}
use Rattle.std.specs.List.{AllByRecursion}
use Rattle.serde_json.specs.Data.{boolean, number, unsigned, string}
use Rattle.pipe_job.specs.Shape.{is_column, is_expr, is_frame, is_list, is_named, is_pair, is_slice, is_text, is_truth, is_unsigned}
use Rattle.pipe_job.specs.Kinds.{is_node}
use Rattle.pipe_job.specs.Spelling.{list}
use Rattle.pipe_job.specs.FormulaSpelling.{expr_spelling, ExprFits, named_expr_spelling, NamedExprFits}
use Rattle.pipe_job.specs.NodeSpelling.{ir_spelling, IrFits, pair_spelling, slice_spelling, SliceFits}
use Rattle.pipe_job.specs.FrameSpelling.{column_spelling, ColumnFits, frame_spelling, FrameFits}
use Rattle.pipe_why_text.proofs.Shapes.{coalesces, columns, exprs, frames, hints, hows, lists, maybes, named_exprs, nodes, pairs, signed64, slices, texts, truths, types, unsigned32, unsigned64}
use Rattle.pipe_why_text.proofs.spelled.is_spelled.Goals as goal

pub is_read-requires : goal.is_read-requires
is_read-requires c = unsigned32

pub is_read-requires-in-Whole64 : goal.is_read-requires-in-Whole64
is_read-requires-in-Whole64 c = unsigned64

pub is_read-requires-in-MaybeWhole64 : goal.is_read-requires-in-MaybeWhole64
is_read-requires-in-MaybeWhole64 c = maybes (is_unsigned 64) (λ (n : ℕ). number (unsigned n)) (λ n. n < 2 ^ 64) unsigned64

pub is_read-requires-in-Signed64 : goal.is_read-requires-in-Signed64
is_read-requires-in-Signed64 c = signed64

pub is_read-requires-in-Truth : goal.is_read-requires-in-Truth
is_read-requires-in-Truth c = truths

pub is_read-requires-in-Text : goal.is_read-requires-in-Text
is_read-requires-in-Text c = texts

pub is_read-requires-in-Type : goal.is_read-requires-in-Type
is_read-requires-in-Type c = types

pub is_read-requires-in-How : goal.is_read-requires-in-How
is_read-requires-in-How c = hows

pub is_read-requires-in-Coalesce : goal.is_read-requires-in-Coalesce
is_read-requires-in-Coalesce c = coalesces

pub is_read-requires-in-Texts : goal.is_read-requires-in-Texts
is_read-requires-in-Texts c = lists is_text string (λ s. ⊤) texts

pub is_read-requires-in-MaybeTexts : goal.is_read-requires-in-MaybeTexts
is_read-requires-in-MaybeTexts c = maybes (is_list is_text) (list string) (AllByRecursion (λ s. ⊤)) (lists is_text string (λ s. ⊤) texts)

pub is_read-requires-in-Truths : goal.is_read-requires-in-Truths
is_read-requires-in-Truths c = lists is_truth boolean (λ b. ⊤) truths

pub is_read-requires-in-Numbers : goal.is_read-requires-in-Numbers
is_read-requires-in-Numbers c = lists (is_unsigned 32) (λ (n : ℕ). number (unsigned n)) (λ n. n < 2 ^ 32) unsigned32

pub is_read-requires-in-Hint : goal.is_read-requires-in-Hint
is_read-requires-in-Hint c = hints

pub is_read-requires-in-Slice : goal.is_read-requires-in-Slice
is_read-requires-in-Slice c = maybes is_slice slice_spelling SliceFits slices

pub is_read-requires-in-Expr : goal.is_read-requires-in-Expr
is_read-requires-in-Expr c = exprs

pub is_read-requires-in-Exprs : goal.is_read-requires-in-Exprs
is_read-requires-in-Exprs c = lists is_expr expr_spelling ExprFits exprs

pub is_read-requires-in-NamedExpr : goal.is_read-requires-in-NamedExpr
is_read-requires-in-NamedExpr c = named_exprs

pub is_read-requires-in-NamedExprs : goal.is_read-requires-in-NamedExprs
is_read-requires-in-NamedExprs c = lists is_named named_expr_spelling NamedExprFits named_exprs

pub is_read-requires-in-Pair : goal.is_read-requires-in-Pair
is_read-requires-in-Pair c = pairs

pub is_read-requires-in-Pairs : goal.is_read-requires-in-Pairs
is_read-requires-in-Pairs c = lists is_pair pair_spelling (λ p. ⊤) pairs

pub is_read-requires-in-Node : goal.is_read-requires-in-Node
is_read-requires-in-Node c = nodes

pub is_read-requires-in-Nodes : goal.is_read-requires-in-Nodes
is_read-requires-in-Nodes c = lists is_node ir_spelling IrFits nodes

pub is_read-requires-in-Column : goal.is_read-requires-in-Column
is_read-requires-in-Column c = columns

pub is_read-requires-in-Columns : goal.is_read-requires-in-Columns
is_read-requires-in-Columns c = lists is_column column_spelling ColumnFits columns

pub is_read-requires-in-Frame : goal.is_read-requires-in-Frame
is_read-requires-in-Frame c = frames

pub is_read-requires-in-Frames : goal.is_read-requires-in-Frames
is_read-requires-in-Frames c = lists is_frame frame_spelling FrameFits frames
