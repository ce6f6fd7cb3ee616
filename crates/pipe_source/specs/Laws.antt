-- What a function operator owes by law.
use Rattle.std.proofs.Common.{◌≡◌, ℕ, List, [], ap}
use Rattle.pipe_frame.specs.Frame.{Table}
use Rattle.pipe_schema.specs.Rows.{Same}
use Rattle.pipe_expr.specs.Projections.{function_rows}
use Rattle.pipe_expr.specs.declared.join_words.FunctionIR.{FunctionIR}
use Rattle.pipe_expr.specs.declared.join_words.FunctionIR.TheVariants as function
use Rattle.pipe_ops.specs.Laws.{same-equal}
use Rattle.pipe_ops.specs.Pieces.{all_of}
use Rattle.pipe_source.specs.Turns.{owed_of, FitsHeight, Fits}

-- nothing begun fits any frame
fits-none : (pieces : List (ℕ × ℕ)) (height : ℕ) → pieces ≡ [] → FitsHeight pieces height
fits-none pieces height h = rw h tt

pub starts_none : (f : FunctionIR) (pieces : List (ℕ × ℕ)) (height : ℕ) → pieces ≡ [] → Fits f pieces height
starts_none (function.Unpivot on index variable value) pieces height h = fits-none pieces height h
starts_none (function.Rename pairs) pieces height h = h

-- with nothing begun, all of a frame is owed
pub owes_none : (f : FunctionIR) (pieces : List (ℕ × ℕ)) (frame : Table) → pieces ≡ [] → Same (owed_of f pieces frame) (all_of (function_rows f frame.schema) frame)
owes_none f pieces frame h = same-equal (ap (λ ps. owed_of f ps frame) h)
