-- What is owed shrinks with each answer after which more is to come.
use Rattle.std.proofs.Common.{◌≡◌, ℕ, ◌+◌, ◌<◌, List, [], ◌∷◌, length, refl, arith}
use Rattle.std.specs.List.{flat_map}
use Rattle.pipe_schema.specs.Rows.{Row}
use Rattle.pipe_frame.specs.declared.chunk.DataChunk.{DataChunk}
use Rattle.pipe_schema.specs.Weights.{total}
use Rattle.pipe_schema.proofs.Weights.{total-append}
use Rattle.pipe_ops.specs.declared.operator.OperatorResult.TheVariants.{HaveMoreOutPut}
use Rattle.pipe_chain.specs.Flow.{Work, Acts}
use Rattle.pipe_chain.specs.Executed.{Owed, Executed}
use Rattle.pipe_chain.proofs.Weighing.{rows-length, keys-weigh, keys-fewer, length-both}

-- what rows are owed, and what the keys that are owed may still give
abbrev pub gain_of : Work → ℕ → ℕ
gain_of w key = length (w.gains key)

abbrev pub debt_of : Work → Owed → ℕ
debt_of w owed = length owed.rows + total (gain_of w) owed.keys

length-pieces : (f : ℕ → List Row) (xs : List ℕ) → length (flat_map f xs) ≡ total (λ x. length (f x)) xs
length-pieces f [] = refl
length-pieces f (x ∷ xs) = omega (arith, length-pieces f xs, length-both (f x) (flat_map f xs))

pub debt-less : (w : Work) (a b : Acts) (before left : Owed) (piece : DataChunk) → Executed w a b before left (HaveMoreOutPut piece) → debt_of w left < debt_of w before
debt-less w a b before left piece e = omega (
  arith,
  e.some refl,
  rows-length e.rows,
  length-both piece.frame.rows left.rows,
  length-both before.rows (flat_map w.gains e.more.won),
  length-pieces w.gains e.more.won,
  keys-fewer e.few (gain_of w),
  keys-weigh e.keys (gain_of w),
  total-append (gain_of w) e.more.marked left.keys,
)
