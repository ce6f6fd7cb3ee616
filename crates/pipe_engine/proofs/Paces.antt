-- How many rows are taken to a question of the stop check, one call after another.
use Rattle.std.proofs.Common.{◌≡◌, ℕ, ◌+◌, ◌-◌, ◌*◌, ◌≤◌, inl, inr, List, [], ◌∷◌, length, length-append, ap, subst, sym, arith}
use Rattle.std.specs.List.{AllByRecursion}
use Rattle.pipe_schema.specs.Counts.{Counts}
use Rattle.pipe_ops.specs.Batches.{Left, batch, after_batch}
use Rattle.pipe_ops.specs.declared.source.Morsel.{Morsel}
use Rattle.pipe_run.specs.Dealt.{rows_of_all}
use Rattle.pipe_run.specs.NotedRounds.{Gives}
use Rattle.pipe_run.specs.Rounds.{left_rows, IsFew}
use Rattle.pipe_run.proofs.BatchSteps.{batch-rows}
use Rattle.pipe_engine.specs.Asked.{RisesBy}
use Rattle.pipe_engine.specs.Paced.{TakesPaced}

pub counts-both : (n k a b c : ℕ) → Counts n a b → Counts k b c → Counts (n + k) a c
counts-both n k a b c first second =
    elim second [
      | inl p ↦ elim first [ inl q ↦ inl (omega (arith, p, q)) | inr q ↦ inr (omega (arith, p, q)) ]
      | inr p ↦ inr p
    ]

-- a count that hasn't fallen has risen by the difference
pub rises-count : (n a b : ℕ) → RisesBy n a b → Counts (b - a) a b
rises-count n a b h = elim h [ inl p ↦ inl (omega (arith, p)) | inr q ↦ inr q ]

-- one call after another
pub paced-then : (most d e f a b c : ℕ) → TakesPaced most d e a b → TakesPaced most e f b c → TakesPaced most d f a c
paced-then most d e f a b c first second = record {
  questions = first.questions + second.questions;
  asked = counts-both first.questions second.questions a b c first.asked second.asked;
  few = omega (arith, first.few, second.few);
}

-- more rows stay to be taken
pub paced-more : (most d e f a b : ℕ) → e ≤ f → TakesPaced most d e a b → TakesPaced most d f a b
paced-more most d e f a b more h = record { questions = h.questions; asked = h.asked; few = omega (arith, h.few, more) }

-- all that a first source has is taken, and others stay
pub paced-first : (most d rest a b : ℕ) → TakesPaced most d 0 a b → TakesPaced most (d + rest) rest a b
paced-first most d rest a b h = record { questions = h.questions; asked = h.asked; few = omega (arith, h.few) }

-- no row is taken
pub paced-none : (most d a : ℕ) → TakesPaced most d d a a
paced-none most d a = record { questions = 0; asked = inl (omega arith); few = omega arith }

pub paced-asked : (n most d a b : ℕ) → RisesBy n a b → TakesPaced most d d a b
paced-asked n most d a b h = record { questions = b - a; asked = rises-count n a b h; few = omega arith }

-- what a source gave
gave-few : (n size index most : ℕ) (rounds : List (List Morsel)) (old new : List Left) → Gives n size index rounds old new → AllByRecursion (IsFew most) rounds → length (left_rows old) ≤ length (left_rows new) + most * length rounds
gave-few n size index most [] old new same few = let e = ap (λ (ls : List Left). length (left_rows ls)) same in omega (arith, e)
gave-few n size index most (ms ∷ rounds) old new gave few =
    let rest = gave-few n size (index + length ms) most rounds (after_batch n size old) new gave.1 few.1 in
    let rows = ap length (batch-rows n size index 0 old) in
    let both = length-append (rows_of_all (batch n size index 0 old)) (left_rows (after_batch n size old)) in
    let given = ap (λ (l : List Morsel). length (rows_of_all l)) gave.0 in
    omega (arith, rest, rows, both, given, few.0)

pub paced-rounds : (n size index most : ℕ) (rounds : List (List Morsel)) (old new : List Left) (a b : ℕ) → Gives n size index rounds old new → AllByRecursion (IsFew most) rounds → left_rows new ≡ [] → Counts (length rounds) a b → TakesPaced most (length (left_rows old)) 0 a b
paced-rounds n size index most rounds old new a b gave few none asked = record {
  questions = length rounds;
  asked = asked;
  few = (let all = gave-few n size index most rounds old new gave few in let out = ap length none in omega (arith, all, out));
}
