-- Where the caller stands: which blocks are put, and which are still to come.
use Rattle.std.specs.Prelude.{◌≡◌, ◌≤◌, ℕ, Bool, true, false, not, ◌+◌, Result, IfOk, OnOk, OnErr, IsErrOf, List, [], ◌∷◌, ◌++◌, filter, flat_map, if◌then◌else◌}
use Rattle.pipe_stream.specs.Outside.{OutputSeen, WriteFails, Writes, WritesFront}
use Rattle.pipe_stream.specs.Blocks.{blocks_from, is_of, IsBlockOrder, PutsFront}
use Rattle.pipe_stream.specs.Messages.{script}
use Rattle.pipe_stream.specs.Hands.{hand}
use Rattle.pipe_stream.specs.declared.message.Message.{Message}
use Rattle.pipe_stream.specs.declared.hands.View.{View}
use Rattle.pipe_stream.specs.declared.outcome.Report.{Report}
use Rattle.pipe_stream.specs.declared.outcome.StreamError.{StreamError}
use Rattle.pipe_stream.specs.declared.outcome.StreamError.TheVariants as error
use Rattle.pipe_stream.specs.declared.progress.Share.{Share}
use Rattle.pipe_stream.specs.declared.progress.Progress.{Progress}

-- the share of a worker
abbrev pub share : Bool → Progress → Share
share true progress = progress.odd
share false progress = progress.even

-- the same progress with another share of a worker
abbrev pub with_share : Bool → Share → Progress → Progress
with_share true s progress = record progress { odd = s }
with_share false s progress = record progress { even = s }

-- with one more number in the order
abbrev pub noted : ℕ → Progress → Progress
noted number progress = record progress { order = progress.order ++ number ∷ [] }

-- after a block of a worker was put
abbrev pub put_on : Bool → ℕ → Progress → Progress
put_on odd number progress =
    with_share odd (record (share odd (noted number progress)) { next = number + 1 }) (noted number progress)

-- the blocks of a worker that stand in the order, and those from a number on, are all of its blocks
abbrev pub Follows : ℕ → List ℕ → Bool → ℕ → Type 0
Follows count order odd next = filter (is_of odd) order ++ blocks_from odd next count ≡ blocks_from odd 0 count

-- the blocks of both workers are put up to these numbers
abbrev pub AllFollow : ℕ → Progress → Type 0
AllFollow count progress = (odd : Bool) → Follows count progress.order odd (share odd progress).next

-- the blocks of a worker are put up to a number, and the others come
pub record Stands (text : ℕ → List ℕ) (count : ℕ) (order : List ℕ) (odd : Bool) (s : Share) (due : List Message) : Type 0 where
  pub follows : Follows count order odd s.next
  pub comes : due ≡ (if s.ended then [] else script text count odd s.next)
  pub over : s.ended ≡ true → blocks_from odd s.next count ≡ []

-- so stand the blocks of both
abbrev pub Standing : (ℕ → List ℕ) → ℕ → Progress → View → Type 0
Standing text count progress v =
    (odd : Bool) → Stands text count progress.order odd (share odd progress) (hand odd v).due

-- more blocks were put, in this order
abbrev pub Wrote : (ℕ → List ℕ) → List ℕ → List ℕ → OutputSeen → OutputSeen → Type 0
Wrote text before after out now = (more : List ℕ) × (after ≡ before ++ more) × Writes (flat_map text more) out now

-- a front was put of what would have completed the order
abbrev pub OrderFails : (ℕ → List ℕ) → ℕ → List ℕ → OutputSeen → OutputSeen → Type 0
OrderFails text count before out now =
    (more : List ℕ) × IsBlockOrder count (before ++ more) × WritesFront (flat_map text more) out now

-- a text was put for a worker's block, or a front of it
pub record Puts {X : Type 0} (t : List ℕ) (odd : Bool) (number : ℕ) (p p' : Progress) (out now : OutputSeen) (result : Result X StreamError) : Type 0 where
  pub placed : OnOk result (p' ≡ put_on odd number p)
  pub writes : OnOk result (Writes t out now)
  pub front : OnErr result (WritesFront t out now)
  pub cause : IsErrOf result error.PutFault → WriteFails out now
  pub faults : out.faults ≤ now.faults

-- more blocks were put, or a front of what would have completed the order
pub record Steps {X : Type 0} (text : ℕ → List ℕ) (count : ℕ) (before after : List ℕ) (out now : OutputSeen) (result : Result X StreamError) : Type 0 where
  pub wrote : OnOk result (Wrote text before after out now)
  pub fails : OnErr result (OrderFails text count before out now)
  pub cause : IsErrOf result error.PutFault → WriteFails out now
  pub faults : out.faults ≤ now.faults

-- a worker's blocks are put up to a number, and the other's as far as before
pub record Reaches (count : ℕ) (odd : Bool) (next : ℕ) (p p' : Progress) : Type 0 where
  pub next_is : (share odd p').next ≡ next
  pub other : share (not odd) p' ≡ share (not odd) p
  pub follow : AllFollow count p'

-- nothing is left of a worker's blocks
pub record Rests (count : ℕ) (odd : Bool) (p p' : Progress) : Type 0 where
  pub none : blocks_from odd (share odd p').next count ≡ []
  pub other : share (not odd) p' ≡ share (not odd) p
  pub follow : AllFollow count p'

-- what a call ends with
pub record Streamed (text : ℕ → List ℕ) (count : ℕ) (out now : OutputSeen) (result : Result Report StreamError) : Type 0 where
  pub order : IfOk result (λ report. IsBlockOrder count report.order)
  pub put : IfOk result (λ report. Writes (flat_map text report.order) out now)
  pub front : OnErr result (PutsFront text count out now)
  pub fault : IsErrOf result error.PutFault → WriteFails out now
  pub faults : out.faults ≤ now.faults
