-- What is known of a table with flags while a case is worked out.
use Rattle.std.specs.Prelude.{◌≡◌, ℕ, ◌≤◌, None, length}
use Rattle.pipe_frame.specs.Frame.{Table}
use Rattle.pipe_table.specs.Spec.{probed_schema}
use Rattle.pipe_table.specs.declared.spec.JoinSpec.{JoinSpec}
use Rattle.pipe_outer.specs.FullProbe.{FullProbing}
use Rattle.pipe_outer.specs.MarkProbe.{MarkProbing, HoldsSeat}
use Rattle.pipe_outer.specs.Unmet.{FullRows}

-- the table of a join, in so many partitions
pub record IsFullOf {H : Type 0} (spec : JoinSpec) (parts : ℕ) (full : FullRows H) : Type 0 where
  pub spec_is : full.table.spec ≡ spec
  pub parts_are : full.table.parts ≡ parts

-- a part of the probed rows, few enough to be numbered
pub record IsProbedPart (spec : JoinSpec) (part : Table) : Type 0 where
  pub schema : part.schema ≡ probed_schema spec
  pub few : length part.rows ≤ 4294967294

-- a probe of a table with a seat at its flags that has begun nothing
pub record IsIdle {H : Type 0} (full : FullRows H) (probe : MarkProbing) : Type 0 where
  pub serves : full.table.spec ≡ probe.spec
  pub seat : HoldsSeat full.marks probe.seat
  pub begun : probe.begun ≡ None

-- the same of a full join's probe
pub record IsIdleFull {H : Type 0} (full : FullRows H) (probe : FullProbing) : Type 0 where
  pub serves : full.table.spec ≡ probe.spec
  pub seat : HoldsSeat full.marks probe.seat
  pub begun : probe.begun ≡ None
