-- Rows that are there as a frame besides.
use Rattle.std.specs.Prelude.{◌≡◌, ℕ, List, [], ◌∷◌, Option, Some, None}
use Rattle.pipe_frame.specs.Frame.{Table}
use Rattle.pipe_schema.specs.Rows.{Row, Same}
use Rattle.pipe_schema.specs.declared.field.Field.{Field}
use Rattle.pipe_ops.specs.Batches.{Left}
use Rattle.pipe_source.specs.declared.phys_source.PhysSource.{PhysSource}
use Rattle.pipe_source.specs.declared.phys_source.PhysSource.TheVariants.{Frame, Union, ReProject}
use Rattle.pipe_driver.specs.declared.branch.SinkAt.{SinkAt}
use Rattle.pipe_driver.specs.declared.branch.SinkAt.TheVariants as at
use Rattle.pipe_engine.specs.Engine.{whole_rows}

abbrev pub IsUnder : List Field → Option Table → Type 0
IsUnder schema None = Unit {0}
IsUnder schema (Some frame) = frame.schema ≡ schema

-- all that was left of a frame, if it was anything
abbrev pub IsFrameIn : (old new : Left) → Option Table → Type 0
IsFrameIn old new None = (old.rows ≡ []) × (new ≡ old)
IsFrameIn old new (Some frame) = (frame.rows ≡ old.rows) × (frame.schema ≡ old.schema)

-- the rows of a source that is a frame
abbrev pub HasFrame : PhysSource → Option Table → Type 0
HasFrame (Frame left) whole = (whole_rows whole ≡ left.rows) × IsUnder left.schema whole
HasFrame (Union supply) whole = whole ≡ None
HasFrame (ReProject supply) whole = whole ≡ None

-- a frame is kept where no operator stands between its source and the root's sink
abbrev pub IsKeptFrame : {X : Type 0} → SinkAt → List X → (frame kept : Option Table) → Type 0
IsKeptFrame at.Ordered [] frame kept = kept ≡ frame
IsKeptFrame at.Ordered (stage ∷ stages) frame kept = kept ≡ None
IsKeptFrame (at.Sort n) stages frame kept = kept ≡ None
IsKeptFrame (at.Build n) stages frame kept = kept ≡ None

-- a frame that is there has these rows, each as often
abbrev pub HasSameRows : List Row → Option Table → Type 0
HasSameRows rows None = Unit {0}
HasSameRows rows (Some frame) = Same frame.rows rows

-- the frame of the leg that ended, or what was there before
abbrev pub newer_whole : (old new : Option Table) → Option Table
newer_whole old None = old
newer_whole old (Some frame) = Some frame
