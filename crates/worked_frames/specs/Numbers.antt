-- Frames of one column n of values of fixed width, and stackers that hold such a frame.
use Rattle.std.specs.Prelude.{◌≡◌, ◌<◌, ◌≤◌, ◌^◌, List, [], ◌∷◌, IfSome}
use Rattle.pipe_frame.specs.Stacker.{Holding, size_or_none}
use Rattle.pipe_schema.specs.declared.data_type.DataType.{DataType}
use Rattle.pipe_schema.specs.declared.data_type.DataType.TheVariants as dtype
use Rattle.pipe_schema.specs.declared.field.Field.{Field}

-- one column n of a type
abbrev pub one_field : DataType → List Field
one_field dtype = record { name = 110 ∷ []; dtype = dtype } ∷ []

-- a stacker whose limit leaves room holds a frame of numbers, of a size within the limit, or none
pub record HoldsNumbers (stacker : Holding) : Type 0 where
  pub schema : IfSome stacker.held (λ table. table.schema ≡ one_field dtype.UInt64)
  pub within : size_or_none stacker.held ≤ stacker.limit
  pub small : stacker.limit < 2 ^ 63
