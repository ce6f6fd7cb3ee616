-- What sinks around sources end as: the rows and the schemas of a source, and of a sink around a sink.
use Rattle.std.specs.Prelude.{◌≡◌, List, Bool, true, false, All, map}
use Rattle.pipe_schema.specs.Rows.{Row}
use Rattle.pipe_schema.specs.Schema.{names_of}
use Rattle.pipe_schema.specs.declared.field.Field.{Field}
use Rattle.pipe_expr.specs.Projections.{row_named}
use Rattle.pipe_ops.specs.Batches.{Left}
use Rattle.pipe_source.specs.Law.{all_rows}
use Rattle.pipe_source.specs.Supplies.{left_of}
use Rattle.pipe_source.specs.declared.phys_source.PhysSource.{PhysSource}

-- the rows that are left of a source
abbrev pub source_rows : PhysSource → List Row
source_rows source = all_rows (left_of source)

-- what is left of a source is of one schema
abbrev pub IsOfSchema : List Field → Left → Type 0
IsOfSchema fields left = left.schema ≡ fields

abbrev pub supplies_schema : PhysSource → List Field → Type 0
supplies_schema source fields = All (IsOfSchema fields) (left_of source)

-- a sink tells of a source the rows and the schema that it has
abbrev pub GivesRowsOf : (PhysSource → List Row) → Type 0
GivesRowsOf left = (source : PhysSource) → left source ≡ source_rows source

abbrev pub SuppliesSchemas : (PhysSource → List Field → Type 0) → Type 0
SuppliesSchemas supplies =
    (source : PhysSource) (fields : List Field) → supplies source fields → supplies_schema source fields

-- the settings of a sink around a sink: those of the sink in it, whether that builds, and what it gives
pub record Around (T : Type 0) : Type 0 where
  pub inner : T
  pub builds : Bool
  pub given : List Field
  pub schema : List Field

-- rows with the columns of a schema, of rows with which a sink may end
pub record AreReprojected (Rightly : List Row → Type 0) (given schema : List Field) (rows : List Row) : Type 0 where
  pub inner : List Row
  pub ends : Rightly inner
  pub made : rows ≡ map (row_named given (names_of schema)) inner

-- what was built is handed on as it is, and other rows get the columns of the schema
abbrev pub ends_by : (builds : Bool) → (List Row → Type 0) → (given schema : List Field) → List Row → Type 0
ends_by true Rightly given schema rows = Rightly rows
ends_by false Rightly given schema rows = AreReprojected Rightly given schema rows

abbrev pub may_end_around : {T : Type 0} → (T → List Row → List Row → Type 0) → Around T →
    (held rows : List Row) → Type 0
may_end_around may_end s held rows = ends_by s.builds (may_end s.inner held) s.given s.schema rows
