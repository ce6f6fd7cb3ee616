-- The codes of keys: keys as bytes, and none where a key doesn't join. Rows meet exactly where their codes are the same.
use Rattle.std.specs.Prelude.{ℕ, List, Bool, false, not, ◌||◌, Option, Some, None, if◌then◌else◌, map}
use Rattle.std.specs.List.{position}
use Rattle.std.specs.Str.{bytes_eq}
use Rattle.pipe_frame.specs.Frame.{Table}
use Rattle.pipe_schema.specs.Rows.{Row}
use Rattle.pipe_schema.specs.declared.data_type.DataType.{DataType}
use Rattle.pipe_schema.specs.declared.field.Field.{Field}
use Rattle.pipe_expr.specs.Projections.{fields_named}
use Rattle.pipe_rows.specs.Encoded.{Encoded, equality_encoded}
use Rattle.pipe_rows.specs.Equality.{IsRow}
use Rattle.pipe_recon.specs.Reconciliation.{key_cells, partner}
use Rattle.pipe_recon.specs.declared.recon.Partner.{Partner}
use Rattle.pipe_recon.specs.declared.recon.Recon.{Recon}
use Rattle.pipe_recon.specs.declared.recon_spec.ReconSpec.{ReconSpec}

-- a key as bytes, or none where it doesn't join
abbrev pub Code : Type 0
Code = Option (List ℕ)

abbrev pub encoded_code : Bool → Encoded → Code
encoded_code join_nulls key =
    if join_nulls || not key.has_null then Some key.bytes else None

-- the encoded key of a row
abbrev pub encoded_key : List Field → List (List ℕ) → Row → Encoded
encoded_key schema on row = equality_encoded (key_cells schema on row)

-- the code of a row
abbrev pub code_of : List Field → ReconSpec → Row → Code
code_of schema spec row = encoded_code spec.join_nulls (encoded_key schema spec.on row)

abbrev pub codes_of : List Field → ReconSpec → List Row → List Code
codes_of schema spec rows = map (code_of schema spec) rows

-- the types of a key's cells
abbrev pub dtype_of : Field → DataType
dtype_of field = field.dtype

abbrev pub key_types : List Field → List (List ℕ) → List DataType
key_types schema on = map dtype_of (fields_named schema on)

-- whether two codes are the same: both are there, with the same bytes
abbrev pub same_code : Code → Code → Bool
same_code (Some a) (Some b) = bytes_eq a b
same_code (Some a) None = false
same_code None other = false

-- the class of a row of some code among the rows of the other side
abbrev pub partner_among : List Code → Code → Partner
partner_among others code = partner (position (same_code code) others)

-- the classes of both sides, by codes
abbrev pub recon_by : List Code → List Code → Recon
recon_by left right = record {
  left = map (partner_among right) left;
  right = map (partner_among left) right;
}

-- the cells of a row's key are of the key's types
abbrev pub HasTypedKey : List Field → List (List ℕ) → Row → Type 0
HasTypedKey schema on row = IsRow (key_types schema on) (key_cells schema on row)

-- the keys of a table's rows, as a table
abbrev pub key_table : List (List ℕ) → Table → Table
key_table on table = record {
  schema = fields_named table.schema on;
  rows = map (key_cells table.schema on) table.rows;
}
