-- The keys of a sort.
use Rattle.std.specs.Prelude.{ℕ, List, unwrap_or}
use Rattle.pipe_schema.specs.Schema.{place_of}
use Rattle.pipe_schema.specs.declared.field.Field.{Field}
use Rattle.pipe_rows.specs.SortOrder.{SortBy}
use Rattle.pipe_plan.specs.PlanRows.{flag_at}
use Rattle.pipe_plan.specs.declared.ir.SortOptions.{SortOptions}

-- the key of a name, the i-th of a sort
abbrev pub sort_key : List Field → List ℕ → SortOptions → ℕ → SortBy
sort_key schema name options i = record {
  column = unwrap_or (place_of name schema) 0;
  descending = flag_at options.descending i;
  nulls_last = flag_at options.nulls_last i;
}
