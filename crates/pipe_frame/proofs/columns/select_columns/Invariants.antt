use Rattle.std.proofs.Common.{◌≡◌, take, drop}
use Rattle.pipe_schema.specs.Schema.{first_unknown}
use Rattle.pipe_frame.specs.Frame.{at_places, places_named}
use Rattle.pipe_frame.proofs.columns.select_columns.Given as goal

abbrev pub invariant-loop-name : goal.invariant-loop-name
invariant-loop-name l = record {
  made : l.made ≡ at_places l.columns (places_named l.schema (take l.name-index l.names));
  known : first_unknown l.schema (drop l.name-index l.names) ≡ first_unknown l.schema l.names;
}
