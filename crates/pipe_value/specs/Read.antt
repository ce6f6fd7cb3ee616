-- The items read so far.
use Rattle.std.specs.Prelude.{List, [], ◌∷◌, ◌++◌, map, Option}
use Rattle.json.specs.Token.{Token}
use Rattle.json.specs.Json.{parse_map}
use Rattle.serde_json.specs.Data.{Data, array, Items, item}
use Rattle.pipe_value.specs.Columns.{columns_data}
use Rattle.pipe_value.specs.View.{view}
use Rattle.pipe_value.specs.declared.read.Filled.{Filled}

-- the items of an array that is being read
abbrev pub filled_data : Filled → List Data
filled_data f = columns_data f.columns ++ map view f.values.items

-- items with others before them
abbrev pub items_before : List Data → Items → Items
items_before [] rest = rest
items_before (d ∷ ds) rest = item d (items_before ds rest)

-- the array of some items and those that are read after them
abbrev pub array_after : List Data → Option (Items × List Token) → Option (Data × List Token)
array_after ds read = parse_map (λ rest. array (items_before ds rest)) read
