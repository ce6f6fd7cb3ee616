-- The items of an array.
use Rattle.std.specs.Prelude.{◌≡◌, ◌<◌, ◌+◌, ℕ, List, [], ◌∷◌, length, slice_index_or, Option, Some, None, option_map}
use Rattle.std.specs.Option.{option_copied}
use Rattle.serde_json.specs.Data.{Data, null, boolean, number, string, array, object, Items, no_items, item}
use Rattle.serde_json.specs.View.{items_of}
use Rattle.pipe_value.specs.View.{view}
use Rattle.pipe_value.specs.declared.columns.Found.{Found}
use Rattle.pipe_value.specs.declared.columns.Found.TheVariants.{Here, Past}
use Rattle.pipe_value.specs.declared.columns.FoundText.{FoundText}
use Rattle.pipe_value.specs.declared.columns.FoundText.TheVariants.{Here as HereText, Past as PastText}
use Rattle.pipe_value.specs.declared.items.Item.{Item}
use Rattle.pipe_value.specs.declared.items.Item.TheVariants.{Lent, Made}

abbrev pub list_of : Items → List Data
list_of no_items = []
list_of (item d ds) = d ∷ list_of ds

-- the items of an array, and none of another value
abbrev pub elements : Data → List Data
elements null = []
elements (boolean b) = []
elements (number n) = []
elements (string s) = []
elements (array ds) = list_of ds
elements (object ms) = []

-- the item at a place, or how far the place is behind the last item
abbrev pub IsFound : List Data → ℕ → Found → Type 0
IsFound ds i (Here v) = (i < length ds) × (view v ≡ slice_index_or ds i null)
IsFound ds i (Past k) = i ≡ length ds + k

-- the text, or none of null, where the data is one of them
abbrev pub nullable_text : Data → Option (Option (List ℕ))
nullable_text null = Some None
nullable_text (boolean b) = None
nullable_text (number n) = None
nullable_text (string s) = Some (Some s)
nullable_text (array ds) = None
nullable_text (object ms) = None

-- the same of the item at a place, or how far the place is behind the last item
abbrev pub IsFoundText : List Data → ℕ → FoundText → Type 0
IsFoundText ds i (HereText text) = (i < length ds) × (option_map option_copied text ≡ nullable_text (slice_index_or ds i null))
IsFoundText ds i (PastText k) = i ≡ length ds + k

-- an array of so many items
pub record IsArrayOf (d : Data) (count : ℕ) : Type 0 where
  pub is_array : d ≡ array (items_of (elements d))
  pub counted : count ≡ length (elements d)

-- the data of an item
abbrev pub item_data : Item → Data
item_data (Lent v) = view v.now
item_data (Made v) = view v
