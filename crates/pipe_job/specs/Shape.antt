-- Whether a value spells something of a kind: a test for each kind.
use Rattle.std.specs.Prelude.{ℕ, ℤ, pos, ◌^◌, ◌==◌, negsuc, codes, List, [], ◌∷◌, ◌||◌, if◌then◌else◌, Option, Some, None, Bool, true, false, ◌&&◌, not, nat_lt, nat_le, ◌%◌, length, is_some}
use Rattle.std.specs.Fmt.{signed_decimal}
use Rattle.std.specs.Str.{bytes_eq}
use Rattle.std.specs.Str.Parse.{signed_digits_value}
use Rattle.serde_json.specs.Find.{get}
use Rattle.serde_json.specs.Data.{unsigned, negative, Data, null, boolean, number, string, array, object, Items, no_items, item, Members, no_members, member}
use Rattle.pipe_schema.specs.declared.any_value.AnyValue.{AnyValue}
use Rattle.pipe_schema.specs.declared.any_value.AnyValue.TheVariants as cell
use Rattle.pipe_column.specs.Series.{Cells}
use Rattle.pipe_frame.specs.Frame.{frame_fault}
use Rattle.pipe_schema.specs.declared.data_type.DataType.{DataType}
use Rattle.pipe_schema.specs.declared.data_type.DataType.TheVariants as dtype

-- ---- objects, member by member

abbrev pub is_object : Data → Bool
is_object (object ms) = true
is_object _ = false

-- whether the first member has this name
abbrev pub begins : List ℕ → Members → Bool
begins name no_members = false
begins name (member k d ms) = bytes_eq k name

abbrev pub is_end : Members → Bool
is_end no_members = true
is_end (member k d ms) = false

-- whether the first member has this name, and a value of this shape
abbrev pub has : List ℕ → (Data → Bool) → Members → Bool
has name shape no_members = false
has name shape (member k d ms) = bytes_eq k name && shape d

-- one member of this name and shape, and then others
abbrev pub after : List ℕ → (Data → Bool) → (Members → Bool) → Members → Bool
after name shape rest no_members = false
after name shape rest (member k d ms) = bytes_eq k name && shape d && rest ms

abbrev pub on_object : (Members → Bool) → Data → Bool
on_object shape (object ms) = shape ms
on_object shape _ = false

-- an object with one member
abbrev pub is_single : Data → Bool
is_single (object (member k d no_members)) = true
is_single _ = false

-- ---- arrays

abbrev pub all_items : (Data → Bool) → Items → Bool
all_items shape no_items = true
all_items shape (item d ds) = shape d && all_items shape ds

abbrev pub is_list : (Data → Bool) → Data → Bool
is_list shape (array ds) = all_items shape ds
is_list shape _ = false

abbrev pub is_maybe : (Data → Bool) → Data → Bool
is_maybe shape null = true
is_maybe shape d = shape d

-- an array of two
abbrev pub is_couple : Data → Bool
is_couple (array (item a (item b no_items))) = true
is_couple _ = false

abbrev pub on_couple : (Data → Bool) → (Data → Bool) → Data → Bool
on_couple first second (array (item a (item b no_items))) = first a && second b
on_couple first second _ = false

-- ---- numbers, texts and truth values

abbrev pub is_unsigned : ℕ → Data → Bool
is_unsigned bits (number (unsigned n)) = nat_lt n (2 ^ bits)
is_unsigned bits _ = false

-- a whole number, with this many bits beside the sign
abbrev pub is_signed : ℕ → Data → Bool
is_signed bits (number (unsigned n)) = nat_lt n (2 ^ bits)
is_signed bits (number (negative (negsuc n))) = nat_lt n (2 ^ bits)
is_signed bits _ = false

abbrev pub is_exactly : ℕ → Data → Bool
is_exactly n (number (unsigned m)) = m == n
is_exactly n _ = false

abbrev pub is_text : Data → Bool
is_text (string s) = true
is_text _ = false

abbrev pub is_truth : Data → Bool
is_truth (boolean b) = true
is_truth _ = false

abbrev pub is_word : List ℕ → Data → Bool
is_word word (string s) = bytes_eq s word
is_word word _ = false

abbrev pub contains_text : List (List ℕ) → List ℕ → Bool
contains_text [] s = false
contains_text (w ∷ ws) s = bytes_eq s w || contains_text ws s

abbrev pub is_one_of : List (List ℕ) → Data → Bool
is_one_of words (string s) = contains_text words s
is_one_of words _ = false

-- whether a byte is a lower-case hexadecimal digit
abbrev pub is_lower_digit : ℕ → Bool
is_lower_digit byte = (nat_le 48 byte && nat_le byte 57) || (nat_le 97 byte && nat_le byte 102)

abbrev pub are_lower_digits : List ℕ → Bool
are_lower_digits [] = true
are_lower_digits (byte ∷ text) = is_lower_digit byte && are_lower_digits text

-- whether a text is lower-case hexadecimal of even length
abbrev pub is_hex_text : List ℕ → Bool
is_hex_text s = are_lower_digits s && (length s % 2 == 0)

abbrev pub is_hex : Data → Bool
is_hex (string s) = is_hex_text s
is_hex _ = false

-- whether a whole number fits this many bits beside the sign
abbrev pub is_within : ℕ → ℤ → Bool
is_within bits (pos n) = nat_lt n (2 ^ bits)
is_within bits (negsuc n) = nat_lt n (2 ^ bits)

-- whether a text is the decimal text of the number that its digits stand for, which fits 128 bits
abbrev pub is_decimal_text : List ℕ → Bool
is_decimal_text s = is_within 127 (signed_digits_value 10 s) && bytes_eq (signed_decimal (signed_digits_value 10 s)) s

abbrev pub is_decimal : Data → Bool
is_decimal (string s) = is_decimal_text s
is_decimal _ = false

-- ---- cells and their types

abbrev pub type_named : List ℕ → Option DataType
type_named s =
    if bytes_eq s (codes "Int32") then Some dtype.Int32
    else if bytes_eq s (codes "Int64") then Some dtype.Int64
    else if bytes_eq s (codes "UInt32") then Some dtype.UInt32
    else if bytes_eq s (codes "UInt64") then Some dtype.UInt64
    else if bytes_eq s (codes "Boolean") then Some dtype.Boolean
    else if bytes_eq s (codes "String") then Some dtype.String
    else if bytes_eq s (codes "Binary") then Some dtype.Binary
    else if bytes_eq s (codes "Int128") then Some dtype.Int128
    else None

abbrev pub type_words : List (List ℕ)
type_words = codes "Int32" ∷ codes "Int64" ∷ codes "UInt32" ∷ codes "UInt64" ∷ codes "Boolean" ∷ codes "String" ∷ codes "Binary" ∷ codes "Int128" ∷ []

abbrev pub is_type : Data → Bool
is_type d = is_one_of type_words d

abbrev pub is_value : DataType → Data → Bool
is_value dtype.Int32 = is_signed 31
is_value dtype.Int64 = is_signed 63
is_value dtype.UInt32 = is_unsigned 32
is_value dtype.UInt64 = is_unsigned 64
is_value dtype.Boolean = is_truth
is_value dtype.String = is_text
is_value dtype.Binary = is_hex
is_value dtype.Int128 = is_decimal

abbrev pub is_cell : DataType → Data → Bool
is_cell t = is_maybe (is_value t)

abbrev pub is_cell_at : Option DataType → Data → Bool
is_cell_at (Some t) d = is_cell t d
is_cell_at None d = false

-- ---- expressions

abbrev pub type_at : Data → Option DataType
type_at (string s) = type_named s
type_at _ = None

-- a member of this name with a type, and then members that are so for that type
abbrev pub after_type : List ℕ → (Option DataType → Members → Bool) → Members → Bool
after_type name rest no_members = false
after_type name rest (member k d ms) = bytes_eq k name && rest (type_at d) ms

abbrev pub is_literal_value : Option DataType → Members → Bool
is_literal_value t ms = after (codes "value") (is_cell_at t) is_end ms

abbrev pub is_literal : Data → Bool
is_literal d = on_object (after_type (codes "type") is_literal_value) d

abbrev pub unary_words : List (List ℕ)
unary_words = codes "not" ∷ codes "is_null" ∷ codes "is_not_null" ∷ []

abbrev pub binary_words : List (List ℕ)
binary_words = codes "add" ∷ codes "sub" ∷ codes "mul" ∷ codes "eq" ∷ codes "not_eq" ∷ codes "lt" ∷ codes "lt_eq" ∷ codes "gt" ∷ codes "gt_eq" ∷ codes "and" ∷ codes "or" ∷ []

-- whether the value of a member of this name makes an expression
abbrev pub is_form : List ℕ → Bool → Bool → Bool → Bool → Bool
is_form name column literal one two =
    if bytes_eq name (codes "col") then column
    else if bytes_eq name (codes "lit") then literal
    else if contains_text unary_words name then one
    else contains_text binary_words name && two

abbrev mutual
  pub is_expr : Data → Bool
  is_expr null = false
  is_expr (boolean b) = false
  is_expr (number n) = false
  is_expr (string s) = false
  is_expr (array ds) = false
  is_expr (object ms) = is_expr_member ms

  pub is_expr_member : Members → Bool
  is_expr_member no_members = false
  is_expr_member (member k d no_members) = is_form k (is_text d) (is_literal d) (is_expr d) (is_expr_pair d)
  is_expr_member (member k d (member l e ms)) = false

  pub is_expr_pair : Data → Bool
  is_expr_pair null = false
  is_expr_pair (boolean b) = false
  is_expr_pair (number n) = false
  is_expr_pair (string s) = false
  is_expr_pair (array ds) = are_two_exprs ds
  is_expr_pair (object ms) = false

  pub are_two_exprs : Items → Bool
  are_two_exprs no_items = false
  are_two_exprs (item a no_items) = false
  are_two_exprs (item a (item b no_items)) = is_expr a && is_expr b
  are_two_exprs (item a (item b (item c ds))) = false

abbrev pub is_named : Data → Bool
is_named d = on_object (after (codes "expr") is_expr (after (codes "name") is_text is_end)) d

-- ---- nodes

abbrev pub is_slice : Data → Bool
is_slice d = on_couple (is_signed 63) (is_unsigned 64) d

abbrev pub is_how : Data → Bool
is_how d = is_one_of (codes "inner" ∷ codes "left" ∷ codes "full" ∷ codes "cross" ∷ codes "semi" ∷ codes "anti" ∷ []) d

abbrev pub is_coalesce : Data → Bool
is_coalesce d = is_one_of (codes "JoinSpecific" ∷ codes "CoalesceColumns" ∷ codes "KeepColumns" ∷ []) d

abbrev pub is_hint : Data → Bool
is_hint d = on_couple (is_maybe (is_unsigned 64)) (is_unsigned 64) d

abbrev pub is_pair : Data → Bool
is_pair d = on_object (after (codes "existing") is_text (after (codes "new") is_text is_end)) d

abbrev pub is_scan : Data → Bool
is_scan d = on_object (after (codes "columns") (is_maybe (is_list is_text)) (after (codes "frame") (is_unsigned 32) (after (codes "node") (is_word (codes "DataFrameScan")) is_end))) d

abbrev pub is_filter : Data → Bool
is_filter d = on_object (after (codes "input") (is_unsigned 32) (after (codes "node") (is_word (codes "Filter")) (after (codes "predicate") is_expr is_end))) d

abbrev pub is_projection : Data → Bool
is_projection d = on_object (after (codes "columns") (is_list is_text) (after (codes "input") (is_unsigned 32) (after (codes "node") (is_word (codes "SimpleProjection")) is_end))) d

abbrev pub is_exprs : List ℕ → Data → Bool
is_exprs kind d = on_object (after (codes "exprs") (is_list is_named) (after (codes "input") (is_unsigned 32) (after (codes "node") (is_word kind) is_end))) d

abbrev pub is_unpivot : Data → Bool
is_unpivot d = on_object (after (codes "index") (is_list is_text) (after (codes "input") (is_unsigned 32) (after (codes "node") (is_word (codes "Unpivot"))
    (after (codes "on") (is_list is_text) (after (codes "value") is_text (after (codes "variable") is_text is_end)))))) d

abbrev pub is_rename : Data → Bool
is_rename d = on_object (after (codes "input") (is_unsigned 32) (after (codes "node") (is_word (codes "Rename")) (after (codes "pairs") (is_list is_pair) is_end))) d

abbrev pub is_union : Data → Bool
is_union d = on_object (after (codes "inputs") (is_list (is_unsigned 32)) (after (codes "node") (is_word (codes "Union")) is_end)) d

abbrev pub is_join_back : Members → Bool
is_join_back ms = after (codes "right") (is_unsigned 32) (after (codes "right_on") (is_list is_expr) (after (codes "rows_left") is_hint (after (codes "rows_right") is_hint
    (after (codes "suffix") is_text is_end)))) ms

abbrev pub is_join : Data → Bool
is_join d = on_object (after (codes "coalesce") is_coalesce (after (codes "how") is_how (after (codes "join_nulls") is_truth (after (codes "left") (is_unsigned 32) (after (codes "left_on") (is_list is_expr)
    (after (codes "node") (is_word (codes "Join")) is_join_back)))))) d

abbrev pub is_sort : Data → Bool
is_sort d = on_object (after (codes "by") (is_list is_text) (after (codes "descending") (is_list is_truth) (after (codes "input") (is_unsigned 32)
    (after (codes "node") (is_word (codes "Sort")) (after (codes "nulls_last") (is_list is_truth) (after (codes "slice") (is_maybe is_slice) is_end)))))) d

-- the words under "node"
abbrev pub node_words : List (List ℕ)
node_words = codes "DataFrameScan" ∷ codes "Filter" ∷ codes "SimpleProjection" ∷ codes "Select" ∷ codes "HStack" ∷ codes "Unpivot" ∷ codes "Rename" ∷ codes "Union" ∷ codes "Join" ∷ codes "Sort" ∷ []

abbrev pub is_node_word : Option Data → Bool
is_node_word (Some d) = is_one_of node_words d
is_node_word None = false

-- ---- frames and jobs

abbrev pub are_cells_of : Option DataType → Data → Bool
are_cells_of None d = false
are_cells_of (Some t) d = is_list (is_cell t) d

abbrev pub is_column_values : Option DataType → Members → Bool
is_column_values t ms = after (codes "values") (are_cells_of t) is_end ms

abbrev pub is_column : Data → Bool
is_column d = on_object (after (codes "name") is_text (after_type (codes "type") is_column_values)) d

-- the text under a name, or none
abbrev pub text_in : Option Data → List ℕ
text_in (Some (string s)) = s
text_in _ = []

-- as many nulls as items
abbrev pub nulls_of : Items → List AnyValue
nulls_of no_items = []
nulls_of (item d ds) = cell.Null ∷ nulls_of ds

abbrev pub nulls_in : Option Data → List AnyValue
nulls_in (Some (array ds)) = nulls_of ds
nulls_in _ = []

-- the names and heights of columns
abbrev pub outline : Data → Cells
outline d = record { name = text_in (get (codes "name") d); dtype = dtype.Boolean; cells = nulls_in (get (codes "values") d) }

abbrev pub outlines_of : Items → List Cells
outlines_of no_items = []
outlines_of (item d ds) = outline d ∷ outlines_of ds

abbrev pub outlines_in : Data → List Cells
outlines_in (array ds) = outlines_of ds
outlines_in _ = []

-- whether columns of these names and heights make a frame
abbrev pub is_table : Data → Bool
is_table d = not (is_some (frame_fault (outlines_in d)))

abbrev pub is_frame : Data → Bool
is_frame d = on_object (after (codes "columns") (λ cs. is_list is_column cs && is_table cs) is_end) d
