-- Values of fixed width: their bytes and their ranges.
use Rattle.std.specs.Prelude.{ℕ, ◌+◌, ◌%◌, ◌^◌, ◌<◌, ◌≡◌, List, [], ◌∷◌, Option, Some, None, Bool, true, false, if◌then◌else◌, length, FitsSigned, IsUtf8}
use Rattle.std.specs.Int.{w32, w64, w128, to_le_bytes, to_be_bytes, cast_unsigned}
use Rattle.std.specs.List.{AllByRecursion}
use Rattle.pipe_schema.specs.declared.any_value.AnyValue.{AnyValue}
use Rattle.pipe_schema.specs.declared.any_value.AnyValue.TheVariants as cell

-- each is a byte
abbrev pub IsBytes : List ℕ → Type 0
IsBytes bytes = AllByRecursion (λ byte. byte < 256) bytes

-- a value within the range of its type, a length being below 2 ^ 64 and a text UTF-8
abbrev pub InRange : AnyValue → Type 0
InRange cell.Null = Unit {0}
InRange (cell.Int32 x) = FitsSigned w32 x
InRange (cell.Int64 x) = FitsSigned w64 x
InRange (cell.UInt32 x) = x < 2 ^ 32
InRange (cell.UInt64 x) = x < 2 ^ 64
InRange (cell.Boolean _) = Unit {0}
InRange (cell.String text) = (length text < 2 ^ 64) × IsBytes text × IsUtf8 text
InRange (cell.Binary bytes) = (length bytes < 2 ^ 64) × IsBytes bytes
InRange (cell.Int128 x) = FitsSigned w128 x

-- whether a cell is a value of a type whose values have one width
abbrev pub has_fixed_width : AnyValue → Bool
has_fixed_width cell.Null = false
has_fixed_width (cell.Int32 _) = true
has_fixed_width (cell.Int64 _) = true
has_fixed_width (cell.UInt32 _) = true
has_fixed_width (cell.UInt64 _) = true
has_fixed_width (cell.Boolean _) = true
has_fixed_width (cell.String _) = false
has_fixed_width (cell.Binary _) = false
has_fixed_width (cell.Int128 _) = true

-- a truth value as a byte
abbrev pub truth_byte : Bool → ℕ
truth_byte b = if b then 1 else 0

-- the bytes of a value of fixed width, the lowest first; signed numbers are in two's complement
abbrev pub little_endian : AnyValue → List ℕ
little_endian cell.Null = []
little_endian (cell.Int32 x) = to_le_bytes w32 (cast_unsigned w32 x)
little_endian (cell.Int64 x) = to_le_bytes w64 (cast_unsigned w64 x)
little_endian (cell.UInt32 x) = to_le_bytes w32 x
little_endian (cell.UInt64 x) = to_le_bytes w64 x
little_endian (cell.Boolean b) = truth_byte b ∷ []
little_endian (cell.String _) = []
little_endian (cell.Binary _) = []
little_endian (cell.Int128 x) = to_le_bytes w128 (cast_unsigned w128 x)

-- a number of so many bits and one more, the top one flipped: adding that bit flips it, and the carry is dropped
abbrev pub top_flipped : ℕ → ℕ → ℕ
top_flipped low n = (n + 2 ^ low) % 2 ^ (low + 1)

-- the bytes of a value of fixed width whose order is that of the values: the highest first, and the top bit of a
-- signed number flipped
abbrev pub ordered_bytes : AnyValue → List ℕ
ordered_bytes cell.Null = []
ordered_bytes (cell.Int32 x) = to_be_bytes w32 (top_flipped 31 (cast_unsigned w32 x))
ordered_bytes (cell.Int64 x) = to_be_bytes w64 (top_flipped 63 (cast_unsigned w64 x))
ordered_bytes (cell.UInt32 x) = to_be_bytes w32 x
ordered_bytes (cell.UInt64 x) = to_be_bytes w64 x
ordered_bytes (cell.Boolean b) = truth_byte b ∷ []
ordered_bytes (cell.String _) = []
ordered_bytes (cell.Binary _) = []
ordered_bytes (cell.Int128 x) = to_be_bytes w128 (top_flipped 127 (cast_unsigned w128 x))

-- what is read of ordered bytes: the value in range whose bytes they are, or none where there is none
abbrev pub Reads : {T : Type 0} → (Option T → AnyValue) → List ℕ → Option T → Type 0
Reads cell bytes (Some x) = (ordered_bytes (cell (Some x)) ≡ bytes) × InRange (cell (Some x))
Reads {T = T} cell bytes None = (x : T) → ordered_bytes (cell (Some x)) ≡ bytes → ⊥
