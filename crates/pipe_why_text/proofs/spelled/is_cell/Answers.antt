use Rattle.std.proofs.Common.{◌≡◌, ◌<◌, ◌^◌, ℕ, ℤ}
use Rattle.std.specs.Prelude.{⊤, FitsSigned}
use Rattle.std.specs.Int.{w32, w64, w128}
use Rattle.hex.specs.Hex.{IsBytes}
use Rattle.serde_json.specs.Data.{boolean, number, unsigned, string}
use Rattle.serde_json.specs.Find.{of_integer}
use Rattle.pipe_job.specs.Shape.{is_decimal, is_hex, is_signed, is_text, is_truth, is_unsigned}
use Rattle.pipe_job.specs.Spelling.{decimal_spelling, hex_spelling}
use Rattle.pipe_why_text.proofs.Shapes.{bytes, decimals, maybes, signed32, signed64, texts, truths, unsigned32, unsigned64}
use Rattle.pipe_why_text.proofs.spelled.is_cell.Goals as goal

pub is_read-requires : goal.is_read-requires
is_read-requires c = maybes (is_signed 31) (λ (z : ℤ). number (of_integer z)) (FitsSigned w32) signed32

pub is_read-requires-in-Int64 : goal.is_read-requires-in-Int64
is_read-requires-in-Int64 c = maybes (is_signed 63) (λ (z : ℤ). number (of_integer z)) (FitsSigned w64) signed64

pub is_read-requires-in-UInt32 : goal.is_read-requires-in-UInt32
is_read-requires-in-UInt32 c = maybes (is_unsigned 32) (λ (n : ℕ). number (unsigned n)) (λ n. n < 2 ^ 32) unsigned32

pub is_read-requires-in-UInt64 : goal.is_read-requires-in-UInt64
is_read-requires-in-UInt64 c = maybes (is_unsigned 64) (λ (n : ℕ). number (unsigned n)) (λ n. n < 2 ^ 64) unsigned64

pub is_read-requires-in-Boolean : goal.is_read-requires-in-Boolean
is_read-requires-in-Boolean c = maybes is_truth boolean (λ b. ⊤) truths

pub is_read-requires-in-String : goal.is_read-requires-in-String
is_read-requires-in-String c = maybes is_text string (λ s. ⊤) texts

pub is_read-requires-in-Binary : goal.is_read-requires-in-Binary
is_read-requires-in-Binary c = maybes is_hex hex_spelling IsBytes bytes

pub is_read-requires-in-Int128 : goal.is_read-requires-in-Int128
is_read-requires-in-Int128 c = maybes is_decimal decimal_spelling (FitsSigned w128) decimals
