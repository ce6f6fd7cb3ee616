use Rattle.std.proofs.Common.{◌≡◌, ◌<◌, ◌^◌, ℕ, ℤ}
use Rattle.std.specs.Prelude.{⊤, FitsSigned}
use Rattle.std.specs.Int.{w32, w64, w128}
use Rattle.hex.specs.Hex.{IsBytes}
use Rattle.serde_json.specs.Data.{boolean, number, unsigned, string}
use Rattle.serde_json.specs.Find.{of_integer}
use Rattle.pipe_job.specs.Shape.{is_decimal, is_hex, is_maybe, is_signed, is_text, is_truth, is_unsigned}
use Rattle.pipe_job.specs.Spelling.{MaybeFits, decimal_spelling, hex_spelling, maybe}
use Rattle.pipe_why_text.proofs.Shapes.{bytes, decimals, lists, maybes, signed32, signed64, texts, truths, unsigned32, unsigned64}
use Rattle.pipe_why_text.proofs.spelled.are_cells.Goals as goal

pub is_read-requires : goal.is_read-requires
is_read-requires c = lists (is_maybe (is_signed 31)) (maybe (λ (z : ℤ). number (of_integer z))) (MaybeFits (FitsSigned w32)) (maybes (is_signed 31) (λ (z : ℤ). number (of_integer z)) (FitsSigned w32) signed32)

pub is_read-requires-in-Int64 : goal.is_read-requires-in-Int64
is_read-requires-in-Int64 c = lists (is_maybe (is_signed 63)) (maybe (λ (z : ℤ). number (of_integer z))) (MaybeFits (FitsSigned w64)) (maybes (is_signed 63) (λ (z : ℤ). number (of_integer z)) (FitsSigned w64) signed64)

pub is_read-requires-in-UInt32 : goal.is_read-requires-in-UInt32
is_read-requires-in-UInt32 c = lists (is_maybe (is_unsigned 32)) (maybe (λ (n : ℕ). number (unsigned n))) (MaybeFits (λ n. n < 2 ^ 32)) (maybes (is_unsigned 32) (λ (n : ℕ). number (unsigned n)) (λ n. n < 2 ^ 32) unsigned32)

pub is_read-requires-in-UInt64 : goal.is_read-requires-in-UInt64
is_read-requires-in-UInt64 c = lists (is_maybe (is_unsigned 64)) (maybe (λ (n : ℕ). number (unsigned n))) (MaybeFits (λ n. n < 2 ^ 64)) (maybes (is_unsigned 64) (λ (n : ℕ). number (unsigned n)) (λ n. n < 2 ^ 64) unsigned64)

pub is_read-requires-in-Boolean : goal.is_read-requires-in-Boolean
is_read-requires-in-Boolean c = lists (is_maybe is_truth) (maybe boolean) (MaybeFits (λ b. ⊤)) (maybes is_truth boolean (λ b. ⊤) truths)

pub is_read-requires-in-String : goal.is_read-requires-in-String
is_read-requires-in-String c = lists (is_maybe is_text) (maybe string) (MaybeFits (λ s. ⊤)) (maybes is_text string (λ s. ⊤) texts)

pub is_read-requires-in-Binary : goal.is_read-requires-in-Binary
is_read-requires-in-Binary c = lists (is_maybe is_hex) (maybe hex_spelling) (MaybeFits IsBytes) (maybes is_hex hex_spelling IsBytes bytes)

pub is_read-requires-in-Int128 : goal.is_read-requires-in-Int128
is_read-requires-in-Int128 c = lists (is_maybe is_decimal) (maybe decimal_spelling) (MaybeFits (FitsSigned w128)) (maybes is_decimal decimal_spelling (FitsSigned w128) decimals)
