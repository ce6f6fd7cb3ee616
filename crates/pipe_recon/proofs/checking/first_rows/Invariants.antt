use Rattle.std.proofs.Common.{◌≡◌, ◌≤◌, ℕ, List, Some, length, drop}
use Rattle.std.specs.List.{position_from}
use Rattle.pipe_recon.specs.Codes.{same_code}
use Rattle.pipe_recon.specs.FirstRows.{row_of_bytes}
use Rattle.pipe_recon.proofs.checking.first_rows.Given as goal

abbrev pub invariant-loop-i : goal.invariant-loop-i
invariant-loop-i l = record {
  inside : l.i ≤ length l.codes;
  rows : (bytes : List ℕ) → row_of_bytes l.rows bytes ≡ position_from (same_code (Some bytes)) l.i (drop l.i l.codes);
}

abbrev pub decreases-loop-i : goal.decreases-loop-i
decreases-loop-i l = l.i
