use Rattle.std.proofs.Common.{◌≡◌, ◌≤◌, ◌+◌, drop}
use Rattle.std.specs.List.{count_by}
use Rattle.pipe_recon.specs.ReconLines.{is_matched, is_only}
use Rattle.pipe_recon.proofs.lines.count_classes.Given as goal

abbrev pub invariant-loop-class : goal.invariant-loop-class
invariant-loop-class l =
    (l.matched + count_by is_matched (drop l.class-index l.classes) ≡ count_by is_matched l.classes)
    × (l.only + count_by is_only (drop l.class-index l.classes) ≡ count_by is_only l.classes)
    × (l.matched ≤ l.class-index) × (l.only ≤ l.class-index)
