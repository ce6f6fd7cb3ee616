use Rattle.std.proofs.Common.{◌≡◌, drop}
use Rattle.pipe_rows.specs.Fnv.{fnv_after, fnv1a}
use Rattle.pipe_rows.proofs.hasher.FnvKeyHasher.hash.Given as goal

abbrev pub invariant-loop-byte : goal.invariant-loop-byte
invariant-loop-byte l = fnv_after l.hash (drop l.byte-index l.key) ≡ fnv1a l.key
