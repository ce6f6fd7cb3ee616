use Rattle.std.proofs.Common.{◌≡◌, map, take}
use Rattle.pipe_recon.specs.Codes.{encoded_code}
use Rattle.pipe_recon.proofs.codes.codes_of_keys.Given as goal

abbrev pub invariant-loop-i : goal.invariant-loop-i
invariant-loop-i l = l.codes ≡ map (encoded_code l.join_nulls) (take l.i l.keys)
