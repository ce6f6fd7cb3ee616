-- Numbers below 0.
use Rattle.std.proofs.Common.{◌≡◌, ℤ, pos, negsuc, refl}
use Rattle.serde_json.specs.Data.{number, negative}
use Rattle.serde_json.specs.Find.{of_integer}
use Rattle.pipe_view.specs.RawSpelling.{IsBelowZero}

pub negative_is : (z : ℤ) → IsBelowZero z → number (of_integer z) ≡ number (negative z)
negative_is (pos n) h = absurd h
negative_is (negsuc n) h = refl
