-- How often a stop check was asked, and how often it said yes.
use Rattle.std.proofs.Common.{◌≡◌, ℕ, ◌+◌, inl, inr, Bool, true, false, if◌then◌else◌, arith}
use Rattle.pipe_schema.specs.Counts.{last_count, counted, Counts}

counts-pick : (t : Bool) (n k a b c : ℕ) → Counts n a b → c ≡ (if t then last_count else (b + k)) → Counts (n + k) a c
counts-pick true n k a b c known e = inr (omega (arith, e))
counts-pick false n k a b c known e = elim known [ inl p ↦ inl (omega (arith, p, e)) | inr q ↦ inr (omega (arith, q, e)) ]

-- so many times more
pub counts-next : (n k a b c : ℕ) → Counts n a b → c ≡ counted k b → Counts (n + k) a c
counts-next n k a b c known e = counts-pick _ n k a b c known e

pub counts-none : (a : ℕ) → Counts 0 a a
counts-none a = inl (omega arith)
