-- Numbers that are bytes.
use Rattle.std.proofs.Common.{ℕ, List, [], ◌∷◌, ◌++◌, suc, get_or, Fits, w8, arith}
use Rattle.pipe_column.specs.Native.{IsBytes}

-- what a slice of bytes holds are bytes
pub bytes_all : (bytes : List ℕ) → ((i : ℕ) → Fits w8 (get_or bytes i 0)) → IsBytes bytes
bytes_all [] h = tt
bytes_all (byte ∷ bytes) h = ((let here = h 0 in omega arith), bytes_all bytes (λ i. h (suc i)))

pub bytes_append : (xs ys : List ℕ) → IsBytes xs → IsBytes ys → IsBytes (xs ++ ys)
bytes_append [] ys h g = g
bytes_append (x ∷ xs) ys h g = (h.0, bytes_append xs ys h.1 g)
