-- FNV-1a on 64 bits (G. Fowler, L. C. Noll, K.-P. Vo, D. Eastlake: The FNV Non-Cryptographic Hash Algorithm).
use Rattle.std.specs.Prelude.{ℕ, ◌*◌, ◌%◌, ◌^◌, List, [], ◌∷◌, bit_xor}

-- the hash of no byte
abbrev pub offset_basis : ℕ
offset_basis = 14695981039346656037

abbrev pub fnv_prime : ℕ
fnv_prime = 1099511628211

-- a byte comes in: xor first, then the multiplication
abbrev pub fnv_step : ℕ → ℕ → ℕ
fnv_step hash byte = bit_xor hash byte * fnv_prime % 2 ^ 64

-- the hash after some more bytes
abbrev pub fnv_after : ℕ → List ℕ → ℕ
fnv_after hash [] = hash
fnv_after hash (byte ∷ bytes) = fnv_after (fnv_step hash byte) bytes

-- the hash of some bytes
abbrev pub fnv1a : List ℕ → ℕ
fnv1a bytes = fnv_after offset_basis bytes
