-- How many rows a chunk should have, by its columns and the number of workers.
use Rattle.std.specs.Prelude.{ℕ, ◌*◌, ◌/◌, max}

abbrev pub chunk_size : (columns workers : ℕ) → ℕ
chunk_size columns workers = max 1000 ((50000 / max columns 1) * max (12 / workers) 1)
