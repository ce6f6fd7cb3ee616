-- What is left to read of standard input or a file in memory.
use Rattle.std.specs.Prelude.{ℕ, List, drop}
use Rattle.pipe_stream.specs.Memory.{source_bytes}
use Rattle.pipe_stream.specs.declared.shelf.Shelf.{Shelf}

abbrev pub left_of : Shelf → List ℕ
left_of shelf = drop shelf.at (source_bytes shelf.standard shelf.files shelf.source)
