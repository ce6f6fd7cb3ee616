use Rattle.std.proofs.Common.{rules}
use Rattle.pipe_stream.proofs.HandLemmas.{begins, gives_even, gives_odd}
use Rattle.pipe_stream.proofs.stream.stream_blocks.Goals as goal

pub ruled-requires-clause-rule : goal.ruled-requires-clause-rule
ruled-requires-clause-rule g c = begins _ _

pub another-even_seat-requires-clause-rule : goal.another-even_seat-requires-clause-rule
another-even_seat-requires-clause-rule g c = gives_even _ _ (search rules) (search rules)

pub another-odd_seat-requires-clause-rule : goal.another-odd_seat-requires-clause-rule
another-odd_seat-requires-clause-rule g c = gives_odd _ _ (search rules) (search rules)
