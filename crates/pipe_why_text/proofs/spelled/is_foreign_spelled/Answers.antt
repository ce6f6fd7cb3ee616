use Rattle.std.proofs.Common.{◌≡◌}
use Rattle.pipe_why_text.proofs.Shapes.{nodes}
use Rattle.pipe_why_text.proofs.spelled.is_foreign_spelled.Goals as goal

pub is_read-requires : goal.is_read-requires
is_read-requires c = nodes
