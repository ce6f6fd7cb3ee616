use Rattle.std.proofs.Common.{sym, subst}
use Rattle.pipe_optimize.specs.Noted.{AreNoted}
use Rattle.pipe_optimize.proofs.name_run.NameRun.note.Goals as goal

pub note_all-requires : goal.note_all-requires
note_all-requires c = subst (AreNoted c.self.inside.index) (sym c.as_slice.ensures.value) c.self.invariant

pub invariant_of-self : goal.invariant_of-self
invariant_of-self c = subst (AreNoted c.note_all.new.self) c.as_slice.ensures.value c.note_all.ensures
