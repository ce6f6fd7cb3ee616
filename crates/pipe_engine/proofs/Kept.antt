-- What the engine has, whatever stands in its journal.
use Rattle.std.proofs.Common.{◌≡◌, ℕ, List, refl, ap, ◌∙◌, Option}
use Rattle.std.specs.Global.{Vec}
use Rattle.std.specs.Prelude.{OnOk, IfOk, Result, Ok, Err}
use Rattle.pipe_events.specs.declared.event.Event.{Event}
use Rattle.pipe_frame.specs.Frame.{Table}
use Rattle.pipe_ops.specs.declared.sink.FinalizedSink.{FinalizedSink}
use Rattle.pipe_ops.specs.declared.sink.FinalizedSink.TheVariants.{Finished, Operator, Source}
use Rattle.pipe_source.specs.declared.phys_source.PhysSource.{PhysSource}
use Rattle.pipe_driver.specs.declared.branch.SinkAt.{SinkAt}
use Rattle.pipe_driver.specs.Meaning.{Meaning}
use Rattle.pipe_driver.specs.State.{World}
use Rattle.pipe_driver.specs.Runner.{Finalizes}
use Rattle.pipe_driver.specs.declared.error.RunError.{RunError}
use Rattle.pipe_slots.specs.declared.phys_sink.PhysSink.{PhysSink}
use Rattle.pipe_slots.specs.declared.phys_sink.PhysSink.TheVariants.{Ordered, Sort, Build, Cross}
use Rattle.pipe_engine.specs.Engine.{brings_of, Fits}
use Rattle.pipe_engine.specs.Finished.{MayFinishSink, EndedAs}
use Rattle.pipe_engine.specs.Stands.{Settings}
use Rattle.pipe_engine.specs.declared.engine.Engine.{Engine}

abbrev pub with_journal : {H : Type 0} → Engine H → Vec Event → Engine H
with_journal e journal = record e { journal = journal }

pub journal_fits : {H : Type 0} (hash_of : H → List ℕ → ℕ) (x : Settings H) (m : Meaning) (w : World) (e : Engine H) (journal : Vec Event) → Fits hash_of e x m w → Fits hash_of (with_journal e journal) x m w
journal_fits hash_of x m w e journal fits = record {
  sound = fits.sound;
  parts = fits.parts;
  some = fits.some;
  few = fits.few;
  ordered = fits.ordered;
  nodes = fits.nodes;
  seated = fits.seated;
  workers = fits.workers;
  places = fits.places;
  given = fits.given;
  counted = fits.counted;
  sinks = fits.sinks;
  kept = fits.kept;
  slots = fits.slots;
  rest = fits.rest;
  enough = fits.enough;
  taken = fits.taken;
  leg = fits.leg;
}

pub finalizes_on : {H : Type 0} (hash_of : H → List ℕ → ℕ) (x : Settings H) (at : SinkAt) (old new : Engine H) (journal : Vec Event) (r : FinalizedSink (Unit {0}) PhysSource)
    → Finalizes (brings_of x) at (Fits hash_of old x) (Fits hash_of new x) r → Finalizes (brings_of x) at (Fits hash_of old x) (Fits hash_of (with_journal new journal) x) r
finalizes_on hash_of x at old new journal r did m w fits sink rows waits =
    let b = did m w fits sink rows waits in
    record { new = b.new; fit = journal_fits hash_of x m b.new new journal b.fit; is = b.is }

ended_journal : {H : Type 0} (x : Settings H) (old new : Engine H) (a : SinkAt) (sink : PhysSink H) (whole : Option Table) (r : FinalizedSink (Unit {0}) PhysSource) → EndedAs x old new a sink whole r → new.journal ≡ old.journal
ended_journal x old new a (Ordered s) whole (Finished frame) ended = ap (λ e. e.journal) ended.1
ended_journal x old new a (Ordered s) whole (Operator built) ended = absurd ended.0
ended_journal x old new a (Ordered s) whole (Source source) ended = absurd ended.0
ended_journal x old new a (Sort s) whole (Finished frame) ended = absurd ended.0
ended_journal x old new a (Sort s) whole (Operator built) ended = absurd ended.0
ended_journal x old new a (Sort s) whole (Source source) ended = ap (λ e. e.journal) ended.1
ended_journal x old new a (Build b) whole (Finished frame) ended = absurd ended
ended_journal x old new a (Build b) whole (Operator built) ended = ap (λ e. e.journal) ended.same
ended_journal x old new a (Build b) whole (Source source) ended = absurd ended
ended_journal x old new a (Cross c) whole (Finished frame) ended = absurd ended
ended_journal x old new a (Cross c) whole (Operator built) ended = ap (λ e. e.journal) ended.same
ended_journal x old new a (Cross c) whole (Source source) ended = absurd ended

-- a sink that is finished leaves the journal as it is
pub journal_after : {H : Type 0} (x : Settings H) (old new : Engine H) (a : SinkAt) (sink : PhysSink H) (whole : Option Table) (r : Result (FinalizedSink (Unit {0}) PhysSource) RunError) → MayFinishSink x old a sink whole
    → IfOk r (λ z. (y : Settings H) → MayFinishSink y old a sink whole → EndedAs y old new a sink whole z) → OnOk r (new.journal ≡ old.journal)
journal_after x old new a sink whole (Ok z) may ended = ended_journal x old new a sink whole z (ended x may)
journal_after x old new a sink whole (Err e) may ended = tt
