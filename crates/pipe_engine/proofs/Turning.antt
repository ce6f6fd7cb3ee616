-- A sort's rows are the source of what waits behind it.
use Rattle.std.proofs.Common.{◌≡◌, ℕ, List, [], ◌∷◌, ◌++◌, length, Option, Some, true, refl, sym, ap, subst, ◌∙◌, append-nil}
use Rattle.std.specs.Global.{Vec}
use Rattle.std.specs.Prelude.{IfOk, Result, Ok, Err}
use Rattle.pipe_frame.specs.Frame.{Table}
use Rattle.pipe_ops.specs.Batches.{Left}
use Rattle.pipe_events.specs.Worlds.{Event}
use Rattle.pipe_ops.specs.declared.sink.FinalizedSink.{FinalizedSink}
use Rattle.pipe_ops.specs.declared.sink.FinalizedSink.TheVariants.{Finished, Operator, Source}
use Rattle.pipe_source.specs.Supplies.{left_of}
use Rattle.pipe_source.specs.declared.phys_source.PhysSource.{PhysSource}
use Rattle.pipe_driver.specs.declared.branch.SinkAt.{SinkAt}
use Rattle.pipe_driver.specs.declared.branch.SinkAt.TheVariants as at
use Rattle.pipe_driver.specs.Meaning.{Meaning}
use Rattle.pipe_driver.specs.Ways.{IsSinkOf, IsSoundMeaning}
use Rattle.pipe_driver.specs.Tables.{number_at}
use Rattle.pipe_driver.specs.Runner.{Finalizes}
use Rattle.pipe_driver.specs.Lines.{Task}
use Rattle.pipe_driver.specs.Runs.{node_of, Unparks, Feeds, sink_of}
use Rattle.pipe_driver.specs.declared.error.RunError.{RunError}
use Rattle.pipe_driver.proofs.Drives.{run_with}
use Rattle.pipe_driver.proofs.Flowing.{same_many}
use Rattle.pipe_run.specs.Rounds.{left_rows}
use Rattle.pipe_run.specs.NotedRounds.{AreSupplied}
use Rattle.pipe_slots.specs.declared.phys_sink.PhysSink.{PhysSink}
use Rattle.pipe_slots.specs.declared.phys_sink.PhysSink.TheVariants.{Ordered, Sort, Build, Cross}
use Rattle.pipe_driver.specs.Written.{closing}
use Rattle.pipe_engine.specs.Drives.{Line, LineRun}
use Rattle.pipe_engine.specs.Engine.{Brings, engine_words}
use Rattle.pipe_engine.specs.Finished.{MayFinishSink, EndedAs}
use Rattle.pipe_engine.specs.Journals.{EndsAsOne}
use Rattle.pipe_engine.specs.Noted.{Staging, IsStagingOf, IsSupplied, IsOneFrame, NotedBefore, NotedFed}
use Rattle.pipe_engine.specs.Stands.{Settings}
use Rattle.pipe_engine.specs.declared.engine.Engine.{Engine}
use Rattle.pipe_engine.specs.declared.part.Part.{Part}
use Rattle.pipe_engine.proofs.Closings.{done_with}
use Rattle.pipe_engine.proofs.Noted.{noted_resumed}

ended_one : {H : Type 0} (x : Settings H) (old new : Engine H) (a : SinkAt) (sink : PhysSink H) (whole : Option Table) (r : FinalizedSink (Unit {0}) PhysSource) → EndedAs x old new a sink whole r → EndsAsOne r
ended_one x old new a (Ordered s) whole (Finished frame) ended = tt
ended_one x old new a (Ordered s) whole (Operator built) ended = tt
ended_one x old new a (Ordered s) whole (Source source) ended = absurd ended.0
ended_one x old new a (Sort s) whole (Finished frame) ended = tt
ended_one x old new a (Sort s) whole (Operator built) ended = tt
ended_one x old new a (Sort s) whole (Source source) ended = record { left = record { from = 0; schema = s.settings.schema; rows = ended.0.made }; is = ap left_of ended.0.source_is; whole = refl }
ended_one x old new a (Build b) whole (Finished frame) ended = tt
ended_one x old new a (Build b) whole (Operator built) ended = tt
ended_one x old new a (Build b) whole (Source source) ended = absurd ended
ended_one x old new a (Cross c) whole (Finished frame) ended = tt
ended_one x old new a (Cross c) whole (Operator built) ended = tt
ended_one x old new a (Cross c) whole (Source source) ended = absurd ended

-- a sort ends as one frame
pub one_after : {H : Type 0} (x : Settings H) (old new : Engine H) (a : SinkAt) (sink : PhysSink H) (whole : Option Table) (r : Result (FinalizedSink (Unit {0}) PhysSource) RunError) → MayFinishSink x old a sink whole
    → IfOk r (λ z. (y : Settings H) → MayFinishSink y old a sink whole → EndedAs y old new a sink whole z) → IfOk r EndsAsOne
one_after x old new a sink whole (Ok z) may ended = ended_one x old new a sink whole z (ended x may)
one_after x old new a sink whole (Err e) may ended = tt

-- its source has all rows of the sort
one_supplied : {H : Type 0} (x : Settings H) (m : Meaning) (workers n : ℕ) (v : Staging) (source : PhysSource) → IsStagingOf x m workers v → m.is_sort n ≡ true → Brings source x m n → IsOneFrame source → IsSupplied v m n (Some source)
one_supplied x m workers n v source staging sort brings one =
    let own = staging.sorts n sort in
    let rows : left_rows (left_of source) ≡ one.left.rows = ap left_rows one.is ∙ append-nil one.left.rows in
    let long : length one.left.rows ≡ length (m.rows n) = sym (ap length rows) ∙ same_many (left_rows (left_of source)) (m.rows n) brings.rows in
    let N : List ℕ → Type 0 = λ ns. AreSupplied v.stages ns (left_of source) in
    let S : List Left → Type 0 = AreSupplied v.stages (n ∷ []) in
    subst N (sym own.held) (subst S (sym one.is) (one.whole, long ∙ sym own.many, tt))

-- only a sort ends as a source, and what waited for it goes on
pub noted_sort : {H : Type 0} (hash_of : H → List ℕ → ℕ) (x : Settings H) (k : Task) (v : Staging) (workers : ℕ) (old : LineRun H) (runner : Engine H) (parked : Vec (Line H)) (a : SinkAt) (count : ℕ) (source : PhysSource) (q : Line H) (todo : List (Line H)) (events : List Event)
    → IsStagingOf x k.m workers v → IsSoundMeaning k.m → Feeds (engine_words hash_of x) k old a todo → number_at old.counts.left.items count ≡ 0 → IsSinkOf k.m (sink_of k a) a → count ≡ k.number (sink_of k a)
    → Finalizes (engine_words hash_of x).brings a ((engine_words hash_of x).fits old.runner) ((engine_words hash_of x).fits runner) (Source source) → IsOneFrame source
    → Unparks (node_of a) q old.parked.items parked.items → NotedFed v k old a todo events
    → NotedBefore v k (run_with runner parked old.counts old.probers) (record { start = q.start; source = Some source; legs = q.legs }) todo (events ++ closing a)
noted_sort hash_of x k v workers old runner parked at.Ordered count source q todo events staging sound is none sink number did one out noted = absurd (done_with (engine_words hash_of x) k old runner at.Ordered count (Source source) todo is none sink number did).is.ends
noted_sort hash_of x k v workers old runner parked (at.Build n) count source q todo events staging sound is none sink number did one out noted = absurd (done_with (engine_words hash_of x) k old runner (at.Build n) count (Source source) todo is none sink number did).is.ends
noted_sort hash_of x k v workers old runner parked (at.Sort n) count source q todo events staging sound is none sink number did one out noted =
    let d = done_with (engine_words hash_of x) k old runner (at.Sort n) count (Source source) todo is none sink number did in
    noted_resumed (engine_words hash_of x) k v old runner parked n count source q todo events staging.board is none sink number out (one_supplied x k.m workers n v source staging sink.1 d.is.ends.0 one) noted
