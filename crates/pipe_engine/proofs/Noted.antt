-- The journal of a run, step by step of the driver: what was written is noted beside the legs that are left.
use Rattle.std.proofs.Common.{◌≡◌, ℕ, zero, suc, ◌+◌, ◌<◌, ◌⊎◌, inl, inr, List, [], ◌∷◌, ◌++◌, map, Option, Some, refl, sym, ap, subst, ◌∙◌, arith}
use Rattle.std.specs.Global.{Vec}
use Rattle.pipe_events.specs.Worlds.{Event}
use Rattle.pipe_driver.specs.declared.branch.SinkAt.{SinkAt}
use Rattle.pipe_driver.specs.declared.branch.SinkAt.TheVariants as at
use Rattle.std.specs.List.{AllByRecursion}
use Rattle.pipe_driver.specs.Legs.{Way, sink_node}
use Rattle.pipe_driver.specs.Meaning.{Meaning}
use Rattle.pipe_driver.specs.Ways.{MayGoOn, IsSinkOf, IsSoundMeaning}
use Rattle.pipe_driver.proofs.Tests.{all-append}
use Rattle.pipe_driver.specs.declared.pipe_line.Leg.{Leg}
use Rattle.pipe_driver.specs.declared.run.Fed.{Fed}
use Rattle.pipe_driver.specs.declared.sink_counts.SinkCounts.{SinkCounts}
use Rattle.pipe_driver.specs.Words.{RunnerWords}
use Rattle.pipe_driver.specs.Tables.{number_at}
use Rattle.pipe_driver.specs.State.{IsBetween, HasTail, IsTail, IsLowered, nothing}
use Rattle.pipe_driver.specs.Lines.{Task, leg_as, way_as, ways_as, counts_as}
use Rattle.pipe_driver.specs.Runs.{node_of, IsRest, Parks, Unparks, parked_ways, Between, Ready, Passes, Feeds, sink_of, HasRun}
use Rattle.pipe_driver.proofs.Begins.{over}
use Rattle.pipe_driver.proofs.Drives.{run_with, ways_append, Lowered, chosen, other}
use Rattle.pipe_driver.proofs.LegPasses.{leg_there}
use Rattle.pipe_driver.specs.Boards.{IsBoard, held_at}
use Rattle.pipe_driver.specs.JournalLaws.{IsWhole}
use Rattle.pipe_driver.specs.Recorded.{IsNoted}
use Rattle.pipe_driver.specs.Written.{IsLegOf, IsEndOf, closing}
use Rattle.pipe_driver.proofs.Closes.{closes}
use Rattle.pipe_driver.proofs.Ends.{end_noted}
use Rattle.pipe_driver.proofs.Legs.{leg_noted}
use Rattle.pipe_driver.proofs.Sinks.{begin_noted, feed_noted, leave_noted, open_noted, way_noted}
use Rattle.pipe_driver.proofs.AllRun.{whole}
use Rattle.pipe_source.specs.declared.phys_source.PhysSource.{PhysSource}
use Rattle.pipe_engine.specs.Drives.{Line, LineRun}
use Rattle.pipe_engine.specs.Noted.{Staging, board_in, AreTold, IsTold, IsSupplied, IsListed, NotedBetween, NotedBefore, NotedFed}
use Rattle.pipe_engine.specs.declared.engine.Engine.{Engine}
use Rattle.pipe_engine.specs.declared.part.Part.{Part}
use Rattle.pipe_engine.proofs.Closings.{takes_as, all_front, all_back}
use Rattle.pipe_engine.proofs.Feeds.{sink_some, sink_lowered}

-- ---- counts and tails, as the driver's laws want them

lowered_at : (n left : ℕ) (old new : List ℕ) → Lowered n left old new → IsLowered n (number_at old) (number_at new) × (number_at new n ≡ left)
lowered_at n left old new low =
    let at_n = chosen n n (number_at new n) left (number_at old n) (low.all n) refl in
    (record { here = low.here ∙ ap (λ x. x + 1) (sym at_n); others = λ j ne. other j n (number_at new j) left (number_at old j) (low.all j) ne }, at_n)

tail_rest : {H : Type 0} (o n : ℕ) (legs : List (Leg (Part H))) (tails : List (Line H)) → IsRest n legs tails → IsTail n (map (leg_as o) legs) (ways_as o tails)
tail_rest o n [] tails is = ap (ways_as o) is
tail_rest o n (leg ∷ legs) tails is = (way_as o is.0, is.1, ap (map (leg_as o)) is.2, ap (ways_as o) is.3)

tail_parks : {H : Type 0} (o n : ℕ) (legs : List (Leg (Part H))) (old new : List (Line H)) → Parks n legs old new → HasTail n (map (leg_as o) legs) (ways_as o old) (ways_as o new)
tail_parks o n legs old new parks = record {
  tails = ways_as o parks.tails;
  is = ap (ways_as o) parks.is ∙ ways_append o old parks.tails;
  tail = tail_rest o n legs parks.tails parks.rest;
}

-- only behind a sort something waits
tail_behind : {H : Type 0} (m : Meaning) (a : SinkAt) (legs : List (Leg (Part H))) (old new : List (Line H)) → IsSoundMeaning m → MayGoOn m (sink_node m.ordered a) (map (leg_as m.ordered) legs) → Parks (node_of a) legs old new → HasTail (sink_node m.ordered a) (map (leg_as m.ordered) legs) (ways_as m.ordered old) (ways_as m.ordered new)
tail_behind m (at.Sort n) legs old new sound on parks = tail_parks m.ordered n legs old new parks
tail_behind m (at.Build n) legs old new sound on parks = tail_parks m.ordered n legs old new parks
tail_behind m at.Ordered [] old new sound on parks = record { tails = ways_as m.ordered parks.tails; is = ap (ways_as m.ordered) parks.is ∙ ways_append m.ordered old parks.tails; tail = ap (ways_as m.ordered) parks.rest }
tail_behind m at.Ordered (leg ∷ legs) old new sound on parks = absurd (let l = sound.low_sort m.ordered on in omega arith)

-- ---- what pipelines take

rest_told : {H : Type 0} (v : Staging) (m : Meaning) (n : ℕ) (legs : List (Leg (Part H))) (tails : List (Line H)) → IsRest n legs tails → AreTold v m n legs → AllByRecursion (IsTold v m) tails
rest_told v m n [] tails is told = let Q : List (Line _) → Type 0 = AllByRecursion (IsTold v m) in subst Q (sym is) tt
rest_told v m n (leg ∷ legs) tails is told =
    let Q : List (Line _) → Type 0 = AllByRecursion (IsTold v m) in
    let T : List (Leg _) → Type 0 = AreTold v m n in
    let N : ℕ → Type 0 = λ i. AreTold v m i is.0.legs.items in
    subst Q (sym is.3) (subst N (sym is.1) (subst T (sym is.2) told), tt)

-- only behind a sort something waits, and it begins there
told_at : {H : Type 0} (v : Staging) (m : Meaning) (a : SinkAt) (legs : List (Leg (Part H))) → IsSoundMeaning m → MayGoOn m (sink_node m.ordered a) (map (leg_as m.ordered) legs) → AreTold v m (sink_node m.ordered a) legs → AreTold v m (node_of a) legs
told_at v m (at.Sort n) legs sound on told = told
told_at v m (at.Build n) legs sound on told = told
told_at v m at.Ordered [] sound on told = tt
told_at v m at.Ordered (leg ∷ legs) sound on told = absurd (let l = sound.low_sort m.ordered on in omega arith)

parks_told : {H : Type 0} (v : Staging) (m : Meaning) (a : SinkAt) (legs : List (Leg (Part H))) (old new : List (Line H)) → IsSoundMeaning m → MayGoOn m (sink_node m.ordered a) (map (leg_as m.ordered) legs) → Parks (node_of a) legs old new
    → AllByRecursion (IsTold v m) old → AreTold v m (sink_node m.ordered a) legs → AllByRecursion (IsTold v m) new
parks_told v m a legs old new sound on parks olds told =
    let Q : List (Line _) → Type 0 = AllByRecursion (IsTold v m) in
    subst Q (sym parks.is) (all-append (IsTold v m) old parks.tails olds (rest_told v m (node_of a) legs parks.tails parks.rest (told_at v m a legs sound on told)))

-- what its first leg is told, and its source
pub told_first : {H : Type 0} (v : Staging) (m : Meaning) (p : Line H) (leg : Leg (Part H)) (legs : List (Leg (Part H))) (source : PhysSource) → p.source ≡ Some source → p.legs.items ≡ leg ∷ legs → IsListed v m p
    → (leg.part.scans.items ≡ held_at (board_in m v) p.start) × IsSupplied v m p.start (Some source) × AreTold v m (sink_node m.ordered leg.at) legs
told_first v m p leg legs source is first listed =
    let T : List (Leg _) → Type 0 = AreTold v m p.start in
    let told : AreTold v m p.start (leg ∷ legs) = subst T first listed.told in
    let V : Option PhysSource → Type 0 = IsSupplied v m p.start in
    (told.0, subst V is listed.supplied, told.1)

module _ {H : Type 0} (r : RunnerWords (Engine H) PhysSource (Part H)) (k : Task) (v : Staging) where
  -- ---- a leg

  -- its rows have come to its sink
  pub noted_led : (p : Line H) (old : LineRun H) (runner : Engine H) (parked : Vec (Line H)) (todo : List (Line H)) (leg : Leg (Part H)) (legs : List (Leg (Part H))) (events more : List Event)
      → IsSoundMeaning k.m → IsBoard (board_in k.m v) → Ready r k old p todo → p.legs.items ≡ leg ∷ legs → Parks (node_of leg.at) legs old.parked.items parked.items → NotedBefore v k old p todo events → IsLegOf (board_in k.m v) p.start more
      → NotedBetween v k (run_with runner parked old.counts old.probers) todo (events ++ more)
  noted_led p old runner parked todo leg legs events more sound board ready first parks noted wrote =
      let m = k.m in
      let o = m.ordered in
      let spec_leg = leg_as o leg in
      let spec_legs = map (leg_as o) legs in
      let firsts : (way_as o p).legs ≡ spec_leg ∷ spec_legs = ap (map (leg_as o)) first in
      let are = leg_there m ready.w (counts_as k old) (way_as o p) spec_leg spec_legs (parked_ways k old) (ways_as o todo) ready.ready firsts in
      let tail = tail_behind m leg.at legs old.parked.items parked.items sound are.0.on parks in
      let T : List (Leg (Part H)) → Type 0 = AreTold v m p.start in
      let told : AreTold v m p.start (leg ∷ legs) = subst T first noted.line.told in
      record {
        noted = leg_noted (board_in m v) ready.w (counts_as k old) (way_as o p) spec_leg spec_legs (parked_ways k old) (ways_as o parked.items) (ways_as o todo) events more board ready.ready noted.sorted firsts tail noted.noted wrote;
        listed = record { parked = parks_told v m leg.at legs old.parked.items parked.items sound are.0.on parks noted.listed.parked told.1; todo = noted.listed.todo };
      }

  zero_or : (n : ℕ) → (n ≡ 0) ⊎ (0 < n)
  zero_or zero = inl refl
  zero_or (suc n) = inr (omega arith)

  -- it leaves a node that others go through
  pub noted_left : (old : LineRun H) (runner : Engine H) (probers : SinkCounts) (op left : ℕ) (todo : List (Line H)) (events : List Event) → Lowered op left old.probers.left.items probers.left.items → (left ≡ 0 → ⊥)
      → NotedBetween v k old todo events → NotedBetween v k (run_with runner old.parked old.counts probers) todo events
  noted_left old runner probers op left todo events low some noted =
      let l = lowered_at op left old.probers.left.items probers.left.items low in
      let positive : 0 < number_at probers.left.items op = elim (zero_or left) [ inl z ↦ absurd (some z) | inr p ↦ (let e = l.1 in omega arith) ] in
      record { noted = leave_noted (board_in k.m v) (counts_as k old) (number_at probers.left.items) op (parked_ways k old) (ways_as k.m.ordered todo) events l.0 positive noted.noted; listed = noted.listed }

  -- the last one leaves it
  pub noted_ended : (old : LineRun H) (runner : Engine H) (probers : SinkCounts) (op left : ℕ) (now : List ℕ) (at : SinkAt) (todo : List (Line H)) (events more : List Event) → IsBoard (board_in k.m v) → Passes r k old (op ∷ now) at todo
      → Lowered op left old.probers.left.items probers.left.items → left ≡ 0 → NotedBetween v k old todo events → IsEndOf (board_in k.m v) op more → NotedBetween v k (run_with runner old.parked old.counts probers) todo (events ++ more)
  noted_ended old runner probers op left now at todo events more board is low none noted wrote =
      let l = lowered_at op left old.probers.left.items probers.left.items low in
      record { noted = end_noted (board_in k.m v) is.w (counts_as k old) (number_at probers.left.items) op now (sink_of k at) (parked_ways k old) (ways_as k.m.ordered todo) events more board is.passing l.0 (let e = l.1 in omega arith) noted.noted wrote; listed = noted.listed }

  -- it is counted at its sink
  pub noted_fed : (mid : LineRun H) (runner : Engine H) (counts : SinkCounts) (todo : List (Line H)) (at : SinkAt) (count left : ℕ) (events : List Event) → Passes r k mid [] at todo → count ≡ k.number (sink_of k at)
      → Lowered count left mid.counts.left.items counts.left.items → NotedBetween v k mid todo events → NotedFed v k (run_with runner mid.parked counts mid.probers) at todo events
  noted_fed mid runner counts todo at count left events is number low noted =
      let s = sink_of k at in
      let some = sink_some r k mid at count todo is number in
      let lowered = sink_lowered k s count left mid.counts.left.items counts.left.items is.lines.numbered number some low in
      record { noted = feed_noted (board_in k.m v) (counts_as k mid) (λ t. number_at counts.left.items (k.number t)) s (parked_ways k mid) (ways_as k.m.ordered todo) events lowered noted.noted; listed = noted.listed }

  -- ---- a sink

  -- others still feed it
  pub noted_open : (old new : LineRun H) (p : Line H) (todo : List (Line H)) (done : Fed) (events : List Event) → HasRun r k p old new todo done → 0 < done.left → NotedFed v k new done.at todo events → NotedBetween v k new todo events
  noted_open old new p todo done events ran some noted =
      let s = sink_of k done.at in
      let left : 0 < (counts_as k new).sinks s = (let l = ran.left in let e = ap (number_at new.counts.left.items) ran.number in omega arith) in
      record { noted = open_noted (board_in k.m v) (counts_as k new) s (parked_ways k new) (ways_as k.m.ordered todo) events left noted.noted; listed = noted.listed }

  none_left : (run : LineRun H) (a : SinkAt) (count : ℕ) → count ≡ k.number (sink_of k a) → number_at run.counts.left.items count ≡ 0 → (counts_as k run).sinks (sink_of k a) ≡ 0
  none_left run a count e none = (let f = ap (number_at run.counts.left.items) e in omega arith)

  -- it is closed, and no pipeline waits there
  pub noted_closed : (old : LineRun H) (runner : Engine H) (parked : Vec (Line H)) (a : SinkAt) (count : ℕ) (todo : List (Line H)) (events : List Event) → IsBoard (board_in k.m v) → Feeds r k old a todo → number_at old.counts.left.items count ≡ 0
      → IsSinkOf k.m (sink_of k a) a → count ≡ k.number (sink_of k a) → parked.items ≡ old.parked.items → NotedFed v k old a todo events → NotedBetween v k (run_with runner parked old.counts old.probers) todo (events ++ closing a)
  noted_closed old runner parked a count todo events board is none sink number same noted =
      let o = k.m.ordered in
      let Q : List Way → Type 0 = λ ps. IsNoted (board_in k.m v) (counts_as k old) nothing ps (ways_as o todo) (events ++ closing a) in
      let L : List (Line H) → Type 0 = AllByRecursion (IsTold v k.m) in
      record {
        noted = subst Q (sym (ap (ways_as o) same)) (closes (board_in k.m v) is.w (counts_as k old) a (parked_ways k old) (ways_as o todo) events board sink is.fed (none_left old a count number none) noted.noted);
        listed = record { parked = subst L (sym same) noted.listed.parked; todo = noted.listed.todo };
      }

  -- the pipeline that waited behind a sort goes on
  pub noted_resumed : (old : LineRun H) (runner : Engine H) (parked : Vec (Line H)) (n count : ℕ) (source : PhysSource) (q : Line H) (todo : List (Line H)) (events : List Event) → IsBoard (board_in k.m v) → Feeds r k old (at.Sort n) todo → number_at old.counts.left.items count ≡ 0
      → IsSinkOf k.m n (at.Sort n) → count ≡ k.number n → Unparks n q old.parked.items parked.items → IsSupplied v k.m n (Some source) → NotedFed v k old (at.Sort n) todo events
      → NotedBefore v k (run_with runner parked old.counts old.probers) (record { start = q.start; source = Some source; legs = q.legs }) todo (events ++ closing (at.Sort n))
  noted_resumed old runner parked n count source q todo events board is none sink number out supplied noted =
      let o = k.m.ordered in
      let takes = takes_as o n q old.parked.items parked.items out in
      let zero_now = none_left old (at.Sort n) count number none in
      let on = way_noted (board_in k.m v) (counts_as k old) n (way_as o q) (parked_ways k old) (ways_as o parked.items) (ways_as o todo) (events ++ closing (at.Sort n)) zero_now takes
      (closes (board_in k.m v) is.w (counts_as k old) (at.Sort n) (parked_ways k old) (ways_as o todo) events board sink is.fed zero_now noted.noted) in
      let L : List (Line H) → Type 0 = AllByRecursion (IsTold v k.m) in
      let all : AllByRecursion (IsTold v k.m) (out.before ++ q ∷ out.after) = subst L out.was noted.listed.parked in
      let back = all_back (IsTold v k.m) out.before (q ∷ out.after) all in
      let others = all-append (IsTold v k.m) out.before out.after (all_front (IsTold v k.m) out.before (q ∷ out.after) all) back.1 in
      let S : ℕ → Type 0 = λ i. IsSupplied v k.m i (Some source) in
      record {
        noted = on.0;
        sorted = on.1;
        line = record { told = back.0; supplied = subst S (sym out.start) supplied };
        listed = record { parked = subst L (sym out.is) others; todo = noted.listed.todo };
      }

  -- ---- branches

  -- the next one begins
  pub noted_begun : (run : LineRun H) (p : Line H) (later : List (Line H)) (events : List Event) → NotedBetween v k run (p ∷ later) events → NotedBefore v k run p later events
  noted_begun run p later events noted =
      let on = begin_noted (board_in k.m v) (counts_as k run) (way_as k.m.ordered p) (parked_ways k run) (ways_as k.m.ordered later) events noted.noted in
      record { noted = on.0; sorted = on.1; line = noted.listed.todo.0; listed = record { parked = noted.listed.parked; todo = noted.listed.todo.1 } }

  -- none is left
  pub noted_whole : (run : LineRun H) (todo : List (Line H)) (events : List Event) → IsBoard (board_in k.m v) → Between r k run todo → todo ≡ [] → NotedBetween v k run todo events → IsWhole (board_in k.m v) events
  noted_whole run todo events board is none noted =
      let o = k.m.ordered in
      let B : List Way → Type 0 = IsBetween k.m is.w (counts_as k run) (parked_ways k run) in
      let between = subst B (ap (ways_as o) none) is.between in
      whole (board_in k.m v) is.w (counts_as k run) (parked_ways k run) (ways_as o todo) events board is.between (over k.m is.w (counts_as k run) (parked_ways k run) between o) noted.noted
