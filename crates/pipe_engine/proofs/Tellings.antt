-- What a refusal of what runs legs says of the plan.
use Rattle.std.proofs.Common.{◌≡◌, ℕ, ◌+◌, ◌<◌, ◌==◌, cond, List, [], ◌∷◌, ◌++◌, map, refl, sym, ap, subst, ◌∙◌, arith, inl, inr, Option, Some}
use Rattle.std.specs.Prelude.{Result, Ok, Err, IfErr}
use Rattle.pipe_driver.specs.declared.branch.SinkAt.{SinkAt}
use Rattle.pipe_driver.specs.Legs as plan
use Rattle.pipe_driver.specs.Legs.{Way}
use Rattle.pipe_driver.specs.Meaning.{Meaning, meaning_of}
use Rattle.pipe_driver.specs.Ways.{IsSoundMeaning}
use Rattle.pipe_driver.proofs.Tests.{eq-false, eq-true}
use Rattle.pipe_plan.specs.Faults.{IsWellFormed}
use Rattle.pipe_plan.specs.Plan.{Plan}
use Rattle.pipe_driver.specs.declared.error.RunError.{RunError}
use Rattle.pipe_driver.specs.declared.error.RunError.TheVariants as error
use Rattle.pipe_driver.specs.declared.pipe_line.Leg.{Leg}
use Rattle.pipe_driver.specs.declared.pipe_line.PipeLine.{PipeLine}
use Rattle.pipe_driver.specs.declared.run.Run.{Run}
use Rattle.pipe_driver.specs.Lines.{Task, leg_as, way_as, ways_as, counts_as, AreLegsOf, SourceHas}
use Rattle.pipe_driver.specs.Refusals.{ComesToMany, Refuses, RefusesLeg, RefusesNode, RefusesSettling, RefusesEnd, Is, IsOrSettles, Tells}
use Rattle.pipe_driver.specs.Runner.{AreBuilt}
use Rattle.pipe_driver.specs.Runs.{parked_ways, Ready, Passes, sink_of}
use Rattle.pipe_driver.specs.State.{World, Counts, HasPassed, HasTail, IsLowered, IsPassing, IsTail}
use Rattle.pipe_driver.specs.Tables.{number_at}
use Rattle.pipe_driver.specs.Within.{GivesMany, RunEndsWith}
use Rattle.pipe_driver.specs.Words.{RunnerWords}
use Rattle.pipe_driver.proofs.Counting.{closes_last, seen_all}
use Rattle.pipe_driver.proofs.LegPasses.{leg_tables, leg_there, passed}
use Rattle.pipe_driver.proofs.Refusals.{many_wide, wide_under}
use Rattle.pipe_driver.proofs.RunNodes.{chains_run}
use Rattle.pipe_ops.specs.declared.context.PExecutionContext.{PExecutionContext}
use Rattle.pipe_engine.specs.Refused.{IsNotMany}

-- what is left of a way behind a leg may wait
tail_there : (s : ℕ) (legs : List plan.Leg) (old : List Way) → (later : List Way) × HasTail s legs old later
tail_there s [] old = (old ++ [], record { tails = []; is = refl; tail = refl })
tail_there s (leg ∷ legs) old = let q : Way = record { start = s; legs = leg ∷ legs } in (old ++ q ∷ [], record { tails = q ∷ []; is = refl; tail = (q, refl, refl, refl) })

pub pass_tells : {R S P : Type 0} (r : RunnerWords R S P) (k : Task) (p : PipeLine S P) (run : Run R S P) (todo : List (PipeLine S P)) (source : S) (leg : Leg P) (legs : List (Leg P)) (limit : ℕ) (e : RunError)
    → IsSoundMeaning k.m → Ready r k run p todo → p.source ≡ Some source → p.legs.items ≡ leg ∷ legs → RefusesLeg (r.brings source) (r.stands leg.part) (r.fits run.runner) limit e → Tells k.m limit e
pass_tells r k p run todo source leg legs limit error.Stopped sound ready is_source first refuses = tt
pass_tells r k p run todo source leg legs limit error.Memory sound ready is_source first refuses = tt
pass_tells {S = S} {P = P} r k p run todo source leg legs limit (error.TooMany n) sound ready is_source first refuses = λ chains. (
    let m = k.m in
    let o = m.ordered in
    let one = leg_as o leg in
    let firsts : (way_as o p).legs ≡ one ∷ map (leg_as o) legs = ap (map (leg_as o)) first in
    let are = leg_there m ready.w (counts_as k run) (way_as o p) one (map (leg_as o) legs) (parked_ways k run) (ways_as o todo) ready.ready firsts in
    let T : List (Leg P) → Type 0 = AreLegsOf r k p.start in
    let parts : AreLegsOf r k p.start (leg ∷ legs) = subst T first ready.line.legs in
    let V : Option S → Type 0 = SourceHas r k p.start in
    let built : AreBuilt m ready.w one.operators = leg_tables m ready.w (counts_as k run) (way_as o p) one (map (leg_as o) legs) (parked_ways k run) (ways_as o todo) sound ready.ready firsts in
    let did = refuses m ready.w p.start one ready.fits parts.0.stands (subst V is_source ready.line.source) are.0.chain are.0.chain_sink built in
    let tail = tail_there one.sink (map (leg_as o) legs) (parked_ways k run) in
    let passing = passed m ready.w did.new (counts_as k run) (way_as o p) one (map (leg_as o) legs) (parked_ways k run) tail.0 (ways_as o todo) sound ready.ready firsts did.is tail.1 in
    many_wide m did.new (counts_as k run) one.operators one.sink tail.0 (ways_as o todo) limit n sound passing chains did.gives)

-- in the world that is there
there_tells : {R S P : Type 0} (r : RunnerWords R S P) (k : Task) (run : Run R S P) (now : List ℕ) (at : SinkAt) (todo : List (PipeLine S P)) (limit n : ℕ) → IsSoundMeaning k.m → (is : Passes r k run now at todo) → ComesToMany k.m limit (Is is.w) n → Tells k.m limit (error.TooMany n)
there_tells r k run now at todo limit n sound is did = λ chains. (
    let G : World → Type 0 = λ w. GivesMany k.m limit w n in
    many_wide k.m is.w (counts_as k run) now (sink_of k at) (parked_ways k run) (ways_as k.m.ordered todo) limit n sound is.passing chains (subst G did.is did.gives))

pub leave_tells : {R S P : Type 0} (r : RunnerWords R S P) (k : Task) (run : Run R S P) (op : ℕ) (now : List ℕ) (at : SinkAt) (todo : List (PipeLine S P)) (limit : ℕ) (e : RunError) → IsSoundMeaning k.m → Passes r k run (op ∷ now) at todo
    → RefusesNode op (r.fits run.runner) (r.before run.runner) limit e → Tells k.m limit e
leave_tells r k run op now at todo limit error.Stopped sound is refuses = tt
leave_tells r k run op now at todo limit error.Memory sound is refuses = tt
leave_tells r k run op now at todo limit (error.TooMany n) sound is refuses = there_tells r k run (op ∷ now) at todo limit n sound is (refuses k.m is.w now at is.fits is.before)

pub end_tells : {R S P : Type 0} (r : RunnerWords R S P) (k : Task) (run : Run R S P) (at : SinkAt) (todo : List (PipeLine S P)) (limit : ℕ) (e : RunError) → IsSoundMeaning k.m → Passes r k run [] at todo → RefusesEnd (r.fits run.runner) (r.before run.runner) limit e → Tells k.m limit e
end_tells r k run at todo limit error.Stopped sound is refuses = tt
end_tells r k run at todo limit error.Memory sound is refuses = tt
end_tells r k run at todo limit (error.TooMany n) sound is refuses = there_tells r k run [] at todo limit n sound is (refuses k.m is.w at is.fits is.before)

-- no leg goes through a node any more
abbrev none_at : ℕ → (ℕ → ℕ) → ℕ → ℕ
none_at op probers k = cond (k == op) 0 (probers k)

pub settle_tells : {R S P : Type 0} (r : RunnerWords R S P) (k : Task) (run : Run R S P) (op left : ℕ) (now : List ℕ) (at : SinkAt) (todo : List (PipeLine S P)) (limit : ℕ) (e : RunError) → IsSoundMeaning k.m → Passes r k run (op ∷ now) at todo
    → number_at run.probers.left.items op ≡ left + 1 → left ≡ 0 → RefusesSettling op (r.fits run.runner) (r.before run.runner) limit e → Tells k.m limit e
settle_tells r k run op left now at todo limit error.Stopped sound is here none refuses = tt
settle_tells r k run op left now at todo limit error.Memory sound is here none refuses = tt
settle_tells r k run op left now at todo limit (error.TooMany n) sound is here none refuses = λ chains. (
    let m = k.m in
    let c = counts_as k run in
    let s = sink_of k at in
    let parked = parked_ways k run in
    let ways = ways_as m.ordered todo in
    let one_left : number_at run.probers.left.items op ≡ 1 = omega arith in
    let did = refuses m is.w now at is.fits is.before is.passing.alike.0 (λ join. seen_all m is.w c op now s parked ways sound is.passing join one_left) is.passing.tables in
    elim did.is [
      | inl same ↦ there_tells r k run (op ∷ now) at todo limit n sound is (record { new = did.new; is = same; gives = did.gives }) chains
      | inr settled ↦ (
          let lowered : IsLowered op c.probers (none_at op c.probers) = record {
            here = (let z = ap (λ b. cond b 0 (c.probers op)) (eq-true op op refl) in omega arith);
            others = λ j ne. ap (λ b. cond b 0 (c.probers j)) (eq-false j op ne);
          } in
          let last : none_at op c.probers op ≡ 0 = ap (λ b. cond b 0 (c.probers op)) (eq-true op op refl) in
          let passing = closes_last m is.w did.new c (none_at op c.probers) op now s parked ways sound is.passing lowered last settled in
          many_wide m did.new (record { sinks = c.sinks; probers = none_at op c.probers }) now s parked ways limit n sound passing chains did.gives)
    ])

-- ---- an error that is told of no node

pub not_many : (m : Meaning) (limit : ℕ) (e : RunError) → IsNotMany e → Tells m limit e
not_many m limit (error.TooMany n) not = absurd not
not_many m limit error.Stopped not = tt
not_many m limit error.Memory not = tt

-- ---- of a plan

pub plan_tells : (plan : Plan) (root limit : ℕ) (e : RunError) → IsWellFormed plan root → Tells (meaning_of plan root) limit e → RunEndsWith limit plan root e
plan_tells plan root limit (error.TooMany n) well tells = wide_under plan root limit n (tells (chains_run plan root well))
plan_tells plan root limit error.Stopped well tells = tt
plan_tells plan root limit error.Memory well tells = tt

-- by another context's limit
pub limit_as : (m : Meaning) (a b : PExecutionContext) (e : RunError) → a ≡ b → Tells m a.row_limit e → Tells m b.row_limit e
limit_as m a b e same tells = let P : PExecutionContext → Type 0 = λ z. Tells m z.row_limit e in subst P same tells
