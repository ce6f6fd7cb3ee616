use Rattle.std.proofs.Common.{◌≡◌, ℕ, List, [], sym, subst}
use Rattle.pipe_plan.specs.Plan.{plan_of}
use Rattle.pipe_check.specs.Checked.{Checked}
use Rattle.pipe_driver.specs.Within.{AllWithin}
use Rattle.pipe_events.specs.declared.event.Event.{Event}
use Rattle.pipe_run.specs.Paced.{KeepsPace}
use Rattle.pipe_lines.specs.Journals.{IsJournalOf}
use Rattle.pipe_exec.proofs.running.run_plan_with.Goals as goal

pub returns-clause-within : goal.returns-clause-within
returns-clause-within g c =
    let checked : Checked = record { arena = c.args.arena.now; root = c.args.root } in
    let same : c.in_ok-plan.plan ≡ checked = c.in_ok-plan.ensures.plan in
    let of_plan = subst (λ (q : Checked). AllWithin c.context_of-context.result.row_limit (plan_of q.arena) q.root) same c.in_ok-frame.ensures.within in
    subst (λ (k : ℕ). AllWithin k (plan_of c.args.arena.now) c.args.root) c.context_of-context.ensures.limit of_plan

pub returns-clause-journal : goal.returns-clause-journal
returns-clause-journal g c =
    let plan = plan_of c.args.arena.now in
    let root = c.args.root in
    let checked : Checked = record { arena = c.args.arena.now; root = root } in
    let same : c.in_ok-plan.plan ≡ checked = c.in_ok-plan.ensures.plan in
    let hash_of = g.H.KeyHasher.hash_of c.args.hasher in
    let workers = c.context_of-context.result.workers in
    let frame = c.in_ok-frame.frame in
    let events = c.plan_frame.new.journal.items in
    let of_plan = subst (λ (q : Checked). IsJournalOf (plan_of q.arena) q.root hash_of workers events frame) same c.in_ok-frame.ensures.journal in
    let of_job = subst (λ (k : ℕ). IsJournalOf plan root hash_of k events frame) c.context_of-context.ensures.workers of_plan in
    subst (λ (l : List Event). IsJournalOf plan root hash_of c.args.config.now.workers l frame) (sym c.from_vec.ensures) of_job

pub returns-clause-paced : goal.returns-clause-paced
returns-clause-paced g c =
    let asked = g.C.StopCheck.asked in
    let a = asked c.args.stop.now in
    let b = asked c.plan_frame.new.stop in
    let workers = c.args.config.now.workers in
    let rows = c.args.config.now.chunk_rows in
    let context = c.context_of-context.result in
    let events = c.plan_frame.new.journal.items in
    let cut = subst (λ (k : ℕ). KeepsPace context.workers k a b [] events) c.context_of-context.ensures.rows c.in_ok-frame.ensures.paced in
    let ran = subst (λ (k : ℕ). KeepsPace k rows a b [] events) c.context_of-context.ensures.workers cut in
    subst (λ (l : List Event). KeepsPace workers rows a b [] l) (sym c.from_vec.ensures) ran
