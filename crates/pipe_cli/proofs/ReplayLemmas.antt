-- Views and their edits: what bytes spell, how one ends, and why their command's contract is sound.
use Rattle.std.proofs.Common.{Err, not, nat_lt, length, ◌≡◌, ◌⊎◌, ℕ, Bool, true, false, List, [], ◌∷◌, Option, Some, None, inl, inr, refl, ap, subst, ◌∙◌, arith}
use Rattle.std.specs.List.{AllByRecursion}
use Rattle.std.specs.Prelude.{IsErrOf}
use Rattle.std.proofs.lemmas.Option.{same_Some}
use Rattle.serde_json.specs.Data.{Data}
use Rattle.pipe_check.specs.Checked.{check_fault}
use Rattle.pipe_exec.proofs.Unstopped.{checked_unstopped}
use Rattle.pipe_cli.specs.FaultLine.{fault_status}
use Rattle.pipe_plan.specs.Faults.{or_else, told}
use Rattle.pipe_plan.specs.Plan.{Plan}
use Rattle.pipe_plan.specs.declared.error.PipeError.{PipeError}
use Rattle.pipe_plan.specs.declared.error.PipeError.TheVariants as error
use Rattle.pipe_view.specs.Kept.{Kept, view_plan, view_rows}
use Rattle.pipe_view.specs.Refusals.{first_over, view_fault}
use Rattle.pipe_view.specs.Sides.{is_view_kind}
use Rattle.pipe_view.specs.EditSpelling.{EditFits}
use Rattle.pipe_view.specs.ReplayEnds.{AreReplayLines, IsBadLimit, IsEditFault, IsRefusedReplay, IsSoundReplay, IsViewFault}
use Rattle.pipe_view.specs.ReplaySpelling.{ReadsNoReplay, ReadsReplay, ReplayTask, Spells}
use Rattle.pipe_view.proofs.OneEnd.{one_refusal, sound_alone}
use Rattle.pipe_view.proofs.OneReplay.{one_replay}
use Rattle.pipe_cli.specs.Commands.ReplayEditsCommand.{replay_edits}
use Rattle.pipe_cli.specs.Contract.{Answered, Because, Causes, IsKind, IsLawful, Unread}
use Rattle.pipe_cli.specs.Refused.{Tells}
use Rattle.pipe_cli.specs.Replays.{replay_kind}
use Rattle.pipe_cli.specs.Status.{OneOf, status_of}
use Rattle.pipe_cli.specs.declared.status.Refusal.{Refusal}
use Rattle.pipe_cli.specs.declared.status.Refusal.TheVariants as refusal
use Rattle.pipe_cli.proofs.JobLemmas.{one_reading}
use Rattle.pipe_cli.proofs.RuleLemmas.{among, apart, because_told, found, unread_only, unread_told}

-- ---- what bytes spell

same_replay : (bytes : List ℕ) (s t : ReplayTask) → ReadsReplay bytes s → ReadsReplay bytes t → s ≡ t
same_replay bytes s t r q = one_replay q.value s t (subst (λ (v : Data). Spells v s) (one_reading bytes r.value q.value r.reading q.reading) r.spelled) q.spelled

none_replay : (bytes : List ℕ) (task : ReplayTask) → ReadsNoReplay bytes → ReadsReplay bytes task → ⊥
none_replay bytes task n j = n.none task (subst (λ (v : Data). Spells v task) (one_reading bytes j.value n.value j.reading n.reading) j.spelled)

replay_is_kind : IsKind replay_kind
replay_is_kind = record {
  one = λ bytes a b r q. same_replay bytes a b r q;
  text = λ bytes a n j. n.none j.value j.reading;
  some = λ bytes a n j. none_replay bytes a n j;
  apart = λ bytes n m. n.none m.value m.reading;
}

-- the edits of one that is read fit its tables
pub edits_fit : (bytes : List ℕ) (task : ReplayTask) → ReadsReplay bytes task → AllByRecursion (EditFits task.left.schema task.right.schema) task.edits
edits_fit bytes task read = read.spelled.fits.parts.edits

-- ---- no view is refused by a stop

no_stop : (plan : Plan) (root : ℕ) → check_fault plan root ≡ Some error.Stopped → ⊥
no_stop plan root h = checked_unstopped {T = Unit {0}} (Err error.Stopped) plan root (inr h) refl

stop_in : (a b : Option PipeError) → or_else a b ≡ Some error.Stopped → (a ≡ Some error.Stopped) ⊎ (b ≡ Some error.Stopped)
stop_in None b h = inr h
stop_in (Some e) b h = inl h

unstopped_told : (b : Bool) (e : PipeError) → (e ≡ error.Stopped → ⊥) → told b e ≡ Some error.Stopped → ⊥
unstopped_told true e never h = never (same_Some e error.Stopped h)
unstopped_told false e never h = absurd (cc)

no_many : (n : ℕ) → error.TooMany n ≡ error.Stopped → ⊥
no_many n e = cc

no_join : (n : ℕ) → error.BadJoin n ≡ error.Stopped → ⊥
no_join n e = cc

either : {A B C : Type 0} → A ⊎ B → (A → C) → (B → C) → C
either (inl a) f g = f a
either (inr b) f g = g b

over_unstopped : (v : Kept) → first_over v ≡ Some error.Stopped → ⊥
over_unstopped v h =
    let left = nat_lt v.limit (length v.left.rows) in
    let right = nat_lt v.limit (length v.right.rows) in
    let rows = nat_lt v.limit (length (view_rows v)) in
    let later = or_else (told right (error.TooMany 1)) (told rows (error.TooMany 2)) in
    either (stop_in (told left (error.TooMany 0)) later h) (unstopped_told left (error.TooMany 0) (no_many 0))
    (λ (b : later ≡ Some error.Stopped). either (stop_in (told right (error.TooMany 1)) (told rows (error.TooMany 2)) b) (unstopped_told right (error.TooMany 1) (no_many 1)) (unstopped_told rows (error.TooMany 2) (no_many 2)))

view_unstopped : (v : Kept) → view_fault v ≡ Some error.Stopped → ⊥
view_unstopped v h =
    let other = not (is_view_kind v.options.how) in
    let later = or_else (told other (error.BadJoin 2)) (first_over v) in
    either (stop_in (check_fault (view_plan v) 2) later h) (no_stop (view_plan v) 2)
    (λ (b : later ≡ Some error.Stopped). either (stop_in (told other (error.BadJoin 2)) (first_over v) b) (unstopped_told other (error.BadJoin 2) (no_join 2)) (over_unstopped v))

for_stop : (v : Kept) (task : ReplayTask) (e : PipeError) → IsBadLimit v e ⊎ (IsViewFault v e ⊎ IsEditFault task.edits v e) → e ≡ error.Stopped → ⊥
for_stop v task e (inl h) same = let bad = h.0 in cc
for_stop v task e (inr (inl h)) same = view_unstopped v (h.1 ∙ ap (λ (x : PipeError). Some x) same)
for_stop v task e (inr (inr h)) same = let many = h.0 in cc

refused_unstopped : (task : ReplayTask) (e : PipeError) → IsRefusedReplay task e → e ≡ error.Stopped → ⊥
refused_unstopped task e h same = for_stop h.view task e h.cause same

unstopped : (task : ReplayTask) (e : PipeError) → (e ≡ error.Memory) ⊎ IsRefusedReplay task e → e ≡ error.Stopped → ⊥
unstopped task e (inl m) same = cc
unstopped task e (inr h) same = refused_unstopped task e h same

-- ---- refusals

-- an error is told of the view and its edits
pub told_replay : (r : Refusal) (task : ReplayTask) (e : PipeError) → (e ≡ error.Memory) ⊎ IsRefusedReplay task e → Tells r e → Because replay_edits r task
told_replay refusal.BadWords task e h t = absurd t
told_replay refusal.ReadFault task e h t = absurd t
told_replay refusal.TooLong task e h t = absurd t
told_replay refusal.NotJson task e h t = absurd t
told_replay refusal.NotJob task e h t = absurd t
told_replay (refusal.Fault line) task e (inl m) t = absurd (let ten : 6 ≡ 10 = t.0 ∙ ap fault_status m in omega (arith, ten))
told_replay (refusal.Fault line) task e (inr h) t = record { error = e; ends = inl h; status_is = t.0; line_is = t.1 }
told_replay (refusal.TooMany line) task e (inl m) t = absurd (let ten : 7 ≡ 10 = t.0 ∙ ap fault_status m in omega (arith, ten))
told_replay (refusal.TooMany line) task e (inr h) t = record { error = e; ends = inl h; status_is = t.0; line_is = t.1 }
told_replay refusal.Stopped task e h t = absurd (unstopped task e h t)
told_replay refusal.WriteFault task e h t = absurd t
told_replay refusal.Memory task e h t = tt

-- none of them is told as a stop
err_same : {T : Type 0} (a b : Refusal) → IsErrOf {T = T} (Err a) b → a ≡ b
err_same a b h = cc

pub told_unstopped : {T : Type 0} (r : Refusal) (task : ReplayTask) (e : PipeError) → (e ≡ error.Memory) ⊎ IsRefusedReplay task e → Tells r e → IsErrOf {T = T} (Err r) refusal.Stopped → ⊥
told_unstopped {T} r task e h t same = unstopped task e h (subst (λ (x : Refusal). Tells x e) (err_same {T = T} r refusal.Stopped same) t)

pub replay_told : (r : Refusal) (bytes : List ℕ) (task : ReplayTask) → ReadsReplay bytes task → Because replay_edits r task → Causes replay_edits r bytes
replay_told r bytes task read b = because_told replay_edits r bytes task read b

pub unread_replay : (r : Refusal) (bytes : List ℕ) → Unread replay_kind r bytes → Causes replay_edits r bytes
unread_replay r bytes u = unread_told replay_edits r bytes u

pub unread_replay_only : (r : Refusal) (bytes : List ℕ) → Unread replay_kind r bytes → OneOf replay_edits.statuses (status_of r)
unread_replay_only r bytes u = among (4 ∷ 5 ∷ 10 ∷ []) replay_edits.statuses refl (status_of r) (unread_only replay_kind r bytes u)

pub replay_only : (r : Refusal) (task : ReplayTask) → Because replay_edits r task → (r ≡ refusal.Stopped → ⊥) → OneOf replay_edits.statuses (status_of r)
replay_only refusal.BadWords task h s = absurd h
replay_only refusal.ReadFault task h s = absurd h
replay_only refusal.TooLong task h s = absurd h
replay_only refusal.NotJson task h s = absurd h
replay_only refusal.NotJob task h s = absurd h
replay_only (refusal.Fault line) task h s = found 6 replay_edits.statuses refl
replay_only (refusal.TooMany line) task h s = found 7 replay_edits.statuses refl
replay_only refusal.Stopped task h s = absurd (s refl)
replay_only refusal.WriteFault task h s = absurd h
replay_only refusal.Memory task h s = found 10 replay_edits.statuses refl

-- ---- the answer

pub replay_answer : (bytes text : List ℕ) (task : ReplayTask) → ReadsReplay bytes task → IsSoundReplay task → AreReplayLines task text → Answered replay_edits bytes text
replay_answer bytes text task read sound lines = record { input = task; read = read; sound = sound; within = tt; answer = lines }

pub replay_lawful : IsLawful replay_edits
replay_lawful = record {
  kind = replay_is_kind;
  sound = λ task e s r. sound_alone task e s r;
  one_error = λ task d e h k. one_refusal task d e h k;
  within = λ task n m w. m;
  stops = λ h. absurd (apart replay_edits.statuses 8 refl h);
  answers = found 0 replay_edits.statuses refl;
  writes = found 9 replay_edits.statuses refl;
}
