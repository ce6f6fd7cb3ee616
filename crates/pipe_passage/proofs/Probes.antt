-- Operators and probes as they are opened for a lane, and the seats that they take.
use Rattle.std.proofs.Common.{◌≡◌, ℕ, zero, suc, ◌+◌, ◌<◌, ◌≤◌, Bool, true, false, List, [], ◌∷◌, ◌++◌, length, get_or, Option, Some, None, map, refl, ap, sym, ◌∙◌, subst, arith, length-append, append_assoc, append-nil}
use Rattle.std.specs.List.{All}
use Rattle.std.proofs.lemmas.List.{get_or_append_left}
use Rattle.std.proofs.Math.Seq.{get_or-append_seam}
use Rattle.pipe_schema.specs.declared.field.Field.{Field}
use Rattle.pipe_table.specs.declared.spec.JoinSpec.{JoinSpec}
use Rattle.pipe_chain.specs.Flags.{SeatMarks, IsSeatOf}
use Rattle.pipe_chain.specs.Flow.{no_acts}
use Rattle.pipe_outer.specs.Marking.{seat_acts}
use Rattle.pipe_outer.specs.MarkProbe.{IsSeatAt}
use Rattle.pipe_outer.specs.declared.marks.Marks.{Marks}
use Rattle.pipe_outer.specs.declared.marks.Marks.TheVariants as marks
use Rattle.pipe_run.specs.declared.stage.Stage.{Stage}
use Rattle.pipe_run.specs.Opens.{IsCopy}
use Rattle.pipe_slots.specs.CallBackWords.{kind_in, spec_in, seat_in, seated_in, acts_by, idle_in, KeepsNothing}
use Rattle.pipe_slots.specs.JoinWords.{IsKeysOf, IsRowsOf, IsFullOf, IsMarkedOf, suits_join}
use Rattle.pipe_slots.specs.PhysWords.{kind_at, suits_of, seated_of, idle_of}
use Rattle.pipe_slots.specs.Places.{Place}
use Rattle.pipe_slots.specs.Seats.{probe_with, IsFreeProbe}
use Rattle.pipe_slots.specs.declared.call_back.CallBack.{CallBack}
use Rattle.pipe_slots.specs.declared.call_back.CallBack.TheVariants as probe
use Rattle.pipe_slots.specs.declared.phys_operator.PhysOperator.{PhysOperator}
use Rattle.pipe_slots.specs.declared.phys_operator.PhysOperator.TheVariants as op
use Rattle.pipe_slots.specs.declared.probe_kind.ProbeKind.{ProbeKind}
use Rattle.pipe_slots.specs.declared.slot.Slot.{Slot}
use Rattle.pipe_slots.specs.declared.slot.Slot.TheVariants.{Empty, Keys, Rows, Full, Spent}
use Rattle.pipe_slots.proofs.Kept.{takes-moved, output-moved, suits-moved, work-moved}
use Rattle.pipe_passage.specs.LaneSeats.{has_flags, IsPlanned, ArePlanned, HaveMore, HasMore, IsFor, given_back, all_back, IsOpenOne, OperatorOpened, IsOpenStage, StageOpened, AreOpen, StagesOpened, AreRest, IsRest, AllRest}
use Rattle.pipe_passage.specs.Opening.{ProbeOpened}
use Rattle.pipe_passage.specs.Passages.{phys_words}

-- ---- seats

some-left : (k : ℕ) (m : Marks) (free : List SeatMarks) → AreRest k m free → HaveMore k m → 0 < length free
some-left k (marks.Running f) free r more = omega (arith, r.1, more)
some-left k (marks.Closed f) free r more = absurd r

pub seat-left : {H : Type 0} (k : ℕ) (slot : Slot H) (free : List SeatMarks) → has_flags slot ≡ true → IsRest k slot free → HasMore k slot → 0 < length free
seat-left k Empty free e r more = cc
seat-left k (Keys t) free e r more = cc
seat-left k (Rows f) free e r more = cc
seat-left k (Full t) free e r more = some-left k t.marks free r more
seat-left k Spent free e r more = cc

-- one seat of some is taken
one-taken : (k : ℕ) (m : Marks) (after' : List SeatMarks) (seat : SeatMarks) → AreRest k m (after' ++ seat ∷ []) → AreRest (k + 1) m after'
one-taken k (marks.Running f) after' seat r =
    let long = length-append after' (seat ∷ []) in
    (λ i d less. subst (λ (s : SeatMarks). IsSeatOf f.table s) (get_or_append_left after' (seat ∷ []) d i less) (r.0 i d (omega (arith, less, long))), omega (arith, r.1, long))
one-taken k (marks.Closed f) after' seat r = r

pub rest-with : {H : Type 0} (k : ℕ) (slot : Slot H) (before after' : List SeatMarks) (seat : SeatMarks) → has_flags slot ≡ true → before ≡ after' ++ seat ∷ [] → IsRest k slot before → IsRest (k + 1) slot after'
rest-with k Empty before after' seat e is r = tt
rest-with k (Keys t) before after' seat e is r = tt
rest-with k (Rows f) before after' seat e is r = tt
rest-with k (Full t) before after' seat e is r = one-taken k t.marks after' seat (subst (λ (v : List SeatMarks). AreRest k t.marks v) is r)
rest-with k Spent before after' seat e is r = tt

pub rest-without : {H : Type 0} (n : ℕ) (slot : Slot H) (free : List SeatMarks) → has_flags slot ≡ false → IsRest n slot free
rest-without n Empty free e = tt
rest-without n (Keys t) free e = tt
rest-without n (Rows f) free e = tt
rest-without n (Full t) free e = cc
rest-without n Spent free e = tt

last-at : (k : ℕ) (m : Marks) (after' : List SeatMarks) (seat : SeatMarks) → AreRest k m (after' ++ seat ∷ []) → IsSeatAt m seat
last-at k (marks.Running f) after' seat r =
    subst (λ (s : SeatMarks). IsSeatOf f.table s) (get_or-append_seam after' seat [] seat) (r.0 (length after') seat (omega (arith, length-append after' (seat ∷ []))))
last-at k (marks.Closed f) after' seat r = absurd r

-- ---- probes, where there are flags, and where there are none

keys-none : {H : Type 0} (spec : JoinSpec) (slot : Slot H) → IsKeysOf spec slot → has_flags slot ≡ true → ⊥
keys-none spec Empty h e = absurd h
keys-none spec (Keys t) h e = cc
keys-none spec (Rows f) h e = absurd h
keys-none spec (Full t) h e = absurd h
keys-none spec Spent h e = absurd h

rows-none : {H : Type 0} (spec : JoinSpec) (slot : Slot H) → IsRowsOf spec slot → has_flags slot ≡ true → ⊥
rows-none spec Empty h e = absurd h
rows-none spec (Keys t) h e = absurd h
rows-none spec (Rows f) h e = cc
rows-none spec (Full t) h e = absurd h
rows-none spec Spent h e = absurd h

full-there : {H : Type 0} (spec : JoinSpec) (slot : Slot H) → IsFullOf spec slot → has_flags slot ≡ false → ⊥
full-there spec Empty h e = absurd h
full-there spec (Keys t) h e = absurd h
full-there spec (Rows f) h e = absurd h
full-there spec (Full t) h e = cc
full-there spec Spent h e = absurd h

marked-there : {H : Type 0} (spec : JoinSpec) (slot : Slot H) → IsMarkedOf spec slot → has_flags slot ≡ false → ⊥
marked-there spec Empty h e = absurd h
marked-there spec (Keys t) h e = absurd h
marked-there spec (Rows f) h e = absurd h
marked-there spec (Full t) h e = cc
marked-there spec Spent h e = absurd h

-- where there are flags, the probe marks keys
pub attach-free : {H : Type 0} (kind : ProbeKind) (spec : JoinSpec) (slot : Slot H) (c : CallBack H) → kind_in c ≡ kind → suits_join kind spec slot → has_flags slot ≡ true → seat_in c ≡ None → IsFreeProbe c
attach-free kind spec slot (probe.Join p) k h e none = absurd (keys-none spec slot (subst (λ (x : ProbeKind). suits_join x spec slot) (sym k) h) e)
attach-free kind spec slot (probe.Cross p) k h e none = absurd (rows-none spec slot (subst (λ (x : ProbeKind). suits_join x spec slot) (sym k) h) e)
attach-free kind spec slot (probe.Full p) k h e none = none
attach-free kind spec slot (probe.Mark p) k h e none = none

without-seated : {H : Type 0} (kind : ProbeKind) (spec : JoinSpec) (slot : Slot H) (c : CallBack H) → kind_in c ≡ kind → suits_join kind spec slot → has_flags slot ≡ false → seated_in c slot
without-seated kind spec slot (probe.Join p) k h e = tt
without-seated kind spec slot (probe.Cross p) k h e = tt
without-seated kind spec slot (probe.Full p) k h e = absurd (full-there spec slot (subst (λ (x : ProbeKind). suits_join x spec slot) (sym k) h) e)
without-seated kind spec slot (probe.Mark p) k h e = absurd (marked-there spec slot (subst (λ (x : ProbeKind). suits_join x spec slot) (sym k) h) e)

with-kind : {H : Type 0} (o : Option SeatMarks) (c : CallBack H) → kind_in (probe_with o c) ≡ kind_in c
with-kind o (probe.Join p) = refl
with-kind o (probe.Cross p) = refl
with-kind o (probe.Full p) = refl
with-kind o (probe.Mark p) = refl

with-spec : {H : Type 0} (o : Option SeatMarks) (c : CallBack H) → spec_in (probe_with o c) ≡ spec_in c
with-spec o (probe.Join p) = refl
with-spec o (probe.Cross p) = refl
with-spec o (probe.Full p) = refl
with-spec o (probe.Mark p) = refl

with-idle : {H : Type 0} (o : Option SeatMarks) (c : CallBack H) → idle_in c → idle_in (probe_with o c)
with-idle o (probe.Join p) i = i
with-idle o (probe.Cross p) i = i
with-idle o (probe.Full p) i = i
with-idle o (probe.Mark p) i = i

with-acts : {H : Type 0} (o : Option SeatMarks) (c : CallBack H) → IsFreeProbe c → acts_by (probe_with o c) ≡ seat_acts o
with-acts o (probe.Join p) free = absurd free
with-acts o (probe.Cross p) free = absurd free
with-acts o (probe.Full p) free = refl
with-acts o (probe.Mark p) free = refl

with-seated : {H : Type 0} (k : ℕ) (slot : Slot H) (after' : List SeatMarks) (seat : SeatMarks) (c : CallBack H) → IsFreeProbe c → has_flags slot ≡ true → IsRest k slot (after' ++ seat ∷ []) → seated_in (probe_with (Some seat) c) slot
with-seated k slot after' seat (probe.Join p) free e r = absurd free
with-seated k slot after' seat (probe.Cross p) free e r = absurd free
with-seated k Empty after' seat (probe.Full p) free e r = cc
with-seated k (Keys t) after' seat (probe.Full p) free e r = cc
with-seated k (Rows f) after' seat (probe.Full p) free e r = cc
with-seated k (Full t) after' seat (probe.Full p) free e r = last-at k t.marks after' seat r
with-seated k Spent after' seat (probe.Full p) free e r = cc
with-seated k Empty after' seat (probe.Mark p) free e r = cc
with-seated k (Keys t) after' seat (probe.Mark p) free e r = cc
with-seated k (Rows f) after' seat (probe.Mark p) free e r = cc
with-seated k (Full t) after' seat (probe.Mark p) free e r = last-at k t.marks after' seat r
with-seated k Spent after' seat (probe.Mark p) free e r = cc

for-some : {H : Type 0} (slot : Slot H) (seat : SeatMarks) → has_flags slot ≡ true → IsFor slot (Some seat)
for-some Empty seat e = cc
for-some (Keys t) seat e = cc
for-some (Rows f) seat e = cc
for-some (Full t) seat e = tt
for-some Spent seat e = cc

for-none : {H : Type 0} (slot : Slot H) → has_flags slot ≡ false → IsFor slot None
for-none Empty e = refl
for-none (Keys t) e = refl
for-none (Rows f) e = refl
for-none (Full t) e = cc
for-none Spent e = refl

module _ {H : Type 0} (k : ℕ) (slot : Slot H) (place : Place) (c : CallBack H) (kind : kind_in c ≡ kind_at place) (spec : spec_in c ≡ place.spec) (none : seat_in c ≡ None) (idle : idle_in c) (suits : suits_join (kind_at place) place.spec slot) where
  -- the probe took a seat
  pub opened-with : (before after' : List SeatMarks) (seat : SeatMarks) (made : CallBack H) → has_flags slot ≡ true → IsRest k slot before → before ≡ after' ++ seat ∷ [] → made ≡ probe_with (Some seat) c → ProbeOpened slot place before after' made
  opened-with before after' seat made flags r is e =
      let free = attach-free (kind_at place) place.spec slot c kind suits flags none in
      subst (λ (m : CallBack H). ProbeOpened slot place before after' m) (sym e) (record {
        took = Some seat;
        suits = for-some slot seat flags;
        seats = is;
        kind = with-kind (Some seat) c ∙ kind;
        spec = with-spec (Some seat) c ∙ spec;
        seated = with-seated k slot after' seat c free flags (subst (λ (v : List SeatMarks). IsRest k slot v) is r);
        acts = with-acts (Some seat) c free;
        idle = with-idle (Some seat) c idle;
      })

  -- it took none
  pub opened-without : (free : List SeatMarks) → has_flags slot ≡ false → acts_by c ≡ no_acts → ProbeOpened slot place free free c
  opened-without free flags acts = record {
    took = None;
    suits = for-none slot flags;
    seats = refl;
    kind = kind;
    spec = spec;
    seated = without-seated (kind_at place) place.spec slot c kind suits flags;
    acts = acts;
    idle = idle;
  }

-- ---- operators

pub operator-probe : {H : Type 0} (slot : Slot H) (place : Place) (before after' : List SeatMarks) (made : CallBack H) → suits_join (kind_at place) place.spec slot → ProbeOpened slot place before after' made → OperatorOpened slot before after' (op.PlaceHolder place) (op.CallBack made)
operator-probe slot place before after' made suits h = record {
  took = h.took;
  suits = h.suits;
  seats = h.seats;
  one = record {
    takes = takes-moved (kind_at place) (kind_in made) place.spec (spec_in made) h.kind h.spec;
    output = output-moved (kind_at place) (kind_in made) place.spec (spec_in made) h.kind h.spec;
    work = work-moved (kind_at place) (kind_in made) place.spec (spec_in made) h.kind h.spec;
    suits = suits-moved (kind_at place) (kind_in made) place.spec (spec_in made) h.kind h.spec slot suits;
    seated = h.seated;
    acts = h.acts;
    idle = h.idle;
  };
}

plain-full : {H : Type 0} (spec : JoinSpec) (slot : Slot H) → KeepsNothing slot → IsFullOf spec slot → ⊥
plain-full spec Empty none h = h
plain-full spec (Keys t) none h = h
plain-full spec (Rows f) none h = h
plain-full spec (Full t) none h = none
plain-full spec Spent none h = h

plain-marked : {H : Type 0} (spec : JoinSpec) (slot : Slot H) → KeepsNothing slot → IsMarkedOf spec slot → ⊥
plain-marked spec Empty none h = h
plain-marked spec (Keys t) none h = h
plain-marked spec (Rows f) none h = h
plain-marked spec (Full t) none h = none
plain-marked spec Spent none h = h

-- an operator that may work where there are no flags wants no seat
pub plain-seated : {H : Type 0} (made : PhysOperator H) (slot : Slot H) → KeepsNothing slot → suits_of made slot → idle_of made → seated_of made slot
plain-seated (op.Filter f) slot none h i = tt
plain-seated (op.SimpleProjection p) slot none h i = tt
plain-seated (op.Projection p) slot none h i = tt
plain-seated (op.Hstack p) slot none h i = tt
plain-seated (op.Function f) slot none h i = tt
plain-seated (op.Pass p) slot none h i = tt
plain-seated (op.PlaceHolder p) slot none h i = absurd i
plain-seated (op.CallBack (probe.Join p)) slot none h i = tt
plain-seated (op.CallBack (probe.Cross p)) slot none h i = tt
plain-seated (op.CallBack (probe.Full p)) slot none h i = absurd (plain-full p.spec slot none h)
plain-seated (op.CallBack (probe.Mark p)) slot none h i = absurd (plain-marked p.spec slot none h)

plain-for : {H : Type 0} (slot : Slot H) → KeepsNothing slot → IsFor slot None
plain-for Empty none = refl
plain-for (Keys t) none = refl
plain-for (Rows f) none = refl
plain-for (Full t) none = absurd none
plain-for Spent none = refl

pub plain-rest : {H : Type 0} (n : ℕ) (slot : Slot H) (free : List SeatMarks) → KeepsNothing slot → IsRest n slot free
plain-rest n Empty free none = tt
plain-rest n (Keys t) free none = tt
plain-rest n (Rows f) free none = tt
plain-rest n (Full t) free none = absurd none
plain-rest n Spent free none = tt

pub operator-plain : {H : Type 0} (hash_of : H → List ℕ → ℕ) (slot : Slot H) (free : List SeatMarks) (operator made : PhysOperator H) → KeepsNothing slot → suits_of operator slot → IsCopy (phys_words hash_of) operator made → OperatorOpened slot free free operator made
operator-plain hash_of slot free operator made none suits h = record {
  took = None;
  suits = plain-for slot none;
  seats = refl;
  one = record {
    takes = h.takes;
    output = h.output;
    work = h.work;
    suits = h.suits slot suits;
    seated = plain-seated made slot none (h.suits slot suits) h.idle;
    acts = h.acts;
    idle = h.idle;
  };
}

pub stage-opened : {H : Type 0} (slot : Slot H) (before after' : List SeatMarks) (from made : Stage (PhysOperator H)) → OperatorOpened slot before after' from.operator made.operator → made.node ≡ from.node → made.given ≡ 0 → StageOpened slot before after' from made
stage-opened slot before after' from made h node given = record {
  took = h.took;
  seats = h.seats;
  stage = record { suits = h.suits; one = h.one; node = node; given = given };
}

-- ---- stages in a row

module _ {H : Type 0} where
  -- no stage, no slot, no seats
  pub stages-none : (n : ℕ) (ss : List (Slot H)) (free : List (List SeatMarks)) (stages old : List (Stage (PhysOperator H))) → stages ≡ [] → ArePlanned ss stages → AllRest n ss free → StagesOpened ss free free stages old old
  stages-none n ss free stages old e planned rest =
      subst (λ (sts : List (Stage (PhysOperator H))). StagesOpened ss free free sts old old) (sym e) (none ss free (subst (λ (sts : List (Stage (PhysOperator H))). ArePlanned ss sts) e planned) rest)
    where
      none : (ss : List (Slot H)) (free : List (List SeatMarks)) → ArePlanned ss [] → AllRest n ss free → StagesOpened ss free free [] old old
      none [] [] p r = record { took = []; made = []; pushed = sym (append-nil old); seats = refl; each = tt }
      none [] (v ∷ free) p r = absurd r
      none (s ∷ ss) free p r = absurd p

  pub rest-none : (n m : ℕ) (ss : List (Slot H)) (free : List (List SeatMarks)) (stages : List (Stage (PhysOperator H))) → stages ≡ [] → ArePlanned ss stages → AllRest n ss free → AllRest m ss free
  rest-none n m ss free stages e planned rest = none ss free (subst (λ (sts : List (Stage (PhysOperator H))). ArePlanned ss sts) e planned) rest
    where
      none : (ss : List (Slot H)) (free : List (List SeatMarks)) → ArePlanned ss [] → AllRest n ss free → AllRest m ss free
      none [] [] p r = tt
      none [] (v ∷ free) p r = absurd r
      none (s ∷ ss) free p r = absurd p

  -- a stage, and those behind it
  pub stages-more : (slot : Slot H) (ss : List (Slot H)) (v w : List SeatMarks) (vs ws : List (List SeatMarks)) (st made : Stage (PhysOperator H)) (sts old mid new : List (Stage (PhysOperator H))) → mid ≡ old ++ made ∷ [] → StageOpened slot v w st made → StagesOpened ss vs ws sts mid new → StagesOpened (slot ∷ ss) (v ∷ vs) (w ∷ ws) (st ∷ sts) old new
  stages-more slot ss v w vs ws st made sts old mid new e one all = record {
    took = one.took ∷ all.took;
    made = made ∷ all.made;
    pushed = all.pushed ∙ ap (λ l. l ++ all.made) e ∙ append_assoc old (made ∷ []) all.made;
    seats = ap (λ x. x ∷ vs) one.seats ∙ ap (λ l. given_back one.took w ∷ l) all.seats;
    each = (one.stage, all.each);
  }
