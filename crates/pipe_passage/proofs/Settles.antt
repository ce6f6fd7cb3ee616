-- The last leg leaves its first stage: what a flush wants, and what it leaves.
use Rattle.std.proofs.Common.{◌≡◌, ℕ, zero, suc, ◌+◌, ◌<◌, ◌≤◌, List, [], ◌∷◌, ◌++◌, length, get_or, drop, Option, Some, None, map, true, refl, ap, sym, ◌∙◌, subst, arith}
use Rattle.std.specs.List.{All, AllByRecursion, flat_map, range_with_len}
use Rattle.pipe_schema.specs.Rows.{Row}
use Rattle.pipe_schema.specs.declared.field.Field.{Field}
use Rattle.pipe_ops.specs.declared.sink.Sink.{Ghosts as SinkWords}
use Rattle.pipe_table.specs.declared.spec.JoinSpec.{JoinSpec}
use Rattle.pipe_chain.specs.Flags.{SeatMarks}
use Rattle.pipe_chain.specs.Chain.{AllServe}
use Rattle.pipe_chain.specs.Counts.{AllWithin}
use Rattle.pipe_chain.specs.declared.operator.Operator.{Ghosts as OperatorWords}
use Rattle.pipe_outer.specs.FullProbe.{FullProbing}
use Rattle.pipe_expr.specs.declared.join_words.JoinType.TheVariants as how
use Rattle.pipe_outer.specs.MarkProbe.{MarkProbing, gives_built}
use Rattle.pipe_outer.specs.declared.due.FlushDue.{FlushDue}
use Rattle.pipe_outer.specs.Unmet.{FullRows, IsClosed, EndsMarking, AreSeatsOf}
use Rattle.pipe_outer.specs.declared.marks.Marks.{Marks}
use Rattle.pipe_outer.specs.declared.marks.Marks.TheVariants as marks
use Rattle.pipe_run.specs.declared.lane.Lane.{Lane}
use Rattle.pipe_run.specs.declared.stage.Stage.{Stage}
use Rattle.pipe_run.specs.Dealt.{AreAlike, DoTheSame, WentAll, works_in, nodes_in, acts_in, counts_in}
use Rattle.pipe_run.specs.Flushes.{flushed_at, flushed_by, flushed_in, IsFlusher, HasFlusher, IsFlushFit, rows_of_parts}
use Rattle.pipe_run.specs.Lanes.{lane_operators, held_in, IsCalm, IsFit}
use Rattle.pipe_run.proofs.Limits.{went-none}
use Rattle.pipe_run.proofs.RoundSteps.{same-lanes-refl, lanes-acts-length, counts-in-length}
use Rattle.pipe_slots.specs.CallBackWords.{KeepsNothing}
use Rattle.pipe_slots.specs.JoinWords.{parts_by, parts_in, part_in}
use Rattle.pipe_run.specs.declared.note.Note.{Note}
use Rattle.pipe_run.specs.Notes.{HasNothing, entries_of_parts}
use Rattle.pipe_run.specs.Noted.{IsNotedSince}
use Rattle.pipe_run.proofs.GoingOn.{none_noted}
use Rattle.pipe_passage.specs.Passages.{phys_words, IsPassing, HasLeft, HasSettled, HasFewParts, GivesSchemas}
use Rattle.pipe_slots.specs.PhysWords.{output_of, flushed_of, suits_of, seated_of, closed_of, idle_of}
use Rattle.pipe_passage.specs.LaneSeats.{stage_with, LaneLeft, LanesLeft, StageLeft, AreRest, IsRest}
use Rattle.pipe_slots.specs.Seats.{with_seat}
use Rattle.pipe_slots.specs.SlotTables.{CanClose, EndsAs, OnFull, IsClosedAs}
use Rattle.pipe_slots.specs.declared.call_back.CallBack.{CallBack}
use Rattle.pipe_slots.specs.declared.call_back.CallBack.TheVariants as probe
use Rattle.pipe_slots.specs.declared.phys_operator.PhysOperator.{PhysOperator}
use Rattle.pipe_slots.specs.declared.phys_operator.PhysOperator.TheVariants as op
use Rattle.pipe_slots.specs.declared.slot.Slot.{Slot}
use Rattle.pipe_slots.specs.declared.slot.Slot.TheVariants.{Empty, Keys, Rows, Full, Spent}
use Rattle.pipe_passage.proofs.Left.{first_schema, left-next, left-operators, left-all, left-alike, left-passing, left-fits, left-length, still-passing, has-left, has-left-next, passing-there}

-- ---- what all seats close

seats-all : (m : Marks) (v : List SeatMarks) → AreRest 0 m v → AreSeatsOf m v
seats-all (marks.Running f) v h = h.0
seats-all (marks.Closed f) v h = absurd h

pub can-close : {H : Type 0} (slot : Slot H) (v : List SeatMarks) → IsRest 0 slot v → CanClose slot v
can-close Empty v h = tt
can-close (Keys t) v h = tt
can-close (Rows f) v h = tt
can-close (Full t) v h = seats-all t.marks v h
can-close Spent v h = tt

ends-closed : (m : Marks) (v : List SeatMarks) (n : Marks) → EndsMarking m v n → IsClosed n
ends-closed (marks.Running f) v (marks.Running g) h = absurd h
ends-closed (marks.Running f) v (marks.Closed g) h = tt
ends-closed (marks.Closed f) v (marks.Running g) h = absurd h
ends-closed (marks.Closed f) v (marks.Closed g) h = absurd h

-- its partitions stay as they are
pub closed-parts : {H : Type 0} (slot : Slot H) (v : List SeatMarks) (closed : Slot H) → IsClosedAs slot v closed → parts_in closed ≡ parts_in slot
closed-parts Empty v closed h = ap parts_in h
closed-parts (Keys t) v closed h = ap parts_in h
closed-parts (Rows f) v closed h = ap parts_in h
closed-parts (Full t) v Empty h = absurd h
closed-parts (Full t) v (Keys u) h = absurd h
closed-parts (Full t) v (Rows u) h = absurd h
closed-parts (Full t) v (Full u) h = ap (λ (table : _). parts_by table.spec.how table.parts) h.table_is
closed-parts (Full t) v Spent h = absurd h
closed-parts Spent v closed h = ap parts_in h

-- ---- an operator without its seat

pub flushed-with : {H : Type 0} (o : PhysOperator H) → flushed_of (with_seat None o) ≡ flushed_of o
flushed-with (op.Filter f) = refl
flushed-with (op.SimpleProjection p) = refl
flushed-with (op.Projection p) = refl
flushed-with (op.Hstack p) = refl
flushed-with (op.Function f) = refl
flushed-with (op.Pass p) = refl
flushed-with (op.PlaceHolder p) = refl
flushed-with (op.CallBack (probe.Join p)) = refl
flushed-with (op.CallBack (probe.Cross p)) = refl
flushed-with (op.CallBack (probe.Full p)) = refl
flushed-with (op.CallBack (probe.Mark p)) = refl

pub idle-with : {H : Type 0} (o : PhysOperator H) → idle_of o → idle_of (with_seat None o)
idle-with (op.Filter f) h = h
idle-with (op.SimpleProjection p) h = h
idle-with (op.Projection p) h = h
idle-with (op.Hstack p) h = h
idle-with (op.Function f) h = h
idle-with (op.Pass p) h = h
idle-with (op.PlaceHolder p) h = h
idle-with (op.CallBack (probe.Join p)) h = h
idle-with (op.CallBack (probe.Cross p)) h = h
idle-with (op.CallBack (probe.Full p)) h = h
idle-with (op.CallBack (probe.Mark p)) h = h

-- where there are flags, a flush gives the schema that chunks give
pub full-flushed : {H : Type 0} (t : FullRows H) (o : PhysOperator H) (from : List Field) → suits_of o (Full t) → seated_of o (Full t) → flushed_of o ≡ output_of o from
full-flushed t (op.Filter f) from h k = absurd h
full-flushed t (op.SimpleProjection p) from h k = absurd h
full-flushed t (op.Projection p) from h k = absurd h
full-flushed t (op.Hstack p) from h k = absurd h
full-flushed t (op.Function f) from h k = absurd h
full-flushed t (op.Pass p) from h k = absurd h
full-flushed t (op.PlaceHolder p) from h k = absurd k
full-flushed t (op.CallBack (probe.Join p)) from h k = absurd h
full-flushed t (op.CallBack (probe.Cross p)) from h k = absurd h
full-flushed t (op.CallBack (probe.Full p)) from h k = refl
full-flushed t (op.CallBack (probe.Mark p)) from h k = refl

module _ {H : Type 0} (hash_of : H → List ℕ → ℕ) where
  full-closes : (p : FullProbing) (due : Option FlushDue) (t u : FullRows H) (v : List SeatMarks) → p.due ≡ due → due ≡ None → t.table.spec ≡ p.spec → EndsAs t v u → p.spec.how ≡ how.Full → closed_of hash_of (op.CallBack (probe.Full (record p { seat = None }))) (Full u)
  full-closes p due t u v e none suits ends kind = (
    kind,
    record {
      suits = ap (λ (table : _). table.spec) ends.table_is ∙ suits;
      flags = ends-closed t.marks v u.marks ends.marks;
      place = rw (e, none) tt;
      alone = rw (e, none) tt;
    },
  )

  mark-closes : (p : MarkProbing) (due : Option FlushDue) (t u : FullRows H) (v : List SeatMarks) → p.due ≡ due → due ≡ None → t.table.spec ≡ p.spec → EndsAs t v u → gives_built p.spec.how p.spec.swapped ≡ true → closed_of hash_of (op.CallBack (probe.Mark (record p { seat = None }))) (Full u)
  mark-closes p due t u v e none suits ends marks_built = (
    marks_built,
    record {
      suits = ap (λ (table : _). table.spec) ends.table_is ∙ suits;
      flags = ends-closed t.marks v u.marks ends.marks;
      place = rw (e, none) tt;
      alone = rw (e, none) tt;
    },
  )

  -- an idle operator may flush a table whose flags are closed
  pub closes-one : (t u : FullRows H) (v : List SeatMarks) (o : PhysOperator H) → suits_of o (Full t) → seated_of o (Full t) → idle_of o → EndsAs t v u → closed_of hash_of (with_seat None o) (Full u)
  closes-one t u v (op.Filter f) h k i e = absurd h
  closes-one t u v (op.SimpleProjection p) h k i e = absurd h
  closes-one t u v (op.Projection p) h k i e = absurd h
  closes-one t u v (op.Hstack p) h k i e = absurd h
  closes-one t u v (op.Function f) h k i e = absurd h
  closes-one t u v (op.Pass p) h k i e = absurd h
  closes-one t u v (op.PlaceHolder p) h k i e = absurd k
  closes-one t u v (op.CallBack (probe.Join p)) h k i e = absurd h
  closes-one t u v (op.CallBack (probe.Cross p)) h k i e = absurd h
  closes-one t u v (op.CallBack (probe.Full p)) h k i e = full-closes p None t u v i.1 refl h.0 e h.1
  closes-one t u v (op.CallBack (probe.Mark p)) h k i e = mark-closes p None t u v i.1 refl h.0 e h.1

  -- ---- the operator that was taken off last

  last-flushed : (fs : List (Stage (PhysOperator H))) (st : Stage (PhysOperator H)) → flushed_at (phys_words hash_of) (fs ++ st ∷ []) ≡ flushed_of st.operator
  last-flushed [] st = refl
  last-flushed (f ∷ []) st = refl
  last-flushed (f ∷ g ∷ fs) st = last-flushed (g ∷ fs) st

  last-flusher : (s : Slot H) (from : List Field) (Calm : Type 0) (fs : List (Stage (PhysOperator H))) (st : Stage (PhysOperator H)) → IsFlusher (phys_words hash_of) s from Calm st.operator → HasFlusher (phys_words hash_of) s from Calm (fs ++ st ∷ [])
  last-flusher s from Calm [] st h = h
  last-flusher s from Calm (f ∷ []) st h = h
  last-flusher s from Calm (f ∷ g ∷ fs) st h = last-flusher s from Calm (g ∷ fs) st h

  module _ {K : Type 0} where
    module _ {B C : Type 0} (sink : SinkWords K B C) (limit : ℕ) (from : List Field) (t u : FullRows H) (ss : List (Slot H)) (v w : List SeatMarks) (free : List (List SeatMarks)) (xs ys : List (Lane (PhysOperator H) K)) (p : IsPassing hash_of sink limit from xs (Full t ∷ ss) (v ∷ free)) (h : LanesLeft v w xs ys) (e : EndsAs t w u) where
      abbrev next : List Field
      next = first_schema p.schemas

      -- what a lane had, that is kept for its flush
      abbrev Had : (Lane (PhysOperator H) K) → Type 0
      Had x = IsFit (phys_words hash_of) sink (Full t ∷ ss) limit from x × GivesSchemas from p.schemas x × IsCalm x

      had : All Had xs
      had = λ i d less. (p.fit i d less, p.gives i d less, p.calm i d less)

      one-flushed : (a b : List SeatMarks) (x y : (Lane (PhysOperator H) K)) → LaneLeft a b x y → Had x → flushed_by (phys_words hash_of) y ≡ next
      one-flushed a b x y one q =
          let serve = subst (λ (os : List (PhysOperator H)). AllServe (phys_words hash_of) os (Full t ∷ ss)) (left-operators hash_of a b x y one) q.0.serve in
          ap (flushed_at (phys_words hash_of)) one.flushers
          ∙ last-flushed x.flushers.items (stage_with None one.stage)
          ∙ flushed-with one.stage.operator
          ∙ full-flushed t one.stage.operator from serve.0.suits serve.0.seated
          ∙ left-next hash_of a b x y one from p.schemas q.1

      one-flusher : (a b : List SeatMarks) (x y : (Lane (PhysOperator H) K)) → LaneLeft a b x y → Had x → HasFlusher (phys_words hash_of) (Full u) next (IsCalm y) y.flushers.items
      one-flusher a b x y one q =
          let serve = subst (λ (os : List (PhysOperator H)). AllServe (phys_words hash_of) os (Full t ∷ ss)) (left-operators hash_of a b x y one) q.0.serve in
          let idle = (subst (λ (os : List (PhysOperator H)). AllByRecursion idle_of os) (left-operators hash_of a b x y one) (q.0.still q.2)).0 in
          let flusher : IsFlusher (phys_words hash_of) (Full u) next (IsCalm y) (with_seat None one.stage.operator) = record {
            closed = closes-one t u w one.stage.operator serve.0.suits serve.0.seated idle e;
            from_is = flushed-with one.stage.operator ∙ full-flushed t one.stage.operator from serve.0.suits serve.0.seated ∙ left-next hash_of a b x y one from p.schemas q.1;
            idle = λ calm. idle-with one.stage.operator idle;
          } in
          subst (λ (fs : List (Stage (PhysOperator H))). HasFlusher (phys_words hash_of) (Full u) next (IsCalm y) fs) (sym one.flushers) (last-flusher (Full u) next (IsCalm y) x.flushers.items (stage_with None one.stage) flusher)

      first-flushed : (a b : List SeatMarks) (xs' ys' : List (Lane (PhysOperator H) K)) → 0 < length xs' → LanesLeft a b xs' ys' → All Had xs' → flushed_in (phys_words hash_of) ys' ≡ next
      first-flushed a b [] ys' some k q = absurd (omega arith)
      first-flushed a b (x ∷ xs') [] some k q = absurd k
      first-flushed a b (x ∷ xs') (y ∷ ys') some k q = one-flushed a k.0 x y k.1 (q 0 x (omega arith))

      pub flushed-next : flushed_in (phys_words hash_of) ys ≡ next
      flushed-next = first-flushed v w xs ys p.some h had

      flush-fits-next : All (IsFlushFit (phys_words hash_of) sink (Full u) ss limit next) ys
      flush-fits-next =
          let flushers = left-all hash_of Had (λ (y : (Lane (PhysOperator H) K)). HasFlusher (phys_words hash_of) (Full u) next (IsCalm y) y.flushers.items) one-flusher v w xs ys h had in
          let fits = left-fits hash_of sink limit from (Full t) ss v w free xs ys p h in
          λ i d less. record { fit = fits i d less; flusher = flushers i d less }

      -- what the flush wants
      pub flush-fits : All (IsFlushFit (phys_words hash_of) sink (Full u) ss limit (flushed_in (phys_words hash_of) ys)) ys
      flush-fits = subst (λ (s : List Field). All (IsFlushFit (phys_words hash_of) sink (Full u) ss limit s) ys) (sym flushed-next) flush-fits-next

-- no partition is to be flushed
pub nothing-flushed : {H K B C : Type 0} (hash_of : H → List ℕ → ℕ) (sink : SinkWords K B C) (limit : ℕ) (next : List Field) (ss : List (Slot H)) (free : List (List SeatMarks)) (closed : Slot H) (ys : List (Lane (PhysOperator H) K)) → IsPassing hash_of sink limit next ys ss free → parts_in closed ≡ 0
    → WentAll (phys_words hash_of) sink ss next (rows_of_parts parts_in (part_in hash_of) closed) ys ys
nothing-flushed hash_of sink limit next ss free closed [] p e = absurd (omega (arith, p.some))
nothing-flushed {H} {K} hash_of sink limit next ss free closed (y ∷ ys) p e =
    let serve : All (λ (lane : Lane (PhysOperator H) K). AllServe (phys_words hash_of) (lane_operators lane) ss) (y ∷ ys) = λ i d less. (p.fit i d less).serve in
    let none : rows_of_parts parts_in (part_in hash_of) closed ≡ [] = ap (λ (n : ℕ). flat_map (part_in hash_of closed) (range_with_len 0 n)) e in
    subst (λ (rows : List Row). WentAll (phys_words hash_of) sink ss next rows (y ∷ ys) (y ∷ ys)) (sym none)
    (went-none (works_in (phys_words hash_of) next ss (y ∷ ys)) (acts_in (phys_words hash_of) (y ∷ ys)) (counts_in (y ∷ ys)) (flat_map (held_in sink.held) (y ∷ ys)) (lanes-acts-length (phys_words hash_of) ss next (y ∷ ys) p.some p.alike serve) (counts-in-length (phys_words hash_of) ss next (works_in (phys_words hash_of) next ss (y ∷ ys)) (nodes_in (y ∷ ys)) y ys p.alike serve))

-- ---- the stage was settled

module _ {H : Type 0} where
  -- what has partitions to flush is a table with flags
  only-full : (w : List SeatMarks) (Q : Slot H → Slot H → Type 0) → ((t u : FullRows H) → EndsAs t w u → Q (Full t) (Full u)) → (slot closed : Slot H) → IsClosedAs slot w closed → 0 < parts_in closed → Q slot closed
  only-full w Q f Empty closed h some = absurd (omega (arith, some, ap (λ (s : Slot H). parts_in s) h))
  only-full w Q f (Keys t) closed h some = absurd (omega (arith, some, ap (λ (s : Slot H). parts_in s) h))
  only-full w Q f (Rows t) closed h some = absurd (omega (arith, some, ap (λ (s : Slot H). parts_in s) h))
  only-full w Q f (Full t) Empty h some = absurd h
  only-full w Q f (Full t) (Keys u) h some = absurd h
  only-full w Q f (Full t) (Rows u) h some = absurd h
  only-full w Q f (Full t) (Full u) h some = f t u h
  only-full w Q f (Full t) Spent h some = absurd h
  only-full w Q f Spent closed h some = absurd (omega (arith, some, ap (λ (s : Slot H). parts_in s) h))

  few-parts : (slot : Slot H) (ss ss' : List (Slot H)) → ss ≡ slot ∷ ss' → HasFewParts ss → parts_in slot < 4294967295
  few-parts slot ss ss' e h = subst (λ (l : List (Slot H)). HasFewParts l) e h

module _ {H K B C : Type 0} (hash_of : H → List ℕ → ℕ) (sink : SinkWords K B C) (limit : ℕ) (from : List Field) where
  abbrev passing-with : List (Slot H) → List (List SeatMarks) → List (Lane (PhysOperator H) K) → Type 0
  passing-with ss free xs = IsPassing hash_of sink limit from xs ss free

  module _ (ss : List (Slot H)) (v w : List SeatMarks) (free : List (List SeatMarks)) (xs ys : List (Lane (PhysOperator H) K)) (h : LanesLeft v w xs ys) where
    fits-of : (slot closed : Slot H) → IsClosedAs slot w closed → 0 < parts_in closed → passing-with (slot ∷ ss) (v ∷ free) xs → All (IsFlushFit (phys_words hash_of) sink closed ss limit (flushed_in (phys_words hash_of) ys)) ys
    fits-of = only-full w
        (λ (s c : Slot H). passing-with (s ∷ ss) (v ∷ free) xs → All (IsFlushFit (phys_words hash_of) sink c ss limit (flushed_in (phys_words hash_of) ys)) ys)
        (λ t u e p. flush-fits hash_of sink limit from t u ss v w free xs ys p h e)

    pub next-of : (slot closed : Slot H) → IsClosedAs slot w closed → 0 < parts_in closed → (p : passing-with (slot ∷ ss) (v ∷ free) xs) → flushed_in (phys_words hash_of) ys ≡ first_schema p.schemas
    next-of = only-full w
        (λ (s c : Slot H). (p : passing-with (s ∷ ss) (v ∷ free) xs) → flushed_in (phys_words hash_of) ys ≡ first_schema p.schemas)
        (λ t u e p. flushed-next hash_of sink limit from t u ss v w free xs ys p h e)

    module _ (slot closed : Slot H) (c : IsClosedAs slot w closed) (p : passing-with (slot ∷ ss) (v ∷ free) xs) where
      alike-of : 0 < parts_in closed → AreAlike (phys_words hash_of) (flushed_in (phys_words hash_of) ys) ss ys
      alike-of some =
          subst (λ (s : List Field). AreAlike (phys_words hash_of) s ss ys) (sym (next-of slot closed c some p)) (left-alike hash_of sink limit from slot ss v w free xs ys p h)

      none-of : parts_in closed ≡ 0 → (notes : List Note) → HasSettled hash_of sink limit from xs ys (slot ∷ ss) ss (v ∷ free) free 0 notes notes
      none-of none notes =
          let left = has-left hash_of sink limit from slot ss v w free xs ys p h in
          record {
            slot = slot;
            seats = w;
            mid = ys;
            left = left;
            closed = closed;
            closes = c;
            same = same-lanes-refl (phys_words hash_of) sink ys;
            passing = left.passing;
            went = nothing-flushed hash_of sink limit left.next ss free closed ys left.passing none;
            parts_are = sym none;
            noted = none_noted (length xs) (entries_of_parts 0) notes;
          }

      module _ (zs : List (Lane (PhysOperator H) K)) (some : 0 < parts_in closed) (same : DoTheSame (phys_words hash_of) sink ys zs) (alike : AreAlike (phys_words hash_of) (flushed_in (phys_words hash_of) ys) ss zs) (calm : All IsCalm zs)
          (fits : All (IsFlushFit (phys_words hash_of) sink closed ss limit (flushed_in (phys_words hash_of) ys)) zs) (within : AllWithin limit (counts_in zs)) (went : WentAll (phys_words hash_of) sink ss (flushed_in (phys_words hash_of) ys) (rows_of_parts parts_in (part_in hash_of) closed) ys zs)
          (parts : ℕ) (parts_are : parts ≡ parts_in closed) (notes notes' : List Note) (noted : IsNotedSince (length ys) (parts_in closed) (entries_of_parts (parts_in closed)) notes notes') (nothing : AllByRecursion HasNothing zs) where
        flushed-of : HasSettled hash_of sink limit from xs zs (slot ∷ ss) ss (v ∷ free) free parts notes notes'
        flushed-of =
            let left = has-left hash_of sink limit from slot ss v w free xs ys p h in
            let is : flushed_in (phys_words hash_of) ys ≡ left.next = next-of slot closed c some p ∙ sym (has-left-next hash_of sink limit from slot ss v w free xs ys p h) in
            record {
              slot = slot;
              seats = w;
              mid = ys;
              left = left;
              closed = closed;
              closes = c;
              same = same;
              passing = still-passing hash_of sink limit left.next ys zs ss free left.passing same
                  (subst (λ (s : List Field). AreAlike (phys_words hash_of) s ss zs) is alike) calm
                  (λ i d less. subst (λ (s : List Field). IsFit (phys_words hash_of) sink ss limit s (get_or zs i d)) is (fits i d less).fit) within nothing;
              went = subst (λ (s : List Field). WentAll (phys_words hash_of) sink ss s (rows_of_parts parts_in (part_in hash_of) closed) ys zs) is went;
              parts_are = parts_are;
              noted = subst (λ (n : ℕ). IsNotedSince (length xs) n (entries_of_parts n) notes notes') (sym parts_are) (subst (λ (n : ℕ). IsNotedSince n (parts_in closed) (entries_of_parts (parts_in closed)) notes notes') (left-length hash_of v w xs ys h) noted);
            }

  -- ---- by what was taken off

  module _ (slot closed : Slot H) (w : List SeatMarks) (xs ys : List (Lane (PhysOperator H) K)) (ss ss' : List (Slot H)) (free free' : List (List SeatMarks)) (h : StageLeft slot w xs ys ss ss' free free') (p : passing-with ss free xs) where
    pub there : IsPassing hash_of sink limit from xs (slot ∷ ss') (h.first ∷ free')
    there = passing-there hash_of sink limit from slot w xs ys ss ss' free free' h p

    -- all seats are in
    pub all-in : CanClose slot w
    all-in = can-close slot w (has-left hash_of sink limit from slot ss' h.first w free' xs ys there h.lanes).all_in

    pub left-on : IsPassing hash_of sink limit (first_schema there.schemas) ys ss' free'
    left-on = left-passing hash_of sink limit from slot ss' h.first w free' xs ys there h.lanes

    back : (zs : List (Lane (PhysOperator H) K)) (parts : ℕ) (notes notes' : List Note) → HasSettled hash_of sink limit from xs zs (slot ∷ ss') ss' (h.first ∷ free') free' parts notes notes' → HasSettled hash_of sink limit from xs zs ss ss' free free' parts notes notes'
    back zs parts notes notes' settled =
        subst (λ (l : List (Slot H)). HasSettled hash_of sink limit from xs zs l ss' free free' parts notes notes') (sym h.shared)
        (subst (λ (f : List (List SeatMarks)). HasSettled hash_of sink limit from xs zs (slot ∷ ss') ss' f free' parts notes notes') (sym h.seats_are) settled)

    module _ (c : IsClosedAs slot w closed) where
      pub settled-none : parts_in closed ≡ 0 → (notes : List Note) → HasSettled hash_of sink limit from xs ys ss ss' free free' 0 notes notes
      settled-none none notes = back ys 0 notes notes (none-of ss' h.first w free' xs ys h.lanes slot closed c there none notes)

      pub few-flushed : HasFewParts ss → parts_in closed < 4294967295
      few-flushed few = omega (arith, closed-parts slot w closed c, few-parts slot ss ss' h.shared few)

      module _ (some : 0 < parts_in closed) where
        pub alike-flushed : AreAlike (phys_words hash_of) (flushed_in (phys_words hash_of) ys) ss' ys
        alike-flushed = alike-of ss' h.first w free' xs ys h.lanes slot closed c there some

        pub fits-flushed : All (IsFlushFit (phys_words hash_of) sink closed ss' limit (flushed_in (phys_words hash_of) ys)) ys
        fits-flushed = fits-of ss' h.first w free' xs ys h.lanes slot closed c some there

        pub settled-flushed : (zs : List (Lane (PhysOperator H) K)) → DoTheSame (phys_words hash_of) sink ys zs → AreAlike (phys_words hash_of) (flushed_in (phys_words hash_of) ys) ss' zs → All IsCalm zs
            → All (IsFlushFit (phys_words hash_of) sink closed ss' limit (flushed_in (phys_words hash_of) ys)) zs → AllWithin limit (counts_in zs) → WentAll (phys_words hash_of) sink ss' (flushed_in (phys_words hash_of) ys) (rows_of_parts parts_in (part_in hash_of) closed) ys zs
            → (parts : ℕ) → parts ≡ parts_in closed → (notes notes' : List Note) → IsNotedSince (length ys) (parts_in closed) (entries_of_parts (parts_in closed)) notes notes' → AllByRecursion HasNothing zs → HasSettled hash_of sink limit from xs zs ss ss' free free' parts notes notes'
        settled-flushed zs same alike calm fits within went parts parts_are notes notes' noted nothing = back zs parts notes notes' (flushed-of ss' h.first w free' xs ys h.lanes slot closed c there zs some same alike calm fits within went parts parts_are notes notes' noted nothing)
