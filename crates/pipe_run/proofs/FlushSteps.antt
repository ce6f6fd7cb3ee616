-- What a partition does to a lane that flushes.
use Rattle.std.proofs.Common.{◌≡◌, ℕ, ◌<◌, List, [], ◌∷◌, ◌++◌, length, map, get_or, Option, Some, None, ap, sym, ◌∙◌, subst, arith}
use Rattle.std.specs.List.{All}
use Rattle.std.proofs.lemmas.List.{get_or-map, length-map}
use Rattle.std.proofs.lemmas.List.Elements.{All-map}
use Rattle.atomic_table.specs.Seated.{TableId}
use Rattle.std.specs.declared.vec.Vec.{Vec}
use Rattle.std.specs.declared.alloc.Global.{Global}
use Rattle.pipe_schema.specs.declared.field.Field.{Field}
use Rattle.pipe_ops.specs.declared.sink.Sink.{Ghosts as SinkWords}
use Rattle.pipe_chain.specs.Claims.{SeatClaims, fresh_claimant}
use Rattle.pipe_chain.specs.declared.operator.Operator.{Ghosts as OperatorWords}
use Rattle.pipe_run.specs.declared.entry.Entry.{Entry}
use Rattle.pipe_run.specs.declared.lane.Lane.{Lane}
use Rattle.pipe_run.specs.declared.stage.LaneFault.TheVariants.{Memory}
use Rattle.pipe_run.specs.declared.stage.Stage.{Stage}
use Rattle.pipe_run.specs.Flushes.{flushed_at, flushed_by, IsFlusher, HasFlusher, IsFlushFit, IsOwnFit}
use Rattle.pipe_run.specs.Seats.{seated, unseated}
use Rattle.pipe_schema.specs.Rows.{Row}
use Rattle.pipe_run.specs.Lanes.{IsCalm, IsFit, SameLane, Ran}
use Rattle.pipe_run.specs.Stages.{Flushed}
use Rattle.pipe_run.proofs.ClaimSteps.{fit-noted}

module _ {O S K B C : Type 0} (op : OperatorWords O S) (sink : SinkWords K B C) (s : S) (ss : List S) (limit : ℕ) (from : List Field) where
  abbrev FlushFit : Lane O K → Type 0
  FlushFit lane = IsFlushFit op sink s ss limit from lane

  pub flushfit-noted : (a : Lane O K) (seat : Option SeatClaims) (entries : Vec Entry Global) → FlushFit a → FlushFit (record a { seat = seat; entries = entries })
  flushfit-noted a seat entries h = record { fit = fit-noted op sink ss limit from a seat entries h.fit; flusher = h.flusher }

  pub flushfit-next : (a b : Lane O K) → b ≡ record a { seat = b.seat; entries = b.entries } → FlushFit a → FlushFit b
  flushfit-next a b e h = subst (λ (l : Lane O K). FlushFit l) (sym e) (flushfit-noted a b.seat b.entries h)

  uncalm : (a : Lane O K) (sts : List (Stage O)) (entries : Vec Entry Global) → HasFlusher op s from (IsCalm a) sts → HasFlusher op s from (IsCalm (record a { entries = entries; refused = Some Memory })) sts
  uncalm a [] entries h = absurd h
  uncalm a (st ∷ []) entries h = record { closed = h.closed; from_is = h.from_is; idle = λ e. cc }
  uncalm a (st ∷ next ∷ sts) entries h = uncalm a (next ∷ sts) entries h

  flushfit-refused : (a : Lane O K) (entries : Vec Entry Global) → FlushFit a → FlushFit (record a { entries = entries; refused = Some Memory })
  flushfit-refused a entries h = record {
    fit = record { serve = h.fit.serve; chain = h.fit.chain; still = λ e. cc; within = λ e. cc; room = λ e. cc };
    flusher = uncalm a a.flushers.items entries h.flusher;
  }

  pub flushfit-stopped : (a b : Lane O K) → b ≡ record a { entries = b.entries; refused = Some Memory } → FlushFit a → FlushFit b
  flushfit-stopped a b e h = subst (λ (l : Lane O K). FlushFit l) (sym e) (flushfit-refused a b.entries h)

  pub flushfit-under : (f : List Field) (a : Lane O K) → f ≡ from → IsFlushFit op sink s ss limit f a → FlushFit a
  flushfit-under f a e h = subst (λ (x : List Field). IsFlushFit op sink s ss limit x a) e h

  from-of : (sts : List (Stage O)) (Calm : Type 0) → HasFlusher op s from Calm sts → flushed_at op sts ≡ from
  from-of [] Calm h = absurd h
  from-of (st ∷ []) Calm h = h.from_is
  from-of (st ∷ next ∷ sts) Calm h = from-of (next ∷ sts) Calm h

  -- the schema of what is flushed is that of the lane's own operator
  pub from-is : (a : Lane O K) → FlushFit a → flushed_by op a ≡ from
  from-is a h = from-of a.flushers.items (IsCalm a) h.flusher

  last-is : (sts : List (Stage O)) (st : Stage O) (Calm : Type 0) → HasFlusher op s from Calm (sts ++ st ∷ []) → IsFlusher op s from Calm st.operator
  last-is [] st Calm h = h
  last-is (x ∷ []) st Calm h = h
  last-is (x ∷ y ∷ sts) st Calm h = last-is (y ∷ sts) st Calm h

  last-has : (sts : List (Stage O)) (st : Stage O) (Calm : Type 0) → IsFlusher op s from Calm st.operator → HasFlusher op s from Calm (sts ++ st ∷ [])
  last-has [] st Calm h = h
  last-has (x ∷ []) st Calm h = h
  last-has (x ∷ y ∷ sts) st Calm h = last-has (y ∷ sts) st Calm h

  pub flusher-is : (all sts : List (Stage O)) (st : Stage O) (Calm : Type 0) → all ≡ sts ++ st ∷ [] → HasFlusher op s from Calm all → IsFlusher op s from Calm st.operator
  flusher-is all sts st Calm e h = last-is sts st Calm (subst (λ (l : List (Stage O)). HasFlusher op s from Calm l) e h)

  pub has-flusher : (all sts : List (Stage O)) (st : Stage O) (Calm : Type 0) → all ≡ sts ++ st ∷ [] → IsFlusher op s from Calm st.operator → HasFlusher op s from Calm all
  has-flusher all sts st Calm e h = subst (λ (l : List (Stage O)). HasFlusher op s from Calm l) (sym e) (last-has sts st Calm h)

  pub flusher-after : (Before Calm : Type 0) (a b : O) → IsFlusher op s from Before a → Flushed op s a b → (Calm → op.idle b) → IsFlusher op s from Calm b
  flusher-after Before Calm a b h k idle = record { closed = k.closed; from_is = k.flushed ∙ h.from_is; idle = idle }

-- ---- all lanes

module _ {O S K B C : Type 0} (op : OperatorWords O S) (sink : SinkWords K B C) (s : S) (ss : List S) (limit : ℕ) where
  pub own-fit : (from : List Field) (a : Lane O K) → IsFlushFit op sink s ss limit from a → IsOwnFit op sink s ss limit a
  own-fit from a h = subst (λ (x : List Field). IsFlushFit op sink s ss limit x a) (sym (from-is op sink s ss limit from a h)) h

  own-seated : (t : TableId) (a : Lane O K) → IsOwnFit op sink s ss limit a → IsOwnFit op sink s ss limit (seated t a)
  own-seated t a h = flushfit-noted op sink s ss limit (flushed_by op a) a (Some (fresh_claimant t)) a.entries h

  pub owns-seated : (from : List Field) (t : TableId) (lanes : List (Lane O K)) → All (IsFlushFit op sink s ss limit from) lanes → All (IsOwnFit op sink s ss limit) (map (seated t) lanes)
  owns-seated from t lanes h =
      All-map (IsOwnFit op sink s ss limit) (seated t) lanes (λ i d less. own-seated t (get_or lanes i d) (own-fit from (get_or lanes i d) (h i d less)))

  pub froms-are : (from : List Field) (lanes : List (Lane O K)) → All (IsFlushFit op sink s ss limit from) lanes → (i : ℕ) (d : Lane O K) → i < length lanes → flushed_by op (get_or lanes i d) ≡ from
  froms-are from lanes h i d less = from-is op sink s ss limit from (get_or lanes i d) (h i d less)

  flushfit-unseated : (from : List Field) (a : Lane O K) → IsFlushFit op sink s ss limit from a → IsFlushFit op sink s ss limit from (unseated a)
  flushfit-unseated from a h = flushfit-noted op sink s ss limit from a None a.entries h

  pub flushfits-unseated : (from : List Field) (lanes : List (Lane O K)) → All (IsFlushFit op sink s ss limit from) lanes → All (IsFlushFit op sink s ss limit from) (map unseated lanes)
  flushfits-unseated from lanes h = All-map (IsFlushFit op sink s ss limit from) unseated lanes (λ i d less. flushfit-unseated from (get_or lanes i d) (h i d less))

  pub flush-serves : (from : List Field) (lanes : List (Lane O K)) → All (IsFlushFit op sink s ss limit from) lanes → All (IsFit op sink ss limit from) lanes
  flush-serves from lanes h = λ i d less. (h i d less).fit

module _ {O S K : Type 0} (op : OperatorWords O S) where
  seated-from : (t : TableId) (lanes : List (Lane O K)) (i : ℕ) (d : Lane O K) → i < length lanes → flushed_by op (get_or (map (seated t) lanes) i d) ≡ flushed_by op (get_or lanes i d)
  seated-from t lanes i d less = ap (flushed_by op) (get_or-map (seated t) lanes i d d less)

  -- the schema of each seated lane is that of all
  pub sat-from : (t : TableId) (from : List Field) (lanes sat : List (Lane O K)) → sat ≡ map (seated t) lanes → ((i : ℕ) (d : Lane O K) → i < length lanes → flushed_by op (get_or lanes i d) ≡ from) → (i : ℕ) (d : Lane O K) → i < length sat → flushed_by op (get_or sat i d) ≡ from
  sat-from t from lanes sat e h i d less =
      let at : i < length lanes = omega (arith, less, ap length e, length-map lanes (seated t)) in
      ap (λ (l : List (Lane O K)). flushed_by op (get_or l i d)) e ∙ seated-from t lanes i d at ∙ h i d at

-- ---- the operator that is flushed, apart from the lane and back

module _ {O S K B C : Type 0} (op : OperatorWords O S) (sink : SinkWords K B C) (ss : List S) (limit : ℕ) (from : List Field) where
  fit-with : (a : Lane O K) (flushers : Vec (Stage O) Global) → IsFit op sink ss limit from a → IsFit op sink ss limit from (record a { flushers = flushers })
  fit-with a flushers h = record { serve = h.serve; chain = h.chain; still = h.still; within = h.within; room = h.room }

  pub fit-apart : (f : List Field) (a : Lane O K) (flushers : Vec (Stage O) Global) → f ≡ from → IsFit op sink ss limit from a → IsFit op sink ss limit f (record a { flushers = flushers })
  fit-apart f a flushers e h = subst (λ (x : List Field). IsFit op sink ss limit x (record a { flushers = flushers })) (sym e) (fit-with a flushers h)

  pub fit-back : (f : List Field) (a : Lane O K) (flushers : Vec (Stage O) Global) → f ≡ from → IsFit op sink ss limit f a → IsFit op sink ss limit from (record a { flushers = flushers })
  fit-back f a flushers e h = fit-with a flushers (subst (λ (x : List Field). IsFit op sink ss limit x a) e h)

  same-with : (a b : Lane O K) (x y : Vec (Stage O) Global) → SameLane op sink (record a { flushers = x }) b → SameLane op sink a (record b { flushers = y })
  same-with a b x y h = record { work = h.work; nodes = h.nodes; setting = h.setting; schema = h.schema; gives = h.gives }

  ran-with : (rows : List Row) (a b : Lane O K) (x y : Vec (Stage O) Global) → Ran op sink ss limit from rows (record a { flushers = x }) b → Ran op sink ss limit from rows a (record b { flushers = y })
  ran-with rows a b x y h = record { same = same-with a b x y h.same; went = h.went; stopped = h.stopped; kept = h.kept }

  pub ran-back : (f : List Field) (rows : List Row) (a b : Lane O K) (x y : Vec (Stage O) Global) → f ≡ from → Ran op sink ss limit f rows (record a { flushers = x }) b → Ran op sink ss limit from rows a (record b { flushers = y })
  ran-back f rows a b x y e h = ran-with rows a b x y (subst (λ (z : List Field). Ran op sink ss limit z rows (record a { flushers = x }) b) e h)
