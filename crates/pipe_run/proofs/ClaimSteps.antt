-- What one claim does to a lane.
use Rattle.std.proofs.Common.{◌≡◌, ℕ, zero, suc, ◌+◌, ◌<◌, ◌≤◌, List, [], ◌∷◌, ◌++◌, length, get_or, Option, Some, None, true, false, cond, le-ltb, refl, ap, sym, ◌∙◌, subst, arith, append-nil, append_assoc, length-append, Bool}
use Rattle.std.specs.List.{All, flat_map}
use Rattle.std.specs.declared.vec.Vec.{Vec}
use Rattle.std.specs.declared.alloc.Global.{Global}
use Rattle.std.proofs.lemmas.List.Concat.{flat_map-append}
use Rattle.pipe_schema.specs.Rows.{Row}
use Rattle.pipe_schema.specs.declared.field.Field.{Field}
use Rattle.pipe_chain.specs.declared.operator.Operator.{Ghosts as OperatorWords}
use Rattle.pipe_ops.specs.declared.sink.Sink.{Ghosts as SinkWords}
use Rattle.pipe_ops.specs.declared.source.Morsel.{Morsel}
use Rattle.pipe_chain.specs.Claims.{SeatClaims}
use Rattle.pipe_chain.specs.Sums.{total}
use Rattle.pipe_run.specs.declared.entry.Entry.{Entry}
use Rattle.pipe_run.specs.declared.stage.LaneFault.{LaneFault}
use Rattle.pipe_run.specs.declared.stage.LaneFault.TheVariants.{Memory}
use Rattle.pipe_run.specs.declared.lane.Lane.{Lane}
use Rattle.pipe_run.specs.Claimed.{rows_in, morsel_rows, entries_for, entries_at, schema_in, IsOfSchema, drawn_at, drawn_in, past, Lot, Took}
use Rattle.std.specs.Option.{is_some}
use Rattle.pipe_run.proofs.LaneSteps.{ran-none, ran-on}
use Rattle.pipe_chain.specs.Chain.{AllServe}
use Rattle.pipe_run.specs.Lanes.{lane_operators, IsCalm, IsFit, SameLane, Ran}
use Rattle.pipe_run.proofs.Limits.{over-whole}

-- the rows of a chunk that is there
pub rows-there : (ms : List Morsel) (n : ℕ) (m : Morsel) → n < length ms → m ≡ get_or ms n m → morsel_rows ms n ≡ rows_in m
rows-there [] n m less is = absurd (omega arith)
rows-there (x ∷ ms) zero m less is = ap rows_in (sym is)
rows-there (x ∷ ms) (suc n) m less is = rows-there ms n m (omega arith) is

-- no row past the chunks
pub rows-past : (ms : List Morsel) (n : ℕ) → length ms ≤ n → morsel_rows ms n ≡ []
rows-past [] n h = refl
rows-past (x ∷ ms) zero h = absurd (omega arith)
rows-past (x ∷ ms) (suc n) h = rows-past ms n (omega arith)

-- what is noted of a chunk that is there, and nothing past the chunks
pub entries-there : (ms : List Morsel) (n : ℕ) (m : Morsel) → n < length ms → m ≡ get_or ms n m → entries_at ms n ≡ entries_for m
entries-there [] n m less is = absurd (omega arith)
entries-there (x ∷ ms) zero m less is = ap entries_for (sym is)
entries-there (x ∷ ms) (suc n) m less is = entries-there ms n m (omega arith) is

pub entries-past : (ms : List Morsel) (n : ℕ) → length ms ≤ n → entries_at ms n ≡ []
entries-past [] n h = refl
entries-past (x ∷ ms) zero h = absurd (omega arith)
entries-past (x ∷ ms) (suc n) h = entries-past ms n (omega arith)

-- one number more
module _ {A : Type 0} (f : ℕ → List A) where
  pub flat-more : (drawn after : List ℕ) (n : ℕ) → after ≡ drawn ++ n ∷ [] → flat_map f after ≡ flat_map f drawn ++ f n
  flat-more drawn after n e =
      ap (flat_map f) e ∙ flat_map-append f drawn (n ∷ []) ∙ ap (λ l. flat_map f drawn ++ l) (append-nil (f n))

  pub flat-same : (drawn after : List ℕ) (n : ℕ) → after ≡ drawn ++ n ∷ [] → f n ≡ [] → flat_map f after ≡ flat_map f drawn
  flat-same drawn after n e none =
      flat-more drawn after n e ∙ ap (λ l. flat_map f drawn ++ l) none ∙ append-nil (flat_map f drawn)

total-last : (w : ℕ → ℕ) (xs : List ℕ) (n : ℕ) → total w (xs ++ n ∷ []) ≡ total w xs + w n
total-last w [] n = omega arith
total-last w (x ∷ xs) n = omega (arith, total-last w xs n)

-- a number past the end was drawn
pub past-drawn : (end : ℕ) (drawn after : List ℕ) (n : ℕ) → after ≡ drawn ++ n ∷ [] → end ≤ n → 0 < total (past end) after
past-drawn end drawn after n e h =
    let one : past end n ≡ 1 = ap (λ b. cond b 0 1) (le-ltb n end h) in
    omega (arith, ap (total (past end)) e, total-last (past end) drawn n, one)

module _ {O S K B C : Type 0} (op : OperatorWords O S) (sink : SinkWords K B C) (ss : List S) (limit : ℕ) (from : List Field) where
  abbrev Fit : Lane O K → Type 0
  Fit lane = IsFit op sink ss limit from lane

  abbrev Did : List Row → Lane O K → Lane O K → Type 0
  Did rows old new = Ran op sink ss limit from rows old new

  -- another seat and other notes change nothing else
  pub fit-noted : (a : Lane O K) (seat : Option SeatClaims) (entries : Vec Entry Global) → Fit a → Fit (record a { seat = seat; entries = entries })
  fit-noted a seat entries fit = record { serve = fit.serve; chain = fit.chain; still = fit.still; within = fit.within; room = fit.room }

  pub fit-next : (a b : Lane O K) → b ≡ record a { seat = b.seat; entries = b.entries } → Fit a → Fit b
  fit-next a b e fit = subst (λ (l : Lane O K). Fit l) (sym e) (fit-noted a b.seat b.entries fit)

  same-noted : (a b : Lane O K) (seat : Option SeatClaims) (entries : Vec Entry Global) → SameLane op sink a b → SameLane op sink a (record b { seat = seat; entries = entries })
  same-noted a b seat entries h = record { work = h.work; nodes = h.nodes; setting = h.setting; schema = h.schema; gives = h.gives }

  ran-noted : (rows : List Row) (a b : Lane O K) (seat : Option SeatClaims) (entries : Vec Entry Global) → Did rows a b → Did rows a (record b { seat = seat; entries = entries })
  ran-noted rows a b seat entries h = record { same = same-noted a b seat entries h.same; went = h.went; stopped = h.stopped; kept = h.kept }

  pub ran-next : (rows : List Row) (a b c : Lane O K) → c ≡ record b { seat = c.seat; entries = c.entries } → Did rows a b → Did rows a c
  ran-next rows a b c e h = subst (λ (l : Lane O K). Did rows a l) (sym e) (ran-noted rows a b c.seat c.entries h)

  -- a lane that is refused memory
  fit-refused : (a : Lane O K) (entries : Vec Entry Global) → Fit a → Fit (record a { entries = entries; refused = Some Memory })
  fit-refused a entries fit = record { serve = fit.serve; chain = fit.chain; still = λ e. cc; within = λ e. cc; room = λ e. cc }

  pub fit-stopped : (a b : Lane O K) → b ≡ record a { entries = b.entries; refused = Some Memory } → Fit a → Fit b
  fit-stopped a b e fit = subst (λ (l : Lane O K). Fit l) (sym e) (fit-refused a b.entries fit)

  same-refused : (a b : Lane O K) (entries : Vec Entry Global) → SameLane op sink a b → SameLane op sink a (record b { entries = entries; refused = Some Memory })
  same-refused a b entries h = record { work = h.work; nodes = h.nodes; setting = h.setting; schema = h.schema; gives = h.gives }

  ran-refused : (rows : List Row) (a b : Lane O K) (entries : Vec Entry Global) → IsCalm b → Did rows a b → Did rows a (record b { entries = entries; refused = Some Memory })
  ran-refused rows a b entries calm h = record {
    same = same-refused a b entries h.same;
    went = λ e. cc;
    stopped = λ e. over-whole _ _ _ _ _ _ _ _ _ _ _ (h.went calm) tt;
    kept = λ e. cc;
  }

  pub ran-stopped : (rows : List Row) (a b c : Lane O K) → c ≡ record b { entries = c.entries; refused = Some Memory } → IsCalm b → Did rows a b → Did rows a c
  ran-stopped rows a b c e calm h = subst (λ (l : Lane O K). Did rows a l) (sym e) (ran-refused rows a b c.entries calm h)

  pub fit-under : (f : List Field) (a : Lane O K) → f ≡ from → IsFit op sink ss limit f a → Fit a
  fit-under f a e h = subst (λ (x : List Field). IsFit op sink ss limit x a) e h

-- first other notes, and then another seat
module _ {O K : Type 0} where
  pub lane-next : (a b c : Lane O K) → b ≡ record a { entries = b.entries } → c ≡ record b { seat = c.seat } → c ≡ record a { seat = c.seat; entries = c.entries }
  lane-next a b c e f =
      subst (λ (x : Vec Entry Global). c ≡ record a { seat = c.seat; entries = x }) (sym (ap (λ (l : Lane O K). l.entries) f)) (f ∙ ap (λ (l : Lane O K). record l { seat = c.seat }) e)

module _ {O S K B C : Type 0} (op : OperatorWords O S) (sink : SinkWords K B C) (ss : List S) (limit : ℕ) (lot : Lot) where
  abbrev Took_ : List ℕ → Lane O K → Lane O K → Type 0
  Took_ ns old new = Took op sink ss limit lot ns old new

  took-as : (ns drawn : List ℕ) (a b : Lane O K) → drawn ≡ ns → Took_ ns a b → Took_ drawn a b
  took-as ns drawn a b e h = subst (λ (l : List ℕ). Took_ l a b) (sym e) h

  -- a lane that drew nothing took nothing
  pub took-fresh : (a : Lane O K) → AllServe op (lane_operators a) ss → drawn_in a ≡ [] → Took_ (drawn_in a) a a
  took-fresh a serve fresh =
      took-as [] (drawn_in a) a a fresh (record { ran = ran-none op sink ss limit lot.from a serve; entries = sym (append-nil a.entries.items) })

  -- a number past the last stands for nothing
  pub took-past : (a b c : Lane O K) (n : ℕ) → Took_ (drawn_in b) a b → c ≡ record b { seat = c.seat; entries = c.entries } → c.entries.items ≡ b.entries.items → drawn_in c ≡ drawn_in b ++ n ∷ [] → lot.rows n ≡ [] → lot.entries n ≡ [] → Took_ (drawn_in c) a c
  took-past a b c n known same noted drawn no_rows no_entries =
      let rows = flat-same lot.rows (drawn_in b) (drawn_in c) n drawn no_rows in
      let entries = flat-same lot.entries (drawn_in b) (drawn_in c) n drawn no_entries in
      record {
        ran = subst (λ (l : List Row). Ran op sink ss limit lot.from l a c) (sym rows) (ran-next op sink ss limit lot.from (flat_map lot.rows (drawn_in b)) a b c same known.ran);
        entries = noted ∙ known.entries ∙ ap (λ l. a.entries.items ++ l) (sym entries);
      }

  -- something was taken and worked on
  pub took-worked : (a b c d : Lane O K) (n : ℕ) (f : List Field) (mine : List Row) (noting : List Entry) → Took_ (drawn_in b) a b → c ≡ record b { seat = c.seat; entries = c.entries } → c.entries.items ≡ b.entries.items → drawn_in c ≡ drawn_in b ++ n ∷ [] → lot.rows n ≡ mine → lot.entries n ≡ noting → f ≡ lot.from → IsCalm b
      → Ran op sink ss limit f mine c d → d.entries.items ≡ c.entries.items ++ noting → d.seat ≡ c.seat → Took_ (drawn_in d) a d
  took-worked a b c d n f mine noting known same noted drawn rows_are entries_are under calm worked more seat =
      let calm_c : IsCalm c = ap (λ (l : Lane O K). l.refused) same ∙ calm in
      let before = flat_map lot.rows (drawn_in b) in
      let here = subst (λ (x : List Field). Ran op sink ss limit x mine c d) under worked in
      let both = ran-on op sink ss limit lot.from before mine a c d calm_c (ran-next op sink ss limit lot.from before a b c same known.ran) here in
      let all : drawn_in d ≡ drawn_in b ++ n ∷ [] = ap drawn_at seat ∙ drawn in
      let rows : flat_map lot.rows (drawn_in d) ≡ before ++ mine = flat-more lot.rows (drawn_in b) (drawn_in d) n all ∙ ap (λ l. before ++ l) rows_are in
      let entries : flat_map lot.entries (drawn_in d) ≡ flat_map lot.entries (drawn_in b) ++ noting =
      flat-more lot.entries (drawn_in b) (drawn_in d) n all ∙ ap (λ l. flat_map lot.entries (drawn_in b) ++ l) entries_are in
      record {
        ran = subst (λ (l : List Row). Ran op sink ss limit lot.from l a d) (sym rows) both;
        entries = more ∙ ap (λ l. l ++ noting) (noted ∙ known.entries) ∙ append_assoc a.entries.items (flat_map lot.entries (drawn_in b)) noting ∙ ap (λ l. a.entries.items ++ l) (sym entries);
      }

  -- memory was refused before a claim
  pub took-stopped : (a b c : Lane O K) → IsCalm b → Took_ (drawn_in b) a b → c ≡ record b { entries = c.entries; refused = Some Memory } → c.entries.items ≡ b.entries.items → Took_ (drawn_in c) a c
  took-stopped a b c calm known stopped noted =
      let same : drawn_in c ≡ drawn_in b = ap (λ (l : Lane O K). drawn_at l.seat) stopped in
      took-as (drawn_in b) (drawn_in c) a c same (record {
        ran = ran-stopped op sink ss limit lot.from (flat_map lot.rows (drawn_in b)) a b c stopped calm known.ran;
        entries = noted ∙ known.entries;
      })

-- the schema of a chunk that is there
pub schema-there : (ms : List Morsel) (n : ℕ) (m : Morsel) → All (IsOfSchema (schema_in ms)) ms → n < length ms → m ≡ get_or ms n m → m.chunk.frame.schema ≡ schema_in ms
schema-there ms n m all less is = ap (λ (x : Morsel). x.chunk.frame.schema) is ∙ all n m less

-- nothing was refused
pub calm-by : (o : Option LaneFault) (b : Bool) → b ≡ is_some o → b ≡ false → o ≡ None
calm-by None b e f = refl
calm-by (Some r) b e f = absurd (let no : true ≡ false = sym e ∙ f in cc)

-- as many numbers as chunks, at most
pub few-more : (drawn after : List ℕ) (n end : ℕ) → after ≡ drawn ++ n ∷ [] → length drawn ≤ n → n < end → length after ≤ end
few-more drawn after n end e later less = omega (arith, ap length e, length-append drawn (n ∷ []))
