-- What pipelines share between their calls, and an engine that has it.
use Rattle.std.proofs.Common.{◌≡◌, ℕ, suc, ◌+◌, ◌<◌, List, [], ◌++◌, length, Option, None, refl, sym, ap, subst, ◌∙◌, arith}
use Rattle.std.specs.Global.{Vec}
use Rattle.pipe_schema.proofs.Weights.{SameBag, SameBag-refl}
use Rattle.pipe_ops.specs.declared.context.PExecutionContext.{PExecutionContext}
use Rattle.pipe_chain.specs.Flags.{SeatMarks}
use Rattle.pipe_driver.specs.Legs.{sink_node}
use Rattle.pipe_driver.specs.Meaning.{Meaning, Into}
use Rattle.pipe_driver.specs.Plans.{at_start}
use Rattle.pipe_driver.specs.State.{World}
use Rattle.pipe_driver.specs.Tables.{number_at}
use Rattle.pipe_driver.specs.Ways.{occurs, IsSoundMeaning}
use Rattle.pipe_passage.specs.LaneSeats.{sum_of, IsRest, HasSeats}
use Rattle.pipe_slots.specs.SlotTables.{slot_at, seats_at}
use Rattle.pipe_engine.specs.declared.engine.FedSink.{FedSink}
use Rattle.pipe_slots.specs.declared.slot.Slot.{Slot}
use Rattle.pipe_slots.specs.declared.slots.Slots.{Slots}
use Rattle.pipe_engine.specs.Engine.{AreCounted, Fits, IsIdle, IsKeptAt, LegFitsOrNone, NoneOpen, SlotFits, nodes_before, rows_for, rows_of_sink}
use Rattle.pipe_engine.specs.Left.{Shares, SharedFit}
use Rattle.pipe_engine.specs.Lent.{AreUnfilled}
use Rattle.pipe_engine.specs.Stands.{Settings}
use Rattle.pipe_engine.specs.declared.engine.Engine.{Engine}
use Rattle.pipe_engine.specs.declared.engine.OpenLeg.{OpenLeg}

module _ {H : Type 0} (hash_of : H → List ℕ → ℕ) (x : Settings H) (m : Meaning) (w : World) (shared : Slots H) (e : Engine H) (has : Shares shared e) (idle : IsIdle e) (closed : NoneOpen e) where
  tables : e.slots.slots.items ≡ shared.slots.items
  tables = ap (λ (v : Vec (Slot H)). v.items) has.slots

  seats : e.slots.seats.items ≡ shared.seats.items
  seats = ap (λ (v : Vec (List SeatMarks)). v.items) has.seats

  given : e.given.items ≡ shared.given.items
  given = ap (λ (v : Vec ℕ). v.items) has.given

  -- what is at a node
  abbrev OfTables : (List (Slot H) → List (List SeatMarks) → Type 0) → List (Slot H) → Type 0
  OfTables P z = P z e.slots.seats.items

  at_both : (P : List (Slot H) → List (List SeatMarks) → Type 0) → P shared.slots.items shared.seats.items → P e.slots.slots.items e.slots.seats.items
  at_both P holds = subst (OfTables P) (sym tables) (subst (P shared.slots.items) (sym seats) holds)

  back_both : (P : List (Slot H) → List (List SeatMarks) → Type 0) → P e.slots.slots.items e.slots.seats.items → P shared.slots.items shared.seats.items
  back_both P holds = subst (P shared.slots.items) seats (subst (OfTables P) tables holds)

  -- an engine that has what fits, fits
  pub fits_shared : SharedFit x m e.context shared w → IsSoundMeaning m → e.parts ≡ x.parts → 0 < x.parts → x.parts < 4294967295 → e.nodes ≡ m.ordered → length e.sinks.items ≡ suc e.nodes → Fits hash_of e x m w
  fits_shared is sound parts some few ordered places = record {
    sound = sound;
    parts = parts;
    some = some;
    few = few;
    ordered = ordered;
    nodes = ap length tables ∙ is.long;
    seated = ap length seats ∙ is.seated;
    workers = has.workers ∙ is.made_for;
    places = places ∙ ap suc ordered;
    given = ap length given ∙ is.given;
    counted = (
        let G : List ℕ → Type 0 = λ z. AreCounted z e.leg e.context.row_limit w in
        let L : Option (OpenLeg H) → Type 0 = λ l. AreCounted shared.given.items l e.context.row_limit w in
        subst G (sym given) (subst L (sym idle) is.counted));
    sinks = λ s. (
        let Q : Option (FedSink H) → Type 0 = λ z. SameBag (w.there (Into s)) (rows_of_sink z ++ rows_for m e.leg s) in
        let L : Option (OpenLeg H) → Type 0 = λ l. SameBag (w.there (Into s)) (rows_for m l s) in
        subst Q (sym (closed s)) (subst L (sym idle) (is.none s)));
    kept = λ a there. (
        let K : Option (FedSink H) → Type 0 = IsKeptAt x m e.context.row_limit a in
        subst K (sym (closed (sink_node m.ordered a))) tt);
    slots = λ j off. at_both (λ z v. SlotFits x m w j (slot_at z j) (sum_of (seats_at v j))) (is.slots j);
    rest = λ j. at_both (λ z v. IsRest 0 (slot_at z j) (seats_at v j)) (is.rest j);
    enough = λ j. at_both (λ z v. HasSeats e.context.workers (slot_at z j)) (is.enough j);
    taken = λ j on. absurd (let none = ap (λ l. occurs j (nodes_before l)) idle in omega (arith, on, none));
    leg = (let L : Option (OpenLeg H) → Type 0 = LegFitsOrNone hash_of x m w e.context in subst L (sym idle) tt);
  }

  -- and what an engine has that fits, fits
  pub shared_fits : Fits hash_of e x m w → SharedFit x m e.context shared w
  shared_fits fits =
      let none : (j : ℕ) → occurs j (nodes_before e.leg) ≡ 0 = λ j. ap (λ l. occurs j (nodes_before l)) idle in
      record {
        long = ap length (sym tables) ∙ fits.nodes;
        seated = ap length (sym seats) ∙ fits.seated;
        made_for = sym has.workers ∙ fits.workers;
        given = ap length (sym given) ∙ fits.given;
        counted = (
            let G : List ℕ → Type 0 = λ z. AreCounted {H = H} z None e.context.row_limit w in
            let L : Option (OpenLeg H) → Type 0 = λ l. AreCounted e.given.items l e.context.row_limit w in
            subst G given (subst L idle fits.counted));
        none = λ s. (
            let Q : Option (FedSink H) → Type 0 = λ z. SameBag (w.there (Into s)) (rows_of_sink z ++ rows_for m e.leg s) in
            let L : Option (OpenLeg H) → Type 0 = λ l. SameBag (w.there (Into s)) (rows_for m l s) in
            subst L idle (subst Q (closed s) (fits.sinks s)));
        slots = λ j. back_both (λ z v. SlotFits x m w j (slot_at z j) (sum_of (seats_at v j))) (fits.slots j (none j));
        rest = λ j. back_both (λ z v. IsRest 0 (slot_at z j) (seats_at v j)) (fits.rest j);
        enough = λ j. back_both (λ z v. HasSeats e.context.workers (slot_at z j)) (fits.enough j);
      }

-- slots that weren't used fit a plan of which nothing has run
pub fits_unused : {H : Type 0} (x : Settings H) (m : Meaning) (context : PExecutionContext) (shared : Slots H) (nodes : ℕ) → nodes ≡ m.ordered → AreUnfilled nodes context.workers shared → SharedFit x m context shared at_start
fits_unused {H = H} x m context shared nodes many is = record {
  long = is.long ∙ many;
  seated = is.seated ∙ many;
  made_for = is.made_for;
  given = is.given ∙ many;
  counted = record {
    came = λ n lt. (let z = is.none n in let all : 0 ≡ number_at shared.given.items n + 0 = omega (arith, z) in all);
    within = λ n. (let z = is.none n in omega (arith, z));
  };
  none = λ s. SameBag-refl [];
  slots = λ j. (let P : Slot H → Type 0 = λ z. SlotFits x m at_start j z (sum_of (seats_at shared.seats.items j)) in
      subst P (sym (is.empty j)) (record { waits = refl; there = λ join. SameBag-refl []; gained = SameBag-refl [] }));
  rest = λ j. (let P : Slot H → Type 0 = λ z. IsRest 0 z (seats_at shared.seats.items j) in subst P (sym (is.empty j)) tt);
  enough = λ j. (let P : Slot H → Type 0 = HasSeats context.workers in subst P (sym (is.empty j)) tt);
}
