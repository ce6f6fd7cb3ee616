-- The probe of a join for a lane.
use Rattle.std.specs.Prelude.{◌≡◌, List, Option}
use Rattle.pipe_chain.specs.Flags.{SeatMarks}
use Rattle.pipe_outer.specs.Marking.{seat_acts}
use Rattle.pipe_slots.specs.CallBackWords.{kind_in, spec_in, seated_in, acts_by, idle_in}
use Rattle.pipe_slots.specs.Places.{Place}
use Rattle.pipe_slots.specs.PhysWords.{kind_at}
use Rattle.pipe_passage.specs.LaneSeats.{IsFor, given_back}
use Rattle.pipe_slots.specs.declared.call_back.CallBack.{CallBack}
use Rattle.pipe_slots.specs.declared.slot.Slot.{Slot}

-- the probe of a place, with the seat that it took
pub record ProbeOpened {H : Type 0} (slot : Slot H) (place : Place)
    (before after' : List SeatMarks) (made : CallBack H) : Type 0 where
  pub took : Option SeatMarks
  pub suits : IsFor slot took
  pub seats : before ≡ given_back took after'
  pub kind : kind_in made ≡ kind_at place
  pub spec : spec_in made ≡ place.spec
  pub seated : seated_in made slot
  pub acts : acts_by made ≡ seat_acts took
  pub idle : idle_in made
