-- What seats did, all together.
use Rattle.std.proofs.Common.{◌≡◌, ℕ, suc, ◌+◌, List, [], ◌∷◌, ◌++◌, length, Option, Some, None, map, refl, ap, sym, ◌∙◌, arith, append-nil}
use Rattle.std.specs.List.{flat_map}
use Rattle.std.proofs.lemmas.List.Concat.{flat_map-append}
use Rattle.std.proofs.lemmas.List.{map-append}
use Rattle.pipe_schema.specs.Weights.{total}
use Rattle.pipe_schema.proofs.Weights.{total-append}
use Rattle.pipe_chain.specs.Flags.{SeatMarks, marked_by, won_by, all_marked, all_won}
use Rattle.pipe_chain.specs.Flow.{Acts, no_acts, both_acts, added}
use Rattle.pipe_chain.specs.Keys.{SameKeys}
use Rattle.pipe_chain.proofs.Weighing.{keys-weigh, keys-by, keys-refl, keys-sym, keys-trans}
use Rattle.pipe_outer.specs.Marking.{won_key, seat_acts}
use Rattle.pipe_passage.specs.LaneSeats.{given_back, all_back, sum_of, SameActs, AllSameActs, seats_in}

keys-append : (a b c d : List ℕ) → SameKeys a b → SameKeys c d → SameKeys (a ++ c) (b ++ d)
keys-append a b c d h k = keys-by (λ w. omega (arith, keys-weigh h w, keys-weigh k w, total-append w a c, total-append w b d))

-- ---- of one stage

pub one-refl : (a : Acts) → SameActs a a
one-refl a = record { marked = keys-refl a.marked; won = keys-refl a.won }

pub one-sym : (a b : Acts) → SameActs a b → SameActs b a
one-sym a b h = record { marked = keys-sym h.marked; won = keys-sym h.won }

pub one-trans : (a b c : Acts) → SameActs a b → SameActs b c → SameActs a c
one-trans a b c h k = record { marked = keys-trans h.marked k.marked; won = keys-trans h.won k.won }

pub one-beside : (a b c d : Acts) → SameActs a b → SameActs c d → SameActs (both_acts a c) (both_acts b d)
one-beside a b c d h k = record {
  marked = keys-append a.marked b.marked c.marked d.marked h.marked k.marked;
  won = keys-append a.won b.won c.won d.won h.won k.won;
}

keys-swap : (a b : List ℕ) → SameKeys (a ++ b) (b ++ a)
keys-swap a b = keys-by (λ w. omega (arith, total-append w a b, total-append w b a))

one-swap : (a b : Acts) → SameActs (both_acts a b) (both_acts b a)
one-swap a b = record { marked = keys-swap a.marked b.marked; won = keys-swap a.won b.won }

keys-turn : (a b c : List ℕ) → SameKeys ((a ++ b) ++ c) (a ++ (c ++ b))
keys-turn a b c = keys-by (λ w. omega (arith, total-append w (a ++ b) c, total-append w a b, total-append w a (c ++ b), total-append w c b))

pub one-turn : (a b c : Acts) → SameActs (both_acts (both_acts a b) c) (both_acts a (both_acts c b))
one-turn a b c = record { marked = keys-turn a.marked b.marked c.marked; won = keys-turn a.won b.won c.won }

keys-assoc : (a b c : List ℕ) → SameKeys ((a ++ b) ++ c) (a ++ (b ++ c))
keys-assoc a b c = keys-by (λ w. omega (arith, total-append w (a ++ b) c, total-append w a b, total-append w a (b ++ c), total-append w b c))

pub one-assoc : (a b c : Acts) → SameActs (both_acts (both_acts a b) c) (both_acts a (both_acts b c))
one-assoc a b c = record { marked = keys-assoc a.marked b.marked c.marked; won = keys-assoc a.won b.won c.won }

-- ---- of all stages

pub all-same-refl : (a : List Acts) → AllSameActs a a
all-same-refl [] = tt
all-same-refl (x ∷ a) = (one-refl x, all-same-refl a)

pub same-trans : (a b c : List Acts) → AllSameActs a b → AllSameActs b c → AllSameActs a c
same-trans [] [] [] h k = tt
same-trans [] [] (z ∷ c) h k = absurd k
same-trans [] (y ∷ b) c h k = absurd h
same-trans (x ∷ a) [] c h k = absurd h
same-trans (x ∷ a) (y ∷ b) [] h k = absurd k
same-trans (x ∷ a) (y ∷ b) (z ∷ c) h k = (one-trans x y z h.0 k.0, same-trans a b c h.1 k.1)

pub added-nil : (a : List Acts) → added a [] ≡ a
added-nil [] = refl
added-nil (x ∷ a) = refl

same-added : (a b l : List Acts) → AllSameActs a b → AllSameActs (added a l) (added b l)
same-added [] [] l h = all-same-refl l
same-added [] (y ∷ b) l h = absurd h
same-added (x ∷ a) [] l h = absurd h
same-added (x ∷ a) (y ∷ b) [] h = h
same-added (x ∷ a) (y ∷ b) (z ∷ l) h = (one-beside x y z z h.0 (one-refl z), same-added a b l h.1)

added-swap : (b l : List Acts) → AllSameActs (added b l) (added l b)
added-swap [] l = rw (added-nil l) (all-same-refl l)
added-swap (y ∷ b) [] = all-same-refl (y ∷ b)
added-swap (y ∷ b) (z ∷ l) = (one-swap y z, added-swap b l)

added-turn : (a b l : List Acts) → AllSameActs (added (added a b) l) (added a (added l b))
added-turn [] b l = added-swap b l
added-turn (x ∷ a) [] l = rw (added-nil l) (all-same-refl (added (x ∷ a) l))
added-turn (x ∷ a) (y ∷ b) [] = all-same-refl (added (x ∷ a) (y ∷ b))
added-turn (x ∷ a) (y ∷ b) (z ∷ l) = (one-turn x y z, added-turn a b l)

pub same-beside : (m w a l : List Acts) → AllSameActs m (added w a) → AllSameActs (added m l) (added w (added l a))
same-beside m w a l h = same-trans (added m l) (added (added w a) l) (added w (added l a)) (same-added m (added w a) l h) (added-turn w a l)

-- ---- a seat that is free again

pub back-sum : (o : Option SeatMarks) (free : List SeatMarks) → SameActs (sum_of (given_back o free)) (both_acts (sum_of free) (seat_acts o))
back-sum None free = record {
  marked = rw (append-nil (all_marked free)) (keys-refl _);
  won = rw (append-nil (map won_key (all_won free))) (keys-refl _);
}
back-sum (Some seat) free =
    let marked : all_marked (free ++ seat ∷ []) ≡ all_marked free ++ seat.marked = flat_map-append marked_by free (seat ∷ []) ∙ ap (λ l. all_marked free ++ l) (append-nil seat.marked) in
    let won : all_won (free ++ seat ∷ []) ≡ all_won free ++ seat.won = flat_map-append won_by free (seat ∷ []) ∙ ap (λ l. all_won free ++ l) (append-nil seat.won) in
    record {
      marked = rw marked (keys-refl _);
      won = rw (won, map-append won_key (all_won free) seat.won) (keys-refl _);
    }

pub back-sums : (took : List (Option SeatMarks)) (free : List (List SeatMarks)) → length took ≡ length free → AllSameActs (map sum_of (all_back took free)) (added (map sum_of free) (map seat_acts took))
back-sums [] [] e = tt
back-sums [] (v ∷ vs) e = absurd (omega arith)
back-sums (o ∷ os) [] e = absurd (omega arith)
back-sums (o ∷ os) (v ∷ vs) e = (back-sum o v, back-sums os vs (omega arith))

-- the same, written the other way
back-in : (o : Option SeatMarks) (free : List SeatMarks) → free ++ seats_in o ≡ given_back o free
back-in None free = append-nil free
back-in (Some seat) free = refl

pub in-sum : (o : Option SeatMarks) (free mid : List SeatMarks) → mid ≡ free ++ seats_in o → SameActs (sum_of mid) (both_acts (sum_of free) (seat_acts o))
in-sum o free mid e = rw (e, back-in o free) (back-sum o free)
