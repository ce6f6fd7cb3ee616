-- Keys that are added where they aren't there yet.
use Rattle.std.proofs.Common.{◌≡◌, ℕ, ◌<◌, Bool, true, false, cond, eqb, get_or, length, List, [], ◌∷◌, ◌++◌, refl, ap, sym, ◌∙◌}
use Rattle.std.specs.Prelude.{slice_set}
use Rattle.std.proofs.lemmas.List.{get_or-set_same, get_or-set_other}
use Rattle.std.proofs.lemmas.Bool.Decides.{Decides-eqb}
use Rattle.pipe_events.specs.Stages.{Key}
use Rattle.pipe_events.specs.Worlds.{put}
use Rattle.pipe_plain.specs.Tables.{at_place}
use Rattle.pipe_world.specs.Shown.{flag_in}
use Rattle.std.specs.Prelude.{◌||◌}
use Rattle.std.specs.List.{list_any}
use Rattle.pipe_schema.specs.Rows.{Row, eq_row}
use Rattle.pipe_schema.proofs.Weights.{eq_row-sound}
use Rattle.pipe_world.specs.Changes.{AreAdded}

or_right : (b : Bool) → (b || false) ≡ b
or_right true = refl
or_right false = refl

or_assoc : (a b c : Bool) → ((a || b) || c) ≡ (a || (b || c))
or_assoc true b c = refl
or_assoc false b c = refl

or_swap : (a b : Bool) → (a || b) ≡ (b || a)
or_swap true true = refl
or_swap true false = refl
or_swap false true = refl
or_swap false false = refl

pub any_append : (f : Row → Bool) (a b : List Row) → list_any f (a ++ b) ≡ (list_any f a || list_any f b)
any_append f [] b = refl
any_append f (x ∷ a) b = ap (λ rest. f x || rest) (any_append f a b) ∙ sym (or_assoc (f x) (list_any f a) (list_any f b))

-- a key that is among some adds nothing to them
pub there_already : (key other : Row) (rows : List Row) → list_any (eq_row key) rows ≡ true → (eq_row other key || list_any (eq_row other) rows) ≡ list_any (eq_row other) rows
there_already key other rows e =
    let split : (b : Bool) → eq_row other key ≡ b → (b || list_any (eq_row other) rows) ≡ list_any (eq_row other) rows =
    elim [
      | true ↦ λ same. let is = eq_row-sound other key same in rw is (sym e)
      | false ↦ λ _. refl
    ]
    in split (eq_row other key) refl

-- one key
pub added-first : (key : Row) (before : List Row) → AreAdded (key ∷ []) before (before ++ key ∷ [])
added-first key before = record { each = λ other. any_append (eq_row other) before (key ∷ []) ∙ or_swap (list_any (eq_row other) before) (list_any (eq_row other) (key ∷ [])) }

pub added-none : (key : Row) (before : List Row) → list_any (eq_row key) before ≡ true → AreAdded (key ∷ []) before before
added-none key before there = record { each = λ other. sym (ap (λ b. b || list_any (eq_row other) before) (or_right (eq_row other key)) ∙ there_already key other before there) }

pub ruleset key_rules = (added-first, added-none)

-- no key, and one key more
pub added-start : (before : List Row) → AreAdded [] before before
added-start before = record { each = λ other. refl }

pub added-more : (keys before middle after : List Row) (key : Row) → AreAdded keys before middle → AreAdded (key ∷ []) middle after → AreAdded (keys ++ key ∷ []) before after
added-more keys before middle after key all one = record {
  each = λ other.
      let f = eq_row other in
      let x = list_any f (key ∷ []) in
      let a = list_any f keys in
      let i = list_any f before in
      one.each other ∙ ap (λ b. x || b) (all.each other) ∙ sym (or_assoc x a i) ∙ ap (λ b. b || i) (or_swap x a ∙ sym (any_append f keys (key ∷ [])));
}

-- keys added at one place
flags-at : (flagged : List (List Key)) (k : ℕ) (keys after : List Key) → k < length flagged → AreAdded keys (at_place [] flagged k) after → (n : ℕ) → flag_in (slice_set flagged k after) n ≡ put (flag_in flagged) k (λ key. list_any (eq_row key) keys || flag_in flagged k key) n
flags-at flagged k keys after lt all n =
    let split : (b : Bool) → eqb n k ≡ b → flag_in (slice_set flagged k after) n ≡ cond b (λ key. list_any (eq_row key) keys || flag_in flagged k key) (flag_in flagged n) =
    elim [
      | true ↦ λ e. let is : n ≡ k = (Decides-eqb n k).0 e in let same = get_or-set_same flagged k after [] lt in λ i. λ key. (ap (λ m. list_any (eq_row key) (get_or (slice_set flagged k after) m [])) is ∙ ap (list_any (eq_row key)) same ∙ all.each key) i
      | false ↦ λ e. let other = get_or-set_other flagged k n after [] (λ same. let yes = (Decides-eqb n k).1 same in cc) in λ i. λ key. ap (list_any (eq_row key)) other i
    ]
    in split (eqb n k) refl

pub flags-put : (flagged : List (List Key)) (k : ℕ) (keys after : List Key) → k < length flagged → AreAdded keys (at_place [] flagged k) after → flag_in (slice_set flagged k after) ≡ put (flag_in flagged) k (λ key. list_any (eq_row key) keys || flag_in flagged k key)
flags-put flagged k keys after lt all = λ i. λ n. flags-at flagged k keys after lt all n i

pub ruleset flag_rules = (flags-put)
