-- Lists of events, one event more, and their first events.
use Rattle.std.proofs.Common.{◌≡◌, ℕ, zero, suc, ◌+◌, ◌<◌, ◌≤◌, Bool, true, false, cond, List, [], ◌∷◌, ◌++◌, length, get_or, take, map, refl, ap, sym, ◌∙◌, arith, Some, None}
use Rattle.std.specs.Prelude.{◌&&◌}
use Rattle.std.proofs.lemmas.List.{map_more, take_all, take-map, length-map}
use Rattle.pipe_events.specs.Stages.{Stages}
use Rattle.pipe_events.specs.Worlds.{World, Event, start, after}
use Rattle.pipe_events.specs.Schedules.{run}
use Rattle.pipe_events.specs.Decided.{is_allowed, all_allowed}
use Rattle.pipe_replay.specs.Replayed.{replayed, IsPlayed}

and-assoc : (a b c : Bool) → ((a && b) && c) ≡ (a && (b && c))
and-assoc true b c = refl
and-assoc false b c = refl

and-true : (a : Bool) → (a && true) ≡ a
and-true true = refl
and-true false = refl

and-first : (a b : Bool) → (a && b) ≡ true → a ≡ true
and-first true b e = refl
and-first false b e = cc

and-second : (a b : Bool) → (a && b) ≡ true → b ≡ true
and-second true b e = e
and-second false b e = cc

module _ (plan : Stages) where
  pub run-more : (w : World) (events : List Event) (e : Event) → run plan w (events ++ e ∷ []) ≡ after plan (run plan w events) e
  run-more w [] e = refl
  run-more w (first ∷ events) e = run-more (after plan w first) events e

  pub allowed-more : (w : World) (events : List Event) (e : Event) → all_allowed plan w (events ++ e ∷ []) ≡ (all_allowed plan w events && is_allowed plan (run plan w events) e)
  allowed-more w [] e = and-true (is_allowed plan w e)
  allowed-more w (first ∷ events) e =
      ap (λ b. is_allowed plan w first && b) (allowed-more (after plan w first) events e)
      ∙ sym (and-assoc (is_allowed plan w first) (all_allowed plan (after plan w first) events) (is_allowed plan (run plan (after plan w first) events) e))

  -- the first events of an allowed list are allowed
  allowed-first : (w : World) (n : ℕ) (events : List Event) → all_allowed plan w events ≡ true → all_allowed plan w (take n events) ≡ true
  allowed-first w zero events e = refl
  allowed-first w (suc n) [] e = refl
  allowed-first w (suc n) (first ∷ events) e =
      let here = and-first (is_allowed plan w first) (all_allowed plan (after plan w first) events) e in
      let rest = allowed-first (after plan w first) n events (and-second (is_allowed plan w first) (all_allowed plan (after plan w first) events) e) in
      rw (here, rest) refl

  take-all : (events : List Event) → take (length events) events ≡ events
  take-all [] = refl
  take-all (e ∷ events) = ap (λ l. e ∷ l) (take-all events)

  module _ (events : List Event) (w : World) (count : ℕ) (played : IsPlayed plan events w count) where
    whole : count ≡ length events → take count events ≡ events
    whole e = ap (λ n. take n events) e ∙ take-all events

    -- all events were played, or not
    pub replays-all : count ≡ length events → Some w ≡ replayed plan start events
    replays-all e =
        let allowed : all_allowed plan start events ≡ true = ap (all_allowed plan start) (sym (whole e)) ∙ played.allowed in
        let world : w ≡ run plan start events = played.world ∙ ap (run plan start) (whole e) in
        rw (allowed, world) refl

    pub replays-none : count < length events → None ≡ replayed plan start events
    replays-none lt =
        let split : (b : Bool) → all_allowed plan start events ≡ b → None ≡ cond b (Some (run plan start events)) None =
        elim [
          | true ↦ λ e. (let yes = allowed-first start (suc count) events e in let no = played.no_more lt in cc)
          | false ↦ λ _. refl
        ]
        in split (all_allowed plan start events) refl

module _ (plan : Stages) {X : Type 0} (f : X → Event) (xs : List X) where
  one-more : (i : ℕ) (x : X) → i < length xs → x ≡ get_or xs i x → map f (take (i + 1) xs) ≡ map f (take i xs) ++ f x ∷ []
  one-more i x lt is = map_more f xs i x lt ∙ ap (λ y. map f (take i xs) ++ f y ∷ []) (sym is)

  module _ (i : ℕ) (x : X) (w : World) (lt : i < length xs) (is : x ≡ get_or xs i x) (allowed : all_allowed plan start (map f (take i xs)) ≡ true) (world : w ≡ run plan start (map f (take i xs))) where
    next-test : all_allowed plan start (map f (take (i + 1) xs)) ≡ is_allowed plan w (f x)
    next-test =
        ap (all_allowed plan start) (one-more i x lt is)
        ∙ allowed-more plan start (map f (take i xs)) (f x)
        ∙ ap (λ b. b && is_allowed plan (run plan start (map f (take i xs))) (f x)) allowed
        ∙ ap (λ v. is_allowed plan v (f x)) (sym world)

    pub more-allowed : is_allowed plan w (f x) ≡ true → all_allowed plan start (map f (take (i + 1) xs)) ≡ true
    more-allowed e = next-test ∙ e

    pub more-run : (next : World) → next ≡ after plan w (f x) → next ≡ run plan start (map f (take (i + 1) xs))
    more-run next e = e ∙ ap (λ v. after plan v (f x)) world ∙ sym (run-more plan start (map f (take i xs)) (f x)) ∙ sym (ap (run plan start) (one-more i x lt is))

    pub play-stops : (stays : World) → stays ≡ w → is_allowed plan w (f x) ≡ false → IsPlayed plan (map f xs) stays i
    play-stops stays same refused = record {
      within = (let long = length-map xs f in omega (arith, long, lt));
      allowed = ap (all_allowed plan start) (take-map f i xs) ∙ allowed;
      world = same ∙ world ∙ sym (ap (run plan start) (take-map f i xs));
      no_more = λ _.
          let next : suc i ≡ i + 1 = omega arith in
          ap (λ n. all_allowed plan start (take n (map f xs))) next ∙ ap (all_allowed plan start) (take-map f (i + 1) xs) ∙ next-test ∙ refused;
    }

  pub play-ends : (i : ℕ) (w : World) → length xs ≤ i → all_allowed plan start (map f (take i xs)) ≡ true → w ≡ run plan start (map f (take i xs)) → IsPlayed plan (map f xs) w (length xs)
  play-ends i w past allowed world =
      let whole : take i xs ≡ xs = take_all i xs past in
      let long = length-map xs f in
      let all : take (length xs) (map f xs) ≡ map f xs = ap (λ n. take n (map f xs)) (sym long) ∙ take-all plan (map f xs) in
      record {
        within = omega (arith, long);
        allowed = ap (all_allowed plan start) (all ∙ ap (map f) (sym whole)) ∙ allowed;
        world = world ∙ sym (ap (run plan start) (all ∙ ap (map f) (sym whole)));
        no_more = λ lt. absurd (omega (arith, long, lt));
      }
