-- Sinks of lanes combined in order, from the last of the reversed lanes on.
use Rattle.std.proofs.Common.{◌≡◌, ℕ, List, [], ◌∷◌, ◌++◌, length, reverse, refl, ap, sym, ◌∙◌, subst, append_assoc, append-nil, length-append}
use Rattle.std.specs.List.{flat_map}
use Rattle.std.proofs.lemmas.List.{reverse-reverse, reverse-append}
use Rattle.std.proofs.lemmas.List.Concat.{flat_map-append}
use Rattle.pipe_schema.specs.Counts.{counted, Counts}
use Rattle.pipe_schema.specs.Rows.{Row, Same}
use Rattle.pipe_run.specs.declared.lane.Lane.{Lane}
use Rattle.pipe_run.specs.Gathered.{FirstCombined}
use Rattle.pipe_run.specs.Lanes.{held_in}
use Rattle.pipe_run.proofs.Asked.{counts-next, counts-none}
use Rattle.pipe_chain.proofs.Weighing.{rows-refl, rows-trans, rows-append}

module _ {O K : Type 0} (held : K → List Row) where
  -- the lanes that are left stand in the other order
  pub record Gathering (lanes reversed : List (Lane O K)) (asked_old asked_new : ℕ) (old new : List Row) : Type 0 where
    pub combined : List (Lane O K)
    pub left : List (Lane O K)
    pub in_order : lanes ≡ combined ++ left
    pub turned : reversed ≡ reverse left
    pub asked : Counts (length combined) asked_old asked_new
    pub holds : Same new (old ++ flat_map (held_in held) combined)

  pub gathering-none : (lanes reversed : List (Lane O K)) (asked : ℕ) (old : List Row) → reversed ≡ reverse lanes → Gathering lanes reversed asked asked old old
  gathering-none lanes reversed asked old e = record {
    combined = [];
    left = lanes;
    in_order = refl;
    turned = e;
    asked = counts-none asked;
    holds = subst (λ (rows : List Row). Same old rows) (sym (append-nil old)) (rows-refl old);
  }

  combined-next : (combined : List (Lane O K)) (lane : Lane O K) → flat_map (held_in held) combined ++ held lane.target.sink ≡ flat_map (held_in held) (combined ++ lane ∷ [])
  combined-next combined lane =
      ap (λ l. flat_map (held_in held) combined ++ l) (sym (append-nil (held lane.target.sink))) ∙ sym (flat_map-append (held_in held) combined (lane ∷ []))

  -- the last of the reversed ones is the first that is left
  first-left : (left front : List (Lane O K)) (lane : Lane O K) → front ++ lane ∷ [] ≡ reverse left → left ≡ lane ∷ reverse front
  first-left left front lane e = sym (reverse-reverse left) ∙ ap reverse (sym e) ∙ reverse-append front (lane ∷ [])

  pub gathering-next : (lanes reversed front : List (Lane O K)) (lane : Lane O K) (asked_old asked_mid asked_new : ℕ) (old mid new : List Row) → reversed ≡ front ++ lane ∷ [] → asked_new ≡ counted 1 asked_mid → Same new (mid ++ held lane.target.sink) → Gathering lanes reversed asked_old asked_mid old mid → Gathering lanes front asked_old asked_new old new
  gathering-next lanes reversed front lane asked_old asked_mid asked_new old mid new popped asked joined known =
      let first = first-left known.left front lane (sym popped ∙ known.turned) in
      let rows = flat_map (held_in held) known.combined in
      record {
        combined = known.combined ++ lane ∷ [];
        left = reverse front;
        in_order = known.in_order ∙ ap (λ l. known.combined ++ l) first ∙ sym (append_assoc known.combined (lane ∷ []) (reverse front));
        turned = sym (reverse-reverse front);
        asked = subst (λ n. Counts n asked_old asked_new) (sym (length-append known.combined (lane ∷ []))) (counts-next (length known.combined) 1 asked_old asked_mid asked_new known.asked asked);
        holds = rows-trans joined (subst (λ (all : List Row). Same (mid ++ held lane.target.sink) all) (append_assoc old rows (held lane.target.sink) ∙ ap (λ l. old ++ l) (combined-next known.combined lane)) (rows-append known.holds (rows-refl (held lane.target.sink))));
      }

  pub gathering-stopped : (lanes reversed : List (Lane O K)) (asked_old asked_mid asked_new : ℕ) (old new : List Row) → asked_new ≡ counted 1 asked_mid → Gathering lanes reversed asked_old asked_mid old new → FirstCombined held lanes asked_old asked_new old new
  gathering-stopped lanes reversed asked_old asked_mid asked_new old new asked known = record {
    combined = known.combined;
    left = known.left;
    in_order = known.in_order;
    asked = counts-next (length known.combined) 1 asked_old asked_mid asked_new known.asked asked;
    holds = known.holds;
  }
