-- Where the branches up to a node begin.
use Rattle.std.proofs.Common.{◌≡◌, ℕ, Bool, true, false, not, cond, ◌||◌, List, [], ◌∷◌, ◌++◌, map, refl, ap, ◌∙◌}
use Rattle.std.specs.List.{flat_map}
use Rattle.pipe_driver.specs.declared.branch.SinkAt.{SinkAt}
use Rattle.pipe_driver.specs.declared.branch.SinkAt.TheVariants as at
use Rattle.pipe_driver.specs.Shape.{Kind, Begins, Each, Unites, Joins, Sorts}
use Rattle.pipe_driver.specs.Meaning.{Tree}
use Rattle.pipe_driver.proofs.Trails.{Trail, through, closed_by, put_operator, put_sink, sunk, trails_by, AreTrails}

abbrev pub start_of : Trail → ℕ
start_of p = p.start

abbrev pub starts_in : List Trail → List ℕ
starts_in ps = map start_of ps

-- of a node by those of its inputs
abbrev pub firsts_by : (ℕ → List ℕ) → ℕ → Kind → List ℕ
firsts_by below n Begins = n ∷ []
firsts_by below n (Each i) = below i
firsts_by below n (Unites is) = flat_map below is
firsts_by below n (Joins b p) = below b ++ below p
firsts_by below n (Sorts i) = below i

through_starts : (n : ℕ) (ps : List Trail) → starts_in (map (through n) ps) ≡ starts_in ps
through_starts n [] = refl
through_starts n (p ∷ ps) =
    let split : (b : Bool) → start_of (cond b (put_operator n p) p) ≡ start_of p = elim [ true ↦ refl | false ↦ refl ] in
    ap (λ s. s ∷ starts_in (map (through n) ps)) (split p.is_open) ∙ ap (λ l. start_of p ∷ l) (through_starts n ps)

closed_starts : (a : SinkAt) (s : ℕ) (ps : List Trail) → starts_in (map (closed_by a s) ps) ≡ starts_in ps
closed_starts a s [] = refl
closed_starts a s (p ∷ ps) =
    let split : (b : Bool) → start_of (cond b (put_sink false a s p) p) ≡ start_of p = elim [ true ↦ refl | false ↦ refl ] in
    ap (λ k. k ∷ starts_in (map (closed_by a s) ps)) (split p.is_open) ∙ ap (λ l. start_of p ∷ l) (closed_starts a s ps)

pub root_starts : (a : SinkAt) (s : ℕ) (ps : List Trail) → starts_in (map (closed_by a s) ps) ≡ starts_in ps
root_starts a s ps = closed_starts a s ps

sunk_starts : (a : SinkAt) (n : ℕ) (passed : Bool) (ps : List Trail) → starts_in (sunk a n passed ps) ≡ starts_in ps
sunk_starts a n passed [] = refl
sunk_starts a n passed (p ∷ ps) =
    let split : (b : Bool) → start_of (cond b (put_sink (not passed) a n p) p) ≡ start_of p = elim [ true ↦ refl | false ↦ refl ] in
    ap (λ k. k ∷ starts_in (sunk a n (passed || p.is_open) ps)) (split p.is_open) ∙ ap (λ l. start_of p ∷ l) (sunk_starts a n (passed || p.is_open) ps)

append_starts : (a b : List Trail) → starts_in (a ++ b) ≡ starts_in a ++ starts_in b
append_starts [] b = refl
append_starts (p ∷ a) b = ap (λ l. start_of p ∷ l) (append_starts a b)

flat_starts : (below : ℕ → List Trail) (is : List ℕ) → starts_in (flat_map below is) ≡ flat_map (λ i. starts_in (below i)) is
flat_starts below [] = refl
flat_starts below (i ∷ is) = append_starts (below i) (flat_map below is) ∙ ap (λ l. starts_in (below i) ++ l) (flat_starts below is)

kind_starts : (below : ℕ → List Trail) (n : ℕ) (k : Kind) → starts_in (trails_by below n k) ≡ firsts_by (λ i. starts_in (below i)) n k
kind_starts below n Begins = refl
kind_starts below n (Each i) = through_starts n (below i)
kind_starts below n (Unites is) = through_starts n (flat_map below is) ∙ flat_starts below is
kind_starts below n (Joins b p) =
    append_starts (map (closed_by (at.Build n) n) (below b)) (map (through n) (below p))
    ∙ ap (λ l. l ++ starts_in (map (through n) (below p))) (closed_starts (at.Build n) n (below b))
    ∙ ap (λ l. starts_in (below b) ++ l) (through_starts n (below p))
kind_starts below n (Sorts i) = sunk_starts (at.Sort n) n false (below i)

pub firsts_are : (t : Tree) (trails : ℕ → List Trail) → AreTrails t trails → (n : ℕ) → t.under t.root n ≡ true → starts_in (trails n) ≡ firsts_by (λ i. starts_in (trails i)) n (t.kind n)
firsts_are t trails are n u = ap starts_in (are n u) ∙ kind_starts trails n (t.kind n)
