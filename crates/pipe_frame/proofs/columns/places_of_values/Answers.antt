use Rattle.std.proofs.Common.{rules, ◌≡◌, ℕ, zero, suc, ◌+◌, ◌<◌, Bool, true, false, List, [], ◌∷◌, ◌++◌, length, get_or, set, take, drop, map, Some, refl, ap, sym, ◌∙◌, append_assoc, arith}
use Rattle.std.specs.Prelude.{if◌then◌else◌}
use Rattle.std.proofs.lemmas.List.{append-nil}
use Rattle.std.proofs.Math.Seq.{drop-cons}
use Rattle.std.proofs.Math.ListN.{drop_of_length-le}
use Rattle.pipe_column.specs.Columns.{true_places}
use Rattle.pipe_frame.proofs.columns.places_of_values.Goals as goal

-- a place behind the first so many leaves them
take-set : (xs : List ℕ) (n x : ℕ) → take n (set xs n x) ≡ take n xs
take-set [] zero x = refl
take-set [] (suc n) x = refl
take-set (y ∷ xs) zero x = refl
take-set (y ∷ xs) (suc n) x = ap (λ l. y ∷ l) (take-set xs n x)

-- and is the next of them
take-set-more : (xs : List ℕ) (n x : ℕ) → n < length xs → take (suc n) (set xs n x) ≡ take n xs ++ x ∷ []
take-set-more [] n x lt = absurd (omega arith)
take-set-more (y ∷ xs) zero x lt = refl
take-set-more (y ∷ xs) (suc n) x lt = ap (λ l. y ∷ l) (take-set-more xs n x (omega arith))

-- one place more
next : (places : List ℕ) (count i more : ℕ) (v : Bool) (rest : List Bool) → count < length places → more ≡ (if v then 1 else 0) → take (count + more) (set places count i) ++ true_places (i + 1) (map Some rest) ≡ take count places ++ true_places i (map Some (v ∷ rest))
next places count i more true rest lt e =
    let one : count + more ≡ suc count = omega (arith, e) in
    ap (λ n. take n (set places count i) ++ true_places (i + 1) (map Some rest)) one
    ∙ ap (λ l. l ++ true_places (i + 1) (map Some rest)) (take-set-more places count i lt)
    ∙ append_assoc (take count places) (i ∷ []) (true_places (i + 1) (map Some rest))
next places count i more false rest lt e =
    let none : count + more ≡ count = omega (arith, e) in
    ap (λ n. take n (set places count i) ++ true_places (i + 1) (map Some rest)) none
    ∙ ap (λ l. l ++ true_places (i + 1) (map Some rest)) (take-set places count i)

pub loop-i-preserved : goal.loop-i-preserved
loop-i-preserved c =
    let values : List Bool = c.args.values.now in
    let i : ℕ = c.loop-i.i in
    let v : Bool = get_or c.args.values.now c.loop-i.i false in
    let below : c.loop-i.i < length c.args.values.now = search rules in
    let inside : c.loop-i.count < length c.loop-i.places.items = omega (arith, below, c.loop-i.invariant.few, c.loop-i.invariant.long) in
    let further : suc i ≡ i + 1 = omega arith in
    let first : drop i values ≡ v ∷ drop (i + 1) values = drop-cons values i false below ∙ ap (λ n. v ∷ drop n values) further in
    record {
      long = search rules;
      few = search rules;
      places =
          next c.loop-i.places.items c.loop-i.count i _ v (drop (i + 1) values) inside (search rules)
          ∙ ap (λ l. take c.loop-i.count c.loop-i.places.items ++ true_places i (map Some l)) (sym first)
          ∙ c.loop-i.invariant.places;
    }

pub returns : goal.returns
returns c =
    let none : drop c.loop-i.i c.args.values.now ≡ [] = drop_of_length-le c.args.values.now (omega arith) in
    c.truncate.ensures.items
    ∙ sym (append-nil (take c.loop-i.count c.loop-i.places.items))
    ∙ ap (λ l. take c.loop-i.count c.loop-i.places.items ++ true_places c.loop-i.i (map Some l)) (sym none)
    ∙ c.loop-i.invariant.places
