-- Least choices of lists of choices: of none, of one, of two lists, and of pairs.
use Rattle.std.proofs.Common.{◌≡◌, ℕ, ◌+◌, ◌<◌, ◌≤◌, List, [], ◌∷◌, ◌++◌, map, length, append-nil, length-append, Option, Some, None, refl, ap, sym, subst, ◌∙◌, arith, inl, inr}
use Rattle.std.specs.Prelude.{slice_index_or}
use Rattle.std.specs.List.{AllByRecursion}
use Rattle.pipe_schema.proofs.Weights.{total-append}
use Rattle.pipe_plan.specs.Plan.{Plan}
use Rattle.pipe_plan.specs.Under.{node_at}
use Rattle.pipe_events.proofs.Lists.{all-append, all-map, all-flat}
use Rattle.pipe_rules.proofs.Filters.{all-of}
use Rattle.pipe_parts.specs.Choices.{Choice, IsIn, before_each, in_pairs}
use Rattle.pipe_parts.specs.Parts.{frame_in}
use Rattle.pipe_parts.specs.declared.wish.Wish.{Wish}
use Rattle.pipe_parts.specs.declared.found.Found.{Found}
use Rattle.pipe_parts.specs.Least.{whole_at, whole_rows, IsNoLess, IsBest, IsBounded, if_whole}

pub in-left : {X : Type 0} (x : X) (a b : List X) → IsIn x a → IsIn x (a ++ b)
in-left x [] b h = absurd h
in-left x (y ∷ a) b (inl e) = inl e
in-left x (y ∷ a) b (inr h) = inr (in-left x a b h)

pub in-right : {X : Type 0} (x : X) (a b : List X) → IsIn x b → IsIn x (a ++ b)
in-right x [] b h = h
in-right x (y ∷ a) b h = inr (in-right x a b h)

in-mapped : {X Y : Type 0} (f : X → Y) (x : X) (a : List X) → IsIn x a → IsIn (f x) (map f a)
in-mapped f x [] h = absurd h
in-mapped f x (y ∷ a) (inl e) = inl (ap f e)
in-mapped f x (y ∷ a) (inr h) = inr (in-mapped f x a h)

pub in-paired : (c d : Choice) (xs ys : List Choice) → IsIn c xs → IsIn d ys → IsIn (c ++ d) (in_pairs xs ys)
in-paired c d [] ys h k = absurd h
in-paired c d (x ∷ xs) ys (inl e) k = in-left (c ++ d) (map (λ l. x ++ l) ys) (in_pairs xs ys) (subst (λ b. IsIn (b ++ d) (map (λ l. x ++ l) ys)) e (in-mapped (λ l. x ++ l) d ys k))
in-paired c d (x ∷ xs) ys (inr h) k = in-right (c ++ d) (map (λ l. x ++ l) ys) (in_pairs xs ys) (in-paired c d xs ys h k)

pub pairs-none : (xs : List Choice) → in_pairs xs [] ≡ []
pairs-none [] = refl
pairs-none (x ∷ xs) = pairs-none xs

-- pairs with the choice of no scan
pub pairs-nil : (xs : List Choice) → in_pairs xs ([] ∷ []) ≡ xs
pairs-nil [] = refl
pairs-nil (x ∷ xs) = ap (λ c. c ∷ in_pairs xs ([] ∷ [])) (append-nil x) ∙ ap (λ l. x ∷ l) (pairs-nil xs)

module _ (plan : Plan) (sizes : List ℕ) where
  -- ---- none, and one

  pub best-none : (xs : List Choice) → xs ≡ [] → IsBest plan sizes xs None
  best-none xs e = e

  pub best-nothing : (f : Found) → f.cuts ≡ [] → f.whole ≡ 0 → IsBest plan sizes ([] ∷ []) (Some f)
  best-nothing f cuts whole = record {
    allowed = inl (sym cuts);
    whole = whole ∙ sym (ap (whole_rows plan sizes) cuts);
    least = (omega (arith, whole), tt);
  }

  pub best-one : (f : Found) (scan rows : ℕ) (cut : Wish) → f.cuts ≡ record { scan = scan; cut = cut } ∷ [] → f.whole ≡ if_whole cut rows → rows ≡ slice_index_or sizes (frame_in (node_at plan.nodes scan)) 0 → IsBest plan sizes ((record { scan = scan; cut = cut } ∷ []) ∷ []) (Some f)
  best-one f scan rows cut cuts whole is =
      let one : whole_rows plan sizes (record { scan = scan; cut = cut } ∷ []) ≡ if_whole cut rows = (let z : if_whole cut rows ≡ if_whole cut (slice_index_or sizes (frame_in (node_at plan.nodes scan)) 0) = ap (if_whole cut) is in omega arith) in
      let same : f.whole ≡ whole_rows plan sizes (record { scan = scan; cut = cut } ∷ []) = whole ∙ sym one in
      record {
        allowed = inl (sym cuts);
        whole = same ∙ sym (ap (whole_rows plan sizes) cuts);
        least = (omega (arith, same), tt);
      }

  -- ---- two lists

  no-less : (a b : ℕ) (xs : List Choice) → a ≤ b → AllByRecursion (IsNoLess plan sizes b) xs → AllByRecursion (IsNoLess plan sizes a) xs
  no-less a b xs le all = all-of (IsNoLess plan sizes b) (IsNoLess plan sizes a) (λ c h. omega arith) xs all

  pub best-first-none : (xs ys : List Choice) (b : Option Found) → xs ≡ [] → IsBest plan sizes ys b → IsBest plan sizes (xs ++ ys) b
  best-first-none xs ys b e h = subst (λ l. IsBest plan sizes (l ++ ys) b) (sym e) h

  pub best-second-none : (xs ys : List Choice) (a : Option Found) → IsBest plan sizes xs a → ys ≡ [] → IsBest plan sizes (xs ++ ys) a
  best-second-none xs ys a h e = subst (λ l. IsBest plan sizes l a) (sym (ap (λ l. xs ++ l) e ∙ append-nil xs)) h

  pub best-first : (xs ys : List Choice) (f g : Found) → IsBest plan sizes xs (Some f) → IsBest plan sizes ys (Some g) → f.whole ≤ g.whole → IsBest plan sizes (xs ++ ys) (Some f)
  best-first xs ys f g h k le = record {
    allowed = in-left f.cuts xs ys h.allowed;
    whole = h.whole;
    least = all-append (IsNoLess plan sizes f.whole) xs ys h.least (no-less f.whole g.whole ys le k.least);
  }

  pub best-second : (xs ys : List Choice) (f g : Found) → IsBest plan sizes xs (Some f) → IsBest plan sizes ys (Some g) → g.whole < f.whole → IsBest plan sizes (xs ++ ys) (Some g)
  best-second xs ys f g h k lt = record {
    allowed = in-right g.cuts xs ys k.allowed;
    whole = k.whole;
    least = all-append (IsNoLess plan sizes g.whole) xs ys (no-less g.whole f.whole xs (omega arith) h.least) k.least;
  }

  -- ---- pairs

  pub pairs-first-none : (xs ys : List Choice) → xs ≡ [] → IsBest plan sizes (in_pairs xs ys) None
  pairs-first-none xs ys e = ap (λ l. in_pairs l ys) e

  pub pairs-second-none : (xs ys : List Choice) → ys ≡ [] → IsBest plan sizes (in_pairs xs ys) None
  pairs-second-none xs ys e = ap (in_pairs xs) e ∙ pairs-none xs

  pub pairs-both : (xs ys : List Choice) (f g h : Found) → IsBest plan sizes xs (Some f) → IsBest plan sizes ys (Some g) → h.cuts ≡ f.cuts ++ g.cuts → h.whole ≡ f.whole + g.whole → IsBest plan sizes (in_pairs xs ys) (Some h)
  pairs-both xs ys f g h bf bg cuts whole =
      let sum : (c d : Choice) → whole_rows plan sizes (c ++ d) ≡ whole_rows plan sizes c + whole_rows plan sizes d = λ c d. total-append (whole_at plan sizes) c d in
      record {
        allowed = subst (λ l. IsIn l (in_pairs xs ys)) (sym cuts) (in-paired f.cuts g.cuts xs ys bf.allowed bg.allowed);
        whole = (let all = ap (whole_rows plan sizes) cuts in let two = sum f.cuts g.cuts in let one = bf.whole in let other = bg.whole in omega arith);
        least = all-flat (IsNoLess plan sizes f.whole) (IsNoLess plan sizes h.whole) (before_each ys) (λ c hc.
            all-map (IsNoLess plan sizes g.whole) (IsNoLess plan sizes h.whole) (λ d. c ++ d) (λ d hd. (let two = sum c d in omega arith)) ys bg.least) xs bf.least;
      }

-- ---- bounds

pub none-bounded : IsBounded None
none-bounded = tt

pub sum-bounded : (f g h : Found) → IsBounded (Some f) → IsBounded (Some g) → h.cuts ≡ f.cuts ++ g.cuts → h.whole ≡ f.whole + g.whole → IsBounded (Some h)
sum-bounded f g h bf bg cuts whole =
    let long : length h.cuts ≡ length f.cuts + length g.cuts = ap length cuts ∙ length-append f.cuts g.cuts in omega arith
