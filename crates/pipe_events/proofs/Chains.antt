-- The chains of a tree: the rows of a node go one way.
use Rattle.std.proofs.Common.{◌≡◌, ℕ, zero, suc, ◌+◌, ◌<◌, ◌≤◌, true, false, eqb, List, [], ◌∷◌, ap, sym, ◌∙◌, subst, arith, ◌⊎◌, inl, inr}
use Rattle.std.specs.List.{list_any}
use Rattle.std.proofs.lemmas.Bool.{cases_lt}
use Rattle.std.proofs.lemmas.Bool.Decides.{Decides-eqb}
use Rattle.pipe_schema.specs.Rows.{Row}
use Rattle.pipe_events.specs.Stages.{JoinStage, Stages, Sort, Joined, feeds, reach_at, reaches}
use Rattle.pipe_events.specs.Worlds.{count}
use Rattle.pipe_events.proofs.Ways.{reach_on}
use Rattle.pipe_events.specs.Runs.{inputs_of, reads, IsTree}
use Rattle.pipe_events.proofs.Members.{either, decide, or_cases, or_left, or_right, same_number, mem, head, only_one, Passing, passing, any_at, behind, count_head}
use Rattle.pipe_events.proofs.Walks.{walk_past, feeds_read, reach_is}

module _ (plan : Stages) (tree : IsTree plan) where
  -- the rows of node n come to node t
  abbrev pub Comes : ℕ → ℕ → Type 0
  Comes n t = reaches plan n t ≡ true

  pub inside : (n t : ℕ) → Comes n t → t < plan.size
  inside n t r =
      either (λ lt. lt) (λ le. (let none : reaches plan n t ≡ false = walk_past false (reach_at plan n) plan.size t le in cc)) (cases_lt t plan.size)

  pub comes_here : (n : ℕ) → n < plan.size → Comes n n
  comes_here n lt = reach_is plan tree n n lt ∙ or_left (eqb n n) (list_any (reaches plan n) (feeds (plan.stage n))) (same_number n)

  pub comes_next : (n i x : ℕ) → x < plan.size → mem i (feeds (plan.stage x)) ≡ true → Comes n i → Comes n x
  comes_next n i x lt e r = reach_is plan tree n x lt ∙ or_right (eqb x n) (list_any (reaches plan n) (feeds (plan.stage x))) (any_at (reaches plan n) i (feeds (plan.stage x)) e r)

  -- the last step
  pub last_step : (n x : ℕ) → Comes n x → (x ≡ n) ⊎ Passing (reaches plan n) (feeds (plan.stage x))
  last_step n x r =
      either
      (λ same. inl ((Decides-eqb x n).0 same))
      (λ some. inr (passing (reaches plan n) (feeds (plan.stage x)) some))
      (or_cases (eqb x n) (list_any (reaches plan n) (feeds (plan.stage x))) (sym (reach_is plan tree n x (inside n x r)) ∙ r))

  pub fed_below : (x i : ℕ) → mem i (feeds (plan.stage x)) ≡ true → i < x
  fed_below x i e = tree.smaller x i (feeds_read (plan.stage x) i e)

  up_to : (b n x : ℕ) → x < b → Comes n x → n ≤ x
  up_to zero n x lt r = absurd (omega arith)
  up_to (suc b) n x lt r =
      either
      (λ same. omega (arith, same))
      (λ h. (let less = fed_below x h.at h.member in let le = up_to b n h.at (omega (arith, lt, less)) h.passes in omega (arith, less, le)))
      (last_step n x r)

  -- rows come upwards
  pub upwards : (n x : ℕ) → Comes n x → n ≤ x
  upwards n x r = up_to (suc x) n x (omega arith) r

  pub comes_on : (a b c : ℕ) → Comes a b → Comes b c → Comes a c
  comes_on a b c r s = reach_on plan a b plan.size c (omega arith) r s

  -- the first step of a way
  pub record First (n t : ℕ) : Type 0 where
    pub at : ℕ
    pub fed : mem n (feeds (plan.stage at)) ≡ true
    pub goes_on : Comes at t

  first_to : (b n t : ℕ) → t < b → Comes n t → (n ≡ t → ⊥) → First n t
  first_to zero n t lt r apart = absurd (omega arith)
  first_to (suc b) n t lt r apart =
      either
      (λ same. absurd (apart (sym same)))
      (λ h.
      let there : t < plan.size = inside n t r in
      let less = fed_below t h.at h.member in
      either
      (λ is.
      let same : h.at ≡ n = (Decides-eqb h.at n).0 is in
      record { at = t; fed = subst (λ i. mem i (feeds (plan.stage t)) ≡ true) same h.member; goes_on = comes_here t there })
      (λ differs.
      let further : First n h.at = first_to b n h.at (omega (arith, lt, less)) h.passes (λ same. (let yes = (Decides-eqb h.at n).1 (sym same) in cc)) in
      record { at = further.at; fed = further.fed; goes_on = comes_next further.at h.at t there h.member further.goes_on })
      (decide (eqb h.at n)))
      (last_step n t r)

  pub first_step : (n t : ℕ) → Comes n t → (n ≡ t → ⊥) → First n t
  first_step n t r apart = first_to (suc t) n t (omega arith) r apart

  -- what reads a node lies on its way
  pub over : (n t k : ℕ) → Comes n t → (n ≡ t → ⊥) → reads plan k n ≡ true → Comes k t
  over n t k r apart reading =
      let h = first_step n t r apart in
      let same : h.at ≡ k = tree.one_reader h.at k n (feeds_read (plan.stage h.at) n h.fed) reading in
      subst (λ i. Comes i t) same h.goes_on

  line_from : (d n a b : ℕ) → plan.size ≤ n + d → Comes n a → Comes n b → Comes a b ⊎ Comes b a
  line_from zero n a b enough r s = (let le = upwards n a r in let lt = inside n a r in absurd (omega (arith, enough, le, lt)))
  line_from (suc d) n a b enough r s =
      either
      (λ is. (let same : n ≡ a = (Decides-eqb n a).0 is in inl (subst (λ i. Comes i b) same s)))
      (λ differs_a.
      either
      (λ is. (let same : n ≡ b = (Decides-eqb n b).0 is in inr (subst (λ i. Comes i a) same r)))
      (λ differs_b.
      let h = first_step n a r (λ same. (let yes = (Decides-eqb n a).1 same in cc)) in
      let on = over n b h.at s (λ same. (let yes = (Decides-eqb n b).1 same in cc)) (feeds_read (plan.stage h.at) n h.fed) in
      let less = fed_below h.at n h.fed in
      line_from d h.at a b (omega (arith, enough, less)) h.goes_on on)
      (decide (eqb n b)))
      (decide (eqb n a))

  -- of two nodes on one way one comes to the other
  pub line : (n a b : ℕ) → Comes n a → Comes n b → Comes a b ⊎ Comes b a
  line n a b r s = line_from plan.size n a b (omega arith) r s

  -- two inputs of a node to which the same rows come are the same
  same_below : (k a b : ℕ) → reads plan k a ≡ true → reads plan k b ≡ true → Comes a b → a ≡ b
  same_below k a b ra rb r =
      either
      (λ is. (Decides-eqb a b).0 is)
      (λ differs.
      let up = upwards k b (over a b k r (λ same. (let yes = (Decides-eqb a b).1 same in cc)) ra) in
      let down = tree.smaller k b rb in
      absurd (omega (arith, up, down)))
      (decide (eqb a b))

  pub same_input : (n k a b : ℕ) → reads plan k a ≡ true → reads plan k b ≡ true → Comes n a → Comes n b → a ≡ b
  same_input n k a b ra rb r s = either (λ on. same_below k a b ra rb on) (λ back. sym (same_below k b a rb ra back)) (line n a b r s)

  -- ---- where ways end

  abbrev pub IsTop : ℕ → Type 0
  IsTop t = (k : ℕ) → mem t (feeds (plan.stage k)) ≡ true → ⊥

  pub top_only : (t x : ℕ) → IsTop t → Comes t x → t ≡ x
  top_only t x top r =
      either
      (λ is. (Decides-eqb t x).0 is)
      (λ differs. (let h = first_step t x r (λ same. (let yes = (Decides-eqb t x).1 same in cc)) in absurd (top h.at h.fed)))
      (decide (eqb t x))

  pub one_top : (n t u : ℕ) → IsTop t → IsTop u → Comes n t → Comes n u → t ≡ u
  one_top n t u top top' r s = either (λ on. top_only t u top on) (λ back. sym (top_only u t top' back)) (line n t u r s)

  -- a node whose input lies on a way that goes on to a top lies on it too
  pub on_the_way : (n t k i : ℕ) → IsTop t → mem i (feeds (plan.stage k)) ≡ true → Comes n t → Comes n i → Comes k t
  on_the_way n t k i top fed r s =
      either
      (λ back. (let same = top_only t i top back in absurd (top k (subst (λ x. mem x (feeds (plan.stage k)) ≡ true) (sym same) fed))))
      (λ on. over i t k on (λ same. top k (subst (λ x. mem x (feeds (plan.stage k)) ≡ true) same fed)) (feeds_read (plan.stage k) i fed))
      (line n t i r s)

  pub root_top : IsTop plan.root
  root_top k e = (let read = feeds_read (plan.stage k) plan.root e in let none = tree.root_unread k in cc)

  -- the input of a sort, and the built side of a join
  pub sort_top : (k input : ℕ) (sorted : List Row → List Row) → plan.stage k ≡ Sort input sorted → IsTop input
  sort_top k input sorted is m fed =
      let read : reads plan k input ≡ true = subst (λ x. mem input (inputs_of x) ≡ true) (sym is) (head input []) in
      let same : m ≡ k = tree.one_reader m k input (feeds_read (plan.stage m) input fed) read in
      let here : mem input (feeds (Sort input sorted)) ≡ true = subst (λ x. mem input (feeds x) ≡ true) (ap (λ i. plan.stage i) same ∙ is) fed in
      cc

  pub build_top : (k : ℕ) (j : JoinStage) → plan.stage k ≡ Joined j → IsTop j.build
  build_top k j is m fed =
      let read : reads plan k j.build ≡ true = subst (λ x. mem j.build (inputs_of x) ≡ true) (sym is) (behind j.build j.probe (j.build ∷ []) (head j.build [])) in
      let same : m ≡ k = tree.one_reader m k j.build (feeds_read (plan.stage m) j.build fed) read in
      let here : mem j.build (feeds (Joined j)) ≡ true = subst (λ x. mem j.build (feeds x) ≡ true) (ap (λ i. plan.stage i) same ∙ is) fed in
      let twice : j.probe ≡ j.build = only_one j.build j.probe here in
      let once : count j.build (j.probe ∷ j.build ∷ []) ≤ 1 = subst (λ x. count j.build (inputs_of x) ≤ 1) is (tree.once k j.build) in
      let again : count j.build (j.build ∷ j.build ∷ []) ≤ 1 = subst (λ i. count j.build (i ∷ j.build ∷ []) ≤ 1) twice once in
      let one = count_head j.build (j.build ∷ []) in
      let two = count_head j.build [] in
      omega (arith, again, one, two)
