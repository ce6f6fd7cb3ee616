-- Where the rows of a flow begin, and which marking joins are run for it.
use Rattle.std.proofs.Common.{◌≡◌, ℕ, zero, suc, ◌+◌, ◌<◌, ◌≤◌, Bool, true, false, cond, eqb, List, [], ◌∷◌, ◌++◌, refl, ap, sym, ◌∙◌, subst, append-nil, arith, ◌⊎◌, inl, inr}
use Rattle.std.specs.List.{flat_map}
use Rattle.std.proofs.lemmas.Bool.{cases_lt}
use Rattle.std.proofs.lemmas.Bool.Decides.{Decides-eqb}
use Rattle.pipe_events.specs.Stages.{JoinStage, Stage, Stages, Scan, Each, Union, Sort, Joined, marks, feeds}
use Rattle.pipe_events.specs.Worlds.{count, at_join}
use Rattle.pipe_events.specs.Runs.{begins_of, marking_of, inputs_of, begins, begins_at, marking, marking_at, reads, IsTree}
use Rattle.pipe_events.proofs.Members.{either, decide, or_cases, or_left, mem, head, behind, only_one, Passing, in_first, in_second, in_which, in_all, of_which, count_append, stands_not, once_in_all}
use Rattle.pipe_events.proofs.Walks.{walk_past, feeds_read, begins_is, marking_is}
use Rattle.pipe_events.proofs.Chains.{Comes, inside, comes_here, comes_next, last_step, fed_below, upwards, comes_on, over, line, same_input}

-- whether a stage has positions
abbrev pub supplies : Stage → Bool
supplies (Scan rows) = true
supplies (Each input op) = false
supplies (Union inputs) = false
supplies (Sort input sorted) = true
supplies (Joined j) = false

-- whether something is done at a stage: its positions are taken, or its keys marked
abbrev pub acts : Stage → Bool
acts (Scan rows) = true
acts (Each input op) = false
acts (Union inputs) = false
acts (Sort input sorted) = true
acts (Joined j) = marks j

-- the nodes that are run with a marking join, and the marking joins that are run before it
abbrev pub run_of : Stages → ℕ → List ℕ
run_of plan m = at_join [] (λ j. begins plan j.probe) (plan.stage m) ++ m ∷ []

abbrev pub below : Stages → ℕ → List ℕ
below plan m = at_join [] (λ j. marking plan j.probe) (plan.stage m)

-- the members of a list are those of another
abbrev pub Within : List ℕ → List ℕ → Type 0
Within a b = (k : ℕ) → mem k a ≡ true → mem k b ≡ true

-- a node has rows of its own, hands on those of its inputs, or marks
pub data View (plan : Stages) (x : ℕ) : Type 0 where
  Own : supplies (plan.stage x) ≡ true → begins plan x ≡ x ∷ [] → marking plan x ≡ [] → feeds (plan.stage x) ≡ [] → View plan x
  Through : acts (plan.stage x) ≡ false → begins plan x ≡ flat_map (begins plan) (feeds (plan.stage x)) → marking plan x ≡ flat_map (marking plan) (feeds (plan.stage x)) → View plan x
  Marked : (j : JoinStage) → plan.stage x ≡ Joined j → marks j ≡ true → begins plan x ≡ x ∷ [] → marking plan x ≡ marking plan j.probe ++ x ∷ [] → View plan x

fed_once : (x : Stage) (i : ℕ) → count i (inputs_of x) ≤ 1 → count i (feeds x) ≤ 1
fed_once (Scan rows) i h = omega arith
fed_once (Each input op) i h = h
fed_once (Union inputs) i h = h
fed_once (Sort input sorted) i h = omega arith
fed_once (Joined j) i h = omega (arith, h)

one_once : (n x : ℕ) → count n (x ∷ []) ≤ 1
one_once n x = elim (eqb x n) as (λ b. cond b 1 0 + 0 ≤ 1) [ true ↦ omega arith | false ↦ omega arith ]

module _ (plan : Stages) (tree : IsTree plan) where
  view_of : (x : ℕ) (s : Stage) → plan.stage x ≡ s → begins plan x ≡ begins_of (begins plan) x s → marking plan x ≡ marking_of (marking plan) x s → View plan x
  view_of x (Scan rows) is b m = Own (ap supplies is) b m (ap feeds is)
  view_of x (Each input op) is b m =
      Through (ap acts is)
      (subst (λ s. begins plan x ≡ flat_map (begins plan) (feeds s)) (sym is) (b ∙ sym (append-nil (begins plan input))))
      (subst (λ s. marking plan x ≡ flat_map (marking plan) (feeds s)) (sym is) (m ∙ sym (append-nil (marking plan input))))
  view_of x (Union inputs) is b m =
      Through (ap acts is)
      (subst (λ s. begins plan x ≡ flat_map (begins plan) (feeds s)) (sym is) b)
      (subst (λ s. marking plan x ≡ flat_map (marking plan) (feeds s)) (sym is) m)
  view_of x (Sort input sorted) is b m = Own (ap supplies is) b m (ap feeds is)
  view_of x (Joined j) is b m =
      either
      (λ yes. Marked j is yes (b ∙ ap (λ t. cond t (x ∷ []) (begins plan j.probe)) yes) (m ∙ ap (λ t. cond t (marking plan j.probe ++ x ∷ []) (marking plan j.probe)) yes))
      (λ none.
      Through (ap acts is ∙ none)
      (subst (λ s. begins plan x ≡ flat_map (begins plan) (feeds s)) (sym is) (b ∙ ap (λ t. cond t (x ∷ []) (begins plan j.probe)) none ∙ sym (append-nil (begins plan j.probe))))
      (subst (λ s. marking plan x ≡ flat_map (marking plan) (feeds s)) (sym is) (m ∙ ap (λ t. cond t (marking plan j.probe ++ x ∷ []) (marking plan j.probe)) none ∙ sym (append-nil (marking plan j.probe)))))
      (decide (marks j))

  pub view : (x : ℕ) → x < plan.size → View plan x
  view x lt = view_of x (plan.stage x) refl (begins_is plan tree x lt) (marking_is plan tree x lt)

  begun_inside : (n x : ℕ) → mem n (begins plan x) ≡ true → x < plan.size
  begun_inside n x e = either (λ lt. lt) (λ le. (let none : mem n [] ≡ true = subst (λ l. mem n l ≡ true) (walk_past [] (begins_at plan) plan.size x le) e in cc)) (cases_lt x plan.size)

  marked_inside : (n x : ℕ) → mem n (marking plan x) ≡ true → x < plan.size
  marked_inside n x e = either (λ lt. lt) (λ le. (let none : mem n [] ≡ true = subst (λ l. mem n l ≡ true) (walk_past [] (marking_at plan) plan.size x le) e in cc)) (cases_lt x plan.size)

  pub fed_probe : (x : ℕ) (j : JoinStage) → plan.stage x ≡ Joined j → mem j.probe (feeds (plan.stage x)) ≡ true
  fed_probe x j is = subst (λ s. mem j.probe (feeds s) ≡ true) (sym is) (head j.probe [])

  only_self : (n x : ℕ) → begins plan x ≡ x ∷ [] → mem n (begins plan x) ≡ true → x ≡ n
  only_self n x b e = only_one n x (subst (λ l. mem n l ≡ true) b e)

  -- ---- what begins a flow comes to its end

  begun_by : (n x : ℕ) → x < plan.size → ((i : ℕ) → i < x → mem n (begins plan i) ≡ true → Comes plan tree n i) → mem n (begins plan x) ≡ true → View plan x → Comes plan tree n x
  begun_by n x there ih e (Own s b m f) = subst (λ i. Comes plan tree i x) (only_self n x b e) (comes_here plan tree x there)
  begun_by n x there ih e (Through a b m) =
      let h = of_which (begins plan) n (feeds (plan.stage x)) (subst (λ l. mem n l ≡ true) b e) in
      comes_next plan tree n h.at x there h.member (ih h.at (fed_below plan tree x h.at h.member) h.passes)
  begun_by n x there ih e (Marked j is mk b m) = subst (λ i. Comes plan tree i x) (only_self n x b e) (comes_here plan tree x there)

  begun_to : (b n x : ℕ) → x < b → mem n (begins plan x) ≡ true → Comes plan tree n x
  begun_to zero n x lt e = absurd (omega arith)
  begun_to (suc b) n x lt e =
      let there = begun_inside n x e in
      begun_by n x there (λ i less. begun_to b n i (omega (arith, lt, less))) e (view x there)

  pub begun : (n x : ℕ) → mem n (begins plan x) ≡ true → Comes plan tree n x
  begun n x e = begun_to (suc x) n x (omega arith) e

  -- ---- what marks on the way does too

  pub record MarksFor (n x : ℕ) : Type 0 where
    pub comes : Comes plan tree n x
    pub join : JoinStage
    pub is_join : plan.stage n ≡ Joined join
    pub marking : marks join ≡ true

  marked_by : (n x : ℕ) → x < plan.size → ((i : ℕ) → i < x → mem n (marking plan i) ≡ true → MarksFor n i) → mem n (marking plan x) ≡ true → View plan x → MarksFor n x
  marked_by n x there ih e (Own s b m f) = (let none : mem n [] ≡ true = subst (λ l. mem n l ≡ true) m e in cc)
  marked_by n x there ih e (Through a b m) =
      let h = of_which (marking plan) n (feeds (plan.stage x)) (subst (λ l. mem n l ≡ true) m e) in
      let i = ih h.at (fed_below plan tree x h.at h.member) h.passes in
      record { comes = comes_next plan tree n h.at x there h.member i.comes; join = i.join; is_join = i.is_join; marking = i.marking }
  marked_by n x there ih e (Marked j is mk b m) =
      let fed = fed_probe x j is in
      let here : MarksFor x x = record { comes = comes_here plan tree x there; join = j; is_join = is; marking = mk } in
      either
      (λ lower. (let i = ih j.probe (fed_below plan tree x j.probe fed) lower in
      record { comes = comes_next plan tree n j.probe x there fed i.comes; join = i.join; is_join = i.is_join; marking = i.marking }))
      (λ self. subst (λ i. MarksFor i x) (only_one n x self) here)
      (in_which n (marking plan j.probe) (x ∷ []) (subst (λ l. mem n l ≡ true) m e))

  marked_to : (b n x : ℕ) → x < b → mem n (marking plan x) ≡ true → MarksFor n x
  marked_to zero n x lt e = absurd (omega arith)
  marked_to (suc b) n x lt e =
      let there = marked_inside n x e in
      marked_by n x there (λ i less. marked_to b n i (omega (arith, lt, less))) e (view x there)

  pub marked : (n x : ℕ) → mem n (marking plan x) ≡ true → MarksFor n x
  marked n x e = marked_to (suc x) n x (omega arith) e

  -- ---- all that acts and comes to the end of a flow is run in it

  abbrev pub InFlow : ℕ → ℕ → Type 0
  InFlow n x = (mem n (begins plan x) ≡ true) ⊎ Passing (λ m. mem n (run_of plan m)) (marking plan x)

  covered_by : (n x : ℕ) → acts (plan.stage n) ≡ true → ((i : ℕ) → i < x → Comes plan tree n i → InFlow n i) → Comes plan tree n x → View plan x → InFlow n x
  covered_by n x act ih r (Own s b m f) =
      either
      (λ same. inl (subst (λ l. mem n l ≡ true) (sym b) (subst (λ i. mem i (x ∷ []) ≡ true) same (head x []))))
      (λ h. (let none : mem h.at [] ≡ true = subst (λ l. mem h.at l ≡ true) f h.member in cc))
      (last_step plan tree n x r)
  covered_by n x act ih r (Through a b m) =
      either
      (λ same. (let act_here : acts (plan.stage x) ≡ true = subst (λ i. acts (plan.stage i) ≡ true) (sym same) act in cc))
      (λ h.
      either
      (λ first. inl (subst (λ l. mem n l ≡ true) (sym b) (in_all (begins plan) n h.at (feeds (plan.stage x)) h.member first)))
      (λ p. inr (record { at = p.at; member = subst (λ l. mem p.at l ≡ true) (sym m) (in_all (marking plan) p.at h.at (feeds (plan.stage x)) h.member p.member); passes = p.passes }))
      (ih h.at (fed_below plan tree x h.at h.member) h.passes))
      (last_step plan tree n x r)
  covered_by n x act ih r (Marked j is mk b m) =
      let here : mem x (marking plan x) ≡ true = subst (λ l. mem x l ≡ true) (sym m) (in_second x (marking plan j.probe) (x ∷ []) (head x [])) in
      let its_run : run_of plan x ≡ begins plan j.probe ++ x ∷ [] = ap (λ s. at_join [] (λ k. begins plan k.probe) s ++ x ∷ []) is in
      either
      (λ same. inr (record { at = x; member = here; passes = subst (λ l. mem n l ≡ true) (sym its_run) (in_second n (begins plan j.probe) (x ∷ []) (subst (λ i. mem i (x ∷ []) ≡ true) same (head x []))) }))
      (λ h.
      let fed : mem h.at (j.probe ∷ []) ≡ true = subst (λ s. mem h.at (feeds s) ≡ true) is h.member in
      let comes : Comes plan tree n j.probe = subst (λ i. Comes plan tree n i) (sym (only_one h.at j.probe fed)) h.passes in
      either
      (λ first. inr (record { at = x; member = here; passes = subst (λ l. mem n l ≡ true) (sym its_run) (in_first n (begins plan j.probe) (x ∷ []) first) }))
      (λ p. inr (record { at = p.at; member = subst (λ l. mem p.at l ≡ true) (sym m) (in_first p.at (marking plan j.probe) (x ∷ []) p.member); passes = p.passes }))
      (ih j.probe (fed_below plan tree x j.probe (fed_probe x j is)) comes))
      (last_step plan tree n x r)

  covered_to : (b n x : ℕ) → x < b → acts (plan.stage n) ≡ true → Comes plan tree n x → InFlow n x
  covered_to zero n x lt act r = absurd (omega arith)
  covered_to (suc b) n x lt act r = covered_by n x act (λ i less s. covered_to b n i (omega (arith, lt, less)) act s) r (view x (inside plan tree n x r))

  pub covered : (n x : ℕ) → acts (plan.stage n) ≡ true → Comes plan tree n x → InFlow n x
  covered n x act r = covered_to (suc x) n x (omega arith) act r

  -- ---- a join at which a flow begins is run before it

  joins_by : (n x : ℕ) (join : JoinStage) → plan.stage n ≡ Joined join → ((i : ℕ) → i < x → mem n (begins plan i) ≡ true → mem n (marking plan i) ≡ true) → mem n (begins plan x) ≡ true → View plan x → mem n (marking plan x) ≡ true
  joins_by n x join is ih e (Own s b m f) =
      let here : supplies (plan.stage n) ≡ true = subst (λ i. supplies (plan.stage i) ≡ true) (only_self n x b e) s in
      let there : supplies (plan.stage n) ≡ false = ap supplies is in
      cc
  joins_by n x join is ih e (Through a b m) =
      let h = of_which (begins plan) n (feeds (plan.stage x)) (subst (λ l. mem n l ≡ true) b e) in
      subst (λ l. mem n l ≡ true) (sym m) (in_all (marking plan) n h.at (feeds (plan.stage x)) h.member (ih h.at (fed_below plan tree x h.at h.member) h.passes))
  joins_by n x join is ih e (Marked j isj mk b m) =
      subst (λ l. mem n l ≡ true) (sym m) (in_second n (marking plan j.probe) (x ∷ []) (subst (λ i. mem i (x ∷ []) ≡ true) (only_self n x b e) (head x [])))

  joins_to : (b n x : ℕ) (join : JoinStage) → x < b → plan.stage n ≡ Joined join → mem n (begins plan x) ≡ true → mem n (marking plan x) ≡ true
  joins_to zero n x join lt is e = absurd (omega arith)
  joins_to (suc b) n x join lt is e = joins_by n x join is (λ i less. joins_to b n i join (omega (arith, lt, less)) is) e (view x (begun_inside n x e))

  pub joins_marked : (n x : ℕ) (join : JoinStage) → plan.stage n ≡ Joined join → mem n (begins plan x) ≡ true → mem n (marking plan x) ≡ true
  joins_marked n x join is e = joins_to (suc x) n x join (omega arith) is e

  -- ---- each once

  begins_once_by : (n x : ℕ) → ((i : ℕ) → i < x → count n (begins plan i) ≤ 1) → View plan x → count n (begins plan x) ≤ 1
  begins_once_by n x ih (Own s b m f) = subst (λ l. count n l ≤ 1) (sym b) (one_once n x)
  begins_once_by n x ih (Through a b m) =
      let reading = λ (i : ℕ). feeds_read (plan.stage x) i in
      let all : count n (flat_map (begins plan) (feeds (plan.stage x))) ≤ 1 =
      once_in_all (begins plan) n (feeds (plan.stage x)) (λ i e. ih i (fed_below plan tree x i e))
      (λ i k e d u v. same_input plan tree n x i k (reading i e) (reading k d) (begun n i u) (begun n k v))
      (λ i. fed_once (plan.stage x) i (tree.once x i)) in
      subst (λ l. count n l ≤ 1) (sym b) all
  begins_once_by n x ih (Marked j is mk b m) = subst (λ l. count n l ≤ 1) (sym b) (one_once n x)

  begins_once_to : (b n x : ℕ) → x < b → count n (begins plan x) ≤ 1
  begins_once_to zero n x lt = absurd (omega arith)
  begins_once_to (suc b) n x lt =
      either
      (λ there. begins_once_by n x (λ i less. begins_once_to b n i (omega (arith, lt, less))) (view x there))
      (λ le. subst (λ l. count n l ≤ 1) (sym (walk_past [] (begins_at plan) plan.size x le)) (omega arith))
      (cases_lt x plan.size)

  pub begins_once : (n x : ℕ) → count n (begins plan x) ≤ 1
  begins_once n x = begins_once_to (suc x) n x (omega arith)

  marking_once_by : (n x : ℕ) → ((i : ℕ) → i < x → count n (marking plan i) ≤ 1) → View plan x → count n (marking plan x) ≤ 1
  marking_once_by n x ih (Own s b m f) = subst (λ l. count n l ≤ 1) (sym m) (omega arith)
  marking_once_by n x ih (Through a b m) =
      let reading = λ (i : ℕ). feeds_read (plan.stage x) i in
      let all : count n (flat_map (marking plan) (feeds (plan.stage x))) ≤ 1 =
      once_in_all (marking plan) n (feeds (plan.stage x)) (λ i e. ih i (fed_below plan tree x i e))
      (λ i k e d u v. same_input plan tree n x i k (reading i e) (reading k d) (marked n i u).comes (marked n k v).comes)
      (λ i. fed_once (plan.stage x) i (tree.once x i)) in
      subst (λ l. count n l ≤ 1) (sym m) all
  marking_once_by n x ih (Marked j is mk b m) =
      let parts = count_append n (marking plan j.probe) (x ∷ []) in
      let less = fed_below plan tree x j.probe (fed_probe x j is) in
      let all : count n (marking plan j.probe ++ x ∷ []) ≤ 1 =
      either
      (λ lower.
      let le = upwards plan tree n j.probe (marked n j.probe lower).comes in
      let none : count n (x ∷ []) ≡ 0 = stands_not n (x ∷ []) (either (λ self. (let same = only_one n x self in absurd (omega (arith, same, le, less)))) (λ e. e) (decide (mem n (x ∷ [])))) in
      let one = ih j.probe less in
      omega (arith, parts, none, one))
      (λ not_lower. (let none = stands_not n (marking plan j.probe) not_lower in let one = one_once n x in omega (arith, parts, none, one)))
      (decide (mem n (marking plan j.probe))) in
      subst (λ l. count n l ≤ 1) (sym m) all

  marking_once_to : (b n x : ℕ) → x < b → count n (marking plan x) ≤ 1
  marking_once_to zero n x lt = absurd (omega arith)
  marking_once_to (suc b) n x lt =
      either
      (λ there. marking_once_by n x (λ i less. marking_once_to b n i (omega (arith, lt, less))) (view x there))
      (λ le. subst (λ l. count n l ≤ 1) (sym (walk_past [] (marking_at plan) plan.size x le)) (omega arith))
      (cases_lt x plan.size)

  pub marking_once : (n x : ℕ) → count n (marking plan x) ≤ 1
  marking_once n x = marking_once_to (suc x) n x (omega arith)

  -- ---- no marking join lies between the beginning of a flow and its end

  between_by : (n p x : ℕ) (join : JoinStage) → plan.stage p ≡ Joined join → marks join ≡ true → Comes plan tree n p → ((i : ℕ) → i < x → mem n (begins plan i) ≡ true → Comes plan tree p i → p ≡ n) → mem n (begins plan x) ≡ true → Comes plan tree p x → View plan x → p ≡ n
  between_by n p x join is mk r ih e t (Own s b m f) =
      let same = only_self n x b e in
      let low = upwards plan tree n p r in
      let high = upwards plan tree p x t in
      omega (arith, same, low, high)
  between_by n p x join is mk r ih e t (Through a b m) =
      either
      (λ same. (let act : acts (plan.stage x) ≡ true = ap (λ i. acts (plan.stage i)) same ∙ ap acts is ∙ mk in cc))
      (λ h.
      let g = of_which (begins plan) n (feeds (plan.stage x)) (subst (λ l. mem n l ≡ true) b e) in
      let reading = λ (i : ℕ). feeds_read (plan.stage x) i in
      let same : g.at ≡ h.at = same_input plan tree n x g.at h.at (reading g.at g.member) (reading h.at h.member) (begun n g.at g.passes) (comes_on plan tree n p h.at r h.passes) in
      ih h.at (fed_below plan tree x h.at h.member) (subst (λ i. mem n (begins plan i) ≡ true) same g.passes) h.passes)
      (last_step plan tree p x t)
  between_by n p x join is mk r ih e t (Marked j isj mkj b m) =
      let same = only_self n x b e in
      let low = upwards plan tree n p r in
      let high = upwards plan tree p x t in
      omega (arith, same, low, high)

  between_to : (b n p x : ℕ) (join : JoinStage) → x < b → plan.stage p ≡ Joined join → marks join ≡ true → Comes plan tree n p → mem n (begins plan x) ≡ true → Comes plan tree p x → p ≡ n
  between_to zero n p x join lt is mk r e t = absurd (omega arith)
  between_to (suc b) n p x join lt is mk r e t = between_by n p x join is mk r (λ i less. between_to b n p i join (omega (arith, lt, less)) is mk r) e t (view x (begun_inside n x e))

  pub between : (n p x : ℕ) (join : JoinStage) → plan.stage p ≡ Joined join → marks join ≡ true → Comes plan tree n p → mem n (begins plan x) ≡ true → Comes plan tree p x → p ≡ n
  between n p x join is mk r e t = between_to (suc x) n p x join (omega arith) is mk r e t

  pub probe_read : (m : ℕ) (j : JoinStage) → plan.stage m ≡ Joined j → reads plan m j.probe ≡ true
  probe_read m j is = feeds_read (plan.stage m) j.probe (fed_probe m j is)

  half : (n m d : ℕ) (j l : JoinStage) → plan.stage m ≡ Joined j → marks j ≡ true → plan.stage d ≡ Joined l → m < plan.size → mem n (begins plan j.probe) ≡ true → mem n (begins plan l.probe) ≡ true → Comes plan tree j.probe l.probe → m ≡ d
  half n m d j l is mk isl there e f on =
      either
      (λ eq.
      let same : j.probe ≡ l.probe = (Decides-eqb j.probe l.probe).0 eq in
      tree.one_reader m d l.probe (subst (λ i. reads plan m i ≡ true) same (probe_read m j is)) (probe_read d l isl))
      (λ differs.
      let above = over plan tree j.probe l.probe m on (λ same. (let yes = (Decides-eqb j.probe l.probe).1 same in cc)) (probe_read m j is) in
      let comes = begun n j.probe e in
      let same : m ≡ n = between n m l.probe j is mk (comes_next plan tree n j.probe m there (fed_probe m j is) comes) f above in
      let low = upwards plan tree n j.probe comes in
      let less = fed_below plan tree m j.probe (fed_probe m j is) in
      absurd (omega (arith, same, low, less)))
      (decide (eqb j.probe l.probe))

  -- what begins the probe flows of two marking joins begins one
  pub one_flow : (n m d : ℕ) (j l : JoinStage) → plan.stage m ≡ Joined j → marks j ≡ true → m < plan.size → plan.stage d ≡ Joined l → marks l ≡ true → d < plan.size → mem n (begins plan j.probe) ≡ true → mem n (begins plan l.probe) ≡ true → m ≡ d
  one_flow n m d j l is mk there isl mkl there_too e f =
      either
      (λ on. half n m d j l is mk isl there e f on)
      (λ back. sym (half n d m l j isl mkl is there_too f e back))
      (line plan tree n j.probe l.probe (begun n j.probe e) (begun n l.probe f))

  -- ---- lower ones first

  -- each of a list comes behind those below it, where some were before
  abbrev pub Ordered : List ℕ → List ℕ → Type 0
  Ordered ready [] = Unit {0}
  Ordered ready (m ∷ ms) = Within (below plan m) ready × Ordered (m ∷ ready) ms

  ordered_append : (ready a b : List ℕ) → Ordered ready a → ((more : List ℕ) → Within ready more → Within a more → Ordered more b) → Ordered ready (a ++ b)
  ordered_append ready [] b h k = k ready (λ n e. e) (λ n e. cc)
  ordered_append ready (m ∷ a) b h k = (
    h.0,
    ordered_append (m ∷ ready) a b h.1 (λ more old new. k more (λ n e. old n (behind n m ready e)) (λ n e. either (λ same. old n (or_left (eqb m n) (mem n ready) same)) (λ rest. new n rest) (or_cases (eqb m n) (mem n a) e))),
  )

  ordered_all : (ready is : List ℕ) → ((i : ℕ) → mem i is ≡ true → (more : List ℕ) → Ordered more (marking plan i)) → Ordered ready (flat_map (marking plan) is)
  ordered_all ready [] h = tt
  ordered_all ready (i ∷ is) h = ordered_append ready (marking plan i) (flat_map (marking plan) is) (h i (head i is) ready) (λ more old new. ordered_all more is (λ k e. h k (behind k i is e)))

  ordered_by : (x : ℕ) (ready : List ℕ) → ((i : ℕ) → i < x → (more : List ℕ) → Ordered more (marking plan i)) → View plan x → Ordered ready (marking plan x)
  ordered_by x ready ih (Own s b m f) = subst (λ l. Ordered ready l) (sym m) tt
  ordered_by x ready ih (Through a b m) = subst (λ l. Ordered ready l) (sym m) (ordered_all ready (feeds (plan.stage x)) (λ i e. ih i (fed_below plan tree x i e)))
  ordered_by x ready ih (Marked j is mk b m) =
      subst (λ l. Ordered ready l) (sym m)
      (ordered_append ready (marking plan j.probe) (x ∷ []) (ih j.probe (fed_below plan tree x j.probe (fed_probe x j is)) ready)
      (λ more old new. ((λ k e. new k (subst (λ s. mem k (at_join [] (λ l. marking plan l.probe) s) ≡ true) is e)), tt)))

  ordered_to : (b x : ℕ) (ready : List ℕ) → x < b → Ordered ready (marking plan x)
  ordered_to zero x ready lt = absurd (omega arith)
  ordered_to (suc b) x ready lt =
      either
      (λ there. ordered_by x ready (λ i less more. ordered_to b i more (omega (arith, lt, less))) (view x there))
      (λ le. subst (λ l. Ordered ready l) (sym (walk_past [] (marking_at plan) plan.size x le)) tt)
      (cases_lt x plan.size)

  pub ordered : (x : ℕ) (ready : List ℕ) → Ordered ready (marking plan x)
  ordered x ready = ordered_to (suc x) x ready (omega arith)
