-- Literals that go with their expressions.
use Rattle.std.proofs.Common.{◌≡◌, ℕ, zero, suc, Bool, true, false, cond, eqb, List, [], ◌∷◌, ◌++◌, Option, Some, None, map, refl, ap, sym, ◌∙◌}
use Rattle.std.specs.Prelude.{◌&&◌}
use Rattle.std.specs.List.{flat_map, list_all}
use Rattle.pipe_schema.specs.declared.field.Field.{Field}
use Rattle.pipe_expr.specs.Formula.{Formula, Column, Literal, Add, Sub, Mul, Eq, NotEq, Lt, LtEq, Gt, GtEq, And, Or, Not, IsNull, IsNotNull}
use Rattle.pipe_expr.specs.Joins.{Join}
use Rattle.pipe_expr.specs.declared.join_words.FunctionIR.{FunctionIR}
use Rattle.pipe_expr.specs.declared.join_words.FunctionIR.TheVariants as function
use Rattle.pipe_expr.specs.declared.join_words.JoinType.{JoinType}
use Rattle.pipe_expr.specs.declared.join_words.JoinType.TheVariants as how
use Rattle.pipe_plan.specs.Node.{Node}
use Rattle.pipe_plan.specs.Node as node
use Rattle.pipe_plan.specs.Under.{node_at, inputs_of}
use Rattle.pipe_plan.specs.Schemas.{join_over}
use Rattle.pipe_plan.specs.declared.ir.PlanSlice.{PlanSlice}
use Rattle.pipe_rules.specs.Names.{with_names}
use Rattle.pipe_rules.specs.Conjuncts.{conjuncts_of, all_conjuncts}
use Rattle.pipe_rules.specs.Placing.{Placing, Above, OnInputs, OnLeft, OnRight, reads_only, on_inputs_if, is_plain, plain_name, is_passed_on, old_name, below_function, is_not_in, right_name, on_left_or, on_right_or, on_left, on_right, below_join, below_slice, placing}
use Rattle.pipe_rules.specs.Placed.{first_input, second_input, placing_at}
use Rattle.pipe_rules.specs.Parted.{above_in, inputs_in, left_in, right_in, is_join, part_for, parted}
use Rattle.pipe_rules.proofs.Conjoined.{all-append}
use Rattle.pipe_schema.specs.Schema.{has_name, names_of}
use Rattle.pipe_rules.specs.Renumbered.{with_inputs}
use Rattle.pipe_rules.specs.Literals.{LiteralTest, literals_pass, node_literals_pass}

-- ---- tests of lists

pub both-pass : (a b : Bool) → a ≡ true → b ≡ true → (a && b) ≡ true
both-pass true b h k = k
both-pass false b h k = h

pub first-passes : (a b : Bool) → (a && b) ≡ true → a ≡ true
first-passes true b e = refl
first-passes false b e = e

pub second-passes : (a b : Bool) → (a && b) ≡ true → b ≡ true
second-passes true b e = e
second-passes false b e = cc

pub pass-one : {A : Type 0} (p : A → Bool) (x : A) → p x ≡ true → list_all p (x ∷ []) ≡ true
pass-one p x h = both-pass (p x) true h refl

pub pass-append : {A : Type 0} (p : A → Bool) (xs ys : List A) → list_all p xs ≡ true → list_all p ys ≡ true → list_all p (xs ++ ys) ≡ true
pass-append p xs ys h k = all-append p xs ys ∙ both-pass (list_all p xs) (list_all p ys) h k

pass-flat : {A B : Type 0} (p : A → Bool) (q : B → Bool) (f : A → List B) → ((a : A) → p a ≡ true → list_all q (f a) ≡ true) → (xs : List A) → list_all p xs ≡ true → list_all q (flat_map f xs) ≡ true
pass-flat p q f h [] e = refl
pass-flat p q f h (x ∷ xs) e =
    pass-append q (f x) (flat_map f xs) (h x (first-passes (p x) (list_all p xs) e)) (pass-flat p q f h xs (second-passes (p x) (list_all p xs) e))

pass-map : {A B : Type 0} (p : A → Bool) (q : B → Bool) (f : A → B) → ((a : A) → q (f a) ≡ p a) → (xs : List A) → list_all p xs ≡ true → list_all q (map f xs) ≡ true
pass-map p q f h [] e = refl
pass-map p q f h (x ∷ xs) e =
    both-pass (q (f x)) (list_all q (map f xs)) (h x ∙ first-passes (p x) (list_all p xs) e) (pass-map p q f h xs (second-passes (p x) (list_all p xs) e))

pass-either : {A : Type 0} (p : A → Bool) (b : Bool) (xs ys : List A) → list_all p xs ≡ true → list_all p ys ≡ true → list_all p (cond b xs ys) ≡ true
pass-either p true xs ys h k = h
pass-either p false xs ys h k = k

-- the node of a number passes, where all nodes do, and that of no number
pub pass-at : (p : Node → Bool) → p (node.Union []) ≡ true → (nodes : List Node) (n : ℕ) → list_all p nodes ≡ true → p (node_at nodes n) ≡ true
pass-at p none [] zero e = none
pass-at p none [] (suc n) e = none
pass-at p none (x ∷ nodes) zero e = first-passes (p x) (list_all p nodes) e
pass-at p none (x ∷ nodes) (suc n) e = pass-at p none nodes n (second-passes (p x) (list_all p nodes) e)

module _ (test : LiteralTest) where
  abbrev pass : Formula → Bool
  pass f = literals_pass test f

  -- ---- conjuncts

  pub conjuncts-pass : (f : Formula) → literals_pass test f ≡ true → list_all (literals_pass test) (conjuncts_of f) ≡ true
  conjuncts-pass (Column name) e = pass-one (literals_pass test) (Column name) e
  conjuncts-pass (Literal t value) e = pass-one (literals_pass test) (Literal t value) e
  conjuncts-pass (Add left right) e = pass-one (literals_pass test) (Add left right) e
  conjuncts-pass (Sub left right) e = pass-one (literals_pass test) (Sub left right) e
  conjuncts-pass (Mul left right) e = pass-one (literals_pass test) (Mul left right) e
  conjuncts-pass (Eq left right) e = pass-one (literals_pass test) (Eq left right) e
  conjuncts-pass (NotEq left right) e = pass-one (literals_pass test) (NotEq left right) e
  conjuncts-pass (Lt left right) e = pass-one (literals_pass test) (Lt left right) e
  conjuncts-pass (LtEq left right) e = pass-one (literals_pass test) (LtEq left right) e
  conjuncts-pass (Gt left right) e = pass-one (literals_pass test) (Gt left right) e
  conjuncts-pass (GtEq left right) e = pass-one (literals_pass test) (GtEq left right) e
  conjuncts-pass (And left right) e = pass-append (literals_pass test) (conjuncts_of left) (conjuncts_of right) (conjuncts-pass left (first-passes (pass left) (pass right) e)) (conjuncts-pass right (second-passes (pass left) (pass right) e))
  conjuncts-pass (Or left right) e = pass-one (literals_pass test) (Or left right) e
  conjuncts-pass (Not inner) e = pass-one (literals_pass test) (Not inner) e
  conjuncts-pass (IsNull inner) e = pass-one (literals_pass test) (IsNull inner) e
  conjuncts-pass (IsNotNull inner) e = pass-one (literals_pass test) (IsNotNull inner) e

  pub whole-passes : (f : Formula) → list_all (literals_pass test) (conjuncts_of f) ≡ true → literals_pass test f ≡ true
  whole-passes (Column name) e = first-passes (pass (Column name)) true e
  whole-passes (Literal t value) e = first-passes (pass (Literal t value)) true e
  whole-passes (Add left right) e = first-passes (pass (Add left right)) true e
  whole-passes (Sub left right) e = first-passes (pass (Sub left right)) true e
  whole-passes (Mul left right) e = first-passes (pass (Mul left right)) true e
  whole-passes (Eq left right) e = first-passes (pass (Eq left right)) true e
  whole-passes (NotEq left right) e = first-passes (pass (NotEq left right)) true e
  whole-passes (Lt left right) e = first-passes (pass (Lt left right)) true e
  whole-passes (LtEq left right) e = first-passes (pass (LtEq left right)) true e
  whole-passes (Gt left right) e = first-passes (pass (Gt left right)) true e
  whole-passes (GtEq left right) e = first-passes (pass (GtEq left right)) true e
  whole-passes (And left right) e =
      let both = sym (all-append (literals_pass test) (conjuncts_of left) (conjuncts_of right)) ∙ e in
      let a = list_all (literals_pass test) (conjuncts_of left) in
      let b = list_all (literals_pass test) (conjuncts_of right) in
      both-pass (pass left) (pass right) (whole-passes left (first-passes a b both)) (whole-passes right (second-passes a b both))
  whole-passes (Or left right) e = first-passes (pass (Or left right)) true e
  whole-passes (Not inner) e = first-passes (pass (Not inner)) true e
  whole-passes (IsNull inner) e = first-passes (pass (IsNull inner)) true e
  whole-passes (IsNotNull inner) e = first-passes (pass (IsNotNull inner)) true e

  pub all-conjuncts-pass : (cs : List Formula) → list_all (literals_pass test) cs ≡ true → list_all (literals_pass test) (all_conjuncts cs) ≡ true
  all-conjuncts-pass cs e = pass-flat (literals_pass test) (literals_pass test) conjuncts_of conjuncts-pass cs e

  -- ---- where a conjunct goes

  renamed-pass : (f : List ℕ → List ℕ) (c : Formula) → literals_pass test (with_names f c) ≡ literals_pass test c
  renamed-pass f (Column name) = refl
  renamed-pass f (Literal t value) = refl
  renamed-pass f (Add left right) = ap (λ b. b && pass (with_names f right)) (renamed-pass f left) ∙ ap (λ b. pass left && b) (renamed-pass f right)
  renamed-pass f (Sub left right) = ap (λ b. b && pass (with_names f right)) (renamed-pass f left) ∙ ap (λ b. pass left && b) (renamed-pass f right)
  renamed-pass f (Mul left right) = ap (λ b. b && pass (with_names f right)) (renamed-pass f left) ∙ ap (λ b. pass left && b) (renamed-pass f right)
  renamed-pass f (Eq left right) = ap (λ b. b && pass (with_names f right)) (renamed-pass f left) ∙ ap (λ b. pass left && b) (renamed-pass f right)
  renamed-pass f (NotEq left right) = ap (λ b. b && pass (with_names f right)) (renamed-pass f left) ∙ ap (λ b. pass left && b) (renamed-pass f right)
  renamed-pass f (Lt left right) = ap (λ b. b && pass (with_names f right)) (renamed-pass f left) ∙ ap (λ b. pass left && b) (renamed-pass f right)
  renamed-pass f (LtEq left right) = ap (λ b. b && pass (with_names f right)) (renamed-pass f left) ∙ ap (λ b. pass left && b) (renamed-pass f right)
  renamed-pass f (Gt left right) = ap (λ b. b && pass (with_names f right)) (renamed-pass f left) ∙ ap (λ b. pass left && b) (renamed-pass f right)
  renamed-pass f (GtEq left right) = ap (λ b. b && pass (with_names f right)) (renamed-pass f left) ∙ ap (λ b. pass left && b) (renamed-pass f right)
  renamed-pass f (And left right) = ap (λ b. b && pass (with_names f right)) (renamed-pass f left) ∙ ap (λ b. pass left && b) (renamed-pass f right)
  renamed-pass f (Or left right) = ap (λ b. b && pass (with_names f right)) (renamed-pass f left) ∙ ap (λ b. pass left && b) (renamed-pass f right)
  renamed-pass f (Not inner) = renamed-pass f inner
  renamed-pass f (IsNull inner) = renamed-pass f inner
  renamed-pass f (IsNotNull inner) = renamed-pass f inner

  abbrev placed_pass : Placing → Bool
  placed_pass (Above f) = literals_pass test f
  placed_pass (OnInputs f) = literals_pass test f
  placed_pass (OnLeft f) = literals_pass test f
  placed_pass (OnRight f) = literals_pass test f

  on-inputs-pass : (b : Bool) (c below : Formula) → literals_pass test below ≡ literals_pass test c → placed_pass (on_inputs_if b c below) ≡ literals_pass test c
  on-inputs-pass true c below e = e
  on-inputs-pass false c below e = refl

  on-left-pass : (b : Bool) (c : Formula) (other : Placing) → placed_pass other ≡ literals_pass test c → placed_pass (on_left_or b c other) ≡ literals_pass test c
  on-left-pass true c other e = refl
  on-left-pass false c other e = e

  on-right-pass : (b : Bool) (c below : Formula) → literals_pass test below ≡ literals_pass test c → placed_pass (on_right_or b below (Above c)) ≡ literals_pass test c
  on-right-pass true c below e = e
  on-right-pass false c below e = refl

  right-pass : (j : Join) (c : Formula) → placed_pass (on_right j c) ≡ literals_pass test c
  right-pass j c = on-right-pass (reads_only (is_not_in j.left) c) c (with_names (right_name j j.right) c) (renamed-pass (right_name j j.right) c)

  left-pass : (j : Join) (c : Formula) (other : Placing) → placed_pass other ≡ literals_pass test c → placed_pass (on_left j c other) ≡ literals_pass test c
  left-pass j c other e = on-left-pass (reads_only (has_name (names_of j.left)) c) c other e

  join-pass : (kind : JoinType) (j : Join) (c : Formula) → placed_pass (below_join kind j c) ≡ literals_pass test c
  join-pass how.Inner j c = left-pass j c (on_right j c) (right-pass j c)
  join-pass how.Cross j c = left-pass j c (on_right j c) (right-pass j c)
  join-pass how.Left j c = left-pass j c (Above c) refl
  join-pass how.Semi j c = left-pass j c (Above c) refl
  join-pass how.Anti j c = left-pass j c (Above c) refl
  join-pass how.Full j c = refl

  function-pass : (input : List Field) (f : FunctionIR) (c : Formula) → placed_pass (below_function input f c) ≡ literals_pass test c
  function-pass input (function.Unpivot on index variable value) c = on-inputs-pass (reads_only (has_name index) c) c c refl
  function-pass input (function.Rename pairs) c = renamed-pass (old_name pairs input) c

  slice-pass : (slice : Option PlanSlice) (c : Formula) → placed_pass (below_slice slice c) ≡ literals_pass test c
  slice-pass None c = refl
  slice-pass (Some slice) c = refl

  placing-pass : (l r : List Field) (x : Node) (c : Formula) → placed_pass (placing l r x c) ≡ literals_pass test c
  placing-pass l r (node.DataFrameScan frame columns) c = refl
  placing-pass l r (node.Filter input predicate) c = refl
  placing-pass l r (node.SimpleProjection input columns) c = refl
  placing-pass l r (node.Select input exprs) c = on-inputs-pass (reads_only (is_plain exprs) c) c (with_names (plain_name exprs) c) (renamed-pass (plain_name exprs) c)
  placing-pass l r (node.HStack input exprs) c = on-inputs-pass (reads_only (is_passed_on l exprs) c) c c refl
  placing-pass l r (node.MapFunction input f) c = function-pass l f c
  placing-pass l r (node.Union inputs) c = refl
  placing-pass l r (node.Join left right left_on right_on options) c = join-pass options.how (join_over l r left_on right_on options) c
  placing-pass l r (node.Sort input by options) c = slice-pass options.slice c

  -- ---- conjuncts by where they go

  above-in-pass : (p : Placing) → placed_pass p ≡ true → list_all (literals_pass test) (above_in p) ≡ true
  above-in-pass (Above f) e = pass-one (literals_pass test) f e
  above-in-pass (OnInputs f) e = refl
  above-in-pass (OnLeft f) e = refl
  above-in-pass (OnRight f) e = refl

  inputs-in-pass : (p : Placing) → placed_pass p ≡ true → list_all (literals_pass test) (inputs_in p) ≡ true
  inputs-in-pass (Above f) e = refl
  inputs-in-pass (OnInputs f) e = pass-one (literals_pass test) f e
  inputs-in-pass (OnLeft f) e = refl
  inputs-in-pass (OnRight f) e = refl

  left-in-pass : (p : Placing) → placed_pass p ≡ true → list_all (literals_pass test) (left_in p) ≡ true
  left-in-pass (Above f) e = refl
  left-in-pass (OnInputs f) e = refl
  left-in-pass (OnLeft f) e = pass-one (literals_pass test) f e
  left-in-pass (OnRight f) e = refl

  right-in-pass : (p : Placing) → placed_pass p ≡ true → list_all (literals_pass test) (right_in p) ≡ true
  right-in-pass (Above f) e = refl
  right-in-pass (OnInputs f) e = refl
  right-in-pass (OnLeft f) e = refl
  right-in-pass (OnRight f) e = pass-one (literals_pass test) f e

  module _ (schema : ℕ → List Field) (x : Node) (cs : List Formula) (passing : list_all (literals_pass test) cs ≡ true) where
    placed : list_all placed_pass (map (placing_at schema x) cs) ≡ true
    placed = pass-map (literals_pass test) placed_pass (placing_at schema x) (λ c. placing-pass (schema (first_input (inputs_of x))) (schema (second_input (inputs_of x))) x c) cs passing

    -- what stays above the node
    pub above-pass : list_all (literals_pass test) (parted schema x cs).above ≡ true
    above-pass = pass-flat placed_pass (literals_pass test) above_in above-in-pass (map (placing_at schema x) cs) placed

    inputs-pass : list_all (literals_pass test) (parted schema x cs).inputs ≡ true
    inputs-pass = pass-flat placed_pass (literals_pass test) inputs_in inputs-in-pass (map (placing_at schema x) cs) placed

    lefts-pass : list_all (literals_pass test) (parted schema x cs).left ≡ true
    lefts-pass = pass-flat placed_pass (literals_pass test) left_in left-in-pass (map (placing_at schema x) cs) placed

    rights-pass : list_all (literals_pass test) (parted schema x cs).right ≡ true
    rights-pass = pass-flat placed_pass (literals_pass test) right_in right-in-pass (map (placing_at schema x) cs) placed

    -- what goes onto an input
    pub part-pass : (i : ℕ) → list_all (literals_pass test) (part_for x (parted schema x cs) i) ≡ true
    part-pass i =
        let parts = parted schema x cs in
        let is_first = eqb i (first_input (inputs_of x)) in
        let is_second = eqb i (second_input (inputs_of x)) in
        pass-either (literals_pass test) (is_join x) (cond is_first parts.left (cond is_second parts.right [])) parts.inputs
        (pass-either (literals_pass test) is_first parts.left (cond is_second parts.right []) lefts-pass
        (pass-either (literals_pass test) is_second parts.right [] rights-pass refl))
        inputs-pass

  -- ---- nodes

  -- a node over other inputs
  pub copied-pass : (x : Node) (ks : List ℕ) → node_literals_pass test (with_inputs x ks) ≡ node_literals_pass test x
  copied-pass (node.DataFrameScan frame columns) ks = refl
  copied-pass (node.Filter input predicate) ks = refl
  copied-pass (node.SimpleProjection input columns) ks = refl
  copied-pass (node.Select input exprs) ks = refl
  copied-pass (node.HStack input exprs) ks = refl
  copied-pass (node.MapFunction input f) ks = refl
  copied-pass (node.Union inputs) ks = refl
  copied-pass (node.Join left right left_on right_on options) ks = refl
  copied-pass (node.Sort input by options) ks = refl

  pub node-passes : (nodes : List Node) (n : ℕ) → list_all (node_literals_pass test) nodes ≡ true → node_literals_pass test (node_at nodes n) ≡ true
  node-passes nodes n e = pass-at (node_literals_pass test) refl nodes n e

  -- one more node
  pub pass-more : (nodes made : List Node) (y : Node) → made ≡ nodes ++ y ∷ [] → list_all (node_literals_pass test) nodes ≡ true → node_literals_pass test y ≡ true → list_all (node_literals_pass test) made ≡ true
  pass-more nodes made y is all own = ap (list_all (node_literals_pass test)) is ∙ pass-append (node_literals_pass test) nodes (y ∷ []) all (pass-one (node_literals_pass test) y own)
