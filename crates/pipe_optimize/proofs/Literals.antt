-- What a narrowed node sorts by, and its literals.
use Rattle.std.proofs.Common.{◌≡◌, ℕ, suc, ◌<◌, Bool, true, false, cond, List, [], ◌∷◌, length, refl, ap, ◌∙◌, arith}
use Rattle.std.specs.Prelude.{filter}
use Rattle.std.specs.List.{list_all}
use Rattle.pipe_frame.specs.Frame.{Table}
use Rattle.pipe_schema.specs.declared.field.Field.{Field}
use Rattle.pipe_plan.specs.Node.{Node}
use Rattle.pipe_plan.specs.Node as node
use Rattle.pipe_plan.specs.Under.{node_at}
use Rattle.pipe_plan.specs.Schemas.{schema_of}
use Rattle.pipe_rules.specs.Sorts.{sorting_of}
use Rattle.pipe_rules.specs.Literals.{LiteralTest, named_literals_pass, node_literals_pass, AddsNoLiteral}
use Rattle.pipe_rules.specs.Grown.{over}
use Rattle.pipe_rules.proofs.Literals.{both-pass, first-passes, second-passes, node-passes}
use Rattle.pipe_rules.specs.Needs.{Names, is_needed}
use Rattle.pipe_rules.specs.Narrowed.{narrow_node}
use Rattle.pipe_optimize.specs.Narrow.{AreNarrowed}

pass-filter : {A : Type 0} (p q : A → Bool) (xs : List A) → list_all p xs ≡ true → list_all p (filter q xs) ≡ true
pass-filter p q [] e = refl
pass-filter p q (x ∷ xs) e =
    let rest = pass-filter p q xs (second-passes (p x) (list_all p xs) e) in
    let split : (b : Bool) → list_all p (cond b (x ∷ filter q xs) (filter q xs)) ≡ true = elim [
      | true ↦ both-pass (p x) (list_all p (filter q xs)) (first-passes (p x) (list_all p xs) e) rest
      | false ↦ rest
    ] in split (q x)

pass-every : (p : Node → Bool) (nodes : List Node) → ((k : ℕ) → k < length nodes → p (node_at nodes k) ≡ true) → list_all p nodes ≡ true
pass-every p [] h = refl
pass-every p (x ∷ nodes) h = both-pass (p x) (list_all p nodes) (h 0 (omega arith)) (pass-every p nodes (λ k lt. h (suc k) (omega arith)))

narrow-sorting : (frames : List Table) (s : ℕ → List Field) (needed : Names) (x : Node) → sorting_of (narrow_node frames s needed x) ≡ sorting_of x
narrow-sorting frames s needed (node.DataFrameScan frame columns) = refl
narrow-sorting frames s needed (node.Filter input predicate) = refl
narrow-sorting frames s needed (node.SimpleProjection input columns) = refl
narrow-sorting frames s needed (node.Select input exprs) = refl
narrow-sorting frames s needed (node.HStack input exprs) = refl
narrow-sorting frames s needed (node.MapFunction input f) = refl
narrow-sorting frames s needed (node.Union inputs) = refl
narrow-sorting frames s needed (node.Join left right left_on right_on options) = refl
narrow-sorting frames s needed (node.Sort input by options) = refl

narrow-passes : (frames : List Table) (s : ℕ → List Field) (needed : Names) (test : LiteralTest) (x : Node) → node_literals_pass test x ≡ true → node_literals_pass test (narrow_node frames s needed x) ≡ true
narrow-passes frames s needed test (node.DataFrameScan frame columns) e = e
narrow-passes frames s needed test (node.Filter input predicate) e = e
narrow-passes frames s needed test (node.SimpleProjection input columns) e = e
narrow-passes frames s needed test (node.Select input exprs) e = pass-filter (named_literals_pass test) (is_needed needed) exprs e
narrow-passes frames s needed test (node.HStack input exprs) e = pass-filter (named_literals_pass test) (is_needed needed) exprs e
narrow-passes frames s needed test (node.MapFunction input f) e = e
narrow-passes frames s needed test (node.Union inputs) e = e
narrow-passes frames s needed test (node.Join left right left_on right_on options) e = e
narrow-passes frames s needed test (node.Sort input by options) e = e

module _ (frames : List Table) (old new : List Node) (needs : ℕ → Names) (narrowed : AreNarrowed frames old new needs) where
  pub sorting-narrowed : (k : ℕ) → k < length old → sorting_of (node_at new k) ≡ sorting_of (node_at old k)
  sorting-narrowed k lt = ap sorting_of (narrowed.each k lt) ∙ narrow-sorting frames (schema_of (over frames new)) (needs k) (node_at old k)

  pub narrowed-pass : AddsNoLiteral old new
  narrowed-pass test all =
      pass-every (node_literals_pass test) new (λ k lt. (let long = narrowed.long in
      ap (node_literals_pass test) (narrowed.each k (omega arith))
      ∙ narrow-passes frames (schema_of (over frames new)) (needs k) test (node_at old k) (node-passes test old k all)))
