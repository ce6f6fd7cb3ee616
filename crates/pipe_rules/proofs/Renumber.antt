-- What a node gives rests on what its inputs give, whatever their numbers.
use Rattle.std.proofs.Common.{◌≡◌, ℕ, List, [], ◌∷◌, ◌++◌, map, refl, ap, ◌∙◌}
use Rattle.std.specs.List.{flat_map}
use Rattle.pipe_frame.specs.Frame.{Table}
use Rattle.pipe_schema.specs.Rows.{Row}
use Rattle.pipe_schema.specs.declared.field.Field.{Field}
use Rattle.pipe_expr.specs.Projections.{filter_rows, row_named, select_row, hstack_row, function_rows, fields_named, select_fields, hstack_fields, function_fields}
use Rattle.pipe_expr.specs.Joins.{join_rows, join_fields}
use Rattle.pipe_rows.specs.SortOrder.{sorted}
use Rattle.pipe_plan.specs.Node.{Node}
use Rattle.pipe_plan.specs.Node as node
use Rattle.pipe_plan.specs.Under.{inputs_of}
use Rattle.pipe_plan.specs.Schemas.{node_schema, union_fields, join_over}
use Rattle.pipe_plan.specs.PlanRows.{node_rows, sort_keys, slice_rows}
use Rattle.pipe_rules.specs.Placed.{first_input, second_input}
use Rattle.pipe_rules.specs.Renumbered.{with_inputs}

pub heads : {A : Type 0} {a b : A} {xs ys : List A} → (a ∷ xs) ≡ (b ∷ ys) → a ≡ b
heads e = cc

pub tails : {A : Type 0} {a b : A} {xs ys : List A} → (a ∷ xs) ≡ (b ∷ ys) → xs ≡ ys
tails e = cc

pub first-same : {A : Type 0} (f g : ℕ → A) (ks : List ℕ) (i : ℕ) (is : List ℕ) → map f ks ≡ map g (i ∷ is) → f (first_input ks) ≡ g i
first-same f g [] i is e = cc
first-same f g (k ∷ ks) i is e = heads e

pub second-same : {A : Type 0} (f g : ℕ → A) (ks : List ℕ) (i j : ℕ) (is : List ℕ) → map f ks ≡ map g (i ∷ j ∷ is) → f (second_input ks) ≡ g j
second-same f g [] i j is e = cc
second-same f g (k ∷ ks) i j is e = first-same f g ks j is (tails e)

union-same : (f g : ℕ → List Field) (ks is : List ℕ) → map f ks ≡ map g is → union_fields f ks ≡ union_fields g is
union-same f g [] [] e = refl
union-same f g [] (i ∷ is) e = cc
union-same f g (k ∷ ks) [] e = cc
union-same f g (k ∷ ks) (i ∷ is) e = heads e

flat-same : (f g : ℕ → List Row) (ks is : List ℕ) → map f ks ≡ map g is → flat_map f ks ≡ flat_map g is
flat-same f g [] [] e = refl
flat-same f g [] (i ∷ is) e = cc
flat-same f g (k ∷ ks) [] e = cc
flat-same f g (k ∷ ks) (i ∷ is) e = ap (λ l. l ++ flat_map f ks) (heads e) ∙ ap (λ l. g i ++ l) (flat-same f g ks is (tails e))

pub two : {A B C : Type 0} (f : A → B → C) {a b : A} {c d : B} → a ≡ b → c ≡ d → f a c ≡ f b d
two f {b = b} {c = c} e h = ap (λ x. f x c) e ∙ ap (f b) h

module _ (frames : List Table) (f g : ℕ → List Field) where
  pub schema-renumbered : (x : Node) (ks : List ℕ) → map f ks ≡ map g (inputs_of x) → node_schema frames f (with_inputs x ks) ≡ node_schema frames g x
  schema-renumbered (node.DataFrameScan frame columns) ks e = refl
  schema-renumbered (node.Filter input predicate) ks e = first-same f g ks input [] e
  schema-renumbered (node.SimpleProjection input columns) ks e = ap (λ s. fields_named s columns) (first-same f g ks input [] e)
  schema-renumbered (node.Select input exprs) ks e = ap (λ s. select_fields s exprs) (first-same f g ks input [] e)
  schema-renumbered (node.HStack input exprs) ks e = ap (λ s. hstack_fields s exprs) (first-same f g ks input [] e)
  schema-renumbered (node.MapFunction input function) ks e = ap (function_fields function) (first-same f g ks input [] e)
  schema-renumbered (node.Union inputs) ks e = union-same f g ks inputs e
  schema-renumbered (node.Join left right left_on right_on options) ks e = two (λ a b. join_fields (join_over a b left_on right_on options)) (first-same f g ks left (right ∷ []) e) (second-same f g ks left right [] e)
  schema-renumbered (node.Sort input by options) ks e = first-same f g ks input [] e

  module _ (r q : ℕ → List Row) where
    pub rows-renumbered : (x : Node) (ks : List ℕ) → map f ks ≡ map g (inputs_of x) → map r ks ≡ map q (inputs_of x) → node_rows frames f r (with_inputs x ks) ≡ node_rows frames g q x
    rows-renumbered (node.DataFrameScan frame columns) ks e h = refl
    rows-renumbered (node.Filter input predicate) ks e h = two (filter_rows predicate) (first-same f g ks input [] e) (first-same r q ks input [] h)
    rows-renumbered (node.SimpleProjection input columns) ks e h = two (λ s rows. map (row_named s columns) rows) (first-same f g ks input [] e) (first-same r q ks input [] h)
    rows-renumbered (node.Select input exprs) ks e h = two (λ s rows. map (select_row s exprs) rows) (first-same f g ks input [] e) (first-same r q ks input [] h)
    rows-renumbered (node.HStack input exprs) ks e h = two (λ s rows. map (hstack_row s exprs) rows) (first-same f g ks input [] e) (first-same r q ks input [] h)
    rows-renumbered (node.MapFunction input function) ks e h = two (λ s rows. flat_map (function_rows function s) rows) (first-same f g ks input [] e) (first-same r q ks input [] h)
    rows-renumbered (node.Union inputs) ks e h = flat-same r q ks inputs h
    rows-renumbered (node.Join left right left_on right_on options) ks e h =
        let j = join_over (g left) (g right) left_on right_on options in
        two (λ a b. join_rows (join_over a b left_on right_on options) (r (first_input ks)) (r (second_input ks))) (first-same f g ks left (right ∷ []) e) (second-same f g ks left right [] e)
        ∙ two (join_rows j) (first-same r q ks left (right ∷ []) h) (second-same r q ks left right [] h)
    rows-renumbered (node.Sort input by options) ks e h = two (λ s rows. slice_rows options.slice (sorted (sort_keys s by options) rows)) (first-same f g ks input [] e) (first-same r q ks input [] h)

pub own-inputs : (x : Node) → with_inputs x (inputs_of x) ≡ x
own-inputs (node.DataFrameScan frame columns) = refl
own-inputs (node.Filter input predicate) = refl
own-inputs (node.SimpleProjection input columns) = refl
own-inputs (node.Select input exprs) = refl
own-inputs (node.HStack input exprs) = refl
own-inputs (node.MapFunction input function) = refl
own-inputs (node.Union inputs) = refl
own-inputs (node.Join left right left_on right_on options) = refl
own-inputs (node.Sort input by options) = refl
