-- Nodes of every kind over what is left of their inputs.
use Rattle.std.proofs.Common.{◌≡◌, ℕ, List, map, refl, ap, sym, ◌∙◌}
use Rattle.std.specs.Prelude.{filter}
use Rattle.pipe_frame.specs.Frame.{Table}
use Rattle.pipe_schema.specs.Schema.{has_name, names_of, first_repeated}
use Rattle.pipe_schema.specs.declared.field.Field.{Field}
use Rattle.pipe_expr.specs.declared.join_words.FunctionIR.TheVariants as function
use Rattle.pipe_plan.specs.Node.{Node}
use Rattle.pipe_plan.specs.Node as node
use Rattle.pipe_plan.specs.Schemas.{union_fields}
use Rattle.pipe_rules.specs.Needs.{Names}
use Rattle.pipe_rules.specs.Narrowed.{narrow_node}
use Rattle.pipe_rules.proofs.Renumber.{schema-renumbered}
use Rattle.pipe_rules.proofs.Faultless.{differ-same}
use Rattle.pipe_rules.proofs.Granted.{map-members}
use Rattle.pipe_optimize.proofs.Cut.{cut-whole}
use Rattle.pipe_optimize.proofs.Over.{IsOver, IsServed, met-true, out-once}
use Rattle.pipe_optimize.proofs.Plain.{scan-node, filter-node, projection-node, select-node, hstack-node, unpivot-node, rename-node, sort-node}
use Rattle.pipe_optimize.proofs.Joined.{join-node}

module _ (frames : List Table) (s t : ℕ → List Field) (needed : Names) (needs : ℕ → Names) where
  -- a union's inputs are left whole
  union-node : (inputs : List ℕ) → IsOver frames s t needed needs (node.Union inputs) → IsServed frames s t needed (node.Union inputs) (node.Union inputs)
  union-node inputs over =
      let x = node.Union inputs in
      let whole : map t inputs ≡ map s inputs = map-members t s inputs (λ i own. cut-whole (needs i) (s i) (t i) (over.cut i own) (over.once i own) (λ name has. met-true frames s t needed needs x over i name own has refl)) in
      let same : union_fields t inputs ≡ union_fields s inputs = schema-renumbered frames t s x inputs whole in
      record {
        known = refl;
        typed = differ-same t s inputs inputs whole ∙ over.typed;
        single = refl;
        whole = over.whole;
        joinable = refl;
        sortable = refl;
        names = ap (λ f. filter needed (names_of f)) same;
        sub = λ name h. sym (ap (λ f. has_name (names_of f) name) same) ∙ h;
        first = λ name rest e n. record { rest = rest; is = ap names_of same ∙ e };
        once = ap (λ f. first_repeated (names_of f)) same ∙ out-once frames s t needed needs x over;
        needs = λ i name own has. refl;
      }

  pub served : (x : Node) → IsOver frames s t needed needs x → IsServed frames s t needed x (narrow_node frames t needed x)
  served (node.DataFrameScan frame columns) over = scan-node frames s t needed needs frame columns over
  served (node.Filter input predicate) over = filter-node frames s t needed needs input predicate over
  served (node.SimpleProjection input columns) over = projection-node frames s t needed needs input columns over
  served (node.Select input exprs) over = select-node frames s t needed needs input exprs over
  served (node.HStack input exprs) over = hstack-node frames s t needed needs input exprs over
  served (node.MapFunction input (function.Unpivot on index variable value)) over = unpivot-node frames s t needed needs input on index variable value over
  served (node.MapFunction input (function.Rename pairs)) over = rename-node frames s t needed needs input pairs over
  served (node.Union inputs) over = union-node inputs over
  served (node.Join left right left_on right_on options) over = join-node frames s t needed needs left right left_on right_on options over
  served (node.Sort input by options) over = sort-node frames s t needed needs input by options over
