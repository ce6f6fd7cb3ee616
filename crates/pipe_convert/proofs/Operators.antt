-- What is made of a node by the check's grants does what the node means, row by row.
use Rattle.std.proofs.Common.{◌≡◌, ℕ, true, false, ◌||◌, List, [], ◌∷◌, Some, None, is_some, ap, sym, ◌∙◌}
use Rattle.std.specs.Prelude.{option_map}
use Rattle.std.specs.declared.sync.Arc.{Arc}
use Rattle.pipe_schema.specs.Schema.{IsSchema, names_of, names_fault}
use Rattle.pipe_frame.specs.Frame.{select_fault, unknown_fault, else_fault}
use Rattle.pipe_schema.specs.declared.error.FrameError.TheVariants as wrong
use Rattle.pipe_schema.specs.declared.data_type.DataType.TheVariants as dtype
use Rattle.pipe_schema.specs.declared.field.Field.{Field}
use Rattle.pipe_expr.specs.Formula.{Formula, NamedFormula}
use Rattle.pipe_expr.specs.Types.{type_of}
use Rattle.pipe_expr.specs.Typing.{IsTyped}
use Rattle.pipe_expr.specs.Projections.{fields_named, row_named, select_fields, hstack_fields, select_row, hstack_row, function_fields, function_rows}
use Rattle.pipe_expr.specs.declared.join_words.FunctionIR.{FunctionIR}
use Rattle.pipe_plan.specs.Node.{Node}
use Rattle.pipe_plan.specs.Node as node
use Rattle.pipe_plan.specs.Plan.{plan_of}
use Rattle.pipe_plan.specs.Under.{inputs_of, is_under}
use Rattle.pipe_plan.specs.Faults.{IsWellFormed}
use Rattle.pipe_ops.specs.Each.{IsPredicate, filtered_row, named_row}
use Rattle.pipe_ops.specs.Exprs.{exprs_in, CanProject, CanStack, projected_row, stacked_row}
use Rattle.pipe_source.specs.Applied.{Applies}
use Rattle.pipe_events.specs.Stages.{Each}
use Rattle.pipe_events.specs.PlanStages.{filtered_row as one_filtered, one_row}
use Rattle.pipe_check.specs.Checked.{Checked}
use Rattle.pipe_check.proofs.Walks.{itself}
use Rattle.pipe_convert.specs.Converted.{IsNode, IsOperatorOf, AreTyped, AreMadeFor, schema_in}
use Rattle.pipe_convert.proofs.Granted.{Granted, granted}
use Rattle.pipe_convert.proofs.Types.{same_types, named-names, typed_all}
use Rattle.pipe_convert.proofs.Applying.{can_read}

-- what the check grants at a node of a checked plan
pub grants : (plan : Checked) (n : ℕ) (x : Node) → IsWellFormed (plan_of plan.arena) plan.root → IsNode plan n x → Granted (plan_of plan.arena) plan.root n x
grants plan n x good at_n = granted (plan_of plan.arena) plan.root n x good at_n.under at_n.is

-- the one input of a node is under the root
pub input_under : (plan : Checked) (n input : ℕ) (x : Node) → inputs_of x ≡ input ∷ [] → IsWellFormed (plan_of plan.arena) plan.root → IsNode plan n x → is_under (plan_of plan.arena).nodes plan.root input ≡ true
input_under plan n input x one good at_n =
    let g = grants plan n x good at_n in
    (g.fed input (rw one (ap (λ b. b || false) (itself input)))).1

pub filter_typed : (plan : Checked) (n input : ℕ) (predicate : Formula) → IsWellFormed (plan_of plan.arena) plan.root → IsNode plan n (node.Filter input predicate) → IsTyped predicate (schema_in plan input)
filter_typed plan n input predicate good at_n =
    ap is_some (same_types _ dtype.Boolean (grants plan n (node.Filter input predicate) good at_n).typed)

pub filter_of : (plan : Checked) (n input : ℕ) (predicate : Formula) (e : NamedFormula) (made_for : List Field) → IsWellFormed (plan_of plan.arena) plan.root → IsNode plan n (node.Filter input predicate) → e.formula ≡ predicate → made_for ≡ schema_in plan input → IsOperatorOf plan n input (λ s. IsPredicate made_for e s) (λ s. s) (λ s. filtered_row e s) (Unit {0}) (Unit {0})
filter_of plan n input predicate e made_for good at_n same made =
    let g = grants plan n (node.Filter input predicate) good at_n in
    let typed : type_of predicate (schema_in plan input) ≡ Some dtype.Boolean = same_types _ dtype.Boolean g.typed in
    record {
      takes_input = (sym made, ap (λ f. type_of f (schema_in plan input)) same ∙ typed);
      gives_output = sym g.made;
      row_by_row = g.staged ∙ ap (λ f. Each input (one_filtered f (schema_in plan input))) (sym same);
      served = tt;
      begins = tt;
    }

pub no_fault : (schema : List Field) (names : List (List ℕ)) → names_fault names ≡ None → unknown_fault schema names ≡ None → select_fault schema names ≡ None
no_fault schema names one known = ap (λ o. else_fault o (unknown_fault schema names)) one ∙ known

pub names_kept : (plan : Checked) (n input : ℕ) (names : List (List ℕ)) → IsWellFormed (plan_of plan.arena) plan.root → IsNode plan n (node.SimpleProjection input names) → IsSchema (schema_in plan n) → select_fault (schema_in plan input) names ≡ None
names_kept plan n input names good at_n whole =
    let g = grants plan n (node.SimpleProjection input names) good at_n in
    let fault : names_fault names ≡ None = sym (ap names_fault (named-names (schema_in plan input) names)) ∙ ap (λ s. names_fault (names_of s)) (sym g.made) ∙ whole in
    no_fault (schema_in plan input) names fault (ap (λ o. option_map wrong.UnknownColumn o) g.known)

pub names_of_node : (plan : Checked) (n input : ℕ) (names columns : List (List ℕ)) (made_for : List Field) → IsWellFormed (plan_of plan.arena) plan.root → IsNode plan n (node.SimpleProjection input names) → columns ≡ names → made_for ≡ schema_in plan input → IsOperatorOf plan n input (λ s. s ≡ made_for) (λ s. fields_named s columns) (λ s. named_row columns s) (Unit {0}) (Unit {0})
names_of_node plan n input names columns made_for good at_n same made =
    let g = grants plan n (node.SimpleProjection input names) good at_n in
    record {
      takes_input = sym made;
      gives_output = ap (fields_named (schema_in plan input)) same ∙ sym g.made;
      row_by_row = g.staged ∙ ap (λ ns. Each input (one_row (row_named (schema_in plan input) ns))) (sym same);
      served = tt;
      begins = tt;
    }

pub exprs_typed : (plan : Checked) (n input : ℕ) (exprs : List NamedFormula) → IsWellFormed (plan_of plan.arena) plan.root → IsNode plan n (node.Select input exprs) → AreTyped (schema_in plan input) exprs
exprs_typed plan n input exprs good at_n = typed_all (schema_in plan input) exprs (grants plan n (node.Select input exprs) good at_n).typed

pub stacked_typed : (plan : Checked) (n input : ℕ) (exprs : List NamedFormula) → IsWellFormed (plan_of plan.arena) plan.root → IsNode plan n (node.HStack input exprs) → AreTyped (schema_in plan input) exprs
stacked_typed plan n input exprs good at_n = typed_all (schema_in plan input) exprs (grants plan n (node.HStack input exprs) good at_n).typed

pub projection_of : (plan : Checked) (n input : ℕ) (exprs : List NamedFormula) {P A : Type 0} (schema_of : P → List Field) (expr_of : P → NamedFormula) (shared : List (Arc P A)) → IsWellFormed (plan_of plan.arena) plan.root → IsNode plan n (node.Select input exprs) → IsSchema (schema_in plan n) → AreMadeFor schema_of (schema_in plan input) shared → exprs_in expr_of shared ≡ exprs → IsOperatorOf plan n input (λ s. CanProject schema_of expr_of shared s) (λ s. select_fields s (exprs_in expr_of shared)) (λ s. projected_row (exprs_in expr_of shared) s) (Unit {0}) (Unit {0})
projection_of plan n input exprs schema_of expr_of shared good at_n whole made same =
    let g = grants plan n (node.Select input exprs) good at_n in
    let given : select_fields (schema_in plan input) (exprs_in expr_of shared) ≡ schema_in plan n = ap (select_fields (schema_in plan input)) same ∙ sym g.made in
    record {
      takes_input = (made, ap (λ s. names_fault (names_of s)) given ∙ whole);
      gives_output = given;
      row_by_row = g.staged ∙ ap (λ es. Each input (one_row (select_row (schema_in plan input) es))) (sym same);
      served = tt;
      begins = tt;
    }

pub extension_of : (plan : Checked) (n input : ℕ) (exprs : List NamedFormula) {P A : Type 0} (schema_of : P → List Field) (expr_of : P → NamedFormula) (made_for : List Field) (shared : List (Arc P A)) → IsWellFormed (plan_of plan.arena) plan.root → IsNode plan n (node.HStack input exprs) → IsSchema (schema_in plan n) → made_for ≡ schema_in plan input → AreMadeFor schema_of (schema_in plan input) shared → exprs_in expr_of shared ≡ exprs → IsOperatorOf plan n input (λ s. CanStack schema_of expr_of made_for shared s) (λ s. hstack_fields s (exprs_in expr_of shared)) (λ s. stacked_row (exprs_in expr_of shared) s) (Unit {0}) (Unit {0})
extension_of plan n input exprs schema_of expr_of made_for shared good at_n whole for made same =
    let g = grants plan n (node.HStack input exprs) good at_n in
    let given : hstack_fields (schema_in plan input) (exprs_in expr_of shared) ≡ schema_in plan n = ap (hstack_fields (schema_in plan input)) same ∙ sym g.made in
    record {
      takes_input = (sym for, made, ap (λ s. names_fault (names_of s)) given ∙ whole);
      gives_output = given;
      row_by_row = g.staged ∙ ap (λ es. Each input (one_row (hstack_row (schema_in plan input) es))) (sym same);
      served = tt;
      begins = tt;
    }

pub function_of : (plan : Checked) (n input : ℕ) (function : FunctionIR) {idle : Type 0} → idle → IsWellFormed (plan_of plan.arena) plan.root → IsNode plan n (node.MapFunction input function) → IsSchema (schema_in plan n) → IsOperatorOf plan n input (λ s. Applies function s) (λ s. function_fields function s) (λ s. function_rows function s) (Unit {0}) idle
function_of plan n input function begins good at_n whole =
    let g = grants plan n (node.MapFunction input function) good at_n in
    record {
      takes_input = (can_read (schema_in plan input) function g.whole g.known g.typed, ap (λ s. names_fault (names_of s)) (sym g.made) ∙ whole);
      gives_output = sym g.made;
      row_by_row = g.staged;
      served = tt;
      begins = begins;
    }
