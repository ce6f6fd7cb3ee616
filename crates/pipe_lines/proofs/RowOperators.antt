-- What is made of a node stands for the node in a run.
use Rattle.std.proofs.Common.{◌≡◌, ℕ, Bool, true, false, cond, ◌==◌, ◌||◌, List, [], ◌∷◌, inl, inr, refl, ap, sym, subst, ◌∙◌}
use Rattle.std.specs.Prelude.{codes}
use Rattle.pipe_schema.specs.Rows.{Row}
use Rattle.pipe_schema.specs.declared.field.Field.{Field}
use Rattle.pipe_expr.specs.Formula.{Formula, NamedFormula}
use Rattle.pipe_expr.specs.declared.join_words.FunctionIR.{FunctionIR}
use Rattle.pipe_plan.specs.Faults.{IsWellFormed}
use Rattle.pipe_plan.specs.Node.{Node}
use Rattle.pipe_plan.specs.Node as node
use Rattle.pipe_plan.specs.PlanRows.{rows_of}
use Rattle.pipe_plan.specs.Under.{node_at}
use Rattle.pipe_driver.specs.Texts.{node_word}
use Rattle.pipe_events.specs.Stages.{Stage, Each, Union, Joined, through}
use Rattle.pipe_check.specs.Checked.{Checked}
use Rattle.pipe_convert.specs.Converted.{IsNode, schema_in}
use Rattle.pipe_convert.specs.Converted as convert
use Rattle.pipe_convert.proofs.Granted.{granted}
use Rattle.pipe_driver.specs.Chains.{goes_through}
use Rattle.pipe_driver.specs.Shape.{kind_of, kind_at, is_joining}
use Rattle.pipe_driver.proofs.Tests.{or-case, eq-is}
use Rattle.pipe_slots.specs.Places.{Place}
use Rattle.pipe_slots.specs.PhysWords.{takes_of, output_of, work_of, text_of, each_work}
use Rattle.pipe_slots.specs.declared.phys_operator.PhysOperator.{PhysOperator}
use Rattle.pipe_slots.specs.declared.phys_operator.PhysOperator.TheVariants as op
use Rattle.pipe_slots.specs.declared.slot.Slot.{Slot}
use Rattle.pipe_driver.specs.declared.branch.SinkAt.{SinkAt}
use Rattle.pipe_slots.specs.Sinks.{SinkSetting}
use Rattle.pipe_engine.specs.Stands.{Settings, IsRowOf, IsOperatorOf}
use Rattle.pipe_lines.specs.Made.{Specs, settings_with, IsOperatorAt, IsPlaceAt}
use Rattle.pipe_convert.specs.Nodes.{plan_in, nodes_in, meaning_in}
use Rattle.pipe_convert.specs.Steps.{GoesThrough, stage_in}
use Rattle.pipe_convert.proofs.JoinNodes.{join_node, no_join, no_union_join}
use Rattle.pipe_lines.proofs.JoinStands.{join_stands}
use Rattle.pipe_convert.proofs.SameFields.{union_schema}
use Rattle.pipe_convert.proofs.SpecFacts.{staged, probed_is}

one_read : (a b : ℕ) → ((a == b) || false) ≡ true → b ≡ a
one_read a b h = elim (or-case (a == b) false h) [ inl e ↦ sym (eq-is a b e) | inr e ↦ absurd (let f : false ≡ true = e in cc) ]

-- the node's kind and word
plain_at : (plan : Checked) (n : ℕ) (x : Node) → node_at (nodes_in plan) n ≡ x → is_joining (kind_of (nodes_in plan) x) ≡ false → is_joining (kind_at (nodes_in plan) n) ≡ false
plain_at plan n x is h = ap (λ y. is_joining (kind_of (nodes_in plan) y)) is ∙ h

word_at : (plan : Checked) (n : ℕ) (x : Node) → node_at (nodes_in plan) n ≡ x → node_word x ≡ node_word (node_at (nodes_in plan) n)
word_at plan n x is = sym (ap node_word is)

module _ {H : Type 0} (plan : Checked) (specs : Specs) (n : ℕ) where
  -- an operator that goes row by row, of a node of one input
  row_of : (o : PhysOperator H) (input : ℕ) (each : List Field → Row → List Row) (serves idle : Type 0) → convert.IsOperatorOf plan n input (takes_of o) (output_of o) each serves idle
      → ((schema : List Field) (s : Slot H) → work_of o schema s ≡ each_work (each schema)) → is_joining (kind_at (nodes_in plan) n) ≡ false
      → (sinks : SinkAt → SinkSetting H) (hasher : H) (parts given : ℕ) → GoesThrough plan given n → IsRowOf (settings_with plan specs sinks hasher parts) (meaning_in plan) given n o
  row_of o input each serves idle is works plain sinks hasher parts given goes =
      let same : given ≡ input = one_read input given (sym (ap (λ s. goes_through s given) is.row_by_row) ∙ goes.through) in
      record {
        takes = subst (λ i. takes_of o (schema_in plan i)) (sym same) is.takes_input;
        output = ap (λ i. output_of o (schema_in plan i)) same ∙ is.gives_output;
        each = λ s. ap (λ w. w.each) (works (schema_in plan given) s) ∙ ap (λ i. each (schema_in plan i)) same ∙ sym (ap (through (rows_of (plan_in plan))) is.row_by_row);
        asks = λ s. ap (λ w. w.asks) (works (schema_in plan given) s);
        gains = λ s. ap (λ w. w.gains) (works (schema_in plan given) s);
        join = no_join plan n plain;
      }

  -- a union lets rows through
  pub pass_at : (inputs : List ℕ) (o : PhysOperator H) → IsWellFormed (plan_in plan) plan.root → IsNode plan n (node.Union inputs) → ((s : List Field) → takes_of o s) → ((s : List Field) → output_of o s ≡ s)
      → ((schema : List Field) (s : Slot H) → work_of o schema s ≡ each_work (λ row. row ∷ [])) → text_of o ≡ codes "union"
      → ((x : Settings H) (given : ℕ) → IsRowOf x (meaning_in plan) given n o → IsOperatorOf x (meaning_in plan) given n o) → IsOperatorAt plan specs n o
  pass_at inputs o good at_n takes output works text made =
      let stage : stage_in plan n ≡ Union inputs = (granted (plan_in plan) plan.root n (node.Union inputs) good at_n.under at_n.is).staged in
      record {
        does = λ sinks hasher parts given goes. (
            let read = sym (ap (λ s. goes_through s given) stage) ∙ goes.through in
            made (settings_with plan specs sinks hasher parts) given (record {
              takes = takes (schema_in plan given);
              output = output (schema_in plan given) ∙ union_schema (plan_in plan) plan.root n good at_n.under inputs at_n.is given read;
              each = λ s. ap (λ w. w.each) (works (schema_in plan given) s) ∙ sym (ap (through (rows_of (plan_in plan))) stage);
              asks = λ s. ap (λ w. w.asks) (works (schema_in plan given) s);
              gains = λ s. ap (λ w. w.gains) (works (schema_in plan given) s);
              join = no_join plan n (no_union_join plan n inputs at_n.is);
            }));
        text = text ∙ word_at plan n (node.Union inputs) at_n.is;
      }

  -- any other that goes row by row
  pub row_at : (x : Node) (o : PhysOperator H) (input : ℕ) (each : List Field → Row → List Row) (serves idle : Type 0) → node_at (nodes_in plan) n ≡ x → is_joining (kind_of (nodes_in plan) x) ≡ false → text_of o ≡ node_word x
      → convert.IsOperatorOf plan n input (takes_of o) (output_of o) each serves idle → ((schema : List Field) (s : Slot H) → work_of o schema s ≡ each_work (each schema))
      → ((x : Settings H) (given : ℕ) → IsRowOf x (meaning_in plan) given n o → IsOperatorOf x (meaning_in plan) given n o) → IsOperatorAt plan specs n o
  row_at x o input each serves idle same plain text is works made =
      record {
        does = λ sinks hasher parts given goes. made (settings_with plan specs sinks hasher parts) given (row_of o input each serves idle is works (plain_at plan n x same plain) sinks hasher parts given goes);
        text = text ∙ word_at plan n x same;
      }

  -- the place of a probe
  pub place_stands : (p : Place) → IsWellFormed (plan_in plan) plan.root → (meaning_in plan).is_join n ≡ true → IsPlaceAt plan specs n p → IsOperatorAt {H = H} plan specs n (op.PlaceHolder p)
  place_stands p good join is =
      let x = join_node plan n join in
      let stage = staged plan n x.left x.right x.left_on x.right_on x.options good x.at_n in
      record {
        does = λ sinks hasher parts given goes. record {
          node = is.node;
          spec = is.spec;
          probed = one_read _ given (sym (ap (λ s. goes_through s given) stage) ∙ goes.through) ∙ sym (probed_is plan n x.left x.right x.left_on x.right_on x.options good x.at_n);
          join = join_stands plan specs n sinks hasher parts join is.good;
        };
        text = word_at plan n (node.Join x.left x.right x.left_on x.right_on x.options) x.at_n.is;
      }
