-- One node of the check, by what its functions say of it.
use Rattle.std.proofs.Common.{◌≡◌, ℕ, ◌+◌, ◌<◌, Bool, true, false, cond, List, [], ◌∷◌, ◌++◌, Option, Some, None, length, ap, sym, subst, ◌∙◌}
use Rattle.pipe_frame.specs.Frame.{Table}
use Rattle.pipe_schema.specs.declared.field.Field.{Field}
use Rattle.pipe_plan.specs.Node.{Node}
use Rattle.pipe_plan.specs.Plan.{Plan}
use Rattle.pipe_plan.specs.Under.{inputs_of, node_at, is_under}
use Rattle.pipe_plan.specs.Schemas.{node_schema}
use Rattle.pipe_plan.specs.Faults.{is_empty, plan_fault, fault_under}
use Rattle.pipe_check.specs.Checked.{MemoryOr}
use Rattle.pipe_check.specs.Checking.{AreFull, is_marked, is_bad_by, fault_by, is_read_under}
use Rattle.pipe_check.specs.Kept.{kept_schema}
use Rattle.pipe_plan.specs.declared.error.PipeError.{PipeError}
use Rattle.pipe_check.proofs.Kept.{AreChecked, inputs-full, fault-same-under, checked-more}
use Rattle.pipe_check.proofs.FirstFault.{faults_from, faults-passed, faults-told, memory-same}

-- where the check stands at a node: the plan and its root, the node's number, whether it is under the root, the
-- node, the frames and the schemas that are lent, and what is known of the nodes below
pub record IsAt (plan : Plan) (root n : ℕ) (schemas : List (Option (List Field))) (read : List Bool) (under : Bool) (x : Node) (frames : List Table) (lent : List (Option (List Field))) : Type 0 where
  pub rooted : root < length plan.nodes
  pub there : n < length plan.nodes
  pub known : AreChecked plan root n schemas read
  pub decided : under ≡ is_under plan.nodes root n
  pub node : node_at plan.nodes n ≡ x
  pub framed : frames ≡ plan.frames
  pub same : lent ≡ schemas

pub node-full : (plan : Plan) (root n : ℕ) (schemas : List (Option (List Field))) (read : List Bool) (under : Bool) (x : Node) (frames : List Table) (lent : List (Option (List Field)))
    → IsAt plan root n schemas read under x frames lent → under ≡ true → is_bad_by read frames n x ≡ false → AreFull (kept_schema lent) (inputs_of x)
node-full plan root n schemas read under x frames lent is u good =
    let good_at : is_bad_by read plan.frames n (node_at plan.nodes n) ≡ false = ap (is_bad_by read plan.frames n) is.node ∙ ap (λ f. is_bad_by read f n x) (sym is.framed) ∙ good in
    let full = inputs-full plan root n schemas read is.rooted is.there is.known (sym is.decided ∙ u) good_at in
    let P : Node → Type 0 = λ y. AreFull (kept_schema schemas) (inputs_of y) in
    let Q : List (Option (List Field)) → Type 0 = λ t. AreFull (kept_schema t) (inputs_of x) in
    subst Q (sym is.same) (subst P is.node full)

fault-is : (plan : Plan) (root n : ℕ) (schemas : List (Option (List Field))) (read : List Bool) (under : Bool) (x : Node) (frames : List Table) (lent : List (Option (List Field)))
    → IsAt plan root n schemas read under x frames lent → cond under (fault_by read frames lent n x) None ≡ cond under (fault_by read plan.frames schemas n (node_at plan.nodes n)) None
fault-is plan root n schemas read under x frames lent is =
    ap (λ y. cond under (fault_by read frames lent n y) None) (sym is.node)
    ∙ ap (λ f. cond under (fault_by read f lent n (node_at plan.nodes n)) None) is.framed
    ∙ ap (λ t. cond under (fault_by read plan.frames t n (node_at plan.nodes n)) None) is.same

made-is : (plan : Plan) (root n : ℕ) (schemas : List (Option (List Field))) (read : List Bool) (under : Bool) (x : Node) (frames : List Table) (lent : List (Option (List Field)))
    → IsAt plan root n schemas read under x frames lent → node_schema frames (kept_schema lent) x ≡ node_schema plan.frames (kept_schema schemas) (node_at plan.nodes n)
made-is plan root n schemas read under x frames lent is =
    ap (node_schema frames (kept_schema lent)) (sym is.node)
    ∙ ap (λ f. node_schema f (kept_schema lent) (node_at plan.nodes n)) is.framed
    ∙ ap (λ t. node_schema plan.frames (kept_schema t) (node_at plan.nodes n)) is.same

pub node-known : (plan : Plan) (root n : ℕ) (schemas : List (Option (List Field))) (read : List Bool) (under : Bool) (x : Node) (frames : List Table) (lent : List (Option (List Field))) (more : List Bool) (made : Option (List Field))
    → IsAt plan root n schemas read under x frames lent → length schemas ≡ n
    → cond under (fault_by read frames lent n x) None ≡ None
    → made ≡ cond under (Some (node_schema frames (kept_schema lent) x)) None
    → (under ≡ true → is_empty (node_schema frames (kept_schema lent) x) ≡ false)
    → ((i : ℕ) → is_marked more i ≡ is_read_under under read (inputs_of x) i)
    → AreChecked plan root (n + 1) (schemas ++ made ∷ []) more
node-known plan root n schemas read under x frames lent more made is sized none is_made is_full is_read =
    let same = made-is plan root n schemas read under x frames lent is in
    checked-more plan root n schemas read more under made is.rooted is.there sized is.known is.decided
    (sym (fault-is plan root n schemas read under x frames lent is) ∙ none)
    (is_made ∙ ap (λ f. cond under (Some f) None) same)
    (λ u. ap is_empty (sym same) ∙ is_full u)
    (λ i. is_read i ∙ ap (λ y. is_read_under under read (inputs_of y) i) (sym is.node))

pub node-passed : (plan : Plan) (root n : ℕ) (schemas : List (Option (List Field))) (read : List Bool) (under : Bool) (x : Node) (frames : List Table) (lent : List (Option (List Field)))
    → IsAt plan root n schemas read under x frames lent → cond under (fault_by read frames lent n x) None ≡ None → faults_from plan root n ≡ plan_fault plan root → faults_from plan root (n + 1) ≡ plan_fault plan root
node-passed plan root n schemas read under x frames lent is none rest =
    let passed : fault_under plan root n ≡ None = sym (fault-same-under plan root n schemas read under is.rooted is.there is.known is.decided) ∙ sym (fault-is plan root n schemas read under x frames lent is) ∙ none in
    faults-passed plan root n is.there passed ∙ rest

pub node-told : (plan : Plan) (root n : ℕ) (schemas : List (Option (List Field))) (read : List Bool) (under : Bool) (x : Node) (frames : List Table) (lent : List (Option (List Field))) (e : PipeError)
    → IsAt plan root n schemas read under x frames lent → faults_from plan root n ≡ plan_fault plan root → MemoryOr (cond under (fault_by read frames lent n x) None) e → MemoryOr (plan_fault plan root) e
node-told plan root n schemas read under x frames lent e is rest told =
    faults-told plan root n e is.there rest
    (memory-same _ _ e (fault-is plan root n schemas read under x frames lent is ∙ fault-same-under plan root n schemas read under is.rooted is.there is.known is.decided) told)
