-- The sinks of a plan's nodes, one behind the other, and that of the root last.
use Rattle.std.proofs.Common.{◌≡◌, ℕ, zero, suc, ◌+◌, ◌<◌, ◌==◌, true, false, List, [], ◌∷◌, ◌++◌, length, get_or, Option, Some, None, refl, ap, sym, subst, ◌∙◌, arith}
use Rattle.pipe_plan.specs.Faults.{IsWellFormed}
use Rattle.pipe_plan.specs.Node.{Node}
use Rattle.pipe_plan.specs.Node as node
use Rattle.pipe_plan.specs.Under.{node_at}
use Rattle.pipe_driver.specs.declared.branch.SinkAt.{SinkAt}
use Rattle.pipe_driver.specs.declared.branch.SinkAt.TheVariants as at
use Rattle.pipe_check.specs.Checked.{Checked}
use Rattle.pipe_convert.proofs.Granted.{granted}
use Rattle.pipe_driver.specs.Shape.{kind_of, kind_at, is_joining, is_sorting}
use Rattle.pipe_driver.proofs.Sounds.{are_sound}
use Rattle.pipe_driver.proofs.Tests.{by_test, eq-is, eq-not}
use Rattle.pipe_slots.specs.declared.phys_sink.PhysSink.{PhysSink}
use Rattle.pipe_convert.specs.Nodes.{IsUnder, plan_in, nodes_in, meaning_in}
use Rattle.pipe_convert.specs.Steps.{IsThere}
use Rattle.pipe_convert.proofs.JoinNodes.{joins, sorts, not_sorting, union_not_sorting, no_join, no_union_join, under_sort, under_join, sized_next}
use Rattle.pipe_lines.specs.Made.{Specs, Sinks, IsSinkAt, IsSomeSinkAt, IsNodeSink, AreNodeSinks, AreSinks, own_sink, sink_at}

-- ---- the sink of one node

abbrev value_or : {A : Type 0} → A → Option A → A
value_or d None = d
value_or d (Some x) = x

-- the place of a node's own sink is one of the plan's
pub own_there : (plan : Checked) (n : ℕ) (x : Node) (a : SinkAt) → IsUnder plan n → node_at (nodes_in plan) n ≡ x → own_sink x n ≡ Some a → IsThere (meaning_in plan) a
own_there plan n (node.DataFrameScan frame columns) a u is e = absurd (let f : None ≡ Some a = e in cc)
own_there plan n (node.Filter input predicate) a u is e = absurd (let f : None ≡ Some a = e in cc)
own_there plan n (node.SimpleProjection input columns) a u is e = absurd (let f : None ≡ Some a = e in cc)
own_there plan n (node.Select input exprs) a u is e = absurd (let f : None ≡ Some a = e in cc)
own_there plan n (node.HStack input exprs) a u is e = absurd (let f : None ≡ Some a = e in cc)
own_there plan n (node.MapFunction input function) a u is e = absurd (let f : None ≡ Some a = e in cc)
own_there plan n (node.Union inputs) a u is e = absurd (let f : None ≡ Some a = e in cc)
own_there plan n (node.Join left right left_on right_on options) a u is e =
    let P : SinkAt → Type 0 = IsThere (meaning_in plan) in
    subst P (ap (value_or a) e) (joins plan n left right left_on right_on options (record { under = u; is = is }))
own_there plan n (node.Sort input by options) a u is e =
    let P : SinkAt → Type 0 = IsThere (meaning_in plan) in
    subst P (ap (value_or a) e) (sorts plan n input by options (record { under = u; is = is }))

pub sink_made : {H : Type 0} (plan : Checked) (specs : Specs) (hasher : H) (parts n : ℕ) (x : Node) (a : SinkAt) (k : PhysSink H) → IsWellFormed (plan_in plan) plan.root → IsUnder plan n → node_at (nodes_in plan) n ≡ x → own_sink x n ≡ Some a → IsSinkAt plan specs hasher parts a k → IsNodeSink plan specs hasher parts n (Some k)
sink_made plan specs hasher parts n (node.DataFrameScan frame columns) a k good u is e made = absurd (let f : None ≡ Some a = e in cc)
sink_made plan specs hasher parts n (node.Filter input predicate) a k good u is e made = absurd (let f : None ≡ Some a = e in cc)
sink_made plan specs hasher parts n (node.SimpleProjection input columns) a k good u is e made = absurd (let f : None ≡ Some a = e in cc)
sink_made plan specs hasher parts n (node.Select input exprs) a k good u is e made = absurd (let f : None ≡ Some a = e in cc)
sink_made plan specs hasher parts n (node.HStack input exprs) a k good u is e made = absurd (let f : None ≡ Some a = e in cc)
sink_made plan specs hasher parts n (node.MapFunction input function) a k good u is e made = absurd (let f : None ≡ Some a = e in cc)
sink_made plan specs hasher parts n (node.Union inputs) a k good u is e made = absurd (let f : None ≡ Some a = e in cc)
sink_made plan specs hasher parts n (node.Join left right left_on right_on options) a k good u is e made =
    let P : SinkAt → Type 0 = λ z. IsSinkAt plan specs hasher parts z k in
    let join = joins plan n left right left_on right_on options (record { under = u; is = is }) in
    record {
      sort = λ there. absurd ((are_sound (plan_in plan) plan.root good).apart n there join);
      join = λ there. subst P (sym (ap (value_or a) e)) made;
    }
sink_made plan specs hasher parts n (node.Sort input by options) a k good u is e made =
    let P : SinkAt → Type 0 = λ z. IsSinkAt plan specs hasher parts z k in
    let sort = sorts plan n input by options (record { under = u; is = is }) in
    record {
      sort = λ there. subst P (sym (ap (value_or a) e)) made;
      join = λ there. absurd ((are_sound (plan_in plan) plan.root good).apart n sort there);
    }

no_sink : {H : Type 0} (plan : Checked) (specs : Specs) (hasher : H) (parts n : ℕ) (x : Node) → node_at (nodes_in plan) n ≡ x → is_sorting (kind_of (nodes_in plan) x) ≡ false → is_joining (kind_at (nodes_in plan) n) ≡ false → IsNodeSink {H = H} plan specs hasher parts n None
no_sink plan specs hasher parts n x is calm bare = record {
  sort = λ there. not_sorting plan n x is calm there;
  join = λ there. (let f : true ≡ false = sym there ∙ no_join plan n bare in cc);
}

pub none_made : {H : Type 0} (plan : Checked) (specs : Specs) (hasher : H) (parts n : ℕ) (x : Node) → node_at (nodes_in plan) n ≡ x → own_sink x n ≡ None → IsNodeSink {H = H} plan specs hasher parts n None
none_made plan specs hasher parts n (node.DataFrameScan frame columns) is e = no_sink plan specs hasher parts n (node.DataFrameScan frame columns) is refl (ap (λ y. is_joining (kind_of (nodes_in plan) y)) is)
none_made plan specs hasher parts n (node.Filter input predicate) is e = no_sink plan specs hasher parts n (node.Filter input predicate) is refl (ap (λ y. is_joining (kind_of (nodes_in plan) y)) is)
none_made plan specs hasher parts n (node.SimpleProjection input columns) is e = no_sink plan specs hasher parts n (node.SimpleProjection input columns) is refl (ap (λ y. is_joining (kind_of (nodes_in plan) y)) is)
none_made plan specs hasher parts n (node.Select input exprs) is e = no_sink plan specs hasher parts n (node.Select input exprs) is refl (ap (λ y. is_joining (kind_of (nodes_in plan) y)) is)
none_made plan specs hasher parts n (node.HStack input exprs) is e = no_sink plan specs hasher parts n (node.HStack input exprs) is refl (ap (λ y. is_joining (kind_of (nodes_in plan) y)) is)
none_made plan specs hasher parts n (node.MapFunction input function) is e = no_sink plan specs hasher parts n (node.MapFunction input function) is refl (ap (λ y. is_joining (kind_of (nodes_in plan) y)) is)
none_made plan specs hasher parts n (node.Union inputs) is e = no_sink plan specs hasher parts n (node.Union inputs) is (union_not_sorting plan inputs) (no_union_join plan n inputs is)
none_made plan specs hasher parts n (node.Join left right left_on right_on options) is e = absurd (let f : Some (at.Build n) ≡ None = e in cc)
none_made plan specs hasher parts n (node.Sort input by options) is e = absurd (let f : Some (at.Sort n) ≡ None = e in cc)

-- ---- one behind the other

get_behind : {A : Type 0} (xs : List A) (x d : A) → get_or (xs ++ x ∷ []) (length xs) d ≡ x
get_behind [] x d = refl
get_behind (y ∷ xs) x d = get_behind xs x d

get_front : {A : Type 0} (xs ys : List A) (i : ℕ) (d : A) → i < length xs → get_or (xs ++ ys) i d ≡ get_or xs i d
get_front [] ys i d lt = absurd (omega arith)
get_front (x ∷ xs) ys zero d lt = refl
get_front (x ∷ xs) ys (suc i) d lt = get_front xs ys i d (omega arith)

pub sinks_next : {H : Type 0} (plan : Checked) (specs : Specs) (hasher : H) (parts n : ℕ) (old new : Sinks H) (o : Option (PhysSink H)) → new ≡ old ++ o ∷ [] → length old ≡ n → IsNodeSink plan specs hasher parts n o → ((k : ℕ) → k < n → IsNodeSink plan specs hasher parts k (get_or old k None)) → (k : ℕ) → k < n + 1 → IsNodeSink plan specs hasher parts k (get_or new k None)
sinks_next {H = H} plan specs hasher parts n old new o is sized here known k lt =
    let P : Option (PhysSink H) → Type 0 = λ z. IsNodeSink plan specs hasher parts k z in
    let Q : ℕ → Type 0 = λ m. IsNodeSink plan specs hasher parts m o in
    by_test (IsNodeSink plan specs hasher parts k (get_or new k None)) (k == n)
    (λ e. (
    let same = eq-is k n e in
    let found : get_or new k None ≡ o = ap (λ l. get_or l k None) is ∙ ap (λ m. get_or (old ++ o ∷ []) m None) (same ∙ sym sized) ∙ get_behind old o None in
    subst P (sym found) (subst Q (sym same) here)))
    (λ e. (
    let ne = eq-not k n e in
    let low : k < n = omega arith in
    let found : get_or new k None ≡ get_or old k None = ap (λ l. get_or l k None) is ∙ get_front old (o ∷ []) k None (omega arith) in
    subst P (sym found) (known k low)))

place_sink : {H : Type 0} (plan : Checked) (specs : Specs) (hasher : H) (parts : ℕ) (sinks all : Sinks H) (root : PhysSink H) → IsWellFormed (plan_in plan) plan.root → AreNodeSinks plan specs hasher parts sinks → all ≡ sinks ++ Some root ∷ [] → IsSinkAt plan specs hasher parts at.Ordered root → (a : SinkAt) → IsThere (meaning_in plan) a → IsSomeSinkAt plan specs hasher parts a (sink_at plan all a)
place_sink {H = H} plan specs hasher parts sinks all root good known is made at.Ordered there =
    let P : Option (PhysSink H) → Type 0 = IsSomeSinkAt plan specs hasher parts at.Ordered in
    let found : get_or all (length (nodes_in plan)) None ≡ Some root = ap (λ l. get_or l (length (nodes_in plan)) None) is ∙ ap (λ m. get_or (sinks ++ Some root ∷ []) m None) (sym known.sized) ∙ get_behind sinks (Some root) None in
    subst P (sym found) made
place_sink {H = H} plan specs hasher parts sinks all root good known is made (at.Sort n) there =
    let P : Option (PhysSink H) → Type 0 = IsSomeSinkAt plan specs hasher parts (at.Sort n) in
    let low = (granted (plan_in plan) plan.root n (node_at (nodes_in plan) n) good (under_sort plan n there) refl).there in
    let sized = known.sized in
    let found : get_or all n None ≡ get_or sinks n None = ap (λ l. get_or l n None) is ∙ get_front sinks (Some root ∷ []) n None (omega arith) in
    subst P (sym found) ((known.each n low).sort there)
place_sink {H = H} plan specs hasher parts sinks all root good known is made (at.Build n) there =
    let P : Option (PhysSink H) → Type 0 = IsSomeSinkAt plan specs hasher parts (at.Build n) in
    let low = (granted (plan_in plan) plan.root n (node_at (nodes_in plan) n) good (under_join plan n there) refl).there in
    let sized = known.sized in
    let found : get_or all n None ≡ get_or sinks n None = ap (λ l. get_or l n None) is ∙ get_front sinks (Some root ∷ []) n None (omega arith) in
    subst P (sym found) ((known.each n low).join there)

pub sinks_done : {H : Type 0} (plan : Checked) (specs : Specs) (hasher : H) (parts : ℕ) (sinks all : Sinks H) (root : PhysSink H) → IsWellFormed (plan_in plan) plan.root → AreNodeSinks plan specs hasher parts sinks → all ≡ sinks ++ Some root ∷ [] → IsSinkAt plan specs hasher parts at.Ordered root → AreSinks plan specs hasher parts all
sinks_done plan specs hasher parts sinks all root good known is made = record {
  sized = sized_next (length (nodes_in plan)) sinks all (Some root) is known.sized;
  each = place_sink plan specs hasher parts sinks all root good known is made;
}
