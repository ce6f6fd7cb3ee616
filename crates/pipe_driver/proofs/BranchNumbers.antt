-- The numbers of sinks are their places among those that are named.
use Rattle.std.proofs.Common.{◌≡◌, ℕ, suc, ◌<◌, Bool, true, false, ◌||◌, cond, List, [], ◌∷◌, ◌++◌, length, refl, sym, ap, subst, ◌∙◌, arith}
use Rattle.std.specs.List.{flat_map}
use Rattle.pipe_plan.specs.Plan.{Plan}
use Rattle.pipe_driver.specs.declared.branch.SinkAt.{SinkAt}
use Rattle.pipe_driver.specs.declared.branch.SinkNode.{SinkNode}
use Rattle.pipe_driver.specs.Branches.{Path, PlacedSink, eq_sink, is_named, add_named, number_of, named_after, numbered_sinks, numbered_paths, plan_paths, branches}
use Rattle.pipe_driver.specs.BranchLaws.{sinks_of, first_named, AreNumberedBy}
use Rattle.pipe_driver.proofs.Names.{by_test, eq_sink-itself, named-push, number-push, number-unnamed, number-new, add_named-new, add_named-old}

-- a sink that was named stays so, and keeps its number
kept : (named : List SinkAt) (x at : SinkAt) → is_named named at ≡ true → (is_named (add_named named x) at ≡ true) × (number_of (add_named named x) at ≡ number_of named at)
kept named x at h = by_test ((is_named (add_named named x) at ≡ true) × (number_of (add_named named x) at ≡ number_of named at)) (is_named named x)
    (λ e. (let same = add_named-old named x e in (ap (λ l. is_named l at) same ∙ h, ap (λ l. number_of l at) same)))
    (λ e. (let more = add_named-new named x e in
    (ap (λ l. is_named l at) more ∙ named-push named x at ∙ ap (λ b. b || eq_sink at x) h, ap (λ l. number_of l at) more ∙ number-push named x at h)))

kept-all : (named : List SinkAt) (sinks : List SinkNode) (at : SinkAt) → is_named named at ≡ true → (is_named (first_named named sinks) at ≡ true) × (number_of (first_named named sinks) at ≡ number_of named at)
kept-all named [] at h = (h, refl)
kept-all named (s ∷ sinks) at h =
    let one = kept named s.at at h in
    let all = kept-all (add_named named s.at) sinks at one.0 in
    (all.0, all.1 ∙ one.1)

-- a sink is named once it is added, under the number that it had or would have had
added : (named : List SinkAt) (at : SinkAt) → (is_named (add_named named at) at ≡ true) × (number_of (add_named named at) at ≡ number_of named at)
added named at = by_test ((is_named (add_named named at) at ≡ true) × (number_of (add_named named at) at ≡ number_of named at)) (is_named named at)
    (λ e. (let same = add_named-old named at e in (ap (λ l. is_named l at) same ∙ e, ap (λ l. number_of l at) same)))
    (λ e. (let more = add_named-new named at e in (
      ap (λ l. is_named l at) more ∙ named-push named at at ∙ ap (λ b. b || eq_sink at at) e ∙ eq_sink-itself at,
      ap (λ l. number_of l at) more ∙ number-new named at e ∙ sym (number-unnamed named at e),
    )))

number-less : (named : List SinkAt) (at : SinkAt) → is_named named at ≡ true → number_of named at < length named
number-less [] at h = absurd (let f : false ≡ true = h in cc)
number-less (s ∷ ss) at h =
    let split : (b : Bool) → (b || is_named ss at) ≡ true → cond b 0 (suc (number_of ss at)) < suc (length ss) =
    elim [ true ↦ λ g. omega arith | false ↦ λ g. (let lt = number-less ss at g in omega arith) ] in
    split (eq_sink at s) h

-- numbered one after another, they are numbered by those that are named in the end
by-end : (first named : List SinkAt) (placed : List PlacedSink) (after : List SinkNode) → first ≡ first_named named (numbered_sinks named placed ++ after)
    → ((rest : List SinkAt) → rest ≡ named_after named placed → first ≡ first_named rest after → AreNumberedBy first after)
    → AreNumberedBy first (numbered_sinks named placed ++ after)
by-end first named [] after is more = more named refl is
by-end first named (s ∷ placed) after is more =
    let next = add_named named s.at in
    let new = added named s.at in
    let end = kept-all next (numbered_sinks next placed ++ after) s.at new.0 in
    let number : number_of named s.at ≡ number_of first s.at = sym (ap (λ l. number_of l s.at) is ∙ end.1 ∙ new.1) in
    let there : is_named first s.at ≡ true = ap (λ l. is_named l s.at) is ∙ end.0 in
    let less = number-less first s.at there in
    (number, omega arith, by-end first next placed after is more)

paths-by-end : (first named : List SinkAt) (paths : List Path) → first ≡ first_named named (flat_map sinks_of (numbered_paths named paths)) → AreNumberedBy first (flat_map sinks_of (numbered_paths named paths))
paths-by-end first named [] is = tt
paths-by-end first named (p ∷ paths) is =
    by-end first named p.sinks (flat_map sinks_of (numbered_paths (named_after named p.sinks) paths)) is (λ rest e f.
    let P : List SinkAt → Type 0 = λ l. first ≡ first_named l (flat_map sinks_of (numbered_paths (named_after named p.sinks) paths)) in
    paths-by-end first (named_after named p.sinks) paths (subst P e f))

pub numbered-as-named : (plan : Plan) (root : ℕ) → AreNumberedBy (first_named [] (flat_map sinks_of (branches plan root))) (flat_map sinks_of (branches plan root))
numbered-as-named plan root = paths-by-end (first_named [] (flat_map sinks_of (branches plan root))) [] (plan_paths plan.nodes root) refl
