-- A branch on its way up: after so many steps it is what the steps that are left make a path of.
use Rattle.std.proofs.Common.{◌≡◌, ℕ, ◌+◌, ◌<◌, ◌≤◌, true, false, List, [], ◌∷◌, ◌++◌, length, map, take, drop, set, refl, sym, ap, subst, ◌∙◌, arith, append_assoc}
use Rattle.std.specs.List.{list_all}
use Rattle.std.proofs.lemmas.List.{at_drop_more, at_drop_all, take_more, take-append-drop, drop-set-lt, length-set, length_push}
use Rattle.std.proofs.lemmas.Grind.{take-set_at}
use Rattle.std.proofs.lemmas.Bool.{and_parts}
use Rattle.pipe_driver.specs.declared.above.Step.{Step}
use Rattle.pipe_driver.specs.declared.above.Step.TheVariants as step
use Rattle.pipe_driver.specs.declared.branch.SinkAt.{SinkAt}
use Rattle.pipe_driver.specs.declared.branch.SinkAt.TheVariants as at
use Rattle.pipe_driver.specs.declared.branch.Branch.{Branch}
use Rattle.pipe_driver.specs.Branches.{placed, path_from, put_sink, branch_of, numbered_sink, numbered_sinks}
use Rattle.pipe_driver.specs.Climbing.{Named, step_at, climbed, passed, open_path, unnumbered, put_numbered, name_all, add_name, is_step_in}
use Rattle.pipe_driver.proofs.Numbering.{IsOn, put-path, on-put, on-branch, on-named, unnumbered-push}

pub record IsClimbing (first : Named) (steps : List Step) (from k : ℕ) (now : List Step) (known : Named) (b : Branch) : Type 0 where
  pub rest : climbed (drop k now) (open_path b) ≡ climbed steps (path_from from)
  pub above : take k now ++ passed (drop k now) ≡ passed steps
  pub on : IsOn first known b
  pub source : b.source ≡ from
  pub sized : length now ≡ length steps
  pub few : length b.operators ≤ k
  pub there : list_all (is_step_in known.nodes) (drop k now) ≡ true

pub record IsUp (first : Named) (steps : List Step) (from : ℕ) (now : List Step) (known : Named) (b : Branch) : Type 0 where
  pub branch : b ≡ branch_of first.sinks (climbed steps (path_from from))
  pub named : known ≡ name_all first (climbed steps (path_from from)).sinks
  pub above : now ≡ passed steps

on-start : (named : Named) (branch : Branch) → branch ≡ branch_of named.sinks (path_from branch.source) → IsOn named named branch
on-start named branch fresh =
    let none : branch.sinks ≡ [] = ap (λ b. b.sinks) fresh in
    record {
      numbered = none ∙ sym (ap (λ l. numbered_sinks named.sinks (map unnumbered l)) none);
      named = sym (ap (λ l. name_all named (map unnumbered l)) none);
    }

pub climb-start : (named : Named) (steps : List Step) (branch : Branch) → branch ≡ branch_of named.sinks (path_from branch.source) → list_all (is_step_in named.nodes) steps ≡ true
    → IsClimbing named steps branch.source 0 steps named branch
climb-start named steps branch fresh there = record {
  rest = ap (λ b. climbed steps (open_path b)) fresh;
  above = refl;
  on = on-start named branch fresh;
  source = refl;
  sized = refl;
  few = let none = ap (λ b. length b.operators) fresh in omega arith;
  there = there;
}

next : (above : List Step) (k : ℕ) (s : Step) → k < length above → step_at above k ≡ s → drop k above ≡ s ∷ drop (k + 1) above
next above k s lt is = at_drop_more (λ l. l) above k (step.Operator 0) lt ∙ ap (λ x. x ∷ drop (k + 1) above) is

front : (above : List Step) (k : ℕ) (s : Step) → k < length above → step_at above k ≡ s → take (k + 1) above ≡ take k above ++ s ∷ []
front above k s lt is = take_more above k (step.Operator 0) lt ∙ ap (λ x. take k above ++ x ∷ []) is

there-next : (nodes : ℕ) (above : List Step) (k : ℕ) (s : Step) → k < length above → step_at above k ≡ s → list_all (is_step_in nodes) (drop k above) ≡ true
    → (is_step_in nodes s ≡ true) × (list_all (is_step_in nodes) (drop (k + 1) above) ≡ true)
there-next nodes above k s lt is h =
    and_parts (is_step_in nodes s) (list_all (is_step_in nodes) (drop (k + 1) above)) (sym (ap (list_all (is_step_in nodes)) (next above k s lt is)) ∙ h)

-- the step that a branch comes to has room in the table
pub climb-there : (first : Named) (steps : List Step) (source k : ℕ) (above : List Step) (named : Named) (branch : Branch) (s : Step)
    → IsClimbing first steps source k above named branch → k < length above → step_at above k ≡ s → is_step_in named.nodes s ≡ true
climb-there first steps source k above named branch s on lt is = (there-next named.nodes above k s lt is on.there).0

pub climb-operator : (first : Named) (steps : List Step) (source k : ℕ) (above : List Step) (named : Named) (branch : Branch) (n : ℕ)
    → IsClimbing first steps source k above named branch → k < length above → step_at above k ≡ step.Operator n
    → IsClimbing first steps source (k + 1) above named (record branch { operators = branch.operators ++ n ∷ [] })
climb-operator first steps source k above named branch n on lt is = record {
  rest = sym (ap (λ l. climbed l (open_path branch)) (next above k (step.Operator n) lt is)) ∙ on.rest;
  above = ap (λ l. l ++ passed (drop (k + 1) above)) (front above k (step.Operator n) lt is)
      ∙ append_assoc (take k above) (step.Operator n ∷ []) (passed (drop (k + 1) above))
      ∙ sym (ap (λ l. take k above ++ passed l) (next above k (step.Operator n) lt is)) ∙ on.above;
  on = record { numbered = on.on.numbered; named = on.on.named };
  source = on.source;
  sized = on.sized;
  few = let e = length_push branch.operators n in let f = on.few in omega arith;
  there = (there-next named.nodes above k (step.Operator n) lt is on.there).1;
}

pub climb-sort : (first : Named) (steps : List Step) (source k : ℕ) (above : List Step) (named : Named) (branch : Branch) (n : ℕ)
    → IsClimbing first steps source k above named branch → k < length above → step_at above k ≡ step.Sort n false
    → IsClimbing first steps source (k + 1) (set above k (step.Sort n true)) (add_name named (at.Sort n)) (put_numbered named.sinks (at.Sort n) branch)
climb-sort first steps source k above named branch n on lt is =
    let s = step.Sort n false in
    let behind : drop (k + 1) (set above k (step.Sort n true)) ≡ drop (k + 1) above = drop-set-lt (k + 1) above k (step.Sort n true) (omega arith) in
    record {
      rest = ap (λ l. climbed l (open_path (put_numbered named.sinks (at.Sort n) branch))) behind
          ∙ ap (climbed (drop (k + 1) above)) (put-path named.sinks (at.Sort n) branch)
          ∙ sym (ap (λ l. climbed l (open_path branch)) (next above k s lt is)) ∙ on.rest;
      above = ap (λ l. l ++ passed (drop (k + 1) (set above k (step.Sort n true)))) (take-set_at above k (k + 1) (step.Sort n true) refl lt)
          ∙ ap (λ l. (take k above ++ step.Sort n true ∷ []) ++ passed l) behind
          ∙ append_assoc (take k above) (step.Sort n true ∷ []) (passed (drop (k + 1) above))
          ∙ sym (ap (λ l. take k above ++ passed l) (next above k s lt is)) ∙ on.above;
      on = on-put first named (at.Sort n) branch on.on;
      source = on.source;
      sized = length-set above k (step.Sort n true) ∙ on.sized;
      few = let f = on.few in omega arith;
      there = ap (list_all (is_step_in named.nodes)) behind ∙ (there-next named.nodes above k s lt is on.there).1;
    }

-- where the steps that are left end a path in a sink, and stay as they are
up : (first : Named) (steps : List Step) (source k : ℕ) (above : List Step) (named : Named) (branch : Branch) (sink : SinkAt)
    → IsClimbing first steps source k above named branch
    → climbed (drop k above) (open_path branch) ≡ put_sink false sink (open_path branch) → passed (drop k above) ≡ drop k above
    → IsUp first steps source above (add_name named sink) (put_numbered named.sinks sink branch)
up first steps source k above named branch sink on ends stays =
    let path = put_sink false sink (open_path branch) in
    let made = put_numbered named.sinks sink branch in
    let same : path ≡ climbed steps (path_from source) = sym ends ∙ on.rest in
    let more = on-put first named sink branch on.on in
    let sinks : map unnumbered made.sinks ≡ path.sinks = unnumbered-push branch.sinks (numbered_sink named.sinks (placed (length branch.operators) sink)) in
    record {
      branch = on-branch first (add_name named sink) made path more refl refl sinks ∙ ap (branch_of first.sinks) same;
      named = on-named first (add_name named sink) made path more sinks ∙ ap (λ p. name_all first p.sinks) same;
      above = sym (take-append-drop k above) ∙ sym (ap (λ l. take k above ++ l) stays) ∙ on.above;
    }

pub up-sort : (first : Named) (steps : List Step) (source k : ℕ) (above : List Step) (named : Named) (branch : Branch) (n : ℕ)
    → IsClimbing first steps source k above named branch → k < length above → step_at above k ≡ step.Sort n true
    → IsUp first steps source above (add_name named (at.Sort n)) (put_numbered named.sinks (at.Sort n) branch)
up-sort first steps source k above named branch n on lt is =
    let e = next above k (step.Sort n true) lt is in
    up first steps source k above named branch (at.Sort n) on (ap (λ l. climbed l (open_path branch)) e) (ap passed e ∙ sym e)

pub up-build : (first : Named) (steps : List Step) (source k : ℕ) (above : List Step) (named : Named) (branch : Branch) (n : ℕ)
    → IsClimbing first steps source k above named branch → k < length above → step_at above k ≡ step.Build n
    → IsUp first steps source above (add_name named (at.Build n)) (put_numbered named.sinks (at.Build n) branch)
up-build first steps source k above named branch n on lt is =
    let e = next above k (step.Build n) lt is in
    up first steps source k above named branch (at.Build n) on (ap (λ l. climbed l (open_path branch)) e) (ap passed e ∙ sym e)

pub up-top : (first : Named) (steps : List Step) (source k : ℕ) (above : List Step) (named : Named) (branch : Branch)
    → IsClimbing first steps source k above named branch → length above ≤ k
    → IsUp first steps source above (add_name named at.Ordered) (put_numbered named.sinks at.Ordered branch)
up-top first steps source k above named branch on ge =
    let e : drop k above ≡ [] = at_drop_all (λ l. l) above k ge in
    up first steps source k above named branch at.Ordered on (ap (λ l. climbed l (open_path branch)) e) (ap passed e ∙ sym e)

pub climb-moved : (first : Named) (steps : List Step) (source k : ℕ) (above above' : List Step) (named named' : Named) (branch branch' : Branch)
    → IsClimbing first steps source k above named branch → above' ≡ above → named' ≡ named → branch' ≡ branch → IsClimbing first steps source k above' named' branch'
climb-moved first steps source k above above' named named' branch branch' on a n b =
    let P : List Step → Type 0 = λ x. IsClimbing first steps source k x named branch in
    let Q : Named → Type 0 = λ x. IsClimbing first steps source k above' x branch in
    let R : Branch → Type 0 = λ x. IsClimbing first steps source k above' named' x in
    subst R (sym b) (subst Q (sym n) (subst P (sym a) on))
