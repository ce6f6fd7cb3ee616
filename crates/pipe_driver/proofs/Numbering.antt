-- Sinks that are numbered one after another.
use Rattle.std.proofs.Common.{◌≡◌, ℕ, true, List, [], ◌∷◌, ◌++◌, length, map, refl, sym, ap, ◌∙◌}
use Rattle.pipe_driver.specs.declared.branch.SinkAt.{SinkAt}
use Rattle.pipe_driver.specs.declared.branch.SinkNode.{SinkNode}
use Rattle.pipe_driver.specs.declared.branch.Branch.{Branch}
use Rattle.pipe_driver.specs.Branches.{PlacedSink, Path, placed, put_sink, add_named, named_after, numbered_sink, numbered_sinks, branch_of}
use Rattle.pipe_driver.specs.Climbing.{Named, unnumbered, open_path, put_numbered, name_all, add_name}

pub named_after-append : (named : List SinkAt) (a b : List PlacedSink) → named_after named (a ++ b) ≡ named_after (named_after named a) b
named_after-append named [] b = refl
named_after-append named (s ∷ a) b = named_after-append (add_named named s.at) a b

pub numbered-append : (named : List SinkAt) (a b : List PlacedSink) → numbered_sinks named (a ++ b) ≡ numbered_sinks named a ++ numbered_sinks (named_after named a) b
numbered-append named [] b = refl
numbered-append named (s ∷ a) b = ap (λ l. numbered_sink named s ∷ l) (numbered-append (add_named named s.at) a b)

pub unnumbered-push : (a : List SinkNode) (s : SinkNode) → map unnumbered (a ++ s ∷ []) ≡ map unnumbered a ++ unnumbered s ∷ []
unnumbered-push [] s = refl
unnumbered-push (x ∷ a) s = ap (λ l. unnumbered x ∷ l) (unnumbered-push a s)

-- a branch has numbered its sinks on from those that were named at first
pub record IsOn (first : Named) (now : Named) (branch : Branch) : Type 0 where
  pub numbered : branch.sinks ≡ numbered_sinks first.sinks (map unnumbered branch.sinks)
  pub named : now ≡ name_all first (map unnumbered branch.sinks)

-- one more sink
pub put-path : (named : List SinkAt) (sink : SinkAt) (branch : Branch) → open_path (put_numbered named sink branch) ≡ put_sink true sink (open_path branch)
put-path named sink branch =
    ap (λ l. let path : Path = record (open_path branch) { sinks = l } in path) (unnumbered-push branch.sinks (numbered_sink named (placed (length branch.operators) sink)))

pub on-put : (first named : Named) (sink : SinkAt) (branch : Branch) → IsOn first named branch → IsOn first (add_name named sink) (put_numbered named.sinks sink branch)
on-put first named sink branch on =
    let s = placed (length branch.operators) sink in
    let old = map unnumbered branch.sinks in
    let made : map unnumbered (put_numbered named.sinks sink branch).sinks ≡ old ++ s ∷ [] = unnumbered-push branch.sinks (numbered_sink named.sinks s) in
    let sinks : named.sinks ≡ named_after first.sinks old = ap (λ n. n.sinks) on.named in
    let more : named_after first.sinks (old ++ s ∷ []) ≡ add_named named.sinks sink = named_after-append first.sinks old (s ∷ []) ∙ ap (λ l. add_named l sink) (sym sinks) in
    let counted : numbered_sinks first.sinks (old ++ s ∷ []) ≡ branch.sinks ++ numbered_sink named.sinks s ∷ [] =
    numbered-append first.sinks old (s ∷ [])
    ∙ ap (λ l. l ++ numbered_sink (named_after first.sinks old) s ∷ []) (sym on.numbered)
    ∙ ap (λ l. branch.sinks ++ numbered_sink l s ∷ []) (sym sinks) in
    record {
      numbered = sym (ap (numbered_sinks first.sinks) made ∙ counted);
      named = ap (λ n. let m : Named = record { sinks = add_named named.sinks sink; nodes = n } in m) (ap (λ n. n.nodes) on.named)
          ∙ ap (λ l. let m : Named = record { sinks = l; nodes = first.nodes } in m) (sym (ap (named_after first.sinks) made ∙ more));
    }

abbrev made : ℕ → List ℕ → List SinkNode → Branch
made source operators sinks = record { source = source; operators = operators; sinks = sinks }

-- a branch that has all of a path's sinks is that path's branch
pub on-branch : (first named : Named) (branch : Branch) (path : Path) → IsOn first named branch → branch.source ≡ path.source → branch.operators ≡ path.operators → map unnumbered branch.sinks ≡ path.sinks → branch ≡ branch_of first.sinks path
on-branch first named branch path on source operators sinks =
    let counted : branch.sinks ≡ numbered_sinks first.sinks path.sinks = on.numbered ∙ ap (numbered_sinks first.sinks) sinks in
    ap (λ s. made s branch.operators branch.sinks) source
    ∙ ap (λ o. made path.source o branch.sinks) operators
    ∙ ap (made path.source path.operators) counted

pub on-named : (first named : Named) (branch : Branch) (path : Path) → IsOn first named branch → map unnumbered branch.sinks ≡ path.sinks → named ≡ name_all first path.sinks
on-named first named branch path on sinks = on.named ∙ ap (name_all first) sinks
