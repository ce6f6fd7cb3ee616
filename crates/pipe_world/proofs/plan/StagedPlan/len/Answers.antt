use Rattle.std.proofs.Common.{◌≡◌, ◌∙◌, sym, subst}
use Rattle.std.proofs.lemmas.List.{length-map}
use Rattle.pipe_plan.specs.Node.{node_of}
use Rattle.pipe_world.specs.Staged.{Staging, size_in}
use Rattle.pipe_world.proofs.plan.StagedPlan.len.Goals as goal

pub returns : goal.returns
unfolding size_in
returns c =
    subst (λ (p : Staging). c.len.result ≡ size_in p) c.self.view_is (c.len.ensures ∙ sym (length-map c.self.inside.arena.now.nodes node_of))
