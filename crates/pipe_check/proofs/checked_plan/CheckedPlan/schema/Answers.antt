use Rattle.std.proofs.Common.{◌≡◌, true, [], None, ap, sym, subst, ◌∙◌, length, get_or}
use Rattle.std.specs.Prelude.{is_some, unwrap_or}
use Rattle.std.proofs.lemmas.List.{length-map}
use Rattle.pipe_plan.specs.Node.{node_of}
use Rattle.pipe_plan.specs.Plan.{plan_of}
use Rattle.pipe_plan.specs.Under.{is_under}
use Rattle.pipe_plan.specs.Schemas.{schema_of}
use Rattle.pipe_check.specs.Checked.{Checked}
use Rattle.pipe_check.proofs.WellFormed.{kept_under}
use Rattle.pipe_check.proofs.checked_plan.CheckedPlan.schema.Goals as goal

pub schema_at-requires : goal.schema_at-requires
schema_at-requires c =
    let inside = c.self.inside in
    let plan = plan_of inside.arena.now in
    let n = c.args.n in
    let P : Checked → Type 0 = λ v. is_under (plan_of v.arena).nodes v.root n ≡ true in
    let u = subst P (sym c.self.view_is) c.requires in
    let kept = kept_under plan inside.root n (length inside.arena.now.nodes) inside.schemas (sym (length-map inside.arena.now.nodes node_of)) c.self.invariant.0 c.self.invariant.1 u in
    ap is_some (ap (λ xs. get_or xs n None) c.as_slice.ensures ∙ kept)

pub returns : goal.returns
returns c =
    let inside = c.self.inside in
    let plan = plan_of inside.arena.now in
    let n = c.args.n in
    let P : Checked → Type 0 = λ v. is_under (plan_of v.arena).nodes v.root n ≡ true in
    let u = subst P (sym c.self.view_is) c.requires in
    let kept = kept_under plan inside.root n (length inside.arena.now.nodes) inside.schemas (sym (length-map inside.arena.now.nodes node_of)) c.self.invariant.0 c.self.invariant.1 u in
    let Q : Checked → Type 0 = λ v. c.schema_at.result.now ≡ schema_of (plan_of v.arena) n in
    subst Q c.self.view_is (ap (λ o. unwrap_or o []) (c.schema_at.ensures ∙ ap (λ xs. get_or xs n None) c.as_slice.ensures ∙ kept))
