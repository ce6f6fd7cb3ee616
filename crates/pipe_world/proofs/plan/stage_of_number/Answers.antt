use Rattle.std.proofs.Common.{◌≡◌, ◌∙◌, ◌<◌, [], false, length, map, ap, sym, arith}
use Rattle.std.proofs.lemmas.List.{get_or-map, length-map}
use Rattle.std.proofs.lemmas.List.FromFn.{get_or-map-range_with_len}
use Rattle.pipe_plan.specs.Node.{node_of}
use Rattle.pipe_plan.specs.Node as node
use Rattle.pipe_plan.specs.Plan.{plan_of}
use Rattle.pipe_plan.specs.Schemas.{schema_at}
use Rattle.pipe_plan.specs.Under.{is_under}
use Rattle.pipe_plain.specs.Tables.{at_place}
use Rattle.pipe_plain.proofs.Walks.{node-there}
use Rattle.pipe_world.specs.Staged.{scan_of}
use Rattle.pipe_world.proofs.Tables.{first-walks, stage-there}
use Rattle.pipe_world.proofs.plan.stage_of_number.Goals as goal

pub stage_over-stage-requires : goal.stage_over-stage-requires
stage_over-stage-requires c =
    let arena = c.args.arena.now in
    let plan = plan_of arena in
    let k = c.args.k in
    let within = c.requires.within in
    let long = length-map arena.nodes node_of in
    let nodes = c.as_slice-nodes.ensures in
    let x = node_of c.index-nodes-k.result in
    let there = node-there arena.nodes k c.index-nodes-k.result within (rw nodes at c.index-nodes-k.is) in
    let scans = ap (λ l. at_place [] l k) (c.as_slice-scans.ensures ∙ c.requires.tables.scans) in
    c.rows_at-scan.ensures ∙ scans ∙ get_or-map (scan_of plan.frames) plan.nodes k (node.Union []) [] (omega arith) ∙ ap (scan_of plan.frames) (sym there) ∙ ap (λ f. scan_of f x) (sym c.as_slice-frames.ensures)

pub returns : goal.returns
returns c =
    let arena = c.args.arena.now in
    let plan = plan_of arena in
    let root = c.args.tables.now.root in
    let k = c.args.k in
    let within = c.requires.within in
    let long = length-map arena.nodes node_of in
    let nodes = c.as_slice-nodes.ensures in
    let x = node_of c.index-nodes-k.result in
    let there = node-there arena.nodes k c.index-nodes-k.result within (rw nodes at c.index-nodes-k.is) in
    let under = c.is_marked-under.ensures ∙ ap (λ l. at_place false l k) (c.as_slice-marks.ensures ∙ c.requires.tables.under) ∙ get_or-map-range_with_len (is_under plan.nodes root) 0 (length plan.nodes) k k false (omega arith) (omega arith) in
    let fields = ap (at_place []) c.first_schemas-schemas.ensures ∙ first-walks [] (schema_at plan) (length plan.nodes) k c.as_slice-all.result.now (omega arith) (c.as_slice-all.ensures ∙ c.requires.tables.schemas) in
    c.stage_if.ensures ∙ stage-there plan root k c.as_slice-frames.result.now _ x _ _ under c.as_slice-frames.ensures fields there c.stage_over-stage.ensures
