use Rattle.std.proofs.Common.{◌≡◌, ◌+◌, List, [], ◌∷◌, ◌++◌, ℕ, drop, get_or, map, ap, sym, subst, ◌∙◌, arith}
use Rattle.std.proofs.lemmas.List.{drop_more, drop_all, map_push}
use Rattle.std.specs.List.{AllByRecursion}
use Rattle.pipe_driver.specs.declared.branch.Branch.{Branch}
use Rattle.pipe_engine.specs.Drives.{Line}
use Rattle.pipe_convert.specs.Laws.{IsBranch}
use Rattle.pipe_convert.proofs.BranchStarts.{all_branches}
use Rattle.pipe_lines.specs.Cuts.{way_in, IsLineFor}
use Rattle.pipe_lines.specs.declared.pipe_line.PipeLine.{PipeLine}
use Rattle.pipe_lines.proofs.MadeLines.{one_made}
use Rattle.pipe_lines.specs.Lines.{HasEnds}
use Rattle.pipe_lines.proofs.BranchEnds.{all_ends}
use Rattle.pipe_lines.proofs.LineFacts.{LinesBehind, lines_first, lines_next, lines_done}
use Rattle.pipe_lines.proofs.pipeline.create_pipelines.Goals as goal

pub loop-branch-init : goal.loop-branch-init
loop-branch-init g c =
    let plan = c.args.plan.now in
    let layout = c.args.layout.now in
    let A : List Branch → Type 0 = AllByRecursion (IsBranch plan) in
    let E : List Branch → Type 0 = AllByRecursion HasEnds in
    record {
      are = subst A (sym c.requires.cut) (all_branches plan c.known_well_formed.ensures);
      ends = subst E (sym c.requires.cut) (all_ends plan c.known_well_formed.ensures);
      behind = lines_first plan layout.specs.items layout.sinks.items layout.hasher layout.parts c.args.branches.now _ (ap (map way_in) c.new-lines.ensures.items);
      made_for = (let S : List (PipeLine g.row.H.Denot) → Type 0 = AllByRecursion (IsLineFor c.args.workers) in subst S (sym c.new-lines.ensures.items) tt);
    }

pub create_pipeline-requires-clause-layout : goal.create_pipeline-requires-clause-layout
create_pipeline-requires-clause-layout g c = λ κs lives. c.requires.layout

pub create_pipeline-requires-clause-workers : goal.create_pipeline-requires-clause-workers
create_pipeline-requires-clause-workers g c = λ κs lives. c.requires.workers

pub create_pipeline-requires-clause-branch : goal.create_pipeline-requires-clause-branch
create_pipeline-requires-clause-branch g c = λ κs lives. (
    let bs = c.args.branches.now in
    let i = c.loop-branch.branch-index in
    let A : List Branch → Type 0 = AllByRecursion (IsBranch c.args.plan.now) in
    let are = subst A (drop_more bs i c.branch-item.result c.loop-branch-test.true) c.loop-branch.invariant.are in
    rw c.branch-item.is are.0)

pub create_pipeline-requires-clause-ends : goal.create_pipeline-requires-clause-ends
create_pipeline-requires-clause-ends g c = λ κs lives. (
    let bs = c.args.branches.now in
    let i = c.loop-branch.branch-index in
    let E : List Branch → Type 0 = AllByRecursion HasEnds in
    let ends = subst E (drop_more bs i c.branch-item.result c.loop-branch-test.true) c.loop-branch.invariant.ends in
    rw c.branch-item.is ends.0)

pub loop-branch-preserved : goal.loop-branch-preserved
loop-branch-preserved g c =
    let plan = c.args.plan.now in
    let layout = c.args.layout.now in
    let bs = c.args.branches.now in
    let i = c.loop-branch.branch-index in
    let known = c.loop-branch.invariant in
    let branch = get_or bs i c.branch-item.result in
    let rest = drop (i + 1) bs in
    let more = drop_more bs i c.branch-item.result c.loop-branch-test.true in
    let lines = c.loop-branch.lines.items in
    let line = c.in_ok-create_pipeline.field-0 in
    let pushed : map way_in (lines ++ line ∷ []) ≡ map way_in lines ++ way_in line ∷ [] = map_push way_in lines line in
    let A : List Branch → Type 0 = AllByRecursion (IsBranch plan) in
    let E : List Branch → Type 0 = AllByRecursion HasEnds in
    let B : List Branch → Type 0 = λ xs. LinesBehind plan layout.specs.items layout.sinks.items layout.hasher layout.parts bs xs (map way_in lines) in
    let L : List (Line g.row.H.Denot) → Type 0 = LinesBehind plan layout.specs.items layout.sinks.items layout.hasher layout.parts bs rest in
    rw c.in_ok-push.ensures.items (record {
      are = (subst A more known.are).1;
      ends = (subst E more known.ends).1;
      behind = subst L (sym pushed) (lines_next plan layout.specs.items layout.sinks.items layout.hasher layout.parts bs rest branch (map way_in lines) (way_in line) (rw c.branch-item.is at c.in_ok-create_pipeline.ensures.line) (subst B more known.behind));
      made_for = one_made c.args.workers lines line known.made_for c.in_ok-create_pipeline.ensures.workers;
    })

pub returns-clause-lines : goal.returns-clause-lines
returns-clause-lines g c =
    let layout = c.args.layout.now in
    let bs = c.args.branches.now in
    let i = c.loop-branch.branch-index in
    let none : drop i bs ≡ [] = drop_all i bs (omega (arith, c.loop-branch-test.false)) in
    lines_done c.args.plan.now layout.specs.items layout.sinks.items layout.hasher layout.parts bs (drop i bs) (map way_in c.loop-branch.lines.items) none c.loop-branch.invariant.behind

pub returns-clause-workers : goal.returns-clause-workers
returns-clause-workers g c = c.loop-branch.invariant.made_for
