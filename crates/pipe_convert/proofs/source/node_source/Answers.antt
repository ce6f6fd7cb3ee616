use Rattle.std.proofs.Common.{◌≡◌, ap, sym, ◌∙◌, arith}
use Rattle.pipe_driver.specs.Branches.{is_scan}
use Rattle.pipe_driver.specs.Texts.{node_word}
use Rattle.pipe_driver.specs.Shape.{Begins, kind_at, kind_of}
use Rattle.pipe_plan.specs.Node.{node_of}
use Rattle.pipe_convert.specs.Nodes.{nodes_in}
use Rattle.pipe_convert.specs.Sources.{taken_at}
use Rattle.pipe_convert.proofs.SourceLemmas.{few_one, frame_is, union_is, union_scans}
use Rattle.pipe_convert.proofs.source.node_source.Goals as goal

pub union_source-requires : goal.union_source-requires
union_source-requires c =
    let plan = c.args.plan.now in
    let is = sym c.requires.is ∙ ap node_of c.in-Union.is in
    let begins : kind_at (nodes_in plan) c.args.n ≡ Begins = ap (kind_of (nodes_in plan)) (sym c.requires.is) ∙ c.requires.begins in
    record { scans = rw c.as_slice.ensures (union_scans plan c.args.n c.in-Union.inputs c.known_well_formed.ensures c.requires.under is begins) }

pub source_at-requires-clause-scan : goal.source_at-requires-clause-scan
source_at-requires-clause-scan c = ap is_scan (sym c.requires.is ∙ ap node_of c.in-DataFrameScan.is)

pub returns-in_ok-source-in-DataFrameScan : goal.returns-in_ok-source-in-DataFrameScan
returns-in_ok-source-in-DataFrameScan c =
    frame_is c.args.plan.now c.args.n c.in_ok-source-in-DataFrameScan.source c.known_well_formed.ensures c.requires.under
    (ap node_word (sym c.requires.is ∙ ap node_of c.in-DataFrameScan.is)) (ap (λ x. taken_at x c.args.n) (sym c.requires.is ∙ ap node_of c.in-DataFrameScan.is)) c.in_ok-source-in-DataFrameScan.ensures.source
    (few_one c.in_ok-source-in-DataFrameScan.source c.source_at.new.rows_left _ c.in_ok-source-in-DataFrameScan.ensures.rows (omega arith))

pub returns-in_ok-source-in-Union : goal.returns-in_ok-source-in-Union
returns-in_ok-source-in-Union c =
    let plan = c.args.plan.now in
    let is = sym c.requires.is ∙ ap node_of c.in-Union.is in
    let begins : kind_at (nodes_in plan) c.args.n ≡ Begins = ap (kind_of (nodes_in plan)) (sym c.requires.is) ∙ c.requires.begins in
    let scans = union_scans plan c.args.n c.in-Union.inputs c.known_well_formed.ensures c.requires.under is begins in
    union_is plan c.args.n c.in-Union.inputs c.in_ok-source-in-Union.source c.known_well_formed.ensures c.requires.under is scans (rw c.as_slice.ensures at c.in_ok-source-in-Union.ensures.union) c.in_ok-source-in-Union.ensures.few
