use Rattle.std.proofs.Common.{◌≡◌, ◌∙◌, ℕ, ap, subst, arith}
use Rattle.std.specs.Prelude.{OnOk}
use Rattle.pipe_driver.specs.Tables.{number_at}
use Rattle.pipe_run.specs.Dealt.{nodes_in, counts_in}
use Rattle.pipe_run.specs.Lanes.{lane_nodes}
use Rattle.pipe_engine.specs.Carried.{first_node}
use Rattle.pipe_engine.specs.Engine.{IsAdded}
use Rattle.pipe_engine.proofs.Calls.{few_counted, same_nodes, each_within}
use Rattle.pipe_engine.proofs.Counted.{first_lane, nodes_there}
use Rattle.pipe_engine.proofs.counting.count_first.Goals as goal

pub rows_given-rows-requires-clause-few : goal.rows_given-rows-requires-clause-few
rows_given-rows-requires-clause-few g c = rw c.as_slice-lanes.ensures.value c.requires.way.passing.few

pub rows_given-rows-requires-clause-nodes : goal.rows_given-rows-requires-clause-nodes
rows_given-rows-requires-clause-nodes g c = rw c.as_slice-lanes.ensures.value (same_nodes g.H.KeyHasher.hash_of c.args.context.now.row_limit c.requires.way.from c.args.passage.now.lanes.items c.args.passage.now.shared.items c.args.passage.now.seats.items c.requires.way.passing)

pub rows_given-rows-requires-clause-within : goal.rows_given-rows-requires-clause-within
rows_given-rows-requires-clause-within g c = rw c.as_slice-lanes.ensures.value (each_within g.H.KeyHasher.hash_of c.args.context.now.row_limit c.requires.way.from c.args.passage.now.lanes.items c.args.passage.now.shared.items c.args.passage.now.seats.items c.requires.way.passing)

pub rows_given-rows-requires-clause-place : goal.rows_given-rows-requires-clause-place
rows_given-rows-requires-clause-place g c = rw c.as_slice-lanes.ensures.value (nodes_there c.args.passage.now.lanes.items c.requires.way.passing.some)

pub add_rows-requires-clause-few : goal.add_rows-requires-clause-few
add_rows-requires-clause-few g c =
    let few = few_counted g.H.KeyHasher.hash_of c.args.context.now.row_limit c.requires.way.from c.args.passage.now.lanes.items c.args.passage.now.shared.items c.args.passage.now.seats.items c.requires.way.passing in
    let given = rw c.as_slice-lanes.ensures.value at c.rows_given-rows.ensures in
    omega (arith, few, given)

pub returns-clause-added : goal.returns-clause-added
returns-clause-added g c =
    let lanes = c.args.passage.now.lanes.items in
    let limit = c.args.context.now.row_limit in
    let node : c.node_given.result ≡ first_node (nodes_in lanes) = c.node_given.ensures ∙ ap (λ l. first_node (lane_nodes l)) (rw c.as_slice-lanes.ensures.value at c.index-lanes-0.is) ∙ first_lane lanes _ c.requires.way.passing.some in
    let rows : c.rows_given-rows.result ≡ number_at (counts_in lanes) 0 = rw c.as_slice-lanes.ensures.value at c.rows_given-rows.ensures in
    let P : ℕ → Type 0 = λ n. OnOk c.add_rows.result (IsAdded n c.rows_given-rows.result limit c.args.given.now.items c.add_rows.new.given.items) in
    let Q : ℕ → Type 0 = λ n. OnOk c.add_rows.result (IsAdded (first_node (nodes_in lanes)) n limit c.args.given.now.items c.add_rows.new.given.items) in
    subst Q rows (subst P node c.add_rows.ensures.added)
