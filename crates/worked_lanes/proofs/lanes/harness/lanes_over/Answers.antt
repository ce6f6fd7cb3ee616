use Rattle.std.proofs.Common.{length, refl, ap, arith, sym, ◌∙◌}
use denote.Builtin.{u8}
use Rattle.std.proofs.lemmas.List.{with_items_is}
use Rattle.pipe_chain.specs.contracts.plain.PlainOperatorOperator.TheImpl.{ghosts as plain_words}
use Rattle.pipe_run.specs.Stages.{operators_of}
use Rattle.worked_lanes.specs.contracts.lanes.repeat.Repeat as repeat
use Rattle.worked_lanes.specs.contracts.lanes.repeat.RepeatOperator.TheImpl.{ghosts as repeat_words, dict as repeat_dict}
use Rattle.worked_lanes.proofs.Toys.{chained, fit-unseated, nothing-noted, same-schemas, suited, within-more}
use Rattle.worked_lanes.proofs.lanes.harness.lanes_over.Goals as goal

pub open_lanes-requires-clause-suits : goal.open_lanes-requires-clause-suits
open_lanes-requires-clause-suits g c κs =
    suited (plain_words repeat.the_row u8 repeat_words repeat_dict) (λ o s. tt) c.args.stages.now c.as_slice-shared.result.now (sym (ap length c.as_slice-shared.ensures.value ∙ c.in_ok-made.ensures))

pub run_rounds-ending-requires-clause-alike : goal.run_rounds-ending-requires-clause-alike
run_rounds-ending-requires-clause-alike g c κs within =
    rw c.as_mut_slice.ensures.value (c.in_ok-lanes.ensures.alike c.args.source.schema)

pub run_rounds-ending-requires-clause-fit : goal.run_rounds-ending-requires-clause-fit
run_rounds-ending-requires-clause-fit g c κs within =
    let chain = chained (plain_words repeat.the_row u8 repeat_words repeat_dict) (λ o s. tt) (λ o s. refl) c.args.source.schema c.args.target.now.sink.schema (operators_of c.args.stages.now) c.requires.schema in
    let even = sym (ap length c.as_slice-shared.ensures.value ∙ c.in_ok-made.ensures) in
    rw c.as_mut_slice.ensures.value (fit-unseated (plain_words repeat.the_row u8 repeat_words repeat_dict) _ (λ o s. tt) c.args.stages.now c.args.target.now c.as_slice-shared.result.now c.args.context.now.row_limit c.args.source.schema c.in_ok-lanes.lanes.items even c.in_ok-lanes.ensures.opened (c.in_ok-lanes.ensures.fit c.args.source.schema chain))

pub run_rounds-ending-requires-clause-within : goal.run_rounds-ending-requires-clause-within
run_rounds-ending-requires-clause-within g c κs within =
    rw c.as_mut_slice.ensures.value (within-more 0 c.args.context.now.row_limit _ (omega arith) c.in_ok-lanes.ensures.within)

pub run_rounds-ending-requires-clause-empty : goal.run_rounds-ending-requires-clause-empty
run_rounds-ending-requires-clause-empty g c κs within =
    rw c.as_mut_slice.ensures.value (nothing-noted _ _ c.args.stages.now c.args.target.now c.in_ok-lanes.lanes.items c.in_ok-lanes.ensures.opened)

pub returns-clause-settings : goal.returns-clause-settings
returns-clause-settings g c =
    let back = with_items_is c.in_ok-lanes.lanes c.run_rounds-ending.new.lanes (omega (arith, c.run_rounds-ending.auto.lanes, ap length c.as_mut_slice.ensures.value, c.in_ok-lanes.lanes.ok.0)) in
    rw back (same-schemas _ _ c.args.target.now.sink.schema c.as_mut_slice.result.now c.run_rounds-ending.new.lanes c.run_rounds-ending.ensures.same.lanes (rw c.as_mut_slice.ensures.value c.in_ok-lanes.ensures.schemas))
