use Rattle.std.proofs.Common.{refl, ap, ◌∙◌}
use Rattle.pipe_plan.specs.Node as node
use Rattle.pipe_plan.specs.PlanRows.{sort_keys}
use Rattle.pipe_convert.specs.Converted.{schema_in}
use Rattle.pipe_convert.proofs.Operators.{input_under}
use Rattle.pipe_convert.proofs.Sources.{sort_of}
use Rattle.pipe_convert.proofs.sort.sort_sink.Goals as goal

pub schema-schema-requires : goal.schema-schema-requires
schema-schema-requires c = input_under c.args.plan.now c.args.n c.args.input (node.Sort c.args.input c.args.by.now c.args.options.now) refl c.known_well_formed.ensures c.requires

pub returns : goal.returns
returns c =
    let plan = c.args.plan.now in
    let options = c.args.options.now in
    let keys = c.in_ok-keys.keys in
    let slice = c.slice_of-slice.result in
    let same = c.in_ok-keys.ensures.keys
    ∙ ap (λ s. sort_keys s c.as_slice.result.now options) c.schema-schema.ensures
    ∙ ap (λ by. sort_keys (schema_in plan c.args.input) by options) c.as_slice.ensures in
    let told = c.new.ensures.settings ∙ ap (λ s. record { keys = keys; slice = slice; schema = s }) (c.in_ok-try_clone.ensures ∙ c.schema-schema.ensures) in
    sort_of plan c.args.n c.args.input c.args.by.now options keys slice c.new.result c.known_well_formed.ensures c.requires same c.slice_of-slice.ensures told c.new.ensures.empty
