use Rattle.std.proofs.Common.{◌≡◌, Some, None, sym, ◌∙◌, arith}
use Rattle.pipe_schema.specs.Schema.{place_of}
use Rattle.pipe_expr.proofs.NamedColumns.{no_place, place_below, named_is_value}
use Rattle.pipe_expr.proofs.evaluate.column_named.Goals as goal

pub unreachable-requires : goal.unreachable-requires
unreachable-requires c =
    let none : place_of c.args.name.now c.args.frame.now.schema ≡ None = rw (sym c.as_bytes.ensures.bytes, sym c.schema.ensures.schema) (sym c.index_of.ensures ∙ c.in_default.is) in
    let no = no_place 0 c.args.name.now c.args.frame.now.schema none c.requires in cc

pub column_at-requires : goal.column_at-requires
column_at-requires c =
    let here : place_of c.args.name.now c.args.frame.now.schema ≡ Some c.in-Some.i = rw (sym c.as_bytes.ensures.bytes, sym c.schema.ensures.schema) (sym c.index_of.ensures ∙ c.in-Some.is) in
    let below = place_below c.args.name.now c.args.frame.now.schema c.in-Some.i here in omega (arith, c.get_columns.ensures.width)

pub returns : goal.returns
returns c =
    let here : place_of c.args.name.now c.args.frame.now.schema ≡ Some c.in-Some.i = rw (sym c.as_bytes.ensures.bytes, sym c.schema.ensures.schema) (sym c.index_of.ensures ∙ c.in-Some.is) in
    named_is_value c.args.name.now c.args.frame.now c.in-Some.i c.get_columns.result.now c.column_at.result here c.get_columns.ensures.columns c.column_at.ensures
