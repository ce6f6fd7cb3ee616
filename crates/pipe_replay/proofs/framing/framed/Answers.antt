use Rattle.std.proofs.Common.{◌≡◌, length, ap, ◌∙◌, refl, arith}
use Rattle.pipe_replay.proofs.SortLemmas.{found-columns, framed-schema, framed-rows}
use Rattle.pipe_replay.proofs.framing.framed.Goals as goal

pub returns-in-Ok-clause-schema : goal.returns-in-Ok-clause-schema
returns-in-Ok-clause-schema c =
    let is = found-columns c.args.schema.now c.args.rows.now c.in_ok-columns.field-0 c.in-Some.columns (λ v. v.items) c.in-Some.is c.in_ok-columns.ensures in
    c.in-Ok.ensures.schema ∙ framed-schema c.args.schema.now c.args.rows.now c.in-Some.columns.items is

pub returns-in-Ok-clause-rows : goal.returns-in-Ok-clause-rows
returns-in-Ok-clause-rows c =
    let is = found-columns c.args.schema.now c.args.rows.now c.in_ok-columns.field-0 c.in-Some.columns (λ v. v.items) c.in-Some.is c.in_ok-columns.ensures in
    c.in-Ok.ensures.rows ∙ framed-rows c.args.schema.now c.args.rows.now c.in-Some.columns.items is (c.if-not-are_of_width.ensures refl) c.in-Ok.ensures.good

pub returns-in-Ok-clause-few : goal.returns-in-Ok-clause-few
returns-in-Ok-clause-few c =
    let is = found-columns c.args.schema.now c.args.rows.now c.in_ok-columns.field-0 c.in-Some.columns (λ v. v.items) c.in-Some.is c.in_ok-columns.ensures in
    let rows : c.in-Ok.frame.rows ≡ c.args.rows.now = c.in-Ok.ensures.rows ∙ framed-rows c.args.schema.now c.args.rows.now c.in-Some.columns.items is (c.if-not-are_of_width.ensures refl) c.in-Ok.ensures.good in
    let same = ap length rows in
    omega (arith, same, c.if-rows.false)
