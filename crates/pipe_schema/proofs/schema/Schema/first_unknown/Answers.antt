use Rattle.std.proofs.Common.{◌≡◌, ◌∙◌, ap, sym, map, drop, ◌+◌, None, true, arith}
use Rattle.std.specs.Option.{is_some}
use Rattle.pipe_schema.specs.Schema.{place_of, first_unknown}
use Rattle.pipe_schema.proofs.NamePlaces.{names_more, unknown_here, known_here}
use Rattle.pipe_schema.proofs.schema.Schema.first_unknown.Goals as goal

pub returns-then-is_none : goal.returns-then-is_none
returns-then-is_none g c =
    let f = g.N.Named.name in
    let more = names_more f c.args.items.now c.loop-item.item-index c.item-item.result c.name-name.result.now c.loop-item-test.true c.item-item.is c.name-name.ensures in
    let found : c.index_of.result ≡ place_of c.name-name.result.now c.args.self.now = c.index_of.ensures ∙ ap (λ n. place_of n c.args.self.now) c.as_bytes.ensures.bytes in
    let none : c.index_of.result ≡ None = grind arith in
    sym (ap (first_unknown c.args.self.now) more ∙ unknown_here c.args.self.now c.name-name.result.now (map f (drop (c.loop-item.item-index + 1) c.args.items.now)) c.index_of.result found none) ∙ c.loop-item.invariant

pub loop-item-preserved : goal.loop-item-preserved
loop-item-preserved g c =
    let f = g.N.Named.name in
    let more = names_more f c.args.items.now c.loop-item.item-index c.item-item.result c.name-name.result.now c.loop-item-test.true c.item-item.is c.name-name.ensures in
    let found : c.index_of.result ≡ place_of c.name-name.result.now c.args.self.now = c.index_of.ensures ∙ ap (λ n. place_of n c.args.self.now) c.as_bytes.ensures.bytes in
    let some : is_some c.index_of.result ≡ true = grind arith in
    sym (ap (first_unknown c.args.self.now) more ∙ known_here c.args.self.now c.name-name.result.now (map f (drop (c.loop-item.item-index + 1) c.args.items.now)) c.index_of.result found some) ∙ c.loop-item.invariant
