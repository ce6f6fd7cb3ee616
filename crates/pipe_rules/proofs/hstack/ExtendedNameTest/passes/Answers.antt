use Rattle.std.proofs.Common.{◌≡◌, ◌&&◌, true, false, not, map, sym, ap, ◌∙◌}
use Rattle.pipe_schema.specs.Schema.{has_name, names_of, place_of}
use Rattle.pipe_expr.specs.Formula.{named_formula_of}
use Rattle.pipe_expr.specs.Projections.{expr_named}
use Rattle.pipe_rules.specs.Placing.{is_replacing}
use Rattle.pipe_rules.proofs.Selects.{place-some}
use Rattle.pipe_rules.proofs.hstack.ExtendedNameTest.passes.Goals as goal

pub returns-then-is_some : goal.returns-then-is_some
returns-then-is_some c =
    let input = c.args.self.now.input.now in
    let exprs = map named_formula_of c.args.self.now.exprs in
    let name = c.args.name.now in
    let has = c.is_some.ensures ∙ place-some input name c.index_of.result (c.index_of.ensures ∙ ap (λ b. place_of b input) c.as_bytes.ensures.bytes) in
    let there : has_name (names_of input) name ≡ true = sym has ∙ c.if-is_some.true in
    ap not c.is_replaced.ensures ∙ sym (ap (λ b. b && not (is_replacing (expr_named exprs name))) there)

pub returns-else-is_some : goal.returns-else-is_some
returns-else-is_some c =
    let input = c.args.self.now.input.now in
    let exprs = map named_formula_of c.args.self.now.exprs in
    let name = c.args.name.now in
    let has = c.is_some.ensures ∙ place-some input name c.index_of.result (c.index_of.ensures ∙ ap (λ b. place_of b input) c.as_bytes.ensures.bytes) in
    let lacks : has_name (names_of input) name ≡ false = sym has ∙ c.if-is_some.false in
    c.if-is_some.false ∙ sym (ap (λ b. b && not (is_replacing (expr_named exprs name))) lacks)
