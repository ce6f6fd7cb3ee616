use Rattle.std.proofs.Common.{◌≡◌, ◌<◌, ◌+◌, ◌∙◌, ◌∷◌, ap, sym, length, rules, Some, None, drop, inr, arith}
use Rattle.std.specs.Prelude.{option_map}
use Rattle.std.proofs.lemmas.List.{drop_more}
use Rattle.pipe_schema.specs.Schema.{place_of, first_unknown}
use Rattle.pipe_schema.specs.declared.error.FrameError.TheVariants.{UnknownColumn}
use Rattle.pipe_schema.proofs.NamePlaces.{unknown_here}
use Rattle.pipe_frame.proofs.Selects.{place_of-inside, selected-more, known-more}
use Rattle.pipe_frame.proofs.columns.select_columns.Goals as goal

pub offset_bounds-columns-i : goal.offset_bounds-columns-i
offset_bounds-columns-i c = let inside : c.in-Some.i < length c.args.columns.now = place_of-inside c.as_bytes.result.now c.args.schema.now c.args.columns.now c.in-Some.i c.in-Some.ensures c.requires in search rules

pub bounds-columns-i : goal.bounds-columns-i
bounds-columns-i c = place_of-inside c.as_bytes.result.now c.args.schema.now c.args.columns.now c.in-Some.i c.in-Some.ensures c.requires

pub loop-name-preserved : goal.loop-name-preserved
loop-name-preserved c =
    let found : Some c.in-Some.i ≡ place_of c.name-item.result c.args.schema.now = c.in-Some.ensures ∙ ap (λ n. place_of n c.args.schema.now) c.as_bytes.ensures.bytes in
    let inside : c.in-Some.i < length c.args.columns.now = place_of-inside c.name-item.result c.args.schema.now c.args.columns.now c.in-Some.i found c.requires in
    record {
      made = selected-more c.args.columns.now c.args.schema.now c.args.names.now c.loop-name.name-index c.name-item.result c.in-Some.i c.index-columns-i.result c.in_ok-try_clone-2.field-0 c.loop-name.invariant.made c.loop-name-test.true c.name-item.is found inside c.index-columns-i.is c.in_ok-try_clone-2.ensures c.in_ok-push.ensures.ok;
      known = known-more c.args.schema.now c.args.names.now c.loop-name.name-index c.name-item.result c.in-Some.i c.loop-name.invariant.known c.loop-name-test.true c.name-item.is found;
    }

pub returns-in_default-clause-err : goal.returns-in_default-clause-err
returns-in_default-clause-err c =
    let schema = c.args.schema.now in
    let names = c.args.names.now in
    let k = c.loop-name.name-index in
    let name = c.name-item.result in
    let rest : drop k names ≡ name ∷ drop (k + 1) names = drop_more names k name c.loop-name-test.true ∙ ap (λ n. n ∷ drop (k + 1) names) (sym c.name-item.is) in
    let found : c.index_of.result ≡ place_of name schema = c.index_of.ensures ∙ ap (λ n. place_of n schema) c.as_bytes.ensures.bytes in
    let none : c.index_of.result ≡ None = grind arith in
    let unknown : first_unknown schema names ≡ Some name = sym c.loop-name.invariant.known ∙ ap (first_unknown schema) rest ∙ unknown_here schema name (drop (k + 1) names) c.index_of.result found none in
    inr (ap (option_map UnknownColumn) unknown ∙ ap (λ n. Some (UnknownColumn n)) (sym c.in_ok-try_clone.ensures))
