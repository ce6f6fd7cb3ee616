use Rattle.std.proofs.Common.{◌≡◌, ◌<◌, ◌+◌, ◌-◌, ◌/◌, length, get_or, ap, sym, ◌∙◌, arith, inl, inr}
use Rattle.std.specs.Cmp.Lexicographic.{slice_cmp}
use Rattle.std.specs.Ordering.{nat_cmp}
use Rattle.std.specs.declared.cmp.Ordering.TheVariants.{Less, Greater}
use Rattle.std.proofs.lemmas.Bool.{cases_lt}
use Rattle.pipe_schema.specs.NameOrder.{name_at}
use Rattle.pipe_schema.proofs.NameOrders.{others_before, others_behind, absent, found_place, name_of_field, same_by_cmp}
use Rattle.pipe_schema.proofs.name_order.find_in_order.Goals as goal

pub loop-low-preserved-in-Less : goal.loop-low-preserved-in-Less
loop-low-preserved-in-Less c =
    let fields = c.args.fields.now in
    let middle = c.loop-low.low + (c.loop-low.high - c.loop-low.low) / 2 in
    let place = get_or c.args.order.now middle 0 in
    let inv = c.loop-low.invariant in
    let lt : middle < length c.args.order.now = omega (arith, inv.rises, inv.within, c.loop-low-test.true) in
    let name : name_at fields place ≡ c.as_bytes.result.now = name_of_field fields place c.index-fields-place.result (c.requires.order.inside middle 0 lt) ∙ sym c.as_bytes.ensures.bytes in
    let less : slice_cmp nat_cmp (name_at fields place) c.args.name.now ≡ Less = ap (λ n. slice_cmp nat_cmp n c.args.name.now) name ∙ sym c.cmp.ensures ∙ c.in-Less.is in
    record {
      rises = omega (arith, inv.rises, c.loop-low-test.true);
      within = inv.within;
      before = others_before fields c.args.order.now c.args.name.now middle place c.requires.order lt (λ i. place) less;
      behind = inv.behind;
    }

pub loop-low-preserved : goal.loop-low-preserved
loop-low-preserved c =
    let fields = c.args.fields.now in
    let middle = c.loop-low.low + (c.loop-low.high - c.loop-low.low) / 2 in
    let place = get_or c.args.order.now middle 0 in
    let inv = c.loop-low.invariant in
    let lt : middle < length c.args.order.now = omega (arith, inv.rises, inv.within, c.loop-low-test.true) in
    let name : name_at fields place ≡ c.as_bytes.result.now = name_of_field fields place c.index-fields-place.result (c.requires.order.inside middle 0 lt) ∙ sym c.as_bytes.ensures.bytes in
    let greater : slice_cmp nat_cmp (name_at fields place) c.args.name.now ≡ Greater = ap (λ n. slice_cmp nat_cmp n c.args.name.now) name ∙ sym c.cmp.ensures ∙ c.in-Greater.is in
    record {
      rises = omega arith;
      within = omega (arith, inv.rises, inv.within);
      before = inv.before;
      behind = others_behind fields c.args.order.now c.args.name.now middle place c.requires.order (λ i. place) greater;
    }

pub returns-in-Equal : goal.returns-in-Equal
returns-in-Equal c =
    let fields = c.args.fields.now in
    let middle = c.loop-low.low + (c.loop-low.high - c.loop-low.low) / 2 in
    let place = get_or c.args.order.now middle 0 in
    let inv = c.loop-low.invariant in
    let lt : middle < length c.args.order.now = omega (arith, inv.rises, inv.within, c.loop-low-test.true) in
    let same : c.as_bytes.result.now ≡ c.args.name.now = same_by_cmp _ _ (sym c.cmp.ensures ∙ c.in-Equal.is) in
    sym (found_place fields c.args.name.now place c.index-fields-place.result c.requires.schema (c.requires.order.inside middle 0 lt) (sym c.as_bytes.ensures.bytes ∙ same))

pub returns : goal.returns
returns c =
    let inv = c.loop-low.invariant in
    sym (absent c.args.fields.now c.args.order.now c.args.name.now c.requires.order (λ k lt. elim (cases_lt k c.loop-low.low) [
      | inl below ↦ inv.before k below
      | inr above ↦ inv.behind k (omega (arith, inv.rises, c.loop-low-test.false)) lt
    ]))
