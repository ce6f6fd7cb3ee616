use Rattle.std.proofs.Common.{◌≡◌, ◌+◌, ◌-◌, ◌<◌, ◌∷◌, Some, true, false, length, get_or, refl, ap, sym, ◌∙◌, drop, arith}
use Rattle.std.specs.BTreeMap.{get_by}
use Rattle.std.specs.Cmp.Lexicographic.{slice_cmp}
use Rattle.std.specs.Ordering.{nat_cmp}
use Rattle.std.specs.Option.{is_some}
use Rattle.std.proofs.lemmas.List.{drop_more}
use Rattle.std.proofs.lemmas.Map.Text.{btree_map_updates_str}
use Rattle.pipe_check.proofs.Index.{index_more, stands_again, stands_once}
use Rattle.pipe_check.proofs.named.NameIndex.of.Goals as goal

pub loop-i-preserved-then-is_some : goal.loop-i-preserved-then-is_some
loop-i-preserved-then-is_some g c =
    let f = g.N.Named.name in
    let items = c.args.items.now in
    let i = c.loop-i.i - 1 in
    let x = c.index-items-i.result in
    let key = c.as_str.result.now in
    let lt : i < length items = omega (arith, c.loop-i.invariant.within, c.loop-i-test.true) in
    let back : i + 1 ≡ c.loop-i.i = omega (arith, c.loop-i-test.true) in
    let whole : drop i items ≡ x ∷ drop c.loop-i.i items = drop_more items i x lt ∙ ap (λ n. get_or items i x ∷ drop n items) back ∙ ap (λ y. y ∷ drop c.loop-i.i items) (sym c.index-items-i.is) in
    let named : key ≡ f x = c.as_str.ensures ∙ c.name-name.ensures in
    let yes : is_some c.in_ok-insert.field-0 ≡ true = grind arith in
    let old : is_some (get_by (λ k. slice_cmp nat_cmp key k.now) c.loop-i.first) ≡ true = ap is_some (sym c.in_ok-insert.ensures.old) ∙ yes in
    record {
      within = omega (arith, c.loop-i.invariant.within);
      first = λ q. index_more f key q _ x (drop c.loop-i.i items) (drop i items) _ _ (btree_map_updates_str key c.loop-i.first c.insert.new.self _ c.in_ok-insert.ensures.updates q) named refl (c.loop-i.invariant.first q) whole;
      repeated = ap Some (sym c.as_str.ensures) ∙ stands_again f x key (drop c.loop-i.i items) (drop i items) _ named (c.loop-i.invariant.first key) old whole;
    }

pub loop-i-preserved : goal.loop-i-preserved
loop-i-preserved g c =
    let f = g.N.Named.name in
    let items = c.args.items.now in
    let i = c.loop-i.i - 1 in
    let x = c.index-items-i.result in
    let key = c.as_str.result.now in
    let lt : i < length items = omega (arith, c.loop-i.invariant.within, c.loop-i-test.true) in
    let back : i + 1 ≡ c.loop-i.i = omega (arith, c.loop-i-test.true) in
    let whole : drop i items ≡ x ∷ drop c.loop-i.i items = drop_more items i x lt ∙ ap (λ n. get_or items i x ∷ drop n items) back ∙ ap (λ y. y ∷ drop c.loop-i.i items) (sym c.index-items-i.is) in
    let named : key ≡ f x = c.as_str.ensures ∙ c.name-name.ensures in
    let no_ : is_some c.in_ok-insert.field-0 ≡ false = grind arith in
    let old : is_some (get_by (λ k. slice_cmp nat_cmp key k.now) c.loop-i.first) ≡ false = ap is_some (sym c.in_ok-insert.ensures.old) ∙ no_ in
    record {
      within = omega (arith, c.loop-i.invariant.within);
      first = λ q. index_more f key q _ x (drop c.loop-i.i items) (drop i items) _ _ (btree_map_updates_str key c.loop-i.first c.insert.new.self _ c.in_ok-insert.ensures.updates q) named refl (c.loop-i.invariant.first q) whole;
      repeated = stands_once f x key (drop c.loop-i.i items) (drop i items) _ _ named (c.loop-i.invariant.first key) old c.loop-i.invariant.repeated whole;
    }
