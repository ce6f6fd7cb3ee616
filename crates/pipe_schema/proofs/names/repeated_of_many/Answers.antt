use Rattle.std.proofs.Common.{◌≡◌, ◌+◌, ◌-◌, ◌<◌, ◌∷◌, true, false, length, ap, sym, ◌∙◌, map, drop, arith}
use Rattle.std.specs.BTreeMap.{get_by}
use Rattle.std.specs.Cmp.Lexicographic.{slice_cmp}
use Rattle.std.specs.Ordering.{nat_cmp}
use Rattle.std.specs.Option.{is_some}
use Rattle.std.proofs.lemmas.Map.Text.{btree_map_updates_str}
use Rattle.pipe_schema.specs.Schema.{has_name}
use Rattle.pipe_schema.proofs.NamePlaces.{names_more}
use Rattle.pipe_schema.proofs.NameSets.{has_more, repeated_yes, repeated_no}
use Rattle.pipe_schema.proofs.names.repeated_of_many.Goals as goal

pub loop-i-preserved-then-is_some : goal.loop-i-preserved-then-is_some
loop-i-preserved-then-is_some g c =
    let f = g.N.Named.name in
    let items = c.args.items.now in
    let i = c.loop-i.i - 1 in
    let name = c.name-name.result.now in
    let key = c.as_str.result.now in
    let lt : i < length items = omega (arith, c.loop-i.invariant.within, c.loop-i-test.true) in
    let back : i + 1 ≡ c.loop-i.i = omega (arith, c.loop-i-test.true) in
    let more : map f (drop i items) ≡ name ∷ map f (drop c.loop-i.i items) = names_more f items i c.index-items-i.result name lt c.index-items-i.is c.name-name.ensures ∙ ap (λ n. name ∷ map f (drop n items)) back in
    let yes : is_some c.in_ok-insert.field-0 ≡ true = grind arith in
    let old : is_some (get_by (λ k. slice_cmp nat_cmp key k.now) c.loop-i.later) ≡ true = ap is_some (sym c.in_ok-insert.ensures.old) ∙ yes in
    let there : has_name (map f (drop c.loop-i.i items)) name ≡ true = ap (has_name (map f (drop c.loop-i.i items))) (sym c.as_str.ensures) ∙ sym (c.loop-i.invariant.later key) ∙ old in
    record {
      within = omega (arith, c.loop-i.invariant.within);
      later = λ q. has_more key name q (map f (drop c.loop-i.i items)) (map f (drop i items)) tt _ _ (btree_map_updates_str key c.loop-i.later c.insert.new.self _ c.in_ok-insert.ensures.updates q) c.as_str.ensures (c.loop-i.invariant.later q) more;
      found = repeated_yes name (map f (drop c.loop-i.i items)) (map f (drop i items)) there more;
    }

pub loop-i-preserved : goal.loop-i-preserved
loop-i-preserved g c =
    let f = g.N.Named.name in
    let items = c.args.items.now in
    let i = c.loop-i.i - 1 in
    let name = c.name-name.result.now in
    let key = c.as_str.result.now in
    let lt : i < length items = omega (arith, c.loop-i.invariant.within, c.loop-i-test.true) in
    let back : i + 1 ≡ c.loop-i.i = omega (arith, c.loop-i-test.true) in
    let more : map f (drop i items) ≡ name ∷ map f (drop c.loop-i.i items) = names_more f items i c.index-items-i.result name lt c.index-items-i.is c.name-name.ensures ∙ ap (λ n. name ∷ map f (drop n items)) back in
    let no : is_some c.in_ok-insert.field-0 ≡ false = grind arith in
    let old : is_some (get_by (λ k. slice_cmp nat_cmp key k.now) c.loop-i.later) ≡ false = ap is_some (sym c.in_ok-insert.ensures.old) ∙ no in
    let absent : has_name (map f (drop c.loop-i.i items)) name ≡ false = ap (has_name (map f (drop c.loop-i.i items))) (sym c.as_str.ensures) ∙ sym (c.loop-i.invariant.later key) ∙ old in
    record {
      within = omega (arith, c.loop-i.invariant.within);
      later = λ q. has_more key name q (map f (drop c.loop-i.i items)) (map f (drop i items)) tt _ _ (btree_map_updates_str key c.loop-i.later c.insert.new.self _ c.in_ok-insert.ensures.updates q) c.as_str.ensures (c.loop-i.invariant.later q) more;
      found = repeated_no name (map f (drop c.loop-i.i items)) (map f (drop i items)) _ absent c.loop-i.invariant.found more;
    }
