use Rattle.std.proofs.Common.{◌≡◌, ◌≤◌, ℕ, List, drop, map, length}
use Rattle.std.specs.BTreeMap.{get_by}
use Rattle.std.specs.Cmp.Lexicographic.{slice_cmp}
use Rattle.std.specs.Ordering.{nat_cmp}
use Rattle.std.specs.Option.{is_some, option_copied}
use Rattle.pipe_schema.specs.Schema.{has_name, first_repeated}
use Rattle.pipe_schema.proofs.names.repeated_of_many.Given as goal

abbrev pub invariant-loop-i : goal.invariant-loop-i
invariant-loop-i g l = record {
  within : l.i ≤ length l.items;
  later : (q : List ℕ) → is_some (get_by (λ k. slice_cmp nat_cmp q k.now) l.later) ≡ has_name (map g.N.Named.name (drop l.i l.items)) q;
  found : option_copied l.found ≡ first_repeated (map g.N.Named.name (drop l.i l.items));
}

abbrev pub decreases-loop-i : goal.decreases-loop-i
decreases-loop-i g l = l.i
