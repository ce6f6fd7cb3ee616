use Rattle.std.proofs.Common.{◌≡◌, ◌≤◌, ℕ, List, drop, map, length}
use Rattle.std.specs.BTreeMap.{get_by}
use Rattle.std.specs.Cmp.Lexicographic.{slice_cmp}
use Rattle.std.specs.Ordering.{nat_cmp}
use Rattle.std.specs.Option.{option_copied}
use Rattle.pipe_schema.specs.Schema.{first_repeated}
use Rattle.pipe_check.specs.Named.{first_named}
use Rattle.pipe_check.proofs.named.NameIndex.of.Given as goal

abbrev pub invariant-loop-i : goal.invariant-loop-i
invariant-loop-i g l = record {
  within : l.i ≤ length l.items;
  first : (q : List ℕ) → option_copied (get_by (λ k. slice_cmp nat_cmp q k.now) l.first) ≡ first_named g.N.Named.name (drop l.i l.items) q;
  repeated : option_copied l.repeated ≡ first_repeated (map g.N.Named.name (drop l.i l.items));
}

abbrev pub decreases-loop-i : goal.decreases-loop-i
decreases-loop-i g l = l.i
