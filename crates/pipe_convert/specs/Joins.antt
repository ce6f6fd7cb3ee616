-- The joins of a checked plan, each with one spec.
use Rattle.std.specs.Prelude.{◌≡◌, ℕ, List, [], length, true, false, Option, Some, None, slice_index_or}
use Rattle.std.specs.declared.alloc.Global.{Global}
use Rattle.std.specs.declared.sync.Arc.{Arc}
use Rattle.pipe_expr.specs.Joins.{join_fields}
use Rattle.pipe_expr.specs.Shares.{probe_share, built_share}
use Rattle.pipe_expr.specs.declared.join_words.JoinType.TheVariants as how
use Rattle.pipe_table.specs.Spec.{IsSpec, settings_of, built_schema, probed_schema}
use Rattle.pipe_table.specs.declared.spec.JoinSpec.{JoinSpec}
use Rattle.pipe_plan.specs.Under.{node_at}
use Rattle.pipe_events.specs.Stages.{JoinStage, Joined, flushes, flushes_by}
use Rattle.pipe_events.specs.PlanStages.{stage_at}
use Rattle.pipe_driver.specs.Texts.{build_word, build_word_of}
use Rattle.pipe_check.specs.Checked.{Checked}
use Rattle.pipe_convert.specs.Converted.{schema_in}
use Rattle.pipe_driver.specs.Shape.{kind_at, below_sink}
use Rattle.pipe_convert.specs.Nodes.{plan_in, nodes_in, meaning_in}

-- the node on the side of a join that is built
abbrev pub built_in : Checked → ℕ → ℕ
built_in plan n = below_sink (kind_at (nodes_in plan) n)

-- a spec is that of a join: what it says of a row, and of the rows that the built side keeps, is what
-- the node means, it keeps rows of that side where the node does, and its build sink has the node's word
pub record IsSpecOf (plan : Checked) (n : ℕ) (spec : JoinSpec) : Type 0 where
  pub good : IsSpec spec
  pub word : build_word_of spec.how ≡ build_word (node_at (nodes_in plan) n)
  pub probed : probed_schema spec ≡ schema_in plan ((meaning_in plan).probed n)
  pub built : built_schema spec ≡ schema_in plan (built_in plan n)
  pub output : join_fields (settings_of spec) ≡ schema_in plan n
  pub each : (meaning_in plan).each n
      ≡ probe_share (settings_of spec) spec.swapped ((meaning_in plan).below n)
  pub own : (meaning_in plan).own n ≡ built_share (settings_of spec) spec.swapped
      ((meaning_in plan).rows ((meaning_in plan).probed n)) ((meaning_in plan).below n)
  pub flushing : (j : JoinStage) → stage_at (plan_in plan) plan.root n ≡ Joined j →
      flushes j ≡ flushes_by spec.how spec.swapped

-- a spec that is no join's
abbrev pub no_spec : JoinSpec
no_spec = record {
  how = how.Inner;
  join_nulls = false;
  coalesced = false;
  swapped = false;
  suffix = [];
  left_schema = [];
  right_schema = [];
  left_keys = [];
  right_keys = [];
}

abbrev pub spec_or_none : Option (Arc JoinSpec Global) → JoinSpec
spec_or_none None = no_spec
spec_or_none (Some spec) = spec.value

-- the spec of a node's join, one of some specs by node
abbrev pub spec_at : List (Option (Arc JoinSpec Global)) → ℕ → JoinSpec
spec_at specs n = spec_or_none (slice_index_or specs n None)

abbrev pub IsSomeSpecOf : Checked → ℕ → Option (Arc JoinSpec Global) → Type 0
IsSomeSpecOf plan n None = ⊥
IsSomeSpecOf plan n (Some spec) = IsSpecOf plan n spec.value

abbrev pub IsOfJoin : Checked → ℕ → Option (Arc JoinSpec Global) → Type 0
IsOfJoin plan n o = (meaning_in plan).is_join n ≡ true → IsSomeSpecOf plan n o

-- for each join under the root its spec, by its number
pub record AreSpecs (plan : Checked) (specs : List (Option (Arc JoinSpec Global))) : Type 0 where
  pub sized : length specs ≡ length (nodes_in plan)
  pub each : (n : ℕ) → IsOfJoin plan n (slice_index_or specs n None)
