-- The sinks of a plan as one kind of sink.
use Rattle.std.specs.Prelude.{◌≡◌, ℕ, List, [], Bool, true, false, codes}
use Rattle.pipe_frame.specs.Frame.{Table}
use Rattle.pipe_schema.specs.Rows.{Row, Same}
use Rattle.pipe_schema.specs.declared.field.Field.{Field}
use Rattle.pipe_ops.specs.declared.sink.FinalizedSink.{FinalizedSink}
use Rattle.pipe_ops.specs.declared.sink.FinalizedSink.TheVariants.{Finished, Operator, Source}
use Rattle.pipe_source.specs.Ordered as ordered
use Rattle.pipe_source.specs.Ordered.{held_in}
use Rattle.pipe_source.specs.declared.phys_source.PhysSource.{PhysSource}
use Rattle.pipe_sort.specs.SortKeys as sorts
use Rattle.pipe_sort.specs.SortKeys.{Settings as SortSettings}
use Rattle.pipe_table.specs.Spec.{built_schema}
use Rattle.pipe_table.specs.Kept.{BuildSetting, setting_of, build_rows}
use Rattle.pipe_table.specs.Sunk.{table_of_build}
use Rattle.pipe_probe.specs.Cross as cross
use Rattle.pipe_probe.specs.Cross.{CrossSetting, cross_table}
use Rattle.pipe_slots.specs.declared.built.Built.{Built}
use Rattle.pipe_slots.specs.declared.built.Built.TheVariants.{Keys, Rows}
use Rattle.pipe_slots.specs.declared.phys_sink.PhysSink.{PhysSink}
use Rattle.pipe_slots.specs.declared.phys_sink.PhysSink.TheVariants.{Ordered, Sort, Build, Cross}

-- the kind of a sink and its settings, which no call changes
pub data SinkSetting (H : Type 0) : Type 0 where
  OrderedBy : (schema : List Field) → SinkSetting H
  SortedBy : (settings : SortSettings) → SinkSetting H
  BuiltBy : (setting : BuildSetting H) → SinkSetting H
  CrossedBy : (setting : CrossSetting) → SinkSetting H

abbrev pub setting_in : {H : Type 0} → PhysSink H → SinkSetting H
setting_in (Ordered s) = OrderedBy s.schema
setting_in (Sort s) = SortedBy s.settings
setting_in (Build b) = BuiltBy (setting_of b)
setting_in (Cross c) = CrossedBy (cross.setting_of c)

-- the schema of the chunks that it takes, and of the frame or the source that it ends as
abbrev pub sink_schema : {H : Type 0} → PhysSink H → List Field
sink_schema (Ordered s) = s.schema
sink_schema (Sort s) = s.settings.schema
sink_schema (Build b) = built_schema b.spec
sink_schema (Cross c) = c.schema

abbrev pub sink_text : {H : Type 0} → PhysSink H → List ℕ
sink_text (Ordered s) = codes "ordered"
sink_text (Sort s) = codes "sort"
sink_text (Build b) = codes "generic_join_build"
sink_text (Cross c) = codes "cross_join_sink"

-- the rows that it holds
abbrev pub sink_rows : {H : Type 0} → PhysSink H → List Row
sink_rows (Ordered s) = held_in s
sink_rows (Sort s) = s.rows
sink_rows (Build b) = build_rows b
sink_rows (Cross c) = c.rows

-- whether it builds a side of a join, and of which node
abbrev pub is_build : {H : Type 0} → PhysSink H → Bool
is_build (Ordered s) = false
is_build (Sort s) = false
is_build (Build b) = true
is_build (Cross c) = true

abbrev pub join_of : {H : Type 0} → PhysSink H → ℕ
join_of (Ordered s) = 0
join_of (Sort s) = 0
join_of (Build b) = b.node
join_of (Cross c) = c.node

-- the rows of what was built
abbrev pub built_rows : {H : Type 0} → Built H → List Row
built_rows (Keys table) = table.rows
built_rows (Rows frame) = frame.rows

-- what it may end with
abbrev pub may_end : {H : Type 0} → SinkSetting H → (held rows : List Row) → Type 0
may_end (OrderedBy schema) held rows = ordered.may_end schema held rows
may_end (SortedBy settings) held rows = sorts.may_end settings held rows
may_end (BuiltBy setting) held rows = Same held rows
may_end (CrossedBy setting) held rows = Same held rows
