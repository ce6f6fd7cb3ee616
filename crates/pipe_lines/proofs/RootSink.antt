-- The sink of the root takes chunks of the root's schema.
use Rattle.std.proofs.Common.{◌≡◌, ℕ, List, [], Option, Some, None, refl, ap}
use Rattle.pipe_schema.specs.declared.field.Field.{Field}
use Rattle.pipe_driver.specs.declared.branch.SinkAt.{SinkAt}
use Rattle.pipe_driver.specs.declared.branch.SinkAt.TheVariants as at
use Rattle.pipe_check.specs.Checked.{Checked}
use Rattle.pipe_convert.specs.Converted.{schema_in}
use Rattle.pipe_convert.specs.Nodes.{meaning_in}
use Rattle.pipe_engine.specs.Stands.{EndsAt}
use Rattle.pipe_slots.specs.Sinks.{BuiltBy, CrossedBy, OrderedBy, SinkSetting, SortedBy, setting_in, sink_schema}
use Rattle.pipe_slots.specs.declared.phys_sink.PhysSink.{PhysSink}
use Rattle.pipe_slots.specs.declared.phys_sink.PhysSink.TheVariants as phys
use Rattle.pipe_lines.specs.Layouts.{IsLayout, layout_settings}
use Rattle.pipe_lines.specs.Made.{IsSomeSinkAt, Specs, setting_or_none, settings_with, sink_at}
use Rattle.pipe_lines.specs.declared.layout.Layout.{Layout}

root_kind : {H : Type 0} (plan : Checked) (specs : Specs) (sinks : SinkAt → SinkSetting H) (hasher : H) (parts : ℕ) (k : PhysSink H) (schema : List Field) → sink_schema k ≡ schema → EndsAt (settings_with plan specs sinks hasher parts) (meaning_in plan) at.Ordered (setting_in k) → setting_in k ≡ OrderedBy schema
root_kind {H = H} plan specs sinks hasher parts (phys.Ordered s) schema is ends = let made : List Field → SinkSetting H = OrderedBy in ap made is
root_kind plan specs sinks hasher parts (phys.Sort s) schema is ends = absurd ends
root_kind plan specs sinks hasher parts (phys.Build b) schema is ends = absurd ends
root_kind plan specs sinks hasher parts (phys.Cross c) schema is ends = absurd ends

root_some : {H : Type 0} (plan : Checked) (specs : Specs) (sinks : SinkAt → SinkSetting H) (hasher : H) (parts : ℕ) (o : Option (PhysSink H)) → IsSomeSinkAt plan specs hasher parts at.Ordered o → setting_or_none o ≡ OrderedBy (schema_in plan plan.root)
root_some plan specs sinks hasher parts None are = absurd are
root_some plan specs sinks hasher parts (Some k) are = root_kind plan specs sinks hasher parts k (schema_in plan plan.root) (are.schema plan.root refl) (are.ends sinks)

pub root_setting : {H : Type 0} (plan : Checked) (layout : Layout H) → IsLayout plan layout → (layout_settings plan layout).setting_at at.Ordered ≡ OrderedBy (schema_in plan plan.root)
root_setting plan layout is = root_some plan layout.specs.items (layout_settings plan layout).setting_at layout.hasher layout.parts (sink_at plan layout.sinks.items at.Ordered) (is.sinks.each at.Ordered tt)

abbrev schema_by : {H : Type 0} → SinkSetting H → List Field
schema_by (OrderedBy schema) = schema
schema_by (SortedBy s) = []
schema_by (BuiltBy b) = []
schema_by (CrossedBy c) = []

abbrev pub ordered_by : (H : Type 0) → List Field → SinkSetting H
ordered_by H schema = OrderedBy schema

pub same_schema : {H : Type 0} (a b : List Field) → ordered_by H a ≡ ordered_by H b → a ≡ b
same_schema {H = H} a b same = let by : SinkSetting H → List Field = schema_by in ap by same
