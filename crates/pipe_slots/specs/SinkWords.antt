-- The words of a sink of a plan.
use Rattle.pipe_ops.specs.declared.sink.Sink.{Ghosts as SinkWords}
use Rattle.pipe_source.specs.Endings.{source_rows, supplies_schema}
use Rattle.pipe_source.specs.declared.phys_source.PhysSource.{PhysSource}
use Rattle.pipe_slots.specs.declared.built.Built.{Built}
use Rattle.pipe_slots.specs.Sinks.{SinkSetting, setting_in, sink_schema, sink_text, sink_rows, is_build, join_of, built_rows, may_end}
use Rattle.pipe_slots.specs.declared.phys_sink.PhysSink.{PhysSink}

abbrev pub sink_words : {H : Type 0} → SinkWords (PhysSink H) (Built H) PhysSource
sink_words {H = H} = record {
  Setting = SinkSetting H;
  setting = setting_in;
  schema = sink_schema;
  gives = sink_schema;
  text = sink_text;
  held = sink_rows;
  builds = is_build;
  number = join_of;
  built = built_rows;
  left = source_rows;
  supplies = supplies_schema;
  ends = may_end;
}
