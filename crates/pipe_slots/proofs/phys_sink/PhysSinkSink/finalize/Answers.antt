use Rattle.std.proofs.Common.{◌≡◌, ℕ, List, [], Bool, false, refl, sym, ap, subst, ◌∙◌}
use Rattle.pipe_schema.specs.Rows.{Row}
use Rattle.pipe_schema.specs.declared.field.Field.{Field}
use Rattle.pipe_source.specs.Endings.{source_rows, supplies_schema}
use Rattle.pipe_sort.specs.SortKeys.{Sorting, may_end as sorts_as}
use Rattle.pipe_source.specs.declared.phys_source.PhysSource.{PhysSource}
use Rattle.pipe_slots.specs.Sinks.{setting_in, sink_schema, sink_rows, is_build, may_end}
use Rattle.pipe_slots.specs.declared.phys_sink.PhysSink.{PhysSink}
use Rattle.pipe_slots.specs.declared.phys_sink.PhysSink.TheVariants.{Sort}
use Rattle.pipe_slots.proofs.phys_sink.PhysSinkSink.finalize.Goals as goal

-- a sort that ends without rows ends as a source of no frames
no_rows : {H : Type 0} (sink : PhysSink H) (s : Sorting) (source : PhysSource) → sink ≡ Sort s → sorts_as s.settings s.rows [] → source_rows source ≡ [] → ((fields : List Field) → supplies_schema source fields)
    → (is_build sink ≡ false) × supplies_schema source (sink_schema sink) × may_end (setting_in sink) (sink_rows sink) (source_rows source)
no_rows {H = H} sink s source is ends none supplies =
    let E : List Row → Type 0 = sorts_as s.settings s.rows in
    let P : PhysSink H → Type 0 = λ k. (is_build k ≡ false) × supplies_schema source (sink_schema k) × may_end (setting_in k) (sink_rows k) (source_rows source) in
    subst P (sym is) (refl, supplies s.settings.schema, subst E (sym none) ends)

pub returns-in-Source-2 : goal.returns-in-Source-2
returns-in-Source-2 g c =
    let e = rw c.in-Source-2.is at c.in_ok-frame-in-Sort.ensures in
    no_rows c.args.self c.in-Sort.sink c.no_frames.result c.in-Sort.is e.2 c.no_frames.ensures.rows c.no_frames.ensures.schema
