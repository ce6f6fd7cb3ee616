-- The frame that the root's sink ends as has the schema of its settings, and the root's order.
use Rattle.std.proofs.Common.{◌≡◌, ℕ, List, Option, Some, None, ap, refl, subst, sym, ◌∙◌}
use Rattle.std.specs.Prelude.{Result, Ok, Err, IfOk}
use Rattle.pipe_frame.specs.Frame.{Table}
use Rattle.pipe_schema.specs.Rows.{Row}
use Rattle.pipe_schema.specs.declared.field.Field.{Field}
use Rattle.pipe_ops.specs.declared.sink.FinalizedSink.{FinalizedSink}
use Rattle.pipe_ops.specs.declared.sink.FinalizedSink.TheVariants.{Finished, Operator, Source}
use Rattle.pipe_sort.specs.SortKeys.{Sorting}
use Rattle.pipe_source.specs.Ordered.{Ordered, held_in}
use Rattle.pipe_source.specs.declared.phys_source.PhysSource.{PhysSource}
use Rattle.pipe_driver.specs.declared.branch.SinkAt.{SinkAt}
use Rattle.pipe_driver.specs.declared.branch.SinkAt.TheVariants as at
use Rattle.pipe_driver.specs.Meaning.{Meaning}
use Rattle.pipe_driver.specs.Fronts.{newer_of}
use Rattle.pipe_slots.specs.Sinks.{OrderedBy, SinkSetting}
use Rattle.pipe_slots.specs.declared.phys_sink.PhysSink.{PhysSink}
use Rattle.pipe_slots.specs.declared.phys_sink.PhysSink.TheVariants as phys
use Rattle.pipe_engine.specs.Drives.{IsRootAnswer}
use Rattle.pipe_engine.specs.Engine.{IsWholeAt, whole_rows}
use Rattle.pipe_engine.specs.Finished.{EndsAsRoot, HasBoth, IsAnswer, IsFilledAt, IsOfSchema, IsSorted, MayFinishSink}
use Rattle.pipe_engine.specs.Known.{Known}
use Rattle.pipe_engine.specs.Stands.{EndsAt, IsInOrder, Settings}
use Rattle.pipe_engine.specs.Wholes.{IsUnder}
use Rattle.pipe_engine.proofs.Wholes.{under_sink}
use Rattle.pipe_engine.specs.declared.engine.Engine.{Engine}

-- an ordered sink is that of the root
root_of : {H : Type 0} (x : Settings H) (m : Meaning) (a : SinkAt) (schema : List Field) → x.setting_at a ≡ OrderedBy schema → EndsAt x m a (OrderedBy schema) → x.setting_at at.Ordered ≡ OrderedBy schema
root_of x m at.Ordered schema is ends = is
root_of x m (at.Sort n) schema is ends = absurd ends
root_of x m (at.Build n) schema is ends = absurd ends

root_at : {H : Type 0} (x : Settings H) (m : Meaning) (a : SinkAt) (schema : List Field) → EndsAt x m a (OrderedBy schema) → a ≡ at.Ordered
root_at x m at.Ordered schema ends = refl
root_at x m (at.Sort n) schema ends = absurd ends
root_at x m (at.Build n) schema ends = absurd ends

-- what a frame beside the root's sink may be
pub root_under : {H : Type 0} (x : Settings H) (old : Engine H) (a : SinkAt) (s : Ordered) (whole : Option Table) → MayFinishSink x old a (phys.Ordered s) whole → IsUnder s.schema whole
root_under {H = H} x old a s whole may = let k : PhysSink H = phys.Ordered s in under_sink x a k whole may.setting may.place

in_order : {H : Type 0} (x : Settings H) (old : Engine H) (a : SinkAt) (s : Ordered) (whole : Option Table) (rows : List Row) (order : Option (List Row)) → x.order ≡ order → a ≡ at.Ordered → HasBoth (held_in s) (whole_rows whole) rows → MayFinishSink x old a (phys.Ordered s) whole → IsInOrder order rows
in_order x old a s whole rows None is root both may = tt
in_order x old a s whole rows (Some due) is root both may =
    let P : SinkAt → Type 0 = λ z. IsWholeAt x z whole in
    let I : Option (List Row) → Type 0 = λ o. IsInOrder o (whole_rows whole) in
    both.alone (may.alone due root is) ∙ subst I is (subst P root may.place).1

pub root_ends : {H : Type 0} (x : Settings H) (old : Engine H) (a : SinkAt) (s : Ordered) (whole : Option Table) (r : FinalizedSink (Unit {0}) PhysSource) → IsOfSchema s.schema r → IsAnswer s whole r → MayFinishSink x old a (phys.Ordered s) whole → EndsAsRoot x r
root_ends {H = H} x old a s whole (Finished frame) is answer may =
    let set : x.setting_at a ≡ OrderedBy s.schema = sym may.setting in
    let E : SinkSetting H → Type 0 = EndsAt x may.m a in
    let made : List Field → SinkSetting H = OrderedBy in
    let ends = subst E set may.ends in
    record {
      schema = root_of x may.m a s.schema set ends ∙ ap made (sym is);
      order = in_order x old a s whole frame.rows x.order refl (root_at x may.m a s.schema ends) answer may;
    }
root_ends x old a s whole (Operator built) is answer may = tt
root_ends x old a s whole (Source source) is answer may = tt

-- two facts of what a call gives
pub both_ok : {T E : Type 0} (r : Result T E) (P Q R : T → Type 0) → ((t : T) → P t → Q t → R t) → IfOk r P → IfOk r Q → IfOk r R
both_ok (Ok t) P Q R f p q = f t p q
both_ok (Err e) P Q R f p q = tt

pub sorted_ends : {H : Type 0} (x : Settings H) (limit : ℕ) (s : Sorting) (r : FinalizedSink (Unit {0}) PhysSource) → IsSorted limit s r → EndsAsRoot x r
sorted_ends x limit s (Finished frame) is = absurd is
sorted_ends x limit s (Operator built) is = absurd is
sorted_ends x limit s (Source source) is = tt

pub filled_ends : {H : Type 0} (x : Settings H) (old new : Engine H) (n : ℕ) (rows : List Row) (r : FinalizedSink (Unit {0}) PhysSource) → IsFilledAt x old new n rows r → EndsAsRoot x r
filled_ends x old new n rows (Finished frame) is = absurd is
filled_ends x old new n rows (Operator built) is = tt
filled_ends x old new n rows (Source source) is = absurd is

pub newer_schema : {H : Type 0} (k : Known H) (was more : Option Table) → IsRootAnswer was k → IsRootAnswer more k → IsRootAnswer (newer_of more was) k
newer_schema k was None is next = is
newer_schema k was (Some frame) is next = next
