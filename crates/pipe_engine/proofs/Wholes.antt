-- Rows that are there as a frame besides.
use Rattle.std.proofs.Common.{◌≡◌, ℕ, zero, suc, ◌+◌, ◌*◌, ◌<◌, ◌≤◌, List, [], ◌∷◌, ◌++◌, length, take, drop, Option, Some, None, true, get_or, refl, sym, ap, subst, ◌∙◌, arith, length-append}
use Rattle.std.specs.List.{AllByRecursion}
use Rattle.pipe_frame.specs.Frame.{Table}
use Rattle.pipe_schema.specs.Rows.{Row, Same}
use Rattle.pipe_schema.specs.Weights.{total}
use Rattle.pipe_schema.specs.declared.field.Field.{Field}
use Rattle.pipe_schema.proofs.Weights.{SameBag, SameBag-append, SameBag-refl, SameBag-from_equal, SameBag-from_rows, SameBag-sym, SameBag-trans, Same-from_bag, total-append}
use Rattle.std.specs.Global.{Vec}
use Rattle.pipe_ops.specs.Batches.{Answers, IsAnswer, Left, batch, cut}
use Rattle.pipe_ops.specs.declared.context.PExecutionContext.{PExecutionContext}
use Rattle.pipe_ops.specs.declared.source.SourceResult.{SourceResult}
use Rattle.pipe_ops.specs.declared.source.SourceResult.TheVariants.{Finished, GotMoreData}
use Rattle.pipe_ops.specs.declared.source.Morsel.{Morsel}
use Rattle.pipe_source.specs.Supplies.{left_of}
use Rattle.pipe_source.specs.declared.phys_source.PhysSource.{PhysSource}
use Rattle.pipe_source.specs.declared.phys_source.PhysSource.TheVariants.{Frame, Union, ReProject}
use Rattle.pipe_run.specs.Rounds.{left_rows}
use Rattle.pipe_chain.proofs.Weighing.{rows-length, total-length}
use Rattle.pipe_chain.specs.Chain.{works_of}
use Rattle.pipe_chain.specs.Flow.{Work, Acts, Flows}
use Rattle.pipe_chain.specs.declared.operator.Operator.{Ghosts as OperatorWords}
use Rattle.pipe_driver.specs.declared.branch.SinkAt.{SinkAt}
use Rattle.pipe_driver.specs.declared.branch.SinkAt.TheVariants as at
use Rattle.pipe_driver.specs.Meaning.{Meaning}
use Rattle.pipe_run.specs.declared.stage.SinkStage.{SinkStage}
use Rattle.pipe_run.specs.declared.stage.Stage.{Stage}
use Rattle.pipe_slots.specs.declared.phys_operator.PhysOperator.{PhysOperator}
use Rattle.pipe_slots.specs.declared.slot.Slot.{Slot}
use Rattle.pipe_slots.specs.declared.slot.Slot.TheVariants as slot
use Rattle.pipe_outer.specs.declared.marks.Marks.{Marks}
use Rattle.pipe_outer.specs.declared.marks.Marks.TheVariants as marks
use Rattle.pipe_passage.specs.LaneSeats.{HaveSeats, HasSeats}
use Rattle.pipe_slots.specs.Sinks.{SinkSetting, OrderedBy, SortedBy, BuiltBy, CrossedBy, setting_in, sink_rows, sink_schema}
use Rattle.pipe_slots.specs.declared.phys_sink.PhysSink.{PhysSink}
use Rattle.pipe_slots.specs.declared.phys_sink.PhysSink.TheVariants as phys
use Rattle.pipe_engine.specs.Engine.{Brings, HasSchemaLeft, IsFrameOf, IsFresh, IsKeptAt, IsOfRoot, IsWhole, IsWholeAt, fed_or_new, fed_rows, rows_of_sink, whole_rows}
use Rattle.pipe_engine.specs.Stands.{AreStagesOf, BeginsInOrder, EndsAt, IsInOrder, IsSinkOf, KeepsOrder, Settings}
use Rattle.pipe_engine.specs.Finished.{HasBoth}
use Rattle.pipe_engine.specs.Wholes.{HasFrame, HasSameRows, IsFrameIn, IsKeptFrame, IsUnder, newer_whole}
use Rattle.pipe_engine.specs.declared.engine.FedSink.{FedSink}

-- ---- lists

pub nil_right : (rows : List Row) → rows ++ [] ≡ rows
nil_right [] = refl
nil_right (row ∷ rows) = ap (λ l. row ∷ l) (nil_right rows)

no_rows_left : (rows : List Row) → length rows ≡ 0 → rows ≡ []
no_rows_left [] e = refl
no_rows_left (row ∷ rows) e = absurd (omega arith)

cut_apart : {X : Type 0} (n : ℕ) (xs : List X) → take n xs ++ drop n xs ≡ xs
cut_apart zero xs = refl
cut_apart (suc n) [] = refl
cut_apart (suc n) (x ∷ xs) = ap (λ l. x ∷ l) (cut_apart n xs)

-- ---- a frame that is taken as one chunk

none_cut : (n size index from : ℕ) (schema : List Field) (rows : List Row) → 0 < n → cut n size index 0 from schema rows ≡ [] → rows ≡ []
none_cut zero size index from schema rows some e = absurd (omega arith)
none_cut (suc n) size index from schema [] some e = refl
none_cut (suc n) size index from schema (x ∷ xs) some e = cc

first_of_all : (a b : Morsel) (more others : List Morsel) → a ∷ more ≡ b ∷ others → (a ≡ b) × (more ≡ others)
first_of_all a b more others e = (cc, cc)

one_cut : (n size index from : ℕ) (schema : List Field) (rows : List Row) (c : Morsel) → 1 < n → cut n size index 0 from schema rows ≡ c ∷ [] → (c.chunk.frame.rows ≡ rows) × (c.chunk.frame.schema ≡ schema)
one_cut zero size index from schema rows c some e = absurd (omega arith)
one_cut (suc n) size index from schema [] c some e = let z : [] ≡ c ∷ [] = e in cc
one_cut (suc n) size index from schema (x ∷ xs) c some e =
    let both = first_of_all _ c _ [] e in
    let rest = none_cut n size (index + 1) (from + size) schema (drop size (x ∷ xs)) (omega arith) both.1 in (
      ap (λ (z : Morsel). z.chunk.frame.rows) (sym both.0) ∙ sym (nil_right (take size (x ∷ xs))) ∙ ap (λ l. take size (x ∷ xs) ++ l) (sym rest) ∙ cut_apart size (x ∷ xs),
      ap (λ (z : Morsel). z.chunk.frame.schema) (sym both.0),
    )

none_batch : (n size index from : ℕ) (schema : List Field) (rows : List Row) → 0 < n → batch n size index 0 (record { from = from; schema = schema; rows = rows } ∷ []) ≡ [] → rows ≡ []
none_batch n size index from schema [] some e = refl
none_batch n size index from schema (x ∷ xs) some e = none_cut n size index from schema (x ∷ xs) some e

one_batch : (n size index from : ℕ) (schema : List Field) (rows : List Row) (c : Morsel) → 1 < n → batch n size index 0 (record { from = from; schema = schema; rows = rows } ∷ []) ≡ c ∷ [] → (c.chunk.frame.rows ≡ rows) × (c.chunk.frame.schema ≡ schema)
one_batch n size index from schema [] c some e = let z : [] ≡ c ∷ [] = e in cc
one_batch n size index from schema (x ∷ xs) c some e = one_cut n size index from schema (x ∷ xs) c some e

-- nothing was given, so there was no row
pub taken_none : (context : PExecutionContext) (index : ℕ) (old new : Left) (r : SourceResult) → IsAnswer context index (old ∷ []) (new ∷ []) r → r ≡ Finished → IsFrameIn old new None
taken_none context index old new r gives is =
    let P : SourceResult → Type 0 = IsAnswer context index (old ∷ []) (new ∷ []) in
    let got = subst P is gives in
    let same : new ∷ [] ≡ old ∷ [] = got.1 in
    let some = context.workers_in.0 in
    (none_batch (4 * context.workers) context.chunk_rows index old.from old.schema old.rows (omega arith) got.0, cc)

one_item : (chunks rest : List Morsel) (c : Morsel) → chunks ≡ rest ++ c ∷ [] → rest ≡ [] → chunks ≡ c ∷ []
one_item chunks rest c e none = e ∙ ap (λ l. l ++ c ∷ []) none

-- one chunk was given, so it has all rows
pub taken_one : (n size index : ℕ) (old new : Left) (r : SourceResult) (chunks : Vec Morsel) (rest : List Morsel) (c : Morsel) (frame : Table) → 1 < n → Answers n size index (old ∷ []) (new ∷ []) r → r ≡ GotMoreData chunks → chunks.items ≡ rest ++ c ∷ [] → rest ≡ [] → frame ≡ c.chunk.frame → IsFrameIn old new (Some frame)
taken_one n size index old new r chunks rest c frame many gives is last none same =
    let P : SourceResult → Type 0 = Answers n size index (old ∷ []) (new ∷ []) in
    let got = subst P is gives in
    let all = one_batch n size index old.from old.schema old.rows c many (sym got.chunks ∙ one_item chunks.items rest c last none) in
    (ap (λ (f : Table). f.rows) same ∙ all.0, ap (λ (f : Table). f.schema) same ∙ all.1)

-- some chunks were given
pub taken_some : (context : PExecutionContext) (index : ℕ) (old new : Left) (r : SourceResult) (chunks : Vec Morsel) → IsAnswer context index (old ∷ []) (new ∷ []) r → r ≡ GotMoreData chunks → 0 < length chunks.items
taken_some context index old new r chunks gives is = let P : SourceResult → Type 0 = IsAnswer context index (old ∷ []) (new ∷ []) in (subst P is gives).some

left_is : (l : Left) (f : Table) → l.from ≡ 0 → f.rows ≡ l.rows → f.schema ≡ l.schema → record { from = 0; schema = f.schema; rows = f.rows } ≡ l
left_is l f from rows schema =
    ap (λ r. let z : Left = record { from = 0; schema = f.schema; rows = r } in z) rows
    ∙ ap (λ s. let z : Left = record { from = 0; schema = s; rows = l.rows } in z) schema
    ∙ ap (λ n. let z : Left = record { from = n; schema = l.schema; rows = l.rows } in z) (sym from)

-- the frame again as a source
pub frame_again : (l : Left) (f copy : Table) → l.from ≡ 0 → f.rows ≡ l.rows → f.schema ≡ l.schema → copy ≡ f → Frame (record { from = 0; schema = copy.schema; rows = copy.rows }) ≡ Frame l
frame_again l f copy from rows schema is = ap Frame (ap (λ (t : Table). let z : Left = record { from = 0; schema = t.schema; rows = t.rows } in z) is ∙ left_is l f from rows schema)

-- ---- seats

fewer_marks : (a b : ℕ) (m : Marks) → a ≤ b → HaveSeats b m → HaveSeats a m
fewer_marks a b (marks.Running flags) few is = omega (arith, few, is)
fewer_marks a b (marks.Closed flags) few is = absurd is

fewer_one : {H : Type 0} (a b : ℕ) (s : Slot H) → a ≤ b → HasSeats b s → HasSeats a s
fewer_one a b slot.Empty few is = tt
fewer_one a b (slot.Keys t) few is = tt
fewer_one a b (slot.Rows f) few is = tt
fewer_one a b (slot.Full t) few is = fewer_marks a b t.marks few is
fewer_one a b slot.Spent few is = tt

-- where seats are enough for all workers, they are so for fewer lanes
pub fewer_seats : {H : Type 0} (a b : ℕ) (ss : List (Slot H)) → a ≤ b → AllByRecursion (HasSeats b) ss → AllByRecursion (HasSeats a) ss
fewer_seats a b [] few are = tt
fewer_seats a b (s ∷ ss) few are = (fewer_one a b s few are.0, fewer_seats a b ss few are.1)

-- ---- rows beside a frame

pub beside_lanes : (old new whole lanes : List Row) → Same new (old ++ lanes) → Same (new ++ whole) ((old ++ whole) ++ lanes)
beside_lanes old new whole lanes same =
    let h = SameBag-from_rows same in
    Same-from_bag (record {
      sums = λ f. (
          let a = h.sums f in
          let e1 = total-append f new whole in
          let e2 = total-append f (old ++ whole) lanes in
          let e3 = total-append f old whole in
          let e4 = total-append f old lanes in omega arith);
    })

pub put_before : (old new whole frame : List Row) → Same new (old ++ whole) → Same (new ++ frame) ((old ++ whole) ++ frame)
put_before old new whole frame same =
    let h = SameBag-from_rows same in
    Same-from_bag (record {
      sums = λ f. (
          let a = h.sums f in
          let e1 = total-append f new frame in
          let e2 = total-append f (old ++ whole) frame in omega arith);
    })

pub both_held : (old new whole frame : List Row) (rows : ℕ) → Same new (old ++ whole) → length (old ++ whole) ≤ rows → length (new ++ frame) ≤ rows + length frame
both_held old new whole frame rows same held = let e = rows-length same in let f = length-append new frame in omega (arith, e, f, held)

pub lanes_held : (old new whole lanes : List Row) (rows given : ℕ) → Same new (old ++ lanes) → length (old ++ whole) ≤ rows → length lanes ≤ given → length (new ++ whole) ≤ rows + given
lanes_held old new whole lanes rows given same held few =
    let e = rows-length same in
    let f = length-append new whole in
    let g = length-append old lanes in
    let h = length-append old whole in omega (arith, e, f, g, h, held, few)

-- the frame of a leg beside what was there
pub frame_taken : (old new : List Row) (held : List Row) (frame : List Row) → Same new (old ++ frame) → Same frame held → Same new (old ++ held)
frame_taken old new held frame same is =
    let h = SameBag-from_rows same in
    let k = SameBag-from_rows is in
    Same-from_bag (record {
      sums = λ f. (
          let a = h.sums f in
          let b = k.sums f in
          let e1 = total-append f old frame in
          let e2 = total-append f old held in omega arith);
    })

-- ---- where a frame may be

-- a sink that was fed, or an empty one, has these rows
pub new_rows : {H : Type 0} (fed : Option (FedSink H)) (sink : PhysSink H) → sink_rows sink ≡ [] → fed_rows (fed_or_new fed sink) ≡ rows_of_sink fed
new_rows None sink none = ap (λ r. r ++ []) none
new_rows (Some fed) sink none = refl

pub newer_place : {H : Type 0} (x : Settings H) (m : Meaning) (limit : ℕ) (a : SinkAt) (fed : Option (FedSink H)) (sink : PhysSink H) (whole : Option Table) → IsKeptAt x m limit a fed → IsWholeAt x a whole → IsWholeAt x a (newer_whole (fed_or_new fed sink).whole whole)
newer_place x m limit a None sink None kept place = place
newer_place x m limit a (Some fed) sink None kept place = kept.4
newer_place x m limit a None sink (Some frame) kept place = place
newer_place x m limit a (Some fed) sink (Some frame) kept place = place

abbrev schema_by : {H : Type 0} → SinkSetting H → List Field
schema_by (OrderedBy schema) = schema
schema_by (SortedBy s) = s.schema
schema_by (BuiltBy b) = []
schema_by (CrossedBy c) = []

ordered_schema : {H : Type 0} (k : PhysSink H) (s : List Field) → setting_in k ≡ OrderedBy s → s ≡ sink_schema k
ordered_schema (phys.Ordered o) s e = sym (ap schema_by e)
ordered_schema (phys.Sort o) s e = cc
ordered_schema (phys.Build o) s e = cc
ordered_schema (phys.Cross o) s e = cc

under_root : {H : Type 0} (x : Settings H) (k : PhysSink H) (whole : Option Table) → setting_in k ≡ x.setting_at at.Ordered → IsOfRoot x whole → IsUnder (sink_schema k) whole
under_root x k None set is = tt
under_root x k (Some frame) set is = ordered_schema k frame.schema (set ∙ is)

-- a frame beside a sink has the sink's schema
pub under_sink : {H : Type 0} (x : Settings H) (a : SinkAt) (k : PhysSink H) (whole : Option Table) → setting_in k ≡ x.setting_at a → IsWholeAt x a whole → IsUnder (sink_schema k) whole
under_sink x at.Ordered k whole set is = under_root x k whole set is.0
under_sink x (at.Sort n) k whole set is = let P : Option Table → Type 0 = IsUnder (sink_schema k) in subst P (sym is) tt
under_sink x (at.Build n) k whole set is = let P : Option Table → Type 0 = IsUnder (sink_schema k) in subst P (sym is) tt

pub under_new : {H : Type 0} (x : Settings H) (m : Meaning) (limit : ℕ) (a : SinkAt) (fed : Option (FedSink H)) (sink : PhysSink H) → IsKeptAt x m limit a fed → IsUnder (sink_schema (fed_or_new fed sink).sink) (fed_or_new fed sink).whole
under_new x m limit a None sink kept = tt
under_new x m limit a (Some fed) sink kept = under_sink x a fed.sink fed.whole kept.0 kept.4

-- a leg that goes through operators has no frame
pub gone_whole : (above now above' : List ℕ) (node : ℕ) (held held' : List Row) (whole : Option Table) → above ≡ node ∷ now → IsWhole above held whole → IsWhole above' held' whole
gone_whole above now above' node held held' None e is = tt
gone_whole above now above' node held held' (Some frame) e is = let z : [] ≡ node ∷ now = sym is.0 ∙ e in cc

pub same_held : (above : List ℕ) (held : List Row) (whole : Option Table) → IsWhole above held whole → HasSameRows held whole
same_held above held None is = tt
same_held above held (Some frame) is = Same-from_bag is.1

-- where rows came as no frame, the sink holds all
pub held_alone : (held due : List Row) (whole : Option Table) → whole ≡ None → SameBag (held ++ whole_rows whole) due → SameBag held due
held_alone held due whole none same = SameBag-trans (SameBag-from_equal (sym (nil_right held) ∙ ap (λ w. held ++ whole_rows w) (sym none))) same

-- where the frame has all rows, the sink holds none
pub held_none : (held whole due : List Row) → SameBag (held ++ whole) due → whole ≡ due → held ≡ []
held_none held whole due same e =
    let a = same.sums (λ row. 1) in
    let b = total-append (λ row. 1) held whole in
    let c = ap (total (λ row. 1)) e in
    no_rows_left held (let d = total-length held in omega arith)

-- ---- the frame of a leg's source

frame_rows : (source : PhysSource) (frame : Table) → HasFrame source (Some frame) → (frame.rows ≡ left_rows (left_of source))
frame_rows (Frame left) frame is = is.0 ∙ sym (nil_right left.rows)
frame_rows (Union supply) frame is = cc
frame_rows (ReProject supply) frame is = cc

frame_schema : (schema : List Field) (source : PhysSource) (frame : Table) → HasFrame source (Some frame) → AllByRecursion (HasSchemaLeft schema) (left_of source) → frame.schema ≡ schema
frame_schema schema (Frame left) frame is all = is.1 ∙ all.0
frame_schema schema (Union supply) frame is all = cc
frame_schema schema (ReProject supply) frame is all = cc

frame_order : (rows : List Row) (source : PhysSource) (whole : Option Table) → HasFrame source whole → IsFrameOf rows source → whole_rows whole ≡ rows
frame_order rows (Frame left) whole is of = is.0 ∙ of
frame_order rows (Union supply) whole is of = absurd of
frame_order rows (ReProject supply) whole is of = absurd of

no_operators : {H : Type 0} (x : Settings H) (m : Meaning) (start : ℕ) (ops : List ℕ) (a : SinkAt) (b : SinkStage (PhysSink H)) → AreStagesOf x m start [] ops a b → (ops ≡ []) × IsSinkOf x m start a b.sink
no_operators x m start [] a b are = (refl, are.1)
no_operators x m start (n ∷ ops) a b are = absurd are

root_setting : {H : Type 0} (x : Settings H) (m : Meaning) (k : PhysSink H) (schema : List Field) → schema ≡ sink_schema k → setting_in k ≡ x.setting_at at.Ordered → EndsAt x m at.Ordered (setting_in k) → x.setting_at at.Ordered ≡ OrderedBy schema
root_setting {H = H} x m (phys.Ordered s) schema is set ends = let made : List Field → SinkSetting H = OrderedBy in sym set ∙ ap made (sym is)
root_setting x m (phys.Sort s) schema is set ends = absurd ends
root_setting x m (phys.Build s) schema is set ends = absurd ends
root_setting x m (phys.Cross s) schema is set ends = absurd ends

root_due : {H : Type 0} (x : Settings H) (m : Meaning) (k : PhysSink H) → EndsAt x m at.Ordered (setting_in k) → IsInOrder x.order (m.below m.ordered)
root_due x m (phys.Ordered s) ends = ends
root_due x m (phys.Sort s) ends = absurd ends
root_due x m (phys.Build s) ends = absurd ends
root_due x m (phys.Cross s) ends = absurd ends

-- what the root's sink is due has the root's order
pub root_order : {H : Type 0} (x : Settings H) (m : Meaning) (k : PhysSink H) → setting_in k ≡ x.setting_at at.Ordered → EndsAt x m at.Ordered (x.setting_at at.Ordered) → IsInOrder x.order (m.below m.ordered)
root_order {H = H} x m k set ends = let E : SinkSetting H → Type 0 = EndsAt x m at.Ordered in root_due x m k (subst E (sym set) ends)

-- what a leg keeps: the rows that its lanes hold
pub frame_whole : {H : Type 0} (x : Settings H) (m : Meaning) (start : ℕ) (source : PhysSource) (a : SinkAt) (sts : List (Stage (PhysOperator H))) (ops above : List ℕ) (b : SinkStage (PhysSink H)) (frame kept : Option Table) (held : List Row)
    → HasFrame source frame → IsKeptFrame a sts frame kept → AreStagesOf x m start sts ops a b → above ≡ ops → (sts ≡ [] → SameBag (left_rows (left_of source)) held) → IsWhole above held kept
frame_whole x m start source at.Ordered [] ops above b None kept held has is are above_is same = let P : Option Table → Type 0 = IsWhole above held in subst P (sym is) tt
frame_whole x m start source at.Ordered [] ops above b (Some frame) kept held has is are above_is same =
    let P : Option Table → Type 0 = IsWhole above held in
    subst P (sym is) (above_is ∙ (no_operators x m start ops at.Ordered b are).0, SameBag-trans (SameBag-from_equal (frame_rows source frame has)) (same refl))
frame_whole x m start source at.Ordered (st ∷ sts) ops above b frame kept held has is are above_is same = let P : Option Table → Type 0 = IsWhole above held in subst P (sym is) tt
frame_whole x m start source (at.Sort n) sts ops above b frame kept held has is are above_is same = let P : Option Table → Type 0 = IsWhole above held in subst P (sym is) tt
frame_whole x m start source (at.Build n) sts ops above b frame kept held has is are above_is same = let P : Option Table → Type 0 = IsWhole above held in subst P (sym is) tt

frame_of_root : {H : Type 0} (x : Settings H) (m : Meaning) (start : ℕ) (source : PhysSource) (b : SinkStage (PhysSink H)) (frame : Option Table) → HasFrame source frame → AllByRecursion (HasSchemaLeft (x.schema_at start)) (left_of source) → IsSinkOf x m start at.Ordered b.sink → IsOfRoot x frame
frame_of_root x m start source b None has all sink = tt
frame_of_root {H = H} x m start source b (Some frame) has all sink =
    let E : SinkSetting H → Type 0 = EndsAt x m at.Ordered in
    root_setting x m b.sink frame.schema (frame_schema (x.schema_at start) source frame has all ∙ sym sink.schema) sink.setting (subst E (sym sink.setting) sink.ends)

in_order : {H : Type 0} (m : Meaning) (start : ℕ) (source : PhysSource) (sts : List (Stage (PhysOperator H))) (frame kept : Option Table) (order : Option (List Row)) → HasFrame source frame → IsKeptFrame at.Ordered sts frame kept → (m.is_sort start ≡ true → IsFrameOf (m.rows start) source) → BeginsInOrder m start sts order → IsInOrder order (whole_rows kept)
in_order m start source sts frame kept None has is sorted begins = tt
in_order m start source [] frame kept (Some due) has is sorted begins = ap whole_rows is ∙ frame_order (m.rows start) source frame has (sorted begins.0) ∙ begins.2
in_order m start source (st ∷ sts) frame kept (Some due) has is sorted begins = let z : st ∷ sts ≡ [] = begins.1 in cc

kept_of_root : {H : Type 0} (x : Settings H) (m : Meaning) (start : ℕ) (source : PhysSource) (sts : List (Stage (PhysOperator H))) (ops : List ℕ) (b : SinkStage (PhysSink H)) (frame kept : Option Table) → HasFrame source frame → IsKeptFrame at.Ordered sts frame kept → AllByRecursion (HasSchemaLeft (x.schema_at start)) (left_of source) → AreStagesOf x m start sts ops at.Ordered b → IsOfRoot x kept
kept_of_root x m start source [] ops b frame kept has is all are =
    let P : Option Table → Type 0 = IsOfRoot x in
    subst P (sym is) (frame_of_root x m start source b frame has all (no_operators x m start ops at.Ordered b are).1)
kept_of_root x m start source (st ∷ sts) ops b frame kept has is all are = let P : Option Table → Type 0 = IsOfRoot x in subst P (sym is) tt

-- and it may be there
pub frame_place : {H : Type 0} (x : Settings H) (m : Meaning) (start : ℕ) (source : PhysSource) (a : SinkAt) (sts : List (Stage (PhysOperator H))) (ops : List ℕ) (b : SinkStage (PhysSink H)) (frame kept : Option Table)
    → HasFrame source frame → IsKeptFrame a sts frame kept → AreStagesOf x m start sts ops a b → Brings source x m start → KeepsOrder x m start sts a → IsWholeAt x a kept
frame_place x m start source at.Ordered sts ops b frame kept has is are brings begins = (kept_of_root x m start source sts ops b frame kept has is brings.schema are, in_order m start source sts frame kept x.order has is brings.order begins)
frame_place x m start source (at.Sort n) sts ops b frame kept has is are brings begins = is
frame_place x m start source (at.Build n) sts ops b frame kept has is are brings begins = is

pub no_works : {O S : Type 0} (op : OperatorWords O S) (from : List Field) (ss : List S) → works_of op from [] ss ≡ []
no_works op from ss = refl

-- rows that go through no stage come out as they are
pub flows_none : (ks : List Work) (acting : List Acts) (rows out : List Row) → ks ≡ [] → Flows ks acting rows out → SameBag rows out
flows_none [] [] rows out e flows = SameBag-sym (SameBag-from_rows flows)
flows_none [] (a ∷ acting) rows out e flows = absurd flows
flows_none (k ∷ ks) acting rows out e flows = cc

pub into_empty : (gone rows out held : List Row) → gone ≡ [] → SameBag rows out → Same held (gone ++ out) → SameBag rows held
into_empty gone rows out held none same into =
    let h = SameBag-from_rows into in
    record {
      sums = λ f. (
          let a = h.sums f in
          let b = same.sums f in
          let c = ap (total f) none in
          let e = total-append f gone out in omega arith);
    }

-- ---- the frame of the root

-- no frame came
pub rows_alone : (held rows : List Row) (whole : Option Table) → whole ≡ None → Same held rows → HasBoth held (whole_rows whole) rows
rows_alone held rows whole none same =
    let P : Option Table → Type 0 = λ z. HasBoth held (whole_rows z) rows in
    let h = SameBag-from_rows same in
    subst P (sym none) (record {
      both = Same-from_bag (SameBag-trans (SameBag-from_equal (nil_right held)) h);
      alone = λ e. no_rows_left rows (let a = rows-length same in let b = ap length e in omega arith);
    })

-- only a frame came
pub frame_alone : (held rows : List Row) (whole : Option Table) (frame : Table) → whole ≡ Some frame → Same held rows → length rows ≡ 0 → HasBoth held (whole_rows whole) frame.rows
frame_alone held rows whole frame some same none =
    let P : Option Table → Type 0 = λ z. HasBoth held (whole_rows z) frame.rows in
    let e : held ≡ [] = no_rows_left held (let a = rows-length same in omega arith) in
    subst P (sym some) (record {
      both = Same-from_bag (SameBag-from_equal (ap (λ l. l ++ frame.rows) e));
      alone = λ h. refl;
    })

-- a frame came, and other rows
pub frame_behind : (held rows : List Row) (whole : Option Table) (frame new : Table) → whole ≡ Some frame → Same held rows → (length rows ≡ 0 → ⊥) → new.rows ≡ rows ++ frame.rows → HasBoth held (whole_rows whole) new.rows
frame_behind held rows whole frame new some same many is =
    let P : Option Table → Type 0 = λ z. HasBoth held (whole_rows z) new.rows in
    let h = SameBag-from_rows same in
    subst P (sym some) (record {
      both = Same-from_bag (SameBag-trans (SameBag-append h (SameBag-refl frame.rows)) (SameBag-from_equal (sym is)));
      alone = λ e. absurd (many (let a = rows-length same in let b = ap length e in omega arith));
    })
