-- What a join has of its own is what it gave for keys and what its flush gives.
use Rattle.std.proofs.Common.{◌≡◌, ℕ, ◌+◌, ◌<◌, Bool, true, false, List, [], ◌∷◌, ◌++◌, length, map, Option, refl, sym, ap, subst, ◌∙◌, arith, append-nil}
use Rattle.std.specs.Prelude.{All}
use Rattle.std.specs.List.{flat_map, range_with_len}
use Rattle.pipe_schema.specs.Rows.{Row, Same}
use Rattle.pipe_schema.proofs.Weights.{SameBag, SameBag-refl, SameBag-sym, SameBag-trans, SameBag-append, SameBag-from_equal, SameBag-from_rows, Same-from_bag}
use Rattle.pipe_expr.specs.Joins.{Join}
use Rattle.pipe_expr.specs.Shares.{own_by, built_share}
use Rattle.pipe_expr.specs.declared.join_words.JoinType.{JoinType}
use Rattle.pipe_expr.specs.declared.join_words.JoinType.TheVariants as how
use Rattle.pipe_table.specs.KeysOfRows.{AreTypedKeys}
use Rattle.pipe_table.specs.Spec.{IsSpec, settings_of, fits_side, built_schema, built_on}
use Rattle.pipe_table.specs.Table.{TableRows, table_keys}
use Rattle.pipe_table.specs.declared.spec.JoinSpec.{JoinSpec}
use Rattle.pipe_chain.specs.Flags.{SeatMarks, all_marked, all_won}
use Rattle.pipe_chain.specs.Keys.{SameKeys}
use Rattle.pipe_chain.specs.Unmarking.{no_row}
use Rattle.pipe_chain.proofs.Weighing.{keys-trans, asks-same}
use Rattle.pipe_run.specs.Flushes.{rows_of_parts}
use Rattle.pipe_outer.specs.Flush.{flush_start}
use Rattle.pipe_outer.specs.FullProbe.{full_work}
use Rattle.pipe_outer.specs.Marking.{won_key}
use Rattle.pipe_outer.specs.MarkProbe.{asked_for, mark_work, gives_built, gives_first, numbers_due}
use Rattle.pipe_outer.specs.Settled.{AreClosed, IsProbed, all_padded, all_flushed}
use Rattle.pipe_outer.specs.Unmet.{FullRows, EndsMarking, flagged_keys, flags_of}
use Rattle.pipe_outer.specs.declared.marks.Marks.{Marks}
use Rattle.pipe_outer.specs.declared.marks.Marks.TheVariants as marks
use Rattle.pipe_outer.proofs.JoinLaw.{closes-for, full-owns, semi-owns, anti-owns}
use Rattle.pipe_slots.specs.Kinds.{kind_of}
use Rattle.pipe_slots.specs.JoinWords.{suits_join, work_join, parts_by, parts_in, kept_rows, part_in}
use Rattle.pipe_slots.specs.SlotTables.{EndsAs, IsClosedAs}
use Rattle.pipe_slots.specs.declared.probe_kind.ProbeKind.{ProbeKind}
use Rattle.pipe_slots.specs.declared.probe_kind.ProbeKind.TheVariants.{Joins, Crosses, Fulls, Marks as MarksBuilt}
use Rattle.pipe_slots.specs.declared.slot.Slot.{Slot}
use Rattle.pipe_slots.specs.declared.slot.Slot.TheVariants as slot
use Rattle.pipe_passage.specs.LaneSeats.{sum_of, IsRest, AreRest}
use Rattle.pipe_engine.specs.Engine.{rows_in, IsWellBuilt}
use Rattle.pipe_engine.specs.Stands.{Settings}
use Rattle.pipe_driver.proofs.Shares.{own_alike}

no_rows : (keys : List ℕ) → flat_map no_row keys ≡ []
no_rows [] = refl
no_rows (k ∷ keys) = no_rows keys

-- ---- joins that keep nothing of their built side

none_kept : (kind : JoinType) (side : Bool) (j : Join) (probed built : List Row) → kind_of kind side ≡ Joins → fits_side kind side ≡ true → own_by kind j side probed built ≡ []
none_kept how.Inner side j probed built e f = refl
none_kept how.Left true j probed built e f = refl
none_kept how.Left false j probed built e f = cc
none_kept how.Full side j probed built e f = cc
none_kept how.Cross side j probed built e f = refl
none_kept how.Semi true j probed built e f = refl
none_kept how.Semi false j probed built e f = cc
none_kept how.Anti true j probed built e f = refl
none_kept how.Anti false j probed built e f = cc

none_crossed : (kind : JoinType) (side : Bool) (j : Join) (probed built : List Row) → kind_of kind side ≡ Crosses → own_by kind j side probed built ≡ []
none_crossed how.Inner side j probed built e = refl
none_crossed how.Left true j probed built e = cc
none_crossed how.Left false j probed built e = cc
none_crossed how.Full side j probed built e = cc
none_crossed how.Cross side j probed built e = refl
none_crossed how.Semi true j probed built e = cc
none_crossed how.Semi false j probed built e = cc
none_crossed how.Anti true j probed built e = cc
none_crossed how.Anti false j probed built e = cc

nothing_own : (own gained flushed : List Row) (keys : List ℕ) → own ≡ [] → SameBag gained (flat_map no_row keys) → flushed ≡ [] → SameBag own (gained ++ flushed)
nothing_own own gained flushed keys o g f =
    SameBag-trans (SameBag-from_equal o) (SameBag-sym (SameBag-append (SameBag-trans g (SameBag-from_equal (no_rows keys))) (SameBag-from_equal f)))

-- ---- joins that keep rows of it

all_closed : {H : Type 0} (table : TableRows H) (old new : Marks) (seats : List SeatMarks) (rows : List Row) → AreRest 0 old seats → EndsMarking old seats new → flagged_keys new ≡ length (table_keys table) → SameKeys (all_marked seats) (flat_map (asked_for table) rows)
    → AreClosed table rows (map won_key (all_won seats)) (flags_of new)
all_closed table (marks.Running flags) (marks.Closed closed) seats rows rest ends long marked = let all : length seats ≡ flags.seats = (let e = rest.1 in omega arith) in closes-for table rows seats closed ends.0 (ends.1 all) (ends.2 all) marked long
all_closed table (marks.Running flags) (marks.Running more) seats rows rest ends long marked = absurd ends
all_closed table (marks.Closed flags) new seats rows rest ends long marked = absurd rest

abbrev flush_by : {H : Type 0} → (hash_of : H → List ℕ → ℕ) → JoinType → FullRows H → List Row
flush_by hash_of kind t = flat_map (λ p. kept_rows kind t.table (numbers_due (hash_of t.table.hasher) t (record { partition = p; from = flush_start }))) (range_with_len 0 (parts_by kind t.table.parts))

-- what the flags are when they are closed
abbrev closed_full : {H : Type 0} → FullRows H → Marks → FullRows H
closed_full t m = record { table = t.table; marks = m }

by_table : {H : Type 0} (hash_of : H → List ℕ → ℕ) (own gained : List Row) (t u : FullRows H) → u.table ≡ t.table → SameBag own (gained ++ flush_by hash_of t.table.spec.how (closed_full t u.marks)) → SameBag own (gained ++ rows_of_parts parts_in (part_in hash_of) (slot.Full u))
by_table {H = H} hash_of own gained t u e h = let P : TableRows H → Type 0 = λ z. SameBag own (gained ++ flush_by hash_of z.spec.how (record { table = z; marks = u.marks })) in subst P (sym e) h

-- what a table gave for keys and flushes is what the join owns, of the probe side's rows and the built ones
full_own : {H : Type 0} (hash_of : H → List ℕ → ℕ) (spec : JoinSpec) (t : FullRows H) (new : Marks) (seats : List SeatMarks) (own gained there probed below : List Row) (parts : ℕ)
    → t.table.spec ≡ spec → spec.how ≡ how.Full → IsSpec spec → SameBag t.table.rows below → SameKeys (all_marked seats) (flat_map (asked_for t.table) there) → SameBag gained (flat_map no_row (map won_key (all_won seats)))
    → own ≡ built_share (settings_of spec) spec.swapped probed below → SameBag there probed → 0 < t.table.parts → AreTypedKeys (built_schema t.table.spec) (built_on t.table.spec) t.table.rows → AreRest 0 t.marks seats → EndsMarking t.marks seats new → flagged_keys new ≡ length (table_keys t.table)
    → SameBag own (gained ++ flush_by hash_of t.table.spec.how (closed_full t new))
full_own hash_of spec t new seats own gained there probed below parts same kind good rows marked gave owns seen some built rest ends long =
    let table = t.table in
    let won = map won_key (all_won seats) in
    let hash = hash_of table.hasher in
    let flags = flags_of new in
    let kind_is : table.spec.how ≡ how.Full = ap (λ (z : JoinSpec). z.how) same ∙ kind in
    let closed = all_closed table t.marks new seats probed rest ends long (keys-trans marked (asks-same (asked_for table) (Same-from_bag seen))) in
    let G : JoinSpec → Type 0 = IsSpec in
    let is : IsProbed how.Full table probed = record { good = subst G (sym same) good; how_is = kind_is; parts = some; built = built } in
    let law = SameBag-from_rows (full-owns hash table probed won flags closed is) in
    let O : JoinSpec → Type 0 = λ z. SameBag (built_share (settings_of z) z.swapped probed table.rows) own in
    let mine : SameBag (built_share (settings_of table.spec) table.spec.swapped probed table.rows) own =
    subst O (sym same) (SameBag-trans (own_alike spec.how spec.swapped (settings_of spec) probed probed table.rows below (SameBag-refl probed) rows) (SameBag-from_equal (sym owns))) in
    let F : JoinType → Type 0 = λ z. SameBag own (gained ++ flush_by hash_of z (closed_full t new)) in
    subst F (sym kind_is) (SameBag-trans (SameBag-sym mine) (SameBag-trans (SameBag-sym law) (SameBag-append (SameBag-sym gave) (SameBag-refl (all_padded hash table flags)))))

marks_own : {H : Type 0} (hash_of : H → List ℕ → ℕ) (spec : JoinSpec) (kind : JoinType) (side : Bool) (t : FullRows H) (new : Marks) (seats : List SeatMarks) (own gained there probed below : List Row)
    → t.table.spec ≡ spec → spec.how ≡ kind → spec.swapped ≡ side → gives_built kind side ≡ true → IsSpec spec → SameBag t.table.rows below → SameKeys (all_marked seats) (flat_map (asked_for t.table) there) → SameBag gained (flat_map (mark_work (gives_first kind) t.table).gains (map won_key (all_won seats)))
    → own ≡ built_share (settings_of spec) spec.swapped probed below → SameBag there probed → 0 < t.table.parts → AreTypedKeys (built_schema t.table.spec) (built_on t.table.spec) t.table.rows → AreRest 0 t.marks seats → EndsMarking t.marks seats new → flagged_keys new ≡ length (table_keys t.table)
    → SameBag own (gained ++ flush_by hash_of t.table.spec.how (closed_full t new))
marks_own hash_of spec how.Inner side t new seats own gained there probed below same kind turned keeps good rows marked gave owns seen some built rest ends long = cc
marks_own hash_of spec how.Left side t new seats own gained there probed below same kind turned keeps good rows marked gave owns seen some built rest ends long = cc
marks_own hash_of spec how.Full side t new seats own gained there probed below same kind turned keeps good rows marked gave owns seen some built rest ends long = cc
marks_own hash_of spec how.Cross side t new seats own gained there probed below same kind turned keeps good rows marked gave owns seen some built rest ends long = cc
marks_own hash_of spec how.Semi true t new seats own gained there probed below same kind turned keeps good rows marked gave owns seen some built rest ends long = cc
marks_own hash_of spec how.Anti true t new seats own gained there probed below same kind turned keeps good rows marked gave owns seen some built rest ends long = cc
marks_own hash_of spec how.Semi false t new seats own gained there probed below same kind turned keeps good rows marked gave owns seen some built rest ends long =
    let table = t.table in
    let won = map won_key (all_won seats) in
    let kind_is : table.spec.how ≡ how.Semi = ap (λ (z : JoinSpec). z.how) same ∙ kind in
    let side_is : table.spec.swapped ≡ false = ap (λ (z : JoinSpec). z.swapped) same ∙ turned in
    let closed = all_closed table t.marks new seats probed rest ends long (keys-trans marked (asks-same (asked_for table) (Same-from_bag seen))) in
    let G : JoinSpec → Type 0 = IsSpec in
    let is : IsProbed how.Semi table probed = record { good = subst G (sym same) good; how_is = kind_is; parts = some; built = built } in
    let law = SameBag-from_rows (semi-owns (hash_of table.hasher) table probed won (flags_of new) closed is side_is) in
    let O : JoinSpec → Type 0 = λ z. SameBag (built_share (settings_of z) z.swapped probed table.rows) own in
    let mine : SameBag (built_share (settings_of table.spec) table.spec.swapped probed table.rows) own =
    subst O (sym same) (SameBag-trans (own_alike spec.how spec.swapped (settings_of spec) probed probed table.rows below (SameBag-refl probed) rows) (SameBag-from_equal (sym owns))) in
    let F : JoinType → Type 0 = λ z. SameBag own (gained ++ flush_by hash_of z (closed_full t new)) in
    subst F (sym kind_is) (SameBag-trans (SameBag-sym mine) (SameBag-trans (SameBag-sym law) (SameBag-append (SameBag-sym gave) (SameBag-refl []))))
marks_own hash_of spec how.Anti false t new seats own gained there probed below same kind turned keeps good rows marked gave owns seen some built rest ends long =
    let table = t.table in
    let won = map won_key (all_won seats) in
    let hash = hash_of table.hasher in
    let flags = flags_of new in
    let kind_is : table.spec.how ≡ how.Anti = ap (λ (z : JoinSpec). z.how) same ∙ kind in
    let side_is : table.spec.swapped ≡ false = ap (λ (z : JoinSpec). z.swapped) same ∙ turned in
    let closed = all_closed table t.marks new seats probed rest ends long (keys-trans marked (asks-same (asked_for table) (Same-from_bag seen))) in
    let G : JoinSpec → Type 0 = IsSpec in
    let is : IsProbed how.Anti table probed = record { good = subst G (sym same) good; how_is = kind_is; parts = some; built = built } in
    let law = SameBag-from_rows (anti-owns hash table probed won flags closed is side_is) in
    let O : JoinSpec → Type 0 = λ z. SameBag (built_share (settings_of z) z.swapped probed table.rows) own in
    let mine : SameBag (built_share (settings_of table.spec) table.spec.swapped probed table.rows) own =
    subst O (sym same) (SameBag-trans (own_alike spec.how spec.swapped (settings_of spec) probed probed table.rows below (SameBag-refl probed) rows) (SameBag-from_equal (sym owns))) in
    let F : JoinType → Type 0 = λ z. SameBag own (gained ++ flush_by hash_of z (closed_full t new)) in
    subst F (sym kind_is) (SameBag-trans (SameBag-sym mine) (SameBag-trans (SameBag-sym law) (SameBag-append (SameBag-sym gave) (SameBag-refl (all_flushed hash table flags)))))

-- the slot's own rows, by the kind of probe
pub kind_owns : {H : Type 0} (hash_of : H → List ℕ → ℕ) (x : Settings H) (kind : ProbeKind) (spec : JoinSpec) (s closed : Slot H) (seats : List SeatMarks) (own gained there probed below : List Row)
    → kind_of spec.how spec.swapped ≡ kind → suits_join kind spec s → IsSpec spec → SameBag (rows_in s) below → SameKeys (sum_of seats).marked (flat_map (work_join kind spec s).asks there) → SameBag gained (flat_map (work_join kind spec s).gains (sum_of seats).won)
    → own ≡ built_share (settings_of spec) spec.swapped probed below → SameBag there probed → 0 < x.parts → IsWellBuilt x s → IsRest 0 s seats → IsClosedAs s seats closed
    → SameBag own (gained ++ rows_of_parts parts_in (part_in hash_of) closed)
kind_owns {H = H} hash_of x Joins spec (slot.Keys t) closed seats own gained there probed below kind suits good rows marked gave owns seen some built rest closes =
    nothing_own own gained (rows_of_parts parts_in (part_in hash_of) closed) (sum_of seats).won (owns ∙ none_kept spec.how spec.swapped (settings_of spec) probed below kind good.side) gave (ap (rows_of_parts parts_in (part_in hash_of)) closes)
kind_owns hash_of x Crosses spec (slot.Rows f) closed seats own gained there probed below kind suits good rows marked gave owns seen some built rest closes =
    nothing_own own gained (rows_of_parts parts_in (part_in hash_of) closed) (sum_of seats).won (owns ∙ none_crossed spec.how spec.swapped (settings_of spec) probed below kind) gave (ap (rows_of_parts parts_in (part_in hash_of)) closes)
kind_owns hash_of x Fulls spec (slot.Full t) (slot.Full u) seats own gained there probed below kind suits good rows marked gave owns seen some built rest closes =
    let long : flagged_keys u.marks ≡ length (table_keys t.table) = closes.keys ∙ ap (λ (z : TableRows _). length (table_keys z)) closes.table_is in
    by_table hash_of own gained t u closes.table_is
    (full_own hash_of spec t u.marks seats own gained there probed below x.parts suits.0 suits.1 good rows marked gave owns seen (let e = built.parts in omega arith) built.typed rest closes.marks long)
kind_owns hash_of x MarksBuilt spec (slot.Full t) (slot.Full u) seats own gained there probed below kind suits good rows marked gave owns seen some built rest closes =
    let long : flagged_keys u.marks ≡ length (table_keys t.table) = closes.keys ∙ ap (λ (z : TableRows _). length (table_keys z)) closes.table_is in
    by_table hash_of own gained t u closes.table_is
    (marks_own hash_of spec spec.how spec.swapped t u.marks seats own gained there probed below suits.0 refl refl suits.1 good rows marked gave owns seen (let e = built.parts in omega arith) built.typed rest closes.marks long)
kind_owns hash_of x Fulls spec (slot.Full t) slot.Empty seats own gained there probed below kind suits good rows marked gave owns seen some built rest closes = absurd closes
kind_owns hash_of x Fulls spec (slot.Full t) (slot.Keys u) seats own gained there probed below kind suits good rows marked gave owns seen some built rest closes = absurd closes
kind_owns hash_of x Fulls spec (slot.Full t) (slot.Rows u) seats own gained there probed below kind suits good rows marked gave owns seen some built rest closes = absurd closes
kind_owns hash_of x Fulls spec (slot.Full t) slot.Spent seats own gained there probed below kind suits good rows marked gave owns seen some built rest closes = absurd closes
kind_owns hash_of x MarksBuilt spec (slot.Full t) slot.Empty seats own gained there probed below kind suits good rows marked gave owns seen some built rest closes = absurd closes
kind_owns hash_of x MarksBuilt spec (slot.Full t) (slot.Keys u) seats own gained there probed below kind suits good rows marked gave owns seen some built rest closes = absurd closes
kind_owns hash_of x MarksBuilt spec (slot.Full t) (slot.Rows u) seats own gained there probed below kind suits good rows marked gave owns seen some built rest closes = absurd closes
kind_owns hash_of x MarksBuilt spec (slot.Full t) slot.Spent seats own gained there probed below kind suits good rows marked gave owns seen some built rest closes = absurd closes
kind_owns hash_of x Joins spec slot.Empty closed seats own gained there probed below kind suits good rows marked gave owns seen some built rest closes = absurd suits
kind_owns hash_of x Joins spec (slot.Rows f) closed seats own gained there probed below kind suits good rows marked gave owns seen some built rest closes = absurd suits
kind_owns hash_of x Joins spec (slot.Full t) closed seats own gained there probed below kind suits good rows marked gave owns seen some built rest closes = absurd suits
kind_owns hash_of x Joins spec slot.Spent closed seats own gained there probed below kind suits good rows marked gave owns seen some built rest closes = absurd suits
kind_owns hash_of x Crosses spec slot.Empty closed seats own gained there probed below kind suits good rows marked gave owns seen some built rest closes = absurd suits
kind_owns hash_of x Crosses spec (slot.Keys t) closed seats own gained there probed below kind suits good rows marked gave owns seen some built rest closes = absurd suits
kind_owns hash_of x Crosses spec (slot.Full t) closed seats own gained there probed below kind suits good rows marked gave owns seen some built rest closes = absurd suits
kind_owns hash_of x Crosses spec slot.Spent closed seats own gained there probed below kind suits good rows marked gave owns seen some built rest closes = absurd suits
kind_owns hash_of x Fulls spec slot.Empty closed seats own gained there probed below kind suits good rows marked gave owns seen some built rest closes = absurd suits
kind_owns hash_of x Fulls spec (slot.Keys t) closed seats own gained there probed below kind suits good rows marked gave owns seen some built rest closes = absurd suits
kind_owns hash_of x Fulls spec (slot.Rows f) closed seats own gained there probed below kind suits good rows marked gave owns seen some built rest closes = absurd suits
kind_owns hash_of x Fulls spec slot.Spent closed seats own gained there probed below kind suits good rows marked gave owns seen some built rest closes = absurd suits
kind_owns hash_of x MarksBuilt spec slot.Empty closed seats own gained there probed below kind suits good rows marked gave owns seen some built rest closes = absurd suits
kind_owns hash_of x MarksBuilt spec (slot.Keys t) closed seats own gained there probed below kind suits good rows marked gave owns seen some built rest closes = absurd suits
kind_owns hash_of x MarksBuilt spec (slot.Rows f) closed seats own gained there probed below kind suits good rows marked gave owns seen some built rest closes = absurd suits
kind_owns hash_of x MarksBuilt spec slot.Spent closed seats own gained there probed below kind suits good rows marked gave owns seen some built rest closes = absurd suits
