-- A join of whose keys each was won once gave no more for keys than it has of its own.
use Rattle.std.proofs.Common.{◌≡◌, ℕ, zero, suc, ◌+◌, ◌<◌, ◌≤◌, Bool, true, false, cond, ◌||◌, eqb, List, [], ◌∷◌, ◌++◌, length, Option, Some, None, refl, sym, ap, subst, ◌∙◌, arith, inl, inr}
use Rattle.std.specs.Prelude.{filter}
use Rattle.std.specs.List.{flat_map, list_any}
use Rattle.pipe_schema.specs.Rows.{Row}
use Rattle.pipe_schema.specs.Weights.{total}
use Rattle.pipe_schema.proofs.Weights.{SameBag, SameBag-refl, SameBag-sym, SameBag-trans, SameBag-from_equal, SameBag-from_rows, total-append}
use Rattle.pipe_rows.specs.Encoded.{Encoded}
use Rattle.pipe_expr.specs.Joins.{Join}
use Rattle.pipe_expr.specs.Shares.{own_by, built_share, matched_built, has_probed_match, met_by}
use Rattle.pipe_expr.specs.declared.join_words.JoinType.{JoinType}
use Rattle.pipe_expr.specs.declared.join_words.JoinType.TheVariants as how
use Rattle.pipe_table.specs.KeysOfRows.{AreTypedKeys, encoded_key}
use Rattle.pipe_table.specs.Spec.{IsSpec, settings_of, built_schema, built_on, probed_schema, probed_on}
use Rattle.pipe_table.specs.Table.{TableRows, table_keys}
use Rattle.pipe_table.specs.declared.spec.JoinSpec.{JoinSpec}
use Rattle.pipe_chain.specs.Flags.{is_marked}
use Rattle.pipe_chain.specs.Sums.{times, one_at}
use Rattle.pipe_chain.proofs.SumLemmas.{total-append as keys-append}
use Rattle.pipe_driver.proofs.Tests.{by_test, eq-is, or-case, some-left, not-both}
use Rattle.pipe_chain.specs.Flow.{Acts}
use Rattle.pipe_chain.specs.Keys.{WithinKeys}
use Rattle.pipe_chain.specs.Unmarking.{no_row}
use Rattle.pipe_outer.specs.Marking.{number_found, found_for}
use Rattle.pipe_outer.specs.MarkProbe.{asked_where, asked_for, is_typed_key, mark_work, gives_built, gives_first}
use Rattle.pipe_outer.specs.Settled.{AreClosed, IsProbed}
use Rattle.pipe_outer.specs.Unmet.{FullRows}
use Rattle.pipe_outer.proofs.JoinLaw.{semi-owns}
use Rattle.pipe_slots.specs.Kinds.{kind_of}
use Rattle.pipe_slots.specs.JoinWords.{suits_join, work_join}
use Rattle.pipe_slots.specs.declared.probe_kind.ProbeKind.{ProbeKind}
use Rattle.pipe_slots.specs.declared.probe_kind.ProbeKind.TheVariants.{Joins, Crosses, Fulls, Marks as MarksBuilt}
use Rattle.pipe_slots.specs.declared.slot.Slot.{Slot}
use Rattle.pipe_slots.specs.declared.slot.Slot.TheVariants as slot
use Rattle.pipe_passage.specs.Stopped.{WonOnce, IsOnce}
use Rattle.pipe_engine.specs.Engine.{rows_in, IsWellBuilt}
use Rattle.pipe_engine.specs.Stands.{Settings}
use Rattle.pipe_driver.proofs.Shares.{own_alike}

-- ---- rows that ask for keys whose flags stand

abbrev all_stand : List (Option ℕ) → List ℕ → Bool
all_stand flags [] = true
all_stand flags (key ∷ keys) = cond (is_marked flags key) (all_stand flags keys) false

number_few : (o : Option ℕ) → length (number_found o) ≤ 1
number_few None = omega arith
number_few (Some key) = omega arith

asked_few : (typed : Bool) (keys : List (List ℕ)) (row : Encoded) (o : Option ℕ) → found_for keys row ≡ number_found o → length (asked_where typed keys row) ≤ 1
asked_few true keys row o e = let n = number_few o in let l = ap length e in omega arith
asked_few false keys row o e = omega arith

one_key : (key : ℕ) (keys : List ℕ) → length keys ≤ 1 → 0 < times key keys → keys ≡ key ∷ []
one_key key [] few some = absurd (omega arith)
one_key key (k ∷ m ∷ keys) few some = absurd (omega arith)
one_key key (k ∷ []) few some = by_test (k ∷ [] ≡ key ∷ []) (eqb k key)
    (λ e. ap (λ n. n ∷ []) (eq-is k key e))
    (λ e. (let z : one_at key k ≡ 0 = ap (λ b. cond b 1 0) e in absurd (omega arith)))

module _ {H : Type 0} (table : TableRows H) where
  -- a row asks for one key at most
  asked_one : (key : ℕ) (row : Row) → 0 < times key (asked_for table row) → asked_for table row ≡ key ∷ []
  asked_one key row some = one_key key (asked_for table row) (asked_few (is_typed_key table row) (table_keys table) (encoded_key (probed_schema table.spec) (probed_on table.spec) row) _ refl) some

  abbrev asked : List Row → List ℕ
  asked rows = flat_map (asked_for table) rows

  asked_more : (key : ℕ) (row : Row) (rows : List Row) → times key (asked (row ∷ rows)) ≡ times key (asked_for table row) + times key (asked rows)
  asked_more key row rows = keys-append (one_at key) (asked_for table row) (asked rows)

  abbrev asks_key : ℕ → Row → ℕ
  asks_key key row = times key (asked_for table row)

  asked_total : (key : ℕ) (rows : List Row) → times key (asked rows) ≡ total (asks_key key) rows
  asked_total key [] = refl
  asked_total key (row ∷ rows) = let a = asked_more key row rows in let b = asked_total key rows in omega arith

  module _ (flags : List (Option ℕ)) where
    abbrev stands : Row → Bool
    stands row = all_stand flags (asked_for table row)

    abbrev kept : List Row → List Row
    kept rows = filter stands rows

    kept_here : (row : Row) (rows : List Row) → stands row ≡ true → kept (row ∷ rows) ≡ row ∷ kept rows
    kept_here row rows e = ap (λ b. cond b (row ∷ kept rows) (kept rows)) e

    kept_not : (row : Row) (rows : List Row) → stands row ≡ false → kept (row ∷ rows) ≡ kept rows
    kept_not row rows e = ap (λ b. cond b (row ∷ kept rows) (kept rows)) e

    marked_alone : (key : ℕ) → all_stand flags (key ∷ []) ≡ true → is_marked flags key ≡ true
    marked_alone key e = by_test (is_marked flags key ≡ true) (is_marked flags key) (λ t. t) (λ f. absurd (let g : false ≡ true = sym (ap (λ b. cond b true false) f) ∙ e in cc))

    -- each key that they ask for has its flag
    stand_in : (key : ℕ) (rows : List Row) → 0 < times key (asked (kept rows)) → is_marked flags key ≡ true
    stand_in key [] some = absurd (omega arith)
    stand_in key (row ∷ rows) some = by_test (is_marked flags key ≡ true) (stands row)
        (λ e. (let a = asked_more key row (kept rows) in
        let b = ap (λ l. times key (asked l)) (kept_here row rows e) in
        elim (some-left (times key (asked_for table row))) [
          | inr here ↦ marked_alone key (ap (all_stand flags) (sym (asked_one key row here)) ∙ e)
          | inl none ↦ stand_in key rows (omega arith)
        ]))
        (λ e. (let b = ap (λ l. times key (asked l)) (kept_not row rows e) in stand_in key rows (omega arith)))

    -- and a key that has its flag is asked for by them as by all
    asked_kept : (key : ℕ) (rows : List Row) → is_marked flags key ≡ true → times key (asked rows) ≤ times key (asked (kept rows))
    asked_kept key [] on = omega arith
    asked_kept key (row ∷ rows) on =
        let r = asked_kept key rows on in
        let a = asked_more key row rows in
        by_test (times key (asked (row ∷ rows)) ≤ times key (asked (kept (row ∷ rows)))) (stands row)
        (λ e. (let b = ap (λ l. times key (asked l)) (kept_here row rows e) in let c = asked_more key row (kept rows) in omega arith))
        (λ e. (let b = ap (λ l. times key (asked l)) (kept_not row rows e) in
        elim (some-left (times key (asked_for table row))) [
          | inr here ↦ (let all : stands row ≡ true = ap (all_stand flags) (asked_one key row here) ∙ ap (λ t. cond t true false) on in absurd (not-both (stands row) all e))
          | inl none ↦ (let z = none in omega arith)
        ]))

  -- the rows of the probe side that ask for flagged keys close the flags as they are
  closed_by : (a : Acts) (once : WonOnce table a) (there probed : List Row) → WithinKeys a.marked (asked there) → ((weight : Row → ℕ) → total weight there ≤ total weight probed) → AreClosed table (kept once.flags probed) a.won once.flags
  closed_by a once there probed marked within = record {
    stand = λ key some. stand_in once.flags key probed some;
    only = λ key on. (
        let m = once.only key on in
        let s = marked.sums (one_at key) in
        let t = asked_total key there in
        let w = within (asks_key key) in
        let p = asked_total key probed in
        let k = asked_kept once.flags key probed on in omega arith);
    long = once.long;
    once = once.once;
  }

-- ---- built rows with a match among more rows

true_or : (a b : Bool) → a ≡ true → (a || b) ≡ true
true_or a b e = ap (λ t. t || b) e

or_true : (a b : Bool) → b ≡ true → (a || b) ≡ true
or_true true b e = refl
or_true false b e = e

any_more : (f g : Row → Bool) (rows : List Row) → list_any f (filter g rows) ≡ true → list_any f rows ≡ true
any_more f g [] h = h
any_more f g (row ∷ rows) h = by_test (list_any f (row ∷ rows) ≡ true) (g row)
    (λ e. (let k : list_any f (row ∷ filter g rows) ≡ true = sym (ap (λ b. list_any f (cond b (row ∷ filter g rows) (filter g rows))) e) ∙ h in
    elim (or-case (f row) (list_any f (filter g rows)) k) [
      | inl here ↦ true_or (f row) (list_any f rows) here
      | inr later ↦ or_true (f row) (list_any f rows) (any_more f g rows later)
    ]))
    (λ e. (let k : list_any f (filter g rows) ≡ true = sym (ap (λ b. list_any f (cond b (row ∷ filter g rows) (filter g rows))) e) ∙ h in
    or_true (f row) (list_any f rows) (any_more f g rows k)))

abbrev alone : (f g : Row → Bool) → Row → Bool
alone f g row = cond (g row) false (f row)

-- a row that passes a test, or doesn't
taken : (f : Row → Bool) (weight : Row → ℕ) (row : Row) (rows : List Row) → f row ≡ true → total weight (filter f (row ∷ rows)) ≡ weight row + total weight (filter f rows)
taken f weight row rows e = ap (λ b. total weight (cond b (row ∷ filter f rows) (filter f rows))) e

left_out : (f : Row → Bool) (weight : Row → ℕ) (row : Row) (rows : List Row) → f row ≡ false → total weight (filter f (row ∷ rows)) ≡ total weight (filter f rows)
left_out f weight row rows e = ap (λ b. total weight (cond b (row ∷ filter f rows) (filter f rows))) e

-- a filter by a weaker test keeps the same rows and others
filter_more : (f g : Row → Bool) (weight : Row → ℕ) (rows : List Row) → ((row : Row) → g row ≡ true → f row ≡ true) → total weight (filter f rows) ≡ total weight (filter g rows) + total weight (filter (alone f g) rows)
filter_more f g weight [] h = refl
filter_more f g weight (row ∷ rows) h =
    let r = filter_more f g weight rows h in
    by_test (total weight (filter f (row ∷ rows)) ≡ total weight (filter g (row ∷ rows)) + total weight (filter (alone f g) (row ∷ rows))) (g row)
    (λ e. (let a = taken f weight row rows (h row e) in
    let b = taken g weight row rows e in
    let c = left_out (alone f g) weight row rows (ap (λ t. cond t false (f row)) e) in omega arith))
    (λ e. (let b = left_out g weight row rows e in
    by_test (total weight (filter f (row ∷ rows)) ≡ total weight (filter g (row ∷ rows)) + total weight (filter (alone f g) (row ∷ rows))) (f row)
    (λ k. (let a = taken f weight row rows k in let c = taken (alone f g) weight row rows (ap (λ t. cond t false (f row)) e ∙ k) in omega arith))
    (λ k. (let a = left_out f weight row rows k in let c = left_out (alone f g) weight row rows (ap (λ t. cond t false (f row)) e ∙ k) in omega arith))))

-- ---- what was gained is among what the join owns

pub record GaveAmong (own gained : List Row) : Type 0 where
  pub rest : List Row
  pub is : SameBag own (gained ++ rest)

pub gave_none : (own gained : List Row) → SameBag gained [] → GaveAmong own gained
gave_none own gained none = record { rest = own; is = record { sums = λ f. (let a = total-append f gained own in let b = none.sums f in omega arith) } }

no_rows : (keys : List ℕ) → flat_map no_row keys ≡ []
no_rows [] = refl
no_rows (k ∷ keys) = no_rows keys

none_gained : {H : Type 0} (table : TableRows H) (keys : List ℕ) → flat_map (mark_work false table).gains keys ≡ []
none_gained table [] = refl
none_gained table (key ∷ keys) = none_gained table keys

semi_gave : {H : Type 0} (hash_of : H → List ℕ → ℕ) (spec : JoinSpec) (t : FullRows H) (a : Acts) (own gained there probed below : List Row)
    → t.table.spec ≡ spec → spec.how ≡ how.Semi → spec.swapped ≡ false → IsSpec spec → SameBag t.table.rows below → WithinKeys a.marked (flat_map (asked_for t.table) there) → SameBag gained (flat_map (mark_work true t.table).gains a.won)
    → own ≡ built_share (settings_of spec) spec.swapped probed below → ((weight : Row → ℕ) → total weight there ≤ total weight probed) → 0 < t.table.parts → AreTypedKeys (built_schema t.table.spec) (built_on t.table.spec) t.table.rows → WonOnce t.table a
    → GaveAmong own gained
semi_gave hash_of spec t a own gained there probed below same kind turned good rows marked gave owns within some built once =
    let table = t.table in
    let j = settings_of table.spec in
    let few = kept table once.flags probed in
    let kind_is : table.spec.how ≡ how.Semi = ap (λ (z : JoinSpec). z.how) same ∙ kind in
    let side_is : table.spec.swapped ≡ false = ap (λ (z : JoinSpec). z.swapped) same ∙ turned in
    let closed = closed_by table a once there probed marked within in
    let G : JoinSpec → Type 0 = IsSpec in
    let is : IsProbed how.Semi table few = record { good = subst G (sym same) good; how_is = kind_is; parts = some; built = built } in
    let law = SameBag-from_rows (semi-owns (hash_of table.hasher) table few a.won once.flags closed is side_is) in
    let O : JoinSpec → Type 0 = λ z. SameBag (built_share (settings_of z) z.swapped probed table.rows) own in
    let mine : SameBag (built_share (settings_of table.spec) table.spec.swapped probed table.rows) own =
    subst O (sym same) (SameBag-trans (own_alike spec.how spec.swapped (settings_of spec) probed probed table.rows below (SameBag-refl probed) rows) (SameBag-from_equal (sym owns))) in
    let shares : (ps : List Row) → built_share j table.spec.swapped ps table.rows ≡ matched_built j false ps table.rows =
    λ ps. ap (λ (k : JoinType). own_by k j table.spec.swapped ps table.rows) kind_is ∙ ap (λ (b : Bool). own_by how.Semi j b ps table.rows) side_is in
    let f = has_probed_match j false probed in
    let g = has_probed_match j false few in
    let gains = flat_map (mark_work true table).gains a.won in
    let more = filter (alone f g) table.rows in
    record {
      rest = more;
      is = record {
        sums = λ w. (
            let all = filter_more f g w table.rows (λ row. any_more (met_by j false row) (stands table once.flags) probed) in
            let m : total w own ≡ total w (filter f table.rows) = sym (mine.sums w) ∙ ap (total w) (shares probed) in
            let l : total w (gains ++ []) ≡ total w (filter g table.rows) = law.sums w ∙ ap (total w) (shares few) in
            let gs : total w gained ≡ total w gains = gave.sums w in
            let t1 = total-append w gains [] in
            let t2 = total-append w gained more in omega arith);
      };
    }

marks_gave : {H : Type 0} (hash_of : H → List ℕ → ℕ) (spec : JoinSpec) (kind : JoinType) (side : Bool) (t : FullRows H) (a : Acts) (own gained there probed below : List Row)
    → t.table.spec ≡ spec → spec.how ≡ kind → spec.swapped ≡ side → gives_built kind side ≡ true → IsSpec spec → SameBag t.table.rows below → WithinKeys a.marked (flat_map (asked_for t.table) there) → SameBag gained (flat_map (mark_work (gives_first kind) t.table).gains a.won)
    → own ≡ built_share (settings_of spec) spec.swapped probed below → ((weight : Row → ℕ) → total weight there ≤ total weight probed) → 0 < t.table.parts → AreTypedKeys (built_schema t.table.spec) (built_on t.table.spec) t.table.rows → WonOnce t.table a
    → GaveAmong own gained
marks_gave hash_of spec how.Inner side t a own gained there probed below same kind turned keeps good rows marked gave owns within some built once = cc
marks_gave hash_of spec how.Left side t a own gained there probed below same kind turned keeps good rows marked gave owns within some built once = cc
marks_gave hash_of spec how.Full side t a own gained there probed below same kind turned keeps good rows marked gave owns within some built once = cc
marks_gave hash_of spec how.Cross side t a own gained there probed below same kind turned keeps good rows marked gave owns within some built once = cc
marks_gave hash_of spec how.Semi true t a own gained there probed below same kind turned keeps good rows marked gave owns within some built once = cc
marks_gave hash_of spec how.Anti true t a own gained there probed below same kind turned keeps good rows marked gave owns within some built once = cc
marks_gave hash_of spec how.Semi false t a own gained there probed below same kind turned keeps good rows marked gave owns within some built once =
    semi_gave hash_of spec t a own gained there probed below same kind turned good rows marked gave owns within some built once
marks_gave hash_of spec how.Anti false t a own gained there probed below same kind turned keeps good rows marked gave owns within some built once =
    gave_none own gained (SameBag-trans gave (SameBag-from_equal (none_gained t.table a.won)))

-- by the kind of probe
pub kind_gives : {H : Type 0} (hash_of : H → List ℕ → ℕ) (x : Settings H) (kind : ProbeKind) (spec : JoinSpec) (s : Slot H) (a : Acts) (own gained there probed below : List Row)
    → suits_join kind spec s → IsSpec spec → SameBag (rows_in s) below → WithinKeys a.marked (flat_map (work_join kind spec s).asks there) → SameBag gained (flat_map (work_join kind spec s).gains a.won)
    → own ≡ built_share (settings_of spec) spec.swapped probed below → ((weight : Row → ℕ) → total weight there ≤ total weight probed) → 0 < x.parts → IsWellBuilt x s → IsOnce s a → GaveAmong own gained
kind_gives hash_of x Joins spec (slot.Keys t) a own gained there probed below suits good rows marked gave owns within some built once =
    gave_none own gained (SameBag-trans gave (SameBag-from_equal (no_rows a.won)))
kind_gives hash_of x Crosses spec (slot.Rows f) a own gained there probed below suits good rows marked gave owns within some built once =
    gave_none own gained (SameBag-trans gave (SameBag-from_equal (no_rows a.won)))
kind_gives hash_of x Fulls spec (slot.Full t) a own gained there probed below suits good rows marked gave owns within some built once =
    gave_none own gained (SameBag-trans gave (SameBag-from_equal (no_rows a.won)))
kind_gives hash_of x MarksBuilt spec (slot.Full t) a own gained there probed below suits good rows marked gave owns within some built once =
    marks_gave hash_of spec spec.how spec.swapped t a own gained there probed below suits.0 refl refl suits.1 good rows marked gave owns within (let e = built.parts in omega arith) built.typed once
kind_gives hash_of x Joins spec slot.Empty a own gained there probed below suits good rows marked gave owns within some built once = absurd suits
kind_gives hash_of x Joins spec (slot.Rows f) a own gained there probed below suits good rows marked gave owns within some built once = absurd suits
kind_gives hash_of x Joins spec (slot.Full t) a own gained there probed below suits good rows marked gave owns within some built once = absurd suits
kind_gives hash_of x Joins spec slot.Spent a own gained there probed below suits good rows marked gave owns within some built once = absurd suits
kind_gives hash_of x Crosses spec slot.Empty a own gained there probed below suits good rows marked gave owns within some built once = absurd suits
kind_gives hash_of x Crosses spec (slot.Keys t) a own gained there probed below suits good rows marked gave owns within some built once = absurd suits
kind_gives hash_of x Crosses spec (slot.Full t) a own gained there probed below suits good rows marked gave owns within some built once = absurd suits
kind_gives hash_of x Crosses spec slot.Spent a own gained there probed below suits good rows marked gave owns within some built once = absurd suits
kind_gives hash_of x Fulls spec slot.Empty a own gained there probed below suits good rows marked gave owns within some built once = absurd suits
kind_gives hash_of x Fulls spec (slot.Keys t) a own gained there probed below suits good rows marked gave owns within some built once = absurd suits
kind_gives hash_of x Fulls spec (slot.Rows f) a own gained there probed below suits good rows marked gave owns within some built once = absurd suits
kind_gives hash_of x Fulls spec slot.Spent a own gained there probed below suits good rows marked gave owns within some built once = absurd suits
kind_gives hash_of x MarksBuilt spec slot.Empty a own gained there probed below suits good rows marked gave owns within some built once = absurd suits
kind_gives hash_of x MarksBuilt spec (slot.Keys t) a own gained there probed below suits good rows marked gave owns within some built once = absurd suits
kind_gives hash_of x MarksBuilt spec (slot.Rows f) a own gained there probed below suits good rows marked gave owns within some built once = absurd suits
kind_gives hash_of x MarksBuilt spec slot.Spent a own gained there probed below suits good rows marked gave owns within some built once = absurd suits
