-- Slots and stages fit a world that more rows came to.
use Rattle.std.proofs.Common.{◌≡◌, ◌≢◌, ℕ, zero, suc, ◌+◌, ◌<◌, ◌≤◌, Bool, true, false, cond, ◌==◌, List, [], ◌∷◌, ◌++◌, length, refl, sym, ap, subst, ◌∙◌, arith, append_assoc}
use Rattle.std.specs.List.{flat_map}
use Rattle.pipe_schema.specs.Rows.{Row, Same}
use Rattle.pipe_schema.specs.Weights.{total}
use Rattle.pipe_schema.proofs.Weights.{SameBag, SameBag-refl, SameBag-sym, SameBag-trans, SameBag-append, SameBag-from_equal, SameBag-from_rows, Same-from_bag, total-append}
use Rattle.pipe_chain.specs.Keys.{SameKeys}
use Rattle.pipe_chain.specs.Flow.{Work, Acts, Grown, AllGrown}
use Rattle.pipe_chain.specs.Unmarking.{no_key, no_row}
use Rattle.pipe_chain.proofs.Weighing.{keys-refl, keys-sym, keys-trans, keys-by, keys-weigh, asks-same, gains-same}
use Rattle.pipe_driver.specs.Meaning.{Meaning, Place, OutOf}
use Rattle.pipe_driver.specs.Ways.{one, occurs}
use Rattle.pipe_driver.proofs.Tests.{by_test, eq-is, eq-true, eq-false, eq-not, not-both}
use Rattle.pipe_driver.specs.State.{World, Waits, Has, AreAlike}
use Rattle.pipe_driver.specs.State as state
use Rattle.pipe_expr.specs.Joins.{Join}
use Rattle.pipe_expr.specs.Shares.{share_by, probe_share}
use Rattle.pipe_expr.specs.declared.join_words.JoinType.{JoinType}
use Rattle.pipe_expr.specs.declared.join_words.JoinType.TheVariants as how
use Rattle.pipe_table.specs.Spec.{settings_of}
use Rattle.pipe_table.specs.declared.spec.JoinSpec.{JoinSpec}
use Rattle.pipe_probe.specs.Probed.{share_of}
use Rattle.pipe_outer.specs.MarkProbe.{gives_built}
use Rattle.pipe_slots.specs.Kinds.{kind_of}
use Rattle.pipe_slots.specs.JoinWords.{suits_join, work_join}
use Rattle.pipe_slots.specs.declared.probe_kind.ProbeKind.{ProbeKind}
use Rattle.pipe_slots.specs.declared.probe_kind.ProbeKind.TheVariants.{Joins, Crosses, Fulls, Marks}
use Rattle.pipe_passage.specs.LaneSeats.{SameActs, AllSameActs}
use Rattle.pipe_slots.specs.declared.slot.Slot.{Slot}
use Rattle.pipe_slots.specs.declared.slot.Slot.TheVariants as slot
use Rattle.pipe_driver.specs.Along.{MakesOf, AllMakeOf, more_of, AllMarked}
use Rattle.pipe_engine.specs.Engine.{IsBare, IsTabled, SlotFits, IsRowStage, IsJoinStage, StageFits, StagesFit, join_work, rows_in}
use Rattle.pipe_engine.specs.Passed.{with_more}
use Rattle.pipe_engine.specs.Stands.{Settings}
use Rattle.pipe_driver.proofs.Flowing.{more_here, first_apart}
use Rattle.pipe_driver.proofs.Shares.{share_alike}

-- ---- bags

flat_both : {X Y : Type 0} (f : X → List Y) (a b : List X) → flat_map f (a ++ b) ≡ flat_map f a ++ flat_map f b
flat_both f [] b = refl
flat_both f (x ∷ a) b = ap (λ l. f x ++ l) (flat_both f a b) ∙ sym (append_assoc (f x) (flat_map f a) (flat_map f b))

nothing_more : (a b : List Row) → SameBag [] a → SameBag [] b → SameBag [] (a ++ b)
nothing_more a b h k = record { sums = λ f. (let x = h.sums f in let y = k.sums f in let z = total-append f a b in omega arith) }

as_before : (a b : List Row) → SameBag [] b → SameBag (a ++ b) a
as_before a b k = record { sums = λ f. (let y = k.sums f in let z = total-append f a b in omega arith) }

asks_by : (f : Row → List ℕ) {a b : List Row} → SameBag a b → SameKeys (flat_map f a) (flat_map f b)
asks_by f h = asks-same f (Same-from_bag h)

keys_both : (f : Row → List ℕ) (a b : List ℕ) (x y : List Row) → SameKeys a (flat_map f x) → SameKeys b (flat_map f y) → SameKeys (a ++ b) (flat_map f (x ++ y))
keys_both f a b x y h k = keys-by (λ w. (
    let p = keys-weigh h w in let q = keys-weigh k w in
    let e = total-append w a b in
    let g = ap (total w) (flat_both f x y) ∙ total-append w (flat_map f x) (flat_map f y) in omega arith))

-- ---- slots

pub bare_passes : (m : Meaning) (w : World) (came : Place → List Row) (more : ℕ → List Row) (j : ℕ) → IsBare m w j → (m.is_join j ≡ true → SameBag [] (came (OutOf (m.probed j)))) → SameBag [] (more j) → IsBare m (with_more w came more) j
bare_passes m w came more j is none none_more = record {
  waits = is.waits;
  there = λ join. nothing_more (w.there (OutOf (m.probed j))) (came (OutOf (m.probed j))) (is.there join) (none join);
  gained = nothing_more (w.gained j) (more j) is.gained none_more;
}

-- a table on the way
pub table_passes : {H : Type 0} (x : Settings H) (m : Meaning) (w : World) (came : Place → List Row) (more : ℕ → List Row) (j : ℕ) (s : Slot H) (old new a : Acts) → IsTabled x m w j s old → Grown old new a
    → SameKeys a.marked (flat_map (join_work x j s).asks (came (OutOf (m.probed j)))) → SameBag (more j) (flat_map (join_work x j s).gains a.won) → IsTabled x m (with_more w came more) j s new
table_passes x m w came more j s old new a is grown marked gave =
    let k = join_work x j s in
    let there = w.there (OutOf (m.probed j)) in
    let now = came (OutOf (m.probed j)) in
    let won : SameBag (flat_map k.gains new.won) (flat_map k.gains (old.won ++ a.won)) = SameBag-from_rows (gains-same k.gains grown.won) in
    record {
      join = is.join;
      suits = is.suits;
      built = is.built;
      has = is.has;
      rows = is.rows;
      marked = keys-trans grown.marked (keys_both k.asks old.marked a.marked there now is.marked marked);
      gained = SameBag-trans (SameBag-append is.gained gave) (SameBag-sym (SameBag-trans won (SameBag-from_equal (flat_both k.gains old.won a.won))));
    }

-- a table beside the way
pub table_stays : {H : Type 0} (x : Settings H) (m : Meaning) (w : World) (came : Place → List Row) (more : ℕ → List Row) (j : ℕ) (s : Slot H) (acts : Acts) → IsTabled x m w j s acts → SameBag [] (came (OutOf (m.probed j))) → SameBag [] (more j) → IsTabled x m (with_more w came more) j s acts
table_stays x m w came more j s acts is none none_more =
    let k = join_work x j s in
    let there = w.there (OutOf (m.probed j)) in
    let same = as_before there (came (OutOf (m.probed j))) none in
    record {
      join = is.join;
      suits = is.suits;
      built = is.built;
      has = is.has;
      rows = is.rows;
      marked = keys-trans is.marked (asks_by k.asks (SameBag-sym same));
      gained = SameBag-trans (as_before (w.gained j) (more j) none_more) is.gained;
    }

pub slot_stays : {H : Type 0} (x : Settings H) (m : Meaning) (w : World) (came : Place → List Row) (more : ℕ → List Row) (j : ℕ) (s : Slot H) (acts : Acts) → SlotFits x m w j s acts → (m.is_join j ≡ true → SameBag [] (came (OutOf (m.probed j)))) → SameBag [] (more j)
    → SlotFits x m (with_more w came more) j s acts
slot_stays x m w came more j slot.Empty acts is none none_more = bare_passes m w came more j is none none_more
slot_stays x m w came more j (slot.Keys t) acts is none none_more = table_stays x m w came more j (slot.Keys t) acts is (none is.join.is_join) none_more
slot_stays x m w came more j (slot.Rows f) acts is none none_more = table_stays x m w came more j (slot.Rows f) acts is (none is.join.is_join) none_more
slot_stays x m w came more j (slot.Full t) acts is none none_more = table_stays x m w came more j (slot.Full t) acts is (none is.join.is_join) none_more
slot_stays x m w came more j slot.Spent acts is none none_more = is

no_table : (H : Type 0) (kind : ProbeKind) (spec : JoinSpec) → suits_join {H = H} kind spec slot.Empty → ⊥
no_table H Joins spec h = h
no_table H Crosses spec h = h
no_table H Fulls spec h = h
no_table H Marks spec h = h

spent_table : (H : Type 0) (kind : ProbeKind) (spec : JoinSpec) → suits_join {H = H} kind spec slot.Spent → ⊥
spent_table H Joins spec h = h
spent_table H Crosses spec h = h
spent_table H Fulls spec h = h
spent_table H Marks spec h = h

-- a table stands in its slot
pub table_stands : {H : Type 0} (x : Settings H) (m : Meaning) (w : World) (j : ℕ) (s : Slot H) (acts : Acts) → IsTabled x m w j s acts → SlotFits x m w j s acts
table_stands {H = H} x m w j slot.Empty acts is = absurd (no_table H (kind_of (x.spec_at j).how (x.spec_at j).swapped) (x.spec_at j) is.suits)
table_stands x m w j (slot.Keys t) acts is = is
table_stands x m w j (slot.Rows f) acts is = is
table_stands x m w j (slot.Full t) acts is = is
table_stands {H = H} x m w j slot.Spent acts is = absurd (spent_table H (kind_of (x.spec_at j).how (x.spec_at j).swapped) (x.spec_at j) is.suits)

-- the same with as many acts
pub same_table : {H : Type 0} (x : Settings H) (m : Meaning) (w : World) (j : ℕ) (s : Slot H) (a b : Acts) → SameActs a b → IsTabled x m w j s a → IsTabled x m w j s b
same_table x m w j s a b same is = record {
  join = is.join;
  suits = is.suits;
  built = is.built;
  has = is.has;
  rows = is.rows;
  marked = keys-trans (keys-sym same.marked) is.marked;
  gained = SameBag-trans is.gained (SameBag-from_rows (gains-same (join_work x j s).gains same.won));
}

-- ---- stages

abbrev pub AllGive : (ℕ → List Row) → List ℕ → List Work → List Acts → Type 0
AllGive more [] ws acts = Unit {0}
AllGive more (n ∷ ops) [] acts = Unit {0}
AllGive more (n ∷ ops) (w ∷ ws) [] = Unit {0}
AllGive more (n ∷ ops) (w ∷ ws) (a ∷ acts) = (more n ≡ flat_map w.gains a.won) × AllGive more ops ws acts

give_by : (m : Meaning) (s : ℕ) (more : ℕ → List Row) (ops : List ℕ) (ws : List Work) (acts : List Acts) → AreAlike m s ops → ((j : ℕ) → 0 < occurs j ops → more j ≡ more_of ops ws acts j) → AllGive more ops ws acts
give_by m s more [] ws acts are h = tt
give_by m s more (n ∷ ops) [] acts are h = tt
give_by m s more (n ∷ ops) (w ∷ ws) [] are h = tt
give_by m s more (n ∷ ops) (w ∷ ws) (a ∷ acts) are h =
    let here : one (n == n) ≡ 1 = ap one (eq-true n n refl) in (
      h n (omega arith) ∙ more_here n ops w ws a acts,
      give_by m s more ops ws acts are.2 (λ j some. (
          let none = first_apart m s n ops are in
          let apart : j ≢ n = λ e. (let z = ap (λ k. occurs k ops) e in absurd (omega arith)) in
          h j (omega arith) ∙ ap (λ b. cond b (flat_map w.gains a.won) (more_of ops ws acts j)) (eq-false j n apart))),
    )

pub all_give : (m : Meaning) (s : ℕ) (ops : List ℕ) (ws : List Work) (acts : List Acts) → AreAlike m s ops → AllGive (more_of ops ws acts) ops ws acts
all_give m s ops ws acts are = give_by m s (more_of ops ws acts) ops ws acts are (λ j some. refl)

no_rows : (keys : List ℕ) → flat_map no_row keys ≡ []
no_rows [] = refl
no_rows (k ∷ keys) = no_rows keys

none_gained : (k : Work) (keys : List ℕ) → k.gains ≡ no_row → flat_map k.gains keys ≡ []
none_gained k keys e = ap (λ g. flat_map g keys) e ∙ no_rows keys

pub stage_passes : {H : Type 0} (x : Settings H) (m : Meaning) (w : World) (came : Place → List Row) (more : ℕ → List Row) (given n : ℕ) (k : Work) (s : Slot H) (old new a : Acts) → StageFits x m w given n k s old → Grown old new a
    → SameKeys a.marked (flat_map k.asks (came (OutOf given))) → more n ≡ flat_map k.gains a.won → StageFits x m (with_more w came more) given n k s new
stage_passes x m w came more given n k s old new a is grown marked gives = (
  (λ row. (let r = is.0 row in (
    record {
      join = r.0.join;
      each = r.0.each;
      asks = r.0.asks;
      gains = r.0.gains;
      bare = bare_passes m w came more n r.0.bare (λ join. absurd (not-both (m.is_join n) join row)) (SameBag-from_equal (sym (gives ∙ none_gained k a.won r.0.gains)));
    },
    r.1,
  ))),
  (λ join. (let j = is.1 join in
      let same = j.work_is in
      let asked : SameKeys a.marked (flat_map (join_work x n s).asks (came (OutOf (m.probed n)))) =
      (let P : Work → Type 0 = λ z. SameKeys a.marked (flat_map z.asks (came (OutOf (m.probed n)))) in
      let Q : ℕ → Type 0 = λ g. SameKeys a.marked (flat_map k.asks (came (OutOf g))) in
      subst P same (subst Q j.probed marked)) in
      let gave : more n ≡ flat_map (join_work x n s).gains a.won = gives ∙ ap (λ (z : Work). flat_map z.gains a.won) same in
      record {
        join = j.join;
        probed = j.probed;
        work_is = j.work_is;
        table = table_passes x m w came more n s old new a j.table grown asked (SameBag-from_equal gave);
      })),
)

pub stages_pass : {H : Type 0} (x : Settings H) (m : Meaning) (w : World) (came : Place → List Row) (more : ℕ → List Row) (given : ℕ) (ops : List ℕ) (ks : List Work) (ss : List (Slot H)) (old new acting : List Acts) → StagesFit x m w given ops ks ss old → AllGrown old new acting
    → AllMarked came given ops ks acting → AllGive more ops ks acting → StagesFit x m (with_more w came more) given ops ks ss new
stages_pass x m w came more given [] [] [] [] [] acting is grown marked gives = tt
stages_pass x m w came more given [] [] [] [] (b ∷ new) acting is grown marked gives = absurd grown
stages_pass x m w came more given [] [] [] (a ∷ old) new acting is grown marked gives = absurd is
stages_pass x m w came more given [] [] (s ∷ ss) old new acting is grown marked gives = absurd is
stages_pass x m w came more given [] (k ∷ ks) ss old new acting is grown marked gives = absurd is
stages_pass x m w came more given (n ∷ ops) [] ss old new acting is grown marked gives = absurd is
stages_pass x m w came more given (n ∷ ops) (k ∷ ks) [] old new acting is grown marked gives = absurd is
stages_pass x m w came more given (n ∷ ops) (k ∷ ks) (s ∷ ss) [] new acting is grown marked gives = absurd is
stages_pass x m w came more given (n ∷ ops) (k ∷ ks) (s ∷ ss) (a ∷ old) [] acting is grown marked gives = absurd grown
stages_pass x m w came more given (n ∷ ops) (k ∷ ks) (s ∷ ss) (a ∷ old) (b ∷ new) [] is grown marked gives = absurd grown
stages_pass x m w came more given (n ∷ ops) (k ∷ ks) (s ∷ ss) (a ∷ old) (b ∷ new) (c ∷ acting) is grown marked gives =
    (stage_passes x m w came more given n k s a b c is.0 grown.0 marked.0 gives.0, stages_pass x m w came more n ops ks ss old new acting is.1 grown.1 marked.1 gives.1)

same_stage : {H : Type 0} (x : Settings H) (m : Meaning) (w : World) (given n : ℕ) (k : Work) (s : Slot H) (a b : Acts) → SameActs a b → StageFits x m w given n k s a → StageFits x m w given n k s b
same_stage x m w given n k s a b same is = (
  is.0,
  (λ join. (let j = is.1 join in record { join = j.join; probed = j.probed; work_is = j.work_is; table = same_table x m w n s a b same j.table })),
)

pub same_stages : {H : Type 0} (x : Settings H) (m : Meaning) (w : World) (given : ℕ) (ops : List ℕ) (ks : List Work) (ss : List (Slot H)) (old new : List Acts) → AllSameActs old new → StagesFit x m w given ops ks ss old → StagesFit x m w given ops ks ss new
same_stages x m w given [] [] [] [] [] same is = tt
same_stages x m w given [] [] [] [] (b ∷ new) same is = absurd same
same_stages x m w given [] [] [] (a ∷ old) new same is = absurd is
same_stages x m w given [] [] (s ∷ ss) old new same is = absurd is
same_stages x m w given [] (k ∷ ks) ss old new same is = absurd is
same_stages x m w given (n ∷ ops) [] ss old new same is = absurd is
same_stages x m w given (n ∷ ops) (k ∷ ks) [] old new same is = absurd is
same_stages x m w given (n ∷ ops) (k ∷ ks) (s ∷ ss) [] new same is = absurd is
same_stages x m w given (n ∷ ops) (k ∷ ks) (s ∷ ss) (a ∷ old) [] same is = absurd same
same_stages x m w given (n ∷ ops) (k ∷ ks) (s ∷ ss) (a ∷ old) (b ∷ new) same is =
    (same_stage x m w given n k s a b same.0 is.0, same_stages x m w n ops ks ss old new same.1 is.1)

-- ---- what they do

share_of_spec : (spec : JoinSpec) (built rows : List Row) (row : Row) → SameBag built rows → SameBag (share_of spec built row) (probe_share (settings_of spec) spec.swapped rows row)
share_of_spec spec built rows row h = share_alike spec.how spec.swapped (settings_of spec) built rows h row

-- the probe of a semi or anti join that keeps its built side gives nothing for a row
no_share : (kind : JoinType) (right_built : Bool) (j : Join) (built : List Row) (row : Row) → gives_built kind right_built ≡ true → share_by kind j right_built built row ≡ []
no_share how.Inner right_built j built row h = cc
no_share how.Left right_built j built row h = cc
no_share how.Full right_built j built row h = cc
no_share how.Cross right_built j built row h = cc
no_share how.Semi true j built row h = cc
no_share how.Semi false j built row h = refl
no_share how.Anti true j built row h = cc
no_share how.Anti false j built row h = refl

table_makes : {H : Type 0} (kind : ProbeKind) (spec : JoinSpec) (s : Slot H) (rows : List Row) (row : Row) → suits_join kind spec s → SameBag (rows_in s) rows → SameBag ((work_join kind spec s).each row) (probe_share (settings_of spec) spec.swapped rows row)
table_makes Joins spec slot.Empty rows row suits same = absurd suits
table_makes Joins spec (slot.Keys t) rows row suits same = share_of_spec spec t.rows rows row same
table_makes Joins spec (slot.Rows f) rows row suits same = absurd suits
table_makes Joins spec (slot.Full t) rows row suits same = absurd suits
table_makes Joins spec slot.Spent rows row suits same = absurd suits
table_makes Crosses spec slot.Empty rows row suits same = absurd suits
table_makes Crosses spec (slot.Keys t) rows row suits same = absurd suits
table_makes Crosses spec (slot.Rows f) rows row suits same = share_of_spec spec f.rows rows row same
table_makes Crosses spec (slot.Full t) rows row suits same = absurd suits
table_makes Crosses spec slot.Spent rows row suits same = absurd suits
table_makes Fulls spec slot.Empty rows row suits same = absurd suits
table_makes Fulls spec (slot.Keys t) rows row suits same = absurd suits
table_makes Fulls spec (slot.Rows f) rows row suits same = absurd suits
table_makes Fulls spec (slot.Full t) rows row suits same =
    let P : JoinSpec → Type 0 = λ z. SameBag (share_of t.table.spec t.table.rows row) (probe_share (settings_of z) z.swapped rows row) in
    subst P suits.0 (share_of_spec t.table.spec t.table.rows rows row same)
table_makes Fulls spec slot.Spent rows row suits same = absurd suits
table_makes Marks spec slot.Empty rows row suits same = absurd suits
table_makes Marks spec (slot.Keys t) rows row suits same = absurd suits
table_makes Marks spec (slot.Rows f) rows row suits same = absurd suits
table_makes Marks spec (slot.Full t) rows row suits same = SameBag-from_equal (sym (no_share spec.how spec.swapped (settings_of spec) rows row suits.1))
table_makes Marks spec slot.Spent rows row suits same = absurd suits

makes_of : {H : Type 0} (x : Settings H) (m : Meaning) (w : World) (given n : ℕ) (k : Work) (s : Slot H) (a : Acts) → StageFits x m w given n k s a → MakesOf m n k
makes_of x m w given n k s a is = by_test (MakesOf m n k) (m.is_join n)
    (λ join. (let j = is.1 join in
    let spec = x.spec_at n in
    let P : Work → Type 0 = MakesOf m n in
    subst P (sym j.work_is) (record {
      each = λ row. SameBag-trans (table_makes (kind_of spec.how spec.swapped) spec s (m.below n) row j.table.suits j.table.rows)
          (SameBag-from_equal (ap (λ (e : Row → List Row). e row) (sym j.table.join.each)));
      gains = λ not key. absurd (not-both (m.is_join n) join not);
    })))
    (λ row. (let r = is.0 row in record {
      each = λ one_row. SameBag-from_equal (ap (λ (e : Row → List Row). e one_row) r.0.each);
      gains = λ not key. ap (λ (g : ℕ → List Row). g key) r.0.gains;
    }))

pub works_make : {H : Type 0} (x : Settings H) (m : Meaning) (w : World) (given : ℕ) (ops : List ℕ) (ks : List Work) (ss : List (Slot H)) (acts : List Acts) → StagesFit x m w given ops ks ss acts → AllMakeOf m ops ks
works_make x m w given [] [] [] [] is = tt
works_make x m w given [] [] [] (a ∷ acts) is = absurd is
works_make x m w given [] [] (s ∷ ss) acts is = absurd is
works_make x m w given [] (k ∷ ks) ss acts is = absurd is
works_make x m w given (n ∷ ops) [] ss acts is = absurd is
works_make x m w given (n ∷ ops) (k ∷ ks) [] acts is = absurd is
works_make x m w given (n ∷ ops) (k ∷ ks) (s ∷ ss) [] is = absurd is
works_make x m w given (n ∷ ops) (k ∷ ks) (s ∷ ss) (a ∷ acts) is = (makes_of x m w given n k s a is.0, works_make x m w n ops ks ss acts is.1)
