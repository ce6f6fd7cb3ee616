-- Both passes together.
use Rattle.std.proofs.Common.{◌≡◌, ℕ, zero, suc, ◌+◌, ◌<◌, ◌≤◌, Bool, true, false, eqb, ◌&&◌, ◌||◌, List, [], ◌∷◌, map, length, get_or, refl, ap, sym, ◌∙◌, subst, arith, ◌⊎◌, inl, inr}
use Rattle.std.specs.Prelude.{nat_le}
use Rattle.std.specs.List.{list_any}
use Rattle.std.proofs.lemmas.Bool.{leb-false, cases_lt}
use Rattle.pipe_frame.specs.Frame.{Table}
use Rattle.pipe_schema.specs.Rows.{Same}
use Rattle.pipe_schema.specs.declared.field.Field.{Field}
use Rattle.pipe_plan.specs.Walk.{walk}
use Rattle.pipe_plan.specs.Node.{Node, node_of}
use Rattle.pipe_plan.specs.declared.ir.IR.{IR}
use Rattle.pipe_events.specs.Fitting.{TablesFit}
use Rattle.pipe_rules.proofs.Readings.{map-long}
use Rattle.pipe_plan.specs.Node as node
use Rattle.pipe_plan.specs.Plan.{Plan}
use Rattle.pipe_plan.specs.Under.{inputs_of, node_at, reaches_at, is_under}
use Rattle.pipe_plan.specs.Schemas.{frame_at, schema_of}
use Rattle.pipe_plan.specs.PlanRows.{rows_of}
use Rattle.pipe_plan.specs.Faults.{has_input, is_reader, is_read_below, is_empty, names_nothing, is_void, IsWellFormed}
use Rattle.pipe_check.specs.Checking.{IsFrameFull, AreFull as AreSchemasFull}
use Rattle.pipe_check.proofs.Full.{node_full}
use Rattle.pipe_check.proofs.Walks.{member, none-member, itself}
use Rattle.pipe_check.proofs.WellFormed.{root_there}
use Rattle.pipe_events.specs.Fits.{FramesFit}
use Rattle.pipe_rules.specs.Low.{is_sort, AreLow}
use Rattle.pipe_rules.specs.Sorts.{sorting_of}
use Rattle.pipe_rules.specs.Literals.{AddsNoLiteral}
use Rattle.pipe_rules.specs.Grown.{over, AreWithin, AreUnder}
use Rattle.pipe_rules.proofs.Bounded.{is-sorted}
use Rattle.pipe_rules.proofs.Granted.{granted, first_false}
use Rattle.pipe_rules.proofs.Growing.{walk-same}
use Rattle.pipe_optimize.specs.Needed.{IsTrimmed}
use Rattle.pipe_optimize.specs.Full.{AreFull}
use Rattle.pipe_optimize.specs.Put.{AreTree, IsTrimOf}
use Rattle.pipe_optimize.proofs.Readers.{range-none}
use Rattle.pipe_optimize.proofs.Literals.{sorting-narrowed, narrowed-pass}
use Rattle.pipe_optimize.proofs.Plans.{inputs-left, root-schema, good-left, all-low, trimmed-left, root-rows, sorted-left, within-left}

-- what pushing filters gives
pub record IsPushed (plan : Plan) (given : ℕ) (old : List Node) (root : ℕ) : Type 0 where
  pub good : IsWellFormed (over plan.frames old) root
  pub schema : schema_of (over plan.frames old) root ≡ schema_of plan given
  pub rows : rows_of (over plan.frames old) root ≡ rows_of plan given
  pub low : AreLow (schema_of (over plan.frames old)) old
  pub bounded : (limit : ℕ) → AreWithin plan given limit → AreWithin (over plan.frames old) root limit
  pub whole : AreUnder old root
  pub last : suc root ≡ length old
  pub sorts : is_sort (node_at plan.nodes given) ≡ true → sorting_of (node_at old root) ≡ sorting_of (node_at plan.nodes given)
  pub literals : AddsNoLiteral plan.nodes old

-- ---- a tree

pub tree-of : (frames : List Table) (old : List Node) (root : ℕ) → IsWellFormed (over frames old) root → AreUnder old root → suc root ≡ length old → AreTree old root
tree-of frames old root good whole last = record {
  ordered = λ m i lt own. ((granted (over frames old) root m good (whole m lt)).fed i own).0;
  apart = λ m j i less lt own. (
      let none = none-member (is_read_below old root m) (inputs_of (node_at old m)) i (granted (over frames old) root m good (whole m lt)).unread own in
      let not_read : (is_under old root j && has_input old i j) ≡ false = range-none (is_reader old root i) 0 m j none (omega arith) (omega arith) in
      sym (ap (λ b. b && has_input old i j) (whole j (omega arith))) ∙ not_read);
  unread = λ m lt. (
      let split : (b : Bool) → has_input old root m ≡ b → b ≡ false = elim [
        | true ↦ λ e. (let less = ((granted (over frames old) root m good (whole m lt)).fed root e).0 in absurd (omega arith))
        | false ↦ λ e. refl
      ] in split (has_input old root m) refl);
}

-- ---- nodes have columns

frame-full : (frames : List Table) (x : Node) → AreFull frames → is_void frames x ≡ false → IsFrameFull frames x
frame-full frames (node.DataFrameScan frame columns) full void = full frame (leb-false (length frames) frame (first_false (nat_le (length frames) frame) (names_nothing columns) void))
frame-full frames (node.Filter input predicate) full void = tt
frame-full frames (node.SimpleProjection input columns) full void = tt
frame-full frames (node.Select input exprs) full void = tt
frame-full frames (node.HStack input exprs) full void = tt
frame-full frames (node.MapFunction input function) full void = tt
frame-full frames (node.Union inputs) full void = tt
frame-full frames (node.Join left right left_on right_on options) full void = tt
frame-full frames (node.Sort input by options) full void = tt

inputs-full : (s : ℕ → List Field) (is : List ℕ) → ((i : ℕ) → member i is ≡ true → is_empty (s i) ≡ false) → AreSchemasFull s is
inputs-full s [] h = tt
inputs-full s (i ∷ is) h = (h i (let e = itself i in rw e refl), inputs-full s is (λ k m. h k (let split : (b : Bool) → (b || member k is) ≡ true = elim [ true ↦ refl | false ↦ m ] in split (eqb i k))))

pub nodes-full : (frames : List Table) (old : List Node) (root : ℕ) → IsWellFormed (over frames old) root → AreFull frames → (b n : ℕ) → n < b → is_under old root n ≡ true → is_empty (schema_of (over frames old) n) ≡ false
nodes-full frames old root good full zero n lt under = absurd (omega arith)
nodes-full frames old root good full (suc b) n lt under =
    let P = over frames old in
    let g = granted P root n good under in
    ap is_empty g.made ∙ node_full frames (schema_of P) (node_at old n) g.whole (frame-full frames (node_at old n) full g.whole)
    (inputs-full (schema_of P) (inputs_of (node_at old n)) (λ i m. (let fed = g.fed i m in let less = fed.0 in nodes-full frames old root good full b i (omega arith) fed.1)))

-- ---- both passes

module _ (plan : Plan) (given : ℕ) (old new : List Node) (root : ℕ) (pushed : IsPushed plan given old root) (fits : FramesFit plan) (full : AreFull plan.frames) (trim : IsTrimOf plan.frames old new root) where
  columns : (n : ℕ) → is_under old root n ≡ true → is_empty (schema_of (over plan.frames old) n) ≡ false
  columns n under = nodes-full plan.frames old root pushed.good full (suc n) n (omega arith) under

  rooted : root < length old
  rooted = root_there (over plan.frames old) root pushed.good.faultless

  long : length new ≡ length old
  long = trim.narrowed.long

  under-same : (m : ℕ) → is_under new root m ≡ is_under old root m
  under-same m =
      ap (λ k. walk false (reaches_at new m) k root) long
      ∙ ap (λ w. w root) (walk-same false (reaches_at new m) (reaches_at old m) (length old) (λ at j lt. ap (λ is. eqb j m || list_any at is) (inputs-left plan.frames old new root trim.needs pushed.good pushed.whole columns trim.are_needs trim.narrowed j lt)))

  pub both-whole : AreUnder new root
  both-whole m lt = under-same m ∙ pushed.whole m (let e = long in omega arith)

  pub both-good : IsWellFormed (over plan.frames new) root
  both-good = good-left plan.frames old new root trim.needs pushed.good pushed.whole columns trim.are_needs trim.narrowed pushed.low pushed.last

  pub both-low : AreLow (schema_of (over plan.frames new)) new
  both-low = all-low plan.frames old new root trim.needs pushed.good pushed.whole columns trim.are_needs trim.narrowed pushed.low

  pub both-schema : schema_of (over plan.frames new) root ≡ schema_of plan given
  both-schema = root-schema plan.frames old new root trim.needs pushed.good pushed.whole columns trim.are_needs trim.narrowed ∙ pushed.schema

  pub both-trimmed : IsTrimmed (over plan.frames new) root
  both-trimmed = trimmed-left plan.frames old new root trim.needs pushed.good pushed.whole columns trim.are_needs trim.narrowed

  pub both-rows : Same (rows_of (over plan.frames new) root) (rows_of plan given)
  both-rows = subst (Same (rows_of (over plan.frames new) root)) pushed.rows (root-rows plan.frames old new root trim.needs pushed.good pushed.whole columns trim.are_needs trim.narrowed both-good fits both-whole)

  pub both-sorted : is_sort (node_at plan.nodes given) ≡ true → rows_of (over plan.frames new) root ≡ rows_of plan given
  both-sorted sort = sorted-left plan.frames old new root trim.needs pushed.good pushed.whole columns trim.are_needs trim.narrowed both-good fits both-whole (is-sorted (node_at old root) (node_at plan.nodes given) (pushed.sorts sort) sort) ∙ pushed.rows

  pub both-sorts : is_sort (node_at plan.nodes given) ≡ true → sorting_of (node_at new root) ≡ sorting_of (node_at plan.nodes given)
  both-sorts sort = sorting-narrowed plan.frames old new trim.needs trim.narrowed root rooted ∙ pushed.sorts sort

  pub both-literals : AddsNoLiteral plan.nodes new
  both-literals test all = narrowed-pass plan.frames old new trim.needs trim.narrowed test (pushed.literals test all)

  pub both-within : (limit : ℕ) → AreWithin plan given limit → AreWithin (over plan.frames new) root limit
  both-within limit within = within-left plan.frames old new root trim.needs pushed.good pushed.whole columns trim.are_needs trim.narrowed both-good fits both-whole limit (pushed.bounded limit within)

-- ---- frames, one after another

at-place : (frames : List Table) (i : ℕ) (x : Table) → i < length frames → frame_at frames i ≡ get_or frames i x
at-place [] i x lt = absurd (omega arith)
at-place (f ∷ frames) zero x lt = refl
at-place (f ∷ frames) (suc i) x lt = at-place frames i x (omega arith)

pub next-full : (frames : List Table) (i : ℕ) (x : Table) → ((k : ℕ) → k < i → is_empty (frame_at frames k).schema ≡ false) → i < length frames → x ≡ get_or frames i x → is_empty x.schema ≡ false → (k : ℕ) → k < i + 1 → is_empty (frame_at frames k).schema ≡ false
next-full frames i x before lt is full k less =
    let split : (k < i) ⊎ (i ≤ k) → is_empty (frame_at frames k).schema ≡ false = elim [
      | inl a ↦ before k a
      | inr b ↦ (let same : i ≡ k = omega arith in subst (λ q. is_empty (frame_at frames q).schema ≡ false) same (ap (λ f. is_empty f.schema) (at-place frames i x lt ∙ sym is) ∙ full))
    ] in split (cases_lt k i)

-- ---- as the code does it

-- what both passes give
pub record IsOptimized (plan : Plan) (given : ℕ) (new : List Node) (root : ℕ) : Type 0 where
  pub good : IsWellFormed (over plan.frames new) root
  pub schema : schema_of (over plan.frames new) root ≡ schema_of plan given
  pub rows : Same (rows_of (over plan.frames new) root) (rows_of plan given)
  pub sorted : is_sort (node_at plan.nodes given) ≡ true → rows_of (over plan.frames new) root ≡ rows_of plan given
  pub sorts : is_sort (node_at plan.nodes given) ≡ true → sorting_of (node_at new root) ≡ sorting_of (node_at plan.nodes given)
  pub literals : AddsNoLiteral plan.nodes new
  pub low : AreLow (schema_of (over plan.frames new)) new
  pub trimmed : IsTrimmed (over plan.frames new) root
  pub bounded : (limit : ℕ) → AreWithin plan given limit → AreWithin (over plan.frames new) root limit
  pub whole : AreUnder new root
  pub long : length new < 2 + root

pub optimized : (plan : Plan) (given : ℕ) (frames : List Table) (pushed_irs slice irs : List IR) (root : ℕ) → IsPushed plan given (map node_of pushed_irs) root → frames ≡ plan.frames → slice ≡ pushed_irs → TablesFit frames → AreFull frames → IsTrimOf frames (map node_of slice) (map node_of irs) root → IsOptimized plan given (map node_of irs) root
optimized plan given frames pushed_irs slice irs root pushed is same fits full trim =
    let olds = map node_of pushed_irs in
    let new = map node_of irs in
    let fit : FramesFit plan = subst TablesFit is fits in
    let all : AreFull plan.frames = subst AreFull is full in
    let own : IsTrimOf plan.frames olds new root = subst (λ f. IsTrimOf f olds new root) is (subst (λ l. IsTrimOf frames (map node_of l) new root) same trim) in
    let long = own.narrowed.long in
    let last = pushed.last in record {
      good = both-good plan given olds new root pushed fit all own;
      schema = both-schema plan given olds new root pushed fit all own;
      rows = both-rows plan given olds new root pushed fit all own;
      sorted = both-sorted plan given olds new root pushed fit all own;
      sorts = both-sorts plan given olds new root pushed fit all own;
      literals = both-literals plan given olds new root pushed fit all own;
      low = both-low plan given olds new root pushed fit all own;
      trimmed = both-trimmed plan given olds new root pushed fit all own;
      bounded = both-within plan given olds new root pushed fit all own;
      whole = both-whole plan given olds new root pushed fit all own;
      long = omega arith;
    }

pub pushed-of : (plan : Plan) (given : ℕ) (irs : List IR) (root : ℕ) → IsWellFormed (over plan.frames (map node_of irs)) root → schema_of (over plan.frames (map node_of irs)) root ≡ schema_of plan given → rows_of (over plan.frames (map node_of irs)) root ≡ rows_of plan given → AreLow (schema_of (over plan.frames (map node_of irs))) (map node_of irs) → ((limit : ℕ) → AreWithin plan given limit → AreWithin (over plan.frames (map node_of irs)) root limit) → AreUnder (map node_of irs) root → root + 1 ≡ length irs → (is_sort (node_at plan.nodes given) ≡ true → sorting_of (node_at (map node_of irs) root) ≡ sorting_of (node_at plan.nodes given)) → AddsNoLiteral plan.nodes (map node_of irs) → IsPushed plan given (map node_of irs) root
pushed-of plan given irs root good schema rows low bounded whole last sorts literals =
    let long = map-long node_of irs in
    record { good = good; schema = schema; rows = rows; low = low; bounded = bounded; whole = whole; last = omega arith; sorts = sorts; literals = literals }
