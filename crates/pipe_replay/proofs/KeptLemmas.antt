-- Lists of sorts that are kept stay those of their sorts, since rows come to bags at their ends alone.
use Rattle.std.proofs.Common.{◌≡◌, ℕ, zero, suc, ◌<◌, Bool, true, false, cond, eqb, List, [], ◌++◌, length, take, replicate, refl, ap, sym, ◌∙◌, subst, append-nil, arith, Option, Some, None}
use Rattle.std.specs.Prelude.{set}
use Rattle.std.proofs.lemmas.Bool.Decides.{Decides-eqb}
use Rattle.std.proofs.lemmas.List.{length-append, length-set, length-replicate, get_or-set_same, get_or-set_other, take_all, take-append-le}
use Rattle.pipe_schema.specs.Rows.{Row, eq_row}
use Rattle.pipe_events.specs.Stages.{Key, Stage, Stages, Scan, Each, Union, Sort, Joined, marks}
use Rattle.pipe_events.specs.Worlds.{World, Event, Take, Mark, Emit, Done, Close, Flush, after, at_join, seen, mark_keys, mark_seen, mark_below, emitted, closed_above, side_below, carried, mine, is_sink, source_rows}
use Rattle.pipe_world.proofs.BlankLists.{at-blank}
use Rattle.pipe_world.specs.Staged.{Staging, staged}
use Rattle.pipe_replay.specs.Replayed.{parted}
use Rattle.pipe_replay.specs.KeptLists.{IsListOf, IsKept, AreKept, BagsGrow, list_at, is_made_of, listed, source_by}
use Rattle.pipe_replay.specs.declared.lists.SortedList.{SortedList}

-- ---- bags grow

stay : (bag : ℕ → List Row) → BagsGrow bag bag
stay bag = record { each = λ t. ([], sym (append-nil (bag t))) }

stay-by : (before later : ℕ → List Row) → later ≡ before → BagsGrow before later
stay-by before later e = subst (BagsGrow before) (sym e) (stay before)

module _ (plan : Stages) where
  seen-bags : (worker k : ℕ) (w : World) (x : Stage) → (mark_seen plan worker k w x).bag ≡ w.bag
  seen-bags worker k w (Scan rows) = refl
  seen-bags worker k w (Each input op) = refl
  seen-bags worker k w (Union inputs) = refl
  seen-bags worker k w (Sort input sorted) = refl
  seen-bags worker k w (Joined j) = elim (marks j) as (λ b. (cond b (mark_keys plan worker k j (seen plan worker w j) w) w).bag ≡ w.bag) [ true ↦ refl | false ↦ refl ]

  below-bags : (worker k : ℕ) (w : World) → (mark_below plan worker k w).bag ≡ w.bag
  below-bags worker zero w = refl
  below-bags worker (suc k) w = seen-bags worker k (mark_below plan worker k w) (plan.stage k) ∙ below-bags worker k w

  mark-bags : (worker k : ℕ) (keys : Key → Bool) (w : World) (x : Stage) → (at_join w (λ j. mark_keys plan worker k j keys w) x).bag ≡ w.bag
  mark-bags worker k keys w (Scan rows) = refl
  mark-bags worker k keys w (Each input op) = refl
  mark-bags worker k keys w (Union inputs) = refl
  mark-bags worker k keys w (Sort input sorted) = refl
  mark-bags worker k keys w (Joined j) = refl

  close-bags : (below : Option ℕ) (w : World) → (closed_above below w).bag ≡ w.bag
  close-bags None w = refl
  close-bags (Some t) w = refl

  emit-grows : (worker : ℕ) (w : World) → BagsGrow w.bag (emitted plan worker w).bag
  emit-grows worker w = record {
    each = λ t.
        let come = carried plan w.bag (mine worker w.pending) t in
        elim (is_sink plan t) as (λ b. (more : List Row) × (cond b (w.bag t ++ come) (w.bag t) ≡ w.bag t ++ more)) [ true ↦ (come, refl) | false ↦ ([], sym (append-nil (w.bag t))) ];
  }

  after-grows : (w : World) (e : Event) → BagsGrow w.bag (after plan w e).bag
  after-grows w (Take worker source from amount) = stay w.bag
  after-grows w (Mark worker k key) = stay-by w.bag (after plan w (Mark worker k key)).bag (mark-bags worker k (λ other. eq_row other key) w (plan.stage k))
  after-grows w (Emit worker) = emit-grows worker w
  after-grows w (Done worker) =
      let marked = mark_below plan worker plan.size w in
      subst (λ bag. BagsGrow bag (emitted plan worker marked).bag) (below-bags worker plan.size w) (emit-grows worker marked)
  after-grows w (Close n side) = stay-by w.bag (after plan w (Close n side)).bag (close-bags (side_below (plan.stage n) side) w)
  after-grows w (Flush worker k part) = stay w.bag

-- ---- lists stay

module _ (before later : ℕ → List Row) (grows : BagsGrow before later) where
  list-stays : (x : Stage) (list : SortedList) → IsListOf before x list → IsListOf later x list
  list-stays (Scan rows) list h = tt
  list-stays (Each input op) list h = tt
  list-stays (Union inputs) list h = tt
  list-stays (Sort input sorted) list h =
      let more = (grows.each input).0 in
      let e : later input ≡ before input ++ more = (grows.each input).1 in
      let long = length-append (before input) more in
      let size = ap length e in
      let front : take list.count (later input) ≡ take list.count (before input) = ap (take list.count) e ∙ take-append-le list.count (before input) more h.0 in
      (omega (arith, h.0, long, size), h.1 ∙ ap sorted (sym front))
  list-stays (Joined j) list h = tt

  kept-stays : (x : Stage) (list : Option SortedList) → IsKept before x list → IsKept later x list
  kept-stays x None h = tt
  kept-stays x (Some list) h = list-stays x list h

  all-stay : (plan : Stages) (lists : List (Option SortedList)) → AreKept plan before lists → AreKept plan later lists
  all-stay plan lists h = record { size = h.size; each = λ n. kept-stays (plan.stage n) (list_at lists n) (h.each n) }

-- an event, if it is allowed
kept-after : (plan : Stages) (w : World) (e : Event) (lists : List (Option SortedList)) → AreKept plan w.bag lists → AreKept plan (after plan w e).bag lists
kept-after plan w e lists h = all-stay w.bag (after plan w e).bag (after-grows plan w e) plan lists h

pub kept-next : (hash_of : List ℕ → ℕ) (made : Staging) (w next : World) (e : Event) (lists : List (Option SortedList)) → AreKept (staged made) w.bag lists → next ≡ after (parted hash_of made) w e → AreKept (staged made) next.bag lists
kept-next hash_of made w next e lists h is =
    let p = parted hash_of made in
    let here : AreKept p w.bag lists = record { size = h.size; each = h.each } in
    let there : AreKept p (after p w e).bag lists = kept-after p w e lists here in
    let end : AreKept (staged made) (after p w e).bag lists = record { size = there.size; each = there.each } in
    subst (λ v. AreKept (staged made) v.bag lists) (sym is) end

-- ---- no list, and one more

pub none-kept : (plan : Stages) (bag : ℕ → List Row) (lists : List (Option SortedList)) (n : ℕ) → lists ≡ replicate n None → plan.size ≡ n → AreKept plan bag lists
none-kept plan bag lists n e size = record {
  size = ap length e ∙ length-replicate n None ∙ sym size;
  each = λ k.
      let none : list_at lists k ≡ None = ap (λ l. list_at l k) e ∙ ap (λ f. f k) (at-blank None n) in
      subst (IsKept bag (plan.stage k)) (sym none) tt;
}

-- a list that was made of all rows is the sort's
made-of : (list : Option SortedList) (x : Stage) (bag : ℕ → List Row) (input : ℕ) (sorted : List Row → List Row) → x ≡ Sort input sorted → IsKept bag x list → is_made_of list (length (bag input)) ≡ true → listed list ≡ sorted (bag input)
made-of None x bag input sorted is h made = cc
made-of (Some list) x bag input sorted is h made =
    let count : list.count ≡ length (bag input) = (Decides-eqb list.count (length (bag input))).0 made in
    let here : IsListOf bag (Sort input sorted) list = subst (λ s. IsListOf bag s list) is h in
    here.1 ∙ ap sorted (take_all list.count (bag input) (omega (arith, count)))

pub still-listed : (plan : Stages) (bag : ℕ → List Row) (lists : List (Option SortedList)) (n input : ℕ) (sorted : List Row → List Row) → AreKept plan bag lists → plan.stage n ≡ Sort input sorted → is_made_of (list_at lists n) (length (bag input)) ≡ true → source_by (plan.stage n) (listed (list_at lists n)) ≡ source_rows bag (plan.stage n)
still-listed plan bag lists n input sorted h is made =
    let rows = made-of (list_at lists n) (plan.stage n) bag input sorted is (h.each n) made in
    ap (λ s. source_by s (listed (list_at lists n))) is ∙ rows ∙ sym (ap (source_rows bag) is)

module _ (plan : Stages) (bag : ℕ → List Row) (lists new : List (Option SortedList)) (n input : ℕ) (sorted : List Row → List Row) (list : SortedList) (h : AreKept plan bag lists) (lt : n < length lists) (put : new ≡ set lists n (Some list)) (is : plan.stage n ≡ Sort input sorted) (count : list.count ≡ length (bag input)) (rows : list.rows ≡ sorted (bag input)) where
  there : list_at new n ≡ Some list
  there = ap (λ l. list_at l n) put ∙ get_or-set_same lists n (Some list) None lt

  pub put-kept : AreKept plan bag new
  put-kept = record {
    size = ap length put ∙ length-set lists n (Some list) ∙ h.size;
    each = λ k.
        let split : (b : Bool) → eqb k n ≡ b → IsKept bag (plan.stage k) (list_at new k) =
        elim [
          | true ↦ λ e.
              let same : k ≡ n = (Decides-eqb k n).0 e in
              let all : take list.count (bag input) ≡ bag input = take_all list.count (bag input) (omega (arith, count)) in
              let here : IsKept bag (Sort input sorted) (Some list) = (omega (arith, count), rows ∙ ap sorted (sym all)) in
              subst (λ i. IsKept bag (plan.stage i) (list_at new i)) (sym same) (subst (λ l. IsKept bag (plan.stage n) l) (sym there) (subst (λ s. IsKept bag s (Some list)) (sym is) here))
          | false ↦ λ e.
              let apart : k ≡ n → ⊥ = λ same. (let yes = (Decides-eqb k n).1 same in cc) in
              let other : list_at new k ≡ list_at lists k = ap (λ l. list_at l k) put ∙ get_or-set_other lists n k (Some list) None apart in
              subst (λ l. IsKept bag (plan.stage k) l) (sym other) (h.each k)
        ]
        in split (eqb k n) refl;
  }

  pub put-listed : source_by (plan.stage n) (listed (list_at new n)) ≡ source_rows bag (plan.stage n)
  put-listed = ap (λ s. source_by s (listed (list_at new n))) is ∙ ap listed there ∙ rows ∙ sym (ap (source_rows bag) is)

pub ruleset kept_rules = (still-listed, put-kept, put-listed)

pub ruleset none_rules = (none-kept)
