-- No row both comes and goes.
use Rattle.std.proofs.Common.{◌≡◌, ℕ, ◌+◌, Bool, true, false, cond, List, [], ◌∷◌, ◌++◌, map, length, take, drop, refl, ap, sym, ◌∙◌, subst, arith, append-nil, inl, inr}
use Rattle.std.specs.Prelude.{filter, not, ◌&&◌, ◌⊎◌}
use Rattle.std.specs.List.{AllByRecursion}
use Rattle.std.proofs.lemmas.List.{take_at, drop_at, length-map}
use Rattle.pipe_schema.specs.Rows.{Row, eq_row, times}
use Rattle.pipe_schema.proofs.Weights.{eq_row-sound, eq_row-refl}
use Rattle.pipe_expr.specs.Joins.{Join, pair, pad_left, pad_right, left_padding, kept_cells, is_kept, null_of}
use Rattle.pipe_expr.specs.Shares.{probe_pair, pad_built, pad_probed, row_where}
use Rattle.pipe_plan.specs.Faults.{is_empty}
use Rattle.pipe_view.specs.Kept.{StandApart}
use Rattle.pipe_view.specs.Held.{HaveWidth}
use Rattle.pipe_view.specs.Sides.{keeps_probed}
use Rattle.pipe_view.specs.Changes.{is_hidden, comes, goes, pairs_that_come, paddings_that_go, own_padding, met_by_row, rows_that_come, rows_that_go}

-- a probed row and built rows have the widths of their schemas
abbrev pub FitWidths : Join → (right_built : Bool) → Row → List Row → Type 0
FitWidths j true p built = length p ≡ length j.left
FitWidths j false p built = HaveWidth (length j.left) built

wide-filter : (width : ℕ) (q : Row → Bool) (rows : List Row) → HaveWidth width rows → HaveWidth width (filter q rows)
wide-filter width q [] h = tt
wide-filter width q (row ∷ rows) h = elim (q row) as (λ t. HaveWidth width (cond t (row ∷ filter q rows) (filter q rows))) [ true ↦ (h.0, wide-filter width q rows h.1) | false ↦ wide-filter width q rows h.1 ]

pub widths-of_met : (j : Join) (right_built : Bool) (p : Row) (built : List Row) → FitWidths j right_built p built → FitWidths j right_built p (met_by_row j right_built p built)
widths-of_met j true p built h = h
widths-of_met j false p built h = wide-filter (length j.left) _ built h

-- the widths of one probed and two built rows
abbrev pub AreWide : Join → (right_built : Bool) → (p a b : Row) → Type 0
AreWide j true p a b = length p ≡ length j.left
AreWide j false p a b = length a ≡ length b

-- where one pair is the padding of another built row, that row's pair is too
pub swap-pair : (j : Join) (right_built : Bool) (p a b : Row) → AreWide j right_built p a b → probe_pair j right_built p a ≡ pad_built j right_built b → probe_pair j right_built p b ≡ pad_built j right_built b
swap-pair j true p a b h e =
    let padding = map (left_padding j b) j.left in
    let n = length j.left in
    let same : p ≡ padding = sym (take_at p (kept_cells (is_kept j) j.right a) n h) ∙ ap (take n) e ∙ take_at padding (kept_cells (is_kept j) j.right b) n (length-map j.left (left_padding j b)) in
    ap (λ l. l ++ kept_cells (is_kept j) j.right b) same
swap-pair j false p a b h e =
    let nulls = map null_of (filter (is_kept j) j.right) in
    let n = length b in
    let same : kept_cells (is_kept j) j.right p ≡ nulls = sym (drop_at a (kept_cells (is_kept j) j.right p) n h) ∙ ap (drop n) e ∙ drop_at b nulls n refl in
    ap (λ l. b ++ l) same

absent-or : (z : Row) (f : Row → Row) (rows : List Row) → AllByRecursion (λ a. z ≡ f a → ⊥) rows → times eq_row z (map f rows) ≡ 0
absent-or z f [] h = refl
absent-or z f (a ∷ rows) h =
    let split : (t : Bool) → eq_row z (f a) ≡ t → cond t 1 0 + times eq_row z (map f rows) ≡ 0 =
    elim [ true ↦ λ e. absurd (h.0 (eq_row-sound z (f a) e)) | false ↦ λ e. omega (arith, absent-or z f rows h.1) ]
    in split (eq_row z (f a)) refl

wide-pair : (j : Join) (right_built : Bool) (p b a : Row) (met : List Row) → FitWidths j right_built p (a ∷ met) → FitWidths j right_built p (b ∷ []) → AreWide j right_built p a b
wide-pair j true p b a met h k = h
wide-pair j false p b a met h k = h.0 ∙ sym k.0

tail-widths : (j : Join) (right_built : Bool) (p a : Row) (met : List Row) → FitWidths j right_built p (a ∷ met) → FitWidths j right_built p met
tail-widths j true p a met h = h
tail-widths j false p a met h = h.1

head-widths : (j : Join) (right_built : Bool) (p a : Row) (met : List Row) → FitWidths j right_built p (a ∷ met) → FitWidths j right_built p (a ∷ [])
head-widths j true p a met h = h
head-widths j false p a met h = (h.0, tt)

filter-absent : (P : Row → Type 0) (q : Row → Bool) (rows : List Row) → AllByRecursion P rows → AllByRecursion P (filter q rows)
filter-absent P q [] h = tt
filter-absent P q (row ∷ rows) h = elim (q row) as (λ t. AllByRecursion P (cond t (row ∷ filter q rows) (filter q rows))) [ true ↦ (h.0, filter-absent P q rows h.1) | false ↦ filter-absent P q rows h.1 ]

times-append : (z : Row) (a b : List Row) → times eq_row z (a ++ b) ≡ times eq_row z a + times eq_row z b
times-append z [] b = omega arith
times-append z (x ∷ a) b = omega (arith, times-append z a b)

-- a built row whose padding goes and is a row
pub record Goes (j : Join) (right_built : Bool) (p z : Row) (met : List Row) : Type 0 where
  pub built : Row
  pub wide : FitWidths j right_built p (built ∷ [])
  pub padding : z ≡ pad_built j right_built built
  pub shown : is_hidden j right_built p built ≡ false
  pub some : is_empty met ≡ false

module _ (j : Join) (right_built : Bool) (p : Row) where
  never : (k : Bool) → row_where (k && false) (pad_probed j right_built p) ≡ []
  never true = refl
  never false = refl

  nothing : (z : Row) (met : List Row) → times eq_row z (paddings_that_go j right_built false p met) ≡ 0
  nothing z [] = refl
  nothing z (b ∷ met) = nothing z met

  -- where one padding goes, no pair that comes is that row
  no-pair : (z b : Row) (met : List Row) → FitWidths j right_built p met → FitWidths j right_built p (b ∷ []) → z ≡ pad_built j right_built b → is_hidden j right_built p b ≡ false → AllByRecursion (λ a. z ≡ probe_pair j right_built p a → ⊥) met
  no-pair z b [] h k e hidden = tt
  no-pair z b (a ∷ met) h k e hidden =
      let never : z ≡ probe_pair j right_built p a → ⊥ = λ same. (
      let pair_is = swap-pair j right_built p a b (wide-pair j right_built p b a met h k) (sym same ∙ e) in
      let shown : is_hidden j right_built p b ≡ true = ap (λ r. eq_row r (pad_built j right_built b)) pair_is ∙ eq_row-refl (pad_built j right_built b) in
      let clash : true ≡ false = sym shown ∙ hidden in cc) in
      (never, no-pair z b met (tail-widths j right_built p a met h) k e hidden)

  -- a row doesn't go, or one that goes is it
  goes-or : (z : Row) (met : List Row) → FitWidths j right_built p met → (times eq_row z (paddings_that_go j right_built true p met) ≡ 0) ⊎ Goes j right_built p z met
  goes-or z [] h = inl refl
  goes-or z (b ∷ met) h =
      let Answer : List Row → Type 0 = λ go. (times eq_row z (map (pad_built j right_built) go) ≡ 0) ⊎ Goes j right_built p z (b ∷ met) in
      let later : Answer (filter (goes j right_built true p) met) = elim (goes-or z met (tail-widths j right_built p b met h)) [ inl none ↦ inl none | inr some ↦ inr (record { built = some.built; wide = some.wide; padding = some.padding; shown = some.shown; some = refl }) ] in
      let here : (t : Bool) → eq_row z (pad_built j right_built b) ≡ t → is_hidden j right_built p b ≡ false → Answer (b ∷ filter (goes j right_built true p) met) =
      elim [
        | true ↦ λ e f. inr (record { built = b; wide = head-widths j right_built p b met h; padding = eq_row-sound z (pad_built j right_built b) e; shown = f; some = refl })
        | false ↦ λ e f. elim later [ inl none ↦ inl (let zero : cond (eq_row z (pad_built j right_built b)) 1 0 ≡ (let n : ℕ = 0 in n) = ap (λ t. cond t 1 0) e in omega (arith, zero, none)) | inr some ↦ inr some ]
      ] in
      let split : (t : Bool) → is_hidden j right_built p b ≡ t → Answer (cond (not t) (b ∷ filter (goes j right_built true p) met) (filter (goes j right_built true p) met)) =
      elim [ true ↦ λ e. later | false ↦ λ e. here (eq_row z (pad_built j right_built b)) refl e ]
      in split (is_hidden j right_built p b) refl

  no-own : (met : List Row) → is_empty met ≡ false → own_padding j right_built p met ≡ []
  no-own met h = ap (λ t. row_where (keeps_probed j.how right_built && t) (pad_probed j right_built p)) h ∙ never (keeps_probed j.how right_built)

  pub stand-apart : (uncovers : Bool) (built : List Row) → FitWidths j right_built p built → StandApart (rows_that_come j right_built uncovers p built) (rows_that_go j right_built uncovers p built)
  stand-apart false built h = λ z. inr (nothing z (met_by_row j right_built p built))
  stand-apart true built h = λ z.
      let met = met_by_row j right_built p built in
      let wide = widths-of_met j right_built p built h in
      elim (goes-or z met wide) [
        | inl none ↦ inr none
        | inr some ↦ inl (
            let absent = filter-absent _ (comes j right_built true p) met (no-pair z some.built met wide some.wide some.padding some.shown) in
            let pairs = absent-or z (probe_pair j right_built p) (filter (comes j right_built true p) met) absent in
            let own = ap (times eq_row z) (no-own met some.some) in
            omega (arith, pairs, own, times-append z (pairs_that_come j right_built true p met) (own_padding j right_built p met)))
      ]
