-- Why a view isn't made, and that there is no fault where it is.
use Rattle.std.proofs.Common.{◌≡◌, ℕ, ◌+◌, ◌≤◌, ◌<◌, Bool, true, false, List, [], ◌∷◌, ◌++◌, length, refl, ap, ap₂, sym, ◌∙◌, subst, arith, get_or, Result, Ok, Err, IfOk, IfErr, inl, inr}
use Rattle.std.specs.Prelude.{OnOk, not, nat_lt, Option, Some, None}
use Rattle.std.proofs.lemmas.Bool.Decides.{Decides-ltb}
use Rattle.pipe_frame.specs.Frame.{Table}
use Rattle.pipe_schema.specs.Rows.{Row, Same}
use Rattle.pipe_schema.specs.declared.field.Field.{Field}
use Rattle.pipe_schema.specs.Weights.{total}
use Rattle.pipe_schema.proofs.Weights.{total-append, Same-from_bag, SameBag-from_rows}
use Rattle.pipe_expr.specs.declared.expr.Expr.{Expr}
use Rattle.pipe_plan.specs.Faults.{or_else, told}
use Rattle.pipe_plan.specs.declared.error.PipeError.{PipeError}
use Rattle.pipe_plan.specs.declared.error.PipeError.TheVariants as error
use Rattle.pipe_plan.specs.declared.ir.JoinOptions.{JoinOptions}
use Rattle.pipe_check.specs.Checked.{MemoryOr, check_fault}
use Rattle.pipe_view.specs.Kept.{Kept, kept_join, view_over, view_plan, view_rows, with_all_rows, IsSameView, IsWithin}
use Rattle.pipe_view.specs.Refusals.{first_over, view_fault, IsJoinTooLong}
use Rattle.pipe_view.specs.Sides.{is_view_kind}
use Rattle.pipe_view.specs.declared.side.ViewSide.TheVariants as side
use Rattle.pipe_view.proofs.Weighing.{length-total}
use Rattle.pipe_view.proofs.Growing.{rows-alike, right-grows}

no-by : (b : Bool) → (b ≡ true → ⊥) → b ≡ false
no-by true h = absurd (h refl)
no-by false h = refl

lt-yes : (a b : ℕ) → a < b → nat_lt a b ≡ true
lt-yes a b lt = (Decides-ltb a b).1 lt

lt-no : (a b : ℕ) → b ≤ a → nat_lt a b ≡ false
lt-no a b le = no-by (nat_lt a b) (λ e. (let lt = (Decides-ltb a b).0 e in omega arith))

-- ---- views that are the same

same-rows : (a b c : List Row) → Same a b → Same b c → Same a c
same-rows a b c h k = record { each = λ r. h.each r ∙ k.each r }

pub same-through : (a b c : Kept) → IsSameView a b → IsSameView b c → IsSameView a c
same-through a b c h k = record {
  left_schema = h.left_schema ∙ k.left_schema;
  right_schema = h.right_schema ∙ k.right_schema;
  left_on = h.left_on ∙ k.left_on;
  right_on = h.right_on ∙ k.right_on;
  options = h.options ∙ k.options;
  limit = h.limit ∙ k.limit;
  left = same-rows a.left.rows b.left.rows c.left.rows h.left k.left;
  right = same-rows a.right.rows b.right.rows c.right.rows h.right k.right;
}

-- rows that are no rows, before others
none-before : (a b : List Row) → Same a [] → Same (a ++ b) b
none-before a b h = Same-from_bag (record { sums = λ w. (let none = (SameBag-from_rows h).sums w in let both = total-append w a b in omega (arith, none, both)) })

none-long : (a : List Row) → Same a [] → length a ≡ 0
none-long a h = (let none = (SameBag-from_rows h).sums (λ r. 1) in let long = length-total a in omega (arith, none, long))

-- a table without its rows
abbrev pub emptied : Table → Table
emptied table = record { schema = table.schema; rows = [] }

module _ (left right : Table) (left_on right_on : List Expr) (options : JoinOptions) (limit : ℕ) where
  abbrev pub v : Kept
  v = view_over left right left_on right_on options limit

  -- the view without a row
  abbrev pub none : Kept
  none = view_over (emptied left) (emptied right) left_on right_on options limit

  abbrev pub half : Kept
  half = view_over left (emptied right) left_on right_on options limit

  -- the left table is filled
  pub room-right : (now : Kept) → IsSameView now half → length right.rows ≤ limit → length now.right.rows + length right.rows ≤ now.limit
  room-right now same few = (let none_there = none-long now.right.rows same.right in omega (arith, none_there, few, same.limit))

  pub filled-right : (now : Kept) → IsSameView now half → IsSameView (with_all_rows side.Right right.rows now) v
  filled-right now same = record {
    left_schema = same.left_schema;
    right_schema = same.right_schema;
    left_on = same.left_on;
    right_on = same.right_on;
    options = same.options;
    limit = same.limit;
    left = same.left;
    right = none-before now.right.rows right.rows same.right;
  }

  pub start-is : (start : Kept) (a b : List Field) → start ≡ view_over (record { schema = a; rows = [] }) (record { schema = b; rows = [] }) left_on right_on options limit → a ≡ left.schema → b ≡ right.schema → start ≡ none
  start-is start a b e f g = e ∙ ap₂ (λ (x y : List Field). view_over (record { schema = x; rows = [] }) (record { schema = y; rows = [] }) left_on right_on options limit) f g

  pub half-filled : (start now : Kept) → start ≡ none → IsSameView now (with_all_rows side.Left left.rows start) → IsSameView now half
  half-filled start now e h =
      let same = subst (λ (q : Kept). IsSameView now (with_all_rows side.Left left.rows q)) e h in
      record {
        left_schema = same.left_schema;
        right_schema = same.right_schema;
        left_on = same.left_on;
        right_on = same.right_on;
        options = same.options;
        limit = same.limit;
        left = same.left;
        right = same.right;
      }

  -- too many rows of the join once the left table is filled
  half-over : (start : Kept) → start ≡ none → is_view_kind options.how ≡ true → start.limit < length (view_rows (with_all_rows side.Left left.rows start)) → limit < length (view_rows v)
  half-over start e kind h =
      let over : limit < length (view_rows half) = subst (λ (q : Kept). q.limit < length (view_rows (with_all_rows side.Left left.rows q))) e h in
      let grows : length (view_rows half) ≤ length (view_rows v) = right-grows (kept_join v) kind left.rows [] right.rows in
      omega (arith, over, grows)

  -- too many rows once both are
  whole-over : (now : Kept) → IsSameView now half → is_view_kind options.how ≡ true → now.limit < length (view_rows (with_all_rows side.Right right.rows now)) → limit < length (view_rows v)
  whole-over now same kind h =
      let long = rows-alike (with_all_rows side.Right right.rows now) v (filled-right now same) kind in
      omega (arith, h, long, same.limit)

  pub half-refused : (start : Kept) (e : PipeError) → start ≡ none → is_view_kind options.how ≡ true → IsJoinTooLong (with_all_rows side.Left left.rows start) e → IsJoinTooLong v e
  half-refused start e is kind (inl memory) = inl memory
  half-refused start e is kind (inr h) = inr (h.0, half-over start is kind h.1)

  pub whole-refused : (now : Kept) (e : PipeError) → IsSameView now half → is_view_kind options.how ≡ true → IsJoinTooLong (with_all_rows side.Right right.rows now) e → IsJoinTooLong v e
  whole-refused now e same kind (inl memory) = inl memory
  whole-refused now e same kind (inr h) = inr (h.0, whole-over now same kind h.1)

  pub plan-fault : (e : PipeError) → MemoryOr (check_fault (view_plan v) 2) e → MemoryOr (view_fault v) e
  plan-fault e (inl memory) = inl memory
  plan-fault e (inr fault) = inr (ap (λ (o : Option PipeError). or_else o (or_else (told (not (is_view_kind options.how)) (error.BadJoin 2)) (first_over v))) fault)

  module _ (good : check_fault (view_plan v) 2 ≡ None) where
    after-plan : view_fault v ≡ or_else (told (not (is_view_kind options.how)) (error.BadJoin 2)) (first_over v)
    after-plan = ap (λ (o : Option PipeError). or_else o (or_else (told (not (is_view_kind options.how)) (error.BadJoin 2)) (first_over v))) good

    pub kind-fault : is_view_kind options.how ≡ false → view_fault v ≡ Some (error.BadJoin 2)
    kind-fault other = after-plan ∙ ap (λ (t : Bool). or_else (told (not t) (error.BadJoin 2)) (first_over v)) other

    module _ (kind : is_view_kind options.how ≡ true) where
      after-kind : view_fault v ≡ first_over v
      after-kind = after-plan ∙ ap (λ (t : Bool). or_else (told (not t) (error.BadJoin 2)) (first_over v)) kind

      pub left-fault : limit < length left.rows → view_fault v ≡ Some (error.TooMany 0)
      left-fault h = after-kind ∙ ap (λ (t : Bool). or_else (told t (error.TooMany 0)) (or_else (told (nat_lt limit (length right.rows)) (error.TooMany 1)) (told (nat_lt limit (length (view_rows v))) (error.TooMany 2)))) (lt-yes limit (length left.rows) h)

      module _ (left_few : length left.rows ≤ limit) where
        after-left : view_fault v ≡ or_else (told (nat_lt limit (length right.rows)) (error.TooMany 1)) (told (nat_lt limit (length (view_rows v))) (error.TooMany 2))
        after-left = after-kind ∙ ap (λ (t : Bool). or_else (told t (error.TooMany 0)) (or_else (told (nat_lt limit (length right.rows)) (error.TooMany 1)) (told (nat_lt limit (length (view_rows v))) (error.TooMany 2)))) (lt-no limit (length left.rows) left_few)

        pub right-fault : limit < length right.rows → view_fault v ≡ Some (error.TooMany 1)
        right-fault h = after-left ∙ ap (λ (t : Bool). or_else (told t (error.TooMany 1)) (told (nat_lt limit (length (view_rows v))) (error.TooMany 2))) (lt-yes limit (length right.rows) h)

        module _ (right_few : length right.rows ≤ limit) where
          after-right : view_fault v ≡ told (nat_lt limit (length (view_rows v))) (error.TooMany 2)
          after-right = after-left ∙ ap (λ (t : Bool). or_else (told t (error.TooMany 1)) (told (nat_lt limit (length (view_rows v))) (error.TooMany 2))) (lt-no limit (length right.rows) right_few)

          pub rows-fault : limit < length (view_rows v) → view_fault v ≡ Some (error.TooMany 2)
          rows-fault h = after-right ∙ ap (λ (t : Bool). told t (error.TooMany 2)) (lt-yes limit (length (view_rows v)) h)

          pub no-view_fault : (now : Kept) → IsSameView now v → IsWithin now → view_fault v ≡ None
          no-view_fault now same within =
              let long = rows-alike now v same kind in
              let few : length (view_rows v) ≤ limit = omega (arith, within.rows, long, same.limit) in
              after-right ∙ ap (λ (t : Bool). told t (error.TooMany 2)) (lt-no limit (length (view_rows v)) few)

-- the frames of an arena
pub first-of : (frames slice : List Table) (a b x : Table) → slice ≡ frames → frames ≡ a ∷ b ∷ [] → x ≡ get_or slice 0 x → x ≡ a
first-of frames slice a b x same two is = is ∙ ap (λ (l : List Table). get_or l 0 x) (same ∙ two)

pub second-of : (frames slice : List Table) (a b x : Table) → slice ≡ frames → frames ≡ a ∷ b ∷ [] → x ≡ get_or slice 1 x → x ≡ b
second-of frames slice a b x same two is = is ∙ ap (λ (l : List Table). get_or l 1 x) (same ∙ two)

-- answers that are passed on
pub no-fault-told : (made : Kept) (r : Result Kept PipeError) → ((now : Kept) → IsSameView now made → IsWithin now → view_fault made ≡ None) → IfOk r (λ now. IsSameView now made) → IfOk r IsWithin → OnOk r (view_fault made ≡ None)
no-fault-told made (Ok now) faultless same within = faultless now same within
no-fault-told made (Err e) faultless same within = tt

pub fault-told : (made : Kept) (r : Result Kept PipeError) → (made.limit < length (view_rows made) → view_fault made ≡ Some (error.TooMany 2)) → IfErr r (IsJoinTooLong made) → IfErr r (MemoryOr (view_fault made))
fault-told made (Ok now) over h = tt
fault-told made (Err e) over (inl memory) = inl memory
fault-told made (Err e) over (inr h) = inr (over h.1 ∙ ap Some (sym h.0))
