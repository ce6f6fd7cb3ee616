-- Lists of edits: one edit more.
use Rattle.std.proofs.Common.{◌≡◌, true, List, [], ◌∷◌, ◌++◌, length, inl, inr, refl, ap, sym, ◌∙◌, subst, arith}
use Rattle.std.specs.List.{AllByRecursion}
use Rattle.pipe_schema.specs.Rows.{Row}
use Rattle.pipe_view.specs.Kept.{Kept, fields_on, view_rows, IsOver, IsSameView}
use Rattle.pipe_view.specs.Played.{AreWide, IsEditRefusal, IsPlayRefusal, IsStuck, IsTooMuch, IsWide, after_edit, after_edits, after_kind, outcome_of, outcomes_of}
use Rattle.pipe_view.specs.Sides.{is_view_kind}
use Rattle.pipe_view.specs.declared.error.ViewError.{ViewError}
use Rattle.pipe_view.specs.declared.row_edit.EditKind.{EditKind}
use Rattle.pipe_view.specs.declared.row_edit.EditKind.TheVariants as kind
use Rattle.pipe_view.specs.declared.row_edit.Outcome.{Outcome}
use Rattle.pipe_view.specs.declared.row_edit.RowEdit.{RowEdit}
use Rattle.pipe_view.specs.declared.side.ViewSide.{ViewSide}
use Rattle.pipe_view.specs.declared.side.ViewSide.TheVariants as side
use Rattle.pipe_view.proofs.Listed.{after-alike, as-long, kind-after, outcome-alike, rows-same}
use Rattle.pipe_view.proofs.Made.{same-through}

after-last : (done : List RowEdit) (edit : RowEdit) (v : Kept) → after_edits (done ++ edit ∷ []) v ≡ after_edit edit (after_edits done v)
after-last [] edit v = refl
after-last (e ∷ done) edit v = after-last done edit (after_edit e v)

outcomes-last : (done : List RowEdit) (edit : RowEdit) (v : Kept) → outcomes_of (done ++ edit ∷ []) v ≡ outcomes_of done v ++ outcome_of edit (after_edits done v) ∷ []
outcomes-last [] edit v = refl
outcomes-last (e ∷ done) edit v = ap (λ l. outcome_of e v ∷ l) (outcomes-last done edit (after_edit e v))

-- edits of which one is too much behind others that were made, and edits of which none is
stuck-here : (done rest : List RowEdit) (edit : RowEdit) (v : Kept) → IsTooMuch edit (after_edits done v) → IsStuck (done ++ edit ∷ rest) v
stuck-here [] rest edit v h = inl h
stuck-here (e ∷ done) rest edit v h = inr (stuck-here done rest edit (after_edit e v) h)

free-last : (done : List RowEdit) (edit : RowEdit) (v : Kept) → (IsStuck done v → ⊥) → (IsTooMuch edit (after_edits done v) → ⊥) → IsStuck (done ++ edit ∷ []) v → ⊥
free-last [] edit v f g (inl h) = g h
free-last [] edit v f g (inr h) = h
free-last (e ∷ done) edit v f g (inl h) = f (inl h)
free-last (e ∷ done) edit v f g (inr h) = free-last done edit (after_edit e v) (λ s. f (inr s)) g h

-- what is known of a view behind some edits
pub record IsPlayed (start now : Kept) (done : List RowEdit) (told : List Outcome) : Type 0 where
  pub tables : IsSameView now (after_edits done start)
  pub outcomes : told ≡ outcomes_of done start
  pub free : IsStuck done start → ⊥

same-view : (v : Kept) → IsSameView v v
same-view v = record { left_schema = refl; right_schema = refl; left_on = refl; right_on = refl; options = refl; limit = refl; left = record { each = λ z. refl }; right = record { each = λ z. refl } }

pub none-played : (start now : Kept) (told : List Outcome) → now ≡ start → told ≡ [] → IsPlayed start now [] told
none-played start now told e f = record { tables = subst (λ v. IsSameView v start) (sym e) (same-view start); outcomes = f; free = λ h. h }

-- what edits leave as it was
pub kind-edits : (done : List RowEdit) (v : Kept) → is_view_kind v.options.how ≡ true → is_view_kind (after_edits done v).options.how ≡ true
kind-edits [] v k = k
kind-edits (e ∷ done) v k = kind-edits done (after_edit e v) (kind-after e.kind e.side e.row v k)

fields-kind : (k : EditKind) (which other : ViewSide) (row : Row) (v : Kept) → fields_on other (after_kind k which row v) ≡ fields_on other v
fields-kind kind.Insert side.Left side.Left row v = refl
fields-kind kind.Insert side.Left side.Right row v = refl
fields-kind kind.Insert side.Right side.Left row v = refl
fields-kind kind.Insert side.Right side.Right row v = refl
fields-kind kind.Remove side.Left side.Left row v = refl
fields-kind kind.Remove side.Left side.Right row v = refl
fields-kind kind.Remove side.Right side.Left row v = refl
fields-kind kind.Remove side.Right side.Right row v = refl

fields-edits : (done : List RowEdit) (other : ViewSide) (v : Kept) → fields_on other (after_edits done v) ≡ fields_on other v
fields-edits [] other v = refl
fields-edits (e ∷ done) other v = fields-edits done other (after_edit e v) ∙ fields-kind e.kind e.side other e.row v

fields-alike : (other : ViewSide) (a b : Kept) → IsSameView a b → fields_on other a ≡ fields_on other b
fields-alike side.Left a b h = h.left_schema
fields-alike side.Right a b h = h.right_schema

wide-at : (done rest : List RowEdit) (edit : RowEdit) (v : Kept) → AllByRecursion (IsWide v) (done ++ edit ∷ rest) → IsWide v edit
wide-at [] rest edit v h = h.0
wide-at (e ∷ done) rest edit v h = wide-at done rest edit v h.1

-- the next edit is as wide as its table
pub wide-next : (start now : Kept) (done rest left all : List RowEdit) (edit : RowEdit) (told : List Outcome) → AreWide all start → IsPlayed start now done told → done ++ left ≡ all → left ≡ edit ∷ rest → length edit.row ≡ length (fields_on edit.side now)
wide-next start now done rest left all edit told wide played e f =
    let split : all ≡ done ++ edit ∷ rest = sym e ∙ ap (λ l. done ++ l) f in
    let own = wide-at done rest edit start (subst (λ l. AllByRecursion (IsWide start) l) split wide) in
    own ∙ ap length (sym (fields-alike edit.side now (after_edits done start) played.tables ∙ fields-edits done edit.side start))

-- the edits that were played, and those that are left
appended : {X : Type 0} (a : List X) (x : X) (b : List X) → (a ++ x ∷ []) ++ b ≡ a ++ x ∷ b
appended [] x b = refl
appended (y ∷ a) x b = ap (λ l. y ∷ l) (appended a x b)

pub rest-next : (done rest left all : List RowEdit) (edit : RowEdit) → done ++ left ≡ all → left ≡ edit ∷ rest → (done ++ edit ∷ []) ++ rest ≡ all
rest-next done rest left all edit e f = appended done edit rest ∙ ap (λ l. done ++ l) (sym f) ∙ e

-- too many rows are too many in any view with the same tables
pub over-alike : (a b : Kept) → IsSameView a b → is_view_kind b.options.how ≡ true → IsOver a → IsOver b
over-alike a b h k (inl o) = inl (let same = as-long a.left.rows b.left.rows h.left in let most = h.limit in omega (arith, o, same, most))
over-alike a b h k (inr (inl o)) = inr (inl (let same = as-long a.right.rows b.right.rows h.right in let most = h.limit in omega (arith, o, same, most)))
over-alike a b h k (inr (inr o)) = inr (inr (let same = as-long (view_rows a) (view_rows b) (rows-same a b h k) in let most = h.limit in omega (arith, o, same, most)))

-- why they aren't played to their end
pub stuck-next : (start now : Kept) (done rest left all : List RowEdit) (edit : RowEdit) (told : List Outcome) (e : ViewError) → is_view_kind start.options.how ≡ true → IsPlayed start now done told → done ++ left ≡ all → left ≡ edit ∷ rest → IsEditRefusal edit now e → IsPlayRefusal all start e
stuck-next start now done rest left all edit told e kind played f g (inl m) = inl m
stuck-next start now done rest left all edit told e kind played f g (inr h) =
    let v = after_edits done start in
    let kept = kind-edits done start kind in
    let moved = after-alike edit.kind edit.side edit.row now v played.tables in
    let over = over-alike (after_edit edit now) (after_edit edit v) moved (kind-after edit.kind edit.side edit.row v kept) h.1.1 in
    inr (h.0, subst (λ l. IsStuck l start) (ap (λ l. done ++ l) (sym g) ∙ f) (stuck-here done rest edit start (h.1.0, over)))

-- all of them were played
appended-none : {X : Type 0} (a : List X) → a ++ [] ≡ a
appended-none [] = refl
appended-none (x ∷ a) = ap (λ l. x ∷ l) (appended-none a)

pub all-played : (done left all : List RowEdit) → done ++ left ≡ all → left ≡ [] → done ≡ all
all-played done left all e f = sym (appended-none done) ∙ ap (λ l. done ++ l) (sym f) ∙ e

-- one edit more
turned : (a b : Kept) → IsSameView a b → IsSameView b a
turned a b h = record { left_schema = sym h.left_schema; right_schema = sym h.right_schema; left_on = sym h.left_on; right_on = sym h.right_on; options = sym h.options; limit = sym h.limit; left = record { each = λ z. sym (h.left.each z) }; right = record { each = λ z. sym (h.right.each z) } }

pub next-played : (start now later : Kept) (done : List RowEdit) (edit : RowEdit) (told told_now : List Outcome) (outcome : Outcome) → is_view_kind start.options.how ≡ true → IsPlayed start now done told → IsSameView later (after_edit edit now) → outcome ≡ outcome_of edit now → (IsTooMuch edit now → ⊥) → told_now ≡ told ++ outcome ∷ [] → IsPlayed start later (done ++ edit ∷ []) told_now
next-played start now later done edit told told_now outcome kind played tables same made all =
    let v = after_edits done start in
    let kept = kind-edits done start kind in
    let moved = after-alike edit.kind edit.side edit.row now v played.tables in
    let now_kept = kind-after edit.kind edit.side edit.row now (ap (λ o. is_view_kind o.how) played.tables.options ∙ kept) in
    let through = same-through later (after_edit edit now) (after_edit edit v) tables moved in
    let told_of = same ∙ outcome-alike edit.kind edit.side edit.row now v played.tables kept in
    record {
      tables = subst (λ x. IsSameView later x) (sym (after-last done edit start)) through;
      free = free-last done edit start played.free (λ (much : IsTooMuch edit v). made (much.0, over-alike (after_edit edit v) (after_edit edit now) (turned (after_edit edit now) (after_edit edit v) moved) now_kept much.1));
      outcomes = all ∙ ap (λ l. l ++ outcome ∷ []) played.outcomes ∙ ap (λ o. outcomes_of done start ++ o ∷ []) told_of ∙ sym (outcomes-last done edit start);
    }
