-- What a node asks of its inputs, and that its rows lie as wished where those of its inputs do; nodes of one input, unions, sorts.
use Rattle.std.proofs.Common.{◌≡◌, ℕ, Bool, true, false, cond, ◌||◌, ◌&&◌, not, List, [], ◌∷◌, ◌++◌, map, Option, Some, None, refl, ap, sym, subst, ◌∙◌, ◌⊎◌, inl, inr}
use Rattle.std.specs.Prelude.{filter}
use Rattle.std.specs.Str.{bytes_eq}
use Rattle.std.specs.List.{flat_map, list_any}
use Rattle.std.specs.Cmp.Lexicographic.{pointwise}
use Rattle.pipe_schema.specs.Rows.{Row, Same}
use Rattle.pipe_schema.specs.declared.data_type.DataType.{DataType}
use Rattle.pipe_schema.specs.declared.field.Field.{Field}
use Rattle.pipe_schema.proofs.Weights.{SameBag-from_equal, SameBag-from_rows}
use Rattle.pipe_rows.specs.SortOrder.{SortBy, sorted}
use Rattle.pipe_rows.proofs.SortLaw.{sorted-same}
use Rattle.pipe_expr.specs.Formula.{Formula}
use Rattle.pipe_expr.specs.Projections.{passes, filter_rows}
use Rattle.pipe_plan.specs.Node.{Node}
use Rattle.pipe_plan.specs.Schemas.{union_fields}
use Rattle.pipe_plan.specs.PlanRows.{slice_rows}
use Rattle.pipe_plan.specs.Faults.{eq_field, inputs_differ}
use Rattle.pipe_plan.specs.declared.ir.PlanSlice.{PlanSlice}
use Rattle.pipe_events.specs.PlanStages.{one_row, filtered_row}
use Rattle.pipe_events.specs.Fits.{FitRows}
use Rattle.pipe_events.proofs.Rows.{same-dtype}
use Rattle.pipe_rules.proofs.Under.{same-name}
use Rattle.pipe_parts.specs.Wishes.{wishes_below, alone, alike, slice_ways}
use Rattle.pipe_parts.specs.declared.wish.Wish.{Wish}
use Rattle.pipe_parts.specs.declared.wish.Wish.TheVariants.{Split, Key, Whole}
use Rattle.pipe_parts.specs.Choices.{IsIn}
use Rattle.pipe_parts.specs.Parts.{Parted, LieAs}
use Rattle.pipe_parts.specs.Laws.{HasKey}
use Rattle.pipe_parts.proofs.Lying.{lie-same, lie-none, lie-append, lie-made}
use Rattle.pipe_parts.proofs.ColumnsBelow.{ColumnsGoDown, wish-goes}

-- ---- lists of ways

pub in-append : {X : Type 0} (x : X) (a b : List X) → IsIn x (a ++ b) → IsIn x a ⊎ IsIn x b
in-append x [] b h = inr h
in-append x (y ∷ a) b (inl e) = inl (inl e)
in-append x (y ∷ a) b (inr h) =
    let split : IsIn x a ⊎ IsIn x b → IsIn x (y ∷ a) ⊎ IsIn x b = elim [ inl k ↦ inl (inr k) | inr k ↦ inr k ] in split (in-append x a b h)

-- what an element is made of
pub in-map : {X Y : Type 0} (f : X → Y) (xs : List X) (y : Y) → IsIn y (map f xs) → (x : X) × IsIn x xs × (f x ≡ y)
in-map f [] y h = absurd h
in-map f (x ∷ xs) y (inl e) = (x, inl refl, e)
in-map f (x ∷ xs) y (inr h) = let more = in-map f xs y h in (more.0, inr more.1, more.2)

pub in-flat : {X Y : Type 0} (f : X → List Y) (xs : List X) (y : Y) → IsIn y (flat_map f xs) → (x : X) × IsIn x xs × IsIn y (f x)
in-flat f [] y h = absurd h
in-flat {X = X} {Y = Y} f (x ∷ xs) y h =
    let split : IsIn y (f x) ⊎ IsIn y (flat_map f xs) → (z : X) × IsIn z (x ∷ xs) × IsIn y (f z) = elim [
      | inl k ↦ (x, inl refl, k)
      | inr k ↦ (let more = in-flat f xs y k in (more.0, inr more.1, more.2))
    ] in split (in-append y (f x) (flat_map f xs) h)

-- the only element
pub the-one : {X : Type 0} (x y : X) → IsIn y (x ∷ []) → x ≡ y
the-one x y (inl e) = e
the-one x y (inr h) = absurd h

-- ---- inputs

-- the columns of the keys that inputs are asked are theirs
abbrev pub AskKeys : (ℕ → List Field) → List ℕ → List Wish → Type 0
AskKeys s [] [] = Unit {0}
AskKeys s (i ∷ is) (w ∷ ws) = HasKey (s i) w × AskKeys s is ws
AskKeys s _ _ = ⊥

module _ (parted : Parted) (s : ℕ → List Field) (rows : ℕ → List Row) (parts : ℕ → ℕ → List Row) where
  -- inputs lie in the parts as asked
  abbrev pub Lying : List ℕ → List Wish → Type 0
  Lying [] [] = Unit {0}
  Lying (i ∷ is) (w ∷ ws) = LieAs parted w (s i) (rows i) (parts i) × Lying is ws
  Lying _ _ = ⊥

  -- what is asked can be asked, and makes a node's rows lie as wished
  pub record IsGood (up : Wish) (out : List Field) (made : List Row) (part : ℕ → List Row) (inputs : List ℕ) (way : List Wish) : Type 0 where
    pub asks : AskKeys s inputs way
    pub lies : Lying inputs way → LieAs parted up out made part

  -- ---- one input, row by row

  by-row : (f : Row → Row) (l : List Row) → flat_map (one_row f) l ≡ map f l
  by-row f [] = refl
  by-row f (r ∷ l) = ap (λ rest. f r ∷ rest) (by-row f l)

  by-test : (p : Row → Bool) (l : List Row) → flat_map (λ r. filter p (r ∷ [])) l ≡ filter p l
  by-test p [] = refl
  by-test p (r ∷ l) = elim (p r) as (λ b. cond b (r ∷ []) [] ++ flat_map (λ x. filter p (x ∷ [])) l ≡ cond b (r ∷ filter p l) (filter p l)) [ true ↦ ap (λ rest. r ∷ rest) (by-test p l) | false ↦ by-test p l ]

  pub flat-good : (x : Node) (i : ℕ) (out : List Field) (f : Row → List Row) → ColumnsGoDown (s i) out f x → FitRows (s i) (rows i) → (up : Wish) → HasKey out up → (way : List Wish) → IsIn way (map alone (wishes_below (s i) x up)) → IsGood up out (flat_map f (rows i)) (λ p. flat_map f (parts i p)) (i ∷ []) way
  flat-good x i out f down fit up has way h =
      let found = in-map alone (wishes_below (s i) x up) way h in
      let w : Wish = found.0 in
      let goes = wish-goes (s i) out f x down up w has found.1 in
      subst (IsGood up out (flat_map f (rows i)) (λ p. flat_map f (parts i p)) (i ∷ [])) found.2 (record {
        asks = (goes.1, tt);
        lies = λ lying. lie-made parted w up (s i) out f (rows i) (parts i) goes.0 fit lying.0;
      })

  -- a good way stays one where lists are exchanged for equal ones
  pub good-as : (up : Wish) (out : List Field) (a b : List Row) (x y : ℕ → List Row) (inputs : List ℕ) (way : List Wish) → a ≡ b → ((p : ℕ) → x p ≡ y p) → IsGood up out a x inputs way → IsGood up out b y inputs way
  good-as up out a b x y inputs way e parts_e g = record {
    asks = g.asks;
    lies = λ lying. lie-same parted up out b a y x (SameBag-from_equal (sym e)) (λ p lt. SameBag-from_equal (sym (parts_e p))) (g.lies lying);
  }

  pub mapped-good : (x : Node) (i : ℕ) (out : List Field) (f : Row → Row) → ColumnsGoDown (s i) out (one_row f) x → FitRows (s i) (rows i) → (up : Wish) → HasKey out up → (way : List Wish) → IsIn way (map alone (wishes_below (s i) x up)) → IsGood up out (map f (rows i)) (λ p. map f (parts i p)) (i ∷ []) way
  mapped-good x i out f down fit up has way h =
      good-as up out (flat_map (one_row f) (rows i)) (map f (rows i)) (λ p. flat_map (one_row f) (parts i p)) (λ p. map f (parts i p)) (i ∷ []) way (by-row f (rows i)) (λ p. by-row f (parts i p))
      (flat-good x i out (one_row f) down fit up has way h)

  pub filtered-good : (x : Node) (i : ℕ) (predicate : Formula) → ColumnsGoDown (s i) (s i) (filtered_row predicate (s i)) x → FitRows (s i) (rows i) → (up : Wish) → HasKey (s i) up → (way : List Wish) → IsIn way (map alone (wishes_below (s i) x up)) → IsGood up (s i) (filter_rows predicate (s i) (rows i)) (λ p. filter_rows predicate (s i) (parts i p)) (i ∷ []) way
  filtered-good x i predicate down fit up has way h =
      let test = passes predicate (s i) in
      good-as up (s i) (flat_map (filtered_row predicate (s i)) (rows i)) (filter test (rows i)) (λ p. flat_map (filtered_row predicate (s i)) (parts i p)) (λ p. filter test (parts i p)) (i ∷ []) way (by-test test (rows i)) (λ p. by-test test (parts i p))
      (flat-good x i (s i) (filtered_row predicate (s i)) down fit up has way h)

  -- ---- unions

  and-first : (a b : Bool) → (a && b) ≡ true → a ≡ true
  and-first true b e = refl
  and-first false b e = cc

  and-second : (a b : Bool) → (a && b) ≡ true → b ≡ true
  and-second true b e = e
  and-second false b e = cc

  no-not : (b : Bool) → not b ≡ false → b ≡ true
  no-not true e = refl
  no-not false e = cc

  or-first : (a b : Bool) → (a || b) ≡ false → a ≡ false
  or-first true b e = cc
  or-first false b e = refl

  or-second : (a b : Bool) → (a || b) ≡ false → b ≡ false
  or-second true b e = cc
  or-second false b e = e

  same-field : (a b : Field) → eq_field a b ≡ true → a ≡ b
  same-field a b e =
      let names : a.name ≡ b.name = same-name a.name b.name (and-first (bytes_eq a.name b.name) _ e) in
      let types : a.dtype ≡ b.dtype = same-dtype a.dtype b.dtype (and-second (bytes_eq a.name b.name) _ e) in
      let made : List ℕ → DataType → Field = λ name dtype. record { name = name; dtype = dtype } in
      let one : made a.name a.dtype ≡ made b.name a.dtype = ap (λ m. made m a.dtype) names in
      let two : made b.name a.dtype ≡ made b.name b.dtype = ap (made b.name) types in
      one ∙ two

  same-schema : (a b : List Field) → pointwise eq_field a b ≡ true → a ≡ b
  same-schema [] [] e = refl
  same-schema [] (_ ∷ _) e = cc
  same-schema (_ ∷ _) [] e = cc
  same-schema (x ∷ a) (y ∷ b) e =
      let one = same-field x y (and-first (eq_field x y) (pointwise eq_field a b) e) in
      let more = same-schema a b (and-second (eq_field x y) (pointwise eq_field a b) e) in
      ap (λ z. z ∷ a) one ∙ ap (λ l. y ∷ l) more

  -- inputs of one schema
  alike-asks : (out : List Field) (up : Wish) (has : HasKey out up) (is : List ℕ) → list_any (λ i. not (pointwise eq_field out (s i))) is ≡ false → AskKeys s is (alike up is)
  alike-asks out up has [] e = tt
  alike-asks out up has (i ∷ is) e =
      let same : out ≡ s i = same-schema out (s i) (no-not (pointwise eq_field out (s i)) (or-first (not (pointwise eq_field out (s i))) _ e)) in
      (subst (λ f. HasKey f up) same has, alike-asks out up has is (or-second (not (pointwise eq_field out (s i))) _ e))

  alike-lie : (out : List Field) (up : Wish) (is : List ℕ) → list_any (λ i. not (pointwise eq_field out (s i))) is ≡ false → Lying is (alike up is) → LieAs parted up out (flat_map rows is) (λ p. flat_map (λ i. parts i p) is)
  alike-lie out up [] e lying = lie-none parted up out
  alike-lie out up (i ∷ is) e lying =
      let same : out ≡ s i = same-schema out (s i) (no-not (pointwise eq_field out (s i)) (or-first (not (pointwise eq_field out (s i))) _ e)) in
      lie-append parted up out (rows i) (flat_map rows is) (parts i) (λ p. flat_map (λ k. parts k p) is)
      (subst (λ f. LieAs parted up f (rows i) (parts i)) (sym same) lying.0)
      (alike-lie out up is (or-second (not (pointwise eq_field out (s i))) _ e) lying.1)

  pub union-good : (inputs : List ℕ) → inputs_differ s inputs ≡ false → (up : Wish) → HasKey (union_fields s inputs) up → (way : List Wish) → IsIn way (alike up inputs ∷ []) → IsGood up (union_fields s inputs) (flat_map rows inputs) (λ p. flat_map (λ i. parts i p) inputs) inputs way
  union-good [] e up has way h =
      subst (IsGood up [] [] (λ p. []) []) (the-one (alike up []) way h) (record { asks = tt; lies = λ lying. lie-none parted up [] })
  union-good (i ∷ is) e up has way h =
      let out = s i in
      subst (IsGood up out (flat_map rows (i ∷ is)) (λ p. flat_map (λ k. parts k p) (i ∷ is)) (i ∷ is)) (the-one (alike up (i ∷ is)) way h) (record {
        asks = (has, alike-asks out up has is e);
        lies = λ lying. lie-append parted up out (rows i) (flat_map rows is) (parts i) (λ p. flat_map (λ k. parts k p) is) lying.0 (alike-lie out up is e lying.1);
      })

  -- ---- sorts

  -- a sort and its slice give one list for all lists of the same rows
  abbrev pub OneList : Option PlanSlice → List SortBy → ℕ → Type 0
  OneList slice keys i = (bag : List Row) → Same bag (rows i) → slice_rows slice (sorted keys bag) ≡ slice_rows slice (sorted keys (rows i))

  pub sort-good : (slice : Option PlanSlice) (keys : List SortBy) (i : ℕ) → OneList slice keys i → (up : Wish) → HasKey (s i) up → (way : List Wish) → IsIn way (slice_ways slice up) → IsGood up (s i) (slice_rows slice (sorted keys (rows i))) (λ p. slice_rows slice (sorted keys (parts i p))) (i ∷ []) way
  sort-good None keys i one up has way h =
      subst (IsGood up (s i) (sorted keys (rows i)) (λ p. sorted keys (parts i p)) (i ∷ [])) (the-one (alone up) way h) (record {
        asks = (has, tt);
        lies = λ lying. lie-same parted up (s i) (sorted keys (rows i)) (rows i) (λ p. sorted keys (parts i p)) (parts i) (SameBag-from_rows (sorted-same keys [] (rows i))) (λ p lt. SameBag-from_rows (sorted-same keys [] (parts i p))) lying.0;
      })
  sort-good (Some slice) keys i one Split has way h = absurd h
  sort-good (Some slice) keys i one (Key key columns) has way h = absurd h
  sort-good (Some slice) keys i one Whole has way h =
      subst (IsGood Whole (s i) (slice_rows (Some slice) (sorted keys (rows i))) (λ p. slice_rows (Some slice) (sorted keys (parts i p))) (i ∷ [])) (the-one (alone Whole) way h) (record {
        asks = (tt, tt);
        lies = λ lying p lt. record { each = λ row. (let e = one (parts i p) (lying.0 p lt) in rw e refl) };
      })
