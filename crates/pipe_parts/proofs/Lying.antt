-- Rows that lie in parts as wished: the same rows, none, more of them, and what is made of each row.
use Rattle.std.proofs.Common.{◌≡◌, ℕ, ◌<◌, List, [], ◌++◌, refl, ap, subst, ◌∙◌}
use Rattle.std.specs.List.{AllByRecursion, flat_map}
use Rattle.pipe_schema.specs.Rows.{Row, Same}
use Rattle.pipe_schema.specs.declared.field.Field.{Field}
use Rattle.pipe_schema.proofs.Weights.{SameBag, SameBag-refl, SameBag-sym, SameBag-trans, SameBag-from_equal, SameBag-append, SameBag-flat_map, SameBag-from_rows, Same-from_bag}
use Rattle.pipe_expr.specs.Projections.{row_named}
use Rattle.pipe_events.specs.Fits.{FitsRow, FitRows}
use Rattle.pipe_events.proofs.Lists.{all-append, all-flat}
use Rattle.pipe_rules.proofs.Filters.{all-of, all-both}
use Rattle.pipe_parts.specs.declared.wish.Wish.{Wish}
use Rattle.pipe_parts.specs.declared.wish.Wish.TheVariants.{Split, Key, Whole}
use Rattle.pipe_parts.specs.Parts.{Parted, together, IsPlaced, AreKeyed, LieAs}
use Rattle.pipe_parts.proofs.Together.{together-same, together-flat, together-append, together-nothing, together-all, all-same}

-- ---- what is made of each row

-- a key's values in what is made of a row are those of the row, by other columns
abbrev pub KeepsKey : List Field → List Field → (Row → List Row) → List (List ℕ) → List (List ℕ) → Type 0
KeepsKey below above f columns names =
    (row : Row) → FitsRow below row → AllByRecursion (λ made. row_named above names made ≡ row_named below columns row) (f row)

-- a wish goes down to another through what is made of each row
abbrev pub Goes : List Field → List Field → (Row → List Row) → (down up : Wish) → Type 0
Goes below above f Split Split = Unit {0}
Goes below above f (Key key columns) (Key other names) = (key ≡ other) × KeepsKey below above f columns names
Goes below above f Whole Whole = Unit {0}
Goes below above f _ _ = ⊥

module _ (parted : Parted) where
  abbrev n : ℕ
  n = parted.count

  split-same : (a b : List Row) (x y : ℕ → List Row) → SameBag a b → ((p : ℕ) → p < n → SameBag (x p) (y p)) → Same (together n y) b → Same (together n x) a
  split-same a b x y same parts h =
      Same-from_bag (SameBag-trans (together-same n x y parts) (SameBag-trans (SameBag-from_rows h) (SameBag-sym same)))

  -- equal rows lie alike
  pub lie-same : (wish : Wish) (s : List Field) (a b : List Row) (x y : ℕ → List Row) → SameBag a b → ((p : ℕ) → p < n → SameBag (x p) (y p)) → LieAs parted wish s b y → LieAs parted wish s a x
  lie-same Split s a b x y same parts h = split-same a b x y same parts h
  lie-same (Key key columns) s a b x y same parts h = record {
    all = split-same a b x y same parts h.all;
    placed = λ p lt. all-same (IsPlaced (parted.place key) s columns p) (parts p lt) (h.placed p lt);
  }
  lie-same Whole s a b x y same parts h = λ p lt.
      Same-from_bag (SameBag-trans (parts p lt) (SameBag-trans (SameBag-from_rows (h p lt)) (SameBag-sym same)))

  split-none : Same (together n (λ p. let none : List Row = [] in none)) []
  split-none = Same-from_bag (SameBag-from_equal (together-nothing n (λ p. let none : List Row = [] in none) (λ p lt. refl)))

  -- no rows
  pub lie-none : (wish : Wish) (s : List Field) → LieAs parted wish s [] (λ p. [])
  lie-none Split s = split-none
  lie-none (Key key columns) s = record { all = split-none; placed = λ p lt. tt }
  lie-none Whole s = λ p lt. Same-from_bag (SameBag-refl [])

  split-append : (a b : List Row) (x y : ℕ → List Row) → Same (together n x) a → Same (together n y) b → Same (together n (λ p. x p ++ y p)) (a ++ b)
  split-append a b x y h k =
      Same-from_bag (SameBag-trans (together-append n x y) (SameBag-append (SameBag-from_rows h) (SameBag-from_rows k)))

  -- rows and others behind them
  pub lie-append : (wish : Wish) (s : List Field) (a b : List Row) (x y : ℕ → List Row) → LieAs parted wish s a x → LieAs parted wish s b y → LieAs parted wish s (a ++ b) (λ p. x p ++ y p)
  lie-append Split s a b x y h k = split-append a b x y h k
  lie-append (Key key columns) s a b x y h k = record {
    all = split-append a b x y h.all k.all;
    placed = λ p lt. all-append (IsPlaced (parted.place key) s columns p) (x p) (y p) (h.placed p lt) (k.placed p lt);
  }
  lie-append Whole s a b x y h k = λ p lt. Same-from_bag (SameBag-append (SameBag-from_rows (h p lt)) (SameBag-from_rows (k p lt)))

  split-have : (P : Row → Type 0) (a : List Row) (x : ℕ → List Row) → Same (together n x) a → AllByRecursion P a → (p : ℕ) → p < n → AllByRecursion P (x p)
  split-have P a x h all p lt = together-all P n x (all-same P (SameBag-from_rows h) all) p lt

  -- rows in parts have what all rows have
  pub parts-have : (P : Row → Type 0) (wish : Wish) (s : List Field) (a : List Row) (x : ℕ → List Row) → LieAs parted wish s a x → AllByRecursion P a → (p : ℕ) → p < n → AllByRecursion P (x p)
  parts-have P Split s a x h all p lt = split-have P a x h all p lt
  parts-have P (Key key columns) s a x h all p lt = split-have P a x h.all all p lt
  parts-have P Whole s a x h all p lt = all-same P (SameBag-from_rows (h p lt)) all

  -- ---- what is made of each row

  made-placed : (key : ℕ) (below above : List Field) (f : Row → List Row) (columns names : List (List ℕ)) (p : ℕ) (rows : List Row) → KeepsKey below above f columns names → AllByRecursion (FitsRow below) rows → AllByRecursion (IsPlaced (parted.place key) below columns p) rows → AllByRecursion (IsPlaced (parted.place key) above names p) (flat_map f rows)
  made-placed key below above f columns names p rows keeps fit placed =
      all-flat (λ row. FitsRow below row × IsPlaced (parted.place key) below columns p row) (IsPlaced (parted.place key) above names p) f
      (λ row h. all-of (λ made. row_named above names made ≡ row_named below columns row) (IsPlaced (parted.place key) above names p) (λ made e. ap (parted.place key) e ∙ h.1) (f row) (keeps row h.0))
      rows (all-both (FitsRow below) (IsPlaced (parted.place key) below columns p) rows fit placed)

  split-made : (f : Row → List Row) (rows : List Row) (part : ℕ → List Row) → Same (together n part) rows → Same (together n (λ p. flat_map f (part p))) (flat_map f rows)
  split-made f rows part h = Same-from_bag (SameBag-trans (SameBag-sym (SameBag-from_equal (together-flat f n part))) (SameBag-flat_map f (SameBag-from_rows h)))

  pub lie-made : (down up : Wish) (below above : List Field) (f : Row → List Row) (rows : List Row) (part : ℕ → List Row) → Goes below above f down up → FitRows below rows → LieAs parted down below rows part → LieAs parted up above (flat_map f rows) (λ p. flat_map f (part p))
  lie-made Split Split below above f rows part goes fit h = split-made f rows part h
  lie-made (Key key columns) (Key other names) below above f rows part goes fit h =
      let same : key ≡ other = goes.0 in
      subst (λ k. AreKeyed n (parted.place k) names above (flat_map f rows) (λ p. flat_map f (part p))) same (record {
        all = split-made f rows part h.all;
        placed = λ p lt. made-placed key below above f columns names p (part p) goes.1 (split-have (FitsRow below) rows part h.all fit p lt) (h.placed p lt);
      })
  lie-made Whole Whole below above f rows part goes fit h = λ p lt. Same-from_bag (SameBag-flat_map f (SameBag-from_rows (h p lt)))
  lie-made _ _ below above f rows part goes fit h = absurd goes
