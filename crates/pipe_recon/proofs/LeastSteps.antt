-- The least partner of a row, one pair more.
use Rattle.std.proofs.Common.{◌≡◌, ℕ, zero, suc, replicate, take, [], ◌∷◌, ◌++◌, ◌+◌, ◌<◌, ◌≤◌, Bool, true, false, cond, List, Option, Some, None, inl, inr, get_or, length, refl, ap, sym, subst, ◌∙◌, arith}
use Rattle.std.specs.Prelude.{◌⊎◌, ◌==◌, min}
use Rattle.std.proofs.lemmas.Bool.{cases_lt, eq-eqb, eqb-true}
use Rattle.pipe_recon.specs.Least.{AreLeast, Beside, IsLeast, class_after, lesser}
use Rattle.pipe_recon.specs.declared.recon.Partner.{Partner}
use Rattle.pipe_recon.specs.declared.recon.Partner.TheVariants.{Matched, Only}
use Rattle.pipe_recon.proofs.FirstRows.{last_or_below}

none_some : (a : ℕ) → None ≡ Some a → ⊥
none_some a e = cc

eqb_apart : (a b : ℕ) → (a == b) ≡ false → a ≡ b → ⊥
eqb_apart a b e same = let yes : (a == b) ≡ true = eq-eqb a b same in cc

some_injective : (a b : ℕ) → Some a ≡ Some b → a ≡ b
some_injective a b e = cc

module _ (rows partners : List (Option ℕ)) (n i : ℕ) where
  wider : (q : ℕ) → Beside rows partners n i q → Beside rows partners (n + 1) i q
  wider q b = record { place = b.place; below = omega (arith, b.below); row = b.row; partner = b.partner }

  narrower : (q : ℕ) → Beside rows partners (n + 1) i q → Beside rows partners n i q ⊎ ((get_or rows n None ≡ Some i) × (get_or partners n None ≡ Some q))
  narrower q b = elim (last_or_below b.place n b.below) [
    | inl below ↦ inl (record { place = b.place; below = below; row = b.row; partner = b.partner })
    | inr at ↦ inr (ap (λ (k : ℕ). get_or rows k None) (sym at) ∙ b.row, ap (λ (k : ℕ). get_or partners k None) (sym at) ∙ b.partner)
  ]

  -- the last pair isn't one of row i
  kept : (class : Partner) → IsLeast (Beside rows partners n i) class → ((q : ℕ) → get_or rows n None ≡ Some i → get_or partners n None ≡ Some q → ⊥) → IsLeast (Beside rows partners (n + 1) i) class
  kept Only least alone = λ q b. elim (narrower q b) [ inl old ↦ least q old | inr new ↦ alone q new.0 new.1 ]
  kept (Matched j) least alone = (wider j least.0, λ q b. elim (narrower q b) [ inl old ↦ least.1 q old | inr new ↦ absurd (alone q new.0 new.1) ])

  -- the last pair is one of row i
  met : (class : Partner) (p : ℕ) → IsLeast (Beside rows partners n i) class → get_or rows n None ≡ Some i → get_or partners n None ≡ Some p → IsLeast (Beside rows partners (n + 1) i) (lesser class p)
  met Only p least e f = (
    record { place = n; below = omega arith; row = e; partner = f },
    λ q b. elim (narrower q b) [ inl old ↦ absurd (least q old) | inr new ↦ (let same : p ≡ q = some_injective p q (sym f ∙ new.1) in omega (arith, same)) ],
  )
  met (Matched other) p least e f =
      let here : Beside rows partners (n + 1) i p = record { place = n; below = omega arith; row = e; partner = f } in
      let is : (p < other) ⊎ (other ≤ p) → Beside rows partners (n + 1) i (min other p) = elim [
        | inl less ↦ subst (λ (k : ℕ). Beside rows partners (n + 1) i k) (let same : p ≡ min other p = omega (arith, less) in same) here
        | inr more ↦ subst (λ (k : ℕ). Beside rows partners (n + 1) i k) (let same : other ≡ min other p = omega (arith, more) in same) (wider other least.0)
      ] in (
        is (cases_lt p other),
        λ q b. elim (narrower q b) [
          | inl old ↦ (let low : other ≤ q = least.1 q old in omega (arith, low))
          | inr new ↦ (let same : p ≡ q = some_injective p q (sym f ∙ new.1) in omega (arith, same))
        ],
      )

  pub least_more : (class : Partner) (row partner : Option ℕ) → row ≡ get_or rows n None → partner ≡ get_or partners n None → IsLeast (Beside rows partners n i) class → IsLeast (Beside rows partners (n + 1) i) (class_after i row partner class)
  least_more class None partner e f least = kept class least (λ q g h. absurd (none_some i (e ∙ g)))
  least_more class (Some row) None e f least = kept class least (λ q g h. absurd (none_some q (f ∙ h)))
  least_more class (Some row) (Some p) e f least =
      let split : (b : Bool) → (row == i) ≡ b → IsLeast (Beside rows partners (n + 1) i) (cond b (lesser class p) class) = elim [
        | true ↦ λ same. met class p least (sym e ∙ ap Some (eqb-true row i same)) (sym f)
        | false ↦ λ other. kept class least (λ q g h. eqb_apart row i other (some_injective row i (e ∙ g)))
      ] in split (row == i) refl

-- ---- all rows

pub all_more : (rows partners : List (Option ℕ)) (n : ℕ) (old new : List Partner) (row partner : Option ℕ) → row ≡ get_or rows n None → partner ≡ get_or partners n None → length new ≡ length old → ((i : ℕ) → i < length old → get_or new i Only ≡ class_after i row partner (get_or old i Only)) → AreLeast rows partners n old → AreLeast rows partners (n + 1) new
all_more rows partners n old new row partner e f long each least = λ i lt.
    let below : i < length old = omega (arith, lt, long) in
    subst (λ (class : Partner). IsLeast (Beside rows partners (n + 1) i) class) (sym (each i below)) (least_more rows partners n i (get_or old i Only) row partner e f (least i below))

only_there : (height i : ℕ) → get_or (replicate height Only) i Only ≡ Only
only_there zero i = refl
only_there (suc height) zero = refl
only_there (suc height) (suc i) = only_there height i

pub none_yet : (rows partners : List (Option ℕ)) (height : ℕ) → AreLeast rows partners 0 (replicate height Only)
none_yet rows partners height = λ i lt. subst (λ (class : Partner). IsLeast (Beside rows partners 0 i) class) (sym (only_there height i)) (λ q b. (let below = b.below in omega (arith, below)))

-- a list that was lent, and written back
take_whole : (len : ℕ) (new rest : List Partner) → len ≡ length new → take len (new ++ rest) ≡ new
take_whole len [] rest e = ap (λ (n : ℕ). take n rest) e
take_whole len (x ∷ new) rest e = ap (λ (n : ℕ). take n (x ∷ (new ++ rest))) e ∙ ap (λ (l : List Partner). x ∷ l) (take_whole (length new) new rest refl)

pub written_long : (height len : ℕ) (items lent new rest : List Partner) → lent ≡ items → length lent ≡ len → length new ≡ length lent → length items ≡ height → length (take len (new ++ rest)) ≡ height
written_long height len items lent new rest same long kept tall = let is : take len (new ++ rest) ≡ new = take_whole len new rest (omega (arith, long, kept)) in let a : length lent ≡ length items = ap length same in let b : length (take len (new ++ rest)) ≡ length new = ap length is in omega (arith, a, b, kept, tall)

pub written_least : (rows partners : List (Option ℕ)) (n len : ℕ) (items lent new rest : List Partner) (row partner : Option ℕ) → lent ≡ items → length lent ≡ len → length new ≡ length lent → row ≡ get_or rows n None → partner ≡ get_or partners n None → ((i : ℕ) → i < length lent → get_or new i Only ≡ class_after i row partner (get_or lent i Only)) → AreLeast rows partners n items → AreLeast rows partners (n + 1) (take len (new ++ rest))
written_least rows partners n len items lent new rest row partner same long kept e f each least =
    let before : AreLeast rows partners n lent = subst (λ (l : List Partner). AreLeast rows partners n l) (sym same) least in
    subst (λ (l : List Partner). AreLeast rows partners (n + 1) l) (sym (take_whole len new rest (omega (arith, long, kept)))) (all_more rows partners n lent new row partner e f kept each before)
