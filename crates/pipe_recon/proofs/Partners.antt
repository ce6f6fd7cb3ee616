-- Each row's partner, by codes.
use Rattle.std.proofs.Common.{◌≡◌, ℕ, ◌+◌, ◌<◌, Bool, cond, List, [], ◌∷◌, Option, Some, None, length, map, refl, ap, sym, subst, ◌∙◌, arith, suc}
use Rattle.std.specs.Prelude.{All}
use Rattle.std.specs.List.{position, position_from}
use Rattle.std.proofs.lemmas.Iterator.Adapters.{position_from-zero}
use Rattle.pipe_frame.specs.Frame.{Table}
use Rattle.pipe_schema.specs.Rows.{Row}
use Rattle.pipe_schema.specs.declared.data_type.DataType.{DataType}
use Rattle.pipe_rows.specs.Equality.{IsRow}
use Rattle.pipe_recon.specs.Codes.{Code, HasTypedKey, code_of, codes_of, key_types, partner_among, recon_by, same_code}
use Rattle.pipe_recon.specs.Ends.{AreCodes}
use Rattle.pipe_recon.specs.Reconciliation.{key_cells, left_partner, met_by, meets, partner, reconciliation, right_partner}
use Rattle.pipe_recon.specs.declared.recon.Partner.{Partner}
use Rattle.pipe_recon.specs.declared.recon.Recon.{Recon}
use Rattle.pipe_recon.specs.declared.recon_spec.ReconSpec.{ReconSpec}
use Rattle.pipe_recon.specs.Refusals.{recon_fault}
use Rattle.pipe_recon.proofs.Known.{known}
use Rattle.pipe_recon.proofs.Meeting.{code_turned, met}

-- each element, one by one
abbrev pub Each : {X : Type 0} → (X → Type 0) → List X → Type 0
Each P [] = Unit {0}
Each P (x ∷ xs) = P x × Each P xs

pub each : {X : Type 0} (P : X → Type 0) (xs : List X) → All P xs → Each P xs
each P [] all = tt
each P (x ∷ xs) all = (all 0 x (omega arith), each P xs (λ k d lt. all (suc k) d (omega (arith, lt))))

pub each_so : {X : Type 0} (P Q : X → Type 0) (xs : List X) → ((x : X) → P x → Q x) → Each P xs → Each Q xs
each_so P Q [] h all = tt
each_so P Q (x ∷ xs) h all = (h x all.0, each_so P Q xs h all.1)

same_map : {X Y Z : Type 0} (f : X → Z) (g : Y → Z) (c : X → Y) (xs : List X) → Each (λ x. f x ≡ g (c x)) xs → map f xs ≡ map g (map c xs)
same_map f g c [] all = refl
same_map f g c (x ∷ xs) all = ap (λ z. z ∷ map f xs) all.0 ∙ ap (λ zs. g (c x) ∷ zs) (same_map f g c xs all.1)

same_from : {X Y : Type 0} (p : X → Bool) (q : Y → Bool) (c : X → Y) (n : ℕ) (xs : List X) → Each (λ x. p x ≡ q (c x)) xs → position_from p n xs ≡ position_from q n (map c xs)
same_from p q c n [] all = refl
same_from p q c n (x ∷ xs) all =
    ap (λ b. cond b (Some n) (position_from p (n + 1) xs)) all.0
    ∙ ap (λ o. cond (q (c x)) (Some n) o) (same_from p q c (n + 1) xs all.1)

same_position : {X Y : Type 0} (p : X → Bool) (q : Y → Bool) (c : X → Y) (xs : List X) → Each (λ x. p x ≡ q (c x)) xs → position p xs ≡ position q (map c xs)
same_position p q c xs all = position_from-zero p xs ∙ same_from p q c 0 xs all ∙ sym (position_from-zero q (map c xs))

module _ (left right : Table) (spec : ReconSpec) (same : key_types left.schema spec.on ≡ key_types right.schema spec.on) where
  -- a left and a right row whose keys have their types
  pub one_meets : (l r : Row) → HasTypedKey left.schema spec.on l → HasTypedKey right.schema spec.on r → meets left right spec l r ≡ same_code (code_of left.schema spec l) (code_of right.schema spec r)
  one_meets l r typed other = met left right spec (key_types left.schema spec.on) l r typed (subst (λ (ts : List DataType). IsRow ts (key_cells right.schema spec.on r)) (sym same) other)

  left_by : (l : Row) → Each (HasTypedKey right.schema spec.on) right.rows → HasTypedKey left.schema spec.on l → left_partner left right spec l ≡ partner_among (codes_of right.schema spec right.rows) (code_of left.schema spec l)
  left_by l others typed = ap partner (same_position (meets left right spec l) (same_code (code_of left.schema spec l)) (code_of right.schema spec) right.rows (each_so (HasTypedKey right.schema spec.on) _ right.rows (λ r other. one_meets l r typed other) others))

  right_by : (r : Row) → Each (HasTypedKey left.schema spec.on) left.rows → HasTypedKey right.schema spec.on r → right_partner left right spec r ≡ partner_among (codes_of left.schema spec left.rows) (code_of right.schema spec r)
  right_by r others typed = ap partner (same_position (met_by left right spec r) (same_code (code_of right.schema spec r)) (code_of left.schema spec) left.rows (each_so (HasTypedKey left.schema spec.on) _ left.rows (λ l other. one_meets l r other typed ∙ code_turned (code_of left.schema spec l) (code_of right.schema spec r)) others))

  -- the reconciliation is that of the codes
  pub recon_is : All (HasTypedKey left.schema spec.on) left.rows → All (HasTypedKey right.schema spec.on) right.rows → reconciliation left right spec ≡ recon_by (codes_of left.schema spec left.rows) (codes_of right.schema spec right.rows)
  recon_is lefts rights =
      let ls : Each (HasTypedKey left.schema spec.on) left.rows = each (HasTypedKey left.schema spec.on) left.rows lefts in
      let rs : Each (HasTypedKey right.schema spec.on) right.rows = each (HasTypedKey right.schema spec.on) right.rows rights in
      let a : map (left_partner left right spec) left.rows ≡ map (partner_among (codes_of right.schema spec right.rows)) (codes_of left.schema spec left.rows) =
      same_map (left_partner left right spec) (partner_among (codes_of right.schema spec right.rows)) (code_of left.schema spec) left.rows (each_so (HasTypedKey left.schema spec.on) _ left.rows (λ l typed. left_by l rs typed) ls) in
      let b : map (right_partner left right spec) right.rows ≡ map (partner_among (codes_of left.schema spec left.rows)) (codes_of right.schema spec right.rows) =
      same_map (right_partner left right spec) (partner_among (codes_of left.schema spec left.rows)) (code_of right.schema spec) right.rows (each_so (HasTypedKey right.schema spec.on) _ right.rows (λ r typed. right_by r ls typed) rs) in
      ap (λ (ps : List Partner). record { left = ps; right = map (right_partner left right spec) right.rows }) a
      ∙ ap (λ (ps : List Partner). record { left = map (partner_among (codes_of right.schema spec right.rows)) (codes_of left.schema spec left.rows); right = ps }) b

-- ---- what a check finds

pub coded_is : (left right : Table) (spec : ReconSpec) (lefts rights : List Code) → AreCodes left right spec lefts rights → reconciliation left right spec ≡ recon_by lefts rights
coded_is left right spec lefts rights c =
    recon_is left right spec (known left right spec.on c.good).types c.left_typed c.right_typed
    ∙ ap (λ (cs : List Code). recon_by cs (codes_of right.schema spec right.rows)) (sym c.left_codes)
    ∙ ap (λ (cs : List Code). recon_by lefts cs) (sym c.right_codes)

pub both_same : (left right : Table) (spec : ReconSpec) (lefts rights : List Code) (recon : Recon) (ls rs : List Partner) → AreCodes left right spec lefts rights → ls ≡ recon.left → rs ≡ recon.right → ls ≡ map (partner_among rights) lefts → rs ≡ map (partner_among lefts) rights → recon ≡ reconciliation left right spec
both_same left right spec lefts rights recon ls rs c a b e f =
    ap (λ (ps : List Partner). record { left = ps; right = recon.right }) (sym a ∙ e)
    ∙ ap (λ (ps : List Partner). record { left = map (partner_among rights) lefts; right = ps }) (sym b ∙ f)
    ∙ sym (coded_is left right spec lefts rights c)

pub left_same : (left right : Table) (spec : ReconSpec) (lefts rights : List Code) (recon : Recon) (ls : List Partner) → AreCodes left right spec lefts rights → ls ≡ recon.left → recon ≡ reconciliation left right spec → ls ≡ map (partner_among rights) lefts
left_same left right spec lefts rights recon ls c a e = a ∙ ap (λ (r : Recon). r.left) (e ∙ coded_is left right spec lefts rights c)

pub right_same : (left right : Table) (spec : ReconSpec) (lefts rights : List Code) (recon : Recon) (rs : List Partner) → AreCodes left right spec lefts rights → rs ≡ recon.right → recon ≡ reconciliation left right spec → rs ≡ map (partner_among lefts) rights
right_same left right spec lefts rights recon rs c b e = b ∙ ap (λ (r : Recon). r.right) (e ∙ coded_is left right spec lefts rights c)
