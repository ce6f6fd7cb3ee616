-- The least row of each code: a map that is filled from the last row to the first.
use Rattle.std.proofs.Common.{◌≡◌, inl, inr, ℕ, ◌+◌, ◌<◌, Bool, true, false, cond, List, [], ◌∷◌, Option, Some, None, drop, get_or, length, map, refl, ap, sym, subst, ◌∙◌, ◌≤◌, add-one, drop-cons, arith, suc}
use Rattle.std.specs.Prelude.{◌⊎◌}
use Rattle.std.specs.BTreeMap.{BTreeMap, UpdatesBy}
use Rattle.std.specs.Cmp.Lexicographic.{slice_cmp}
use Rattle.std.specs.Ordering.{nat_cmp}
use Rattle.std.specs.List.{position, position_from}
use Rattle.std.specs.Str.{bytes_eq}
use Rattle.std.proofs.lemmas.Iterator.Adapters.{position_from-zero}
use Rattle.std.proofs.lemmas.Map.Text.{btree_map_updates_str}
use Rattle.std.proofs.lemmas.List.{get_or-map}
use Rattle.pipe_recon.specs.Codes.{Code, partner_among, same_code}
use Rattle.pipe_recon.specs.FirstRows.{row_of_bytes, row_of_code}
use Rattle.pipe_recon.specs.Reconciliation.{partner}
use Rattle.pipe_recon.specs.declared.recon.Partner.{Partner}
use Rattle.pipe_recon.specs.declared.recon.Partner.TheVariants.{Only}
use Rattle.pipe_recon.proofs.Meeting.{code_turned}
use denote.Ref.{Bor}

-- the rows at each code are the least from a row on
abbrev pub AreFirstFrom : ℕ → List Code → BTreeMap (Bor (List ℕ)) ℕ → Type 0
AreFirstFrom i codes rows = (bytes : List ℕ) → row_of_bytes rows bytes ≡ position_from (same_code (Some bytes)) i (drop i codes)

-- one row more, of this code
one_more : (i : ℕ) (codes : List Code) (code : Code) (q : List ℕ) → i < length codes → get_or codes i None ≡ code → position_from (same_code (Some q)) i (drop i codes) ≡ cond (same_code (Some q) code) (Some i) (position_from (same_code (Some q)) (i + 1) (drop (i + 1) codes))
one_more i codes code q lt e =
    let cut : drop i codes ≡ get_or codes i None ∷ drop (i + 1) codes = rw add-one (drop-cons codes i None lt) in
    ap (position_from (same_code (Some q)) i) cut
    ∙ ap (λ (c : Code). cond (same_code (Some q) c) (Some i) (position_from (same_code (Some q)) (i + 1) (drop (i + 1) codes))) e

pub row_put : (j i : ℕ) (codes : List Code) (bytes : List ℕ) (before after : BTreeMap (Bor (List ℕ)) ℕ) → j ≡ i + 1 → j ≤ length codes → get_or codes i None ≡ Some bytes → UpdatesBy (λ x y. slice_cmp nat_cmp x.now y.now) (λ k. slice_cmp nat_cmp bytes k.now) before after (Some i) → AreFirstFrom j codes before → AreFirstFrom i codes after
row_put j i codes bytes before after next le e updates first =
    let later : AreFirstFrom (i + 1) codes before = subst (λ (n : ℕ). AreFirstFrom n codes before) next first in
    λ q.
    btree_map_updates_str bytes before after (Some i) updates q
    ∙ ap (λ (b : Bool). cond b (Some i) (row_of_bytes before q)) (code_turned (Some bytes) (Some q))
    ∙ ap (λ (o : Option ℕ). cond (bytes_eq q bytes) (Some i) o) (later q)
    ∙ sym (one_more i codes (Some bytes) q (omega (arith, next, le)) e)

pub all_rows : (i : ℕ) (codes : List Code) (rows : BTreeMap (Bor (List ℕ)) ℕ) (bytes : List ℕ) → i ≡ 0 → AreFirstFrom i codes rows → row_of_bytes rows bytes ≡ position (same_code (Some bytes)) codes
all_rows i codes rows bytes e first = (subst (λ (n : ℕ). AreFirstFrom n codes rows) e first) bytes ∙ sym (position_from-zero (same_code (Some bytes)) codes)

-- ---- classes, by the least rows of codes

nowhere : (n : ℕ) (codes : List Code) → position_from (same_code None) n codes ≡ None
nowhere n [] = refl
nowhere n (code ∷ codes) = nowhere (n + 1) codes

pub partner_is : (rows : BTreeMap (Bor (List ℕ)) ℕ) (others : List Code) (code : Code) → ((bytes : List ℕ) → row_of_bytes rows bytes ≡ position (same_code (Some bytes)) others) → partner (row_of_code rows code) ≡ partner_among others code
partner_is rows others (Some bytes) first = ap partner (first bytes)
partner_is rows others None first = ap partner (sym (position_from-zero (same_code None) others ∙ nowhere 0 others))

-- classes that are these, one by one, and all of them
pub all_same : (g : Code → Partner) (partners : List Partner) (codes : List Code) → length partners ≡ length codes → ((k : ℕ) → k < length partners → get_or partners k Only ≡ g (get_or codes k None)) → partners ≡ map g codes
all_same g [] [] long each = refl
all_same g [] (code ∷ codes) long each = absurd (omega (arith, long))
all_same g (p ∷ partners) [] long each = absurd (omega (arith, long))
all_same g (p ∷ partners) (code ∷ codes) long each =
    ap (λ (q : Partner). q ∷ partners) (each 0 (omega arith))
    ∙ ap (λ (qs : List Partner). g code ∷ qs) (all_same g partners codes (omega (arith, long)) (λ k lt. each (suc k) (omega (arith, lt))))

pub same_at : (g : Code → Partner) (partners : List Partner) (codes : List Code) (k : ℕ) → k < length codes → partners ≡ map g codes → get_or partners k Only ≡ g (get_or codes k None)
same_at g partners codes k lt e = ap (λ (ps : List Partner). get_or ps k Only) e ∙ get_or-map g codes k None Only lt

pub last_or_below : (k i : ℕ) → k < i + 1 → (k < i) ⊎ (k ≡ i)
last_or_below k i lt = grind arith

-- a class that is the same as that of its code, and one that isn't
pub one_same : (rows : BTreeMap (Bor (List ℕ)) ℕ) (others : List Code) (partners : List Partner) (codes : List Code) (i : ℕ) (code : Code) (p : Partner) → code ≡ get_or codes i None → p ≡ partner (row_of_code rows code) → ((bytes : List ℕ) → row_of_bytes rows bytes ≡ position (same_code (Some bytes)) others) → get_or partners i Only ≡ p → ((k : ℕ) → k < i → get_or partners k Only ≡ partner_among others (get_or codes k None)) → (k : ℕ) → k < i + 1 → get_or partners k Only ≡ partner_among others (get_or codes k None)
one_same rows others partners codes i code p e f first same before k lt =
    let here : get_or partners i Only ≡ partner_among others (get_or codes i None) = same ∙ f ∙ partner_is rows others code first ∙ ap (partner_among others) e in
    elim (last_or_below k i lt) [ inl below ↦ before k below | inr at ↦ subst (λ (j : ℕ). get_or partners j Only ≡ partner_among others (get_or codes j None)) (sym at) here ]

pub other_at : (rows : BTreeMap (Bor (List ℕ)) ℕ) (others : List Code) (partners : List Partner) (codes : List Code) (i : ℕ) (own : Partner) (code : Code) (p : Partner) → i < length codes → own ≡ get_or partners i Only → code ≡ get_or codes i None → p ≡ partner (row_of_code rows code) → ((bytes : List ℕ) → row_of_bytes rows bytes ≡ position (same_code (Some bytes)) others) → partners ≡ map (partner_among others) codes → (own ≡ p → ⊥) → ⊥
other_at rows others partners codes i own code p lt o e f first whole other =
    other (o ∙ same_at (partner_among others) partners codes i lt whole ∙ ap (partner_among others) (sym e) ∙ sym (partner_is rows others code first) ∙ sym f)
