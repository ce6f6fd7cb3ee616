-- Names found by where each stands first.
use Rattle.std.proofs.Common.{◌≡◌, ◌<◌, ◌≤◌, ◌+◌, ℕ, zero, suc, Bool, true, false, cond, lt-ltb, le-ltb, ◌||◌, List, [], ◌∷◌, ◌++◌, Option, Some, None, length, take, get_or, refl, ap, sym, ◌∙◌, subst, arith, String, BTreeMap}
use Rattle.std.specs.Prelude.{is_some, string_bytes}
use Rattle.std.specs.BTreeMap.{get_by_text, is_at}
use Rattle.std.specs.Cmp.Lexicographic.{slice_cmp}
use Rattle.std.specs.Map.{lookup}
use Rattle.std.specs.Ordering.{nat_cmp}
use Rattle.std.specs.Str.{bytes_eq}
use Rattle.std.specs.declared.alloc.Global.{Global}
use Rattle.std.proofs.lemmas.List.{take-append-le, take_more, take-take, length-take-le, length-append}
use Rattle.pipe_schema.specs.Schema.{has_name}
use Rattle.pipe_rules.proofs.Under.{same-name}
use Rattle.pipe_optimize.specs.declared.first_places.FirstPlaces.{FirstPlaces}
use Rattle.pipe_optimize.specs.Noted.{place_from, or_place, is_below, AreNoted}
use Rattle.pipe_optimize.proofs.NameLists.{clash}

-- ---- first places

-- a name behind the others
place-more : (m : ℕ) (q y : List ℕ) (names : List (List ℕ)) → place_from m q (names ++ y ∷ []) ≡ or_place (place_from m q names) (cond (bytes_eq y q) (Some (m + length names)) None)
place-more m q y [] = (let same : m ≡ m + 0 = omega arith in ap (λ k. cond (bytes_eq y q) (Some k) None) same)
place-more m q y (n ∷ names) =
    let long : m + 1 + length names ≡ m + suc (length names) = omega arith in
    elim (bytes_eq n q) as (λ b. cond b (Some m) (place_from (m + 1) q (names ++ y ∷ [])) ≡ or_place (cond b (Some m) (place_from (m + 1) q names)) (cond (bytes_eq y q) (Some (m + suc (length names))) None)) [
      | true ↦ refl
      | false ↦ place-more (m + 1) q y names ∙ ap (λ k. or_place (place_from (m + 1) q names) (cond (bytes_eq y q) (Some k) None)) long
    ]

-- no place is below where counting begins
none-below : (m k : ℕ) (q : List ℕ) (names : List (List ℕ)) → k ≤ m → is_below k (place_from m q names) ≡ false
none-below m k q [] le = refl
none-below m k q (n ∷ names) le =
    elim (bytes_eq n q) as (λ b. is_below k (cond b (Some m) (place_from (m + 1) q names)) ≡ false) [
      | true ↦ le-ltb m k le
      | false ↦ none-below (m + 1) k q names (omega arith)
    ]

-- a name stands among the first so many where its first place is below their number
has-below : (m n : ℕ) (q : List ℕ) (names : List (List ℕ)) → n ≤ length names → has_name (take n names) q ≡ is_below (m + n) (place_from m q names)
has-below m zero q names le = sym (none-below m (m + 0) q names (omega arith))
has-below m (suc n) q [] le = absurd (omega arith)
has-below m (suc n) q (x ∷ names) le =
    let next : m + 1 + n ≡ m + suc n = omega arith in
    let before : m < m + suc n = omega arith in
    elim (bytes_eq x q) as (λ b. (b || has_name (take n names) q) ≡ is_below (m + suc n) (cond b (Some m) (place_from (m + 1) q names))) [
      | true ↦ sym (lt-ltb m (m + suc n) before)
      | false ↦ has-below (m + 1) n q names (omega arith) ∙ ap (λ k. is_below k (place_from (m + 1) q names)) next
    ]

-- ---- what is noted

-- a name that has a place already
pub noted-there : (g : List ℕ → Option ℕ) (name q : List ℕ) (place : ℕ) → is_some (g name) ≡ true → g q ≡ or_place (g q) (cond (bytes_eq name q) (Some place) None)
noted-there g name q place there =
    let split : (b : Bool) (o : Option ℕ) → bytes_eq name q ≡ b → g q ≡ o → o ≡ or_place o (cond b (Some place) None) = elim [
      | true ↦ elim [
        | None ↦ λ e f. clash (is_some (g name)) there (ap (λ n. is_some (g n)) (same-name name q e) ∙ ap is_some f)
        | Some p ↦ λ e f. refl
      ]
      | false ↦ elim [
        | None ↦ λ e f. refl
        | Some p ↦ λ e f. refl
      ]
    ] in split (bytes_eq name q) (g q) refl refl

-- a name that has none
pub noted-new : (g h : List ℕ → Option ℕ) (key name q : List ℕ) (place : ℕ) → key ≡ name → is_some (g name) ≡ false → h q ≡ cond (bytes_eq key q) (Some place) (g q) → h q ≡ or_place (g q) (cond (bytes_eq name q) (Some place) None)
noted-new g h key name q place same missing made =
    let split : (b : Bool) (o : Option ℕ) → bytes_eq name q ≡ b → g q ≡ o → cond b (Some place) o ≡ or_place o (cond b (Some place) None) = elim [
      | true ↦ elim [
        | None ↦ λ e f. refl
        | Some p ↦ λ e f. clash (is_some (g name)) (ap (λ n. is_some (g n)) (same-name name q e) ∙ ap is_some f) missing
      ]
      | false ↦ elim [
        | None ↦ λ e f. refl
        | Some p ↦ λ e f. refl
      ]
    ] in made ∙ ap (λ k. cond (bytes_eq k q) (Some place) (g q)) same ∙ split (bytes_eq name q) (g q) refl refl

same-found : (old new : BTreeMap (String Global) ℕ) → new.entries ≡ old.entries → (q : List ℕ) → get_by_text new q ≡ get_by_text old q
same-found old new same q = ap (λ (es : List (String Global × ℕ)). lookup (is_at (λ (k : String Global). slice_cmp nat_cmp q (string_bytes k))) es) same

-- nothing is noted
pub none-noted : (index : FirstPlaces) (names : List (List ℕ)) → index.count ≡ 0 → index.places.entries ≡ [] → AreNoted index names
none-noted index names zero_ empty = record {
  within = omega (arith, zero_);
  each = λ q.
      ap (λ (es : List (String Global × ℕ)). lookup (is_at (λ (k : String Global). slice_cmp nat_cmp q (string_bytes k))) es) empty
      ∙ ap (λ n. place_from 0 q (take n names)) (sym zero_);
}

-- nothing more is noted
pub noted-kept : (old new : FirstPlaces) (names : List (List ℕ)) → new.count ≡ old.count → new.places.entries ≡ old.places.entries → AreNoted old names → AreNoted new names
noted-kept old new names count same before = record {
  within = subst (λ n. n ≤ length names) (sym count) before.within;
  each = λ q. same-found old.places new.places same q ∙ before.each q ∙ ap (λ n. place_from 0 q (take n names)) (sym count);
}

-- one name more is noted
pub noted-next : (old new : FirstPlaces) (names : List (List ℕ)) (name : List ℕ) → old.count < length names → name ≡ get_or names old.count name → new.count ≡ old.count + 1 → ((q : List ℕ) → get_by_text new.places q ≡ or_place (get_by_text old.places q) (cond (bytes_eq name q) (Some old.count) None)) → AreNoted old names → AreNoted new names
noted-next old new names name lt read count made before =
    let n = old.count in
    let more : take (n + 1) names ≡ take n names ++ name ∷ [] = take_more names n name lt ∙ ap (λ x. take n names ++ x ∷ []) (sym read) in
    let within : n + 1 ≤ length names = omega (arith, lt) in
    let short : n ≤ length names = omega (arith, lt) in
    let long : length (take n names) ≡ n = length-take-le n names short in
    let here : 0 + length (take n names) ≡ n = omega (arith, long) in record {
      within = subst (λ k. k ≤ length names) (sym count) within;
      each = λ q.
          made q
          ∙ ap (λ o. or_place o (cond (bytes_eq name q) (Some n) None)) (before.each q)
          ∙ ap (λ k. or_place (place_from 0 q (take n names)) (cond (bytes_eq name q) (Some k) None)) (sym here)
          ∙ sym (place-more 0 q name (take n names))
          ∙ ap (place_from 0 q) (sym more)
          ∙ ap (λ k. place_from 0 q (take k names)) (sym count);
    }

-- names behind those that are noted
pub noted-more : (index : FirstPlaces) (names more new : List (List ℕ)) → new ≡ names ++ more → AreNoted index names → AreNoted index new
noted-more index names more new is before =
    let sum = length-append names more in
    let within : index.count ≤ length (names ++ more) = omega (arith, before.within, sum) in
    let all : AreNoted index (names ++ more) = record {
      within = within;
      each = λ q. before.each q ∙ ap (place_from 0 q) (sym (take-append-le index.count names more before.within));
    } in
    subst (AreNoted index) (sym is) all

-- a name is found by its first place
pub noted-has : (index : FirstPlaces) (names : List (List ℕ)) (len : ℕ) (q : List ℕ) → AreNoted index names → len ≤ index.count → is_below len (get_by_text index.places q) ≡ has_name (take len names) q
noted-has index names len q noted le =
    let short : index.count ≤ length names = noted.within in
    let long : length (take index.count names) ≡ index.count = length-take-le index.count names short in
    let within : len ≤ length (take index.count names) = omega (arith, long, le) in
    let start : 0 + len ≡ len = omega arith in
    ap (is_below len) (noted.each q)
    ∙ ap (λ k. is_below k (place_from 0 q (take index.count names))) (sym start)
    ∙ sym (has-below 0 len q (take index.count names) within)
    ∙ ap (λ l. has_name l q) (take-take len index.count names le)
