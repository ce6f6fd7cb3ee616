-- Lists of names in runs: what lies within a run stays as it is where the run grows.
use Rattle.std.proofs.Common.{◌≡◌, ◌≤◌, ◌<◌, ℕ, zero, suc, Bool, true, false, eqb, List, [], ◌∷◌, ◌++◌, length, take, set, get_or, refl, ap, sym, ◌∙◌, subst, arith, append-nil, append_assoc, length-append}
use Rattle.std.proofs.lemmas.Bool.Decides.{Decides-eqb}
use Rattle.std.proofs.lemmas.List.{take-append-le, take_all, get_or_read, map_push, set-get_or}
use Rattle.pipe_schema.specs.Schema.{has_name}
use Rattle.pipe_rules.proofs.Filters.{all-of}
use Rattle.pipe_optimize.specs.declared.name_lists.Place.{Place}
use Rattle.pipe_optimize.specs.Lists.{names_at}
use Rattle.pipe_optimize.specs.Runs.{names_in, lists_in, IsWithin, AreWithin, HasGrown, HaveGrown, IsWhole}
use Rattle.pipe_optimize.proofs.Passing.{set-here, set-other}

-- ---- lists by numbers

pub listed-at : (runs : List (List (List ℕ))) (places : List Place) (k : ℕ) (d : Place) → k < length places → names_in runs (get_or places k d) ≡ names_at (lists_in runs places) k
listed-at runs [] k d lt = absurd (omega arith)
listed-at runs (p ∷ places) zero d lt = refl
listed-at runs (p ∷ places) (suc k) d lt = listed-at runs places k d (omega arith)

pub listed-out : (runs : List (List (List ℕ))) (places : List Place) (k : ℕ) → length places ≤ k → [] ≡ names_at (lists_in runs places) k
listed-out runs [] zero le = refl
listed-out runs [] (suc k) le = refl
listed-out runs (p ∷ places) zero le = absurd (omega arith)
listed-out runs (p ∷ places) (suc k) le = listed-out runs places k (omega arith)

pub ruleset list_rules = listed-out

-- whether a name stands in a list
pub has-out : (runs : List (List (List ℕ))) (places : List Place) (k : ℕ) (name : List ℕ) → length places ≤ k → false ≡ has_name (names_at (lists_in runs places) k) name
has-out runs places k name le = ap (λ l. has_name l name) (listed-out runs places k le)

run-out : (runs : List (List (List ℕ))) (run : ℕ) → length runs ≤ run → names_at runs run ≡ []
run-out [] zero le = refl
run-out [] (suc run) le = refl
run-out (x ∷ runs) zero le = absurd (omega arith)
run-out (x ∷ runs) (suc run) le = run-out runs run (omega arith)

none-taken : (n : ℕ) (name : List ℕ) → has_name (take n []) name ≡ false
none-taken zero name = refl
none-taken (suc n) name = refl

pub has-none : (runs : List (List (List ℕ))) (places : List Place) (k : ℕ) (d : Place) (name : List ℕ) → k < length places → length runs ≤ (get_or places k d).run → false ≡ has_name (names_at (lists_in runs places) k) name
has-none runs places k d name lt out =
    sym (none-taken (get_or places k d).len name)
    ∙ ap (λ l. has_name (take (get_or places k d).len l) name) (sym (run-out runs (get_or places k d).run out))
    ∙ ap (λ l. has_name l name) (listed-at runs places k d lt)

pub has-at : (runs : List (List (List ℕ))) (places : List Place) (k run len : ℕ) (d : Place) (names : List (List ℕ)) (name : List ℕ) → k < length places → run ≡ (get_or places k d).run → len ≡ (get_or places k d).len → run < length runs → names ≡ get_or runs run names → has_name (take len names) name ≡ has_name (names_at (lists_in runs places) k) name
has-at runs places k run len d names name lt at long there read =
    ap (λ l. has_name (take len l) name) (get_or_read runs run names there read [])
    ∙ ap (λ n. has_name (take n (names_at runs run)) name) long
    ∙ ap (λ r. has_name (take (get_or places k d).len (names_at runs r)) name) at
    ∙ ap (λ l. has_name l name) (listed-at runs places k d lt)

-- what is put back is as it was
pub put-back : (runs : List (List (List ℕ))) (run : ℕ) (was now : List (List ℕ)) → was ≡ get_or runs run was → now ≡ was → set runs run now ≡ runs
put-back runs run was now read same = ap (set runs run) (same ∙ read) ∙ set-get_or runs run was

-- a list as long as its run is the run
pub whole-at : (runs : List (List (List ℕ))) (places : List Place) (k run len : ℕ) (d : Place) (names : List (List ℕ)) → k < length places → run ≡ (get_or places k d).run → len ≡ (get_or places k d).len → run < length runs → names ≡ names_at runs run → length names ≡ len → IsWhole runs places k run
whole-at runs places k run len d names lt at long there read all =
    let same : length (names_at runs run) ≡ len = ap length (sym read) ∙ all in
    let within : length (names_at runs run) ≤ len = omega arith in record {
      there = there;
      same =
          sym (take_all len (names_at runs run) within)
          ∙ ap (λ n. take n (names_at runs run)) long
          ∙ ap (λ r. take (get_or places k d).len (names_at runs r)) at
          ∙ listed-at runs places k d lt;
    }

-- ---- runs that grow

pub same-names : (old new : List (List (List ℕ))) (p : Place) → HaveGrown old new → IsWithin old p → names_in new p ≡ names_in old p
same-names old new p grown within =
    let g = grown p.run in
    ap (take p.len) g.is ∙ take-append-le p.len (names_at old p.run) g.more within

pub still-within : (old new : List (List (List ℕ))) (p : Place) → HaveGrown old new → IsWithin old p → IsWithin new p
still-within old new p grown within =
    let g = grown p.run in
    let long = length-append (names_at old p.run) g.more in
    let more : p.len ≤ length (names_at old p.run ++ g.more) = omega (arith, within, long) in
    subst (λ l. p.len ≤ length l) (sym g.is) more

pub same-lists : (old new : List (List (List ℕ))) (places : List Place) → HaveGrown old new → AreWithin old places → lists_in new places ≡ lists_in old places
same-lists old new [] grown within = refl
same-lists old new (p ∷ places) grown within =
    ap (λ l. l ∷ lists_in new places) (same-names old new p grown within.0)
    ∙ ap (λ ls. names_in old p ∷ ls) (same-lists old new places grown within.1)

pub all-within : (old new : List (List (List ℕ))) (places : List Place) → HaveGrown old new → AreWithin old places → AreWithin new places
all-within old new places grown within = all-of (IsWithin old) (IsWithin new) (λ p h. still-within old new p grown h) places within

-- one run more
grown-more : (runs : List (List (List ℕ))) (names : List (List ℕ)) (r : ℕ) → HasGrown (names_at runs r) (names_at (runs ++ names ∷ []) r)
grown-more [] names zero = record { more = names; is = refl }
grown-more [] names (suc r) = record { more = []; is = refl }
grown-more (x ∷ runs) names zero = record { more = []; is = sym (append-nil x) }
grown-more (x ∷ runs) names (suc r) = grown-more runs names r

-- one run that grows
pub grown-at : (runs : List (List (List ℕ))) (run : ℕ) (was names : List (List ℕ)) → run < length runs → was ≡ get_or runs run was → HasGrown was names → (r : ℕ) → HasGrown (names_at runs r) (names_at (set runs run names) r)
grown-at runs run was names lt read grown r =
    let split : (b : Bool) → eqb run r ≡ b → HasGrown (names_at runs r) (names_at (set runs run names) r) = elim [
      | true ↦ λ e. (
          let same : run ≡ r = (Decides-eqb run r).0 e in
          let here : HasGrown (names_at runs run) (names_at (set runs run names) run) = record {
            more = grown.more;
            is = set-here runs run names lt ∙ grown.is ∙ ap (λ l. l ++ grown.more) (get_or_read runs run was lt read []);
          } in
          subst (λ q. HasGrown (names_at runs q) (names_at (set runs run names) q)) same here)
      | false ↦ λ e. record { more = []; is = set-other runs run r names e ∙ sym (append-nil (names_at runs r)) }
    ] in split (eqb run r) refl

-- ---- one list more

within-more : (runs : List (List (List ℕ))) (places : List Place) (p : Place) → AreWithin runs places → IsWithin runs p → AreWithin runs (places ++ p ∷ [])
within-more runs [] p all own = (own, tt)
within-more runs (q ∷ places) p all own = (all.0, within-more runs places p all.1 own)

-- nothing is changed
pub kept-within : (runs new : List (List (List ℕ))) (places now : List Place) → new ≡ runs → now ≡ places → AreWithin runs places → AreWithin new now
kept-within runs new places now a b all = subst (λ r. AreWithin r now) (sym a) (subst (AreWithin runs) (sym b) all)

-- the runs grow, and the places are as they were
pub grown-within : (runs new : List (List (List ℕ))) (places now : List Place) → HaveGrown runs new → now ≡ places → AreWithin runs places → AreWithin new now
grown-within runs new places now grown b all = subst (AreWithin new) (sym b) (all-within runs new places grown all)

-- a place more, which takes all of a run
pub placed-within : (runs new : List (List (List ℕ))) (places now : List Place) (p : Place) → HaveGrown runs new → now ≡ places ++ p ∷ [] → p.len ≤ length (names_at new p.run) → AreWithin runs places → AreWithin new now
placed-within runs new places now p grown b own all = subst (AreWithin new) (sym b) (within-more new places p (all-within runs new places grown all) own)

pub placed-lists : (runs new : List (List (List ℕ))) (places now : List Place) (p : Place) (names : List (List ℕ)) → HaveGrown runs new → now ≡ places ++ p ∷ [] → p.len ≡ length (names_at new p.run) → names_at new p.run ≡ names → AreWithin runs places → lists_in new now ≡ lists_in runs places ++ names ∷ []
placed-lists runs new places now p names grown b long read all =
    let within : length (names_at new p.run) ≤ p.len = omega arith in
    ap (lists_in new) b
    ∙ map_push (names_in new) places p
    ∙ ap (λ ls. ls ++ names_in new p ∷ []) (same-lists runs new places grown all)
    ∙ ap (λ l. lists_in runs places ++ l ∷ []) (take_all p.len (names_at new p.run) within ∙ read)

-- ---- a run of its own

at-end : (runs : List (List (List ℕ))) (names : List (List ℕ)) → names_at (runs ++ names ∷ []) (length runs) ≡ names
at-end [] names = refl
at-end (x ∷ runs) names = at-end runs names

pub apart-grown : (runs new : List (List (List ℕ))) (names : List (List ℕ)) → new ≡ runs ++ names ∷ [] → HaveGrown runs new
apart-grown runs new names a = subst (HaveGrown runs) (sym a) (grown-more runs names)

pub apart-read : (runs new : List (List (List ℕ))) (names : List (List ℕ)) (run : ℕ) → run ≡ length runs → new ≡ runs ++ names ∷ [] → names_at new run ≡ names
apart-read runs new names run is a = ap (λ q. names_at q run) a ∙ ap (names_at (runs ++ names ∷ [])) is ∙ at-end runs names

pub apart-within : (runs new : List (List (List ℕ))) (places now : List Place) (names : List (List ℕ)) (run len : ℕ) → run ≡ length runs → len ≡ length names → new ≡ runs ++ names ∷ [] → now ≡ places ++ (record { run = run; len = len }) ∷ [] → AreWithin runs places → AreWithin new now
apart-within runs new places now names run len is long a b all =
    let p : Place = record { run = run; len = len } in
    let read = apart-read runs new names run is a in
    let many : length (names_at new run) ≡ length names = ap length read in
    let own : len ≤ length (names_at new run) = omega (arith, many, long) in
    placed-within runs new places now p (apart-grown runs new names a) b own all

pub apart-lists : (runs new : List (List (List ℕ))) (places now : List Place) (names : List (List ℕ)) (run len : ℕ) → run ≡ length runs → len ≡ length names → new ≡ runs ++ names ∷ [] → now ≡ places ++ (record { run = run; len = len }) ∷ [] → AreWithin runs places → lists_in new now ≡ lists_in runs places ++ names ∷ []
apart-lists runs new places now names run len is long a b all =
    let p : Place = record { run = run; len = len } in
    let read = apart-read runs new names run is a in
    let many : len ≡ length (names_at new run) = long ∙ sym (ap length read) in
    placed-lists runs new places now p names (apart-grown runs new names a) b many read all

-- ---- a run that grows

pub longer-within : (runs : List (List (List ℕ))) (places now : List Place) (run len : ℕ) (was names : List (List ℕ)) → run < length runs → was ≡ get_or runs run was → HasGrown was names → len ≡ length names → now ≡ places ++ (record { run = run; len = len }) ∷ [] → AreWithin runs places → AreWithin (set runs run names) now
longer-within runs places now run len was names lt read grown long b all =
    let p : Place = record { run = run; len = len } in
    let many : length (names_at (set runs run names) run) ≡ length names = ap length (set-here runs run names lt) in
    let own : len ≤ length (names_at (set runs run names) run) = omega (arith, many, long) in
    placed-within runs (set runs run names) places now p (grown-at runs run was names lt read grown) b own all

pub longer-lists : (runs : List (List (List ℕ))) (places now : List Place) (run len : ℕ) (was names more : List (List ℕ)) → run < length runs → was ≡ get_or runs run was → HasGrown was names → names ≡ was ++ more → len ≡ length names → now ≡ places ++ (record { run = run; len = len }) ∷ [] → AreWithin runs places → lists_in (set runs run names) now ≡ lists_in runs places ++ (names_at runs run ++ more) ∷ []
longer-lists runs places now run len was names more lt read grown is long b all =
    let p : Place = record { run = run; len = len } in
    let here = set-here runs run names lt in
    let many : len ≡ length (names_at (set runs run names) run) = long ∙ sym (ap length here) in
    let made : names_at (set runs run names) run ≡ names_at runs run ++ more = here ∙ is ∙ ap (λ l. l ++ more) (get_or_read runs run was lt read []) in
    placed-lists runs (set runs run names) places now p (names_at runs run ++ more) (grown-at runs run was names lt read grown) b many made all

-- ---- a copy

pub copy-pushed : (old new : List (List (List ℕ))) (was names all more kept : List (List ℕ)) → kept ≡ was → names ≡ kept → all ≡ names ++ more → new ≡ old ++ all ∷ [] → new ≡ old ++ (was ++ more) ∷ []
copy-pushed old new was names all more kept a b c d = d ∙ ap (λ l. old ++ l ∷ []) (c ∙ ap (λ l. l ++ more) (b ∙ a))

-- ---- names behind names

pub more-next : (old yielded : List (List ℕ)) (x : List ℕ) (now new : List (List ℕ)) → now ≡ old ++ yielded → new ≡ now ++ x ∷ [] → new ≡ old ++ (yielded ++ x ∷ [])
more-next old yielded x now new so_far pushed = pushed ∙ ap (λ l. l ++ x ∷ []) so_far ∙ append_assoc old yielded (x ∷ [])
