-- A narrowed plan gives what the plan gave.
use Rattle.std.proofs.Common.{◌≡◌, ℕ, zero, suc, ◌<◌, Bool, true, false, ◌&&◌, ◌||◌, List, [], ◌∷◌, map, length, None, refl, ap, sym, ◌∙◌, subst, arith}
use Rattle.std.specs.Prelude.{filter}
use Rattle.std.specs.List.{AllByRecursion, list_any}
use Rattle.pipe_frame.specs.Frame.{Table}
use Rattle.pipe_schema.specs.Rows.{Row, Same}
use Rattle.pipe_schema.specs.Schema.{has_name, names_of, first_repeated}
use Rattle.pipe_schema.specs.declared.field.Field.{Field}
use Rattle.pipe_schema.specs.Weights.{total}
use Rattle.pipe_schema.proofs.Weights.{SameBag, SameBag-sym, SameBag-trans, SameBag-from_equal, SameBag-from_rows, Same-from_bag}
use Rattle.pipe_expr.specs.Types.{columns_in}
use Rattle.pipe_expr.specs.Projections.{row_named}
use Rattle.pipe_plan.specs.Node.{Node}
use Rattle.pipe_plan.specs.Node as node
use Rattle.pipe_plan.specs.Plan.{Plan}
use Rattle.pipe_plan.specs.Under.{inputs_of, node_at, is_under}
use Rattle.pipe_plan.specs.Schemas.{node_schema, schemas_to, schema_of}
use Rattle.pipe_rows.specs.SortOrder.{sorted}
use Rattle.pipe_plan.specs.PlanRows.{node_rows, rows_of, slice_rows, sort_keys}
use Rattle.pipe_plan.specs.Faults.{or_else, has_input, is_reader, is_read_below, is_empty, is_void, repeats, once_names, IsWellFormed}
use Rattle.pipe_plan.specs.declared.ir.SortOptions.{SortOptions}
use Rattle.pipe_check.specs.Checking.{fault_with}
use Rattle.pipe_check.proofs.Agree.{Agree, agree-members, schema-agree}
use Rattle.pipe_check.proofs.Walks.{member, none-member, schema-own, schema-below, under-there}
use Rattle.pipe_check.proofs.WellFormed.{root_there}
use Rattle.pipe_events.specs.Fits.{FitRows, FramesFit}
use Rattle.pipe_events.proofs.Plans.{rows_fit}
use Rattle.pipe_rules.specs.Conjuncts.{conjuncts_of}
use Rattle.pipe_rules.specs.Placed.{is_input, placing_at}
use Rattle.pipe_rules.proofs.Filters.{all-of, all-both}
use Rattle.pipe_rules.proofs.Under.{own-name}
use Rattle.pipe_rules.specs.Low.{is_filter, is_sort, Stays, IsLow, AreLow}
use Rattle.pipe_rules.specs.Grown.{over, AreWithin, AreUnder, IsSoundNode, AreSound}
use Rattle.pipe_rules.proofs.Granted.{Granted, granted, rows-granted}
use Rattle.pipe_rules.proofs.Faultless.{no-fault}
use Rattle.pipe_rules.proofs.Whole.{whole-plan}
use Rattle.pipe_rules.specs.Needs.{Names, need}
use Rattle.pipe_rules.specs.Narrowed.{narrow_node}
use Rattle.pipe_rules.specs.NeedLaws.{IsWanted}
use Rattle.pipe_rules.proofs.Kept.{kept-has, has-kept, all-in, all-true, IsThere, there-all, whole-rows, names-named}
use Rattle.pipe_optimize.specs.Needed.{or_first, is_scan, AreNeeds, IsTrimmed}
use Rattle.pipe_optimize.specs.Narrow.{AreNarrowed}
use Rattle.pipe_optimize.proofs.NameLists.{first-is, or-left, or-right, clash, never, some-needed}
use Rattle.pipe_optimize.proofs.Cut.{IsCut, or-first-in, or-first-some, or-first-cut, cut-whole}
use Rattle.pipe_optimize.proofs.Over.{IsOver, IsServed, met-true}
use Rattle.pipe_optimize.proofs.Served.{served}
use Rattle.pipe_optimize.proofs.Composed.{IsAlike, narrow-inputs, cut-left, rows-left}
use Rattle.pipe_optimize.proofs.Bags.{sort-list}
use Rattle.pipe_optimize.proofs.Plain.{sort-needs}
use Rattle.pipe_optimize.proofs.Low.{conjuncts-read, filter-narrow, scan-narrow, stays-left}
use Rattle.pipe_optimize.proofs.Readers.{reader, range-none}

-- the rows of a sort
abbrev sorted-rows : SortOptions → List (List ℕ) → List Field → List Row → List Row
sorted-rows options by fields rows = slice_rows options.slice (sorted (sort_keys fields by options) rows)

-- ---- lengths

total-ones : {A : Type 0} (xs : List A) → total (λ x. 1) xs ≡ length xs
total-ones [] = refl
total-ones (x ∷ xs) = (let rest = total-ones xs in omega arith)

map-long : {A B : Type 0} (f : A → B) (xs : List A) → length (map f xs) ≡ length xs
map-long f [] = refl
map-long f (x ∷ xs) = ap suc (map-long f xs)

same-long : (a b : List Row) (f g : Row → Row) → Same (map f a) (map g b) → length a ≡ length b
same-long a b f g same =
    sym (map-long f a) ∙ sym (total-ones (map f a)) ∙ (SameBag-from_rows same).sums (λ x. 1) ∙ total-ones (map g b) ∙ map-long g b

any-same-names : (p q : Names) (names : List (List ℕ)) → ((name : List ℕ) → p name ≡ q name) → list_any p names ≡ list_any q names
any-same-names p q [] h = refl
any-same-names p q (n ∷ names) h = ap (λ b. b || list_any p names) (h n) ∙ ap (λ b. q n || b) (any-same-names p q names h)

-- whether a name is kept, where only names that are there are needed
has-filter : (needed : Names) (names : List (List ℕ)) (name : List ℕ) → (needed name ≡ true → has_name names name ≡ true) → has_name (filter needed names) name ≡ needed name
has-filter needed names name inside =
    let split : (b : Bool) → needed name ≡ b → has_name (filter needed names) name ≡ b = elim [
      | true ↦ λ e. has-kept needed names name (inside e) e
      | false ↦ λ e. never (has_name (filter needed names) name) (λ h. clash (needed name) (kept-has needed names name h).1 e)
    ] in split (needed name) refl

scan-exact : (frames : List Table) (s t : ℕ → List Field) (needed : Names) (x : Node) → is_scan x ≡ true → names_of (node_schema frames t (narrow_node frames t needed x)) ≡ filter needed (names_of (node_schema frames s x))
scan-exact frames s t needed (node.DataFrameScan frame columns) e = names-named _ _
scan-exact frames s t needed (node.Filter input predicate) e = absurd (let no_ : false ≡ true = e in cc)
scan-exact frames s t needed (node.SimpleProjection input columns) e = absurd (let no_ : false ≡ true = e in cc)
scan-exact frames s t needed (node.Select input exprs) e = absurd (let no_ : false ≡ true = e in cc)
scan-exact frames s t needed (node.HStack input exprs) e = absurd (let no_ : false ≡ true = e in cc)
scan-exact frames s t needed (node.MapFunction input function) e = absurd (let no_ : false ≡ true = e in cc)
scan-exact frames s t needed (node.Union inputs) e = absurd (let no_ : false ≡ true = e in cc)
scan-exact frames s t needed (node.Join left right left_on right_on options) e = absurd (let no_ : false ≡ true = e in cc)
scan-exact frames s t needed (node.Sort input by options) e = absurd (let no_ : false ≡ true = e in cc)

module _ (frames : List Table) (old new : List Node) (root : ℕ) (needs : ℕ → Names) (good : IsWellFormed (over frames old) root) (whole : AreUnder old root) (full : (n : ℕ) → is_under old root n ≡ true → is_empty (schema_of (over frames old) n) ≡ false) (are : AreNeeds (over frames old) root needs) (narrowed : AreNarrowed frames old new needs) where
  abbrev P : Plan
  P = over frames old

  abbrev Q : Plan
  Q = over frames new

  abbrev s : ℕ → List Field
  s = schema_of P

  abbrev t : ℕ → List Field
  t = schema_of Q

  rooted : root < length old
  rooted = root_there P root good.faultless

  at : (n : ℕ) → n < length old → Granted P root n (node_at old n)
  at n lt = granted P root n good (whole n lt)

  -- the root, or an input of a node
  by-reader : (n : ℕ) (X : Type 0) → n < length old → (root ≡ n → X) → ((m : ℕ) → m < length old → has_input old n m ≡ true → X) → X
  by-reader n X lt own read = reader old n X (length old) root rooted (omega arith) (whole n lt) own (λ m under reads. read m (granted P root m good under).there reads)

  -- what is needed of a node is there
  need-inside : (n : ℕ) (name : List ℕ) → n < length old → needs n name ≡ true → has_name (names_of (s n)) name ≡ true
  need-inside n name lt h = by-reader n (has_name (names_of (s n)) name ≡ true) lt
      (λ is. subst (λ k. has_name (names_of (s k)) name ≡ true) is (sym (are.whole name) ∙ ap (λ k. needs k name) is ∙ h))
      (λ m there reads. or-first-in (names_of (s n)) (need s (node_at old m) (needs m) n) name (sym (are.input m n name (whole m there) reads) ∙ h))

  -- and something is
  need-some : (n : ℕ) → n < length old → list_any (needs n) (names_of (s n)) ≡ true
  need-some n lt =
      let split : (fields : List Field) → s n ≡ fields → is_empty fields ≡ false → list_any (needs n) (names_of fields) ≡ true = elim [
        | [] ↦ λ e f. absurd (let no_ : true ≡ false = f in cc)
        | field ∷ fields ↦ λ e f. (
            let own = own-name field.name in
            let head : has_name (names_of (field ∷ fields)) field.name ≡ true = or-left _ (has_name (names_of fields) field.name) own in
            by-reader n (list_any (needs n) (names_of (field ∷ fields)) ≡ true) lt
            (λ is. some-needed (needs n) (names_of (field ∷ fields)) field.name head (ap (λ k. needs k field.name) (sym is) ∙ are.whole field.name ∙ ap (λ k. has_name (names_of (s k)) field.name) is ∙ ap (λ l. has_name (names_of l) field.name) e ∙ head))
            (λ m there reads.
            any-same-names (needs n) (or_first (names_of (field ∷ fields)) (need s (node_at old m) (needs m) n)) (names_of (field ∷ fields))
            (λ name. are.input m n name (whole m there) reads ∙ ap (λ l. or_first (names_of l) (need s (node_at old m) (needs m) n) name) e)
            ∙ or-first-some field.name (names_of fields) (need s (node_at old m) (needs m) n)))
      ] in split (s n) refl (full n (whole n lt))

  -- ---- the schemas

  abbrev Cut : ℕ → Type 0
  Cut n = IsCut (needs n) (s n) (t n)

  made-left : (n : ℕ) → n < length old → t n ≡ node_schema frames t (narrow_node frames t (needs n) (node_at old n))
  made-left n lt =
      let x = node_at old n in
      let y = narrow_node frames t (needs n) x in
      let there : n < length new = (let e = narrowed.long in omega arith) in
      let same : Agree (schemas_to Q n) t (inputs_of y) = agree-members (schemas_to Q n) t (inputs_of y) (λ i m. schema-below Q n i ((at n lt).fed i (ap (member i) (sym (narrow-inputs frames t (needs n) x)) ∙ m)).0 there) in
      schema-own Q n there ∙ ap (node_schema frames (schemas_to Q n)) (narrowed.each n lt) ∙ schema-agree frames (schemas_to Q n) t y same

  over-at : (n : ℕ) → n < length old → ((i : ℕ) → i < n → Cut i) → IsOver frames s t (needs n) needs (node_at old n)
  over-at n lt below =
      let g = at n lt in
      let made = g.made in record {
        known = g.known;
        typed = g.typed;
        twice = g.twice;
        apart = g.once;
        whole = g.whole;
        joinable = g.joinable;
        sortable = g.sortable;
        within = λ name h. ap (λ f. has_name (names_of f) name) (sym made) ∙ need-inside n name lt h;
        some = ap (λ f. list_any (needs n) (names_of f)) (sym made) ∙ need-some n lt;
        full = λ i own. full i (g.fed i own).1;
        once = λ i own. (granted P root i good (g.fed i own).1).distinct;
        met = λ i name own. are.input n i name (whole n lt) own;
        cut = λ i own. below i (g.fed i own).0;
      }

  cut-to : (b n : ℕ) → n < b → n < length old → Cut n
  cut-to zero n lt there = absurd (omega arith)
  cut-to (suc b) n lt there =
      let x = node_at old n in
      let o = over-at n there (λ i less. cut-to b i (omega arith) (omega arith)) in
      let v = served frames s t (needs n) needs x o in
      let here = cut-left frames s t (needs n) needs x o v in
      subst (λ f. IsCut (needs n) f (t n)) (sym (at n there).made) (subst (λ f. IsCut (needs n) (node_schema frames s x) f) (sym (made-left n there)) here)

  pub cut-at : (n : ℕ) → n < length old → Cut n
  cut-at n lt = cut-to (suc n) n (omega arith) lt

  overs : (n : ℕ) → n < length old → IsOver frames s t (needs n) needs (node_at old n)
  overs n lt = over-at n lt (λ i less. cut-at i (omega arith))

  serves : (n : ℕ) → n < length old → IsServed frames s t (needs n) (node_at old n) (narrow_node frames t (needs n) (node_at old n))
  serves n lt = served frames s t (needs n) needs (node_at old n) (overs n lt)

  root-whole : (name : List ℕ) → has_name (names_of (s root)) name ≡ true → needs root name ≡ true
  root-whole name h = are.whole name ∙ h

  pub root-schema : t root ≡ s root
  root-schema = cut-whole (needs root) (s root) (t root) (cut-at root rooted) (at root rooted).distinct root-whole

  -- ---- well-formed

  pub inputs-left : (n : ℕ) → n < length old → inputs_of (node_at new n) ≡ inputs_of (node_at old n)
  inputs-left n lt = ap inputs_of (narrowed.each n lt) ∙ narrow-inputs frames t (needs n) (node_at old n)

  reads-left : (n i : ℕ) → n < length old → has_input new i n ≡ has_input old i n
  reads-left n i lt = ap (member i) (inputs-left n lt)

  module _ (low : AreLow s old) where
    low-left : (n : ℕ) → n < length old → (x : Node) → node_at old n ≡ x → IsLow s old x → IsLow t new (narrow_node frames t (needs n) x)
    low-left n lt (node.DataFrameScan frame columns) is l = tt
    low-left n lt (node.Filter input predicate) is l =
        let f = node.Filter input predicate in
        let o = subst (IsOver frames s t (needs n) needs) is (overs n lt) in
        let own = first-is input [] in
        let fed = (at n lt).fed input (ap (λ x. member input (inputs_of x)) is ∙ own) in
        let there = (granted P root input good fed.1).there in
        let z = node_at old input in
        let g = at input there in
        let below = narrowed.each input there in
        let plain : is_filter (node_at new input) ≡ false = ap is_filter below ∙ filter-narrow frames t (needs input) z ∙ l.0 in
        let read = there-all (needs input) (s input) (columns_in predicate) (λ name has r. met-true frames s t (needs n) needs f o input name own has (or-right (needs n name) (has_name (columns_in predicate) name) r)) o.known in
        let reads : AllByRecursion (IsWanted (needs input) (node_schema frames s z)) (columns_in predicate) = all-of (IsThere (needs input) (s input)) (IsWanted (needs input) (node_schema frames s z)) (λ name h. record { wanted = h.kept; there = ap (λ q. has_name (names_of q) name) (sym g.made) ∙ h.there }) (columns_in predicate) read in
        let apart = conjuncts-read (IsWanted (needs input) (node_schema frames s z)) predicate reads in
        let stay : AllByRecursion (Stays t (node_at new input)) (conjuncts_of predicate) = all-of (λ c. AllByRecursion (IsWanted (needs input) (node_schema frames s z)) (columns_in c) × Stays s z c) (Stays t (node_at new input)) (λ c h. ap (λ y. placing_at t y c) below ∙ stays-left frames s t (needs input) needs c z (overs input there) h.0 h.1) (conjuncts_of predicate) (all-both (λ c. AllByRecursion (IsWanted (needs input) (node_schema frames s z)) (columns_in c)) (Stays s z) (conjuncts_of predicate) apart l.1) in
        (plain, stay)
    low-left n lt (node.SimpleProjection input columns) is l = tt
    low-left n lt (node.Select input exprs) is l = tt
    low-left n lt (node.HStack input exprs) is l = tt
    low-left n lt (node.MapFunction input function) is l = tt
    low-left n lt (node.Union inputs) is l = tt
    low-left n lt (node.Join left right left_on right_on options) is l = tt
    low-left n lt (node.Sort input by options) is l = tt

    sound-at : (n : ℕ) → n < length old → IsSoundNode frames new n
    sound-at n lt =
        let x = node_at old n in
        let y = narrow_node frames t (needs n) x in
        let is : node_at new n ≡ y = narrowed.each n lt in
        let v = serves n lt in
        let twice : or_else (first_repeated (names_of (node_schema frames t y))) (first_repeated (once_names y)) ≡ None = ap (λ o. or_else o (first_repeated (once_names y))) v.once ∙ v.single in
        record {
          once = ap repeats (inputs-left n lt) ∙ (at n lt).once;
          whole = ap (is_void frames) is ∙ v.whole;
          faultless = ap (fault_with false frames t n) is ∙ no-fault frames t n y v.known twice v.typed v.joinable v.sortable;
          low = subst (IsLow t new) (sym is) (low-left n lt x refl (low n lt));
        }

    sound-left : AreSound frames [] new
    sound-left = record {
      own = λ m i above below reads. (
          let e = narrowed.long in
          let lt : m < length old = omega arith in
          (omega arith, ((at m lt).fed i (sym (reads-left m i lt) ∙ reads)).0));
      apart = λ m j i above less below reads. (
          let e = narrowed.long in
          let lt : m < length old = omega arith in
          let j_lt : j < length old = omega arith in
          let none = none-member (is_read_below old root m) (inputs_of (node_at old m)) i (at m lt).unread (sym (reads-left m i lt) ∙ reads) in
          let not_read : (is_under old root j && has_input old i j) ≡ false = range-none (is_reader old root i) 0 m j none (omega arith) (omega arith) in
          reads-left j i j_lt ∙ sym (ap (λ b. b && has_input old i j) (whole j j_lt)) ∙ not_read);
      each = λ m above below. sound-at m (let e = narrowed.long in omega arith);
    }

    pub good-left : suc root ≡ length old → IsWellFormed Q root
    good-left last = whole-plan frames new sound-left root (last ∙ sym narrowed.long) (let e = narrowed.long in let few = good.few in omega arith)

    pub all-low : AreLow t new
    all-low m below = (sound-at m (let e = narrowed.long in omega arith)).low

  -- ---- what is needed

  pub needs-left : AreNeeds Q root needs
  needs-left = record {
    whole = λ name. are.whole name ∙ ap (λ f. has_name (names_of f) name) (sym root-schema);
    input = λ m i name under reads. (
        let m_lt : m < length old = (let e = narrowed.long in let lt = under-there new m (length new) root (let r = rooted in omega arith) (omega arith) under in omega arith) in
        let own : has_input old i m ≡ true = sym (reads-left m i m_lt) ∙ reads in
        let fed = (at m m_lt).fed i own in
        let i_lt : i < length old = (let lt = fed.0 in omega arith) in
        let x = node_at old m in
        let is = narrowed.each m m_lt in
        are.input m i name (whole m m_lt) own
        ∙ sym (or-first-cut (needs i) (s i) (t i) (cut-at i i_lt) (need s x (needs m) i) (need t (narrow_node frames t (needs m) x) (needs m) i)
        (λ n. are.input m i n (whole m m_lt) own) (λ n has. (serves m m_lt).needs i n own has) name)
        ∙ ap (λ y. or_first (names_of (t i)) (need t y (needs m) i) name) (sym is));
  }

  pub trimmed-left : IsTrimmed Q root
  trimmed-left = record {
    needs = needs;
    are_needs = needs-left;
    scans = λ m name under scan. (
        let m_lt : m < length old = (let e = narrowed.long in let lt = under-there new m (length new) root (let r = rooted in omega arith) (omega arith) under in omega arith) in
        let x = node_at old m in
        let is = narrowed.each m m_lt in
        let old_scan : is_scan x ≡ true = sym (scan-narrow frames t (needs m) x) ∙ ap is_scan (sym is) ∙ scan in
        ap (λ f. has_name (names_of f) name) (made-left m m_lt)
        ∙ ap (λ l. has_name l name) (scan-exact frames s t (needs m) x old_scan)
        ∙ has-filter (needs m) (names_of (node_schema frames s x)) name (λ h. (overs m m_lt).within name h));
  }

  -- ---- the rows

  module _ (good_left : IsWellFormed Q root) (fits : FramesFit P) (whole_left : AreUnder new root) where
    fit : (n : ℕ) → n < length old → FitRows (s n) (rows_of P n)
    fit n lt = rows_fit P root good.faultless fits n (whole n lt)

    fit-left : (n : ℕ) → n < length old → FitRows (t n) (rows_of Q n)
    fit-left n lt = rows_fit Q root good_left.faultless fits n (whole_left n (let e = narrowed.long in omega arith))

    abbrev Alike : ℕ → Type 0
    Alike n = IsAlike (needs n) (s n) (t n) (rows_of P n) (rows_of Q n)

    rows-left-at : (n : ℕ) → n < length old → rows_of Q n ≡ node_rows frames t (rows_of Q) (narrow_node frames t (needs n) (node_at old n))
    rows-left-at n lt = rows-granted Q root n good_left (whole_left n (let e = narrowed.long in omega arith)) ∙ ap (node_rows frames t (rows_of Q)) (narrowed.each n lt)

    alike-to : (b n : ℕ) → n < b → n < length old → Alike n
    alike-to zero n lt there = absurd (omega arith)
    alike-to (suc b) n lt there =
        let x = node_at old n in
        let y = narrow_node frames t (needs n) x in
        let g = at n there in
        let inner : (i : ℕ) → is_input x i ≡ true → (i < n) × (i < length old) = λ i own. (let less = (g.fed i own).0 in (less, omega arith)) in
        let below : (i : ℕ) → is_input x i ≡ true → Alike i = λ i own. (let less = (inner i own).0 in alike-to b i (omega arith) (inner i own).1) in
        record {
          same = λ names want. (
              let want_made = all-of (IsWanted (needs n) (s n)) (IsWanted (needs n) (node_schema frames s x)) (λ name w. record { wanted = w.wanted; there = ap (λ f. has_name (names_of f) name) (sym g.made) ∙ w.there }) names want in
              let made = rows-left frames s t (needs n) needs x (overs n there) (serves n there) (rows_of P) (rows_of Q) (λ i own. fit i (inner i own).1) (λ i own. fit-left i (inner i own).1) below names want_made in
              Same-from_bag (
              SameBag-trans (SameBag-from_equal (ap (λ f. map (row_named f names) (rows_of Q n)) (made-left n there) ∙ ap (map (row_named (node_schema frames t y) names)) (rows-left-at n there)))
              (SameBag-trans (SameBag-from_rows made)
              (SameBag-from_equal (sym (ap (λ f. map (row_named f names) (rows_of P n)) g.made ∙ ap (map (row_named (node_schema frames s x) names)) (rows-granted P root n good (whole n there))))))));
        }

    alike : (n : ℕ) → n < length old → Alike n
    alike n lt = alike-to (suc n) n (omega arith) lt

    -- where all columns are needed, the rows are the same
    pub all-alike : (n : ℕ) → n < length old → ((name : List ℕ) → has_name (names_of (s n)) name ≡ true → needs n name ≡ true) → (t n ≡ s n) × SameBag (rows_of Q n) (rows_of P n)
    all-alike n lt met =
        let once = (at n lt).distinct in
        let same : t n ≡ s n = cut-whole (needs n) (s n) (t n) (cut-at n lt) once met in
        let names = names_of (s n) in
        let all : filter (needs n) names ≡ names = all-true (needs n) names (all-of (λ name. has_name names name ≡ true) (λ name. needs n name ≡ true) met names (all-in names)) in
        let projected = (alike n lt).same names (all-of (λ name. has_name names name ≡ true) (IsWanted (needs n) (s n)) (λ name has. record { wanted = met name has; there = has }) names (all-in names)) in
        let own : (rows : List Row) → FitRows (s n) rows → map (row_named (s n) names) rows ≡ rows = λ rows h. ap (λ l. map (row_named (s n) l) rows) (sym all) ∙ whole-rows (needs n) (s n) once met rows h in
        let left : map (row_named (t n) names) (rows_of Q n) ≡ rows_of Q n = ap (λ f. map (row_named f names) (rows_of Q n)) same ∙ own (rows_of Q n) (subst (λ f. FitRows f (rows_of Q n)) same (fit-left n lt)) in
        (same, SameBag-trans (SameBag-from_equal (sym left)) (SameBag-trans (SameBag-from_rows projected) (SameBag-from_equal (own (rows_of P n) (fit n lt)))))

    pub root-rows : Same (rows_of Q root) (rows_of P root)
    root-rows = Same-from_bag (all-alike root rooted root-whole).1

    -- as many rows as before
    pub rows-long : (n : ℕ) → n < length old → length (rows_of Q n) ≡ length (rows_of P n)
    rows-long n lt = same-long (rows_of Q n) (rows_of P n) (row_named (t n) []) (row_named (s n) []) ((alike n lt).same [] tt)

    pub within-left : (limit : ℕ) → AreWithin P root limit → AreWithin Q root limit
    within-left limit within n under =
        let n_lt : n < length old = (let e = narrowed.long in let lt = under-there new n (length new) root (let r = rooted in omega arith) (omega arith) under in omega arith) in
        let e = rows-long n n_lt in
        let h = within n (whole n n_lt) in
        omega arith

    sort-root : (x : Node) → node_at old root ≡ x → is_sort x ≡ true → rows_of Q root ≡ rows_of P root
    sort-root (node.DataFrameScan frame columns) is e = absurd (let no_ : false ≡ true = e in cc)
    sort-root (node.Filter input predicate) is e = absurd (let no_ : false ≡ true = e in cc)
    sort-root (node.SimpleProjection input columns) is e = absurd (let no_ : false ≡ true = e in cc)
    sort-root (node.Select input exprs) is e = absurd (let no_ : false ≡ true = e in cc)
    sort-root (node.HStack input exprs) is e = absurd (let no_ : false ≡ true = e in cc)
    sort-root (node.MapFunction input function) is e = absurd (let no_ : false ≡ true = e in cc)
    sort-root (node.Union inputs) is e = absurd (let no_ : false ≡ true = e in cc)
    sort-root (node.Join left right left_on right_on options) is e = absurd (let no_ : false ≡ true = e in cc)
    sort-root (node.Sort input by options) is e =
        let x = node.Sort input by options in
        let o = subst (IsOver frames s t (needs root) needs) is (overs root rooted) in
        let own = first-is input [] in
        let fed = (at root rooted).fed input (ap (λ z. member input (inputs_of z)) is ∙ own) in
        let lt : input < length old = (let less = fed.0 in let r = rooted in omega arith) in
        let handed : s root ≡ s input = (at root rooted).made ∙ ap (node_schema frames s) is in
        let met : (name : List ℕ) → has_name (names_of (s input)) name ≡ true → needs input name ≡ true = λ name has.
        met-true frames s t (needs root) needs x o input name own has (sort-needs options.slice by (needs root) name (root-whole name (ap (λ f. has_name (names_of f) name) handed ∙ has))) in
        let both = all-alike input lt met in
        let fits_input = fit input lt in
        rows-left-at root rooted
        ∙ ap (λ z. node_rows frames t (rows_of Q) (narrow_node frames t (needs root) z)) is
        ∙ ap (λ f. sorted-rows options by f (rows_of Q input)) both.0
        ∙ sym (sort-list frames s (rows_of P) (rows_of Q) input by options fits_input (SameBag-sym both.1))
        ∙ sym (ap (node_rows frames s (rows_of P)) is)
        ∙ sym (rows-granted P root root good (whole root rooted))

    pub sorted-left : is_sort (node_at old root) ≡ true → rows_of Q root ≡ rows_of P root
    sorted-left e = sort-root (node_at old root) refl e
