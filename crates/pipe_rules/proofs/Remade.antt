-- A node that is made again over rewritten inputs.
use Rattle.std.proofs.Common.{◌≡◌, ℕ, zero, suc, ◌+◌, ◌<◌, ◌≤◌, Bool, true, false, eqb, ◌||◌, ◌⊎◌, inl, inr, List, [], ◌∷◌, ◌++◌, length, map, take, get_or, refl, ap, sym, ◌∙◌, subst, arith, length-append, append_assoc, append-nil}
use Rattle.std.specs.Prelude.{◌&&◌}
use Rattle.std.specs.List.{AllByRecursion, list_all, list_any}
use Rattle.pipe_schema.specs.Rows.{Row}
use Rattle.pipe_schema.specs.declared.field.Field.{Field}
use Rattle.pipe_expr.specs.Formula.{Formula, Column, Literal, Add, Sub, Mul, Eq, NotEq, Lt, LtEq, Gt, GtEq, And, Or, Not, IsNull, IsNotNull}
use Rattle.pipe_expr.specs.Projections.{passes, filter_rows}
use Rattle.pipe_plan.specs.Node.{Node}
use Rattle.pipe_plan.specs.Node as node
use Rattle.pipe_plan.specs.Plan.{Plan}
use Rattle.pipe_plan.specs.Under.{node_at, inputs_of, is_under}
use Rattle.pipe_plan.specs.Schemas.{node_schema, schema_of}
use Rattle.pipe_plan.specs.PlanRows.{node_rows, rows_of}
use Rattle.pipe_plan.specs.Faults.{IsWellFormed}
use Rattle.pipe_events.specs.Fits.{FramesFit}
use Rattle.pipe_rules.specs.Conjuncts.{conjuncts_of, all_conjuncts, passes_one, passes_each, filter_each}
use Rattle.std.proofs.lemmas.Bool.{cases_lt}
use Rattle.pipe_rules.proofs.Filters.{filter-swap, filter-same, all-always, all-of, all-left, all-right}
use Rattle.pipe_rules.proofs.Conjoined.{each-passes, all-append as both-append, conjuncts-filter}
use Rattle.pipe_events.proofs.Lists.{all-append}
use Rattle.pipe_rules.specs.FilterLaws.{IsKnown}
use Rattle.pipe_check.proofs.Walks.{member, itself, different, under-self}
use Rattle.pipe_plan.specs.Faults.{repeats}
use Rattle.pipe_rules.specs.Parted.{Parts, part_for, parted, rows_below}
use Rattle.pipe_rules.specs.Renumbered.{with_inputs}
use Rattle.pipe_rules.specs.Sizes.{sum_of, size_of}
use Rattle.pipe_rules.specs.Low.{is_filter, is_sort, IsConjunct}
use Rattle.pipe_rules.specs.Sorts.{sorting_of}
use Rattle.pipe_rules.specs.Literals.{LiteralTest, literals_pass, node_literals_pass}
use Rattle.pipe_rules.specs.Grown.{over, Grows, AreSound, IsFree, AreWithin, is_reached, IsRewritten, AreRewritten}
use Rattle.pipe_rules.proofs.Parts.{parts-down, each-next, each-none}
use Rattle.pipe_rules.proofs.Renumber.{schema-renumbered, rows-renumbered}
use Rattle.pipe_rules.proofs.Growing.{node-new, under-stays, schema-stays, rows-stays, schema-new, rows-new}
use Rattle.pipe_rules.proofs.Granted.{granted, ready, rows-granted, first_false, second_false}
use Rattle.pipe_rules.proofs.Counted.{any-last, size-made}
use Rattle.pipe_rules.proofs.Bounded.{filter-less, copy-less, within-input, within-inputs, last-reaches, one-within, sorting-renumbered}
use Rattle.pipe_rules.proofs.Literals.{pass-append, pass-more, conjuncts-pass, whole-passes, all-conjuncts-pass, above-pass, part-pass, copied-pass, node-passes}
use Rattle.pipe_rules.proofs.Faultless.{inputs-given}
use Rattle.pipe_rules.proofs.Typed.{IsKept, conjuncts-known}
use Rattle.pipe_rules.proofs.Sounding.{none-sound, both-sound, free-stays, last-free}
use Rattle.pipe_rules.proofs.Standing.{kept-above, copy-sound, filter-sound}

-- ---- what grows

pub grows-none : (old : List Node) → Grows old old
grows-none old = record { more = []; grown = sym (append-nil old) }

pub grows-one : (old : List Node) (x : Node) → Grows old (old ++ x ∷ [])
grows-one old x = record { more = x ∷ []; grown = refl }

pub grows-on : (a b c : List Node) → Grows a b → Grows b c → Grows a c
grows-on a b c g h = record { more = g.more ++ h.more; grown = h.grown ∙ ap (λ l. l ++ h.more) g.grown ∙ append_assoc a g.more h.more }

grown-longer : (a b : List Node) → Grows a b → length a ≤ length b
grown-longer a b g = (let e = length-append a g.more in let f : length b ≡ length (a ++ g.more) = ap length g.grown in omega arith)

-- ---- conjuncts of conjuncts

each-conjunct : (cs : List Formula) (s : List Field) (row : Row) → passes_each (all_conjuncts cs) s row ≡ passes_each cs s row
each-conjunct [] s row = refl
each-conjunct (c ∷ cs) s row =
    both-append (passes_one s row) (conjuncts_of c) (all_conjuncts cs)
    ∙ ap (λ t. t && passes_each (all_conjuncts cs) s row) (sym (each-passes c s row))
    ∙ ap (λ t. passes c s row && t) (each-conjunct cs s row)

-- one predicate in place of some
pub one-predicate : (p : Formula) (cs : List Formula) (s : List Field) (rows : List Row) → conjuncts_of p ≡ all_conjuncts cs → filter_rows p s rows ≡ filter_each cs s rows
one-predicate p cs s rows e =
    conjuncts-filter p s rows
    ∙ ap (λ l. filter_each l s rows) e
    ∙ filter-same (passes_each (all_conjuncts cs) s) (passes_each cs s) rows (all-always (λ row. passes_each (all_conjuncts cs) s row ≡ passes_each cs s row) (each-conjunct cs s) rows)

pub each-append : (a b : List Formula) (s : List Field) (rows : List Row) → filter_each (a ++ b) s rows ≡ filter_each b s (filter_each a s rows)
each-append [] b s rows = ap (filter_each b s) (sym (each-none s rows))
each-append (c ∷ a) b s rows =
    each-next c (a ++ b) s rows
    ∙ each-append a b s (filter_rows c s rows)
    ∙ ap (filter_each b s) (sym (each-next c a s rows))

nothing-left : {A : Type 0} (a b : List A) → a ++ b ≡ [] → a ≡ []
nothing-left [] b e = refl
nothing-left (x ∷ a) b e = absurd (let no_ : (x ∷ (a ++ b)) ≡ [] = e in cc)

-- a predicate has a conjunct
some-conjunct : (p : Formula) → conjuncts_of p ≡ [] → ⊥
some-conjunct (Column name) e = absurd (let no_ : (Column name ∷ []) ≡ [] = e in cc)
some-conjunct (Literal t value) e = absurd (let no_ : (Literal t value ∷ []) ≡ [] = e in cc)
some-conjunct (Add left right) e = absurd (let no_ : (Add left right ∷ []) ≡ [] = e in cc)
some-conjunct (Sub left right) e = absurd (let no_ : (Sub left right ∷ []) ≡ [] = e in cc)
some-conjunct (Mul left right) e = absurd (let no_ : (Mul left right ∷ []) ≡ [] = e in cc)
some-conjunct (Eq left right) e = absurd (let no_ : (Eq left right ∷ []) ≡ [] = e in cc)
some-conjunct (NotEq left right) e = absurd (let no_ : (NotEq left right ∷ []) ≡ [] = e in cc)
some-conjunct (Lt left right) e = absurd (let no_ : (Lt left right ∷ []) ≡ [] = e in cc)
some-conjunct (LtEq left right) e = absurd (let no_ : (LtEq left right ∷ []) ≡ [] = e in cc)
some-conjunct (Gt left right) e = absurd (let no_ : (Gt left right ∷ []) ≡ [] = e in cc)
some-conjunct (GtEq left right) e = absurd (let no_ : (GtEq left right ∷ []) ≡ [] = e in cc)
some-conjunct (And left right) e = some-conjunct left (nothing-left (conjuncts_of left) (conjuncts_of right) e)
some-conjunct (Or left right) e = absurd (let no_ : (Or left right ∷ []) ≡ [] = e in cc)
some-conjunct (Not inner) e = absurd (let no_ : (Not inner ∷ []) ≡ [] = e in cc)
some-conjunct (IsNull inner) e = absurd (let no_ : (IsNull inner ∷ []) ≡ [] = e in cc)
some-conjunct (IsNotNull inner) e = absurd (let no_ : (IsNotNull inner ∷ []) ≡ [] = e in cc)

-- what a list holds that has one number
reached-only : (nodes : List Node) (m k : ℕ) → is_under nodes k m ≡ true → list_any (is_reached nodes m) (k ∷ []) ≡ true
reached-only nodes m k e = ap (λ b. b || false) e

only : (i : ℕ) → member i (i ∷ []) ≡ true
only i = let self : eqb i i ≡ true = itself i in rw self refl

-- ---- a node

module _ (plan : Plan) (root : ℕ) (good : IsWellFormed plan root) (frames : FramesFit plan) where
  within-here : (n : ℕ) → is_under plan.nodes root n ≡ true → (limit : ℕ) → AreWithin plan n limit → length (rows_of plan n) ≤ limit
  within-here n under limit within = within n (under-self plan.nodes n (granted plan root n good under).there)

  -- a filter on the copy has no more rows
  filter-few : (made new : List Node) (n limit : ℕ) (p : Formula) (y : Node) → made ≡ new ++ y ∷ [] → length (rows_of plan n) ≤ limit → length (rows_of (over plan.frames (new ++ y ∷ [])) (length new)) ≤ length (rows_of plan n) → length (rows_of (over plan.frames (made ++ node.Filter (length new) p ∷ [])) (length made)) ≤ limit
  filter-few made new n limit p y is own few =
      let s = schema_of (over plan.frames made) (length new) in
      let copied : List Row = rows_of (over plan.frames made) (length new) in
      let kept : List Row = rows_of (over plan.frames (made ++ node.Filter (length new) p ∷ [])) (length made) in
      let filtered : kept ≡ filter_rows p s copied = rows-new plan.frames made (node.Filter (length new) p) in
      let less : length (filter_rows p s copied) ≤ length copied = filter-less (passes p s) copied in
      let a : length kept ≡ length (filter_rows p s copied) = ap length filtered in
      let b : length copied ≡ length (rows_of (over plan.frames (new ++ y ∷ [])) (length new)) = ap (λ l. length (rows_of (over plan.frames l) (length new))) is in
      omega arith

  -- the node over its rewritten inputs
  pub node-remade : (old new made : List Node) (n : ℕ) (cs : List Formula) (ks : List ℕ) → is_under plan.nodes root n ≡ true → AllByRecursion (IsKnown (schema_of plan n)) cs → (let x = node_at plan.nodes n in let parts = parted (schema_of plan) x cs in AreRewritten plan old new x parts (inputs_of x) ks) → made ≡ new ++ with_inputs (node_at plan.nodes n) ks ∷ [] → (schema_of (over plan.frames made) (length new) ≡ schema_of plan n) × (filter_each (parted (schema_of plan) (node_at plan.nodes n) cs).above (schema_of plan n) (rows_of (over plan.frames made) (length new)) ≡ filter_each cs (schema_of plan n) (rows_of plan n))
  node-remade old new made n cs ks under known inputs is =
      let x = node_at plan.nodes n in
      let y = with_inputs x ks in
      let s = schema_of plan in
      let parts = parted s x cs in
      let g = granted plan root n good under in
      let out = node_schema plan.frames s x in
      let below = rows_below s x parts (rows_of plan) in
      let schema_is : schema_of (over plan.frames made) (length new) ≡ schema_of plan n =
      ap (λ l. schema_of (over plan.frames l) (length new)) is ∙ schema-new plan.frames new y
      ∙ schema-renumbered plan.frames (schema_of (over plan.frames new)) s x ks inputs.schemas ∙ sym g.made in
      let rows_is : rows_of (over plan.frames made) (length new) ≡ node_rows plan.frames s below x =
      ap (λ l. rows_of (over plan.frames l) (length new)) is ∙ rows-new plan.frames new y
      ∙ rows-renumbered plan.frames (schema_of (over plan.frames new)) s (rows_of (over plan.frames new)) below x ks inputs.schemas inputs.rows in
      let known_out : AllByRecursion (IsKnown out) cs = subst (λ f. AllByRecursion (IsKnown f) cs) g.made known in (
        schema_is,
        ap (filter_each parts.above (s n)) rows_is
            ∙ ap (λ f. filter_each parts.above f (node_rows plan.frames s below x)) g.made
            ∙ sym (parts-down plan.frames s x cs (rows_of plan) (ready plan root n good frames under) known_out)
            ∙ ap (λ f. filter_each cs f (node_rows plan.frames s (rows_of plan) x)) (sym g.made)
            ∙ ap (filter_each cs (s n)) (sym (rows-granted plan root n good under)),
      )

  -- the copy has no more rows than the node
  copied-few : (old new : List Node) (n : ℕ) (cs : List Formula) (ks : List ℕ) → is_under plan.nodes root n ≡ true → AllByRecursion (IsKnown (schema_of plan n)) cs → (let x = node_at plan.nodes n in let parts = parted (schema_of plan) x cs in AreRewritten plan old new x parts (inputs_of x) ks) → length (rows_of (over plan.frames (new ++ with_inputs (node_at plan.nodes n) ks ∷ [])) (length new)) ≤ length (rows_of plan n)
  copied-few old new n cs ks under known inputs =
      let x = node_at plan.nodes n in
      let y = with_inputs x ks in
      let s = schema_of plan in
      let g = granted plan root n good under in
      let out = node_schema plan.frames s x in
      let below = rows_below s x (parted s x cs) (rows_of plan) in
      let made : List Row = rows_of (over plan.frames (new ++ y ∷ [])) (length new) in
      let copied : List Row = node_rows plan.frames s below x in
      let own : List Row = node_rows plan.frames s (rows_of plan) x in
      let rows_is : made ≡ copied =
      rows-new plan.frames new y
      ∙ rows-renumbered plan.frames (schema_of (over plan.frames new)) s (rows_of (over plan.frames new)) below x ks inputs.schemas inputs.rows in
      let less : length copied ≤ length own = copy-less plan.frames s x cs (rows_of plan) (ready plan root n good frames under) (subst (λ f. AllByRecursion (IsKnown f) cs) g.made known) in
      let a : length made ≡ length copied = ap length rows_is in
      let b : length (rows_of plan n) ≡ length own = ap length (rows-granted plan root n good under) in
      omega arith

  -- the copy, and what stands below it, are within what the plan is
  copied-within : (old new : List Node) (n : ℕ) (cs : List Formula) (ks : List ℕ) (limit : ℕ) → is_under plan.nodes root n ≡ true → AllByRecursion (IsKnown (schema_of plan n)) cs → (let x = node_at plan.nodes n in let parts = parted (schema_of plan) x cs in AreRewritten plan old new x parts (inputs_of x) ks) → AreWithin plan n limit → (m : ℕ) → length old ≤ m → m < length (new ++ with_inputs (node_at plan.nodes n) ks ∷ []) → length (rows_of (over plan.frames (new ++ with_inputs (node_at plan.nodes n) ks ∷ [])) m) ≤ limit
  copied-within old new n cs ks limit under known inputs within =
      let x = node_at plan.nodes n in
      let g = granted plan root n good under in
      let here = copied-few old new n cs ks under known inputs in
      let own = within n (under-self plan.nodes n g.there) in
      one-within plan.frames old new (with_inputs x ks) limit
      (inputs.within limit (within-inputs plan root n limit good under within (inputs_of x) (λ i m. m)))
      (omega arith)

  -- the literals of the copy, and of what stands below it, are the plan's
  copied-literals : (old new made : List Node) (n : ℕ) (cs : List Formula) (ks : List ℕ) (test : LiteralTest) → (let x = node_at plan.nodes n in let parts = parted (schema_of plan) x cs in AreRewritten plan old new x parts (inputs_of x) ks) → made ≡ new ++ with_inputs (node_at plan.nodes n) ks ∷ [] → list_all (node_literals_pass test) plan.nodes ≡ true → list_all (literals_pass test) cs ≡ true → list_all (node_literals_pass test) old ≡ true → list_all (node_literals_pass test) made ≡ true
  copied-literals old new made n cs ks test inputs is all own olds =
      let x = node_at plan.nodes n in
      pass-more test new made (with_inputs x ks) is (inputs.literals test all (part-pass test (schema_of plan) x cs own) olds) (copied-pass test x ks ∙ node-passes test plan.nodes n all)

  -- the node stands last, where no conjunct stays above it
  pub remade-bare : (old new made : List Node) (n : ℕ) (cs : List Formula) (ks : List ℕ) (k : ℕ) → is_under plan.nodes root n ≡ true → is_filter (node_at plan.nodes n) ≡ false → AllByRecursion (IsConjunct (schema_of plan n)) cs → (let x = node_at plan.nodes n in let parts = parted (schema_of plan) x cs in AreRewritten plan old new x parts (inputs_of x) ks) → made ≡ new ++ with_inputs (node_at plan.nodes n) ks ∷ [] → k ≡ length new → (parted (schema_of plan) (node_at plan.nodes n) cs).above ≡ [] → IsRewritten plan old made n cs k
  remade-bare old new made n cs ks k under plain typed inputs is at none =
      let x = node_at plan.nodes n in
      let y = with_inputs x ks in
      let parts = parted (schema_of plan) x cs in
      let both = node-remade old new made n cs ks under (conjuncts-known (schema_of plan n) cs typed) inputs is in
      let long : length made ≡ suc (length new) = (let e = length-append new (y ∷ []) in let f : length made ≡ length (new ++ y ∷ []) = ap length is in let z : length (y ∷ []) ≡ 1 = refl in omega arith) in
      record {
        grows = grows-on old new made inputs.grows (record { more = y ∷ []; grown = is });
        fresh = (let e = grown-longer old new inputs.grows in omega arith);
        last = omega arith;
        few = (let e = inputs.few in let z = size-made plan root good n under in omega arith);
        sound = subst (AreSound plan.frames old) (sym is) (copy-sound plan root good n under old new parts ks inputs plain);
        schema = ap (schema_of (over plan.frames made)) at ∙ both.0;
        rows =
            ap (rows_of (over plan.frames made)) at
            ∙ sym (each-none (schema_of plan n) (rows_of (over plan.frames made) (length new)))
            ∙ ap (λ l. filter_each l (schema_of plan n) (rows_of (over plan.frames made) (length new))) (sym none)
            ∙ both.1;
        whole = λ m above below. subst (λ l. is_under l k m ≡ true) (sym is) (subst (λ j. is_under (new ++ y ∷ []) j m ≡ true) (sym at)
            (last-reaches old new y ks (inputs-given plan.frames (schema_of (over plan.frames new)) (schema_of plan) x ks inputs.schemas) inputs.whole m above (subst (λ l. m < length l) is below)));
        sorts = λ no_conjunct sort. ap (λ l. sorting_of (node_at l k)) is ∙ ap (λ j. sorting_of (node_at (new ++ y ∷ []) j)) at ∙ ap sorting_of (node-new new y []) ∙ sorting-renumbered x ks;
        literals = λ test all own olds. copied-literals old new made n cs ks test inputs is all own olds;
        within = λ limit small m above below. subst (λ l. length (rows_of (over plan.frames l) m) ≤ limit) (sym is)
            (copied-within old new n cs ks limit under (conjuncts-known (schema_of plan n) cs typed) inputs small m above (subst (λ l. m < length l) is below));
      }

  -- a filter of the conjuncts that stay stands last
  pub remade-under : (old new made whole : List Node) (n : ℕ) (cs : List Formula) (ks : List ℕ) (k : ℕ) (p : Formula) → is_under plan.nodes root n ≡ true → is_filter (node_at plan.nodes n) ≡ false → AllByRecursion (IsConjunct (schema_of plan n)) cs → (let x = node_at plan.nodes n in let parts = parted (schema_of plan) x cs in AreRewritten plan old new x parts (inputs_of x) ks) → made ≡ new ++ with_inputs (node_at plan.nodes n) ks ∷ [] → whole ≡ made ++ node.Filter (length new) p ∷ [] → k ≡ length made → conjuncts_of p ≡ all_conjuncts (parted (schema_of plan) (node_at plan.nodes n) cs).above → IsRewritten plan old whole n cs k
  remade-under old new made whole n cs ks k p under plain typed inputs is whole_is at conjuncts =
      let x = node_at plan.nodes n in
      let y = with_inputs x ks in
      let f = node.Filter (length new) p in
      let parts = parted (schema_of plan) x cs in
      let above = parts.above in
      let both = node-remade old new made n cs ks under (conjuncts-known (schema_of plan n) cs typed) inputs is in
      let long : length made ≡ suc (length new) = (let e = length-append new (y ∷ []) in let f : length made ≡ length (new ++ y ∷ []) = ap length is in let z : length (y ∷ []) ≡ 1 = refl in omega arith) in
      let longer : length whole ≡ suc (length made) = (let e = length-append made (f ∷ []) in let g : length whole ≡ length (made ++ f ∷ []) = ap length whole_is in let z : length (f ∷ []) ≡ 1 = refl in omega arith) in
      let kept = subst (AllByRecursion (IsKept (schema_of plan n) (schema_of plan) x)) (sym conjuncts) (kept-above plan root good frames n under cs typed) in
      let sound = filter-sound plan root good n under old new parts ks inputs plain p kept in
      record {
        grows = grows-on old made whole (grows-on old new made inputs.grows (record { more = y ∷ []; grown = is })) (record { more = f ∷ []; grown = whole_is });
        fresh = (let e = grown-longer old new inputs.grows in omega arith);
        last = omega arith;
        few = (let e = inputs.few in let z = size-made plan root good n under in omega arith);
        sound = subst (AreSound plan.frames old) (ap (λ l. l ++ f ∷ []) (sym is) ∙ sym whole_is) sound;
        schema = ap (schema_of (over plan.frames whole)) at ∙ ap (λ l. schema_of (over plan.frames l) (length made)) whole_is ∙ schema-new plan.frames made f ∙ both.0;
        rows =
            ap (rows_of (over plan.frames whole)) at
            ∙ ap (λ l. rows_of (over plan.frames l) (length made)) whole_is
            ∙ rows-new plan.frames made f
            ∙ one-predicate p above (schema_of (over plan.frames made) (length new)) (rows_of (over plan.frames made) (length new)) conjuncts
            ∙ ap (λ s. filter_each above s (rows_of (over plan.frames made) (length new))) both.0
            ∙ both.1;
        whole = λ m above below. subst (λ l. is_under l k m ≡ true) (sym whole_is) (subst (λ j. is_under (made ++ f ∷ []) j m ≡ true) (sym at)
            (last-reaches old made f (length new ∷ []) refl (λ j over_j under_j. reached-only made j (length new) (subst (λ l. is_under l (length new) j ≡ true) (sym is)
            (last-reaches old new y ks (inputs-given plan.frames (schema_of (over plan.frames new)) (schema_of plan) x ks inputs.schemas) inputs.whole j over_j (subst (λ l. j < length l) is under_j))))
            m above (subst (λ l. m < length l) whole_is below)));
        sorts = λ none sort. absurd (some-conjunct p (conjuncts ∙ ap (λ l. all_conjuncts (parted (schema_of plan) x l).above) none));
        literals = λ test all own olds. pass-more test made whole f whole_is (copied-literals old new made n cs ks test inputs is all own olds)
            (whole-passes test p (ap (list_all (literals_pass test)) conjuncts ∙ all-conjuncts-pass test above (above-pass test (schema_of plan) x cs own)));
        within = λ limit small m above below. subst (λ l. length (rows_of (over plan.frames l) m) ≤ limit) (sym whole_is)
            (one-within plan.frames old made f limit
            (λ j over_j under_j. subst (λ l. length (rows_of (over plan.frames l) j) ≤ limit) (sym is)
            (copied-within old new n cs ks limit under (conjuncts-known (schema_of plan n) cs typed) inputs small j over_j (subst (λ l. j < length l) is under_j)))
            (filter-few made new n limit p y is (within-here n under limit small) (copied-few old new n cs ks under (conjuncts-known (schema_of plan n) cs typed) inputs))
            m above (subst (λ l. m < length l) whole_is below));
      }

  -- a filter's conjuncts go on below it
  pub filter-rewritten : (old new : List Node) (n input : ℕ) (predicate : Formula) (cs all : List Formula) (k : ℕ) → is_under plan.nodes root n ≡ true → node_at plan.nodes n ≡ node.Filter input predicate → all ≡ cs ++ conjuncts_of predicate → IsRewritten plan old new input all k → IsRewritten plan old new n cs k
  filter-rewritten old new n input predicate cs all k under is made inner =
      let g = granted plan root n good under in
      let s : schema_of plan n ≡ schema_of plan input = g.made ∙ ap (node_schema plan.frames (schema_of plan)) is in
      let r : rows_of plan n ≡ filter_rows predicate (schema_of plan input) (rows_of plan input) = rows-granted plan root n good under ∙ ap (node_rows plan.frames (schema_of plan) (rows_of plan)) is in
      record {
        grows = inner.grows;
        fresh = inner.fresh;
        last = inner.last;
        few = (let e = inner.few in let z = size-made plan root good n under in let i : sum_of (size_of plan.nodes) (inputs_of (node_at plan.nodes n)) ≡ size_of plan.nodes input + 0 = ap (λ x. sum_of (size_of plan.nodes) (inputs_of x)) is in omega arith);
        sound = inner.sound;
        schema = inner.schema ∙ sym s;
        rows =
            inner.rows
            ∙ ap (λ l. filter_each l (schema_of plan input) (rows_of plan input)) made
            ∙ each-append cs (conjuncts_of predicate) (schema_of plan input) (rows_of plan input)
            ∙ filter-swap (passes_each (conjuncts_of predicate) (schema_of plan input)) (passes_each cs (schema_of plan input)) (rows_of plan input)
            ∙ ap (filter_each cs (schema_of plan input)) (sym (conjuncts-filter predicate (schema_of plan input) (rows_of plan input)))
            ∙ ap (filter_each cs (schema_of plan input)) (sym r)
            ∙ ap (λ f. filter_each cs f (rows_of plan n)) (sym s);
        whole = inner.whole;
        sorts = λ none sort. absurd (let no_sort : is_sort (node.Filter input predicate) ≡ true = sym (ap is_sort is) ∙ sort in cc);
        literals = λ test every own olds. inner.literals test every
            (ap (list_all (literals_pass test)) made ∙ pass-append (literals_pass test) cs (conjuncts_of predicate) own (conjuncts-pass test predicate (sym (ap (node_literals_pass test) is) ∙ node-passes test plan.nodes n every)))
            olds;
        within = λ limit small. inner.within limit (within-input plan root n limit input good under (ap (λ x. member input (inputs_of x)) is ∙ only input) small);
      }

-- ---- the inputs, one after another

module _ (plan : Plan) (x : Node) (parts : Parts) where
  pub none-rewritten : (old : List Node) → AreRewritten plan old old x parts [] []
  none-rewritten old = record { grows = grows-none old; few = omega arith; sound = none-sound plan.frames old; free = tt; once = refl; schemas = refl; rows = refl; whole = λ m above below. absurd (omega arith); within = λ limit small m above below. absurd (omega arith); literals = λ test all own olds. olds }

  map-push : {A B : Type 0} (f : A → B) (ys : List A) (y : A) → map f (ys ++ y ∷ []) ≡ map f ys ++ f y ∷ []
  map-push f [] y = refl
  map-push f (z ∷ ys) y = ap (λ l. f z ∷ l) (map-push f ys y)

  take-push : {A B : Type 0} (f : A → B) (xs : List A) (i : ℕ) (d : A) → i < length xs → map f (take i xs) ++ f (get_or xs i d) ∷ [] ≡ map f (take (suc i) xs)
  take-push f [] i d h = absurd (omega arith)
  take-push f (y ∷ xs) zero d h = refl
  take-push f (y ∷ xs) (suc i) d h = ap (λ l. f y ∷ l) (take-push f xs i d (omega arith))

  take-item : {B : Type 0} (xs : List B) (i : ℕ) (d : B) → i < length xs → take i xs ++ get_or xs i d ∷ [] ≡ take (suc i) xs
  take-item [] i d h = absurd (omega arith)
  take-item (y ∷ xs) zero d h = refl
  take-item (y ∷ xs) (suc i) d h = ap (λ l. y ∷ l) (take-item xs i d (omega arith))

  map-next : {A : Type 0} (f g : ℕ → A) (ks ns : List ℕ) (i k n : ℕ) → map f ks ≡ map g (take i ns) → i < length ns → n ≡ get_or ns i n → f k ≡ g n → map f (ks ++ k ∷ []) ≡ map g (take (suc i) ns)
  map-next f g ks ns i k n so_far lt is same =
      map-push f ks k ∙ ap (λ l. l ++ f k ∷ []) so_far ∙ ap (λ a. map g (take i ns) ++ a ∷ []) (same ∙ ap g is) ∙ take-push g ns i n lt

  map-stays : {A : Type 0} (f g : ℕ → A) (P : ℕ → Type 0) (ks : List ℕ) → ((k : ℕ) → P k → f k ≡ g k) → AllByRecursion P ks → map f ks ≡ map g ks
  map-stays f g P [] h all = refl
  map-stays f g P (k ∷ ks) h all = ap (λ a. a ∷ map f ks) (h k all.0) ∙ ap (λ l. g k ∷ l) (map-stays f g P ks h all.1)

  sum-push : (f : ℕ → ℕ) (xs : List ℕ) (i : ℕ) (d : ℕ) → i < length xs → sum_of f (take (suc i) xs) ≡ sum_of f (take i xs) + f (get_or xs i d)
  sum-push f [] i d h = absurd (omega arith)
  sum-push f (y ∷ xs) zero d h = omega arith
  sum-push f (y ∷ xs) (suc i) d h = (let rest = sum-push f xs i d (omega arith) in omega arith)

  -- numbers that are less than one more
  once-push : (limit : ℕ) (ks : List ℕ) (k : ℕ) → AllByRecursion (λ m. m < limit) ks → limit ≤ k → repeats ks ≡ false → repeats (ks ++ k ∷ []) ≡ false
  once-push limit [] k less le once = refl
  once-push limit (m ∷ ks) k less le once =
      let apart : eqb k m ≡ false = different k m (λ same. (let lt = less.0 in omega arith)) in
      let alone : member m ks ≡ false = first_false (member m ks) (repeats ks) once in
      let here : member m (ks ++ k ∷ []) ≡ false = any-last (λ j. eqb j m) ks k ∙ ap (λ b. b || eqb k m) alone ∙ apart in
      ap (λ b. b || repeats (ks ++ k ∷ [])) here ∙ once-push limit ks k less.1 le (second_false (member m ks) (repeats ks) once)

  -- what is under numbers that stood
  reached-stay : (middle more new : List Node) (m : ℕ) (ks : List ℕ) → new ≡ middle ++ more → AllByRecursion (λ k. k < length middle) ks → list_any (is_reached new m) ks ≡ list_any (is_reached middle m) ks
  reached-stay middle more new m [] is less = refl
  reached-stay middle more new m (k ∷ ks) is less =
      ap (λ b. b || list_any (is_reached new m) ks) (ap (λ l. is_under l k m) is ∙ under-stays middle more k m less.0)
      ∙ ap (λ b. is_reached middle m k || b) (reached-stay middle more new m ks is less.1)

  or-last : (a b : Bool) → b ≡ true → (a || b) ≡ true
  or-last true b e = refl
  or-last false b e = e

  take-last : (ns : List ℕ) (i n : ℕ) → i < length ns → n ≡ get_or ns i n → take i ns ++ n ∷ [] ≡ take (suc i) ns
  take-last ns i n lt is = ap (λ k. take i ns ++ k ∷ []) is ∙ take-item ns i n lt

  pub next-rewritten : (old middle new : List Node) (ns ks : List ℕ) (i n k : ℕ) → AreRewritten plan old middle x parts (take i ns) ks → i < length ns → n ≡ get_or ns i n → IsRewritten plan middle new n (part_for x parts n) k → AreRewritten plan old new x parts (take (suc i) ns) (ks ++ k ∷ [])
  next-rewritten old middle new ns ks i n k before lt is one =
      let more = one.grows.more in
      let new_is = one.grows.grown in
      let below : AllByRecursion (λ m. m < length middle) ks = all-of (IsFree old middle) (λ m. m < length middle) (λ m free. free.there) ks before.free in
      let schemas : map (schema_of (over plan.frames new)) ks ≡ map (schema_of (over plan.frames middle)) ks = map-stays (schema_of (over plan.frames new)) (schema_of (over plan.frames middle)) (λ m. m < length middle) ks (λ m below. ap (λ l. schema_of (over plan.frames l) m) new_is ∙ schema-stays plan.frames middle more m below) below in
      let rows : map (rows_of (over plan.frames new)) ks ≡ map (rows_of (over plan.frames middle)) ks = map-stays (rows_of (over plan.frames new)) (rows_of (over plan.frames middle)) (λ m. m < length middle) ks (λ m below. ap (λ l. rows_of (over plan.frames l) m) new_is ∙ rows-stays plan.frames middle more m below) below in
      let le : length old ≤ length middle = grown-longer old middle before.grows in
      let sound = both-sound plan.frames old middle new one.grows before.sound le one.sound in
      record {
        grows = grows-on old middle new before.grows one.grows;
        few = (let a = before.few in let b = one.few in let c = sum-push (size_of plan.nodes) ns i n lt in let d : size_of plan.nodes n ≡ size_of plan.nodes (get_or ns i n) = ap (size_of plan.nodes) is in omega arith);
        sound = sound;
        free =
            all-append (IsFree old new) ks (k ∷ [])
            (all-of (IsFree old middle) (IsFree old new) (λ m free. free-stays plan.frames old middle new one.grows m free one.sound) ks before.free)
            (last-free plan.frames old middle new one.grows k le one.fresh one.last sound, tt);
        once = once-push (length middle) ks k below one.fresh before.once;
        schemas = map-next (schema_of (over plan.frames new)) (schema_of plan) ks ns i k n (schemas ∙ before.schemas) lt is one.schema;
        rows = map-next (rows_of (over plan.frames new)) (rows_below (schema_of plan) x parts (rows_of plan)) ks ns i k n (rows ∙ before.rows) lt is one.rows;
        whole = λ m above less. (
            let split : (m < length middle) ⊎ (length middle ≤ m) → (list_any (is_reached new m) ks || is_reached new m k) ≡ true = elim [
              | inl l ↦ (let yes : list_any (is_reached new m) ks ≡ true = reached-stay middle more new m ks new_is below ∙ before.whole m above l in ap (λ b. b || is_reached new m k) yes)
              | inr g ↦ or-last (list_any (is_reached new m) ks) (is_reached new m k) (one.whole m g less)
            ] in any-last (is_reached new m) ks k ∙ split (cases_lt m (length middle)));
        within = λ limit small m above less. (
            let all = subst (AllByRecursion (λ j. AreWithin plan j limit)) (sym (take-last ns i n lt is)) small in
            let split : (m < length middle) ⊎ (length middle ≤ m) → length (rows_of (over plan.frames new) m) ≤ limit = elim [
              | inl l ↦ (let same : length (rows_of (over plan.frames new) m) ≡ length (rows_of (over plan.frames middle) m) = ap (λ q. length (rows_of (over plan.frames q) m)) new_is ∙ ap length (rows-stays plan.frames middle more m l) in let fits = before.within limit (all-left (λ j. AreWithin plan j limit) (take i ns) (n ∷ []) all) m above l in omega arith)
              | inr g ↦ one.within limit (all-right (λ j. AreWithin plan j limit) (take i ns) (n ∷ []) all).0 m g less
            ] in split (cases_lt m (length middle)));
        literals = λ test all own olds. one.literals test all (own n) (before.literals test all own olds);
      }

  take-whole : {A : Type 0} (xs : List A) (i : ℕ) → length xs ≤ i → take i xs ≡ xs
  take-whole [] zero h = refl
  take-whole [] (suc i) h = refl
  take-whole (y ∷ xs) zero h = absurd (omega arith)
  take-whole (y ∷ xs) (suc i) h = ap (λ l. y ∷ l) (take-whole xs i (omega arith))

  pub all-rewritten : (old new : List Node) (ns ks : List ℕ) (i : ℕ) → AreRewritten plan old new x parts (take i ns) ks → length ns ≤ i → AreRewritten plan old new x parts ns ks
  all-rewritten old new ns ks i so_far end = subst (λ l. AreRewritten plan old new x parts l ks) (take-whole ns i end) so_far
