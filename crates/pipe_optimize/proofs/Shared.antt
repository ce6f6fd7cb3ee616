-- Names that are looked up among few: only those count that are looked for.
use Rattle.std.proofs.lemmas.Bool.Decides.{Decides-eqb}
use Rattle.std.proofs.Common.{◌≡◌, ◌<◌, ℕ, zero, suc, ◌+◌, Bool, true, false, cond, not, ◌&&◌, ◌||◌, List, [], ◌∷◌, ◌++◌, length, get_or, take, map, refl, ap, sym, ◌∙◌, subst, arith}
use Rattle.std.specs.Prelude.{filter}
use Rattle.std.specs.List.{AllByRecursion}
use Rattle.std.specs.Str.{bytes_eq}
use Rattle.pipe_schema.specs.Schema.{has_name}
use Rattle.pipe_expr.specs.declared.expr.Expr.{Expr}
use Rattle.pipe_expr.specs.Formula.{NamedFormula, formula_of}
use Rattle.pipe_expr.specs.Projections.{expr_name, renamed}
use Rattle.pipe_expr.specs.declared.join_words.RenamePair.{RenamePair}
use Rattle.pipe_expr.specs.Joins.{makes_pairs}
use Rattle.pipe_plan.specs.Node.{node_of}
use Rattle.pipe_plan.specs.declared.ir.IR.{IR}
use Rattle.pipe_plan.specs.declared.ir.IR.TheVariants as ir
use Rattle.pipe_plan.specs.declared.ir.JoinOptions.{JoinOptions}
use Rattle.pipe_events.proofs.Lists.{all-filter}
use Rattle.pipe_rules.proofs.Filters.{all-of, filter-same, filter-constant}
use Rattle.pipe_rules.proofs.Under.{own-name}
use Rattle.pipe_rules.specs.Needs.{needed_exprs, columns_read, is_needed}
use Rattle.pipe_rules.proofs.Kept.{has-kept, kept-has, all-in, map-all, all-true}
use Rattle.pipe_optimize.specs.Sides.{is_fresh, fresh_names, is_either, is_needed_anew, has_existing, keeps_name, suffixed_by, right_needed, kept_right_of, kept_left_of, kept_by}
use Rattle.pipe_optimize.proofs.NameLists.{clash, never, or-left, or-right, has-map}
use Rattle.pipe_optimize.proofs.Steps.{take-next}

same-left : (left right : List (List ℕ)) (name : List ℕ) → has_name right name ≡ true → has_name (filter (has_name right) left) name ≡ has_name left name
same-left left right name e =
    let split : (b : Bool) → has_name left name ≡ b → has_name (filter (has_name right) left) name ≡ b = elim [
      | true ↦ λ h. has-kept (has_name right) left name h e
      | false ↦ λ h. never (has_name (filter (has_name right) left) name) (λ f. clash (has_name left name) (kept-has (has_name right) left name f).0 h)
    ] in split (has_name left name) refl

-- those of some names that the left ones have tell of each of them
same-right : (left right : List (List ℕ)) (name : List ℕ) → has_name right name ≡ true → has_name (filter (has_name left) right) name ≡ has_name left name
same-right left right name e =
    let split : (b : Bool) → has_name left name ≡ b → has_name (filter (has_name left) right) name ≡ b = elim [
      | true ↦ λ h. has-kept (has_name left) right name e h
      | false ↦ λ h. never (has_name (filter (has_name left) right) name) (λ f. clash (has_name left name) (kept-has (has_name left) right name f).1 h)
    ] in split (has_name left name) refl

-- the right names as they are shown
pub shown-shared : (left right : List (List ℕ)) (suffix : List ℕ) (p : List ℕ → Bool) (old new : List (List ℕ)) → new ≡ old ++ map (suffixed_by (filter (has_name left) right) suffix) (filter p right) → new ≡ old ++ map (suffixed_by left suffix) (filter p right)
shown-shared left right suffix p old new made =
    let shared = filter (has_name left) right in
    made ∙ ap (λ l. old ++ l) (map-all (suffixed_by shared suffix) (suffixed_by left suffix) (filter p right)
    (all-of (λ n. has_name right n ≡ true) (λ n. suffixed_by shared suffix n ≡ suffixed_by left suffix n) (λ n e. ap (λ b. cond b (n ++ suffix) n) (same-right left right n e)) (filter p right)
    (all-filter (λ n. has_name right n ≡ true) p right (all-in right))))

-- the right names that are needed
pub needed-shared : (left right keys read needed : List (List ℕ)) (options : JoinOptions) (kept : List (List ℕ)) → kept ≡ filter (right_needed (filter (has_name left) right) keys read needed options) right → kept ≡ filter (right_needed left keys read needed options) right
needed-shared left right keys read needed options kept made =
    let shared = filter (has_name left) right in
    made ∙ filter-same (right_needed shared keys read needed options) (right_needed left keys read needed options) right
    (all-of (λ n. has_name right n ≡ true) (λ n. right_needed shared keys read needed options n ≡ right_needed left keys read needed options n)
    (λ n e. ap (λ b. makes_pairs options.how && keeps_name keys options n && has_name needed (cond b (n ++ options.suffix) n) || has_name read n) (same-right left right n e)) right (all-in right))

pub ruleset shared_rules = (shown-shared, needed-shared)

-- ---- needed names under which a right column is shown

-- the needed names among those that are shown decide for each right name
pub needed-shown : (left right keys read needed old shown : List (List ℕ)) (options : JoinOptions) (kept : List (List ℕ)) → old ≡ [] → shown ≡ old ++ map (suffixed_by left options.suffix) (filter (keeps_name keys options) right) → kept ≡ filter (right_needed left keys read (filter (has_name shown) needed) options) right → kept ≡ filter (right_needed left keys read needed options) right
needed-shown left right keys read needed old shown options kept none made is =
    let s = suffixed_by left options.suffix in
    let wanted = filter (has_name shown) needed in
    let all : shown ≡ map s (filter (keeps_name keys options) right) = made ∙ ap (λ l. l ++ map s (filter (keeps_name keys options) right)) none in
    is ∙ filter-same (right_needed left keys read wanted options) (right_needed left keys read needed options) right
    (all-of (λ n. has_name right n ≡ true) (λ n. right_needed left keys read wanted options n ≡ right_needed left keys read needed options n)
    (λ n e. (
    let split : (m b : Bool) → keeps_name keys options n ≡ b → (m && b && has_name wanted (s n) || has_name read n) ≡ (m && b && has_name needed (s n) || has_name read n) = elim [
      | true ↦ elim [
        | true ↦ λ k. (
            let there : has_name shown (s n) ≡ true = ap (λ l. has_name l (s n)) all ∙ has-map s (filter (keeps_name keys options) right) n (has-kept (keeps_name keys options) right n e k) in
            ap (λ b. b || has_name read n) (same-left needed shown (s n) there))
        | false ↦ λ k. refl
      ]
      | false ↦ elim [
        | true ↦ λ k. refl
        | false ↦ λ k. refl
      ]
    ] in split (makes_pairs options.how) (keeps_name keys options n) refl)) right (all-in right))

-- ---- names of expressions

own-names : (exprs : List NamedFormula) → AllByRecursion (λ e. has_name (map expr_name exprs) e.name ≡ true) exprs
own-names [] = tt
own-names (x ∷ exprs) = (
  (let own = own-name x.name in or-left (bytes_eq x.name x.name) (has_name (map expr_name exprs) x.name) own),
  all-of (λ e. has_name (map expr_name exprs) e.name ≡ true) (λ e. has_name (map expr_name (x ∷ exprs)) e.name ≡ true) (λ e h. or-right (bytes_eq x.name e.name) (has_name (map expr_name exprs) e.name) h) exprs (own-names exprs),
)

-- what the expressions under needed names read
pub read-shared : (needed : List (List ℕ)) (exprs : List NamedFormula) (read : List (List ℕ)) → read ≡ columns_read (needed_exprs (has_name (filter (has_name (map expr_name exprs)) needed)) exprs) → read ≡ columns_read (needed_exprs (has_name needed) exprs)
read-shared needed exprs read made =
    let wanted = filter (has_name (map expr_name exprs)) needed in
    made ∙ ap columns_read (filter-same (is_needed (has_name wanted)) (is_needed (has_name needed)) exprs
    (all-of (λ e. has_name (map expr_name exprs) e.name ≡ true) (λ e. is_needed (has_name wanted) e ≡ is_needed (has_name needed) e) (λ e h. same-left needed (map expr_name exprs) e.name h) exprs (own-names exprs)))

-- the names of expressions that an input lacks
pub fresh-shared : (input : List (List ℕ)) (exprs : List NamedFormula) (old new : List (List ℕ)) → new ≡ old ++ fresh_names (filter (has_name input) (map expr_name exprs)) exprs → new ≡ old ++ fresh_names input exprs
fresh-shared input exprs old new made =
    let shared = filter (has_name input) (map expr_name exprs) in
    made ∙ ap (λ l. old ++ map expr_name l) (filter-same (is_fresh shared) (is_fresh input) exprs
    (all-of (λ e. has_name (map expr_name exprs) e.name ≡ true) (λ e. is_fresh shared e ≡ is_fresh input e) (λ e h. ap not (same-right input (map expr_name exprs) e.name h)) exprs (own-names exprs)))

-- ---- names at the start of others

pub stands : (names : List (List ℕ)) (i : ℕ) (x name : List ℕ) → i < length names → x ≡ get_or names i x → bytes_eq x name ≡ true → has_name names name ≡ true
stands [] i x name lt is e = absurd (omega arith)
stands (n ∷ names) zero x name lt is e = or-left (bytes_eq n name) (has_name names name) (ap (λ q. bytes_eq q name) (sym is) ∙ e)
stands (n ∷ names) (suc i) x name lt is e = or-right (bytes_eq n name) (has_name names name) (stands names i x name (omega arith) is e)

pub ruleset place_rules = stands

all-push : {A : Type 0} (P : A → Type 0) (xs : List A) (x : A) → AllByRecursion P xs → P x → AllByRecursion P (xs ++ x ∷ [])
all-push P [] x h p = (p, tt)
all-push P (y ∷ xs) x h p = (h.0, all-push P xs x h.1 p)

-- one name more that stands among others
pub next-begun : (others names : List (List ℕ)) (i : ℕ) (x name : List ℕ) → i < length others → x ≡ get_or others i x → i < length names → name ≡ get_or names i name → bytes_eq x name ≡ true → AllByRecursion (λ n. has_name others n ≡ true) (take i names) → AllByRecursion (λ n. has_name others n ≡ true) (take (i + 1) names)
next-begun others names i x name there is lt at same before =
    subst (AllByRecursion (λ n. has_name others n ≡ true)) (sym (take-next names i name lt at))
    (all-push (λ n. has_name others n ≡ true) (take i names) name before (stands others i x name there is same))

-- all of them are kept
pub all-begun : (needed read names kept : List (List ℕ)) (begins : Bool) → begins ≡ true → (begins ≡ true → AllByRecursion (λ n. has_name needed n ≡ true) names) → kept ≡ names → kept ≡ filter (is_either needed read) names
all-begun needed read names kept begins begun all is =
    is ∙ sym (all-true (is_either needed read) names
    (all-of (λ n. has_name needed n ≡ true) (λ n. is_either needed read n ≡ true) (λ n h. or-left (has_name needed n) (has_name read n) h) names (all begun)))

pub ruleset begun_rules = all-begun

-- ---- names that renamings give

-- one column more that gets a name among others
pub next-given : (others : List (List ℕ)) (pairs : List RenamePair) (names : List (List ℕ)) (i : ℕ) (x name : List ℕ) → i < length others → x ≡ get_or others i x → i < length names → name ≡ get_or names i name → bytes_eq x (renamed pairs name) ≡ true → AllByRecursion (λ n. is_needed_anew others pairs n ≡ true) (take i names) → AllByRecursion (λ n. is_needed_anew others pairs n ≡ true) (take (i + 1) names)
next-given others pairs names i x name there is lt at same before =
    subst (AllByRecursion (λ n. is_needed_anew others pairs n ≡ true)) (sym (take-next names i name lt at))
    (all-push (λ n. is_needed_anew others pairs n ≡ true) (take i names) name before (stands others i x (renamed pairs name) there is same))

-- all of them are kept
pub all-given : (needed : List (List ℕ)) (pairs : List RenamePair) (names kept : List (List ℕ)) (begins : Bool) → begins ≡ true → (begins ≡ true → AllByRecursion (λ n. is_needed_anew needed pairs n ≡ true) names) → kept ≡ names → kept ≡ filter (is_needed_anew needed pairs) names
all-given needed pairs names kept begins begun all is = is ∙ sym (all-true (is_needed_anew needed pairs) names (all begun))

pub ruleset given_rules = all-given

-- ---- renamed columns

-- one renaming more whose column is there
pub next-existing : (names : List (List ℕ)) (pairs : List RenamePair) (i : ℕ) (pair : RenamePair) → i < length pairs → pair ≡ get_or pairs i pair → has_name names pair.existing ≡ true → AllByRecursion (λ p. has_existing names p ≡ true) (take i pairs) → AllByRecursion (λ p. has_existing names p ≡ true) (take (i + 1) pairs)
next-existing names pairs i pair lt at there before =
    subst (AllByRecursion (λ p. has_existing names p ≡ true)) (sym (take-next pairs i pair lt at))
    (all-push (λ p. has_existing names p ≡ true) (take i pairs) pair before there)

-- all of them are kept
pub all-existing : (names : List (List ℕ)) (pairs slice : List RenamePair) (has : Bool) → has ≡ true → (has ≡ true → AllByRecursion (λ p. has_existing names p ≡ true) slice) → slice ≡ pairs → pairs ≡ filter (has_existing names) pairs
all-existing names pairs slice has true_ all is =
    sym (filter-constant (has_existing names) true pairs (subst (AllByRecursion (λ p. has_existing names p ≡ true)) is (all true_)))

-- ---- what a join needs of its left input

pub left-kept : (names : ℕ → List (List ℕ)) (x : IR) (needed : List (List ℕ)) (input left right : ℕ) (left_on right_on : List Expr) (options : JoinOptions) (l r : List (List ℕ)) (lo ro : List Expr) → x ≡ ir.Join left right left_on right_on options → input ≡ left → l ≡ names left → r ≡ names right → lo ≡ left_on → ro ≡ right_on → kept_left_of l (map formula_of lo) needed (kept_right_of l r (map formula_of ro) needed options) ≡ kept_by names (node_of x) needed input
left-kept names x needed input left right left_on right_on options l r lo ro is own lefts rights lefts_on rights_on =
    let kept : List (List ℕ) → List (List ℕ) → List Expr → List Expr → List (List ℕ) = λ a b c d. kept_left_of a (map formula_of c) needed (kept_right_of a b (map formula_of d) needed options) in
    ap (λ a. kept a r lo ro) lefts
    ∙ ap (λ b. kept (names left) b lo ro) rights
    ∙ ap (λ c. kept (names left) (names right) c ro) lefts_on
    ∙ ap (λ d. kept (names left) (names right) left_on d) rights_on
    ∙ sym (ap (λ b. cond b (kept (names left) (names right) left_on right_on) (kept_right_of (names left) (names input) (map formula_of right_on) needed options)) ((Decides-eqb input left).1 own))
    ∙ sym (ap (λ y. kept_by names (node_of y) needed input) is)
