-- Joins over what is left of their sides.
use Rattle.std.proofs.Common.{◌≡◌, ℕ, Bool, true, false, not, cond, eqb, ◌||◌, ◌&&◌, List, [], ◌∷◌, ◌++◌, map, None, refl, ap, sym, ◌∙◌}
use Rattle.std.specs.Prelude.{filter, is_none}
use Rattle.std.specs.List.{AllByRecursion, list_any}
use Rattle.pipe_frame.specs.Frame.{Table}
use Rattle.pipe_schema.specs.Schema.{name_of, has_name, names_of, first_repeated, first_unknown}
use Rattle.pipe_schema.specs.declared.field.Field.{Field}
use Rattle.pipe_expr.specs.Formula.{Formula}
use Rattle.pipe_expr.specs.Types.{columns_in, type_of}
use Rattle.pipe_expr.specs.Joins.{Join, makes_pairs, column_names, is_kept, suffixed_name, suffixed, pair_fields, join_fields}
use Rattle.pipe_plan.specs.Node.{Node}
use Rattle.pipe_plan.specs.Node as node
use Rattle.pipe_plan.specs.Schemas.{join_over}
use Rattle.pipe_plan.specs.Faults.{or_else, is_empty, eq_types, has_no_type, keys_differ, keys_mistyped, repeats}
use Rattle.pipe_plan.specs.declared.ir.JoinOptions.{JoinOptions}
use Rattle.pipe_rules.specs.Placed.{is_input}
use Rattle.pipe_rules.proofs.Filters.{all-of, all-left, all-right, all-always, filter-same, filter-map, filter-append, filter-both}
use Rattle.pipe_rules.proofs.Down.{and-first, and-second, or-first}
use Rattle.pipe_check.proofs.Walks.{itself}
use Rattle.pipe_rules.proofs.Renumber.{heads, two}
use Rattle.pipe_rules.specs.Needs.{Names, need, keys_read, is_shown, right_need, left_need}
use Rattle.pipe_rules.specs.Narrowed.{narrow_node}
use Rattle.pipe_rules.proofs.Kept.{kept-has, has-kept, kept-once, all-in, IsThere, there-all}
use Rattle.pipe_optimize.proofs.NameLists.{first-is, next-is, second-one, and-true, or-left, or-right, clash, never, head-has, Begins, all-kept, has-first, has-second, has-either, once-right, once-clash, once-both, has-map, map-from, once-map, map-apart}
use Rattle.pipe_optimize.proofs.Cut.{IsCut, cut-there, cut-has, cut-known, cut-type, cut-narrower}
use Rattle.pipe_optimize.proofs.Over.{IsOver, IsServed, met-true, out-once, none-first, none-second}
use Rattle.pipe_optimize.proofs.Plain.{map-same, names-append}

-- ---- keys

untyped-still : (needed : Names) (s t : List Field) (cut : IsCut needed s t) (on : List Formula) → AllByRecursion (IsThere needed s) (keys_read on) → list_any (has_no_type t) on ≡ list_any (has_no_type s) on
untyped-still needed s t cut [] h = refl
untyped-still needed s t cut (f ∷ on) h =
    ap (λ o. is_none o || list_any (has_no_type t) on) (cut-type needed s t cut f (all-left (IsThere needed s) (columns_in f) (keys_read on) h))
    ∙ ap (λ b. has_no_type s f || b) (untyped-still needed s t cut on (all-right (IsThere needed s) (columns_in f) (keys_read on) h))

differ-still : (kl kr : Names) (s r t u : List Field) (left : IsCut kl s t) (right : IsCut kr r u) (left_on right_on : List Formula) → AllByRecursion (IsThere kl s) (keys_read left_on) → AllByRecursion (IsThere kr r) (keys_read right_on) → keys_differ t u left_on right_on ≡ keys_differ s r left_on right_on
differ-still kl kr s r t u left right [] right_on h k = refl
differ-still kl kr s r t u left right (f ∷ left_on) [] h k = refl
differ-still kl kr s r t u left right (f ∷ left_on) (g ∷ right_on) h k =
    two (λ a b. not (eq_types a b) || keys_differ t u left_on right_on)
    (cut-type kl s t left f (all-left (IsThere kl s) (columns_in f) (keys_read left_on) h))
    (cut-type kr r u right g (all-left (IsThere kr r) (columns_in g) (keys_read right_on) k))
    ∙ ap (λ b. not (eq_types (type_of f s) (type_of g r)) || b) (differ-still kl kr s r t u left right left_on right_on (all-right (IsThere kl s) (columns_in f) (keys_read left_on) h) (all-right (IsThere kr r) (columns_in g) (keys_read right_on) k))

-- ---- two sides

-- a join over other sides
abbrev pub over_sides : Join → List Field → List Field → Join
over_sides j left right = record {
  how = j.how;
  join_nulls = j.join_nulls;
  coalesced = j.coalesced;
  suffix = j.suffix;
  left = left;
  right = right;
  left_on = j.left_on;
  right_on = j.right_on;
}

-- what is needed of a join's sides, and left of them
pub record AreLeft (j : Join) (needed kl kr : Names) (tl tr : List Field) : Type 0 where
  pub left_met : (name : List ℕ) → has_name (names_of j.left) name ≡ true → left_need j needed name ≡ true → kl name ≡ true
  pub right_met : (name : List ℕ) → has_name (names_of j.right) name ≡ true → right_need j needed name ≡ true → kr name ≡ true
  pub left : IsCut kl j.left tl
  pub right : IsCut kr j.right tr

shown-names : (j : Join) (fields : List Field) → names_of (map (suffixed j) fields) ≡ map (suffixed_name j) (names_of fields)
shown-names j [] = refl
shown-names j (f ∷ fields) = ap (λ l. suffixed_name j f.name ∷ l) (shown-names j fields)

module _ (j : Join) (needed kl kr : Names) (tl tr : List Field) (sides : AreLeft j needed kl kr tl tr) where
  abbrev k : Join
  k = over_sides j tl tr

  abbrev keeps : Names
  keeps name = not (j.coalesced && has_name (column_names j.right_on) name)

  abbrev shown : Names
  shown name = keeps name && needed (suffixed_name j name)

  pair-names : (i : Join) (right : List Field) (kept : Names) → ((name : List ℕ) → kept name ≡ not (i.coalesced && has_name (column_names i.right_on) name)) → names_of (map (suffixed i) (filter (is_kept i) right)) ≡ map (suffixed_name i) (filter kept (names_of right))
  pair-names i right kept is = shown-names i (filter (is_kept i) right) ∙ ap (map (suffixed_name i)) (sym (filter-map kept (is_kept i) name_of right (all-always (λ f. kept f.name ≡ is_kept i f) (λ f. is f.name) right)))

  names-left : names_of (pair_fields k) ≡ names_of tl ++ map (suffixed_name k) (filter keeps (names_of tr))
  names-left = names-append tl (map (suffixed k) (filter (is_kept k) tr)) ∙ ap (λ l. names_of tl ++ l) (pair-names k tr keeps (λ name. refl))

  names-were : names_of (pair_fields j) ≡ names_of j.left ++ map (suffixed_name j) (filter keeps (names_of j.right))
  names-were = names-append j.left (map (suffixed j) (filter (is_kept j) j.right)) ∙ ap (λ l. names_of j.left ++ l) (pair-names j j.right keeps (λ name. refl))

  pub left-need : (name : List ℕ) → has_name (names_of j.left) name ≡ true → needed name ≡ true → kl name ≡ true
  left-need name has n = sides.left_met name has (or-left (needed name || has_name (keys_read j.left_on) name) (has_name (names_of j.right) name && right_need j needed name) (or-left (needed name) (has_name (keys_read j.left_on) name) n))

  -- ---- the suffix

  suffix-same : (name : List ℕ) → has_name (names_of tl) name ≡ has_name (names_of j.left) name → suffixed_name k name ≡ suffixed_name j name
  suffix-same name e = ap (λ b. cond b (name ++ j.suffix) name) e

  -- a right name that is needed meets the left names as before
  meets-same : (name : List ℕ) → has_name (names_of j.right) name ≡ true → right_need j needed name ≡ true → has_name (names_of tl) name ≡ has_name (names_of j.left) name
  meets-same name there wants = cut-has kl j.left tl sides.left name (λ has. sides.left_met name has (or-right (needed name || has_name (keys_read j.left_on) name) (has_name (names_of j.right) name && right_need j needed name) (and-true (has_name (names_of j.right) name) (right_need j needed name) there wants)))

  module _ (paired : makes_pairs j.how ≡ true) where
    shown-need : (name : List ℕ) → keeps name ≡ true → needed (suffixed_name j name) ≡ true → right_need j needed name ≡ true
    shown-need name kept n = or-left (is_shown j needed name) (has_name (keys_read j.right_on) name) (and-true (makes_pairs j.how && keeps name) (needed (suffixed_name j name)) (and-true (makes_pairs j.how) (keeps name) paired kept) n)

    -- a right column is shown under a needed name where it was
    needed-same : (name : List ℕ) → has_name (names_of j.right) name ≡ true → keeps name ≡ true → needed (suffixed_name k name) ≡ needed (suffixed_name j name)
    needed-same name there kept =
        let split : (b c : Bool) → has_name (names_of tl) name ≡ b → has_name (names_of j.left) name ≡ c → needed (suffixed_name k name) ≡ needed (suffixed_name j name) = elim [
          | true ↦ elim [
            | true ↦ λ e f. ap needed (suffix-same name (e ∙ sym f))
            | false ↦ λ e f. clash (has_name (names_of j.left) name) (sides.left.sub name e) f
          ]
          | false ↦ elim [
            | true ↦ λ e f. (
                let plain : suffixed_name k name ≡ name = ap (λ b. cond b (name ++ j.suffix) name) e in
                let none : needed (suffixed_name k name) ≡ false = never (needed (suffixed_name k name)) (λ yes. clash (has_name (names_of tl) name) (cut-there kl j.left tl sides.left name (left-need name f (ap needed (sym plain) ∙ yes)) f) e) in
                let other : needed (suffixed_name j name) ≡ false = never (needed (suffixed_name j name)) (λ yes. clash (has_name (names_of tl) name) (meets-same name there (shown-need name kept yes) ∙ f) e) in
                none ∙ sym other)
            | false ↦ λ e f. ap needed (suffix-same name (e ∙ sym f))
          ]
        ] in split (has_name (names_of tl) name) (has_name (names_of j.left) name) refl refl

    -- the right names that are needed
    abbrev wanted : List (List ℕ)
    wanted = filter shown (names_of j.right)

    shown-left : filter (λ name. needed (suffixed_name k name)) (filter keeps (names_of tr)) ≡ wanted
    shown-left =
        filter-same (λ name. needed (suffixed_name k name)) (λ name. needed (suffixed_name j name)) (filter keeps (names_of tr))
        (all-of (λ name. (keeps name ≡ true) × (has_name (names_of tr) name ≡ true)) (λ name. needed (suffixed_name k name) ≡ needed (suffixed_name j name)) (λ name h. needed-same name (sides.right.sub name h.1) h.0) (filter keeps (names_of tr)) (all-kept keeps (λ name. has_name (names_of tr) name ≡ true) (names_of tr) (all-in (names_of tr))))
        ∙ sym (filter-both keeps (λ name. needed (suffixed_name j name)) (names_of tr))
        ∙ cut-narrower kr j.right tr sides.right shown (λ name has h. sides.right_met name has (shown-need name (and-first (keeps name) (needed (suffixed_name j name)) h) (and-second (keeps name) (needed (suffixed_name j name)) h)))

    wanted-same : map (suffixed_name k) wanted ≡ map (suffixed_name j) wanted
    wanted-same = map-same (suffixed_name k) (suffixed_name j) wanted
        (all-of (λ name. (shown name ≡ true) × (has_name (names_of j.right) name ≡ true)) (λ name. suffixed_name k name ≡ suffixed_name j name) (λ name h. suffix-same name (meets-same name h.1 (shown-need name (and-first (keeps name) (needed (suffixed_name j name)) h.0) (and-second (keeps name) (needed (suffixed_name j name)) h.0)))) wanted (all-kept shown (λ name. has_name (names_of j.right) name ≡ true) (names_of j.right) (all-in (names_of j.right))))

    needed-shown : (i : Join) (names : List (List ℕ)) → filter needed (map (suffixed_name i) names) ≡ map (suffixed_name i) (filter (λ name. needed (suffixed_name i name)) names)
    needed-shown i names = filter-map needed (λ name. needed (suffixed_name i name)) (suffixed_name i) names (all-always (λ name. needed (suffixed_name i name) ≡ needed (suffixed_name i name)) (λ name. refl) names)

    pub pair-kept : filter needed (names_of (pair_fields k)) ≡ filter needed (names_of (pair_fields j))
    pair-kept =
        ap (filter needed) names-left
        ∙ filter-append needed (names_of tl) (map (suffixed_name k) (filter keeps (names_of tr)))
        ∙ ap (λ l. l ++ filter needed (map (suffixed_name k) (filter keeps (names_of tr)))) (cut-narrower kl j.left tl sides.left needed left-need)
        ∙ ap (λ l. filter needed (names_of j.left) ++ l) (
        needed-shown k (filter keeps (names_of tr))
        ∙ ap (map (suffixed_name k)) shown-left
        ∙ wanted-same
        ∙ ap (map (suffixed_name j)) (filter-both keeps (λ name. needed (suffixed_name j name)) (names_of j.right))
        ∙ sym (needed-shown j (filter keeps (names_of j.right))))
        ∙ sym (filter-append needed (names_of j.left) (map (suffixed_name j) (filter keeps (names_of j.right))))
        ∙ ap (filter needed) (sym names-were)

    -- ---- each name once

    -- a kept right name that is left was there
    right-was : (name : List ℕ) → has_name (filter keeps (names_of tr)) name ≡ true → has_name (filter keeps (names_of j.right)) name ≡ true
    right-was name h = (let both = kept-has keeps (names_of tr) name h in has-kept keeps (names_of j.right) name (sides.right.sub name both.0) both.1)

    -- it gets the suffix where the left name is left
    suffix-there : (name : List ℕ) → has_name (names_of tl) name ≡ true → suffixed_name k name ≡ suffixed_name j name
    suffix-there name e = suffix-same name (e ∙ sym (sides.left.sub name e))

    suffix-not : (i : Join) (name : List ℕ) → has_name (names_of i.left) name ≡ false → suffixed_name i name ≡ name
    suffix-not i name e = ap (λ b. cond b (name ++ i.suffix) name) e

    module _ (once : first_repeated (names_of (pair_fields j)) ≡ None) where
      all-once : first_repeated (names_of j.left ++ map (suffixed_name j) (filter keeps (names_of j.right))) ≡ None
      all-once = ap first_repeated (sym names-were) ∙ once

      -- a left name isn't that of a right column
      left-apart : (name right : List ℕ) → has_name (names_of j.left) name ≡ true → has_name (filter keeps (names_of j.right)) right ≡ true → suffixed_name j right ≡ name → ⊥
      left-apart name right has there is = once-clash (names_of j.left) (map (suffixed_name j) (filter keeps (names_of j.right))) name all-once has (ap (has_name (map (suffixed_name j) (filter keeps (names_of j.right)))) (sym is) ∙ has-map (suffixed_name j) (filter keeps (names_of j.right)) right there)

      right-apart : (a b : List ℕ) → has_name (filter keeps (names_of j.right)) a ≡ true → has_name (filter keeps (names_of j.right)) b ≡ true → suffixed_name j a ≡ suffixed_name j b → a ≡ b
      right-apart = map-apart (suffixed_name j) (filter keeps (names_of j.right)) (once-right (names_of j.left) (map (suffixed_name j) (filter keeps (names_of j.right))) all-once)

      -- one with the suffix isn't one without
      mixed-apart : (a b : List ℕ) → has_name (filter keeps (names_of j.right)) a ≡ true → has_name (filter keeps (names_of j.right)) b ≡ true → suffixed_name j a ≡ b → a ≡ b
      mixed-apart a b h g is =
          let split : (c : Bool) → has_name (names_of j.left) b ≡ c → a ≡ b = elim [
            | true ↦ λ e. absurd (left-apart b a e h is)
            | false ↦ λ e. right-apart a b h g (is ∙ sym (suffix-not j b e))
          ] in split (has_name (names_of j.left) b) refl

      left-right-apart : (a b : List ℕ) → has_name (filter keeps (names_of tr)) a ≡ true → has_name (filter keeps (names_of tr)) b ≡ true → suffixed_name k a ≡ suffixed_name k b → a ≡ b
      left-right-apart a b h g is =
          let split : (c d : Bool) → has_name (names_of tl) a ≡ c → has_name (names_of tl) b ≡ d → a ≡ b = elim [
            | true ↦ elim [
              | true ↦ λ e f. right-apart a b (right-was a h) (right-was b g) (sym (suffix-there a e) ∙ is ∙ suffix-there b f)
              | false ↦ λ e f. mixed-apart a b (right-was a h) (right-was b g) (sym (suffix-there a e) ∙ is ∙ suffix-not k b f)
            ]
            | false ↦ elim [
              | true ↦ λ e f. sym (mixed-apart b a (right-was b g) (right-was a h) (sym (suffix-there b f) ∙ sym is ∙ suffix-not k a e))
              | false ↦ λ e f. sym (suffix-not k a e) ∙ is ∙ suffix-not k b f
            ]
          ] in split (has_name (names_of tl) a) (has_name (names_of tl) b) refl refl

      right-once : first_repeated (filter keeps (names_of tr)) ≡ None
      right-once = kept-once keeps (names_of tr) sides.right.once

      sides-apart : (name : List ℕ) → has_name (names_of tl) name ≡ true → has_name (map (suffixed_name k) (filter keeps (names_of tr))) name ≡ true → ⊥
      sides-apart name has = map-from (suffixed_name k) (filter keeps (names_of tr)) name ⊥ (λ m there is. (
          let split : (c : Bool) → has_name (names_of tl) m ≡ c → ⊥ = elim [
            | true ↦ λ e. left-apart name m (sides.left.sub name has) (right-was m there) (sym (suffix-there m e) ∙ is)
            | false ↦ λ e. clash (has_name (names_of tl) m) (ap (has_name (names_of tl)) (sym (suffix-not k m e) ∙ is) ∙ has) e
          ] in split (has_name (names_of tl) m) refl))

      pub pair-once : first_repeated (names_of (pair_fields k)) ≡ None
      pair-once = ap first_repeated names-left ∙ once-both (names_of tl) (map (suffixed_name k) (filter keeps (names_of tr))) sides.left.once (once-map (suffixed_name k) (filter keeps (names_of tr)) right-once left-right-apart) sides-apart

    -- ---- no others

    pub pair-sub : (name : List ℕ) → has_name (names_of (pair_fields k)) name ≡ true → has_name (names_of (pair_fields j)) name ≡ true
    pair-sub name h =
        let lefts = names_of j.left in
        let rights = map (suffixed_name j) (filter keeps (names_of j.right)) in
        ap (λ l. has_name l name) names-were ∙ has-either (names_of tl) (map (suffixed_name k) (filter keeps (names_of tr))) name (has_name (lefts ++ rights) name ≡ true)
        (λ has. has-first lefts rights name (sides.left.sub name has))
        (map-from (suffixed_name k) (filter keeps (names_of tr)) name (has_name (lefts ++ rights) name ≡ true) (λ m there is. (
        let split : (c d : Bool) → has_name (names_of tl) m ≡ c → has_name lefts m ≡ d → has_name (lefts ++ rights) name ≡ true = elim [
          | true ↦ λ d e f. has-second lefts rights name (ap (has_name rights) (sym is ∙ suffix-there m e) ∙ has-map (suffixed_name j) (filter keeps (names_of j.right)) m (right-was m there))
          | false ↦ elim [
            | true ↦ λ e f. has-first lefts rights name (ap (has_name lefts) (sym is ∙ suffix-not k m e) ∙ f)
            | false ↦ λ e f. has-second lefts rights name (ap (has_name rights) (sym is ∙ suffix-same m (e ∙ sym f)) ∙ has-map (suffixed_name j) (filter keeps (names_of j.right)) m (right-was m there))
          ]
        ] in split (has_name (names_of tl) m) (has_name lefts m) refl refl)))
        (sym (ap (λ l. has_name l name) names-left) ∙ h)

    pub pair-first : (name : List ℕ) (rest front : List (List ℕ)) → names_of j.left ≡ front → is_empty front ≡ false → names_of (pair_fields j) ≡ name ∷ rest → needed name ≡ true → Begins name (names_of (pair_fields k))
    pair-first name rest [] at full e n = absurd (let no_ : true ≡ false = full in cc)
    pair-first name rest (m ∷ front) at full e n =
        let rights = map (suffixed_name j) (filter keeps (names_of j.right)) in
        let is : m ≡ name = heads (ap (λ l. l ++ rights) (sym at) ∙ sym names-were ∙ e) in
        let own : names_of j.left ≡ name ∷ front = at ∙ ap (λ q. q ∷ front) is in
        let first = sides.left.first name front own (left-need name (head-has (names_of j.left) name front own) n) in
        record {
          rest = first.rest ++ map (suffixed_name k) (filter keeps (names_of tr));
          is = names-left ∙ ap (λ l. l ++ map (suffixed_name k) (filter keeps (names_of tr))) first.is;
        }

  -- ---- what is needed of the sides

  shown-same : (name : List ℕ) → has_name (names_of j.right) name ≡ true → is_shown k needed name ≡ is_shown j needed name
  shown-same name there =
      let split : (a b : Bool) → makes_pairs j.how ≡ a → keeps name ≡ b → ((a && b) && needed (suffixed_name k name)) ≡ ((a && b) && needed (suffixed_name j name)) = elim [
        | true ↦ elim [
          | true ↦ λ e f. needed-same e name there f
          | false ↦ λ e f. refl
        ]
        | false ↦ λ b e f. refl
      ] in split (makes_pairs j.how) (keeps name) refl refl

  pub right-same : (name : List ℕ) → has_name (names_of tr) name ≡ true → right_need k needed name ≡ right_need j needed name
  right-same name has = ap (λ b. b || has_name (keys_read j.right_on) name) (shown-same name (sides.right.sub name has))

  pub left-same : (name : List ℕ) → left_need k needed name ≡ left_need j needed name
  left-same name =
      let split : (b : Bool) → has_name (names_of tr) name ≡ b → (b && right_need k needed name) ≡ (has_name (names_of j.right) name && right_need j needed name) = elim [
        | true ↦ λ e. right-same name e ∙ sym (ap (λ b. b && right_need j needed name) (sides.right.sub name e))
        | false ↦ λ e. sym (never (has_name (names_of j.right) name && right_need j needed name) (λ yes. (
            let there = and-first (has_name (names_of j.right) name) (right_need j needed name) yes in
            clash (has_name (names_of tr) name) (cut-there kr j.right tr sides.right name (sides.right_met name there (and-second (has_name (names_of j.right) name) (right_need j needed name) yes)) there) e)))
      ] in ap (λ b. needed name || has_name (keys_read j.left_on) name || b) (split (has_name (names_of tr) name) refl)

-- ---- the node

module _ (frames : List Table) (s t : ℕ → List Field) (needed : Names) (needs : ℕ → Names) (left right : ℕ) (left_on right_on : List Formula) (options : JoinOptions) (over : IsOver frames s t needed needs (node.Join left right left_on right_on options)) where
  abbrev x : Node
  x = node.Join left right left_on right_on options

  abbrev j : Join
  j = join_over (s left) (s right) left_on right_on options

  own-left : is_input x left ≡ true
  own-left = first-is left (right ∷ [])

  own-right : is_input x right ≡ true
  own-right = next-is left right (right ∷ []) (first-is right [])

  apart : eqb right left ≡ false
  apart = or-first (eqb right left) false (or-first (list_any (λ m. eqb m left) (right ∷ [])) (repeats (right ∷ [])) over.apart)

  pub sides-left : AreLeft j needed (needs left) (needs right) (t left) (t right)
  sides-left = record {
    left_met = λ name has n. met-true frames s t needed needs x over left name own-left has (let is = itself left in ap (λ b. cond b (left_need j needed name) (right_need j needed name)) is ∙ n);
    right_met = λ name has n. met-true frames s t needed needs x over right name own-right has (ap (λ b. cond b (left_need j needed name) (right_need j needed name)) apart ∙ n);
    left = over.cut left own-left;
    right = over.cut right own-right;
  }

  left-reads : AllByRecursion (IsThere (needs left) (s left)) (keys_read left_on)
  left-reads = there-all (needs left) (s left) (keys_read left_on) (λ name has r. sides-left.left_met name has (or-left (needed name || has_name (keys_read left_on) name) (has_name (names_of (s right)) name && right_need j needed name) (or-right (needed name) (has_name (keys_read left_on) name) r))) (none-first (first_unknown (s left) (keys_read left_on)) (first_unknown (s right) (keys_read right_on)) over.known)

  right-reads : AllByRecursion (IsThere (needs right) (s right)) (keys_read right_on)
  right-reads = there-all (needs right) (s right) (keys_read right_on) (λ name has r. sides-left.right_met name has (or-right (is_shown j needed name) (has_name (keys_read right_on) name) r)) (none-second (first_unknown (s left) (keys_read left_on)) (first_unknown (s right) (keys_read right_on)) over.known)

  abbrev kk : Join
  kk = join_over (t left) (t right) left_on right_on options

  left-full : is_empty (names_of (s left)) ≡ false
  left-full =
      let split : (fields : List Field) → is_empty fields ≡ false → is_empty (names_of fields) ≡ false = elim [ [] ↦ λ e. e | f ∷ fields ↦ λ e. refl ] in
      split (s left) (over.full left own-left)

  need-same : (i : ℕ) (name : List ℕ) → is_input x i ≡ true → has_name (names_of (t i)) name ≡ true → need t x needed i name ≡ need s x needed i name
  need-same i name own has =
      let other : (b : Bool) → eqb i left ≡ b → cond b (left_need kk needed name) (right_need kk needed name) ≡ cond b (left_need j needed name) (right_need j needed name) = elim [
        | true ↦ λ e. left-same j needed (needs left) (needs right) (t left) (t right) sides-left name
        | false ↦ λ e. (
            let is : right ≡ i = second-one left right i own e in
            right-same j needed (needs left) (needs right) (t left) (t right) sides-left name (ap (λ q. has_name (names_of (t q)) name) is ∙ has))
      ] in other (eqb i left) refl

  pub join-node : IsServed frames s t needed x (narrow_node frames t needed x)
  join-node =
      let cl = sides-left.left in
      let cr = sides-left.right in
      let kl = needs left in
      let kr = needs right in
      let once : first_repeated (names_of (join_fields j)) ≡ None = out-once frames s t needed needs x over in
      let known : or_else (first_unknown (t left) (keys_read left_on)) (first_unknown (t right) (keys_read right_on)) ≡ None =
      ap (λ o. or_else o (first_unknown (t right) (keys_read right_on))) (cut-known kl (s left) (t left) cl (keys_read left_on) left-reads) ∙ cut-known kr (s right) (t right) cr (keys_read right_on) right-reads in
      let typed : keys_mistyped (t left) (t right) left_on right_on ≡ keys_mistyped (s left) (s right) left_on right_on =
      ap (λ b. b || list_any (has_no_type (t right)) right_on || keys_differ (t left) (t right) left_on right_on) (untyped-still kl (s left) (t left) cl left_on left-reads)
      ∙ ap (λ b. list_any (has_no_type (s left)) left_on || b || keys_differ (t left) (t right) left_on right_on) (untyped-still kr (s right) (t right) cr right_on right-reads)
      ∙ ap (λ b. list_any (has_no_type (s left)) left_on || list_any (has_no_type (s right)) right_on || b) (differ-still kl kr (s left) (s right) (t left) (t right) cl cr left_on right_on left-reads right-reads) in
      let names : (b : Bool) → makes_pairs options.how ≡ b → filter needed (names_of (cond b (pair_fields kk) (t left))) ≡ filter needed (names_of (cond b (pair_fields j) (s left))) = elim [
        | true ↦ λ e. pair-kept j needed kl kr (t left) (t right) sides-left e
        | false ↦ λ e. cut-narrower kl (s left) (t left) cl needed (left-need j needed kl kr (t left) (t right) sides-left)
      ] in
      let sub : (name : List ℕ) (b : Bool) → makes_pairs options.how ≡ b → has_name (names_of (cond b (pair_fields kk) (t left))) name ≡ true → has_name (names_of (cond b (pair_fields j) (s left))) name ≡ true = λ name. elim [
        | true ↦ λ e. pair-sub j needed kl kr (t left) (t right) sides-left e name
        | false ↦ λ e. cl.sub name
      ] in
      let first : (name : List ℕ) (rest : List (List ℕ)) (b : Bool) → makes_pairs options.how ≡ b → names_of (cond b (pair_fields j) (s left)) ≡ name ∷ rest → needed name ≡ true → Begins name (names_of (cond b (pair_fields kk) (t left))) = λ name rest. elim [
        | true ↦ λ e. pair-first j needed kl kr (t left) (t right) sides-left e name rest (names_of (s left)) refl left-full
        | false ↦ λ e h n. cl.first name rest h (left-need j needed kl kr (t left) (t right) sides-left name (head-has (names_of (s left)) name rest h) n)
      ] in
      let single : (b : Bool) → makes_pairs options.how ≡ b → first_repeated (names_of (cond b (pair_fields j) (s left))) ≡ None → first_repeated (names_of (cond b (pair_fields kk) (t left))) ≡ None = elim [
        | true ↦ λ e. pair-once j needed kl kr (t left) (t right) sides-left e
        | false ↦ λ e o. cl.once
      ] in
      record {
        known = known;
        typed = typed ∙ over.typed;
        single = refl;
        whole = refl;
        joinable = over.joinable;
        sortable = refl;
        names = names (makes_pairs options.how) refl;
        sub = λ name. sub name (makes_pairs options.how) refl;
        first = λ name rest. first name rest (makes_pairs options.how) refl;
        once = single (makes_pairs options.how) refl once;
        needs = need-same;
      }
