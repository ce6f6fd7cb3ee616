-- What is left of a node's columns.
use Rattle.std.proofs.Common.{◌≡◌, ℕ, Bool, true, false, cond, ◌&&◌, List, [], ◌∷◌, None, refl, ap, sym, ◌∙◌}
use Rattle.std.specs.Prelude.{filter}
use Rattle.std.specs.Str.{bytes_eq}
use Rattle.std.specs.List.{AllByRecursion, list_any}
use Rattle.pipe_schema.specs.Schema.{has_name, names_of, first_repeated, first_unknown}
use Rattle.pipe_schema.specs.declared.field.Field.{Field}
use Rattle.pipe_expr.specs.Formula.{Formula}
use Rattle.pipe_expr.specs.Types.{columns_in, type_of, type_of_column}
use Rattle.pipe_expr.specs.Projections.{fields_named}
use Rattle.pipe_rules.proofs.Filters.{all-of}
use Rattle.pipe_rules.proofs.Renamed.{type-same}
use Rattle.pipe_rules.proofs.Under.{own-name}
use Rattle.pipe_rules.proofs.Down.{and-first, and-second}
use Rattle.pipe_rules.specs.Needs.{Names}
use Rattle.pipe_rules.proofs.Kept.{has-kept, kept-has, all-in, all-known, all-true, own-types, named-own, same-fields, IsThere}
use Rattle.pipe_optimize.specs.Needed.{is_first, or_first}
use Rattle.pipe_optimize.proofs.NameLists.{and-true, or-left, clash, never, some-needed, any-name, Begins, filter-twice}

-- of some fields those are left that are needed, in order and of the same types, and perhaps others
pub record IsCut (needed : Names) (s t : List Field) : Type 0 where
  pub names : filter needed (names_of t) ≡ filter needed (names_of s)
  pub sub : (name : List ℕ) → has_name (names_of t) name ≡ true → has_name (names_of s) name ≡ true
  pub types : (name : List ℕ) → needed name ≡ true → has_name (names_of s) name ≡ true → type_of_column name t ≡ type_of_column name s
  pub first : (name : List ℕ) (rest : List (List ℕ)) → names_of s ≡ name ∷ rest → needed name ≡ true → Begins name (names_of t)
  pub once : first_repeated (names_of t) ≡ None

-- ---- some names, or the first

pub or-first-has : (names : List (List ℕ)) (needed : Names) (name : List ℕ) → has_name names name ≡ true → needed name ≡ true → or_first names needed name ≡ true
or-first-has names needed name h n =
    ap (λ b. cond b (has_name names name && needed name) (is_first names name)) (some-needed needed names name h n)
    ∙ and-true (has_name names name) (needed name) h n

first-has : (names : List (List ℕ)) (name : List ℕ) → is_first names name ≡ true → has_name names name ≡ true
first-has [] name h = cc
first-has (n ∷ names) name h = or-left (bytes_eq n name) (has_name names name) h

pub or-first-in : (names : List (List ℕ)) (needed : Names) (name : List ℕ) → or_first names needed name ≡ true → has_name names name ≡ true
or-first-in names needed name h =
    let split : (b : Bool) → cond b (has_name names name && needed name) (is_first names name) ≡ true → has_name names name ≡ true = elim [
      | true ↦ λ e. and-first (has_name names name) (needed name) e
      | false ↦ λ e. first-has names name e
    ] in split (list_any needed names) h

-- something is left of names of which there are some
pub or-first-some : (n : List ℕ) (names : List (List ℕ)) (needed : Names) → list_any (or_first (n ∷ names) needed) (n ∷ names) ≡ true
or-first-some n names needed =
    let all = n ∷ names in
    let split : (b : Bool) → list_any needed all ≡ b → list_any (or_first all needed) all ≡ true = elim [
      | true ↦ λ e. any-name needed all (list_any (or_first all needed) all ≡ true) (λ x there h. some-needed (or_first all needed) all x there (or-first-has all needed x there h)) e
      | false ↦ λ e. (let own = own-name n in some-needed (or_first all needed) all n (or-left (bytes_eq n n) (has_name names n) own) (ap (λ b. cond b (has_name all n && needed n) (is_first all n)) e ∙ own))
    ] in split (list_any needed all) refl

module _ (needed : Names) (s t : List Field) (cut : IsCut needed s t) where
  -- what is needed is left
  pub cut-there : (name : List ℕ) → needed name ≡ true → has_name (names_of s) name ≡ true → has_name (names_of t) name ≡ true
  cut-there name n h = (kept-has needed (names_of t) name (ap (λ l. has_name l name) cut.names ∙ has-kept needed (names_of s) name h n)).0

  -- a needed name is there as before
  pub cut-has : (name : List ℕ) → (has_name (names_of s) name ≡ true → needed name ≡ true) → has_name (names_of t) name ≡ has_name (names_of s) name
  cut-has name met =
      let split : (b : Bool) → has_name (names_of s) name ≡ b → has_name (names_of t) name ≡ b = elim [
        | true ↦ λ e. cut-there name (met e) e
        | false ↦ λ e. never (has_name (names_of t) name) (λ h. clash (has_name (names_of s) name) (cut.sub name h) e)
      ] in split (has_name (names_of s) name) refl

  pub cut-known : (names : List (List ℕ)) → AllByRecursion (IsThere needed s) names → first_unknown t names ≡ None
  cut-known names all = all-known t names (all-of (IsThere needed s) (λ name. has_name (names_of t) name ≡ true) (λ name h. cut-there name h.kept h.there) names all)

  pub cut-type : (f : Formula) → AllByRecursion (IsThere needed s) (columns_in f) → type_of f t ≡ type_of f s
  cut-type f h = type-same f t s (all-of (IsThere needed s) (λ name. type_of_column name t ≡ type_of_column name s) (λ name r. cut.types name r.kept r.there) (columns_in f) h)

  -- of fewer needed names the same are left
  pub cut-narrower : (fewer : Names) → ((name : List ℕ) → has_name (names_of s) name ≡ true → fewer name ≡ true → needed name ≡ true) → filter fewer (names_of t) ≡ filter fewer (names_of s)
  cut-narrower fewer met =
      sym (filter-twice fewer needed (names_of t) (all-of (λ name. has_name (names_of t) name ≡ true) (λ name. fewer name ≡ true → needed name ≡ true) (λ name h. met name (cut.sub name h)) (names_of t) (all-in (names_of t))))
      ∙ ap (filter fewer) cut.names
      ∙ filter-twice fewer needed (names_of s) (all-of (λ name. has_name (names_of s) name ≡ true) (λ name. fewer name ≡ true → needed name ≡ true) met (names_of s) (all-in (names_of s)))

  -- where all are needed, all are left
  pub cut-whole : first_repeated (names_of s) ≡ None → ((name : List ℕ) → has_name (names_of s) name ≡ true → needed name ≡ true) → t ≡ s
  cut-whole once met =
      let same : names_of t ≡ names_of s =
      sym (all-true needed (names_of t) (all-of (λ name. has_name (names_of t) name ≡ true) (λ name. needed name ≡ true) (λ name h. met name (cut.sub name h)) (names_of t) (all-in (names_of t))))
      ∙ cut.names
      ∙ all-true needed (names_of s) (all-of (λ name. has_name (names_of s) name ≡ true) (λ name. needed name ≡ true) met (names_of s) (all-in (names_of s))) in
      sym (named-own t t (own-types t cut.once))
      ∙ ap (fields_named t) same
      ∙ same-fields (names_of s) s t (all-of (λ name. has_name (names_of s) name ≡ true) (λ name. type_of_column name t ≡ type_of_column name s) (λ name h. cut.types name (met name h) h) (names_of s) (all-in (names_of s)))
      ∙ named-own s s (own-types s once)

  -- no name is left where there was none
  pub cut-none : names_of s ≡ [] → names_of t ≡ []
  cut-none none =
      let split : (names : List (List ℕ)) → names_of t ≡ names → names ≡ [] = elim [
        | [] ↦ λ e. refl
        | n ∷ rest ↦ λ e. (
            let own = own-name n in
            let there : has_name (names_of t) n ≡ true = ap (λ l. has_name l n) e ∙ or-left (bytes_eq n n) (has_name rest n) own in
            let no_ : false ≡ true = ap (λ l. has_name l n) (sym none) ∙ cut.sub n there in absurd cc)
      ] in split (names_of t) refl

  module _ (raw other : Names) (is : (name : List ℕ) → needed name ≡ or_first (names_of s) raw name) (same : (name : List ℕ) → has_name (names_of t) name ≡ true → other name ≡ raw name) where
    raw-there : (name : List ℕ) → has_name (names_of s) name ≡ true → raw name ≡ true → has_name (names_of t) name ≡ true
    raw-there name h r = cut-there name (is name ∙ or-first-has (names_of s) raw name h r) h

    first-alike : list_any raw (names_of s) ≡ false → (name : List ℕ) → is_first (names_of t) name ≡ is_first (names_of s) name
    first-alike none name =
        let split : (names : List (List ℕ)) → names_of s ≡ names → is_first (names_of t) name ≡ is_first names name = elim [
          | [] ↦ λ e. ap (λ l. is_first l name) (cut-none e)
          | n ∷ rest ↦ λ e. (
              let own = own-name n in
              let wanted : needed n ≡ true = is n ∙ ap (λ b. cond b (has_name (names_of s) n && raw n) (is_first (names_of s) n)) none ∙ ap (λ l. is_first l n) e ∙ own in
              ap (λ l. is_first l name) (cut.first n rest e wanted).is)
        ] in split (names_of s) refl

    -- what is needed of what is left is what was needed
    pub or-first-cut : (name : List ℕ) → or_first (names_of t) other name ≡ or_first (names_of s) raw name
    or-first-cut name =
        let split : (b : Bool) → list_any raw (names_of s) ≡ b → or_first (names_of t) other name ≡ cond b (has_name (names_of s) name && raw name) (is_first (names_of s) name) = elim [
          | true ↦ λ e. (
              let some : list_any other (names_of t) ≡ true = any-name raw (names_of s) (list_any other (names_of t) ≡ true) (λ x h r. (let there = raw-there x h r in some-needed other (names_of t) x there (same x there ∙ r))) e in
              let inner : (c : Bool) → has_name (names_of t) name ≡ c → (c && other name) ≡ (has_name (names_of s) name && raw name) = elim [
                | true ↦ λ f. same name f ∙ sym (ap (λ b. b && raw name) (cut.sub name f))
                | false ↦ λ f. sym (never (has_name (names_of s) name && raw name) (λ yes. clash (has_name (names_of t) name) (raw-there name (and-first (has_name (names_of s) name) (raw name) yes) (and-second (has_name (names_of s) name) (raw name) yes)) f))
              ] in ap (λ b. cond b (has_name (names_of t) name && other name) (is_first (names_of t) name)) some ∙ inner (has_name (names_of t) name) refl)
          | false ↦ λ e. (
              let none : list_any other (names_of t) ≡ false = never (list_any other (names_of t)) (any-name other (names_of t) ⊥ (λ x h o. clash (list_any raw (names_of s)) (some-needed raw (names_of s) x (cut.sub x h) (sym (same x h) ∙ o)) e)) in
              ap (λ b. cond b (has_name (names_of t) name && other name) (is_first (names_of t) name)) none ∙ first-alike e name)
        ] in split (list_any raw (names_of s)) refl
