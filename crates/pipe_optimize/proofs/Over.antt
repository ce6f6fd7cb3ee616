-- A node over inputs of which some columns are left: what is asked, and what is found.
use Rattle.std.proofs.Common.{◌≡◌, ℕ, true, false, List, ◌∷◌, Option, Some, None, refl, ◌∙◌}
use Rattle.std.specs.Prelude.{filter}
use Rattle.std.specs.List.{list_any}
use Rattle.pipe_frame.specs.Frame.{Table}
use Rattle.pipe_schema.specs.Schema.{has_name, names_of, first_repeated}
use Rattle.pipe_schema.specs.declared.field.Field.{Field}
use Rattle.pipe_plan.specs.Node.{Node}
use Rattle.pipe_plan.specs.Under.{inputs_of}
use Rattle.pipe_plan.specs.Schemas.{node_schema}
use Rattle.pipe_plan.specs.Faults.{or_else, repeats, is_void, is_empty, unknown_in, duplicate_in, once_names, is_mistyped, is_bad_join, is_bad_sort}
use Rattle.pipe_rules.specs.Placed.{is_input}
use Rattle.pipe_rules.specs.Needs.{Names, need}
use Rattle.pipe_optimize.specs.Needed.{need_of}
use Rattle.pipe_optimize.proofs.NameLists.{Begins}
use Rattle.pipe_optimize.proofs.Cut.{IsCut, or-first-has}

-- a node without fault, the columns that are needed of it and of its inputs, and what is left of these
pub record IsOver (frames : List Table) (s t : ℕ → List Field) (needed : Names) (needs : ℕ → Names) (x : Node) : Type 0 where
  pub known : unknown_in frames s x ≡ None
  pub typed : is_mistyped s x ≡ false
  pub twice : duplicate_in frames s x ≡ None
  pub apart : repeats (inputs_of x) ≡ false
  pub whole : is_void frames x ≡ false
  pub joinable : is_bad_join x ≡ false
  pub sortable : is_bad_sort x ≡ false
  pub within : (name : List ℕ) → needed name ≡ true → has_name (names_of (node_schema frames s x)) name ≡ true
  pub some : list_any needed (names_of (node_schema frames s x)) ≡ true
  pub full : (i : ℕ) → is_input x i ≡ true → is_empty (s i) ≡ false
  pub once : (i : ℕ) → is_input x i ≡ true → first_repeated (names_of (s i)) ≡ None
  pub met : (i : ℕ) (name : List ℕ) → is_input x i ≡ true → needs i name ≡ need_of s x needed i name
  pub cut : (i : ℕ) → is_input x i ≡ true → IsCut (needs i) (s i) (t i)

-- another node over what is left has no fault, gives what is needed, and needs what the node needed
pub record IsServed (frames : List Table) (s t : ℕ → List Field) (needed : Names) (x y : Node) : Type 0 where
  pub known : unknown_in frames t y ≡ None
  pub typed : is_mistyped t y ≡ false
  pub single : first_repeated (once_names y) ≡ None
  pub whole : is_void frames y ≡ false
  pub joinable : is_bad_join y ≡ false
  pub sortable : is_bad_sort y ≡ false
  pub names : filter needed (names_of (node_schema frames t y)) ≡ filter needed (names_of (node_schema frames s x))
  pub sub : (name : List ℕ) → has_name (names_of (node_schema frames t y)) name ≡ true → has_name (names_of (node_schema frames s x)) name ≡ true
  pub first : (name : List ℕ) (rest : List (List ℕ)) → names_of (node_schema frames s x) ≡ name ∷ rest → needed name ≡ true → Begins name (names_of (node_schema frames t y))
  pub once : first_repeated (names_of (node_schema frames t y)) ≡ None
  pub needs : (i : ℕ) (name : List ℕ) → is_input x i ≡ true → has_name (names_of (t i)) name ≡ true → need t y needed i name ≡ need s x needed i name

pub none-first : {X : Type 0} (a b : Option X) → or_else a b ≡ None → a ≡ None
none-first (Some x) b e = cc
none-first None b e = refl

pub none-second : {X : Type 0} (a b : Option X) → or_else a b ≡ None → b ≡ None
none-second (Some x) b e = cc
none-second None b e = e

module _ (frames : List Table) (s t : ℕ → List Field) (needed : Names) (needs : ℕ → Names) (x : Node) (over : IsOver frames s t needed needs x) where
  -- what a node needs of an input is needed
  pub met-true : (i : ℕ) (name : List ℕ) → is_input x i ≡ true → has_name (names_of (s i)) name ≡ true → need s x needed i name ≡ true → needs i name ≡ true
  met-true i name own has r = over.met i name own ∙ or-first-has (names_of (s i)) (need s x needed i) name has r

  pub out-once : first_repeated (names_of (node_schema frames s x)) ≡ None
  out-once = none-first (first_repeated (names_of (node_schema frames s x))) (first_repeated (once_names x)) over.twice

  pub out-single : first_repeated (once_names x) ≡ None
  out-single = none-second (first_repeated (names_of (node_schema frames s x))) (first_repeated (once_names x)) over.twice
