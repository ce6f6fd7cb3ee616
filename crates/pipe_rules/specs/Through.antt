-- Where conjuncts go, by names that are looked up: each name under which a column stands, with its own.
use Rattle.std.specs.Prelude.{ℕ, List, ◌++◌, if◌then◌else◌, map, filter}
use Rattle.pipe_schema.specs.Schema.{has_name, names_of}
use Rattle.pipe_schema.specs.declared.field.Field.{Field}
use Rattle.pipe_expr.specs.Formula.{Formula}
use Rattle.pipe_expr.specs.Projections.{renamed}
use Rattle.pipe_expr.specs.declared.join_words.JoinType.{JoinType}
use Rattle.pipe_expr.specs.declared.join_words.JoinType.TheVariants as how
use Rattle.pipe_expr.specs.declared.join_words.RenamePair.{RenamePair}
use Rattle.pipe_plan.specs.declared.ir.JoinOptions.{JoinOptions}
use Rattle.pipe_check.specs.Sides.{is_kept_by}
use Rattle.pipe_rules.specs.Names.{with_names}
use Rattle.pipe_rules.specs.Placing.{Placing, Above, OnInputs, reads_only, on_inputs_if, is_not_in, on_left_or, on_right_or}

abbrev pub stays_above : Formula → Placing
stays_above conjunct = Above conjunct

abbrev pub goes_down : Formula → Placing
goes_down conjunct = OnInputs conjunct

-- ---- functions

-- onto the input of an unpivot, by its index columns
abbrev pub through_index : List (List ℕ) → Formula → Placing
through_index index conjunct = on_inputs_if (reads_only (has_name index) conjunct) conjunct conjunct

-- a name that a column gets, with its own
abbrev pub given_and_own : List ℕ → List ℕ → RenamePair
given_and_own given own = record { existing = given; new_name = own }

-- the name that a field gets by renamings, with its old one
abbrev pub old_pair : List RenamePair → Field → RenamePair
old_pair pairs field = given_and_own (renamed pairs field.name) field.name

-- onto the input of a renaming, by the old names
abbrev pub through_names : List RenamePair → Formula → Placing
through_names old_names conjunct = OnInputs (with_names (renamed old_names) conjunct)

-- ---- joins

-- the name under which a right field stands in a join's output, with its own
abbrev pub shown_by : List Field → List ℕ → Field → RenamePair
shown_by left suffix field = record {
  existing = if has_name (names_of left) field.name then field.name ++ suffix else field.name;
  new_name = field.name;
}

-- the names of the kept right fields, by the names of right keys that are plain columns
abbrev pub shown_names :
    List Field → List Field → List (List ℕ) → JoinOptions → List RenamePair
shown_names left right keys options =
    map (shown_by left options.suffix) (filter (is_kept_by keys options) right)

-- onto the right input, by the names that right columns show
abbrev pub onto_right : List Field → List RenamePair → Formula → Placing
onto_right left shown conjunct =
    on_right_or (reads_only (is_not_in left) conjunct) (with_names (renamed shown) conjunct)
    (Above conjunct)

-- onto the left input, or else
abbrev pub onto_left : List Field → Formula → Placing → Placing
onto_left left conjunct other =
    on_left_or (reads_only (has_name (names_of left)) conjunct) conjunct other

abbrev pub through_sides : JoinType → List Field → List RenamePair → Formula → Placing
through_sides how.Inner left shown conjunct = onto_left left conjunct (onto_right left shown conjunct)
through_sides how.Cross left shown conjunct = onto_left left conjunct (onto_right left shown conjunct)
through_sides how.Left left shown conjunct = onto_left left conjunct (Above conjunct)
through_sides how.Semi left shown conjunct = onto_left left conjunct (Above conjunct)
through_sides how.Anti left shown conjunct = onto_left left conjunct (Above conjunct)
through_sides how.Full left shown conjunct = Above conjunct
