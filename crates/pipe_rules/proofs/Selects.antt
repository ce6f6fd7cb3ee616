-- Names looked up by their place in a schema.
use Rattle.std.proofs.Common.{◌≡◌, ℕ, Bool, true, false, not, List, Option, is_some, refl, ap, ◌∙◌}
use Rattle.pipe_schema.specs.Schema.{has_name, names_of, place_of}
use Rattle.pipe_schema.specs.declared.field.Field.{Field}
use Rattle.pipe_schema.proofs.NamePlaces.{is_some-place_from}
use Rattle.pipe_check.proofs.Names.{name_there, name_missing, text_there, text_missing, formula_there, formula_missing, renamed_there, renamed_missing}

pub place-some : (fields : List Field) (name : List ℕ) (r : Option ℕ) → r ≡ place_of name fields → is_some r ≡ has_name (names_of fields) name
place-some fields name r e = ap is_some e ∙ is_some-place_from 0 name fields

pub turned : (some none : Bool) → some ≡ not none → none ≡ not some
turned true true e = cc
turned true false e = refl
turned false true e = refl
turned false false e = cc

pub ruleset expr_rules = (name_there, name_missing, text_there, text_missing, formula_there, formula_missing, renamed_there, renamed_missing)
