-- Columns below a node, one after another.
use Rattle.std.proofs.Common.{◌≡◌, ℕ, List, [], ◌∷◌, ◌++◌, append_assoc, Option, Some, None, refl, ap, ◌∙◌}
use Rattle.pipe_schema.specs.declared.field.Field.{Field}
use Rattle.pipe_plan.specs.Node.{Node}
use Rattle.pipe_parts.specs.Wishes.{name_before, column_below, columns_below}

-- the names so far, and those that follow, if there are any
abbrev pub behind : List (List ℕ) → Option (List (List ℕ)) → Option (List (List ℕ))
behind names None = None
behind names (Some later) = Some (names ++ later)

pub first-behind : (o : Option (List (List ℕ))) → behind [] o ≡ o
first-behind None = refl
first-behind (Some later) = refl

one-more : (names : List (List ℕ)) (below : List ℕ) (o : Option (List (List ℕ))) → behind (names ++ below ∷ []) o ≡ behind names (name_before (Some below) o)
one-more names below None = refl
one-more names below (Some later) = ap Some (append_assoc names (below ∷ []) later)

pub next-below : (input : List Field) (x : Node) (names rest whole : List (List ℕ)) (name below : List ℕ) → behind names (columns_below input x (name ∷ rest)) ≡ columns_below input x whole → Some below ≡ column_below input x name → behind (names ++ below ∷ []) (columns_below input x rest) ≡ columns_below input x whole
next-below input x names rest whole name below e is =
    one-more names below (columns_below input x rest)
    ∙ ap (λ o. behind names (name_before o (columns_below input x rest))) is
    ∙ e

pub none-below-it : (input : List Field) (x : Node) (names rest whole : List (List ℕ)) (name : List ℕ) → behind names (columns_below input x (name ∷ rest)) ≡ columns_below input x whole → None ≡ column_below input x name → None ≡ columns_below input x whole
none-below-it input x names rest whole name e is = ap (λ o. behind names (name_before o (columns_below input x rest))) is ∙ e

pub ruleset below_rules = (first-behind, next-below, none-below-it)
