-- Nodes that are no renamings, narrowed without the names of the nodes below them.
use Rattle.std.proofs.Common.{◌≡◌, ℕ, suc, ◌+◌, ◌<◌, ◌≤◌, Bool, true, false, ◌||◌, List, [], ◌∷◌, ◌++◌, map, length, get_or, drop, refl, ap, sym, ◌∙◌, subst, arith, ◌⊎◌, inl, inr, length-append}
use Rattle.std.specs.List.{list_any}
use Rattle.std.proofs.lemmas.Bool.{cases_lt}
use Rattle.std.proofs.lemmas.List.{drop_more}
use Rattle.std.proofs.lemmas.List.Folds.{list_any_at}
use Rattle.pipe_frame.specs.Frame.{Table}
use Rattle.pipe_schema.specs.Schema.{has_name}
use Rattle.pipe_schema.specs.declared.field.Field.{Field}
use Rattle.pipe_expr.specs.declared.join_words.FunctionIR.TheVariants as function
use Rattle.pipe_plan.specs.Node.{Node, node_of}
use Rattle.pipe_plan.specs.Node as node
use Rattle.pipe_plan.specs.declared.ir.IR.{IR}
use Rattle.pipe_plan.specs.Under.{node_at}
use Rattle.pipe_plan.specs.Schemas.{schema_of}
use Rattle.pipe_rules.specs.Grown.{over}
use Rattle.pipe_rules.proofs.Readings.{map-long, read-at}
use Rattle.pipe_rules.proofs.Growing.{node-before, node-new}
use Rattle.pipe_rules.specs.Narrowed.{narrow_node}
use Rattle.pipe_optimize.specs.Narrow.{AreNarrowed, is_renaming}
use Rattle.pipe_optimize.specs.Lists.{names_at}
use Rattle.pipe_optimize.specs.Sides.{narrow_by}
use Rattle.pipe_optimize.specs.Put.{needs_in}
use Rattle.pipe_optimize.proofs.NameLists.{clash, never}
use Rattle.pipe_optimize.proofs.Steps.{all-taken}

-- a node that is no renaming becomes the same over any names
narrow-any : (frames : List Table) (f : ℕ → List (List ℕ)) (s : ℕ → List Field) (needed : List (List ℕ)) (x : Node) → is_renaming x ≡ false → narrow_by frames f needed x ≡ narrow_node frames s (has_name needed) x
narrow-any frames f s needed (node.DataFrameScan frame columns) h = refl
narrow-any frames f s needed (node.Filter input predicate) h = refl
narrow-any frames f s needed (node.SimpleProjection input columns) h = refl
narrow-any frames f s needed (node.Select input exprs) h = refl
narrow-any frames f s needed (node.HStack input exprs) h = refl
narrow-any frames f s needed (node.MapFunction input (function.Unpivot on index variable value)) h = refl
narrow-any frames f s needed (node.MapFunction input (function.Rename pairs)) h = clash true refl h
narrow-any frames f s needed (node.Union inputs) h = refl
narrow-any frames f s needed (node.Join left right left_on right_on options) h = refl
narrow-any frames f s needed (node.Sort input by options) h = refl

-- one of some nodes is a renaming
pub one-renames : (irs : List IR) (i : ℕ) (x : IR) → i < length irs → x ≡ get_or irs i x → is_renaming (node_of x) ≡ true → list_any is_renaming (map node_of irs) ≡ true
one-renames irs i x lt at own =
    let many = map-long node_of irs in
    list_any_at is_renaming (map node_of irs) i _ (omega arith) (ap is_renaming (read-at irs i x lt at) ∙ own)

-- none of those that were looked at is
pub none-renames : (irs : List IR) (i : ℕ) (x : IR) (b : Bool) → i < length irs → x ≡ get_or irs i x → is_renaming (node_of x) ≡ false → list_any is_renaming (map node_of (drop i irs)) ≡ b → list_any is_renaming (map node_of (drop (i + 1) irs)) ≡ b
none-renames irs i x b lt at plain before =
    let rest = list_any is_renaming (map node_of (drop (i + 1) irs)) in
    sym (ap (λ l. list_any is_renaming (map node_of l)) (drop_more irs i x lt)
    ∙ ap (λ y. is_renaming (node_of y) || rest) (sym at)
    ∙ ap (λ c. c || rest) plain) ∙ before

-- the first nodes are narrowed, over no names
pub record AreNarrowedAlone (frames : List Table) (old : List Node) (needs : List (List (List ℕ))) (n : ℕ) (made : List Node) : Type 0 where
  pub long : length made ≡ n
  pub each : (k : ℕ) → k < n → node_at made k ≡ narrow_by frames (names_at []) (names_at needs k) (node_at old k)

pub alone-begun : (frames : List Table) (old : List Node) (needs : List (List (List ℕ))) (made : List IR) → made ≡ [] → AreNarrowedAlone frames old needs 0 (map node_of made)
alone-begun frames old needs made is = record { long = ap (λ l. length (map node_of l)) is; each = λ k less. absurd (omega arith) }

map-more : (xs : List IR) (x : IR) → map node_of (xs ++ x ∷ []) ≡ map node_of xs ++ node_of x ∷ []
map-more [] x = refl
map-more (y ∷ xs) x = ap (λ l. node_of y ∷ l) (map-more xs x)

taken-here : (yielded : List IR) (x : IR) (rest irs : List IR) → yielded ++ x ∷ rest ≡ irs → node_at (map node_of irs) (length yielded) ≡ node_of x
taken-here [] x rest irs is = ap (λ l. node_at (map node_of l) 0) (sym is)
taken-here (y ∷ yielded) x rest irs is = ap (λ l. node_at (map node_of l) (suc (length yielded))) (sym is) ∙ taken-here yielded x rest (yielded ++ x ∷ rest) refl

pub alone-next : (frames : List Table) (irs : List IR) (needs : List (List (List ℕ))) (yielded before rest : List IR) (made more : List IR) (n : ℕ) (x y : IR) (needed : List (List ℕ)) → yielded ++ before ≡ irs → before ≡ x ∷ rest → n ≡ length made → AreNarrowedAlone frames (map node_of irs) needs (length yielded) (map node_of made) → needed ≡ names_at needs n → node_of y ≡ narrow_by frames (names_at []) needed (node_of x) → more ≡ made ++ y ∷ [] → AreNarrowedAlone frames (map node_of irs) needs (length (yielded ++ x ∷ [])) (map node_of more)
alone-next frames irs needs yielded before rest made more n x y needed whole step is so_far own made_is pushed =
    let old = map node_of irs in
    let all : yielded ++ x ∷ rest ≡ irs = ap (λ q. yielded ++ q) (sym step) ∙ whole in
    let many = map-long node_of made in
    let long = so_far.long in
    let here : n ≡ length yielded = omega arith in
    let at : node_at old (length yielded) ≡ node_of x = taken-here yielded x rest irs all in
    let last : length (map node_of made) ≡ length yielded = long in
    let is_more : map node_of more ≡ map node_of made ++ node_of y ∷ [] = ap (map node_of) pushed ∙ map-more made y in
    let a = length-append yielded (x ∷ []) in
    let b = length-append (map node_of made) (node_of y ∷ []) in
    let one : length (x ∷ []) ≡ 1 = refl in
    let two : length (node_of y ∷ []) ≡ 1 = refl in
    let count : length (map node_of more) ≡ length (map node_of made ++ node_of y ∷ []) = ap length is_more in
    record {
      long = omega arith;
      each = λ k less. (
          let split : (k < length yielded) ⊎ (length yielded ≤ k) → node_at (map node_of more) k ≡ narrow_by frames (names_at []) (names_at needs k) (node_at old k) = elim [
            | inl c ↦ ap (λ q. node_at q k) is_more ∙ node-before (map node_of made) (node_of y ∷ []) k (omega arith) ∙ so_far.each k c
            | inr c ↦ (
                let same : length yielded ≡ k = omega arith in
                let made_here : node_at (map node_of more) (length yielded) ≡ narrow_by frames (names_at []) (names_at needs (length yielded)) (node_at old (length yielded)) =
                ap (node_at (map node_of more)) (sym last)
                ∙ ap (λ q. node_at q (length (map node_of made))) is_more
                ∙ node-new (map node_of made) (node_of y) []
                ∙ made_is
                ∙ ap (λ q. narrow_by frames (names_at []) q (node_of x)) (own ∙ ap (names_at needs) here)
                ∙ ap (narrow_by frames (names_at []) (names_at needs (length yielded))) (sym at) in
                subst (λ q. node_at (map node_of more) q ≡ narrow_by frames (names_at []) (names_at needs q) (node_at old q)) same made_here)
          ] in split (cases_lt k (length yielded)));
    }

pub alone-few : (frames : List Table) (irs : List IR) (needs : List (List (List ℕ))) (yielded rest made : List IR) → yielded ++ rest ≡ irs → AreNarrowedAlone frames (map node_of irs) needs (length yielded) (map node_of made) → length made ≤ length irs
alone-few frames irs needs yielded rest made whole so_far =
    let many = map-long node_of made in
    let long = so_far.long in
    let sum = length-append yielded rest in
    let all : length (yielded ++ rest) ≡ length irs = ap length whole in
    omega arith

none-at : (nodes : List Node) (k : ℕ) → list_any is_renaming nodes ≡ false → k < length nodes → is_renaming (node_at nodes k) ≡ false
none-at nodes k none lt = never (is_renaming (node_at nodes k)) (λ own. clash (list_any is_renaming nodes) (list_any_at is_renaming nodes k _ lt own) none)

pub alone-all : (frames : List Table) (irs : List IR) (needs : List (List (List ℕ))) (yielded rest made : List IR) → list_any is_renaming (map node_of irs) ≡ false → yielded ++ rest ≡ irs → rest ≡ [] → AreNarrowedAlone frames (map node_of irs) needs (length yielded) (map node_of made) → AreNarrowed frames (map node_of irs) (map node_of made) (needs_in needs)
alone-all frames irs needs yielded rest made plain whole none so_far =
    let old = map node_of irs in
    let many = map-long node_of irs in
    let all = all-taken yielded rest irs whole none in
    let count : length yielded ≡ length irs = ap length all in
    let long = so_far.long in record {
      long = omega arith;
      each = λ k less. (
          so_far.each k (omega arith)
          ∙ narrow-any frames (names_at []) (schema_of (over frames (map node_of made))) (names_at needs k) (node_at old k) (none-at old k plain less));
    }
