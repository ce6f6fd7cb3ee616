-- Outputs, needs and narrowed nodes rest on the names of inputs alone.
use Rattle.std.proofs.Common.{◌≡◌, ℕ, Bool, true, false, cond, eqb, ◌||◌, ◌&&◌, List, [], ◌∷◌, ◌++◌, map, Option, Some, None, refl, ap, sym, ◌∙◌}
use Rattle.std.specs.Prelude.{filter}
use Rattle.std.specs.List.{list_any}
use Rattle.std.specs.Str.{bytes_eq}
use Rattle.pipe_frame.specs.Frame.{Table}
use Rattle.pipe_schema.specs.Schema.{name_of, has_name, names_of}
use Rattle.pipe_schema.specs.declared.field.Field.{Field}
use Rattle.pipe_expr.specs.Formula.{Formula}
use Rattle.pipe_expr.specs.Projections.{expr_name, renamed}
use Rattle.pipe_expr.specs.Joins.{Join, makes_pairs, column_names, is_kept, suffixed_name, suffixed, pair_fields, join_fields}
use Rattle.pipe_expr.specs.declared.join_words.FunctionIR.TheVariants as function
use Rattle.pipe_plan.specs.Node.{Node}
use Rattle.pipe_plan.specs.Node as node
use Rattle.pipe_plan.specs.Schemas.{join_over, node_schema}
use Rattle.pipe_plan.specs.declared.ir.JoinOptions.{JoinOptions}
use Rattle.pipe_plan.specs.declared.ir.PlanSlice.{PlanSlice}
use Rattle.pipe_rules.specs.Placed.{is_input}
use Rattle.pipe_rules.proofs.Filters.{all-always, filter-same, filter-map, filter-constant}
use Rattle.std.proofs.lemmas.Bool.Decides.{Decides-eqb}
use Rattle.pipe_rules.proofs.Down.{or-first, or-second}
use Rattle.pipe_rules.proofs.Renumber.{two}
use Rattle.pipe_rules.specs.Needs.{Names, need, keys_read, right_need, left_need, sort_need}
use Rattle.pipe_rules.specs.Narrowed.{is_existing, narrow_node}
use Rattle.pipe_rules.proofs.Kept.{kept-has, has-kept, names-named}
use Rattle.pipe_optimize.specs.Needed.{is_first, or_first, need_of}
use Rattle.pipe_optimize.specs.Lists.{first_only, or_head}
use Rattle.pipe_optimize.specs.Sides.{joined_names_of, paired_names_of, is_fresh, keeps_name, suffixed_by, is_either, is_needed_anew, right_needed, kept_right_of, kept_left_of, kept_sorted_of, output_by, kept_by, need_by, narrow_by, has_existing}
use Rattle.pipe_optimize.proofs.NameLists.{first-is, next-is, or-assoc, clash, never, any-name, has-append}
use Rattle.pipe_optimize.proofs.Plain.{selected-names, hstack-names, renamed-names, unpivot-names, names-append}

-- ---- outputs

shown-names : (j : Join) (fields : List Field) → names_of (map (suffixed j) fields) ≡ map (suffixed_name j) (names_of fields)
shown-names j [] = refl
shown-names j (f ∷ fields) = ap (λ l. suffixed_name j f.name ∷ l) (shown-names j fields)

paired-names : (left right : List Field) (left_on right_on : List Formula) (options : JoinOptions) → (let j = join_over left right left_on right_on options in names_of (pair_fields j) ≡ names_of left ++ map (suffixed_by (names_of left) options.suffix) (filter (keeps_name (column_names right_on) options) (names_of right)))
paired-names left right left_on right_on options =
    let j = join_over left right left_on right_on options in
    let keeps = keeps_name (column_names right_on) options in
    names-append left (map (suffixed j) (filter (is_kept j) right))
    ∙ ap (λ l. names_of left ++ l) (shown-names j (filter (is_kept j) right)
    ∙ ap (map (suffixed_name j)) (sym (filter-map keeps (is_kept j) name_of right (all-always (λ f. keeps f.name ≡ is_kept j f) (λ f. refl) right))))

joined-names : (left right : List Field) (left_on right_on : List Formula) (options : JoinOptions) → names_of (join_fields (join_over left right left_on right_on options)) ≡ joined_names_of (names_of left) (names_of right) right_on options
joined-names left right left_on right_on options =
    let j = join_over left right left_on right_on options in
    let split : (b : Bool) → names_of (cond b (pair_fields j) left) ≡ cond b (paired_names_of (names_of left) (names_of right) right_on options) (names_of left) = elim [
      | true ↦ paired-names left right left_on right_on options
      | false ↦ refl
    ] in split (makes_pairs options.how)

module _ (frames : List Table) (u : ℕ → List Field) (names : ℕ → List (List ℕ)) where
  abbrev AreTheirs : Node → Type 0
  AreTheirs x = (i : ℕ) → is_input x i ≡ true → names i ≡ names_of (u i)

  pub output-by : (x : Node) → AreTheirs x → output_by frames names x ≡ names_of (node_schema frames u x)
  output-by (node.DataFrameScan frame columns) h = refl
  output-by (node.Filter input predicate) h = h input (first-is input [])
  output-by (node.SimpleProjection input columns) h = sym (names-named (u input) columns)
  output-by (node.Select input exprs) h = sym (selected-names (u input) exprs)
  output-by (node.HStack input exprs) h =
      let is = h input (first-is input []) in
      ap (λ l. l ++ map expr_name (filter (is_fresh l) exprs)) is
      ∙ sym (hstack-names (u input) exprs)
  output-by (node.MapFunction input (function.Unpivot on index variable value)) h = sym (unpivot-names (u input) on index variable value)
  output-by (node.MapFunction input (function.Rename pairs)) h = ap (map (renamed pairs)) (h input (first-is input [])) ∙ sym (renamed-names pairs (u input))
  output-by (node.Union []) h = refl
  output-by (node.Union (i ∷ is)) h = h i (first-is i is)
  output-by (node.Join left right left_on right_on options) h =
      two (λ l r. joined_names_of l r right_on options) (h left (first-is left (right ∷ []))) (h right (next-is left right (right ∷ []) (first-is right [])))
      ∙ sym (joined-names (u left) (u right) left_on right_on options)
  output-by (node.Sort input by options) h = h input (first-is input [])

  -- ---- narrowed nodes

  pub narrow-by : (needed : List (List ℕ)) (x : Node) → AreTheirs x → narrow_by frames names needed x ≡ narrow_node frames u (has_name needed) x
  narrow-by needed (node.DataFrameScan frame columns) h = refl
  narrow-by needed (node.Filter input predicate) h = refl
  narrow-by needed (node.SimpleProjection input columns) h = refl
  narrow-by needed (node.Select input exprs) h = refl
  narrow-by needed (node.HStack input exprs) h = refl
  narrow-by needed (node.MapFunction input (function.Unpivot on index variable value)) h = refl
  narrow-by needed (node.MapFunction input (function.Rename pairs)) h =
      ap (λ l. node.MapFunction input (function.Rename l)) (filter-same (has_existing (names input)) (is_existing (u input)) pairs (all-always (λ p. has_existing (names input) p ≡ is_existing (u input) p) (λ p. ap (λ l. has_name l p.existing) (h input (first-is input []))) pairs))
  narrow-by needed (node.Union inputs) h = refl
  narrow-by needed (node.Join left right left_on right_on options) h = refl
  narrow-by needed (node.Sort input by options) h = refl

  -- ---- needs

  everywhere : (p q : Names) → ((name : List ℕ) → p name ≡ q name) → (l : List (List ℕ)) → filter p l ≡ filter q l
  everywhere p q h l = filter-same p q l (all-always (λ name. p name ≡ q name) h l)

  all-kept : (p : Names) → ((name : List ℕ) → p name ≡ true) → (l : List (List ℕ)) → l ≡ filter p l
  all-kept p h l = sym (filter-constant p true l (all-always (λ name. p name ≡ true) h l))

  none-kept : (p : Names) → ((name : List ℕ) → p name ≡ false) → (l : List (List ℕ)) → [] ≡ filter p l
  none-kept p h l = sym (filter-constant p false l (all-always (λ name. p name ≡ false) h l))

  sorted-kept : (slice : Option PlanSlice) (by needed l : List (List ℕ)) → kept_sorted_of slice by needed l ≡ filter (sort_need slice by (has_name needed)) l
  sorted-kept None by needed l = everywhere (is_either needed by) (sort_need None by (has_name needed)) (λ name. refl) l
  sorted-kept (Some slice) by needed l = all-kept (sort_need (Some slice) by (has_name needed)) (λ name. refl) l

  -- a right column is needed where it is read or shown
  module _ (left right : ℕ) (left_on right_on : List Formula) (options : JoinOptions) (needed : List (List ℕ)) (is_left : names left ≡ names_of (u left)) (is_right : names right ≡ names_of (u right)) where
    abbrev j : Join
    j = join_over (u left) (u right) left_on right_on options

    abbrev right_test : Names
    right_test = right_needed (names left) (column_names right_on) (keys_read right_on) needed options

    right-same : (name : List ℕ) → right_test name ≡ right_need j (has_name needed) name
    right-same name = ap (λ l. makes_pairs options.how && keeps_name (column_names right_on) options name && has_name needed (suffixed_by l options.suffix name) || has_name (keys_read right_on) name) is_left

    has-kept-right : (name : List ℕ) → has_name (kept_right_of (names left) (names right) right_on needed options) name ≡ (has_name (names_of (u right)) name && right_need j (has_name needed) name)
    has-kept-right name =
        let l = names right in
        let split : (b c : Bool) → has_name l name ≡ b → right_test name ≡ c → has_name (filter right_test l) name ≡ (b && c) = elim [
          | true ↦ elim [
            | true ↦ λ e f. has-kept right_test l name e f
            | false ↦ λ e f. never (has_name (filter right_test l) name) (λ h. clash (right_test name) (kept-has right_test l name h).1 f)
          ]
          | false ↦ λ c e f. never (has_name (filter right_test l) name) (λ h. clash (has_name l name) (kept-has right_test l name h).0 e)
        ] in split (has_name l name) (right_test name) refl refl
        ∙ two (λ a b. a && b) (ap (λ q. has_name q name) is_right) (right-same name)

    left-same : (name : List ℕ) → is_either needed (keys_read left_on ++ kept_right_of (names left) (names right) right_on needed options) name ≡ left_need j (has_name needed) name
    left-same name =
        ap (λ b. has_name needed name || b) (has-append (keys_read left_on) (kept_right_of (names left) (names right) right_on needed options) name)
        ∙ ap (λ b. has_name needed name || (has_name (keys_read left_on) name || b)) (has-kept-right name)
        ∙ sym (or-assoc (has_name needed name) (has_name (keys_read left_on) name) (has_name (names_of (u right)) name && right_need j (has_name needed) name))

    pub joined-kept : (i : ℕ) → kept_by names (node.Join left right left_on right_on options) needed i ≡ filter (need u (node.Join left right left_on right_on options) (has_name needed) i) (names i)
    joined-kept i =
        let kept = kept_right_of (names left) (names right) right_on needed options in
        let split : (b : Bool) → eqb i left ≡ b → cond b (kept_left_of (names left) left_on needed kept) (kept_right_of (names left) (names i) right_on needed options) ≡ filter (λ name. cond b (left_need j (has_name needed) name) (right_need j (has_name needed) name)) (names i) = elim [
          | true ↦ λ e. (
              let is : i ≡ left = (Decides-eqb i left).0 e in
              everywhere (is_either needed (keys_read left_on ++ kept)) (left_need j (has_name needed)) left-same (names left)
              ∙ ap (λ k. filter (left_need j (has_name needed)) (names k)) (sym is))
          | false ↦ λ e. everywhere right_test (right_need j (has_name needed)) right-same (names i)
        ] in split (eqb i left) refl

  pub kept-by : (x : Node) (needed : List (List ℕ)) (i : ℕ) → AreTheirs x → kept_by names x needed i ≡ filter (need u x (has_name needed) i) (names i)
  kept-by (node.DataFrameScan frame columns) needed i h = none-kept (need u (node.DataFrameScan frame columns) (has_name needed) i) (λ name. refl) (names i)
  kept-by (node.Filter input predicate) needed i h = everywhere (is_either needed _) (need u (node.Filter input predicate) (has_name needed) i) (λ name. refl) (names i)
  kept-by (node.SimpleProjection input columns) needed i h = everywhere (has_name needed) (need u (node.SimpleProjection input columns) (has_name needed) i) (λ name. refl) (names i)
  kept-by (node.Select input exprs) needed i h = everywhere (has_name _) (need u (node.Select input exprs) (has_name needed) i) (λ name. refl) (names i)
  kept-by (node.HStack input exprs) needed i h = everywhere (is_either needed _) (need u (node.HStack input exprs) (has_name needed) i) (λ name. refl) (names i)
  kept-by (node.MapFunction input (function.Unpivot on index variable value)) needed i h = everywhere (is_either on index) (need u (node.MapFunction input (function.Unpivot on index variable value)) (has_name needed) i) (λ name. refl) (names i)
  kept-by (node.MapFunction input (function.Rename pairs)) needed i h = everywhere (is_needed_anew needed pairs) (need u (node.MapFunction input (function.Rename pairs)) (has_name needed) i) (λ name. refl) (names i)
  kept-by (node.Union inputs) needed i h = all-kept (need u (node.Union inputs) (has_name needed) i) (λ name. refl) (names i)
  kept-by (node.Join left right left_on right_on options) needed i h = joined-kept left right left_on right_on options needed (h left (first-is left (right ∷ []))) (h right (next-is left right (right ∷ []) (first-is right []))) i
  kept-by (node.Sort input by options) needed i h = sorted-kept options.slice by needed (names i) ∙ everywhere (sort_need options.slice by (has_name needed)) (need u (node.Sort input by options) (has_name needed) i) (λ name. refl) (names i)

-- ---- some, or the first

has-and : (p : Names) (l : List (List ℕ)) (name : List ℕ) → has_name (filter p l) name ≡ (has_name l name && p name)
has-and p l name =
    let split : (b c : Bool) → has_name l name ≡ b → p name ≡ c → has_name (filter p l) name ≡ (b && c) = elim [
      | true ↦ elim [
        | true ↦ λ e f. has-kept p l name e f
        | false ↦ λ e f. never (has_name (filter p l) name) (λ h. clash (p name) (kept-has p l name h).1 f)
      ]
      | false ↦ λ c e f. never (has_name (filter p l) name) (λ h. clash (has_name l name) (kept-has p l name h).0 e)
    ] in split (has_name l name) (p name) refl refl

some-kept : (p : Names) (l : List (List ℕ)) → list_any p l ≡ true → (kept : List (List ℕ)) → filter p l ≡ kept → or_head kept l ≡ kept
some-kept p l some [] e = any-name p l (or_head [] l ≡ []) (λ x h n. (let there = has-kept p l x h n in let no_ : false ≡ true = ap (λ q. has_name q x) (sym e) ∙ there in absurd cc)) some
some-kept p l some (n ∷ kept) e = refl

or-none : (b : Bool) → (b || false) ≡ b
or-none true = refl
or-none false = refl

first-has : (l : List (List ℕ)) (name : List ℕ) → has_name (first_only l) name ≡ is_first l name
first-has [] name = refl
first-has (n ∷ l) name = or-none (bytes_eq n name)

none-there : (p : Names) (l : List (List ℕ)) → list_any p l ≡ false → filter p l ≡ []
none-there p [] h = refl
none-there p (n ∷ l) h =
    let here = or-first (p n) (list_any p l) h in
    ap (λ b. cond b (n ∷ filter p l) (filter p l)) here ∙ none-there p l (or-second (p n) (list_any p l) h)

has-or-head : (p : Names) (l : List (List ℕ)) (name : List ℕ) → has_name (or_head (filter p l) l) name ≡ or_first l p name
has-or-head p l name =
    let split : (b : Bool) → list_any p l ≡ b → has_name (or_head (filter p l) l) name ≡ cond b (has_name l name && p name) (is_first l name) = elim [
      | true ↦ λ e. ap (λ q. has_name q name) (some-kept p l e (filter p l) refl) ∙ has-and p l name
      | false ↦ λ e. ap (λ q. has_name (or_head q l) name) (none-there p l e) ∙ first-has l name
    ] in split (list_any p l) refl

-- what is needed, as a list and as a test
pub need-by : (frames : List Table) (u : ℕ → List Field) (names : ℕ → List (List ℕ)) (x : Node) (needed : List (List ℕ)) (i : ℕ) → ((k : ℕ) → is_input x k ≡ true → names k ≡ names_of (u k)) → is_input x i ≡ true → (name : List ℕ) → has_name (need_by names x needed i) name ≡ need_of u x (has_name needed) i name
need-by frames u names x needed i theirs own name =
    ap (λ l. has_name (or_head l (names i)) name) (kept-by frames u names x needed i theirs)
    ∙ has-or-head (need u x (has_name needed) i) (names i) name
    ∙ ap (λ l. or_first l (need u x (has_name needed) i) name) (theirs i own)
