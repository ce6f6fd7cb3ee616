-- What is needed of nodes: some names, or all that a node gives.
use Rattle.std.proofs.Common.{◌≡◌, ◌<◌, ◌≤◌, ℕ, zero, suc, ◌+◌, Bool, true, false, cond, eqb, not, ◌&&◌, ◌||◌, List, [], ◌∷◌, ◌++◌, Option, Some, None, length, set, replicate, take, get_or, map, refl, ap, sym, ◌∙◌, subst, arith}
use Rattle.std.specs.Prelude.{filter}
use Rattle.std.specs.Str.{bytes_eq}
use Rattle.std.proofs.lemmas.Bool.Decides.{Decides-eqb}
use Rattle.std.proofs.lemmas.List.{length-set, length-replicate}
use Rattle.pipe_frame.specs.Frame.{Table}
use Rattle.pipe_schema.specs.Schema.{has_name, names_of}
use Rattle.pipe_expr.specs.Formula.{Formula, Column, Literal, Add, Sub, Mul, Eq, NotEq, Lt, LtEq, Gt, GtEq, And, Or, Not, IsNull, IsNotNull}
use Rattle.pipe_expr.specs.Types.{columns_in}
use Rattle.pipe_expr.specs.Projections.{renamed}
use Rattle.pipe_expr.specs.Joins.{coalesces, makes_pairs, column_names}
use Rattle.pipe_expr.specs.declared.join_words.FunctionIR.TheVariants as function
use Rattle.pipe_plan.specs.Node.{Node, node_of}
use Rattle.pipe_plan.specs.Node as node
use Rattle.pipe_plan.specs.Under.{node_at, inputs_of}
use Rattle.pipe_plan.specs.Schemas.{schema_of}
use Rattle.pipe_plan.specs.declared.ir.IR.{IR}
use Rattle.pipe_plan.specs.declared.ir.JoinOptions.{JoinOptions}
use Rattle.pipe_plan.specs.declared.ir.PlanSlice.{PlanSlice}
use Rattle.pipe_rules.specs.Placed.{is_input}
use Rattle.pipe_rules.proofs.Down.{and-first, and-second}
use Rattle.pipe_rules.proofs.Filters.{all-of}
use Rattle.pipe_rules.specs.Grown.{over}
use Rattle.pipe_rules.proofs.Readings.{map-long, read-at}
use Rattle.pipe_rules.specs.Needs.{Names, needed_exprs, columns_read, keys_read}
use Rattle.pipe_rules.proofs.Kept.{has-kept, all-in, all-true}
use Rattle.pipe_optimize.specs.Lists.{names_at, or_head, AreOrdered, HasNames}
use Rattle.pipe_optimize.specs.Needed.{is_scan}
use Rattle.pipe_optimize.specs.Put.{HasPut, ArePassed, AreTree}
use Rattle.pipe_optimize.specs.Sides.{fresh_names, keeps_name, suffixed_by, joined_names_of, is_either, is_needed_anew, right_needed, kept_right_of, kept_left_of, kept_sorted_of, output_by, need_by}
use Rattle.pipe_optimize.specs.Whole.{need_or, needs_over, need_at, sort_needs_all, needs_all, AreAllOf, AreOutputs}
use Rattle.pipe_optimize.proofs.NameLists.{or-left, only-one, second-one, has-first, has-second, has-map}
use Rattle.pipe_optimize.proofs.ByNames.{output-by}
use Rattle.pipe_optimize.proofs.Passing.{set-here, set-other, made-at, put-step, put-around, passed-step, not-own, IsBack}

-- ---- needs by numbers

none-at : (n : ℕ) → names_at [] n ≡ []
none-at zero = refl
none-at (suc n) = refl

pub over-long : (lists : List (List (List ℕ))) (needs : List (Option (List (List ℕ)))) → length (needs_over lists needs) ≡ length needs
over-long lists [] = refl
over-long [] (need ∷ needs) = ap suc (over-long [] needs)
over-long (names ∷ lists) (need ∷ needs) = ap suc (over-long lists needs)

pub over-at : (lists : List (List (List ℕ))) (needs : List (Option (List (List ℕ)))) (n : ℕ) → n < length needs → names_at (needs_over lists needs) n ≡ need_or (names_at lists n) (need_at needs n)
over-at lists [] n lt = absurd (omega arith)
over-at [] (need ∷ needs) zero lt = refl
over-at [] (need ∷ needs) (suc n) lt = over-at [] needs n (omega arith) ∙ ap (λ l. need_or l (need_at needs n)) (none-at n ∙ sym (none-at (suc n)))
over-at (names ∷ lists) (need ∷ needs) zero lt = refl
over-at (names ∷ lists) (need ∷ needs) (suc n) lt = over-at lists needs n (omega arith)

pub over-set : (lists : List (List (List ℕ))) (needs : List (Option (List (List ℕ)))) (i : ℕ) (need : Option (List (List ℕ))) → needs_over lists (set needs i need) ≡ set (needs_over lists needs) i (need_or (names_at lists i) need)
over-set lists [] i need = refl
over-set [] (x ∷ needs) zero need = refl
over-set [] (x ∷ needs) (suc i) need = ap (λ l. need_or [] x ∷ l) (over-set [] needs i need ∙ ap (λ q. set (needs_over [] needs) i (need_or q need)) (none-at i ∙ sym (none-at (suc i))))
over-set (names ∷ lists) (x ∷ needs) zero need = refl
over-set (names ∷ lists) (x ∷ needs) (suc i) need = ap (λ l. need_or names x ∷ l) (over-set lists needs i need)

pub over-other : (lists : List (List (List ℕ))) (needs : List (Option (List (List ℕ)))) (i n : ℕ) (need : Option (List (List ℕ))) → eqb i n ≡ false → names_at (needs_over lists (set needs i need)) n ≡ names_at (needs_over lists needs) n
over-other lists needs i n need e = ap (λ q. names_at q n) (over-set lists needs i need) ∙ set-other (needs_over lists needs) i n (need_or (names_at lists i) need) e

-- what is needed of a node, by what is kept for it
pub over-got : (lists : List (List (List ℕ))) (needs : List (Option (List (List ℕ)))) (n : ℕ) (need : Option (List (List ℕ))) → n < length needs → need ≡ get_or needs n need → names_at (needs_over lists needs) n ≡ need_or (names_at lists n) need
over-got lists [] n need lt is = absurd (omega arith)
over-got [] (x ∷ needs) zero need lt is = ap (need_or []) (sym is)
over-got [] (x ∷ needs) (suc n) need lt is = over-got [] needs n need (omega arith) is ∙ ap (λ l. need_or l need) (none-at n ∙ sym (none-at (suc n)))
over-got (names ∷ lists) (x ∷ needs) zero need lt is = ap (need_or names) (sym is)
over-got (names ∷ lists) (x ∷ needs) (suc n) need lt is = over-got lists needs n need (omega arith) is

pub over-some : (lists : List (List (List ℕ))) (needs : List (Option (List (List ℕ)))) (n : ℕ) (need : Option (List (List ℕ))) (kept given : List (List ℕ)) → n < length needs → need ≡ get_or needs n need → need ≡ Some kept → given ≡ kept → given ≡ names_at (needs_over lists needs) n
over-some lists needs n need kept given lt at is same = same ∙ sym (over-got lists needs n need lt at ∙ ap (need_or (names_at lists n)) is)

pub over-none : (lists : List (List (List ℕ))) (needs : List (Option (List (List ℕ)))) (n : ℕ) (need : Option (List (List ℕ))) (given : List (List ℕ)) → n < length needs → need ≡ get_or needs n need → need ≡ None → given ≡ names_at lists n → given ≡ names_at (needs_over lists needs) n
over-none lists needs n need given lt at is same = same ∙ sym (over-got lists needs n need lt at ∙ ap (need_or (names_at lists n)) is)

pub over-out : (lists : List (List (List ℕ))) (needs : List (Option (List (List ℕ)))) (n : ℕ) → length needs ≤ n → [] ≡ names_at (needs_over lists needs) n
over-out lists [] n le = sym (none-at n)
over-out [] (x ∷ needs) zero le = absurd (omega arith)
over-out [] (x ∷ needs) (suc n) le = over-out [] needs n (omega arith)
over-out (names ∷ lists) (x ∷ needs) zero le = absurd (omega arith)
over-out (names ∷ lists) (x ∷ needs) (suc n) le = over-out lists needs n (omega arith)

pub ruleset over_rules = (over-some, over-none, over-out)

-- all is needed of each
pub over-whole : (lists : List (List (List ℕ))) (count n : ℕ) → n < count → names_at (needs_over lists (replicate count None)) n ≡ names_at lists n
over-whole lists zero n lt = absurd (omega arith)
over-whole [] (suc count) zero lt = refl
over-whole [] (suc count) (suc n) lt = over-whole [] count n (omega arith) ∙ (none-at n ∙ sym (none-at (suc n)))
over-whole (names ∷ lists) (suc count) zero lt = refl
over-whole (names ∷ lists) (suc count) (suc n) lt = over-whole lists count n (omega arith)

pub whole-long : (needs : List (Option (List (List ℕ)))) (count many : ℕ) → needs ≡ replicate count None → count ≡ many → length needs ≡ many
whole-long needs count many is same = ap length is ∙ length-replicate count None ∙ same

pub whole-root : (lists : List (List (List ℕ))) (needs : List (Option (List (List ℕ)))) (count many root : ℕ) → needs ≡ replicate count None → count ≡ many → root < many → names_at (needs_over lists needs) root ≡ names_at lists root
whole-root lists needs count many root is same lt = ap (λ q. names_at (needs_over lists q) root) is ∙ over-whole lists count root (omega arith)

-- ---- inputs of which all is needed

own-head : (l : List (List ℕ)) → or_head l l ≡ l
own-head [] = refl
own-head (n ∷ l) = refl

-- where each name passes, all are kept
all-pass : (p : Names) (l : List (List ℕ)) → ((name : List ℕ) → has_name l name ≡ true → p name ≡ true) → or_head (filter p l) l ≡ l
all-pass p l h = ap (λ kept. or_head kept l) (all-true p l (all-of (λ n. has_name l n ≡ true) (λ n. p n ≡ true) h l (all-in l))) ∙ own-head l

all-either : (needed read l : List (List ℕ)) → ((name : List ℕ) → has_name l name ≡ true → has_name needed name ≡ true) → or_head (filter (is_either needed read) l) l ≡ l
all-either needed read l h = all-pass (is_either needed read) l (λ name there. or-left (has_name needed name) (has_name read name) (h name there))

sorted-all : (slice : Option PlanSlice) (by needed l : List (List ℕ)) (whole : Bool) → sort_needs_all whole slice ≡ true → (whole ≡ true → needed ≡ l) → or_head (kept_sorted_of slice by needed l) l ≡ l
sorted-all None by needed l whole all h = all-either needed by l (λ name there. ap (λ q. has_name q name) (h all) ∙ there)
sorted-all (Some slice) by needed l whole all h = own-head l

-- keys that are plain columns are read
plain-read : (on : List Formula) (name : List ℕ) → has_name (column_names on) name ≡ true → has_name (keys_read on) name ≡ true
plain-read [] name h = h
plain-read (Column n ∷ on) name h =
    let split : (b : Bool) → (b || has_name (column_names on) name) ≡ true → (b || has_name (keys_read on) name) ≡ true = elim [
      | true ↦ λ e. refl
      | false ↦ λ e. plain-read on name e
    ] in split (bytes_eq n name) h
plain-read (Literal t value ∷ on) name h = plain-read on name h
plain-read (Add l r ∷ on) name h = has-second (columns_in (Add l r)) (keys_read on) name (plain-read on name h)
plain-read (Sub l r ∷ on) name h = has-second (columns_in (Sub l r)) (keys_read on) name (plain-read on name h)
plain-read (Mul l r ∷ on) name h = has-second (columns_in (Mul l r)) (keys_read on) name (plain-read on name h)
plain-read (Eq l r ∷ on) name h = has-second (columns_in (Eq l r)) (keys_read on) name (plain-read on name h)
plain-read (NotEq l r ∷ on) name h = has-second (columns_in (NotEq l r)) (keys_read on) name (plain-read on name h)
plain-read (Lt l r ∷ on) name h = has-second (columns_in (Lt l r)) (keys_read on) name (plain-read on name h)
plain-read (LtEq l r ∷ on) name h = has-second (columns_in (LtEq l r)) (keys_read on) name (plain-read on name h)
plain-read (Gt l r ∷ on) name h = has-second (columns_in (Gt l r)) (keys_read on) name (plain-read on name h)
plain-read (GtEq l r ∷ on) name h = has-second (columns_in (GtEq l r)) (keys_read on) name (plain-read on name h)
plain-read (And l r ∷ on) name h = has-second (columns_in (And l r)) (keys_read on) name (plain-read on name h)
plain-read (Or l r ∷ on) name h = has-second (columns_in (Or l r)) (keys_read on) name (plain-read on name h)
plain-read (Not inner ∷ on) name h = has-second (columns_in (Not inner)) (keys_read on) name (plain-read on name h)
plain-read (IsNull inner ∷ on) name h = has-second (columns_in (IsNull inner)) (keys_read on) name (plain-read on name h)
plain-read (IsNotNull inner ∷ on) name h = has-second (columns_in (IsNotNull inner)) (keys_read on) name (plain-read on name h)

not-kept : (a b : Bool) → not (a && b) ≡ false → b ≡ true
not-kept true true h = refl
not-kept true false h = absurd (let no_ : true ≡ false = h in cc)
not-kept false b h = absurd (let no_ : true ≡ false = h in cc)

module _ (names : ℕ → List (List ℕ)) (left right : ℕ) (left_on right_on : List Formula) (options : JoinOptions) (needed : List (List ℕ)) where
  abbrev paired : Bool
  paired = makes_pairs options.how

  abbrev right_keys : List (List ℕ)
  right_keys = column_names right_on

  abbrev right_shown : List (List ℕ)
  right_shown = map (suffixed_by (names left) options.suffix) (filter (keeps_name right_keys options) (names right))

  left-there : (b : Bool) → needed ≡ cond b (names left ++ right_shown) (names left) → (name : List ℕ) → has_name (names left) name ≡ true → has_name needed name ≡ true
  left-there true is name there = ap (λ q. has_name q name) is ∙ has-first (names left) right_shown name there
  left-there false is name there = ap (λ q. has_name q name) is ∙ there

  right-there : paired ≡ true → needed ≡ names left ++ right_shown → (name : List ℕ) → has_name (names right) name ≡ true → right_needed (names left) right_keys (keys_read right_on) needed options name ≡ true
  right-there yes_ is name there =
      let s = suffixed_by (names left) options.suffix name in
      let read = has_name (keys_read right_on) name in
      let split : (b : Bool) → keeps_name right_keys options name ≡ b → (paired && b && has_name needed s || read) ≡ true = elim [
        | true ↦ λ e. (
            let kept : has_name right_shown s ≡ true = has-map (suffixed_by (names left) options.suffix) (filter (keeps_name right_keys options) (names right)) name (has-kept (keeps_name right_keys options) (names right) name there e) in
            let own : has_name needed s ≡ true = ap (λ q. has_name q s) is ∙ has-second (names left) right_shown s kept in
            ap (λ m. m && true && has_name needed s || read) yes_ ∙ or-left (has_name needed s) read own)
        | false ↦ λ e. ap (λ m. m && false && has_name needed s || read) yes_ ∙ plain-read right_on name (not-kept (coalesces options.how options.coalesce) (has_name right_keys name) e)
      ] in split (keeps_name right_keys options name) refl

  joined-all : (i : ℕ) → (eqb i left || paired) ≡ true → needed ≡ joined_names_of (names left) (names right) right_on options → is_input (node.Join left right left_on right_on options) i ≡ true → need_by names (node.Join left right left_on right_on options) needed i ≡ names i
  joined-all i all is own =
      let kept = kept_right_of (names left) (names right) right_on needed options in
      let split : (b : Bool) → eqb i left ≡ b → (b || paired) ≡ true → or_head (cond b (kept_left_of (names left) left_on needed kept) (kept_right_of (names left) (names i) right_on needed options)) (names i) ≡ names i = elim [
        | true ↦ λ e f. (
            let same : i ≡ left = (Decides-eqb i left).0 e in
            ap (λ k. or_head (kept_left_of (names left) left_on needed kept) (names k)) same
            ∙ all-either needed (keys_read left_on ++ kept) (names left) (left-there paired is)
            ∙ ap names (sym same))
        | false ↦ λ e f. (
            let same : right ≡ i = second-one left right i own e in
            let both : needed ≡ names left ++ right_shown = is ∙ ap (λ b. cond b (names left ++ right_shown) (names left)) f in
            all-pass (right_needed (names left) right_keys (keys_read right_on) needed options) (names i)
            (λ name there. right-there f both name (ap (λ k. has_name (names k) name) same ∙ there)))
      ] in split (eqb i left) refl all

-- where a node needs all of an input, that is what is needed
pub needs-all : (names : ℕ → List (List ℕ)) (x : Node) (needed : List (List ℕ)) (whole : Bool) (i : ℕ) → needs_all whole x i ≡ true → (whole ≡ true → is_scan x ≡ false → needed ≡ output_by [] names x) → is_input x i ≡ true → need_by names x needed i ≡ names i
needs-all names (node.DataFrameScan frame columns) needed whole i all h own = absurd (let no_ : false ≡ true = all in cc)
needs-all names (node.Filter input predicate) needed whole i all h own =
    let is : needed ≡ names i = h all refl ∙ ap names (only-one input i own) in
    all-either needed (columns_in predicate) (names i) (λ name there. ap (λ q. has_name q name) is ∙ there)
needs-all names (node.SimpleProjection input columns) needed whole i all h own = absurd (let no_ : false ≡ true = all in cc)
needs-all names (node.Select input exprs) needed whole i all h own = absurd (let no_ : false ≡ true = all in cc)
needs-all names (node.HStack input exprs) needed whole i all h own =
    let same : input ≡ i = only-one input i own in
    let is : needed ≡ names input ++ fresh_names (names input) exprs = h all refl in
    all-either needed (columns_read (needed_exprs (has_name needed) exprs)) (names i) (λ name there. ap (λ q. has_name q name) is ∙ has-first (names input) (fresh_names (names input) exprs) name (ap (λ k. has_name (names k) name) same ∙ there))
needs-all names (node.MapFunction input (function.Unpivot on index variable value)) needed whole i all h own = absurd (let no_ : false ≡ true = and-second whole false all in cc)
needs-all names (node.MapFunction input (function.Rename pairs)) needed whole i all h own =
    let same : input ≡ i = only-one input i own in
    let is : needed ≡ map (renamed pairs) (names input) = h (and-first whole true all) refl in
    all-pass (is_needed_anew needed pairs) (names i) (λ name there. ap (λ q. has_name q (renamed pairs name)) is ∙ has-map (renamed pairs) (names input) name (ap (λ k. has_name (names k) name) same ∙ there))
needs-all names (node.Union inputs) needed whole i all h own = own-head (names i)
needs-all names (node.Join left right left_on right_on options) needed whole i all h own =
    joined-all names left right left_on right_on options needed i (and-second whole (eqb i left || makes_pairs options.how) all) (h (and-first whole (eqb i left || makes_pairs options.how) all) refl) own
needs-all names (node.Sort input by options) needed whole i all h own =
    sorted-all options.slice by needed (names i) whole all (λ w. h w refl ∙ ap names (only-one input i own))

-- ---- the names of outputs

no-frames : (frames : List Table) (names : ℕ → List (List ℕ)) (x : Node) → is_scan x ≡ false → output_by frames names x ≡ output_by [] names x
no-frames frames names (node.DataFrameScan frame columns) h = absurd (let no_ : true ≡ false = h in cc)
no-frames frames names (node.Filter input predicate) h = refl
no-frames frames names (node.SimpleProjection input columns) h = refl
no-frames frames names (node.Select input exprs) h = refl
no-frames frames names (node.HStack input exprs) h = refl
no-frames frames names (node.MapFunction input function) h = refl
no-frames frames names (node.Union inputs) h = refl
no-frames frames names (node.Join left right left_on right_on options) h = refl
no-frames frames names (node.Sort input by options) h = refl

pub outputs-of : (frames : List Table) (nodes : List Node) (lists : List (List (List ℕ))) → AreOrdered nodes → HasNames frames nodes lists → AreOutputs lists nodes
outputs-of frames nodes lists ordered names n lt all plain =
    let x = node_at nodes n in
    let s = schema_of (over frames nodes) in
    names n lt
    ∙ ap names_of (made-at frames nodes ordered n lt)
    ∙ sym (output-by frames s (names_at lists) x (λ i own. (let less = ordered n i lt own in names i (omega arith))))
    ∙ no-frames frames (names_at lists) x plain

pub outputs-at : (lists : List (List (List ℕ))) (irs : List IR) (n : ℕ) (x : IR) (names : List (List ℕ)) → AreOutputs lists (map node_of irs) → n < length irs → x ≡ get_or irs n x → names ≡ names_at lists n → AreAllOf true lists (node_of x) names
outputs-at lists irs n x names outputs lt at is =
    let nodes = map node_of irs in
    let many = map-long node_of irs in
    subst (λ y. AreAllOf true lists y names) (read-at irs n x lt at)
    (subst (AreAllOf true lists (node_at nodes n)) (sym is) (outputs n (omega arith)))

-- ---- needs, downwards

-- one input more has what is needed of it
pub put-set : (lists : List (List (List ℕ))) (f : ℕ → List (List ℕ)) (xs : List ℕ) (i : ℕ) (old now new : List (Option (List (List ℕ)))) (need : Option (List (List ℕ))) → i < length xs → HasPut f (take i xs) (needs_over lists old) (needs_over lists now) → get_or xs i 0 < length now → new ≡ set now (get_or xs i 0) need → need_or (names_at lists (get_or xs i 0)) need ≡ f (get_or xs i 0) → HasPut f (take (i + 1) xs) (needs_over lists old) (needs_over lists new)
put-set lists f xs i old now new need lt before fits is made =
    let x = get_or xs i 0 in
    let long = over-long lists now in
    subst (λ q. HasPut f (take (i + 1) xs) (needs_over lists old) q) (sym (ap (needs_over lists) is ∙ over-set lists now x need))
    (put-step f xs i (needs_over lists old) (needs_over lists now) (need_or (names_at lists x) need) lt before (omega arith) made)

pub set-long : (now new : List (Option (List (List ℕ)))) (n many : ℕ) (need : Option (List (List ℕ))) → new ≡ set now n need → length now ≡ many → length new ≡ many
set-long now new n many need is long = ap length is ∙ length-set now n need ∙ long

-- one node more has handed down what is needed, which is out meanwhile
pub passed-down : (lists : List (List (List ℕ))) (irs : List IR) (root k n : ℕ) (old out put new : List (Option (List (List ℕ)))) (x : IR) (need : Option (List (List ℕ))) (names : List (List ℕ)) → AreTree (map node_of irs) root → k ≡ suc n → k ≤ length irs → x ≡ get_or irs n x → length old ≡ length irs → need ≡ need_at old n → out ≡ set old n None → names ≡ names_at lists n → HasPut (need_by (names_at lists) (node_of x) (need_or names need)) (inputs_of (node_of x)) (needs_over lists out) (needs_over lists put) → length put ≡ length out → new ≡ set put n need → ArePassed lists (map node_of irs) root k (needs_over lists old) → ArePassed lists (map node_of irs) root n (needs_over lists new)
passed-down lists irs root k n old out put new x need names tree is le at long own out_is names_is handed put_long new_is before =
    let needed = need_or names need in
    let f = need_by (names_at lists) (node_of x) needed in
    let long_out : length out ≡ length old = set-long old out n (length old) None out_is refl in
    let long_new : length new ≡ length put = set-long put new n (length put) need new_is refl in
    let over_old = over-long lists old in
    let over_put = over-long lists put in
    let own_is : needed ≡ names_at (needs_over lists old) n = ap (λ l. need_or l need) names_is ∙ ap (need_or (names_at lists n)) own ∙ sym (over-at lists old n (omega arith)) in
    let back : IsBack n (needs_over lists old) (needs_over lists out) (needs_over lists put) (needs_over lists new) needed = record {
      was = own_is;
      out = λ i e. ap (λ q. names_at (needs_over lists q) i) out_is ∙ over-other lists old n i None e;
      out_long = over-long lists out ∙ long_out ∙ sym over_old;
      here = ap (λ q. names_at (needs_over lists q) n) new_is ∙ ap (λ q. names_at q n) (over-set lists put n need) ∙ set-here (needs_over lists put) n (need_or (names_at lists n) need) (omega arith) ∙ ap (λ l. need_or l need) (sym names_is);
      back = λ i e. ap (λ q. names_at (needs_over lists q) i) new_is ∙ over-other lists put n i need e;
      back_long = over-long lists new ∙ long_new ∙ sym over_put;
    } in
    passed-step lists irs root k n (needs_over lists old) (needs_over lists new) x needed tree is le at before own_is
    (put-around f (inputs_of (node_of x)) n (needs_over lists old) (needs_over lists out) (needs_over lists put) (needs_over lists new) needed (not-own irs root n x tree (omega arith) at) back handed)
