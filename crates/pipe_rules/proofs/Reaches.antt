-- Conjuncts by how far they reach: which go onto the left input of a join.
use Rattle.std.proofs.Common.{◌≡◌, ◌<◌, ◌≤◌, ℕ, zero, suc, ◌+◌, Bool, true, false, cond, not, ◌&&◌, ◌||◌, List, [], ◌∷◌, ◌++◌, Option, Some, None, length, take, take-take, map, max, ltb, lt-ltb, le-ltb, ltb-true, ltb-false, refl, ap, sym, ◌∙◌, subst, arith, append_assoc, append-nil}
use Rattle.std.specs.Prelude.{filter}
use Rattle.std.specs.List.{AllByRecursion, flat_map, list_all}
use Rattle.std.specs.Str.{bytes_eq}
use Rattle.std.proofs.Math.Nat.{le-max_left, le-max_right, max-le, max-zero, zero-max}
use Rattle.std.proofs.Math.Seq.{take-append_seam, take-length}
use Rattle.std.proofs.lemmas.Bool.{and_parts}
use Rattle.std.proofs.lemmas.List.{length-append}
use Rattle.pipe_schema.specs.Schema.{has_name, names_of, place_from, place_of, IsSchema}
use Rattle.pipe_schema.specs.declared.field.Field.{Field}
use Rattle.pipe_expr.specs.Formula.{Formula, formula_of}
use Rattle.pipe_expr.specs.Types.{columns_in}
use Rattle.pipe_expr.specs.Joins.{Join, makes_pairs, is_kept, suffixed, join_fields}
use Rattle.pipe_expr.specs.declared.expr.Expr.{Expr}
use Rattle.pipe_expr.specs.declared.join_words.JoinType.{JoinType}
use Rattle.pipe_expr.specs.declared.join_words.JoinType.TheVariants as how
use Rattle.pipe_plan.specs.Node.{Node, node_of}
use Rattle.pipe_plan.specs.Node as node
use Rattle.pipe_plan.specs.Plan.{Plan}
use Rattle.pipe_plan.specs.Under.{node_at, inputs_of, is_under}
use Rattle.pipe_plan.specs.Schemas.{join_over, node_schema, schema_of}
use Rattle.pipe_plan.specs.Faults.{IsWellFormed}
use Rattle.pipe_plan.specs.declared.ir.JoinOptions.{JoinOptions}
use Rattle.pipe_plan.specs.declared.ir.IR.{IR}
use Rattle.pipe_plan.specs.declared.ir.IR.TheVariants as ir
use Rattle.pipe_events.proofs.Lists.{all-append, all-filter}
use Rattle.pipe_rules.proofs.Filters.{all-of, all-left, all-right, filter-map, filter-append, filter-constant}
use Rattle.pipe_rules.specs.Placing.{Placing, Above, OnInputs, OnLeft, OnRight, placing, reads_only, is_not_in, right_name, on_left_or, on_right_or, on_right, below_join}
use Rattle.pipe_rules.specs.Names.{with_names}
use Rattle.pipe_rules.specs.Placed.{first_input}
use Rattle.pipe_rules.specs.Parted.{Parts, above_in, inputs_in, left_in, right_in, parts_of, is_join}
use Rattle.pipe_rules.specs.declared.batch.Reaching.{Reaching}
use Rattle.pipe_rules.specs.declared.batch.Chunk.{Chunk}
use Rattle.pipe_rules.specs.declared.batch.Batch.{Batch}
use Rattle.pipe_rules.specs.Renumbered.{first_or}
use Rattle.pipe_rules.specs.Reach.{place_or, reach_of, HasReach, formula_in, is_near, is_far, far_formulas, furthest_from, furthest_of, chunk_of, formulas_in_chunk, formulas_in_chunks, near_in, far_in, IsChunk, IsOver, IsChunkOver, AreChunked, AreOver, BeginsWith, lets_left, is_passed_left}
use Rattle.pipe_rules.proofs.Granted.{granted}

-- ---- names among the first fields

least : (name : List ℕ) (fields : List Field) (m : ℕ) → m ≤ place_or (m + length fields) (place_from m name fields)
least name [] m = (let e : m ≤ m + 0 = omega arith in e)
least name (x ∷ xs) m =
    elim (bytes_eq x.name name) as (λ b. m ≤ place_or (m + suc (length xs)) (cond b (Some m) (place_from (m + 1) name xs))) [
      | true ↦ (let e : m ≤ m = omega arith in e)
      | false ↦ (
          let same : m + 1 + length xs ≡ m + suc (length xs) = omega arith in
          let more : m + 1 ≤ place_or (m + 1 + length xs) (place_from (m + 1) name xs) = least name xs (m + 1) in
          let less : m ≤ place_or (m + 1 + length xs) (place_from (m + 1) name xs) = omega (arith, more) in
          subst (λ q. m ≤ place_or q (place_from (m + 1) name xs)) same less)
    ]

has-from : (name : List ℕ) (fields : List Field) (m n : ℕ) → n ≤ length fields → has_name (names_of (take n fields)) name ≡ ltb (place_or (m + length fields) (place_from m name fields)) (m + n)
has-from name [] m zero le = sym (le-ltb (m + 0) (m + 0) (omega arith))
has-from name [] m (suc n) le = absurd (omega arith)
has-from name (x ∷ xs) m zero le =
    let behind : m ≤ place_or (m + length (x ∷ xs)) (place_from m name (x ∷ xs)) = least name (x ∷ xs) m in
    sym (le-ltb (place_or (m + length (x ∷ xs)) (place_from m name (x ∷ xs))) (m + 0) (omega (arith, behind)))
has-from name (x ∷ xs) m (suc n) le =
    let long : m + 1 + length xs ≡ m + suc (length xs) = omega arith in
    let next : m + 1 + n ≡ m + suc n = omega arith in
    elim (bytes_eq x.name name) as (λ b. (b || has_name (names_of (take n xs)) name) ≡ ltb (place_or (m + suc (length xs)) (cond b (Some m) (place_from (m + 1) name xs))) (m + suc n)) [
      | true ↦ sym (lt-ltb m (m + suc n) (omega arith))
      | false ↦
          has-from name xs (m + 1) n (omega arith)
          ∙ ap (λ q. ltb (place_or q (place_from (m + 1) name xs)) (m + 1 + n)) long
          ∙ ap (ltb (place_or (m + suc (length xs)) (place_from (m + 1) name xs))) next
    ]

has-first : (name : List ℕ) (fields : List Field) (n : ℕ) → n ≤ length fields → has_name (names_of (take n fields)) name ≡ ltb (place_or (length fields) (place_of name fields)) n
has-first name fields n le =
    let long : 0 + length fields ≡ length fields = omega arith in
    let same : 0 + n ≡ n = omega arith in
    has-from name fields 0 n le
    ∙ ap (λ q. ltb (place_or q (place_of name fields)) (0 + n)) long
    ∙ ap (ltb (place_or (length fields) (place_of name fields))) same

-- ---- reaches

max-lt : (a b n : ℕ) → a < n → b < n → max a b < n
max-lt a b zero first second = absurd (omega arith)
max-lt a b (suc n) first second =
    let left : a ≤ n = omega (arith, first) in
    let right : b ≤ n = omega (arith, second) in
    let below : max a b ≤ n = max-le left right in
    omega (arith, below)

split-below : (a b n : ℕ) (p q : Bool) → ltb a n ≡ p → ltb b n ≡ q → ltb (max a b) n ≡ (p && q)
split-below a b n true true f g = lt-ltb (max a b) n (max-lt a b n (ltb-true a n f) (ltb-true b n g))
split-below a b n true false f g =
    let over : n ≤ b = ltb-false b n g in
    let more : b ≤ max a b = le-max_right a b in
    le-ltb (max a b) n (omega (arith, over, more))
split-below a b n false q f g =
    let over : n ≤ a = ltb-false a n f in
    let more : a ≤ max a b = le-max_left a b in
    le-ltb (max a b) n (omega (arith, over, more))

max-below : (a b n : ℕ) → ltb (max a b) n ≡ (ltb a n && ltb b n)
max-below a b n = split-below a b n (ltb a n) (ltb b n) refl refl

names-reach : (fields : List Field) (names : List (List ℕ)) (n : ℕ) → 0 < n → n ≤ length fields → list_all (has_name (names_of (take n fields))) names ≡ ltb (reach_of fields names) n
names-reach fields [] n some le = sym (lt-ltb 0 n some)
names-reach fields (name ∷ names) n some le =
    ap (λ b. b && list_all (has_name (names_of (take n fields))) names) (has-first name fields n le)
    ∙ ap (λ b. ltb (place_or (length fields) (place_of name fields)) n && b) (names-reach fields names n some le)
    ∙ sym (max-below (place_or (length fields) (place_of name fields)) (reach_of fields names) n)

pub has-reach : (fields : List Field) (f : Formula) (reach : ℕ) → reach ≡ reach_of fields (columns_in f) → HasReach fields f reach
has-reach fields f reach is = record {
  tells = λ n some le. names-reach fields (columns_in f) n some le ∙ ap (λ r. ltb r n) (sym is);
}

max-one-more : (a b c : ℕ) → max a (max b c) ≡ max (max a b) c
max-one-more a b c =
    let ab-left = le-max_left a b in
    let ab-right = le-max_right a b in
    let bc-left = le-max_left b c in
    let bc-right = le-max_right b c in
    let to-left = le-max_left a (max b c) in
    let to-right = le-max_right a (max b c) in
    let from-left = le-max_left (max a b) c in
    let from-right = le-max_right (max a b) c in
    let one : max a (max b c) ≤ max (max a b) c = max-le (omega (arith, ab-left, from-left)) (max-le (omega (arith, ab-right, from-left)) from-right) in
    let other : max (max a b) c ≤ max a (max b c) = max-le (max-le to-left (omega (arith, bc-left, to-right))) (omega (arith, bc-right, to-right)) in
    omega (arith, one, other)

reach-append : (fields : List Field) (xs ys : List (List ℕ)) → max (reach_of fields xs) (reach_of fields ys) ≡ reach_of fields (xs ++ ys)
reach-append fields [] ys = zero-max (reach_of fields ys)
reach-append fields (x ∷ xs) ys =
    sym (max-one-more (place_or (length fields) (place_of x fields)) (reach_of fields xs) (reach_of fields ys))
    ∙ ap (max (place_or (length fields) (place_of x fields))) (reach-append fields xs ys)

pub both-reach : (fields : List Field) (xs ys : List (List ℕ)) (a b r : ℕ) → a ≡ reach_of fields xs → b ≡ reach_of fields ys → r ≡ max a b → r ≡ reach_of fields (xs ++ ys)
both-reach fields xs ys a b r first second is = is ∙ ap (λ q. max q b) first ∙ ap (max (reach_of fields xs)) second ∙ reach-append fields xs ys

pub one-reach : (fields : List Field) (name : List ℕ) (r : ℕ) → r ≡ place_or (length fields) (place_of name fields) → r ≡ reach_of fields (name ∷ [])
one-reach fields name r is = is ∙ sym (max-zero (place_or (length fields) (place_of name fields)))

pub ruleset reach_rules = (both-reach, one-reach)

-- ---- chunks

abbrev IsNear : ℕ → Reaching → Type 0
IsNear n one = is_near n one ≡ true

furthest-near : (n far : ℕ) (ones : List Reaching) → ltb (furthest_from far ones) n ≡ true → (ltb far n ≡ true) × AllByRecursion (IsNear n) ones
furthest-near n far [] e = (e, tt)
furthest-near n far (one ∷ ones) e =
    let rest = furthest-near n (max far one.reach) ones e in
    let two = and_parts (ltb far n) (ltb one.reach n) (sym (max-below far one.reach n) ∙ rest.0) in
    (two.0, (two.1, rest.1))

all-near : (n : ℕ) (chunk : Chunk) → IsChunk chunk → chunk.reach < n → AllByRecursion (IsNear n) chunk.conjuncts
all-near n chunk told lt = (furthest-near n 0 chunk.conjuncts (ap (λ r. ltb r n) (sym told) ∙ lt-ltb chunk.reach n lt)).1

near-all : (n : ℕ) (ones : List Reaching) → AllByRecursion (IsNear n) ones → filter (is_near n) ones ≡ ones
near-all n ones h = filter-constant (is_near n) true ones h

none-far : (n : ℕ) (ones : List Reaching) → AllByRecursion (IsNear n) ones → filter (is_far n) ones ≡ []
none-far n ones h = filter-constant (is_far n) false ones (all-of (IsNear n) (λ one. is_far n one ≡ false) (λ one e. ap not e) ones h)

pub whole-chunk : (n : ℕ) (chunk : Chunk) → IsChunk chunk → chunk.reach < n → chunk ≡ near_in n chunk
whole-chunk n chunk told lt =
    let make : ℕ → Chunk = λ r. record { conjuncts = chunk.conjuncts; reach = r } in
    let own : chunk ≡ chunk_of chunk.conjuncts = ap make told in
    own ∙ ap chunk_of (sym (near-all n chunk.conjuncts (all-near n chunk told lt)))

pub whole-far : (n : ℕ) (chunk : Chunk) (far : List Formula) → IsChunk chunk → chunk.reach < n → far ≡ far ++ far_formulas n chunk.conjuncts
whole-far n chunk far told lt =
    let none : far_formulas n chunk.conjuncts ≡ [] = ap (map formula_in) (none-far n chunk.conjuncts (all-near n chunk told lt)) in
    sym (append-nil far) ∙ ap (λ l. far ++ l) (sym none)

pub ruleset chunk_rules = (whole-chunk, whole-far)

far-append : (n : ℕ) (xs ys : List Chunk) → far_in n (xs ++ ys) ≡ far_in n xs ++ far_in n ys
far-append n [] ys = refl
far-append n (x ∷ xs) ys = ap (λ l. far_formulas n x.conjuncts ++ l) (far-append n xs ys) ∙ sym (append_assoc (far_formulas n x.conjuncts) (far_in n xs) (far_in n ys))

-- one chunk more
pub far-next : (n : ℕ) (yielded : List Chunk) (x : Chunk) (first old new : List Formula) → old ≡ first ++ far_in n yielded → new ≡ old ++ far_formulas n x.conjuncts → new ≡ first ++ far_in n (yielded ++ x ∷ [])
far-next n yielded x first old new so_far more =
    let own = far_formulas n x.conjuncts in
    more ∙ ap (λ l. l ++ own) so_far ∙ append_assoc first (far_in n yielded) own
    ∙ ap (λ l. first ++ (far_in n yielded ++ l)) (sym (append-nil own))
    ∙ ap (λ l. first ++ l) (sym (far-append n yielded (x ∷ [])))

map-append : {A B : Type 0} (f : A → B) (xs ys : List A) → map f (xs ++ ys) ≡ map f xs ++ map f ys
map-append f [] ys = refl
map-append f (x ∷ xs) ys = ap (λ l. f x ∷ l) (map-append f xs ys)

pub near-next : (n : ℕ) (yielded : List Chunk) (x part : Chunk) (old new : List Chunk) → old ≡ map (near_in n) yielded → part ≡ near_in n x → new ≡ old ++ part ∷ [] → new ≡ map (near_in n) (yielded ++ x ∷ [])
near-next n yielded x part old new so_far is pushed =
    pushed ∙ ap (λ l. l ++ part ∷ []) so_far ∙ ap (λ q. map (near_in n) yielded ++ q ∷ []) is ∙ sym (map-append (near_in n) yielded (x ∷ []))

-- one conjunct more
pub ones-near : (n : ℕ) (yielded : List Reaching) (x : Reaching) (old new : List Reaching) → old ≡ filter (is_near n) yielded → new ≡ old ++ filter (is_near n) (x ∷ []) → new ≡ filter (is_near n) (yielded ++ x ∷ [])
ones-near n yielded x old new so_far more =
    more ∙ ap (λ l. l ++ filter (is_near n) (x ∷ [])) so_far ∙ sym (filter-append (is_near n) yielded (x ∷ []))

pub ones-far : (n : ℕ) (yielded : List Reaching) (x : Reaching) (first old new : List Formula) → old ≡ first ++ far_formulas n yielded → new ≡ old ++ far_formulas n (x ∷ []) → new ≡ first ++ far_formulas n (yielded ++ x ∷ [])
ones-far n yielded x first old new so_far more =
    more ∙ ap (λ l. l ++ far_formulas n (x ∷ [])) so_far ∙ append_assoc first (far_formulas n yielded) (far_formulas n (x ∷ []))
    ∙ ap (λ l. first ++ l) (sym (ap (map formula_in) (filter-append (is_far n) yielded (x ∷ [])) ∙ map-append formula_in (filter (is_far n) yielded) (filter (is_far n) (x ∷ []))))

-- ---- conjuncts put in chunks

chunks-append : (xs ys : List Chunk) → formulas_in_chunks (xs ++ ys) ≡ formulas_in_chunks xs ++ formulas_in_chunks ys
chunks-append [] ys = refl
chunks-append (x ∷ xs) ys = ap (λ l. map formula_in x.conjuncts ++ l) (chunks-append xs ys) ∙ sym (append_assoc (map formula_in x.conjuncts) (formulas_in_chunks xs) (formulas_in_chunks ys))

one-chunk : (ones : List Reaching) → formulas_in_chunks (chunk_of ones ∷ []) ≡ map formula_in ones
one-chunk ones = append-nil (map formula_in ones)

opened : (fields : List Field) (all : List Formula) (chunks : List Chunk) (ones more : List Reaching) (one : Reaching) → AreChunked fields all chunks ones → IsOver fields one → more ≡ ones ++ one ∷ [] → AreChunked fields (all ++ formula_in one ∷ []) chunks more
opened fields all chunks ones more one h over is = subst (AreChunked fields (all ++ formula_in one ∷ []) chunks) (sym is) (record {
  same =
      ap (λ l. formulas_in_chunks chunks ++ l) (map-append formula_in ones (one ∷ []))
      ∙ sym (append_assoc (formulas_in_chunks chunks) (map formula_in ones) (formula_in one ∷ []))
      ∙ ap (λ l. l ++ formula_in one ∷ []) h.same;
  chunked = h.chunked;
  each = all-append (IsOver fields) ones (one ∷ []) h.each (over, tt);
})

closed : (fields : List Field) (all : List Formula) (chunks : List Chunk) (ones : List Reaching) → AreChunked fields all chunks ones → AreChunked fields all (chunks ++ chunk_of ones ∷ []) []
closed fields all chunks ones h = record {
  same =
      append-nil (formulas_in_chunks (chunks ++ chunk_of ones ∷ []))
      ∙ chunks-append chunks (chunk_of ones ∷ [])
      ∙ ap (λ l. formulas_in_chunks chunks ++ l) (one-chunk ones)
      ∙ h.same;
  chunked = all-append (IsChunkOver fields) chunks (chunk_of ones ∷ []) h.chunked (record { told = refl; each = h.each }, tt);
  each = tt;
}

pub pushed-open : (fields : List Field) (all : List Formula) (chunks : List Chunk) (ones more : List Reaching) (one : Reaching) → IsOver fields one → AreChunked fields all chunks ones → more ≡ ones ++ one ∷ [] → AreChunked fields (all ++ formula_in one ∷ []) chunks more
pushed-open fields all chunks ones more one over h is = opened fields all chunks ones more one h over is

pub pushed-closed : (fields : List Field) (all : List Formula) (old new : List Chunk) (ones more none : List Reaching) (one : Reaching) (chunk : Chunk) → IsOver fields one → AreChunked fields all old ones → more ≡ ones ++ one ∷ [] → chunk ≡ chunk_of more → new ≡ old ++ chunk ∷ [] → none ≡ [] → AreChunked fields (all ++ formula_in one ∷ []) new none
pushed-closed fields all old new ones more none one chunk over h is made pushed empty =
    let whole = closed fields (all ++ formula_in one ∷ []) old more (opened fields all old ones more one h over is) in
    let there : old ++ chunk_of more ∷ [] ≡ new = ap (λ c. old ++ c ∷ []) (sym made) ∙ sym pushed in
    subst (AreChunked fields (all ++ formula_in one ∷ []) new) (sym empty) (subst (λ l. AreChunked fields (all ++ formula_in one ∷ []) l []) there whole)

-- some chunks, and none beside them
pub whole : (fields : List Field) (chunks : List Chunk) → AllByRecursion (IsChunkOver fields) chunks → AreChunked fields (formulas_in_chunks chunks) chunks []
whole fields chunks over = record { same = append-nil (formulas_in_chunks chunks); chunked = over; each = tt }

pub taken-none : (fields : List Field) (all : List Formula) (old new : List Chunk) (none : List Reaching) → old ≡ new ++ [] → none ≡ [] → AreChunked fields all old [] → AreChunked fields all new none
taken-none fields all old new none is empty h =
    subst (AreChunked fields all new) (sym empty) (subst (λ l. AreChunked fields all l []) (is ∙ append-nil new) h)

pub taken-last : (fields : List Field) (all : List Formula) (old new : List Chunk) (chunk : Chunk) → old ≡ new ++ chunk ∷ [] → AreChunked fields all old [] → AreChunked fields all new chunk.conjuncts
taken-last fields all old new chunk is h =
    let over : AllByRecursion (IsChunkOver fields) (new ++ chunk ∷ []) = subst (AllByRecursion (IsChunkOver fields)) is h.chunked in record {
      same =
          ap (λ l. formulas_in_chunks new ++ l) (sym (append-nil (map formula_in chunk.conjuncts)))
          ∙ sym (chunks-append new (chunk ∷ []))
          ∙ ap formulas_in_chunks (sym is)
          ∙ sym (append-nil (formulas_in_chunks old))
          ∙ h.same;
      chunked = all-left (IsChunkOver fields) new (chunk ∷ []) over;
      each = (all-right (IsChunkOver fields) new (chunk ∷ []) over).0.each;
    }

-- what was put in chunks, whatever stood there before
abbrev pub GoesOn : List Field → List Chunk → List Reaching → List Formula → List Chunk → List Reaching → Type 0
GoesOn fields first loose more chunks ones = (all : List Formula) → AreChunked fields all first loose → AreChunked fields (all ++ more) chunks ones

pub gone-none : (fields : List Field) (chunks : List Chunk) (ones : List Reaching) → GoesOn fields chunks ones [] chunks ones
gone-none fields chunks ones all h = subst (λ l. AreChunked fields l chunks ones) (sym (append-nil all)) h

pub gone-next : (fields : List Field) (first : List Chunk) (loose : List Reaching) (yielded : List Expr) (x : Expr) (one : Reaching) (old new : List Chunk) (ones left : List Reaching) → formula_in one ≡ formula_of x → IsOver fields one
    → GoesOn fields first loose (map formula_of yielded) old ones
    → ((f : List Field) → (all : List Formula) → IsOver f one → AreChunked f all old ones → AreChunked f (all ++ formula_in one ∷ []) new left)
    → GoesOn fields first loose (map formula_of (yielded ++ x ∷ [])) new left
gone-next fields first loose yielded x one old new ones left is over before step all h =
    subst (λ l. AreChunked fields l new left)
    (append_assoc all (map formula_of yielded) (formula_in one ∷ [])
    ∙ ap (λ l. all ++ l) (ap (λ f. map formula_of yielded ++ f ∷ []) is ∙ sym (map-append formula_of yielded (x ∷ []))))
    (step fields (all ++ map formula_of yielded) over (before all h))

pub gone-end : (fields : List Field) (first : List Chunk) (loose : List Reaching) (yielded behind : List Expr) (old new : List Chunk) (ones : List Reaching) (chunk : Chunk) → GoesOn fields first loose (map formula_of yielded) old ones → yielded ≡ behind → chunk ≡ chunk_of ones → new ≡ old ++ chunk ∷ [] → GoesOn fields first loose (map formula_of behind) new []
gone-end fields first loose yielded behind old new ones chunk before taken made pushed all h =
    let there : old ++ chunk_of ones ∷ [] ≡ new = ap (λ c. old ++ c ∷ []) (sym made) ∙ sym pushed in
    subst (λ l. AreChunked fields (all ++ map formula_of l) new []) taken
    (subst (λ l. AreChunked fields (all ++ map formula_of yielded) l []) there (closed fields (all ++ map formula_of yielded) old ones (before all h)))

module _ (fields : List Field) (chunks all : List Chunk) (behind : List Formula) (over : AllByRecursion (IsChunkOver fields) chunks) (went : AreChunked fields (formulas_in_chunks chunks) chunks [] → AreChunked fields (formulas_in_chunks chunks ++ behind) all []) where
  done : AreChunked fields (formulas_in_chunks chunks ++ behind) all []
  done = went (whole fields chunks over)

  pub behind-same : formulas_in_chunks all ≡ formulas_in_chunks chunks ++ behind
  behind-same = sym (append-nil (formulas_in_chunks all)) ∙ done.same

  pub behind-over : AllByRecursion (IsChunkOver fields) all
  behind-over = done.chunked

-- nothing is left of a list without length
pub no-items : {A : Type 0} (xs : List A) → length xs ≡ 0 → xs ≡ []
no-items [] h = refl
no-items (x ∷ xs) h = absurd (omega arith)

-- ---- conjuncts of chunks as a list

pub list-next : (yielded : List Reaching) (x : Reaching) (first : List Formula) (old new : List Expr) → map formula_of old ≡ first ++ map formula_in yielded → new ≡ old ++ x.conjunct ∷ [] → map formula_of new ≡ first ++ map formula_in (yielded ++ x ∷ [])
list-next yielded x first old new so_far pushed =
    ap (map formula_of) pushed ∙ map-append formula_of old (x.conjunct ∷ [])
    ∙ ap (λ l. l ++ formula_in x ∷ []) so_far ∙ append_assoc first (map formula_in yielded) (formula_in x ∷ [])
    ∙ ap (λ l. first ++ l) (sym (map-append formula_in yielded (x ∷ [])))

pub lists-next : (yielded : List Chunk) (x : Chunk) (old new : List Formula) → old ≡ formulas_in_chunks yielded → new ≡ old ++ formulas_in_chunk x → new ≡ formulas_in_chunks (yielded ++ x ∷ [])
lists-next yielded x old new so_far more =
    let own = formulas_in_chunk x in
    more ∙ ap (λ l. l ++ own) so_far
    ∙ ap (λ l. formulas_in_chunks yielded ++ l) (sym (append-nil own))
    ∙ sym (chunks-append yielded (x ∷ []))

-- ---- the left columns of a join

-- a schema has a field
pub some-field : (fields : List Field) → IsSchema fields → 0 < length fields
some-field [] good = cc
some-field (x ∷ xs) good = omega arith

abbrev goes : List Field → Formula → Bool
goes left f = reads_only (has_name (names_of left)) f

abbrev stays : List Field → Formula → Bool
stays left f = not (goes left f)

goes-near : (fields left : List Field) → BeginsWith fields left → 0 < length left → (one : Reaching) → IsOver fields one → goes left (formula_in one) ≡ is_near (length left) one
goes-near fields left begins some one over =
    ap (λ l. goes l (formula_in one)) (sym begins.first) ∙ over.tells (length left) some begins.within

module _ (fields left : List Field) (begins : BeginsWith fields left) (some : 0 < length left) where
  near-goes : (ones : List Reaching) → AllByRecursion (IsOver fields) ones → map formula_in (filter (is_near (length left)) ones) ≡ filter (goes left) (map formula_in ones)
  near-goes ones over = sym (filter-map (goes left) (is_near (length left)) formula_in ones
      (all-of (IsOver fields) (λ one. goes left (formula_in one) ≡ is_near (length left) one) (goes-near fields left begins some) ones over))

  far-stays : (ones : List Reaching) → AllByRecursion (IsOver fields) ones → far_formulas (length left) ones ≡ filter (stays left) (map formula_in ones)
  far-stays ones over = sym (filter-map (stays left) (is_far (length left)) formula_in ones
      (all-of (IsOver fields) (λ one. stays left (formula_in one) ≡ is_far (length left) one) (λ one h. ap not (goes-near fields left begins some one h)) ones over))

  pub near-chunks : (chunks : List Chunk) → AllByRecursion (IsChunkOver fields) chunks → formulas_in_chunks (map (near_in (length left)) chunks) ≡ filter (goes left) (formulas_in_chunks chunks)
  near-chunks [] over = refl
  near-chunks (c ∷ cs) over =
      ap (λ l. l ++ formulas_in_chunks (map (near_in (length left)) cs)) (near-goes c.conjuncts over.0.each)
      ∙ ap (λ l. filter (goes left) (map formula_in c.conjuncts) ++ l) (near-chunks cs over.1)
      ∙ sym (filter-append (goes left) (map formula_in c.conjuncts) (formulas_in_chunks cs))

  pub far-chunks : (chunks : List Chunk) → AllByRecursion (IsChunkOver fields) chunks → far_in (length left) chunks ≡ filter (stays left) (formulas_in_chunks chunks)
  far-chunks [] over = refl
  far-chunks (c ∷ cs) over =
      ap (λ l. l ++ far_in (length left) cs) (far-stays c.conjuncts over.0.each)
      ∙ ap (λ l. filter (stays left) (map formula_in c.conjuncts) ++ l) (far-chunks cs over.1)
      ∙ sym (filter-append (stays left) (map formula_in c.conjuncts) (formulas_in_chunks cs))

  -- over the left columns a reach is what it was
  near-over : (one : Reaching) → IsOver fields one → IsOver left one
  near-over one over = record {
    tells = λ n pos le. (
        let same : take n left ≡ take n fields = ap (take n) (sym begins.first) ∙ take-take n (length left) fields le in
        let b = begins.within in
        ap (λ l. reads_only (has_name (names_of l)) (formula_in one)) same ∙ over.tells n pos (omega arith));
  }

  pub chunks-over : (chunks : List Chunk) → AllByRecursion (IsChunkOver fields) chunks → AllByRecursion (IsChunkOver left) (map (near_in (length left)) chunks)
  chunks-over [] over = tt
  chunks-over (c ∷ cs) over = (
    record {
      told = refl;
      each = all-filter (IsOver left) (is_near (length left)) c.conjuncts (all-of (IsOver fields) (IsOver left) near-over c.conjuncts over.0.each);
    },
    chunks-over cs over.1,
  )

pub chunks-told : (fields : List Field) (chunks : List Chunk) → AllByRecursion (IsChunkOver fields) chunks → AllByRecursion IsChunk chunks
chunks-told fields chunks over = all-of (IsChunkOver fields) IsChunk (λ c h. h.told) chunks over

-- ---- the parts of conjuncts on a join

on-left : (left right : List Field) (x : Node) (f : Formula) → is_passed_left x ≡ true → goes left f ≡ true → placing left right x f ≡ OnLeft f
on-left left right (node.DataFrameScan frame columns) f passed e = cc
on-left left right (node.Filter input predicate) f passed e = cc
on-left left right (node.SimpleProjection input columns) f passed e = cc
on-left left right (node.Select input exprs) f passed e = cc
on-left left right (node.HStack input exprs) f passed e = cc
on-left left right (node.MapFunction input function) f passed e = cc
on-left left right (node.Union inputs) f passed e = cc
on-left left right (node.Join l r left_on right_on options) f passed e =
    let j = join_over left right left_on right_on options in
    let split : (h : JoinType) → lets_left h ≡ true → below_join h j f ≡ OnLeft f = elim [
      | how.Inner ↦ λ _. ap (λ b. on_left_or b f (on_right j f)) e
      | how.Left ↦ λ _. ap (λ b. on_left_or b f (Above f)) e
      | how.Full ↦ λ h. cc
      | how.Cross ↦ λ _. ap (λ b. on_left_or b f (on_right j f)) e
      | how.Semi ↦ λ _. ap (λ b. on_left_or b f (Above f)) e
      | how.Anti ↦ λ _. ap (λ b. on_left_or b f (Above f)) e
    ] in split options.how passed
on-left left right (node.Sort input by options) f passed e = cc

right-or-above : (b : Bool) (below f : Formula) → left_in (on_right_or b below (Above f)) ≡ []
right-or-above true below f = refl
right-or-above false below f = refl

not-left : (left right : List Field) (x : Node) (f : Formula) → is_passed_left x ≡ true → goes left f ≡ false → left_in (placing left right x f) ≡ []
not-left left right (node.DataFrameScan frame columns) f passed e = cc
not-left left right (node.Filter input predicate) f passed e = cc
not-left left right (node.SimpleProjection input columns) f passed e = cc
not-left left right (node.Select input exprs) f passed e = cc
not-left left right (node.HStack input exprs) f passed e = cc
not-left left right (node.MapFunction input function) f passed e = cc
not-left left right (node.Union inputs) f passed e = cc
not-left left right (node.Join l r left_on right_on options) f passed e =
    let j = join_over left right left_on right_on options in
    let other : left_in (on_right j f) ≡ [] = right-or-above (reads_only (is_not_in left) f) (with_names (right_name j right) f) f in
    let split : (h : JoinType) → lets_left h ≡ true → left_in (below_join h j f) ≡ [] = elim [
      | how.Inner ↦ λ _. ap (λ b. left_in (on_left_or b f (on_right j f))) e ∙ other
      | how.Left ↦ λ _. ap (λ b. left_in (on_left_or b f (Above f))) e
      | how.Full ↦ λ h. cc
      | how.Cross ↦ λ _. ap (λ b. left_in (on_left_or b f (on_right j f))) e ∙ other
      | how.Semi ↦ λ _. ap (λ b. left_in (on_left_or b f (Above f))) e
      | how.Anti ↦ λ _. ap (λ b. left_in (on_left_or b f (Above f))) e
    ] in split options.how passed
not-left left right (node.Sort input by options) f passed e = cc

module _ (left right : List Field) (x : Node) (passed : is_passed_left x ≡ true) where
  lefts : (cs : List Formula) → filter (goes left) cs ≡ flat_map left_in (map (placing left right x) cs)
  lefts [] = refl
  lefts (f ∷ cs) =
      let rest = lefts cs in
      let split : (b : Bool) → goes left f ≡ b → cond b (f ∷ filter (goes left) cs) (filter (goes left) cs) ≡ left_in (placing left right x f) ++ flat_map left_in (map (placing left right x) cs) = elim [
        | true ↦ λ e. ap (λ l. f ∷ l) rest ∙ ap (λ p. left_in p ++ flat_map left_in (map (placing left right x) cs)) (sym (on-left left right x f passed e))
        | false ↦ λ e. rest ∙ ap (λ l. l ++ flat_map left_in (map (placing left right x) cs)) (sym (not-left left right x f passed e))
      ] in split (goes left f) refl

  others : (g : Placing → List Formula) → ((f : Formula) → g (OnLeft f) ≡ []) → (cs : List Formula) → flat_map g (map (placing left right x) (filter (stays left) cs)) ≡ flat_map g (map (placing left right x) cs)
  others g none [] = refl
  others g none (f ∷ cs) =
      let rest = others g none cs in
      let split : (b : Bool) → goes left f ≡ b → flat_map g (map (placing left right x) (cond (not b) (f ∷ filter (stays left) cs) (filter (stays left) cs))) ≡ g (placing left right x f) ++ flat_map g (map (placing left right x) cs) = elim [
        | true ↦ λ e. rest ∙ ap (λ l. l ++ flat_map g (map (placing left right x) cs)) (sym (ap g (on-left left right x f passed e) ∙ none f))
        | false ↦ λ e. ap (λ l. g (placing left right x f) ++ l) rest
      ] in split (goes left f) refl

  -- where what goes left was taken out before the others were placed
  pub parts-shared : (cs far near : List Formula) (parted : Parts) → far ≡ filter (stays left) cs → near ≡ filter (goes left) cs → parted ≡ parts_of (map (placing left right x) far) → record { above = parted.above; inputs = parted.inputs; left = near; right = parted.right } ≡ parts_of (map (placing left right x) cs)
  parts-shared cs far near parted far_is near_is made =
      let make : List Formula → List Formula → List Formula → List Formula → Parts = λ a b c d. record { above = a; inputs = b; left = c; right = d } in
      let pl = placing left right x in
      let all = parts_of (map pl cs) in
      let placed : parted ≡ parts_of (map pl (filter (stays left) cs)) = made ∙ ap (λ l. parts_of (map pl l)) far_is in
      ap (λ a. make a parted.inputs near parted.right) (ap (λ p. p.above) placed ∙ others above_in (λ f. refl) cs)
      ∙ ap (λ b. make all.above b near parted.right) (ap (λ p. p.inputs) placed ∙ others inputs_in (λ f. refl) cs)
      ∙ ap (λ c. make all.above all.inputs c parted.right) (near_is ∙ lefts cs)
      ∙ ap (λ d. make all.above all.inputs all.left d) (ap (λ p. p.right) placed ∙ others right_in (λ f. refl) cs)

-- ---- the schema of a join begins with that of its left input

own-begins : (left : List Field) → BeginsWith left left
own-begins left = record { within = omega arith; first = take-length left }

join-begins : (j : Join) → BeginsWith (join_fields j) j.left
join-begins j =
    let rest = map (suffixed j) (filter (is_kept j) j.right) in
    elim (makes_pairs j.how) as (λ b. BeginsWith (cond b (j.left ++ rest) j.left) j.left) [
      | true ↦ record {
        within = (let long = length-append j.left rest in omega arith);
        first = take-append_seam j.left rest;
      }
      | false ↦ own-begins j.left
    ]

module _ (plan : Plan) (root : ℕ) (good : IsWellFormed plan root) (n : ℕ) (under : is_under plan.nodes root n ≡ true) where
  pub begins : (x : Node) → node_at plan.nodes n ≡ x → is_passed_left x ≡ true → BeginsWith (schema_of plan n) (schema_of plan (first_or n (inputs_of x)))
  begins (node.DataFrameScan frame columns) at passed = cc
  begins (node.Filter input predicate) at passed = cc
  begins (node.SimpleProjection input columns) at passed = cc
  begins (node.Select input exprs) at passed = cc
  begins (node.HStack input exprs) at passed = cc
  begins (node.MapFunction input function) at passed = cc
  begins (node.Union inputs) at passed = cc
  begins (node.Join left right left_on right_on options) at passed =
      let made = (granted plan root n good under).made ∙ ap (node_schema plan.frames (schema_of plan)) at in
      subst (λ s. BeginsWith s (schema_of plan left)) (sym made) (join-begins (join_over (schema_of plan left) (schema_of plan right) left_on right_on options))
  begins (node.Sort input by options) at passed = cc

  pub filter-schema : (input : ℕ) (predicate : Formula) → node_at plan.nodes n ≡ node.Filter input predicate → schema_of plan n ≡ schema_of plan input
  filter-schema input predicate at = (granted plan root n good under).made ∙ ap (node_schema plan.frames (schema_of plan)) at

pub join-first : (n : ℕ) (x : Node) → is_join x ≡ true → first_or n (inputs_of x) ≡ first_input (inputs_of x)
join-first n (node.DataFrameScan frame columns) e = cc
join-first n (node.Filter input predicate) e = refl
join-first n (node.SimpleProjection input columns) e = refl
join-first n (node.Select input exprs) e = refl
join-first n (node.HStack input exprs) e = refl
join-first n (node.MapFunction input function) e = cc
join-first n (node.Union inputs) e = cc
join-first n (node.Join left right left_on right_on options) e = refl
join-first n (node.Sort input by options) e = refl

-- what a join's left input gets is over its schema
pub taken-over : (x : IR) (input left right : ℕ) (left_on right_on : List Expr) (options : JoinOptions) (old share : Batch) → x ≡ ir.Join left right left_on right_on options → input ≡ left → share ≡ old → (schema : ℕ → List Field) → (is_join (node_of x) ≡ true → AreOver (schema (first_input (inputs_of (node_of x)))) old) → AreOver (schema input) share
taken-over x input left right left_on right_on options old share is own taken schema h =
    let first : left ≡ first_input (inputs_of (node_of x)) = ap (λ y. first_input (inputs_of (node_of y))) (sym is) in
    subst (AreOver (schema input)) (sym taken)
    (subst (λ i. AreOver (schema i) old) (sym (own ∙ first)) (h (ap (λ y. is_join (node_of y)) is)))
