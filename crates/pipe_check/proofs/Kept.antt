-- What is kept of the first nodes decides the faults of the next one.
use Rattle.std.proofs.Common.{◌≡◌, ℕ, zero, suc, ◌+◌, ◌<◌, ◌≤◌, Bool, true, false, cond, eqb, List, [], ◌∷◌, ◌++◌, Option, Some, None, length, get_or, refl, ap, sym, subst, ◌∙◌, arith, ◌⊎◌, inl, inr}
use Rattle.std.specs.Prelude.{◌||◌, ◌&&◌, nat_le, unwrap_or}
use Rattle.std.specs.List.{list_any}
use Rattle.std.proofs.Math.Bool.{or-true}
use Rattle.std.proofs.lemmas.Bool.{leb-false, cases_lt}
use Rattle.pipe_schema.specs.declared.field.Field.{Field}
use Rattle.pipe_plan.specs.Plan.{Plan}
use Rattle.pipe_plan.specs.Under.{inputs_of, node_at, is_under}
use Rattle.pipe_plan.specs.Schemas.{node_schema, schemas_to, schema_of}
use Rattle.pipe_plan.specs.Faults.{is_empty, repeats, is_void, has_input, is_read_below, is_bad_node, fault_at, fault_under}
use Rattle.pipe_check.specs.Checking.{is_marked, is_bad_by, fault_by, fault_with, AreFull, is_read_under}
use Rattle.pipe_check.specs.Kept.{kept_schema}
use Rattle.pipe_check.specs.Checked.{AreKept}
use Rattle.pipe_check.proofs.Walks.{member, none-member, under-input, schema-own, schema-below, itself}
use Rattle.pipe_check.proofs.Agree.{Agree, agree-members, schema-agree, fault-agree}
use Rattle.pipe_check.proofs.Marks.{reader-more}
use Rattle.pipe_check.proofs.Parts.{no_bad}

-- what is known of the first n nodes
pub record AreChecked (plan : Plan) (root n : ℕ) (schemas : List (Option (List Field))) (read : List Bool) : Type 0 where
  pub kept : AreKept plan root n schemas
  pub full : (i : ℕ) → i < n → is_under plan.nodes root i ≡ true → is_empty (schema_of plan i) ≡ false
  pub reads : (i : ℕ) → i < length plan.nodes → is_marked read i ≡ is_read_below plan.nodes root n i

-- ---- whether the node is a bad one

any-same : (p q : ℕ → Bool) (xs : List ℕ) → ((i : ℕ) → member i xs ≡ true → p i ≡ q i) → list_any p xs ≡ list_any q xs
any-same p q [] f = refl
any-same p q (x ∷ xs) f =
    let here : p x ≡ q x = f x (let e = itself x in rw e refl) in
    let more : list_any p xs ≡ list_any q xs = any-same p q xs (λ i m. f i (ap (λ b. eqb x i || b) m ∙ or-true (eqb x i))) in
    ap (λ b. b || list_any p xs) here ∙ ap (λ b. q x || b) more

or-middle : (a b c d v : Bool) → (a ≡ false → c ≡ d) → (((a || b) || c) || v) ≡ (((a || b) || d) || v)
or-middle true b c d v f = refl
or-middle false b c d v f = ap (λ x. (b || x) || v) (f refl)

smaller : (n : ℕ) (xs : List ℕ) (i : ℕ) → list_any (nat_le n) xs ≡ false → member i xs ≡ true → i < n
smaller n xs i none m = leb-false n i (none-member (nat_le n) xs i none m)

pub bad-same : (plan : Plan) (root n : ℕ) (schemas : List (Option (List Field))) (read : List Bool) → n < length plan.nodes → AreChecked plan root n schemas read → is_bad_by read plan.frames n (node_at plan.nodes n) ≡ is_bad_node plan root n
bad-same plan root n schemas read there known =
    let x = node_at plan.nodes n in
    let xs = inputs_of x in
    or-middle (list_any (nat_le n) xs) (repeats xs) (list_any (is_marked read) xs) (list_any (is_read_below plan.nodes root n) xs) (is_void plan.frames x)
    (λ none. any-same (is_marked read) (is_read_below plan.nodes root n) xs (λ i m. known.reads i (let lt = smaller n xs i none m in omega arith)))

or-none : (a b c v : Bool) → (((a || b) || c) || v) ≡ false → a ≡ false
or-none true b c v e = cc
or-none false b c v e = refl

-- the inputs of a node that isn't bad are smaller, and under the root
pub input-known : (plan : Plan) (root n : ℕ) (read : List Bool) (i : ℕ) → root < length plan.nodes → n < length plan.nodes → is_under plan.nodes root n ≡ true → is_bad_by read plan.frames n (node_at plan.nodes n) ≡ false → member i (inputs_of (node_at plan.nodes n)) ≡ true → (i < n) × (is_under plan.nodes root i ≡ true)
input-known plan root n read i in_plan there u good m =
    let x = node_at plan.nodes n in
    let xs = inputs_of x in
    let none = or-none (list_any (nat_le n) xs) (repeats xs) (list_any (is_marked read) xs) (is_void plan.frames x) good in
    let lt = smaller n xs i none m in
    (lt, under-input plan.nodes root n i in_plan there u lt m)

kept-is : (plan : Plan) (root n : ℕ) (schemas : List (Option (List Field))) (i : ℕ) → AreKept plan root n schemas → i < n → is_under plan.nodes root i ≡ true → kept_schema schemas i ≡ schema_of plan i
kept-is plan root n schemas i kept lt u = ap (λ o. unwrap_or o []) (kept i lt u)

pub inputs-agree : (plan : Plan) (root n : ℕ) (schemas : List (Option (List Field))) (read : List Bool) → root < length plan.nodes → n < length plan.nodes → AreChecked plan root n schemas read → is_under plan.nodes root n ≡ true → is_bad_by read plan.frames n (node_at plan.nodes n) ≡ false → Agree (kept_schema schemas) (schemas_to plan n) (inputs_of (node_at plan.nodes n))
inputs-agree plan root n schemas read in_plan there known u good =
    agree-members (kept_schema schemas) (schemas_to plan n) (inputs_of (node_at plan.nodes n))
    (λ i m. let k = input-known plan root n read i in_plan there u good m in kept-is plan root n schemas i known.kept k.0 k.1 ∙ sym (schema-below plan n i k.0 there))

full-members : (s : ℕ → List Field) (xs : List ℕ) → ((i : ℕ) → member i xs ≡ true → is_empty (s i) ≡ false) → AreFull s xs
full-members s [] f = tt
full-members s (x ∷ xs) f =
    (f x (let e = itself x in rw e refl), full-members s xs (λ i m. f i (ap (λ b. eqb x i || b) m ∙ or-true (eqb x i))))

pub inputs-full : (plan : Plan) (root n : ℕ) (schemas : List (Option (List Field))) (read : List Bool) → root < length plan.nodes → n < length plan.nodes → AreChecked plan root n schemas read → is_under plan.nodes root n ≡ true → is_bad_by read plan.frames n (node_at plan.nodes n) ≡ false → AreFull (kept_schema schemas) (inputs_of (node_at plan.nodes n))
inputs-full plan root n schemas read in_plan there known u good =
    full-members (kept_schema schemas) (inputs_of (node_at plan.nodes n))
    (λ i m. let k = input-known plan root n read i in_plan there u good m in ap is_empty (kept-is plan root n schemas i known.kept k.0 k.1) ∙ known.full i k.0 k.1)

-- ---- the fault of the node

pub fault-same : (plan : Plan) (root n : ℕ) (schemas : List (Option (List Field))) (read : List Bool) → root < length plan.nodes → n < length plan.nodes → AreChecked plan root n schemas read → is_under plan.nodes root n ≡ true → fault_by read plan.frames schemas n (node_at plan.nodes n) ≡ fault_at plan root n
fault-same plan root n schemas read in_plan there known u =
    let x = node_at plan.nodes n in
    let bad = is_bad_by read plan.frames n x in
    let s = kept_schema schemas in
    let t = schemas_to plan n in
    let split : (b : Bool) → bad ≡ b → fault_with bad plan.frames s n x ≡ fault_with bad plan.frames t n x = elim [
      | true ↦ λ e. rw e refl
      | false ↦ λ e. fault-agree bad plan.frames s t n x (inputs-agree plan root n schemas read in_plan there known u e)
    ] in
    split bad refl ∙ ap (λ b. fault_with b plan.frames t n x) (bad-same plan root n schemas read there known)

pub fault-same-under : (plan : Plan) (root n : ℕ) (schemas : List (Option (List Field))) (read : List Bool) (under : Bool) → root < length plan.nodes → n < length plan.nodes → AreChecked plan root n schemas read → under ≡ is_under plan.nodes root n → cond under (fault_by read plan.frames schemas n (node_at plan.nodes n)) None ≡ fault_under plan root n
fault-same-under plan root n schemas read true in_plan there known u = fault-same plan root n schemas read in_plan there known (sym u) ∙ (rw (← u) refl)
fault-same-under plan root n schemas read false in_plan there known u = rw (← u) refl

-- ---- one node more

at-end : {X : Type 0} (xs : List X) (x d : X) (n : ℕ) → length xs ≡ n → get_or (xs ++ x ∷ []) n d ≡ x
at-end [] x d zero e = refl
at-end [] x d (suc n) e = absurd (omega arith)
at-end (y ∷ ys) x d zero e = absurd (omega arith)
at-end (y ∷ ys) x d (suc n) e = at-end ys x d n (omega arith)

before-end : {X : Type 0} (xs : List X) (x d : X) (i : ℕ) → i < length xs → get_or (xs ++ x ∷ []) i d ≡ get_or xs i d
before-end [] x d i lt = absurd (omega arith)
before-end (y ∷ ys) x d zero lt = refl
before-end (y ∷ ys) x d (suc i) lt = before-end ys x d i (omega arith)

abbrev made_schema : Plan → List (Option (List Field)) → ℕ → List Field
made_schema plan schemas n = node_schema plan.frames (kept_schema schemas) (node_at plan.nodes n)

made-is : (plan : Plan) (root n : ℕ) (schemas : List (Option (List Field))) (read : List Bool) → root < length plan.nodes → n < length plan.nodes → AreChecked plan root n schemas read → is_under plan.nodes root n ≡ true → is_bad_by read plan.frames n (node_at plan.nodes n) ≡ false → made_schema plan schemas n ≡ schema_of plan n
made-is plan root n schemas read in_plan there known u good =
    schema-agree plan.frames (kept_schema schemas) (schemas_to plan n) (node_at plan.nodes n) (inputs-agree plan root n schemas read in_plan there known u good) ∙ sym (schema-own plan n there)

pub checked-more : (plan : Plan) (root n : ℕ) (schemas : List (Option (List Field))) (read more : List Bool) (under : Bool) (made : Option (List Field)) → root < length plan.nodes → n < length plan.nodes → length schemas ≡ n → AreChecked plan root n schemas read → under ≡ is_under plan.nodes root n
    → cond under (fault_by read plan.frames schemas n (node_at plan.nodes n)) None ≡ None
    → made ≡ cond under (Some (made_schema plan schemas n)) None
    → (under ≡ true → is_empty (made_schema plan schemas n) ≡ false)
    → ((i : ℕ) → is_marked more i ≡ is_read_under under read (inputs_of (node_at plan.nodes n)) i)
    → AreChecked plan root (n + 1) (schemas ++ made ∷ []) more
checked-more plan root n schemas read more under made in_plan there sized known u none is_made is_full is_read =
    let x = node_at plan.nodes n in
    let own : (b : Bool) → under ≡ b → is_under plan.nodes root n ≡ true → (made ≡ Some (schema_of plan n)) × (is_empty (schema_of plan n) ≡ false) = elim [
      | true ↦ λ e is. (
          let fault : fault_by read plan.frames schemas n x ≡ None = rw e at none in
          let good = no_bad (is_bad_by read plan.frames n x) plan.frames (kept_schema schemas) n x fault in
          let same = made-is plan root n schemas read in_plan there known is good in
          let made_some : made ≡ Some (made_schema plan schemas n) = rw e at is_made in
          (made_some ∙ ap Some same, ap is_empty (sym same) ∙ is_full e))
      | false ↦ λ e is. (let no_ : false ≡ true = sym e ∙ u ∙ is in cc)
    ] in
    let at : (i : ℕ) → i < n + 1 → (i < n) ⊎ (n ≤ i) = λ i lt. cases_lt i n in
    record {
      kept = λ i lt is.
          elim (at i lt) [
            | inl l ↦ before-end schemas made None i (omega arith) ∙ known.kept i l is
            | inr g ↦ (
                let same : n ≡ i = omega arith in
                let P : ℕ → Type 0 = λ j. is_under plan.nodes root j ≡ true → get_or (schemas ++ made ∷ []) j None ≡ Some (schema_of plan j) in
                subst P same (λ v. at-end schemas made None n sized ∙ (own under refl v).0) is)
          ];
      full = λ i lt is.
          elim (at i lt) [
            | inl l ↦ known.full i l is
            | inr g ↦ (
                let same : n ≡ i = omega arith in
                let P : ℕ → Type 0 = λ j. is_under plan.nodes root j ≡ true → is_empty (schema_of plan j) ≡ false in
                subst P same (λ v. (own under refl v).1) is)
          ];
      reads = λ i lt.
          is_read i
          ∙ ap (λ b. b || (under && list_any (λ m. eqb m i) (inputs_of x))) (known.reads i lt)
          ∙ ap (λ b. is_read_below plan.nodes root n i || (b && has_input plan.nodes i n)) u
          ∙ sym (reader-more plan.nodes root n i);
    }

pub none-checked : (plan : Plan) (root : ℕ) (schemas : List (Option (List Field))) (read : List Bool) → ((i : ℕ) → is_marked read i ≡ false) → AreChecked plan root 0 schemas read
none-checked plan root schemas read unread = record {
  kept = λ n lt. absurd (omega arith);
  full = λ n lt. absurd (omega arith);
  reads = λ i lt. unread i;
}
