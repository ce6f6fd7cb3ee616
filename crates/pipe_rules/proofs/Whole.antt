-- Sound nodes from the first on make a well-formed plan.
use Rattle.std.proofs.Common.{◌≡◌, ℕ, zero, suc, ◌+◌, ◌<◌, ◌≤◌, Bool, true, false, cond, eqb, ◌&&◌, ◌||◌, List, [], ◌∷◌, length, Some, None, refl, ap, ◌∙◌, arith}
use Rattle.std.specs.Prelude.{nat_le}
use Rattle.std.specs.List.{list_any, range_with_len}
use Rattle.std.proofs.lemmas.Bool.{lt-ltb, lt-leb}
use Rattle.pipe_frame.specs.Frame.{Table}
use Rattle.pipe_plan.specs.Node.{Node}
use Rattle.pipe_plan.specs.Plan.{Plan}
use Rattle.pipe_plan.specs.Under.{inputs_of, node_at, is_under}
use Rattle.pipe_plan.specs.Schemas.{schema_of, schemas_to}
use Rattle.pipe_plan.specs.Faults.{or_else, has_input, is_reader, is_read_below, is_bad_node, fault_at, fault_under, first_fault, most_nodes, IsWellFormed}
use Rattle.pipe_plan.specs.declared.error.PipeError.TheVariants as error
use Rattle.pipe_check.specs.Checking.{fault_with}
use Rattle.pipe_check.proofs.Agree.{agree-members, fault-agree}
use Rattle.pipe_check.proofs.Walks.{member, itself, schema-below}
use Rattle.pipe_rules.specs.Grown.{over, AreSound}
use Rattle.pipe_rules.proofs.Counted.{read-next}

none-any : (p : ℕ → Bool) (xs : List ℕ) → ((i : ℕ) → member i xs ≡ true → p i ≡ false) → list_any p xs ≡ false
none-any p [] h = refl
none-any p (x ∷ xs) h =
    let here : p x ≡ false = h x (let e = itself x in rw e refl) in
    let rest = none-any p xs (λ i m. h i (let split : (b : Bool) → (b || member i xs) ≡ true = elim [ true ↦ refl | false ↦ m ] in split (eqb x i))) in
    ap (λ b. b || list_any p xs) here ∙ rest

and-none : (b : Bool) → (b && false) ≡ false
and-none true = refl
and-none false = refl

no-reader : (nodes : List Node) (root i n : ℕ) → ((j : ℕ) → j < n → has_input nodes i j ≡ false) → is_read_below nodes root n i ≡ false
no-reader nodes root i zero h = refl
no-reader nodes root i (suc n) h =
    read-next nodes root n i
    ∙ ap (λ b. b || is_reader nodes root i n) (no-reader nodes root i n (λ j lt. h j (omega arith)))
    ∙ ap (λ b. is_under nodes root n && b) (h n (omega arith))
    ∙ and-none (is_under nodes root n)

all-none : (plan : Plan) (root a n : ℕ) → ((m : ℕ) → m < a + n → fault_under plan root m ≡ None) → first_fault plan root (range_with_len a n) ≡ None
all-none plan root a zero h = refl
all-none plan root a (suc n) h =
    ap (λ o. or_else o (first_fault plan root (range_with_len (a + 1) n))) (h a (omega arith))
    ∙ all-none plan root (a + 1) n (λ m lt. h m (omega arith))

module _ (frames : List Table) (new : List Node) (sound : AreSound frames [] new) where
  abbrev plan : Plan
  plan = over frames new

  no-bad : (root m : ℕ) → m < length new → is_bad_node plan root m ≡ false
  no-bad root m below =
      let x = node_at new m in
      let own = sound.each m (omega arith) below in
      let smaller : list_any (nat_le m) (inputs_of x) ≡ false = none-any (nat_le m) (inputs_of x) (λ i reads. lt-leb m i (sound.own m i (omega arith) below reads).1) in
      let unread : list_any (is_read_below new root m) (inputs_of x) ≡ false = none-any (is_read_below new root m) (inputs_of x) (λ i reads. no-reader new root i m (λ j lt. sound.apart m j i (omega arith) lt below reads)) in
      let once = own.once in
      let whole = own.whole in
      rw (smaller, once, unread, whole) refl

  no-fault-at : (root m : ℕ) → m < length new → fault_at plan root m ≡ None
  no-fault-at root m below =
      let x = node_at new m in
      let own = sound.each m (omega arith) below in
      fault-agree (is_bad_node plan root m) frames (schemas_to plan m) (schema_of plan) m x (agree-members (schemas_to plan m) (schema_of plan) (inputs_of x) (λ i reads. schema-below plan m i (sound.own m i (omega arith) below reads).1 below))
      ∙ ap (λ b. fault_with b frames (schema_of plan) m x) (no-bad root m below)
      ∙ own.faultless

  no-fault-under : (root m : ℕ) → m < length new → fault_under plan root m ≡ None
  no-fault-under root m below =
      let split : (b : Bool) → cond b (fault_at plan root m) None ≡ None = elim [ true ↦ no-fault-at root m below | false ↦ refl ] in
      split (is_under new root m)

  pub whole-plan : (root : ℕ) → suc root ≡ length new → length new ≤ most_nodes → IsWellFormed plan root
  whole-plan root last few = record {
    few = few;
    faultless =
        ap (λ b. cond b (first_fault plan root (range_with_len 0 (length new))) (Some (error.BadNode root))) (lt-ltb root (length new) (omega arith))
        ∙ all-none plan root 0 (length new) (λ m lt. no-fault-under root m (omega arith));
  }
