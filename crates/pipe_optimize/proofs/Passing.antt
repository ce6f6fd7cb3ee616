-- The passes over nodes: names upwards, needs downwards, narrowed nodes upwards.
use Rattle.std.proofs.Common.{◌≡◌, ℕ, zero, suc, ◌+◌, ◌<◌, ◌≤◌, Bool, true, false, eqb, ◌||◌, List, [], ◌∷◌, ◌++◌, map, length, set, take, get_or, refl, ap, sym, ◌∙◌, subst, arith, ◌⊎◌, inl, inr, length-append}
use Rattle.std.proofs.lemmas.Bool.{cases_lt}
use Rattle.std.proofs.lemmas.Bool.Decides.{Decides-eqb}
use Rattle.std.proofs.lemmas.List.{length-set}
use Rattle.pipe_frame.specs.Frame.{Table}
use Rattle.pipe_schema.specs.Schema.{has_name, names_of}
use Rattle.pipe_schema.specs.declared.field.Field.{Field}
use Rattle.pipe_plan.specs.Node.{Node, node_of}
use Rattle.pipe_plan.specs.declared.ir.IR.{IR}
use Rattle.pipe_rules.proofs.Readings.{map-long, read-at}
use Rattle.pipe_plan.specs.Plan.{Plan}
use Rattle.pipe_plan.specs.Under.{node_at, inputs_of, is_under}
use Rattle.pipe_plan.specs.Schemas.{node_schema, schemas_to, schema_of}
use Rattle.pipe_check.proofs.Agree.{Agree, agree-members, schema-agree}
use Rattle.pipe_check.proofs.Walks.{member, schema-own, schema-below, under-there}
use Rattle.pipe_rules.specs.Placed.{is_input}
use Rattle.pipe_rules.specs.Grown.{over}
use Rattle.pipe_rules.proofs.Growing.{node-before, node-new, schema-stays, schema-new}
use Rattle.pipe_rules.proofs.Counted.{any-last}
use Rattle.pipe_rules.proofs.Granted.{first_false, second_false}
use Rattle.pipe_rules.specs.Narrowed.{narrow_node}
use Rattle.pipe_optimize.specs.Needed.{AreNeeds}
use Rattle.pipe_optimize.specs.Narrow.{AreNarrowed}
use Rattle.pipe_optimize.specs.Lists.{names_at, AreOrdered, AreNames, HasNames}
use Rattle.pipe_optimize.specs.Sides.{output_by, need_by, narrow_by}
use Rattle.pipe_optimize.specs.Put.{HasPut, ArePassed, AreTree, needs_in, AreNarrowedTo, IsTrimOf}
use Rattle.pipe_optimize.proofs.NameLists.{clash, never}
use Rattle.pipe_optimize.proofs.ByNames.{output-by, narrow-by, need-by}
use Rattle.pipe_optimize.proofs.Composed.{narrow-inputs}
use Rattle.pipe_optimize.proofs.Steps.{all-taken}

-- ---- lists by numbers

names-before : (lists : List (List (List ℕ))) (l : List (List ℕ)) (n : ℕ) → n < length lists → names_at (lists ++ l ∷ []) n ≡ names_at lists n
names-before [] l n lt = absurd (omega arith)
names-before (k ∷ lists) l zero lt = refl
names-before (k ∷ lists) l (suc n) lt = names-before lists l n (omega arith)

names-new : (lists : List (List (List ℕ))) (l : List (List ℕ)) → names_at (lists ++ l ∷ []) (length lists) ≡ l
names-new [] l = refl
names-new (k ∷ lists) l = names-new lists l

one-more : {A : Type 0} (xs : List A) (x : A) → length (xs ++ x ∷ []) ≡ suc (length xs)
one-more xs x = (let e = length-append xs (x ∷ []) in let z : length (x ∷ []) ≡ 1 = refl in omega arith)

pub set-here : (lists : List (List (List ℕ))) (i : ℕ) (l : List (List ℕ)) → i < length lists → names_at (set lists i l) i ≡ l
set-here [] i l lt = absurd (omega arith)
set-here (k ∷ lists) zero l lt = refl
set-here (k ∷ lists) (suc i) l lt = set-here lists i l (omega arith)

set-apart : (lists : List (List (List ℕ))) (i n : ℕ) (l : List (List ℕ)) → (i ≡ n → ⊥) → names_at (set lists i l) n ≡ names_at lists n
set-apart [] i n l h = refl
set-apart (k ∷ lists) zero zero l h = absurd (h refl)
set-apart (k ∷ lists) zero (suc n) l h = refl
set-apart (k ∷ lists) (suc i) zero l h = refl
set-apart (k ∷ lists) (suc i) (suc n) l h = set-apart lists i n l (λ same. h (ap suc same))

pub set-other : (lists : List (List (List ℕ))) (i n : ℕ) (l : List (List ℕ)) → eqb i n ≡ false → names_at (set lists i l) n ≡ names_at lists n
set-other lists i n l e = set-apart lists i n l (λ same. clash (eqb i n) ((Decides-eqb i n).1 same) e)

-- ---- names, upwards

module _ (frames : List Table) (nodes : List Node) (ordered : AreOrdered nodes) where
  abbrev P : Plan
  P = over frames nodes

  pub made-at : (n : ℕ) → n < length nodes → schema_of P n ≡ node_schema frames (schema_of P) (node_at nodes n)
  made-at n lt =
      let x = node_at nodes n in
      let same : Agree (schemas_to P n) (schema_of P) (inputs_of x) = agree-members (schemas_to P n) (schema_of P) (inputs_of x) (λ i m. schema-below P n i (ordered n i lt m) lt) in
      schema-own P n lt ∙ schema-agree frames (schemas_to P n) (schema_of P) x same

  pub names-next : (k : ℕ) (lists : List (List (List ℕ))) (l : List (List ℕ)) → k < length nodes → AreNames frames nodes k lists → l ≡ output_by frames (names_at lists) (node_at nodes k) → AreNames frames nodes (suc k) (lists ++ l ∷ [])
  names-next k lists l lt before is = record {
    long = one-more lists l ∙ ap suc before.long;
    each = λ n less. (
        let long = before.long in
        let split : (n < k) ⊎ (k ≤ n) → names_at (lists ++ l ∷ []) n ≡ names_of (schema_of P n) = elim [
          | inl a ↦ names-before lists l n (omega arith) ∙ before.each n a
          | inr b ↦ (
              let same : k ≡ n = omega arith in
              let here : names_at (lists ++ l ∷ []) k ≡ names_of (schema_of P k) =
              ap (names_at (lists ++ l ∷ [])) (sym long) ∙ names-new lists l ∙ is
              ∙ output-by frames (schema_of P) (names_at lists) (node_at nodes k) (λ i own. before.each i (ordered k i lt own))
              ∙ ap names_of (sym (made-at k lt)) in
              subst (λ q. names_at (lists ++ l ∷ []) q ≡ names_of (schema_of P q)) same here)
        ] in split (cases_lt n k));
  }

pub names-none : (frames : List Table) (nodes : List Node) → AreNames frames nodes 0 []
names-none frames nodes = record { long = refl; each = λ n less. absurd (omega arith) }

-- ---- what a node needs

first-of : (a b : Bool) → b ≡ false → (a || b) ≡ true → a ≡ true
first-of true b e h = refl
first-of false b e h = clash b h e

pub put-none : (f : ℕ → List (List ℕ)) (old : List (List (List ℕ))) → HasPut f [] old old
put-none f old = record { long = refl; put = λ i own. absurd (let no_ : false ≡ true = own in cc); kept = λ i out. refl }

pub put-next : (f : ℕ → List (List ℕ)) (is : List ℕ) (i : ℕ) (old now new : List (List (List ℕ))) (l : List (List ℕ)) → HasPut f is old now → i < length old → l ≡ f i → new ≡ set now i l → HasPut f (is ++ i ∷ []) old new
put-next f is i old now new l before lt made set_is =
    let long = before.long in
    let fits : i < length now = omega arith in record {
      long = ap length set_is ∙ length-set now i l ∙ long;
      put = λ k own. (
          let split : (b : Bool) → eqb i k ≡ b → names_at new k ≡ f k = elim [
            | true ↦ λ e. (
                let same : i ≡ k = (Decides-eqb i k).0 e in
                let here : names_at new i ≡ f i = ap (λ q. names_at q i) set_is ∙ set-here now i l fits ∙ made in
                subst (λ q. names_at new q ≡ f q) same here)
            | false ↦ λ e. ap (λ q. names_at q k) set_is ∙ set-other now i k l e ∙ before.put k (first-of (member k is) (eqb i k) e (sym (any-last (λ m. eqb m k) is i) ∙ own))
          ] in split (eqb i k) refl);
      kept = λ k out. (
          let both : (member k is || eqb i k) ≡ false = sym (any-last (λ m. eqb m k) is i) ∙ out in
          ap (λ q. names_at q k) set_is ∙ set-other now i k l (second_false (member k is) (eqb i k) both) ∙ before.kept k (first_false (member k is) (eqb i k) both));
    }

-- ---- needs, downwards

pub passed-none : (lists : List (List (List ℕ))) (nodes : List Node) (root : ℕ) (needs : List (List (List ℕ))) → length needs ≡ length nodes → names_at needs root ≡ names_at lists root → ArePassed lists nodes root (length nodes) needs
passed-none lists nodes root needs long whole = record { long = long; whole = whole; each = λ m i above below own. absurd (omega arith) }

pub passed-next : (lists : List (List (List ℕ))) (nodes : List Node) (root n : ℕ) (needs new : List (List (List ℕ))) (needed : List (List ℕ)) → AreTree nodes root → n < length nodes → ArePassed lists nodes root (suc n) needs → needed ≡ names_at needs n → HasPut (need_by (names_at lists) (node_at nodes n) needed) (inputs_of (node_at nodes n)) needs new → ArePassed lists nodes root n new
passed-next lists nodes root n needs new needed tree lt before is put =
    let x = node_at nodes n in
    let above : (m : ℕ) → n ≤ m → m < length nodes → names_at new m ≡ names_at needs m = λ m over there. put.kept m (never (member m (inputs_of x)) (λ own. (let less = tree.ordered n m lt own in absurd (omega arith)))) in record {
      long = put.long ∙ before.long;
      whole = put.kept root (tree.unread n lt) ∙ before.whole;
      each = λ m i over there own. (
          let split : (n < m) ⊎ (m ≤ n) → names_at new i ≡ need_by (names_at lists) (node_at nodes m) (names_at new m) i = elim [
            | inl more ↦
                put.kept i (tree.apart m n i more there own)
                ∙ before.each m i (omega arith) there own
                ∙ ap (λ l. need_by (names_at lists) (node_at nodes m) l i) (sym (above m (omega arith) there))
            | inr less ↦ (
                let same : n ≡ m = omega arith in
                let reads : member i (inputs_of x) ≡ true = ap (λ q. member i (inputs_of (node_at nodes q))) same ∙ own in
                let here : names_at new i ≡ need_by (names_at lists) x (names_at new n) i = put.put i reads ∙ ap (λ l. need_by (names_at lists) x l i) (is ∙ sym (above n (omega arith) lt)) in
                subst (λ q. names_at new i ≡ need_by (names_at lists) (node_at nodes q) (names_at new q) i) same here)
          ] in split (cases_lt n m));
    }

-- the lists are what the nodes under the root need
pub passed-needs : (frames : List Table) (nodes : List Node) (root : ℕ) (lists needs : List (List (List ℕ))) → AreTree nodes root → root < length nodes → HasNames frames nodes lists → ArePassed lists nodes root 0 needs → ((m : ℕ) → is_under nodes root m ≡ true → m < length nodes) → AreNeeds (over frames nodes) root (needs_in needs)
passed-needs frames nodes root lists needs tree rooted names passed there = record {
  whole = λ name. ap (λ l. has_name l name) (passed.whole ∙ names root rooted);
  input = λ m i name under own. (
      let lt = there m under in
      let theirs : (k : ℕ) → is_input (node_at nodes m) k ≡ true → names_at lists k ≡ names_of (schema_of (over frames nodes) k) = λ k reads. (let less = tree.ordered m k lt reads in names k (omega arith)) in
      ap (λ l. has_name l name) (passed.each m i (omega arith) lt own)
      ∙ need-by frames (schema_of (over frames nodes)) (names_at lists) (node_at nodes m) (names_at needs m) i theirs own name);
}

-- ---- narrowed nodes, upwards

-- a narrowed node rests on its inputs' schemas
narrow-agree : (frames : List Table) (u v : ℕ → List Field) (needed : List (List ℕ)) (x : Node) → ((i : ℕ) → is_input x i ≡ true → u i ≡ v i) → narrow_node frames u (has_name needed) x ≡ narrow_node frames v (has_name needed) x
narrow-agree frames u v needed x same = sym (narrow-by frames u (λ i. names_of (v i)) needed x (λ i own. ap names_of (sym (same i own)))) ∙ narrow-by frames v (λ i. names_of (v i)) needed x (λ i own. refl)

module _ (frames : List Table) (old : List Node) (ordered : AreOrdered old) (needs : List (List (List ℕ))) where
  pub narrowed-none : AreNarrowedTo frames old (needs_in needs) 0 [] []
  narrowed-none = record { long = refl; names = names-none frames []; each = λ k less. absurd (omega arith) }

  pub narrowed-next : (n : ℕ) (made : List Node) (lists : List (List (List ℕ))) (y : Node) (l : List (List ℕ)) → n < length old → AreNarrowedTo frames old (needs_in needs) n made lists → y ≡ narrow_by frames (names_at lists) (names_at needs n) (node_at old n) → l ≡ output_by frames (names_at lists) y → AreNarrowedTo frames old (needs_in needs) (suc n) (made ++ y ∷ []) (lists ++ l ∷ [])
  narrowed-next n made lists y l lt before made_is names_is =
      let x = node_at old n in
      let s = schema_of (over frames made) in
      let t = schema_of (over frames (made ++ y ∷ [])) in
      let long = before.long in
      let stays : (i : ℕ) → i < n → t i ≡ s i = λ i less. schema-stays frames made (y ∷ []) i (omega arith) in
      let own : y ≡ narrow_node frames s (has_name (names_at needs n)) x = made_is ∙ narrow-by frames s (names_at lists) (names_at needs n) x (λ i reads. before.names.each i (ordered n i lt reads)) in
      let reads_same : inputs_of y ≡ inputs_of x = ap inputs_of own ∙ narrow-inputs frames s (has_name (names_at needs n)) x in
      record {
        long = one-more made y ∙ ap suc long;
        names = record {
          long = one-more lists l ∙ ap suc before.names.long;
          each = λ k less. (
              let many = before.names.long in
              let split : (k < n) ⊎ (n ≤ k) → names_at (lists ++ l ∷ []) k ≡ names_of (t k) = elim [
                | inl a ↦ names-before lists l k (omega arith) ∙ before.names.each k a ∙ ap names_of (sym (stays k a))
                | inr b ↦ (
                    let same : n ≡ k = omega arith in
                    let at : t n ≡ node_schema frames s y = ap t (sym long) ∙ schema-new frames made y in
                    let here : names_at (lists ++ l ∷ []) n ≡ names_of (t n) =
                    ap (names_at (lists ++ l ∷ [])) (sym many) ∙ names-new lists l ∙ names_is
                    ∙ output-by frames s (names_at lists) y (λ i reads. before.names.each i (ordered n i lt (ap (member i) (sym reads_same) ∙ reads)))
                    ∙ ap names_of (sym at) in
                    subst (λ q. names_at (lists ++ l ∷ []) q ≡ names_of (t q)) same here)
              ] in split (cases_lt k n));
        };
        each = λ k less. (
            let split : (k < n) ⊎ (n ≤ k) → node_at (made ++ y ∷ []) k ≡ narrow_node frames t (has_name (names_at needs k)) (node_at old k) = elim [
              | inl a ↦
                  node-before made (y ∷ []) k (omega arith)
                  ∙ before.each k a
                  ∙ narrow-agree frames s t (names_at needs k) (node_at old k) (λ i reads. sym (stays i (let lower = ordered k i (omega arith) reads in omega arith)))
              | inr b ↦ (
                  let same : n ≡ k = omega arith in
                  let here : node_at (made ++ y ∷ []) n ≡ narrow_node frames t (has_name (names_at needs n)) x =
                  ap (node_at (made ++ y ∷ [])) (sym long) ∙ node-new made y [] ∙ own
                  ∙ narrow-agree frames s t (names_at needs n) x (λ i reads. sym (stays i (ordered n i lt reads))) in
                  subst (λ q. node_at (made ++ y ∷ []) q ≡ narrow_node frames t (has_name (names_at needs q)) (node_at old q)) same here)
            ] in split (cases_lt k n));
      }

  pub narrowed-whole : (made : List Node) (lists : List (List (List ℕ))) → AreNarrowedTo frames old (needs_in needs) (length old) made lists → AreNarrowed frames old made (needs_in needs)
  narrowed-whole made lists h = record { long = h.long; each = h.each }

-- ---- as the code does it

pub names-begun : (frames : List Table) (nodes : List Node) (lists : List (List (List ℕ))) → lists ≡ [] → AreNames frames nodes 0 lists
names-begun frames nodes lists is = subst (AreNames frames nodes 0) (sym is) (names-none frames nodes)

pub names-step : (frames : List Table) (irs : List IR) → AreOrdered (map node_of irs) → (k : ℕ) (lists slice new : List (List (List ℕ))) (x : IR) (l : List (List ℕ)) → k < length irs → x ≡ get_or irs k x → AreNames frames (map node_of irs) k lists → slice ≡ lists → l ≡ output_by frames (names_at slice) (node_of x) → new ≡ lists ++ l ∷ [] → AreNames frames (map node_of irs) (k + 1) new
names-step frames irs ordered k lists slice new x l lt is before same made pushed =
    let nodes = map node_of irs in
    let long = map-long node_of irs in
    let here : l ≡ output_by frames (names_at lists) (node_at nodes k) = made ∙ ap (λ q. output_by frames (names_at q) (node_of x)) same ∙ ap (output_by frames (names_at lists)) (sym (read-at irs k x lt is)) in
    let next = names-next frames nodes ordered k lists l (omega arith) before here in
    let more : suc k ≡ k + 1 = omega arith in
    subst (λ q. AreNames frames nodes q new) more (subst (AreNames frames nodes (suc k)) (sym pushed) next)

pub names-all : (frames : List Table) (irs : List IR) (k : ℕ) (lists : List (List (List ℕ))) → AreNames frames (map node_of irs) k lists → length irs ≤ k → HasNames frames (map node_of irs) lists
names-all frames irs k lists names end n lt = (let long = map-long node_of irs in names.each n (omega arith))

inner : (xs : List ℕ) (i : ℕ) → i < length xs → take (suc i) xs ≡ take i xs ++ get_or xs i 0 ∷ []
inner [] i h = absurd (omega arith)
inner (y ∷ xs) zero h = refl
inner (y ∷ xs) (suc i) h = ap (λ l. y ∷ l) (inner xs i (omega arith))

take-last : (xs : List ℕ) (i : ℕ) → i < length xs → take (i + 1) xs ≡ take i xs ++ get_or xs i 0 ∷ []
take-last xs i lt = (let e : i + 1 ≡ suc i = omega arith in ap (λ k. take k xs) e ∙ inner xs i lt)

take-all : (xs : List ℕ) (i : ℕ) → length xs ≤ i → take i xs ≡ xs
take-all [] zero h = refl
take-all [] (suc i) h = refl
take-all (y ∷ xs) zero h = absurd (omega arith)
take-all (y ∷ xs) (suc i) h = ap (λ l. y ∷ l) (take-all xs i (omega arith))

pub put-begun : (f : ℕ → List (List ℕ)) (xs : List ℕ) (old : List (List (List ℕ))) → HasPut f (take 0 xs) old old
put-begun f xs old = put-none f old

pub put-step : (f : ℕ → List (List ℕ)) (xs : List ℕ) (i : ℕ) (old now : List (List (List ℕ))) (l : List (List ℕ)) → i < length xs → HasPut f (take i xs) old now → get_or xs i 0 < length now → l ≡ f (get_or xs i 0) → HasPut f (take (i + 1) xs) old (set now (get_or xs i 0) l)
put-step f xs i old now l lt before fits made =
    let x = get_or xs i 0 in
    let long = before.long in
    subst (λ is. HasPut f is old (set now x l)) (sym (take-last xs i lt)) (put-next f (take i xs) x old now (set now x l) l before (omega arith) made refl)

pub put-all : (f : ℕ → List (List ℕ)) (xs is : List ℕ) (i : ℕ) (old now : List (List (List ℕ))) → HasPut f (take i xs) old now → length xs ≤ i → xs ≡ is → HasPut f is old now
put-all f xs is i old now h end same = subst (λ q. HasPut f q old now) (take-all xs i end ∙ same) h

pub passed-begun : (lists : List (List (List ℕ))) (irs : List IR) (root k : ℕ) (needs : List (List (List ℕ))) → k ≡ length irs → length needs ≡ length irs → names_at needs root ≡ names_at lists root → ArePassed lists (map node_of irs) root k needs
passed-begun lists irs root k needs is long whole =
    let many = map-long node_of irs in
    let same : length (map node_of irs) ≡ k = omega arith in
    subst (λ q. ArePassed lists (map node_of irs) root q needs) same (passed-none lists (map node_of irs) root needs (omega arith) whole)

-- what is needed of a node is out while it is handed down
pub record IsBack (n : ℕ) (old taken put new : List (List (List ℕ))) (needed : List (List ℕ)) : Type 0 where
  pub was : needed ≡ names_at old n
  pub out : (i : ℕ) → eqb n i ≡ false → names_at taken i ≡ names_at old i
  pub out_long : length taken ≡ length old
  pub here : names_at new n ≡ needed
  pub back : (i : ℕ) → eqb n i ≡ false → names_at new i ≡ names_at put i
  pub back_long : length new ≡ length put

pub put-around : (f : ℕ → List (List ℕ)) (is : List ℕ) (n : ℕ) (old taken put new : List (List (List ℕ))) (needed : List (List ℕ)) → member n is ≡ false → IsBack n old taken put new needed → HasPut f is taken put → HasPut f is old new
put-around f is n old taken put new needed apart b h = record {
  long = b.back_long ∙ h.long ∙ b.out_long;
  put = λ i own. (
      let split : (c : Bool) → eqb n i ≡ c → names_at new i ≡ f i = elim [
        | true ↦ λ e. (let same : n ≡ i = (Decides-eqb n i).0 e in clash (member i is) own (ap (λ q. member q is) (sym same) ∙ apart))
        | false ↦ λ e. b.back i e ∙ h.put i own
      ] in split (eqb n i) refl);
  kept = λ i out. (
      let split : (c : Bool) → eqb n i ≡ c → names_at new i ≡ names_at old i = elim [
        | true ↦ λ e. (let same : n ≡ i = (Decides-eqb n i).0 e in subst (λ q. names_at new q ≡ names_at old q) same (b.here ∙ b.was))
        | false ↦ λ e. b.back i e ∙ h.kept i out ∙ b.out i e
      ] in split (eqb n i) refl);
}

-- a node reads smaller ones alone
pub not-own : (irs : List IR) (root n : ℕ) (x : IR) → AreTree (map node_of irs) root → n < length irs → x ≡ get_or irs n x → member n (inputs_of (node_of x)) ≡ false
not-own irs root n x tree lt at =
    let nodes = map node_of irs in
    let many = map-long node_of irs in
    let here : node_at nodes n ≡ node_of x = read-at irs n x lt at in
    never (member n (inputs_of (node_of x))) (λ own. (let less = tree.ordered n n (omega arith) (ap (λ y. member n (inputs_of y)) here ∙ own) in absurd (omega arith)))

pub passed-step : (lists : List (List (List ℕ))) (irs : List IR) (root k n : ℕ) (needs new : List (List (List ℕ))) (x : IR) (needed : List (List ℕ)) → AreTree (map node_of irs) root → k ≡ suc n → k ≤ length irs → x ≡ get_or irs n x → ArePassed lists (map node_of irs) root k needs → needed ≡ names_at needs n → HasPut (need_by (names_at lists) (node_of x) needed) (inputs_of (node_of x)) needs new → ArePassed lists (map node_of irs) root n new
passed-step lists irs root k n needs new x needed tree is le at before own put =
    let nodes = map node_of irs in
    let many = map-long node_of irs in
    let here : node_at nodes n ≡ node_of x = read-at irs n x (omega arith) at in
    let old = subst (λ q. ArePassed lists nodes root q needs) is before in
    passed-next lists nodes root n needs new needed tree (omega arith) old own
    (subst (λ y. HasPut (need_by (names_at lists) y needed) (inputs_of y) needs new) (sym here) put)

pub inputs-below : (lists : List (List (List ℕ))) (irs : List IR) (root k n : ℕ) (needs : List (List (List ℕ))) (x : IR) → AreTree (map node_of irs) root → k ≡ suc n → k ≤ length irs → x ≡ get_or irs n x → ArePassed lists (map node_of irs) root k needs → (i : ℕ) → is_input (node_of x) i ≡ true → i < length needs
inputs-below lists irs root k n needs x tree is le at before i own =
    let nodes = map node_of irs in
    let many = map-long node_of irs in
    let here : node_at nodes n ≡ node_of x = read-at irs n x (omega arith) at in
    let less = tree.ordered n i (omega arith) (ap (λ y. member i (inputs_of y)) here ∙ own) in
    let long = before.long in
    omega arith

pub narrowed-begun : (frames : List Table) (old : List Node) (needs : List (List (List ℕ))) (made : List IR) (lists : List (List (List ℕ))) → made ≡ [] → lists ≡ [] → AreNarrowedTo frames old (needs_in needs) 0 (map node_of made) lists
narrowed-begun frames old needs made lists a b =
    let none : AreNarrowedTo frames old (needs_in needs) 0 [] [] = record { long = refl; names = names-none frames []; each = λ k less. absurd (omega arith) } in
    subst (λ l. AreNarrowedTo frames old (needs_in needs) 0 (map node_of made) l) (sym b) (subst (λ m. AreNarrowedTo frames old (needs_in needs) 0 (map node_of m) []) (sym a) none)

map-more : (xs : List IR) (x : IR) → map node_of (xs ++ x ∷ []) ≡ map node_of xs ++ node_of x ∷ []
map-more [] x = refl
map-more (y ∷ xs) x = ap (λ l. node_of y ∷ l) (map-more xs x)

pub narrowed-step : (frames : List Table) (irs : List IR) → AreOrdered (map node_of irs) → (needs : List (List (List ℕ))) (n : ℕ) (made more : List IR) (lists slice other longer : List (List (List ℕ))) (x y : IR) (needed l : List (List ℕ)) → n < length irs → x ≡ get_or irs n x → AreNarrowedTo frames (map node_of irs) (needs_in needs) n (map node_of made) lists → needed ≡ names_at needs n → slice ≡ lists → node_of y ≡ narrow_by frames (names_at slice) needed (node_of x) → other ≡ lists → l ≡ output_by frames (names_at other) (node_of y) → more ≡ made ++ y ∷ [] → longer ≡ lists ++ l ∷ [] → AreNarrowedTo frames (map node_of irs) (needs_in needs) (n + 1) (map node_of more) longer
narrowed-step frames irs ordered needs n made more lists slice other longer x y needed l lt at before own same made_is again names_is pushed_made pushed_lists =
    let old = map node_of irs in
    let many = map-long node_of irs in
    let here : node_at old n ≡ node_of x = read-at irs n x lt at in
    let narrowed : node_of y ≡ narrow_by frames (names_at lists) (names_at needs n) (node_at old n) =
    made_is ∙ ap (λ q. narrow_by frames (names_at q) needed (node_of x)) same ∙ ap (λ q. narrow_by frames (names_at lists) q (node_of x)) own ∙ ap (narrow_by frames (names_at lists) (names_at needs n)) (sym here) in
    let named : l ≡ output_by frames (names_at lists) (node_of y) = names_is ∙ ap (λ q. output_by frames (names_at q) (node_of y)) again in
    let next = narrowed-next frames old ordered needs n (map node_of made) lists (node_of y) l (omega arith) before narrowed named in
    let step : suc n ≡ n + 1 = omega arith in
    subst (λ q. AreNarrowedTo frames old (needs_in needs) q (map node_of more) longer) step
    (subst (λ q. AreNarrowedTo frames old (needs_in needs) (suc n) (map node_of more) q) (sym pushed_lists)
    (subst (λ q. AreNarrowedTo frames old (needs_in needs) (suc n) q (lists ++ l ∷ [])) (sym (ap (map node_of) pushed_made ∙ map-more made y)) next))

pub narrowed-all : (frames : List Table) (irs : List IR) (needs : List (List (List ℕ))) (n : ℕ) (made : List IR) (lists : List (List (List ℕ))) → AreNarrowedTo frames (map node_of irs) (needs_in needs) n (map node_of made) lists → n ≤ length irs → length irs ≤ n → AreNarrowed frames (map node_of irs) (map node_of made) (needs_in needs)
narrowed-all frames irs needs n made lists h le end =
    let many = map-long node_of irs in
    let long = h.long in record {
      long = omega arith;
      each = λ k less. h.each k (omega arith);
    }

taken-at : (yielded : List IR) (x : IR) (rest irs : List IR) → yielded ++ x ∷ rest ≡ irs → x ≡ get_or irs (length yielded) x
taken-at [] x rest irs is = ap (λ l. get_or l 0 x) is
taken-at (y ∷ yielded) x rest irs is = taken-at yielded x rest (yielded ++ x ∷ rest) refl ∙ ap (λ l. get_or l (suc (length yielded)) x) is

taken-long : (yielded : List IR) (x : IR) (rest irs : List IR) → yielded ++ x ∷ rest ≡ irs → length yielded < length irs
taken-long yielded x rest irs is =
    let a = length-append yielded (x ∷ rest) in
    let b : length (yielded ++ x ∷ rest) ≡ length irs = ap length is in
    let s : length (x ∷ rest) ≡ suc (length rest) = refl in
    omega arith

-- one node more, where nodes are taken one after another
pub narrowed-taken : (frames : List Table) (irs : List IR) → AreOrdered (map node_of irs) → (needs : List (List (List ℕ))) (yielded before rest : List IR) (made more : List IR) (lists slice other longer : List (List (List ℕ))) (n : ℕ) (x y : IR) (needed l : List (List ℕ)) → yielded ++ before ≡ irs → before ≡ x ∷ rest → n ≡ length made → AreNarrowedTo frames (map node_of irs) (needs_in needs) (length yielded) (map node_of made) lists → needed ≡ names_at needs n → slice ≡ lists → node_of y ≡ narrow_by frames (names_at slice) needed (node_of x) → other ≡ lists → l ≡ output_by frames (names_at other) (node_of y) → more ≡ made ++ y ∷ [] → longer ≡ lists ++ l ∷ [] → AreNarrowedTo frames (map node_of irs) (needs_in needs) (length (yielded ++ x ∷ [])) (map node_of more) longer
narrowed-taken frames irs ordered needs yielded before rest made more lists slice other longer n x y needed l whole step is so_far own same made_is again names_is pushed_made pushed_lists =
    let all : yielded ++ x ∷ rest ≡ irs = ap (λ q. yielded ++ q) (sym step) ∙ whole in
    let many = map-long node_of made in
    let long = so_far.long in
    let here : n ≡ length yielded = omega arith in
    let next = narrowed-step frames irs ordered needs (length yielded) made more lists slice other longer x y needed l (taken-long yielded x rest irs all) (taken-at yielded x rest irs all) so_far (own ∙ ap (names_at needs) here) same made_is again names_is pushed_made pushed_lists in
    let sum = length-append yielded (x ∷ []) in
    let one : length (x ∷ []) ≡ 1 = refl in
    let count : length yielded + 1 ≡ length (yielded ++ x ∷ []) = omega arith in
    subst (λ q. AreNarrowedTo frames (map node_of irs) (needs_in needs) q (map node_of more) longer) count next

-- how many were taken
pub taken-few : (frames : List Table) (irs : List IR) (needs : List (List (List ℕ))) (yielded rest made : List IR) (lists : List (List (List ℕ))) → yielded ++ rest ≡ irs → AreNarrowedTo frames (map node_of irs) (needs_in needs) (length yielded) (map node_of made) lists → length made ≤ length irs
taken-few frames irs needs yielded rest made lists whole so_far =
    let many = map-long node_of made in
    let long = so_far.long in
    let sum = length-append yielded rest in
    let all : length (yielded ++ rest) ≡ length irs = ap length whole in
    omega arith

pub narrowed-end : (frames : List Table) (irs : List IR) (needs : List (List (List ℕ))) (yielded rest made : List IR) (lists : List (List (List ℕ))) → yielded ++ rest ≡ irs → rest ≡ [] → AreNarrowedTo frames (map node_of irs) (needs_in needs) (length yielded) (map node_of made) lists → AreNarrowed frames (map node_of irs) (map node_of made) (needs_in needs)
narrowed-end frames irs needs yielded rest made lists whole none so_far =
    let all = all-taken yielded rest irs whole none in
    let long : length yielded ≡ length irs = ap length all in
    narrowed-all frames irs needs (length yielded) made lists so_far (omega arith) (omega arith)

pub trimmed-all : (frames : List Table) (irs made : List IR) (root : ℕ) (lists needs : List (List (List ℕ))) → AreTree (map node_of irs) root → root < length irs → HasNames frames (map node_of irs) lists → ArePassed lists (map node_of irs) root 0 needs → AreNarrowed frames (map node_of irs) (map node_of made) (needs_in needs) → IsTrimOf frames (map node_of irs) (map node_of made) root
trimmed-all frames irs made root lists needs tree rooted names passed narrowed =
    let nodes = map node_of irs in
    let many = map-long node_of irs in record {
      needs = needs_in needs;
      are_needs = passed-needs frames nodes root lists needs tree (omega arith) names passed (λ m under. under-there nodes m (length nodes) root (omega arith) (omega arith) under);
      narrowed = narrowed;
    }
