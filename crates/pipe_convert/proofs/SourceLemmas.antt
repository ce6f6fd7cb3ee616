-- The sources of branches have the rows of their nodes.
use Rattle.std.proofs.Common.{◌≡◌, ◌+◌, ◌<◌, ◌^◌, arith, ℕ, suc, Bool, true, false, eqb, ◌||◌, List, [], ◌∷◌, ◌++◌, length, None, refl, ap, sym, subst, ◌∙◌, append_assoc}
use Rattle.std.proofs.lemmas.List.{append-nil, length-append}
use Rattle.std.specs.List.{flat_map, list_all}
use Rattle.pipe_schema.specs.declared.field.Field.{Field}
use Rattle.pipe_ops.specs.Batches.{Left}
use Rattle.pipe_source.specs.Law.{all_rows}
use Rattle.pipe_source.specs.Supplies.{left_of, all_left}
use Rattle.pipe_source.specs.Supply.{Supply}
use Rattle.pipe_source.specs.declared.phys_source.PhysSource.{PhysSource}
use Rattle.pipe_source.specs.declared.phys_source.PhysSource.TheVariants.{Frame, Union}
use Rattle.pipe_plan.specs.Faults.{IsWellFormed, is_void}
use Rattle.pipe_plan.specs.Node.{Node}
use Rattle.pipe_plan.specs.Node as node
use Rattle.pipe_plan.specs.Under.{node_at}
use Rattle.pipe_driver.specs.Branches.{is_scan_at}
use Rattle.pipe_driver.specs.Texts.{node_word}
use Rattle.pipe_driver.specs.Shape.{Begins, kind_at, kind_of, union_kind}
use Rattle.pipe_check.specs.Checked.{Checked}
use Rattle.pipe_check.proofs.Walks.{member, itself}
use Rattle.pipe_convert.specs.Converted.{IsSourceOf, schema_in}
use Rattle.pipe_convert.proofs.Granted.{granted}
use Rattle.pipe_convert.specs.Nodes.{IsUnder, plan_in, nodes_in, rows_in}
use Rattle.pipe_convert.specs.Sources.{AreWhole, HasFewRows, IsSourceAt, AreScans, AreScansOf, IsUnionOf, taken_at}
use Rattle.pipe_convert.proofs.NodeRows.{scan_rows, union_rows}
use Rattle.pipe_convert.proofs.SameFields.{first_true, second_true, union_schema}

-- ---- lists of scans

all_left_push : (xs : List PhysSource) (l : Left) → all_left (xs ++ Frame l ∷ []) ≡ all_left xs ++ l ∷ []
all_left_push [] l = refl
all_left_push (x ∷ xs) l = ap (λ r. left_of x ++ r) (all_left_push xs l) ∙ sym (append_assoc (left_of x) (all_left xs) (l ∷ []))

abbrev pub ScansBehind : Checked → List ℕ → List ℕ → List PhysSource → Type 0
ScansBehind plan inputs rest sources = (lefts : List Left) → AreScansOf plan rest lefts → AreScansOf plan inputs (all_left sources ++ lefts)

pub scans_first : (plan : Checked) (inputs : List ℕ) (sources : List PhysSource) → sources ≡ [] → ScansBehind plan inputs inputs sources
scans_first plan inputs sources none lefts h = subst (λ l. AreScansOf plan inputs (all_left l ++ lefts)) (sym none) h

pub scans_next : (plan : Checked) (inputs rest : List ℕ) (x : ℕ) (sources new : List PhysSource) (l : Left) → new ≡ sources ++ Frame l ∷ [] → IsSourceOf plan x l → ScansBehind plan inputs (x ∷ rest) sources → ScansBehind plan inputs rest new
scans_next plan inputs rest x sources new l is here known lefts h =
    subst (λ n. AreScansOf plan inputs (all_left n ++ lefts)) (sym is)
    (subst (AreScansOf plan inputs) (sym (ap (λ r. r ++ lefts) (all_left_push sources l) ∙ append_assoc (all_left sources) (l ∷ []) lefts)) (known (l ∷ lefts) (here, h)))

pub scans_done : (plan : Checked) (inputs rest : List ℕ) (sources : List PhysSource) → rest ≡ [] → ScansBehind plan inputs rest sources → AreScansOf plan inputs (all_left sources)
scans_done plan inputs rest sources none known =
    subst (AreScansOf plan inputs) (append-nil (all_left sources)) (known [] (subst (λ r. AreScansOf plan r []) (sym none) tt))

pub scans_long : (plan : Checked) (ns : List ℕ) (lefts : List Left) → AreScansOf plan ns lefts → length lefts ≡ length ns
scans_long plan [] [] h = refl
scans_long plan [] (l ∷ ls) h = absurd h
scans_long plan (n ∷ ns) [] h = absurd h
scans_long plan (n ∷ ns) (l ∷ ls) h = ap suc (scans_long plan ns ls h.1)

scans_rows : (plan : Checked) (ns : List ℕ) (lefts : List Left) → IsWellFormed (plan_in plan) plan.root → AreScans plan ns → AreScansOf plan ns lefts → all_rows lefts ≡ flat_map (rows_in plan) ns
scans_rows plan [] [] good are h = refl
scans_rows plan [] (l ∷ ls) good are h = absurd h
scans_rows plan (n ∷ ns) [] good are h = absurd h
scans_rows plan (n ∷ ns) (l ∷ ls) good are h =
    ap (λ r. r ++ all_rows ls) (sym (scan_rows (plan_in plan) plan.root n good are.0.under l.rows h.0.rows)) ∙ ap (λ r. rows_in plan n ++ r) (scans_rows plan ns ls good are.1 h.1)

scans_whole : (plan : Checked) (schema : List Field) (ns : List ℕ) (lefts : List Left) → ((x : ℕ) → member x ns ≡ true → schema_in plan x ≡ schema) → AreScansOf plan ns lefts → AreWhole schema lefts
scans_whole plan schema [] [] same h = tt
scans_whole plan schema [] (l ∷ ls) same h = absurd h
scans_whole plan schema (n ∷ ns) [] same h = absurd h
scans_whole plan schema (n ∷ ns) (l ∷ ls) same h = (
  record { whole = h.0.whole; schema_is = h.0.gives_output ∙ same n (let self = itself n in rw self refl) },
  scans_whole plan schema ns ls (λ x m. same x (elim (eqb n x) as (λ t. (t || member x ns) ≡ true) [ true ↦ refl | false ↦ m ])) h.1,
)

-- ---- how many rows

rows_append : (xs ys : List Left) → length (all_rows (xs ++ ys)) ≡ length (all_rows xs) + length (all_rows ys)
rows_append [] ys = omega arith
rows_append (x ∷ xs) ys =
    let more = rows_append xs ys in
    let all : length (all_rows ((x ∷ xs) ++ ys)) ≡ length x.rows + length (all_rows (xs ++ ys)) = length-append x.rows (all_rows (xs ++ ys)) in
    let some : length (all_rows (x ∷ xs)) ≡ length x.rows + length (all_rows xs) = length-append x.rows (all_rows xs) in
    omega arith

one_has : (l : Left) → length (all_rows (l ∷ [])) ≡ length l.rows
one_has l = ap length (append-nil l.rows)

pub few_one : (l : Left) (left was : ℕ) → left + length l.rows ≡ was → was < 2 ^ 62 → HasFewRows (l ∷ [])
few_one l left was e few = let one = one_has l in omega arith

pub rows_next : (sources new : List PhysSource) (l : Left) (left was : ℕ) → new ≡ sources ++ Frame l ∷ [] → left + length l.rows ≡ was → was + length (all_rows (all_left sources)) < 2 ^ 62 → left + length (all_rows (all_left new)) < 2 ^ 62
rows_next sources new l left was is e few =
    let one = one_has l in
    let more : length (all_rows (all_left new)) ≡ length (all_rows (all_left sources)) + length (all_rows (l ∷ [])) = ap (λ x. length (all_rows (all_left x))) is ∙ ap (λ x. length (all_rows x)) (all_left_push sources l) ∙ rows_append (all_left sources) (l ∷ []) in
    omega arith

-- a union has an input
pub union_some : (plan : Checked) (n : ℕ) (inputs : List ℕ) (lefts : List Left) → IsWellFormed (plan_in plan) plan.root → IsUnder plan n → node_at (nodes_in plan) n ≡ node.Union inputs → AreScansOf plan inputs lefts → lefts ≡ [] → ⊥
union_some plan n [] lefts good under is are none =
    let g = granted (plan_in plan) plan.root n (node.Union []) good under is in
    let full : is_void (plan_in plan).frames (node.Union []) ≡ false = g.whole in cc
union_some plan n (x ∷ xs) [] good under is are none = are
union_some plan n (x ∷ xs) (l ∷ lefts) good under is are none = cc

-- ---- sources

pub frame_is : (plan : Checked) (n : ℕ) (l : Left) → IsWellFormed (plan_in plan) plan.root → IsUnder plan n → node_word (node_at (nodes_in plan) n) ≡ node_word (node.DataFrameScan 0 None) → taken_at (node_at (nodes_in plan) n) n ≡ n ∷ [] → IsSourceOf plan n l → HasFewRows (l ∷ []) → IsSourceAt plan n (Frame l)
frame_is plan n l good under word own h few =
    record {
      whole = (record { whole = h.whole; schema_is = h.gives_output }, tt);
      some = λ none. cc;
      few = few;
      rows = append-nil l.rows ∙ sym (scan_rows (plan_in plan) plan.root n good under l.rows h.rows);
      text = sym word;
      scans = (let S : List ℕ → Type 0 = λ ns. AreScansOf plan ns (l ∷ []) in subst S (sym own) (h, tt));
    }

pub union_is : (plan : Checked) (n : ℕ) (inputs : List ℕ) (supply : Supply) → IsWellFormed (plan_in plan) plan.root → IsUnder plan n → node_at (nodes_in plan) n ≡ node.Union inputs → AreScans plan inputs → IsUnionOf plan inputs supply → HasFewRows supply.left → IsSourceAt plan n (Union supply)
union_is plan n inputs supply good under is are h few =
    record {
      some = union_some plan n inputs supply.left good under is h;
      few = few;
      whole = scans_whole plan (schema_in plan n) inputs supply.left (λ x m. union_schema (plan_in plan) plan.root n good under inputs is x m) h;
      rows = scans_rows plan inputs supply.left good are h ∙ sym (union_rows (plan_in plan) plan.root n good under inputs is);
      text = ap node_word (sym is);
      scans = (let S : List ℕ → Type 0 = λ ns. AreScansOf plan ns supply.left in subst S (sym (ap (λ x. taken_at x n) is)) h);
    }

-- the inputs of a union of scans alone
scans_in : (plan : Checked) (ns : List ℕ) → ((x : ℕ) → member x ns ≡ true → IsUnder plan x) → list_all (is_scan_at (nodes_in plan)) ns ≡ true → AreScans plan ns
scans_in plan [] under h = tt
scans_in plan (n ∷ ns) under h =
    let here = first_true (is_scan_at (nodes_in plan) n) (list_all (is_scan_at (nodes_in plan)) ns) h in
    let rest = second_true (is_scan_at (nodes_in plan) n) (list_all (is_scan_at (nodes_in plan)) ns) h in (
      record { under = under n (let self = itself n in rw self refl); scan = here },
      scans_in plan ns (λ x m. under x (elim (eqb n x) as (λ t. (t || member x ns) ≡ true) [ true ↦ refl | false ↦ m ])) rest,
    )

all_scans : (nodes : List Node) (is : List ℕ) (b : Bool) → union_kind b is ≡ Begins → b ≡ true
all_scans nodes is true h = refl
all_scans nodes is false h = cc

pub union_scans : (plan : Checked) (n : ℕ) (inputs : List ℕ) → IsWellFormed (plan_in plan) plan.root → IsUnder plan n → node_at (nodes_in plan) n ≡ node.Union inputs → kind_at (nodes_in plan) n ≡ Begins → AreScans plan inputs
union_scans plan n inputs good under is begins =
    let g = granted (plan_in plan) plan.root n (node.Union inputs) good under is in
    scans_in plan inputs (λ x m. (g.fed x m).1) (all_scans (nodes_in plan) inputs (list_all (is_scan_at (nodes_in plan)) inputs) (sym (ap (kind_of (nodes_in plan)) is) ∙ begins))
