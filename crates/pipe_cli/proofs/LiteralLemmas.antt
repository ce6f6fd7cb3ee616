-- The literals of a job that a value spells are known, and so are those of nodes that add none.
use Rattle.std.proofs.Common.{◌≡◌, ℕ, List, [], ◌∷◌, Bool, true, false, not, ◌&&◌, ◌||◌, ◌==◌, inl, inr, ◌⊎◌, refl, sym, ap, ap₂, ◌∙◌}
use Rattle.std.specs.List.{AllByRecursion, list_all, list_any}
use Rattle.pipe_schema.specs.Cell.{fits_dtype}
use Rattle.pipe_schema.specs.declared.any_value.AnyValue.{AnyValue}
use Rattle.pipe_schema.specs.declared.any_value.AnyValue.TheVariants as cell
use Rattle.pipe_schema.specs.declared.data_type.DataType.{DataType}
use Rattle.pipe_expr.specs.Formula.{Formula, Column, Literal, Add, Sub, Mul, Eq, NotEq, Lt, LtEq, Gt, GtEq, And, Or, Not, IsNull, IsNotNull, NamedFormula}
use Rattle.pipe_plan.specs.Node.{Node}
use Rattle.pipe_plan.specs.Node as node
use Rattle.pipe_job.specs.FormulaSpelling.{FormulaFits, NamedFits}
use Rattle.pipe_job.specs.JobSpelling.{Task, TaskFits}
use Rattle.pipe_job.specs.NodeSpelling.{NodeFits}
use Rattle.pipe_job.specs.Spelling.{FitsType}
use Rattle.pipe_job.specs.Version.{KnowsTypes, VersionFits, has_int128, named_has_int128, node_has_int128, table_has_int128}
use Rattle.pipe_rules.specs.Literals.{AddsNoLiteral, literals_pass, named_literals_pass, node_literals_pass}
use Rattle.pipe_spell.specs.Literals.{formula_known, literal_known, named_known, node_known, task_known}
use Rattle.pipe_cli.specs.Optimized.{with_nodes}

-- ---- what fits is known

type_known : (t : DataType) (c : AnyValue) → FitsType t c → fits_dtype t c ≡ true
type_known t cell.Null h = refl
type_known t (cell.Int32 z) h = ap (λ (u : DataType). fits_dtype u (cell.Int32 z)) h.0
type_known t (cell.Int64 z) h = ap (λ (u : DataType). fits_dtype u (cell.Int64 z)) h.0
type_known t (cell.UInt32 n) h = ap (λ (u : DataType). fits_dtype u (cell.UInt32 n)) h.0
type_known t (cell.UInt64 n) h = ap (λ (u : DataType). fits_dtype u (cell.UInt64 n)) h.0
type_known t (cell.Boolean b) h = ap (λ (u : DataType). fits_dtype u (cell.Boolean b)) h
type_known t (cell.String s) h = ap (λ (u : DataType). fits_dtype u (cell.String s)) h
type_known t (cell.Binary b) h = ap (λ (u : DataType). fits_dtype u (cell.Binary b)) h.0
type_known t (cell.Int128 z) h = ap (λ (u : DataType). fits_dtype u (cell.Int128 z)) h.0

both : (a b : Bool) → a ≡ true → b ≡ true → (a && b) ≡ true
both a b h k = ap₂ (λ (x y : Bool). x && y) h k

-- what a version lacks is in neither of two parts
neither : (lacks a b : Bool) → (lacks && (a || b)) ≡ false → ((lacks && a) ≡ false) × ((lacks && b) ≡ false)
neither true true b h = cc
neither true false b h = (refl, h)
neither false a b h = (refl, refl)

formula_fits_known : (v : ℕ) (f : Formula) → FormulaFits f → ((v == 1) && has_int128 f) ≡ false → formula_known v f ≡ true
formula_fits_known v (Column name) h n = refl
formula_fits_known v (Literal t c) h n = both _ _ (type_known t c h) (ap not n)
formula_fits_known v (Add a b) h n = let p = neither (v == 1) (has_int128 a) (has_int128 b) n in both _ _ (formula_fits_known v a h.0 p.0) (formula_fits_known v b h.1 p.1)
formula_fits_known v (Sub a b) h n = let p = neither (v == 1) (has_int128 a) (has_int128 b) n in both _ _ (formula_fits_known v a h.0 p.0) (formula_fits_known v b h.1 p.1)
formula_fits_known v (Mul a b) h n = let p = neither (v == 1) (has_int128 a) (has_int128 b) n in both _ _ (formula_fits_known v a h.0 p.0) (formula_fits_known v b h.1 p.1)
formula_fits_known v (Eq a b) h n = let p = neither (v == 1) (has_int128 a) (has_int128 b) n in both _ _ (formula_fits_known v a h.0 p.0) (formula_fits_known v b h.1 p.1)
formula_fits_known v (NotEq a b) h n = let p = neither (v == 1) (has_int128 a) (has_int128 b) n in both _ _ (formula_fits_known v a h.0 p.0) (formula_fits_known v b h.1 p.1)
formula_fits_known v (Lt a b) h n = let p = neither (v == 1) (has_int128 a) (has_int128 b) n in both _ _ (formula_fits_known v a h.0 p.0) (formula_fits_known v b h.1 p.1)
formula_fits_known v (LtEq a b) h n = let p = neither (v == 1) (has_int128 a) (has_int128 b) n in both _ _ (formula_fits_known v a h.0 p.0) (formula_fits_known v b h.1 p.1)
formula_fits_known v (Gt a b) h n = let p = neither (v == 1) (has_int128 a) (has_int128 b) n in both _ _ (formula_fits_known v a h.0 p.0) (formula_fits_known v b h.1 p.1)
formula_fits_known v (GtEq a b) h n = let p = neither (v == 1) (has_int128 a) (has_int128 b) n in both _ _ (formula_fits_known v a h.0 p.0) (formula_fits_known v b h.1 p.1)
formula_fits_known v (And a b) h n = let p = neither (v == 1) (has_int128 a) (has_int128 b) n in both _ _ (formula_fits_known v a h.0 p.0) (formula_fits_known v b h.1 p.1)
formula_fits_known v (Or a b) h n = let p = neither (v == 1) (has_int128 a) (has_int128 b) n in both _ _ (formula_fits_known v a h.0 p.0) (formula_fits_known v b h.1 p.1)
formula_fits_known v (Not f) h n = formula_fits_known v f h n
formula_fits_known v (IsNull f) h n = formula_fits_known v f h n
formula_fits_known v (IsNotNull f) h n = formula_fits_known v f h n

each_fits_known : {A : Type 0} (lacks : Bool) (has known : A → Bool) (Fits : A → Type 0) → ((x : A) → Fits x → (lacks && has x) ≡ false → known x ≡ true)
    → (xs : List A) → AllByRecursion Fits xs → (lacks && list_any has xs) ≡ false → list_all known xs ≡ true
each_fits_known lacks has known Fits one [] h n = refl
each_fits_known lacks has known Fits one (x ∷ xs) h n =
    let p = neither lacks (has x) (list_any has xs) n in both _ _ (one x h.0 p.0) (each_fits_known lacks has known Fits one xs h.1 p.1)

named_fits_known : (v : ℕ) (e : NamedFormula) → NamedFits e → ((v == 1) && named_has_int128 e) ≡ false → named_known v e ≡ true
named_fits_known v e h n = formula_fits_known v e.formula h n

node_fits_known : (v : ℕ) (n : Node) → NodeFits n → ((v == 1) && node_has_int128 n) ≡ false → node_known v n ≡ true
node_fits_known v (node.DataFrameScan frame columns) h n = refl
node_fits_known v (node.Filter input e) h n = formula_fits_known v e h.1 n
node_fits_known v (node.SimpleProjection input cs) h n = refl
node_fits_known v (node.Select input es) h n = each_fits_known (v == 1) named_has_int128 (named_known v) NamedFits (named_fits_known v) es h.1 n
node_fits_known v (node.HStack input es) h n = each_fits_known (v == 1) named_has_int128 (named_known v) NamedFits (named_fits_known v) es h.1 n
node_fits_known v (node.MapFunction input f) h n = refl
node_fits_known v (node.Union inputs) h n = refl
node_fits_known v (node.Join left right left_on right_on o) h n =
    let p = neither (v == 1) (list_any has_int128 left_on) (list_any has_int128 right_on) n in
    let one = each_fits_known (v == 1) has_int128 (formula_known v) FormulaFits (formula_fits_known v) in
    both _ _ (one left_on h.2 p.0) (one right_on h.3 p.1)
node_fits_known v (node.Sort input by o) h n = refl

right_false : (a b : Bool) → (a || b) ≡ false → b ≡ false
right_false true b h = cc
right_false false b h = h

and_false : (a b : Bool) → b ≡ false → (a && b) ≡ false
and_false true b h = h
and_false false b h = refl

-- version 1 has no Int128, and version 2 lacks nothing
nothing_lacks : (job : Task) → VersionFits job.version → KnowsTypes job.version job.plan → ((job.version == 1) && list_any node_has_int128 job.plan.nodes) ≡ false
nothing_lacks job (inl one) types = and_false (job.version == 1) (list_any node_has_int128 job.plan.nodes) (right_false (list_any table_has_int128 job.plan.frames) (list_any node_has_int128 job.plan.nodes) (types one))
nothing_lacks job (inr two) types = ap (λ (v : ℕ). (v == 1) && list_any node_has_int128 job.plan.nodes) two

task_fits_known : (job : Task) → TaskFits job → task_known job ≡ true
task_fits_known job fits =
    each_fits_known (job.version == 1) node_has_int128 (node_known job.version) NodeFits (node_fits_known job.version) job.plan.nodes fits.parts.nodes (nothing_lacks job fits.parts.version fits.types)

-- ---- what is known passes the test of literals, and the other way round

formula_same : (v : ℕ) (f : Formula) → literals_pass (literal_known v) f ≡ formula_known v f
formula_same v (Column name) = refl
formula_same v (Literal t c) = refl
formula_same v (Add a b) = ap₂ (λ (x y : Bool). x && y) (formula_same v a) (formula_same v b)
formula_same v (Sub a b) = ap₂ (λ (x y : Bool). x && y) (formula_same v a) (formula_same v b)
formula_same v (Mul a b) = ap₂ (λ (x y : Bool). x && y) (formula_same v a) (formula_same v b)
formula_same v (Eq a b) = ap₂ (λ (x y : Bool). x && y) (formula_same v a) (formula_same v b)
formula_same v (NotEq a b) = ap₂ (λ (x y : Bool). x && y) (formula_same v a) (formula_same v b)
formula_same v (Lt a b) = ap₂ (λ (x y : Bool). x && y) (formula_same v a) (formula_same v b)
formula_same v (LtEq a b) = ap₂ (λ (x y : Bool). x && y) (formula_same v a) (formula_same v b)
formula_same v (Gt a b) = ap₂ (λ (x y : Bool). x && y) (formula_same v a) (formula_same v b)
formula_same v (GtEq a b) = ap₂ (λ (x y : Bool). x && y) (formula_same v a) (formula_same v b)
formula_same v (And a b) = ap₂ (λ (x y : Bool). x && y) (formula_same v a) (formula_same v b)
formula_same v (Or a b) = ap₂ (λ (x y : Bool). x && y) (formula_same v a) (formula_same v b)
formula_same v (Not f) = formula_same v f
formula_same v (IsNull f) = formula_same v f
formula_same v (IsNotNull f) = formula_same v f

each_same : {A : Type 0} (one other : A → Bool) → ((x : A) → one x ≡ other x) → (xs : List A) → list_all one xs ≡ list_all other xs
each_same one other same [] = refl
each_same one other same (x ∷ xs) = ap₂ (λ (a b : Bool). a && b) (same x) (each_same one other same xs)

named_same : (v : ℕ) (e : NamedFormula) → named_literals_pass (literal_known v) e ≡ named_known v e
named_same v e = formula_same v e.formula

node_same : (v : ℕ) (n : Node) → node_literals_pass (literal_known v) n ≡ node_known v n
node_same v (node.DataFrameScan frame columns) = refl
node_same v (node.Filter input e) = formula_same v e
node_same v (node.SimpleProjection input cs) = refl
node_same v (node.Select input es) = each_same (named_literals_pass (literal_known v)) (named_known v) (named_same v) es
node_same v (node.HStack input es) = each_same (named_literals_pass (literal_known v)) (named_known v) (named_same v) es
node_same v (node.MapFunction input f) = refl
node_same v (node.Union inputs) = refl
node_same v (node.Join left right left_on right_on o) =
    let one = each_same (literals_pass (literal_known v)) (formula_known v) (formula_same v) in ap₂ (λ (a b : Bool). a && b) (one left_on) (one right_on)
node_same v (node.Sort input by o) = refl

-- the job with nodes that add no literal has known literals
pub known_with_nodes : (job : Task) (nodes : List Node) (root : ℕ) → TaskFits job → AddsNoLiteral job.plan.nodes nodes → task_known (with_nodes job nodes root) ≡ true
known_with_nodes job nodes root fits adds =
    let v = job.version in
    let same = each_same (node_literals_pass (literal_known v)) (node_known v) (node_same v) in
    sym (same nodes) ∙ adds (literal_known v) (same job.plan.nodes ∙ task_fits_known job fits)
