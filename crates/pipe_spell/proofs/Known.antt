-- Formulas and nodes whose literals are known, and whose numbers are within their ranges, fit.
use Rattle.std.proofs.Common.{◌≡◌, ℕ, List, [], ◌∷◌, Bool, true, false, not, ◌&&◌, ◌||◌, refl, sym, ap, ap₂, ◌∙◌, subst}
use Rattle.std.proofs.lemmas.Bool.{and_parts}
use Rattle.std.specs.List.{AllByRecursion, list_all, list_any}
use Rattle.pipe_schema.specs.Cell.{fits_dtype, eq_dtype}
use Rattle.pipe_schema.specs.declared.any_value.AnyValue.{AnyValue}
use Rattle.pipe_schema.specs.declared.any_value.AnyValue.TheVariants as cell
use Rattle.pipe_schema.specs.declared.data_type.DataType.{DataType}
use Rattle.pipe_schema.specs.declared.data_type.DataType.TheVariants as dtype
use Rattle.pipe_expr.specs.Formula.{Formula, Column, Literal, Add, Sub, Mul, Eq, NotEq, Lt, LtEq, Gt, GtEq, And, Or, Not, IsNull, IsNotNull, NamedFormula}
use Rattle.pipe_plan.specs.Node.{Node}
use Rattle.pipe_plan.specs.Node as node
use Rattle.pipe_job.specs.FormulaSpelling.{FormulaFits, NamedFits}
use Rattle.pipe_job.specs.FrameSpelling.{FrameFits}
use Rattle.pipe_job.specs.JobSpelling.{Task, TaskFits}
use Rattle.pipe_job.specs.NodeSpelling.{NodeFits}
use Rattle.pipe_job.specs.Spelling.{FitsType}
use Rattle.pipe_job.specs.Version.{VersionFits, KnowsTypes, is_int128, has_int128, named_has_int128, node_has_int128, table_has_int128}
use Rattle.pipe_spell.specs.Literals.{literal_known, formula_known, named_known, node_known, task_known}
use Rattle.pipe_spell.specs.Ranges.{CellInRange, FormulaInRange, NamedInRange, NodeInRange, TaskInRange}

-- ---- literals fit their types

same_dtype : (t u : DataType) → eq_dtype t u ≡ true → t ≡ u
same_dtype dtype.Int32 dtype.Int32 h = refl
same_dtype dtype.Int64 dtype.Int64 h = refl
same_dtype dtype.UInt32 dtype.UInt32 h = refl
same_dtype dtype.UInt64 dtype.UInt64 h = refl
same_dtype dtype.Boolean dtype.Boolean h = refl
same_dtype dtype.String dtype.String h = refl
same_dtype dtype.Binary dtype.Binary h = refl
same_dtype dtype.Int128 dtype.Int128 h = refl
same_dtype t u h = cc

cell_fits : (t : DataType) (c : AnyValue) → fits_dtype t c ≡ true → CellInRange c → FitsType t c
cell_fits t cell.Null h r = tt
cell_fits t (cell.Int32 z) h r = (same_dtype t dtype.Int32 h, r)
cell_fits t (cell.Int64 z) h r = (same_dtype t dtype.Int64 h, r)
cell_fits t (cell.UInt32 n) h r = (same_dtype t dtype.UInt32 h, r)
cell_fits t (cell.UInt64 n) h r = (same_dtype t dtype.UInt64 h, r)
cell_fits t (cell.Boolean b) h r = same_dtype t dtype.Boolean h
cell_fits t (cell.String s) h r = same_dtype t dtype.String h
cell_fits t (cell.Binary b) h r = (same_dtype t dtype.Binary h, r)
cell_fits t (cell.Int128 z) h r = (same_dtype t dtype.Int128 h, r)

formula_fits : (v : ℕ) (f : Formula) → formula_known v f ≡ true → FormulaInRange f → FormulaFits f
formula_fits v (Column name) h r = tt
formula_fits v (Literal t c) h r = let p = and_parts _ _ h in cell_fits t c p.0 r
formula_fits v (Add a b) h r = let p = and_parts _ _ h in (formula_fits v a p.0 r.0, formula_fits v b p.1 r.1)
formula_fits v (Sub a b) h r = let p = and_parts _ _ h in (formula_fits v a p.0 r.0, formula_fits v b p.1 r.1)
formula_fits v (Mul a b) h r = let p = and_parts _ _ h in (formula_fits v a p.0 r.0, formula_fits v b p.1 r.1)
formula_fits v (Eq a b) h r = let p = and_parts _ _ h in (formula_fits v a p.0 r.0, formula_fits v b p.1 r.1)
formula_fits v (NotEq a b) h r = let p = and_parts _ _ h in (formula_fits v a p.0 r.0, formula_fits v b p.1 r.1)
formula_fits v (Lt a b) h r = let p = and_parts _ _ h in (formula_fits v a p.0 r.0, formula_fits v b p.1 r.1)
formula_fits v (LtEq a b) h r = let p = and_parts _ _ h in (formula_fits v a p.0 r.0, formula_fits v b p.1 r.1)
formula_fits v (Gt a b) h r = let p = and_parts _ _ h in (formula_fits v a p.0 r.0, formula_fits v b p.1 r.1)
formula_fits v (GtEq a b) h r = let p = and_parts _ _ h in (formula_fits v a p.0 r.0, formula_fits v b p.1 r.1)
formula_fits v (And a b) h r = let p = and_parts _ _ h in (formula_fits v a p.0 r.0, formula_fits v b p.1 r.1)
formula_fits v (Or a b) h r = let p = and_parts _ _ h in (formula_fits v a p.0 r.0, formula_fits v b p.1 r.1)
formula_fits v (Not f) h r = formula_fits v f h r
formula_fits v (IsNull f) h r = formula_fits v f h r
formula_fits v (IsNotNull f) h r = formula_fits v f h r

each_fits : {A : Type 0} (known : A → Bool) (InRange Fits : A → Type 0) → ((x : A) → known x ≡ true → InRange x → Fits x) → (xs : List A) → list_all known xs ≡ true → AllByRecursion InRange xs → AllByRecursion Fits xs
each_fits known InRange Fits one [] h r = tt
each_fits known InRange Fits one (x ∷ xs) h r = let p = and_parts _ _ h in (one x p.0 r.0, each_fits known InRange Fits one xs p.1 r.1)

named_fits : (v : ℕ) (e : NamedFormula) → named_known v e ≡ true → NamedInRange e → NamedFits e
named_fits v e h r = formula_fits v e.formula h r

node_fits : (v : ℕ) (n : Node) → node_known v n ≡ true → NodeInRange n → NodeFits n
node_fits v (node.DataFrameScan frame columns) h r = r
node_fits v (node.Filter input e) h r = (r.0, formula_fits v e h r.1)
node_fits v (node.SimpleProjection input cs) h r = r
node_fits v (node.Select input es) h r = (r.0, each_fits (named_known v) NamedInRange NamedFits (named_fits v) es h r.1)
node_fits v (node.HStack input es) h r = (r.0, each_fits (named_known v) NamedInRange NamedFits (named_fits v) es h r.1)
node_fits v (node.MapFunction input f) h r = r
node_fits v (node.Union inputs) h r = r
node_fits v (node.Join left right left_on right_on o) h r =
    let p = and_parts _ _ h in
    let one = each_fits (formula_known v) FormulaInRange FormulaFits (formula_fits v) in
    (r.0, r.1, one left_on p.0 r.2, one right_on p.1 r.3, r.4, r.5)
node_fits v (node.Sort input by o) h r = r

-- ---- version 1 has no Int128

not_known : (a : Bool) → not (true && a) ≡ true → a ≡ false
not_known true h = cc
not_known false h = refl

type_absent : (t : DataType) (c : AnyValue) → literal_known 1 t c ≡ true → is_int128 t ≡ false
type_absent t c h = not_known (is_int128 t) (and_parts (fits_dtype t c) (not (true && is_int128 t)) h).1

formula_absent : (f : Formula) → formula_known 1 f ≡ true → has_int128 f ≡ false
formula_absent (Column name) h = refl
formula_absent (Literal t c) h = type_absent t c h
formula_absent (Add a b) h = let p = and_parts _ _ h in ap₂ (λ (x y : Bool). x || y) (formula_absent a p.0) (formula_absent b p.1)
formula_absent (Sub a b) h = let p = and_parts _ _ h in ap₂ (λ (x y : Bool). x || y) (formula_absent a p.0) (formula_absent b p.1)
formula_absent (Mul a b) h = let p = and_parts _ _ h in ap₂ (λ (x y : Bool). x || y) (formula_absent a p.0) (formula_absent b p.1)
formula_absent (Eq a b) h = let p = and_parts _ _ h in ap₂ (λ (x y : Bool). x || y) (formula_absent a p.0) (formula_absent b p.1)
formula_absent (NotEq a b) h = let p = and_parts _ _ h in ap₂ (λ (x y : Bool). x || y) (formula_absent a p.0) (formula_absent b p.1)
formula_absent (Lt a b) h = let p = and_parts _ _ h in ap₂ (λ (x y : Bool). x || y) (formula_absent a p.0) (formula_absent b p.1)
formula_absent (LtEq a b) h = let p = and_parts _ _ h in ap₂ (λ (x y : Bool). x || y) (formula_absent a p.0) (formula_absent b p.1)
formula_absent (Gt a b) h = let p = and_parts _ _ h in ap₂ (λ (x y : Bool). x || y) (formula_absent a p.0) (formula_absent b p.1)
formula_absent (GtEq a b) h = let p = and_parts _ _ h in ap₂ (λ (x y : Bool). x || y) (formula_absent a p.0) (formula_absent b p.1)
formula_absent (And a b) h = let p = and_parts _ _ h in ap₂ (λ (x y : Bool). x || y) (formula_absent a p.0) (formula_absent b p.1)
formula_absent (Or a b) h = let p = and_parts _ _ h in ap₂ (λ (x y : Bool). x || y) (formula_absent a p.0) (formula_absent b p.1)
formula_absent (Not f) h = formula_absent f h
formula_absent (IsNull f) h = formula_absent f h
formula_absent (IsNotNull f) h = formula_absent f h

each_absent : {A : Type 0} (known has : A → Bool) → ((x : A) → known x ≡ true → has x ≡ false) → (xs : List A) → list_all known xs ≡ true → list_any has xs ≡ false
each_absent known has one [] h = refl
each_absent known has one (x ∷ xs) h = let p = and_parts _ _ h in ap₂ (λ (a b : Bool). a || b) (one x p.0) (each_absent known has one xs p.1)

named_absent : (e : NamedFormula) → named_known 1 e ≡ true → named_has_int128 e ≡ false
named_absent e h = formula_absent e.formula h

node_absent : (n : Node) → node_known 1 n ≡ true → node_has_int128 n ≡ false
node_absent (node.DataFrameScan frame columns) h = refl
node_absent (node.Filter input e) h = formula_absent e h
node_absent (node.SimpleProjection input cs) h = refl
node_absent (node.Select input es) h = each_absent (named_known 1) named_has_int128 named_absent es h
node_absent (node.HStack input es) h = each_absent (named_known 1) named_has_int128 named_absent es h
node_absent (node.MapFunction input f) h = refl
node_absent (node.Union inputs) h = refl
node_absent (node.Join left right left_on right_on o) h =
    let p = and_parts _ _ h in
    ap₂ (λ (a b : Bool). a || b) (each_absent (formula_known 1) has_int128 formula_absent left_on p.0) (each_absent (formula_known 1) has_int128 formula_absent right_on p.1)
node_absent (node.Sort input by o) h = refl

left_false : (a b : Bool) → (a || b) ≡ false → a ≡ false
left_false true b h = cc
left_false false b h = refl

-- ---- jobs

knows_again : (job other : Task) → KnowsTypes job.version job.plan → other.version ≡ job.version → other.plan.frames ≡ job.plan.frames → task_known other ≡ true → KnowsTypes other.version other.plan
knows_again job other knows version frames known one =
    let given = left_false (list_any table_has_int128 job.plan.frames) (list_any node_has_int128 job.plan.nodes) (knows (sym version ∙ one)) in
    ap₂ (λ (a b : Bool). a || b) (ap (list_any table_has_int128) frames ∙ given)
    (each_absent (node_known 1) node_has_int128 node_absent other.plan.nodes (ap (λ (v : ℕ). list_all (node_known v) other.plan.nodes) (sym one) ∙ known))

pub fits_with_other_nodes : (job other : Task) → TaskFits job → other.version ≡ job.version → other.config ≡ job.config → other.plan.frames ≡ job.plan.frames
    → TaskInRange other → task_known other ≡ true → TaskFits other
fits_with_other_nodes job other fits version config frames ranges known = record {
  parts = record {
    version = subst VersionFits (sym version) fits.parts.version;
    workers = ranges.workers;
    chunk_rows = ranges.chunk_rows;
    row_limit = ranges.row_limit;
    root = ranges.root;
    frames = subst (AllByRecursion FrameFits) (sym frames) fits.parts.frames;
    nodes = each_fits (node_known other.version) NodeInRange NodeFits (node_fits other.version) other.plan.nodes known ranges.nodes;
  };
  types = knows_again job other fits.types version frames known;
}
