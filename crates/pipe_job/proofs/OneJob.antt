-- A value spells one job at most.
use Rattle.std.proofs.Common.{◌≡◌, ℕ, List, [], ◌∷◌, length, map, refl, ap, ap₂, sym, ◌∙◌, codes, arith, ℤ, pos, negsuc, Bool, true, true≢false, Option, Some, None}
use Rattle.std.specs.Prelude.{if◌then◌else◌, ⊤}
use Rattle.std.specs.List.{AllByRecursion}
use Rattle.std.specs.Str.{bytes_eq}
use Rattle.std.proofs.lemmas.List.{length-map}
use Rattle.serde_json.specs.Data.{Data, boolean, number, string}
use Rattle.serde_json.specs.Find.{of_integer, get}
use Rattle.serde_json.specs.View.{items_of}
use Rattle.pipe_schema.specs.declared.field.Field.{Field}
use Rattle.pipe_schema.specs.declared.any_value.AnyValue.{AnyValue}
use Rattle.pipe_schema.specs.declared.data_type.DataType.{DataType}
use Rattle.pipe_schema.specs.Rows.{Row}
use Rattle.pipe_column.specs.Series.{Cells}
use Rattle.pipe_schema.specs.Schema.{IsSchema}
use Rattle.pipe_column.specs.Columns.{height_of}
use Rattle.pipe_frame.specs.Frame.{Table, table_of, columns_of, columns_from, cell_of_row}
use Rattle.pipe_expr.specs.Formula.{Formula, NamedFormula}
use Rattle.pipe_expr.specs.declared.join_words.JoinType.{JoinType}
use Rattle.pipe_expr.specs.declared.join_words.JoinType.TheVariants as how
use Rattle.pipe_expr.specs.declared.join_words.JoinCoalesce.{JoinCoalesce}
use Rattle.pipe_expr.specs.declared.join_words.JoinCoalesce.TheVariants as coalesce
use Rattle.pipe_expr.specs.declared.join_words.RenamePair.{RenamePair}
use Rattle.pipe_expr.specs.declared.join_words.FunctionIR.{FunctionIR}
use Rattle.pipe_expr.specs.declared.join_words.FunctionIR.TheVariants as function
use Rattle.pipe_plan.specs.Node.{Node}
use Rattle.pipe_plan.specs.Node as node
use Rattle.pipe_plan.specs.Plan.{Plan}
use Rattle.pipe_plan.specs.declared.ir.JoinOptions.{JoinOptions}
use Rattle.pipe_plan.specs.declared.ir.SortOptions.{SortOptions}
use Rattle.pipe_plan.specs.declared.ir.RowsHint.{RowsHint}
use Rattle.pipe_plan.specs.declared.ir.PlanSlice.{PlanSlice}
use Rattle.pipe_plan.specs.declared.config.PipeConfig.{PipeConfig}
use Rattle.pipe_job.specs.Spelling.{maybe, list, whole, cell_spelling, FitsType}
use Rattle.pipe_job.specs.FormulaSpelling.{formula_spelling, FormulaFits, named_spelling, NamedFits}
use Rattle.pipe_job.specs.NodeSpelling.{how_spelling, coalesce_spelling, hint_spelling, pair_spelling, slice_spelling, function_spelling, node_spelling, NodeFits}
use Rattle.pipe_job.specs.FrameSpelling.{column_spelling, ColumnFits, frame_spelling, FrameFits}
use Rattle.pipe_job.specs.JobSpelling.{Task, task_spelling, PartsFit, Spells}
use Rattle.pipe_job.specs.Version.{plan_has_int128}
use Rattle.pipe_job.proofs.OneFormula.{one_type, one_cell, one_formula}

-- ---- lists and what may be missing

items_same : {A : Type 0} (spell : A → Data) (Fits : A → Type 0) → ((x y : A) → Fits x → Fits y → spell x ≡ spell y → x ≡ y)
    → (xs ys : List A) → AllByRecursion Fits xs → AllByRecursion Fits ys → items_of (map spell xs) ≡ items_of (map spell ys) → xs ≡ ys
items_same spell Fits one [] [] h k e = refl
items_same spell Fits one [] (_ ∷ _) h k e = cc
items_same spell Fits one (_ ∷ _) [] h k e = cc
items_same spell Fits one (x ∷ xs) (y ∷ ys) h k e =
    let first : spell x ≡ spell y = cc in
    let rest : items_of (map spell xs) ≡ items_of (map spell ys) = cc in
    ap₂ (λ z zs. z ∷ zs) (one x y h.0 k.0 first) (items_same spell Fits one xs ys h.1 k.1 rest)

list_same : {A : Type 0} (spell : A → Data) (Fits : A → Type 0) → ((x y : A) → Fits x → Fits y → spell x ≡ spell y → x ≡ y)
    → (xs ys : List A) → AllByRecursion Fits xs → AllByRecursion Fits ys → list spell xs ≡ list spell ys → xs ≡ ys
list_same spell Fits one xs ys h k e = items_same spell Fits one xs ys h k (cc)

free : {A : Type 0} (xs : List A) → AllByRecursion (λ _. ⊤) xs
free [] = tt
free (x ∷ xs) = (tt, free xs)

-- spellings that need no bound
one_list : {A : Type 0} (spell : A → Data) → ((x y : A) → spell x ≡ spell y → x ≡ y) → (xs ys : List A) → list spell xs ≡ list spell ys → xs ≡ ys
one_list spell one xs ys e = list_same spell (λ _. ⊤) (λ x y h k same. one x y same) xs ys (free xs) (free ys) e

one_string : (x y : List ℕ) → string x ≡ string y → x ≡ y
one_string x y e = cc

one_boolean : (x y : Bool) → boolean x ≡ boolean y → x ≡ y
one_boolean x y e = cc

one_whole : (x y : ℕ) → whole x ≡ whole y → x ≡ y
one_whole x y e = cc

pub one_texts : (xs ys : List (List ℕ)) → list string xs ≡ list string ys → xs ≡ ys
one_texts = one_list string one_string

one_truths : (xs ys : List Bool) → list boolean xs ≡ list boolean ys → xs ≡ ys
one_truths = one_list boolean one_boolean

one_numbers : (xs ys : List ℕ) → list whole xs ≡ list whole ys → xs ≡ ys
one_numbers = one_list whole one_whole

one_pair : (x y : RenamePair) → pair_spelling x ≡ pair_spelling y → x ≡ y
one_pair x y e =
    let old : x.existing ≡ y.existing = cc in
    let new : x.new_name ≡ y.new_name = cc in
    ap₂ (λ (a b : List ℕ). let p : RenamePair = record { existing = a; new_name = b } in p) old new

one_pairs : (xs ys : List RenamePair) → list pair_spelling xs ≡ list pair_spelling ys → xs ≡ ys
one_pairs = one_list pair_spelling one_pair

one_columns : (xs ys : Option (List (List ℕ))) → maybe (list string) xs ≡ maybe (list string) ys → xs ≡ ys
one_columns None None e = refl
one_columns None (Some _) e = cc
one_columns (Some _) None e = cc
one_columns (Some xs) (Some ys) e = ap Some (one_texts xs ys e)

one_known : (x y : Option ℕ) → maybe whole x ≡ maybe whole y → x ≡ y
one_known None None e = refl
one_known None (Some _) e = cc
one_known (Some _) None e = cc
one_known (Some x) (Some y) e = ap Some (one_whole x y e)

-- ---- the words of nodes

one_hint : (x y : RowsHint) → hint_spelling x ≡ hint_spelling y → x ≡ y
one_hint x y e =
    let known : x.known ≡ y.known = one_known x.known y.known (cc) in
    let estimate : x.estimate ≡ y.estimate = cc in
    ap₂ (λ (a : Option ℕ) (b : ℕ). let h : RowsHint = record { known = a; estimate = b } in h) known estimate

one_integer : (x y : ℤ) → number (of_integer x) ≡ number (of_integer y) → x ≡ y
one_integer (pos m) (pos n) e = cc
one_integer (negsuc m) (negsuc n) e = cc
one_integer (pos m) (negsuc n) e = cc
one_integer (negsuc m) (pos n) e = cc

one_slice : (x y : PlanSlice) → slice_spelling x ≡ slice_spelling y → x ≡ y
one_slice x y e =
    let offset : x.offset ≡ y.offset = one_integer x.offset y.offset (cc) in
    let len : x.len ≡ y.len = cc in
    ap₂ (λ (a : ℤ) (b : ℕ). let s : PlanSlice = record { offset = a; len = b } in s) offset len

one_maybe_slice : (x y : Option PlanSlice) → maybe slice_spelling x ≡ maybe slice_spelling y → x ≡ y
one_maybe_slice None None e = refl
one_maybe_slice None (Some _) e = cc
one_maybe_slice (Some _) None e = cc
one_maybe_slice (Some x) (Some y) e = ap Some (one_slice x y e)

abbrev how_at : Data → JoinType
how_at (string s) =
    if bytes_eq s (codes "inner") then how.Inner else if bytes_eq s (codes "left") then how.Left else if bytes_eq s (codes "full") then how.Full
    else if bytes_eq s (codes "cross") then how.Cross else if bytes_eq s (codes "semi") then how.Semi else how.Anti
how_at _ = how.Anti

how_back : (h : JoinType) → how_at (how_spelling h) ≡ h
how_back how.Inner = refl
how_back how.Left = refl
how_back how.Full = refl
how_back how.Cross = refl
how_back how.Semi = refl
how_back how.Anti = refl

one_how : (x y : JoinType) → how_spelling x ≡ how_spelling y → x ≡ y
one_how x y e = sym (how_back x) ∙ ap how_at e ∙ how_back y

abbrev coalesce_at : Data → JoinCoalesce
coalesce_at (string s) = if bytes_eq s (codes "JoinSpecific") then coalesce.JoinSpecific else if bytes_eq s (codes "CoalesceColumns") then coalesce.CoalesceColumns else coalesce.KeepColumns
coalesce_at _ = coalesce.KeepColumns

coalesce_back : (c : JoinCoalesce) → coalesce_at (coalesce_spelling c) ≡ c
coalesce_back coalesce.JoinSpecific = refl
coalesce_back coalesce.CoalesceColumns = refl
coalesce_back coalesce.KeepColumns = refl

one_coalesce : (x y : JoinCoalesce) → coalesce_spelling x ≡ coalesce_spelling y → x ≡ y
one_coalesce x y e = sym (coalesce_back x) ∙ ap coalesce_at e ∙ coalesce_back y

named_of : List ℕ → Formula → NamedFormula
named_of n f = record { name = n; formula = f }

named_back : (e : NamedFormula) → named_of e.name e.formula ≡ e
unfolding named_of
named_back e = refl

one_named : (x y : NamedFormula) → NamedFits x → NamedFits y → named_spelling x ≡ named_spelling y → x ≡ y
one_named x y h k e =
    let name : x.name ≡ y.name = cc in
    let spelled : formula_spelling x.formula ≡ formula_spelling y.formula = cc in
    sym (named_back x) ∙ ap₂ named_of name (one_formula x.formula y.formula h k spelled) ∙ named_back y

one_nameds : (xs ys : List NamedFormula) → AllByRecursion NamedFits xs → AllByRecursion NamedFits ys → list named_spelling xs ≡ list named_spelling ys → xs ≡ ys
one_nameds = list_same named_spelling NamedFits one_named

one_formulas : (xs ys : List Formula) → AllByRecursion FormulaFits xs → AllByRecursion FormulaFits ys → list formula_spelling xs ≡ list formula_spelling ys → xs ≡ ys
one_formulas = list_same formula_spelling FormulaFits one_formula

options_of : JoinType → Bool → JoinCoalesce → List ℕ → RowsHint → RowsHint → JoinOptions
options_of h n c s l r = record { how = h; join_nulls = n; coalesce = c; suffix = s; rows_left = l; rows_right = r }

options_back : (x : JoinOptions) → options_of x.how x.join_nulls x.coalesce x.suffix x.rows_left x.rows_right ≡ x
unfolding options_of
options_back x = refl

sort_options_of : List Bool → List Bool → Option PlanSlice → SortOptions
sort_options_of d n s = record { descending = d; nulls_last = n; slice = s }

sort_options_back : (x : SortOptions) → sort_options_of x.descending x.nulls_last x.slice ≡ x
unfolding sort_options_of
sort_options_back x = refl

one_options : (x y : JoinOptions) → coalesce_spelling x.coalesce ≡ coalesce_spelling y.coalesce → how_spelling x.how ≡ how_spelling y.how → x.join_nulls ≡ y.join_nulls
    → hint_spelling x.rows_left ≡ hint_spelling y.rows_left → hint_spelling x.rows_right ≡ hint_spelling y.rows_right → x.suffix ≡ y.suffix → x ≡ y
one_options x y c h n l r s =
    let same_coalesce = one_coalesce x.coalesce y.coalesce c in
    let same_how = one_how x.how y.how h in
    let same_left = one_hint x.rows_left y.rows_left l in
    let same_right = one_hint x.rows_right y.rows_right r in
    let same : options_of x.how x.join_nulls x.coalesce x.suffix x.rows_left x.rows_right ≡ options_of y.how y.join_nulls y.coalesce y.suffix y.rows_left y.rows_right = cc in
    sym (options_back x) ∙ same ∙ options_back y

-- ---- nodes

-- the word under "node"
abbrev word_of : Option Data → List ℕ
word_of (Some (string s)) = s
word_of _ = []

-- each kind has a number
abbrev kind_number : List ℕ → ℕ
kind_number s =
    if bytes_eq s (codes "DataFrameScan") then 0 else if bytes_eq s (codes "Filter") then 1 else if bytes_eq s (codes "SimpleProjection") then 2 else if bytes_eq s (codes "Select") then 3
    else if bytes_eq s (codes "HStack") then 4 else if bytes_eq s (codes "Unpivot") then 5 else if bytes_eq s (codes "Rename") then 6 else if bytes_eq s (codes "Union") then 7
    else if bytes_eq s (codes "Join") then 8 else 9

abbrev node_number : Data → ℕ
node_number d = kind_number (word_of (get (codes "node") d))

one_function : (m n : ℕ) (f g : FunctionIR) → function_spelling m f ≡ function_spelling n g → (m ≡ n) × (f ≡ g)
one_function m n (function.Unpivot on index variable value) (function.Unpivot on_other index_other variable_other value_other) e =
    let same_on = one_texts on on_other (cc) in
    let same_index = one_texts index index_other (cc) in
    (cc, cc)
one_function m n (function.Rename pairs) (function.Rename others) e = let same = one_pairs pairs others (cc) in (cc, cc)
one_function m n (function.Unpivot _ _ _ _) (function.Rename _) e = absurd (omega (arith, ap node_number e))
one_function m n (function.Rename _) (function.Unpivot _ _ _ _) e = absurd (omega (arith, ap node_number e))

one_node : (a b : Node) → NodeFits a → NodeFits b → node_spelling a ≡ node_spelling b → a ≡ b
one_node (node.DataFrameScan m cs) (node.DataFrameScan n ds) h k e = let same = one_columns cs ds (cc) in cc
one_node (node.Filter m p) (node.Filter n q) h k e = let same = one_formula p q h.1 k.1 (cc) in cc
one_node (node.SimpleProjection m cs) (node.SimpleProjection n ds) h k e = let same = one_texts cs ds (cc) in cc
one_node (node.Select m es) (node.Select n fs) h k e = let same = one_nameds es fs h.1 k.1 (cc) in cc
one_node (node.HStack m es) (node.HStack n fs) h k e = let same = one_nameds es fs h.1 k.1 (cc) in cc
one_node (node.MapFunction m f) (node.MapFunction n g) h k e = let same = one_function m n f g e in let input = same.0 in let function = same.1 in cc
one_node (node.Union ms) (node.Union ns) h k e = ap node.Union (one_numbers ms ns (cc))
one_node (node.Join a b es fs o) (node.Join c d gs hs p) h k e =
    let left = one_formulas es gs h.2 k.2 (cc) in
    let right = one_formulas fs hs h.3 k.3 (cc) in
    let options = one_options o p (cc) (cc) (cc) (cc) (cc) (cc) in
    cc
one_node (node.Sort m by o) (node.Sort n by_other p) h k e =
    let same_descending = one_truths o.descending p.descending (cc) in
    let same_nulls = one_truths o.nulls_last p.nulls_last (cc) in
    let same_slice = one_maybe_slice o.slice p.slice (cc) in
    let same : sort_options_of o.descending o.nulls_last o.slice ≡ sort_options_of p.descending p.nulls_last p.slice = cc in
    let keys = one_texts by by_other (cc) in
    let options = sym (sort_options_back o) ∙ same ∙ sort_options_back p in
    cc
one_node (node.MapFunction m (function.Unpivot _ _ _ _)) b h k e = absurd (omega (arith, ap node_number e))
one_node (node.MapFunction m (function.Rename _)) b h k e = absurd (omega (arith, ap node_number e))
one_node a (node.MapFunction n (function.Unpivot _ _ _ _)) h k e = absurd (omega (arith, ap node_number e))
one_node a (node.MapFunction n (function.Rename _)) h k e = absurd (omega (arith, ap node_number e))
one_node _ _ h k e = absurd (omega (arith, ap node_number e))

-- ---- frames

column_of : List ℕ → DataType → List AnyValue → Cells
column_of n t cs = record { name = n; dtype = t; cells = cs }

column_back : (c : Cells) → column_of c.name c.dtype c.cells ≡ c
unfolding column_of
column_back c = refl

one_column : (c d : Cells) → ColumnFits c → ColumnFits d → column_spelling c ≡ column_spelling d → c ≡ d
one_column c d h k e =
    let name : c.name ≡ d.name = cc in
    let dtype = one_type c.dtype d.dtype (cc) in
    let fits : AllByRecursion (FitsType d.dtype) c.cells = rw (← dtype) h in
    let cells : c.cells ≡ d.cells = list_same cell_spelling (FitsType d.dtype) (one_cell d.dtype) c.cells d.cells fits k (cc) in
    let same : column_of c.name c.dtype c.cells ≡ column_of d.name d.dtype d.cells = cc in
    sym (column_back c) ∙ same ∙ column_back d

height_back : (schema : List Field) (rows : List Row) → IsSchema schema → height_of (columns_from 0 schema rows) ≡ length rows
height_back [] rows h = cc
height_back (f ∷ fields) rows h = length-map rows (cell_of_row 0)

pub one_frame : (a b : Table) → FrameFits a → FrameFits b → frame_spelling a ≡ frame_spelling b → a ≡ b
one_frame a b h k e =
    let columns = list_same column_spelling ColumnFits one_column (columns_of a) (columns_of b) h.cells k.cells (cc) in
    let high = sym (height_back a.schema a.rows h.schema) ∙ ap height_of columns ∙ height_back b.schema b.rows k.schema in
    h.even ∙ ap₂ table_of columns high ∙ sym k.even

-- ---- jobs

config_of : ℕ → ℕ → ℕ → PipeConfig
config_of w c r = record { workers = w; chunk_rows = c; row_limit = r }

config_back : (c : PipeConfig) → config_of c.workers c.chunk_rows c.row_limit ≡ c
unfolding config_of
config_back c = refl

plan_from : List Node → List Table → Plan
plan_from nodes frames = record { nodes = nodes; frames = frames }

plan_back : (p : Plan) → plan_from p.nodes p.frames ≡ p
unfolding plan_from
plan_back p = refl

task_from : ℕ → PipeConfig → Plan → ℕ → Task
task_from version config plan root = record { version = version; config = config; plan = plan; root = root }

task_back : (t : Task) → task_from t.version t.config t.plan t.root ≡ t
unfolding task_from
task_back t = refl

pub one_task : (a b : Task) → PartsFit a → PartsFit b → task_spelling a ≡ task_spelling b → a ≡ b
one_task a b h k e =
    let version : a.version ≡ b.version = cc in
    let chunk_rows : a.config.chunk_rows ≡ b.config.chunk_rows = cc in
    let row_limit : a.config.row_limit ≡ b.config.row_limit = cc in
    let workers : a.config.workers ≡ b.config.workers = cc in
    let root : a.root ≡ b.root = cc in
    let frames : list frame_spelling a.plan.frames ≡ list frame_spelling b.plan.frames = cc in
    let nodes : list node_spelling a.plan.nodes ≡ list node_spelling b.plan.nodes = cc in
    let same_config : config_of a.config.workers a.config.chunk_rows a.config.row_limit ≡ config_of b.config.workers b.config.chunk_rows b.config.row_limit = cc in
    let config : a.config ≡ b.config = sym (config_back a.config) ∙ same_config ∙ config_back b.config in
    let same_frames = list_same frame_spelling FrameFits one_frame a.plan.frames b.plan.frames h.frames k.frames frames in
    let same_nodes = list_same node_spelling NodeFits one_node a.plan.nodes b.plan.nodes h.nodes k.nodes nodes in
    let plan : a.plan ≡ b.plan = sym (plan_back a.plan) ∙ ap₂ plan_from same_nodes same_frames ∙ plan_back b.plan in
    let same : task_from a.version a.config a.plan a.root ≡ task_from b.version b.config b.plan b.root = cc in
    sym (task_back a) ∙ same ∙ task_back b

pub one_job : (v : Data) (a b : Task) → Spells v a → Spells v b → a ≡ b
one_job v a b s t = one_task a b s.fits.parts t.fits.parts (sym s.spelled ∙ t.spelled)

-- where the types are not those of the version, the value spells no job
pub too_early : (v : Data) (t : Task) → v ≡ task_spelling t → PartsFit t → t.version ≡ 1 → plan_has_int128 t.plan ≡ true → (other : Task) → Spells v other → ⊥
too_early v t e h version has other s =
    let same : t ≡ other = one_task t other h s.fits.parts (sym e ∙ s.spelled) in
    let none = s.fits.types (sym (ap (λ (u : Task). u.version) same) ∙ version) in
    true≢false (sym has ∙ ap (λ (u : Task). plan_has_int128 u.plan) same ∙ none)
