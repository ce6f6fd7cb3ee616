-- How far conjuncts reach into a schema: the last of its fields that they read.
use Rattle.std.specs.Prelude.{◌≡◌, ◌<◌, ◌≤◌, ℕ, List, [], ◌∷◌, ◌++◌, Bool, true, false, not, ltb, max, Option, Some, None, map, filter, take, length}
use Rattle.std.specs.List.{AllByRecursion}
use Rattle.pipe_schema.specs.Schema.{has_name, names_of, place_of}
use Rattle.pipe_schema.specs.declared.field.Field.{Field}
use Rattle.pipe_expr.specs.Formula.{Formula, formula_of}
use Rattle.pipe_expr.specs.declared.join_words.JoinType.{JoinType}
use Rattle.pipe_expr.specs.declared.join_words.JoinType.TheVariants as how
use Rattle.pipe_plan.specs.Node.{Node}
use Rattle.pipe_plan.specs.Node as node
use Rattle.pipe_rules.specs.Placing.{reads_only}
use Rattle.pipe_rules.specs.declared.batch.Reaching.{Reaching}
use Rattle.pipe_rules.specs.declared.batch.Chunk.{Chunk}
use Rattle.pipe_rules.specs.declared.batch.Batch.{Batch}
use Rattle.pipe_rules.specs.declared.batch.Batch.TheVariants as batch

abbrev pub place_or : ℕ → Option ℕ → ℕ
place_or n None = n
place_or n (Some place) = place

-- the greatest place of some names, 0 where there is none; the number of fields where one isn't there
abbrev pub reach_of : List Field → List (List ℕ) → ℕ
reach_of fields [] = 0
reach_of fields (name ∷ names) =
    max (place_or (length fields) (place_of name fields)) (reach_of fields names)

-- all that a formula reads stands among the first so many fields exactly where its reach is less
pub record HasReach (fields : List Field) (f : Formula) (reach : ℕ) : Type 0 where
  pub tells : (n : ℕ) → 0 < n → n ≤ length fields
      → reads_only (has_name (names_of (take n fields))) f ≡ ltb reach n

-- ---- conjuncts with their reaches

abbrev pub formula_in : Reaching → Formula
formula_in one = formula_of one.conjunct

-- whether a conjunct reaches less far than so many fields, or not
abbrev pub is_near : ℕ → Reaching → Bool
is_near n one = ltb one.reach n

abbrev pub is_far : ℕ → Reaching → Bool
is_far n one = not (ltb one.reach n)

abbrev pub far_formulas : ℕ → List Reaching → List Formula
far_formulas n ones = map formula_in (filter (is_far n) ones)

abbrev pub furthest_from : ℕ → List Reaching → ℕ
furthest_from far [] = far
furthest_from far (one ∷ ones) = furthest_from (max far one.reach) ones

-- the furthest of some reaches
abbrev pub furthest_of : List Reaching → ℕ
furthest_of ones = furthest_from 0 ones

-- ---- chunks of them

abbrev pub chunk_of : List Reaching → Chunk
chunk_of ones = record { conjuncts = ones; reach = furthest_of ones }

abbrev pub formulas_in_chunk : Chunk → List Formula
formulas_in_chunk chunk = map formula_in chunk.conjuncts

abbrev pub formulas_in_chunks : List Chunk → List Formula
formulas_in_chunks [] = []
formulas_in_chunks (chunk ∷ chunks) = formulas_in_chunk chunk ++ formulas_in_chunks chunks

-- what of a chunk reaches less far than so many fields
abbrev pub near_in : ℕ → Chunk → Chunk
near_in n chunk = chunk_of (filter (is_near n) chunk.conjuncts)

-- what of some chunks doesn't
abbrev pub far_in : ℕ → List Chunk → List Formula
far_in n [] = []
far_in n (chunk ∷ chunks) = far_formulas n chunk.conjuncts ++ far_in n chunks

-- a chunk tells how far it reaches
abbrev pub IsChunk : Chunk → Type 0
IsChunk chunk = chunk.reach ≡ furthest_of chunk.conjuncts

abbrev pub IsOver : List Field → Reaching → Type 0
IsOver fields one = HasReach fields (formula_in one) one.reach

pub record IsChunkOver (fields : List Field) (chunk : Chunk) : Type 0 where
  pub told : IsChunk chunk
  pub each : AllByRecursion (IsOver fields) chunk.conjuncts

-- ---- conjuncts on their way down

abbrev pub formulas_in : Batch → List Formula
formulas_in (batch.Plain list) = map formula_of list
formulas_in (batch.Chunks chunks) = formulas_in_chunks chunks

-- reaches are those over a schema
abbrev pub AreOver : List Field → Batch → Type 0
AreOver fields (batch.Plain list) = Unit {0}
AreOver fields (batch.Chunks chunks) = AllByRecursion (IsChunkOver fields) chunks

-- chunks, and conjuncts behind them that are in no chunk yet, are some formulas
pub record AreChunked
    (fields : List Field) (all : List Formula) (chunks : List Chunk) (ones : List Reaching) : Type 0
  where
    pub same : formulas_in_chunks chunks ++ map formula_in ones ≡ all
    pub chunked : AllByRecursion (IsChunkOver fields) chunks
    pub each : AllByRecursion (IsOver fields) ones

-- ---- joins

-- whether conjuncts on left columns alone go onto the left input of a join
abbrev pub lets_left : JoinType → Bool
lets_left how.Inner = true
lets_left how.Left = true
lets_left how.Full = false
lets_left how.Cross = true
lets_left how.Semi = true
lets_left how.Anti = true

abbrev pub is_passed_left : Node → Bool
is_passed_left (node.DataFrameScan frame columns) = false
is_passed_left (node.Filter input predicate) = false
is_passed_left (node.SimpleProjection input columns) = false
is_passed_left (node.Select input exprs) = false
is_passed_left (node.HStack input exprs) = false
is_passed_left (node.MapFunction input function) = false
is_passed_left (node.Union inputs) = false
is_passed_left (node.Join left right left_on right_on options) = lets_left options.how
is_passed_left (node.Sort input by options) = false

-- the first of some fields are these
pub record BeginsWith (fields left : List Field) : Type 0 where
  pub within : length left ≤ length fields
  pub first : take (length left) fields ≡ left
