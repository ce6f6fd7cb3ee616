-- The full join of two tables by their keys (SQL), whose rows a run may have too many of.
--
-- A worked case: left keys 1, 1 and 2, right keys 1 and 3. The full join has 4 rows: the two pairs of the key 1, the
-- left row of the key 2, and the right row of the key 3.
use Rattle.std.specs.Prelude.{ℕ, zero, suc, ◌<◌, ◌≤◌, List, [], codes, false, length, map}
use Rattle.pipe_frame.specs.Frame.{Table}
use Rattle.pipe_schema.specs.Rows.{Row}
use Rattle.pipe_expr.specs.Formula.{Column}
use Rattle.pipe_expr.specs.Joins.{Join, join_rows}
use Rattle.pipe_expr.specs.declared.join_words.JoinType.TheVariants as how
use Rattle.pipe_recon.specs.declared.recon_spec.ReconSpec.{ReconSpec}

-- the join on the columns of the key
abbrev pub full_join : Table → Table → ReconSpec → Join
full_join left right spec = record {
  how = how.Full;
  join_nulls = spec.join_nulls;
  coalesced = false;
  suffix = codes "_right";
  left = left.schema;
  right = right.schema;
  left_on = map Column spec.on;
  right_on = map Column spec.on;
}

-- its rows
abbrev pub full_rows : Table → Table → ReconSpec → List Row
full_rows left right spec = join_rows (full_join left right spec) left.rows right.rows

-- how many rows there are at a number: 0 is the left table, 1 the right one, 2 their full join
abbrev pub height_at : Table → Table → ReconSpec → ℕ → ℕ
height_at left right spec zero = length left.rows
height_at left right spec (suc zero) = length right.rows
height_at left right spec (suc (suc zero)) = length (full_rows left right spec)
height_at left right spec (suc (suc (suc n))) = 0

-- neither table has more rows than the limit, nor has their full join
pub record IsWithin (limit : ℕ) (left right : Table) (spec : ReconSpec) : Type 0 where
  pub left_rows : length left.rows ≤ limit
  pub right_rows : length right.rows ≤ limit
  pub join_rows : length (full_rows left right spec) ≤ limit

-- a table, or the full join, has more rows than the limit
abbrev pub HasTooMany : ℕ → Table → Table → ReconSpec → ℕ → Type 0
HasTooMany limit left right spec n = limit < height_at left right spec n
