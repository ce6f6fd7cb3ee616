-- Lists of events worked out by hand: what the definitions say of them.
use Rattle.std.proofs.Common.{◌≡◌, ℕ, true, false, cond, eqb, List, [], ◌∷◌, refl}
use Rattle.std.specs.Prelude.{pos}
use Rattle.pipe_schema.specs.Rows.{Row}
use Rattle.pipe_schema.specs.declared.any_value.AnyValue.{AnyValue}
use Rattle.pipe_schema.specs.declared.any_value.AnyValue.TheVariants as cell
use Rattle.pipe_schema.specs.declared.data_type.DataType.TheVariants as dtype
use Rattle.pipe_schema.specs.declared.field.Field.{Field}
use Rattle.pipe_expr.specs.Formula.{Column}
use Rattle.pipe_expr.specs.Joins.{Join}
use Rattle.pipe_expr.specs.declared.join_words.JoinType.{JoinType}
use Rattle.pipe_expr.specs.declared.join_words.JoinType.TheVariants as how
use Rattle.pipe_events.specs.Stages.{Stage, Stages, Scan, Union, Joined}
use Rattle.pipe_events.specs.Worlds.{Event, Take, Mark, Emit, Close, Flush, OfBuild, OfProbe, start}
use Rattle.pipe_events.specs.Schedules.{run}
use Rattle.pipe_events.specs.Decided.{all_allowed, is_complete}

number : ℕ → AnyValue
number n = cell.Int64 (pos n)

key_field : Field
key_field = record { name = 107 ∷ []; dtype = dtype.Int64 }

on_key : JoinType → Join
on_key kind = record {
  how = kind;
  join_nulls = false;
  coalesced = false;
  suffix = [];
  left = key_field ∷ [];
  right = key_field ∷ [];
  left_on = Column (107 ∷ []) ∷ [];
  right_on = Column (107 ∷ []) ∷ [];
}

one : Row
one = number 1 ∷ []

two : Row
two = number 2 ∷ []

three_nodes : Stage → Stage → Stage → ℕ → Stage
three_nodes a b c k = cond (eqb k 0) a (cond (eqb k 1) b (cond (eqb k 2) c (Union [])))

of_three : Stage → Stage → Stage → Stages
of_three a b c = record { size = 3; stage = three_nodes a b c; root = 2; workers = 1; parts = 1; part = λ key. 0 }

-- ---- a full join of 1 with 1, 2, whose right side is built

full : Stages
full = of_three (Scan (one ∷ [])) (Scan (one ∷ two ∷ [])) (Joined (record { join = on_key how.Full; right_built = true; probe = 0; build = 1 }))

full_list : List Event
full_list =
    Take 0 1 0 2 ∷ Emit 0 ∷ Close 2 OfBuild ∷ Take 0 0 0 1 ∷ Mark 0 2 one ∷ Emit 0
    ∷ Close 2 OfProbe ∷ Flush 0 2 0 ∷ Emit 0 ∷ []

full_allowed : all_allowed full start full_list ≡ true
unfolding full full_list of_three three_nodes on_key key_field one two number
full_allowed = refl

full_complete : is_complete full (run full start full_list) ≡ true
unfolding full full_list of_three three_nodes on_key key_field one two number
full_complete = refl

full_bag : (run full start full_list).bag 2 ≡ (number 1 ∷ number 1 ∷ []) ∷ (cell.Null ∷ number 2 ∷ []) ∷ []
unfolding full full_list of_three three_nodes on_key key_field one two number
full_bag = refl

-- the flush before the probe side is closed
full_early : List Event
full_early = Take 0 1 0 2 ∷ Emit 0 ∷ Close 2 OfBuild ∷ Take 0 0 0 1 ∷ Mark 0 2 one ∷ Emit 0 ∷ Flush 0 2 0 ∷ []

full_refused : all_allowed full start full_early ≡ false
unfolding full full_early of_three three_nodes on_key key_field one two number
full_refused = refl

-- ---- a semi join of 1, 2 with 2, 2, whose left side is built

semi : Stages
semi = of_three (Scan (one ∷ two ∷ [])) (Scan (two ∷ two ∷ [])) (Joined (record { join = on_key how.Semi; right_built = false; probe = 1; build = 0 }))

semi_list : List Event
semi_list = Take 0 0 0 2 ∷ Emit 0 ∷ Close 2 OfBuild ∷ Take 0 1 0 2 ∷ Mark 0 2 two ∷ Emit 0 ∷ []

semi_allowed : all_allowed semi start semi_list ≡ true
unfolding semi semi_list of_three three_nodes on_key key_field one two number
semi_allowed = refl

semi_complete : is_complete semi (run semi start semi_list) ≡ true
unfolding semi semi_list of_three three_nodes on_key key_field one two number
semi_complete = refl

semi_bag : (run semi start semi_list).bag 2 ≡ two ∷ []
unfolding semi semi_list of_three three_nodes on_key key_field one two number
semi_bag = refl

-- without the mark, and with the mark twice
semi_unmarked : List Event
semi_unmarked = Take 0 0 0 2 ∷ Emit 0 ∷ Close 2 OfBuild ∷ Take 0 1 0 2 ∷ Emit 0 ∷ []

semi_refused : all_allowed semi start semi_unmarked ≡ false
unfolding semi semi_unmarked of_three three_nodes on_key key_field one two number
semi_refused = refl

semi_twice : List Event
semi_twice = Take 0 0 0 2 ∷ Emit 0 ∷ Close 2 OfBuild ∷ Take 0 1 0 2 ∷ Mark 0 2 two ∷ Mark 0 2 two ∷ Emit 0 ∷ []

semi_twice_bag : (run semi start semi_twice).bag 2 ≡ two ∷ []
unfolding semi semi_twice of_three three_nodes on_key key_field one two number
semi_twice_bag = refl

semi_twice_allowed : all_allowed semi start semi_twice ≡ true
unfolding semi semi_twice of_three three_nodes on_key key_field one two number
semi_twice_allowed = refl
