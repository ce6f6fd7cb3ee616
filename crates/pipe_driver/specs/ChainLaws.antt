-- The laws of rows that go along chains of operators, and of joins over rows in another order.
use Rattle.std.specs.Prelude.{◌≡◌, ℕ, List, [], ◌∷◌, Bool, length}
use Rattle.pipe_schema.specs.Rows.{Row}
use Rattle.pipe_schema.proofs.Weights.{SameBag}
use Rattle.pipe_expr.specs.Joins.{Join}
use Rattle.pipe_expr.specs.Shares.{share_by, own_by}
use Rattle.pipe_expr.specs.declared.join_words.JoinType.{JoinType}
use Rattle.pipe_chain.specs.Counts.{counts_of}
use Rattle.pipe_chain.specs.Flow.{Work, Acts, Flows}
use Rattle.pipe_driver.specs.Meaning.{Meaning, OutOf, Into}
use Rattle.pipe_driver.specs.Ways.{occurs, IsSoundMeaning}
use Rattle.pipe_driver.specs.Along.{AllMakeOf, more_of, come_to, AllMarked, counted_at}

-- rows of node n that flowed through the operators of its chain
pub record Arrived (m : Meaning) (n s : ℕ) (ops : List ℕ) (ws : List Work) (acts : List Acts)
    (rows out : List Row) : Type 0 where
  -- what went out came into the sink, and nothing into another
  pub sink : SameBag out (come_to m n rows (more_of ops ws acts) (Into s))
  pub elsewhere : (t : ℕ) → (s ≡ t → ⊥) →
      SameBag [] (come_to m n rows (more_of ops ws acts) (Into t))
  -- nothing came out of a node that isn't on the way
  pub apart : (t : ℕ) → (n ≡ t → ⊥) → occurs t ops ≡ 0 →
      SameBag [] (come_to m n rows (more_of ops ws acts) (OutOf t))
  pub marked : AllMarked (come_to m n rows (more_of ops ws acts)) n ops ws acts
  -- what was counted of a node came out of it
  pub counted : (t : ℕ) → counted_at t (n ∷ ops) (counts_of ws acts rows)
      ≡ length (come_to m n rows (more_of ops ws acts) (OutOf t))

abbrev pub RowsArrive : Type 0
RowsArrive =
    (m : Meaning) (n s : ℕ) (ops : List ℕ) (ws : List Work) (acts : List Acts) (rows out : List Row)
    → IsSoundMeaning m → m.above n ≡ ops → m.above_sink n ≡ s → AllMakeOf m ops ws
    → Flows ws acts rows out → Arrived m n s ops ws acts rows out

-- what a probed row gives over built rows doesn't depend on their order
abbrev pub SharesHeedNoOrder : Type 0
SharesHeedNoOrder =
    (kind : JoinType) (right_built : Bool) (j : Join) (a b : List Row) → SameBag a b → (p : Row)
    → SameBag (share_by kind j right_built a p) (share_by kind j right_built b p)

-- nor does what the built side has of its own, on the order of either side
abbrev pub OwnRowsHeedNoOrder : Type 0
OwnRowsHeedNoOrder =
    (kind : JoinType) (right_built : Bool) (j : Join) (p q a b : List Row) → SameBag p q
    → SameBag a b → SameBag (own_by kind j right_built p a) (own_by kind j right_built q b)
