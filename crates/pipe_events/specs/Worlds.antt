-- The world of a run and its events: when each may happen, and what it changes. One event at a
-- time, whoever does it.
use Rattle.std.specs.Prelude.{◌≡◌, ◌≢◌, ℕ, zero, suc, ◌+◌, ◌<◌, ◌≤◌, List, [], ◌∷◌, ◌++◌, map, filter, length, Bool, true, false, not, if◌then◌else◌, ◌==◌, ◌||◌, slice_index_or, Option, Some, None}
use Rattle.std.specs.List.{flat_map, list_any, range_with_len}
use Rattle.pipe_schema.specs.Rows.{Row, eq_row}
use Rattle.pipe_schema.specs.Weights.{total}
use Rattle.pipe_expr.specs.Joins.{Join}
use Rattle.pipe_expr.specs.Shares.{pad_built}
use Rattle.pipe_expr.specs.declared.join_words.JoinType.{JoinType}
use Rattle.pipe_expr.specs.declared.join_words.JoinType.TheVariants as how
use Rattle.pipe_events.specs.Stages.{Key, JoinStage, Stage, Stages, Scan, Each, Union, Sort, Joined, build_key, matches_built, marks, flushes, flow, reaches, only}

-- rows that a worker has on their way, from a node
pub record Load : Type 0 where
  pub worker : ℕ
  pub node : ℕ
  pub rows : List Row

-- a side and a sink are named by the node below them
pub record World : Type 0 where
  pub taken : ℕ → List ℕ  -- positions of a source
  pub pending : List Load
  pub flag : ℕ → Key → Bool  -- of a marking join and a key
  pub flushed : ℕ → List ℕ  -- partitions of a flushing join
  pub closed : ℕ → Bool  -- of a side
  pub bag : ℕ → List Row  -- of a sink

-- the side of a sort, and the two of a join
pub data Side : Type 0 where
  OfSort : Side
  OfBuild : Side
  OfProbe : Side

-- A worker takes so many positions of a source; marks a key that what it has on its way matches;
-- hands on what it has on its way; or does both, with all keys that it matches. A side is closed: no
-- row comes to it any more. A worker takes the built rows of a partition that no mark met
pub data Event : Type 0 where
  Take : (worker source from amount : ℕ) → Event
  Mark : (worker join : ℕ) → (key : Key) → Event
  Emit : (worker : ℕ) → Event
  Done : (worker : ℕ) → Event
  Close : (node : ℕ) → (side : Side) → Event
  Flush : (worker join part : ℕ) → Event

abbrev pub start : World
start = record {
  taken = λ n. [];
  pending = [];
  flag = λ k key. false;
  flushed = λ n. [];
  closed = λ t. false;
  bag = λ t. [];
}

-- how often a number stands in a list
abbrev pub count : ℕ → List ℕ → ℕ
count p qs = total (λ q. if q == p then 1 else 0) qs

-- a function with one value changed
abbrev pub put : {X : Type 0} → (ℕ → X) → ℕ → X → ℕ → X
put f k v n = if n == k then v else f n

-- what holds at the join of a node
abbrev pub at_join : {X : Type 0} → X → (JoinStage → X) → Stage → X
at_join none f (Scan rows) = none
at_join none f (Each input op) = none
at_join none f (Union inputs) = none
at_join none f (Sort input sorted) = none
at_join none f (Joined j) = f j

abbrev pub is_of : ℕ → Load → Bool
is_of worker load = load.worker == worker

-- what a worker has on its way, and what the others have
abbrev pub mine : ℕ → List Load → List Load
mine worker loads = filter (is_of worker) loads

abbrev pub others : ℕ → List Load → List Load
others worker loads = filter (λ load. not (is_of worker load)) loads

-- ---- sources

-- the rows of a source
abbrev pub source_rows : (bag : ℕ → List Row) → Stage → List Row
source_rows bag (Scan rows) = rows
source_rows bag (Each input op) = []
source_rows bag (Union inputs) = []
source_rows bag (Sort input sorted) = sorted (bag input)
source_rows bag (Joined j) = []

-- a source that has positions: a scan, or a closed sort
abbrev pub IsReady : (closed : ℕ → Bool) → Stage → Type 0
IsReady closed (Scan rows) = Unit {0}
IsReady closed (Each input op) = ⊥
IsReady closed (Union inputs) = ⊥
IsReady closed (Sort input sorted) = closed input ≡ true
IsReady closed (Joined j) = ⊥

abbrev pub picked : List Row → List ℕ → List Row
picked rows positions = map (λ p. slice_index_or rows p []) positions

-- ---- marks and flushes

-- the built rows of a partition whose key isn't flagged
abbrev pub unflagged_rows : (part : Key → ℕ) → (flag : Key → Bool) → (bag : ℕ → List Row) → ℕ →
    JoinStage → List Row
unflagged_rows part flag bag p j =
    filter (λ r. if part (build_key j r) == p then not (flag (build_key j r)) else false)
    (bag j.build)

-- the built rows of the keys that are marked now and weren't flagged
abbrev pub newly_marked : (flag keys : Key → Bool) → (bag : ℕ → List Row) → JoinStage → List Row
newly_marked flag keys bag j =
    filter (λ r. if keys (build_key j r) then not (flag (build_key j r)) else false) (bag j.build)

-- what a flush makes of the unflagged rows: padded ones in a full join, the rows themselves in an
-- anti join whose left side is built
abbrev pub flushed_by : JoinType → Join → (right_built : Bool) → (unflagged : List Row) → List Row
flushed_by how.Inner j right_built unflagged = []
flushed_by how.Left j right_built unflagged = []
flushed_by how.Full j right_built unflagged = map (pad_built j right_built) unflagged
flushed_by how.Cross j right_built unflagged = []
flushed_by how.Semi j right_built unflagged = []
flushed_by how.Anti j true unflagged = []
flushed_by how.Anti j false unflagged = unflagged

abbrev pub unmatched : (part : Key → ℕ) → (flag : Key → Bool) → (bag : ℕ → List Row) → ℕ →
    JoinStage → List Row
unmatched part flag bag p j =
    flushed_by j.join.how j.join j.right_built (unflagged_rows part flag bag p j)

-- what first marks give: the rows of their keys, at a semi join whose left side is built
abbrev pub given_by : JoinType → (right_built : Bool) → (marked : List Row) → List Row
given_by how.Inner right_built marked = []
given_by how.Left right_built marked = []
given_by how.Full right_built marked = []
given_by how.Cross right_built marked = []
given_by how.Semi true marked = []
given_by how.Semi false marked = marked
given_by how.Anti right_built marked = []

abbrev pub given : (flag keys : Key → Bool) → (bag : ℕ → List Row) → JoinStage → List Row
given flag keys bag j = given_by j.join.how j.right_built (newly_marked flag keys bag j)

abbrev pub load_of : ℕ → ℕ → List Row → Load
load_of worker node rows = record { worker = worker; node = node; rows = rows }

-- one more load, where it has rows
abbrev pub with_load : ℕ → ℕ → List Row → List Load → List Load
with_load worker node [] loads = loads
with_load worker node (r ∷ rs) loads = load_of worker node (r ∷ rs) ∷ loads

-- the node below a closable side: of a sort, of each join's build side, and of a flushing join's
-- probe side
abbrev pub sort_side : ℕ → Side → Option ℕ
sort_side input OfSort = Some input
sort_side input OfBuild = None
sort_side input OfProbe = None

abbrev pub join_side : JoinStage → Side → Option ℕ
join_side j OfSort = None
join_side j OfBuild = Some j.build
join_side j OfProbe = if flushes j then Some j.probe else None

abbrev pub side_below : Stage → Side → Option ℕ
side_below (Scan rows) side = None
side_below (Each input op) side = None
side_below (Union inputs) side = None
side_below (Sort input sorted) side = sort_side input side
side_below (Joined j) side = join_side j side

-- the side above a node is closed
abbrev pub closed_above : Option ℕ → World → World
closed_above None w = w
closed_above (Some t) w = record {
  taken = w.taken;
  pending = w.pending;
  flag = w.flag;
  flushed = w.flushed;
  bag = w.bag;
  closed = put w.closed t true;
}

-- whether node t has the sink of this stage: a sort's input, or a join's build side
abbrev pub ends : Stage → ℕ → Bool
ends (Scan rows) t = false
ends (Each input op) t = false
ends (Union inputs) t = false
ends (Sort input sorted) t = input == t
ends (Joined j) t = j.build == t

module _ (plan : Stages) where
  abbrev pub is_sink : ℕ → Bool
  is_sink t = (plan.root == t) || list_any (λ n. ends (plan.stage n) t) (range_with_len 0 plan.size)

  -- what loads bring to a node
  abbrev pub carried : (built : ℕ → List Row) → List Load → ℕ → List Row
  carried built loads t = flat_map (λ load. flow plan built (only load.node load.rows) t) loads

  -- each join on the chain of a node has its build side closed
  abbrev pub ChainBuilt : (closed : ℕ → Bool) → ℕ → Type 0
  ChainBuilt closed n =
      (k : ℕ) (j : JoinStage) → k < plan.size → plan.stage k ≡ Joined j →
      reaches plan n j.probe ≡ true → closed j.build ≡ true

  -- a source has all positions taken, a flushing join all partitions flushed
  abbrev pub IsSpent : World → ℕ → Stage → Type 0
  IsSpent w n (Scan rows) = (p : ℕ) → p < length rows → 1 ≤ count p (w.taken n)
  IsSpent w n (Each input op) = Unit {0}
  IsSpent w n (Union inputs) = Unit {0}
  IsSpent w n (Sort input sorted) =
      (w.closed input ≡ true)
      × ((p : ℕ) → p < length (sorted (w.bag input)) → 1 ≤ count p (w.taken n))
  IsSpent w n (Joined j) = flushes j ≡ true → (p : ℕ) → p < plan.parts → 1 ≤ count p (w.flushed n)

  -- whether what a worker has on its way matches a built row
  abbrev pub is_brought : ℕ → World → JoinStage → Row → Bool
  is_brought worker w j r =
      list_any (matches_built j r) (carried w.bag (mine worker w.pending) j.probe)

  -- whether it matches a built row with the key
  abbrev pub seen : ℕ → World → JoinStage → Key → Bool
  seen worker w j key =
      list_any (λ r. if eq_row (build_key j r) key then is_brought worker w j r else false)
      (w.bag j.build)

  -- whether some built row is met by what a worker has on its way, and its key isn't flagged
  abbrev pub owes_mark : ℕ → World → ℕ → JoinStage → Bool
  owes_mark worker w k j =
      list_any (λ r. if is_brought worker w j r then not (w.flag k (build_key j r)) else false)
      (w.bag j.build)

  -- keys marked at a join: each is flagged, and what the new ones give is on its way
  abbrev pub mark_keys : ℕ → ℕ → JoinStage → (Key → Bool) → World → World
  mark_keys worker k j keys w = record {
    taken = w.taken;
    flushed = w.flushed;
    closed = w.closed;
    bag = w.bag;
    pending = with_load worker k (given (w.flag k) keys w.bag j) w.pending;
    flag = put w.flag k (λ key. keys key || w.flag k key);
  }

  -- all keys that what is on its way matches, at each marking join from below
  abbrev pub mark_seen : ℕ → ℕ → World → Stage → World
  mark_seen worker k w (Scan rows) = w
  mark_seen worker k w (Each input op) = w
  mark_seen worker k w (Union inputs) = w
  mark_seen worker k w (Sort input sorted) = w
  mark_seen worker k w (Joined j) = if marks j then mark_keys worker k j (seen worker w j) w else w

  abbrev pub mark_below : ℕ → ℕ → World → World
  mark_below worker zero w = w
  mark_below worker (suc k) w = mark_seen worker k (mark_below worker k w) (plan.stage k)

  abbrev pub emitted : ℕ → World → World
  emitted worker w = record {
    taken = w.taken;
    flag = w.flag;
    flushed = w.flushed;
    closed = w.closed;
    pending = others worker w.pending;
    bag = λ t. if is_sink t then w.bag t ++ carried w.bag (mine worker w.pending) t else w.bag t;
  }

  -- ---- when an event is allowed

  pub record MayTake (w : World) (worker source from amount : ℕ) : Type 0 where
    pub is_worker : worker < plan.workers
    pub idle : mine worker w.pending ≡ []
    pub inside : source < plan.size
    pub some : 1 ≤ amount
    pub is_ready : IsReady w.closed (plan.stage source)
    pub there : from + amount ≤ length (source_rows w.bag (plan.stage source))
    pub fresh : (p : ℕ) → from ≤ p → p < from + amount → count p (w.taken source) ≡ 0
    pub built : ChainBuilt w.closed source

  pub record MayMark (w : World) (worker k : ℕ) (key : Key) : Type 0 where
    pub is_worker : worker < plan.workers
    pub inside : k < plan.size
    pub join : JoinStage
    pub is_join : plan.stage k ≡ Joined join
    pub marking : marks join ≡ true
    pub matched : seen worker w join key ≡ true

  pub record MayEmit (w : World) (worker : ℕ) : Type 0 where
    pub is_worker : worker < plan.workers
    pub busy : mine worker w.pending ≢ []
    pub marked : (k : ℕ) (j : JoinStage) → k < plan.size → plan.stage k ≡ Joined j →
        marks j ≡ true → owes_mark worker w k j ≡ false

  pub record MayDo (w : World) (worker : ℕ) : Type 0 where
    pub is_worker : worker < plan.workers
    pub busy : mine worker w.pending ≢ []

  -- t is the node below the side
  pub record MayClose (w : World) (n : ℕ) (side : Side) (t : ℕ) : Type 0 where
    pub inside : n < plan.size
    pub is_side : side_below (plan.stage n) side ≡ Some t
    pub still_open : w.closed t ≡ false
    pub spent : (m : ℕ) → m < plan.size → reaches plan m t ≡ true → IsSpent w m (plan.stage m)
    pub idle : list_any (λ load. reaches plan load.node t) w.pending ≡ false
    pub built : (k : ℕ) (j : JoinStage) → k < plan.size → plan.stage k ≡ Joined j → j.probe ≡ t →
        w.closed j.build ≡ true

  pub record MayFlush (w : World) (worker k p : ℕ) : Type 0 where
    pub is_worker : worker < plan.workers
    pub idle : mine worker w.pending ≡ []
    pub inside : k < plan.size
    pub join : JoinStage
    pub is_join : plan.stage k ≡ Joined join
    pub flushing : flushes join ≡ true
    pub probed : w.closed join.probe ≡ true
    pub part : p < plan.parts
    pub fresh : count p (w.flushed k) ≡ 0
    pub built : ChainBuilt w.closed k

  abbrev pub Allowed : World → Event → Type 0
  Allowed w (Take worker source from amount) = MayTake w worker source from amount
  Allowed w (Mark worker k key) = MayMark w worker k key
  Allowed w (Emit worker) = MayEmit w worker
  Allowed w (Done worker) = MayDo w worker
  Allowed w (Close n side) = (t : ℕ) × MayClose w n side t
  Allowed w (Flush worker k p) = MayFlush w worker k p

  -- ---- what an event changes

  -- the rows at the positions taken
  abbrev pub taken_rows : World → (source from amount : ℕ) → List Row
  taken_rows w source from amount =
      picked (source_rows w.bag (plan.stage source)) (range_with_len from amount)

  -- what the flush of a partition gives
  abbrev pub flushed_rows_of : World → (k p : ℕ) → List Row
  flushed_rows_of w k p =
      at_join [] (λ j. unmatched plan.part (w.flag k) w.bag p j) (plan.stage k)

  abbrev pub after : World → Event → World
  after w (Take worker source from amount) = record {
    taken = put w.taken source (w.taken source ++ range_with_len from amount);
    pending = load_of worker source (taken_rows w source from amount) ∷ w.pending;
    flag = w.flag;
    flushed = w.flushed;
    closed = w.closed;
    bag = w.bag;
  }
  after w (Mark worker k key) =
      at_join w (λ j. mark_keys worker k j (λ other. eq_row other key) w) (plan.stage k)
  after w (Emit worker) = emitted worker w
  after w (Done worker) = emitted worker (mark_below worker plan.size w)
  after w (Close n side) = closed_above (side_below (plan.stage n) side) w
  after w (Flush worker k p) = record {
    taken = w.taken;
    flag = w.flag;
    closed = w.closed;
    bag = w.bag;
    flushed = put w.flushed k (p ∷ w.flushed k);
    pending = load_of worker k (flushed_rows_of w k p) ∷ w.pending;
  }
