-- What every event keeps, in the plan's own terms.
use Rattle.std.proofs.Common.{◌≡◌, ℕ, ◌<◌, ◌≤◌, Bool, true, false, cond, eqb, length, List, [], ◌∷◌, ◌++◌, map, refl, ap, arith}
use Rattle.std.specs.Prelude.{filter, not}
use Rattle.std.specs.List.{list_any}
use Rattle.pipe_schema.specs.Rows.{Row}
use Rattle.pipe_schema.proofs.Weights.{SameBag, WithinBag, SameBag-refl, SameBag-from_equal}
use Rattle.pipe_expr.specs.Joins.{Join, key_of, keys_match}
use Rattle.pipe_expr.specs.Shares.{pad_built, own_by, matched_built, unmatched_built}
use Rattle.pipe_expr.specs.declared.join_words.JoinType.{JoinType}
use Rattle.pipe_expr.specs.declared.join_words.JoinType.TheVariants as how
use Rattle.pipe_events.specs.Stages.{Key, JoinStage, Stage, Stages, Scan, Each, Union, Sort, Joined, rows, flow, reaches, own_rows, build_key, matches_built, marks, marks_by, flushes, flushes_by, is_built_by, IsBuiltRight}
use Rattle.pipe_events.specs.Worlds.{World, Load, count, picked, carried, is_sink, ChainBuilt}
use Rattle.pipe_events.proofs.Bags.{WithinBag-refl, WithinBag-nothing, WithinBag-map, WithinBag-tests}
use Rattle.pipe_events.proofs.Tests.{any-from_some, filter_flags, filter-alike}
use Rattle.pipe_events.proofs.Places.{AllBelow, picked_within, picked_all}

-- whether a partition stands in a list
abbrev pub stands : ℕ → List ℕ → Bool
stands p ps = list_any (λ q. eqb q p) ps

-- the key of a row of the probed side
abbrev pub probe_key : JoinStage → Row → Key
probe_key j row = cond j.right_built (key_of j.join.left j.join.left_on row) (key_of j.join.right j.join.right_on row)

-- whether a probed row matches the built rows with a key
abbrev pub hits : JoinStage → Key → Row → Bool
hits j key row = cond j.right_built (keys_match j.join.join_nulls (probe_key j row) key) (keys_match j.join.join_nulls key (probe_key j row))

-- a built row is matched by its key
pub matches-hits : (j : JoinStage) (built probed : Row) → matches_built j built probed ≡ hits j (build_key j built) probed
matches-hits j built probed = by_side j.join j.right_built
  where
    by_side : (join : Join) (right_built : Bool) → matches_built (record { join = join; right_built = right_built; probe = j.probe; build = j.build }) built probed ≡ hits (record { join = join; right_built = right_built; probe = j.probe; build = j.build }) (build_key (record { join = join; right_built = right_built; probe = j.probe; build = j.build }) built) probed
    by_side join true = refl
    by_side join false = refl

-- whether a built row has a match among probed rows
abbrev pub met : JoinStage → List Row → Row → Bool
met j probed r = list_any (matches_built j r) probed

-- the built rows without a match of the partitions flushed
abbrev pub flushed_rows : (part : Key → ℕ) → (at : ℕ → List Row) → (flushed : List ℕ) → JoinStage → List Row
flushed_rows part at flushed j = filter (λ r. cond (stands (part (build_key j r)) flushed) (not (met j (at j.probe) r)) false) (at j.build)

-- the built rows whose key is flagged
abbrev pub flagged_rows : (at : ℕ → List Row) → (flag : Key → Bool) → JoinStage → List Row
flagged_rows at flag j = filter (λ r. flag (build_key j r)) (at j.build)

-- what a join gave of its own, of the rows flushed and of those flagged
abbrev pub own_so_far : JoinType → Join → (right_built : Bool) → (flushed flagged : List Row) → List Row
own_so_far how.Inner j right_built flushed flagged = []
own_so_far how.Left j right_built flushed flagged = []
own_so_far how.Full j right_built flushed flagged = map (pad_built j right_built) flushed
own_so_far how.Cross j right_built flushed flagged = []
own_so_far how.Semi j true flushed flagged = []
own_so_far how.Semi j false flushed flagged = flagged
own_so_far how.Anti j true flushed flagged = []
own_so_far how.Anti j false flushed flagged = flushed

abbrev pub own_join : (part : Key → ℕ) → (at : ℕ → List Row) → (flushed : List ℕ) → (flag : Key → Bool) → JoinStage → List Row
own_join part at flushed flag j = own_so_far j.join.how j.join j.right_built (flushed_rows part at flushed j) (flagged_rows at flag j)

abbrev pub own_of : (part : Key → ℕ) → (at : ℕ → List Row) → (taken flushed : List ℕ) → (flag : Key → Bool) → Stage → List Row
own_of part at taken flushed flag (Scan rows) = picked rows taken
own_of part at taken flushed flag (Each i op) = []
own_of part at taken flushed flag (Union is) = []
own_of part at taken flushed flag (Sort i sorted) = picked (sorted (at i)) taken
own_of part at taken flushed flag (Joined j) = own_join part at flushed flag j

-- each position of a source, or partition of a join, was given
abbrev pub Gave : (parts : ℕ) → (at : ℕ → List Row) → (taken flushed : List ℕ) → Stage → Type 0
Gave parts at taken flushed (Scan rows) = (p : ℕ) → p < length rows → 1 ≤ count p taken
Gave parts at taken flushed (Each i op) = Unit {0}
Gave parts at taken flushed (Union is) = Unit {0}
Gave parts at taken flushed (Sort i sorted) = (p : ℕ) → p < length (sorted (at i)) → 1 ≤ count p taken
Gave parts at taken flushed (Joined j) = flushes j ≡ true → (p : ℕ) → p < parts → 1 ≤ count p flushed

abbrev pub EachLoad : (Load → Type 0) → List Load → Type 0
EachLoad P [] = Unit {0}
EachLoad P (l ∷ ls) = P l × EachLoad P ls

pub EachLoad-filter : (P : Load → Type 0) (p : Load → Bool) (ls : List Load) → EachLoad P ls → EachLoad P (filter p ls)
EachLoad-filter P p [] h = tt
EachLoad-filter P p (l ∷ ls) h = elim (p l) as (λ b. EachLoad P (cond b (l ∷ filter p ls) (filter p ls))) [ true ↦ (h.0, EachLoad-filter P p ls h.1) | false ↦ EachLoad-filter P p ls h.1 ]

pub EachLoad-weaker : (P Q : Load → Type 0) → ((l : Load) → P l → Q l) → (ls : List Load) → EachLoad P ls → EachLoad Q ls
EachLoad-weaker P Q f [] h = tt
EachLoad-weaker P Q f (l ∷ ls) h = (f l h.0, EachLoad-weaker P Q f ls h.1)

-- all partitions given: each key's stands
all_stand : (part : Key → ℕ) (parts : ℕ) → ((key : Key) → part key < parts) → (flushed : List ℕ) → ((p : ℕ) → p < parts → 1 ≤ count p flushed) → (key : Key) → stands (part key) flushed ≡ true
all_stand part parts below flushed h key = any-from_some (λ q. eqb q (part key)) flushed (h (part key) (below key))

all_flushed : (part : Key → ℕ) (parts : ℕ) → ((key : Key) → part key < parts) → (at : ℕ → List Row) (flushed : List ℕ) (j : JoinStage) → ((p : ℕ) → p < parts → 1 ≤ count p flushed) → flushed_rows part at flushed j ≡ unmatched_built j.join j.right_built (at j.probe) (at j.build)
all_flushed part parts below at flushed j gave =
    filter-alike (λ r. cond (stands (part (build_key j r)) flushed) (not (met j (at j.probe) r)) false) (λ r. not (met j (at j.probe) r)) (at j.build) (λ r. let s = all_stand part parts below flushed gave (build_key j r) in rw s refl)

-- flags stand at the keys that are met, and no others
pub record IsFlagged (at : ℕ → List Row) (flag : Key → Bool) (j : JoinStage) : Type 0 where
  pub marked : list_any (λ r. cond (met j (at j.probe) r) (not (flag (build_key j r))) false) (at j.build) ≡ false
  pub back : (r : Row) → flag (build_key j r) ≡ true → met j (at j.probe) r ≡ true

pub all_flagged_rows : (at : ℕ → List Row) (flag : Key → Bool) (j : JoinStage) → IsFlagged at flag j → flagged_rows at flag j ≡ matched_built j.join j.right_built (at j.probe) (at j.build)
all_flagged_rows at flag j f = filter_flags (met j (at j.probe)) (λ r. flag (build_key j r)) (at j.build) f.marked f.back

-- all that a join has of its own: one case for each kind
join_whole : (kind : JoinType) (right_built : Bool) (j : Join) (flushed flagged probed built : List Row) → is_built_by kind right_built ≡ true →
    (flushes_by kind right_built ≡ true → flushed ≡ unmatched_built j right_built probed built) → (marks_by kind right_built ≡ true → flagged ≡ matched_built j right_built probed built) →
    own_so_far kind j right_built flushed flagged ≡ own_by kind j right_built probed built
join_whole how.Inner right_built j flushed flagged probed built side f m = refl
join_whole how.Left true j flushed flagged probed built side f m = refl
join_whole how.Left false j flushed flagged probed built side f m = cc
join_whole how.Full right_built j flushed flagged probed built side f m = ap (map (pad_built j right_built)) (f refl)
join_whole how.Cross right_built j flushed flagged probed built side f m = refl
join_whole how.Semi true j flushed flagged probed built side f m = refl
join_whole how.Semi false j flushed flagged probed built side f m = m refl
join_whole how.Anti true j flushed flagged probed built side f m = refl
join_whole how.Anti false j flushed flagged probed built side f m = f refl

pub own_whole : (part : Key → ℕ) (parts : ℕ) → ((key : Key) → part key < parts) → (at : ℕ → List Row) (taken flushed : List ℕ) (flag : Key → Bool) → ((p : ℕ) → count p taken ≤ 1) → (x : Stage) → IsBuiltRight x → AllBelow taken (length (own_rows at x)) → Gave parts at taken flushed x → ((join : JoinStage) → x ≡ Joined join → marks join ≡ true → IsFlagged at flag join) → SameBag (own_of part at taken flushed flag x) (own_rows at x)
own_whole part parts below at taken flushed flag once (Scan rows) side inside gave flagged = picked_all rows taken inside once gave
own_whole part parts below at taken flushed flag once (Each i op) side inside gave flagged = SameBag-refl []
own_whole part parts below at taken flushed flag once (Union is) side inside gave flagged = SameBag-refl []
own_whole part parts below at taken flushed flag once (Sort i sorted) side inside gave flagged = picked_all (sorted (at i)) taken inside once gave
own_whole part parts below at taken flushed flag once (Joined j) side inside gave flagged =
    SameBag-from_equal (join_whole j.join.how j.right_built j.join (flushed_rows part at flushed j) (flagged_rows at flag j) (at j.probe) (at j.build) side
    (λ flushing. all_flushed part parts below at flushed j (gave flushing))
    (λ marking. all_flagged_rows at flag j (flagged j refl marking)))

some_flushed : (part : Key → ℕ) (at : ℕ → List Row) (flushed : List ℕ) (j : JoinStage) → WithinBag (flushed_rows part at flushed j) (unmatched_built j.join j.right_built (at j.probe) (at j.build))
some_flushed part at flushed j =
    WithinBag-tests (λ r. cond (stands (part (build_key j r)) flushed) (not (met j (at j.probe) r)) false) (λ r. not (met j (at j.probe) r)) (at j.build)
    (λ r. elim (stands (part (build_key j r)) flushed) as (λ b. cond b (not (met j (at j.probe) r)) false ≡ true → not (met j (at j.probe) r) ≡ true) [ true ↦ λ e. e | false ↦ λ e. cc ])

-- never more: one case for each kind
join_within : (kind : JoinType) (right_built : Bool) (j : Join) (flushed flagged probed built : List Row) →
    WithinBag flushed (unmatched_built j right_built probed built) → (marks_by kind right_built ≡ true → WithinBag flagged (matched_built j right_built probed built)) →
    WithinBag (own_so_far kind j right_built flushed flagged) (own_by kind j right_built probed built)
join_within how.Inner right_built j flushed flagged probed built f m = WithinBag-refl []
join_within how.Left right_built j flushed flagged probed built f m = WithinBag-nothing _
join_within how.Full right_built j flushed flagged probed built f m = WithinBag-map (pad_built j right_built) f
join_within how.Cross right_built j flushed flagged probed built f m = WithinBag-refl []
join_within how.Semi true j flushed flagged probed built f m = WithinBag-refl []
join_within how.Semi false j flushed flagged probed built f m = m refl
join_within how.Anti true j flushed flagged probed built f m = WithinBag-refl []
join_within how.Anti false j flushed flagged probed built f m = f

pub own_within : (part : Key → ℕ) (at : ℕ → List Row) (taken flushed : List ℕ) (flag : Key → Bool) → ((p : ℕ) → count p taken ≤ 1) → (x : Stage) → AllBelow taken (length (own_rows at x)) → ((join : JoinStage) → x ≡ Joined join → marks join ≡ true → (r : Row) → flag (build_key join r) ≡ true → met join (at join.probe) r ≡ true) → WithinBag (own_of part at taken flushed flag x) (own_rows at x)
own_within part at taken flushed flag once (Scan rows) inside back = picked_within rows taken inside once
own_within part at taken flushed flag once (Each i op) inside back = WithinBag-refl []
own_within part at taken flushed flag once (Union is) inside back = WithinBag-refl []
own_within part at taken flushed flag once (Sort i sorted) inside back = picked_within (sorted (at i)) taken inside once
own_within part at taken flushed flag once (Joined j) inside back =
    join_within j.join.how j.right_built j.join (flushed_rows part at flushed j) (flagged_rows at flag j) (at j.probe) (at j.build) (some_flushed part at flushed j)
    (λ marking. WithinBag-tests (λ r. flag (build_key j r)) (met j (at j.probe)) (at j.build) (back j refl marking))

pub Gave-more : (parts : ℕ) (at : ℕ → List Row) (taken taken' flushed flushed' : List ℕ) → ((p : ℕ) → count p taken ≤ count p taken') → ((p : ℕ) → count p flushed ≤ count p flushed') → (x : Stage) → Gave parts at taken flushed x → Gave parts at taken' flushed' x
Gave-more parts at taken taken' flushed flushed' t f (Scan rows) h = λ p lt. omega (arith, t p, h p lt)
Gave-more parts at taken taken' flushed flushed' t f (Each i op) h = tt
Gave-more parts at taken taken' flushed flushed' t f (Union is) h = tt
Gave-more parts at taken taken' flushed flushed' t f (Sort i sorted) h = λ p lt. omega (arith, t p, h p lt)
Gave-more parts at taken taken' flushed flushed' t f (Joined j) h = λ role p lt. omega (arith, f p, h role p lt)

module _ (plan : Stages) where
  abbrev pub own : World → ℕ → List Row
  own w n = own_of plan.part (rows plan) (w.taken n) (w.flushed n) (w.flag n) (plan.stage n)

  -- what came to each node so far, in the plan's terms
  abbrev pub came : World → ℕ → List Row
  came w = flow plan (rows plan) (own w)

  -- what is on its way to it
  abbrev pub due : World → ℕ → List Row
  due w = carried plan (rows plan) w.pending

  -- the facts that every event keeps
  pub record Holds (w : World) : Type 0 where
    pub out : ℕ → List Row
    pub sinks : (t : ℕ) → is_sink plan t ≡ true → SameBag (w.bag t) (out t)
    pub sums : (t : ℕ) → SameBag (came w t) (out t ++ due w t)
    pub once : (n p : ℕ) → count p (w.taken n) ≤ 1
    pub inside : (n : ℕ) → AllBelow (w.taken n) (length (own_rows (rows plan) (plan.stage n)))
    pub gave : (t : ℕ) → w.closed t ≡ true → (n : ℕ) → n < plan.size → reaches plan n t ≡ true → Gave plan.parts (rows plan) (w.taken n) (w.flushed n) (plan.stage n)
    pub quiet : (t : ℕ) → w.closed t ≡ true → list_any (λ l. reaches plan l.node t) w.pending ≡ false
    pub ready : EachLoad (λ l. ChainBuilt plan w.closed l.node) w.pending
    pub probed : (j : ℕ) (join : JoinStage) → j < plan.size → plan.stage j ≡ Joined join → w.closed join.probe ≡ true → w.closed join.build ≡ true
    pub sound : (j : ℕ) (join : JoinStage) → j < plan.size → plan.stage j ≡ Joined join → marks join ≡ true → (key : Key) → w.flag j key ≡ true → list_any (hits join key) (came w join.probe) ≡ true
    pub full : (j : ℕ) (join : JoinStage) → j < plan.size → plan.stage j ≡ Joined join → marks join ≡ true → list_any (λ r. cond (list_any (matches_built join r) (out join.probe)) (not (w.flag j (build_key join r))) false) (rows plan join.build) ≡ false
