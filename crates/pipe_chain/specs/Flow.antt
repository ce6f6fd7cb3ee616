-- Rows through operators that also mark keys of their joins' built sides.
use Rattle.std.specs.Prelude.{ℕ, List, [], ◌∷◌, ◌++◌}
use Rattle.std.specs.List.{flat_map}
use Rattle.pipe_schema.specs.Rows.{Row, Same}
use Rattle.pipe_chain.specs.Keys.{SameKeys, WithinKeys}

-- what an operator does: what a row becomes, which keys it marks for a row, and what it gives for a
-- key that it is the first to mark
pub record Work : Type 0 where
  pub each : Row → List Row
  pub asks : Row → List ℕ
  pub gains : ℕ → List Row

-- what an operator's seat did: the keys that it marked, and those that it was the first to mark
pub record Acts : Type 0 where
  pub marked : List ℕ
  pub won : List ℕ

abbrev pub no_acts : Acts
no_acts = record { marked = []; won = [] }

abbrev pub both_acts : Acts → Acts → Acts
both_acts a b = record { marked = a.marked ++ b.marked; won = a.won ++ b.won }

-- what an operator gives for some rows, where its seat won some keys
abbrev pub made : Work → (won : List ℕ) → List Row → List Row
made w won rows = flat_map w.each rows ++ flat_map w.gains won

-- rows came into some operators from the first on; these are the acts of their seats, and this went
-- out behind the last
abbrev pub Flows : List Work → List Acts → (rows out : List Row) → Type 0
Flows [] [] rows out = Same out rows
Flows [] (a ∷ acts) rows out = ⊥
Flows (w ∷ ws) [] rows out = ⊥
Flows (w ∷ ws) (a ∷ acts) rows out =
    SameKeys a.marked (flat_map w.asks rows) × Flows ws acts (made w a.won rows) out

-- no acts of any of some
abbrev pub nothing : {X : Type 0} → List X → List Acts
nothing [] = []
nothing (x ∷ xs) = no_acts ∷ nothing xs

-- the acts of two, operator by operator
abbrev pub added : List Acts → List Acts → List Acts
added [] more = more
added (a ∷ acts) [] = a ∷ acts
added (a ∷ acts) (b ∷ more) = both_acts a b ∷ added acts more

-- a seat did some acts more
pub record Grown (old new more : Acts) : Type 0 where
  pub marked : SameKeys new.marked (old.marked ++ more.marked)
  pub won : SameKeys new.won (old.won ++ more.won)

abbrev pub AllGrown : (old new more : List Acts) → Type 0
AllGrown [] [] [] = Unit {0}
AllGrown [] [] (c ∷ more) = ⊥
AllGrown [] (b ∷ new) more = ⊥
AllGrown (a ∷ old) [] more = ⊥
AllGrown (a ∷ old) (b ∷ new) [] = ⊥
AllGrown (a ∷ old) (b ∷ new) (c ∷ more) = Grown a b c × AllGrown old new more

-- a seat won no key that it didn't mark
abbrev pub Few : Acts → Type 0
Few a = WithinKeys a.won a.marked

abbrev pub AllFew : List Acts → Type 0
AllFew [] = Unit {0}
AllFew (a ∷ acts) = Few a × AllFew acts
