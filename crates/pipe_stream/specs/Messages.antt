-- What a worker sends: its blocks in order, and that it has ended.
use Rattle.std.specs.Prelude.{◌≡◌, ℕ, Bool, true, false, not, ◌&&◌, List, [], ◌∷◌, ◌++◌, map, drop}
use Rattle.pipe_stream.specs.Blocks.{blocks_from}
use Rattle.pipe_stream.specs.declared.message.Message.{Message}
use Rattle.pipe_stream.specs.declared.message.News.{News}
use Rattle.pipe_stream.specs.declared.message.News.TheVariants as news

-- a block of a worker
abbrev pub block_of : Bool → (ℕ → List ℕ) → ℕ → Message
block_of odd text number = record { odd = odd; news = news.Block number (text number) }

-- a worker has ended, and rendered all of its blocks or not
abbrev pub last_of : Bool → Bool → Message
last_of odd whole = record { odd = odd; news = news.Last whole }

-- what a worker sends from a block on, if it renders all of its blocks
abbrev pub script : (ℕ → List ℕ) → ℕ → Bool → ℕ → List Message
script text count odd number = map (block_of odd text) (blocks_from odd number count) ++ last_of odd true ∷ []

-- whether something stands in such a list: a worker that gives up says so outside of it
abbrev pub is_planned : News → Bool
is_planned (news.Block number text) = true
is_planned (news.Last whole) = whole

-- whether two workers are the same one
abbrev pub same : Bool → Bool → Bool
same true odd = odd
same false odd = not odd

-- whether a message is one of those of a worker
abbrev pub is_from : Bool → Message → Bool
is_from odd message = same message.odd odd && is_planned message.news

-- the list begins with this message
abbrev pub Begins : Message → List Message → Type 0
Begins message due = due ≡ message ∷ drop 1 due
