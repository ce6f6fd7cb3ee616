-- What the calls of a world change.
use Rattle.std.specs.Prelude.{◌≡◌, ℕ, List, ◌∷◌, ◌++◌, ◌||◌}
use Rattle.std.specs.List.{list_any, range_with_len}
use Rattle.pipe_schema.specs.Rows.{Row, eq_row}
use Rattle.pipe_events.specs.Stages.{Key}
use Rattle.pipe_events.specs.Worlds.{Load, World, put, load_of, with_load, others}

-- a key stands in a list after others were added where it stood in it or is one of them
pub record AreAdded (keys before after : List Key) : Type 0 where
  pub each : (key : Key) →
      list_any (eq_row key) after ≡ (list_any (eq_row key) keys || list_any (eq_row key) before)

-- rows are on their way, and rows if there are some
abbrev pub sends : Load → World → World
sends load w = record {
  taken = w.taken;
  pending = load ∷ w.pending;
  flag = w.flag;
  flushed = w.flushed;
  closed = w.closed;
  bag = w.bag;
}

abbrev pub sends_some : (worker node : ℕ) → List Row → World → World
sends_some worker node rows w = record {
  taken = w.taken;
  pending = with_load worker node rows w.pending;
  flag = w.flag;
  flushed = w.flushed;
  closed = w.closed;
  bag = w.bag;
}

-- positions of a source are taken
abbrev pub notes_taken : (source from amount : ℕ) → World → World
notes_taken source from amount w = record {
  taken = put w.taken source (w.taken source ++ range_with_len from amount);
  pending = w.pending;
  flag = w.flag;
  flushed = w.flushed;
  closed = w.closed;
  bag = w.bag;
}

abbrev pub took : (worker source from amount : ℕ) → List Row → World → World
took worker source from amount rows w =
    sends (load_of worker source rows) (notes_taken source from amount w)

-- keys are flagged at a join
abbrev pub notes_flags : (join : ℕ) → List Key → World → World
notes_flags join keys w = record {
  taken = w.taken;
  pending = w.pending;
  flag = put w.flag join (λ key. list_any (eq_row key) keys || w.flag join key);
  flushed = w.flushed;
  closed = w.closed;
  bag = w.bag;
}

-- keys are flagged, and the rows that this gives are on their way
abbrev pub flags : (worker join : ℕ) → List Key → List Row → World → World
flags worker join keys rows w = sends_some worker join rows (notes_flags join keys w)

-- the partitions of a join that are flushed
abbrev pub sets_flushed : (join : ℕ) → List ℕ → World → World
sets_flushed join parts w = record {
  taken = w.taken;
  pending = w.pending;
  flag = w.flag;
  flushed = put w.flushed join parts;
  closed = w.closed;
  bag = w.bag;
}

-- a partition is flushed, and its rows are on their way
abbrev pub flushes_part : (worker join part : ℕ) → List Row → World → World
flushes_part worker join part rows w =
    sends (load_of worker join rows) (sets_flushed join (part ∷ w.flushed join) w)

-- rows come to a sink
abbrev pub fills : ℕ → List Row → World → World
fills t rows w = record {
  taken = w.taken;
  pending = w.pending;
  flag = w.flag;
  flushed = w.flushed;
  closed = w.closed;
  bag = put w.bag t (w.bag t ++ rows);
}

-- nothing of a worker is on its way any more
abbrev pub hands_on : ℕ → World → World
hands_on worker w = record {
  taken = w.taken;
  pending = others worker w.pending;
  flag = w.flag;
  flushed = w.flushed;
  closed = w.closed;
  bag = w.bag;
}
