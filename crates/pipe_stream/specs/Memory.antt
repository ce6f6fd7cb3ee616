-- Readers and writers in memory.
use Rattle.std.specs.Prelude.{ℕ, ◌+◌, ◌==◌, min, Bool, List, [], ◌∷◌, slice_index_or, unwrap_or, Option, Some, None, if◌then◌else◌}
use Rattle.std.specs.List.{list_any}
use Rattle.std.specs.Str.{bytes_eq}
use Rattle.pipe_schema.specs.Counts.{last_count}
use Rattle.pipe_stream.specs.Outside.{InputSeen, OutputSeen}
use Rattle.pipe_stream.specs.declared.shelf.NamedBytes.{NamedBytes}

-- the bytes of the first file of this name
abbrev pub bytes_named : List NamedBytes → List ℕ → Option (List ℕ)
bytes_named [] name = None
bytes_named (file ∷ files) name = if bytes_eq file.name name then Some file.bytes else bytes_named files name

-- a file without a name that holds nothing
abbrev pub no_file : NamedBytes
no_file = record { name = []; bytes = [] }

-- the bytes of the file at a place
abbrev pub named_at : List NamedBytes → ℕ → List ℕ
named_at files place = (slice_index_or files place no_file).bytes

-- what is read: standard input, or the file at a place
abbrev pub source_bytes : List ℕ → List NamedBytes → Option ℕ → List ℕ
source_bytes standard files None = standard
source_bytes standard files (Some place) = named_at files place

-- the number of the next call; it stands still at the last value of a count
abbrev pub call_number : ℕ → ℕ
call_number made = min (made + 1) last_count

-- whether a number is among those of the calls that are to fail
abbrev pub is_listed : ℕ → List ℕ → Bool
is_listed number failing = list_any (λ n. n == number) failing

-- a reader whose calls are counted, and of which those with the listed numbers fail
pub record ScriptedReader : Type 0 where
  pub left : List ℕ
  pub files : List NamedBytes
  -- how many bytes a read takes at most
  pub most : ℕ
  pub failing : List ℕ
  -- how many calls were made, how many bytes taken, how many calls failed
  pub made : ℕ
  pub taken : ℕ
  pub faults : ℕ

-- what is known of such a reader
abbrev pub scripted_input : ScriptedReader → InputSeen
scripted_input r = record { left = Some r.left; named = bytes_named r.files; taken = r.taken; faults = r.faults }

-- what is known of a reader that never fails: a name that no file has stands for no byte
abbrev pub sure_input : List ℕ → List NamedBytes → ℕ → InputSeen
sure_input left files taken = record { left = Some left; named = λ name. Some (unwrap_or (bytes_named files name) []); taken = taken; faults = 0 }

-- a writer alike
pub record ScriptedWriter : Type 0 where
  pub written : List ℕ
  -- how many bytes a write takes at most
  pub most : ℕ
  pub failing : List ℕ
  -- how many calls were made, how many failed
  pub made : ℕ
  pub faults : ℕ

-- what is known of such a writer
abbrev pub scripted_output : ScriptedWriter → OutputSeen
scripted_output w = record { written = Some w.written; faults = w.faults }
