-- What is read from bytes: the value of a JSON text in UTF-8.
use Rattle.std.specs.Prelude.{◌≡◌, ℕ, List, Some}
use Rattle.std.specs.Str.{IsUtf8}
use Rattle.serde_json.specs.Data.{Data}
use Rattle.serde_json.specs.Read.{read}
use Rattle.pipe_job.specs.JobSpelling.{Spells, Task}

-- the bytes are a text that reads as the value
pub record Reading (bytes : List ℕ) (value : Data) : Type 0 where
  pub utf8 : IsUtf8 bytes
  pub reads : read bytes ≡ Some value

-- the bytes read as a value that spells the task
pub record ReadsJob (bytes : List ℕ) (task : Task) : Type 0 where
  pub value : Data
  pub reading : Reading bytes value
  pub spelled : Spells value task

-- the bytes read as a value that spells no task
pub record ReadsNoJob (bytes : List ℕ) : Type 0 where
  pub value : Data
  pub reading : Reading bytes value
  pub none : (task : Task) → Spells value task → ⊥

-- the bytes are no JSON text
pub record ReadsNothing (bytes : List ℕ) : Type 0 where
  pub none : (value : Data) → Reading bytes value → ⊥
