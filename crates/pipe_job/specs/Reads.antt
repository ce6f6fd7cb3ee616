-- What a reader of values answers: what a value spells, or that it spells nothing, unless memory runs out.
use Rattle.std.specs.Prelude.{◌≡◌, Bool, false, Result, Ok, Err}
use Rattle.serde_json.specs.Data.{Data}
use Rattle.pipe_job.specs.declared.misread.Misread.{Misread}
use Rattle.pipe_job.specs.declared.misread.Misread.TheVariants.{Other, Memory}

-- what was read, or the test fails, unless memory runs out
abbrev pub ReadWhere : {X : Type 0} → Bool → (X → Type 0) → Result X Misread → Type 0
ReadWhere test P (Ok x) = P x
ReadWhere test P (Err Other) = test ≡ false
ReadWhere test P (Err Memory) = Unit {0}

-- a value that fits and is spelled so, or the value hasn't the shape
abbrev pub ReadsSpelled : {X : Type 0} → (Data → Bool) → (X → Data) → (X → Type 0) → Data → Result X Misread → Type 0
ReadsSpelled shape spell Fits v r = ReadWhere (shape v) (λ x. (v ≡ spell x) × Fits x) r
