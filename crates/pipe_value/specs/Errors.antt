-- What a failed read says.
use Rattle.std.specs.Prelude.{◌≡◌, Result, Err}
use Rattle.pipe_value.specs.declared.error.ReadError.{ReadError}
use Rattle.pipe_value.specs.declared.error.ReadError.TheVariants.{BadText}

-- the text was refused, and memory was not at fault
abbrev pub IsRefusal : {T : Type 0} → Result T ReadError → Type 0
IsRefusal r = r ≡ Err BadText
