-- Commands that read nothing, and those whose text is always the same.
use Rattle.std.specs.Prelude.{ℕ, ◌≡◌, List, [], ◌∷◌, false}
use Rattle.pipe_cli.specs.Contract.{Contract, Kind}

-- there is one input, and any bytes are it
abbrev pub no_inputs : Kind
no_inputs = record { Input = Unit {0}; Reads = λ bytes input. Unit {0}; ReadsNothing = λ bytes. ⊥; ReadsNone = λ bytes. ⊥ }

-- a text is written, and nothing else is done
abbrev pub writes : List ℕ → Contract
writes told = record {
  kind = no_inputs;
  IsSound = λ input. Unit {0};
  IsRefused = λ input error. ⊥;
  HasMany = λ input n. ⊥;
  IsWithin = λ input. Unit {0};
  IsAnswer = λ input text. text ≡ told;
  asks = false;
  statuses = 0 ∷ 9 ∷ [];
}
