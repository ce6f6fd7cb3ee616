-- Statuses and their lines.
use Rattle.std.specs.Prelude.{ℕ, ◌≡◌, ◌==◌, ◌⊎◌, List, [], ◌∷◌, codes, if◌then◌else◌, Result, Ok, Err}
use Rattle.pipe_cli.specs.declared.status.Refusal.{Refusal}
use Rattle.pipe_cli.specs.declared.status.Refusal.TheVariants as refusal

-- the status of a refusal
abbrev pub status_of : Refusal → ℕ
status_of refusal.BadWords = 1
status_of refusal.ReadFault = 2
status_of refusal.TooLong = 3
status_of refusal.NotJson = 4
status_of refusal.NotJob = 5
status_of (refusal.Fault line) = 6
status_of (refusal.TooMany line) = 7
status_of refusal.Stopped = 8
status_of refusal.WriteFault = 9
status_of refusal.Memory = 10

-- the line that is noted for a status; 0 has none, and those of 6 and 7 tell the error
abbrev pub status_line : ℕ → List ℕ
status_line n =
    if n == 1 then codes "error 1: bad words\n"
    else if n == 2 then codes "error 2: read fault\n"
    else if n == 3 then codes "error 3: job too long\n"
    else if n == 4 then codes "error 4: not JSON\n"
    else if n == 5 then codes "error 5: not a job\n"
    else if n == 8 then codes "error 8: stopped\n"
    else if n == 9 then codes "error 9: write fault\n"
    else if n == 10 then codes "error 10: out of memory\n"
    else []

-- the line that is noted for a refusal
abbrev pub line_of : Refusal → List ℕ
line_of refusal.BadWords = status_line 1
line_of refusal.ReadFault = status_line 2
line_of refusal.TooLong = status_line 3
line_of refusal.NotJson = status_line 4
line_of refusal.NotJob = status_line 5
line_of (refusal.Fault line) = line
line_of (refusal.TooMany line) = line
line_of refusal.Stopped = status_line 8
line_of refusal.WriteFault = status_line 9
line_of refusal.Memory = status_line 10

-- a number is one of these
abbrev pub OneOf : List ℕ → ℕ → Type 0
OneOf [] n = ⊥
OneOf (x ∷ xs) n = (n ≡ x) ⊎ OneOf xs n

-- a status whose line tells nothing but itself
abbrev pub IsFixed : ℕ → Type 0
IsFixed n = OneOf (1 ∷ 2 ∷ 3 ∷ 4 ∷ 5 ∷ 8 ∷ 9 ∷ 10 ∷ []) n

-- how often a stop check says yes in a run that ends with this status
abbrev pub yes_of : ℕ → ℕ
yes_of n = if n == 8 then 1 else 0

abbrev pub yes_in : {T : Type 0} → Result T Refusal → ℕ
yes_in (Ok value) = 0
yes_in (Err r) = yes_of (status_of r)
