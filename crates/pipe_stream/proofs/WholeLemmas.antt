-- Steps of reading and of writing a text whole.
use Rattle.std.proofs.Common.{◌≡◌, ◌≤◌, ◌<◌, ℕ, List, [], ◌+◌, ◌++◌, length, take, drop, Option, Some, None, inl, inr, ap, ◌∙◌, sym, append_assoc, arith, length-append, append-nil}
use Rattle.std.proofs.lemmas.Option.{same_Some, none-some}
use Rattle.std.specs.Prelude.{IfSome}
use Rattle.std.proofs.Math.Seq.{take-add}
use Rattle.pipe_schema.specs.Counts.{Counts, Rises}
use Rattle.pipe_stream.specs.Outside.{Appends, AtEnd, Counted, CountedAbove, HasRead, InputSeen, OutputSeen, Takes, Took, Writes, WritesFront}
use Rattle.pipe_stream.specs.Whole.{IsAll, IsLong, Reads}

-- one more piece stands behind what was read
reads_on : (text buffer : List ℕ) (n : ℕ) (first mid now : Option (List ℕ)) → HasRead text first mid → IfSome mid (λ bytes. Took n buffer bytes now) → HasRead (text ++ take n buffer) first now
reads_on text buffer n None mid now h k = tt
reads_on text buffer n (Some all) None now h k = absurd h
reads_on text buffer n (Some all) (Some rest) None h k = absurd (none-some _ k.rest)
reads_on text buffer n (Some all) (Some rest) (Some left) h k =
    h ∙ ap (λ s. text ++ s) (k.front ∙ ap (λ s. take n buffer ++ s) (sym (same_Some _ _ k.rest))) ∙ sym (append_assoc text (take n buffer) left)

pub reads_more : (text buffer : List ℕ) (n : ℕ) (first : Option (List ℕ)) (mid now : InputSeen) → HasRead text first mid.left → Takes n buffer mid now → HasRead (text ++ take n buffer) first now.left
reads_more text buffer n first mid now h k = reads_on text buffer n first mid.left now.left h k

pub rises_later : (a b c : ℕ) → a ≤ b → Rises b c → Rises a c
rises_later a b c h (inl k) = inl (omega arith)
rises_later a b c h (inr k) = inr k

pub counts_more : (m n a b c : ℕ) → Counts m a b → Counts n b c → Counts (m + n) a c
counts_more m n a b c h k = grind arith

-- what was read to the end is all that was left
all_told : (text : List ℕ) (first now : Option (List ℕ)) → HasRead text first now → IfSome first (λ _. now ≡ Some []) → IfSome first (λ bytes. text ≡ bytes)
all_told text None now h k = tt
all_told text (Some bytes) None h k = absurd h
all_told text (Some bytes) (Some rest) h k = sym (h ∙ ap (λ s. text ++ s) (same_Some _ _ k) ∙ append-nil text)

pub all_read : (text : List ℕ) (first now : InputSeen) → Reads text first now → AtEnd first now → IsAll text first
all_read text first now h k = all_told text first.left now.left h k

long_told : (limit : ℕ) (text : List ℕ) (first now : Option (List ℕ)) → HasRead text first now → limit < length text → IfSome first (λ bytes. limit < length bytes)
long_told limit text None now h k = tt
long_told limit text (Some bytes) None h k = absurd h
long_told limit text (Some bytes) (Some rest) h k = omega (arith, ap length h, length-append text rest)

-- where too much was taken, too much was left
pub long_text : (limit : ℕ) (text : List ℕ) (first now : InputSeen) → Reads text first now → limit < length text → IsLong limit first
long_text limit text first now h k = long_told limit text first.left now.left h k

pub many_taken : (limit n : ℕ) (first now : InputSeen) → Counted n first now → limit < n → CountedAbove limit first now
many_taken limit n first now (inl e) h = inl (omega arith)
many_taken limit n first now (inr e) h = inr e

-- a front of the text was written so far
pub record Writing (text : List ℕ) (at : ℕ) (first now : OutputSeen) : Type 0 where
  pub within : at ≤ length text
  pub writes : Writes (take at text) first now
  pub faults_rise : first.faults ≤ now.faults

-- one more piece stands behind what was written
appends_more : (text : List ℕ) (at n : ℕ) (first mid now : Option (List ℕ)) → Appends (take at text) first mid → Appends (take n (drop at text)) mid now → Appends (take (at + n) text) first now
appends_more text at n first mid None h k = tt
appends_more text at n first None (Some after) h k = absurd k
appends_more text at n None (Some all) (Some after) h k = absurd h
appends_more text at n (Some before) (Some all) (Some after) h k = k ∙ ap (λ s. s ++ take n (drop at text)) h ∙ append_assoc before (take at text) (take n (drop at text)) ∙ ap (λ s. before ++ s) (sym (take-add at n text))

pub writes_more : (text : List ℕ) (at n : ℕ) (first : Option (List ℕ)) (mid now : OutputSeen) → Appends (take at text) first mid.written → Writes (take n (drop at text)) mid now → Appends (take (at + n) text) first now.written
writes_more text at n first mid now h k = appends_more text at n first mid.written now.written h k

pub front_written : (text : List ℕ) (at : ℕ) (first now : OutputSeen) → Writes (take at text) first now → WritesFront text first now
front_written text at first now h = (at, h)
