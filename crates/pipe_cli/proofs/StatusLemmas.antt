-- Which statuses may come, by what the bytes of the input that is asked for are, and what each says of them.
use Rattle.std.proofs.Common.{◌≡◌, ◌≤◌, ℕ, true, false, List, [], ◌∷◌, length, Option, Some, None, inl, inr, refl, sym, ap, subst, ◌∙◌, arith}
use Rattle.std.specs.Prelude.{IfSome, IsSome, IsSomeAnd}
use Rattle.pipe_cli.specs.FaultLine.{fault_status}
use Rattle.pipe_stream.specs.Outside.{InputSeen, OutputSeen, ReadFails, WriteFails}
use Rattle.pipe_plan.specs.declared.error.PipeError.{PipeError}
use Rattle.pipe_plan.specs.declared.error.PipeError.TheVariants as error
use Rattle.pipe_cli.specs.Commands.{Request, contract_of, request, source_of}
use Rattle.pipe_cli.specs.Contract.{Answered, Contract, EndsBy, CommandFails, Good, IsLawful, NoInput, Nothing, OfInput, RefusedAs, Short, ShortGood, Sound, Told, TooWide, Wide}
use Rattle.pipe_cli.specs.Outcome.{IfInput, InputOf, IsInput, IsRead, IsTooLong, Long, MayEnd, Noted, NotedFault, OfOutput, OfWords, OutputOf, ReadingOf, Wrote, WroteFront, WroteFrontOn, WroteFrontTold, WroteOn, WroteTold, asks_run, if_asked, is_asked, is_run, of_words, told_to}
use Rattle.pipe_cli.specs.Refused.{OfReading}
use Rattle.pipe_cli.specs.Sources.{IsLongOn, IsTooMany, IsWhole, ReadOn, Source, Nowhere, Standard, Named, WasRead, bytes_at, limit}
use Rattle.pipe_cli.specs.Status.{IsFixed, OneOf, line_of, status_line, status_of}
use Rattle.pipe_cli.specs.declared.status.Refusal.{Refusal}
use Rattle.pipe_cli.specs.declared.status.Refusal.TheVariants as refusal
use Rattle.pipe_cli.proofs.Lawful.{lawful}
use Rattle.pipe_cli.proofs.RuleLemmas.{apart}

-- ---- facts of the bytes that are told

-- what two facts of the bytes give
both : (told : Option (List ℕ)) (P Q : List ℕ → Type 0) (F : Type 0) → ((bytes : List ℕ) → P bytes → Q bytes → F) → IfSome told P → IsSomeAnd told Q → F
both None P Q F gives h k = absurd k
both (Some bytes) P Q F gives h k = gives bytes h k

-- two facts of which no bytes have both
clash : (told : Option (List ℕ)) (P Q : List ℕ → Type 0) → ((bytes : List ℕ) → P bytes → Q bytes → ⊥) → IfSome told P → IsSomeAnd told Q → ⊥
clash told P Q gives h k = both told P Q ⊥ gives h k

-- a fact that follows
pub follows : (told : Option (List ℕ)) (P Q : List ℕ → Type 0) → ((bytes : List ℕ) → P bytes → Q bytes) → IfSome told P → IfSome told Q
follows None P Q f h = tt
follows (Some bytes) P Q f h = f bytes h

too_many : (bytes : List ℕ) → length bytes ≤ limit → IsTooMany bytes → ⊥
too_many bytes short many = omega (arith, short, many)

-- ---- facts of which no bytes have both, by the laws of a contract

moved_sound : (c : Contract) → IsLawful c → (bytes : List ℕ) (a b : c.kind.Input) → c.kind.Reads bytes a → c.kind.Reads bytes b → c.IsSound a → c.IsSound b
moved_sound c law bytes a b r q h = subst (λ (i : c.kind.Input). c.IsSound i) (law.kind.one bytes a b r q) h

moved_within : (c : Contract) → IsLawful c → (bytes : List ℕ) (a b : c.kind.Input) → c.kind.Reads bytes a → c.kind.Reads bytes b → c.IsWithin a → c.IsWithin b
moved_within c law bytes a b r q h = subst (λ (i : c.kind.Input). c.IsWithin i) (law.kind.one bytes a b r q) h

moved_end : (c : Contract) → IsLawful c → (bytes : List ℕ) (a b : c.kind.Input) (e : PipeError) → c.kind.Reads bytes a → c.kind.Reads bytes b → EndsBy c a e → EndsBy c b e
moved_end c law bytes a b e r q h = subst (λ (i : c.kind.Input). EndsBy c i e) (law.kind.one bytes a b r q) h

sound_refused : (c : Contract) → IsLawful c → (n : ℕ) (bytes : List ℕ) → Sound c bytes → RefusedAs n c bytes → ⊥
sound_refused c law n bytes s r = law.sound r.input r.error (moved_sound c law bytes s.input r.input s.read r.read s.sound) r.refused

-- an input that ends by an error and is refused by one: they are one
one_end : (c : Contract) → IsLawful c → (i : c.kind.Input) (d e : PipeError) → EndsBy c i d → c.IsRefused i e → d ≡ e
one_end c law i d e (inl h) k = law.one_error i d e h k
one_end c law i d e (inr f) k = absurd (law.sound i e f.sound k)

one_status : (c : Contract) → IsLawful c → (m n : ℕ) (line bytes : List ℕ) → Told c m line bytes → RefusedAs n c bytes → m ≡ n
one_status c law m n line bytes t r =
    let ends = moved_end c law bytes t.input r.input t.told.error t.read r.read t.told.ends in
    t.told.status_is ∙ ap fault_status (one_end c law r.input t.told.error r.error ends r.refused) ∙ sym r.status_is

-- how a sound input fails: not by an error of status 6, and by one of status 7 where a node has too many rows
no_fault : (c : Contract) (i : c.kind.Input) (e : PipeError) → CommandFails c i e → 6 ≡ fault_status e → ⊥
no_fault c i error.BadConfig f s = f.ends
no_fault c i (error.BadNode n) f s = f.ends
no_fault c i (error.UnknownColumn n name) f s = f.ends
no_fault c i (error.DuplicateName n name) f s = f.ends
no_fault c i (error.TypeMismatch n) f s = f.ends
no_fault c i (error.BadJoin n) f s = f.ends
no_fault c i (error.BadSort n) f s = f.ends
no_fault c i (error.TooMany n) f s = omega (arith, s)
no_fault c i error.Stopped f s = omega (arith, s)
no_fault c i error.Memory f s = omega (arith, s)

wide_end : (c : Contract) (bytes : List ℕ) (i : c.kind.Input) (e : PipeError) → c.kind.Reads bytes i → CommandFails c i e → 7 ≡ fault_status e → Wide c bytes
wide_end c bytes i error.BadConfig read f s = absurd f.ends
wide_end c bytes i (error.BadNode n) read f s = absurd f.ends
wide_end c bytes i (error.UnknownColumn n name) read f s = absurd f.ends
wide_end c bytes i (error.DuplicateName n name) read f s = absurd f.ends
wide_end c bytes i (error.TypeMismatch n) read f s = absurd f.ends
wide_end c bytes i (error.BadJoin n) read f s = absurd f.ends
wide_end c bytes i (error.BadSort n) read f s = absurd f.ends
wide_end c bytes i (error.TooMany n) read f s = record { input = i; read = read; sound = f.sound; node = n; many = f.ends }
wide_end c bytes i error.Stopped read f s = absurd (omega (arith, s))
wide_end c bytes i error.Memory read f s = absurd (omega (arith, s))

fault_by : (c : Contract) (bytes : List ℕ) (i : c.kind.Input) (e : PipeError) → c.kind.Reads bytes i → EndsBy c i e → 6 ≡ fault_status e → RefusedAs 6 c bytes
fault_by c bytes i e read (inl h) s = record { input = i; read = read; error = e; refused = h; status_is = s }
fault_by c bytes i e read (inr f) s = absurd (no_fault c i e f s)

many_by : (c : Contract) (bytes : List ℕ) (i : c.kind.Input) (e : PipeError) → c.kind.Reads bytes i → EndsBy c i e → 7 ≡ fault_status e → TooWide c bytes
many_by c bytes i e read (inl h) s = inl (record { input = i; read = read; error = e; refused = h; status_is = s })
many_by c bytes i e read (inr f) s = inr (wide_end c bytes i e read f s)

fault_told : (c : Contract) (line bytes : List ℕ) → Told c 6 line bytes → RefusedAs 6 c bytes
fault_told c line bytes t = fault_by c bytes t.input t.told.error t.read t.told.ends t.told.status_is

many_told : (c : Contract) (line bytes : List ℕ) → Told c 7 line bytes → TooWide c bytes
many_told c line bytes t = many_by c bytes t.input t.told.error t.read t.told.ends t.told.status_is

good_sound : (c : Contract) (bytes : List ℕ) → Good c bytes → Sound c bytes
good_sound c bytes g = record { input = g.input; read = g.read; sound = g.sound }

wide_sound : (c : Contract) (bytes : List ℕ) → Wide c bytes → Sound c bytes
wide_sound c bytes w = record { input = w.input; read = w.read; sound = w.sound }

answered_good : (c : Contract) (bytes text : List ℕ) → Answered c bytes text → Good c bytes
answered_good c bytes text a = record { input = a.input; read = a.read; sound = a.sound; within = a.within }

wide_good : (c : Contract) → IsLawful c → (bytes : List ℕ) → Wide c bytes → Good c bytes → ⊥
wide_good c law bytes w g = law.within w.input w.node w.many (moved_within c law bytes g.input w.input g.read w.read g.within)

wide_many_good : (c : Contract) → IsLawful c → (bytes : List ℕ) → TooWide c bytes → Good c bytes → ⊥
wide_many_good c law bytes (inl r) g = sound_refused c law 7 bytes (good_sound c bytes g) r
wide_many_good c law bytes (inr w) g = wide_good c law bytes w g

front_good : (c : Contract) (told : Option (List ℕ)) (out now : OutputSeen) → WroteFrontTold c told out now → IfSome told (Short (Good c))
front_good c told out now h = follows told (WroteFrontOn c out now) (Short (Good c)) (λ b p. record { short = p.short; holds = answered_good c b p.text p.answered }) h

-- ---- statuses, by the bytes

pub long_status : (c : Contract) → IsLawful c → (r : Refusal) (told : Option (List ℕ)) (out now : OutputSeen) → (r ≡ refusal.BadWords → ⊥) → OfInput c r told → OfOutput c r told out now → IsSomeAnd told IsTooMany → OneOf (2 ∷ 3 ∷ 10 ∷ []) (status_of r)
long_status c law refusal.BadWords told out now w t k h = absurd (w refl)
long_status c law refusal.ReadFault told out now w t k h = inl refl
long_status c law refusal.TooLong told out now w t k h = inr (inl refl)
long_status c law refusal.NotJson told out now w t k h = absurd (clash told (Short (Nothing c)) IsTooMany (λ b p q. too_many b p.short q) t h)
long_status c law refusal.NotJob told out now w t k h = absurd (clash told (Short (NoInput c)) IsTooMany (λ b p q. too_many b p.short q) t h)
long_status c law (refusal.Fault line) told out now w t k h = absurd (clash told (Short (Told c 6 line)) IsTooMany (λ b p q. too_many b p.short q) t h)
long_status c law (refusal.TooMany line) told out now w t k h = absurd (clash told (Short (Told c 7 line)) IsTooMany (λ b p q. too_many b p.short q) t h)
long_status c law refusal.Stopped told out now w t k h = absurd (clash told (Short (Sound c)) IsTooMany (λ b p q. too_many b p.short q) t h)
long_status c law refusal.WriteFault told out now w t k h = absurd (clash told (Short (Good c)) IsTooMany (λ b p q. too_many b p.short q) (front_good c told out now k.1) h)
long_status c law refusal.Memory told out now w t k h = inr (inr (inl refl))

pub none_status : (c : Contract) → IsLawful c → (r : Refusal) (told : Option (List ℕ)) (out now : OutputSeen) → (r ≡ refusal.BadWords → ⊥) → OfInput c r told → OfOutput c r told out now → IsSomeAnd told (NoInput c) → OneOf (2 ∷ 3 ∷ 5 ∷ 10 ∷ []) (status_of r)
none_status c law refusal.BadWords told out now w t k h = absurd (w refl)
none_status c law refusal.ReadFault told out now w t k h = inl refl
none_status c law refusal.TooLong told out now w t k h = inr (inl refl)
none_status c law refusal.NotJson told out now w t k h = absurd (clash told (Short (Nothing c)) (NoInput c) (λ b p q. law.kind.apart b p.holds q) t h)
none_status c law refusal.NotJob told out now w t k h = inr (inr (inl refl))
none_status c law (refusal.Fault line) told out now w t k h = absurd (clash told (Short (Told c 6 line)) (NoInput c) (λ b p q. law.kind.some b p.holds.input q p.holds.read) t h)
none_status c law (refusal.TooMany line) told out now w t k h = absurd (clash told (Short (Told c 7 line)) (NoInput c) (λ b p q. law.kind.some b p.holds.input q p.holds.read) t h)
none_status c law refusal.Stopped told out now w t k h = absurd (clash told (Short (Sound c)) (NoInput c) (λ b p q. law.kind.some b p.holds.input q p.holds.read) t h)
none_status c law refusal.WriteFault told out now w t k h = absurd (clash told (Short (Good c)) (NoInput c) (λ b p q. law.kind.some b p.holds.input q p.holds.read) (front_good c told out now k.1) h)
none_status c law refusal.Memory told out now w t k h = inr (inr (inr (inl refl)))

pub refused_status : (c : Contract) → IsLawful c → (n : ℕ) (r : Refusal) (told : Option (List ℕ)) (out now : OutputSeen) → (r ≡ refusal.BadWords → ⊥) → OfInput c r told → OfOutput c r told out now → IsSomeAnd told (RefusedAs n c) → OneOf (2 ∷ 3 ∷ n ∷ 10 ∷ []) (status_of r)
refused_status c law n refusal.BadWords told out now w t k h = absurd (w refl)
refused_status c law n refusal.ReadFault told out now w t k h = inl refl
refused_status c law n refusal.TooLong told out now w t k h = inr (inl refl)
refused_status c law n refusal.NotJson told out now w t k h = absurd (clash told (Short (Nothing c)) (RefusedAs n c) (λ b p q. law.kind.text b q.input p.holds q.read) t h)
refused_status c law n refusal.NotJob told out now w t k h = absurd (clash told (Short (NoInput c)) (RefusedAs n c) (λ b p q. law.kind.some b q.input p.holds q.read) t h)
refused_status c law n (refusal.Fault line) told out now w t k h = inr (inr (inl (both told (Short (Told c 6 line)) (RefusedAs n c) (6 ≡ n) (λ b p q. one_status c law 6 n line b p.holds q) t h)))
refused_status c law n (refusal.TooMany line) told out now w t k h = inr (inr (inl (both told (Short (Told c 7 line)) (RefusedAs n c) (7 ≡ n) (λ b p q. one_status c law 7 n line b p.holds q) t h)))
refused_status c law n refusal.Stopped told out now w t k h = absurd (clash told (Short (Sound c)) (RefusedAs n c) (λ b p q. sound_refused c law n b p.holds q) t h)
refused_status c law n refusal.WriteFault told out now w t k h = absurd (clash told (Short (Good c)) (RefusedAs n c) (λ b p q. sound_refused c law n b (good_sound c b p.holds) q) (front_good c told out now k.1) h)
refused_status c law n refusal.Memory told out now w t k h = inr (inr (inr (inl refl)))

pub wide_status : (c : Contract) → IsLawful c → (r : Refusal) (told : Option (List ℕ)) (out now : OutputSeen) → (r ≡ refusal.BadWords → ⊥) → OfInput c r told → OfOutput c r told out now → IsSomeAnd told (Wide c) → OneOf (2 ∷ 3 ∷ 7 ∷ 8 ∷ 10 ∷ []) (status_of r)
wide_status c law refusal.BadWords told out now w t k h = absurd (w refl)
wide_status c law refusal.ReadFault told out now w t k h = inl refl
wide_status c law refusal.TooLong told out now w t k h = inr (inl refl)
wide_status c law refusal.NotJson told out now w t k h = absurd (clash told (Short (Nothing c)) (Wide c) (λ b p q. law.kind.text b q.input p.holds q.read) t h)
wide_status c law refusal.NotJob told out now w t k h = absurd (clash told (Short (NoInput c)) (Wide c) (λ b p q. law.kind.some b q.input p.holds q.read) t h)
wide_status c law (refusal.Fault line) told out now w t k h = absurd (clash told (Short (Told c 6 line)) (Wide c) (λ b p q. sound_refused c law 6 b (wide_sound c b q) (fault_told c line b p.holds)) t h)
wide_status c law (refusal.TooMany line) told out now w t k h = inr (inr (inl refl))
wide_status c law refusal.Stopped told out now w t k h = inr (inr (inr (inl refl)))
wide_status c law refusal.WriteFault told out now w t k h = absurd (clash told (Short (Good c)) (Wide c) (λ b p q. wide_good c law b q p.holds) (front_good c told out now k.1) h)
wide_status c law refusal.Memory told out now w t k h = inr (inr (inr (inr (inl refl))))

pub good_status : (c : Contract) → IsLawful c → (r : Refusal) (told : Option (List ℕ)) (input rest : InputSeen) → (r ≡ refusal.BadWords → ⊥) → OfReading r told input rest → OfInput c r told → IsSomeAnd told (ShortGood c) → OneOf (0 ∷ 2 ∷ 8 ∷ 9 ∷ 10 ∷ []) (status_of r)
good_status c law refusal.BadWords told input rest w read t h = absurd (w refl)
good_status c law refusal.ReadFault told input rest w read t h = inr (inl refl)
good_status c law refusal.TooLong told input rest w read t h = absurd (clash told IsTooMany (ShortGood c) (λ b p q. too_many b q.short p) read.many h)
good_status c law refusal.NotJson told input rest w read t h = absurd (clash told (Short (Nothing c)) (ShortGood c) (λ b p q. law.kind.text b q.holds.input p.holds q.holds.read) t h)
good_status c law refusal.NotJob told input rest w read t h = absurd (clash told (Short (NoInput c)) (ShortGood c) (λ b p q. law.kind.some b q.holds.input p.holds q.holds.read) t h)
good_status c law (refusal.Fault line) told input rest w read t h = absurd (clash told (Short (Told c 6 line)) (ShortGood c) (λ b p q. sound_refused c law 6 b (good_sound c b q.holds) (fault_told c line b p.holds)) t h)
good_status c law (refusal.TooMany line) told input rest w read t h = absurd (clash told (Short (Told c 7 line)) (ShortGood c) (λ b p q. wide_many_good c law b (many_told c line b p.holds) q.holds) t h)
good_status c law refusal.Stopped told input rest w read t h = inr (inr (inl refl))
good_status c law refusal.WriteFault told input rest w read t h = inr (inr (inr (inl refl)))
good_status c law refusal.Memory told input rest w read t h = inr (inr (inr (inr (inl refl))))

-- ---- what was written, and the bytes

short_read : (source : Source) (input now : InputSeen) → WasRead source input now → IfSome (bytes_at source input) (λ bytes. length bytes ≤ limit)
short_read Nowhere input now h = omega arith
short_read Standard input now h = follows input.left (λ b. ReadOn b now) (λ bytes. length bytes ≤ limit) (λ b p. p.short) h
short_read (Named name) input now h = follows (input.named name) (λ b. ReadOn b now) (λ bytes. length bytes ≤ limit) (λ b p. p.short) h

wrote_good : (c : Contract) (told : Option (List ℕ)) (out now : OutputSeen) → WroteTold c told out now → IfSome told (Good c)
wrote_good c told out now h = follows told (WroteOn c out now) (Good c) (λ b p. answered_good c b p.text p.answered) h

-- ---- the statuses of what words ask for

-- words that ask for something aren't refused
known : (asked : Option Request) (r : Refusal) (F : Request → Type 0) → of_words r asked → is_asked asked F → r ≡ refusal.BadWords → ⊥
known None r F w h same = h
known (Some a) r F w h same = let none : Some a ≡ None = subst (λ (s : Refusal). of_words s (Some a)) same w in cc

long_ended_by : (asked : Option Request) (r : Refusal) (input : InputSeen) (out now : OutputSeen) → (r ≡ refusal.BadWords → ⊥) → if_asked asked (λ a. OfInput (contract_of a) r (told_to a input)) → if_asked asked (λ a. OfOutput (contract_of a) r (told_to a input) out now) → is_asked asked (λ a. IsSomeAnd (told_to a input) (IsTooMany)) → OneOf (2 ∷ 3 ∷ 10 ∷ []) (status_of r)
long_ended_by None r input out now w t k h = absurd h
long_ended_by (Some a) r input out now w t k h = long_status (contract_of a) (lawful a) r (told_to a input) out now w t k h

pub long_ended : (r : Refusal) (words : List (List ℕ)) (input : InputSeen) (out now : OutputSeen) → OfWords r words → InputOf r words input → OutputOf r words input out now → IsInput words input Long → OneOf (2 ∷ 3 ∷ 10 ∷ []) (status_of r)
long_ended r words input out now w t k h = long_ended_by (request words) r input out now (known (request words) r (λ a. IsSomeAnd (told_to a input) (IsTooMany)) w h) t k h

none_ended_by : (asked : Option Request) (r : Refusal) (input : InputSeen) (out now : OutputSeen) → (r ≡ refusal.BadWords → ⊥) → if_asked asked (λ a. OfInput (contract_of a) r (told_to a input)) → if_asked asked (λ a. OfOutput (contract_of a) r (told_to a input) out now) → is_asked asked (λ a. IsSomeAnd (told_to a input) (NoInput (contract_of a))) → OneOf (2 ∷ 3 ∷ 5 ∷ 10 ∷ []) (status_of r)
none_ended_by None r input out now w t k h = absurd h
none_ended_by (Some a) r input out now w t k h = none_status (contract_of a) (lawful a) r (told_to a input) out now w t k h

pub none_ended : (r : Refusal) (words : List (List ℕ)) (input : InputSeen) (out now : OutputSeen) → OfWords r words → InputOf r words input → OutputOf r words input out now → IsInput words input NoInput → OneOf (2 ∷ 3 ∷ 5 ∷ 10 ∷ []) (status_of r)
none_ended r words input out now w t k h = none_ended_by (request words) r input out now (known (request words) r (λ a. IsSomeAnd (told_to a input) (NoInput (contract_of a))) w h) t k h

refused_ended_by : (n : ℕ) (asked : Option Request) (r : Refusal) (input : InputSeen) (out now : OutputSeen) → (r ≡ refusal.BadWords → ⊥) → if_asked asked (λ a. OfInput (contract_of a) r (told_to a input)) → if_asked asked (λ a. OfOutput (contract_of a) r (told_to a input) out now) → is_asked asked (λ a. IsSomeAnd (told_to a input) (RefusedAs n (contract_of a))) → OneOf (2 ∷ 3 ∷ n ∷ 10 ∷ []) (status_of r)
refused_ended_by n None r input out now w t k h = absurd h
refused_ended_by n (Some a) r input out now w t k h = refused_status (contract_of a) (lawful a) n r (told_to a input) out now w t k h

pub refused_ended : (n : ℕ) (r : Refusal) (words : List (List ℕ)) (input : InputSeen) (out now : OutputSeen) → OfWords r words → InputOf r words input → OutputOf r words input out now → IsInput words input (RefusedAs n) → OneOf (2 ∷ 3 ∷ n ∷ 10 ∷ []) (status_of r)
refused_ended n r words input out now w t k h = refused_ended_by n (request words) r input out now (known (request words) r (λ a. IsSomeAnd (told_to a input) (RefusedAs n (contract_of a))) w h) t k h

wide_ended_by : (asked : Option Request) (r : Refusal) (input : InputSeen) (out now : OutputSeen) → (r ≡ refusal.BadWords → ⊥) → if_asked asked (λ a. OfInput (contract_of a) r (told_to a input)) → if_asked asked (λ a. OfOutput (contract_of a) r (told_to a input) out now) → is_asked asked (λ a. IsSomeAnd (told_to a input) (Wide (contract_of a))) → OneOf (2 ∷ 3 ∷ 7 ∷ 8 ∷ 10 ∷ []) (status_of r)
wide_ended_by None r input out now w t k h = absurd h
wide_ended_by (Some a) r input out now w t k h = wide_status (contract_of a) (lawful a) r (told_to a input) out now w t k h

pub wide_ended : (r : Refusal) (words : List (List ℕ)) (input : InputSeen) (out now : OutputSeen) → OfWords r words → InputOf r words input → OutputOf r words input out now → IsInput words input Wide → OneOf (2 ∷ 3 ∷ 7 ∷ 8 ∷ 10 ∷ []) (status_of r)
wide_ended r words input out now w t k h = wide_ended_by (request words) r input out now (known (request words) r (λ a. IsSomeAnd (told_to a input) (Wide (contract_of a))) w h) t k h

good_ended_by : (asked : Option Request) (r : Refusal) (input rest : InputSeen) → (r ≡ refusal.BadWords → ⊥) → if_asked asked (λ a. OfReading r (told_to a input) input rest) → if_asked asked (λ a. OfInput (contract_of a) r (told_to a input)) → is_asked asked (λ a. IsSomeAnd (told_to a input) (ShortGood (contract_of a))) → OneOf (0 ∷ 2 ∷ 8 ∷ 9 ∷ 10 ∷ []) (status_of r)
good_ended_by None r input rest w d t h = absurd h
good_ended_by (Some a) r input rest w d t h = good_status (contract_of a) (lawful a) r (told_to a input) input rest w d t h

pub good_ended : (r : Refusal) (words : List (List ℕ)) (input rest : InputSeen) → OfWords r words → ReadingOf r words input rest → InputOf r words input → IsInput words input ShortGood → OneOf (0 ∷ 2 ∷ 8 ∷ 9 ∷ 10 ∷ []) (status_of r)
good_ended r words input rest w d t h = good_ended_by (request words) r input rest (known (request words) r (λ a. IsSomeAnd (told_to a input) (ShortGood (contract_of a))) w h) d t h

pub long_ran_by : (asked : Option Request) (input now : InputSeen) → is_asked asked (λ a. WasRead (source_of a) input now) → is_asked asked (λ a. IsSomeAnd (told_to a input) (IsTooMany)) → ⊥
long_ran_by None input now h k = k
long_ran_by (Some a) input now h k = clash (told_to a input) (λ bytes. length bytes ≤ limit) IsTooMany (λ b p q. too_many b p q) (short_read (source_of a) input now h) k

pub long_ran : (words : List (List ℕ)) (input now : InputSeen) → IsRead words input now → IsInput words input Long → OneOf (2 ∷ 3 ∷ 10 ∷ []) 0
long_ran words input now h k = absurd (long_ran_by (request words) input now h k)

pub none_ran_by : (asked : Option Request) (input : InputSeen) (out now : OutputSeen) → is_asked asked (λ a. WroteTold (contract_of a) (told_to a input) out now) → is_asked asked (λ a. IsSomeAnd (told_to a input) (NoInput (contract_of a))) → ⊥
none_ran_by None input out now h k = k
none_ran_by (Some a) input out now h k = clash (told_to a input) (Good (contract_of a)) (NoInput (contract_of a)) (λ b p q. (lawful a).kind.some b p.input q p.read) (wrote_good (contract_of a) (told_to a input) out now h) k

pub none_ran : (words : List (List ℕ)) (input : InputSeen) (out now : OutputSeen) → Wrote words input out now → IsInput words input NoInput → OneOf (2 ∷ 3 ∷ 5 ∷ 10 ∷ []) 0
none_ran words input out now h k = absurd (none_ran_by (request words) input out now h k)

pub refused_ran_by : (n : ℕ) (asked : Option Request) (input : InputSeen) (out now : OutputSeen) → is_asked asked (λ a. WroteTold (contract_of a) (told_to a input) out now) → is_asked asked (λ a. IsSomeAnd (told_to a input) (RefusedAs n (contract_of a))) → ⊥
refused_ran_by n None input out now h k = k
refused_ran_by n (Some a) input out now h k = clash (told_to a input) (Good (contract_of a)) (RefusedAs n (contract_of a)) (λ b p q. sound_refused (contract_of a) (lawful a) n b (good_sound (contract_of a) b p) q) (wrote_good (contract_of a) (told_to a input) out now h) k

pub refused_ran : (n : ℕ) (words : List (List ℕ)) (input : InputSeen) (out now : OutputSeen) → Wrote words input out now → IsInput words input (RefusedAs n) → OneOf (2 ∷ 3 ∷ n ∷ 10 ∷ []) 0
refused_ran n words input out now h k = absurd (refused_ran_by n (request words) input out now h k)

pub wide_ran_by : (asked : Option Request) (input : InputSeen) (out now : OutputSeen) → is_asked asked (λ a. WroteTold (contract_of a) (told_to a input) out now) → is_asked asked (λ a. IsSomeAnd (told_to a input) (Wide (contract_of a))) → ⊥
wide_ran_by None input out now h k = k
wide_ran_by (Some a) input out now h k = clash (told_to a input) (Good (contract_of a)) (Wide (contract_of a)) (λ b p q. wide_good (contract_of a) (lawful a) b q p) (wrote_good (contract_of a) (told_to a input) out now h) k

pub wide_ran : (words : List (List ℕ)) (input : InputSeen) (out now : OutputSeen) → Wrote words input out now → IsInput words input Wide → OneOf (2 ∷ 3 ∷ 7 ∷ 8 ∷ 10 ∷ []) 0
wide_ran words input out now h k = absurd (wide_ran_by (request words) input out now h k)

-- ---- what a status says of the bytes

pub says_nothing_by : (asked : Option Request) (r : Refusal) (input : InputSeen) → if_asked asked (λ a. OfInput (contract_of a) r (told_to a input)) → status_of r ≡ 4 → if_asked asked (λ a. IfSome (told_to a input) (Nothing (contract_of a)))
says_nothing_by None r input t e = tt
says_nothing_by (Some a) refusal.BadWords input t e = absurd (omega (arith, e))
says_nothing_by (Some a) refusal.ReadFault input t e = absurd (omega (arith, e))
says_nothing_by (Some a) refusal.TooLong input t e = absurd (omega (arith, e))
says_nothing_by (Some a) refusal.NotJson input t e = follows (told_to a input) (Short (Nothing (contract_of a))) (Nothing (contract_of a)) (λ b p. p.holds) t
says_nothing_by (Some a) refusal.NotJob input t e = absurd (omega (arith, e))
says_nothing_by (Some a) (refusal.Fault line) input t e = absurd (omega (arith, e))
says_nothing_by (Some a) (refusal.TooMany line) input t e = absurd (omega (arith, e))
says_nothing_by (Some a) refusal.Stopped input t e = absurd (omega (arith, e))
says_nothing_by (Some a) refusal.WriteFault input t e = absurd (omega (arith, e))
says_nothing_by (Some a) refusal.Memory input t e = absurd (omega (arith, e))

pub says_nothing : (r : Refusal) (words : List (List ℕ)) (input : InputSeen) → InputOf r words input → status_of r ≡ 4 → IfInput words input Nothing
says_nothing r words input t e = says_nothing_by (request words) r input t e

pub says_none_by : (asked : Option Request) (r : Refusal) (input : InputSeen) → if_asked asked (λ a. OfInput (contract_of a) r (told_to a input)) → status_of r ≡ 5 → if_asked asked (λ a. IfSome (told_to a input) (NoInput (contract_of a)))
says_none_by None r input t e = tt
says_none_by (Some a) refusal.BadWords input t e = absurd (omega (arith, e))
says_none_by (Some a) refusal.ReadFault input t e = absurd (omega (arith, e))
says_none_by (Some a) refusal.TooLong input t e = absurd (omega (arith, e))
says_none_by (Some a) refusal.NotJson input t e = absurd (omega (arith, e))
says_none_by (Some a) refusal.NotJob input t e = follows (told_to a input) (Short (NoInput (contract_of a))) (NoInput (contract_of a)) (λ b p. p.holds) t
says_none_by (Some a) (refusal.Fault line) input t e = absurd (omega (arith, e))
says_none_by (Some a) (refusal.TooMany line) input t e = absurd (omega (arith, e))
says_none_by (Some a) refusal.Stopped input t e = absurd (omega (arith, e))
says_none_by (Some a) refusal.WriteFault input t e = absurd (omega (arith, e))
says_none_by (Some a) refusal.Memory input t e = absurd (omega (arith, e))

pub says_none : (r : Refusal) (words : List (List ℕ)) (input : InputSeen) → InputOf r words input → status_of r ≡ 5 → IfInput words input NoInput
says_none r words input t e = says_none_by (request words) r input t e

pub says_fault_by : (asked : Option Request) (r : Refusal) (input : InputSeen) → if_asked asked (λ a. OfInput (contract_of a) r (told_to a input)) → status_of r ≡ 6 → if_asked asked (λ a. IfSome (told_to a input) (RefusedAs 6 (contract_of a)))
says_fault_by None r input t e = tt
says_fault_by (Some a) refusal.BadWords input t e = absurd (omega (arith, e))
says_fault_by (Some a) refusal.ReadFault input t e = absurd (omega (arith, e))
says_fault_by (Some a) refusal.TooLong input t e = absurd (omega (arith, e))
says_fault_by (Some a) refusal.NotJson input t e = absurd (omega (arith, e))
says_fault_by (Some a) refusal.NotJob input t e = absurd (omega (arith, e))
says_fault_by (Some a) (refusal.Fault line) input t e = follows (told_to a input) (Short (Told (contract_of a) 6 line)) (RefusedAs 6 (contract_of a)) (λ b p. fault_told (contract_of a) line b p.holds) t
says_fault_by (Some a) (refusal.TooMany line) input t e = absurd (omega (arith, e))
says_fault_by (Some a) refusal.Stopped input t e = absurd (omega (arith, e))
says_fault_by (Some a) refusal.WriteFault input t e = absurd (omega (arith, e))
says_fault_by (Some a) refusal.Memory input t e = absurd (omega (arith, e))

pub says_fault : (r : Refusal) (words : List (List ℕ)) (input : InputSeen) → InputOf r words input → status_of r ≡ 6 → IfInput words input (RefusedAs 6)
says_fault r words input t e = says_fault_by (request words) r input t e

pub says_many_by : (asked : Option Request) (r : Refusal) (input : InputSeen) → if_asked asked (λ a. OfInput (contract_of a) r (told_to a input)) → status_of r ≡ 7 → if_asked asked (λ a. IfSome (told_to a input) (TooWide (contract_of a)))
says_many_by None r input t e = tt
says_many_by (Some a) refusal.BadWords input t e = absurd (omega (arith, e))
says_many_by (Some a) refusal.ReadFault input t e = absurd (omega (arith, e))
says_many_by (Some a) refusal.TooLong input t e = absurd (omega (arith, e))
says_many_by (Some a) refusal.NotJson input t e = absurd (omega (arith, e))
says_many_by (Some a) refusal.NotJob input t e = absurd (omega (arith, e))
says_many_by (Some a) (refusal.Fault line) input t e = absurd (omega (arith, e))
says_many_by (Some a) (refusal.TooMany line) input t e = follows (told_to a input) (Short (Told (contract_of a) 7 line)) (TooWide (contract_of a)) (λ b p. many_told (contract_of a) line b p.holds) t
says_many_by (Some a) refusal.Stopped input t e = absurd (omega (arith, e))
says_many_by (Some a) refusal.WriteFault input t e = absurd (omega (arith, e))
says_many_by (Some a) refusal.Memory input t e = absurd (omega (arith, e))

pub says_many : (r : Refusal) (words : List (List ℕ)) (input : InputSeen) → InputOf r words input → status_of r ≡ 7 → IfInput words input TooWide
says_many r words input t e = says_many_by (request words) r input t e

pub says_sound_by : (asked : Option Request) (r : Refusal) (input : InputSeen) → if_asked asked (λ a. OfInput (contract_of a) r (told_to a input)) → status_of r ≡ 8 → if_asked asked (λ a. IfSome (told_to a input) (Sound (contract_of a)))
says_sound_by None r input t e = tt
says_sound_by (Some a) refusal.BadWords input t e = absurd (omega (arith, e))
says_sound_by (Some a) refusal.ReadFault input t e = absurd (omega (arith, e))
says_sound_by (Some a) refusal.TooLong input t e = absurd (omega (arith, e))
says_sound_by (Some a) refusal.NotJson input t e = absurd (omega (arith, e))
says_sound_by (Some a) refusal.NotJob input t e = absurd (omega (arith, e))
says_sound_by (Some a) (refusal.Fault line) input t e = absurd (omega (arith, e))
says_sound_by (Some a) (refusal.TooMany line) input t e = absurd (omega (arith, e))
says_sound_by (Some a) refusal.Stopped input t e = follows (told_to a input) (Short (Sound (contract_of a))) (Sound (contract_of a)) (λ b p. p.holds) t
says_sound_by (Some a) refusal.WriteFault input t e = absurd (omega (arith, e))
says_sound_by (Some a) refusal.Memory input t e = absurd (omega (arith, e))

pub says_sound : (r : Refusal) (words : List (List ℕ)) (input : InputSeen) → InputOf r words input → status_of r ≡ 8 → IfInput words input Sound
says_sound r words input t e = says_sound_by (request words) r input t e

-- ---- a status and its refusal

pub is_stop : (r : Refusal) → status_of r ≡ 8 → r ≡ refusal.Stopped
is_stop refusal.Stopped e = refl
is_stop (refusal.Fault line) e = absurd (omega (arith, e))
is_stop (refusal.TooMany line) e = absurd (omega (arith, e))
is_stop refusal.BadWords e = absurd (omega (arith, e))
is_stop refusal.ReadFault e = absurd (omega (arith, e))
is_stop refusal.TooLong e = absurd (omega (arith, e))
is_stop refusal.NotJson e = absurd (omega (arith, e))
is_stop refusal.NotJob e = absurd (omega (arith, e))
is_stop refusal.WriteFault e = absurd (omega (arith, e))
is_stop refusal.Memory e = absurd (omega (arith, e))

pub is_long : (r : Refusal) → status_of r ≡ 3 → r ≡ refusal.TooLong
is_long refusal.BadWords e = absurd (omega (arith, e))
is_long refusal.ReadFault e = absurd (omega (arith, e))
is_long refusal.TooLong e = refl
is_long refusal.NotJson e = absurd (omega (arith, e))
is_long refusal.NotJob e = absurd (omega (arith, e))
is_long (refusal.Fault line) e = absurd (omega (arith, e))
is_long (refusal.TooMany line) e = absurd (omega (arith, e))
is_long refusal.Stopped e = absurd (omega (arith, e))
is_long refusal.WriteFault e = absurd (omega (arith, e))
is_long refusal.Memory e = absurd (omega (arith, e))

pub status_within : (r : Refusal) → status_of r ≤ 10
status_within refusal.BadWords = omega arith
status_within refusal.ReadFault = omega arith
status_within refusal.TooLong = omega arith
status_within refusal.NotJson = omega arith
status_within refusal.NotJob = omega arith
status_within (refusal.Fault line) = omega arith
status_within (refusal.TooMany line) = omega arith
status_within refusal.Stopped = omega arith
status_within refusal.WriteFault = omega arith
status_within refusal.Memory = omega arith

-- a status is one with which what is asked for may end
may_answer_by : (asked : Option Request) → if_asked asked (λ a. OneOf (contract_of a).statuses 0)
may_answer_by None = tt
may_answer_by (Some a) = (lawful a).answers

pub may_answer : (words : List (List ℕ)) → MayEnd words 0
may_answer words = may_answer_by (request words)

-- one that is stopped is run
stops_by : (asked : Option Request) → IsSome asked → if_asked asked (λ a. OneOf (contract_of a).statuses 8) → is_run asked ≡ true
stops_by None s h = cc
stops_by (Some a) s h = (lawful a).stops h

stopped_known : (r : Refusal) (asked : Option Request) → of_words r asked → status_of r ≡ 8 → IsSome asked
stopped_known refusal.BadWords asked w e = absurd (omega (arith, e))
stopped_known refusal.ReadFault asked w e = w
stopped_known refusal.TooLong asked w e = w
stopped_known refusal.NotJson asked w e = w
stopped_known refusal.NotJob asked w e = w
stopped_known (refusal.Fault line) asked w e = w
stopped_known (refusal.TooMany line) asked w e = w
stopped_known refusal.Stopped asked w e = w
stopped_known refusal.WriteFault asked w e = w
stopped_known refusal.Memory asked w e = w

pub stop_runs : (r : Refusal) (words : List (List ℕ)) → OfWords r words → MayEnd words (status_of r) → status_of r ≡ 8 → asks_run words ≡ true
stop_runs r words w h e = stops_by (request words) (stopped_known r (request words) w e) (subst (λ (n : ℕ). if_asked (request words) (λ a. OneOf (contract_of a).statuses n)) e h)

-- ---- lines

-- the line of a fault is noted
told_follows : (asked : Option Request) (m : ℕ) (line : List ℕ) (input : InputSeen) → if_asked asked (λ a. IfSome (told_to a input) (Short (Told (contract_of a) m line))) → if_asked asked (λ a. IfSome (told_to a input) (Told (contract_of a) m line))
told_follows None m line input h = tt
told_follows (Some a) m line input h = follows (told_to a input) (Short (Told (contract_of a) m line)) (Told (contract_of a) m line) (λ b p. p.holds) h

pub noted_fault : (r : Refusal) (words : List (List ℕ)) (input : InputSeen) (notes now : OutputSeen) → InputOf r words input → Noted (line_of r) notes now → NotedFault (status_of r) words input notes now
noted_fault refusal.BadWords words input notes now t h = λ f. absurd (apart (6 ∷ 7 ∷ []) 1 refl f)
noted_fault refusal.ReadFault words input notes now t h = λ f. absurd (apart (6 ∷ 7 ∷ []) 2 refl f)
noted_fault refusal.TooLong words input notes now t h = λ f. absurd (apart (6 ∷ 7 ∷ []) 3 refl f)
noted_fault refusal.NotJson words input notes now t h = λ f. absurd (apart (6 ∷ 7 ∷ []) 4 refl f)
noted_fault refusal.NotJob words input notes now t h = λ f. absurd (apart (6 ∷ 7 ∷ []) 5 refl f)
noted_fault (refusal.Fault line) words input notes now t h = λ _. record { line = line; told = told_follows (request words) 6 line input t; noted = h }
noted_fault (refusal.TooMany line) words input notes now t h = λ _. record { line = line; told = told_follows (request words) 7 line input t; noted = h }
noted_fault refusal.Stopped words input notes now t h = λ f. absurd (apart (6 ∷ 7 ∷ []) 8 refl f)
noted_fault refusal.WriteFault words input notes now t h = λ f. absurd (apart (6 ∷ 7 ∷ []) 9 refl f)
noted_fault refusal.Memory words input notes now t h = λ f. absurd (apart (6 ∷ 7 ∷ []) 10 refl f)

-- and where there is no refusal, none is
pub no_line : (words : List (List ℕ)) (input : InputSeen) (notes now : OutputSeen) → NotedFault 0 words input notes now
no_line words input notes now = λ f. absurd (apart (6 ∷ 7 ∷ []) 0 refl f)

-- the other lines tell nothing but their status
pub noted_fixed : (r : Refusal) (notes now : OutputSeen) → Noted (line_of r) notes now → IsFixed (status_of r) → Noted (status_line (status_of r)) notes now
noted_fixed refusal.BadWords notes now h f = h
noted_fixed refusal.ReadFault notes now h f = h
noted_fixed refusal.TooLong notes now h f = h
noted_fixed refusal.NotJson notes now h f = h
noted_fixed refusal.NotJob notes now h f = h
noted_fixed (refusal.Fault line) notes now h f = absurd (apart (1 ∷ 2 ∷ 3 ∷ 4 ∷ 5 ∷ 8 ∷ 9 ∷ 10 ∷ []) 6 refl f)
noted_fixed (refusal.TooMany line) notes now h f = absurd (apart (1 ∷ 2 ∷ 3 ∷ 4 ∷ 5 ∷ 8 ∷ 9 ∷ 10 ∷ []) 7 refl f)
noted_fixed refusal.Stopped notes now h f = h
noted_fixed refusal.WriteFault notes now h f = h
noted_fixed refusal.Memory notes now h f = h

-- ---- reading and writing

reading_by : (asked : Option Request) (input now : InputSeen) → IsSome asked → if_asked asked (λ a. OfReading refusal.ReadFault (told_to a input) input now) → ReadFails input now
reading_by None input now s h = cc
reading_by (Some a) input now s h = h

pub says_read_fault : (r : Refusal) (words : List (List ℕ)) (input now : InputSeen) → OfWords r words → ReadingOf r words input now → status_of r ≡ 2 → ReadFails input now
says_read_fault refusal.BadWords words input now w d e = absurd (omega (arith, e))
says_read_fault refusal.ReadFault words input now w d e = reading_by (request words) input now w d
says_read_fault refusal.TooLong words input now w d e = absurd (omega (arith, e))
says_read_fault refusal.NotJson words input now w d e = absurd (omega (arith, e))
says_read_fault refusal.NotJob words input now w d e = absurd (omega (arith, e))
says_read_fault (refusal.Fault line) words input now w d e = absurd (omega (arith, e))
says_read_fault (refusal.TooMany line) words input now w d e = absurd (omega (arith, e))
says_read_fault refusal.Stopped words input now w d e = absurd (omega (arith, e))
says_read_fault refusal.WriteFault words input now w d e = absurd (omega (arith, e))
says_read_fault refusal.Memory words input now w d e = absurd (omega (arith, e))

long_by : (asked : Option Request) (input now : InputSeen) → IsSome asked → if_asked asked (λ a. OfReading refusal.TooLong (told_to a input) input now) → is_asked asked (λ a. IsLongOn (told_to a input) input now)
long_by None input now s h = cc
long_by (Some a) input now s h = h

pub says_long : (r : Refusal) (words : List (List ℕ)) (input now : InputSeen) → OfWords r words → ReadingOf r words input now → status_of r ≡ 3 → IsTooLong words input now
says_long refusal.BadWords words input now w d e = absurd (omega (arith, e))
says_long refusal.ReadFault words input now w d e = absurd (omega (arith, e))
says_long refusal.TooLong words input now w d e = long_by (request words) input now w d
says_long refusal.NotJson words input now w d e = absurd (omega (arith, e))
says_long refusal.NotJob words input now w d e = absurd (omega (arith, e))
says_long (refusal.Fault line) words input now w d e = absurd (omega (arith, e))
says_long (refusal.TooMany line) words input now w d e = absurd (omega (arith, e))
says_long refusal.Stopped words input now w d e = absurd (omega (arith, e))
says_long refusal.WriteFault words input now w d e = absurd (omega (arith, e))
says_long refusal.Memory words input now w d e = absurd (omega (arith, e))

fails_by : (asked : Option Request) (input : InputSeen) (out now : OutputSeen) → IsSome asked → if_asked asked (λ a. OfOutput (contract_of a) refusal.WriteFault (told_to a input) out now) → WriteFails out now
fails_by None input out now s h = cc
fails_by (Some a) input out now s h = h.0

pub says_write_fault : (r : Refusal) (words : List (List ℕ)) (input : InputSeen) (out now : OutputSeen) → OfWords r words → OutputOf r words input out now → status_of r ≡ 9 → WriteFails out now
says_write_fault refusal.BadWords words input out now w k e = absurd (omega (arith, e))
says_write_fault refusal.ReadFault words input out now w k e = absurd (omega (arith, e))
says_write_fault refusal.TooLong words input out now w k e = absurd (omega (arith, e))
says_write_fault refusal.NotJson words input out now w k e = absurd (omega (arith, e))
says_write_fault refusal.NotJob words input out now w k e = absurd (omega (arith, e))
says_write_fault (refusal.Fault line) words input out now w k e = absurd (omega (arith, e))
says_write_fault (refusal.TooMany line) words input out now w k e = absurd (omega (arith, e))
says_write_fault refusal.Stopped words input out now w k e = absurd (omega (arith, e))
says_write_fault refusal.WriteFault words input out now w k e = fails_by (request words) input out now w k
says_write_fault refusal.Memory words input out now w k e = absurd (omega (arith, e))

front_by : (asked : Option Request) (input : InputSeen) (out now : OutputSeen) → IsSome asked → if_asked asked (λ a. OfOutput (contract_of a) refusal.WriteFault (told_to a input) out now) → is_asked asked (λ a. WroteFrontTold (contract_of a) (told_to a input) out now)
front_by None input out now s h = cc
front_by (Some a) input out now s h = h.1

pub says_front : (r : Refusal) (words : List (List ℕ)) (input : InputSeen) (out now : OutputSeen) → OfWords r words → OutputOf r words input out now → status_of r ≡ 9 → WroteFront words input out now
says_front refusal.BadWords words input out now w k e = absurd (omega (arith, e))
says_front refusal.ReadFault words input out now w k e = absurd (omega (arith, e))
says_front refusal.TooLong words input out now w k e = absurd (omega (arith, e))
says_front refusal.NotJson words input out now w k e = absurd (omega (arith, e))
says_front refusal.NotJob words input out now w k e = absurd (omega (arith, e))
says_front (refusal.Fault line) words input out now w k e = absurd (omega (arith, e))
says_front (refusal.TooMany line) words input out now w k e = absurd (omega (arith, e))
says_front refusal.Stopped words input out now w k e = absurd (omega (arith, e))
says_front refusal.WriteFault words input out now w k e = front_by (request words) input out now w k
says_front refusal.Memory words input out now w k e = absurd (omega (arith, e))

unwritten_by : (asked : Option Request) (r : Refusal) (input : InputSeen) (out now : OutputSeen) → IsSome asked → if_asked asked (λ a. OfOutput (contract_of a) r (told_to a input) out now) → (status_of r ≡ 9 → ⊥) → now.written ≡ out.written
unwritten_by None r input out now s h e = cc
unwritten_by (Some a) refusal.BadWords input out now s h e = h
unwritten_by (Some a) refusal.ReadFault input out now s h e = h
unwritten_by (Some a) refusal.TooLong input out now s h e = h
unwritten_by (Some a) refusal.NotJson input out now s h e = h
unwritten_by (Some a) refusal.NotJob input out now s h e = h
unwritten_by (Some a) (refusal.Fault line) input out now s h e = h
unwritten_by (Some a) (refusal.TooMany line) input out now s h e = h
unwritten_by (Some a) refusal.Stopped input out now s h e = h
unwritten_by (Some a) refusal.WriteFault input out now s h e = absurd (e refl)
unwritten_by (Some a) refusal.Memory input out now s h e = h

pub says_unwritten : (r : Refusal) (words : List (List ℕ)) (input : InputSeen) (out now : OutputSeen) → OfWords r words → OutputOf r words input out now → (r ≡ refusal.BadWords → now.written ≡ out.written) → (status_of r ≡ 9 → ⊥) → now.written ≡ out.written
says_unwritten refusal.BadWords words input out now w k u e = u refl
says_unwritten refusal.ReadFault words input out now w k u e = unwritten_by (request words) refusal.ReadFault input out now w k e
says_unwritten refusal.TooLong words input out now w k u e = unwritten_by (request words) refusal.TooLong input out now w k e
says_unwritten refusal.NotJson words input out now w k u e = unwritten_by (request words) refusal.NotJson input out now w k e
says_unwritten refusal.NotJob words input out now w k u e = unwritten_by (request words) refusal.NotJob input out now w k e
says_unwritten (refusal.Fault line) words input out now w k u e = unwritten_by (request words) (refusal.Fault line) input out now w k e
says_unwritten (refusal.TooMany line) words input out now w k u e = unwritten_by (request words) (refusal.TooMany line) input out now w k e
says_unwritten refusal.Stopped words input out now w k u e = unwritten_by (request words) refusal.Stopped input out now w k e
says_unwritten refusal.WriteFault words input out now w k u e = unwritten_by (request words) refusal.WriteFault input out now w k e
says_unwritten refusal.Memory words input out now w k u e = unwritten_by (request words) refusal.Memory input out now w k e
