-- The numbers of sinks.
use Rattle.std.proofs.Common.{◌≡◌, ℕ, suc, ◌<◌, true, false, cond, ◌==◌, List, [], ◌∷◌, ◌++◌, length, map, refl, sym, ap, subst, ◌∙◌, arith}
use Rattle.std.specs.List.{flat_map, AllByRecursion}
use Rattle.pipe_driver.specs.declared.branch.SinkAt.{SinkAt}
use Rattle.pipe_driver.specs.declared.branch.SinkAt.TheVariants as at
use Rattle.pipe_driver.specs.declared.branch.SinkNode.{SinkNode}
use Rattle.pipe_driver.specs.declared.branch.Branch.{Branch}
use Rattle.pipe_driver.specs.Branches.{eq_sink, is_named, add_named, number_of, branches}
use Rattle.pipe_driver.specs.BranchLaws.{sinks_of, all_sinks, first_named, AreNumberedBy}
use Rattle.pipe_driver.proofs.BranchNumbers.{numbered-as-named}
use Rattle.pipe_driver.specs.Meaning.{Meaning, meaning_of}
use Rattle.pipe_driver.specs.Legs.{sink_node, legs_from, way_of}
use Rattle.pipe_driver.specs.Ways.{IsSinkOf, AreLegs, IsWay, IsSoundMeaning}
use Rattle.pipe_driver.specs.Numbers.{place_among, named_sinks, HasNumber, SinksAreToldApart, SinksHaveNumbers}
use Rattle.pipe_driver.proofs.Tests.{by_test, eq-is, eq-true, eq-false, all-append}
use Rattle.pipe_driver.proofs.Runnable.{are_chains}
use Rattle.pipe_driver.proofs.Sounds.{are_sound}

place_here : (o : ℕ) (a : SinkAt) (ats : List SinkAt) (s : ℕ) → (s == sink_node o a) ≡ true → place_among o (a ∷ ats) s ≡ 0
place_here o a ats s e = ap (λ c. cond c 0 (suc (place_among o ats s))) e

place_behind : (o : ℕ) (a : SinkAt) (ats : List SinkAt) (s : ℕ) → (s == sink_node o a) ≡ false → place_among o (a ∷ ats) s ≡ suc (place_among o ats s)
place_behind o a ats s e = ap (λ c. cond c 0 (suc (place_among o ats s))) e

apart : (o : ℕ) (ats : List SinkAt) (s t : ℕ) → place_among o ats s < length ats → place_among o ats t ≡ place_among o ats s → t ≡ s
apart o [] s t lt e = absurd (omega arith)
apart o (a ∷ ats) s t lt e =
    by_test (t ≡ s) (s == sink_node o a)
    (λ hs. by_test (t ≡ s) (t == sink_node o a)
    (λ ht. eq-is t (sink_node o a) ht ∙ sym (eq-is s (sink_node o a) hs))
    (λ ht. (let a0 = place_here o a ats s hs in let b0 = place_behind o a ats t ht in absurd (omega arith))))
    (λ hs. by_test (t ≡ s) (t == sink_node o a)
    (λ ht. (let a0 = place_behind o a ats s hs in let b0 = place_here o a ats t ht in absurd (omega arith)))
    (λ ht. (let a0 = place_behind o a ats s hs in let b0 = place_behind o a ats t ht in apart o ats s t (omega arith) (omega arith))))

pub told_apart : SinksAreToldApart
told_apart plan root s t lt e = apart (length plan.nodes) (named_sinks plan root) s t lt e

-- a sink that goes by its number
abbrev Goes : Meaning → SinkAt → Type 0
Goes m a = IsSinkOf m (sink_node m.ordered a) a

abbrev GoesAt : Meaning → SinkNode → Type 0
GoesAt m sink = Goes m sink.at

same_test : (m : Meaning) → IsSoundMeaning m → (a b : SinkAt) → Goes m a → Goes m b → eq_sink a b ≡ (sink_node m.ordered a == sink_node m.ordered b)
same_test m sound at.Ordered at.Ordered ha hb = sym (eq-true m.ordered m.ordered refl)
same_test m sound at.Ordered (at.Sort k) ha hb = sym (eq-false m.ordered k (λ e. (let l = sound.low_sort k hb.1 in omega arith)))
same_test m sound at.Ordered (at.Build k) ha hb = sym (eq-false m.ordered k (λ e. (let l = sound.low_join k hb.1 in omega arith)))
same_test m sound (at.Sort n) at.Ordered ha hb = sym (eq-false n m.ordered (λ e. (let l = sound.low_sort n ha.1 in omega arith)))
same_test m sound (at.Sort n) (at.Sort k) ha hb = refl
same_test m sound (at.Sort n) (at.Build k) ha hb = sym (eq-false n k (λ e. sound.apart n ha.1 (ap m.is_join e ∙ hb.1)))
same_test m sound (at.Build n) at.Ordered ha hb = sym (eq-false n m.ordered (λ e. (let l = sound.low_join n ha.1 in omega arith)))
same_test m sound (at.Build n) (at.Sort k) ha hb = sym (eq-false n k (λ e. sound.apart n (ap m.is_sort e ∙ hb.1) ha.1))
same_test m sound (at.Build n) (at.Build k) ha hb = refl

number_same : (m : Meaning) → IsSoundMeaning m → (ats : List SinkAt) (a : SinkAt) → AllByRecursion (Goes m) ats → Goes m a → number_of ats a ≡ place_among m.ordered ats (sink_node m.ordered a)
number_same m sound [] a all ha = refl
number_same m sound (b ∷ ats) a all ha =
    ap (λ c. cond c 0 (suc (number_of ats a))) (same_test m sound a b ha all.0)
    ∙ ap (λ n. cond (sink_node m.ordered a == sink_node m.ordered b) 0 (suc n)) (number_same m sound ats a all.1 ha)

added_all : (P : SinkAt → Type 0) (named : List SinkAt) (a : SinkAt) → AllByRecursion P named → P a → AllByRecursion P (add_named named a)
added_all P named a all h =
    by_test (AllByRecursion P (add_named named a)) (is_named named a)
    (λ e. subst (AllByRecursion P) (sym (ap (λ c. cond c named (named ++ a ∷ [])) e)) all)
    (λ e. subst (AllByRecursion P) (sym (ap (λ c. cond c named (named ++ a ∷ [])) e)) (all-append P named (a ∷ []) all (h, tt)))

named_all : (P : SinkAt → Type 0) (named : List SinkAt) (sinks : List SinkNode) → AllByRecursion P named → AllByRecursion (λ s. P s.at) sinks → AllByRecursion P (first_named named sinks)
named_all P named [] all h = all
named_all P named (s ∷ sinks) all h = named_all P (add_named named s.at) sinks (added_all P named s.at all h.0) h.1

numbered_all : (m : Meaning) → IsSoundMeaning m → (named : List SinkAt) (sinks : List SinkNode) → AllByRecursion (Goes m) named → AllByRecursion (GoesAt m) sinks → AreNumberedBy named sinks → AllByRecursion (HasNumber m.ordered named) sinks
numbered_all m sound named [] all h numbers = tt
numbered_all m sound named (s ∷ sinks) all h numbers =
    (record { is = numbers.0 ∙ number_same m sound named s.at all h.0; there = numbers.1 }, numbered_all m sound named sinks all h.1 numbers.2)

legs_sinks : (m : Meaning) (start : ℕ) (operators : List ℕ) (first : ℕ) (sinks : List SinkNode) → AreLegs m start (legs_from m.ordered operators first sinks) → AllByRecursion (GoesAt m) sinks
legs_sinks m start operators first [] h = tt
legs_sinks m start operators first (s ∷ sinks) h = (h.0.at, legs_sinks m (sink_node m.ordered s.at) operators s.offset sinks h.1)

ways_sinks : (m : Meaning) (bs : List Branch) → AllByRecursion (IsWay m) (map (way_of m.ordered) bs) → AllByRecursion (GoesAt m) (flat_map sinks_of bs)
ways_sinks m [] h = tt
ways_sinks m (b ∷ bs) h = all-append (GoesAt m) b.sinks (flat_map sinks_of bs) (legs_sinks m b.source b.operators 0 b.sinks h.0.legs) (ways_sinks m bs h.1)

pub have_numbers : SinksHaveNumbers
have_numbers plan root well =
    let m = meaning_of plan root in
    let goes = ways_sinks m (branches plan root) (are_chains plan root well) in
    numbered_all m (are_sound plan root well) (named_sinks plan root) (all_sinks plan root) (named_all (Goes m) [] (all_sinks plan root) tt goes) goes (numbered-as-named plan root)
