-- Steps that are written one after another.
use Rattle.std.proofs.Common.{◌≡◌, ◌<◌, ◌≤◌, ◌+◌, ℕ, List, [], ◌∷◌, ◌++◌, length, drop, Bool, true, false, String, ◌==◌, true≢false, Result, Ok, Err, refl, sym, ap, ◌∙◌, subst, arith}
use Rattle.std.proofs.lemmas.Bool.Decides.{Decides-eqb}
use Rattle.std.proofs.lemmas.List.{append-nil, append_assoc, drop_all}
use Rattle.std.specs.Prelude.{OnOk, string_bytes}
use Rattle.std.specs.declared.alloc.Global.{Global}
use Rattle.pipe_why_text.specs.Places.{Appends, AreStepTexts, IsPlaceText, IsStepText}
use Rattle.pipe_why_text.specs.Writing.{Writing}
use Rattle.pipe_why_text.specs.declared.steps.Step.{Step}

pub begun : (out : String Global) (all : List Step) → Writing out out true all all
begun out all = record { text = []; bytes = sym (append-nil (string_bytes out)); more = λ t h. h }

pub one_step : (old mid new : String Global) (is_first : Bool) (s : Step) (left all : List Step)
    → Writing old mid is_first (s ∷ left) all → Appends (IsStepText is_first s) mid new → Writing old new false left all
one_step old mid new is_first s left all w a = record {
  text = w.text ++ a.0;
  bytes = a.1 ∙ ap (λ (b : List ℕ). b ++ a.0) w.bytes ∙ append_assoc (string_bytes old) w.text a.0;
  more = λ t h. subst (λ (u : List ℕ). AreStepTexts true all u) (sym (append_assoc w.text a.0 t)) (w.more (a.0 ++ t) (a.0, t, refl, a.2, h));
}

place_of : (all : List Step) (text : List ℕ) → 0 < length all → AreStepTexts true all text → IsPlaceText all text
place_of [] text some h = absurd (omega (arith, some))
place_of (s ∷ steps) text some h = h

pub done : (old out : String Global) (is_first : Bool) (i : ℕ) (all : List Step) → 0 < length all → length all ≤ i
    → Writing old out is_first (drop i all) all → Appends (IsPlaceText all) old out
done old out is_first i all some over w =
    let left : drop i all ≡ [] = drop_all i all over in
    let w' : Writing old out is_first [] all = subst (λ (l : List Step). Writing old out is_first l all) left w in
    (w'.text, w'.bytes, place_of all w'.text some (subst (λ (t : List ℕ). AreStepTexts true all t) (append-nil w'.text) (w'.more [] refl)))

pub some_of : (all : List Step) → (length all == 0) ≡ false → 0 < length all
some_of [] h = absurd (true≢false h)
some_of (s ∷ steps) h = omega arith

pub none_of : (all : List Step) → (length all == 0) ≡ true → [] ≡ all
none_of [] h = refl
none_of (s ∷ steps) h = absurd (omega (arith, (Decides-eqb (length (s ∷ steps)) 0).0 h))

-- texts that are appended one after another
pub appended_twice : (old a b m r : List ℕ) → m ≡ old ++ a → r ≡ m ++ b → r ≡ old ++ (a ++ b)
appended_twice old a b m r one two = two ∙ ap (λ (l : List ℕ). l ++ b) one ∙ append_assoc old a b

pub appended_thrice : (old a b c m n r : List ℕ) → m ≡ old ++ a → n ≡ m ++ b → r ≡ n ++ c → r ≡ old ++ (a ++ b ++ c)
appended_thrice old a b c m n r one two three = three ∙ ap (λ (l : List ℕ). l ++ c) (appended_twice old a b m n one two) ∙ append_assoc old (a ++ b) c

pub on_ok : {X E A B : Type 0} (r : Result X E) → (A → B) → OnOk r A → OnOk r B
on_ok (Ok x) f a = f a
on_ok (Err e) f a = tt
