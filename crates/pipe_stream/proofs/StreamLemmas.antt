-- How a stream begins and ends.
use Rattle.std.proofs.Common.{◌≡◌, ◌≤◌, ◌<◌, ℕ, zero, suc, lt-suc_self, ◌+◌, ◌^◌, Bool, true, false, true≢false, List, [], ◌∷◌, ◌++◌, Result, Ok, Err, OnOk, flat_map, sym, refl, ap, ◌∙◌, subst, arith}
use Rattle.pipe_stream.specs.Outside.{OutputSeen, Writes}
use Rattle.pipe_stream.specs.Blocks.{block_count, block_text, blocks_from, Describes, IsBlockOrder}
use Rattle.pipe_stream.specs.Messages.{script}
use Rattle.pipe_stream.specs.Hands.{MayTake, hand, taker, view_of}
use Rattle.pipe_stream.specs.Desk.{AllFollow, OrderFails, Standing, Stands, Steps, Streamed}
use Rattle.pipe_stream.specs.declared.hands.View.{View}
use Rattle.pipe_stream.specs.declared.outcome.Report.{Report}
use Rattle.pipe_stream.specs.declared.outcome.StreamError.{StreamError}
use Rattle.pipe_stream.specs.declared.outcome.StreamError.TheVariants as error
use Rattle.pipe_stream.specs.declared.progress.Progress.{Progress}
use Rattle.pipe_stream.proofs.LineLemmas.{count_within}
use Rattle.pipe_stream.proofs.StepLemmas.{error_in, own_memory}

-- nothing is put
abbrev pub nothing_put : Bool → Bool → Progress
nothing_put even odd = record {
  order = [];
  even = record { started = even; ended = false; next = 0 };
  odd = record { started = odd; ended = false; next = 0 };
}

-- both workers' messages are to come
abbrev pub all_due : (ℕ → List ℕ) → ℕ → View
all_due text count = view_of (taker (script text count false 0)) (taker (script text count true 0))

standing_first : (text : ℕ → List ℕ) (count : ℕ) (even odd : Bool) → Standing text count (nothing_put even odd) (all_due text count)
standing_first text count even odd true = record { follows = refl; comes = refl; over = λ e. absurd (true≢false (sym e)) }
standing_first text count even odd false = record { follows = refl; comes = refl; over = λ e. absurd (true≢false (sym e)) }

pub starts : (text : ℕ → List ℕ) (count : ℕ) (even odd : Bool) (p : Progress) (v : View) → p ≡ nothing_put even odd → v ≡ all_due text count → Standing text count p v
starts text count even odd p v e w = subst (λ q. Standing text count q v) (sym e) (subst (λ u. Standing text count (nothing_put even odd) u) (sym w) (standing_first text count even odd))

pub may_start : (text : ℕ → List ℕ) (count : ℕ) (v : View) → v ≡ all_due text count → MayTake v
may_start text count v w = subst (λ u. MayTake u) (sym w) (refl, refl)

follow_first : (count : ℕ) (even odd : Bool) → AllFollow count (nothing_put even odd)
follow_first count even odd true = refl
follow_first count even odd false = refl

fits_by : (count height : ℕ) → ((n : ℕ) → n < count → n < height) → height ≤ 4294967294 → count < 2 ^ 32
fits_by zero height h few = omega arith
fits_by (suc n) height h few = let k : n < height = h n (lt-suc_self n) in omega (arith, k, few)

pub count_fits : (text : ℕ → List ℕ) (count : ℕ) (line : ℕ → List ℕ) (height rows : ℕ) → Describes text count line height rows → count < 2 ^ 32
count_fits text count line height rows d = fits_by count height (λ n h. count_within height rows n count d.some d.count_is h) d.few

abbrev ended_well : Result Report StreamError → Bool
ended_well (Ok report) = false
ended_well (Err e) = true

pub streamed_all : {X : Type 0} (x : X) (text : ℕ → List ℕ) (count : ℕ) (p p' : Progress) (even odd : Bool) (out now : OutputSeen) → p ≡ nothing_put even odd → IsBlockOrder count p'.order
    → Steps text count p.order p'.order out now (Ok x) → Streamed text count out now (Ok (record { order = p'.order }))
streamed_all x text count p p' even odd out now e whole s =
    let w = s.wrote in
    let is : p'.order ≡ w.0 = w.1 ∙ ap (λ (q : Progress). q.order ++ w.0) e in
    record {
      order = whole;
      put = subst (λ o. Writes (flat_map text o) out now) (sym is) w.2;
      front = tt;
      fault = λ q. absurd (true≢false (sym (ap ended_well q)));
      faults = s.faults;
    }

pub streamed_part : {X : Type 0} (text : ℕ → List ℕ) (count : ℕ) (p : Progress) (after : List ℕ) (even odd : Bool) (out now : OutputSeen) (e : StreamError) → p ≡ nothing_put even odd
    → Steps {X = X} text count p.order after out now (Err e) → Streamed text count out now (Err e)
streamed_part text count p after even odd out now e is s = record {
  order = tt;
  put = tt;
  front = subst (λ (q : Progress). OrderFails text count q.order out now) is s.fails;
  fault = λ q. s.cause (ap (λ x. Err x) (ap (error_in e) q));
  faults = s.faults;
}

pub streamed_none : (text : ℕ → List ℕ) (count : ℕ) (out : OutputSeen) → Streamed text count out out (Err error.Memory)
streamed_none text count out =
    streamed_part text count (nothing_put true true) [] true true out out error.Memory refl (own_memory {X = Bool} text count (nothing_put true true) out (follow_first count true true))
