-- What the caller's steps leave.
use Rattle.std.proofs.Common.{◌≡◌, ◌≤◌, ◌<◌, ℕ, ◌+◌, ◌-◌, ◌^◌, Bool, true, false, true≢false, not, ◌&&◌, ◌||◌, List, [], ◌∷◌, ◌++◌, Result, Ok, Err, OnOk, sym, refl, ap, ◌∙◌, subst, arith, le_refl, le_trans}
use Rattle.pipe_schema.specs.Counts.{Rises}
use Rattle.pipe_stream.specs.Outside.{OutputSeen, WriteFails, Writes, WritesFront}
use Rattle.pipe_stream.proofs.WholeLemmas.{rises_later}
use Rattle.pipe_stream.specs.Blocks.{block_text, blocks_from, is_of, Describes, IsBlockOrder}
use Rattle.pipe_stream.specs.Messages.{Begins}
use Rattle.pipe_stream.specs.Hands.{MayTake, Takes, hand, taken}
use Rattle.pipe_stream.specs.Desk.{AllFollow, OrderFails, Puts, Reaches, Rests, Standing, Steps, Wrote, put_on, share, with_share}
use Rattle.pipe_stream.specs.declared.message.Message.{Message}
use Rattle.pipe_stream.specs.declared.message.News.{News}
use Rattle.pipe_stream.specs.declared.message.News.TheVariants as news
use Rattle.pipe_stream.specs.declared.hands.View.{View}
use Rattle.pipe_stream.specs.declared.outcome.StreamError.{StreamError}
use Rattle.pipe_stream.specs.declared.outcome.StreamError.TheVariants as error
use Rattle.pipe_stream.specs.declared.progress.Progress.{Progress}
use Rattle.pipe_stream.proofs.LineLemmas.{count_within}
use Rattle.pipe_stream.proofs.BlockLemmas.{blocks-end, blocks-own}
use Rattle.pipe_stream.proofs.DeskLemmas.{Got, all_follow, appends_none, fails_later, fails_now, fails_put, follows_put, follows_skip, got, order_whole, stands_over, stands_put, wrote_later, wrote_none, wrote_one}

abbrev fault_in : {X : Type 0} → Result X StreamError → Bool
fault_in (Ok x) = false
fault_in (Err error.PutFault) = true
fault_in (Err error.Memory) = false

abbrev pub error_in : {X : Type 0} → StreamError → Result X StreamError → StreamError
error_in e (Ok x) = e
error_in e (Err x) = x

-- ---- a text is put

pub puts_none : {X : Type 0} (t : List ℕ) (odd : Bool) (number : ℕ) (p p' : Progress) (out : OutputSeen) → Puts {X = X} t odd number p p' out out (Err error.Memory)
puts_none t odd number p p' out = record {
  placed = tt;
  writes = tt;
  front = (0, appends_none out.written);
  cause = λ e. absurd (true≢false (sym (ap fault_in e)));
  faults = le_refl out.faults;
}

pub puts_all : {X : Type 0} (x : X) (t : List ℕ) (odd : Bool) (number : ℕ) (p p' : Progress) (out now : OutputSeen) → p' ≡ put_on odd number p → Writes t out now → out.faults ≤ now.faults
    → Puts t odd number p p' out now (Ok x)
puts_all x t odd number p p' out now e w f = record { placed = e; writes = w; front = tt; cause = λ e. absurd (true≢false (sym (ap fault_in e))); faults = f }

pub puts_front : {X : Type 0} (t : List ℕ) (odd : Bool) (number : ℕ) (p p' : Progress) (out now : OutputSeen) → WritesFront t out now → WriteFails out now → out.faults ≤ now.faults
    → Puts {X = X} t odd number p p' out now (Err error.PutFault)
puts_front t odd number p p' out now w c f = record { placed = tt; writes = tt; front = w; cause = λ e. c; faults = f }

order_put : (odd : Bool) (number : ℕ) (p : Progress) → (put_on odd number p).order ≡ p.order ++ number ∷ []
order_put true number p = refl
order_put false number p = refl

-- ---- a block of a worker that has no thread

pub number_fits : (text : ℕ → List ℕ) (count : ℕ) (line : ℕ → List ℕ) (height rows number : ℕ) → Describes text count line height rows → number < count → number + 1 < 2 ^ 32
number_fits text count line height rows number d h = let k = count_within height rows number count d.some d.count_is h in let f = d.few in omega (arith, k, f)

pub own_memory : {X : Type 0} (text : ℕ → List ℕ) (count : ℕ) (p : Progress) (out : OutputSeen) → AllFollow count p → Steps {X = X} text count p.order p.order out out (Err error.Memory)
own_memory text count p out f = record { wrote = tt; fails = fails_now text count p out f; cause = λ e. absurd (true≢false (sym (ap fault_in e))); faults = le_refl out.faults }

steps_by : {X : Type 0} (text : ℕ → List ℕ) (count : ℕ) (odd : Bool) (number : ℕ) (t : List ℕ) (p p' : Progress) (out now : OutputSeen) (r : Result X StreamError) → AllFollow count p
    → blocks_from odd (share odd p).next count ≡ number ∷ blocks_from odd (number + 1) count → t ≡ text number → Puts t odd number p p' out now r → Steps text count p.order p'.order out now r
steps_by text count odd number t p p' out now (Ok x) f rest e s = record {
  wrote = subst (λ o. Wrote text p.order o out now) (sym (ap (λ (q : Progress). q.order) s.placed ∙ order_put odd number p)) (wrote_one text p.order number t out now e s.writes);
  fails = tt;
  cause = λ e. absurd (true≢false (sym (ap fault_in e)));
  faults = s.faults;
}
steps_by text count odd number t p p' out now (Err x) f rest e s = record { wrote = tt; fails = fails_put text count p odd number t out now f rest e s.front; cause = s.cause; faults = s.faults }

rest_at : (count : ℕ) (odd : Bool) (number : ℕ) (p : Progress) → (share odd p).next ≡ number → number < count → is_of odd number ≡ true → blocks_from odd (share odd p).next count ≡ number ∷ blocks_from odd (number + 1) count
rest_at count odd number p n h own = ap (λ k. blocks_from odd k count) n ∙ blocks-own odd number count h own

pub own_steps : {X : Type 0} (text : ℕ → List ℕ) (count : ℕ) (line : ℕ → List ℕ) (height rows : ℕ) (odd : Bool) (number : ℕ) (t : List ℕ) (p p' : Progress) (out now : OutputSeen) (r : Result X StreamError)
    → Describes text count line height rows → number < count → is_of odd number ≡ true → (share odd p).next ≡ number → AllFollow count p → t ≡ block_text line height rows number
    → Puts t odd number p p' out now r → Steps text count p.order p'.order out now r
own_steps text count line height rows odd number t p p' out now r d h own n f e s =
    steps_by text count odd number t p p' out now r f (rest_at count odd number p n h own) (e ∙ sym (ap (λ (g : ℕ → List ℕ). g number) d.text_is)) s

reaches_put : (count : ℕ) (odd : Bool) (number : ℕ) (p : Progress) → AllFollow count (put_on odd number p) → Reaches count odd (number + 1) p (put_on odd number p)
reaches_put count true number p f = record { next_is = refl; other = refl; follow = f }
reaches_put count false number p f = record { next_is = refl; other = refl; follow = f }

pub own_reaches : {X : Type 0} (count : ℕ) (odd : Bool) (number : ℕ) (t : List ℕ) (p p' : Progress) (out now : OutputSeen) (r : Result X StreamError) → number < count → is_of odd number ≡ true
    → (share odd p).next ≡ number → AllFollow count p → Puts t odd number p p' out now r → OnOk r (Reaches count odd (number + 1) p p')
own_reaches count odd number t p p' out now (Ok x) h own n f s =
    subst (λ q. Reaches count odd (number + 1) p q) (sym s.placed) (reaches_put count odd number p (follows_put count p odd number f (rest_at count odd number p n h own) own))
own_reaches count odd number t p p' out now (Err x) h own n f s = tt

reaches_skip : (count : ℕ) (odd : Bool) (number : ℕ) (p : Progress) → AllFollow count (with_share odd (record (share odd p) { next = number + 1 }) p)
    → Reaches count odd (number + 1) p (with_share odd (record (share odd p) { next = number + 1 }) p)
reaches_skip count true number p f = record { next_is = refl; other = refl; follow = f }
reaches_skip count false number p f = record { next_is = refl; other = refl; follow = f }

pub skip_reaches : (count : ℕ) (odd : Bool) (number : ℕ) (p p' : Progress) → number < count → is_of odd number ≡ false → (share odd p).next ≡ number → AllFollow count p
    → p' ≡ with_share odd (record (share odd p) { next = number + 1 }) p → Reaches count odd (number + 1) p p'
skip_reaches count odd number p p' h own n f e =
    subst (λ q. Reaches count odd (number + 1) p q) (sym e) (reaches_skip count odd number p (follows_skip count p odd number f n h own))

order_skip : (odd : Bool) (next : ℕ) (p : Progress) → (with_share odd (record (share odd p) { next = next }) p).order ≡ p.order
order_skip true next p = refl
order_skip false next p = refl

pub steps_none : {X : Type 0} (x : X) (text : ℕ → List ℕ) (count : ℕ) (order : List ℕ) (out : OutputSeen) → Steps text count order order out out (Ok x)
steps_none x text count order out = record { wrote = wrote_none text order out; fails = tt; cause = λ e. absurd (true≢false (sym (ap fault_in e))); faults = le_refl out.faults }

pub skip_steps : {X : Type 0} (x : X) (text : ℕ → List ℕ) (count : ℕ) (odd : Bool) (next : ℕ) (p p' : Progress) (out : OutputSeen) → p' ≡ with_share odd (record (share odd p) { next = next }) p
    → Steps text count p.order p'.order out out (Ok x)
skip_steps x text count odd next p p' out e =
    subst (λ o. Steps text count p.order o out out (Ok x)) (sym (ap (λ (q : Progress). q.order) e ∙ order_skip odd next p)) (steps_none x text count p.order out)

-- ---- one step after others

pub steps_on : {X Y : Type 0} (x : X) (text : ℕ → List ℕ) (count : ℕ) (a b c : List ℕ) (out mid now : OutputSeen) (r : Result Y StreamError) → Steps text count a b out mid (Ok x)
    → Steps text count b c mid now r → Steps text count a c out now r
steps_on x text count a b c out mid now (Ok y) s k = record {
  wrote = wrote_later text a b c out mid now s.wrote k.wrote;
  fails = tt;
  cause = λ e. absurd (true≢false (sym (ap fault_in e)));
  faults = le_trans s.faults k.faults;
}
steps_on x text count a b c out mid now (Err y) s k = record {
  wrote = tt;
  fails = fails_later text count a b out mid now s.wrote k.fails;
  cause = λ e. rises_later out.faults mid.faults now.faults s.faults (k.cause e);
  faults = le_trans s.faults k.faults;
}

pub steps_end : {X Y : Type 0} (x : X) (y : Y) (text : ℕ → List ℕ) (count : ℕ) (a b : List ℕ) (out now : OutputSeen) → Steps text count a b out now (Ok x) → Steps text count a b out now (Ok y)
steps_end x y text count a b out now s = record { wrote = s.wrote; fails = tt; cause = λ e. absurd (true≢false (sym (ap fault_in e))); faults = s.faults }

pub steps_fail : {X Y : Type 0} (text : ℕ → List ℕ) (count : ℕ) (a b c : List ℕ) (out now : OutputSeen) (e : StreamError) → Steps {X = X} text count a b out now (Err e) → Steps {X = Y} text count a c out now (Err e)
steps_fail text count a b c out now e s = record { wrote = tt; fails = s.fails; cause = λ q. s.cause (ap (λ x. Err x) (ap (error_in e) q)); faults = s.faults }

-- ---- the blocks of a worker that has no thread

pub reached : (count : ℕ) (odd : Bool) (p : Progress) → AllFollow count p → Reaches count odd (share odd p).next p p
reached count odd p f = record { next_is = refl; other = refl; follow = f }

pub reaches_on : (count : ℕ) (odd : Bool) (m n : ℕ) (p q q' : Progress) → Reaches count odd m p q → Reaches count odd n q q' → Reaches count odd n p q'
reaches_on count odd m n p q q' r s = record { next_is = s.next_is; other = s.other ∙ r.other; follow = s.follow }

pub rests_now : (count : ℕ) (odd : Bool) (p : Progress) → AllFollow count p → blocks_from odd (share odd p).next count ≡ [] → Rests count odd p p
rests_now count odd p f none = record { none = none; other = refl; follow = f }

pub rests_after : (count : ℕ) (odd : Bool) (n : ℕ) (p q : Progress) → Reaches count odd n p q → count ≤ n → Rests count odd p q
rests_after count odd n p q r h = record { none = ap (λ k. blocks_from odd k count) r.next_is ∙ blocks-end odd n count h; other = r.other; follow = r.follow }

pub over_other : (count : ℕ) (p q : Progress) → Rests count false p q → ((odd : Bool) → (share odd p).started ≡ true → blocks_from odd (share odd p).next count ≡ [])
    → (share true q).started ≡ true → blocks_from true (share true q).next count ≡ []
over_other count p q r over s = subst (λ h. h.started ≡ true → blocks_from true h.next count ≡ []) (sym r.other) (over true) s

both_rest : (count : ℕ) (p q q' : Progress) → Rests count false p q → Rests count true q q' → (odd : Bool) → blocks_from odd (share odd q').next count ≡ []
both_rest count p q q' r s true = s.none
both_rest count p q q' r s false = subst (λ h. blocks_from false h.next count ≡ []) (sym s.other) r.none

pub whole_order : {X : Type 0} (count : ℕ) (p q q' : Progress) (r : Result X StreamError) → Rests count false p q → OnOk r (Rests count true q q') → OnOk r (IsBlockOrder count q'.order)
whole_order count p q q' (Ok x) a b = order_whole count q' b.follow (both_rest count p q q' a b)
whole_order count p q q' (Err x) a b = tt

-- ---- messages

pub taken_none : (text : ℕ → List ℕ) (count : ℕ) (p : Progress) (v w : View) → w ≡ v → Standing text count p v → Standing text count p w
taken_none text count p v w e st = subst (λ u. Standing text count p u) (sym e) st

pub may_same : (v w : View) → w ≡ v → MayTake v → MayTake w
may_same v w e may = subst (λ u. MayTake u) (sym e) may

pub taken_as : (v w : View) (m : Message) (n : News) → m.news ≡ n → Takes v m w → Takes v (record { odd = m.odd; news = n }) w
taken_as v w m n e k = subst (λ x. Takes v (record { odd = m.odd; news = x }) w) e k

got_it : (text : ℕ → List ℕ) (count : ℕ) (p : Progress) (v w : View) (odd : Bool) (number : ℕ) (t : List ℕ) → Standing text count p v → Takes v (record { odd = odd; news = news.Block number t }) w
    → Got text count odd (share odd p) number t (hand odd v).due
got_it text count p v w odd number t st k = got text count p.order odd (share odd p) number t (hand odd v).due (st odd) (k.1 refl)

pub block_fits : (text : ℕ → List ℕ) (count : ℕ) (p : Progress) (v w : View) (odd : Bool) (number : ℕ) (t : List ℕ) → count < 2 ^ 32 → Standing text count p v
    → Takes v (record { odd = odd; news = news.Block number t }) w → number + 1 < 2 ^ 32
block_fits text count p v w odd number t few st k = let g = (got_it text count p v w odd number t st k).within in omega (arith, g, few)

pub block_steps : {X : Type 0} (text : ℕ → List ℕ) (count : ℕ) (p p' : Progress) (v w : View) (odd : Bool) (number : ℕ) (t : List ℕ) (out now : OutputSeen) (r : Result X StreamError) → Standing text count p v
    → Takes v (record { odd = odd; news = news.Block number t }) w → Puts t odd number p p' out now r → Steps text count p.order p'.order out now r
block_steps text count p p' v w odd number t out now r st k s =
    let g = got_it text count p v w odd number t st k in steps_by text count odd number t p p' out now r (all_follow text count p v st) g.rest g.words s

pub taken_block : {X : Type 0} (text : ℕ → List ℕ) (count : ℕ) (p p' : Progress) (v w : View) (odd : Bool) (number : ℕ) (t : List ℕ) (out now : OutputSeen) (r : Result X StreamError) → Standing text count p v
    → Takes v (record { odd = odd; news = news.Block number t }) w → Puts t odd number p p' out now r → OnOk r (Standing text count p' w)
taken_block text count p p' v w odd number t out now (Ok x) st k s =
    subst (λ u. Standing text count p' u) (sym k.0) (subst (λ q. Standing text count q (taken (record { odd = odd; news = news.Block number t }) v)) (sym s.placed)
    (stands_put text count p v odd number t st (got_it text count p v w odd number t st k)))
taken_block text count p p' v w odd number t out now (Err x) st k s = tt

pub taken_last : (text : ℕ → List ℕ) (count : ℕ) (p p' : Progress) (v w : View) (odd whole : Bool) → whole ≡ true → Standing text count p v → Takes v (record { odd = odd; news = news.Last whole }) w
    → p' ≡ with_share odd (record (share odd p) { ended = true }) p → Standing text count p' w
taken_last text count p p' v w odd false is st k e = absurd (true≢false (sym is))
taken_last text count p p' v w odd true is st k e =
    subst (λ u. Standing text count p' u) (sym k.0) (subst (λ q. Standing text count q (taken (record { odd = odd; news = news.Last true }) v)) (sym e) (stands_over text count p v odd st (k.1 refl)))

order_over : (odd : Bool) (p : Progress) → (with_share odd (record (share odd p) { ended = true }) p).order ≡ p.order
order_over true p = refl
order_over false p = refl

pub last_steps : {X : Type 0} (x : X) (text : ℕ → List ℕ) (count : ℕ) (odd : Bool) (p p' : Progress) (out : OutputSeen) → p' ≡ with_share odd (record (share odd p) { ended = true }) p
    → Steps text count p.order p'.order out out (Ok x)
last_steps x text count odd p p' out e = subst (λ o. Steps text count p.order o out out (Ok x)) (sym (ap (λ (q : Progress). q.order) e ∙ order_over odd p)) (steps_none x text count p.order out)

pub gave_up : {X : Type 0} (text : ℕ → List ℕ) (count : ℕ) (p : Progress) (v : View) (after : List ℕ) (out : OutputSeen) → Standing text count p v → Steps {X = X} text count p.order after out out (Err error.Memory)
gave_up text count p v after out st = steps_fail {X = Bool} text count p.order p.order after out out error.Memory (own_memory {X = Bool} text count p out (all_follow text count p v st))

-- ---- both workers have ended

over_one : (s e : Bool) → (s && not e) ≡ false → s ≡ true → e ≡ true
over_one true true h k = refl
over_one true false h k = absurd (true≢false h)
over_one false e h k = absurd (true≢false (sym k))

over_two : (a b : Bool) → (a || b) ≡ false → (a ≡ false) × (b ≡ false)
over_two true b h = absurd (true≢false h)
over_two false b h = (refl, h)

pub both_over : (p : Progress) → ((p.even.started && not p.even.ended) || (p.odd.started && not p.odd.ended)) ≡ false → (odd : Bool) → (share odd p).started ≡ true → (share odd p).ended ≡ true
both_over p h true k = over_one p.odd.started p.odd.ended (over_two _ _ h).1 k
both_over p h false k = over_one p.even.started p.even.ended (over_two _ _ h).0 k

pub over_both : (text : ℕ → List ℕ) (count : ℕ) (p : Progress) (v : View) → Standing text count p v → ((odd : Bool) → (share odd p).started ≡ true → (share odd p).ended ≡ true)
    → (odd : Bool) → (share odd p).started ≡ true → blocks_from odd (share odd p).next count ≡ []
over_both text count p v st over odd k = (st odd).over (over odd k)
