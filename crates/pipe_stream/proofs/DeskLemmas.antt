-- Where the caller stands after each step.
use Rattle.std.proofs.Common.{◌≡◌, ◌≤◌, ◌<◌, ℕ, zero, suc, ◌+◌, ◌-◌, ◌%◌, ◌==◌, Bool, true, false, true≢false, not, List, [], ◌∷◌, ◌++◌, length, take, drop, map, filter, flat_map, cond, if◌then◌else◌, get_or, suc-ne-zero, Option, Some, None, sym, refl, ap, ap₂, ◌∙◌, subst, append_assoc, append-nil, arith}
use Rattle.std.specs.List.{range_with_len}
use Rattle.std.proofs.lemmas.List.Elements.{filter-append}
use Rattle.std.proofs.lemmas.Grind.{flat_map-append}
use Rattle.std.proofs.lemmas.Bool.Decides.{nat_tests}
use Rattle.pipe_stream.specs.Outside.{Appends, OutputSeen, Writes, WritesFront}
use Rattle.pipe_stream.specs.Blocks.{blocks_from, is_of, IsBlockOrder, PutsFront}
use Rattle.pipe_stream.specs.Messages.{Begins, block_of, last_of, script, is_planned}
use Rattle.pipe_stream.specs.Hands.{MayTake, hand, taken}
use Rattle.pipe_stream.specs.Desk.{AllFollow, OrderFails, Follows, Standing, Stands, Wrote, put_on, share, with_share}
use Rattle.pipe_stream.specs.declared.message.Message.{Message}
use Rattle.pipe_stream.specs.declared.message.News.{News}
use Rattle.pipe_stream.specs.declared.message.News.TheVariants as news
use Rattle.pipe_stream.specs.declared.hands.View.{View}
use Rattle.pipe_stream.specs.declared.progress.Share.{Share}
use Rattle.pipe_stream.specs.declared.progress.Progress.{Progress}
use Rattle.pipe_stream.proofs.BlockLemmas.{blocks-other, first_block}
use Rattle.pipe_stream.proofs.HandLemmas.{taken_is}

-- ---- numbers of one worker and of the other

even_not_odd : (b : ℕ) → is_of false b ≡ true → is_of true b ≡ false
even_not_odd b e = grind (arith, nat_tests)

odd_not_even : (b : ℕ) → is_of true b ≡ true → is_of false b ≡ false
odd_not_even b e = grind (arith, nat_tests)

again_by : (p : ℕ → Bool) (x : ℕ) (xs : List ℕ) → filter p (filter p xs) ≡ filter p xs → (b : Bool) → p x ≡ b → filter p (filter p (x ∷ xs)) ≡ filter p (x ∷ xs)
again_by p x xs h true e =
    ap (λ b. filter p (cond b (x ∷ filter p xs) (filter p xs))) e ∙ ap (λ b. cond b (x ∷ filter p (filter p xs)) (filter p (filter p xs))) e ∙ ap (λ l. x ∷ l) h
    ∙ sym (ap (λ b. cond b (x ∷ filter p xs) (filter p xs)) e)
again_by p x xs h false e = ap (λ b. filter p (cond b (x ∷ filter p xs) (filter p xs))) e ∙ h ∙ sym (ap (λ b. cond b (x ∷ filter p xs) (filter p xs)) e)

again : (p : ℕ → Bool) (xs : List ℕ) → filter p (filter p xs) ≡ filter p xs
again p [] = refl
again p (x ∷ xs) = again_by p x xs (again p xs) (p x) refl

apart_by : (p q : ℕ → Bool) → ((x : ℕ) → p x ≡ true → q x ≡ false) → (x : ℕ) (xs : List ℕ) → filter q (filter p xs) ≡ [] → (b : Bool) → p x ≡ b → filter q (filter p (x ∷ xs)) ≡ []
apart_by p q d x xs h true e =
    ap (λ b. filter q (cond b (x ∷ filter p xs) (filter p xs))) e ∙ ap (λ b. cond b (x ∷ filter q (filter p xs)) (filter q (filter p xs))) (d x e) ∙ h
apart_by p q d x xs h false e = ap (λ b. filter q (cond b (x ∷ filter p xs) (filter p xs))) e ∙ h

apart : (p q : ℕ → Bool) → ((x : ℕ) → p x ≡ true → q x ≡ false) → (xs : List ℕ) → filter q (filter p xs) ≡ []
apart p q d [] = refl
apart p q d (x ∷ xs) = apart_by p q d x xs (apart p q d xs) (p x) refl

-- ---- one more number in the order

own_put : (q : ℕ → Bool) (order rest rest' all : List ℕ) (number : ℕ) → filter q order ++ rest ≡ all → rest ≡ number ∷ rest' → q number ≡ true → filter q (order ++ number ∷ []) ++ rest' ≡ all
own_put q order rest rest' all number h r e =
    ap (λ l. l ++ rest') (filter-append q order (number ∷ []) ∙ ap (λ b. filter q order ++ cond b (number ∷ []) []) e) ∙ append_assoc (filter q order) (number ∷ []) rest'
    ∙ ap (λ l. filter q order ++ l) (sym r) ∙ h

other_put : (q : ℕ → Bool) (order rest all : List ℕ) (number : ℕ) → filter q order ++ rest ≡ all → q number ≡ false → filter q (order ++ number ∷ []) ++ rest ≡ all
other_put q order rest all number h e =
    ap (λ l. l ++ rest) (filter-append q order (number ∷ []) ∙ ap (λ b. filter q order ++ cond b (number ∷ []) []) e ∙ append-nil (filter q order)) ∙ h

pub follows_put : (count : ℕ) (p : Progress) (o : Bool) (number : ℕ) → AllFollow count p → blocks_from o (share o p).next count ≡ number ∷ blocks_from o (number + 1) count → is_of o number ≡ true
    → AllFollow count (put_on o number p)
follows_put count p true number f r e true = own_put (is_of true) p.order (blocks_from true p.odd.next count) (blocks_from true (number + 1) count) (blocks_from true 0 count) number (f true) r e
follows_put count p true number f r e false = other_put (is_of false) p.order (blocks_from false p.even.next count) (blocks_from false 0 count) number (f false) (odd_not_even number e)
follows_put count p false number f r e false = own_put (is_of false) p.order (blocks_from false p.even.next count) (blocks_from false (number + 1) count) (blocks_from false 0 count) number (f false) r e
follows_put count p false number f r e true = other_put (is_of true) p.order (blocks_from true p.odd.next count) (blocks_from true 0 count) number (f true) (even_not_odd number e)

passed_over : (count : ℕ) (order : List ℕ) (o : Bool) (next number : ℕ) → Follows count order o next → next ≡ number → number < count → is_of o number ≡ false → Follows count order o (number + 1)
passed_over count order o next number f n h e = ap (λ l. filter (is_of o) order ++ l) (sym (ap (λ k. blocks_from o k count) n ∙ blocks-other o number count h e)) ∙ f

pub follows_skip : (count : ℕ) (p : Progress) (o : Bool) (number : ℕ) → AllFollow count p → (share o p).next ≡ number → number < count → is_of o number ≡ false
    → AllFollow count (with_share o (record (share o p) { next = number + 1 }) p)
follows_skip count p true number f n h e true = passed_over count p.order true p.odd.next number (f true) n h e
follows_skip count p true number f n h e false = f false
follows_skip count p false number f n h e false = passed_over count p.order false p.even.next number (f false) n h e
follows_skip count p false number f n h e true = f true

-- ---- what is left completes the order

abbrev rest_of : ℕ → Progress → Bool → List ℕ
rest_of count p odd = blocks_from odd (share odd p).next count

abbrev numbers : ℕ → Progress → Bool → List ℕ
numbers count p odd = range_with_len (share odd p).next (count - (share odd p).next)

filtered : (q : ℕ → Bool) (a b c : List ℕ) → filter q (a ++ (b ++ c)) ≡ filter q a ++ (filter q b ++ filter q c)
filtered q a b c = filter-append q a (b ++ c) ∙ ap (λ l. filter q a ++ l) (filter-append q b c)

first_own : (q : ℕ → Bool) (a b c all : List ℕ) → filter q a ++ b ≡ all → filter q b ≡ b → filter q c ≡ [] → filter q (a ++ (b ++ c)) ≡ all
first_own q a b c all h own other = filtered q a b c ∙ ap (λ l. filter q a ++ l) (ap₂ (λ x y. x ++ y) own other ∙ append-nil b) ∙ h

last_own : (q : ℕ → Bool) (a b c all : List ℕ) → filter q a ++ c ≡ all → filter q b ≡ [] → filter q c ≡ c → filter q (a ++ (b ++ c)) ≡ all
last_own q a b c all h other own = filtered q a b c ∙ ap (λ l. filter q a ++ l) (ap₂ (λ x y. x ++ y) other own) ∙ h

pub completes : (count : ℕ) (p : Progress) (o : Bool) → AllFollow count p → IsBlockOrder count (p.order ++ (rest_of count p o ++ rest_of count p (not o)))
completes count p false f = record {
  even = first_own (is_of false) p.order (rest_of count p false) (rest_of count p true) (blocks_from false 0 count) (f false) (again (is_of false) (numbers count p false)) (apart (is_of true) (is_of false) odd_not_even (numbers count p true));
  odd = last_own (is_of true) p.order (rest_of count p false) (rest_of count p true) (blocks_from true 0 count) (f true) (apart (is_of false) (is_of true) even_not_odd (numbers count p false)) (again (is_of true) (numbers count p true));
}
completes count p true f = record {
  even = last_own (is_of false) p.order (rest_of count p true) (rest_of count p false) (blocks_from false 0 count) (f false) (apart (is_of true) (is_of false) odd_not_even (numbers count p true)) (again (is_of false) (numbers count p false));
  odd = first_own (is_of true) p.order (rest_of count p true) (rest_of count p false) (blocks_from true 0 count) (f true) (again (is_of true) (numbers count p true)) (apart (is_of false) (is_of true) even_not_odd (numbers count p false));
}

whole_of : (q : ℕ → Bool) (order rest all : List ℕ) → filter q order ++ rest ≡ all → rest ≡ [] → filter q order ≡ all
whole_of q order rest all h e = sym (append-nil (filter q order)) ∙ ap (λ l. filter q order ++ l) (sym e) ∙ h

-- where nothing is left, the order has all
pub order_whole : (count : ℕ) (p : Progress) → AllFollow count p → ((odd : Bool) → rest_of count p odd ≡ []) → IsBlockOrder count p.order
order_whole count p f none = record {
  even = whole_of (is_of false) p.order (rest_of count p false) (blocks_from false 0 count) (f false) (none false);
  odd = whole_of (is_of true) p.order (rest_of count p true) (blocks_from true 0 count) (f true) (none true);
}

-- ---- what was put

pub appends_none : (a : Option (List ℕ)) → Appends [] a a
appends_none None = tt
appends_none (Some before) = sym (append-nil before)

pub appends_both : (x y : List ℕ) (a b c : Option (List ℕ)) → Appends x a b → Appends y b c → Appends (x ++ y) a c
appends_both x y a b None h k = tt
appends_both x y a None (Some after) h k = absurd k
appends_both x y None (Some mid) (Some after) h k = absurd h
appends_both x y (Some before) (Some mid) (Some after) h k = k ∙ ap (λ l. l ++ y) h ∙ append_assoc before x y

-- a front of a text is a front of a longer one
front_in : (n : ℕ) (t y : List ℕ) → (m : ℕ) × (take m (t ++ y) ≡ take n t)
front_in zero t y = (0, refl)
front_in (suc n) [] y = (0, refl)
front_in (suc n) (x ∷ t) y = let r = front_in n t y in (suc r.0, ap (λ l. x ∷ l) r.1)

pub longer : (t y : List ℕ) (out now : OutputSeen) → WritesFront t out now → WritesFront (t ++ y) out now
longer t y out now w = let r = front_in w.0 t y in (r.0, subst (λ l. Writes l out now) (sym r.1) w.1)

pub past : (x y : List ℕ) (n : ℕ) → take (length x + n) (x ++ y) ≡ x ++ take n y
past [] y n = let e : 0 + n ≡ n = omega arith in ap (λ k. take k y) e
past (b ∷ x) y n = let e : length (b ∷ x) + n ≡ suc (length x + n) = omega arith in ap (λ k. take k (b ∷ (x ++ y))) e ∙ ap (λ l. b ∷ l) (past x y n)

pub wrote_none : (text : ℕ → List ℕ) (order : List ℕ) (out : OutputSeen) → Wrote text order order out out
wrote_none text order out = ([], sym (append-nil order), appends_none out.written)

pub wrote_one : (text : ℕ → List ℕ) (order : List ℕ) (number : ℕ) (t : List ℕ) (out now : OutputSeen) → t ≡ text number → Writes t out now → Wrote text order (order ++ number ∷ []) out now
wrote_one text order number t out now e w = (number ∷ [], refl, subst (λ l. Writes l out now) (e ∙ sym (append-nil (text number))) w)

pub wrote_later : (text : ℕ → List ℕ) (a b c : List ℕ) (out mid now : OutputSeen) → Wrote text a b out mid → Wrote text b c mid now → Wrote text a c out now
wrote_later text a b c out mid now h k = (
  h.0 ++ k.0,
  k.1 ∙ ap (λ l. l ++ k.0) h.1 ∙ append_assoc a h.0 k.0,
  subst (λ l. Writes l out now) (sym (flat_map-append text h.0 k.0)) (appends_both (flat_map text h.0) (flat_map text k.0) out.written mid.written now.written h.2 k.2),
)

pub fails_later : (text : ℕ → List ℕ) (count : ℕ) (a b : List ℕ) (out mid now : OutputSeen) → Wrote text a b out mid → OrderFails text count b mid now → OrderFails text count a out now
fails_later text count a b out mid now h k = (
  h.0 ++ k.0,
  subst (λ l. IsBlockOrder count l) (ap (λ l. l ++ k.0) h.1 ∙ append_assoc a h.0 k.0) k.1,
  (
    length (flat_map text h.0) + k.2.0,
    subst (λ l. Writes l out now) (sym (ap (λ l. take (length (flat_map text h.0) + k.2.0) l) (flat_map-append text h.0 k.0) ∙ past (flat_map text h.0) (flat_map text k.0) k.2.0))
        (appends_both (flat_map text h.0) (take k.2.0 (flat_map text k.0)) out.written mid.written now.written h.2 k.2.1),
  ),
)

pub fails_now : (text : ℕ → List ℕ) (count : ℕ) (p : Progress) (out : OutputSeen) → AllFollow count p → OrderFails text count p.order out out
fails_now text count p out f = (rest_of count p false ++ rest_of count p true, completes count p false f, (0, appends_none out.written))

pub fails_put : (text : ℕ → List ℕ) (count : ℕ) (p : Progress) (o : Bool) (number : ℕ) (t : List ℕ) (out now : OutputSeen) → AllFollow count p
    → blocks_from o (share o p).next count ≡ number ∷ blocks_from o (number + 1) count → t ≡ text number → WritesFront t out now → OrderFails text count p.order out now
fails_put text count p o number t out now f r e w = (
  rest_of count p o ++ rest_of count p (not o),
  completes count p o f,
  subst (λ l. WritesFront (flat_map text (l ++ rest_of count p (not o))) out now) (sym r)
      (longer (text number) (flat_map text (blocks_from o (number + 1) count ++ rest_of count p (not o))) out now (subst (λ l. WritesFront l out now) e w)),
)

-- ---- what was taken

abbrev is_block : News → Bool
is_block (news.Block number text) = true
is_block (news.Last whole) = false

abbrev number_in : News → ℕ
number_in (news.Block number text) = number
number_in (news.Last whole) = 0

abbrev text_in : News → List ℕ
text_in (news.Block number text) = text
text_in (news.Last whole) = []

abbrev pub message : Bool → News → Message
message odd told = record { odd = odd; news = told }

-- a block was taken
pub record Got (text : ℕ → List ℕ) (count : ℕ) (odd : Bool) (s : Share) (number : ℕ) (t : List ℕ) (due : List Message) : Type 0 where
  pub ended : s.ended ≡ false
  pub words : t ≡ text number
  pub within : number < count
  pub own : is_of odd number ≡ true
  pub rest : blocks_from odd s.next count ≡ number ∷ blocks_from odd (number + 1) count
  pub after : drop 1 due ≡ script text count odd (number + 1)

got_from : (text : ℕ → List ℕ) (count : ℕ) (odd : Bool) (s : Share) (number : ℕ) (t : List ℕ) (due : List Message) → s.ended ≡ false → (l : List ℕ) → blocks_from odd s.next count ≡ l
    → map (block_of odd text) l ++ last_of odd true ∷ [] ≡ message odd (news.Block number t) ∷ drop 1 due → Got text count odd s number t due
got_from text count odd s number t due going [] r e = absurd (true≢false (sym (ap (λ l. is_block (get_or l 0 (last_of odd true)).news) e)))
got_from text count odd s number t due going (b ∷ l) r e =
    let head : block_of odd text b ≡ message odd (news.Block number t) = ap (λ l. get_or l 0 (block_of odd text b)) e in
    let same : b ≡ number = ap (λ (m : Message). number_in m.news) head in
    let f = first_block odd s.next count b l r in
    let rest : l ≡ blocks_from odd (number + 1) count = f.2 ∙ ap (λ k. blocks_from odd (k + 1) count) same in
    record {
      ended = going;
      words = sym (ap (λ (m : Message). text_in m.news) head) ∙ ap text same;
      within = subst (λ k. k < count) same f.1;
      own = subst (λ k. is_of odd k ≡ true) same f.0;
      rest = r ∙ ap₂ (λ x y. x ∷ y) same rest;
      after = sym (ap (λ l. drop 1 l) e) ∙ ap (λ l. map (block_of odd text) l ++ last_of odd true ∷ []) rest;
    }

got_by : (text : ℕ → List ℕ) (count : ℕ) (odd : Bool) (s : Share) (number : ℕ) (t : List ℕ) (due : List Message) (b : Bool) → s.ended ≡ b → due ≡ (if b then [] else script text count odd s.next)
    → Begins (message odd (news.Block number t)) due → Got text count odd s number t due
got_by text count odd s number t due true e c begins = absurd (suc-ne-zero _ (sym (ap length (sym c ∙ begins))))
got_by text count odd s number t due false e c begins = got_from text count odd s number t due e (blocks_from odd s.next count) refl (sym c ∙ begins)

pub got : (text : ℕ → List ℕ) (count : ℕ) (order : List ℕ) (odd : Bool) (s : Share) (number : ℕ) (t : List ℕ) (due : List Message) → Stands text count order odd s due
    → Begins (message odd (news.Block number t)) due → Got text count odd s number t due
got text count order odd s number t due st begins = got_by text count odd s number t due s.ended refl st.comes begins

-- the last message was taken
over_from : (text : ℕ → List ℕ) (count : ℕ) (odd : Bool) (next : ℕ) (due : List Message) → (l : List ℕ) → blocks_from odd next count ≡ l
    → map (block_of odd text) l ++ last_of odd true ∷ [] ≡ message odd (news.Last true) ∷ drop 1 due → (blocks_from odd next count ≡ []) × (drop 1 due ≡ [])
over_from text count odd next due [] r e = (r, sym (ap (λ l. drop 1 l) e))
over_from text count odd next due (b ∷ l) r e = absurd (true≢false (ap (λ l. is_block (get_or l 0 (last_of odd true)).news) e))

over_by : (text : ℕ → List ℕ) (count : ℕ) (odd : Bool) (next : ℕ) (due : List Message) (b : Bool) → due ≡ (if b then [] else script text count odd next) → Begins (message odd (news.Last true)) due
    → (blocks_from odd next count ≡ []) × (drop 1 due ≡ [])
over_by text count odd next due true c begins = absurd (suc-ne-zero _ (sym (ap length (sym c ∙ begins))))
over_by text count odd next due false c begins = over_from text count odd next due (blocks_from odd next count) refl (sym c ∙ begins)

-- ---- where the caller stands then

pub all_follow : (text : ℕ → List ℕ) (count : ℕ) (p : Progress) (v : View) → Standing text count p v → AllFollow count p
all_follow text count p v st odd = (st odd).follows

stands_at : (text : ℕ → List ℕ) (count : ℕ) (order : List ℕ) (odd : Bool) (number : ℕ) (t : List ℕ) (s : Share) (due : List Message) → Got text count odd s number t due
    → Follows count order odd (number + 1) → Stands text count order odd (record s { next = number + 1 }) (drop 1 due)
stands_at text count order odd number t s due g f = record {
  follows = f;
  comes = g.after ∙ sym (ap (λ b. if b then [] else script text count odd (number + 1)) g.ended);
  over = λ e. absurd (true≢false (sym e ∙ g.ended));
}

stands_else : (text : ℕ → List ℕ) (count : ℕ) (order order' : List ℕ) (odd : Bool) (s : Share) (due : List Message) → Stands text count order odd s due → Follows count order' odd s.next
    → Stands text count order' odd s due
stands_else text count order order' odd s due st f = record { follows = f; comes = st.comes; over = st.over }

pub stands_put : (text : ℕ → List ℕ) (count : ℕ) (p : Progress) (v : View) (o : Bool) (number : ℕ) (t : List ℕ) → Standing text count p v → Got text count o (share o p) number t (hand o v).due
    → Standing text count (put_on o number p) (taken (message o (news.Block number t)) v)
stands_put text count p v true number t st g true =
    stands_at text count (p.order ++ number ∷ []) true number t p.odd v.odd.due g (follows_put count p true number (all_follow text count p v st) g.rest g.own true)
stands_put text count p v true number t st g false =
    stands_else text count p.order (p.order ++ number ∷ []) false p.even v.even.due (st false) (follows_put count p true number (all_follow text count p v st) g.rest g.own false)
stands_put text count p v false number t st g false =
    stands_at text count (p.order ++ number ∷ []) false number t p.even v.even.due g (follows_put count p false number (all_follow text count p v st) g.rest g.own false)
stands_put text count p v false number t st g true =
    stands_else text count p.order (p.order ++ number ∷ []) true p.odd v.odd.due (st true) (follows_put count p false number (all_follow text count p v st) g.rest g.own true)

ended_now : (text : ℕ → List ℕ) (count : ℕ) (order : List ℕ) (odd : Bool) (s : Share) (due : List Message) → Stands text count order odd s due → Begins (message odd (news.Last true)) due
    → Stands text count order odd (record s { ended = true }) (drop 1 due)
ended_now text count order odd s due st begins = let o = over_by text count odd s.next due s.ended st.comes begins in record {
  follows = st.follows;
  comes = o.1;
  over = λ _. o.0;
}

pub stands_over : (text : ℕ → List ℕ) (count : ℕ) (p : Progress) (v : View) (o : Bool) → Standing text count p v → Begins (message o (news.Last true)) (hand o v).due
    → Standing text count (with_share o (record (share o p) { ended = true }) p) (taken (message o (news.Last true)) v)
stands_over text count p v true st begins true = ended_now text count p.order true p.odd v.odd.due (st true) begins
stands_over text count p v true st begins false = st false
stands_over text count p v false st begins false = ended_now text count p.order false p.even v.even.due (st false) begins
stands_over text count p v false st begins true = st true

-- ---- who may take, may take on

takes_same : (u o b : Bool) (x : Message) (v : View) → x.odd ≡ o → is_planned x.news ≡ b → (hand u (taken x v)).takes ≡ (hand u v).takes
takes_same u o false x v eo eb = ap (λ h. h.takes) (taken_is u o false x v eo eb)
takes_same true true true x v eo eb = ap (λ h. h.takes) (taken_is true true true x v eo eb)
takes_same true false true x v eo eb = ap (λ h. h.takes) (taken_is true false true x v eo eb)
takes_same false true true x v eo eb = ap (λ h. h.takes) (taken_is false true true x v eo eb)
takes_same false false true x v eo eb = ap (λ h. h.takes) (taken_is false false true x v eo eb)

pub may_take_on : (x : Message) (v w : View) → MayTake v → w ≡ taken x v → MayTake w
may_take_on x v w may e = (
  ap (λ (y : View). (hand false y).takes) e ∙ takes_same false x.odd (is_planned x.news) x v refl refl ∙ may.0,
  ap (λ (y : View). (hand true y).takes) e ∙ takes_same true x.odd (is_planned x.news) x v refl refl ∙ may.1,
)
