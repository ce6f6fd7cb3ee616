-- Each move keeps the rule of the queue.
use Rattle.std.proofs.Common.{◌≡◌, ◌≢◌, ℕ, zero, suc, Bool, true, false, true≢false, not, ◌&&◌, List, [], ◌∷◌, ◌++◌, drop, filter, set, length, cond, if◌then◌else◌, sym, refl, ap, ap₂, ◌∙◌, subst, ⊎_elim, append_assoc, append-nil}
use mathlib.Core.Option.{some, some-ne-none, some-injective}
use lib.ListN.{get_elem?}
use Rattle.std.proofs.lemmas.List.Elements.{filter-append}
use Rattle.crossbeam_queue.specs.Fifo.{Pushes, Pops, Forks}
use Rattle.crossbeam_queue.proofs.Lists.{at_set, at_snoc}
use Rattle.pipe_stream.specs.declared.message.Message.{Message}
use Rattle.pipe_stream.specs.declared.hands.Hand.{Hand}
use Rattle.pipe_stream.specs.declared.hands.View.{View}
use Rattle.pipe_stream.specs.Messages.{Begins, is_from, is_planned, same}
use Rattle.pipe_stream.specs.Hands.{Comes, Dealt, Fits, MaySend, MayTake, Takes, both_hands, hand, no_hand, sender, sent, taken, taker, view_of, with_hand, without_sender, worker}

at_end : (l : List View) (a b : View) (j : ℕ) → get_elem? l j ≢ some b → get_elem? (l ++ a ∷ []) j ≡ some b → j ≡ length l
at_end [] a b zero n e = refl
at_end [] a b (suc j) n e = absurd (some-ne-none b (sym e))
at_end (x ∷ xs) a b zero n e = absurd (n e)
at_end (x ∷ xs) a b (suc j) n e = ap suc (at_end xs a b j n e)

abbrev Each : (ℕ → View → Type 0) → List View → Type 0
Each F views = (port : ℕ) (v : View) → get_elem? views port ≡ some v → F port v

each_set : (F : ℕ → View → Type 0) (views : List View) (port : ℕ) (w : View) → F port w → ((j : ℕ) (u : View) → j ≢ port → get_elem? views j ≡ some u → F j u) → Each F (set views port w)
each_set F views port w mine others j u e = ⊎_elim (λ (x : (j ≡ port) × (w ≡ u)). subst (λ (y : ℕ × View). F y.0 y.1) (λ i. (sym x.0 i, x.1 i)) mine)
    (λ (x : (j ≢ port) × (get_elem? views j ≡ some u)). others j u x.0 x.1) (at_set views port j w u e)

-- a view that is the only one
only : (F : ℕ → View → Type 0) (f : View) → F 0 f → (j : ℕ) (w : View) → get_elem? (f ∷ []) j ≡ some w → F j w
only F f h zero w e = subst (λ u. F 0 u) (some-injective f w e) h
only F f h (suc j) w e = absurd (some-ne-none w (sym e))

picked : (p : Message → Bool) (items : List Message) (x : Message) → p x ≡ true → filter p (items ++ x ∷ []) ≡ filter p items ++ x ∷ []
picked p items x e = filter-append p items (x ∷ []) ∙ ap (λ b. filter p items ++ cond b (x ∷ []) []) e

passed : (p : Message → Bool) (items : List Message) (x : Message) → p x ≡ false → filter p (items ++ x ∷ []) ≡ filter p items
passed p items x e = filter-append p items (x ∷ []) ∙ ap (λ b. filter p items ++ cond b (x ∷ []) []) e ∙ append-nil (filter p items)

module _ (p : Message → Bool) (shows : View → Hand) where
  keeps : (items items' : List Message) (views : List View) (port : ℕ) (v w : View) → Comes p shows items views → get_elem? views port ≡ some v → shows w ≡ shows v → filter p items' ≡ filter p items
      → Comes p shows items' (set views port w)
  keeps items items' views port v w h at alike filtered = (
    h.0,
    h.1,
    h.2,
    h.3,
    h.4 ∙ ap (λ l. l ++ h.2) (sym filtered),
    each_set (λ j u. Fits h.0 h.1 h.2 h.3 j (shows u)) views port w (subst (λ x. Fits h.0 h.1 h.2 h.3 port x) (sym alike) (h.5 port v at)) (λ j u other e. h.5 j u e),
  )

  pushes : (items : List Message) (views : List View) (port : ℕ) (v w : View) (x : Message) → Comes p shows items views → get_elem? views port ≡ some v → p x ≡ true → (shows v).sends ≡ true
      → Begins x (shows v).left → shows w ≡ record (shows v) { left = drop 1 (shows v).left } → Comes p shows (items ++ x ∷ []) (set views port w)
  pushes items views port v w x h at is may begins changed =
      let mine = h.5 port v at in let rest = drop 1 (shows v).left in (
        h.0,
        h.1,
        rest,
        h.3,
        h.4 ∙ ap (λ l. filter p items ++ l) (sym (mine.0 may).1 ∙ begins) ∙ sym (append_assoc (filter p items) (x ∷ []) rest) ∙ ap (λ l. l ++ rest) (sym (picked p items x is)),
        each_set (λ j u. Fits h.0 h.1 rest h.3 j (shows u)) views port w (subst (λ y. Fits h.0 h.1 rest h.3 port y) (sym changed) ((λ _. ((mine.0 may).0, refl)), mine.1))
            (λ j u other e. ((λ q. absurd (other (((h.5 j u e).0 q).0 ∙ sym (mine.0 may).0))), (h.5 j u e).1)),
      )

  came : (items : List Message) (views : List View) (port : ℕ) (v : View) (x : Message) → (h : Comes p shows (x ∷ items) views) → get_elem? views port ≡ some v → p x ≡ true → (shows v).takes ≡ true
      → (shows v).due ≡ x ∷ (filter p items ++ h.2)
  came items views port v x h at is may = ((h.5 port v at).1 may).1 ∙ h.4 ∙ ap (λ b. cond b (x ∷ filter p items) (filter p items) ++ h.2) is

  pops : (items : List Message) (views : List View) (port : ℕ) (v w : View) (x : Message) → Comes p shows (x ∷ items) views → get_elem? views port ≡ some v → p x ≡ true → (shows v).takes ≡ true
      → shows w ≡ record (shows v) { due = drop 1 (shows v).due } → Comes p shows items (set views port w)
  pops items views port v w x h at is may changed =
      let mine = h.5 port v at in let e = came items views port v x h at is may in let rest = drop 1 (shows v).due in (
        h.0,
        h.1,
        h.2,
        rest,
        ap (λ l. drop 1 l) e,
        each_set (λ j u. Fits h.0 h.1 h.2 rest j (shows u)) views port w (subst (λ y. Fits h.0 h.1 h.2 rest port y) (sym changed) (mine.0, (λ _. ((mine.1 may).0, refl))))
            (λ j u other e. ((h.5 j u e).0, (λ q. absurd (other (((h.5 j u e).1 q).0 ∙ sym (mine.1 may).0))))),
      )

  begins_due : (items : List Message) (views : List View) (port : ℕ) (v : View) (x : Message) → Comes p shows (x ∷ items) views → get_elem? views port ≡ some v → p x ≡ true → (shows v).takes ≡ true
      → Begins x (shows v).due
  begins_due items views port v x h at is may = let e = came items views port v x h at is may in e ∙ ap (λ l. x ∷ l) (sym (ap (λ l. drop 1 l) e))

  gives : (items : List Message) (views : List View) (port : ℕ) (v l r : View) → Comes p shows items views → get_elem? views port ≡ some v → (shows v).sends ≡ true → (shows v).takes ≡ true
      → shows l ≡ taker (shows v).due → shows r ≡ sender (shows v).left → Comes p shows items (set views port l ++ r ∷ [])
  gives items views port v l r h at may takes left right =
      let mine = h.5 port v at in let vs : List View = set views port l in
      let Old : ℕ → View → Type 0 = λ j u. ((shows u).sends ≢ true) × ((shows u).takes ≡ true → (j ≡ h.1) × ((shows u).due ≡ h.3)) in
      let old : Each Old vs = each_set Old views port l
      (subst (λ (y : Hand). (y.sends ≢ true) × (y.takes ≡ true → (port ≡ h.1) × (y.due ≡ h.3))) (sym left) ((λ q. true≢false (sym q)), λ _. mine.1 takes))
      (λ j u other e. ((λ q. other (((h.5 j u e).0 q).0 ∙ sym (mine.0 may).0)), (h.5 j u e).1)) in
      let sends : (shows r).sends ≡ true = ap (λ (y : Hand). y.sends) right in (
        length vs,
        h.1,
        h.2,
        h.3,
        h.4,
        λ j u e. ⊎_elim (λ x. ((λ q. absurd ((old j u x).0 q)), (old j u x).1))
            (λ (is : r ≡ u). (
              (λ q. (at_end vs r u j (λ x. (old j u x).0 q) e, ap (λ (y : View). (shows y).left) (sym is) ∙ ap (λ (y : Hand). y.left) right ∙ (mine.0 may).1)),
              λ q. absurd (true≢false (sym (ap (λ (y : Hand). y.takes) (sym right) ∙ ap (λ (y : View). (shows y).takes) is ∙ q))),
            ))
            (at_snoc vs r u j e),
      )

  stays : (items : List Message) (views : List View) (port : ℕ) (v l r : View) → Comes p shows items views → get_elem? views port ≡ some v → shows l ≡ shows v → shows r ≡ no_hand
      → Comes p shows items (set views port l ++ r ∷ [])
  stays items views port v l r h at left right =
      let vs : List View = set views port l in
      let old : Each (λ j u. Fits h.0 h.1 h.2 h.3 j (shows u)) vs =
      each_set (λ j u. Fits h.0 h.1 h.2 h.3 j (shows u)) views port l (subst (λ x. Fits h.0 h.1 h.2 h.3 port x) (sym left) (h.5 port v at)) (λ j u other e. h.5 j u e) in (
        h.0,
        h.1,
        h.2,
        h.3,
        h.4,
        λ j u e. ⊎_elim (λ x. old j u x)
            (λ (is : r ≡ u). (
              (λ q. absurd (true≢false (sym (ap (λ (y : Hand). y.sends) (sym right) ∙ ap (λ (y : View). (shows y).sends) is ∙ q)))),
              λ q. absurd (true≢false (sym (ap (λ (y : Hand). y.takes) (sym right) ∙ ap (λ (y : View). (shows y).takes) is ∙ q))),
            ))
            (at_snoc vs r u j e),
      )

and_false : (a : Bool) → (a && false) ≡ false
and_false true = refl
and_false false = refl

-- which worker a message is of
from_is : (u o b : Bool) (x : Message) → x.odd ≡ o → is_planned x.news ≡ b → is_from u x ≡ (same o u && b)
from_is u o b x eo eb = ap₂ (λ a c. same a u && c) eo eb

sent_is : (u o b : Bool) (x : Message) (v : View) → x.odd ≡ o → is_planned x.news ≡ b
    → hand u (sent x v) ≡ hand u (if b then with_hand o (record (hand o v) { left = drop 1 (hand o v).left }) v else v)
sent_is u o b x v eo eb = ap₂ (λ a c. hand u (if c then with_hand a (record (hand a v) { left = drop 1 (hand a v).left }) v else v)) eo eb

pub taken_is : (u o b : Bool) (x : Message) (v : View) → x.odd ≡ o → is_planned x.news ≡ b
    → hand u (taken x v) ≡ hand u (if b then with_hand o (record (hand o v) { due = drop 1 (hand o v).due }) v else v)
taken_is u o b x v eo eb = ap₂ (λ a c. hand u (if c then with_hand a (record (hand a v) { due = drop 1 (hand a v).due }) v else v)) eo eb

comes_sent : (u o b : Bool) (x : Message) (v : View) → x.odd ≡ o → is_planned x.news ≡ b → (items : List Message) (views : List View) (port : ℕ) → Comes (is_from u) (hand u) items views
    → get_elem? views port ≡ some v → (b ≡ true → ((hand o v).sends ≡ true) × Begins x (hand o v).left) → Comes (is_from u) (hand u) (items ++ x ∷ []) (set views port (sent x v))
comes_sent u o false x v eo eb items views port h at may =
    keeps (is_from u) (hand u) items (items ++ x ∷ []) views port v (sent x v) h at (sent_is u o false x v eo eb) (passed (is_from u) items x (from_is u o false x eo eb ∙ and_false (same o u)))
comes_sent true true true x v eo eb items views port h at may =
    pushes (is_from true) (hand true) items views port v (sent x v) x h at (from_is true true true x eo eb) (may refl).0 (may refl).1 (sent_is true true true x v eo eb)
comes_sent false false true x v eo eb items views port h at may =
    pushes (is_from false) (hand false) items views port v (sent x v) x h at (from_is false false true x eo eb) (may refl).0 (may refl).1 (sent_is false false true x v eo eb)
comes_sent true false true x v eo eb items views port h at may =
    keeps (is_from true) (hand true) items (items ++ x ∷ []) views port v (sent x v) h at (sent_is true false true x v eo eb) (passed (is_from true) items x (from_is true false true x eo eb))
comes_sent false true true x v eo eb items views port h at may =
    keeps (is_from false) (hand false) items (items ++ x ∷ []) views port v (sent x v) h at (sent_is false true true x v eo eb) (passed (is_from false) items x (from_is false true true x eo eb))

comes_taken : (u o b : Bool) (x : Message) (v : View) → x.odd ≡ o → is_planned x.news ≡ b → (items : List Message) (views : List View) (port : ℕ) → Comes (is_from u) (hand u) (x ∷ items) views
    → get_elem? views port ≡ some v → (hand u v).takes ≡ true → Comes (is_from u) (hand u) items (set views port (taken x v))
comes_taken u o false x v eo eb items views port h at may =
    keeps (is_from u) (hand u) (x ∷ items) items views port v (taken x v) h at (taken_is u o false x v eo eb)
    (sym (ap (λ c. cond c (x ∷ filter (is_from u) items) (filter (is_from u) items)) (from_is u o false x eo eb ∙ and_false (same o u))))
comes_taken true true true x v eo eb items views port h at may =
    pops (is_from true) (hand true) items views port v (taken x v) x h at (from_is true true true x eo eb) may (taken_is true true true x v eo eb)
comes_taken false false true x v eo eb items views port h at may =
    pops (is_from false) (hand false) items views port v (taken x v) x h at (from_is false false true x eo eb) may (taken_is false false true x v eo eb)
comes_taken true false true x v eo eb items views port h at may =
    keeps (is_from true) (hand true) (x ∷ items) items views port v (taken x v) h at (taken_is true false true x v eo eb)
    (sym (ap (λ c. cond c (x ∷ filter (is_from true) items) (filter (is_from true) items)) (from_is true false true x eo eb)))
comes_taken false true true x v eo eb items views port h at may =
    keeps (is_from false) (hand false) (x ∷ items) items views port v (taken x v) h at (taken_is false true true x v eo eb)
    (sym (ap (λ c. cond c (x ∷ filter (is_from false) items) (filter (is_from false) items)) (from_is false true true x eo eb)))

begins_taken : (o : Bool) (x : Message) (v : View) → x.odd ≡ o → is_planned x.news ≡ true → (items : List Message) (views : List View) (port : ℕ) → Dealt (x ∷ items) views → get_elem? views port ≡ some v
    → MayTake v → Begins x (hand o v).due
begins_taken true x v eo eb items views port h at may = begins_due (is_from true) (hand true) items views port v x h.1 at (from_is true true true x eo eb) may.1
begins_taken false x v eo eb items views port h at may = begins_due (is_from false) (hand false) items views port v x h.0 at (from_is false false true x eo eb) may.0

pub begins : (even odd : List Message) → Dealt [] (view_of (both_hands even) (both_hands odd) ∷ [])
begins even odd = let v = view_of (both_hands even) (both_hands odd) in (
  (0, 0, even, even, refl, only (λ j u. Fits 0 0 even even j (hand false u)) v ((λ _. (refl, refl)), λ _. (refl, refl))),
  (0, 0, odd, odd, refl, only (λ j u. Fits 0 0 odd odd j (hand true u)) v ((λ _. (refl, refl)), λ _. (refl, refl))),
)

pub sends : (n port : ℕ) (v : View) (x : Message) → MaySend x v → Pushes Dealt n port v x (λ w. w ≡ sent x v)
sends n port v x may items views _ h at = (
  sent x v,
  (comes_sent false x.odd (is_planned x.news) x v refl refl items views port h.0 at may, comes_sent true x.odd (is_planned x.news) x v refl refl items views port h.1 at may),
  refl,
)

pub may_send_same : (m x : Message) (v w : View) → x ≡ m → w ≡ v → MaySend m v → MaySend x w
may_send_same m x v w e f may = subst (λ y. MaySend y w) (sym e) (subst (λ u. MaySend m u) (sym f) may)

pub gets : (port : ℕ) (v : View) → MayTake v → Pops Dealt port v (Takes v)
gets port v may x items views h at = (
  taken x v,
  (comes_taken false x.odd (is_planned x.news) x v refl refl items views port h.0 at may.0, comes_taken true x.odd (is_planned x.news) x v refl refl items views port h.1 at may.1),
  (refl, λ planned. begins_taken x.odd x v refl planned items views port h at may),
)

pub gives_even : (port : ℕ) (v : View) → v.even.sends ≡ true → MayTake v → Forks Dealt port v (without_sender false v) (worker false (hand false v).left)
gives_even port v may takes items views h at = (
  gives (is_from false) (hand false) items views port v (without_sender false v) (worker false (hand false v).left) h.0 at may takes.0 refl refl,
  stays (is_from true) (hand true) items views port v (without_sender false v) (worker false (hand false v).left) h.1 at refl refl,
)

pub gives_odd : (port : ℕ) (v : View) → v.odd.sends ≡ true → MayTake v → Forks Dealt port v (without_sender true v) (worker true (hand true v).left)
gives_odd port v may takes items views h at = (
  stays (is_from false) (hand false) items views port v (without_sender true v) (worker true (hand true v).left) h.0 at refl refl,
  gives (is_from true) (hand true) items views port v (without_sender true v) (worker true (hand true v).left) h.1 at may takes.1 refl refl,
)
