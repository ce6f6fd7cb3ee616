-- What the caller and the workers know of the queue. For each worker, what is still to come to the caller is what the
-- queue holds of it, and then what it has still to send. One pass at most may send for a worker, and one takes.
use Rattle.std.specs.Prelude.{◌≡◌, ℕ, Bool, true, false, List, [], ◌∷◌, ◌++◌, drop, filter, IsTrue, if◌then◌else◌}
use mathlib.Core.Option.{some}
use lib.ListN.{get_elem?}
use Rattle.pipe_stream.specs.Messages.{Begins, is_from, is_planned}
use Rattle.pipe_stream.specs.declared.message.Message.{Message}
use Rattle.pipe_stream.specs.declared.hands.Hand.{Hand}
use Rattle.pipe_stream.specs.declared.hands.View.{View}

-- no part in what goes between a worker and the caller
abbrev pub no_hand : Hand
no_hand = record { sends = false; left = []; takes = false; due = [] }

-- the hand of one who may send
abbrev pub sender : List Message → Hand
sender left = record { sends = true; left = left; takes = false; due = [] }

-- the hand of one who may take
abbrev pub taker : List Message → Hand
taker due = record { sends = false; left = []; takes = true; due = due }

-- the hand of one who may do both
abbrev pub both_hands : List Message → Hand
both_hands all = record { sends = true; left = all; takes = true; due = all }

-- the view of one who has these hands
abbrev pub view_of : Hand → Hand → View
view_of even odd = record { even = even; odd = odd }

-- the hand that has to do with a worker
abbrev pub hand : Bool → View → Hand
hand true v = v.odd
hand false v = v.even

-- the same view with another hand for a worker
abbrev pub with_hand : Bool → Hand → View → View
with_hand true h v = view_of v.even h
with_hand false h v = view_of h v.odd

-- the view of a worker alone
abbrev pub worker : Bool → List Message → View
worker odd left = with_hand odd (sender left) (view_of no_hand no_hand)

-- the view of who gives away the right to send for a worker
abbrev pub without_sender : Bool → View → View
without_sender odd v = with_hand odd (taker (hand odd v).due) v

-- after a message was sent
abbrev pub sent : Message → View → View
sent message v =
    if is_planned message.news
    then with_hand message.odd (record (hand message.odd v) { left = drop 1 (hand message.odd v).left }) v
    else v

-- after a message was taken
abbrev pub taken : Message → View → View
taken message v =
    if is_planned message.news
    then with_hand message.odd (record (hand message.odd v) { due = drop 1 (hand message.odd v).due }) v
    else v

-- a message may be sent: it is the next of its worker, or says that this one gave up
abbrev pub MaySend : Message → View → Type 0
MaySend message v =
    is_planned message.news ≡ true → ((hand message.odd v).sends ≡ true) × Begins message (hand message.odd v).left

-- a message was taken, and if it was planned it was the next to come from its worker
abbrev pub Takes : View → Message → View → Type 0
Takes v message w = (w ≡ taken message v) × (is_planned message.news ≡ true → Begins message (hand message.odd v).due)

-- both workers' messages may be taken
abbrev pub MayTake : View → Type 0
MayTake v = ((hand false v).takes ≡ true) × ((hand true v).takes ≡ true)

-- what a hand knows is so
abbrev pub Fits : ℕ → ℕ → List Message → List Message → ℕ → Hand → Type 0
Fits writer reader left due port h =
    (h.sends ≡ true → (port ≡ writer) × (h.left ≡ left)) × (h.takes ≡ true → (port ≡ reader) × (h.due ≡ due))

-- what is still to come of the messages that a test picks, as these hands know it
abbrev pub Comes : (Message → Bool) → (View → Hand) → List Message → List View → Type 0
Comes picks shows items views =
    (writer : ℕ) × (reader : ℕ) × (left : List Message) × (due : List Message) × (due ≡ filter picks items ++ left)
    × ((port : ℕ) (v : View) → get_elem? views port ≡ some v → Fits writer reader left due port (shows v))

-- the rule of the queue
abbrev pub Dealt : List Message → List View → Type 0
Dealt items views = Comes (is_from false) (hand false) items views × Comes (is_from true) (hand true) items views
