-- What a worker has still to send.
use Rattle.std.proofs.Common.{◌≡◌, ◌≤◌, ◌<◌, ℕ, ◌+◌, ◌*◌, Bool, true, false, true≢false, List, [], ◌∷◌, drop, sym, refl, ap, ap₂, ◌∙◌, subst, length, Result, Ok, Err, is_ok, OnOk, arith, le_of_lt}
use Rattle.pipe_stream.specs.Blocks.{block_text, is_of, Describes}
use Rattle.pipe_stream.specs.Messages.{Begins, block_of, last_of, script, is_planned}
use Rattle.pipe_stream.specs.Hands.{MaySend, hand, sent, worker}
use Rattle.pipe_stream.specs.declared.message.Message.{Message}
use Rattle.pipe_stream.specs.declared.message.News.TheVariants as news
use Rattle.pipe_stream.specs.declared.hands.View.{View}
use Rattle.pipe_stream.proofs.BlockLemmas.{script-end, script-other, script-own}
use Rattle.pipe_stream.proofs.LineLemmas.{begins_within}

pub within_job : (text : ℕ → List ℕ) (count : ℕ) (line : ℕ → List ℕ) (height rows number : ℕ) → Describes text count line height rows → number < count → number * rows ≤ height
within_job text count line height rows number d h = le_of_lt (begins_within height rows number count d.some d.count_is h)

-- the message that a worker sends of a block
may_send : (odd : Bool) (m : Message) (rest : List Message) (v : View) → v ≡ worker odd (m ∷ rest) → m.odd ≡ odd → MaySend m v
may_send true m rest v e o = λ _. (
  ap₂ (λ b w. (hand b w).sends) o e,
  ap₂ (λ b w. (hand b w).left) o e ∙ ap (λ l. m ∷ l) (sym (ap₂ (λ b w. drop 1 (hand b w).left) o e)),
)
may_send false m rest v e o = λ _. (
  ap₂ (λ b w. (hand b w).sends) o e,
  ap₂ (λ b w. (hand b w).left) o e ∙ ap (λ l. m ∷ l) (sym (ap₂ (λ b w. drop 1 (hand b w).left) o e)),
)

pub may_send_block : (text : ℕ → List ℕ) (count : ℕ) (line : ℕ → List ℕ) (height rows number : ℕ) (odd : Bool) (t : List ℕ) (v : View) → Describes text count line height rows → number < count → is_of odd number ≡ true
    → t ≡ block_text line height rows number → v ≡ worker odd (script text count odd number) → MaySend (record { odd = odd; news = news.Block number t }) v
may_send_block text count line height rows number odd t v d h own e is =
    let same : t ≡ text number = e ∙ sym (ap (λ (f : ℕ → List ℕ). f number) d.text_is) in
    subst (λ x. MaySend (record { odd = odd; news = news.Block number x }) v) (sym same)
    (may_send odd (block_of odd text number) (script text count odd (number + 1)) v (is ∙ ap (λ l. worker odd l) (script-own text count odd number h own)) refl)

pub sent_block : (text : ℕ → List ℕ) (count : ℕ) (line : ℕ → List ℕ) (height rows number : ℕ) (odd : Bool) (t : List ℕ) (v w : View) → Describes text count line height rows → number < count → is_of odd number ≡ true
    → t ≡ block_text line height rows number → v ≡ worker odd (script text count odd number) → w ≡ sent (record { odd = odd; news = news.Block number t }) v → w ≡ worker odd (script text count odd (number + 1))
sent_block text count line height rows number true t v w d h own e is s =
    s ∙ ap (λ x. sent (record { odd = true; news = news.Block number t }) x) (is ∙ ap (λ l. worker true l) (script-own text count true number h own))
sent_block text count line height rows number false t v w d h own e is s =
    s ∙ ap (λ x. sent (record { odd = false; news = news.Block number t }) x) (is ∙ ap (λ l. worker false l) (script-own text count false number h own))

pub passed_block : (text : ℕ → List ℕ) (count number : ℕ) (odd : Bool) (v : View) → number < count → is_of odd number ≡ false → v ≡ worker odd (script text count odd number) → v ≡ worker odd (script text count odd (number + 1))
passed_block text count number odd v h other is = is ∙ ap (λ l. worker odd l) (script-other text count odd number h other)

pub all_sent : (text : ℕ → List ℕ) (count number : ℕ) (odd : Bool) (v : View) → count ≤ number → v ≡ worker odd (script text count odd number) → v ≡ worker odd (last_of odd true ∷ [])
all_sent text count number odd v h is = is ∙ ap (λ l. worker odd l) (script-end text count odd number h)

-- the last message
pub may_send_last : {X E : Type 0} (r : Result X E) (odd whole : Bool) (v : View) → whole ≡ is_ok r → OnOk r (v ≡ worker odd (last_of odd true ∷ [])) → MaySend (record { odd = odd; news = news.Last whole }) v
may_send_last (Ok x) odd whole v e is = subst (λ b. MaySend (record { odd = odd; news = news.Last b }) v) (sym e) (may_send odd (last_of odd true) [] v is refl)
may_send_last (Err x) odd whole v e is = λ pl. absurd (true≢false (sym pl ∙ e))
