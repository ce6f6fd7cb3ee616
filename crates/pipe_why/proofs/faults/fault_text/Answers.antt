use Rattle.std.proofs.Common.{◌≡◌, ◌++◌, List, ℕ, [], ap, ◌∙◌}
use Rattle.pipe_why.proofs.faults.fault_text.Goals as goal

headed : (head more start out all : List ℕ) → all ≡ out ++ more → out ≡ start ++ head → start ≡ [] → all ≡ head ++ more
headed head more start out all last first empty = last ∙ ap (λ (bytes : List ℕ). bytes ++ more) (first ∙ ap (λ (bytes : List ℕ). bytes ++ head) empty)

pub returns : goal.returns
returns c = (_, headed _ _ _ _ _ c.in_ok-push_str.ensures.bytes c.in_ok-push_head.ensures c.new-out.ensures.bytes)
