use Rattle.std.proofs.Common.{◌≡◌, ◌++◌, List, ℕ, OnOk, string_bytes, sym, ap, subst}
use Rattle.pipe_why.specs.Heads.{fault_head}
use Rattle.pipe_why.proofs.faults.push_head.Goals as goal

pub returns-in-UnknownColumn : goal.returns-in-UnknownColumn
returns-in-UnknownColumn c =
    subst (λ (head : List ℕ). OnOk c.push_at_node-in-UnknownColumn.result (string_bytes c.push_at_node-in-UnknownColumn.new.out ≡ string_bytes c.args.out.now ++ head))
    (sym (ap fault_head c.in-UnknownColumn.is)) c.push_at_node-in-UnknownColumn.ensures

pub returns-in-TypeMismatch : goal.returns-in-TypeMismatch
returns-in-TypeMismatch c =
    subst (λ (head : List ℕ). OnOk c.push_at_node-in-TypeMismatch.result (string_bytes c.push_at_node-in-TypeMismatch.new.out ≡ string_bytes c.args.out.now ++ head))
    (sym (ap fault_head c.in-TypeMismatch.is)) c.push_at_node-in-TypeMismatch.ensures
