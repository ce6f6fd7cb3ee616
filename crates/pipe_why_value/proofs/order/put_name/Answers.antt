use Rattle.std.proofs.Common.{refl, sym, ◌∙◌, subst, Some}
use Rattle.std.specs.Prelude.{string_bytes}
use Rattle.std.proofs.lemmas.Map.Text.{btree_map_updates_text}
use Rattle.pipe_why_value.proofs.Orders.{name_read}
use Rattle.pipe_why_value.proofs.order.put_name.Goals as goal

pub returns : goal.returns
returns c = λ names at were.
    let bytes = string_bytes c.in_ok-key.key in
    name_read names c.args.place bytes _ c.args.lasts.now c.insert.new.self were (at ∙ sym c.in_ok-key.ensures.ok) refl
    (λ q. btree_map_updates_text bytes c.args.lasts.now c.insert.new.self (Some _) c.in_ok-insert.ensures.updates q)
