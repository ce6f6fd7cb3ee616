use Rattle.std.proofs.Common.{◌≡◌, true, false, Some, ap, sym, ◌∙◌}
use Rattle.std.specs.Prelude.{is_some, string_bytes}
use Rattle.std.specs.BTreeMap.{get_by_text}
use Rattle.std.proofs.lemmas.Map.Text.{btree_map_updates_text}
use Rattle.pipe_optimize.proofs.Noted.{noted-there, noted-new}
use Rattle.pipe_optimize.proofs.first_places.note.Goals as goal

pub returns-then-contains_key-clause-noted : goal.returns-then-contains_key-clause-noted
returns-then-contains_key-clause-noted c = λ q.
    let places = c.args.places.now in
    let there : is_some (get_by_text places c.args.name.now) ≡ true = ap (λ n. is_some (get_by_text places n)) (sym c.as_str.ensures) ∙ sym c.contains_key.ensures ∙ c.if-contains_key.true in
    noted-there (get_by_text places) c.args.name.now q c.args.place there

pub returns-clause-noted : goal.returns-clause-noted
returns-clause-noted c = λ q.
    let places = c.args.places.now in
    let new = c.insert.new.self in
    let key = string_bytes c.in_ok-key.key in
    let same : key ≡ c.args.name.now = c.in_ok-key.ensures.ok ∙ c.as_str-2.ensures in
    let missing : is_some (get_by_text places c.args.name.now) ≡ false = ap (λ n. is_some (get_by_text places n)) (sym c.as_str.ensures) ∙ sym c.contains_key.ensures ∙ c.if-contains_key.false in
    noted-new (get_by_text places) (get_by_text new) key c.args.name.now q c.args.place same missing (btree_map_updates_text key places new (Some c.args.place) c.in_ok-insert.ensures.updates q)
