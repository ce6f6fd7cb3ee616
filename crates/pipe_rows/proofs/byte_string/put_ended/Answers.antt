use Rattle.std.proofs.Common.{[], ◌∷◌, set, ap, ◌∙◌}
use Rattle.std.specs.List.{flat_map}
use Rattle.pipe_rows.specs.Filling.{appended, open_row_at}
use Rattle.pipe_rows.specs.Ordered.{directed_bytes, escaped_byte}
use Rattle.pipe_rows.proofs.FillingLemmas.{append_twice}
use Rattle.pipe_rows.proofs.OrderedLemmas.{ended_last}
use Rattle.pipe_rows.proofs.byte_string.put_ended.Goals as goal

pub returns : goal.returns
returns c =
    let zero = c.directed-zero.result in
    let escaped = directed_bytes c.args.descending (flat_map escaped_byte c.args.bytes.now) in
    append_twice c.args.filler.now c.put_escapes.new.filler c.append-2.new.self c.args.i (1 ∷ directed_bytes c.args.descending (flat_map escaped_byte c.args.bytes.now)) (c.directed-zero.result ∷ c.directed-zero.result ∷ []) c.requires.inside
    (append_twice c.args.filler.now c.append.new.self c.put_escapes.new.filler c.args.i (1 ∷ []) (directed_bytes c.args.descending (flat_map escaped_byte c.args.bytes.now)) c.requires.inside c.append.ensures c.put_escapes.ensures)
    c.append-2.ensures
    ∙ ap (λ l. set c.args.filler.now c.args.i (appended (1 ∷ l) (open_row_at c.args.filler.now c.args.i))) (ended_last c.args.descending c.directed-zero.result c.args.bytes.now c.directed-zero.ensures)
