use Rattle.std.proofs.Common.{◌∙◌, ap, sym}
use Rattle.std.proofs.lemmas.List.{length-map}
use Rattle.pipe_rows.specs.Encoded.{marked_rows}
use Rattle.pipe_rows.specs.Filling.{written_of}
use Rattle.pipe_rows.proofs.FillingLemmas.{ends_rise, finished_pieces}
use Rattle.pipe_rows.proofs.filling.RowFiller.finish.Goals as goal

pub from_parts-requires : goal.from_parts-requires
from_parts-requires c = ends_rise 0 c.self.inside.cursors.items c.self.inside.ends.items _ c.self.invariant

pub of_parts-requires : goal.of_parts-requires
of_parts-requires c =
    let pieces = finished_pieces c.self.inside.cursors.items c.self.inside.ends.items c.self.inside.bytes.items c.args.self c.self.view_is c.self.invariant c.requires.full in
    rw (c.from_parts.ensures, pieces) (c.requires.marks ∙ sym (length-map c.args.self written_of))

pub returns : goal.returns
returns c =
    let pieces = finished_pieces c.self.inside.cursors.items c.self.inside.ends.items c.self.inside.bytes.items c.args.self c.self.view_is c.self.invariant c.requires.full in
    c.of_parts.ensures ∙ ap (λ l. marked_rows l c.args.marks.items) (c.from_parts.ensures ∙ pieces)
