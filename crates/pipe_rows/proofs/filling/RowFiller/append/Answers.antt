use Rattle.std.proofs.Common.{◌≡◌}
use Rattle.pipe_rows.specs.Filling.{patched}
use Rattle.pipe_rows.proofs.FillingLemmas.{put_fits, put_within, put_seen, written_items}
use Rattle.pipe_rows.proofs.filling.RowFiller.append.Goals as goal

pub put-requires : goal.put-requires
put-requires c =
    rw c.deref_mut.ensures.value (put_fits c.self.inside.bytes.items c.args.bytes.now c.self.inside.cursors.items c.self.inside.ends.items c.args.i c.index-start.result.now c.args.self.now c.self.view_is c.self.invariant c.requires.inside c.requires.room c.index-start.ensures)

pub invariant_of-self : goal.invariant_of-self
invariant_of-self c =
    let made : c.put.new.buffer ≡ patched c.self.inside.bytes.items c.index-start.result.now c.args.bytes.now = cc (c.put.ensures, c.deref_mut.ensures.value) in
    let fits = put_fits c.self.inside.bytes.items c.args.bytes.now c.self.inside.cursors.items c.self.inside.ends.items c.args.i c.index-start.result.now c.args.self.now c.self.view_is c.self.invariant c.requires.inside c.requires.room c.index-start.ensures in
    let is = written_items c.self.inside.bytes c.put.new.buffer c.index-start.result.now c.args.bytes.now fits made in
    put_within c.self.inside.bytes.items c.args.bytes.now c.self.inside.cursors.items c.self.inside.ends.items c.args.i c.index-start.result.now c.args.self.now c.self.view_is c.self.invariant c.requires.inside c.requires.room c.index-start.ensures _ is

pub returns : goal.returns
returns c =
    let made : c.put.new.buffer ≡ patched c.self.inside.bytes.items c.index-start.result.now c.args.bytes.now = cc (c.put.ensures, c.deref_mut.ensures.value) in
    let fits = put_fits c.self.inside.bytes.items c.args.bytes.now c.self.inside.cursors.items c.self.inside.ends.items c.args.i c.index-start.result.now c.args.self.now c.self.view_is c.self.invariant c.requires.inside c.requires.room c.index-start.ensures in
    let is = written_items c.self.inside.bytes c.put.new.buffer c.index-start.result.now c.args.bytes.now fits made in
    put_seen c.self.inside.bytes.items c.args.bytes.now c.self.inside.cursors.items c.self.inside.ends.items c.args.i c.index-start.result.now c.args.self.now c.self.view_is c.self.invariant c.requires.inside c.requires.room c.index-start.ensures _ is
