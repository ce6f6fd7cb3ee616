use Rattle.std.proofs.Common.{◌≡◌, ◌+◌, ◌∙◌, arith, ap, sym, subst, map}
use Rattle.std.specs.List.{AllByRecursion}
use Rattle.pipe_column.specs.Series.{named_cells}
use Rattle.pipe_source.specs.Lent.{cells_between}
use Rattle.pipe_source.specs.Parts.{HasPlaces}
use Rattle.pipe_source.proofs.PartRows.{parts_there, fewer_places, between-cells}
use Rattle.pipe_source.proofs.parts.flattened_values.Goals as goal

pub push_row-requires-clause-there : goal.push_row-requires-clause-there
push_row-requires-clause-there g c =
    let end = c.args.from + c.args.count in
    let next = c.args.from + c.loop-i.i + 1 in
    let less = c.loop-i-test.true in
    let there = parts_there g.T.Native.cell g.T.Native.dtype_of end c.in_ok-all.all.items c.args.columns.now c.in_ok-all.ensures.cells c.in_ok-all.ensures.even c.requires.there in
    subst (AllByRecursion (HasPlaces next)) (sym c.as_slice.ensures.value) (fewer_places end next c.in_ok-all.all.items (omega (arith, less)) there)

pub returns : goal.returns
returns g c =
    let last = c.loop-i-test.false in
    let end = c.loop-i.auto.i-end in
    let all_of : c.loop-i.i ≡ c.args.count = omega (arith, last, end) in
    c.from_column.ensures
    ∙ ap (named_cells c.args.name g.T.Native.dtype_of)
    (ap (map g.T.Native.cell) (c.from_parts.ensures ∙ c.loop-i.invariant.made)
    ∙ between-cells g.T.Native.cell g.met.T.Native.missing c.in_ok-all.all.items c.args.columns.now c.in_ok-all.ensures.cells c.args.from c.loop-i.i
    ∙ ap (cells_between c.args.columns.now c.args.from) all_of)
