use Rattle.std.proofs.Common.{subst, ◌∙◌, Option, List, ℕ}
use Rattle.pipe_schema.specs.Schema.{IsSchema}
use Rattle.pipe_plan.specs.Node as node
use Rattle.pipe_convert.specs.Converted.{IsNode}
use Rattle.pipe_convert.proofs.Sources.{frame_there, names_scanned, scan_all, scan_named, frame_same}
use Rattle.pipe_convert.proofs.scan.scan_frame.Goals as goal

pub numbered-frame-requires : goal.numbered-frame-requires
numbered-frame-requires c = rw (c.as_slice.ensures, c.arena.ensures.arena) (frame_there c.args.plan.now c.args.n c.args.frame c.args.columns.now c.known_well_formed.ensures c.requires)

pub named_columns-requires : goal.named_columns-requires
named_columns-requires c =
    let P : Option (List (List ℕ)) → Type 0 = λ columns. IsNode c.args.plan.now c.args.n (node.DataFrameScan c.args.frame columns) in
    let at_n = subst P c.in-Some.is c.requires in
    let whole = subst IsSchema c.schema.ensures c.fields.ensures.good in
    let same = frame_same c.args.plan.now c.args.frame _ _ c.arena.ensures.arena c.as_slice.ensures c.numbered-frame.ensures in
    rw c.as_slice-in-Some.ensures (names_scanned c.args.plan.now c.args.n c.args.frame c.in-Some.names c.numbered-frame.result.now c.known_well_formed.ensures at_n whole same)

pub returns-in_ok-try_clone-in-None : goal.returns-in_ok-try_clone-in-None
returns-in_ok-try_clone-in-None c =
    let P : Option (List (List ℕ)) → Type 0 = λ columns. IsNode c.args.plan.now c.args.n (node.DataFrameScan c.args.frame columns) in
    let at_n = subst P c.in-None.is c.requires in
    let same = frame_same c.args.plan.now c.args.frame _ _ c.arena.ensures.arena c.as_slice.ensures c.numbered-frame.ensures in
    scan_all c.args.plan.now c.args.n c.args.frame c.in_ok-try_clone-in-None.field-0 c.known_well_formed.ensures at_n (c.in_ok-try_clone-in-None.ensures ∙ same)

pub returns-in_ok-named_columns-in-Some : goal.returns-in_ok-named_columns-in-Some
returns-in_ok-named_columns-in-Some c =
    let P : Option (List (List ℕ)) → Type 0 = λ columns. IsNode c.args.plan.now c.args.n (node.DataFrameScan c.args.frame columns) in
    let at_n = subst P c.in-Some.is c.requires in
    let same = frame_same c.args.plan.now c.args.frame _ _ c.arena.ensures.arena c.as_slice.ensures c.numbered-frame.ensures in
    let made = rw c.as_slice-in-Some.ensures at c.in_ok-named_columns-in-Some.ensures in
    scan_named c.args.plan.now c.args.n c.args.frame c.in-Some.names c.numbered-frame.result.now c.in_ok-named_columns-in-Some.field-0 c.known_well_formed.ensures at_n same made
