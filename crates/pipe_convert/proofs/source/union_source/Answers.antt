use Rattle.std.proofs.Common.{◌≡◌, ◌+◌, [], ap, drop, get_or, length, subst, arith}
use Rattle.pipe_source.specs.Law.{all_rows}
use Rattle.std.proofs.lemmas.List.{drop_more, drop_all}
use Rattle.pipe_convert.specs.Sources.{AreScans}
use Rattle.pipe_convert.proofs.SourceLemmas.{ScansBehind, rows_next, scans_first, scans_next, scans_done, scans_long}
use Rattle.pipe_source.specs.Supplies.{all_left}
use Rattle.pipe_convert.proofs.source.union_source.Goals as goal

pub loop-input-init : goal.loop-input-init
loop-input-init c = record { scans = c.requires.scans; few = (let e = ap (λ xs. length (all_rows (all_left xs))) c.new-sources.ensures.items in omega arith); behind = scans_first c.args.plan.now c.args.inputs.now _ c.new-sources.ensures.items }

pub source_at-requires-clause-under : goal.source_at-requires-clause-under
source_at-requires-clause-under c =
    let i = c.loop-input.input-index in
    (subst (AreScans c.args.plan.now) (drop_more c.args.inputs.now i 0 c.loop-input-test.true) c.loop-input.invariant.scans).0.under

pub source_at-requires-clause-scan : goal.source_at-requires-clause-scan
source_at-requires-clause-scan c =
    let i = c.loop-input.input-index in
    (subst (AreScans c.args.plan.now) (drop_more c.args.inputs.now i 0 c.loop-input-test.true) c.loop-input.invariant.scans).0.scan

pub loop-input-preserved : goal.loop-input-preserved
loop-input-preserved c =
    let plan = c.args.plan.now in
    let xs = c.args.inputs.now in
    let i = c.loop-input.input-index in
    let more = drop_more xs i 0 c.loop-input-test.true in
    let known = c.loop-input.invariant in
    record {
      scans = (subst (AreScans plan) more known.scans).1;
      few = rows_next c.loop-input.sources.items _ _ _ _ c.in_ok-push.ensures.items c.in_ok-source.ensures.rows known.few;
      behind = scans_next plan xs (drop (i + 1) xs) (get_or xs i 0) c.loop-input.sources.items _ _ c.in_ok-push.ensures.items c.in_ok-source.ensures.source (subst (λ r. ScansBehind plan xs r c.loop-input.sources.items) more known.behind);
    }

pub new-requires : goal.new-requires
new-requires c =
    let plan = c.args.plan.now in
    let xs = c.args.inputs.now in
    let i = c.loop-input.input-index in
    let none : drop i xs ≡ [] = drop_all i xs (omega (arith, c.loop-input-test.false)) in
    let long = scans_long plan xs (all_left c.loop-input.sources.items) (scans_done plan xs (drop i xs) c.loop-input.sources.items none c.loop-input.invariant.behind) in
    omega arith

pub returns-clause-union : goal.returns-clause-union
returns-clause-union c =
    let plan = c.args.plan.now in
    let xs = c.args.inputs.now in
    let i = c.loop-input.input-index in
    let none : drop i xs ≡ [] = drop_all i xs (omega (arith, c.loop-input-test.false)) in
    rw c.new.ensures (scans_done plan xs (drop i xs) c.loop-input.sources.items none c.loop-input.invariant.behind)

pub returns-clause-few : goal.returns-clause-few
returns-clause-few c =
    let few = c.loop-input.invariant.few in
    rw c.new.ensures (omega arith)
