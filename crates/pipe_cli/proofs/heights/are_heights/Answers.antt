use Rattle.std.proofs.Common.{rules, ◌≡◌, None, true}
use Rattle.std.specs.Prelude.{is_some}
use Rattle.pipe_selftest.specs.Words.{start_in}
use Rattle.pipe_cli.proofs.HeightLemmas.{heights_shorter, are_more, are_none, are_all}
use Rattle.pipe_cli.proofs.heights.are_heights.Goals as goal

pub returns-then-is_none : goal.returns-then-is_none
returns-then-is_none c =
    let none : start_in c.in-Some.first.now ≡ None = search rules in
    are_none c.pieces.rest.now c.args.word.now (c.in-Some.first, c.in-Some.behind) c.in-Some.ensures.cases none c.pieces.invariant.known

pub pieces-smaller : goal.pieces-smaller
pieces-smaller c = heights_shorter c.pieces.rest.now (c.in-Some.first, c.in-Some.behind) c.in-Some.ensures.cases

pub pieces-preserved : goal.pieces-preserved
pieces-preserved c =
    let there : is_some (start_in c.in-Some.first.now) ≡ true = search rules in
    record {
      text = search rules;
      known = are_more c.pieces.rest.now c.args.word.now (c.in-Some.first, c.in-Some.behind) c.in-Some.ensures.cases there c.pieces.invariant.known;
    }

pub returns : goal.returns
returns c =
    let none : c.split_once.result ≡ None = search rules in
    let all = are_all c.pieces.rest.now c.args.word.now c.split_once.result c.split_once.ensures.cases none c.pieces.invariant.known in
    search (rules, all)
