use Rattle.std.proofs.Common.{rules, ◌≡◌, None, Some}
use Rattle.pipe_selftest.specs.Words.{start_in}
use Rattle.pipe_cli.proofs.HeightLemmas.{heights_shorter, with_one_more, with_none, with_last, with_no_last}
use Rattle.pipe_cli.proofs.heights.heights_in.Goals as goal

pub returns-in_default-start_in-clause-none : goal.returns-in_default-start_in-clause-none
returns-in_default-start_in-clause-none c =
    let none : start_in c.in-Some.first.now ≡ None = search rules in
    λ _. with_none c.pieces.rest.now c.args.word.now c.pieces.heights.items (c.in-Some.first, c.in-Some.behind) c.in-Some.ensures.cases none c.pieces.invariant.known

pub pieces-smaller : goal.pieces-smaller
pieces-smaller c = heights_shorter c.pieces.rest.now (c.in-Some.first, c.in-Some.behind) c.in-Some.ensures.cases

pub pieces-preserved : goal.pieces-preserved
pieces-preserved c =
    let is : Some c.in-Some-start_in.height ≡ start_in c.in-Some.first.now = search rules in
    record {
      text = search rules;
      known = with_one_more c.pieces.rest.now c.args.word.now c.pieces.heights.items c.push.new.self.items c.in-Some-start_in.height (c.in-Some.first, c.in-Some.behind) c.in-Some.ensures.cases is c.in_ok-push.ensures.items c.pieces.invariant.known;
    }

pub returns-in_default-start_in-2-clause-none : goal.returns-in_default-start_in-2-clause-none
returns-in_default-start_in-2-clause-none c =
    let end : c.split_once.result ≡ None = search rules in
    let none : start_in c.pieces.rest.now ≡ None = search rules in
    λ _. with_no_last c.pieces.rest.now c.args.word.now c.pieces.heights.items c.split_once.result c.split_once.ensures.cases end none c.pieces.invariant.known

pub returns-clause-some : goal.returns-clause-some
returns-clause-some c =
    let end : c.split_once.result ≡ None = search rules in
    let is : Some c.in-Some-start_in-2.last ≡ start_in c.pieces.rest.now = search rules in
    with_last c.pieces.rest.now c.args.word.now c.pieces.heights.items c.push-2.new.self.items c.in-Some-start_in-2.last c.split_once.result c.split_once.ensures.cases end is c.in_ok-push-2.ensures.items c.pieces.invariant.known
