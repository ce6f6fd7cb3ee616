use Rattle.std.proofs.Common.{◌≡◌, List, [], ◌∷◌, ◌++◌, refl, sym, ap, subst, ◌∙◌, append_assoc, append-nil, arith}
use Rattle.std.proofs.lemmas.List.{map_push, nil_from_length}
use Rattle.std.specs.List.{AllByRecursion}
use Rattle.pipe_engine.specs.Drives.{Line}
use Rattle.pipe_lines.specs.Cuts.{IsLineFor, way_in}
use Rattle.pipe_lines.specs.Running.{ways_in}
use Rattle.pipe_lines.specs.declared.pipe_line.PipeLine.{PipeLine}
use Rattle.pipe_lines.proofs.MadeLines.{one_made}
use Rattle.pipe_lines.proofs.lending.wrap_lines.Goals as goal

pub ways-init : goal.ways-init
ways-init g c = record {
  ways = ap (λ (ps : List (PipeLine g.row.H.Denot)). ways_in ps ++ c.args.ways.items) c.new-lines.ensures.items;
  made_for = (let S : List (PipeLine g.row.H.Denot) → Type 0 = AllByRecursion (IsLineFor c.args.workers) in subst S (sym c.new-lines.ensures.items) tt);
}

pub ways-preserved : goal.ways-preserved
ways-preserved g c =
    let lines = c.ways.lines.items in
    let rest = c.pop_front.new.self.items in
    let way = c.in-Some.way in
    let line : PipeLine g.row.H.Denot = record { way = way; workers = c.args.workers } in
    let pushed = map_push way_in lines line in
    rw c.in_ok-push.ensures.items (record {
      ways = ap (λ (ws : List (Line g.row.H.Denot)). ws ++ rest) pushed ∙ append_assoc (ways_in lines) (way ∷ []) rest ∙ ap (λ (ws : List (Line g.row.H.Denot)). ways_in lines ++ ws) (sym c.in-Some.ensures.items) ∙ c.ways.invariant.ways;
      made_for = one_made c.args.workers lines line c.ways.invariant.made_for refl;
    })

pub ways-smaller : goal.ways-smaller
ways-smaller g c = omega (arith, c.in-Some.ensures.cases)

pub returns-clause-ways : goal.returns-clause-ways
returns-clause-ways g c =
    let none = nil_from_length c.ways.ways.items (omega (arith, c.in_default.ensures.cases.0)) in
    sym (append-nil (ways_in c.ways.lines.items)) ∙ ap (λ (ws : List (Line g.row.H.Denot)). ways_in c.ways.lines.items ++ ws) (sym none) ∙ c.ways.invariant.ways

pub returns-clause-workers : goal.returns-clause-workers
returns-clause-workers g c = c.ways.invariant.made_for
