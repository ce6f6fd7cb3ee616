use Rattle.std.proofs.Common.{◌≡◌, ℕ, length, ap, sym, ◌∙◌, subst}
use Rattle.pipe_view.specs.Kept.{Kept, IsSameView}
use Rattle.pipe_view.specs.Played.{after_kind, outcome_by}
use Rattle.pipe_view.specs.declared.delta.Delta.{Delta}
use Rattle.pipe_view.specs.declared.row_edit.EditKind.{EditKind}
use Rattle.pipe_view.specs.declared.row_edit.EditKind.TheVariants.{Remove}
use Rattle.pipe_view.specs.declared.row_edit.Outcome.{Outcome}
use Rattle.pipe_view.specs.declared.row_edit.Outcome.TheVariants.{Changed}
use Rattle.pipe_view.proofs.Listed.{absent-none, absent-told, insert-made, inserted-told, remove-made, removed-told, stays-absent, taken-out, told-lengths}
use Rattle.pipe_view.proofs.view.View.play.Goals as goal

pub returns-in-Insert-clause-outcome : goal.returns-in-Insert-clause-outcome
returns-in-Insert-clause-outcome c =
    let e = c.args.edit in
    let v = c.args.self.now in
    let d : Delta = c.in_ok-delta-in-Insert.delta in
    told-lengths c.len.result c.len-in-Insert.result d _ c.len.ensures c.len-in-Insert.ensures
    (inserted-told e.side e.row v c.insert.new.self d c.is_kept.ensures c.in_ok-delta-in-Insert.ensures.table c.in_ok-delta-in-Insert.ensures.delta
    ∙ ap (λ (k : EditKind). outcome_by k e.side e.row v) (sym c.in-Insert.is))

pub returns-in-Ok-clause-tables : goal.returns-in-Ok-clause-tables
returns-in-Ok-clause-tables c =
    let e = c.args.edit in
    let v = c.args.self.now in
    let now : Kept = c.remove.new.self in
    subst (λ (k : EditKind). IsSameView now (after_kind k e.side e.row v)) (sym c.in-Remove.is) (taken-out e.side e.row v now c.in-Ok.ensures.table)

pub returns-in-Ok-clause-outcome : goal.returns-in-Ok-clause-outcome
returns-in-Ok-clause-outcome c =
    let e = c.args.edit in
    let v = c.args.self.now in
    let d : Delta = c.in-Ok.delta in
    told-lengths c.len-in-Ok.result c.len-in-Ok-2.result d _ c.len-in-Ok.ensures c.len-in-Ok-2.ensures
    (removed-told e.side e.row v c.remove.new.self d c.is_kept.ensures c.in-Ok.ensures.table c.in-Ok.ensures.delta c.in-Ok.ensures.there
    ∙ ap (λ (k : EditKind). outcome_by k e.side e.row v) (sym c.in-Remove.is))

pub returns-in-Err-Absent-clause-tables : goal.returns-in-Err-Absent-clause-tables
returns-in-Err-Absent-clause-tables c =
    let e = c.args.edit in
    let v = c.args.self.now in
    let none = absent-none e.side e.row v c.in-Err-Absent.field-0 c.in-Err-Absent.ensures.err c.in-Err-Absent.field-0-is in
    let same = subst (λ (x : Kept). IsSameView x (after_kind Remove e.side e.row v)) (sym c.in-Err-Absent.ensures.unchanged) (stays-absent e.side e.row v none) in
    subst (λ (k : EditKind). IsSameView c.remove.new.self (after_kind k e.side e.row v)) (sym c.in-Remove.is) same

pub returns-in-Err-Absent-clause-outcome : goal.returns-in-Err-Absent-clause-outcome
returns-in-Err-Absent-clause-outcome c =
    let e = c.args.edit in
    let v = c.args.self.now in
    let none = absent-none e.side e.row v c.in-Err-Absent.field-0 c.in-Err-Absent.ensures.err c.in-Err-Absent.field-0-is in
    absent-told e.side e.row v none ∙ ap (λ (k : EditKind). outcome_by k e.side e.row v) (sym c.in-Remove.is)

pub returns-in-Insert-clause-within : goal.returns-in-Insert-clause-within
returns-in-Insert-clause-within c =
    let e = c.args.edit in
    let v = c.args.self.now in
    λ much. insert-made e.kind e.side e.row v c.insert.new.self c.is_kept.ensures c.in-Insert.is c.in_ok-delta-in-Insert.ensures.table c.in_ok-delta-in-Insert.ensures.within much

pub returns-in-Ok-clause-within : goal.returns-in-Ok-clause-within
returns-in-Ok-clause-within c = λ much. remove-made c.args.edit.kind _ c.in-Remove.is much

pub returns-in-Err-Absent-clause-within : goal.returns-in-Err-Absent-clause-within
returns-in-Err-Absent-clause-within c = λ much. remove-made c.args.edit.kind _ c.in-Remove.is much
