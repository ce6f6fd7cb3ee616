use Rattle.std.proofs.Common.{refl, ap, ◌∙◌, Some}
use Rattle.pipe_value.specs.View.{view}
use Rattle.pipe_why_text.specs.declared.want.Want.{Want}
use Rattle.pipe_why_value.specs.declared.wrong.Wrong.TheVariants as wrong
use Rattle.pipe_why_value.proofs.Looks.{looked_none, noted_good, noted_here, on_ok, some_none}
use Rattle.pipe_why_value.proofs.walk.Walk.judge.Goals as goal

pub returns-then-is_too_wide-clause-looked : goal.returns-then-is_too_wide-clause-looked
returns-then-is_too_wide-clause-looked c =
    let d = view c.args.value.now in
    on_ok c.note.result
    (λ noted t parts. noted_here (c.args.want, d, t) wrong.Wide c.args.self.now c.note.new.self noted (c.is_too_wide.ensures.value c.if-is_too_wide.true)
    (λ root here. (d, t, here ∙ ap (λ (w : Want). Some (w, d, t)) (c.is_too_wide.ensures.want c.if-is_too_wide.true))) (λ root here none. tt))
    c.note.ensures.noted

pub returns-then-is_too_wide-clause-job : goal.returns-then-is_too_wide-clause-job
returns-then-is_too_wide-clause-job c = on_ok c.note.result (λ some none want. absurd (some_none c.note.new.self.first some none)) c.note.ensures.some

pub returns-then-is_too_wide-clause-good : goal.returns-then-is_too_wide-clause-good
returns-then-is_too_wide-clause-good c = on_ok c.note.result (λ some none. absurd (some_none c.note.new.self.first some none)) c.note.ensures.some

pub returns-then-holds-clause-good : goal.returns-then-holds-clause-good
returns-then-holds-clause-good c = λ none. c.in_ok-holds.ensures.yes c.if-holds.true

pub returns-clause-good : goal.returns-clause-good
returns-clause-good c = on_ok c.note-2.result (λ some none. absurd (some_none c.note-2.new.self.first some none)) c.note-2.ensures.some

pub returns-then-holds-clause-looked : goal.returns-then-holds-clause-looked
returns-then-holds-clause-looked c = λ t parts. looked_none (c.args.want, view c.args.value.now, t) c.args.self.now _ refl refl

pub returns-then-holds-clause-job : goal.returns-then-holds-clause-job
returns-then-holds-clause-job c = λ none want. c.in_ok-holds.ensures.job c.if-holds.true want

pub returns-clause-looked : goal.returns-clause-looked
returns-clause-looked c =
    let d = view c.args.value.now in
    on_ok c.note-2.result
    (λ noted t parts. noted_good (c.args.want, d, t) (wrong.Other c.args.want) c.args.self.now c.note-2.new.self noted (c.in_ok-holds.ensures.no c.if-holds.false) (λ root here. (d, t, here)) parts)
    c.note-2.ensures.noted

pub returns-clause-job : goal.returns-clause-job
returns-clause-job c = on_ok c.note-2.result (λ some none want. absurd (some_none c.note-2.new.self.first some none)) c.note-2.ensures.some
