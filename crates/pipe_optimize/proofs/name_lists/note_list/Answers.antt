use Rattle.pipe_optimize.proofs.Runs.{put-back}
use Rattle.pipe_optimize.proofs.name_lists.note_list.Goals as goal

pub returns-in_err-note : goal.returns-in_err-note
returns-in_err-note c = put-back c.args.runs.now.items _ c.index_mut-names.result.now c.note.new.self c.index_mut-names.ensures.value c.in_err-note.ensures

pub returns : goal.returns
returns c = put-back c.args.runs.now.items _ c.index_mut-names.result.now c.note.new.self c.index_mut-names.ensures.value c.in_ok-note.ensures
