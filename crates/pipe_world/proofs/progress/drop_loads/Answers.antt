use Rattle.std.proofs.Common.{rules, ◌≡◌, true, false}
use Rattle.std.specs.Prelude.{not}
use Rattle.std.proofs.lemmas.Fn.{filter_same}
use Rattle.pipe_events.specs.Worlds.{is_of}
use Rattle.pipe_world.proofs.progress.drop_loads.Goals as goal

pub returns : goal.returns
returns c = filter_same _ (λ load. not (is_of c.args.worker load)) _ (λ x b f' k. search rules) _ _ c.retain.ensures.filtered
