use Rattle.pipe_driver.proofs.Held.{all_held}
use Rattle.pipe_driver.proofs.journal_laws.legs_take_their_sources.Goals as goal

pub returns : goal.returns
returns c = all_held
