use Rattle.pipe_engine.proofs.Leaving.{all_left}
use Rattle.pipe_lines.specs.Running.{ways_in}
use Rattle.pipe_lines.proofs.laws.none_run_all_left.Goals as goal

pub returns : goal.returns
returns g c = λ asked context pipelines slots counts stand. record {
  left = all_left g.H.KeyHasher.hash_of asked.settings asked.ask context slots counts (ways_in pipelines) stand.lent;
  made_for = stand.made_for;
}
