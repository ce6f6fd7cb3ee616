-- The numbers of a good run.
use Rattle.std.specs.Prelude.{◌≤◌, ◌-◌, ◌^◌}
use Rattle.pipe_plan.specs.declared.config.PipeConfig.{PipeConfig}

pub record IsConfig (config : PipeConfig) : Type 0 where
  pub some_worker : 1 ≤ config.workers
  pub few_workers : config.workers ≤ 256
  pub some_row : 1 ≤ config.chunk_rows
  pub some_limit : 1 ≤ config.row_limit
  pub small_limit : config.row_limit ≤ 2 ^ 32 - 2
