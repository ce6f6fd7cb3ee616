use Rattle.pipe_rows.proofs.SortLaw.{same_sorted}
use Rattle.pipe_rows.proofs.sorting.same_rows_sort_alike.Goals as goal

pub returns : goal.returns
returns c = same_sorted
