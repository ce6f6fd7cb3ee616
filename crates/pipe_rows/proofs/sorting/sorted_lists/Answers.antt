use Rattle.pipe_rows.proofs.SortLaw.{sorted_list, only_sorted}
use Rattle.pipe_rows.proofs.sorting.sorted_lists.Goals as goal

pub returns-clause-is_one : goal.returns-clause-is_one
returns-clause-is_one c = sorted_list

pub returns-clause-the_only : goal.returns-clause-the_only
returns-clause-the_only c = only_sorted
