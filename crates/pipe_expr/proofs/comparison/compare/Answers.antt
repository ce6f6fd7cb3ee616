use Rattle.pipe_expr.proofs.ComparedCells.{compared-int32, compared-int64, compared-uint32, compared-uint64, compared-boolean, compared-int128}
use Rattle.pipe_expr.proofs.comparison.compare.Goals as goal

pub returns-in_ok-zip-in-Int32-clause-cells : goal.returns-in_ok-zip-in-Int32-clause-cells
returns-in_ok-zip-in-Int32-clause-cells g c = compared-int32 g.C.Test.test c.in_ok-zip-in-Int32.ensures.cells

pub returns-in_ok-zip-in-Int64-clause-cells : goal.returns-in_ok-zip-in-Int64-clause-cells
returns-in_ok-zip-in-Int64-clause-cells g c = compared-int64 g.C.Test.test c.in_ok-zip-in-Int64.ensures.cells

pub returns-in_ok-zip-in-UInt32-clause-cells : goal.returns-in_ok-zip-in-UInt32-clause-cells
returns-in_ok-zip-in-UInt32-clause-cells g c = compared-uint32 g.C.Test.test c.in_ok-zip-in-UInt32.ensures.cells

pub returns-in_ok-zip-in-UInt64-clause-cells : goal.returns-in_ok-zip-in-UInt64-clause-cells
returns-in_ok-zip-in-UInt64-clause-cells g c = compared-uint64 g.C.Test.test c.in_ok-zip-in-UInt64.ensures.cells

pub returns-in_ok-zip-in-Boolean-clause-cells : goal.returns-in_ok-zip-in-Boolean-clause-cells
returns-in_ok-zip-in-Boolean-clause-cells g c = compared-boolean g.C.Test.test c.in_ok-zip-in-Boolean.ensures.cells

pub returns-in_ok-zip-in-Int128-clause-cells : goal.returns-in_ok-zip-in-Int128-clause-cells
returns-in_ok-zip-in-Int128-clause-cells g c = compared-int128 g.C.Test.test c.in_ok-zip-in-Int128.ensures.cells
