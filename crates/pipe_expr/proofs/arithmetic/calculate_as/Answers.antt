use Rattle.pipe_expr.specs.Nullables.{strictly}
use Rattle.pipe_expr.specs.Values.{sum_of, difference_of, product_of}
use Rattle.pipe_expr.proofs.Zips.{zips-cells}
use Rattle.pipe_expr.proofs.arithmetic.calculate_as.Goals as goal

pub returns-in_ok-zip_into-in-Sum-clause-cells : goal.returns-in_ok-zip_into-in-Sum-clause-cells
returns-in_ok-zip_into-in-Sum-clause-cells g c =
    rw c.in-Sum.is (zips-cells g.T.Native.cell g.T.Native.cell (strictly g.T.Integer.sum) sum_of g.met.T.Integer.sums c.in_ok-zip_into-in-Sum.ensures.cells)

pub returns-in_ok-zip_into-in-Difference-clause-cells : goal.returns-in_ok-zip_into-in-Difference-clause-cells
returns-in_ok-zip_into-in-Difference-clause-cells g c =
    rw c.in-Difference.is (zips-cells g.T.Native.cell g.T.Native.cell (strictly g.T.Integer.difference) difference_of g.met.T.Integer.differences c.in_ok-zip_into-in-Difference.ensures.cells)

pub returns-in_ok-zip_into-in-Product-clause-cells : goal.returns-in_ok-zip_into-in-Product-clause-cells
returns-in_ok-zip_into-in-Product-clause-cells g c =
    rw c.in-Product.is (zips-cells g.T.Native.cell g.T.Native.cell (strictly g.T.Integer.product) product_of g.met.T.Integer.products c.in_ok-zip_into-in-Product.ensures.cells)
