-- An answer of an operator that marks nothing pays what it owes.
use Rattle.std.proofs.Common.{ℕ, List, [], refl, arith, append-nil}
use Rattle.std.specs.Prelude.{Result, Ok, Err, IfOk, IfErr}
use Rattle.std.proofs.lemmas.Result.{IfOk-weaker}
use Rattle.pipe_schema.specs.Rows.{Row}
use Rattle.pipe_frame.specs.Frame.{Table}
use Rattle.pipe_schema.specs.declared.field.Field.{Field}
use Rattle.pipe_frame.specs.declared.chunk.DataChunk.{DataChunk}
use Rattle.pipe_ops.specs.Pieces.{Pays, Gives}
use Rattle.pipe_ops.specs.declared.operator.OperatorResult.{OperatorResult}
use Rattle.pipe_ops.specs.declared.operator.OperatorResult.TheVariants.{NeedsNewData, HaveMoreOutPut, Finished}
use Rattle.pipe_chain.specs.Flow.{Work, Grown, Few, no_acts}
use Rattle.pipe_chain.specs.Executed.{Executed, MarksSome, Pays as PaysAll}
use Rattle.pipe_chain.specs.Unmarking.{row_work, row_debt}
use Rattle.pipe_chain.proofs.Weighing.{rows-sym, rows-append, rows-refl}

nothing-more : Grown no_acts no_acts no_acts
nothing-more = record { marked = record { sums = λ f. refl }; won = record { sums = λ f. refl } }

none-few : Few no_acts
none-few = record { sums = λ f. omega arith }

module _ (w : Work) (owed left : List Row) where
  pub plain-pays : (r : OperatorResult) → Pays owed left r → Executed w no_acts no_acts (record { rows = owed; keys = [] }) (record { rows = left; keys = [] }) r
  plain-pays NeedsNewData h = record {
    more = no_acts;
    grown = nothing-more;
    few = none-few;
    keys = record { sums = λ f. refl };
    rows = rw (h, append-nil) (record { each = λ row. refl });
    some = λ e. cc;
  }
  plain-pays (HaveMoreOutPut piece) h = record {
    more = no_acts;
    grown = nothing-more;
    few = none-few;
    keys = record { sums = λ f. refl };
    rows = rw append-nil (rows-sym h.2);
    some = λ e. h.0;
  }
  plain-pays (Finished piece) h = record {
    more = no_acts;
    grown = nothing-more;
    few = none-few;
    keys = record { sums = λ f. refl };
    rows = rows-append (rows-sym h) (rows-refl []);
    some = λ e. cc;
  }

pub plain-gives : {S E : Type 0} (each : List Field → S → Row → List Row) (before after' : S → Table → List Row) (schema : List Field) (s : S) (chunk : DataChunk) (r : Result OperatorResult E)
    → IfOk r (Gives before after' s chunk) → IfOk r (PaysAll (row_work each schema) no_acts no_acts (row_debt before) (row_debt after') s chunk)
plain-gives each before after' schema s chunk r h =
    IfOk-weaker r _ _ (λ answer pays. plain-pays (row_work each schema s) (before s chunk.frame) (after' s chunk.frame) answer pays) h

pub plain-memory : {T E : Type 0} (r : Result T E) (keys : List ℕ) → IfErr r (λ e. MarksSome no_acts no_acts keys)
plain-memory (Ok value) keys = tt
plain-memory (Err e) keys = record { more = no_acts; grown = nothing-more; few = none-few; some = record { sums = λ f. omega arith } }
