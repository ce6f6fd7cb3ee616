use Rattle.std.proofs.Common.{◌≡◌, ◌∙◌, List, ap, sym, subst, length}
use Rattle.std.specs.List.{flat_map}
use Rattle.std.specs.Prelude.{All}
use Rattle.pipe_frame.specs.Chunks.{chunk_rows, chunks_table}
use Rattle.pipe_frame.specs.Frame.{columns_of}
use Rattle.pipe_schema.specs.Rows.{HasWidth}
use Rattle.pipe_frame.specs.declared.chunk.DataChunk.{DataChunk}
use Rattle.pipe_frame.proofs.Stacks.{made_fields, made_even, made_table}
use Rattle.pipe_frame.proofs.stacking.chunks_to_df_on.Goals as goal

pub of_height-requires-clause-fields : goal.of_height-requires-clause-fields
of_height-requires-clause-fields g c =
    let table = chunks_table c.args.schema.now c.args.chunks.items in
    let is : c.in_ok-columns.columns.items ≡ columns_of table = subst (λ l. c.in_ok-columns.columns.items ≡ columns_of (chunks_table c.args.schema.now l)) c.as_slice-2.ensures.value c.in_ok-columns.ensures in
    let long : c.in_ok-height.height ≡ length table.rows = c.in_ok-height.ensures.height ∙ ap (λ l. length (flat_map chunk_rows l)) c.as_slice.ensures.value in
    made_fields table c.in_ok-columns.columns.items c.in_ok-height.height is long ∙ sym c.in_ok-try_clone.ensures

pub of_height-requires-clause-even : goal.of_height-requires-clause-even
of_height-requires-clause-even g c =
    let table = chunks_table c.args.schema.now c.args.chunks.items in
    let is : c.in_ok-columns.columns.items ≡ columns_of table = subst (λ l. c.in_ok-columns.columns.items ≡ columns_of (chunks_table c.args.schema.now l)) c.as_slice-2.ensures.value c.in_ok-columns.ensures in
    let long : c.in_ok-height.height ≡ length table.rows = c.in_ok-height.ensures.height ∙ ap (λ l. length (flat_map chunk_rows l)) c.as_slice.ensures.value in
    made_even table c.in_ok-columns.columns.items c.in_ok-height.height is long

pub returns : goal.returns
returns g c =
    let table = chunks_table c.args.schema.now c.args.chunks.items in
    let is : c.in_ok-columns.columns.items ≡ columns_of table = subst (λ l. c.in_ok-columns.columns.items ≡ columns_of (chunks_table c.args.schema.now l)) c.as_slice-2.ensures.value c.in_ok-columns.ensures in
    let long : c.in_ok-height.height ≡ length table.rows = c.in_ok-height.ensures.height ∙ ap (λ l. length (flat_map chunk_rows l)) c.as_slice.ensures.value in
    let whole : All (HasWidth (length c.args.schema.now)) table.rows = subst (λ (l : List DataChunk). All (HasWidth (length c.args.schema.now)) (flat_map chunk_rows l)) c.as_slice.ensures.value c.in_ok-height.ensures.whole in
    c.of_height.ensures ∙ made_table table c.in_ok-columns.columns.items c.in_ok-height.height is long whole
