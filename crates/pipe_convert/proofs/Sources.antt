-- The sort and the scan of a node do what the node means.
use Rattle.std.proofs.Common.{◌≡◌, ℕ, ◌<◌, List, [], Option, Some, None, length, refl, ap, sym, ◌∙◌}
use Rattle.std.specs.Prelude.{option_map}
use Rattle.std.proofs.lemmas.Bool.{leb-false}
use Rattle.pipe_column.specs.Columns.{column_rows}
use Rattle.pipe_frame.specs.Frame.{Table, select_fault, selected}
use Rattle.pipe_schema.specs.Rows.{Row}
use Rattle.pipe_schema.specs.Schema.{IsSchema, names_of, names_fault}
use Rattle.pipe_column.specs.Series.{Cells}
use Rattle.pipe_schema.specs.declared.error.FrameError.TheVariants as wrong
use Rattle.pipe_rows.specs.SortOrder.{sorted}
use Rattle.pipe_plan.specs.Node as node
use Rattle.pipe_plan.specs.Plan.{plan_of}
use Rattle.pipe_plan.specs.Schemas.{frame_at}
use Rattle.pipe_plan.specs.declared.arena.Arena.{Arena}
use Rattle.pipe_plan.specs.PlanRows.{sort_keys, slice_rows}
use Rattle.pipe_plan.specs.Faults.{IsWellFormed}
use Rattle.pipe_plan.specs.declared.ir.SortOptions.{SortOptions}
use Rattle.pipe_sort.specs.SortKeys.{Sorting, sort_rows, by_keys, kept_by}
use Rattle.pipe_sort.specs.declared.key.SortKey.{SortKey}
use Rattle.pipe_sort.specs.declared.key.SortSlice.{SortSlice}
use Rattle.pipe_ops.proofs.NamedFields.{selected_by}
use Rattle.pipe_events.specs.Stages.{Sort}
use Rattle.pipe_check.specs.Checked.{Checked}
use Rattle.pipe_convert.specs.Converted.{IsNode, IsSinkOf, IsScanOf, schema_in, scanned_table}
use Rattle.pipe_convert.proofs.Granted.{first_false}
use Rattle.pipe_convert.proofs.Types.{named-names}
use Rattle.pipe_convert.proofs.Operators.{grants, no_fault}

pub sort_of : (plan : Checked) (n input : ℕ) (by : List (List ℕ)) (options : SortOptions) (keys : List SortKey) (slice : Option SortSlice) (sink : Sorting) → IsWellFormed (plan_of plan.arena) plan.root → IsNode plan n (node.Sort input by options) → by_keys keys ≡ sort_keys (schema_in plan input) by options → ◌≡◌ {A = List Row → List Row} (kept_by slice) (slice_rows options.slice) → sink.settings ≡ record { keys = keys; slice = slice; schema = schema_in plan input } → sink.rows ≡ [] → IsSinkOf plan n input sink
sort_of plan n input by options keys slice sink good at_n same kept told empty =
    let g = grants plan n (node.Sort input by options) good at_n in
    record {
      takes_input = ap (λ s. s.schema) told;
      gives_output = ap (λ s. s.schema) told ∙ sym g.made;
      empty = empty;
      sorts = g.staged
          ∙ ap (λ ks. Sort input (λ rows. slice_rows options.slice (sorted ks rows))) (sym same)
          ∙ ap (λ f. Sort input (λ rows. f (sorted (by_keys keys) rows))) (sym kept)
          ∙ ap (λ s. Sort input (sort_rows s.keys s.slice)) (sym told);
    }

-- ---- scans

abbrev pub frame_of : Checked → ℕ → Table
frame_of plan frame = frame_at (plan_of plan.arena).frames frame

pub frame_there : (plan : Checked) (n frame : ℕ) (columns : Option (List (List ℕ))) → IsWellFormed (plan_of plan.arena) plan.root → IsNode plan n (node.DataFrameScan frame columns) → frame < length (plan_of plan.arena).frames
frame_there plan n frame columns good at_n =
    let g = grants plan n (node.DataFrameScan frame columns) good at_n in
    leb-false (length (plan_of plan.arena).frames) frame (first_false _ _ g.whole)

pub frame_same : (plan : Checked) (frame : ℕ) (arena : Arena) (frames : List Table) {table : Table} → arena ≡ plan.arena → frames ≡ arena.frames → table ≡ frame_at frames frame → table ≡ frame_of plan frame
frame_same plan frame arena frames a f t = t ∙ ap (λ l. frame_at l frame) (f ∙ ap (λ x. x.frames) a)

pub scan_all : (plan : Checked) (n frame : ℕ) (table : Table) → IsWellFormed (plan_of plan.arena) plan.root → IsNode plan n (node.DataFrameScan frame None) → table ≡ frame_of plan frame → IsScanOf plan n table
scan_all plan n frame table good at_n is =
    let g = grants plan n (node.DataFrameScan frame None) good at_n in
    rw is (record { gives_output = sym g.made; rows = g.staged })

pub names_scanned : (plan : Checked) (n frame : ℕ) (names : List (List ℕ)) (table : Table) → IsWellFormed (plan_of plan.arena) plan.root → IsNode plan n (node.DataFrameScan frame (Some names)) → IsSchema (schema_in plan n) → table ≡ frame_of plan frame → select_fault table.schema names ≡ None
names_scanned plan n frame names table good at_n whole is =
    let g = grants plan n (node.DataFrameScan frame (Some names)) good at_n in
    let fault : names_fault names ≡ None = sym (ap names_fault (named-names (frame_of plan frame).schema names)) ∙ ap (λ s. names_fault (names_of s)) (sym g.made) ∙ whole in
    rw is (no_fault (frame_of plan frame).schema names fault (ap (λ o. option_map wrong.UnknownColumn o) g.known))

pub names_selected : (names : List (List ℕ)) (frame made : Table) (columns : List Cells) → made ≡ selected frame names → select_fault frame.schema names ≡ None → length columns ≡ length frame.schema → frame.rows ≡ column_rows columns (length frame.rows) → made ≡ scanned_table names frame
names_selected names frame made columns e good wide rows = selected_by names names frame made columns refl e good wide rows

pub scan_named : (plan : Checked) (n frame : ℕ) (names : List (List ℕ)) (table made : Table) → IsWellFormed (plan_of plan.arena) plan.root → IsNode plan n (node.DataFrameScan frame (Some names)) → table ≡ frame_of plan frame → made ≡ scanned_table names table → IsScanOf plan n made
scan_named plan n frame names table made good at_n is same =
    let g = grants plan n (node.DataFrameScan frame (Some names)) good at_n in
    rw same (rw is (record { gives_output = sym g.made; rows = g.staged }))
