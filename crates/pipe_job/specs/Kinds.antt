-- The kinds of nodes, and whether a value spells a node of a kind.
use Rattle.std.specs.Prelude.{ℕ, List, codes, Bool, ◌&&◌, ◌||◌, Option, Some, if◌then◌else◌}
use Rattle.std.specs.Str.{bytes_eq}
use Rattle.serde_json.specs.Data.{Data, string, Members}
use Rattle.serde_json.specs.Find.{get}
use Rattle.pipe_job.specs.Shape.{is_scan, is_filter, is_projection, is_exprs, is_unpivot, is_rename, is_union, is_join, is_sort, is_node_word, on_object, after, is_unsigned, is_list, is_frame, is_exactly, is_end}
use Rattle.pipe_job.specs.declared.kinds.Kind.{Kind}
use Rattle.pipe_job.specs.declared.kinds.Kind.TheVariants as kind

abbrev pub kind_name : Kind → List ℕ
kind_name kind.DataFrameScan = codes "DataFrameScan"
kind_name kind.Filter = codes "Filter"
kind_name kind.SimpleProjection = codes "SimpleProjection"
kind_name kind.Select = codes "Select"
kind_name kind.HStack = codes "HStack"
kind_name kind.Unpivot = codes "Unpivot"
kind_name kind.Rename = codes "Rename"
kind_name kind.Union = codes "Union"
kind_name kind.Join = codes "Join"
kind_name kind.Sort = codes "Sort"

-- whether a value spells a node of the kind
abbrev pub is_kind : Kind → Data → Bool
is_kind kind.DataFrameScan d = is_scan d
is_kind kind.Filter d = is_filter d
is_kind kind.SimpleProjection d = is_projection d
is_kind kind.Select d = is_exprs (codes "Select") d
is_kind kind.HStack d = is_exprs (codes "HStack") d
is_kind kind.Unpivot d = is_unpivot d
is_kind kind.Rename d = is_rename d
is_kind kind.Union d = is_union d
is_kind kind.Join d = is_join d
is_kind kind.Sort d = is_sort d

-- the kind of a name, a sort where it has no other name
abbrev pub kind_of : List ℕ → Kind
kind_of s =
    if bytes_eq s (codes "DataFrameScan") then kind.DataFrameScan
    else if bytes_eq s (codes "Filter") then kind.Filter
    else if bytes_eq s (codes "SimpleProjection") then kind.SimpleProjection
    else if bytes_eq s (codes "Select") then kind.Select
    else if bytes_eq s (codes "HStack") then kind.HStack
    else if bytes_eq s (codes "Unpivot") then kind.Unpivot
    else if bytes_eq s (codes "Rename") then kind.Rename
    else if bytes_eq s (codes "Union") then kind.Union
    else if bytes_eq s (codes "Join") then kind.Join
    else kind.Sort

abbrev pub kind_in : Option Data → Kind
kind_in (Some (string s)) = kind_of s
kind_in _ = kind.Sort

-- whether a value spells a node: of the kind that its word names
abbrev pub is_node : Data → Bool
is_node d = is_node_word (get (codes "node") d) && is_kind (kind_in (get (codes "node") d)) d

abbrev pub is_version : Data → Bool
is_version d = is_exactly 1 d || is_exactly 2 d

-- whether members are the last ones of a job
abbrev pub is_job_back : Members → Bool
is_job_back ms =
    after (codes "row_limit") (is_unsigned 32) (after (codes "version") is_version (after (codes "workers") (is_unsigned 32) is_end)) ms

-- whether a value spells a job, as far as its version says nothing of its types
abbrev pub is_job : Data → Bool
is_job d =
    on_object (after (codes "chunk_rows") (is_unsigned 32) (after (codes "frames") (is_list is_frame) (after (codes "plan") (is_list is_node)
    (after (codes "root") (is_unsigned 32) is_job_back)))) d
