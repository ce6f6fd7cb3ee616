-- What a leg that begins at a source takes.
use Rattle.std.proofs.Common.{◌≡◌, ℕ, Bool, true, false, not, cond, List, [], ◌∷◌, length, refl, sym, ap, ◌∙◌, filter, Some}
use Rattle.std.specs.List.{list_all}
use Rattle.pipe_frame.specs.Frame.{Table}
use Rattle.pipe_schema.specs.Rows.{Row}
use Rattle.pipe_schema.specs.declared.field.Field.{Field}
use Rattle.pipe_plan.specs.Node.{Node}
use Rattle.pipe_plan.specs.Node as node
use Rattle.pipe_plan.specs.Plan.{Plan}
use Rattle.pipe_plan.specs.Under.{node_at, is_under}
use Rattle.pipe_plan.specs.Schemas.{schemas_to}
use Rattle.pipe_plan.specs.Faults.{IsWellFormed}
use Rattle.pipe_events.specs.Stages.{Stage, Scan, Each, Union, Sort, Joined}
use Rattle.pipe_events.specs.PlanStages.{Setting, stage_of, stage_at}
use Rattle.pipe_events.proofs.Members.{mem, head, behind, or_left}
use Rattle.pipe_driver.specs.Branches.{is_scan_at}
use Rattle.pipe_driver.proofs.Readers.{one-reader}
use Rattle.pipe_driver.specs.Shape.{kind_of, kind_at, union_kind}
use Rattle.pipe_driver.specs.Chains.{reads, reader}
use Rattle.pipe_driver.specs.Meaning.{is_source_over, is_read_whole, is_part, meaning_of}
use Rattle.pipe_driver.proofs.Tests.{eq-true, and-cases}
use Rattle.pipe_driver.proofs.Chains.{found_one}
use Rattle.pipe_driver.proofs.PlanParts.{there, stage_is, reading}
use Rattle.pipe_driver.specs.Boards.{Board, may_hold, is_held, or_itself, start_of, board_of, begins_leg}
use Rattle.pipe_driver.specs.JournalLaws.{LegsTakeTheirSources}

keeps_all : (f : ℕ → Bool) (ns : List ℕ) → ((i : ℕ) → mem i ns ≡ true → f i ≡ true) → filter f ns ≡ ns
keeps_all f [] h = refl
keeps_all f (n ∷ ns) h =
    ap (λ b. cond b (n ∷ filter f ns) (filter f ns)) (h n (head n ns)) ∙ ap (λ l. n ∷ l) (keeps_all f ns (λ i e. h i (behind i n ns e)))

negated : (b : Bool) → not b ≡ true → b ≡ false
negated true h = cc
negated false h = refl

-- a union at which a leg begins is a source
union_source : (source : Bool) (is : List ℕ) → begins_leg (union_kind source is) ≡ true → is_source_over (union_kind source is) ≡ true
union_source true is h = refl
union_source false is h = cc

sort_not : (i : ℕ) (sorted : List Row → List Row) (inputs : List ℕ) → Sort i sorted ≡ Union inputs → ⊥
sort_not i sorted inputs e = cc

union_over : (nodes : List Node) (frames : List Table) (schema : ℕ → List Field) (x : Node) (inputs : List ℕ) → stage_of frames schema x ≡ Union inputs → begins_leg (kind_of nodes x) ≡ true → is_source_over (kind_of nodes x) ≡ true
union_over nodes frames schema (node.DataFrameScan frame columns) inputs e h = refl
union_over nodes frames schema (node.Filter i predicate) inputs e h = cc
union_over nodes frames schema (node.SimpleProjection i columns) inputs e h = cc
union_over nodes frames schema (node.Select i exprs) inputs e h = cc
union_over nodes frames schema (node.HStack i exprs) inputs e h = cc
union_over nodes frames schema (node.MapFunction i function) inputs e h = cc
union_over nodes frames schema (node.Union is) inputs e h = union_source (list_all (is_scan_at nodes) is) is h
union_over nodes frames schema (node.Join l r left_on right_on options) inputs e h = cc
union_over nodes frames schema (node.Sort i by options) inputs e h = absurd (sort_not _ _ inputs e)

module _ (plan : Plan) (root n : ℕ) (setting : Setting) (good : IsWellFormed plan root) (run : (meaning_of plan root).is_run n ≡ true) (begins : begins_leg (kind_at plan.nodes n) ≡ true) where
  abbrev b : Board
  b = board_of plan root setting

  abbrev stage : ℕ → Stage
  stage = stage_at plan root

  abbrev size : ℕ
  size = length plan.nodes

  under : is_under plan.nodes root n ≡ true
  under = (and-cases (is_under plan.nodes root n) (not (is_part plan root n)) run).0

  alone : start_of plan root n ≡ n
  alone = ap (λ t. cond t (or_itself n (reader stage size n)) n) (negated (is_part plan root n) (and-cases (is_under plan.nodes root n) (not (is_part plan root n)) run).1)

  own_held : filter (is_held b n) (n ∷ []) ≡ n ∷ []
  own_held = ap (λ t. cond t (n ∷ []) []) (eq-true (start_of plan root n) n alone)

  -- an input is read by the union alone
  read_here : (i : ℕ) → reads (stage n) i ≡ true → reader stage size i ≡ Some n
  read_here i h =
      let own = reading plan root n i h in
      found_one (λ k. reads (stage k) i) size n (there plan root n good under) h
      (λ k l g. (let r = reading plan root k i g in one-reader plan root k n i good l (there plan root n good under) r.under under r.reads_it own.reads_it))

  part_held : (inputs : List ℕ) → stage n ≡ Union inputs → (i : ℕ) → mem i inputs ≡ true → is_held b n i ≡ true
  part_held inputs is i m =
      let over : is_source_over (kind_at plan.nodes n) ≡ true = union_over plan.nodes plan.frames (schemas_to plan n) (node_at plan.nodes n) inputs (sym (stage_is plan root n under) ∙ is) begins in
      let read : reads (stage n) i ≡ true = ap (λ s. reads s i) is ∙ or_left (mem i inputs) false m in
      let reader_is = read_here i read in
      let part : is_part plan root i ≡ true = ap (is_read_whole (kind_at plan.nodes)) reader_is ∙ over in
      let start : start_of plan root i ≡ n = ap (λ t. cond t (or_itself i (reader stage size i)) i) part ∙ ap (or_itself i) reader_is in
      eq-true (start_of plan root i) n start

  held_by : (s : Stage) → stage n ≡ s → filter (is_held b n) (may_hold n s) ≡ may_hold n s
  held_by (Scan rows) is = own_held
  held_by (Each input op) is = refl
  held_by (Union inputs) is = keeps_all (is_held b n) inputs (part_held inputs is)
  held_by (Sort input sorted) is = own_held
  held_by (Joined j) is = refl

pub all_held : LegsTakeTheirSources
all_held plan root n setting good run begins = held_by plan root n setting good run begins (stage_at plan root n) refl
