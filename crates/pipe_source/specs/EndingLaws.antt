-- A sink around a sink ends alike, in whatever order rows came.
use Rattle.std.proofs.Common.{List, Bool, true, false}
use Rattle.pipe_schema.specs.Rows.{Row, Same}
use Rattle.pipe_schema.specs.declared.field.Field.{Field}
use Rattle.pipe_source.specs.Endings.{Around, ends_by, may_end_around}

ends_alike : (builds : Bool) (p q : List Row → Type 0) (given schema : List Field) (rows : List Row) → ((r : List Row) → p r → q r) → ends_by builds p given schema rows → ends_by builds q given schema rows
ends_alike true p q given schema rows h e = h rows e
ends_alike false p q given schema rows h e = record { inner = e.inner; ends = h e.inner e.ends; made = e.made }

pub around_any_order : {T : Type 0} {may_end : T → List Row → List Row → Type 0} → ((s : T) (a b rows : List Row) → Same a b → may_end s a rows → may_end s b rows) → (s : Around T) (a b rows : List Row) → Same a b → may_end_around may_end s a rows → may_end_around may_end s b rows
around_any_order {may_end = may_end} respects s a b rows same ends = ends_alike s.builds (may_end s.inner a) (may_end s.inner b) s.given s.schema rows (λ r e. respects s.inner a b r same e) ends
