-- The parts of a node's check, one after another.
use Rattle.std.proofs.Common.{◌≡◌, ℕ, Bool, true, false, List, Option, Some, None, refl, ap, sym, ◌∙◌, inl, inr}
use Rattle.pipe_frame.specs.Frame.{Table}
use Rattle.pipe_schema.specs.declared.field.Field.{Field}
use Rattle.pipe_plan.specs.Node.{Node}
use Rattle.pipe_plan.specs.Faults.{or_else, told, told_name, unknown_in, duplicate_in, is_mistyped, is_bad_join, is_bad_sort}
use Rattle.pipe_check.specs.Checked.{MemoryOr}
use Rattle.pipe_check.specs.Checking.{fault_with}
use Rattle.pipe_plan.specs.declared.error.PipeError.{PipeError}
use Rattle.pipe_plan.specs.declared.error.PipeError.TheVariants as error

first-told : (a b : Option PipeError) (e : PipeError) → MemoryOr a e → MemoryOr (or_else a b) e
first-told a b e (inl m) = inl m
first-told a b e (inr h) = inr (rw h refl)

later-told : (a b : Option PipeError) (e : PipeError) → a ≡ None → MemoryOr b e → MemoryOr (or_else a b) e
later-told a b e none (inl m) = inl m
later-told a b e none (inr h) = inr (rw none h)

untold : (holds : Bool) (x : PipeError) → holds ≡ false → told holds x ≡ None
untold holds x e = rw e refl

unnamed : (x : List ℕ → PipeError) (name : Option (List ℕ)) → name ≡ None → told_name x name ≡ None
unnamed x name e = rw e refl

pub part_bad : (bad : Bool) (frames : List Table) (s : ℕ → List Field) (n : ℕ) (x : Node) (e : PipeError) → MemoryOr (told bad (error.BadNode n)) e → MemoryOr (fault_with bad frames s n x) e
part_bad bad frames s n x e h = first-told (told bad (error.BadNode n)) _ e h

pub part_unknown : (bad : Bool) (frames : List Table) (s : ℕ → List Field) (n : ℕ) (x : Node) (e : PipeError) → bad ≡ false → MemoryOr (told_name (error.UnknownColumn n) (unknown_in frames s x)) e → MemoryOr (fault_with bad frames s n x) e
part_unknown bad frames s n x e a h = later-told _ _ e (untold bad _ a) (first-told _ _ e h)

pub part_duplicate : (bad : Bool) (frames : List Table) (s : ℕ → List Field) (n : ℕ) (x : Node) (e : PipeError) → bad ≡ false → unknown_in frames s x ≡ None → MemoryOr (told_name (error.DuplicateName n) (duplicate_in frames s x)) e → MemoryOr (fault_with bad frames s n x) e
part_duplicate bad frames s n x e a b h = later-told _ _ e (untold bad _ a) (later-told _ _ e (unnamed _ _ b) (first-told _ _ e h))

pub part_mistyped : (bad : Bool) (frames : List Table) (s : ℕ → List Field) (n : ℕ) (x : Node) (e : PipeError) → bad ≡ false → unknown_in frames s x ≡ None → duplicate_in frames s x ≡ None → MemoryOr (told (is_mistyped s x) (error.TypeMismatch n)) e → MemoryOr (fault_with bad frames s n x) e
part_mistyped bad frames s n x e a b c h = later-told _ _ e (untold bad _ a) (later-told _ _ e (unnamed _ _ b) (later-told _ _ e (unnamed _ _ c) (first-told _ _ e h)))

pub part_join : (bad : Bool) (frames : List Table) (s : ℕ → List Field) (n : ℕ) (x : Node) (e : PipeError) → bad ≡ false → unknown_in frames s x ≡ None → duplicate_in frames s x ≡ None → is_mistyped s x ≡ false → MemoryOr (told (is_bad_join x) (error.BadJoin n)) e → MemoryOr (fault_with bad frames s n x) e
part_join bad frames s n x e a b c d h = later-told _ _ e (untold bad _ a) (later-told _ _ e (unnamed _ _ b) (later-told _ _ e (unnamed _ _ c) (later-told _ _ e (untold (is_mistyped s x) _ d) (first-told _ _ e h))))

pub part_sort : (bad : Bool) (frames : List Table) (s : ℕ → List Field) (n : ℕ) (x : Node) (e : PipeError) → bad ≡ false → unknown_in frames s x ≡ None → duplicate_in frames s x ≡ None → is_mistyped s x ≡ false → is_bad_join x ≡ false → MemoryOr (told (is_bad_sort x) (error.BadSort n)) e → MemoryOr (fault_with bad frames s n x) e
part_sort bad frames s n x e a b c d j h = later-told _ _ e (untold bad _ a) (later-told _ _ e (unnamed _ _ b) (later-told _ _ e (unnamed _ _ c) (later-told _ _ e (untold (is_mistyped s x) _ d) (later-told _ _ e (untold (is_bad_join x) _ j) h))))

pub no_part : (bad : Bool) (frames : List Table) (s : ℕ → List Field) (n : ℕ) (x : Node) → bad ≡ false → unknown_in frames s x ≡ None → duplicate_in frames s x ≡ None → is_mistyped s x ≡ false → is_bad_join x ≡ false → is_bad_sort x ≡ false → fault_with bad frames s n x ≡ None
no_part bad frames s n x a b c d j k = rw (a, b, c, d, j, k) refl

-- a bad node has that fault
pub no_bad : (bad : Bool) (frames : List Table) (s : ℕ → List Field) (n : ℕ) (x : Node) → fault_with bad frames s n x ≡ None → bad ≡ false
no_bad true frames s n x e = cc
no_bad false frames s n x e = refl

-- a test that was computed
pub told_is : (a b : Bool) (x e : PipeError) → a ≡ b → told a x ≡ Some e → MemoryOr (told b x) e
told_is a b x e same h = inr (ap (λ c. told c x) (sym same) ∙ h)

pub ruleset told_rules = (told_is)

pub ruleset part_rules = (part_bad, part_unknown, part_duplicate, part_mistyped, part_join, part_sort, no_part)
