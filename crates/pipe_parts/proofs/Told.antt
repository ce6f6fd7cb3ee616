-- What the line of a plan tells.
use Rattle.std.proofs.Common.{◌≡◌, ℕ, List, [], ◌∷◌, Result, Ok, Err, Vec, Global, ap, subst, ◌∙◌, inl, inr}
use Rattle.std.specs.Prelude.{IfOk}
use Rattle.std.specs.List.{AllByRecursion}
use Rattle.pipe_plan.specs.Plan.{Plan}
use Rattle.pipe_parts.specs.Choices.{Choice, choices_of}
use Rattle.pipe_parts.specs.Parts.{parts_root}
use Rattle.pipe_parts.specs.declared.wish.Wish.TheVariants.{Split, Whole}
use Rattle.pipe_parts.specs.Least.{IsLeast, IsNoLess}
use Rattle.pipe_parts.specs.Obstacles.{IsObstacle}
use Rattle.pipe_parts.specs.declared.found.Found.{Found}
use Rattle.pipe_parts.specs.declared.obstacles.Obstacle.{Obstacle}
use Rattle.pipe_job.specs.Line.{line_of}
use Rattle.pipe_parts.specs.PartsLines.{IsPartsLine, one_spelling, parts_spelling}

pub told_in_parts : {E : Type 0} (r : Result (Vec ℕ Global) E) (plan : Plan) (root : ℕ) (sizes : List ℕ) (found : Found) → IsLeast plan sizes (choices_of plan (parts_root plan root) Split) found → IfOk r (λ line. line.items ≡ line_of (parts_spelling plan root found.cuts found.whole)) → IfOk r (λ line. IsPartsLine plan root sizes line.items)
told_in_parts (Ok line) plan root sizes found best h = inl (record {
  choice = found.cuts;
  allowed = best.allowed;
  least = subst (λ n. AllByRecursion (IsNoLess plan sizes n) (choices_of plan (parts_root plan root) Split)) best.whole best.least;
  line_is = h ∙ ap (λ n. line_of (parts_spelling plan root found.cuts n)) best.whole;
})
told_in_parts (Err e) plan root sizes found best h = h

pub told_in_one : {E : Type 0} (r : Result (Vec ℕ Global) E) (plan : Plan) (root : ℕ) (sizes : List ℕ) (found : Obstacle) (scans : Choice) → IsObstacle plan (record { node = parts_root plan root; wish = Split }) found → choices_of plan root Whole ≡ scans ∷ [] → IfOk r (λ line. line.items ≡ line_of (one_spelling plan root scans found)) → IfOk r (λ line. IsPartsLine plan root sizes line.items)
told_in_one (Ok line) plan root sizes found scans is_so all h = inr (record {
  obstacle = found;
  is_so = is_so;
  scans = scans;
  all = all;
  line_is = h;
})
told_in_one (Err e) plan root sizes found scans is_so all h = h
