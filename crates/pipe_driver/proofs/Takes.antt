-- Paths that are taken one after another, under a step and without it.
use Rattle.std.proofs.Common.{◌≡◌, ℕ, suc, Bool, true, false, not, ◌||◌, ◌&&◌, cond, List, [], ◌∷◌, ◌++◌, length, map, refl, sym, ap, ◌∙◌, arith, append_assoc, append-nil}
use Rattle.std.specs.List.{list_all}
use Rattle.pipe_driver.specs.declared.above.Step.{Step}
use Rattle.pipe_driver.specs.declared.above.Step.TheVariants as step
use Rattle.pipe_driver.specs.declared.branch.SinkAt.TheVariants as at
use Rattle.pipe_driver.specs.declared.branch.Branch.{Branch}
use Rattle.pipe_driver.specs.Branches.{Path, PlacedSink, through, closed_by, sorted_paths, join_paths, numbered_paths, branch_of, named_after}
use Rattle.pipe_driver.specs.Climbing.{Named, Cutting, passed, put_step, drop_step, take_path, take_paths, is_step_in, HasRoom}

pub take-append : (c : Cutting) (a b : List Path) → take_paths c (a ++ b) ≡ take_paths (take_paths c a) b
take-append c [] b = refl
take-append c (p ∷ a) b = take-append (take_path c p) a b

abbrev path : ℕ → List ℕ → List PlacedSink → Bool → Path
path source operators sinks is_open = record { source = source; operators = operators; sinks = sinks; is_open = is_open }

-- ---- an operator

through-one : (n : ℕ) (c : Cutting) (s : ℕ) (os : List ℕ) (ks : List PlacedSink) (b : Bool)
    → take_path (put_step (step.Operator n) c) (path s os ks b) ≡ put_step (step.Operator n) (take_path c (through n (path s os ks b)))
through-one n c s os ks true = refl
through-one n c s os ks false = refl

under-operator : (n : ℕ) (c : Cutting) (ps : List Path) → take_paths (put_step (step.Operator n) c) ps ≡ put_step (step.Operator n) (take_paths c (map (through n) ps))
under-operator n c [] = refl
under-operator n c (p ∷ ps) =
    ap (λ d. take_paths d ps) (through-one n c p.source p.operators p.sinks p.is_open) ∙ under-operator n (take_path c (through n p)) ps

pub drop-operator : (n : ℕ) (c : Cutting) (ps : List Path) → drop_step (take_paths (put_step (step.Operator n) c) ps) ≡ take_paths c (map (through n) ps)
drop-operator n c ps = ap drop_step (under-operator n c ps)

-- ---- the side of a join that is built

closed-one : (n : ℕ) (c : Cutting) (s : ℕ) (os : List ℕ) (ks : List PlacedSink) (b : Bool)
    → take_path (put_step (step.Build n) c) (path s os ks b) ≡ put_step (step.Build n) (take_path c (closed_by (at.Build n) (path s os ks b)))
closed-one n c s os ks true = refl
closed-one n c s os ks false = refl

under-build : (n : ℕ) (c : Cutting) (ps : List Path) → take_paths (put_step (step.Build n) c) ps ≡ put_step (step.Build n) (take_paths c (map (closed_by (at.Build n)) ps))
under-build n c [] = refl
under-build n c (p ∷ ps) =
    ap (λ d. take_paths d ps) (closed-one n c p.source p.operators p.sinks p.is_open) ∙ under-build n (take_path c (closed_by (at.Build n) p)) ps

pub drop-build : (n : ℕ) (c : Cutting) (ps : List Path) → drop_step (take_paths (put_step (step.Build n) c) ps) ≡ take_paths c (map (closed_by (at.Build n)) ps)
drop-build n c ps = ap drop_step (under-build n c ps)

-- ---- a sort

abbrev sorted : ℕ → Bool → Path → Path
sorted n is_passed p = cond p.is_open (record p { sinks = p.sinks ++ record { offset = length p.operators; at = at.Sort n } ∷ []; is_open = not is_passed }) p

sorted-one : (n : ℕ) (c : Cutting) (is_passed : Bool) (s : ℕ) (os : List ℕ) (ks : List PlacedSink) (b : Bool)
    → take_path (put_step (step.Sort n is_passed) c) (path s os ks b) ≡ put_step (step.Sort n (is_passed || b)) (take_path c (sorted n is_passed (path s os ks b)))
sorted-one n c true s os ks true = refl
sorted-one n c true s os ks false = refl
sorted-one n c false s os ks true = refl
sorted-one n c false s os ks false = refl

abbrev passes : Bool → List Path → Bool
passes is_passed [] = is_passed
passes is_passed (p ∷ ps) = passes (is_passed || p.is_open) ps

under-sort : (n : ℕ) (c : Cutting) (is_passed : Bool) (ps : List Path)
    → take_paths (put_step (step.Sort n is_passed) c) ps ≡ put_step (step.Sort n (passes is_passed ps)) (take_paths c (sorted_paths n is_passed ps))
under-sort n c is_passed [] = refl
under-sort n c is_passed (p ∷ ps) =
    ap (λ d. take_paths d ps) (sorted-one n c is_passed p.source p.operators p.sinks p.is_open)
    ∙ under-sort n (take_path c (sorted n is_passed p)) (is_passed || p.is_open) ps

pub drop-sort : (n : ℕ) (c : Cutting) (ps : List Path) → drop_step (take_paths (put_step (step.Sort n false) c) ps) ≡ take_paths c (sorted_paths n false ps)
drop-sort n c ps = ap drop_step (under-sort n c false ps)

-- ---- a join

pub take-join : (n : ℕ) (c d : Cutting) (built probed : List Path) → d ≡ take_paths c (map (closed_by (at.Build n)) built) → take_paths d (map (through n) probed) ≡ take_paths c (join_paths n built probed)
take-join n c d built probed e = ap (λ x. take_paths x (map (through n) probed)) e ∙ sym (take-append c (map (closed_by (at.Build n)) built) (map (through n) probed))

-- ---- the top: nothing stands above

ended-one : (named : Named) (bs : List Branch) (s : ℕ) (os : List ℕ) (ks : List PlacedSink) (b : Bool)
    → take_path (record { above = []; named = named; branches = bs }) (path s os ks b)
    ≡ record { above = []; named = record named { sinks = named_after named.sinks (closed_by at.Ordered (path s os ks b)).sinks }; branches = bs ++ branch_of named.sinks (closed_by at.Ordered (path s os ks b)) ∷ [] }
ended-one named bs s os ks true = refl
ended-one named bs s os ks false = refl

pub take-top : (named : Named) (bs : List Branch) (ps : List Path)
    → (take_paths (record { above = []; named = named; branches = bs }) ps).branches ≡ bs ++ numbered_paths named.sinks (map (closed_by at.Ordered) ps)
take-top named bs [] = sym (append-nil bs)
take-top named bs (p ∷ ps) =
    let q = closed_by at.Ordered p in
    let more : Named = record named { sinks = named_after named.sinks q.sinks } in
    ap (λ (d : Cutting). (take_paths d ps).branches) (ended-one named bs p.source p.operators p.sinks p.is_open)
    ∙ take-top more (bs ++ branch_of named.sinks q ∷ []) ps
    ∙ append_assoc bs (branch_of named.sinks q ∷ []) (numbered_paths more.sinks (map (closed_by at.Ordered) ps))

-- ---- room

passed-length : (steps : List Step) → length (passed steps) ≡ length steps
passed-length [] = refl
passed-length (step.Operator n ∷ steps) = ap (λ k. suc k) (passed-length steps)
passed-length (step.Sort n true ∷ steps) = refl
passed-length (step.Sort n false ∷ steps) = ap (λ k. suc k) (passed-length steps)
passed-length (step.Build n ∷ steps) = refl

passed-in : (nodes : ℕ) (steps : List Step) → list_all (is_step_in nodes) (passed steps) ≡ list_all (is_step_in nodes) steps
passed-in nodes [] = refl
passed-in nodes (step.Operator n ∷ steps) = passed-in nodes steps
passed-in nodes (step.Sort n true ∷ steps) = refl
passed-in nodes (step.Sort n false ∷ steps) = ap (λ b. is_step_in nodes (step.Sort n false) && b) (passed-in nodes steps)
passed-in nodes (step.Build n ∷ steps) = refl

room-one : (c : Cutting) (n s : ℕ) (os : List ℕ) (ks : List PlacedSink) (b : Bool) → HasRoom c n → HasRoom (take_path c (path s os ks b)) n
room-one c n s os ks true room = record {
  few = room.few;
  height = let e = passed-length c.above in let h = room.height in omega arith;
  steps = passed-in c.named.nodes c.above ∙ room.steps;
}
room-one c n s os ks false room = record { few = room.few; height = room.height; steps = room.steps }

pub room-after : (c : Cutting) (n : ℕ) (ps : List Path) → HasRoom c n → HasRoom (take_paths c ps) n
room-after c n [] room = room
room-after c n (p ∷ ps) room = room-after (take_path c p) n ps (room-one c n p.source p.operators p.sinks p.is_open room)
