-- Why there is no reconciliation, by why its join has no rows.
use Rattle.std.proofs.Common.{◌≡◌, ℕ, zero, suc, ◌+◌, ◌≤◌, ◌<◌, Bool, true, false, cond, List, [], ◌∷◌, Option, Some, None, Result, Ok, Err, inl, inr, length, refl, ap, sym, subst, ◌∙◌, arith}
use Rattle.std.specs.Prelude.{All, IfErr, ◌⊎◌, ◌==◌, ◌||◌}
use Rattle.std.proofs.lemmas.Bool.{eqb-true}
use Rattle.pipe_driver.specs.Within.{AllWithin}
use Rattle.pipe_exec.specs.Evaluated.{stop_of, stops}
use Rattle.pipe_exec.specs.Evaluated as plans
use Rattle.pipe_exec.specs.Runs.{IsMemory, Stays}
use Rattle.pipe_schema.specs.Counts.{Counts}
use Rattle.pipe_frame.specs.Frame.{Table}
use Rattle.pipe_plan.specs.Config.{IsConfig}
use Rattle.pipe_plan.specs.Faults.{or_else, told, told_name}
use Rattle.pipe_plan.specs.PlanRows.{rows_of}
use Rattle.pipe_plan.specs.Under.{is_under}
use Rattle.pipe_plan.specs.declared.config.PipeConfig.{PipeConfig}
use Rattle.pipe_plan.specs.declared.error.PipeError.{PipeError}
use Rattle.pipe_plan.specs.declared.error.PipeError.TheVariants as error
use Rattle.pipe_recon.specs.Codes.{Code, HasTypedKey, codes_of, key_types}
use Rattle.pipe_recon.specs.Ends.{AreCodes, ReconciliationEndsWith}
use Rattle.pipe_recon.specs.FullJoin.{IsWithin, full_rows, height_at}
use Rattle.pipe_recon.specs.JoinPlan.{join_plan, join_root}
use Rattle.pipe_recon.specs.declared.recon_spec.ReconSpec.{ReconSpec}
use Rattle.pipe_recon.proofs.JoinCounts.{join_height, left_height, right_height}
use Rattle.pipe_recon.proofs.Known.{known}

-- ---- the nodes under the join

under_is : (lefts rights : List Code) (n : ℕ) → is_under (join_plan lefts rights).nodes join_root n ≡ ((2 == n) || (((0 == n) || false) || (((1 == n) || false) || false)))
unfolding join_plan
under_is lefts rights n = refl

one_of : (n : ℕ) → ((2 == n) || (((0 == n) || false) || (((1 == n) || false) || false))) ≡ true → (n ≡ 0) ⊎ ((n ≡ 1) ⊎ (n ≡ 2))
one_of n h =
    let split : (a b c : Bool) → (2 == n) ≡ a → (0 == n) ≡ b → (1 == n) ≡ c → (a || ((b || false) || ((c || false) || false))) ≡ true → (n ≡ 0) ⊎ ((n ≡ 1) ⊎ (n ≡ 2)) = elim [
      | true ↦ λ b c e f g p. inr (inr (sym (eqb-true 2 n e)))
      | false ↦ elim [
        | true ↦ λ c e f g p. inl (sym (eqb-true 0 n f))
        | false ↦ elim [
          | true ↦ λ e f g p. inr (inl (sym (eqb-true 1 n g)))
          | false ↦ λ e f g p. (let clash : false ≡ true = p in cc)
        ]
      ]
    ] in split (2 == n) (0 == n) (1 == n) refl refl refl h

-- ---- how many rows each node has

module _ (left right : Table) (spec : ReconSpec) (lefts rights : List Code) (coded : AreCodes left right spec lefts rights) where
  heights_are : (n : ℕ) → (n ≡ 0) ⊎ ((n ≡ 1) ⊎ (n ≡ 2)) → length (rows_of (join_plan lefts rights) n) ≡ height_at left right spec n
  heights_are n (inl e) = subst (λ (k : ℕ). length (rows_of (join_plan lefts rights) k) ≡ height_at left right spec k) (sym e) (left_height left spec lefts rights coded.left_codes)
  heights_are n (inr (inl e)) = subst (λ (k : ℕ). length (rows_of (join_plan lefts rights) k) ≡ height_at left right spec k) (sym e) (right_height right spec lefts rights coded.right_codes)
  heights_are n (inr (inr e)) = subst (λ (k : ℕ). length (rows_of (join_plan lefts rights) k) ≡ height_at left right spec k) (sym e) (join_height left right spec lefts rights (known left right spec.on coded.good).types coded.left_typed coded.right_typed coded.left_codes coded.right_codes)

  under_height : (n : ℕ) → is_under (join_plan lefts rights).nodes join_root n ≡ true → length (rows_of (join_plan lefts rights) n) ≡ height_at left right spec n
  under_height n under = heights_are n (one_of n (sym (under_is lefts rights n) ∙ under))

  pub ends_are : (limit : ℕ) (e : PipeError) → plans.PlanEndsWith limit (join_plan lefts rights) join_root e → ReconciliationEndsWith limit left right spec e
  ends_are limit error.BadConfig h = absurd h
  ends_are limit (error.BadNode n) h = absurd h
  ends_are limit (error.UnknownColumn n name) h = absurd h
  ends_are limit (error.DuplicateName n name) h = absurd h
  ends_are limit (error.TypeMismatch n) h = absurd h
  ends_are limit (error.BadJoin n) h = absurd h
  ends_are limit (error.BadSort n) h = absurd h
  ends_are limit (error.TooMany n) h = let many = h.above in omega (arith, many, under_height n h.under)
  ends_are limit error.Stopped h = tt
  ends_are limit error.Memory h = tt

  pub within_are : (limit : ℕ) → AllWithin limit (join_plan lefts rights) join_root → IsWithin limit left right spec
  within_are limit all =
      let at : (n : ℕ) → is_under (join_plan lefts rights).nodes join_root n ≡ true → height_at left right spec n ≤ limit = λ n under. (let few = all n under in omega (arith, few, under_height n under)) in
      record { left_rows = at 0 (under_is lefts rights 0); right_rows = at 1 (under_is lefts rights 1); join_rows = at 2 (under_is lefts rights 2) }

  pub all_within : (limit : ℕ) → IsWithin limit left right spec → AllWithin limit (join_plan lefts rights) join_root
  all_within limit within = λ n under.
      elim (one_of n (sym (under_is lefts rights n) ∙ under)) [
        | inl e ↦ (let h : height_at left right spec n ≡ length left.rows = ap (height_at left right spec) e in omega (arith, h, under_height n under, within.left_rows))
        | inr later ↦ elim later [
          | inl e ↦ (let h : height_at left right spec n ≡ length right.rows = ap (height_at left right spec) e in omega (arith, h, under_height n under, within.right_rows))
          | inr e ↦ (let h : height_at left right spec n ≡ length (full_rows left right spec) = ap (height_at left right spec) e in omega (arith, h, under_height n under, within.join_rows))
        ]
      ]
