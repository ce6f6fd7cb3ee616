-- Operators that take every schema, give it on and read nothing, and lanes that are opened over them.
use Rattle.std.proofs.Common.{◌≡◌, ℕ, suc, ◌≤◌, List, [], ◌∷◌, length, get_or, refl, ap, sym, ◌∙◌, subst, arith}
use Rattle.std.specs.List.{All, AllByRecursion}
use Rattle.std.proofs.lemmas.List.Elements.{All-cons, All-head, All-nil, All-tail, All-weaker, recursion_from_All}
use Rattle.pipe_schema.specs.declared.field.Field.{Field}
use Rattle.pipe_ops.specs.declared.sink.Sink.{Ghosts as SinkWords}
use Rattle.pipe_chain.specs.Chain.{IsChain, AllSuit, AllSeated}
use Rattle.pipe_chain.specs.Counts.{AllWithin}
use Rattle.pipe_chain.specs.declared.operator.Operator.{Ghosts as OperatorWords}
use Rattle.pipe_run.specs.Dealt.{AllSame}
use Rattle.pipe_run.specs.Lanes.{IsFit, IsSet, lane_operators}
use Rattle.pipe_run.specs.Opens.{AreSplit, IsFitSeated, IsOpened}
use Rattle.pipe_run.specs.Stages.{operators_of}
use Rattle.pipe_run.specs.declared.lane.Lane.{Lane}
use Rattle.pipe_run.specs.declared.stage.SinkStage.{SinkStage}
use Rattle.pipe_run.specs.declared.stage.Stage.{Stage}
use Rattle.pipe_run.specs.Notes.{HasNothing}

pub within-more : (less more : ℕ) (ns : List ℕ) → less ≤ more → AllWithin less ns → AllWithin more ns
within-more less more [] up h = tt
within-more less more (n ∷ ns) up h = (omega (arith, h.0, up), within-more less more ns up h.1)

pub operators-length : {O : Type 0} (stages : List (Stage O)) → length (operators_of stages) ≡ length stages
operators-length [] = refl
operators-length (st ∷ stages) = ap suc (operators-length stages)

module _ {O S : Type 0} (op : OperatorWords O S) where
  pub chained : ((o : O) (schema : List Field) → op.takes o schema) → ((o : O) (schema : List Field) → op.output o schema ≡ schema) → (schema end : List Field) (ops : List O) → schema ≡ end → IsChain op schema ops end
  chained takes gives schema end [] e = e
  chained takes gives schema end (o ∷ ops) e =
      (takes o schema, subst (λ (f : List Field). IsChain op f ops end) (sym (gives o schema)) (chained takes gives schema end ops e))

  suited-ops : ((o : O) (s : S) → op.suits o s) → (ops : List O) (ss : List S) → length ops ≡ length ss → AllSuit op ops ss
  suited-ops all [] [] e = tt
  suited-ops all [] (s ∷ ss) e = absurd (omega (arith, e))
  suited-ops all (o ∷ ops) [] e = absurd (omega (arith, e))
  suited-ops all (o ∷ ops) (s ∷ ss) e = (all o s, suited-ops all ops ss (omega (arith, e)))

  pub suited : ((o : O) (s : S) → op.suits o s) → (stages : List (Stage O)) (ss : List S) → length stages ≡ length ss → AllSuit op (operators_of stages) ss
  suited all stages ss e = suited-ops all (operators_of stages) ss (operators-length stages ∙ e)

  seated : ((o : O) (s : S) → op.seated o s) → (ops : List O) (ss : List S) → length ops ≡ length ss → AllSeated op ops ss
  seated all [] [] e = tt
  seated all [] (s ∷ ss) e = absurd (omega (arith, e))
  seated all (o ∷ ops) [] e = absurd (omega (arith, e))
  seated all (o ∷ ops) (s ∷ ss) e = (all o s, seated all ops ss (omega (arith, e)))

  split-length : (from made : List (Stage O)) → AreSplit op from made → length (operators_of made) ≡ length from
  split-length [] [] h = refl
  split-length [] (b ∷ made) h = absurd h
  split-length (a ∷ from) [] h = absurd h
  split-length (a ∷ from) (b ∷ made) h = let e = split-length from made h.1 in omega (arith, e)

  module _ {K B C : Type 0} (sink : SinkWords K B C) where
    -- lanes are fit, since their operators want no seats
    pub fit-unseated : ((o : O) (s : S) → op.seated o s) → (stages : List (Stage O)) (target : SinkStage K) (ss : List S) (limit : ℕ) (from : List Field) (lanes : List (Lane O K)) → length stages ≡ length ss → All (IsOpened op sink stages target) lanes → All (IsFitSeated op sink ss limit from) lanes → All (IsFit op sink ss limit from) lanes
    fit-unseated all stages target ss limit from lanes e opened fit = λ i d less.
        let lane = get_or lanes i d in
        fit i d less (seated all (lane_operators lane) ss (split-length stages lane.stages.items (opened i d less).split ∙ e))

    -- and have noted nothing
    pub nothing-noted : (stages : List (Stage O)) (target : SinkStage K) (lanes : List (Lane O K)) → All (IsOpened op sink stages target) lanes → AllByRecursion HasNothing lanes
    nothing-noted stages target lanes opened =
        recursion_from_All HasNothing lanes (All-weaker (IsOpened op sink stages target) HasNothing (λ lane h. h.entries) lanes opened)

    -- what lanes do leaves their sinks' schemas as they were
    pub same-schemas : (schema : List Field) (old new : List (Lane O K)) → AllSame op sink old new → All (IsSet sink.schema schema) old → All (IsSet sink.schema schema) new
    same-schemas schema [] [] h set = All-nil (IsSet sink.schema schema)
    same-schemas schema [] (y ∷ new) h set = absurd h
    same-schemas schema (x ∷ old) [] h set = absurd h
    same-schemas schema (x ∷ old) (y ∷ new) h set =
        All-cons (IsSet sink.schema schema) y new (h.0.schema ∙ All-head (IsSet sink.schema schema) x old set)
        (same-schemas schema old new h.1 (All-tail (IsSet sink.schema schema) x old set))
