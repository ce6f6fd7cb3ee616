-- Operators that do the same work as others.
use Rattle.std.proofs.Common.{◌≡◌, List, [], ◌∷◌, length, refl, ap, sym, ◌∙◌, subst, arith}
use Rattle.pipe_schema.specs.declared.field.Field.{Field}
use Rattle.pipe_chain.specs.Flow.{Work}
use Rattle.pipe_chain.specs.Chain.{works_of, acts_of, IsChain, Serves, AllServe, SameOne, EachSame, SameWork}
use Rattle.pipe_chain.specs.declared.operator.Operator.{Ghosts as OperatorWords}
use Rattle.pipe_run.specs.Stages.{Flushed}

module _ {O S : Type 0} (op : OperatorWords O S) where
  pub one-refl : (a : O) → SameOne op a a
  one-refl a = record { takes = λ s h. h; output = refl; work = refl; suits = λ s h. h; seated = λ s h. h; closed = λ s h. h }

  pub one-trans : (a b c : O) → SameOne op a b → SameOne op b c → SameOne op a c
  one-trans a b c h k = record {
    takes = λ s p. k.takes s (h.takes s p);
    output = k.output ∙ h.output;
    work = k.work ∙ h.work;
    suits = λ s p. k.suits s (h.suits s p);
    seated = λ s p. k.seated s (h.seated s p);
    closed = λ s p. k.closed s (h.closed s p);
  }

  pub one-next : (a b c : O) → SameOne op a b → ((s : List Field) → op.takes b s → op.takes c s) → op.output c ≡ op.output b → op.work c ≡ op.work b → ((s : S) → op.suits b s → op.suits c s) → ((s : S) → op.seated b s → op.seated c s) → ((s : S) → op.closed b s → op.closed c s) → SameOne op a c
  one-next a b c h t o w u v z = one-trans a b c h (record { takes = t; output = o; work = w; suits = u; seated = v; closed = z })

  each-refl : (os : List O) → EachSame op os os
  each-refl [] = tt
  each-refl (o ∷ os) = (one-refl o, each-refl os)

  each-trans : (a b c : List O) → EachSame op a b → EachSame op b c → EachSame op a c
  each-trans [] [] [] h k = tt
  each-trans [] [] (z ∷ c) h k = absurd k
  each-trans [] (y ∷ b) c h k = absurd h
  each-trans (x ∷ a) [] c h k = absurd h
  each-trans (x ∷ a) (y ∷ b) [] h k = absurd k
  each-trans (x ∷ a) (y ∷ b) (z ∷ c) h k = (one-trans x y z h.0 k.0, each-trans a b c h.1 k.1)

  pub work-refl : (os : List O) → SameWork op os os
  work-refl os = record { each = each-refl os }

  pub work-trans : (a b c : List O) → SameWork op a b → SameWork op b c → SameWork op a c
  work-trans a b c h k = record { each = each-trans a b c h.each k.each }

  pub work-cons : (a b : O) (old new : List O) → SameOne op a b → SameWork op old new → SameWork op (a ∷ old) (b ∷ new)
  work-cons a b old new h k = record { each = (h, k.each) }

  each-works : (old new : List O) (schema : List Field) (ss : List S) → EachSame op old new → works_of op schema new ss ≡ works_of op schema old ss
  each-works [] [] schema ss h = refl
  each-works [] (b ∷ new) schema ss h = absurd h
  each-works (a ∷ old) [] schema ss h = absurd h
  each-works (a ∷ old) (b ∷ new) schema [] h = refl
  each-works (a ∷ old) (b ∷ new) schema (s ∷ ss) h =
      ap (λ (w : List Field → S → Work). w schema s ∷ works_of op (op.output b schema) new ss) h.0.work
      ∙ ap (λ (o : List Field → List Field). op.work a schema s ∷ works_of op (o schema) new ss) h.0.output
      ∙ ap (λ l. op.work a schema s ∷ l) (each-works old new (op.output a schema) ss h.1)

  pub work-works : (old new : List O) (schema : List Field) (ss : List S) → SameWork op old new → works_of op schema new ss ≡ works_of op schema old ss
  work-works old new schema ss h = each-works old new schema ss h.each

  each-chain : (old new : List O) (schema end : List Field) → EachSame op old new → IsChain op schema old end → IsChain op schema new end
  each-chain [] [] schema end h p = p
  each-chain [] (b ∷ new) schema end h p = absurd h
  each-chain (a ∷ old) [] schema end h p = absurd h
  each-chain (a ∷ old) (b ∷ new) schema end h p =
      (h.0.takes schema p.0, subst (λ (o : List Field → List Field). IsChain op (o schema) new end) (sym h.0.output) (each-chain old new (op.output a schema) end h.1 p.1))

  pub work-chain : (old new : List O) (schema end : List Field) → SameWork op old new → IsChain op schema old end → IsChain op schema new end
  work-chain old new schema end h p = each-chain old new schema end h.each p

  each-serve : (old new : List O) (ss : List S) → EachSame op old new → AllServe op old ss → AllServe op new ss
  each-serve [] [] ss h p = p
  each-serve [] (b ∷ new) ss h p = absurd h
  each-serve (a ∷ old) [] ss h p = absurd h
  each-serve (a ∷ old) (b ∷ new) [] h p = absurd p
  each-serve (a ∷ old) (b ∷ new) (s ∷ ss) h p =
      (record { suits = h.0.suits s p.0.suits; seated = h.0.seated s p.0.seated }, each-serve old new ss h.1 p.1)

  pub work-serve : (old new : List O) (ss : List S) → SameWork op old new → AllServe op old ss → AllServe op new ss
  work-serve old new ss h p = each-serve old new ss h.each p

  -- what comes behind an operator that does the same
  pub works-behind : (a b : O) (old new : List O) (schema given : List Field) (ss : List S) → SameOne op a b → SameWork op old new → given ≡ op.output b schema → works_of op given new ss ≡ works_of op (op.output a schema) old ss
  works-behind a b old new schema given ss h k g =
      ap (λ (x : List Field). works_of op x new ss) (g ∙ ap (λ (o : List Field → List Field). o schema) h.output)
      ∙ work-works old new (op.output a schema) ss k

  pub chain-behind : (a b : O) (old new : List O) (schema given end last : List Field) → SameOne op a b → SameWork op old new → given ≡ op.output b schema → last ≡ end → IsChain op (op.output a schema) old end → IsChain op given new last
  chain-behind a b old new schema given end last h k g l chain =
      let from : given ≡ op.output a schema = g ∙ ap (λ (o : List Field → List Field). o schema) h.output in
      subst (λ (x : List Field). IsChain op given new x) (sym l) (subst (λ (x : List Field). IsChain op x new end) (sym from) (work-chain old new (op.output a schema) end k chain))

  -- the same behind a flush
  pub works-flushed : (old new : List O) (given from : List Field) (ss : List S) → SameWork op old new → given ≡ from → works_of op given new ss ≡ works_of op from old ss
  works-flushed old new given from ss k g = ap (λ (x : List Field). works_of op x new ss) g ∙ work-works old new from ss k

  pub chain-flushed : (old new : List O) (given from end last : List Field) → SameWork op old new → given ≡ from → last ≡ end → IsChain op from old end → IsChain op given new last
  chain-flushed old new given from end last k g l chain =
      subst (λ (x : List Field). IsChain op given new x) (sym l) (subst (λ (x : List Field). IsChain op x new end) (sym g) (work-chain old new from end k chain))

  -- one seat's acts for each operator
  pub acts-length : (os : List O) (schema : List Field) (ss : List S) → AllServe op os ss → length (acts_of op os) ≡ length (works_of op schema os ss)
  acts-length [] schema ss h = refl
  acts-length (o ∷ os) schema [] h = absurd h
  acts-length (o ∷ os) schema (s ∷ ss) h = omega (arith, acts-length os (op.output o schema) ss h.1)

  pub head-serves : (o : O) (os : List O) (s : S) (ss : List S) (q : O) → SameOne op o q → AllServe op (o ∷ os) (s ∷ ss) → Serves op q s
  head-serves o os s ss q h p = record { suits = h.suits s p.0.suits; seated = h.seated s p.0.seated }

  -- an operator that gives pieces of a flush
  pub flushed-refl : (s : S) (a : O) → op.closed a s → Flushed op s a a
  flushed-refl s a h = record { takes = λ z p. p; output = refl; flushed = refl; work = refl; acts = refl; suits = λ z p. p; seated = λ z p. p; closed = h }

  pub flushed-next : (s : S) (a b c : O) → Flushed op s a b → ((z : List Field) → op.takes b z → op.takes c z) → op.output c ≡ op.output b → op.flushed c ≡ op.flushed b → op.work c ≡ op.work b → op.acts c ≡ op.acts b → ((z : S) → op.suits b z → op.suits c z) → ((z : S) → op.seated b z → op.seated c z) → op.closed c s → Flushed op s a c
  flushed-next s a b c h t o f w x u v z = record {
    takes = λ k p. t k (h.takes k p);
    output = o ∙ h.output;
    flushed = f ∙ h.flushed;
    work = w ∙ h.work;
    acts = x ∙ h.acts;
    suits = λ k p. u k (h.suits k p);
    seated = λ k p. v k (h.seated k p);
    closed = z;
  }
