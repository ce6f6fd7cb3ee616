-- Operators in a row, each with what all lanes share of it.
use Rattle.std.specs.Prelude.{◌≡◌, List, [], ◌∷◌, map}
use Rattle.pipe_schema.specs.declared.field.Field.{Field}
use Rattle.pipe_chain.specs.Flow.{Work, Acts}
use Rattle.pipe_chain.specs.declared.operator.Operator.{Ghosts as OperatorWords}

-- what some operators do, from a schema on
abbrev pub works_of : {O S : Type 0} → OperatorWords O S → List Field → List O → List S → List Work
works_of op schema [] ss = []
works_of op schema (o ∷ os) [] = []
works_of op schema (o ∷ os) (s ∷ ss) =
    op.work o schema s ∷ works_of op (op.output o schema) os ss

-- what their seats did
abbrev pub acts_of : {O S : Type 0} → OperatorWords O S → List O → List Acts
acts_of op os = map op.acts os

-- each operator takes the schema that the one before it gives, and the last gives that of the end
abbrev pub IsChain : {O S : Type 0} → OperatorWords O S → List Field → List O → List Field → Type 0
IsChain op schema [] end = schema ≡ end
IsChain op schema (o ∷ os) end = op.takes o schema × IsChain op (op.output o schema) os end

-- each operator may work with its shared value: this was made for it, and it holds the seat that it
-- wants there
pub record Serves {O S : Type 0} (op : OperatorWords O S) (o : O) (s : S) : Type 0 where
  pub suits : op.suits o s
  pub seated : op.seated o s

abbrev pub AllServe : {O S : Type 0} → OperatorWords O S → List O → List S → Type 0
AllServe op [] [] = Unit {0}
AllServe op [] (s ∷ ss) = ⊥
AllServe op (o ∷ os) [] = ⊥
AllServe op (o ∷ os) (s ∷ ss) = Serves op o s × AllServe op os ss

-- the two halves of it
abbrev pub AllSuit : {O S : Type 0} → OperatorWords O S → List O → List S → Type 0
AllSuit op [] [] = Unit {0}
AllSuit op [] (s ∷ ss) = ⊥
AllSuit op (o ∷ os) [] = ⊥
AllSuit op (o ∷ os) (s ∷ ss) = op.suits o s × AllSuit op os ss

abbrev pub AllSeated : {O S : Type 0} → OperatorWords O S → List O → List S → Type 0
AllSeated op [] [] = Unit {0}
AllSeated op [] (s ∷ ss) = ⊥
AllSeated op (o ∷ os) [] = ⊥
AllSeated op (o ∷ os) (s ∷ ss) = op.seated o s × AllSeated op os ss

-- an operator does the same work as another, and may do it wherever that one may
pub record SameOne {O S : Type 0} (op : OperatorWords O S) (a b : O) : Type 0 where
  pub takes : (schema : List Field) → op.takes a schema → op.takes b schema
  pub output : op.output b ≡ op.output a
  pub work : op.work b ≡ op.work a
  pub suits : (s : S) → op.suits a s → op.suits b s
  pub seated : (s : S) → op.seated a s → op.seated b s
  pub closed : (s : S) → op.closed a s → op.closed b s

-- one by one
abbrev pub EachSame : {O S : Type 0} → OperatorWords O S → (old new : List O) → Type 0
EachSame op [] [] = Unit {0}
EachSame op [] (b ∷ new) = ⊥
EachSame op (a ∷ old) [] = ⊥
EachSame op (a ∷ old) (b ∷ new) = SameOne op a b × EachSame op old new

pub record SameWork {O S : Type 0} (op : OperatorWords O S) (old new : List O) : Type 0 where
  pub each : EachSame op old new
