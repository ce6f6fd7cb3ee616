-- What tables of flows gather is what the loads carry.
use Rattle.std.proofs.Common.{◌≡◌, ℕ, ◌+◌, ◌<◌, List, [], ◌∷◌, ◌++◌, length, get_or, take, map, refl, ap, sym, ◌∙◌}
use Rattle.std.proofs.lemmas.List.{take_more, map-append}
use Rattle.std.proofs.lemmas.List.Elements.{filter-append}
use Rattle.pipe_schema.specs.Rows.{Row}
use Rattle.pipe_events.specs.Stages.{Stages, only, flow, flow_at}
use Rattle.pipe_events.specs.Worlds.{Load, World, is_of, mine, carried}
use Rattle.pipe_plain.proofs.Walks.{table-walks}
use Rattle.pipe_replay.specs.Carried.{load_table, tables_of, rows_in, gathered}

flow-in : (plan : Stages) (built : ℕ → List Row) (load : Load) (t : ℕ) → rows_in t (load_table plan built load) ≡ flow plan built (only load.node load.rows) t
flow-in plan built load t = ap (λ f. f t) (table-walks [] (flow_at plan built (only load.node load.rows)) plan.size)

gathers : (plan : Stages) (built : ℕ → List Row) (loads : List Load) (t : ℕ) → gathered (map (load_table plan built) loads) t ≡ carried plan built loads t
gathers plan built [] t = refl
gathers plan built (load ∷ loads) t = let here = flow-in plan built load t in let rest = gathers plan built loads t in rw (here, rest) refl

pub gathered-is : (plan : Stages) (w : World) (worker t : ℕ) → gathered (tables_of plan w worker) t ≡ carried plan w.bag (mine worker w.pending) t
gathered-is plan w worker t = gathers plan w.bag (mine worker w.pending) t

pub all-gathered : (plan : Stages) (w : World) (worker : ℕ) → gathered (tables_of plan w worker) ≡ carried plan w.bag (mine worker w.pending)
all-gathered plan w worker = λ i. λ t. gathered-is plan w worker t i

-- the tables of one load more
pub tables-next : {X : Type 0} (f : Load → X) (worker : ℕ) (loads : List Load) (i : ℕ) (load : Load) (before after : List X) → before ≡ map f (mine worker (take i loads)) → i < length loads → load ≡ get_or loads i load → after ≡ before ++ map f (mine worker (load ∷ [])) → after ≡ map f (mine worker (take (i + 1) loads))
tables-next f worker loads i load before after so_far lt is e =
    let next : take (i + 1) loads ≡ take i loads ++ load ∷ [] = take_more loads i load lt ∙ ap (λ x. take i loads ++ x ∷ []) (sym is) in
    e ∙ ap (λ l. l ++ map f (mine worker (load ∷ []))) so_far
    ∙ sym (map-append f (mine worker (take i loads)) (mine worker (load ∷ [])))
    ∙ ap (map f) (sym (filter-append (is_of worker) (take i loads) (load ∷ [])))
    ∙ ap (λ l. map f (mine worker l)) (sym next)

pub ruleset carried_rules = (gathered-is, all-gathered)
