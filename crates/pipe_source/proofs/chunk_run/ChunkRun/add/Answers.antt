use Rattle.std.proofs.Common.{◌∙◌, ◌++◌, ◌∷◌, ◌≤◌, [], List, ap, sym, subst, refl}
use Rattle.pipe_frame.specs.Frame.{Table}
use Rattle.pipe_source.specs.Runs.{Run, IsRun}
use Rattle.pipe_source.specs.declared.chunk_run.Piece.{Piece}
use Rattle.pipe_source.proofs.RunLemmas.{is_run_of_more}
use Rattle.pipe_source.proofs.chunk_run.ChunkRun.add.Goals as goal

pub invariant_of-self : goal.invariant_of-self
invariant_of-self c = subst (IsRun c.self.inside.all) (sym c.in_err-reserve.ensures.items) c.self.invariant

pub invariant_of-self-in_err-vstack_mut : goal.invariant_of-self-in_err-vstack_mut
invariant_of-self-in_err-vstack_mut c =
    subst (λ (t : Table). IsRun record { chunk_index = c.self.inside.all.chunk_index; frame = t } c.reserve.new.self.items) (sym c.in_err-vstack_mut.ensures.err)
    (subst (IsRun c.self.inside.all) (sym c.in_ok-reserve.ensures.items) c.self.invariant)

pub invariant_of-self-2 : goal.invariant_of-self-2
invariant_of-self-2 c = (is_run_of_more c.self.inside.all record { chunk_index = c.args.chunk.now.chunk_index; frame = c.vstack_mut.new.self } c.args.chunk.now c.self.inside.pieces.items c.push_reserved.new.self.items record { chunk_index = c.args.chunk.now.chunk_index; height = c.height.result } c.self.invariant c.in_ok-vstack_mut.ensures.ok refl (c.push_reserved.ensures.items ∙ ap (λ (l : List Piece). l ++ (record { chunk_index = c.args.chunk.now.chunk_index; height = c.height.result } ∷ [])) c.in_ok-reserve.ensures.items) refl c.height.ensures (ap (λ (r : Run). r.schema) c.self.view_is ∙ sym c.requires.schema) (subst (λ n. n ≤ c.args.chunk.now.chunk_index) (sym (ap (λ (r : Run). r.last) c.self.view_is)) c.requires.index)).0

pub returns-clause-chunks : goal.returns-clause-chunks
returns-clause-chunks c = (is_run_of_more c.self.inside.all record { chunk_index = c.args.chunk.now.chunk_index; frame = c.vstack_mut.new.self } c.args.chunk.now c.self.inside.pieces.items c.push_reserved.new.self.items record { chunk_index = c.args.chunk.now.chunk_index; height = c.height.result } c.self.invariant c.in_ok-vstack_mut.ensures.ok refl (c.push_reserved.ensures.items ∙ ap (λ (l : List Piece). l ++ (record { chunk_index = c.args.chunk.now.chunk_index; height = c.height.result } ∷ [])) c.in_ok-reserve.ensures.items) refl c.height.ensures (ap (λ (r : Run). r.schema) c.self.view_is ∙ sym c.requires.schema) (subst (λ n. n ≤ c.args.chunk.now.chunk_index) (sym (ap (λ (r : Run). r.last) c.self.view_is)) c.requires.index)).1 ∙ ap (λ (r : Run). r.chunks ++ (c.args.chunk.now ∷ [])) c.self.view_is
