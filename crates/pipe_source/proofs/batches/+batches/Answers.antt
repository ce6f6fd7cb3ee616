use Rattle.std.proofs.Common.{◌≡◌, ◌∙◌, ℕ, ◌*◌, List, length, ap, sym, subst, arith, length-append}
use Rattle.std.proofs.lemmas.Result.{IfOk-weaker}
use Rattle.pipe_source.specs.declared.phys_source.PhysSource.{PhysSource}
use Rattle.pipe_ops.specs.Batches.{Left, Answers}
use Rattle.pipe_source.specs.Supply.{Supply}
use Rattle.pipe_source.specs.Supplies.{left_of, all_left, schemas_of, HaveFields, reprojected_all}
use Rattle.pipe_source.proofs.UnionLemmas.{batch_parts, first_gives, rest_gives}
use Rattle.pipe_source.proofs.ReprojectLemmas.{answer_has, answer_reprojected, has_by_schemas, schemas_reprojected}
use Rattle.pipe_source.proofs.batches.+batches.Goals as goal

pub list_batches-numbered_from-requires : goal.list_batches-numbered_from-requires
list_batches-numbered_from-requires t c =
    let gives = rw c.in-GotMoreData.is at c.in_ok-morsels.ensures.gives in
    rw gives.chunks (batch_parts 4294967296 c.args.before (4 * c.args.context.now.workers) c.args.context.now.chunk_rows c.args.next_index.now 0 (left_of c.in-Some.first.now) (omega (arith, c.requires.few, ap (λ s. length (all_left s)) c.in-Some.ensures.cases.0, length-append (left_of c.in-Some.first.now) (all_left c.in-Some.rest.now))))

pub list_batches-returns-in-GotMoreData-clause-gives : goal.list_batches-returns-in-GotMoreData-clause-gives
list_batches-returns-in-GotMoreData-clause-gives t c =
    let gives = rw c.in-GotMoreData.is at c.in_ok-morsels.ensures.gives in
    first_gives (4 * c.args.context.now.workers) c.args.context.now.chunk_rows c.args.next_index.now c.args.before c.in-GotMoreData.morsels.items c.numbered_from.result.items (left_of c.in-Some.first.now) (left_of c.source_batches.new.source) (all_left c.in-Some.rest.now) (all_left c.args.sources.now) (ap all_left c.in-Some.ensures.cases.0) c.numbered_from.ensures gives.chunks gives.left gives.some

pub list_batches-returns-in_ok-list_batches-in-Finished-clause-gives : goal.list_batches-returns-in_ok-list_batches-in-Finished-clause-gives
list_batches-returns-in_ok-list_batches-in-Finished-clause-gives t c =
    let gives = rw c.in-Finished.is at c.in_ok-morsels.ensures.gives in
    let index = rw c.in-Finished.is at c.in_ok-morsels.ensures.index in
    rest_gives c.args.before (4 * c.args.context.now.workers) c.args.context.now.chunk_rows c.args.next_index.now c.in_ok-list_batches-in-Finished.field-0 (left_of c.in-Some.first.now) (left_of c.source_batches.new.source) (all_left c.in-Some.rest.now) (all_left c.list_batches.new.sources) (all_left c.args.sources.now) (omega (arith, c.args.context.now.workers_in)) (ap all_left c.in-Some.ensures.cases.0) gives.0 gives.1 (rw (c.frames_in.ensures, gives.1, index) at c.in_ok-list_batches-in-Finished.ensures.gives)

pub reproject_batches-invariant_of-reproject : goal.reproject_batches-invariant_of-reproject
reproject_batches-invariant_of-reproject t c =
    let here : schemas_of (left_of c.deref_mut.result.now) ≡ schemas_of (left_of c.reproject.inside.source.value) = ap (λ (s : PhysSource). schemas_of (left_of s)) c.deref_mut.ensures.value in
    has_by_schemas c.reproject.inside.schema (left_of c.source_batches.new.source) (left_of c.reproject.inside.source.value) (c.in_err-answer.ensures.schemas ∙ here) c.reproject.invariant

pub reproject_batches-returns-in_err-answer-clause-schemas : goal.reproject_batches-returns-in_err-answer-clause-schemas
reproject_batches-returns-in_err-answer-clause-schemas t c =
    let here : schemas_of (left_of c.deref_mut.result.now) ≡ schemas_of (left_of c.reproject.inside.source.value) = ap (λ (s : PhysSource). schemas_of (left_of s)) c.deref_mut.ensures.value in
    schemas_reprojected c.reproject.inside.schema (left_of c.source_batches.new.source) (left_of c.reproject.inside.source.value) (c.in_err-answer.ensures.schemas ∙ here)
    ∙ ap (λ (s : Supply). schemas_of s.left) c.reproject.view_is

pub reproject_batches-reproject_answer-requires : goal.reproject_batches-reproject_answer-requires
reproject_batches-reproject_answer-requires t c =
    let here : left_of c.deref_mut.result.now ≡ left_of c.reproject.inside.source.value = ap left_of c.deref_mut.ensures.value in
    answer_has c.reproject.inside.schema (4 * c.args.context.now.workers) c.args.context.now.chunk_rows c.args.next_index.now (left_of c.deref_mut.result.now) (left_of c.source_batches.new.source) c.in_ok-answer.answer (subst (HaveFields c.reproject.inside.schema) (sym here) c.reproject.invariant) c.in_ok-answer.ensures.gives

pub reproject_batches-invariant_of-reproject-2 : goal.reproject_batches-invariant_of-reproject-2
reproject_batches-invariant_of-reproject-2 t c =
    let here : schemas_of (left_of c.deref_mut.result.now) ≡ schemas_of (left_of c.reproject.inside.source.value) = ap (λ (s : PhysSource). schemas_of (left_of s)) c.deref_mut.ensures.value in
    has_by_schemas c.reproject.inside.schema (left_of c.source_batches.new.source) (left_of c.reproject.inside.source.value) (c.in_ok-answer.ensures.schemas ∙ here) c.reproject.invariant

pub reproject_batches-returns-clause-gives : goal.reproject_batches-returns-clause-gives
reproject_batches-returns-clause-gives t c =
    let n : ℕ = 4 * c.args.context.now.workers in
    let size : ℕ = c.args.context.now.chunk_rows in
    let fields = c.reproject.inside.schema in
    let here : left_of c.deref_mut.result.now ≡ left_of c.reproject.inside.source.value = ap left_of c.deref_mut.ensures.value in
    let old : reprojected_all fields (left_of c.deref_mut.result.now) ≡ c.args.reproject.now.left = ap (reprojected_all fields) here ∙ ap (λ (s : Supply). s.left) c.reproject.view_is in
    IfOk-weaker c.reproject_answer.result _ _ (λ made e. subst (λ (l : List Left). Answers n size c.args.next_index.now l (reprojected_all fields (left_of c.source_batches.new.source)) made) old (answer_reprojected fields n size c.args.next_index.now (left_of c.deref_mut.result.now) (left_of c.source_batches.new.source) c.in_ok-answer.answer made c.in_ok-answer.ensures.gives e)) c.reproject_answer.ensures

pub reproject_batches-returns-clause-schemas : goal.reproject_batches-returns-clause-schemas
reproject_batches-returns-clause-schemas t c =
    let here : schemas_of (left_of c.deref_mut.result.now) ≡ schemas_of (left_of c.reproject.inside.source.value) = ap (λ (s : PhysSource). schemas_of (left_of s)) c.deref_mut.ensures.value in
    schemas_reprojected c.reproject.inside.schema (left_of c.source_batches.new.source) (left_of c.reproject.inside.source.value) (c.in_ok-answer.ensures.schemas ∙ here)
    ∙ ap (λ (s : Supply). schemas_of s.left) c.reproject.view_is
