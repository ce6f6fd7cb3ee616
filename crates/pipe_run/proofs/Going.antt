-- Rounds one after another: what holds before each.
use Rattle.std.proofs.Common.{◌≡◌, ℕ, ◌+◌, ◌*◌, ◌<◌, ◌≤◌, List, [], ◌∷◌, ◌++◌, length, refl, ap, sym, ◌∙◌, subst, arith, length-append, append-nil, append_assoc}
use Rattle.std.specs.List.{All, AllByRecursion, flat_map}
use Rattle.pipe_schema.specs.Counts.{counted, Counts}
use Rattle.pipe_schema.specs.Rows.{Row, Within}
use Rattle.pipe_schema.specs.declared.field.Field.{Field}
use Rattle.pipe_schema.proofs.Weights.{total-append}
use Rattle.pipe_ops.specs.Batches.{Left, batch, after_batch, IsBatch}
use Rattle.pipe_ops.specs.declared.context.PExecutionContext.{PExecutionContext}
use Rattle.pipe_ops.specs.declared.sink.Sink.{Ghosts as SinkWords}
use Rattle.pipe_ops.specs.declared.source.Morsel.{Morsel}
use Rattle.pipe_chain.specs.Chain.{AllServe}
use Rattle.pipe_chain.specs.Counts.{AllWithin, Went}
use Rattle.pipe_chain.specs.Flow.{Work, Acts}
use Rattle.pipe_chain.specs.declared.operator.Operator.{Ghosts as OperatorWords}
use Rattle.pipe_chain.proofs.Weighing.{within-by}
use Rattle.pipe_run.specs.declared.stage.LaneFault.{LaneFault}
use Rattle.pipe_run.specs.declared.stage.LaneFault.TheVariants.{Memory}
use Rattle.pipe_run.specs.declared.lane.Lane.{Lane}
use Rattle.pipe_run.specs.Stages.{IsOver}
use Rattle.pipe_run.specs.Lanes.{lane_operators, held_in, IsCalm, IsFit}
use Rattle.pipe_run.specs.Claimed.{schema_in, IsOfSchema, chunks_lot, entries_at}
use Rattle.pipe_run.specs.Dealt.{works_in, nodes_in, acts_in, AreAlike, counts_in, DoTheSame, rows_of_all, WentAll, IsOverIn}
use Rattle.pipe_run.specs.Rounds.{left_rows, schema_left, IsLeftOf, AllDealt, IsFew, Rounds, RoundsBefore}
use Rattle.pipe_run.specs.declared.note.Note.{Note}
use Rattle.pipe_run.specs.Notes.{HasNothing}
use Rattle.pipe_run.specs.Noted.{IsNotedSince, DealtNoted}
use Rattle.pipe_run.proofs.GoingOn.{begin, go_on}
use Rattle.pipe_run.proofs.Asked.{counts-next, counts-none}
use Rattle.pipe_run.proofs.BatchSteps.{batch-rows, batch-long, batch-few, batch-size, batch-schema, left-schema, spent-rows, schema-first, gave-more, index-more, few-more}
use Rattle.pipe_run.proofs.RoundSteps.{same-lanes-length, same-lanes-refl, same-lanes-trans, same-works-in, same-nodes-in, alike-nodes, lanes-acts-length, counts-in-length}
use Rattle.pipe_run.proofs.Sums.{held-within}
use Rattle.pipe_run.proofs.Limits.{went-none, went-trans, over-later, over-part, over-whole}

lanes-counts-length : {O S K : Type 0} (op : OperatorWords O S) (ss : List S) (from : List Field) (lanes : List (Lane O K)) → 0 < length lanes → AreAlike op from ss lanes → All (λ (lane : Lane O K). AllServe op (lane_operators lane) ss) lanes → length (counts_in lanes) ≡ length (works_in op from ss lanes) + 1
lanes-counts-length op ss from [] some like serve = absurd (omega arith)
lanes-counts-length op ss from (x ∷ lanes) some like serve = counts-in-length op ss from (works_in op from ss (x ∷ lanes)) (nodes_in (x ∷ lanes)) x lanes like serve

module _ {O S K B C : Type 0} (op : OperatorWords O S) (sink : SinkWords K B C) (ss : List S) where
  dealt-more : (limit : ℕ) (rounds : List (List Morsel)) (ms : List Morsel) (old mid new : List (Lane O K)) (notes notes' notes'' : List Note) → AllDealt op sink ss limit rounds old mid notes notes' → DealtNoted op sink ss limit (chunks_lot ms) mid new notes' notes'' → AllDealt op sink ss limit (rounds ++ ms ∷ []) old new notes notes''
  dealt-more limit [] ms old mid new notes notes' notes'' h d = (new, notes'', subst (λ (ns : List Note). DealtNoted op sink ss limit (chunks_lot ms) old new ns notes'') h.1 (subst (λ (l : List (Lane O K)). DealtNoted op sink ss limit (chunks_lot ms) l new notes' notes'') h.0 d), (refl, refl))
  dealt-more limit (m ∷ rounds) ms old mid new notes notes' notes'' h d = (h.0, h.1, h.2, dealt-more limit rounds ms h.0 mid new h.1 notes' notes'' h.3 d)

  module _ (context : PExecutionContext) (index₀ : ℕ) (left₀ : List Left) (asked₀ yes₀ : ℕ) (lanes₀ : List (Lane O K)) (notes₀ : List Note) where
    abbrev pub from : List Field
    from = schema_left left₀

    abbrev pub works : List Work
    works = works_in op from ss lanes₀

    -- these rows went through since the start
    abbrev pub WentOn : List Row → List (Lane O K) → Type 0
    WentOn rows lanes =
        Went works (acts_in op lanes₀) (acts_in op lanes) (counts_in lanes₀) (counts_in lanes) rows (flat_map (held_in sink.held) lanes₀) (flat_map (held_in sink.held) lanes)

    -- what holds before each round
    pub record Going (index : ℕ) (left : List Left) (asked yes : ℕ) (lanes : List (Lane O K)) (notes : List Note) : Type 0 where
      pub rounds : Rounds op sink ss context index₀ index left₀ left asked₀ asked lanes₀ lanes notes₀ notes
      pub empty : AllByRecursion HasNothing lanes
      pub frames : AllByRecursion (IsLeftOf from) left
      pub room : index + length (left_rows left) ≤ index₀ + length (left_rows left₀)
      pub same : DoTheSame op sink lanes₀ lanes
      pub alike : AreAlike op from ss lanes
      pub calm : All IsCalm lanes
      pub fit : All (IsFit op sink ss context.row_limit from) lanes
      pub within : AllWithin context.row_limit (counts_in lanes)
      pub through : List Row
      pub went : WentOn through lanes
      pub others : left_rows left₀ ≡ through ++ left_rows left
      pub yes_so_far : Counts 0 yes₀ yes

    pub going-init : 0 < length lanes₀ → AllByRecursion (IsLeftOf from) left₀ → AreAlike op from ss lanes₀ → All IsCalm lanes₀ → All (IsFit op sink ss context.row_limit from) lanes₀ → AllWithin context.row_limit (counts_in lanes₀) → AllByRecursion HasNothing lanes₀ → Going index₀ left₀ asked₀ yes₀ lanes₀ notes₀
    going-init some frames alike calm fit within empty =
        let serve : All (λ (lane : Lane O K). AllServe op (lane_operators lane) ss) lanes₀ = λ i d less. (fit i d less).serve in
        record {
          rounds = record { batches = []; gave = refl; index = refl; dealt = (refl, refl); noted = begin (length lanes₀) notes₀; asked = counts-none asked₀; few = tt };
          empty = empty;
          frames = frames;
          room = omega arith;
          same = same-lanes-refl op sink lanes₀;
          alike = alike;
          calm = calm;
          fit = fit;
          within = within;
          through = [];
          went = went-none works (acts_in op lanes₀) (counts_in lanes₀) (flat_map (held_in sink.held) lanes₀) (lanes-acts-length op ss from lanes₀ some alike serve) (lanes-counts-length op ss from lanes₀ some alike serve);
          others = refl;
          yes_so_far = counts-none yes₀;
        }

    module _ (index : ℕ) (left : List Left) (asked yes : ℕ) (lanes : List (Lane O K)) (notes : List Note) (going : Going index left asked yes lanes notes) where
      pub going-room : length (flat_map (held_in sink.held) lanes) ≤ context.row_limit
      going-room = held-within sink.held context.row_limit (nodes_in lanes) lanes (alike-nodes op sink ss context.row_limit from lanes going.alike) (λ i d less. (going.fit i d less).room (going.calm i d less)) going.within

      -- the source is refused memory
      pub going-memory : IsOverIn op ss context.row_limit from (left_rows left₀) lanes₀ lanes Memory
      going-memory =
          let whole = over-whole context.row_limit works _ _ _ _ (nodes_in lanes₀) going.through _ _ Memory going.went tt in
          over-part context.row_limit works _ _ _ _ going.through (left_rows left₀) Memory (rw going.others (within-by (λ w. omega (arith, total-append w going.through (left_rows left))))) whole

      module _ (ms : List Morsel) (left' : List Left) (given : IsBatch (4 * context.workers) context.chunk_rows index ms left left') where
        pub given-schemas : All (IsOfSchema from) ms
        given-schemas = subst (λ (l : List Morsel). All (IsOfSchema from) l) (sym given.chunks) (batch-schema (4 * context.workers) context.chunk_rows index from 0 left going.frames)

        pub given-schema : schema_in ms ≡ from
        given-schema = schema-first from ms given.some given-schemas

        -- what a round wants
        pub ready-schema : All (IsOfSchema (schema_in ms)) ms
        ready-schema = subst (λ (f : List Field). All (IsOfSchema f) ms) (sym given-schema) given-schemas

        pub ready-alike : AreAlike op (schema_in ms) ss lanes
        ready-alike = subst (λ (f : List Field). AreAlike op f ss lanes) (sym given-schema) going.alike

        pub ready-fit : All (IsFit op sink ss context.row_limit (schema_in ms)) lanes
        ready-fit = subst (λ (f : List Field). All (IsFit op sink ss context.row_limit f) lanes) (sym given-schema) going.fit

        -- what it leaves
        pub left-alike : (lanes' : List (Lane O K)) → AreAlike op (schema_in ms) ss lanes' → AreAlike op from ss lanes'
        left-alike lanes' h = subst (λ (f : List Field). AreAlike op f ss lanes') given-schema h

        pub left-fit : (lanes' : List (Lane O K)) → All (IsFit op sink ss context.row_limit (schema_in ms)) lanes' → All (IsFit op sink ss context.row_limit from) lanes'
        left-fit lanes' h = subst (λ (f : List Field). All (IsFit op sink ss context.row_limit f) lanes') given-schema h

        pub given-few : length ms ≤ 4 * context.workers
        given-few = omega (arith, ap length given.chunks, batch-few (4 * context.workers) context.chunk_rows index 0 left)

        given-size : IsFew (4 * context.workers * context.chunk_rows) ms
        given-size = subst (λ (l : List Morsel). IsFew (4 * context.workers * context.chunk_rows) l) (sym given.chunks) (batch-size (4 * context.workers) context.chunk_rows index 0 left)

        pub given-rows : left_rows left ≡ rows_of_all ms ++ left_rows left'
        given-rows =
            batch-rows (4 * context.workers) context.chunk_rows index 0 left
            ∙ ap (λ l. rows_of_all l ++ left_rows (after_batch (4 * context.workers) context.chunk_rows left)) (sym given.chunks)
            ∙ ap (λ l. rows_of_all ms ++ left_rows l) (sym given.left)

        pub given-long : 0 < context.chunk_rows → length ms ≤ length (rows_of_all ms)
        given-long some = subst (λ (l : List Morsel). length l ≤ length (rows_of_all l)) (sym given.chunks) (batch-long (4 * context.workers) context.chunk_rows index 0 left some)

        pub given-smaller : 0 < context.chunk_rows → length (left_rows left') < length (left_rows left)
        given-smaller some = omega (arith, given-long some, given.some, ap length given-rows, length-append (rows_of_all ms) (left_rows left'))

        works-on : works_in op from ss lanes ≡ works
        works-on = same-works-in op sink from ss lanes₀ lanes going.same

        nodes-on : nodes_in lanes ≡ nodes_in lanes₀
        nodes-on = same-nodes-in op sink from ss lanes₀ lanes going.same

        -- the rows that went through, and those of these chunks
        abbrev through-on : List Row
        through-on = going.through ++ rows_of_all ms

        others-on : left_rows left₀ ≡ through-on ++ left_rows left'
        others-on =
            going.others
            ∙ ap (λ l. going.through ++ l) given-rows
            ∙ sym (append_assoc going.through (rows_of_all ms) (left_rows left'))

        through-within : Within through-on (left_rows left₀)
        through-within = rw others-on (within-by (λ w. omega (arith, total-append w through-on (left_rows left'))))

        -- a refusal of a round
        pub going-over : (lanes' : List (Lane O K)) (r : LaneFault) → IsOverIn op ss context.row_limit (schema_in ms) (rows_of_all ms) lanes lanes' r → IsOverIn op ss context.row_limit from (left_rows left₀) lanes₀ lanes' r
        going-over lanes' r h =
            let here : IsOverIn op ss context.row_limit from (rows_of_all ms) lanes lanes' r = subst (λ (f : List Field). IsOverIn op ss context.row_limit f (rows_of_all ms) lanes lanes' r) given-schema h in
            let now : IsOver context.row_limit works (acts_in op lanes) (acts_in op lanes') (counts_in lanes) (nodes_in lanes₀) (rows_of_all ms) r = rw (works-on, nodes-on) at here in
            over-part context.row_limit works _ _ _ _ through-on (left_rows left₀) r through-within
            (over-later context.row_limit works _ _ _ _ _ (nodes_in lanes₀) going.through (rows_of_all ms) _ _ r going.went now)

        module _ (index' asked' yes' : ℕ) (lanes' : List (Lane O K)) (same : DoTheSame op sink lanes lanes') where
          pub going-same : DoTheSame op sink lanes₀ lanes'
          going-same = same-lanes-trans op sink lanes₀ lanes lanes' going.same same

          pub going-next : index' ≡ index + length ms → asked' ≡ counted 1 asked → yes' ≡ counted 0 yes → 0 < context.chunk_rows → AreAlike op (schema_in ms) ss lanes' → All IsCalm lanes' → All (IsFit op sink ss context.row_limit (schema_in ms)) lanes' → AllWithin context.row_limit (counts_in lanes') → WentAll op sink ss (schema_in ms) (rows_of_all ms) lanes lanes' → (notes' : List Note) → DealtNoted op sink ss context.row_limit (chunks_lot ms) lanes lanes' notes notes' → IsNotedSince (length lanes) (length ms) (entries_at ms) notes notes' → AllByRecursion HasNothing lanes' → Going index' left' asked' yes' lanes' notes'
          going-next i a y some alike calm fit within went notes' dealt noted empty =
              let r = going.rounds in
              let here : WentAll op sink ss from (rows_of_all ms) lanes lanes' = subst (λ (fd : List Field). WentAll op sink ss fd (rows_of_all ms) lanes lanes') given-schema went in
              let now : Went works (acts_in op lanes) (acts_in op lanes') (counts_in lanes) (counts_in lanes') (rows_of_all ms) (flat_map (held_in sink.held) lanes) (flat_map (held_in sink.held) lanes') = rw works-on at here in
              record {
                rounds = record {
                  batches = r.batches ++ ms ∷ [];
                  gave = gave-more (4 * context.workers) context.chunk_rows index₀ r.batches ms left₀ left left' r.gave (given.chunks ∙ ap (λ k. batch (4 * context.workers) context.chunk_rows k 0 left) r.index) given.left;
                  index = i ∙ ap (λ k. k + length ms) r.index ∙ sym (index-more index₀ r.batches ms);
                  dealt = dealt-more context.row_limit r.batches ms lanes₀ lanes lanes' notes₀ notes notes' r.dealt dealt;
                  noted = go_on (length lanes₀) r.batches ms notes₀ notes notes' r.noted (subst (λ (n : ℕ). IsNotedSince n (length ms) (entries_at ms) notes notes') (same-lanes-length op sink lanes₀ lanes going.same) noted);
                  few = few-more (4 * context.workers * context.chunk_rows) r.batches ms r.few given-size;
                  asked = subst (λ (n : ℕ). Counts n asked₀ asked') (sym (length-append r.batches (ms ∷ []))) (counts-next (length r.batches) 1 asked₀ asked asked' r.asked a);
                };
                empty = empty;
                frames = subst (λ (l : List Left). AllByRecursion (IsLeftOf from) l) (sym given.left) (left-schema (4 * context.workers) context.chunk_rows index from left going.frames);
                room = omega (arith, i, going.room, given-long some, ap length given-rows, length-append (rows_of_all ms) (left_rows left'));
                same = going-same;
                alike = left-alike lanes' alike;
                calm = calm;
                fit = left-fit lanes' fit;
                within = within;
                through = through-on;
                went = went-trans works _ _ _ _ _ _ going.through (rows_of_all ms) _ _ _ going.went now;
                others = others-on;
                yes_so_far = counts-next 0 0 yes₀ yes yes' going.yes_so_far y;
              }

      pub going-rounds : (index' : ℕ) (left' : List Left) → index' ≡ index → left' ≡ left → Rounds op sink ss context index₀ index' left₀ left' asked₀ asked lanes₀ lanes notes₀ notes
      going-rounds index' left' i l =
          subst (λ (k : ℕ). Rounds op sink ss context index₀ k left₀ left' asked₀ asked lanes₀ lanes notes₀ notes) (sym i) (subst (λ (ls : List Left). Rounds op sink ss context index₀ index left₀ ls asked₀ asked lanes₀ lanes notes₀ notes) (sym l) going.rounds)

      pub going-stopped : (asked' : ℕ) → asked' ≡ counted 1 asked → RoundsBefore op sink ss context index₀ left₀ asked₀ asked' lanes₀ lanes notes₀ notes
      going-stopped asked' a = record {
        left = left;
        batches = going.rounds.batches;
        gave = going.rounds.gave;
        dealt = going.rounds.dealt;
        noted = going.rounds.noted;
        asked = counts-next (length going.rounds.batches) 1 asked₀ asked asked' going.rounds.asked a;
      }

      -- the source is out
      module _ (spent : batch (4 * context.workers) context.chunk_rows index 0 left ≡ []) (some : 0 < context.workers) where
        pub none-left : left_rows left ≡ []
        none-left = spent-rows (4 * context.workers) context.chunk_rows index 0 left (omega (arith, some)) spent

        pub none-left-after : (left' : List Left) → left' ≡ left → left_rows left' ≡ []
        none-left-after left' l = ap left_rows l ∙ none-left

        pub going-went : WentAll op sink ss from (left_rows left₀) lanes₀ lanes
        going-went =
            let whole : left_rows left₀ ≡ going.through = going.others ∙ ap (λ l. going.through ++ l) none-left ∙ append-nil going.through in
            subst (λ (rows : List Row). WentOn rows lanes) (sym whole) going.went
