-- The chunks of a source with the columns of a schema.
use Rattle.std.proofs.Common.{◌≡◌, ℕ, zero, suc, ◌+◌, ◌*◌, ◌<◌, List, [], ◌∷◌, length, map, take, drop, refl, ap, sym, ◌∙◌, subst, arith}
use Rattle.std.specs.Prelude.{min}
use Rattle.std.specs.List.{AllByRecursion}
use Rattle.std.proofs.lemmas.List.{length-map, take-map, drop-map}
use Rattle.pipe_schema.specs.Rows.{Row}
use Rattle.pipe_schema.specs.Schema.{names_of}
use Rattle.pipe_schema.specs.declared.field.Field.{Field}
use Rattle.pipe_expr.specs.Projections.{row_named}
use Rattle.pipe_ops.specs.Each.{HasFields}
use Rattle.pipe_ops.specs.declared.source.Morsel.{Morsel}
use Rattle.pipe_ops.specs.declared.source.SourceResult.{SourceResult}
use Rattle.pipe_ops.specs.declared.source.SourceResult.TheVariants.{Finished, GotMoreData}
use Rattle.pipe_ops.specs.Batches.{Left, cut, pick, passed, batch, after_batch, Answers, index_after}
use Rattle.pipe_source.specs.Morsels.{HasAll, AnswerHas, IsReprojectedAnswer, reprojected_morsel}
use Rattle.pipe_source.specs.Supplies.{schemas_of, HaveFields, reprojected_left, reprojected_all}

module _ (fields : List Field) where
  abbrev row_of : List Field → Row → Row
  row_of schema = row_named schema (names_of fields)

  cut_reprojected : (n size index part from : ℕ) (schema : List Field) (rows : List Row) → map (reprojected_morsel fields) (cut n size index part from schema rows) ≡ cut n size index part from fields (map (row_of schema) rows)
  cut_reprojected zero size index part from schema rows = refl
  cut_reprojected (suc n) size index part from schema [] = refl
  cut_reprojected (suc n) size index part from schema (x ∷ xs) =
      let m : List Row → Morsel = λ rows. record { chunk = record { chunk_index = index; frame = record { schema = fields; rows = rows } }; part = part; from = from } in
      let front : map (row_of schema) (take size (x ∷ xs)) ≡ take size (map (row_of schema) (x ∷ xs)) = sym (take-map (row_of schema) size (x ∷ xs)) in
      let back : map (row_of schema) (drop size (x ∷ xs)) ≡ drop size (map (row_of schema) (x ∷ xs)) = sym (drop-map (row_of schema) size (x ∷ xs)) in
      let more = cut_reprojected n size (index + 1) part (from + size) schema (drop size (x ∷ xs)) in
      ap (λ rows. m rows ∷ map (reprojected_morsel fields) (cut n size (index + 1) part (from + size) schema (drop size (x ∷ xs)))) front
      ∙ ap (λ l. m (take size (map (row_of schema) (x ∷ xs))) ∷ l) (more ∙ ap (cut n size (index + 1) part (from + size) fields) back)

  pick_same : {X Y : Type 0} (f : X → Y) (g : Row → Row) (rows : List Row) (a b : X) (c d : Y) → f a ≡ c → f b ≡ d → f (pick rows a b) ≡ pick (map g rows) c d
  pick_same f g [] a b c d e h = e
  pick_same f g (x ∷ rows) a b c d e h = h

  -- the chunks with other columns are the chunks of what is left with these columns
  pub batch_reprojected : (n size index part : ℕ) (ls : List Left) → map (reprojected_morsel fields) (batch n size index part ls) ≡ batch n size index part (reprojected_all fields ls)
  batch_reprojected n size index part [] = refl
  batch_reprojected n size index part (l ∷ ls) =
      pick_same (map (reprojected_morsel fields)) (row_of l.schema) l.rows _ _ _ _ (batch_reprojected n size index (part + 1) ls) (cut_reprojected n size index part l.from l.schema l.rows)

  passed_reprojected : (n : ℕ) (l : Left) → reprojected_left fields (passed n l) ≡ passed n (reprojected_left fields l)
  passed_reprojected n l =
      let long : l.from + min n (length l.rows) ≡ l.from + min n (length (map (row_of l.schema) l.rows)) = ap (λ k. l.from + min n k) (sym (length-map l.rows (row_of l.schema))) in
      let rows : map (row_of l.schema) (drop n l.rows) ≡ drop n (map (row_of l.schema) l.rows) = sym (drop-map (row_of l.schema) n l.rows) in
      let made : ℕ → List Row → Left = λ k r. record { from = k; schema = fields; rows = r } in
      ap (λ k. made k (map (row_of l.schema) (drop n l.rows))) long ∙ ap (made (l.from + min n (length (map (row_of l.schema) l.rows)))) rows

  pub after_reprojected : (n size : ℕ) (ls : List Left) → reprojected_all fields (after_batch n size ls) ≡ after_batch n size (reprojected_all fields ls)
  after_reprojected n size [] = refl
  after_reprojected n size (l ∷ ls) =
      pick_same (reprojected_all fields) (row_of l.schema) l.rows _ _ _ _ (ap (λ m. reprojected_left fields l ∷ m) (after_reprojected n size ls)) (ap (λ m. m ∷ reprojected_all fields ls) (passed_reprojected (n * size) l))

  cut_has : (n size index part from : ℕ) (schema : List Field) (rows : List Row) → HasFields schema fields → AllByRecursion (HasAll fields) (cut n size index part from schema rows)
  cut_has zero size index part from schema rows h = tt
  cut_has (suc n) size index part from schema [] h = tt
  cut_has (suc n) size index part from schema (x ∷ xs) h = (h, cut_has n size (index + 1) part (from + size) schema (drop size (x ∷ xs)) h)

  pick_has : (rows : List Row) (a b : List Morsel) → AllByRecursion (HasAll fields) a → AllByRecursion (HasAll fields) b → AllByRecursion (HasAll fields) (pick rows a b)
  pick_has [] a b h k = h
  pick_has (x ∷ rows) a b h k = k

  -- chunks have the fields that what was left has
  pub batch_has : (n size index part : ℕ) (ls : List Left) → HaveFields fields ls → AllByRecursion (HasAll fields) (batch n size index part ls)
  batch_has n size index part [] h = tt
  batch_has n size index part (l ∷ ls) h = pick_has l.rows _ _ (batch_has n size index (part + 1) ls h.1) (cut_has n size index part l.from l.schema l.rows h.0)

  -- which fields there are is told by the schemas
  pub has_by_schemas : (a b : List Left) → schemas_of a ≡ schemas_of b → HaveFields fields b → HaveFields fields a
  has_by_schemas [] b e h = tt
  has_by_schemas (x ∷ a) [] e h = cc
  has_by_schemas (x ∷ a) (y ∷ b) e h =
      let here : x.schema ≡ y.schema = cc in
      let more : schemas_of a ≡ schemas_of b = cc in
      (subst (λ s. HasFields s fields) (sym here) h.0, has_by_schemas a b more h.1)

  pub schemas_reprojected : (a b : List Left) → schemas_of a ≡ schemas_of b → schemas_of (reprojected_all fields a) ≡ schemas_of (reprojected_all fields b)
  schemas_reprojected [] [] e = refl
  schemas_reprojected [] (y ∷ b) e = cc
  schemas_reprojected (x ∷ a) [] e = cc
  schemas_reprojected (x ∷ a) (y ∷ b) e =
      let more : schemas_of a ≡ schemas_of b = cc in
      ap (λ l. fields ∷ l) (schemas_reprojected a b more)

  -- an answer with other columns is that of the source with these columns
  pub answer_reprojected : (n size index : ℕ) (old new : List Left) (r made : SourceResult) → Answers n size index old new r → IsReprojectedAnswer fields r made → Answers n size index (reprojected_all fields old) (reprojected_all fields new) made
  answer_reprojected n size index old new Finished Finished h e = (sym (batch_reprojected n size index 0 old) ∙ ap (map (reprojected_morsel fields)) h.0, ap (reprojected_all fields) h.1)
  answer_reprojected n size index old new Finished (GotMoreData made) h e = absurd e
  answer_reprojected n size index old new (GotMoreData ms) Finished h e = absurd e
  answer_reprojected n size index old new (GotMoreData ms) (GotMoreData made) h e =
      let long : length made.items ≡ length ms.items = ap length e ∙ length-map ms.items (reprojected_morsel fields) in
      let some : 0 < length ms.items = h.some in
      record {
        chunks = e ∙ ap (map (reprojected_morsel fields)) h.chunks ∙ batch_reprojected n size index 0 old;
        some = omega arith;
        left = ap (reprojected_all fields) h.left ∙ after_reprojected n size old;
      }

  pub index_reprojected : (index : ℕ) (r made : SourceResult) → IsReprojectedAnswer fields r made → index_after index r ≡ index_after index made
  index_reprojected index Finished Finished e = refl
  index_reprojected index Finished (GotMoreData made) e = absurd e
  index_reprojected index (GotMoreData ms) Finished e = absurd e
  index_reprojected index (GotMoreData ms) (GotMoreData made) e = ap (λ k. index + k) (sym (ap length e ∙ length-map ms.items (reprojected_morsel fields)))

  pub answer_has : (n size index : ℕ) (old new : List Left) (r : SourceResult) → HaveFields fields old → Answers n size index old new r → AnswerHas fields r
  answer_has n size index old new Finished h a = tt
  answer_has n size index old new (GotMoreData ms) h a = subst (AllByRecursion (HasAll fields)) (sym a.chunks) (batch_has n size index 0 old h)
