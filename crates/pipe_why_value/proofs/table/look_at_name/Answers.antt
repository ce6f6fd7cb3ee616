use Rattle.std.proofs.Common.{◌≡◌, refl, sym, ap, ◌∙◌, Some}
use Rattle.std.specs.Prelude.{codes, string_bytes, slice_index_or}
use Rattle.std.proofs.lemmas.Map.Text.{btree_map_updates_text}
use Rattle.serde_json.specs.Data.{null}
use Rattle.serde_json.specs.Find.{get}
use Rattle.pipe_value.specs.Items.{elements}
use Rattle.pipe_value.specs.View.{view}
use Rattle.pipe_job.specs.Shape.{text_in}
use Rattle.pipe_why_text.specs.declared.want.Want.TheVariants as want
use Rattle.pipe_why_value.specs.Places.{name_at}
use Rattle.pipe_why_value.proofs.Looks.{item_there, ok_all, on_ok}
use Rattle.pipe_why_value.proofs.Names.{names_kept, names_put}
use Rattle.pipe_why_value.proofs.table.look_at_name.Goals as goal

pub returns-in-Some-2-clause-looked : goal.returns-in-Some-2-clause-looked
returns-in-Some-2-clause-looked c =
    let d = view c.args.columns.now in
    let i = c.args.i in
    let column : slice_index_or (elements d) i null ≡ view c.value.result.now = sym (c.value.ensures ∙ c.in_ok-column.ensures) in
    let bytes = string_bytes c.in_ok-name.name in
    let here : name_at d i ≡ bytes = ap (λ e. text_in (get (codes "name") e)) column ∙ sym (ap text_in c.in-Some.ensures) ∙ sym (c.in_ok-name.ensures.ok ∙ c.text_of.ensures) in
    let was = c.requires.names bytes c.in-Some-2.earlier (sym c.in_ok-earlier.ensures.old ∙ c.in-Some-2.is) in
    on_ok c.note_at.result
    (λ looked t good. looked (want.Columns, d, t) (view c.value.result.now) (view c.in-Some.name.now)
    (item_there d i c.requires.place ∙ ap Some column)
    (sym c.in-Some.ensures) good
    (λ steps. tt)
    (λ root above at. record {
      above = above;
      columns = d;
      tree = t;
      place = i;
      steps_are = refl;
      stands = at;
      before = was.0;
      same = was.1 ∙ sym here;
    }))
    c.note_at.ensures

pub returns-in-Some-2-clause-names : goal.returns-in-Some-2-clause-names
returns-in-Some-2-clause-names c =
    let d = view c.args.columns.now in
    let i = c.args.i in
    let column : slice_index_or (elements d) i null ≡ view c.value.result.now = sym (c.value.ensures ∙ c.in_ok-column.ensures) in
    let bytes = string_bytes c.in_ok-name.name in
    let here : name_at d i ≡ bytes = ap (λ e. text_in (get (codes "name") e)) column ∙ sym (ap text_in c.in-Some.ensures) ∙ sym (c.in_ok-name.ensures.ok ∙ c.text_of.ensures) in
    ok_all c.note_at.result (names_put d i bytes c.args.names.now c.insert.new.self c.requires.names here
    (λ q. btree_map_updates_text bytes c.args.names.now c.insert.new.self (Some i) c.in_ok-earlier.ensures.updates q))

pub returns-clause-names : goal.returns-clause-names
returns-clause-names c =
    let d = view c.args.columns.now in
    let i = c.args.i in
    let column : slice_index_or (elements d) i null ≡ view c.value.result.now = sym (c.value.ensures ∙ c.in_ok-column.ensures) in
    let bytes = string_bytes c.in_ok-name.name in
    let here : name_at d i ≡ bytes = ap (λ e. text_in (get (codes "name") e)) column ∙ sym (ap text_in c.in-Some.ensures) ∙ sym (c.in_ok-name.ensures.ok ∙ c.text_of.ensures) in
    names_put d i bytes c.args.names.now c.insert.new.self c.requires.names here
    (λ q. btree_map_updates_text bytes c.args.names.now c.insert.new.self (Some i) c.in_ok-earlier.ensures.updates q)

pub returns-in_default-clause-names : goal.returns-in_default-clause-names
returns-in_default-clause-names c = names_kept (view c.args.columns.now) c.args.i c.args.names.now c.requires.names
