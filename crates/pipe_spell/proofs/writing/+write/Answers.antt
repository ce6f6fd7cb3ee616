use Rattle.std.proofs.Common.{◌≡◌, ◌+◌, [], ◌∷◌, ◌++◌, drop, map, Some, option_and_then, string_bytes, sym, ap, ap₂, ◌∙◌, subst, arith, rules, append_assoc, append-nil}
use Rattle.std.proofs.lemmas.List.{drop_more, drop_all}
use Rattle.std.proofs.lemmas.Result.{on_ok_weaker}
use Rattle.std.specs.List.Sorted.{IsStrictlySortedBy}
use Rattle.std.specs.Map.{keys_of}
use Rattle.std.specs.String.{string_cmp}
use Rattle.json.specs.Token.{begin_array, begin_object, end_array, end_object, key}
use Rattle.json.specs.Token as token
use Rattle.json.specs.Json as json
use Rattle.json.specs.Tree as tree
use Rattle.serde_json.specs.Data.{null, boolean, number, string, put, members_depth}
use Rattle.serde_json.specs.Read.{of_members}
use Rattle.serde_json.specs.View.{number_view, items_of}
use Rattle.serde_json.specs.Written.{members_outline, WritesItems, WritesMembers, WritesValue}
use Rattle.pipe_value.specs.Columns.{columns_data}
use Rattle.pipe_value.specs.View.{view, items_view, members_view}
use Rattle.pipe_value.specs.declared.value.Value.{the_lemmas}
use Rattle.pipe_value.proofs.Views.{Entry, view-Array, view-Packed, view-Object}
use Rattle.pipe_spell.specs.Written.{WritesFront}
use Rattle.pipe_spell.proofs.Fronts.{wrote_boolean, wrote_array, wrote_object, item_first, no_item, front_ends, printable_push}
use Rattle.pipe_spell.proofs.Putting.{put_last}
use Rattle.pipe_spell.proofs.writing.+write.Goals as goal

-- ---- values

pub write-returns-in-Null-clause-ok : goal.write-returns-in-Null-clause-ok
write-returns-in-Null-clause-ok t c =
    let seen : null ≡ view c.args.value.now = rw c.in-Null.is (search (rules, the_lemmas)) in
    on_ok_weaker c.write_null.result (λ w. subst (λ d. WritesValue d c.args.out.now.tokens c.write_null.new.out.tokens) seen w) c.write_null.ensures.ok

pub write-returns-in-Bool-clause-ok : goal.write-returns-in-Bool-clause-ok
write-returns-in-Bool-clause-ok t c =
    let seen : boolean c.in-Bool.truth ≡ view c.args.value.now = rw c.in-Bool.is (search (rules, the_lemmas)) in
    on_ok_weaker c.boolean.result (λ e. subst (λ d. WritesValue d c.args.out.now.tokens c.boolean.new.self.tokens) seen (wrote_boolean c.in-Bool.truth _ _ e)) c.boolean.ensures.ok

pub write-returns-in-Number-clause-ok : goal.write-returns-in-Number-clause-ok
write-returns-in-Number-clause-ok t c =
    let seen : number (number_view c.in-Number.number) ≡ view c.args.value.now = rw c.in-Number.is (search (rules, the_lemmas)) in
    on_ok_weaker c.write_number.result (λ w. subst (λ d. WritesValue d c.args.out.now.tokens c.write_number.new.out.tokens) seen w) c.write_number.ensures.ok

pub write-returns-in-String-clause-ok : goal.write-returns-in-String-clause-ok
write-returns-in-String-clause-ok t c =
    let seen : string c.as_str.result.now ≡ view c.args.value.now = rw c.in-String.is (search (rules, the_lemmas)) in
    on_ok_weaker c.write_str.result (λ w. subst (λ d. WritesValue d c.args.out.now.tokens c.write_str.new.out.tokens) seen w) c.write_str.ensures.ok

pub write-returns-in_ok-begin_array-in-Array-clause-ok : goal.write-returns-in_ok-begin_array-in-Array-clause-ok
write-returns-in_ok-begin_array-in-Array-clause-ok t c =
    let seen = ap view c.in-Array.is ∙ view-Array c.in-Array.items in
    let opened : c.begin_array.new.self.tokens ≡ c.args.out.now.tokens ++ begin_array ∷ [] = search rules in
    on_ok_weaker c.write_items.result
    (λ w. subst (λ d. WritesValue d c.args.out.now.tokens c.write_items.new.out.tokens) (sym seen) (wrote_array (items_view c.in-Array.items.items) _ _ _ opened w)) c.write_items.ensures.ok

pub write-returns-in_ok-write_columns-in-Packed-clause-ok : goal.write-returns-in_ok-write_columns-in-Packed-clause-ok
write-returns-in_ok-write_columns-in-Packed-clause-ok t c =
    let cs = columns_data c.in-Packed.columns.value in
    let vs = map view c.in-Packed.items.items in
    let seen = ap view c.in-Packed.is ∙ view-Packed c.in-Packed.columns c.in-Packed.items in
    let opened : c.begin_array-in-Packed.new.self.tokens ≡ c.args.out.now.tokens ++ begin_array ∷ [] = search rules in
    let same : c.deref.result.now ≡ c.in-Packed.columns.value = search rules in
    let front = subst (λ columns. WritesFront (columns_data columns) c.begin_array-in-Packed.new.self.tokens c.write_columns.new.out.tokens) same c.in_ok-write_columns-in-Packed.ensures.ok in
    on_ok_weaker c.write_items-in-Packed.result
    (λ w. subst (λ d. WritesValue d c.args.out.now.tokens c.write_items-in-Packed.new.out.tokens) (sym seen)
    (wrote_array (items_of (cs ++ vs)) _ _ _ opened (front_ends cs vs _ _ _ front w))) c.write_items-in-Packed.ensures.ok

pub write-returns-in_ok-begin_object-in-Object-clause-ok : goal.write-returns-in_ok-begin_object-in-Object-clause-ok
write-returns-in_ok-begin_object-in-Object-clause-ok t c =
    let seen = ap view c.in-Object.is ∙ view-Object c.in-Object.members in
    let opened : c.begin_object.new.self.tokens ≡ c.args.out.now.tokens ++ begin_object ∷ [] = search rules in
    on_ok_weaker c.write_members.result
    (λ w. subst (λ d. WritesValue d c.args.out.now.tokens c.write_members.new.out.tokens) (sym seen) (wrote_object (members_view c.in-Object.members.entries) _ _ _ opened w)) c.write_members.ensures.ok

-- ---- the tokens can be printed

pub write-returns-in-Bool-clause-printable : goal.write-returns-in-Bool-clause-printable
write-returns-in-Bool-clause-printable t c = on_ok_weaker c.boolean.result (λ e. printable_push (token.boolean c.in-Bool.truth) _ _ tt e) c.boolean.ensures.ok

pub write-returns-in_ok-begin_array-in-Array-clause-printable : goal.write-returns-in_ok-begin_array-in-Array-clause-printable
write-returns-in_ok-begin_array-in-Array-clause-printable t c =
    let opened : c.begin_array.new.self.tokens ≡ c.args.out.now.tokens ++ begin_array ∷ [] = search rules in
    on_ok_weaker c.write_items.result (λ p h. p (printable_push begin_array _ _ tt opened h)) c.write_items.ensures.printable

pub write-returns-in_ok-write_columns-in-Packed-clause-printable : goal.write-returns-in_ok-write_columns-in-Packed-clause-printable
write-returns-in_ok-write_columns-in-Packed-clause-printable t c =
    let opened : c.begin_array-in-Packed.new.self.tokens ≡ c.args.out.now.tokens ++ begin_array ∷ [] = search rules in
    on_ok_weaker c.write_items-in-Packed.result
    (λ p h. p (c.in_ok-write_columns-in-Packed.ensures.printable (printable_push begin_array _ _ tt opened h))) c.write_items-in-Packed.ensures.printable

pub write-returns-in_ok-begin_object-in-Object-clause-printable : goal.write-returns-in_ok-begin_object-in-Object-clause-printable
write-returns-in_ok-begin_object-in-Object-clause-printable t c =
    let opened : c.begin_object.new.self.tokens ≡ c.args.out.now.tokens ++ begin_object ∷ [] = search rules in
    on_ok_weaker c.write_members.result (λ p h. p (printable_push begin_object _ _ tt opened h)) c.write_members.ensures.printable

pub write_items-returns-clause-printable : goal.write_items-returns-clause-printable
write_items-returns-clause-printable t c =
    let l = c.loop-item in
    on_ok_weaker c.end_array.result (λ e h. printable_push end_array _ _ tt e (l.invariant.2 h)) c.end_array.ensures.ok

pub write_members-returns-clause-printable : goal.write_members-returns-clause-printable
write_members-returns-clause-printable t c =
    let l = c.loop-key in
    on_ok_weaker c.end_object.result (λ e h. printable_push end_object _ _ tt e (l.invariant.4 h)) c.end_object.ensures.ok

-- ---- items

pub write_items-loop-item-preserved : goal.write_items-loop-item-preserved
write_items-loop-item-preserved t c =
    let l = c.loop-item in
    let xs = c.deref-item-items.result.now in
    let x = c.item-item.result in
    let here : drop l.item-index xs ≡ x ∷ drop (l.item-index + 1) xs = drop_more xs l.item-index x (omega arith) ∙ ap (λ y. y ∷ drop (l.item-index + 1) xs) (sym c.item-item.is) in
    let w = c.in_ok-write.ensures in (
      w.before ∙ l.invariant.0,
      λ end rest. l.invariant.1 end (subst (λ ys. WritesItems (items_view ys) l.out.tokens end) (sym here) (item_first (view x) (items_view (drop (l.item-index + 1) xs)) _ _ _ w.ok rest)),
      λ h. w.printable (l.invariant.2 h),
    )

pub write_items-returns-clause-ok : goal.write_items-returns-clause-ok
write_items-returns-clause-ok t c =
    let l = c.loop-item in
    let xs = c.deref-item-items.result.now in
    let end = c.end_array.new.self.tokens in
    let none : drop l.item-index xs ≡ [] = drop_all l.item-index xs (omega arith) in
    on_ok_weaker c.end_array.result (λ e.
    subst (λ ys. WritesItems (items_view ys) c.args.out.now.tokens end) c.deref-item-items.ensures.value
    (l.invariant.1 end (subst (λ ys. WritesItems (items_view ys) l.out.tokens end) (sym none) (no_item _ _ e)))) c.end_array.ensures.ok

-- ---- members

pub write_members-loop-key-preserved : goal.write_members-loop-key-preserved
write_members-loop-key-preserved t c =
    let l = c.loop-key in
    let done = l.invariant.1 in
    let e : Entry = (c.in-Some.key.now, c.in-Some.member.now) in
    let k = string_bytes c.in-Some.key.now in
    let left = c.next.new.self in
    let step : l.key-iterator ≡ e ∷ left = c.in-Some.ensures.steps in
    let all : c.args.members.now.entries ≡ done ++ e ∷ left = l.invariant.2 ∙ ap (λ es. done ++ es) step in
    let last = put_last done e left (subst (λ es. IsStrictlySortedBy string_cmp (keys_of es)) all c.iter-key-items.ensures.ordered) in
    let named : c.key.new.self.tokens ≡ l.out.tokens ++ key k ∷ [] = search rules in
    let w = c.in_ok-write.ensures.ok in (
      search rules,
      done ++ e ∷ [],
      all ∙ sym (append_assoc done (e ∷ []) left),
      λ ms reads shallow same.
          let tokens : l.out.tokens ++ tree.members_tokens (json.member k w.0 ms) ≡ c.write.new.out.tokens ++ tree.members_tokens ms =
          sym (ap (λ ts. ts ++ tree.members_tokens ms) (w.1 ∙ ap (λ ts. ts ++ tree.json_tokens w.0) named) ∙ append_assoc _ (tree.json_tokens w.0) _ ∙ append_assoc l.out.tokens (key k ∷ []) _) in
          subst (WritesMembers (members_view c.args.members.now.entries) c.args.out.now.tokens) tokens
          (l.invariant.3 (json.member k w.0 ms) (ap (option_and_then (λ d. of_members ms (put k d (members_view done)))) w.2 ∙ ap (of_members ms) last ∙ reads)
          (omega (arith, w.3, shallow, ap (λ es. members_depth (members_view es)) step))
          (ap₂ (json.member k) w.4 same ∙ ap (λ es. members_outline (members_view es)) (sym step))),
      λ h. c.in_ok-write.ensures.printable (printable_push (key k) l.out.tokens c.key.new.self.tokens tt named (l.invariant.4 h)),
    )

pub write_members-returns-clause-ok : goal.write_members-returns-clause-ok
write_members-returns-clause-ok t c =
    let l = c.loop-key in
    let done = l.invariant.1 in
    let all : c.args.members.now.entries ≡ done = l.invariant.2 ∙ ap (λ es. done ++ es) c.in-None.ensures.steps.0 ∙ append-nil done in
    on_ok_weaker c.end_object.result (λ e.
    subst (WritesMembers (members_view c.args.members.now.entries) c.args.out.now.tokens) (sym e)
    (l.invariant.3 json.no_members (ap (λ es. Some (members_view es)) (sym all)) (omega arith)
    (ap (λ es. members_outline (members_view es)) (sym c.in-None.ensures.steps.0)))) c.end_object.ensures.ok
