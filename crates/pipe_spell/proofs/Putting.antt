-- A member that is put before all others.
use Rattle.std.proofs.Common.{◌≡◌, ℕ, List, [], ◌∷◌, ◌++◌, true, false, String, Global, Ordering, Less, Equal, Greater, string_bytes, nat_cmp, refl, sym, ap, ◌∙◌, true≢false}
use Rattle.std.proofs.lemmas.Cmp.{nat_list_cmp_total}
use Rattle.std.specs.BTreeMap.{insert_entry}
use Rattle.std.specs.Cmp.Lexicographic.{slice_cmp}
use Rattle.std.specs.List.{AllByRecursion}
use Rattle.std.specs.List.Sorted.{IsStrictlySortedBy}
use Rattle.std.specs.Map.{keys_of}
use Rattle.std.specs.Ordering.{match_ordering, ordering_reverse}
use Rattle.std.specs.String.{string_cmp}
use Rattle.serde_json.specs.Data.{Data, Members, no_members, member, put}
use Rattle.pipe_value.specs.View.{view, members_view}
use Rattle.pipe_value.specs.declared.value.Value.{Value}
use Rattle.pipe_value.proofs.Views.{Entry, members_view-insert_entry}
use Rattle.pipe_spell.specs.Before.{is_before}

goes_first : {A : Type 0} (o : Ordering) (a b c : A) → match_ordering o true false false ≡ true → match_ordering o a b c ≡ a
goes_first Less a b c h = refl
goes_first Equal a b c h = absurd (true≢false (sym h))
goes_first Greater a b c h = absurd (true≢false (sym h))

put_before : (name : List ℕ) (d : Data) (ms : Members) → is_before name ms ≡ true → put name d ms ≡ member name d ms
put_before name d no_members h = refl
put_before name d (member k e ms) h = goes_first (slice_cmp nat_cmp name k) (member name d (member k e ms)) (member k d ms) (member k e (put name d ms)) h

pub put_entry : (old new : List Entry) (key : String Global) (v : Value) (name : List ℕ) → new ≡ insert_entry string_cmp old key v → string_bytes key ≡ name → is_before name (members_view old) ≡ true
    → members_view new ≡ member name (view v) (members_view old)
put_entry old new key v name is named before =
    ap members_view is ∙ members_view-insert_entry old key v
    ∙ ap (λ (k : List ℕ). put k (view v) (members_view old)) named
    ∙ put_before name (view v) (members_view old) before

-- ---- members one after another

below_middle : (first : Entry) (es : List Entry) (e : Entry) (more : List Entry) → AllByRecursion (λ y. string_cmp first.0 y ≡ Less) (keys_of (es ++ e ∷ more)) → string_cmp first.0 e.0 ≡ Less
below_middle first [] e more h = h.0
below_middle first (x ∷ es) e more h = below_middle first es e more h.1

-- a name that is above those before it goes last
pub put_last : (done : List Entry) (e : Entry) (more : List Entry) → IsStrictlySortedBy string_cmp (keys_of (done ++ e ∷ more))
    → put (string_bytes e.0) (view e.1) (members_view done) ≡ members_view (done ++ e ∷ [])
unfolding IsStrictlySortedBy
put_last [] e more h = refl
put_last (first ∷ done) e more h =
    let above : slice_cmp nat_cmp (string_bytes e.0) (string_bytes first.0) ≡ Greater =
    nat_list_cmp_total.antisymm (string_bytes e.0) (string_bytes first.0) ∙ ap ordering_reverse (below_middle first done e more h.0) in
    rw above (ap (member (string_bytes first.0) (view first.1)) (put_last done e more h.1))
