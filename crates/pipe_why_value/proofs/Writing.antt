-- What stands in a value stands in how it is written, and isn't as deep as the value.
use Rattle.std.proofs.Common.{◌≡◌, ◌≢◌, ◌⊎◌, inl, inr, ◌<◌, ◌+◌, ◌≤◌, ℕ, zero, suc, List, [], ◌∷◌, length, Bool, true, false, true≢false, cond, Option, Some, None, refl, sym, ap, ◌∙◌, subst, arith, Ordering, Less, Equal, Greater, is_eq}
use Rattle.std.specs.Prelude.{slice_index_or, option_and_then, option_map}
use Rattle.std.specs.Cmp.Lexicographic.{bytes_decides, slice_cmp, texts_ties}
use Rattle.std.specs.Ordering.{match_ordering, nat_cmp}
use Rattle.std.specs.Str.{bytes_eq}
use Rattle.json.specs.Json as json
use Rattle.json.specs.Json.{Json}
use Rattle.json.specs.Lex.{tokens}
use Rattle.json.specs.Token.{Token}
use Rattle.json.specs.Find as find
use Rattle.serde_json.specs.Data.{Data, null, boolean, number, string, array, object, Items, no_items, item, Members, no_members, member, put, depth, items_depth, members_depth}
use Rattle.serde_json.specs.Find.{at, get, get_item, get_member}
use Rattle.serde_json.specs.Read.{number_of, of_items, of_json, of_members, read}
use Rattle.pipe_why_text.specs.declared.steps.Step.{Step}
use Rattle.pipe_why_text.specs.declared.steps.Step.TheVariants as step
use Rattle.pipe_why_value.specs.Order.{IsLast, IsWritten, first_of, names, names_of, or_null, tree_of, tree_part}
use Rattle.pipe_why_value.specs.Places.{part}

none_some : {X : Type 0} (x : X) → None ≡ Some x → ⊥
none_some x h = cc

abbrev some_or : {X : Type 0} → X → Option X → X
some_or x None = x
some_or x (Some y) = y

same_some : {X : Type 0} (x y : X) → Some x ≡ Some y → x ≡ y
same_some x y h = ap (some_or x) h

-- a value that was read, mapped
mapped : {X Y : Type 0} (f : X → Y) (o : Option X) (y : Y) → option_map f o ≡ Some y → (x : X) × (o ≡ Some x) × (f x ≡ y)
mapped f None y h = absurd (none_some y h)
mapped f (Some x) y h = (x, refl, same_some (f x) y h)

followed : {X Y : Type 0} (f : X → Option Y) (o : Option X) (y : Y) → option_and_then f o ≡ Some y → (x : X) × (o ≡ Some x) × (f x ≡ Some y)
followed f None y h = absurd (none_some y h)
followed f (Some x) y h = (x, refl, h)

-- ---- members

text_cmp : (a b : List ℕ) (o : Ordering) → slice_cmp nat_cmp a b ≡ o → bytes_eq a b ≡ is_eq o
text_cmp a b o h = texts_ties a b ∙ ap is_eq h

-- the member of a name, beside one of another name
beside_name : (a l : List ℕ) (e : Data) (ms : Members) (o : Ordering) → slice_cmp nat_cmp a l ≡ o
    → match_ordering o (get_member a ms) (Some e) (get_member a ms) ≡ cond (bytes_eq a l) (Some e) (get_member a ms)
beside_name a l e ms Less h = ap (λ (b : Bool). cond b (Some e) (get_member a ms)) (sym (text_cmp a l Less h))
beside_name a l e ms Equal h = ap (λ (b : Bool). cond b (Some e) (get_member a ms)) (sym (text_cmp a l Equal h))
beside_name a l e ms Greater h = ap (λ (b : Bool). cond b (Some e) (get_member a ms)) (sym (text_cmp a l Greater h))

first_name : (a l : List ℕ) (e : Data) (ms : Members) → get_member a (member l e ms) ≡ cond (bytes_eq a l) (Some e) (get_member a ms)
first_name a l e ms = beside_name a l e ms (slice_cmp nat_cmp a l) refl

twice : (b : Bool) (d e : Option Data) (f : Option Data) → cond b d (cond b e f) ≡ cond b d f
twice true d e f = refl
twice false d e f = refl

apart : (b c : Bool) (d e f : Option Data) → (b ≡ true → c ≡ true → ⊥) → cond b e (cond c d f) ≡ cond c d (cond b e f)
apart true true d e f not = absurd (not refl refl)
apart true false d e f not = refl
apart false true d e f not = refl
apart false false d e f not = refl

same_eq : (a k l : List ℕ) → k ≡ l → bytes_eq a l ≡ bytes_eq a k
same_eq a k l h = ap (bytes_eq a) (sym h)

equal_text : (a b : List ℕ) → slice_cmp nat_cmp a b ≡ Equal → a ≡ b
equal_text a b e = (bytes_decides a b).0 (text_cmp a b Equal e)

two_names : (a k l : List ℕ) → slice_cmp nat_cmp k l ≡ Greater → bytes_eq a l ≡ true → bytes_eq a k ≡ true → ⊥
two_names a k l g at_l at_k =
    let same : k ≡ l = sym ((bytes_decides a k).0 at_k) ∙ (bytes_decides a l).0 at_l in
    true≢false (sym ((bytes_decides k l).1 same) ∙ text_cmp k l Greater g)

put_at : (a k l : List ℕ) (d e : Data) (ms : Members) (o : Ordering) → slice_cmp nat_cmp k l ≡ o → get_member a (put k d ms) ≡ cond (bytes_eq a k) (Some d) (get_member a ms)
    → get_member a (match_ordering o (member k d (member l e ms)) (member l d ms) (member l e (put k d ms))) ≡ cond (bytes_eq a k) (Some d) (get_member a (member l e ms))
put_at a k l d e ms Less h rest = first_name a k d (member l e ms)
put_at a k l d e ms Equal h rest =
    let same : k ≡ l = equal_text k l h in
    first_name a l d ms ∙ ap (λ (b : Bool). cond b (Some d) (get_member a ms)) (same_eq a k l same)
    ∙ sym (twice (bytes_eq a k) (Some d) (Some e) (get_member a ms))
    ∙ ap (λ (b : Bool). cond (bytes_eq a k) (Some d) (cond b (Some e) (get_member a ms))) (sym (same_eq a k l same))
    ∙ ap (cond (bytes_eq a k) (Some d)) (sym (first_name a l e ms))
put_at a k l d e ms Greater h rest =
    first_name a l e (put k d ms) ∙ ap (cond (bytes_eq a l) (Some e)) rest
    ∙ apart (bytes_eq a l) (bytes_eq a k) (Some d) (Some e) (get_member a ms) (two_names a k l h)
    ∙ ap (cond (bytes_eq a k) (Some d)) (sym (first_name a l e ms))

-- the member of a name once one was put
get_put : (a k : List ℕ) (d : Data) (ms : Members) → get_member a (put k d ms) ≡ cond (bytes_eq a k) (Some d) (get_member a ms)
get_put a k d no_members = first_name a k d no_members
get_put a k d (member l e ms) = put_at a k l d e ms (slice_cmp nat_cmp k l) refl (get_put a k d ms)

-- a member is written as the last one of its name, or was there before
abbrev IsFrom : List ℕ → json.Members → Members → Data → Type 0
IsFrom a ms found e = ((j : Json) × (find.get_member a ms ≡ Some j) × (of_json j ≡ Some e)) ⊎ ((find.get_member a ms ≡ None) × (get_member a found ≡ Some e))

not_back : (a k : List ℕ) (b : Bool) → bytes_eq k a ≡ b → bytes_eq a k ≡ false → bytes_eq k a ≡ false
not_back a k false h other = h
not_back a k true h other = absurd (true≢false (sym ((bytes_decides a k).1 (sym ((bytes_decides k a).0 h))) ∙ other))

eq_back : (a k : List ℕ) (b : Bool) → bytes_eq a k ≡ b → bytes_eq k a ≡ b
eq_back a k true h = (bytes_decides k a).1 (sym ((bytes_decides a k).0 h))
eq_back a k false h = not_back a k (bytes_eq k a) refl h

put_from : (a k : List ℕ) (b : Bool) (j : Json) (d e : Data) (later : Option Json) (found : Members) → bytes_eq k a ≡ b → of_json j ≡ Some d
    → later ≡ None → cond b (Some d) (get_member a found) ≡ Some e
    → ((i : Json) × (find.later_or later (cond (bytes_eq k a) (Some j) None) ≡ Some i) × (of_json i ≡ Some e)) ⊎ ((find.later_or later (cond (bytes_eq k a) (Some j) None) ≡ None) × (get_member a found ≡ Some e))
put_from a k true j d e later found same read none is =
    inl (j, ap (λ (o : Option Json). find.later_or o (cond (bytes_eq k a) (Some j) None)) none ∙ ap (λ (c : Bool). cond c (Some j) None) same, read ∙ is)
put_from a k false j d e later found other read none is =
    inr (ap (λ (o : Option Json). find.later_or o (cond (bytes_eq k a) (Some j) None)) none ∙ ap (λ (c : Bool). cond c (Some j) None) other, is)

one_more : (a k : List ℕ) (j : Json) (ms : json.Members) (d e : Data) (found : Members) → of_json j ≡ Some d → IsFrom a ms (put k d found) e → IsFrom a (json.member k j ms) found e
one_more a k j ms d e found read (inl later) = inl (later.0, ap (λ (o : Option Json). find.later_or o (cond (bytes_eq k a) (Some j) None)) later.1, later.2)
one_more a k j ms d e found read (inr before) =
    put_from a k (bytes_eq a k) j d e (find.get_member a ms) found (eq_back a k (bytes_eq a k) refl) read before.0 (sym (get_put a k d found) ∙ before.1)

member_from : (a : List ℕ) (ms : json.Members) (found all : Members) (e : Data) → of_members ms found ≡ Some all → get_member a all ≡ Some e → IsFrom a ms found e
member_from a json.no_members found all e h there = inr (refl, ap (get_member a) (same_some found all h) ∙ there)
member_from a (json.member k j ms) found all e h there =
    let read = followed (λ (d : Data). of_members ms (put k d found)) (of_json j) all h in
    one_more a k j ms read.0 e found read.1 (member_from a ms (put k read.0 found) all e read.2 there)

written_from : (a : List ℕ) (ms : json.Members) (e : Data) → IsFrom a ms no_members e → (j : Json) × (find.get_member a ms ≡ Some j) × (of_json j ≡ Some e)
written_from a ms e (inl there) = there
written_from a ms e (inr none) = absurd (none_some e none.1)

member_written : (a : List ℕ) (t : Json) (d e : Data) → IsWritten t d → get a d ≡ Some e → (j : Json) × (find.get a t ≡ Some j) × (of_json j ≡ Some e)
member_written a json.null d e h there = absurd (none_some e (ap (get a) (same_some null d h) ∙ there))
member_written a (json.boolean b) d e h there = absurd (none_some e (ap (get a) (same_some (boolean b) d h) ∙ there))
member_written a (json.number s) d e h there =
    let read = mapped number (number_of s) d h in
    absurd (none_some e (ap (get a) read.2 ∙ there))
member_written a (json.string s) d e h there = absurd (none_some e (ap (get a) (same_some (string s) d h) ∙ there))
member_written a (json.array js) d e h there =
    let read = mapped array (of_items js) d h in
    absurd (none_some e (ap (get a) read.2 ∙ there))
member_written a (json.object ms) d e h there =
    let read = mapped object (of_members ms no_members) d h in
    written_from a ms e (member_from a ms no_members read.0 e read.1 (ap (get a) read.2 ∙ there))

-- ---- items

item_read : (i : ℕ) (js : json.Items) (ds : Items) (e : Data) → of_items js ≡ Some ds → get_item i ds ≡ Some e → (j : Json) × (find.get_item i js ≡ Some j) × (of_json j ≡ Some e)
item_read i json.no_items ds e h there = absurd (none_some e (ap (get_item i) (same_some no_items ds h) ∙ there))
item_read zero (json.item j js) ds e h there =
    let first = followed (λ (d : Data). option_map (item d) (of_items js)) (of_json j) ds h in
    let rest = mapped (item first.0) (of_items js) ds first.2 in
    (j, refl, first.1 ∙ ap (get_item 0) rest.2 ∙ there)
item_read (suc i) (json.item j js) ds e h there =
    let first = followed (λ (d : Data). option_map (item d) (of_items js)) (of_json j) ds h in
    let rest = mapped (item first.0) (of_items js) ds first.2 in
    item_read i js rest.0 e rest.1 (ap (get_item (suc i)) rest.2 ∙ there)

item_written : (i : ℕ) (t : Json) (d e : Data) → IsWritten t d → at i d ≡ Some e → (j : Json) × (find.at i t ≡ Some j) × (of_json j ≡ Some e)
item_written i json.null d e h there = absurd (none_some e (ap (at i) (same_some null d h) ∙ there))
item_written i (json.boolean b) d e h there = absurd (none_some e (ap (at i) (same_some (boolean b) d h) ∙ there))
item_written i (json.number s) d e h there =
    let read = mapped number (number_of s) d h in
    absurd (none_some e (ap (at i) read.2 ∙ there))
item_written i (json.string s) d e h there = absurd (none_some e (ap (at i) (same_some (string s) d h) ∙ there))
item_written i (json.array js) d e h there =
    let read = mapped array (of_items js) d h in
    item_read i js read.0 e read.1 (ap (at i) read.2 ∙ there)
item_written i (json.object ms) d e h there =
    let read = mapped object (of_members ms no_members) d h in
    absurd (none_some e (ap (at i) read.2 ∙ there))

-- a part of a value is written in the part of its text
pub part_written : (s : Step) (t : Json) (d e : Data) → IsWritten t d → part s d ≡ Some e → IsWritten (tree_part s t) e
part_written (step.Member name) t d e h there =
    let at_t = member_written name t d e h there in
    ap (λ (o : Option Json). of_json (or_null o)) at_t.1 ∙ at_t.2
part_written (step.Item i) t d e h there =
    let at_t = item_written i t d e h there in
    ap (λ (o : Option Json). of_json (or_null o)) at_t.1 ∙ at_t.2

-- ---- the names of members

abbrev pub HasLast : List (List ℕ) → List ℕ → Type 0
HasLast ns name = (i : ℕ) × IsLast ns i name

abbrev HasNone : List (List ℕ) → List ℕ → Type 0
HasNone ns name = (i : ℕ) → i < length ns → slice_index_or ns i [] ≢ name

later_none : (o p : Option Json) → find.later_or o p ≡ None → (o ≡ None) × (p ≡ None)
later_none None p h = (refl, h)
later_none (Some j) p h = absurd (none_some j (sym h))

cond_none : (b : Bool) (j : Json) → cond b (Some j) None ≡ None → b ≡ false
cond_none true j h = absurd (none_some j (sym h))
cond_none false j h = refl

not_first : (k name : List ℕ) (ns : List (List ℕ)) (i : ℕ) → bytes_eq k name ≡ false → HasNone ns name → i < suc (length ns) → slice_index_or (k ∷ ns) i [] ≡ name → ⊥
not_first k name ns zero other none h is = true≢false (sym ((bytes_decides k name).1 is) ∙ other)
not_first k name ns (suc i) other none h is = none i (omega (arith, h)) is

no_name : (name : List ℕ) (ms : json.Members) → find.get_member name ms ≡ None → HasNone (names ms) name
no_name name json.no_members h i less is = omega (arith, less)
no_name name (json.member k j ms) h i less is =
    let both = later_none (find.get_member name ms) (cond (bytes_eq k name) (Some j) None) h in
    not_first k name (names ms) i (cond_none (bytes_eq k name) j both.1) (no_name name ms both.0) less is

after_first : (k name : List ℕ) (ns : List (List ℕ)) (i j : ℕ) → ((j : ℕ) → i < j → j < length ns → slice_index_or ns j [] ≢ name) → suc i < j → j < suc (length ns)
    → slice_index_or (k ∷ ns) j [] ≡ name → ⊥
after_first k name ns i zero after less inside is = omega (arith, less)
after_first k name ns i (suc j) after less inside is = after j (omega (arith, less)) (omega (arith, inside)) is

one_later : (k name : List ℕ) (ns : List (List ℕ)) → HasLast ns name → HasLast (k ∷ ns) name
one_later k name ns last = (suc last.0, (omega (arith, last.1.0), last.1.1, λ j less inside. after_first k name ns last.0 j last.1.2 less inside))

is_first_last : (k name : List ℕ) (ns : List (List ℕ)) (j : ℕ) → HasNone ns name → 0 < j → j < suc (length ns) → slice_index_or (k ∷ ns) j [] ≡ name → ⊥
is_first_last k name ns zero none less inside is = omega (arith, less)
is_first_last k name ns (suc j) none less inside is = none j (omega (arith, inside)) is

last_name_of : (name k : List ℕ) (j e : Json) (ms : json.Members) (o : Option Json) → find.get_member name ms ≡ o → ((i : Json) → find.get_member name ms ≡ Some i → HasLast (names ms) name)
    → find.later_or o (cond (bytes_eq k name) (Some j) None) ≡ Some e → (b : Bool) → bytes_eq k name ≡ b → HasLast (k ∷ names ms) name
last_name_of name k j e ms (Some i) there later h b is = one_later k name (names ms) (later i there)
last_name_of name k j e ms None none later h true is =
    (0, (omega arith, (bytes_decides k name).0 is, λ i less inside. is_first_last k name (names ms) i (no_name name ms none) less inside))
last_name_of name k j e ms None none later h false is = absurd (none_some e (sym (ap (λ (c : Bool). cond c (Some j) None) is) ∙ h))

has_last : (name : List ℕ) (ms : json.Members) (e : Json) → find.get_member name ms ≡ Some e → HasLast (names ms) name
has_last name json.no_members e h = absurd (none_some e h)
has_last name (json.member k j ms) e h =
    last_name_of name k j e ms (find.get_member name ms) refl (λ i there. has_last name ms i there) h (bytes_eq k name) refl

has_last_of : (name : List ℕ) (t e : Json) → find.get name t ≡ Some e → HasLast (names_of t) name
has_last_of name json.null e h = absurd (none_some e h)
has_last_of name (json.boolean b) e h = absurd (none_some e h)
has_last_of name (json.number s) e h = absurd (none_some e h)
has_last_of name (json.string s) e h = absurd (none_some e h)
has_last_of name (json.array js) e h = absurd (none_some e h)
has_last_of name (json.object ms) e h = has_last name ms e h

-- each member of a value has a name in its text, and a last place there
pub name_written : (name : List ℕ) (t : Json) (d e : Data) → IsWritten t d → get name d ≡ Some e → HasLast (names_of t) name
name_written name t d e h there =
    let at_t = member_written name t d e h there in
    has_last_of name t at_t.0 at_t.1

-- ---- how deep the parts are

depth_beside : (a l : List ℕ) (f : Data) (ms : Members) (e : Data) (b : Bool) → cond b (Some f) (get_member a ms) ≡ Some e → (get_member a ms ≡ Some e → depth e ≤ members_depth ms)
    → depth e ≤ members_depth (member l f ms)
depth_beside a l f ms e true h below = omega (arith, ap depth (same_some f e h))
depth_beside a l f ms e false h below = omega (arith, below h)

depth_member : (a : List ℕ) (ms : Members) (e : Data) → get_member a ms ≡ Some e → depth e ≤ members_depth ms
depth_member a no_members e h = absurd (none_some e h)
depth_member a (member l f ms) e h = depth_beside a l f ms e (bytes_eq a l) (sym (first_name a l f ms) ∙ h) (λ there. depth_member a ms e there)

depth_item : (i : ℕ) (ds : Items) (e : Data) → get_item i ds ≡ Some e → depth e ≤ items_depth ds
depth_item i no_items e h = absurd (none_some e h)
depth_item zero (item d ds) e h = omega (arith, ap depth (same_some d e h))
depth_item (suc i) (item d ds) e h = omega (arith, depth_item i ds e h)

pub member_deep : (a : List ℕ) (d e : Data) → get a d ≡ Some e → depth e < depth d
member_deep a null e h = absurd (none_some e h)
member_deep a (boolean b) e h = absurd (none_some e h)
member_deep a (number n) e h = absurd (none_some e h)
member_deep a (string s) e h = absurd (none_some e h)
member_deep a (array ds) e h = absurd (none_some e h)
member_deep a (object ms) e h = omega (arith, depth_member a ms e h)

pub item_deep : (i : ℕ) (d e : Data) → at i d ≡ Some e → depth e < depth d
item_deep i null e h = absurd (none_some e h)
item_deep i (boolean b) e h = absurd (none_some e h)
item_deep i (number n) e h = absurd (none_some e h)
item_deep i (string s) e h = absurd (none_some e h)
item_deep i (array ds) e h = omega (arith, depth_item i ds e h)
item_deep i (object ms) e h = absurd (none_some e h)

-- ---- the value of a text

last_of : (j : Json) (ts : List Token) (d : Data) → option_and_then of_json (json.if_last j ts) ≡ Some d → of_json j ≡ Some d
last_of j [] d h = h
last_of j (t ∷ ts) d h = absurd (none_some d h)

read_of : (o : Option (Json × List Token)) (d : Data) → option_and_then of_json (option_and_then (λ p. json.if_last p.0 p.1) o) ≡ Some d → IsWritten (or_null (first_of o)) d
read_of None d h = absurd (none_some d h)
read_of (Some p) d h = last_of p.0 p.1 d h

pub text_written : (text : List ℕ) (d : Data) → read text ≡ Some d → IsWritten (tree_of text) d
text_written text d h = read_of (json.value 127 (tokens text)) d h
