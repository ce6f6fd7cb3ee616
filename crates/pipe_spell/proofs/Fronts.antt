-- Values that were written, one after another.
use Rattle.std.proofs.Common.{◌≡◌, ℕ, suc, ℤ, pos, negsuc, ◌<◌, ◌≤◌, ◌^◌, length, take, take-suc, get_or, List, [], ◌∷◌, ◌++◌, map, Bool, true, Some, Option, None, option_map, option_and_then, decimal, refl, sym, ap, ap₂, ◌∙◌, subst, arith, append_assoc, w64, SFits}
use Rattle.std.specs.Fmt.{signed_decimal}
use Rattle.json.specs.Token.{Token}
use Rattle.json.specs.Token as token
use Rattle.json.specs.Json as json
use Rattle.json.specs.Tree as tree
use Rattle.json.specs.Written.{Written}
use Rattle.std.proofs.lemmas.List.{take_all, map-append}
use Rattle.json.specs.Print.{ArePrintable, IsPrintable}
use Rattle.json.proofs.Printed.Tokens.{ArePrintable-push}
use Rattle.serde_json.specs.Data.{Data, Num, Items, Members, null, boolean, number, unsigned, negative, float, string, array, object, item, no_items}
use Rattle.std.proofs.lemmas.Option.{same_Some}
use Rattle.std.specs.Float.{Float, float_is_finite}
use Rattle.serde_json.specs.Find.{as_i64, as_u64, of_integer, to_float}
use Rattle.serde_json.specs.Number.{is_valid, num_of}
use Rattle.serde_json.specs.declared.number.N.{N}
use Rattle.serde_json.specs.declared.number.N.TheVariants as held
use Rattle.serde_json.specs.declared.number.Number.{Number}
use Rattle.serde_json.specs.Read.{number_of, of_items}
use Rattle.serde_json.specs.View.{items_of, number_view}
use Rattle.serde_json.specs.Written.{number_text, unless_float, WritesValue, WritesItems, WritesMembers}
use Rattle.serde_json.proofs.Numbers.{number_of-decimal, number_of-negative}
use Rattle.serde_json.proofs.Texts.{unless_float-number_of}
use Rattle.pipe_value.specs.Read.{items_before}
use Rattle.pipe_column.specs.Column.{nullable_at}
use Rattle.pipe_spell.specs.Written.{HasWritten, WritesFront}

-- ---- one value

pub wrote_null : (old new : List Token) → new ≡ old ++ token.null ∷ [] → WritesValue null old new
wrote_null old new e = (json.null, e, refl, omega arith, refl)

pub wrote_string : (s : List ℕ) (old new : List Token) → new ≡ old ++ token.string s ∷ [] → WritesValue (string s) old new
wrote_string s old new e = (json.string s, e, refl, omega arith, refl)

pub wrote_whole : (n : ℕ) (old new : List Token) → n < 2 ^ 64 → new ≡ old ++ token.number (decimal n) ∷ [] → WritesValue (number (unsigned n)) old new
wrote_whole n old new h e =
    let read = number_of-decimal n h in
    (json.number (decimal n), e, ap (option_map number) read, omega arith, ap json.number (unless_float-number_of (decimal n) (unsigned n) read))

integer_read : (z : ℤ) → SFits w64 z → number_of (signed_decimal z) ≡ Some (of_integer z)
integer_read (pos n) h = number_of-decimal n (grind arith)
integer_read (negsuc n) h = number_of-negative n (grind arith)

integer_kept : (z : ℤ) → SFits w64 z → unless_float (signed_decimal z) ≡ number_text (of_integer z)
integer_kept (pos n) h = unless_float-number_of (signed_decimal (pos n)) (of_integer (pos n)) (integer_read (pos n) h)
integer_kept (negsuc n) h = unless_float-number_of (signed_decimal (negsuc n)) (of_integer (negsuc n)) (integer_read (negsuc n) h)

pub wrote_integer : (z : ℤ) (old new : List Token) → SFits w64 z → new ≡ old ++ token.number (signed_decimal z) ∷ [] → WritesValue (number (of_integer z)) old new
wrote_integer z old new h e = (json.number (signed_decimal z), e, ap (option_map number) (integer_read z h), omega arith, ap json.number (integer_kept z h))

pub wrote_boolean : (b : Bool) (old new : List Token) → new ≡ old ++ token.boolean b ∷ [] → WritesValue (boolean b) old new
wrote_boolean b old new e = (json.boolean b, e, refl, omega arith, refl)

pub wrote_array : (ds : Items) (old mid new : List Token) → mid ≡ old ++ token.begin_array ∷ [] → WritesItems ds mid new → WritesValue (array ds) old new
wrote_array ds old mid new opened w = (
  json.array w.0,
  w.1 ∙ ap (λ ts. ts ++ tree.items_tokens w.0) opened ∙ append_assoc old (token.begin_array ∷ []) (tree.items_tokens w.0),
  ap (option_map array) w.2,
  omega (arith, w.3),
  ap json.array w.4,
)

pub wrote_object : (ms : Members) (old mid new : List Token) → mid ≡ old ++ token.begin_object ∷ [] → WritesMembers ms mid new → WritesValue (object ms) old new
wrote_object ms old mid new opened w = (
  json.object w.0,
  w.1 ∙ ap (λ ts. ts ++ tree.members_tokens w.0) opened ∙ append_assoc old (token.begin_object ∷ []) (tree.members_tokens w.0),
  ap (option_map object) w.2,
  omega (arith, w.3),
  ap json.object w.4,
)

-- ---- further tokens can be printed

pub printable_push : (t : Token) (old new : List Token) → IsPrintable t → new ≡ old ++ t ∷ [] → ArePrintable old → ArePrintable new
printable_push t old new one e h = subst ArePrintable (sym e) (ArePrintable-push old t h one)

-- ---- one item after another

-- an item, and then the others and the end
pub item_first : (d : Data) (rest : Items) (old mid end : List Token) → WritesValue d old mid → WritesItems rest mid end → WritesItems (item d rest) old end
item_first d rest old mid end w r = (
  json.item w.0 r.0,
  r.1 ∙ ap (λ ts. ts ++ tree.items_tokens r.0) w.1 ∙ append_assoc old (tree.json_tokens w.0) (tree.items_tokens r.0),
  ap (option_and_then (λ e. option_map (item e) (of_items r.0))) w.2 ∙ ap (option_map (item d)) r.2,
  omega (arith, w.3, r.3),
  ap₂ json.item w.4 r.4,
)

pub no_item : (old end : List Token) → end ≡ old ++ token.end_array ∷ [] → WritesItems no_items old end
no_item old end e = (json.no_items, e, refl, omega arith, refl)

-- no item in front
pub front_none : (ts : List Token) → WritesFront [] ts ts
front_none ts rest end w = w

before_push : (ds : List Data) (d : Data) (rest : Items) → items_before (ds ++ d ∷ []) rest ≡ items_before ds (item d rest)
before_push [] d rest = refl
before_push (e ∷ ds) d rest = ap (item e) (before_push ds d rest)

-- one item more in front
pub front_push : (ds : List Data) (d : Data) (old mid new : List Token) → WritesFront ds old mid → WritesValue d mid new → WritesFront (ds ++ d ∷ []) old new
front_push ds d old mid new front w rest end ends =
    subst (λ items. WritesItems items old end) (sym (before_push ds d rest)) (front (item d rest) end (item_first d rest mid new end w ends))

before_append : (ds es : List Data) (rest : Items) → items_before (ds ++ es) rest ≡ items_before ds (items_before es rest)
before_append [] es rest = refl
before_append (d ∷ ds) es rest = ap (item d) (before_append ds es rest)

-- items in front of items
pub front_append : (ds es : List Data) (old mid new : List Token) → WritesFront ds old mid → WritesFront es mid new → WritesFront (ds ++ es) old new
front_append ds es old mid new front more rest end ends =
    subst (λ items. WritesItems items old end) (sym (before_append ds es rest)) (front (items_before es rest) end (more rest end ends))

before_items : (ds es : List Data) → items_before ds (items_of es) ≡ items_of (ds ++ es)
before_items [] es = refl
before_items (d ∷ ds) es = ap (item d) (before_items ds es)

-- items in front of the last ones
pub front_ends : (ds es : List Data) (old mid end : List Token) → WritesFront ds old mid → WritesItems (items_of es) mid end → WritesItems (items_of (ds ++ es)) old end
front_ends ds es old mid end front ends = subst (λ items. WritesItems items old end) (before_items ds es) (front (items_of es) end ends)

-- ---- a column, item by item

pub none_written : (w : Written) → HasWritten [] w w
none_written w = record { front = λ rest end ends. ends; printable = λ h. h; before = refl }

pub one_written : {T : Type 0} (seen : Option T → Data) (xs : List (Option T)) (i : ℕ) (old mid new : Written) → i < length xs → HasWritten (map seen (take i xs)) old mid
    → WritesValue (seen (nullable_at xs i)) mid.tokens new.tokens → (ArePrintable mid.tokens → ArePrintable new.tokens) → new.before ≡ mid.before → HasWritten (map seen (take (suc i) xs)) old new
one_written seen xs i old mid new lt so w printable before =
    let more : map seen (take (suc i) xs) ≡ map seen (take i xs) ++ seen (nullable_at xs i) ∷ [] =
    ap (map seen) (take-suc xs i None lt) ∙ map-append seen (take i xs) (get_or xs i None ∷ []) in record {
      front = subst (λ (ds : List Data). WritesFront ds old.tokens new.tokens) (sym more) (front_push (map seen (take i xs)) (seen (nullable_at xs i)) old.tokens mid.tokens new.tokens so.front w);
      printable = λ h. printable (so.printable h);
      before = before ∙ so.before;
    }

pub all_written : {T : Type 0} (seen : Option T → Data) (xs : List (Option T)) (i : ℕ) (old new : Written) → length xs ≤ i → HasWritten (map seen (take i xs)) old new → HasWritten (map seen xs) old new
all_written seen xs i old new past so = subst (λ ys. HasWritten (map seen ys) old new) (take_all i xs past) so

pub ruleset column_written = (none_written, one_written, all_written)

-- ---- numbers

u64_seen : (d : Num) (n : ℕ) → as_u64 d ≡ Some n → d ≡ unsigned n
u64_seen (unsigned m) n e = ap unsigned (same_Some _ _ e)
u64_seen (negative z) n e = cc
u64_seen (float x) n e = cc

i64_seen : (m : N) (z : ℤ) → is_valid m ≡ true → as_u64 (num_of m) ≡ None → as_i64 (num_of m) ≡ Some z → num_of m ≡ of_integer z
i64_seen (held.PosInt n) z valid none e = cc
i64_seen (held.NegInt (pos n)) z valid none e = absurd (grind arith)
i64_seen (held.NegInt (negsuc n)) z valid none e = ap of_integer (same_Some _ _ e)
i64_seen (held.Float x) z valid none e = cc

f64_seen : (m : N) (x : Float) → is_valid m ≡ true → as_u64 (num_of m) ≡ None → as_i64 (num_of m) ≡ None → Some x ≡ Some (to_float (num_of m)) → (num_of m ≡ float x) × (float_is_finite x ≡ true)
f64_seen (held.PosInt n) x valid none neither e = cc
f64_seen (held.NegInt z) x valid none neither e = cc
f64_seen (held.Float y) x valid none neither e = let s : x ≡ y = same_Some _ _ e in (ap float (sym s), ap float_is_finite s ∙ valid)

pub number_is_u64 : (x : Number) (n : ℕ) → as_u64 (number_view x) ≡ Some n → number_view x ≡ unsigned n
number_is_u64 x n e = u64_seen (number_view x) n e

pub number_is_i64 : (x : Number) (z : ℤ) → as_u64 (number_view x) ≡ None → as_i64 (number_view x) ≡ Some z → number_view x ≡ of_integer z
number_is_i64 x z none e = i64_seen x.n z x.valid none e

pub number_is_f64 : (x : Number) (y : Float) → as_u64 (number_view x) ≡ None → as_i64 (number_view x) ≡ None → Some y ≡ Some (to_float (number_view x)) → (number_view x ≡ float y) × (float_is_finite y ≡ true)
number_is_f64 x y none neither e = f64_seen x.n y x.valid none neither e
