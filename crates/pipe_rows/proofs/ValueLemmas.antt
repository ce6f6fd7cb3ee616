-- Values that stand at the front of some bytes.
use Rattle.std.proofs.Common.{◌≡◌, ℕ, Bool, false, List, ◌++◌, drop, refl, ap, sym, ◌∙◌, subst, arith}
use Rattle.std.specs.Prelude.{IsUtf8}
use Rattle.std.specs.Ordering.{nat_cmp, is_eq}
use Rattle.std.specs.Cmp.Lexicographic.{slice_cmp, bytes_decides}
use Rattle.std.specs.declared.cmp.Ordering.TheVariants.{Equal}
use Rattle.std.proofs.lemmas.Map.Text.{is_eq-slice_cmp}
use Rattle.pipe_schema.specs.Cell.{is_null_cell}
use Rattle.pipe_schema.specs.declared.any_value.AnyValue.{AnyValue}
use Rattle.pipe_schema.specs.declared.any_value.AnyValue.TheVariants as cell
use Rattle.pipe_schema.specs.declared.data_type.DataType.{DataType}
use Rattle.pipe_schema.specs.declared.data_type.DataType.TheVariants as dtype
use Rattle.pipe_column.specs.Native.{IsBytes, InRange}
use Rattle.pipe_rows.specs.Equality.{IsCell}
use Rattle.pipe_rows.specs.Ordered.{ended_bytes, directed_bytes, value_bytes}
use Rattle.pipe_rows.specs.Decoding.{IsEnded, TakesText, IsValue, TakesValue}
use Rattle.pipe_rows.proofs.Decided.{decided_apart, texts_decided}
use Rattle.pipe_rows.proofs.OrderedLaw.{value_are_bytes}
use Rattle.pipe_rows.proofs.OrderedLemmas.{directed_bytes-append}
use Rattle.pipe_rows.proofs.DecodingLemmas.{directed_twice, directed_bytes-drop, length-directed_bytes}

-- what stands at the front, before it was directed
value_front : (t : DataType) (d : Bool) (rest : List ℕ) (value : AnyValue) (more : List ℕ) → IsCell t value → directed_bytes d (value_bytes value) ++ more ≡ rest → value_bytes value ++ directed_bytes d more ≡ directed_bytes d rest
value_front t d rest value more fits e =
    ap (λ l. l ++ directed_bytes d more) (sym (directed_twice d (value_bytes value) (value_are_bytes t value fits)))
    ∙ sym (directed_bytes-append d (directed_bytes d (value_bytes value)) more)
    ∙ ap (directed_bytes d) e

-- a text that was taken is at the front
text_front : (d : Bool) (rest text : List ℕ) (used : ℕ) → IsBytes rest → TakesText (directed_bytes d rest) text used → directed_bytes d (ended_bytes text) ++ drop used rest ≡ rest
text_front d rest text used h t =
    ap (λ l. directed_bytes d (ended_bytes text) ++ l) (ap (drop used) (sym (directed_twice d rest h)) ∙ sym (directed_bytes-drop d used (directed_bytes d rest)))
    ∙ sym (directed_bytes-append d (ended_bytes text) (drop used (directed_bytes d rest)))
    ∙ ap (directed_bytes d) t.is
    ∙ directed_twice d rest h

pub binary_taken : (d : Bool) (rest text : List ℕ) (used : ℕ) (value : AnyValue) → IsBytes rest → value ≡ cell.Binary text → InRange value → TakesText (directed_bytes d rest) text used → TakesValue dtype.Binary d rest value used
binary_taken d rest text used value h e range t =
    let T : AnyValue → Type 0 = λ v. InRange v → TakesValue dtype.Binary d rest v used in
    subst T (sym e) (λ fits. record {
      fits = (refl, fits);
      not_null = refl;
      within = (let below = t.within in omega (arith, length-directed_bytes d rest));
      is = text_front d rest text used h t;
    }) range

pub string_taken : (d : Bool) (rest text : List ℕ) (used : ℕ) (value : AnyValue) → IsBytes rest → value ≡ cell.String text → InRange value → TakesText (directed_bytes d rest) text used → TakesValue dtype.String d rest value used
string_taken d rest text used value h e range t =
    let T : AnyValue → Type 0 = λ v. InRange v → TakesValue dtype.String d rest v used in
    subst T (sym e) (λ fits. record {
      fits = (refl, fits);
      not_null = refl;
      within = (let below = t.within in omega (arith, length-directed_bytes d rest));
      is = text_front d rest text used h t;
    }) range

binary_ended : (value : AnyValue) (more all : List ℕ) → IsCell dtype.Binary value → is_null_cell value ≡ false → value_bytes value ++ more ≡ all → IsEnded all
binary_ended (cell.Binary s) more all fits n e = record { text = s; more = more; is = e }
binary_ended _ more all fits n e = cc

pub binary_none : (d : Bool) (rest : List ℕ) → (IsEnded (directed_bytes d rest) → ⊥) → IsValue dtype.Binary d rest → ⊥
binary_none d rest none h = none (binary_ended h.value (directed_bytes d h.more) (directed_bytes d rest) h.fits h.not_null (value_front dtype.Binary d rest h.value h.more h.fits h.is))

string_ended : (value : AnyValue) (more all : List ℕ) → IsCell dtype.String value → is_null_cell value ≡ false → value_bytes value ++ more ≡ all → IsEnded all
string_ended (cell.String s) more all fits n e = record { text = s; more = more; is = e }
string_ended _ more all fits n e = cc

pub string_none : (d : Bool) (rest : List ℕ) → (IsEnded (directed_bytes d rest) → ⊥) → IsValue dtype.String d rest → ⊥
string_none d rest none h = none (string_ended h.value (directed_bytes d h.more) (directed_bytes d rest) h.fits h.not_null (value_front dtype.String d rest h.value h.more h.fits h.is))

-- two texts with their ends at one front are one
same_text : (s t x y : List ℕ) → ended_bytes s ++ x ≡ ended_bytes t ++ y → s ≡ t
same_text s t x y e =
    let tie : slice_cmp nat_cmp s t ≡ Equal = (decided_apart (slice_cmp nat_cmp s t) (ended_bytes s) (ended_bytes t) x y (texts_decided s t) e).0 in
    (bytes_decides s t).0 (sym (is_eq-slice_cmp s t) ∙ ap is_eq tie)

string_utf8 : (value : AnyValue) (text more rest all : List ℕ) → IsCell dtype.String value → is_null_cell value ≡ false → value_bytes value ++ more ≡ all → ended_bytes text ++ rest ≡ all → IsUtf8 text
string_utf8 (cell.String s) text more rest all fits n e f = subst IsUtf8 (same_text s text more rest (e ∙ sym f)) fits.1.2
string_utf8 _ text more rest all fits n e f = cc

-- bytes that are no text
pub string_other : (d : Bool) (rest text : List ℕ) (used : ℕ) → TakesText (directed_bytes d rest) text used → (IsUtf8 text → ⊥) → IsValue dtype.String d rest → ⊥
string_other d rest text used t none h =
    none (string_utf8 h.value text (directed_bytes d h.more) (drop used (directed_bytes d rest)) (directed_bytes d rest) h.fits h.not_null (value_front dtype.String d rest h.value h.more h.fits h.is) t.is)
