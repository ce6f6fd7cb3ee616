use Rattle.std.proofs.Common.{rules, ◌≡◌, ℕ, ◌≤◌, Some, length, take, ap, sym, subst, ◌∙◌, arith}
use Rattle.pipe_schema.specs.Sizes.{width_of}
use Rattle.pipe_schema.specs.declared.any_value.AnyValue.{AnyValue}
use Rattle.pipe_rows.specs.Ordered.{directed_bytes}
use Rattle.pipe_rows.specs.Decoding.{TakesValue}
use Rattle.pipe_rows.proofs.BytesLemmas.{bytes_all}
use Rattle.pipe_rows.proofs.NativeLemmas.{native_taken, native_read}
use Rattle.pipe_rows.proofs.decode_value.take_native.Goals as goal

pub returns-in-Some : goal.returns-in-Some
returns-in-Some g c =
    let d = c.args.descending in
    let rest = c.args.rest.now in
    let t = g.T.Native.dtype_of in
    let v : AnyValue = g.T.Native.cell (Some c.in-Some.x) in
    let sliced : c.copy_from_slice.new.self ≡ take c.width-width.result c.args.rest.now = search rules in
    let bytes : c.direct.new.bytes ≡ directed_bytes c.args.descending (take (width_of g.T.Native.dtype_of) c.args.rest.now) = c.direct.ensures ∙ ap (directed_bytes c.args.descending) (sliced ∙ ap (λ n. take n c.args.rest.now) c.width-width.ensures) in
    let le : width_of g.T.Native.dtype_of ≤ length c.args.rest.now = omega (arith, c.width-width.ensures, c.if-rest-width.false) in
    let taken = native_taken t v d rest (g.met.T.Native.fixed c.in-Some.x) (g.met.T.Native.typed c.in-Some.x) c.direct.new.bytes c.in-Some.ensures.1 (bytes_all c.args.rest.now c.type_inv.rest) le bytes c.in-Some.ensures.0 in
    let P : AnyValue → Type 0 = λ x. TakesValue g.T.Native.dtype_of c.args.descending c.args.rest.now x c.width-width.result in
    let Q : ℕ → Type 0 = λ n. TakesValue g.T.Native.dtype_of c.args.descending c.args.rest.now v n in
    subst P (sym c.any_value.ensures) (subst Q (sym c.width-width.ensures) taken)

pub returns-in-None : goal.returns-in-None
returns-in-None g c = λ x more e.
    let sliced : c.copy_from_slice.new.self ≡ take c.width-width.result c.args.rest.now = search rules in
    let bytes : c.direct.new.bytes ≡ directed_bytes c.args.descending (take (width_of g.T.Native.dtype_of) c.args.rest.now) = c.direct.ensures ∙ ap (directed_bytes c.args.descending) (sliced ∙ ap (λ n. take n c.args.rest.now) c.width-width.ensures) in
    c.in-None.ensures x (native_read g.T.Native.dtype_of (g.T.Native.cell (Some x)) c.args.descending c.args.rest.now (g.met.T.Native.fixed x) (g.met.T.Native.typed x) c.direct.new.bytes more bytes e)
