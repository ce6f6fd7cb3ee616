use Rattle.std.proofs.Common.{◌≡◌, ℕ, ◌≤◌, List, [], ◌∷◌, ◌++◌, length, subst, arith}
use Rattle.pipe_rows.specs.Ordered.{directed_bytes}
use Rattle.pipe_rows.specs.Decoding.{StepIs}
use Rattle.pipe_rows.specs.declared.decode_value.Step.TheVariants as step
use Rattle.pipe_rows.proofs.DecodingLemmas.{directed_tail, length-directed_bytes, byte_within, byte_taken, byte_whole, zero_within, zero_taken, zero_whole, end_taken}
use Rattle.pipe_rows.proofs.decode_value.unescape.Goals as goal

pub loop-at-preserved-in-Byte : goal.loop-at-preserved-in-Byte
loop-at-preserved-in-Byte c =
    let all : List ℕ = directed_bytes c.args.descending c.args.rest.now in
    let at : ℕ = c.loop-at.at in
    let text : List ℕ = c.loop-at.text.items in
    let P : List ℕ → Type 0 = λ tail. StepIs (step.Byte c.in-Byte.byte) tail in
    let taken = subst P (directed_tail c.args.descending c.args.rest.now at) c.in-Byte.ensures in
    let long : length all ≡ length c.args.rest.now = length-directed_bytes c.args.descending c.args.rest.now in
    let le : at ≤ length all = (let within = c.loop-at.invariant.within in omega arith) in
    let more : c.push.new.self.items ≡ text ++ c.in-Byte.byte ∷ [] = c.in_ok-push-in-Byte.ensures.items in
    record {
      within = (let below = byte_within all text at c.loop-at.invariant.text c.loop-at.invariant.whole le c.in-Byte.byte taken.1 in omega arith);
      text = rw more (byte_taken all text at c.loop-at.invariant.text c.loop-at.invariant.whole le c.in-Byte.byte taken.0 taken.1);
      whole = byte_whole all text at c.loop-at.invariant.text c.loop-at.invariant.whole le c.in-Byte.byte taken.0 taken.1;
    }

pub loop-at-preserved : goal.loop-at-preserved
loop-at-preserved c =
    let all : List ℕ = directed_bytes c.args.descending c.args.rest.now in
    let at : ℕ = c.loop-at.at in
    let text : List ℕ = c.loop-at.text.items in
    let P : List ℕ → Type 0 = λ tail. StepIs step.Zero tail in
    let taken = subst P (directed_tail c.args.descending c.args.rest.now at) c.in-Zero.ensures in
    let long : length all ≡ length c.args.rest.now = length-directed_bytes c.args.descending c.args.rest.now in
    let le : at ≤ length all = (let within = c.loop-at.invariant.within in omega arith) in
    let more : c.push-in-Zero.new.self.items ≡ text ++ 0 ∷ [] = c.in_ok-push-in-Zero.ensures.items in
    record {
      within = (let below = zero_within all text at c.loop-at.invariant.text c.loop-at.invariant.whole le taken in omega arith);
      text = rw more (zero_taken all text at c.loop-at.invariant.text c.loop-at.invariant.whole le taken);
      whole = zero_whole all text at c.loop-at.invariant.text c.loop-at.invariant.whole le taken;
    }

pub returns-in-End : goal.returns-in-End
returns-in-End c =
    let all : List ℕ = directed_bytes c.args.descending c.args.rest.now in
    let P : List ℕ → Type 0 = λ tail. StepIs step.End tail in
    let taken = subst P (directed_tail c.args.descending c.args.rest.now c.loop-at.at) c.in-End.ensures in
    let long : length all ≡ length c.args.rest.now = length-directed_bytes c.args.descending c.args.rest.now in
    let le : c.loop-at.at ≤ length all = (let within = c.loop-at.invariant.within in omega arith) in
    end_taken all c.loop-at.text.items c.loop-at.at c.loop-at.invariant.text c.loop-at.invariant.whole le taken

pub returns-in-Fault : goal.returns-in-Fault
returns-in-Fault c = λ h.
    let P : List ℕ → Type 0 = λ tail. StepIs step.Fault tail in
    let none = subst P (directed_tail c.args.descending c.args.rest.now c.loop-at.at) c.in-Fault.ensures in
    none (c.loop-at.invariant.whole h)
