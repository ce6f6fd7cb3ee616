-- What follows of an answer.
use Rattle.std.specs.Prelude.{Result, Ok, Err, IfOk, OnOk}

pub on-ok : {T E : Type 0} (r : Result T E) {P Q : Type 0} → (P → Q) → OnOk r P → OnOk r Q
on-ok (Ok x) f p = f p
on-ok (Err e) f p = tt

-- what holds anyway
pub always : {T E : Type 0} (r : Result T E) {P : Type 0} → P → OnOk r P
always (Ok x) p = p
always (Err e) p = tt

pub on-all : {T E : Type 0} (r : Result T E) {P Q R S : Type 0} → IfOk r (λ _. P) → IfOk r (λ _. Q) → IfOk r (λ _. R) → (P → Q → R → S) → OnOk r S
on-all (Ok x) p q v f = f p q v
on-all (Err e) p q v f = tt
