use Rattle.std.proofs.Common.{inl, inr, refl, ap}
use Rattle.pipe_expr.specs.Formula.{formula_of}
use Rattle.pipe_expr.proofs.ValueSteps.{literal_is_value, not_is_value, is_null_is_value, is_not_null_is_value, IsOfTwo, two_is_value, of_Add, of_Sub, of_Mul, of_Eq, of_NotEq, of_Lt, of_LtEq, of_Gt, of_GtEq, of_And, of_Or}
use Rattle.pipe_expr.proofs.evaluate.+operand_of.Goals as goal

pub returns-in-Lit : goal.returns-in-Lit
returns-in-Lit t c = rw c.in-Lit.is (literal_is_value c.in-Lit.dtype c.in-Lit.value c.args.frame.now _ refl (rw c.in-Lit.is at c.requires))

pub returns-in_ok-negated-in-Not : goal.returns-in_ok-negated-in-Not
returns-in_ok-negated-in-Not t c =
    let made = c.in_ok-negated-in-Not in
    rw c.in-Not.is (not_is_value (formula_of c.in-Not.inner.value) c.args.frame.now c.in_ok-inner-in-Not.inner made.field-0 (rw c.deref.ensures at c.in_ok-inner-in-Not.ensures) (rw c.in-Not.is at c.requires) made.ensures.dtype (rw c.height-rows.ensures at made.ensures.cells))

pub returns-in_ok-test_for_null-in-IsNull : goal.returns-in_ok-test_for_null-in-IsNull
returns-in_ok-test_for_null-in-IsNull t c =
    let made = c.in_ok-test_for_null-in-IsNull in
    rw c.in-IsNull.is (is_null_is_value (formula_of c.in-IsNull.inner.value) c.args.frame.now c.in_ok-inner-in-IsNull.inner made.field-0 (rw c.deref-in-IsNull.ensures at c.in_ok-inner-in-IsNull.ensures) made.ensures.dtype (rw c.height-rows.ensures at made.ensures.cells))

pub returns-in_ok-test_for_null-in-IsNotNull : goal.returns-in_ok-test_for_null-in-IsNotNull
returns-in_ok-test_for_null-in-IsNotNull t c =
    let made = c.in_ok-test_for_null-in-IsNotNull in
    rw c.in-IsNotNull.is (is_not_null_is_value (formula_of c.in-IsNotNull.inner.value) c.args.frame.now c.in_ok-inner-in-IsNotNull.inner made.field-0 (rw c.deref-in-IsNotNull.ensures at c.in_ok-inner-in-IsNotNull.ensures) made.ensures.dtype (rw c.height-rows.ensures at made.ensures.cells))

pub returns-in_ok-apply-in-Add : goal.returns-in_ok-apply-in-Add
returns-in_ok-apply-in-Add t c =
    let made = c.in_ok-apply-in-Add in
    let is : IsOfTwo (formula_of c.args.expr.now) (formula_of c.in-Add.left.value) (formula_of c.in-Add.right.value) = elim c.in-Add.is [ inl e ↦ of_Add (ap formula_of e) | inr s ↦ elim s [ inl e ↦ of_Sub (ap formula_of e) | inr s ↦ elim s [ inl e ↦ of_Mul (ap formula_of e) | inr s ↦ elim s [ inl e ↦ of_Eq (ap formula_of e) | inr s ↦ elim s [ inl e ↦ of_NotEq (ap formula_of e) | inr s ↦ elim s [ inl e ↦ of_Lt (ap formula_of e) | inr s ↦ elim s [ inl e ↦ of_LtEq (ap formula_of e) | inr s ↦ elim s [ inl e ↦ of_Gt (ap formula_of e) | inr s ↦ elim s [ inl e ↦ of_GtEq (ap formula_of e) | inr s ↦ elim s [ inl e ↦ of_And (ap formula_of e) | inr s ↦ of_Or (ap formula_of s) ] ] ] ] ] ] ] ] ] ] in
    two_is_value (formula_of c.args.expr.now) (formula_of c.in-Add.left.value) (formula_of c.in-Add.right.value) c.args.frame.now c.in_ok-left-in-Add.left c.in_ok-right-in-Add.right made.field-0 is (rw c.deref-in-Add.ensures at c.in_ok-left-in-Add.ensures) (rw c.deref-in-Add-2.ensures at c.in_ok-right-in-Add.ensures) made.ensures.typed (rw c.height-rows.ensures at made.ensures.cells)
