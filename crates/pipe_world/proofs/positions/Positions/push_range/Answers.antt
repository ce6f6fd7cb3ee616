use Rattle.std.proofs.Common.{◌≡◌, ℕ, zero, suc, ◌+◌, ◌++◌, [], ◌∷◌, refl, ap, sym, ◌∙◌, append_assoc, arith}
use Rattle.std.specs.List.{range_with_len}
use Rattle.pipe_world.proofs.positions.Positions.push_range.Goals as goal

-- one number more
range-more : (a n : ℕ) → range_with_len a (n + 1) ≡ range_with_len a n ++ (a + n) ∷ []
range-more a zero = let e : a + zero ≡ a = omega arith in rw e refl
range-more a (suc n) = let e : a + 1 + n ≡ a + suc n = omega arith in let next : suc n + 1 ≡ suc (n + 1) = omega arith in ap (range_with_len a) next ∙ ap (λ rest. a ∷ rest) (range-more (a + 1) n ∙ ap (λ x. range_with_len (a + 1) n ++ x ∷ []) e)

pub loop-i-preserved : goal.loop-i-preserved
loop-i-preserved c =
    c.in_ok-push.ensures ∙ rw (c.from.ensures, c.from-in-loop-i.ensures, c.loop-i.invariant) (append_assoc c.args.self.now (range_with_len c.args.from c.loop-i.i) ((c.args.from + c.loop-i.i) ∷ []) ∙ ap (λ l. c.args.self.now ++ l) (sym (range-more c.args.from c.loop-i.i)))
