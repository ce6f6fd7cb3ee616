-- The rows of a join rest on its tables as bags, and grow with them.
use Rattle.std.proofs.Common.{◌≡◌, ℕ, zero, suc, ◌+◌, ◌≤◌, ◌<◌, Bool, true, false, cond, List, [], ◌∷◌, ◌++◌, map, length, take, drop, get_or, refl, ap, sym, ◌∙◌, subst, arith, append-nil, append_assoc, inl, inr}
use Rattle.std.specs.Prelude.{not, ◌&&◌, ◌||◌, ◌⊎◌, filter}
use Rattle.std.specs.List.{flat_map, list_any}
use Rattle.pipe_schema.specs.Rows.{Row, Same}
use Rattle.pipe_schema.specs.declared.field.Field.{Field}
use Rattle.pipe_schema.specs.Weights.{total}
use Rattle.pipe_schema.proofs.Weights.{total-append, SameBag, SameBag-flat_map, SameBag-from_rows, Same-from_bag, SameBag-sym}
use Rattle.pipe_expr.specs.Formula.{formulas_of}
use Rattle.pipe_expr.specs.declared.expr.Expr.{Expr}
use Rattle.pipe_expr.specs.Joins.{Join, join_rows}
use Rattle.pipe_expr.specs.Shares.{met_by, pad_built, lacks_probed_match, probe_share, built_share, padded_built, all_shares}
use Rattle.pipe_expr.proofs.ShareLaw.{shares-right_built, shares-left_built}
use Rattle.pipe_plan.specs.Schemas.{join_over}
use Rattle.pipe_view.specs.Changes.{rows_that_come, rows_that_go}
use Rattle.pipe_view.specs.Kept.{Kept, kept_join, view_rows, rows_on, with_row, with_all_rows, IsSameView, IsOver}
use Rattle.pipe_view.specs.Sides.{is_view_kind, keeps_built}
use Rattle.pipe_view.specs.declared.side.ViewSide.{ViewSide}
use Rattle.pipe_view.specs.declared.side.ViewSide.TheVariants as side
use Rattle.pipe_view.proofs.Tests.{filter-alike}
use Rattle.pipe_view.proofs.Meeting.{own-share}
use Rattle.pipe_view.proofs.Changing.{uncovers_beside, row-more}
use Rattle.pipe_view.proofs.Weighing.{length-total}
use Rattle.pipe_view.proofs.Taking.{fewer-go}

-- ---- a search over a bag

any-some : {X : Type 0} (q : X → Bool) (xs : List X) → list_any q xs ≡ true → 0 < total (λ x. cond (q x) 1 0) xs
any-some q [] h = cc
any-some q (x ∷ xs) h =
    let split : (t : Bool) → q x ≡ t → (t || list_any q xs) ≡ true → 0 < cond t 1 0 + total (λ y. cond (q y) 1 0) xs =
    elim [ true ↦ λ e k. omega arith | false ↦ λ e k. (let rest = any-some q xs k in omega (arith, rest)) ]
    in split (q x) refl h

some-any : {X : Type 0} (q : X → Bool) (xs : List X) → 0 < total (λ x. cond (q x) 1 0) xs → list_any q xs ≡ true
some-any q [] h = absurd (omega (arith, h))
some-any q (x ∷ xs) h =
    let split : (t : Bool) → 0 < cond t 1 0 + total (λ y. cond (q y) 1 0) xs → (t || list_any q xs) ≡ true =
    elim [ true ↦ λ k. refl | false ↦ λ k. some-any q xs (omega (arith, k)) ]
    in split (q x) h

one-test : (p q : Bool) → (p ≡ true → q ≡ true) → (q ≡ true → p ≡ true) → p ≡ q
one-test true q f g = sym (f refl)
one-test false true f g = g refl
one-test false false f g = refl

any-bag : {X : Type 0} (q : X → Bool) (a b : List X) → SameBag a b → list_any q a ≡ list_any q b
any-bag q a b h =
    let same = h.sums (λ x. cond (q x) 1 0) in
    one-test (list_any q a) (list_any q b)
    (λ e. (let some = any-some q a e in some-any q b (omega (arith, some, same))))
    (λ e. (let some = any-some q b e in some-any q a (omega (arith, some, same))))

-- ---- a side as a bag

probed-alike : (j : Join) (right_built : Bool) → is_view_kind j.how ≡ true → (a b built : List Row) → SameBag a b → (w : Row → ℕ) → total w (all_shares j right_built a built) ≡ total w (all_shares j right_built b built)
probed-alike j right_built k a b built h w =
    let first = total-append w (flat_map (probe_share j right_built built) a) (built_share j right_built a built) in
    let second = total-append w (flat_map (probe_share j right_built built) b) (built_share j right_built b built) in
    let shares = (SameBag-flat_map (probe_share j right_built built) h).sums w in
    let lacks : (x : Row) → lacks_probed_match j right_built a x ≡ lacks_probed_match j right_built b x = λ x. ap not (any-bag (met_by j right_built x) a b h) in
    let own : built_share j right_built a built ≡ built_share j right_built b built =
    own-share j right_built a built k ∙ ap (λ l. cond (keeps_built j.how right_built) (map (pad_built j right_built) l) []) (filter-alike _ _ built lacks) ∙ sym (own-share j right_built b built k) in
    let owns = ap (total w) own in
    omega (arith, first, second, shares, owns)

-- the rows of a join rest on its tables as bags
pub join-alike : (j : Join) → is_view_kind j.how ≡ true → (l m r s : List Row) → SameBag l m → SameBag r s → (w : Row → ℕ) → total w (join_rows j l r) ≡ total w (join_rows j m s)
join-alike j k l m r s hl hr w =
    let lr = (SameBag-from_rows (shares-right_built j l r)).sums w in
    let mr = (SameBag-from_rows (shares-right_built j m r)).sums w in
    let mr_again = (SameBag-from_rows (shares-left_built j m r)).sums w in
    let ms = (SameBag-from_rows (shares-left_built j m s)).sums w in
    let left = probed-alike j true k l m r hl w in
    let right = probed-alike j false k r s m hr w in
    omega (arith, lr, mr, mr_again, ms, left, right)

pub join-same : (a b : Kept) → IsSameView a b → kept_join a ≡ kept_join b
join-same a b h =
    ap (λ x. join_over x a.right.schema (formulas_of a.left_on) (formulas_of a.right_on) a.options) h.left_schema
    ∙ ap (λ x. join_over b.left.schema x (formulas_of a.left_on) (formulas_of a.right_on) a.options) h.right_schema
    ∙ ap (λ x. join_over b.left.schema b.right.schema (formulas_of x) (formulas_of a.right_on) a.options) h.left_on
    ∙ ap (λ x. join_over b.left.schema b.right.schema (formulas_of b.left_on) (formulas_of x) a.options) h.right_on
    ∙ ap (λ x. join_over b.left.schema b.right.schema (formulas_of b.left_on) (formulas_of b.right_on) x) h.options

-- views with the same tables have as many rows
pub rows-alike : (a b : Kept) → IsSameView a b → is_view_kind b.options.how ≡ true → length (view_rows a) ≡ length (view_rows b)
rows-alike a b h k =
    let join = ap (λ j. length (join_rows j a.left.rows a.right.rows)) (join-same a b h) in
    let same = join-alike (kept_join b) k a.left.rows b.left.rows a.right.rows b.right.rows (SameBag-from_rows h.left) (SameBag-from_rows h.right) (λ r. 1) in
    omega (arith, join, same, length-total (join_rows (kept_join b) a.left.rows a.right.rows), length-total (view_rows b))

-- ---- rows of a side more

shares-grow : (j : Join) (right_built : Bool) → is_view_kind j.how ≡ true → (own more built : List Row) → total (λ r. 1) (all_shares j right_built own built) ≤ total (λ r. 1) (all_shares j right_built (own ++ more) built)
shares-grow j right_built k own [] built = (let same = ap (λ l. total (λ r. 1) (all_shares j right_built l built)) (append-nil own) in omega (arith, same))
shares-grow j right_built k own (x ∷ more) built =
    let u = uncovers_beside j right_built x (own ++ more) in
    let law = row-more j right_built x k own more built (λ r. 1) in
    let few = fewer-go j right_built u x built in
    let go = length-total (rows_that_go j right_built u x built) in
    let come = length-total (rows_that_come j right_built u x built) in
    omega (arith, law, few, go, come, shares-grow j right_built k own more built)

pub left-grows : (j : Join) → is_view_kind j.how ≡ true → (l more r : List Row) → length (join_rows j l r) ≤ length (join_rows j (l ++ more) r)
left-grows j k l more r =
    let before = (SameBag-from_rows (shares-right_built j l r)).sums (λ x. 1) in
    let after = (SameBag-from_rows (shares-right_built j (l ++ more) r)).sums (λ x. 1) in
    omega (arith, before, after, shares-grow j true k l more r, length-total (join_rows j l r), length-total (join_rows j (l ++ more) r))

pub right-grows : (j : Join) → is_view_kind j.how ≡ true → (l r more : List Row) → length (join_rows j l r) ≤ length (join_rows j l (r ++ more))
right-grows j k l r more =
    let before = (SameBag-from_rows (shares-left_built j l r)).sums (λ x. 1) in
    let after = (SameBag-from_rows (shares-left_built j l (r ++ more))).sums (λ x. 1) in
    omega (arith, before, after, shares-grow j false k r more l, length-total (join_rows j l r), length-total (join_rows j l (r ++ more)))
