-- Rows meet by their keys: what comes with a probed row and no padding in its way is its share.
use Rattle.std.proofs.Common.{◌≡◌, Bool, true, false, cond, List, [], ◌∷◌, ◌++◌, map, refl, ap, sym, ◌∙◌, arith, append-nil}
use Rattle.std.specs.Prelude.{filter, not, ◌&&◌, ◌||◌}
use Rattle.std.specs.List.{flat_map, list_any}
use Rattle.pipe_schema.specs.Rows.{Row, eq_row}
use Rattle.pipe_schema.specs.declared.any_value.AnyValue.{AnyValue}
use Rattle.pipe_schema.proofs.Weights.{eq_row-sound, eq_row-refl}
use Rattle.pipe_expr.specs.Joins.{Join, joins, key_of, matches, pair}
use Rattle.pipe_expr.specs.Shares.{meets, met_by, probe_pair, pad_probed, pad_built, has_built_match, has_probed_match, lacks_probed_match, row_where, probe_pairs, share_by, own_by, probe_share, built_share, padded_built, unmatched_built}
use Rattle.pipe_expr.specs.declared.join_words.JoinType.{JoinType}
use Rattle.pipe_expr.specs.declared.join_words.JoinType.TheVariants as how
use Rattle.pipe_plan.specs.Faults.{is_empty}
use Rattle.pipe_view.specs.Sides.{probed_key, built_key, has_probed_key, has_built_key, partners, is_view_kind, keeps_probed, keeps_built}
use Rattle.pipe_view.specs.Changes.{comes, goes, pairs_that_come, paddings_that_go, own_padding, met_by_row, rows_that_come, rows_that_go}
use Rattle.pipe_view.specs.Joined.{left_share, is_met, right_share, right_shares, group_join}
use Rattle.pipe_view.proofs.Tests.{and-comm, filter-alike, any-alike, pieces-alike, filter-all, filter-none, any-and, empty-filter}

-- tests that hold of the same are one
one-test : (p q : Bool) → (p ≡ true → q ≡ true) → (q ≡ true → p ≡ true) → p ≡ q
one-test true q f g = sym (f refl)
one-test false true f g = g refl
one-test false false f g = refl

pub eq_row-comm : (a b : Row) → eq_row a b ≡ eq_row b a
eq_row-comm a b =
    one-test (eq_row a b) (eq_row b a)
    (λ e. ap (λ z. eq_row b z) (eq_row-sound a b e) ∙ eq_row-refl b)
    (λ e. ap (λ z. eq_row a z) (eq_row-sound b a e) ∙ eq_row-refl a)

-- whether keys match can be asked by either key
pub either-key : (n : Bool) (a b : List AnyValue) → (eq_row a b && joins n a) ≡ (joins n b && eq_row b a)
either-key n a b =
    let split : (t : Bool) → eq_row a b ≡ t → (t && joins n a) ≡ (joins n b && t) =
    elim [ true ↦ λ e. ap (joins n) (eq_row-sound a b e) ∙ and-comm true (joins n b) | false ↦ λ e. and-comm false (joins n b) ]
    in split (eq_row a b) refl ∙ ap (λ t. joins n b && t) (eq_row-comm a b)

-- rows meet where the probed key joins and the built row has it
pub meets-by_key : (j : Join) (right_built : Bool) (p b : Row) → meets j right_built p b ≡ (joins j.join_nulls (probed_key j right_built p) && has_built_key j right_built (probed_key j right_built p) b)
meets-by_key j true p b =
    let kp = probed_key j true p in
    let kb = probed_key j false b in
    and-comm (eq_row kp kb) (joins j.join_nulls kp) ∙ ap (λ t. joins j.join_nulls kp && t) (eq_row-comm kp kb)
meets-by_key j false p b =
    let kp = probed_key j false p in
    let kb = probed_key j true b in
    either-key j.join_nulls kb kp ∙ ap (λ t. joins j.join_nulls kp && t) (eq_row-comm kp kb)

-- and where the built key joins and the probed row has it
pub meets-by_built : (j : Join) (right_built : Bool) (p b : Row) → meets j right_built p b ≡ (joins j.join_nulls (built_key j right_built b) && has_probed_key j right_built (built_key j right_built b) p)
meets-by_built j true p b =
    let kp = probed_key j true p in
    let kb = probed_key j false b in
    either-key j.join_nulls kp kb ∙ ap (λ t. joins j.join_nulls kb && t) (eq_row-comm kb kp)
meets-by_built j false p b =
    let kp = probed_key j false p in
    let kb = probed_key j true b in
    and-comm (eq_row kb kp) (joins j.join_nulls kb) ∙ ap (λ t. joins j.join_nulls kb && t) (eq_row-comm kb kp)

pub met-rows : (j : Join) (right_built : Bool) (p : Row) (built : List Row) → filter (meets j right_built p) built ≡ met_by_row j right_built p built
met-rows j right_built p built = filter-alike (meets j right_built p) _ built (meets-by_key j right_built p)

pub none-met : (j : Join) (right_built : Bool) (p : Row) (built : List Row) → is_empty (met_by_row j right_built p built) ≡ not (has_built_match j right_built built p)
none-met j right_built p built = sym (ap is_empty (met-rows j right_built p built)) ∙ empty-filter (meets j right_built p) built

-- the pairs of a probed row, where no built row stands padded
pairs-come : (j : Join) (right_built : Bool) (p : Row) (built : List Row) → pairs_that_come j right_built false p (met_by_row j right_built p built) ≡ probe_pairs j right_built built p
pairs-come j right_built p built =
    ap (map (probe_pair j right_built p)) (filter-all (met_by_row j right_built p built) ∙ sym (met-rows j right_built p built))

pub no-paddings_go : (j : Join) (right_built : Bool) (p : Row) (met : List Row) → paddings_that_go j right_built false p met ≡ []
no-paddings_go j right_built p met = ap (map (pad_built j right_built)) (filter-none met)

share-by_kind : (kind : JoinType) (j : Join) (right_built : Bool) (built : List Row) (p : Row) → is_view_kind kind ≡ true →
    probe_pairs j right_built built p ++ row_where (keeps_probed kind right_built && not (has_built_match j right_built built p)) (pad_probed j right_built p) ≡ share_by kind j right_built built p
share-by_kind how.Inner j right_built built p k = append-nil _
share-by_kind how.Left j true built p k = refl
share-by_kind how.Left j false built p k = append-nil _
share-by_kind how.Full j right_built built p k = refl
share-by_kind how.Cross j right_built built p k = cc
share-by_kind how.Semi j right_built built p k = cc
share-by_kind how.Anti j right_built built p k = cc

-- what comes with a probed row where no built row stands padded is its share
pub share-comes : (j : Join) (right_built : Bool) (built : List Row) (p : Row) → is_view_kind j.how ≡ true → rows_that_come j right_built false p built ≡ probe_share j right_built built p
share-comes j right_built built p k =
    ap (λ l. l ++ own_padding j right_built p (met_by_row j right_built p built)) (pairs-come j right_built p built)
    ∙ ap (λ t. probe_pairs j right_built built p ++ row_where (keeps_probed j.how right_built && t) (pad_probed j right_built p)) (none-met j right_built p built)
    ∙ share-by_kind j.how j right_built built p k

own-by_kind : (kind : JoinType) (j : Join) (right_built : Bool) (probed built : List Row) → is_view_kind kind ≡ true →
    own_by kind j right_built probed built ≡ cond (keeps_built kind right_built) (padded_built j right_built probed built) []
own-by_kind how.Inner j right_built probed built k = refl
own-by_kind how.Left j true probed built k = refl
own-by_kind how.Left j false probed built k = refl
own-by_kind how.Full j right_built probed built k = refl
own-by_kind how.Cross j right_built probed built k = cc
own-by_kind how.Semi j right_built probed built k = cc
own-by_kind how.Anti j right_built probed built k = cc

-- what the built side has of its own
pub own-share : (j : Join) (right_built : Bool) (probed built : List Row) → is_view_kind j.how ≡ true →
    built_share j right_built probed built ≡ cond (keeps_built j.how right_built) (padded_built j right_built probed built) []
own-share j right_built probed built k = own-by_kind j.how j right_built probed built k

-- ---- the rows of a join of one group

right-met : (j : Join) (left : List Row) (r : Row) → is_met j left r ≡ has_probed_match j true left r
right-met j left r =
    sym (any-and (joins j.join_nulls (built_key j true r)) (has_probed_key j true (built_key j true r)) left)
    ∙ any-alike _ (met_by j true r) left (λ l. sym (meets-by_built j true l r))

paddings : (j : Join) (left right : List Row) → flat_map (right_share j left) right ≡ padded_built j true left right
paddings j left [] = refl
paddings j left (r ∷ right) =
    ap (λ b. row_where (not b) (pad_built j true r) ++ flat_map (right_share j left) right) (right-met j left r)
    ∙ elim (has_probed_match j true left r) as (λ b. row_where (not b) (pad_built j true r) ++ flat_map (right_share j left) right ≡ map (pad_built j true) (cond (not b) (r ∷ unmatched_built j true left right) (unmatched_built j true left right)))
    [ true ↦ paddings j left right | false ↦ ap (λ l. pad_built j true r ∷ l) (paddings j left right) ]

pub group-shares : (j : Join) (left right : List Row) → is_view_kind j.how ≡ true → flat_map (left_share j right) left ++ right_shares j left right ≡ flat_map (probe_share j true right) left ++ built_share j true left right
group-shares j left right k =
    ap (λ l. l ++ right_shares j left right) (pieces-alike (left_share j right) (probe_share j true right) left (λ l. share-comes j true right l k))
    ∙ ap (λ l. flat_map (probe_share j true right) left ++ l)
    (ap (λ l. cond (keeps_built j.how true) l []) (paddings j left right) ∙ sym (own-share j true left right k))

-- a key that doesn't join has no partners
pub no-partners : (j : Join) (right_built : Bool) (key : List AnyValue) (built : List Row) → joins j.join_nulls key ≡ false → partners j right_built key built ≡ []
no-partners j right_built key built h =
    filter-alike _ (λ b. false) built (λ b. ap (λ t. t && has_built_key j right_built key b) h) ∙ filter-none built
