-- What a join makes doesn't depend on the order of its rows.
use Rattle.std.proofs.Common.{◌≡◌, Bool, true, false, not, cond, List, [], ◌∷◌, refl, ap, subst, sym, ◌∙◌}
use Rattle.std.specs.Prelude.{filter}
use Rattle.pipe_schema.specs.Rows.{Row}
use Rattle.pipe_schema.proofs.Weights.{SameBag, SameBag-refl, SameBag-sym, SameBag-trans, SameBag-append, SameBag-map, SameBag-filter, SameBag-from_equal}
use Rattle.pipe_expr.specs.Joins.{Join}
use Rattle.pipe_expr.specs.Shares.{meets, met_by, probe_pair, probe_pairs, pairs_or_padding, share_by, probe_share, pad_built, has_probed_match, lacks_probed_match, matched_built, unmatched_built, padded_built, own_by, built_share}
use Rattle.pipe_expr.specs.declared.join_words.JoinType.{JoinType}
use Rattle.pipe_expr.specs.declared.join_words.JoinType.TheVariants as how
use Rattle.pipe_events.proofs.Tests.{any-same}

pairs_alike : (j : Join) (right_built : Bool) (a b : List Row) → SameBag a b → (p : Row) → SameBag (probe_pairs j right_built a p) (probe_pairs j right_built b p)
pairs_alike j right_built a b h p = SameBag-map (probe_pair j right_built p) (SameBag-filter (meets j right_built p) h)

padded_alike : (j : Join) (right_built : Bool) (a b : List Row) → SameBag a b → (p : Row) → SameBag (pairs_or_padding j right_built a p) (pairs_or_padding j right_built b p)
padded_alike j right_built a b h p = let e = any-same (meets j right_built p) h in SameBag-append (pairs_alike j right_built a b h p) (rw e (SameBag-refl _))

-- a probed row gives the same over built rows in another order: one case for each kind of join
pub share_alike : (kind : JoinType) (right_built : Bool) (j : Join) (a b : List Row) → SameBag a b → (p : Row) → SameBag (share_by kind j right_built a p) (share_by kind j right_built b p)
share_alike how.Inner right_built j a b h p = pairs_alike j right_built a b h p
share_alike how.Left true j a b h p = padded_alike j true a b h p
share_alike how.Left false j a b h p = pairs_alike j false a b h p
share_alike how.Full right_built j a b h p = padded_alike j right_built a b h p
share_alike how.Cross right_built j a b h p = pairs_alike j right_built a b h p
share_alike how.Semi true j a b h p = let e = any-same (meets j true p) h in rw e (SameBag-refl _)
share_alike how.Semi false j a b h p = SameBag-refl []
share_alike how.Anti true j a b h p = let e = any-same (meets j true p) h in rw e (SameBag-refl _)
share_alike how.Anti false j a b h p = SameBag-refl []

filter_alike : (p q : Row → Bool) (xs : List Row) → ((x : Row) → p x ≡ q x) → filter p xs ≡ filter q xs
filter_alike p q [] h = refl
filter_alike p q (x ∷ xs) h = ap (λ b. cond b (x ∷ filter p xs) (filter p xs)) (h x) ∙ ap (λ l. cond (q x) (x ∷ l) l) (filter_alike p q xs h)

lacking_alike : (j : Join) (right_built : Bool) (p q a b : List Row) → SameBag p q → SameBag a b → SameBag (unmatched_built j right_built p a) (unmatched_built j right_built q b)
lacking_alike j right_built p q a b h k =
    SameBag-trans (SameBag-filter (lacks_probed_match j right_built p) k)
    (SameBag-from_equal (filter_alike (lacks_probed_match j right_built p) (lacks_probed_match j right_built q) b (λ x. ap not (any-same (met_by j right_built x) h))))

having_alike : (j : Join) (right_built : Bool) (p q a b : List Row) → SameBag p q → SameBag a b → SameBag (matched_built j right_built p a) (matched_built j right_built q b)
having_alike j right_built p q a b h k =
    SameBag-trans (SameBag-filter (has_probed_match j right_built p) k)
    (SameBag-from_equal (filter_alike (has_probed_match j right_built p) (has_probed_match j right_built q) b (λ x. any-same (met_by j right_built x) h)))

-- what the built side has of its own, over rows in another order
pub own_alike : (kind : JoinType) (right_built : Bool) (j : Join) (p q a b : List Row) → SameBag p q → SameBag a b → SameBag (own_by kind j right_built p a) (own_by kind j right_built q b)
own_alike how.Inner right_built j p q a b h k = SameBag-refl []
own_alike how.Left true j p q a b h k = SameBag-refl []
own_alike how.Left false j p q a b h k = SameBag-map (pad_built j false) (lacking_alike j false p q a b h k)
own_alike how.Full right_built j p q a b h k = SameBag-map (pad_built j right_built) (lacking_alike j right_built p q a b h k)
own_alike how.Cross right_built j p q a b h k = SameBag-refl []
own_alike how.Semi true j p q a b h k = SameBag-refl []
own_alike how.Semi false j p q a b h k = having_alike j false p q a b h k
own_alike how.Anti true j p q a b h k = SameBag-refl []
own_alike how.Anti false j p q a b h k = lacking_alike j false p q a b h k
