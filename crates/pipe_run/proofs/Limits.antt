-- Rows on their way through operators, with counts: all the way, and a part of it.
use Rattle.std.proofs.Common.{◌∙◌, sym, ◌≡◌, ℕ, ◌+◌, ◌<◌, List, [], ◌∷◌, ◌++◌, length, refl, ap, arith, inl, inr, append-nil}
use Rattle.std.specs.List.{flat_map}
use Rattle.pipe_schema.specs.Rows.{Row, Same, Within}
use Rattle.pipe_frame.specs.declared.chunk.DataChunk.{DataChunk}
use Rattle.pipe_schema.specs.Weights.{total}
use Rattle.pipe_schema.proofs.Weights.{total-append, total-flat_map}
use Rattle.pipe_ops.specs.declared.operator.OperatorResult.TheVariants.{NeedsNewData, HaveMoreOutPut, Finished}
use Rattle.pipe_chain.specs.Keys.{SameKeys, WithinKeys}
use Rattle.pipe_chain.specs.Flow.{Work, Acts, no_acts, both_acts, made, Flows, nothing, added, Grown, AllGrown, Few, AllFew}
use Rattle.pipe_chain.specs.Executed.{Owed, Executed, MarksSome}
use Rattle.pipe_chain.specs.Parts.{Parts}
use Rattle.pipe_chain.specs.Counts.{counts_of, plus, Went, Broke, Going}
use Rattle.pipe_chain.proofs.Weighing.{weighs, rows-by, rows-refl, rows-length, fewer, within-by, within-length, keys-weigh, keys-by, keys-refl, keys-fewer, keys-within, length-both}
use Rattle.pipe_chain.proofs.FlowLemmas.{made-both, made-same, flows-same, flows-both, flows-none, flows-length, grown-none, grown-one, grown-trans, grown-length, grown-beside, rows-more, rows-beside, few-both, few-none, few-added}
use Rattle.pipe_run.specs.declared.stage.LaneFault.{LaneFault}
use Rattle.pipe_run.specs.declared.stage.LaneFault.TheVariants.{TooMany, Memory}
use Rattle.pipe_run.specs.Stages.{Tells, IsOver, IsOverAbove}
use Rattle.pipe_run.proofs.Sums.{tells-left, tells-right}

-- ---- at most

within-refl : (a : List Row) → Within a a
within-refl a = within-by (λ w. omega arith)

within-same : {a b : List Row} → Same a b → Within a b
within-same h = within-by (λ w. omega (arith, weighs h w))

made-within : (w : Work) (v : List ℕ) (xs ys : List Row) → Within xs ys → Within (made w v xs) (made w v ys)
made-within w v xs ys h = within-by (λ f. omega (
  arith,
  fewer h (λ row. total f (w.each row)),
  total-flat_map w.each f xs,
  total-flat_map w.each f ys,
  total-append f (flat_map w.each xs) (flat_map w.gains v),
  total-append f (flat_map w.each ys) (flat_map w.gains v),
))

asks-within : (f : Row → List ℕ) (keys : List ℕ) (xs ys : List Row) → Within xs ys → WithinKeys keys (flat_map f xs) → WithinKeys keys (flat_map f ys)
asks-within f keys xs ys h k = keys-within (λ w. omega (arith, keys-fewer k w, fewer h (λ row. total w (f row)), total-flat_map f w xs, total-flat_map f w ys))

pub parts-within : (ws : List Work) (acts : List Acts) (ns : List ℕ) (xs ys : List Row) → Within xs ys → Parts ws acts ns xs → Parts ws acts ns ys
parts-within [] [] [] xs ys h p = absurd p
parts-within [] [] (n ∷ []) xs ys h p = omega (arith, p, within-length h)
parts-within [] [] (n ∷ m ∷ ns) xs ys h p = absurd p
parts-within [] (a ∷ acts) ns xs ys h p = absurd p
parts-within (w ∷ ws) [] ns xs ys h p = absurd p
parts-within (w ∷ ws) (a ∷ acts) [] xs ys h p = absurd p
parts-within (w ∷ ws) (a ∷ acts) (n ∷ ns) xs ys h p = (
  omega (arith, p.0, within-length h),
  asks-within w.asks a.marked xs ys h p.1,
  p.2,
  parts-within ws acts ns (made w a.won xs) (made w a.won ys) (made-within w a.won xs ys h) p.3,
)

asks-both : (f : Row → List ℕ) (a b : List ℕ) (xs ys : List Row) → WithinKeys a (flat_map f xs) → WithinKeys b (flat_map f ys) → WithinKeys (a ++ b) (flat_map f (xs ++ ys))
asks-both f a b xs ys h k = keys-within (λ w. omega (
  arith,
  keys-fewer h w,
  keys-fewer k w,
  total-append w a b,
  total-flat_map f w xs,
  total-flat_map f w ys,
  total-flat_map f w (xs ++ ys),
  total-append (λ row. total w (f row)) xs ys,
))

pub parts-both : (ws : List Work) (a b : List Acts) (ns ms : List ℕ) (xs ys : List Row) → Parts ws a ns xs → Parts ws b ms ys → Parts ws (added a b) (plus ns ms) (xs ++ ys)
parts-both [] [] [] (n ∷ []) (m ∷ []) xs ys p q = omega (arith, p, q, length-both xs ys)
parts-both (w ∷ ws) (a ∷ acts) (b ∷ more) (n ∷ ns) (m ∷ ms) xs ys p q = (
  omega (arith, p.0, q.0, length-both xs ys),
  asks-both w.asks a.marked b.marked xs ys p.1 q.1,
  few-both a b p.2 q.2,
  parts-within ws (added acts more) (plus ns ms) _ _ (within-same (made-both w a.won b.won xs ys)) (parts-both ws acts more ns ms (made w a.won xs) (made w b.won ys) p.3 q.3),
)
parts-both [] [] [] [] ms xs ys p q = absurd p
parts-both [] [] [] (n ∷ k ∷ ns) ms xs ys p q = absurd p
parts-both [] [] [] (n ∷ []) [] xs ys p q = absurd q
parts-both [] [] [] (n ∷ []) (m ∷ k ∷ ms) xs ys p q = absurd q
parts-both [] [] (b ∷ more) ns ms xs ys p q = absurd q
parts-both [] (a ∷ acts) b ns ms xs ys p q = absurd p
parts-both (w ∷ ws) [] b ns ms xs ys p q = absurd p
parts-both (w ∷ ws) (a ∷ acts) b [] ms xs ys p q = absurd p
parts-both (w ∷ ws) (a ∷ acts) [] (n ∷ ns) ms xs ys p q = absurd q
parts-both (w ∷ ws) (a ∷ acts) (b ∷ more) (n ∷ ns) [] xs ys p q = absurd q

same-within : {a b : List ℕ} → SameKeys a b → WithinKeys a b
same-within h = keys-within (λ w. omega (arith, keys-weigh h w))

-- all the way is a part of the way
pub parts-flows : (ws : List Work) (acts : List Acts) (xs out : List Row) → Flows ws acts xs out → AllFew acts → Parts ws acts (counts_of ws acts xs) xs
parts-flows [] [] xs out f few = omega arith
parts-flows [] (a ∷ acts) xs out f few = absurd f
parts-flows (w ∷ ws) [] xs out f few = absurd f
parts-flows (w ∷ ws) (a ∷ acts) xs out f few = (omega arith, same-within f.0, few.0, parts-flows ws acts (made w a.won xs) out f.1 few.1)

-- ---- counts

abbrev pub zeros : List Work → List ℕ
zeros [] = 0 ∷ []
zeros (w ∷ ws) = 0 ∷ zeros ws

no-keys : (b : List ℕ) → WithinKeys [] b
no-keys b = record { sums = λ f. omega arith }

pub parts-none : (ws : List Work) (xs : List Row) → Parts ws (nothing ws) (zeros ws) xs
parts-none [] xs = omega arith
parts-none (w ∷ ws) xs = (omega arith, no-keys _, no-keys _, parts-none ws (made w [] xs))

pub plus-assoc : (a b c : List ℕ) → plus (plus a b) c ≡ plus a (plus b c)
plus-assoc [] b c = refl
plus-assoc (x ∷ a) [] c = refl
plus-assoc (x ∷ a) (y ∷ b) [] = refl
plus-assoc (x ∷ a) (y ∷ b) (z ∷ c) = let e : (x + y) + z ≡ x + (y + z) = omega arith in rw (e, plus-assoc a b c) refl

pub counts-same : (ws : List Work) (acts : List Acts) (xs ys : List Row) → Same xs ys → counts_of ws acts xs ≡ counts_of ws acts ys
counts-same [] acts xs ys h = ap (λ n. n ∷ []) (rows-length h)
counts-same (w ∷ ws) [] xs ys h = ap (λ n. n ∷ []) (rows-length h)
counts-same (w ∷ ws) (a ∷ acts) xs ys h = rw (rows-length h, counts-same ws acts _ _ (made-same w a.won a.won xs ys (keys-refl _) h)) refl

pub counts-both : (ws : List Work) (a b : List Acts) (xs ys : List Row) → length a ≡ length ws → length b ≡ length ws → counts_of ws (added a b) (xs ++ ys) ≡ plus (counts_of ws a xs) (counts_of ws b ys)
counts-both [] a b xs ys e e' = ap (λ n. n ∷ []) (length-both xs ys)
counts-both (w ∷ ws) [] b xs ys e e' = absurd (omega arith)
counts-both (w ∷ ws) (x ∷ a) [] xs ys e e' = absurd (omega arith)
counts-both (w ∷ ws) (x ∷ a) (y ∷ b) xs ys e e' =
    rw (length-both xs ys, ← counts-same ws (added a b) (made w x.won xs ++ made w y.won ys) (made w (x.won ++ y.won) (xs ++ ys)) (made-both w x.won y.won xs ys), counts-both ws a b (made w x.won xs) (made w y.won ys) (omega arith) (omega arith)) refl

pub counts-long : (ws : List Work) (acts : List Acts) (xs : List Row) → length acts ≡ length ws → length (counts_of ws acts xs) ≡ length ws + 1
counts-long [] acts xs e = refl
counts-long (w ∷ ws) [] xs e = absurd (omega arith)
counts-long (w ∷ ws) (a ∷ acts) xs e = omega (arith, counts-long ws acts (made w a.won xs) (omega arith))

-- counts of no rows
pub plus-none : (ws : List Work) (before : List ℕ) → length before ≡ length ws + 1 → plus before (counts_of ws (nothing ws) []) ≡ before
plus-none [] [] e = absurd (omega arith)
plus-none [] (n ∷ []) e = let z : n + 0 ≡ n = omega arith in ap (λ k. k ∷ []) z
plus-none [] (n ∷ m ∷ before) e = absurd (omega arith)
plus-none (w ∷ ws) [] e = absurd (omega arith)
plus-none (w ∷ ws) (n ∷ before) e = let z : n + 0 ≡ n = omega arith in rw (z, plus-none ws before (omega arith)) refl

-- ---- all the way

pub went-none : (ws : List Work) (acts : List Acts) (before : List ℕ) (held : List Row) → length acts ≡ length ws → length before ≡ length ws + 1 → Went ws acts acts before before [] held held
went-none ws acts before held e e' = record {
  acts = nothing ws;
  out = [];
  grown = grown-none ws acts e;
  few = few-none ws;
  flows = flows-none ws;
  sunk = rw append-nil (rows-refl _);
  tally = sym (plus-none ws before e');
}

pub went-trans : (ws : List Work) (a b c : List Acts) (n m k : List ℕ) (xs ys h h' h'' : List Row) → Went ws a b n m xs h h' → Went ws b c m k ys h' h'' → Went ws a c n k (xs ++ ys) h h''
went-trans ws a b c n m k xs ys h h' h'' r q = record {
  acts = added r.acts q.acts;
  out = r.out ++ q.out;
  grown = grown-trans a b c r.acts q.acts r.grown q.grown;
  few = few-added r.acts q.acts r.few q.few;
  flows = flows-both ws r.acts q.acts xs ys r.out q.out r.flows q.flows;
  sunk = rows-more _ _ _ _ _ r.sunk q.sunk;
  tally = rw (q.tally, r.tally, plus-assoc n (counts_of ws r.acts xs) (counts_of ws q.acts ys), counts-both ws r.acts q.acts xs ys (flows-length ws r.acts xs r.out r.flows) (flows-length ws q.acts ys q.out q.flows)) refl;
}

pub went-same : (ws : List Work) (a b : List Acts) (n m : List ℕ) (xs ys h h' : List Row) → Same xs ys → Went ws a b n m xs h h' → Went ws a b n m ys h h'
went-same ws a b n m xs ys h h' e r = record {
  acts = r.acts;
  out = r.out;
  grown = r.grown;
  few = r.few;
  flows = flows-same ws r.acts xs ys r.out r.out e (rows-refl _) r.flows;
  sunk = r.sunk;
  tally = r.tally ∙ ap (plus n) (counts-same ws r.acts xs ys e);
}

-- ---- piece by piece

module _ (w : Work) (ws : List Work) (a : Acts) (olds : List Acts) (before : List ℕ) (rows held : List Row) where
  pub going-start : (owed : Owed) → length olds ≡ length ws → length before ≡ length ws + 1 → Same owed.rows (flat_map w.each rows) → SameKeys owed.keys (flat_map w.asks rows) → Going w ws a a olds olds before before rows owed held held
  going-start owed e e' given keys = record {
    given = [];
    more = no_acts;
    grown = record { marked = rw append-nil (keys-refl _); won = rw append-nil (keys-refl _) };
    keys = keys;
    paid = rw append-nil given;
    few = record { sums = λ f. omega arith };
    went = went-none ws olds before held e e';
  }

  pub paid-more : (given owed piece left : List Row) (v u : List ℕ) → Same (given ++ owed) (made w v rows) → Same (piece ++ left) (owed ++ flat_map w.gains u) → Same ((given ++ piece) ++ left) (made w (v ++ u) rows)
  paid-more given owed piece left v u h k = rows-by (λ f. omega (
    arith,
    weighs h f,
    weighs k f,
    total-append f given owed,
    total-append f piece left,
    total-append f (given ++ piece) left,
    total-append f given piece,
    total-append f owed (flat_map w.gains u),
    total-append f (flat_map w.each rows) (flat_map w.gains v),
    total-append f (flat_map w.each rows) (flat_map w.gains (v ++ u)),
    total-flat_map w.gains f v,
    total-flat_map w.gains f u,
    total-flat_map w.gains f (v ++ u),
    total-append (λ key. total f (w.gains key)) v u,
  ))

  pub keys-on : (m owed n left asks : List ℕ) → SameKeys (m ++ owed) asks → SameKeys (n ++ left) owed → SameKeys ((m ++ n) ++ left) asks
  keys-on m owed n left asks h k = keys-by (λ f. omega (arith, keys-weigh h f, keys-weigh k f, total-append f m owed, total-append f n left, total-append f (m ++ n) left, total-append f m n))

  module _ (b c : Acts) (news : List Acts) (mid : List ℕ) (held' : List Row) (owed left : Owed) (g : Going w ws a b olds news before mid rows owed held held') where
    pub going-more : (piece : DataChunk) (newers : List Acts) (after' : List ℕ) (held'' : List Row) → Executed w b c owed left (HaveMoreOutPut piece) → Went ws news newers mid after' piece.frame.rows held' held'' → Going w ws a c olds newers before after' rows left held held''
    going-more piece newers after' held'' e r = record {
      given = g.given ++ piece.frame.rows;
      more = both_acts g.more e.more;
      grown = grown-one a b c g.more e.more g.grown e.grown;
      keys = keys-on g.more.marked owed.keys e.more.marked left.keys _ g.keys e.keys;
      paid = paid-more g.given owed.rows piece.frame.rows left.rows g.more.won e.more.won g.paid e.rows;
      few = few-both g.more e.more g.few e.few;
      went = went-trans ws olds news newers before mid after' g.given piece.frame.rows held held' held'' g.went r;
    }

    pub going-last : (piece : DataChunk) (newers : List Acts) (after' : List ℕ) (held'' : List Row) → Executed w b c owed left (Finished piece) → Went ws news newers mid after' piece.frame.rows held' held'' → Going w ws a c olds newers before after' rows (record { rows = []; keys = [] }) held held''
    going-last piece newers after' held'' e r = record {
      given = g.given ++ piece.frame.rows;
      more = both_acts g.more e.more;
      grown = grown-one a b c g.more e.more g.grown e.grown;
      keys = keys-on g.more.marked owed.keys e.more.marked [] _ g.keys e.keys;
      paid = paid-more g.given owed.rows piece.frame.rows [] g.more.won e.more.won g.paid e.rows;
      few = few-both g.more e.more g.few e.few;
      went = went-trans ws olds news newers before mid after' g.given piece.frame.rows held held' held'' g.went r;
    }

    pub going-none : Executed w b c owed left NeedsNewData → Going w ws a c olds news before mid rows (record { rows = []; keys = [] }) held held'
    going-none e = record {
      given = g.given;
      more = both_acts g.more e.more;
      grown = grown-one a b c g.more e.more g.grown e.grown;
      keys = keys-on g.more.marked owed.keys e.more.marked [] _ g.keys e.keys;
      paid = rw append-nil at (paid-more g.given owed.rows [] [] g.more.won e.more.won g.paid e.rows);
      few = few-both g.more e.more g.few e.few;
      went = g.went;
    }

  -- nothing more is owed
  pub going-end : (c : Acts) (news : List Acts) (after' : List ℕ) (held' : List Row) → Going w ws a c olds news before after' rows (record { rows = []; keys = [] }) held held' → Went (w ∷ ws) (a ∷ olds) (c ∷ news) (0 ∷ before) (length rows ∷ after') rows held held'
  going-end c news after' held' g =
      let paid : Same g.given (made w g.more.won rows) = rw append-nil at g.paid in
      let keys : SameKeys g.more.marked (flat_map w.asks rows) = rw append-nil at g.keys in
      let zero_one : 0 + length rows ≡ length rows = omega arith in
      record {
        acts = g.more ∷ g.went.acts;
        out = g.went.out;
        grown = (g.grown, g.went.grown);
        few = (g.few, g.went.few);
        flows = (keys, flows-same ws g.went.acts g.given (made w g.more.won rows) g.went.out g.went.out paid (rows-refl _) g.went.flows);
        sunk = g.went.sunk;
        tally = rw (zero_one, ← counts-same ws g.went.acts g.given (made w g.more.won rows) paid, ← g.went.tally) refl;
      }

  some-within : (x y z : List Row) → Same (x ++ y) z → Within x z
  some-within x y z h = within-by (λ f. omega (arith, weighs h f, total-append f x y))

  some-keys : (x y z : List ℕ) → SameKeys (x ++ y) z → WithinKeys x z
  some-keys x y z h = keys-within (λ f. omega (arith, keys-weigh h f, total-append f x y))

  -- a piece went a part of its way
  over-above : (limit : ℕ) (nodes : List ℕ) (r : LaneFault) (given piece left : List Row) (keys : List ℕ) (mid : List ℕ) (more : Acts) (c : Acts) (news newers : List Acts) (held' : List Row) → Grown a c more → SameKeys (more.marked ++ keys) (flat_map w.asks rows) → Same ((given ++ piece) ++ left) (made w more.won rows) → Few more
      → Went ws olds news before mid given held held' → IsOver limit ws news newers mid nodes piece r → IsOverAbove limit (w ∷ ws) (a ∷ olds) (c ∷ newers) before nodes rows r
  over-above limit nodes r given piece left keys mid more c news newers held' grown marked paid few went q = record {
    tally = plus (counts_of ws went.acts given) q.tally;
    broke = record {
      acts = more ∷ added went.acts q.broke.acts;
      grown = (grown, grown-trans olds news newers went.acts q.broke.acts went.grown q.broke.grown);
      parts = (
        omega arith,
        some-keys more.marked keys _ marked,
        few,
        parts-within ws (added went.acts q.broke.acts) (plus (counts_of ws went.acts given) q.tally) (given ++ piece) (made w more.won rows) (some-within (given ++ piece) left _ paid)
            (parts-both ws went.acts q.broke.acts (counts_of ws went.acts given) q.tally given piece (parts-flows ws went.acts given went.out went.flows went.few) q.broke.parts),
      );
    };
    told = rw (← plus-assoc before (counts_of ws went.acts given) q.tally, ← went.tally) q.told;
  }

  module _ (limit : ℕ) (nodes : List ℕ) (b c : Acts) (news : List Acts) (mid : List ℕ) (held' : List Row) (owed left : Owed) (g : Going w ws a b olds news before mid rows owed held held') where
    pub above-more : (piece : DataChunk) (newers : List Acts) (r : LaneFault) → Executed w b c owed left (HaveMoreOutPut piece) → IsOver limit ws news newers mid nodes piece.frame.rows r → IsOverAbove limit (w ∷ ws) (a ∷ olds) (c ∷ newers) before nodes rows r
    above-more piece newers r e q = over-above limit nodes r g.given piece.frame.rows left.rows left.keys mid (both_acts g.more e.more) c news newers held' (grown-one a b c g.more e.more g.grown e.grown)
        (keys-on g.more.marked owed.keys e.more.marked left.keys _ g.keys e.keys) (paid-more g.given owed.rows piece.frame.rows left.rows g.more.won e.more.won g.paid e.rows)
        (few-both g.more e.more g.few e.few) g.went q

    pub above-last : (piece : DataChunk) (newers : List Acts) (r : LaneFault) → Executed w b c owed left (Finished piece) → IsOver limit ws news newers mid nodes piece.frame.rows r → IsOverAbove limit (w ∷ ws) (a ∷ olds) (c ∷ newers) before nodes rows r
    above-last piece newers r e q = over-above limit nodes r g.given piece.frame.rows [] [] mid (both_acts g.more e.more) c news newers held' (grown-one a b c g.more e.more g.grown e.grown)
        (keys-on g.more.marked owed.keys e.more.marked [] _ g.keys e.keys) (paid-more g.given owed.rows piece.frame.rows [] g.more.won e.more.won g.paid e.rows)
        (few-both g.more e.more g.few e.few) g.went q

    more-keys : (m some keys asks : List ℕ) → SameKeys (m ++ keys) asks → WithinKeys some keys → WithinKeys (m ++ some) asks
    more-keys m some keys asks h k = keys-within (λ f. omega (arith, keys-weigh h f, keys-fewer k f, total-append f m keys, total-append f m some))

    given-within : (given rest : List Row) (v u : List ℕ) → Same (given ++ rest) (made w v rows) → Within given (made w (v ++ u) rows)
    given-within given rest v u h = within-by (λ f. omega (
      arith,
      weighs h f,
      total-append f given rest,
      total-append f (flat_map w.each rows) (flat_map w.gains v),
      total-append f (flat_map w.each rows) (flat_map w.gains (v ++ u)),
      total-flat_map w.gains f v,
      total-flat_map w.gains f (v ++ u),
      total-append (λ key. total f (w.gains key)) v u,
    ))

    -- the operator ran out of memory
    pub above-memory : MarksSome b c owed.keys → IsOverAbove limit (w ∷ ws) (a ∷ olds) (c ∷ news) before nodes rows Memory
    above-memory m = record {
      tally = counts_of ws g.went.acts g.given;
      broke = record {
        acts = both_acts g.more m.more ∷ g.went.acts;
        grown = (grown-one a b c g.more m.more g.grown m.grown, g.went.grown);
        parts = (
          omega arith,
          more-keys g.more.marked m.more.marked owed.keys _ g.keys m.some,
          few-both g.more m.more g.few m.few,
          parts-within ws g.went.acts (counts_of ws g.went.acts g.given) g.given (made w (g.more.won ++ m.more.won) rows) (given-within g.given owed.rows g.more.won m.more.won g.paid) (parts-flows ws g.went.acts g.given g.went.out g.went.flows g.went.few),
        );
      };
      told = tt;
    }

-- ---- with the first operator's own count

pub went-first : (w : Work) (ws : List Work) (a b : List Acts) (before after' : List ℕ) (rows held held' : List Row) (n m : ℕ) → m ≡ n + length rows → Went (w ∷ ws) a b (0 ∷ before) (length rows ∷ after') rows held held' → Went (w ∷ ws) a b (n ∷ before) (m ∷ after') rows held held'
went-first w ws a b before after' rows held held' n m e r = from r.acts r.grown r.flows r.tally r.few
  where
    from : (d : List Acts) → AllGrown a b d → Flows (w ∷ ws) d rows r.out → (length rows ∷ after') ≡ plus (0 ∷ before) (counts_of (w ∷ ws) d rows) → AllFew d → Went (w ∷ ws) a b (n ∷ before) (m ∷ after') rows held held'
    from [] g f t few = absurd f
    from (d ∷ ds) g f t few =
        let rest : after' ≡ plus before (counts_of ws ds (made w d.won rows)) = cc in
        record { acts = d ∷ ds; out = r.out; grown = g; few = few; flows = f; sunk = r.sunk; tally = rw (e, ← rest) refl }

told-later : (limit : ℕ) (ns nodes : List ℕ) (n st : ℕ) (r : LaneFault) → Tells limit ns nodes r → Tells limit (n ∷ ns) (st ∷ nodes) r
told-later limit ns nodes n st (TooMany node) h = inr h
told-later limit ns nodes n st Memory h = tt

pub over-first : (limit : ℕ) (ws : List Work) (a b : List Acts) (before nodes : List ℕ) (rows : List Row) (n st : ℕ) (r : LaneFault) → IsOverAbove limit ws a b before nodes rows r → IsOver limit ws a b (n ∷ before) (st ∷ nodes) rows r
over-first limit ws a b before nodes rows n st r q = record { tally = length rows ∷ q.tally; broke = q.broke; told = told-later limit _ nodes _ st r q.told }

pub over-here : (limit : ℕ) (w : Work) (ws : List Work) (acts : List Acts) (before nodes : List ℕ) (rows : List Row) (n st : ℕ) → length acts ≡ length ws + 1 → limit < n + length rows → IsOver limit (w ∷ ws) acts acts (n ∷ before) (st ∷ nodes) rows (TooMany st)
over-here limit w ws acts before nodes rows n st e over = record {
  tally = length rows ∷ zeros ws;
  broke = record {
    acts = nothing (w ∷ ws);
    grown = grown-none (w ∷ ws) acts (omega arith);
    parts = (omega arith, no-keys _, no-keys _, parts-none ws (made w [] rows));
  };
  told = inl (refl, over);
}

pub over-end : (limit : ℕ) (rows : List Row) (n st : ℕ) → limit < n + length rows → IsOver limit [] [] [] (n ∷ []) (st ∷ []) rows (TooMany st)
over-end limit rows n st over = record { tally = length rows ∷ []; broke = record { acts = []; grown = tt; parts = omega arith }; told = inl (refl, over) }

pub over-memory : (limit : ℕ) (rows : List Row) (n st : ℕ) → IsOver limit [] [] [] (n ∷ []) (st ∷ []) rows Memory
over-memory limit rows n st = record { tally = 0 ∷ []; broke = record { acts = []; grown = tt; parts = omega arith }; told = tt }

pub went-end : (rows held held' : List Row) (n m : ℕ) → m ≡ n + length rows → Same held' (held ++ rows) → Went [] [] [] (n ∷ []) (m ∷ []) rows held held'
went-end rows held held' n m e is = record { acts = []; out = rows; grown = tt; few = tt; flows = rows-refl _; sunk = is; tally = ap (λ k. k ∷ []) e }

-- ---- rows that went through, and then others that broke off

-- all rows went through, and a count is past the limit, or memory runs out
pub over-whole : (limit : ℕ) (ws : List Work) (a b : List Acts) (n m nodes : List ℕ) (xs h h' : List Row) (r : LaneFault) → Went ws a b n m xs h h' → Tells limit m nodes r → IsOver limit ws a b n nodes xs r
over-whole limit ws a b n m nodes xs h h' r went told = record {
  tally = counts_of ws went.acts xs;
  broke = record { acts = went.acts; grown = went.grown; parts = parts-flows ws went.acts xs went.out went.flows went.few };
  told = rw (← went.tally) told;
}

-- nothing went on its way
pub over-none : (limit : ℕ) (ws : List Work) (acts : List Acts) (n nodes : List ℕ) (xs : List Row) → length acts ≡ length ws → IsOver limit ws acts acts n nodes xs Memory
over-none limit ws acts n nodes xs e = record { tally = zeros ws; broke = record { acts = nothing ws; grown = grown-none ws acts e; parts = parts-none ws xs }; told = tt }

pub over-later : (limit : ℕ) (ws : List Work) (a b c : List Acts) (n m nodes : List ℕ) (xs ys h h' : List Row) (r : LaneFault) → Went ws a b n m xs h h' → IsOver limit ws b c m nodes ys r → IsOver limit ws a c n nodes (xs ++ ys) r
over-later limit ws a b c n m nodes xs ys h h' r went q = record {
  tally = plus (counts_of ws went.acts xs) q.tally;
  broke = record {
    acts = added went.acts q.broke.acts;
    grown = grown-trans a b c went.acts q.broke.acts went.grown q.broke.grown;
    parts = parts-both ws went.acts q.broke.acts (counts_of ws went.acts xs) q.tally xs ys (parts-flows ws went.acts xs went.out went.flows went.few) q.broke.parts;
  };
  told = rw (← plus-assoc n (counts_of ws went.acts xs) q.tally, ← went.tally) q.told;
}

-- ---- what is owed of a flush

pub sum-more : (given owed piece left all : List Row) → Same (given ++ owed) all → Same owed (piece ++ left) → Same ((given ++ piece) ++ left) all
sum-more given owed piece left all h k = rows-by (λ f. omega (arith, weighs h f, weighs k f, total-append f given owed, total-append f piece left, total-append f (given ++ piece) left, total-append f given piece))

pub over-part : (limit : ℕ) (ws : List Work) (a b : List Acts) (n nodes : List ℕ) (some all : List Row) (r : LaneFault) → Within some all → IsOver limit ws a b n nodes some r → IsOver limit ws a b n nodes all r
over-part limit ws a b n nodes some all r h q = record {
  tally = q.tally;
  broke = record { acts = q.broke.acts; grown = q.broke.grown; parts = parts-within ws q.broke.acts q.tally some all h q.broke.parts };
  told = q.told;
}

-- pieces of a flush went on, and the others are owed
pub record Drained (ws : List Work) (old new : List Acts) (before after' : List ℕ) (owed all held held' : List Row) : Type 0 where
  pub given : List Row
  pub paid : Same (given ++ owed) all
  pub went : Went ws old new before after' given held held'

module _ (ws : List Work) (a : List Acts) (n : List ℕ) (all held : List Row) where
  pub drained-start : length a ≡ length ws → length n ≡ length ws + 1 → Drained ws a a n n all all held held
  drained-start e e' = record { given = []; paid = rows-refl _; went = went-none ws a n held e e' }

  module _ (b : List Acts) (m : List ℕ) (owed held' : List Row) (d : Drained ws a b n m owed all held held') where
    pub drained-more : (c : List Acts) (k : List ℕ) (piece left held'' : List Row) → Same owed (piece ++ left) → Went ws b c m k piece held' held'' → Drained ws a c n k left all held held''
    drained-more c k piece left held'' e went = record {
      given = d.given ++ piece;
      paid = sum-more d.given owed piece left all d.paid e;
      went = went-trans ws a b c n m k d.given piece held held' held'' d.went went;
    }

    pub drained-last : (c : List Acts) (k : List ℕ) (piece held'' : List Row) → Same owed piece → Went ws b c m k piece held' held'' → Went ws a c n k all held held''
    drained-last c k piece held'' e went =
        let paid : Same (d.given ++ piece) all = rw append-nil at (sum-more d.given owed piece [] all d.paid (rw append-nil e)) in
        went-same ws a c n k _ _ _ _ paid (went-trans ws a b c n m k d.given piece held held' held'' d.went went)

    pub drained-none : owed ≡ [] → Went ws a b n m all held held'
    drained-none e = went-same ws a b n m _ _ _ _ (rw (e, append-nil) at d.paid) d.went

    pub drained-over : (limit : ℕ) (nodes : List ℕ) (c : List Acts) (piece left : List Row) (r : LaneFault) → Same owed (piece ++ left) → IsOver limit ws b c m nodes piece r → IsOver limit ws a c n nodes all r
    drained-over limit nodes c piece left r e q =
        over-part limit ws a c n nodes (d.given ++ piece) all r (within-by (λ f. omega (arith, weighs (sum-more d.given owed piece left all d.paid e) f, total-append f (d.given ++ piece) left))) (over-later limit ws a b c n m nodes d.given piece held held' r d.went q)

    pub drained-memory : (limit : ℕ) (nodes : List ℕ) → IsOver limit ws a b n nodes all Memory
    drained-memory limit nodes = record {
      tally = counts_of ws d.went.acts d.given;
      broke = record {
        acts = d.went.acts;
        grown = d.went.grown;
        parts = parts-within ws d.went.acts (counts_of ws d.went.acts d.given) d.given all (within-by (λ f. omega (arith, weighs d.paid f, total-append f d.given owed))) (parts-flows ws d.went.acts d.given d.went.out d.went.flows d.went.few);
      };
      told = tt;
    }

pub last-left : {owed piece : List Row} → Same owed piece → Same owed (piece ++ [])
last-left h = rw append-nil h

-- ---- side by side

plus-middle : (a b c d : List ℕ) → length a ≡ length b → length b ≡ length c → length c ≡ length d → plus (plus a b) (plus c d) ≡ plus (plus a c) (plus b d)
plus-middle [] [] [] [] e f g = refl
plus-middle (x ∷ a) (y ∷ b) (z ∷ c) (w ∷ d) e f g = let s : (x + y) + (z + w) ≡ (x + z) + (y + w) = omega arith in rw (s, plus-middle a b c d (omega arith) (omega arith) (omega arith)) refl
plus-middle [] [] [] (w ∷ d) e f g = absurd (omega arith)
plus-middle [] [] (z ∷ c) d e f g = absurd (omega arith)
plus-middle [] (y ∷ b) c d e f g = absurd (omega arith)
plus-middle (x ∷ a) [] c d e f g = absurd (omega arith)
plus-middle (x ∷ a) (y ∷ b) [] d e f g = absurd (omega arith)
plus-middle (x ∷ a) (y ∷ b) (z ∷ c) [] e f g = absurd (omega arith)

-- the counts of two lanes add up to those of their rows
pub went-beside : (ws : List Work) (a b c d : List Acts) (n m k l : List ℕ) (xs ys h h' i i' : List Row) → length n ≡ length ws + 1 → length k ≡ length ws + 1 → Went ws a b n m xs h h' → Went ws c d k l ys i i'
    → Went ws (added a c) (added b d) (plus n k) (plus m l) (xs ++ ys) (h ++ i) (h' ++ i')
went-beside ws a b c d n m k l xs ys h h' i i' e e' r q =
    let long : length r.acts ≡ length ws = flows-length ws r.acts xs r.out r.flows in
    let long' : length q.acts ≡ length ws = flows-length ws q.acts ys q.out q.flows in
    record {
      acts = added r.acts q.acts;
      out = r.out ++ q.out;
      grown = grown-beside a b r.acts c d q.acts (grown-length a b r.acts r.grown ∙ long ∙ sym (grown-length c d q.acts q.grown ∙ long')) r.grown q.grown;
      few = few-added r.acts q.acts r.few q.few;
      flows = flows-both ws r.acts q.acts xs ys r.out q.out r.flows q.flows;
      sunk = rows-beside h' h r.out i' i q.out r.sunk q.sunk;
      tally = rw (r.tally, q.tally, counts-both ws r.acts q.acts xs ys long long', plus-middle n (counts_of ws r.acts xs) k (counts_of ws q.acts ys) (omega (arith, counts-long ws r.acts xs long)) (omega (arith, counts-long ws r.acts xs long)) (omega (arith, counts-long ws q.acts ys long'))) refl;
    }

parts-acts : (ws : List Work) (acts : List Acts) (ns : List ℕ) (xs : List Row) → Parts ws acts ns xs → length acts ≡ length ws
parts-acts [] [] ns xs p = refl
parts-acts [] (a ∷ acts) ns xs p = absurd p
parts-acts (w ∷ ws) [] ns xs p = absurd p
parts-acts (w ∷ ws) (a ∷ acts) [] xs p = absurd p
parts-acts (w ∷ ws) (a ∷ acts) (n ∷ ns) xs p = omega (arith, parts-acts ws acts ns (made w a.won xs) p.3)

parts-counts : (ws : List Work) (acts : List Acts) (ns : List ℕ) (xs : List Row) → Parts ws acts ns xs → length ns ≡ length ws + 1
parts-counts [] [] [] xs p = absurd p
parts-counts [] [] (n ∷ []) xs p = refl
parts-counts [] [] (n ∷ m ∷ ns) xs p = absurd p
parts-counts [] (a ∷ acts) ns xs p = absurd p
parts-counts (w ∷ ws) [] ns xs p = absurd p
parts-counts (w ∷ ws) (a ∷ acts) [] xs p = absurd p
parts-counts (w ∷ ws) (a ∷ acts) (n ∷ ns) xs p = omega (arith, parts-counts ws acts ns (made w a.won xs) p.3)

-- a part of the way, by so many rows
pub record Part (ws : List Work) (a b : List Acts) (xs : List Row) : Type 0 where
  pub tally : List ℕ
  pub broke : Broke ws a b tally xs

pub part-went : (ws : List Work) (a b : List Acts) (n m : List ℕ) (xs h h' : List Row) → Went ws a b n m xs h h' → Part ws a b xs
part-went ws a b n m xs h h' r = record { tally = counts_of ws r.acts xs; broke = record { acts = r.acts; grown = r.grown; parts = parts-flows ws r.acts xs r.out r.flows r.few } }

pub part-over : (limit : ℕ) (ws : List Work) (a b : List Acts) (n nodes : List ℕ) (xs : List Row) (r : LaneFault) → IsOver limit ws a b n nodes xs r → Part ws a b xs
part-over limit ws a b n nodes xs r q = record { tally = q.tally; broke = q.broke }

broke-beside : (ws : List Work) (a b c d : List Acts) (t u : List ℕ) (xs ys : List Row) → Broke ws a b t xs → Broke ws c d u ys → Broke ws (added a c) (added b d) (plus t u) (xs ++ ys)
broke-beside ws a b c d t u xs ys p q = record {
  acts = added p.acts q.acts;
  grown = grown-beside a b p.acts c d q.acts (grown-length a b p.acts p.grown ∙ parts-acts ws p.acts t xs p.parts ∙ sym (grown-length c d q.acts q.grown ∙ parts-acts ws q.acts u ys q.parts)) p.grown q.grown;
  parts = parts-both ws p.acts q.acts t u xs ys p.parts q.parts;
}

pub part-beside : (ws : List Work) (a b c d : List Acts) (xs ys : List Row) → Part ws a b xs → Part ws c d ys → Part ws (added a c) (added b d) (xs ++ ys)
part-beside ws a b c d xs ys p q = record { tally = plus p.tally q.tally; broke = broke-beside ws a b c d p.tally q.tally xs ys p.broke q.broke }

module _ (limit : ℕ) (ws : List Work) (a b c d : List Acts) (n k nodes : List ℕ) (xs ys : List Row) (r : LaneFault) (e : length n ≡ length ws + 1) (e' : length k ≡ length ws + 1) where
  -- what one lane passes, all pass together
  pub over-left : IsOver limit ws a b n nodes xs r → Part ws c d ys → IsOver limit ws (added a c) (added b d) (plus n k) nodes (xs ++ ys) r
  over-left q p =
      let t : length q.tally ≡ length ws + 1 = parts-counts ws q.broke.acts q.tally xs q.broke.parts in
      let u : length p.tally ≡ length ws + 1 = parts-counts ws p.broke.acts p.tally ys p.broke.parts in
      record {
        tally = plus q.tally p.tally;
        broke = broke-beside ws a b c d q.tally p.tally xs ys q.broke p.broke;
        told = rw (plus-middle n k q.tally p.tally (omega arith) (omega arith) (omega arith)) (tells-left limit (plus n q.tally) (plus k p.tally) nodes r q.told);
      }

  pub over-right : Part ws a b xs → IsOver limit ws c d k nodes ys r → IsOver limit ws (added a c) (added b d) (plus n k) nodes (xs ++ ys) r
  over-right p q =
      let t : length p.tally ≡ length ws + 1 = parts-counts ws p.broke.acts p.tally xs p.broke.parts in
      let u : length q.tally ≡ length ws + 1 = parts-counts ws q.broke.acts q.tally ys q.broke.parts in
      record {
        tally = plus p.tally q.tally;
        broke = broke-beside ws a b c d p.tally q.tally xs ys p.broke q.broke;
        told = rw (plus-middle n k p.tally q.tally (omega arith) (omega arith) (omega arith)) (tells-right limit (plus n p.tally) (plus k q.tally) nodes r q.told);
      }
