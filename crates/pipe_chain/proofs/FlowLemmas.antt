-- Flows add up.
use Rattle.std.proofs.Common.{◌≡◌, ℕ, List, [], ◌∷◌, ◌++◌, length, refl, arith}
use Rattle.std.specs.List.{flat_map}
use Rattle.std.proofs.lemmas.List.Concat.{flat_map-append}
use Rattle.std.proofs.lemmas.List.{append-nil}
use Rattle.pipe_schema.specs.Rows.{Row, Same}
use Rattle.pipe_schema.proofs.Weights.{total-append}
use Rattle.pipe_chain.specs.Keys.{SameKeys}
use Rattle.pipe_chain.specs.Flow.{Work, Acts, both_acts, made, Flows, nothing, added, Grown, AllGrown, Few, AllFew}
use Rattle.pipe_chain.proofs.Weighing.{weighs, rows-by, rows-refl, rows-sym, rows-trans, rows-append, rows-flat, keys-weigh, keys-by, keys-refl, keys-trans, keys-fewer, keys-within, asks-same, gains-same}

-- ---- what is made is additive

rows-middle : (a b c d : List Row) → Same ((a ++ b) ++ (c ++ d)) ((a ++ c) ++ (b ++ d))
rows-middle a b c d = rows-by (λ w. omega (arith, total-append w (a ++ b) (c ++ d), total-append w a b, total-append w c d, total-append w (a ++ c) (b ++ d), total-append w a c, total-append w b d))

rows-both : {X : Type 0} (f : X → List Row) (a b : List X) → Same (flat_map f a ++ flat_map f b) (flat_map f (a ++ b))
rows-both f a b = rw (flat_map-append f a b) (rows-refl _)

keys-both : (f : Row → List ℕ) (a b : List Row) → SameKeys (flat_map f a ++ flat_map f b) (flat_map f (a ++ b))
keys-both f a b = rw (flat_map-append f a b) (keys-refl _)

pub made-both : (w : Work) (v u : List ℕ) (xs ys : List Row) → Same (made w v xs ++ made w u ys) (made w (v ++ u) (xs ++ ys))
made-both w v u xs ys = rows-trans (rows-middle (flat_map w.each xs) (flat_map w.gains v) (flat_map w.each ys) (flat_map w.gains u))
    (rows-append (rows-both w.each xs ys) (rows-both w.gains v u))

pub made-same : (w : Work) (v u : List ℕ) (xs ys : List Row) → SameKeys v u → Same xs ys → Same (made w v xs) (made w u ys)
made-same w v u xs ys h k = rows-append (rows-flat w.each k) (gains-same w.gains h)

-- ---- flows

-- other rows, as often
pub flows-same : (ws : List Work) (acts : List Acts) (xs ys out out' : List Row) → Same xs ys → Same out out' → Flows ws acts xs out → Flows ws acts ys out'
flows-same [] [] xs ys out out' h k f = rows-trans (rows-sym k) (rows-trans f h)
flows-same [] (a ∷ acts) xs ys out out' h k f = absurd f
flows-same (w ∷ ws) [] xs ys out out' h k f = absurd f
flows-same (w ∷ ws) (a ∷ acts) xs ys out out' h k f =
    (keys-trans f.0 (asks-same w.asks h), flows-same ws acts (made w a.won xs) (made w a.won ys) out out' (made-same w a.won a.won xs ys (keys-refl _) h) k f.1)

keys-append : (a b c d : List ℕ) → SameKeys a b → SameKeys c d → SameKeys (a ++ c) (b ++ d)
keys-append a b c d h k = keys-by (λ w. omega (arith, keys-weigh h w, keys-weigh k w, total-append w a c, total-append w b d))

-- the law of which all others are made
pub flows-both : (ws : List Work) (a b : List Acts) (xs ys out out' : List Row) → Flows ws a xs out → Flows ws b ys out' → Flows ws (added a b) (xs ++ ys) (out ++ out')
flows-both [] [] [] xs ys out out' f g = rows-append f g
flows-both [] [] (b ∷ bs) xs ys out out' f g = absurd g
flows-both [] (a ∷ acts) b xs ys out out' f g = absurd f
flows-both (w ∷ ws) [] b xs ys out out' f g = absurd f
flows-both (w ∷ ws) (a ∷ acts) [] xs ys out out' f g = absurd g
flows-both (w ∷ ws) (a ∷ acts) (b ∷ more) xs ys out out' f g = (
  keys-trans (keys-append a.marked (flat_map w.asks xs) b.marked (flat_map w.asks ys) f.0 g.0) (keys-both w.asks xs ys),
  flows-same ws (added acts more) (made w a.won xs ++ made w b.won ys) (made w (a.won ++ b.won) (xs ++ ys)) (out ++ out') (out ++ out') (made-both w a.won b.won xs ys) (rows-refl _)
      (flows-both ws acts more (made w a.won xs) (made w b.won ys) out out' f.1 g.1),
)

pub flows-none : (ws : List Work) → Flows ws (nothing ws) [] []
flows-none [] = rows-refl _
flows-none (w ∷ ws) = (keys-refl _, flows-none ws)

pub flows-length : (ws : List Work) (acts : List Acts) (xs out : List Row) → Flows ws acts xs out → length acts ≡ length ws
flows-length [] [] xs out f = refl
flows-length [] (a ∷ acts) xs out f = absurd f
flows-length (w ∷ ws) [] xs out f = absurd f
flows-length (w ∷ ws) (a ∷ acts) xs out f = omega (arith, flows-length ws acts _ out f.1)

-- ---- acts

pub grown-none : (ws : List Work) (acts : List Acts) → length acts ≡ length ws → AllGrown acts acts (nothing ws)
grown-none [] [] e = tt
grown-none [] (a ∷ acts) e = absurd (omega arith)
grown-none (w ∷ ws) [] e = absurd (omega arith)
grown-none (w ∷ ws) (a ∷ acts) e = (record { marked = rw append-nil (keys-refl _); won = rw append-nil (keys-refl _) }, grown-none ws acts (omega arith))

-- x is a and more, y is x and more
keys-more : (a x y m n : List ℕ) → SameKeys x (a ++ m) → SameKeys y (x ++ n) → SameKeys y (a ++ (m ++ n))
keys-more a x y m n h k = keys-by (λ w. omega (arith, keys-weigh h w, keys-weigh k w, total-append w a m, total-append w x n, total-append w a (m ++ n), total-append w m n))

pub rows-more : (a x y m n : List Row) → Same x (a ++ m) → Same y (x ++ n) → Same y (a ++ (m ++ n))
rows-more a x y m n h k = rows-by (λ w. omega (arith, weighs h w, weighs k w, total-append w a m, total-append w x n, total-append w a (m ++ n), total-append w m n))

pub grown-one : (a b c m n : Acts) → Grown a b m → Grown b c n → Grown a c (both_acts m n)
grown-one a b c m n h k = record { marked = keys-more a.marked b.marked c.marked m.marked n.marked h.marked k.marked; won = keys-more a.won b.won c.won m.won n.won h.won k.won }

pub grown-trans : (a b c m n : List Acts) → AllGrown a b m → AllGrown b c n → AllGrown a c (added m n)
grown-trans [] [] [] [] [] h k = tt
grown-trans (x ∷ a) (y ∷ b) (z ∷ c) (p ∷ m) (q ∷ n) h k = (grown-one x y z p q h.0 k.0, grown-trans a b c m n h.1 k.1)
grown-trans [] [] [] [] (q ∷ n) h k = absurd k
grown-trans [] [] [] (p ∷ m) n h k = absurd h
grown-trans [] [] (z ∷ c) [] [] h k = absurd k
grown-trans [] [] (z ∷ c) [] (q ∷ n) h k = absurd k
grown-trans [] [] (z ∷ c) (p ∷ m) n h k = absurd h
grown-trans [] (y ∷ b) c m n h k = absurd h
grown-trans (x ∷ a) [] c m n h k = absurd h
grown-trans (x ∷ a) (y ∷ b) [] m n h k = absurd k
grown-trans (x ∷ a) (y ∷ b) (z ∷ c) [] n h k = absurd h
grown-trans (x ∷ a) (y ∷ b) (z ∷ c) (p ∷ m) [] h k = absurd k

pub grown-length : (a b m : List Acts) → AllGrown a b m → length a ≡ length m
grown-length [] [] [] h = refl
grown-length (x ∷ a) (y ∷ b) (p ∷ m) h = omega (arith, grown-length a b m h.1)
grown-length [] [] (p ∷ m) h = absurd h
grown-length [] (y ∷ b) m h = absurd h
grown-length (x ∷ a) [] m h = absurd h
grown-length (x ∷ a) (y ∷ b) [] h = absurd h

-- ---- side by side

keys-beside : (x a m y b n : List ℕ) → SameKeys x (a ++ m) → SameKeys y (b ++ n) → SameKeys (x ++ y) ((a ++ b) ++ (m ++ n))
keys-beside x a m y b n h k = keys-by (λ w. omega (arith, keys-weigh h w, keys-weigh k w, total-append w a m, total-append w b n, total-append w x y, total-append w (a ++ b) (m ++ n), total-append w a b, total-append w m n))

pub rows-beside : (x a m y b n : List Row) → Same x (a ++ m) → Same y (b ++ n) → Same (x ++ y) ((a ++ b) ++ (m ++ n))
rows-beside x a m y b n h k = rows-by (λ w. omega (arith, weighs h w, weighs k w, total-append w a m, total-append w b n, total-append w x y, total-append w (a ++ b) (m ++ n), total-append w a b, total-append w m n))

grown-two : (a b m c d n : Acts) → Grown a b m → Grown c d n → Grown (both_acts a c) (both_acts b d) (both_acts m n)
grown-two a b m c d n h k = record {
  marked = keys-beside b.marked a.marked m.marked d.marked c.marked n.marked h.marked k.marked;
  won = keys-beside b.won a.won m.won d.won c.won n.won h.won k.won;
}

pub grown-beside : (a b m c d n : List Acts) → length a ≡ length c → AllGrown a b m → AllGrown c d n → AllGrown (added a c) (added b d) (added m n)
grown-beside [] [] [] [] [] [] e h k = tt
grown-beside (x ∷ a) (y ∷ b) (p ∷ m) (z ∷ c) (v ∷ d) (q ∷ n) e h k = (grown-two x y p z v q h.0 k.0, grown-beside a b m c d n (omega arith) h.1 k.1)
grown-beside [] b m (z ∷ c) d n e h k = absurd (omega arith)
grown-beside (x ∷ a) b m [] d n e h k = absurd (omega arith)
grown-beside [] (y ∷ b) m [] d n e h k = absurd h
grown-beside [] [] (p ∷ m) [] d n e h k = absurd h
grown-beside [] [] [] [] (v ∷ d) n e h k = absurd k
grown-beside [] [] [] [] [] (q ∷ n) e h k = absurd k
grown-beside (x ∷ a) [] m (z ∷ c) d n e h k = absurd h
grown-beside (x ∷ a) (y ∷ b) [] (z ∷ c) d n e h k = absurd h
grown-beside (x ∷ a) (y ∷ b) (p ∷ m) (z ∷ c) [] n e h k = absurd k
grown-beside (x ∷ a) (y ∷ b) (p ∷ m) (z ∷ c) (v ∷ d) [] e h k = absurd k

-- ---- no more was won than was marked

pub few-both : (a b : Acts) → Few a → Few b → Few (both_acts a b)
few-both a b h k = keys-within (λ w. omega (arith, keys-fewer h w, keys-fewer k w, total-append w a.marked b.marked, total-append w a.won b.won))

pub few-none : (ws : List Work) → AllFew (nothing ws)
few-none [] = tt
few-none (w ∷ ws) = (record { sums = λ f. omega arith }, few-none ws)

pub few-added : (a b : List Acts) → AllFew a → AllFew b → AllFew (added a b)
few-added [] b h k = k
few-added (x ∷ a) [] h k = h
few-added (x ∷ a) (y ∷ b) h k = (few-both x y h.0 k.0, few-added a b h.1 k.1)
