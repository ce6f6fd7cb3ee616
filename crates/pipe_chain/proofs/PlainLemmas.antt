-- Where no operator marks, all is row by row.
use Rattle.std.proofs.Common.{◌≡◌, ℕ, List, [], ◌∷◌, ◌++◌, refl, ap, sym, ◌∙◌, arith}
use Rattle.std.specs.List.{flat_map}
use Rattle.std.proofs.lemmas.List.{append-nil}
use Rattle.pipe_schema.specs.Rows.{Row, Same}
use Rattle.pipe_schema.specs.Weights.{total}
use Rattle.pipe_schema.proofs.Weights.{total-flat_map, total-same}
use Rattle.pipe_chain.specs.Keys.{SameKeys}
use Rattle.pipe_chain.specs.Flow.{Work, Acts, made, Flows, Few, AllFew}
use Rattle.pipe_chain.specs.Unmarking.{AllUnmarking, through}
use Rattle.pipe_chain.proofs.Weighing.{rows-by, rows-trans, keys-weigh, keys-fewer}

single : (rows : List Row) → flat_map (λ row. row ∷ []) rows ≡ rows
single [] = refl
single (row ∷ rows) = ap (λ l. row ∷ l) (single rows)

one-more : (w : Work) (ws : List Work) (rows : List Row) → Same (flat_map (through ws) (flat_map w.each rows)) (flat_map (through (w ∷ ws)) rows)
one-more w ws rows = rows-by (λ f.
    total-flat_map (through ws) f (flat_map w.each rows)
    ∙ total-flat_map w.each (λ row. total f (through ws row)) rows
    ∙ sym (total-same _ _ rows (λ row. total-flat_map (through ws) f (w.each row)))
    ∙ sym (total-flat_map (through (w ∷ ws)) f rows))

-- no key for any row
pub no-asks : (asks : Row → List ℕ) (rows : List Row) → ((row : Row) → asks row ≡ []) → flat_map asks rows ≡ []
no-asks asks [] none = refl
no-asks asks (row ∷ rows) none = ap (λ l. l ++ flat_map asks rows) (none row) ∙ no-asks asks rows none

light : (xs : List ℕ) → total (λ x. 1) xs ≡ 0 → xs ≡ []
light [] e = refl
light (x ∷ xs) e = absurd (omega arith)

-- what marked nothing won nothing
pub none-won : (a : Acts) → Few a → (asks : Row → List ℕ) (rows : List Row) → ((row : Row) → asks row ≡ []) → SameKeys a.marked (flat_map asks rows) → a.won ≡ []
none-won a few asks rows none marked =
    let weigh : ℕ → ℕ = λ x. 1 in
    light a.won (omega (arith, keys-fewer few weigh, keys-weigh marked weigh, ap (total weigh) (no-asks asks rows none)))

pub plain-flows : (ws : List Work) (acts : List Acts) (rows out : List Row) → AllUnmarking ws → AllFew acts → Flows ws acts rows out → Same out (flat_map (through ws) rows)
plain-flows [] [] rows out plain few f = rw (single rows) f
plain-flows [] (a ∷ acts) rows out plain few f = absurd f
plain-flows (w ∷ ws) [] rows out plain few f = absurd f
plain-flows (w ∷ ws) (a ∷ acts) rows out plain few f =
    let none : a.won ≡ [] = none-won a few.0 w.asks rows plain.0 f.0 in
    let each : made w a.won rows ≡ flat_map w.each rows = rw none (append-nil (flat_map w.each rows)) in
    rows-trans (rw each at (plain-flows ws acts (made w a.won rows) out plain.1 few.1 f.1)) (one-more w ws rows)
