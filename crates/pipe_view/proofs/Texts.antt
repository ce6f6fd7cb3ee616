-- The pieces that are written are the compact text.
use Rattle.std.proofs.Common.{◌≡◌, ◌++◌, ℕ, List, [], ◌∷◌, ap, sym, ◌∙◌, codes, decimal}
use Rattle.std.proofs.lemmas.List.{append_assoc}
use Rattle.json.specs.Print.{escape_byte}
use Rattle.pipe_view.specs.EditLines.{absent_line, edit_line}

abbrev newline : List ℕ
newline = 10 ∷ []

number_ends : (n : ℕ) (rest : List ℕ) → decimal n ++ (rest ++ newline) ≡ (decimal n ++ rest) ++ newline
number_ends n rest = sym (append_assoc (decimal n) rest newline)

-- a mark, a number, and what stands behind them
marked : (front mark : List ℕ) (n : ℕ) (rest : List ℕ) → ((front ++ mark) ++ decimal n) ++ rest ≡ front ++ (mark ++ (decimal n ++ rest))
marked front mark n rest = append_assoc (front ++ mark) (decimal n) rest ∙ append_assoc front mark (decimal n ++ rest)

abbrev comma : List ℕ
comma = 44 ∷ []

abbrev ends : List ℕ
ends = 93 ∷ newline

edit_text : (a b c : ℕ) → codes "[\"edit\"," ++ (decimal a ++ (44 ∷ (decimal b ++ (44 ∷ (decimal c ++ ends))))) ≡ edit_line a b c
unfolding escape_byte
edit_text a b c =
    ap (λ (s : List ℕ). codes "[\"edit\"," ++ (decimal a ++ (44 ∷ (decimal b ++ (44 ∷ s))))) (number_ends c (93 ∷ []))
    ∙ ap (λ (s : List ℕ). codes "[\"edit\"," ++ (decimal a ++ (44 ∷ s))) (number_ends b (44 ∷ (decimal c ++ 93 ∷ [])))
    ∙ ap (λ (s : List ℕ). codes "[\"edit\"," ++ s) (number_ends a (44 ∷ (decimal b ++ (44 ∷ (decimal c ++ 93 ∷ [])))))

absent_text : (a : ℕ) → codes "[\"absent\"," ++ (decimal a ++ ends) ≡ absent_line a
unfolding escape_byte
absent_text a = ap (λ (s : List ℕ). codes "[\"absent\"," ++ s) (number_ends a (93 ∷ []))

pub edit_written : (old : List ℕ) (a b c : ℕ) → ((((((old ++ codes "[\"edit\",") ++ decimal a) ++ comma) ++ decimal b) ++ comma) ++ decimal c) ++ ends ≡ old ++ edit_line a b c
edit_written old a b c =
    marked ((((old ++ codes "[\"edit\",") ++ decimal a) ++ comma) ++ decimal b) comma c ends
    ∙ marked ((old ++ codes "[\"edit\",") ++ decimal a) comma b (44 ∷ (decimal c ++ ends))
    ∙ marked old (codes "[\"edit\",") a (44 ∷ (decimal b ++ (44 ∷ (decimal c ++ ends))))
    ∙ ap (λ (s : List ℕ). old ++ s) (edit_text a b c)

pub absent_written : (old : List ℕ) (a : ℕ) → ((old ++ codes "[\"absent\",") ++ decimal a) ++ ends ≡ old ++ absent_line a
absent_written old a = marked old (codes "[\"absent\",") a ends ∙ ap (λ (s : List ℕ). old ++ s) (absent_text a)
