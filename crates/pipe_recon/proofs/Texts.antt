-- The pieces that are written are the compact text.
use Rattle.std.proofs.Common.{◌≡◌, ◌++◌, ℕ, List, [], ◌∷◌, ap, sym, ◌∙◌, codes, decimal}
use Rattle.std.proofs.lemmas.List.{append_assoc}
use Rattle.json.specs.Print.{escape_byte}
use Rattle.pipe_job.specs.Line.{line_of}
use Rattle.pipe_job.specs.Spelling.{list, whole}
use Rattle.pipe_recon.specs.declared.recon.Partner.{Partner}
use Rattle.pipe_recon.specs.declared.recon.Partner.TheVariants.{Matched, Only}
use Rattle.pipe_recon.specs.LineTexts.{class_text, side_text}
use Rattle.pipe_recon.specs.ReconLines.{row_line}
use Rattle.pipe_recon.specs.declared.lines.Side.{Side}
use Rattle.pipe_recon.specs.declared.lines.Side.TheVariants.{Left, Right}

abbrev newline : List ℕ
newline = 10 ∷ []

-- the newline behind a number that ends a line, and behind one that doesn't
number_ends : (n : ℕ) (rest : List ℕ) → decimal n ++ (rest ++ newline) ≡ (decimal n ++ rest) ++ newline
number_ends n rest = sym (append_assoc (decimal n) rest newline)

row_text : (side : Side) (i : ℕ) (class : Partner) → side_text side ++ (decimal i ++ class_text side class) ≡ row_line side i class
unfolding escape_byte
row_text Left i (Matched row) =
    ap (λ (s : List ℕ). codes "[\"left\"," ++ (decimal i ++ (codes ",\"matched\"," ++ s))) (number_ends row (93 ∷ []))
    ∙ ap (λ (s : List ℕ). codes "[\"left\"," ++ s) (number_ends i (codes ",\"matched\"," ++ (decimal row ++ 93 ∷ [])))
row_text Left i Only = ap (λ (s : List ℕ). codes "[\"left\"," ++ s) (number_ends i (codes ",\"left_only\",null]"))
row_text Right i (Matched row) =
    ap (λ (s : List ℕ). codes "[\"right\"," ++ (decimal i ++ (codes ",\"matched\"," ++ s))) (number_ends row (93 ∷ []))
    ∙ ap (λ (s : List ℕ). codes "[\"right\"," ++ s) (number_ends i (codes ",\"matched\"," ++ (decimal row ++ 93 ∷ [])))
row_text Right i Only = ap (λ (s : List ℕ). codes "[\"right\"," ++ s) (number_ends i (codes ",\"right_only\",null]"))

-- the pieces of a row's line, one after another
pub row_written : (old : List ℕ) (side : Side) (i : ℕ) (class : Partner) → ((old ++ side_text side) ++ decimal i) ++ class_text side class ≡ old ++ row_line side i class
row_written old side i class =
    append_assoc (old ++ side_text side) (decimal i) (class_text side class)
    ∙ append_assoc old (side_text side) (decimal i ++ class_text side class)
    ∙ ap (λ (s : List ℕ). old ++ s) (row_text side i class)

-- ---- the line of four numbers

-- a mark, a number, and what stands behind them
marked : (front mark : List ℕ) (n : ℕ) (rest : List ℕ) → ((front ++ mark) ++ decimal n) ++ rest ≡ front ++ (mark ++ (decimal n ++ rest))
marked front mark n rest = append_assoc (front ++ mark) (decimal n) rest ∙ append_assoc front mark (decimal n ++ rest)

abbrev comma : List ℕ
comma = 44 ∷ []

counts_text : (a b c d : ℕ) → 91 ∷ (decimal a ++ (44 ∷ (decimal b ++ (44 ∷ (decimal c ++ (44 ∷ (decimal d ++ (93 ∷ newline)))))))) ≡ line_of (list whole (a ∷ b ∷ c ∷ d ∷ []))
counts_text a b c d =
    ap (λ (s : List ℕ). 91 ∷ (decimal a ++ (44 ∷ (decimal b ++ (44 ∷ (decimal c ++ (44 ∷ s))))))) (number_ends d (93 ∷ []))
    ∙ ap (λ (s : List ℕ). 91 ∷ (decimal a ++ (44 ∷ (decimal b ++ (44 ∷ s))))) (number_ends c (44 ∷ (decimal d ++ 93 ∷ [])))
    ∙ ap (λ (s : List ℕ). 91 ∷ (decimal a ++ (44 ∷ s))) (number_ends b (44 ∷ (decimal c ++ (44 ∷ (decimal d ++ 93 ∷ [])))))
    ∙ ap (λ (s : List ℕ). 91 ∷ s) (number_ends a (44 ∷ (decimal b ++ (44 ∷ (decimal c ++ (44 ∷ (decimal d ++ 93 ∷ [])))))))

-- the pieces of the line, one after another
pub counts_written : (old : List ℕ) (a b c d : ℕ) → ((((((((old ++ (91 ∷ [])) ++ decimal a) ++ comma) ++ decimal b) ++ comma) ++ decimal c) ++ comma) ++ decimal d) ++ (93 ∷ newline) ≡ old ++ line_of (list whole (a ∷ b ∷ c ∷ d ∷ []))
counts_written old a b c d =
    marked ((((((old ++ (91 ∷ [])) ++ decimal a) ++ comma) ++ decimal b) ++ comma) ++ decimal c) comma d (93 ∷ newline)
    ∙ marked ((((old ++ (91 ∷ [])) ++ decimal a) ++ comma) ++ decimal b) comma c (44 ∷ (decimal d ++ (93 ∷ newline)))
    ∙ marked ((old ++ (91 ∷ [])) ++ decimal a) comma b (44 ∷ (decimal c ++ (44 ∷ (decimal d ++ (93 ∷ newline)))))
    ∙ marked old (91 ∷ []) a (44 ∷ (decimal b ++ (44 ∷ (decimal c ++ (44 ∷ (decimal d ++ (93 ∷ newline)))))))
    ∙ ap (λ (s : List ℕ). old ++ s) (counts_text a b c d)
