-- How many equations groups have.
use Rattle.std.proofs.Common.{◌≡◌, ℕ, suc, ◌+◌, ap, refl, ◌∙◌, List, [], ◌∷◌, length}
use Rattle.std.proofs.Common.{length-append}
use Rattle.poly_terms.specs.linear_forms.Questions.{Group, listed, line, equations}
use Rattle.poly_terms.proofs.linear_forms.ListLaws.{length-listed}
use Rattle.rule_questions.specs.GroupLines.{group_lines}

-- a line for each equation
pub equations-many : (before : ℕ) (gs : List Group) → length (equations before gs) ≡ group_lines gs
equations-many before [] = refl
equations-many before (g ∷ gs) =
    length-append (listed (suc g.unknowns) (line before g)) (equations (before + suc (length g.rows)) gs)
    ∙ (ap (λ (n : ℕ). n + length (equations (before + suc (length g.rows)) gs))
    (length-listed (suc g.unknowns) (line before g))
    ∙ ap (λ (n : ℕ). suc g.unknowns + n) (equations-many (before + suc (length g.rows)) gs))
