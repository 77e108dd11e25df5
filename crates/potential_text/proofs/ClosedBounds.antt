-- The innermost bound ends.
use Rattle.std.proofs.Common.{◌≡◌, ℕ, List, [], ◌∷◌, ◌++◌, Option, ap, ◌∙◌}
use Rattle.lexing_laws.specs.Lasts.{last_of, before_last}
use Rattle.lexing_laws.proofs.LastLaws.{last_append, before_append}
use Rattle.potential_text.specs.Bounds.{Opened, Parts, parts_ended, closed}

-- where one bound was opened after others, that one ends, and the others remain
pub closes_last : (divisor : ℕ) (p : Parts) (before : List Opened) (o : Opened) → p.opened ≡ before ++ o ∷ []
    → closed divisor (last_of p.opened) p ≡ parts_ended divisor o (record p { opened = before })
closes_last divisor p before o e =
    ap (λ (l : Option Opened). closed divisor l p) (ap last_of e ∙ last_append before o)
    ∙ ap (λ (os : List Opened). parts_ended divisor o (record p { opened = os })) (ap before_last e ∙ before_append before o)
