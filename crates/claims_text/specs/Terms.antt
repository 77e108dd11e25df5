-- The text of an expression over the places of a symbol.
use Rattle.std.specs.Prelude.{ℕ, ◌+◌, List, ◌++◌, map, codes, decimal}
use Rattle.std.specs.Fmt.{signed_decimal}
use Rattle.std.specs.List.{range_with_len}
use Rattle.poly_terms.specs.model.Programs.{Name}
use Rattle.poly_terms.specs.model.Terms.{Term, Literal, Variable, Negation, Addition, Subtraction, Multiplication}
use Rattle.poly_terms.specs.model.Terms.{Exponentiation}
use Rattle.its_model.specs.model.Limits.{place_limit}
use Rattle.signed_text.specs.Polynomials.{variable_text}

-- the names of as many places as a symbol may have, by their numbers from 1 on
abbrev pub place_names : List Name
place_names = map (λ place. codes "x" ++ decimal (place + 1)) (range_with_len 0 place_limit)

-- an expression over variables with these names: each part that isn't a number or a variable is in brackets
abbrev pub term_text : List Name → Term → List ℕ
term_text names (Literal z) = signed_decimal z
term_text names (Variable i) = variable_text names i
term_text names (Negation t) = codes "(-" ++ (term_text names t ++ codes ")")
term_text names (Addition s t) = codes "(" ++ (term_text names s ++ (codes " + " ++ (term_text names t ++ codes ")")))
term_text names (Subtraction s t) = codes "(" ++ (term_text names s ++ (codes " - " ++ (term_text names t ++ codes ")")))
term_text names (Multiplication s t) = codes "(" ++ (term_text names s ++ (codes "*" ++ (term_text names t ++ codes ")")))
term_text names (Exponentiation t exponent) =
    codes "(" ++ (term_text names t ++ (codes "^" ++ (decimal exponent ++ codes ")")))
