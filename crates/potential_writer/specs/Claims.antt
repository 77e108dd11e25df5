-- The texts of claims.
use Rattle.std.specs.Prelude.{ℕ, List, [], ◌∷◌, ◌++◌, codes, decimal}
use Rattle.program_claims.specs.Claims.{Support, ByOne, ByEach, Claim, OnTime, OnCost, OnTotal, OnAbove, OnBelow, OnSymbol}
use Rattle.signed_bounds.specs.Bounds.{Signed}
use Rattle.section_writer.specs.Lists.{number_list}
use Rattle.potential_writer.specs.Bounds.{bound_text}

-- the facts that are cited
abbrev pub support_text : Support → List ℕ
support_text (ByOne n) = decimal n
support_text (ByEach ns bound) = number_list ns ++ (codes " to " ++ bound_text bound)

-- a rule and a place, the facts that are cited for each copy, and the bound
unfoldable pub side_text : ℕ → ℕ → List ℕ → Signed → List ℕ
side_text rule place ns bound = decimal rule ++ (codes "." ++ (decimal place ++ (codes " by " ++ (number_list ns
    ++ (codes " to " ++ bound_text bound)))))

-- the line of a claim; a claim on a symbol has none
abbrev pub claim_line : Claim → List ℕ
claim_line (OnTime rule by) = codes "claim time " ++ (decimal rule ++ (codes " by " ++ (support_text by ++ codes "\n")))
claim_line (OnCost rule by) = codes "claim cost " ++ (decimal rule ++ (codes " by " ++ (support_text by ++ codes "\n")))
claim_line (OnTotal by) = codes "claim total by " ++ (support_text by ++ codes "\n")
claim_line (OnAbove rule place ns bound) = codes "claim above " ++ (side_text rule place ns bound ++ codes "\n")
claim_line (OnBelow rule place ns bound) = codes "claim below " ++ (side_text rule place ns bound ++ codes "\n")
claim_line (OnSymbol symbol form) = []

-- the lines of claims
abbrev pub claim_lines : List Claim → List ℕ
claim_lines [] = []
claim_lines (c ∷ claims) = claim_line c ++ claim_lines claims
