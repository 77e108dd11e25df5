-- The parts of lines of a report: lists with commas, numbers, points and numbered lines.
use Rattle.std.specs.Prelude.{ℕ, suc, List, [], ◌∷◌, ◌++◌, ℤ, map, codes, decimal}
use Rattle.std.specs.Fmt.{signed_decimal}
use Rattle.cert_types.specs.cert_rules.Nodes.{ResultVariable}
use Rattle.cert_types.specs.cert_rules.Gaps.{ScaledPoint}

-- a comma and a blank before each word
abbrev pub with_commas_before : List (List ℕ) → List ℕ
with_commas_before [] = []
with_commas_before (word ∷ words) = codes ", " ++ (word ++ with_commas_before words)

-- the words, with a comma and a blank between them
abbrev pub with_commas : List (List ℕ) → List ℕ
with_commas [] = []
with_commas (word ∷ words) = word ++ with_commas_before words

-- the numbers of rules
abbrev pub rules_text : List ℕ → List ℕ
rules_text rules = with_commas (map decimal rules)

-- the numbers of a point or a ray, in brackets
abbrev pub parts_text : List ℤ → List ℕ
parts_text parts = codes "(" ++ (with_commas (map signed_decimal parts) ++ codes ")")

-- a point: its numbers over their denominator
abbrev pub point_text : ScaledPoint → List ℕ
point_text p = parts_text p.parts ++ (codes " / " ++ decimal p.den)

-- a rule and a place
abbrev pub place_text : ℕ → ℕ → List ℕ
place_text rule place = decimal rule ++ (codes "." ++ decimal place)

abbrev pub result_variable_text : ResultVariable → List ℕ
result_variable_text s = place_text s.rule s.place

-- for each element its lines, by its number, counted up from the first one's
abbrev pub numbered_lines : {X : Type 0} → (ℕ → X → List ℕ) → ℕ → List X → List ℕ
numbered_lines lines n [] = []
numbered_lines lines n (x ∷ xs) = lines n x ++ numbered_lines lines (suc n) xs
