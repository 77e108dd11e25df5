-- The places of live rules, numbered in the order of rules and places.
use Rattle.std.specs.Prelude.{ℕ, suc, ◌+◌, Bool, cond, List, [], ◌∷◌, ◌++◌, map, length}
use Rattle.std.specs.List.{range_with_len}
use Rattle.cert_types.specs.cert_rules.Nodes.{ResultVariable}
use Rattle.local_size.specs.declared.answer.LocalAnswer.{LocalAnswer}

-- the number of places of each rule: as many as answers if it is live, else none
abbrev pub widths : List (List LocalAnswer) → List Bool → List ℕ
widths [] live = []
widths (l ∷ locals) [] = []
widths (l ∷ locals) (is_live ∷ live) = cond is_live (length l) 0 ∷ widths locals live

-- the number of the first place of each rule, if that of the first rule is k
abbrev pub firsts_from : ℕ → List ℕ → List ℕ
firsts_from k [] = []
firsts_from k (w ∷ ws) = k ∷ firsts_from (k + w) ws

-- this many places of a rule, from place i on
abbrev pub places_of : ℕ → ℕ → ℕ → List ResultVariable
places_of t i n = map (λ j. record { rule = t; place = j }) (range_with_len i n)

-- the places of rules with these numbers of places, the first of which is rule t
abbrev pub result_variables_by_width : ℕ → List ℕ → List ResultVariable
result_variables_by_width t [] = []
result_variables_by_width t (w ∷ ws) = places_of t 1 w ++ result_variables_by_width (suc t) ws
