-- The rules below those of a program that simulates another.
use Rattle.std.specs.Prelude.{ℕ, zero, suc, ◌==◌, if◌then◌else◌, List, [], ◌∷◌, ◌++◌, length, map, Option, Some, None}
use Rattle.model.specs.Programs.{Program, Rule, rule_at}
use Rattle.refinement.specs.Sections.{Cases, To, Never, If, Branch, Section, rule_copies}

-- so many numbers, from t on
abbrev pub numbers_from : ℕ → ℕ → List ℕ
numbers_from t zero = []
numbers_from t (suc n) = t ∷ numbers_from (suc t) n

-- for each rule of the program that a section spells, in order, the number of the rule that it is a copy of; without a
-- section the rules are those of the program itself, numbered from 1
abbrev pub numbers_below : Program → Option Section → List ℕ
numbers_below p None = numbers_from 1 (length p.rules)
numbers_below p (Some s) = map (λ c. c.of_rule) (rule_copies p s s.branches)

-- a rule, once for each path of cases to a copy
abbrev pub numbers_along : ℕ → Cases → List ℕ
numbers_along rule (To copy) = rule ∷ []
numbers_along rule Never = []
numbers_along rule (If test yes_cases no_cases) = numbers_along rule yes_cases ++ numbers_along rule no_cases

-- the rule of a branch, if there is such a rule, once for each of its copies
abbrev pub numbers_if : ℕ → Cases → Option Rule → List ℕ
numbers_if rule cases None = []
numbers_if rule cases (Some r) = numbers_along rule cases

abbrev pub branch_numbers : Program → Branch → List ℕ
branch_numbers p b = numbers_if b.rule b.cases (rule_at p b.rule)

-- the rules of all branches, in order
abbrev pub all_numbers : Program → List Branch → List ℕ
all_numbers p [] = []
all_numbers p (b ∷ branches) = branch_numbers p b ++ all_numbers p branches

-- the numbers of the rules that have this rule below them, where the first of these has number t
abbrev pub positions : ℕ → ℕ → List ℕ → List ℕ
positions rule t [] = []
positions rule t (b ∷ below) = if b == rule then t ∷ positions rule (suc t) below else positions rule (suc t) below
