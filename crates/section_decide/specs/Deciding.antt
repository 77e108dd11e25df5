-- Decides by computation which fault of a section is the first: a test for each check, stage by stage.
use Rattle.std.specs.Prelude.{ℕ, suc, ◌+◌, ◌==◌, ◌&&◌, nat_lt, nat_le, Bool, true, false, List, [], ◌∷◌, length, map}
use Rattle.std.specs.Prelude.{Option, Some, None, slice_get, is_none}
use Rattle.std.specs.List.{list_all}
use Rattle.section_checks.specs.refined_programs.model.Terms.{Term, Literal, Variable, Negation, Addition, Subtraction}
use Rattle.section_checks.specs.refined_programs.model.Terms.{Multiplication, Exponentiation}
use Rattle.section_checks.specs.refined_programs.model.Limits.{rule_limit, atom_limit}
use Rattle.section_checks.specs.refined_programs.model.Programs.{Atom, Always, Compare, Rule, Program, rule_at}
use Rattle.section_checks.specs.refined_programs.model.Programs.{arity_of}
use Rattle.section_checks.specs.refined_programs.refinement.Sections.{Copy}
use Rattle.section_checks.specs.refined_programs.refinement.Obligations.{guard_along}
use Rattle.section_checks.specs.refined_programs.poly_terms.Faults.{first_fault}
use Rattle.section_checks.specs.refined_programs.its_model.Valid.{difference_of, cost_atoms}
use Rattle.section_checks.specs.refined_programs.its_model.linear_forms.Forms.{Form}
use Rattle.section_checks.specs.refined_programs.Annotated as annotated
use Rattle.section_checks.specs.refined_programs.Annotated.{Cases, To, Never, If, Branch, Section, copy_of}
use Rattle.section_checks.specs.refined_programs.Ends.{Goal, AtCopy, Nowhere, End}
use Rattle.section_checks.specs.refinement_rows.linear_forms.Certificates.{minus_one}
use Rattle.section_checks.specs.refinement_rows.guard_prep.Prepared.{rows_of}
use Rattle.section_checks.specs.refinement_rows.Certified.{with_guard}
use Rattle.cert_rules.specs.Tests.{TestOf, test, first_failing}
use Rattle.cert_rules.specs.NumberTests.{are_in_limit, implies}
use Rattle.section_checks.specs.Faults.{Fault, WrongStart, WrongFacts, WrongBranch, WrongTest, WrongShape, WrongRules}
use Rattle.section_checks.specs.Faults.{OverLimit, Due, due, variables_in, BranchEnd, ends_of, rules_among}
use Rattle.section_checks.specs.Faults.{leaves_start}
use Rattle.section_checks.specs.Faults.{Obligation, obligations_of}

-- a test of a section
abbrev pub Test : Type 0
Test = TestOf Fault

-- a test for each element of a list, the first of which has number k
abbrev pub numbered_tests : {A : Type 0} → (ℕ → A → Test) → ℕ → List A → List Test
numbered_tests f k [] = []
numbered_tests f k (x ∷ xs) = f k x ∷ numbered_tests f (suc k) xs

-- there is a first copy, of the start symbol, without facts
abbrev pub starts_right : Program → List annotated.Copy → Bool
starts_right p [] = false
starts_right p (c ∷ copies) = (c.over == p.start) && (length c.facts == 0)

-- a form has n coefficients
abbrev pub is_wide : ℕ → Form → Bool
is_wide n f = length f.coefs == n

-- the test that each fact of a copy has a coefficient for each place of the symbol below
abbrev pub fact_test : Program → ℕ → annotated.Copy → Test
fact_test p k c = test (WrongFacts k) (list_all (is_wide (arity_of p c.over)) c.facts)

abbrev pub fact_tests : Program → ℕ → List annotated.Copy → List Test
fact_tests p k copies = numbered_tests (fact_test p) k copies

-- the branch is the required one
abbrev pub is_due : Branch → Due → Bool
is_due b d = (b.source == d.source) && (b.rule == d.rule)

-- the tests that each branch is the required one, and that none is missing at the end
abbrev pub branch_tests : ℕ → List Branch → List Due → List Test
branch_tests k [] [] = []
branch_tests k [] (d ∷ ds) = test (WrongBranch k) false ∷ []
branch_tests k (b ∷ branches) [] = test (WrongBranch k) false ∷ []
branch_tests k (b ∷ branches) (d ∷ ds) = test (WrongBranch k) (is_due b d) ∷ branch_tests (suc k) branches ds

-- each test among cases has n coefficients
abbrev pub are_tests_wide : ℕ → Cases → Bool
are_tests_wide n (To copy by) = true
are_tests_wide n (Never by) = true
are_tests_wide n (If form yes_cases no_cases) =
    is_wide n form && (are_tests_wide n yes_cases && are_tests_wide n no_cases)

-- the test that each test of a branch has a coefficient for each variable of its rule
abbrev pub width_test : Program → ℕ → Branch → Test
width_test p k b = test (WrongTest k) (are_tests_wide (variables_in (rule_at p b.rule)) b.cases)

abbrev pub width_tests : Program → ℕ → List Branch → List Test
width_tests p k branches = numbered_tests (width_test p) k branches

-- the copy and the rule exist, the copy is one of the rule's target, and there are as many lists of multipliers as
-- facts
abbrev pub fits_at : Option Copy → Option Rule → List (List ℕ) → Bool
fits_at (Some copy) (Some r) by = (copy.over == r.target) && (length by == length copy.facts)
fits_at (Some copy) None by = false
fits_at None (Some r) by = false
fits_at None None by = false

-- an end is at a copy of the rule's target, or nowhere
abbrev pub goal_fits : List Copy → Option Rule → Goal → Bool
goal_fits copies r (Nowhere by) = true
goal_fits copies r (AtCopy k by) = fits_at (slice_get copies k) r by

-- the test that an end has its shape
abbrev pub shape_test : List Copy → ℕ → BranchEnd → Test
shape_test copies n e = test (WrongShape n) (goal_fits copies e.rule e.end.goal)

abbrev pub shape_tests : List Copy → ℕ → List BranchEnd → List Test
shape_tests copies n es = numbered_tests (shape_test copies) n es

-- there are few enough rules, and one leaves the start
abbrev pub are_rules_right : List BranchEnd → Bool
are_rules_right es = nat_le (rules_among es) rule_limit && leaves_start es

-- each variable of an expression is below n
abbrev pub reads_below : ℕ → Term → Bool
reads_below n (Literal z) = true
reads_below n (Variable i) = nat_lt i n
reads_below n (Negation e) = reads_below n e
reads_below n (Addition d e) = reads_below n d && reads_below n e
reads_below n (Subtraction d e) = reads_below n d && reads_below n e
reads_below n (Multiplication d e) = reads_below n d && reads_below n e
reads_below n (Exponentiation e k) = reads_below n e

-- an atom always holds, or is a comparison over the variables below n, whose difference can be expanded
abbrev pub is_valid_atom : ℕ → Atom → Bool
is_valid_atom n Always = true
is_valid_atom n (Compare d r e) =
    reads_below n d && (reads_below n e && is_none (first_fault (difference_of d r e)))

-- the guard of a rule has at most 64 atoms, its cost counted as one, and each is valid
abbrev pub is_within_limits : Rule → Bool
is_within_limits r =
    nat_le (length r.guard + cost_atoms r.cost) atom_limit && list_all (is_valid_atom (r.left + r.free)) r.guard

-- the rule of an end is within the limits, where there is one
abbrev pub is_end_within : Option Rule → End → Bool
is_end_within None e = true
is_end_within (Some r) e = is_within_limits (with_guard r (guard_along r e.atoms))

-- the test that the rule of an end and those of its obligations are within the limits
abbrev pub limit_test : List Copy → ℕ → BranchEnd → Test
limit_test copies n e =
    test (OverLimit n) (is_end_within e.rule e.end
    && list_all (λ o. is_within_limits o.rule) (obligations_of copies n e.rule e.end))

abbrev pub limit_tests : List Copy → ℕ → List BranchEnd → List Test
limit_tests copies n es = numbered_tests (limit_test copies) n es

-- there is a multiplier for each row, and none is too large
abbrev pub fits_rows : Obligation → Bool
fits_rows o = (length o.by == length (rows_of o.rule)) && are_in_limit o.by

-- the tests that the multipliers of the obligations of end n fit, and show that -1 follows from the rows
abbrev pub obligation_tests : ℕ → List Obligation → List Test
obligation_tests n [] = []
obligation_tests n (o ∷ os) =
    test (WrongShape n) (fits_rows o) ∷ test o.fault (implies (rows_of o.rule) o.by minus_one)
    ∷ obligation_tests n os

-- the tests of the obligations of each end, stage by stage
abbrev pub certificate_tests : List Copy → ℕ → List BranchEnd → List (List Test)
certificate_tests copies n [] = []
certificate_tests copies n (e ∷ es) =
    obligation_tests n (obligations_of copies n e.rule e.end) ∷ certificate_tests copies (suc n) es

-- the tests of all stages
abbrev pub tests : Program → Section → List (List Test)
tests p s =
    (test WrongStart (starts_right p s.copies) ∷ [])
    ∷ fact_tests p 1 s.copies
    ∷ branch_tests 1 s.branches (due p 0 s.copies)
    ∷ width_tests p 1 s.branches
    ∷ shape_tests (map copy_of s.copies) 1 (ends_of p s s.branches)
    ∷ (test WrongRules (are_rules_right (ends_of p s s.branches)) ∷ [])
    ∷ limit_tests (map copy_of s.copies) 1 (ends_of p s s.branches)
    ∷ certificate_tests (map copy_of s.copies) 1 (ends_of p s s.branches)

-- the first fault if there is one, or else the second
abbrev pub or_then : Option Fault → Option Fault → Option Fault
or_then (Some fault) later = Some fault
or_then None later = later

-- the fault of the first test that fails, stage by stage, if one does
abbrev pub first_in_stages : List (List Test) → Option Fault
first_in_stages [] = None
first_in_stages (ts ∷ stages) = or_then (first_failing ts) (first_in_stages stages)

-- the first fault of a section, if it has one
abbrev pub section_fault : Program → Section → Option Fault
section_fault p s = first_in_stages (tests p s)
