-- The first fault of a section, stage by stage: of its shape, and of its ends.
use Rattle.std.specs.Prelude.{[], ◌∷◌, List, map, Option}
use Rattle.refined_programs.specs.model.Programs.{Program}
use Rattle.refined_programs.specs.refinement.Sections as plain
use Rattle.refined_programs.specs.Annotated.{Copy, Branch, Section, copy_of}
use Rattle.section_checks.specs.Faults.{Fault, WrongStart, WrongRules, BranchEnd, due, ends_of}
use Rattle.cert_rules.specs.Tests.{test, first_failing}
use Rattle.section_decide.specs.Deciding.{starts_right, fact_tests, branch_tests, width_tests, shape_tests}
use Rattle.section_decide.specs.Deciding.{are_rules_right, limit_tests, certificate_tests, or_then, first_in_stages}

-- the first fault of branches or their tests
abbrev pub branches_fault_of : Program → List Copy → List Branch → Option Fault
branches_fault_of p copies branches =
    or_then (first_failing (branch_tests 1 branches (due p 0 copies))) (first_failing (width_tests p 1 branches))

-- the first fault of facts, branches or their tests
abbrev pub facts_fault_of : Program → List Copy → List Branch → Option Fault
facts_fault_of p copies branches =
    or_then (first_failing (fact_tests p 1 copies)) (branches_fault_of p copies branches)

-- the first fault of the start, the facts, the branches or their tests
abbrev pub shape_fault_of : Program → Section → Option Fault
shape_fault_of p s =
    or_then (first_failing (test WrongStart (starts_right p s.copies) ∷ [])) (facts_fault_of p s.copies s.branches)

-- the first fault of the limits or the certificates of ends
abbrev pub guards_fault_by : List plain.Copy → List BranchEnd → Option Fault
guards_fault_by copies es =
    or_then (first_failing (limit_tests copies 1 es)) (first_in_stages (certificate_tests copies 1 es))

-- the first fault of the number, the limits or the certificates of ends
abbrev pub rules_fault_by : List plain.Copy → List BranchEnd → Option Fault
rules_fault_by copies es =
    or_then (first_failing (test WrongRules (are_rules_right es) ∷ [])) (guards_fault_by copies es)

-- the first fault of the shape, the number, the limits or the certificates of ends
abbrev pub ends_fault_by : List plain.Copy → List BranchEnd → Option Fault
ends_fault_by copies es = or_then (first_failing (shape_tests copies 1 es)) (rules_fault_by copies es)

-- the first fault of the ends of a section
abbrev pub ends_fault_of : Program → Section → Option Fault
ends_fault_of p s = ends_fault_by (map copy_of s.copies) (ends_of p s s.branches)
