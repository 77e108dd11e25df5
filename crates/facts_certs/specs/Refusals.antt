-- The section of facts has the shape of a section: what can be wrong with it is that a limit is passed, or a certificate.
use Rattle.std.specs.Prelude.{List, map, ⊤}
use Rattle.refined_programs.specs.model.Programs.{Program}
use Rattle.refined_programs.specs.refinement.Obligations.{HasFirstCopy}
use Rattle.refined_programs.specs.Annotated as annotated
use Rattle.section_checks.specs.Faults.{Fault, WrongStart, WrongFacts, WrongBranch, WrongTest, WrongShape, WrongRules}
use Rattle.section_checks.specs.Faults.{OverLimit, NotNever, NotFact, IsFirstFault, branch_checks, due, ends_of}
use Rattle.section_checks.specs.Faults.{fact_checks, rules_checks, shape_checks, test_checks}
use Rattle.cert_rules.specs.Reasons.{AllPass}
use Rattle.location_facts.specs.declared.fact.LocFact.{LocFact}
use Rattle.facts_section.specs.Copies.{IsSectionOfFacts}

-- the first copy is of the start symbol and has no facts, each fact has a coefficient for each place, the branches are
-- the required ones, their tests and ends have their shapes, and the number of rules is right
pub record HasShape (p : Program) (s : annotated.Section) : Type 0 where
  pub start : HasFirstCopy p (annotated.section_of s)
  pub facts : AllPass (fact_checks p 1 s.copies)
  pub branches : AllPass (branch_checks 1 s.branches (due p 0 s.copies))
  pub tests : AllPass (test_checks p 1 s.branches)
  pub ends : AllPass (shape_checks (map annotated.copy_of s.copies) 1 (ends_of p s s.branches))
  pub rules : AllPass (rules_checks (ends_of p s s.branches))

-- a fault says that a rule is over the limits, that the multipliers of an end aren't as many as its rows or one is over
-- the limit, or that multipliers don't show a fact
abbrev pub IsOfLimitOrMultipliers : Fault → Type 0
IsOfLimitOrMultipliers WrongStart = ⊥
IsOfLimitOrMultipliers (WrongFacts copy) = ⊥
IsOfLimitOrMultipliers (WrongBranch branch) = ⊥
IsOfLimitOrMultipliers (WrongTest branch) = ⊥
IsOfLimitOrMultipliers (WrongShape end) = ⊤
IsOfLimitOrMultipliers WrongRules = ⊥
IsOfLimitOrMultipliers (OverLimit end) = ⊤
IsOfLimitOrMultipliers (NotNever end) = ⊥
IsOfLimitOrMultipliers (NotFact end fact) = ⊤

-- a section of the facts, with some multipliers, isn't accepted, although its shape is right: its first fault is a limit,
-- or in its multipliers
pub record HasRefusedSection (p : Program) (kept : List LocFact) : Type 0 where
  pub section : annotated.Section
  pub of_facts : IsSectionOfFacts p kept (annotated.section_of section)
  pub shape : HasShape p section
  pub fault : Fault
  pub first : IsFirstFault p section fault
  pub kind : IsOfLimitOrMultipliers fault
