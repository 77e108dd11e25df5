-- Faults, required branches, ends and obligations of the code as plain data.
use Rattle.std.specs.Prelude.{ℕ, suc, List, [], ◌∷◌, ◌++◌, map, slice_get, ⊤}
use Rattle.refinement_check.specs.declared.fault.SectionFault.{SectionFault}
use Rattle.refinement_check.specs.declared.fault.SectionFault.TheVariants as variants
use Rattle.refinement_check.specs.declared.fault.AcceptError.{AcceptError}
use Rattle.refinement_check.specs.declared.fault.AcceptError.TheVariants.{Wrong, Memory}
use Rattle.refinement_check.specs.declared.due.Due as declared_due
use Rattle.refinement_check.specs.declared.ends.NumberedEnd as declared_end
use Rattle.refinement_check.specs.declared.certificates.Obligation as declared_obligation
use Rattle.refined_programs.specs.model.Terms.{Term}
use Rattle.refined_programs.specs.model.Programs.{Rule, Program, rule_at}
use Rattle.refined_programs.specs.refinement.Sections as plain
use Rattle.refined_programs.specs.refinement.Sections.{passes, fails, facts_in, facts_of}
use Rattle.refined_programs.specs.refinement.Obligations.{moved}
use Rattle.refined_programs.specs.its_model.Views.{rule_of}
use Rattle.refined_programs.specs.Annotated.{Branch, Section}
use Rattle.refinement_rows.specs.Certified.{with_guard}
use Rattle.refined_programs.specs.Ends.{Goal, AtCopy, Nowhere, End, ends, end_of}
use Rattle.section_checks.specs.Faults.{Fault, WrongStart, WrongFacts, WrongBranch, WrongTest, WrongShape, WrongRules}
use Rattle.section_checks.specs.Faults.{OverLimit, NotNever, NotFact, IsFirstFault, Due, BranchEnd, Obligation}

-- a fault as plain data
abbrev pub fault_of : SectionFault → Fault
fault_of variants.Start = WrongStart
fault_of (variants.Facts copy) = WrongFacts copy
fault_of (variants.Branch branch) = WrongBranch branch
fault_of (variants.Test branch) = WrongTest branch
fault_of (variants.Shape end) = WrongShape end
fault_of variants.Rules = WrongRules
fault_of (variants.Limit end) = OverLimit end
fault_of (variants.Never end) = NotNever end
fault_of (variants.Fact end fact) = NotFact end fact

-- the error is the first fault of the section, or that an allocation failed
abbrev pub SaysFirst : Program → Section → AcceptError → Type 0
SaysFirst p s (Wrong fault) = IsFirstFault p s (fault_of fault)
SaysFirst p s Memory = ⊤

-- a required branch as plain data
abbrev pub due_of : declared_due.Due → Due
due_of d = record { source = d.source; rule = d.rule }

-- an end of a branch, with the numbers of the copy that it leaves and of its rule
pub record NumberedEnd : Type 0 where
  pub source : ℕ
  pub rule : ℕ
  pub end : End

-- the end with the rule itself, if there is one
abbrev pub placed : Program → NumberedEnd → BranchEnd
placed p e = record { source = e.source; rule = rule_at p e.rule; end = e.end }

-- an end as plain data
abbrev pub numbered_end_of : declared_end.NumberedEnd → NumberedEnd
numbered_end_of e = record { source = e.source; rule = e.rule; end = end_of e.end }

-- an end of a branch, with its numbers
abbrev pub numbered : ℕ → ℕ → End → NumberedEnd
numbered source rule e = record { source = source; rule = rule; end = e }

-- the ends of a branch, in order
abbrev pub numbered_ends_of_branch : plain.Section → Branch → List NumberedEnd
numbered_ends_of_branch s b =
    map (numbered b.source b.rule) (ends (map passes (facts_of s b.source)) b.cases)

-- the ends of all branches, in order
abbrev pub numbered_ends : plain.Section → List Branch → List NumberedEnd
numbered_ends s [] = []
numbered_ends s (b ∷ branches) = numbered_ends_of_branch s b ++ numbered_ends s branches

-- the copy that an end leaves, if the end is at a copy
abbrev pub sources_by : ℕ → Goal → List ℕ
sources_by source (AtCopy k by) = source ∷ []
sources_by source (Nowhere by) = []

-- the copies that the ends at copies leave, in order
abbrev pub sources_of : List NumberedEnd → List ℕ
sources_of [] = []
sources_of (e ∷ es) = sources_by e.source e.end.goal ++ sources_of es

-- an obligation as plain data
abbrev pub obligation_of : declared_obligation.Obligation → Obligation
obligation_of o = record { rule = rule_of o.rule; by = o.by.items; fault = fault_of o.fault }

-- the rule with one more atom: that the fact fails at the new values
abbrev pub denied : Rule → Term → Rule
denied along fact = with_guard along (along.guard ++ fails (moved fact along.updates) ∷ [])

-- the obligation of a fact of an end's copy, for the rule along the path to the copy
abbrev pub obligation_along : Rule → Term → List ℕ → ℕ → ℕ → Obligation
obligation_along along fact by n j = record { rule = denied along fact; by = by; fault = NotFact n j }

-- the obligations of facts, of which the first has number j
abbrev pub obligations_of_facts : ℕ → ℕ → Rule → List Term → List (List ℕ) → List Obligation
obligations_of_facts n j along [] by = []
obligations_of_facts n j along (f ∷ facts) [] = []
obligations_of_facts n j along (f ∷ facts) (ms ∷ by) = obligation_along along f ms n j ∷ obligations_of_facts n (suc j) along facts by

-- the obligations of an end, for the rule along its path: that of the guard if the end is nowhere, those of the facts
-- if it is at a copy
abbrev pub obligations_by : List plain.Copy → ℕ → Rule → Goal → List Obligation
obligations_by copies n along (Nowhere by) = record { rule = along; by = by; fault = NotNever n } ∷ []
obligations_by copies n along (AtCopy k by) = obligations_of_facts n 1 along (facts_in (slice_get copies k)) by
