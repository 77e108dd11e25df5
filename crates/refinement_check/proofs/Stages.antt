-- The first fault, stage by stage.
use Rattle.std.proofs.Common.{◌≡◌, [], ◌∷◌, Option, Some, None, refl, sym, ◌∙◌, ap, subst}
use Rattle.std.specs.Prelude.{Result, Ok, Err, IfOk, option_map}
use Rattle.refined_programs.specs.model.Programs.{Program}
use Rattle.refined_programs.specs.Annotated.{Section}
use Rattle.section_checks.specs.Faults.{Fault, WrongStart, IsAccepted, IsFirstFault, due}
use Rattle.cert_rules.specs.Tests.{test, first_failing}
use Rattle.section_decide.specs.Deciding.{starts_right, fact_tests, branch_tests, width_tests, or_then, section_fault}
use Rattle.section_decide.proofs.Deciding.{faults_are_computed}
use Rattle.refinement_check.specs.declared.fault.SectionFault.{SectionFault}
use Rattle.refinement_check.specs.Views.{fault_of}
use Rattle.refinement_check.specs.Stages.{shape_fault_of, ends_fault_of, branches_fault_of, facts_fault_of}

-- a fault of the first stage is the first; if it has none, the second stage decides
pub or_first : (x : Fault) (a b : Option Fault) → Some x ≡ a → Some x ≡ or_then a b
or_first x a b e = subst (λ (o : Option Fault). Some x ≡ or_then o b) e refl

pub or_second : (a b c : Option Fault) → None ≡ a → c ≡ b → c ≡ or_then a b
or_second a b c e f = subst (λ (o : Option Fault). c ≡ or_then o b) e f

pub ok_second : {E : Type 0} (r : Result (Option SectionFault) E) (a b : Option Fault) → None ≡ a
    → IfOk r (λ found. option_map fault_of found ≡ b) → IfOk r (λ found. option_map fault_of found ≡ or_then a b)
ok_second (Ok found) a b e h = or_second a b (option_map fault_of found) e h
ok_second (Err x) a b e h = tt

-- stages can be grouped
or-assoc : (a b c : Option Fault) → or_then (or_then a b) c ≡ or_then a (or_then b c)
or-assoc None b c = refl
or-assoc (Some x) b c = refl

-- the stages of the shape and then those of the ends are all stages
pub halves : (p : Program) (s : Section) → or_then (shape_fault_of p s) (ends_fault_of p s) ≡ section_fault p s
halves p s =
    let start : Option Fault = first_failing (test WrongStart (starts_right p s.copies) ∷ []) in
    let facts : Option Fault = first_failing (fact_tests p 1 s.copies) in
    let branches : Option Fault = first_failing (branch_tests 1 s.branches (due p 0 s.copies)) in
    let widths : Option Fault = first_failing (width_tests p 1 s.branches) in
    let ends : Option Fault = ends_fault_of p s in
    or-assoc start (facts_fault_of p s.copies s.branches) ends
    ∙ ap (λ (o : Option Fault). or_then start o)
    (or-assoc facts (branches_fault_of p s.copies s.branches) ends
    ∙ ap (λ (o : Option Fault). or_then facts o) (or-assoc branches widths ends))

pub in_halves : {E : Type 0} (r : Result (Option SectionFault) E) (p : Program) (s : Section)
    → IfOk r (λ found. option_map fault_of found ≡ or_then (shape_fault_of p s) (ends_fault_of p s))
    → IfOk r (λ found. option_map fault_of found ≡ section_fault p s)
in_halves (Ok found) p s h = h ∙ halves p s
in_halves (Err x) p s h = tt

-- a section without a fault is accepted, and the computed fault is the first
pub accepted_by : (p : Program) (s : Section) → None ≡ section_fault p s → IsAccepted p s
accepted_by p s e = (faults_are_computed.none p s).0 (sym e)

pub first_by : (p : Program) (s : Section) (fault : Fault) → Some fault ≡ section_fault p s → IsFirstFault p s fault
first_by p s fault e = (faults_are_computed.some p s fault).0 (sym e)
