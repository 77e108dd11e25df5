-- The program that a section spells refines the one that facts strengthen: both have the runs of the program.
use Rattle.std.proofs.Common.{◌≡◌, ℕ, zero, suc, List, Some, ap, sym, ◌∙◌, subst}
use Rattle.std.specs.Prelude.{option_map}
use Rattle.std.proofs.lemmas.Option.{slice_get-map}
use Rattle.refined_programs.specs.model.Programs.{Program, Rule, rule_at}
use Rattle.refined_programs.specs.refinement.Laws.{SpellsTheRunsOf}
use Rattle.refined_programs.specs.refinement.Lifted.{AllRunsLift}
use Rattle.refined_programs.specs.refinement.Sections.{Section, spelled, projection_of, HasFactsOf}
use Rattle.refined_programs.specs.refinement.Simulation.{HasRuleBelow, Projection}
use Rattle.refinement.proofs.Bounds.{bounds_are_kept}
use Rattle.refined_programs.specs.declared.section.Section as code
use Rattle.refined_programs.specs.Annotated as annotated
use Rattle.refined_programs.specs.Views.{annotated_of, section_of}
use Rattle.its_model.specs.Valid.{IsValid}
use Rattle.section_checks.specs.Faults.{IsAccepted, IsFirstFault}
use Rattle.section_checks.specs.refinement_rows.Certified.{IsCertified}
use Rattle.section_checks.proofs.Deciding.{accepted_sections_are_certified}
use Rattle.section_checks.proofs.refinement_rows.CertifiedLaws.{certified_sections_keep_bounds}
use Rattle.refined_programs.proofs.AnnotatedLaws.{section-agrees}
use Rattle.location_facts.specs.declared.fact.LocFact.{LocFact}
use Rattle.location_facts.specs.Laws.{AreHeld}
use Rattle.location_facts.specs.Strengthening.{strengthened, strengthened_rule}
use Rattle.location_facts.proofs.StrongLaws.{strengthening-changes-no-run}
use Rattle.facts_section.specs.Copies.{IsSectionOfFacts}
use Rattle.facts_section.specs.Counted.{HasFactsShape}
use Rattle.refinement_check.specs.Views.{SaysFirst, fault_of}
use Rattle.refinement_check.specs.declared.fault.SectionFault.{SectionFault}
use Rattle.refinement_check.specs.declared.fault.AcceptError.{AcceptError}
use Rattle.refinement_check.specs.declared.fault.AcceptError.TheVariants.{Wrong}
use Rattle.facts_certs.specs.Refined.{GuardsHaveFacts, RefinesStrengthened, SectionsRefineStrengthened}
use Rattle.facts_certs.specs.Refusals.{HasRefusedSection}
use Rattle.facts_certs.proofs.GuardLaws.{guards_have_facts}
use Rattle.facts_certs.proofs.ShapedSections.{late, shaped}

-- the rule of the strengthened program with a number
rule_strengthened : (p : Program) (kept : List LocFact) (t : ℕ) (r : Rule) → rule_at p t ≡ Some r
    → rule_at (strengthened kept p) t ≡ Some (strengthened_rule kept r)
rule_strengthened p kept zero r e = cc
rule_strengthened p kept (suc t) r e =
    slice_get-map (strengthened_rule kept) p.rules t ∙ ap (option_map (strengthened_rule kept)) e

-- a copy of a rule is one of the strengthened rule
below_strengthened : (p : Program) (kept : List LocFact) (o : Projection) (t : ℕ) (copy : Rule)
    → HasRuleBelow p o t copy
    → HasRuleBelow (strengthened kept p) o t copy
below_strengthened p kept o t copy h = record {
  rule = strengthened_rule kept h.rule;
  numbered = rule_strengthened p kept (o.rule t) h.rule h.numbered;
  copies = record {
    left = h.copies.left;
    free = h.copies.free;
    updates = h.copies.updates;
    cost = h.copies.cost;
    source = h.copies.source;
    target = h.copies.target;
  };
}

-- the program that a section spells has the runs of the strengthened program, and its bounds
refines : (p : Program) (kept : List LocFact) (section : Section) → IsValid p → AreHeld p kept
    → SpellsTheRunsOf p section
    → RefinesStrengthened p kept section
refines p kept section valid held spells = record {
  lifts = lifts;
  projects = record {
    each = λ start steps c run. (strengthening-changes-no-run.runs p kept valid held start _ _).0
        (spells.projects.each start steps c run);
  };
  bounds = bounds_are_kept (strengthened kept p) (spelled p section) (projection_of p section)
      (λ t copy e. below_strengthened p kept (projection_of p section) t copy (spells.simulates.copies t copy e))
      (HasFactsOf section) lifts;
}
  where
    lifts : AllRunsLift (strengthened kept p) (spelled p section) (projection_of p section) (HasFactsOf section)
    lifts = record {
      each = λ start steps c run.
          spells.lifts.each start steps c ((strengthening-changes-no-run.runs p kept valid held start steps c).1 run);
    }

-- the law of sections and strengthened programs
pub sections_refine_strengthened : SectionsRefineStrengthened
sections_refine_strengthened = record { refined = refines; guards = guards_have_facts }

-- an accepted section refines the program that facts strengthen
pub accepted_refines : (p : Program) (s : code.Section) (kept : List LocFact) → IsValid p → AreHeld p kept
    → IsAccepted p (annotated_of s) → RefinesStrengthened p kept (section_of s)
accepted_refines p s kept valid held accepted =
    refines p kept (section_of s) valid held (subst (λ (x : Section). SpellsTheRunsOf p x) (section-agrees s)
    (accepted_sections_are_certified.runs p (annotated_of s) valid accepted))

-- an accepted section of facts spells rules with these facts in their guards
pub accepted_guards : (p : Program) (s : code.Section) (kept : List LocFact) → IsValid p → AreHeld p kept
    → IsAccepted p (annotated_of s) → IsSectionOfFacts p kept (section_of s) → GuardsHaveFacts p kept (section_of s)
accepted_guards p s kept valid held accepted of_facts =
    guards_have_facts p kept (section_of s) held
    (certified_sections_keep_bounds.shown p (section_of s)
    (subst (λ (x : Section). IsCertified p x) (section-agrees s)
    (accepted_sections_are_certified.certified p (annotated_of s) valid accepted))) of_facts

-- a section of facts with a first fault is refused, and the fault is a limit or in its multipliers
pub refused_by : (p : Program) (s : code.Section) (kept : List LocFact) (error : AcceptError) (fault : SectionFault)
    → IsValid p → IsSectionOfFacts p kept (section_of s) → HasFactsShape p kept (annotated_of s)
    → SaysFirst p (annotated_of s) error → error ≡ Wrong fault → HasRefusedSection p kept
refused_by p s kept error fault valid of_facts parts says wrong = record {
  section = annotated_of s;
  of_facts = of_plain;
  shape = shaped p kept valid (annotated_of s) of_plain parts;
  fault = fault_of fault;
  first = first;
  kind = late p kept valid (annotated_of s) of_plain parts (fault_of fault) first;
}
  where
    of_plain : IsSectionOfFacts p kept (annotated.section_of (annotated_of s))
    of_plain = subst (λ (x : Section). IsSectionOfFacts p kept x) (sym (section-agrees s)) of_facts

    first : IsFirstFault p (annotated_of s) (fault_of fault)
    first = subst (λ (e : AcceptError). SaysFirst p (annotated_of s) e) wrong says
