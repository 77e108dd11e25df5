-- The program that a section spells, and the one that facts strengthen.
use Rattle.std.specs.Prelude.{◌≡◌, ◌↔◌, List, ℤ, Some}
use Rattle.std.specs.List.{All}
use Rattle.refined_programs.specs.model.Programs.{Program, Rule, rule_at, GuardHolds}
use Rattle.refined_programs.specs.refinement.Laws.{SpellsTheRunsOf}
use Rattle.refined_programs.specs.refinement.Lifted.{AllRunsLift, AllRunsProject, BoundsAreKept}
use Rattle.refined_programs.specs.refinement.Obligations.{IsShown}
use Rattle.refined_programs.specs.refinement.Sections.{RuleCopy, Section, rule_copies, spelled, projection_of}
use Rattle.refined_programs.specs.refinement.Sections.{HasFactsOf}
use Rattle.its_model.specs.Valid.{IsValid}
use Rattle.location_facts.specs.declared.fact.LocFact.{LocFact}
use Rattle.location_facts.specs.Laws.{AreHeld}
use Rattle.location_facts.specs.Rows.{facts_at}
use Rattle.location_facts.specs.Strengthening.{strengthened}
use Rattle.facts_section.specs.Copies.{IsMetBy, IsSectionOfFacts}

-- the guard of a copy of a rule holds exactly where the guard of the rule holds and all facts of its source are met
pub record HasGuardOfFacts (p : Program) (kept : List LocFact) (c : RuleCopy) : Type 0 where
  pub each : (r : Rule) → rule_at p c.of_rule ≡ Some r → (env : List ℤ)
      → GuardHolds env c.rule.guard ↔ (GuardHolds env r.guard × All (λ f. IsMetBy f env) (facts_at r.source kept))

-- the program that a section spells refines the program that facts strengthen: each run of the strengthened program lifts
-- to the spelled one, where the facts of the copies hold, and each run of that one projects back; so bounds carry over
pub record RefinesStrengthened (p : Program) (kept : List LocFact) (section : Section) : Type 0 where
  pub lifts : AllRunsLift (strengthened kept p) (spelled p section) (projection_of p section) (HasFactsOf section)
  pub projects : AllRunsProject (strengthened kept p) (spelled p section) (projection_of p section)
  pub bounds : BoundsAreKept (strengthened kept p) (spelled p section) (projection_of p section)

-- each rule of the program that a section spells has the guard of its rule and the facts of its source
abbrev pub GuardsHaveFacts : Program → List LocFact → Section → Type 0
GuardsHaveFacts p kept section = All (HasGuardOfFacts p kept) (rule_copies p section section.branches)

-- each section that spells the runs of a valid program refines the program strengthened by facts that hold on these
-- runs; and the section of the facts spells rules with exactly these facts in their guards
pub record SectionsRefineStrengthened : Type 0 where
  pub refined : (p : Program) (kept : List LocFact) (section : Section) → IsValid p → AreHeld p kept
      → SpellsTheRunsOf p section → RefinesStrengthened p kept section
  pub guards : (p : Program) (kept : List LocFact) (section : Section) → AreHeld p kept → IsShown p section
      → IsSectionOfFacts p kept section → GuardsHaveFacts p kept section
