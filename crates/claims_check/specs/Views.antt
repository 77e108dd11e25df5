-- Evidence, statements and reasons of the code as plain data.
use Rattle.std.specs.Prelude.{◌≡◌, ℕ, suc, List, [], map, option_map, Option, Some, None, ⊤}
use Rattle.model.specs.Programs.{Program}
use Rattle.poly_terms.specs.Views.{term_of}
use Rattle.its_model.specs.Views.{program_of}
use Rattle.refinement.specs.Simulation.{Projection}
use Rattle.refinement.specs.Sections.{Copy, Section, spelled, projection_of}
use Rattle.refinement.specs.Laws.{same_numbers}
use Rattle.refined_programs.specs.Views.{section_of}
use Rattle.signed_bounds.specs.Views.{signed_of}
use Rattle.potential_nodes.specs.Facts.{SignedFact}
use Rattle.potential_types.specs.Views.{fact_view}
use Rattle.program_claims.specs.Claims as claims
use Rattle.program_claims.specs.Evidence as plain
use Rattle.program_claims.specs.Verdicts as verdicts
use Rattle.program_claims.specs.Verdicts.{Verdict}
use Rattle.program_claims.specs.Acceptance.{ClaimRefusal, first_refused, all_stated}
use Rattle.claims_check.specs.declared.evidence.Evidence.{Evidence}
use Rattle.claims_check.specs.declared.statement.Statement.{Statement}
use Rattle.claims_check.specs.declared.statement.Statement.TheVariants.{Time, Cost, Total, Above, Below, AtSymbol}
use Rattle.claims_check.specs.declared.reason.ClaimReason.{ClaimReason}
use Rattle.claims_check.specs.declared.reason.ClaimReason.TheVariants as reasons
use Rattle.claims_check.specs.declared.reason.RefusedClaim.{RefusedClaim}
use Rattle.claims_check.specs.declared.reason.ClaimsError.{ClaimsError}
use Rattle.claims_check.specs.declared.reason.ClaimsError.TheVariants as errors
use Rattle.claims_check.specs.declared.reason.ClaimFault.{ClaimFault}
use Rattle.claims_check.specs.declared.reason.ClaimFault.TheVariants as faults

-- the program over whose rules the lemmas are: the one that a section spells, or the program itself
abbrev pub program_above : Program → Option Section → Program
program_above p None = p
program_above p (Some s) = spelled p s

-- its projection to the program
abbrev pub projection_by : Program → Option Section → Projection
projection_by p None = same_numbers
projection_by p (Some s) = projection_of p s

-- the copies of symbols
abbrev pub copies_in : Option Section → List Copy
copies_in None = []
copies_in (Some s) = s.copies

-- what claims on a program rest on, by its section, where there is one, and by these facts
abbrev pub evidence_by : Program → Option Section → List SignedFact → plain.Evidence
evidence_by p section facts = record {
  program = p;
  above = program_above p section;
  projection = projection_by p section;
  copies = copies_in section;
  facts = facts;
}

-- evidence as plain data
abbrev pub section_in : Evidence → Option Section
section_in e = option_map (λ s. section_of s.now) e.section

abbrev pub evidence_of : Evidence → plain.Evidence
evidence_of e = evidence_by (program_of e.program.now) (section_in e) (map fact_view e.facts.now)

-- a statement as plain data
abbrev pub stated_of : Statement → claims.Stated
stated_of (Time t b) = claims.Time t (signed_of b)
stated_of (Cost t b) = claims.Cost t (signed_of b)
stated_of (Total b) = claims.Total (signed_of b)
stated_of (Above t i b) = claims.Above t i (signed_of b)
stated_of (Below t i b) = claims.Below t i (signed_of b)
stated_of (AtSymbol s e) = claims.AtSymbol s (term_of e)

-- a reason, and a refusal, as plain data
abbrev pub reason_of : ClaimReason → verdicts.ClaimReason
reason_of reasons.NoRule = verdicts.NoRule
reason_of reasons.NoCost = verdicts.NoCost
reason_of reasons.NoPlace = verdicts.NoPlace
reason_of reasons.NoCopy = verdicts.NoCopy
reason_of reasons.NoFact = verdicts.NoFact
reason_of reasons.BadLemma = verdicts.BadLemma
reason_of reasons.LowBound = verdicts.LowBound

abbrev pub refusal_of : RefusedClaim → ClaimRefusal
refusal_of r = record { number = r.claim; reason = reason_of r.reason }

-- the fault is the reason of a verdict; want of memory says nothing
abbrev pub IsRefusal : {A : Type 0} → Verdict A → ClaimFault → Type 0
IsRefusal v (faults.Refused reason) = v ≡ verdicts.Refused (reason_of reason)
IsRefusal v faults.Memory = ⊤

-- the error of the claim at a position
abbrev pub error_of : ℕ → ClaimFault → ClaimsError
error_of i (faults.Refused reason) = errors.Refused (record { claim = suc i; reason = reason })
error_of i faults.Memory = errors.Memory

-- no claim is refused, and these are the statements of all
pub record AreStated (e : plain.Evidence) (cs : List claims.Claim) (stated : List claims.Stated) : Type 0 where
  pub accepted : first_refused e 1 cs ≡ None
  pub statements : stated ≡ all_stated e cs

-- the first claim that is refused is answered, with its reason; want of memory says nothing
abbrev pub AreRefused : plain.Evidence → List claims.Claim → ClaimsError → Type 0
AreRefused e cs (errors.Refused r) = first_refused e 1 cs ≡ Some (refusal_of r)
AreRefused e cs errors.Memory = ⊤
