-- The statements of accepted claims hold.
use Rattle.std.specs.Prelude.{◌≡◌, ℕ, ◌+◌, List, ◌∷◌, ◌++◌, length, map, Some, None}
use Rattle.model.specs.Programs.{Program}
use Rattle.refinement.specs.Sections.{Section, spelled}
use Rattle.refinement.specs.Laws.{SpellsTheRunsOf, FactsOfCopiesHold}
use Rattle.potential_nodes.specs.Facts.{SignedFact, AllSignedHold}
use Rattle.program_claims.specs.Claims.{Claim, Stated, HoldsOf, AllHoldOf}
use Rattle.program_claims.specs.Evidence.{Evidence, by_section, by_itself}
use Rattle.program_claims.specs.Verdicts.{Accepted, Refused}
use Rattle.program_claims.specs.Acceptance.{ClaimRefusal, stated_by, first_refused, all_stated}

-- if a section spells the runs of a program, with the facts of its copies, and lemmas hold on the runs of the spelled
-- program, the statement of an accepted claim holds on all runs of the program; and so do the statements of a list of
-- claims
pub record AcceptedClaimsHold : Type 0 where
  pub one : (p : Program) (s : Section) → SpellsTheRunsOf p s → FactsOfCopiesHold p s → (facts : List SignedFact)
      → AllSignedHold (spelled p s) facts → (claim : Claim) (stated : Stated)
      → stated_by (by_section p s facts) claim ≡ Accepted stated → HoldsOf p stated
  pub all : (p : Program) (s : Section) → SpellsTheRunsOf p s → FactsOfCopiesHold p s → (facts : List SignedFact)
      → AllSignedHold (spelled p s) facts → (claims : List Claim)
      → AllHoldOf p (all_stated (by_section p s facts) claims)

-- if lemmas hold on the runs of a program, the statements of claims that they support hold on all runs of the same
-- program
pub record OwnClaimsHold : Type 0 where
  pub all : (p : Program) (facts : List SignedFact) → AllSignedHold p facts → (claims : List Claim)
      → AllHoldOf p (all_stated (by_itself p facts) claims)

-- a claim of a list isn't accepted, for this reason, and all claims before it are; the claims have the numbers from k
-- on
pub record IsFirstRefused (e : Evidence) (k : ℕ) (claims : List Claim) (r : ClaimRefusal) : Type 0 where
  pub before : List Claim
  pub refused : Claim
  pub after : List Claim
  pub listed : claims ≡ before ++ refused ∷ after
  pub number : r.number ≡ k + length before
  pub accepted : first_refused e k before ≡ None
  pub reason : stated_by e refused ≡ Refused r.reason

-- if no claim of a list is refused, each of them is accepted, and the statements are those of all; and the refusal of a
-- list is that of the first claim that isn't accepted
pub record RefusedClaimsAreFirst : Type 0 where
  pub none : (e : Evidence) (k : ℕ) (claims : List Claim) → first_refused e k claims ≡ None
      → map (stated_by e) claims ≡ map Accepted (all_stated e claims)
  pub some : (e : Evidence) (k : ℕ) (claims : List Claim) (r : ClaimRefusal) → first_refused e k claims ≡ Some r
      → IsFirstRefused e k claims r
