-- Small files, judged by hand.
use Rattle.std.specs.Prelude.{◌≡◌, List, [], ◌∷◌, Option, Some, None}
use Rattle.model.specs.Programs.{Program}
use Rattle.model.specs.WorkedRuns.{countdown}
use Rattle.signed_bounds.specs.Bounds.{Constant}
use Rattle.program_claims.specs.Claims.{Claim, ByOne, ByEach, OnTime}
use Rattle.program_claims.specs.Verdicts.{NoRule, BadLemma}
use Rattle.program_claims.specs.Acceptance.{ClaimRefusal, first_refused}
use Rattle.refined_files.specs.Files.{RefinedFile, IsAcceptedFor, evidence_in, stated_in, program_above}

-- a file without a section and without lemmas, with these claims
abbrev pub claiming : List Claim → RefinedFile
claiming claims = record {
  section = None;
  plain = record { lemmas = []; gaps = [] };
  signed = [];
  claims = claims;
}

-- the first claim that such a file is refused for
abbrev pub refused_claim : List Claim → Option ClaimRefusal
refused_claim claims = first_refused (evidence_in countdown (claiming claims)) 1 claims

-- A file that says nothing is accepted for each program, and states nothing. A claim on a time without a lemma isn't
-- accepted, nor is one on a rule that isn't there.
pub record SmallFilesAreJudged : Type 0 where
  pub empty : (p : Program) → IsAcceptedFor p (claiming [])
  pub nothing : (p : Program) → stated_in p (claiming []) ≡ []
  pub itself : (p : Program) → program_above p None ≡ p
  pub unproved : refused_claim (OnTime 1 (ByOne 1) ∷ []) ≡ Some (record { number = 1; reason = BadLemma })
  pub no_rule : refused_claim (OnTime 3 (ByEach [] (Constant 0)) ∷ []) ≡ Some (record { number = 1; reason = NoRule })
