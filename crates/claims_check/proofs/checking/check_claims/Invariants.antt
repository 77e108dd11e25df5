use Rattle.std.proofs.Common.{◌≡◌, ◌+◌, ◌++◌, drop, map}
use Rattle.program_claims.specs.Acceptance.{first_refused, all_stated}
use Rattle.claim_types.specs.Views.{claims_of}
use Rattle.claims_check.specs.Views.{evidence_of, stated_of}
use Rattle.claims_check.proofs.checking.check_claims.Given as goal

-- the claims that are left decide, and their statements come behind those so far
abbrev pub invariant-loop-i : goal.invariant-loop-i
invariant-loop-i l = record {
  accepted : first_refused (evidence_of l.evidence) (l.i + 1) (claims_of (drop l.i l.claims))
      ≡ first_refused (evidence_of l.evidence) 1 (claims_of l.claims);
  statements : map stated_of l.stated.items ++ all_stated (evidence_of l.evidence) (claims_of (drop l.i l.claims))
      ≡ all_stated (evidence_of l.evidence) (claims_of l.claims);
}
