use Rattle.std.proofs.Common.{sym, subst, arith}
use Rattle.program_claims.specs.Acceptance.{first_refused, all_stated}
use Rattle.claim_types.specs.Views.{claims_of}
use Rattle.claims_check.specs.Views.{evidence_of, stated_of, AreRefused}
use Rattle.claims_check.proofs.ListLaws.{claim-passed, claim-error, claim-none, stated-passed, stated-done}
use Rattle.claims_check.proofs.checking.check_claims.Goals as goal

pub loop-i-preserved : goal.loop-i-preserved
loop-i-preserved c =
    let e = evidence_of c.args.evidence in
    let cs = c.args.claims.now in
    let i = c.loop-i.i in
    let one = c.index-claims-i.result in
    record {
      accepted = claim-passed e cs i one (stated_of c.in-Ok.one) (first_refused e 1 (claims_of cs)) (omega arith)
          c.index-claims-i.is c.in-Ok.ensures c.loop-i.invariant.accepted;
      statements = stated-passed e cs i one c.in-Ok.one c.loop-i.stated.items c.push.new.self.items
          (all_stated e (claims_of cs)) (omega arith) c.index-claims-i.is c.in-Ok.ensures
          c.in_ok-push-in-Ok.ensures.items
          c.loop-i.invariant.statements;
    }

pub returns-in-Err : goal.returns-in-Err
returns-in-Err c =
    let e = evidence_of c.args.evidence in
    let cs = c.args.claims.now in
    subst (AreRefused e (claims_of cs)) (sym c.error_at.ensures)
    (claim-error e cs c.loop-i.i c.index-claims-i.result c.in-Err.fault (omega arith) c.index-claims-i.is
    c.in-Err.ensures c.loop-i.invariant.accepted)

pub returns : goal.returns
returns c =
    let e = evidence_of c.args.evidence in
    let cs = c.args.claims.now in
    record {
      accepted = claim-none e cs c.loop-i.i (first_refused e 1 (claims_of cs))
          (omega arith) c.loop-i.invariant.accepted;
      statements = stated-done e cs c.loop-i.i c.loop-i.stated.items (all_stated e (claims_of cs)) (omega arith)
          c.loop-i.invariant.statements;
    }
