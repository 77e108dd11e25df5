use Rattle.std.proofs.Common.{sym, subst, arith}
use Rattle.std.proofs.lemmas.List.Elements.{All-push}
use Rattle.cert_types.specs.AnswerViews.{gap_of, fault_of}
use Rattle.cert_types.specs.cert_rules.GapChecks.{GapHolds}
use Rattle.cert_types.specs.cert_program.RankedSets.{forms_at}
use Rattle.check_file.specs.Files.{HoldAll}
use Rattle.cert_context.specs.CheckContexts.{program}
use Rattle.cert_context.proofs.Cuts.{done-more, done-all}
use Rattle.check_file.proofs.OffGaps.{off-at}
use Rattle.check_file.proofs.gaps.first_refused_gap.Goals as goal

pub returns-in-Some : goal.returns-in-Some
returns-in-Some c =
    off-at (program c.args.context.now) c.args.gaps.now c.loop-i.i _ c.index-gaps-i.result (fault_of c.in-Some.fault) (omega arith)
    c.index-gaps-i.is c.loop-i.invariant c.in-Some.ensures (omega arith)

pub loop-i-preserved : goal.loop-i-preserved
loop-i-preserved c =
    let p = program c.args.context.now in
    subst (HoldAll p) (sym (done-more gap_of c.args.gaps.now c.loop-i.i c.index-gaps-i.result (omega arith) c.index-gaps-i.is))
    (All-push (GapHolds p (forms_at p)) _ (gap_of c.index-gaps-i.result) c.loop-i.invariant c.in_default.ensures)

pub returns : goal.returns
returns c =
    subst (HoldAll (program c.args.context.now)) (done-all gap_of c.args.gaps.now c.loop-i.i (omega arith)) c.loop-i.invariant
