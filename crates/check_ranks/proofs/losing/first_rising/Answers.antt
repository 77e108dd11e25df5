use Rattle.std.proofs.Common.{◌<◌, ◌∙◌, length, subst, sym, arith}
use Rattle.std.proofs.lemmas.List.{get_or_default}
use Rattle.gap_checks.specs.GapTests.{IsFirstFailing}
use Rattle.std.proofs.lemmas.List.Elements.{All-more}
use Rattle.cert_types.specs.Views.{rank_of}
use Rattle.cert_types.specs.cert_rules.AcceptsRank.{Loses}
use Rattle.gap_checks.proofs.GapFaults.{failing-at}
use Rattle.gap_checks.proofs.GapPositions.{all-done}
use Rattle.cert_context.specs.CheckContexts.{setting}
use Rattle.check_ranks.proofs.losing.first_rising.Goals as goal

pub returns-then-not-loses : goal.returns-then-not-loses
returns-then-not-loses c =
    let P = Loses (setting c.args.context.now) (rank_of c.args.node.now) in
    let xs = c.args.node.now.set.items in
    let low : c.loop-i.i < length xs = omega arith in
    subst (IsFirstFailing P xs) (get_or_default xs c.loop-i.i 0 c.index.result.now low ∙ sym c.index.ensures)
    (failing-at P xs c.loop-i.i 0 low c.loop-i.invariant (λ h. let f = c.in_ok-loses.ensures.1 h in let no : ⊥ = cc in no))

pub loop-i-preserved : goal.loop-i-preserved
loop-i-preserved c =
    All-more (Loses (setting c.args.context.now) (rank_of c.args.node.now)) c.args.node.now.set.items c.loop-i.i 0
    (omega arith) c.loop-i.invariant (c.in_ok-loses.ensures.0 c.if-not-loses.false)

pub returns : goal.returns
returns c =
    all-done (Loses (setting c.args.context.now) (rank_of c.args.node.now)) c.args.node.now.set.items c.loop-i.i
    (omega arith) c.loop-i.invariant
