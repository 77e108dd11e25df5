-- An atom ends if its right side ends before the next piece; else nothing changes.
use Rattle.std.proofs.Common.{◌≡◌, Some, sym, ◌∙◌}
use Rattle.expr_reader.proofs.AtomEnds.{stays, ends}
use Rattle.expr_reader.proofs.guard.GuardReader.end_part.Goals as goal

pub returns-then-not-ends_before : goal.returns-then-not-ends_before
returns-then-not-ends_before c = stays _ _ (sym c.ends_before.ensures ∙ c.if-not-ends_before.true)

pub returns-in_ok-fault-in-Some : goal.returns-in_ok-fault-in-Some
returns-in_ok-fault-in-Some c =
    let related : c.args.self.now.related ≡ Some c.in-Some.related = cc in
    ends _ _ _ _ _ (sym c.ends_before.ensures ∙ c.if-not-ends_before.false) related c.in_ok-fault-in-Some.ensures.state c.in_ok-fault-in-Some.ensures.atoms c.in_ok-fault-in-Some.ensures.clears c.in_ok-fault-in-Some.ensures.fault
