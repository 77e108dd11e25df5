use Rattle.std.proofs.Common.{sym, ap, ◌∙◌}
use Rattle.its_reader.specs.TailSteps.{guarding_if}
use Rattle.its_reader.proofs.GuardLaws.{large_taken, modest_taken}
use Rattle.its_reader.proofs.draft.RuleDraft.take_inner_guard.Goals as goal

pub returns-then-not-is_modest-clause-takes : goal.returns-then-not-is_modest-clause-takes
returns-then-not-is_modest-clause-takes c = large_taken (sym c.is_modest.ensures ∙ c.if-not-is_modest.true)
    (c.guarding_if-going.ensures ∙ ap (λ v. guarding_if v c.args.opening) c.atom_goes_on.ensures)

pub returns-clause-takes : goal.returns-clause-takes
returns-clause-takes c = modest_taken c.in_ok-taken.taken (sym c.is_modest.ensures ∙ c.if-not-is_modest.false)
    c.guarding_if-led.ensures c.in_ok-taken.ensures.takes
