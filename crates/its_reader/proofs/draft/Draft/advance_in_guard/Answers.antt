use Rattle.std.proofs.Common.{sym, ◌∙◌}
use Rattle.its_reader.proofs.TailPromises.{atom_goes_on, behind_atoms}
use Rattle.its_reader.proofs.draft.Draft.advance_in_guard.Goals as goal

pub returns-then-guard_goes_on : goal.returns-then-guard_goes_on
returns-then-guard_goes_on c = atom_goes_on c.args.opening _ _ c.args.self.now _ _
    (sym c.guard_goes_on.ensures ∙ c.if-guard_goes_on.true) c.in_ok-taken.ensures

pub returns : goal.returns
returns c = behind_atoms c.args.opening _ _ c.args.self.now _ _ (sym c.guard_goes_on.ensures ∙ c.if-guard_goes_on.false)
    c.in_ok-reached.ensures
