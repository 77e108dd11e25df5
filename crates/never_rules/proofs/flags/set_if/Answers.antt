use Rattle.std.specs.Prelude.{◌==◌}
use Rattle.never_rules.proofs.NeverLaws.{flag-unset}
use Rattle.never_rules.proofs.flags.set_if.Goals as goal

pub returns-then-not-test-clause-flags : goal.returns-then-not-test-clause-flags
returns-then-not-test-clause-flags c = λ t low.
    flag-unset c.args.flags.now.items t c.args.test (c.args.position == t) c.if-not-test.true
