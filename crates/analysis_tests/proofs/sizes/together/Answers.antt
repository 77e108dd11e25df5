use Rattle.analysis_tests.proofs.Accepted.{given_loop}
use Rattle.analysis_tests.proofs.sizes.together.Goals as goal

pub cycle-requires : goal.cycle-requires
cycle-requires c =
    let p = c.requires.given.0 in
    let rest = c.requires.given.1 in (
      p,
      given_loop p c.args.g.now c.args.prepared_rules.now c.args.members.now rest.0 rest.1.0 rest.1.1.0 rest.1.1.1
          c.requires.some c.requires.ascending,
    )
