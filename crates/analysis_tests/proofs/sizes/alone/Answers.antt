use Rattle.analysis_tests.proofs.Accepted.{given_alone}
use Rattle.analysis_tests.proofs.sizes.alone.Goals as goal

pub spread-requires : goal.spread-requires
spread-requires c =
    let p = c.requires.given.0 in
    let rest = c.requires.given.1 in (
      p,
      given_alone p c.args.g.now c.args.prepared_rules.now c.args.members.now c.index-members-0.result rest.0 rest.1.0
          rest.1.1.0 rest.1.1.1 c.requires.some
          c.index-members-0.is,
    )
