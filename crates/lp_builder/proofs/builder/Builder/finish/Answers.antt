use Rattle.std.proofs.Common.{refl}
use Rattle.lp_builder.proofs.Built.{built}
use Rattle.lp_builder.proofs.builder.Builder.finish.Goals as goal

pub returns : goal.returns
returns c = built c.args.self c.args.costs.now _ c.requires.ready c.requires.costs refl refl refl refl c.in_ok-first.ensures c.in_ok-second.ensures
