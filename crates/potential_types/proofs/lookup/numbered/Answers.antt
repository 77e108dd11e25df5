use Rattle.std.proofs.Common.{arith}
use Rattle.potential_types.specs.Views.{fact_view}
use Rattle.potential_types.proofs.LookupLaws.{item-numbered}
use Rattle.potential_types.proofs.lookup.numbered.Goals as goal

pub returns : goal.returns
returns c = item-numbered fact_view c.args.facts.now c.args.number c.get.result (omega arith) c.get.ensures.lookup
