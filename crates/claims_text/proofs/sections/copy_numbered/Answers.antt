use Rattle.std.proofs.Common.{arith}
use Rattle.potential_types.proofs.LookupLaws.{item-numbered}
use Rattle.refined_programs.specs.Views.{annotated_copy}
use Rattle.claims_text.proofs.sections.copy_numbered.Goals as goal

pub returns : goal.returns
returns c =
    item-numbered annotated_copy c.args.copies.now c.args.copy c.get.result (omega arith) c.get.ensures.lookup
