use Rattle.std.proofs.Common.{arith}
use Rattle.its_model.specs.Views.{program_of}
use Rattle.refined_programs.specs.Views.{section_of}
use Rattle.claims_check.proofs.BelowLaws.{branches-done}
use Rattle.claims_check.proofs.below.copied_rules.Goals as goal

pub returns : goal.returns
returns c =
    branches-done (program_of c.args.program.now) (section_of c.args.section.now) c.args.section.now.branches.items
    c.loop-branch.branch-index c.loop-branch.below.items (omega arith) c.loop-branch.invariant
