use Rattle.std.proofs.Common.{refl}
use Rattle.outside_io.specs.SteadyShelf.{held_files}
use Rattle.koat_cli.specs.RequestPlans.{plan_of}
use Rattle.call_plans.proofs.MemoryPlans.{missed_ends}
use Rattle.edges_tests.proofs.NoRise.{no_rise}
use Rattle.edges_tests.proofs.steady.run_steadily.Goals as goal

pub returns-clause-read_fault_only_where_lacking : goal.returns-clause-read_fault_only_where_lacking
returns-clause-read_fault_only_where_lacking c = λ is.
    let missed = c.run.ensures.means.read_fault is in
    (missed.0, (missed.1.0, missed_ends _ (held_files c.args.shelf.now) (plan_of missed.0) refl no_rise missed.1.1))
