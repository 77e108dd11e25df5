use Rattle.std.proofs.Common.{◌≡◌}
use Rattle.std.specs.Prelude.{None}
use Rattle.poly_terms.specs.Faults.{first_fault}
use Rattle.poly_terms.specs.Views.{term_of}
use Rattle.its_model.proofs.ListLaws.{mapped-all}
use Rattle.guard_prep.proofs.preparing.polys_of.Goals as goal

pub expanded_without_fault-requires : goal.expanded_without_fault-requires
expanded_without_fault-requires c =
    mapped-all (λ u. first_fault u ≡ None) term_of c.args.updates.now c.loop-u.u-index c.u-item.result c.requires c.loop-u-test.true c.u-item.is
