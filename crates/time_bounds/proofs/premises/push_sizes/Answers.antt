use Rattle.std.proofs.Common.{◌+◌, ◌∙◌, ap, List, ◌++◌, map, get_or}
use Rattle.std.specs.Prelude.{pos}
use Rattle.cert_types.specs.cert_rules.Nodes.{ResultVariable}
use Rattle.cert_types.specs.Views.{result_variable_of}
use Rattle.bound_fixpoint.specs.Keys.{key}
use Rattle.time_bounds.specs.Needs.{read_here}
use Rattle.time_bounds.proofs.NeedLists.{read-more}
use Rattle.time_bounds.proofs.premises.push_sizes.Goals as goal

pub loop-position-preserved : goal.loop-position-preserved
loop-position-preserved c =
    let i = c.loop-position.position in
    c.in_ok-push_size.ensures
    ∙ (ap (λ (ks : List ResultVariable). ks ++ map (λ j. key c.args.entry j) (read_here (get_or c.args.coefs.now i (pos 0)) (i + 1)))
    c.loop-position.invariant
    ∙ read-more c.args.entry (map result_variable_of c.args.premises.now.items) c.args.coefs.now i (pos 0) c.loop-position-test.true)
