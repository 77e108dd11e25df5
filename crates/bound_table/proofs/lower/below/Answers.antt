use Rattle.std.proofs.Common.{sym, ◌∙◌}
use Rattle.bound_expr.specs.Views.{bound_of}
use Rattle.bound_table.proofs.BelowSound.{below-sound}
use Rattle.bound_table.proofs.lower.below.Goals as goal

pub returns-clause-sound : goal.returns-clause-sound
returns-clause-sound c holds =
    below-sound (bound_of c.args.a.now) (bound_of c.args.b.now) c.requires.a_based c.requires.b_based
    (sym c.is_below.ensures ∙ holds)
