use Rattle.std.proofs.Common.{refl}
use Rattle.rvg_components.proofs.Numbers.{result_variable_pushed}
use Rattle.rvg_components.proofs.numbering.push_places.Goals as goal

-- one more place is appended
pub loop-position-preserved : goal.loop-position-preserved
loop-position-preserved c =
    result_variable_pushed c.args.rule c.loop-position.position c.args.result_variables.now.items c.loop-position.result_variables.items c.push.new.self.items _ c.loop-position.invariant
    c.in_ok-push.ensures.items refl
