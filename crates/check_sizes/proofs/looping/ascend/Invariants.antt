use Rattle.std.proofs.Common.{ℕ, suc, ◌<◌, get_or}
use Rattle.cert_types.specs.Views.{result_variable_of}
use Rattle.cert_types.specs.declared.side_bound.Member.{Member}
use Rattle.cert_types.specs.cert_rules.AcceptsSizes.{ComesBefore}
use Rattle.check_sizes.proofs.looping.ascend.Given as goal

-- each member before this one comes before the next
abbrev pub invariant-loop-i : goal.invariant-loop-i
invariant-loop-i l = (k : ℕ) (d : Member) → suc k < l.i
    → ComesBefore (result_variable_of (get_or l.members k d).result_variable) (result_variable_of (get_or l.members (suc k) d).result_variable)
