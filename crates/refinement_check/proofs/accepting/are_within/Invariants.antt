use Rattle.std.proofs.Common.{◌≡◌, drop, map}
use Rattle.std.specs.List.{list_all}
use Rattle.section_decide.specs.Deciding.{is_within_limits}
use Rattle.refinement_check.specs.Views.{obligation_of}
use Rattle.refinement_check.proofs.accepting.are_within.Given as goal

-- whether all obligations are within the limits depends on those left
abbrev pub invariant-loop-obligation : goal.invariant-loop-obligation
invariant-loop-obligation l =
    list_all (λ o. is_within_limits o.rule) (map obligation_of (drop l.obligation-index l.obligations))
    ≡ list_all (λ o. is_within_limits o.rule) (map obligation_of l.obligations)
