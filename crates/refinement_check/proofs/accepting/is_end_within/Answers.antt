use Rattle.std.proofs.Common.{◌∙◌, ap, map, List}
use Rattle.std.specs.List.{list_all}
use Rattle.section_checks.specs.Faults.{Obligation}
use Rattle.section_decide.specs.Deciding.{is_within_limits}
use Rattle.refinement_check.specs.Views.{obligation_of}
use Rattle.refinement_check.proofs.Verdicts.{both-within}
use Rattle.refinement_check.proofs.accepting.is_end_within.Goals as goal

pub returns-in_ok-found : goal.returns-in_ok-found
returns-in_ok-found c =
    both-within c.are_within.result _ _ _ _ c.in_ok-own.ensures c.if-own.true
    (ap (λ (os : List Obligation). list_all (λ o. is_within_limits o.rule) os)
    (ap (map obligation_of) c.deref.ensures.value ∙ c.in_ok-found.ensures))
    c.are_within.ensures
