use Rattle.std.proofs.Common.{◌≡◌, List, [], ◌∷◌, ◌++◌, length, refl, sym, ◌∙◌, ap, subst, arith}
use Rattle.std.proofs.lemmas.List.{length-map}
use Rattle.its_model.specs.Views.{rule_of}
use Rattle.cert_types.specs.cert_program.Setting.{setting_of}
use Rattle.bound_fixpoint.specs.Derivations as plain
use Rattle.bound_fixpoint.specs.Rounds.{Begun}
use Rattle.bound_fixpoint.proofs.FirstDerivationsAreJustified.{first_justified}
use Rattle.bound_derivations.specs.declared.derivation.Derivation.{Derivation}
use Rattle.bound_derivations.specs.Views.{derivations_of}
use Rattle.time_bounds.specs.ProgramSearches.{searches_of_program}
use Rattle.time_bounds.specs.Questions.{program_in}
use Rattle.time_bounds.specs.OpenDerivations.{AreOpenAfter}
use Rattle.time_bounds.proofs.FirstKeys.{first_keyed}
use Rattle.time_bounds.proofs.FirstOrder.{first_of_rule_statuses}
use Rattle.time_bounds.proofs.OpenDerivations.{open_still_true}
use Rattle.time_bounds.proofs.RightSizings.{program_searches_right}
use Rattle.time_bounds.proofs.analysing.first_derived.Goals as goal

nothing : (fs : List Derivation) → length fs ≡ 0 → derivations_of fs ≡ []
nothing [] e = refl
nothing (f ∷ fs) e = absurd (omega (arith, e))

pub first_derivations-requires-clause-rule_statuses : goal.first_derivations-requires-clause-rule_statuses
first_derivations-requires-clause-rule_statuses c = c.requires.rule_statuses.one_each ∙ length-map c.args.cx.now.program.now.rules.items rule_of

pub take_all-requires-clause-open : goal.take_all-requires-clause-open
take_all-requires-clause-open c =
    let cx = c.args.cx.now in
    let p = program_in cx in
    let first = first_of_rule_statuses p cx.pivots c.args.rule_statuses.now c.requires.rule_statuses cx.empties.items c.requires.ready.empties
    (derivations_of c.in_ok-first.first.items) c.in_ok-first.ensures in
    let stand = first_justified (searches_of_program p cx.pivots) (setting_of p) (derivations_of c.in_ok-first.first.items) first
    (program_searches_right.each p cx.pivots c.requires.ready.valid) in
    subst (λ (fs : List plain.Derivation). AreOpenAfter p fs (derivations_of c.in_ok-first.first.items))
    (sym (nothing c.in_ok-derived.derived.derivations.items c.in_ok-derived.ensures.empty))
    (open_still_true (setting_of p) [] (derivations_of c.in_ok-first.first.items)
    (first_keyed p (searches_of_program p cx.pivots) (derivations_of c.in_ok-first.first.items) first) stand)

pub returns-clause-made : goal.returns-clause-made
returns-clause-made c =
    let cx = c.args.cx.now in
    let p = program_in cx in
    let all : derivations_of c.take_all.new.derived.derivations.items ≡ derivations_of c.in_ok-first.first.items =
    c.in_ok-take_all.ensures.derivations
    ∙ ap (λ (fs : List plain.Derivation). fs ++ derivations_of c.in_ok-first.first.items)
    (nothing c.in_ok-derived.derived.derivations.items c.in_ok-derived.ensures.empty) in
    Begun (first_of_rule_statuses p cx.pivots c.args.rule_statuses.now c.requires.rule_statuses cx.empties.items c.requires.ready.empties
    (derivations_of c.take_all.new.derived.derivations.items) (all ∙ c.in_ok-first.ensures))
