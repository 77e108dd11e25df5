use Rattle.std.proofs.Common.{◌≡◌, List, ◌++◌, length, map, Option, sym, ◌∙◌, ap, subst, arith}
use Rattle.std.proofs.lemmas.List.{length-map}
use Rattle.its_model.specs.Views.{rule_of}
use Rattle.bound_fixpoint.specs.Derivations as plain
use Rattle.bound_fixpoint.specs.Keys.{Bounds}
use Rattle.bound_derivations.specs.Views.{derivations_of}
use Rattle.time_bounds.specs.declared.asking.AnsweredRankQuestion.{AnsweredRankQuestion}
use Rattle.time_bounds.specs.ProgramSearches.{searches_of_program}
use Rattle.time_bounds.specs.Questions.{program_in}
use Rattle.time_bounds.specs.RoundsMade.{known_with}
use Rattle.time_bounds.specs.OpenDerivations.{AreOpenAfter}
use Rattle.time_bounds.specs.TriedRules.{AreTried, AreAskedOver, derivations_in, kept_in}
use Rattle.time_bounds.proofs.RightSizings.{program_searches_right}
use Rattle.time_bounds.proofs.TablesOver.{bounds_same}
use Rattle.time_bounds.proofs.TimeRounds.{asked_later, times_open, table_of_derived}
use Rattle.time_bounds.proofs.TriedDerivations.{tried_all}
use Rattle.time_bounds.proofs.rounds.times_of_round.Goals as goal

pub try_rules-requires-clause-table : goal.try_rules-requires-clause-table
try_rules-requires-clause-table c =
    table_of_derived (program_in c.args.cx.now) c.args.cx.now.pivots c.args.cx.now.empties.items c.args.derived.now.table c.args.derived.now.derivations.items
    c.requires.ready.empties c.requires.made c.requires.derived

pub part_all-requires : goal.part_all-requires
part_all-requires c =
    omega (
      arith,
      c.in_ok-tries.ensures.one_each,
      c.requires.ready.valid.few_rules,
      length-map c.args.cx.now.program.now.rules.items rule_of,
    )

pub take_all-requires-clause-open : goal.take_all-requires-clause-open
take_all-requires-clause-open c =
    let p = program_in c.args.cx.now in
    let pivots = c.args.cx.now.pivots in
    let empties = c.args.cx.now.empties.items in
    let derivations = c.args.derived.now.derivations.items in
    let tries = c.in_ok-tries.tries.items in
    let long = c.in_ok-tries.ensures.one_each ∙ sym (length-map c.args.cx.now.program.now.rules.items rule_of) in
    let tried = subst (λ (b : Bounds). AreTried p b pivots empties 1 tries) (bounds_same p c.args.derived.now.table derivations c.requires.derived)
    c.in_ok-tries.ensures.tried in
    subst (λ (fs : List plain.Derivation). AreOpenAfter p (derivations_of derivations) fs) (sym c.in_ok-parts.ensures.derivations)
    (times_open (searches_of_program p pivots) p (program_searches_right.each p pivots c.requires.ready.valid) (derivations_of derivations) (derivations_in 1 tries)
    (tried_all p pivots empties c.requires.ready.empties (derivations_of derivations) tries long tried))

pub returns-clause-times : goal.returns-clause-times
returns-clause-times c =
    let cx = c.args.cx.now in
    let p = program_in cx in
    let empties = cx.empties.items in
    let old = c.args.derived.now.derivations.items in
    let new = c.take_all.new.derived.derivations.items in
    let tries = c.in_ok-tries.tries.items in
    let long = c.in_ok-tries.ensures.one_each ∙ sym (length-map cx.program.now.rules.items rule_of) in
    let tried = subst (λ (b : Bounds). AreTried p b cx.pivots empties 1 tries) (bounds_same p c.args.derived.now.table old c.requires.derived)
    c.in_ok-tries.ensures.tried in
    let grown : derivations_of new ≡ derivations_of old ++ derivations_in 1 tries =
    c.in_ok-take_all.ensures.derivations ∙ ap (λ (fs : List plain.Derivation). derivations_of old ++ fs) c.in_ok-parts.ensures.derivations in
    record {
      times = derivations_in 1 tries;
      timed = tried_all p cx.pivots empties c.requires.ready.empties (derivations_of old) tries long tried;
      grown = grown;
      one_each =
          ap (λ (os : List (Option AnsweredRankQuestion)). length os) c.in_ok-parts.ensures.asked ∙ (length-map tries kept_in ∙ long);
      asked_are =
          subst (λ (os : List (Option AnsweredRankQuestion)). AreAskedOver p (known_with cx old) (known_with cx new) cx.pivots empties 1 os)
          (sym c.in_ok-parts.ensures.asked)
          (subst (λ (fs : List plain.Derivation). AreAskedOver p (known_with cx old) (plain.bounds_of p fs) cx.pivots empties 1 (map kept_in tries))
          (sym grown) (asked_later p cx.pivots empties (derivations_of old) tries tried));
    }
