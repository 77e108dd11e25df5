use Rattle.std.proofs.Common.{List, subst}
use Rattle.std.specs.Prelude.{ℤ}
use Rattle.simplex_core.specs.declared.problem.Entry.{Entry}
use Rattle.simplex_core.specs.Numbers.{AreNumbersSmall, AreEntriesBelow, IsOneAbove, IsOneEntryAbove, HasSmallNumbers}
use Rattle.simplex_core.specs.Outcome.{IsInRange}
use Rattle.simplex_core.specs.Problem.{program_of}
use Rattle.simplex_core.specs.Tableau.{first_tableau}
use Rattle.simplex_core.proofs.Large.{large-entry, large-right, large-first, large-second}
use Rattle.simplex_core.proofs.AnswerCases.{match-map}
use Rattle.simplex_core.proofs.solving.has_small_numbers.Goals as goal

pub returns-then-not-are_entries_below : goal.returns-then-not-are_entries_below
returns-then-not-are_entries_below c =
    large-entry c.args.problem.now c.requires (subst (λ (xs : List Entry). IsOneEntryAbove xs) c.as_slice.ensures.value c.if-not-are_entries_below.ensures)

pub returns-then-not-are_below : goal.returns-then-not-are_below
returns-then-not-are_below c =
    large-right c.args.problem.now c.requires (subst (λ (xs : List ℤ). IsOneAbove xs) c.as_slice-2.ensures.value c.if-not-are_below.ensures)

pub returns-then-not-are_below-2 : goal.returns-then-not-are_below-2
returns-then-not-are_below-2 c =
    large-first c.args.problem.now c.requires (subst (λ (xs : List ℤ). IsOneAbove xs) c.as_slice-3.ensures.value c.if-not-are_below-2.ensures)

pub returns : goal.returns
returns c =
    let q = c.args.problem.now in
    match-map c.are_below-3.result (AreNumbersSmall c.as_slice-4.result.now) (IsOneAbove c.as_slice-4.result.now) (HasSmallNumbers q) (¬ IsInRange (program_of q) (first_tableau (program_of q)))
    (λ small. record {
      entries = subst (λ (xs : List Entry). AreEntriesBelow xs) c.as_slice.ensures.value c.if-not-are_entries_below.ensures;
      right = subst (λ (xs : List ℤ). AreNumbersSmall xs) c.as_slice-2.ensures.value c.if-not-are_below.ensures;
      first = subst (λ (xs : List ℤ). AreNumbersSmall xs) c.as_slice-3.ensures.value c.if-not-are_below-2.ensures;
      second = subst (λ (xs : List ℤ). AreNumbersSmall xs) c.as_slice-4.ensures.value small;
    })
    (λ large. large-second q c.requires (subst (λ (xs : List ℤ). IsOneAbove xs) c.as_slice-4.ensures.value large))
    c.are_below-3.ensures
