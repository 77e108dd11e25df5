-- The checks of a gap pass exactly if it holds, which is decided by its tests.
use Rattle.std.proofs.Common.{◌≡◌, ℕ, Some, None}
use Rattle.std.specs.Prelude.{pos}
use Rattle.std.proofs.lemmas.List.Elements.{All-from_recursion, recursion_from_All}
use Rattle.run_counting.specs.model.Programs.{Program}
use Rattle.rule_forms.specs.linear_forms.RuleQuestions.{RuleForms}
use Rattle.cert_rules.specs.Gaps.{Gap}
use Rattle.cert_rules.specs.GapChecks.{GapFault, GapHolds, MeetsAt, IsPointOf, balance, balanced, point_of, gap_checks}
use Rattle.cert_rules.specs.GapLaws.{HasNoFault, GapChecksAreInLine}
use Rattle.cert_rules.specs.Reasons.{AllPass, IsFirstAmong}
use Rattle.cert_rules.specs.Tests.{first_failing}
use Rattle.cert_rules.specs.GapTests.{gap_tests}
use Rattle.cert_rules.proofs.CheckLists.{passed_has_none, first_is_one, each_passes, passes_each, each-in, in-each}
use Rattle.cert_rules.proofs.TestLists.{first-sound, first-complete, none-passes, passes-none, faultless-passes}
use Rattle.cert_rules.proofs.GapTests.{gap-decides}

module _ (p : Program) (rule : ℕ → RuleForms) (g : Gap) where
  -- a gap whose checks all pass holds
  pub passed-holds : AllPass (gap_checks p rule g) → GapHolds p rule g
  passed-holds h =
      let moves = each_passes _ _ g.set h.1 in
      let kept = each_passes _ _ g.set moves.1.1 in
      let balances = each_passes _ _ (balanced p g) kept.1 in record {
        shape = h.0;
        moves = each-in (λ t. MeetsAt (rule t).rows (point_of g.set g.moves t)) g.set moves.0;
        floor = moves.1.0;
        kept = each-in (λ t. IsPointOf (rule t).rows (point_of g.set g.kept t)) g.set kept.0;
        balances = All-from_recursion (λ c. balance rule g c ≡ pos 0) (balanced p g) balances.0;
        loses = balances.1.0;
      }

  -- the checks of a gap that holds all pass
  pub holds-passed : GapHolds p rule g → AllPass (gap_checks p rule g)
  holds-passed h = (
    h.shape,
    passes_each _ _ g.set (in-each (λ t. MeetsAt (rule t).rows (point_of g.set g.moves t)) g.set h.moves) (
      h.floor,
      passes_each _ _ g.set (in-each (λ t. IsPointOf (rule t).rows (point_of g.set g.kept t)) g.set h.kept)
          (passes_each _ _ (balanced p g) (recursion_from_All (λ c. balance rule g c ≡ pos 0) (balanced p g) h.balances)
          (h.loses, tt)),
    ),
  )

  -- a gap that holds has no first fault
  pub holds-faultless : GapHolds p rule g → HasNoFault p rule g
  holds-faultless h = record { none = passed_has_none (gap_checks p rule g) (holds-passed h) }

  -- a gap without a first fault holds
  pub faultless-holds : HasNoFault p rule g → GapHolds p rule g
  faultless-holds h = passed-holds (faultless-passes (gap_checks p rule g) (gap_tests p rule g) (gap-decides p rule g) h.none)

  -- a gap holds exactly if none of its tests fails, and its first fault is the reason of the first that does
  pub tested-holds : first_failing (gap_tests p rule g) ≡ None → GapHolds p rule g
  tested-holds e = passed-holds (none-passes (gap_checks p rule g) (gap_tests p rule g) (gap-decides p rule g) e)

  pub holds-tested : GapHolds p rule g → first_failing (gap_tests p rule g) ≡ None
  holds-tested h = passes-none (gap_checks p rule g) (gap_tests p rule g) (gap-decides p rule g) (holds-passed h)

  pub first-fault : (x : GapFault) → first_failing (gap_tests p rule g) ≡ Some x → IsFirstAmong (gap_checks p rule g) x
  first-fault x = first-sound (gap_checks p rule g) (gap_tests p rule g) (gap-decides p rule g) x

  pub fault-first : (x : GapFault) → IsFirstAmong (gap_checks p rule g) x → first_failing (gap_tests p rule g) ≡ Some x
  fault-first x = first-complete (gap_checks p rule g) (gap_tests p rule g) (gap-decides p rule g) x

  pub fault-refutes : (x : GapFault) → first_failing (gap_tests p rule g) ≡ Some x → ¬ (GapHolds p rule g)
  fault-refutes x e h = (holds-faultless h).none x (first-fault x e)

-- the checks of a gap agree with its definition
pub gap-checks-in-line : GapChecksAreInLine
gap-checks-in-line = record {
  pass = λ p rule g. (passed-holds p rule g, holds-passed p rule g);
  none = λ p rule g. (holds-faultless p rule g, faultless-holds p rule g);
  one = λ p rule g x y. first_is_one (gap_checks p rule g) x y;
}
