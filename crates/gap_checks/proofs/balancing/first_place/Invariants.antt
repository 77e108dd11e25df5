use Rattle.std.proofs.Common.{◌≡◌, ◌⊎◌, ℕ, ◌<◌, false}
use Rattle.its_model.specs.Views.{program_of}
use Rattle.cert_types.specs.cert_rules.Gaps.{is_shut}
use Rattle.cert_types.specs.AnswerViews.{gap_of}
use Rattle.gap_checks.specs.GapTests.{coefficient_at, IsBalanced}
use Rattle.gap_checks.proofs.balancing.first_place.Given as goal

abbrev pub invariant-loop-place : goal.invariant-loop-place
invariant-loop-place l =
    (i : ℕ) → i < l.place → (i ≡ 0) ⊎ (is_shut (gap_of l.g).shut l.symbol i ≡ false)
    → IsBalanced (program_of l.p) (gap_of l.g) (coefficient_at l.symbol i)
