-- Nodes over a table of known bounds: accepted if no test fails, else the reason of the first that fails is the first.
use Rattle.std.proofs.Common.{◌≡◌, List, Some, None}
use Rattle.cert_rules.specs.Nodes.{RankNode, Member}
use Rattle.cert_rules.specs.Known.{Table}
use Rattle.cert_rules.specs.Setting.{Setting}
use Rattle.cert_rules.specs.AcceptsRank.{AcceptsRank}
use Rattle.cert_rules.specs.AcceptsSizes.{AcceptsSpread, AcceptsCycle}
use Rattle.cert_rules.specs.Reasons.{Reason, IsFirstAmong}
use Rattle.cert_rules.specs.Checks.{rank_checks, spread_checks, cycle_checks}
use Rattle.cert_rules.specs.Tests.{first_failing}
use Rattle.cert_rules.specs.RankTests.{rank_tests}
use Rattle.cert_rules.specs.SizeTests.{spread_tests, cycle_tests}
use Rattle.cert_rules.proofs.FirstReasons.{passes-rank}
use Rattle.cert_rules.proofs.SizeReasons.{passes-spread, passes-cycle}
use Rattle.cert_rules.proofs.TestLists.{first-sound, none-passes}
use Rattle.cert_rules.proofs.RankTests.{rank-decides}
use Rattle.cert_rules.proofs.SizeTests.{spread-decides, cycle-decides}

module _ (s : Setting) (table : Table) where
  -- a ranking node, a spread or a loop of which no test fails is accepted
  pub tested-rank : (node : RankNode) → first_failing (rank_tests s table node) ≡ None → AcceptsRank s table node
  tested-rank node e =
      passes-rank s table node
      (none-passes (rank_checks s table node) (rank_tests s table node) (rank-decides s node table) e)

  pub tested-spread : (m : Member) → first_failing (spread_tests s table m) ≡ None → AcceptsSpread s table m
  tested-spread m e =
      passes-spread s table m
      (none-passes (spread_checks s table m) (spread_tests s table m) (spread-decides s table m) e)

  pub tested-cycle : (ms : List Member) → first_failing (cycle_tests s table ms) ≡ None → AcceptsCycle s table ms
  tested-cycle ms e =
      passes-cycle s table ms
      (none-passes (cycle_checks s table ms) (cycle_tests s table ms) (cycle-decides s table ms) e)

  -- the reason of the first test of a spread or a loop that fails is that of its first check that does
  pub first-spread : (m : Member) (r : Reason) → first_failing (spread_tests s table m) ≡ Some r
      → IsFirstAmong (spread_checks s table m) r
  first-spread m = first-sound (spread_checks s table m) (spread_tests s table m) (spread-decides s table m)

  pub first-cycle : (ms : List Member) (r : Reason) → first_failing (cycle_tests s table ms) ≡ Some r
      → IsFirstAmong (cycle_checks s table ms) r
  first-cycle ms = first-sound (cycle_checks s table ms) (cycle_tests s table ms) (cycle-decides s table ms)
