use Rattle.std.proofs.Common.{map}
use Rattle.std.specs.List.{All}
use Rattle.model.specs.Programs.{Program}
use Rattle.its_model.specs.Valid.{IsValid}
use Rattle.cert_types.specs.Composing.{AreRowsOf}
use Rattle.cert_types.specs.Views.{member_of}
use Rattle.time_bounds.specs.Candidates.{IsAccepted}
use Rattle.analysis_tests.proofs.members.members_at.Given as goal

-- the side bounds of the members so far are accepted
abbrev pub invariant-loop-result_variable : goal.invariant-loop-result_variable
invariant-loop-result_variable l = (p : Program) → IsValid p → AreRowsOf l.prepared_rules p
    → All (IsAccepted p) (map member_of l.members.items)
