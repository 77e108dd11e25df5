-- The first gap that doesn't hold.
use Rattle.std.proofs.Common.{◌≡◌, ℕ, ◌+◌, ◌<◌, List, length, map, take, drop, get_or, All, arith}
use Rattle.model.specs.Programs.{Program}
use Rattle.cert_types.specs.AnswerViews.{gap_of}
use Rattle.cert_types.specs.declared.gap.Gap as code
use Rattle.cert_types.specs.cert_rules.GapChecks.{GapFault, GapHolds}
use Rattle.cert_types.specs.cert_rules.Refusals.{FailsFirst, IsFirstFault}
use Rattle.cert_types.specs.cert_program.RankedSets.{forms_at}
use Rattle.cert_context.proofs.Cuts.{cut-at, done-count}

-- a gap with a fault, after gaps that all hold, is the first that doesn't hold
pub off-at : (p : Program) (gs : List code.Gap) (i n : ℕ) (x : code.Gap) (f : GapFault) → i < length gs → x ≡ get_or gs i x
    → All (GapHolds p (forms_at p)) (map gap_of (take i gs)) → IsFirstFault p (forms_at p) (gap_of x) f → n ≡ i + 1
    → FailsFirst (GapHolds p (forms_at p)) (IsFirstFault p (forms_at p)) (map gap_of gs) n f
off-at p gs i n x f l e h k m = record {
  before = map gap_of (take i gs);
  element = gap_of x;
  behind = map gap_of (drop (i + 1) gs);
  whole = cut-at gap_of gs i x l e;
  number = omega (arith, m, done-count gap_of gs i (omega (arith, l)));
  passed = h;
  fails = k;
}
