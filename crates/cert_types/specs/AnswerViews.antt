-- Answers, reasons, gaps and proof files as plain data, which contracts speak of.
use Rattle.std.specs.Prelude.{ℕ, map}
use Rattle.farkas_cert.specs.declared.scaled.Scaled.{Scaled}
use Rattle.cert_program.specs.cert_rules.Reasons as reasons
use Rattle.cert_program.specs.cert_rules.GapChecks as faults
use Rattle.cert_program.specs.cert_rules.Gaps as gaps
use Rattle.cert_types.specs.declared.answer.GapFault.{GapFault}
use Rattle.cert_types.specs.declared.answer.GapFault.TheVariants as off
use Rattle.cert_types.specs.declared.answer.Reason.{Reason}
use Rattle.cert_types.specs.declared.answer.Reason.TheVariants as told
use Rattle.cert_types.specs.declared.gap.Gap.{Gap}
use Rattle.cert_types.specs.declared.file.ProofFile.{ProofFile}
use Rattle.cert_types.specs.Views.{proof_of}

-- why a node isn't accepted
abbrev pub reason_of : Reason → reasons.Reason
reason_of told.Shape = reasons.Shape
reason_of told.Empty = reasons.NotEmpty
reason_of told.Reached = reasons.Reached
reason_of told.Zero = reasons.NotZero
reason_of (told.Move rule) = reasons.Move rule
reason_of told.Floor = reasons.Floor
reason_of (told.SideBoundUp rule place) = reasons.SideBoundUp rule place
reason_of (told.SideBoundLow rule place) = reasons.SideBoundLow rule place
reason_of (told.MissingTime rule) = reasons.MissingTime rule
reason_of (told.MissingSize rule place) = reasons.MissingSize rule place
reason_of (told.Nonlinear rule place) = reasons.Nonlinear rule place
reason_of (told.Large nodes) = reasons.Large nodes
reason_of told.Weaker = reasons.NotWeaker

-- why a gap doesn't hold
abbrev pub fault_of : GapFault → faults.GapFault
fault_of off.Shape = faults.WrongShape
fault_of (off.Move rule) = faults.MoveOff rule
fault_of off.Floor = faults.FloorOff
fault_of (off.Kept rule) = faults.NotKept rule
fault_of (off.Balance symbol place) = faults.Unbalanced symbol place
fault_of off.Nothing = faults.LosesNothing

-- a scaled point as plain data
abbrev pub scaled_of : Scaled → gaps.ScaledPoint
scaled_of z = record { parts = z.parts.items; den = z.den }

-- a place of a symbol as plain data
abbrev pub symbol_place : ℕ → ℕ → gaps.SymbolPlace
symbol_place symbol place = record { symbol = symbol; place = place }

abbrev pub shut_of : ℕ × ℕ → gaps.SymbolPlace
shut_of s = symbol_place s.0 s.1

-- a gap as plain data
abbrev pub gap_of : Gap → gaps.Gap
gap_of g = record {
  rule = g.rule;
  set = g.set.items;
  shut = map shut_of g.shut.items;
  moves = map scaled_of g.moves.items;
  floor = scaled_of g.floor;
  kept = map scaled_of g.kept.items;
}

-- a proof file as plain data
abbrev pub file_of : ProofFile → gaps.ProofFile
file_of f = record { lemmas = map proof_of f.lemmas.items; gaps = map gap_of f.gaps.items }
