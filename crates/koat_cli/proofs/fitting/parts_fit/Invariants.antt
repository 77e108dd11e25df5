use Rattle.std.proofs.Common.{take}
use Rattle.std.specs.List.{AllByRecursion}
use Rattle.report_text.specs.Printable.{IsShortSigned}
use Rattle.koat_cli.proofs.fitting.parts_fit.Given as goal

-- the parts before this one fit
abbrev pub invariant-loop-part : goal.invariant-loop-part
invariant-loop-part l = AllByRecursion IsShortSigned (take l.part-index l.parts)
