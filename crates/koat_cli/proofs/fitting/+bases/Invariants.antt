use Rattle.std.proofs.Common.{take}
use Rattle.bound_expr.specs.Views.{bounds_of, parts_of}
use Rattle.bound_text.specs.Texts.{HaveShortBases}
use Rattle.koat_cli.proofs.fitting.+bases.Given as goal

abbrev pub invariant-all_bases_fit-loop-part : goal.invariant-all_bases_fit-loop-part
invariant-all_bases_fit-loop-part l = HaveShortBases (parts_of (bounds_of (take l.part-index l.parts)))
