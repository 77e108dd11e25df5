use Rattle.std.proofs.Common.{◌≡◌, ◌++◌, map, drop}
use Rattle.std.specs.Fmt.{signed_decimal}
use Rattle.report_text.specs.Pieces.{with_commas_before}
use Rattle.koat_cli.proofs.moving_text.push_after_commas.Given as goal

-- the written text and the remaining one are the whole
abbrev pub invariant-loop-part : goal.invariant-loop-part
invariant-loop-part l =
    l.text.items ++ with_commas_before (map signed_decimal (drop l.part-index l.parts))
    ≡ l.initial.text.items ++ with_commas_before (map signed_decimal l.parts)
