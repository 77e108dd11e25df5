use Rattle.std.proofs.Common.{◌≡◌, ◌++◌, map, drop}
use Rattle.std.specs.List.{flat_map}
use Rattle.its_model.specs.Views.{program_of}
use Rattle.claims_check.specs.Views.{stated_of}
use Rattle.claims_text.specs.Statements.{stated_line}
use Rattle.claims_text.proofs.statements.push_statements.Given as goal

-- what is written, followed by the text of the lines left, is the whole
abbrev pub invariant-loop-statement : goal.invariant-loop-statement
invariant-loop-statement l =
    l.text.items ++ flat_map (stated_line (program_of l.program)) (map stated_of (drop l.statement-index l.statements))
    ≡ l.initial.text.items ++ flat_map (stated_line (program_of l.program)) (map stated_of l.statements)
