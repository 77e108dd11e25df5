use Rattle.std.proofs.Common.{drop, map}
use Rattle.its_model.specs.Views.{symbol_of, rule_of}
use Rattle.its_writer.specs.Layout.{each_then}
use Rattle.its_writer.specs.Texts.{rule_then}
use Rattle.its_writer.specs.Printing.{Writes}
use Rattle.its_writer.proofs.printing.write_rules.Given as goal

-- writing the remaining rules after the text so far gives the text of all rules
abbrev pub invariant-loop-rule : goal.invariant-loop-rule
invariant-loop-rule l =
    Writes l.fn.text.items l.text.items (each_then (rule_then (map (λ s. s.name) (map symbol_of l.symbols))) (map rule_of l.rules))
    (each_then (rule_then (map (λ s. s.name) (map symbol_of l.symbols))) (map rule_of (drop l.rule-index l.rules)))
