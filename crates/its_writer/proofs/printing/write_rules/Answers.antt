-- One more rule is written, and in the end none is left.
use Rattle.std.proofs.Common.{map}
use Rattle.its_model.specs.Views.{symbol_of, rule_of}
use Rattle.its_writer.specs.Texts.{rule_then}
use Rattle.its_writer.proofs.Written.{written_next, written_end}
use Rattle.its_writer.proofs.printing.write_rules.Goals as goal

pub loop-rule-preserved : goal.loop-rule-preserved
loop-rule-preserved c =
    written_next rule_of (rule_then (map (λ s. s.name) (map symbol_of c.args.symbols.now))) c.args.rules.now c.loop-rule.rule-index c.rule-item.result c.args.text.now.items c.loop-rule.text.items
    c.write_rule.new.text.items _ c.loop-rule-test.true c.rule-item.is c.loop-rule.invariant c.in_ok-write_rule.ensures

pub returns : goal.returns
returns c =
    written_end rule_of (rule_then (map (λ s. s.name) (map symbol_of c.args.symbols.now))) c.args.rules.now c.loop-rule.rule-index c.args.text.now.items c.loop-rule.text.items _ c.loop-rule-test.false
    c.loop-rule.invariant
