use Rattle.std.proofs.Common.{◌≡◌, map}
use Rattle.its_model.specs.Views.{rule_of}
use Rattle.its_writer.specs.Generated.{generated_rules}
use Rattle.its_writer.proofs.generator.rules.Given as goal

-- the rules for the numbers so far have been made
abbrev pub invariant-loop-before : goal.invariant-loop-before
invariant-loop-before l = map rule_of l.rules.items ≡ generated_rules l.before
