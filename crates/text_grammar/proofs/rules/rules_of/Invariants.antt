use Rattle.std.proofs.Common.{◌≡◌, ◌++◌, length}
use Rattle.text_grammar.specs.Grammars.{rules_of}
use Rattle.text_grammar.specs.Views.{rules_view}
use Rattle.text_grammar.proofs.RuleLaws.{has_end, after_end}
use Rattle.text_grammar.proofs.rules.rules_of.Given as goal

-- the rules so far and those of the remaining items are all rules; and no rule ends within the items read since the
-- last one
abbrev pub invariant-loop-item : goal.invariant-loop-item
invariant-loop-item l = record {
  all : rules_view l.rules.items ++ rules_of l.rule ≡ rules_of l.fn.items;
  ends : has_end l.rule ≡ has_end l.left;
  after : after_end l.rule ≡ after_end l.left;
}

abbrev pub decreases-loop-item : goal.decreases-loop-item
decreases-loop-item l = length l.left
