use Rattle.std.proofs.Common.{◌≡◌, ◌++◌, drop}
use Rattle.text_grammar.specs.Spelled.{body_of}
use Rattle.text_grammar.proofs.leading.stack_of.Given as goal

-- the symbols so far, before the remaining ones, are all
abbrev pub invariant-loop-item : goal.invariant-loop-item
invariant-loop-item l = l.stack.items ++ body_of (drop l.item-index l.body) ≡ body_of l.body
