use Rattle.std.proofs.Common.{◌≡◌}
use Rattle.poly_terms.specs.Views.{term_of}
use Rattle.expr_text.specs.TermGrammarStates as terms
use Rattle.expr_reader.proofs.making.negated.Given as goal

abbrev pub invariant-loop-left : goal.invariant-loop-left
invariant-loop-left l = terms.negated l.left (term_of l.made) ≡ terms.negated l.initial.left (term_of l.initial.made)

abbrev pub decreases-loop-left : goal.decreases-loop-left
decreases-loop-left l = l.left
