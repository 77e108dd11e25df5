use Rattle.std.proofs.Common.{◌≡◌, take}
use Rattle.std.specs.Prelude.{map}
use Rattle.poly_terms.specs.Views.{term_of}
use Rattle.location_facts.proofs.copies.copied_exprs.Given as goal

-- the expressions so far are copied
abbrev pub invariant-loop-expr : goal.invariant-loop-expr
invariant-loop-expr l = map term_of l.copies.items ≡ map term_of (take l.expr-index l.exprs)
