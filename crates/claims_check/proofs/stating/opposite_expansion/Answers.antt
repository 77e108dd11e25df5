use Rattle.std.proofs.Common.{◌≡◌, ◌∙◌, None, ap, sym, subst}
use Rattle.model.specs.Terms.{Term, Negation}
use Rattle.poly_terms.specs.Faults.{first_fault}
use Rattle.poly_terms.specs.Views.{term_of}
use Rattle.claims_check.proofs.ExpansionLaws.{negation-expands}
use Rattle.claims_check.proofs.stating.opposite_expansion.Goals as goal

pub expansion-requires : goal.expansion-requires
expansion-requires c =
    subst (λ (t : Term). first_fault t ≡ None)
    (sym (c.in_ok-opposite.ensures ∙ ap (λ (t : Term). Negation t) c.in_ok-copied_expr.ensures))
    (negation-expands (term_of c.args.e.now) c.requires)
