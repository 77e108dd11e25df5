use Rattle.std.proofs.Common.{◌≡◌, sym, subst}
use Rattle.std.specs.Prelude.{Result, Ok, Err, None, IfOk}
use Rattle.model.specs.Terms.{Term}
use Rattle.model.specs.Polynomials.{Polynomial}
use Rattle.poly_terms.specs.declared.poly.Poly.{Poly}
use Rattle.poly_terms.specs.declared.poly_error.PolyError.{PolyError}
use Rattle.poly_terms.specs.Expanding.{expanded}
use Rattle.poly_terms.specs.Faults.{first_fault}
use Rattle.poly_terms.specs.Ordered.{IsOrdered, IsSmall}
use Rattle.poly_terms.specs.Laws.{HasTheValueOf}
use Rattle.poly_terms.specs.Views.{term_of, poly_of}
use Rattle.poly_terms.specs.Answers.{Answers}
use Rattle.poly_terms.proofs.Values.{expanded-value}
use Rattle.poly_terms.proofs.OrderLaws.{expanded-ordered}
use Rattle.poly_terms.proofs.AnswerLaws.{expanded-small}
use Rattle.poly_terms.proofs.expanding.expand.Goals as goal

-- a property of the expanded form of an expression without a fault holds of the polynomial that is returned
holds : (P : Polynomial → Type 0) (t : Term) (r : Result Poly PolyError) → Answers r (first_fault t) (expanded t) → (first_fault t ≡ None → P (expanded t)) → IfOk r (λ p. P (poly_of p))
holds P t (Ok p) a h = subst P (sym a.0) (h a.1)
holds P t (Err e) a h = tt

pub returns-clause-value : goal.returns-clause-value
returns-clause-value c =
    let t = term_of c.args.e.now in holds (HasTheValueOf t) t c.whole_expansion.result c.whole_expansion.ensures (λ n. record { each = expanded-value t })

pub returns-clause-ordered : goal.returns-clause-ordered
returns-clause-ordered c =
    let t = term_of c.args.e.now in holds IsOrdered t c.whole_expansion.result c.whole_expansion.ensures (λ n. expanded-ordered t)

pub returns-clause-small : goal.returns-clause-small
returns-clause-small c =
    let t = term_of c.args.e.now in holds IsSmall t c.whole_expansion.result c.whole_expansion.ensures (expanded-small t)
