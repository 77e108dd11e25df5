use Rattle.std.proofs.Common.{sym, subst}
use Rattle.model.specs.Terms.{Subtraction}
use Rattle.poly_terms.specs.Ordered.{IsAscending, IsSmall}
use Rattle.poly_terms.specs.Views.{poly_of}
use Rattle.poly_terms.proofs.AnswerLaws.{opposite-small}
use Rattle.poly_terms.proofs.FormStepLaws.{difference-answers}
use Rattle.poly_terms.proofs.OrderLaws.{ascending-opposite}
use Rattle.poly_terms.proofs.form_steps.exact_difference.Goals as goal

pub limited_sum-requires-clause-right_ascending : goal.limited_sum-requires-clause-right_ascending
limited_sum-requires-clause-right_ascending c =
    subst IsAscending (sym c.opposite_of.ensures) (ascending-opposite (poly_of c.in_ok-q.q) c.in_ok-q.ensures.ordered.ascending)

pub limited_sum-requires-clause-right : goal.limited_sum-requires-clause-right
limited_sum-requires-clause-right c =
    subst IsSmall (sym c.opposite_of.ensures) (opposite-small (poly_of c.in_ok-q.q) c.in_ok-q.ensures.small)

pub returns : goal.returns
returns c = λ d e h k.
    c.packed_form.ensures (Subtraction d e)
    (difference-answers c.limited_sum.result (poly_of c.in_ok-p.p) (poly_of c.in_ok-q.q) (poly_of c.opposite_of.result) d e
    (c.in_ok-p.ensures.whole d h) (c.in_ok-q.ensures.whole e k) c.opposite_of.ensures c.limited_sum.ensures)
