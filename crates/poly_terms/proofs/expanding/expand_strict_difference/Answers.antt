use Rattle.std.proofs.Common.{refl, map, ap, sym, ◌∙◌, subst}
use Rattle.std.specs.Prelude.{pos}
use Rattle.model.specs.Terms.{Literal, Subtraction}
use Rattle.model.specs.Polynomials.{Polynomial}
use Rattle.poly_terms.specs.Expanding.{opposite, expanded, one, sum_of}
use Rattle.poly_terms.specs.Faults.{fault_in, first_fault}
use Rattle.poly_terms.specs.Ordered.{IsAscending, IsSmall}
use Rattle.poly_terms.specs.Views.{term_of}
use Rattle.poly_terms.specs.Answers.{Answers}
use Rattle.poly_terms.proofs.OrderLaws.{expanded-ordered, ascending-opposite}
use Rattle.poly_terms.proofs.FaultLaws.{says-first}
use Rattle.poly_terms.proofs.AnswerLaws.{expanded-small, two-fail, two-answer}
use Rattle.poly_terms.proofs.expanding.expand_strict_difference.Goals as goal

pub limited_sum-requires-clause-ascending : goal.limited_sum-requires-clause-ascending
limited_sum-requires-clause-ascending c =
    subst IsAscending (sym c.in-Ok.ensures.0) (expanded-ordered (Subtraction (term_of c.args.d.now) (term_of c.args.e.now))).ascending

pub limited_sum-requires-clause-right_ascending : goal.limited_sum-requires-clause-right_ascending
limited_sum-requires-clause-right_ascending c =
    subst IsAscending (sym (c.opposite_of.ensures ∙ ap (map opposite) c.in_ok-unit-in-Ok.ensures)) (ascending-opposite one (expanded-ordered (Literal (pos 1))).ascending)

pub limited_sum-requires-clause-left : goal.limited_sum-requires-clause-left
limited_sum-requires-clause-left c =
    subst IsSmall (sym c.in-Ok.ensures.0) (expanded-small (Subtraction (term_of c.args.d.now) (term_of c.args.e.now)) c.in-Ok.ensures.1)

pub returns-in_ok-unit-in-Ok : goal.returns-in_ok-unit-in-Ok
returns-in_ok-unit-in-Ok c =
    let d = Subtraction (term_of c.args.d.now) (term_of c.args.e.now) in
    let one = Literal (pos 1) in
    let right = c.opposite_of.ensures ∙ ap (map opposite) c.in_ok-unit-in-Ok.ensures in
    two-answer c.limited_sum.result (expanded (Subtraction d one)) d one (Subtraction d one) c.in-Ok.ensures.1 refl
    (subst (λ (q : Polynomial). Answers c.limited_sum.result (fault_in q 1) q) (λ i. sum_of (c.in-Ok.ensures.0 i) (right i)) c.limited_sum.ensures)

pub returns-in-Err : goal.returns-in-Err
returns-in-Err c =
    let d = Subtraction (term_of c.args.d.now) (term_of c.args.e.now) in
    two-fail c.in-Err.error d (Literal (pos 1)) (Subtraction d (Literal (pos 1))) (says-first c.in-Err.error (first_fault d) (first_fault (Literal (pos 1))) c.in-Err.ensures)
