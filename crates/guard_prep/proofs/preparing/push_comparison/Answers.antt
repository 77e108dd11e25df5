use Rattle.std.proofs.Common.{ap, sym, ◌∙◌, subst}
use Rattle.poly_terms.specs.Ordered.{IsAscending}
use Rattle.poly_terms.specs.AffineForms.{HasVariablesBelow, linear_form}
use Rattle.poly_terms.specs.Views.{term_of}
use Rattle.poly_terms.proofs.OrderLaws.{expanded-ordered}
use Rattle.poly_terms.proofs.VariableLaws.{variables-expanded}
use Rattle.its_model.specs.Valid.{difference_of}
use Rattle.its_model.specs.Views.{relation_of}
use Rattle.guard_prep.specs.Laws.{IsSmallForm}
use Rattle.guard_prep.proofs.PointLaws.{reads-difference}
use Rattle.guard_prep.proofs.SizeLaws.{expanded-form-small}
use Rattle.guard_prep.proofs.preparing.push_comparison.Goals as goal

pub linear_part-requires-clause-ordered : goal.linear_part-requires-clause-ordered
linear_part-requires-clause-ordered c =
    let t = difference_of (term_of c.args.d.now) (relation_of c.args.rel) (term_of c.args.e.now) in
    subst IsAscending (sym c.in_ok-p.ensures) (expanded-ordered t).ascending

pub linear_part-requires-clause-in_range : goal.linear_part-requires-clause-in_range
linear_part-requires-clause-in_range c =
    let d = term_of c.args.d.now in
    let e = term_of c.args.e.now in
    let t = difference_of d (relation_of c.args.rel) e in
    subst (HasVariablesBelow c.args.unknowns) (sym c.in_ok-p.ensures)
    (variables-expanded c.args.unknowns t (reads-difference c.args.unknowns d (relation_of c.args.rel) e c.requires.left c.requires.right))

pub push_rows-requires-clause-coefs : goal.push_rows-requires-clause-coefs
push_rows-requires-clause-coefs c =
    let t = difference_of (term_of c.args.d.now) (relation_of c.args.rel) (term_of c.args.e.now) in
    let row = rw c.in-Some.is at c.in_ok-row.ensures.row in
    (subst (IsSmallForm c.args.unknowns) (sym (row.1 ∙ ap (linear_form c.args.unknowns) c.in_ok-p.ensures)) (expanded-form-small c.args.unknowns t c.requires.expands)).coefs

pub push_rows-requires-clause-constant : goal.push_rows-requires-clause-constant
push_rows-requires-clause-constant c =
    let t = difference_of (term_of c.args.d.now) (relation_of c.args.rel) (term_of c.args.e.now) in
    let row = rw c.in-Some.is at c.in_ok-row.ensures.row in
    (subst (IsSmallForm c.args.unknowns) (sym (row.1 ∙ ap (linear_form c.args.unknowns) c.in_ok-p.ensures)) (expanded-form-small c.args.unknowns t c.requires.expands)).constant
