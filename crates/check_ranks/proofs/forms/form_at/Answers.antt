use Rattle.std.proofs.Common.{◌≤◌, ◌∙◌, map, ap, sym, subst, arith}
use Rattle.cert_types.specs.Views.{form_of}
use Rattle.cert_types.specs.declared.rank.Form.{Form}
use Rattle.cert_types.specs.cert_rules.Composed.{rank_form}
use Rattle.check_ranks.proofs.OrderedForms.{rank-here, rank-past, symbols-rise}
use Rattle.check_ranks.proofs.forms.form_at.Goals as goal

pub forms_below-below-requires : goal.forms_below-below-requires
forms_below-below-requires c = symbols-rise c.args.forms.now c.requires

pub returns-then-below-forms : goal.returns-then-below-forms
returns-then-below-forms c =
    rank-past c.args.forms.now c.forms_below-below.result c.in-Some.number c.forms_below-below.ensures.below
    (omega arith)
    ∙ ap (rank_form (map form_of c.args.forms.now)) (sym c.in-Some.is)

pub returns : goal.returns
returns c =
    let f = c.index-forms-below.result in
    let i = c.forms_below-below.result in
    c.form_if.ensures
    ∙ (rank-here c.args.forms.now i f c.in-Some.number c.requires c.forms_below-below.ensures.below (omega arith)
    c.index-forms-below.is
    (subst (λ (g : Form). c.in-Some.number ≤ g.symbol) (sym c.index-forms-below.is)
    (c.forms_below-below.ensures.behind i f (omega arith) (omega arith)))
    ∙ ap (rank_form (map form_of c.args.forms.now)) (sym c.in-Some.is))
