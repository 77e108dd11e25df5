use Rattle.simplex_core.specs.linear_forms.Forms.{at}
use Rattle.cert_types.specs.AnswerViews.{scaled_of}
use Rattle.rank_search.specs.Reading.{shape_at}
use Rattle.poly_terms.proofs.model.Cases.{IfOk-both as IfOk-from_both}
use Rattle.rank_search.proofs.Groups.{point-one}
use Rattle.rank_search.proofs.gap.rule_element.Goals as goal

pub returns : goal.returns
returns c =
    IfOk-from_both c.element_from.result _ _ _
    (λ z e f. point-one (at c.args.numbers.now) c.args.start c.unknowns_at.result
    (shape_at c.args.prepared_rules.now c.args.rule) (scaled_of z) c.unknowns_at.ensures e f)
    c.element_from.ensures.parts c.element_from.ensures.den
