use Rattle.std.proofs.lemmas.Result.{IfOk-weaker}
use Rattle.simplex_core.specs.linear_forms.Forms.{at}
use Rattle.rank_search.specs.Reading.{shape_at}
use Rattle.rank_search.proofs.Groups.{multipliers-one}
use Rattle.rank_search.proofs.found.rule_multipliers.Goals as goal

pub returns : goal.returns
returns c =
    IfOk-weaker c.multipliers_from.result _ _
    (λ v e. multipliers-one (at c.args.numbers.now) c.args.start c.rows_at.result
    (shape_at c.args.prepared_rules.now c.args.rule) v.items c.rows_at.ensures e)
    c.multipliers_from.ensures
