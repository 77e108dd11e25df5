use Rattle.std.proofs.Common.{ℕ, ◌+◌, List, drop, ap, sym, ◌∙◌}
use Rattle.std.proofs.lemmas.List.{drop_more}
use Rattle.poly_terms.specs.Distinct.{is_within_table}
use Rattle.poly_terms.specs.Keys.{number_of}
use Rattle.poly_terms.proofs.distinct.is_in_table.Goals as goal

pub loop-preserved : goal.loop-preserved
loop-preserved c =
    ap (is_within_table (drop (c.loop.index + 1) c.args.table.now)) c.other_digits-rest.ensures
    ∙ (sym (ap (λ (vs : List ℕ). is_within_table vs (number_of c.loop.rest)) (drop_more c.args.table.now c.loop.index 0 c.loop-test.true)) ∙ c.loop.invariant)
