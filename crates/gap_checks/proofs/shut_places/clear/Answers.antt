use Rattle.std.proofs.Common.{◌∙◌, Bool, List, [], false, get_or, replicate, ap, arith}
use Rattle.std.proofs.lemmas.List.{get_or-replicate}
use Rattle.std.proofs.lemmas.List.Edits.{fill_by_more}
use Rattle.gap_checks.proofs.shut_places.clear.Goals as goal

pub loop-index-preserved : goal.loop-index-preserved
loop-index-preserved c =
    fill_by_more (λ k. replicate 33 false) c.loop-index.rows c.loop-index.index []
    (omega (arith, c.loop-index-test.true, c.loop-index.auto.rows)) c.loop-index.invariant

pub returns-clause-clear : goal.returns-clause-clear
returns-clause-clear c = λ k i l m.
    ap (λ (xs : List Bool). get_or xs i false)
    (c.loop-index.invariant k (omega (arith, l, c.loop-index-test.false, c.loop-index.auto.rows)))
    ∙ get_or-replicate 33 i false false m
