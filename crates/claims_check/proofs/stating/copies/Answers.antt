use Rattle.std.proofs.Common.{◌∙◌, arith}
use Rattle.claims_check.proofs.BelowLaws.{list-read}
use Rattle.claims_check.proofs.stating.copies.Goals as goal

pub returns : goal.returns
returns c =
    let tables = c.requires.prepared.tables in
    c.deref.ensures.value
    ∙ (list-read c.args.prepared.tables.now.copies.items c.args.rule c.index.result.now
    (omega (arith, tables.counted, c.requires.there)) c.index.ensures
    ∙ tables.copies c.args.rule (omega (arith, tables.counted, c.requires.there)))
