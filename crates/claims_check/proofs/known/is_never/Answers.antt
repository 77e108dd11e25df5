use Rattle.std.proofs.Common.{◌∙◌, false}
use Rattle.std.proofs.lemmas.List.{get_or_read}
use Rattle.claims_check.proofs.known.is_never.Goals as goal

pub returns-in-Some : goal.returns-in-Some
returns-in-Some c =
    let found = c.in-Some.ensures.lookup in
    get_or_read c.args.known.never.now c.args.rule c.in-Some.flag.now found.3.0 found.1 false
    ∙ c.requires.each c.args.rule found.3.0
