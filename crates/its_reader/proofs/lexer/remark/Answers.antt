use Rattle.std.proofs.Common.{sym, ◌∙◌, arith, length-take}
use Rattle.its_reader.proofs.Tokens.{closing_within}
use Rattle.its_reader.proofs.lexer.remark.Goals as goal

pub slice_bounds-found-end : goal.slice_bounds-found-end
slice_bounds-found-end c =
    let h = (closing_within c.args.text.now 0).each c.in-Some.len (sym c.comment_len.ensures.value ∙ c.in-Some.is) in
    let k = h.1 in omega (arith, length-take c.in-Some.len c.args.text.now, k)
