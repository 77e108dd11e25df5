use Rattle.std.proofs.Common.{arith}
use Rattle.text_grammar.proofs.TableLaws.{entry_set}
use Rattle.text_grammar.proofs.tables.put.Goals as goal

pub returns : goal.returns
returns c = entry_set c.args.row.now.items c.lengthen.new.row.items c.args.number c.args.made c.in_ok-lengthen.ensures.same (let long = c.in_ok-lengthen.ensures.long in omega (arith, long))
