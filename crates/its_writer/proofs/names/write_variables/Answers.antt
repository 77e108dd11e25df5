-- One more name is written, and in the end none is left.
use Rattle.expr_reader.specs.Variables.{names_in}
use Rattle.its_writer.proofs.Written.{name_more}
use Rattle.its_writer.proofs.names.write_variables.Goals as goal

pub loop-i-preserved : goal.loop-i-preserved
loop-i-preserved c =
    name_more (names_in c.args.known.now) c.loop-i.i c.args.text.now.items c.loop-i.text.items c.write_variable.new.text.items _ c.loop-i.invariant c.in_ok-write_variable.ensures
