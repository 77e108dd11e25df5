use Rattle.std.proofs.Common.{sym}
use Rattle.cert_lexer.proofs.PackedLaws.{unpacked_length}
use Rattle.cert_lexer.proofs.packed.PackedRest.len.Goals as goal

pub returns : goal.returns
returns c = sym (unpacked_length c.args.self.now.marks.now c.args.self.now.shorts.now c.args.self.now.longs.now)
