use Rattle.std.proofs.Common.{length}
use Rattle.std.specs.Prelude.{IsTrue}
use Rattle.bound_text.specs.Views.{is_settled, state_of}
use Rattle.cert_lexer.specs.Packed.{inners_in}
use Rattle.cert_lexer.proofs.BoundLaws.{Decides}
use Rattle.cert_lexer.proofs.bound_reading.read_alone.Given as goal

-- the reader's state decides the answer together with the pieces that are left
abbrev pub invariant-loop-inner : goal.invariant-loop-inner
invariant-loop-inner l = Decides l.names (inners_in l.pieces) (inners_in l.rest) (state_of l.reader) × IsTrue (is_settled l.reader)

abbrev pub decreases-loop-inner : goal.decreases-loop-inner
decreases-loop-inner l = length (inners_in l.rest)
