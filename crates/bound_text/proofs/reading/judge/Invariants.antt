use Rattle.std.proofs.Common.{length, map}
use Rattle.std.specs.Prelude.{IsTrue}
use Rattle.text_core.specs.Names.{name_of}
use Rattle.bound_text.specs.Views.{state_of, is_settled}
use Rattle.bound_text.proofs.ReadingLaws.{Decides}
use Rattle.bound_text.proofs.reading.judge.Given as goal

-- the current state decides the answer together with the pieces that are left
abbrev pub invariant-loop-first : goal.invariant-loop-first
invariant-loop-first l = Decides (map name_of l.names) l.bytes l.rest (state_of l.reader) × IsTrue (is_settled l.reader)

abbrev pub decreases-loop-first : goal.decreases-loop-first
decreases-loop-first l = length l.rest
