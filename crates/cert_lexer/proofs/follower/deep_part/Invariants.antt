use Rattle.std.proofs.Common.{length}
use Rattle.cert_lexer.specs.Packed.{inners_in}
use Rattle.cert_lexer.proofs.FollowerLaws.{Reaches}
use Rattle.cert_lexer.proofs.follower.deep_part.Given as goal

-- the follower has come to a state, and the pieces that are left lead to the last one
abbrev pub invariant-loop-inner : goal.invariant-loop-inner
invariant-loop-inner l = Reaches (inners_in l.pieces) (inners_in l.rest) l.follower

abbrev pub decreases-loop-inner : goal.decreases-loop-inner
decreases-loop-inner l = length (inners_in l.rest)
