use Rattle.std.proofs.Common.{◌≡◌, drop}
use Rattle.while_text.specs.Lexing.{follower_of}
use Rattle.while_text.proofs.lexer.follower_of.Given as goal

-- The bytes left decide the answer.
abbrev pub invariant-loop-byte : goal.invariant-loop-byte
invariant-loop-byte l = follower_of (drop l.byte-index l.bytes) ≡ follower_of l.bytes
