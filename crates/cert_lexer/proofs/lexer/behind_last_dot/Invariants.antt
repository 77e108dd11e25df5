use Rattle.std.proofs.Common.{◌≡◌, ◌<◌, ◌≤◌, length, None}
use Rattle.std.specs.Prelude.{IfSome, option_map}
use Rattle.cert_lexer.specs.Lexing.{behind_last_dot}
use Rattle.cert_lexer.proofs.lexer.behind_last_dot.Given as goal

-- the bytes after the last dot of those that are left, or else those after the last dot so far, are the bytes after the
-- last dot of all
abbrev pub invariant-loop-first : goal.invariant-loop-first
invariant-loop-first l =
    (behind_last_dot (option_map (λ a. a.now) l.after) l.rest ≡ behind_last_dot None l.run)
    × IfSome l.after (λ a. length a.now < length l.run) × (length l.rest ≤ length l.run)

abbrev pub decreases-loop-first : goal.decreases-loop-first
decreases-loop-first l = length l.rest
