-- A name and a row of digits have no more bytes than there are.
use Rattle.std.proofs.Common.{ℕ, ◌<◌, ◌≤◌, Bool, true, false, cond, List, length, length-append, ap, arith}
use Rattle.text_core.proofs.PrefixLaws.{prefix-rest}
use Rattle.text_core.specs.Prefixes.{prefix, rest}
use Rattle.text_core.specs.Tokens.{Lexeme}

-- a lexeme has a byte at least, and no more than this many
abbrev pub Fits : {P : Type 0} → ℕ → Lexeme P → Type 0
Fits most l = (0 < l.len) × (l.len ≤ most)

-- one of two lexemes that fit, chosen by a test, fits
pub either_fits : {P : Type 0} (most : ℕ) (v : Bool) (a b : Lexeme P) → Fits most a → Fits most b
    → Fits most (cond v a b)
either_fits most true a b h k = h
either_fits most false a b h k = k

-- a prefix of bytes is no longer than they are
pub prefix_fits : (test : ℕ → Bool) (bytes : List ℕ) → length (prefix test bytes) ≤ length bytes
prefix_fits test bytes =
    let e = length-append (prefix test bytes) (rest test bytes) in
    let f = ap length (prefix-rest test bytes) in omega (arith, e, f)
