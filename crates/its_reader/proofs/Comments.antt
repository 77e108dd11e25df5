-- How many bytes a comment has, byte by byte.
use Rattle.std.proofs.Common.{◌≡◌, ℕ, suc, ◌+◌, Option, Some, None, refl, ap, arith}
use Rattle.its_text.specs.Lexing.{one_more}

-- an optional number of bytes, plus this many
abbrev pub counted : ℕ → Option ℕ → Option ℕ
counted n None = None
counted n (Some m) = Some (n + m)

counted-more : (n : ℕ) (o : Option ℕ) → counted n (one_more o) ≡ counted (suc n) o
counted-more n None = refl
counted-more n (Some m) = ap Some (let e : n + suc m ≡ suc n + m = omega arith in e)
