-- The first line of a text, and the lines behind it.
use Rattle.std.proofs.Common.{◌≡◌, ◌==◌, ◌<◌, ◌≤◌, ◌+◌, ◌-◌, ◌++◌, ◌∙◌, ℕ, zero, suc, Bool, true, false, cond, List}
use Rattle.std.proofs.Common.{[], ◌∷◌, length}
use Rattle.std.proofs.Common.{take, drop, refl, sym, ap, subst, arith}
use Rattle.std.proofs.lemmas.List.{take_all, length-drop}
use Rattle.std.specs.List.{concat}
use Rattle.text_core.specs.Prefixes.{prefix, rest}
use Rattle.proof_parts.specs.Lines.{lines_of, with_first, first_line_length}
use Rattle.proof_parts.specs.Parts.{through, past}

-- a byte before some lines, whose first is there
first-longer : (b : ℕ) (bytes : List ℕ)
    → lines_of bytes ≡ take (first_line_length bytes) bytes ∷ lines_of (drop (first_line_length bytes) bytes)
    → with_first b (lines_of bytes)
    ≡ (b ∷ take (first_line_length bytes) bytes) ∷ lines_of (drop (first_line_length bytes) bytes)
first-longer b bytes e = ap (with_first b) e

-- the lines of a text are its first one and those behind it
pub lines-first : (b : ℕ) (bytes : List ℕ) → lines_of (b ∷ bytes)
    ≡ take (first_line_length (b ∷ bytes)) (b ∷ bytes) ∷ lines_of (drop (first_line_length (b ∷ bytes)) (b ∷ bytes))
lines-first b [] = go (b == 10) where
  go : (v : Bool) → cond v ((b ∷ []) ∷ []) ((b ∷ []) ∷ [])
      ≡ take (cond v 1 1) (b ∷ []) ∷ lines_of (drop (cond v 1 1) (b ∷ []))
  go true = refl
  go false = refl
lines-first b (c ∷ bytes) = go (b == 10) (lines-first c bytes) where
  go : (v : Bool)
      → lines_of (c ∷ bytes) ≡ take (first_line_length (c ∷ bytes)) (c ∷ bytes) ∷ lines_of (drop (first_line_length
      (c ∷ bytes)) (c ∷ bytes))
      → cond v ((b ∷ []) ∷ lines_of (c ∷ bytes)) (with_first b (lines_of (c ∷ bytes)))
      ≡ take (cond v 1 (suc (first_line_length (c ∷ bytes)))) (b ∷ c ∷ bytes)
      ∷ lines_of (drop (cond v 1 (suc (first_line_length (c ∷ bytes)))) (b ∷ c ∷ bytes))
  go true ih = refl
  go false ih = first-longer b (c ∷ bytes) ih

-- the lines of a text that isn't empty
pub lines-split : (bytes : List ℕ) (k : ℕ) → 0 < length bytes → k ≡ first_line_length bytes
    → lines_of bytes ≡ take k bytes ∷ lines_of (drop k bytes)
lines-split [] k h e = absurd (omega (arith, h))
lines-split (b ∷ bytes) k h e =
    subst (λ (n : ℕ). lines_of (b ∷ bytes)
    ≡ take n (b ∷ bytes) ∷ lines_of (drop n (b ∷ bytes))) (sym e) (lines-first b bytes)

-- a byte before some lines comes first in them
concat-first : (b : ℕ) (lines : List (List ℕ)) → concat (with_first b lines) ≡ b ∷ concat lines
concat-first b [] = refl
concat-first b (line ∷ lines) = refl

-- the lines of a text one behind the other are the text
pub concat-lines : (bytes : List ℕ) → concat (lines_of bytes) ≡ bytes
concat-lines [] = refl
concat-lines (b ∷ bytes) = go (b == 10) (concat-lines bytes) where
  go : (v : Bool) → concat (lines_of bytes) ≡ bytes
      → concat (cond v ((b ∷ []) ∷ lines_of bytes) (with_first b (lines_of bytes))) ≡ b ∷ bytes
  go true ih = ap (λ ys. b ∷ ys) ih
  go false ih = concat-first b (lines_of bytes) ∙ ap (λ ys. b ∷ ys) ih

-- of nothing there is nothing to take and nothing to drop
take-nothing : (k : ℕ) → take {A = ℕ} k [] ≡ []
take-nothing zero = refl
take-nothing (suc k) = refl

drop-nothing : (k : ℕ) → drop {A = ℕ} k [] ≡ []
drop-nothing zero = refl
drop-nothing (suc k) = refl

-- taking some and then some more
pub take-more : (at k : ℕ) (bytes : List ℕ) → take at bytes ++ take k (drop at bytes) ≡ take (at + k) bytes
take-more zero k bytes =
    let e : 0 + k ≡ k = omega arith in
    ap (λ (n : ℕ). take n bytes) (sym e)
take-more (suc at) k [] =
    let e : suc at + k ≡ suc (at + k) = omega arith in
    rw e (take-nothing k)
take-more (suc at) k (b ∷ bytes) =
    let e : suc at + k ≡ suc (at + k) = omega arith in
    rw e (ap (λ (ys : List ℕ). b ∷ ys) (take-more at k bytes))

-- dropping some and then some more
pub drop-more : (at k : ℕ) (bytes : List ℕ) → drop k (drop at bytes) ≡ drop (at + k) bytes
drop-more zero k bytes =
    let e : 0 + k ≡ k = omega arith in
    ap (λ (n : ℕ). drop n bytes) (sym e)
drop-more (suc at) k [] =
    let e : suc at + k ≡ suc (at + k) = omega arith in
    rw e (drop-nothing k)
drop-more (suc at) k (b ∷ bytes) =
    let e : suc at + k ≡ suc (at + k) = omega arith in
    rw e (drop-more at k bytes)

-- taking as many bytes as follow a position takes all of them
pub all-behind : (at : ℕ) (bytes : List ℕ) → at ≤ length bytes
    → take (length bytes - at) (drop at bytes) ≡ drop at bytes
all-behind at bytes h = take_all (length bytes - at) (drop at bytes) (omega (arith, length-drop at bytes))

-- where the first line passes a test, the lines at the beginning that pass are that line and those behind it that pass
pub passing-step : (test : List ℕ → Bool) (bytes : List ℕ) (k : ℕ) → 0 < length bytes → k ≡ first_line_length bytes
    → test (take k bytes) ≡ true → concat (prefix test (lines_of bytes))
    ≡ take k bytes ++ concat (prefix test (lines_of (drop k bytes)))
passing-step test bytes k h e t = rw (lines-split bytes k h e) (rw t refl)

pub passing-rest : (test : List ℕ → Bool) (bytes : List ℕ) (k : ℕ) → 0 < length bytes → k ≡ first_line_length bytes
    → test (take k bytes) ≡ true → rest test (lines_of bytes) ≡ rest test (lines_of (drop k bytes))
passing-rest test bytes k h e t = rw (lines-split bytes k h e) (rw t refl)

-- where it doesn't, there is none of them, and all lines are behind
pub failing-step : (test : List ℕ → Bool) (bytes : List ℕ) (k : ℕ) → 0 < length bytes → k ≡ first_line_length bytes
    → test (take k bytes) ≡ false → concat (prefix test (lines_of bytes)) ≡ []
failing-step test bytes k h e t = rw (lines-split bytes k h e) (rw t refl)

pub failing-rest : (test : List ℕ → Bool) (bytes : List ℕ) (k : ℕ) → 0 < length bytes → k ≡ first_line_length bytes
    → test (take k bytes) ≡ false → rest test (lines_of bytes) ≡ lines_of bytes
failing-rest test bytes k h e t = go (lines-split bytes k h e) where
  go : lines_of bytes ≡ take k bytes ∷ lines_of (drop k bytes) → rest test (lines_of bytes) ≡ lines_of bytes
  go s = rw s (rw t refl)

-- the lines up to the first one that passes, where the first line of the text does, and where it doesn't
pub found-step : (test : List ℕ → Bool) (bytes : List ℕ) (k : ℕ) → 0 < length bytes → k ≡ first_line_length bytes
    → test (take k bytes) ≡ true → concat (through test (lines_of bytes)) ≡ take k bytes ++ []
found-step test bytes k h e t = rw (lines-split bytes k h e) (rw t refl)

pub found-past : (test : List ℕ → Bool) (bytes : List ℕ) (k : ℕ) → 0 < length bytes → k ≡ first_line_length bytes
    → test (take k bytes) ≡ true → past test (lines_of bytes) ≡ lines_of (drop k bytes)
found-past test bytes k h e t = rw (lines-split bytes k h e) (rw t refl)

pub passed-step : (test : List ℕ → Bool) (bytes : List ℕ) (k : ℕ) → 0 < length bytes → k ≡ first_line_length bytes
    → test (take k bytes) ≡ false
    → concat (through test (lines_of bytes)) ≡ take k bytes ++ concat (through test (lines_of (drop k bytes)))
passed-step test bytes k h e t = rw (lines-split bytes k h e) (rw t refl)

pub passed-past : (test : List ℕ → Bool) (bytes : List ℕ) (k : ℕ) → 0 < length bytes → k ≡ first_line_length bytes
    → test (take k bytes) ≡ false → past test (lines_of bytes) ≡ past test (lines_of (drop k bytes))
passed-past test bytes k h e t = rw (lines-split bytes k h e) (rw t refl)

-- there is something behind a position within a text
pub some-behind : (at : ℕ) (bytes : List ℕ) → at < length bytes → 0 < length (drop at bytes)
some-behind zero bytes h = h
some-behind (suc at) [] h = absurd (omega (arith, h))
some-behind (suc at) (b ∷ bytes) h = some-behind at bytes (omega (arith, h))
