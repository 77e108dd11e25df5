-- What was appended to a text.
use Rattle.std.specs.Prelude.{◌≡◌, ℕ, List, ◌++◌}

-- the part of `text` before `left` was appended to the old bytes
pub record Writes (old new : List ℕ) (text left : List ℕ → List ℕ) : Type 0 where
  pub each : (rest : List ℕ) → new ++ left rest ≡ old ++ text rest

-- the whole text was appended to the old bytes
abbrev pub WritesAll : List ℕ → List ℕ → (List ℕ → List ℕ) → Type 0
WritesAll old new text = Writes old new text (λ rest. rest)
