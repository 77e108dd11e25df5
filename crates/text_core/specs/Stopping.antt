-- At which positions a reader can show faults, so that it can stop early.
use Rattle.std.specs.Prelude.{◌≡◌, ℕ, ◌≤◌, ◌<◌, List, [], ◌∷◌, ⊤}
use Rattle.text_core.specs.Tokens.{Token}
use Rattle.text_core.specs.Readers.{Fault, Reader}
use Rattle.text_core.specs.Faults.{Among, next_at}

-- the position of the last token's first byte
abbrev pub last_at : {P : Type 0} → List (Token P) → ℕ
last_at [] = 0
last_at (t ∷ done) = t.at

-- the last token has at least one byte, and ends at or before this position
abbrev pub IsBehind : {P : Type 0} → List (Token P) → ℕ → Type 0
IsBehind [] at = ⊤
IsBehind (t ∷ done) at = (t.at < t.upto) × (t.upto ≤ at)

module _ {P T F K : Type 0} (r : Reader P T F K) where
  -- for tokens in order, no fault is shown before the last token's first byte
  pub record ShowsBehind : Type 0 where
    pub each : (n : ℕ) (done : List (Token P)) (f : F) (rest : List (Token P)) (x : Fault K)
        → IsBehind done (next_at n rest) → Among x (r.shown n done f rest) → last_at done ≤ x.at

  -- each fault is shown at the next token
  pub record ShowsNext : Type 0 where
    pub each : (n : ℕ) (done : List (Token P)) (f : F) (rest : List (Token P)) (x : Fault K)
        → Among x (r.shown n done f rest) → x.at ≡ next_at n rest
