-- The faults of a text, and which of them is the first.
use Rattle.std.specs.Prelude.{◌≡◌, ℕ, ◌≤◌, ◌⊎◌, Bool, if◌then◌else◌, List, [], ◌∷◌, Some}
use Rattle.text_core.specs.Tokens.{Token, pieces}
use Rattle.text_core.specs.Readers.{Fault, Reader, onto, reached, BreaksOff}

-- x is an element of this list
abbrev pub Among : {X : Type 0} → X → List X → Type 0
Among x [] = ⊥
Among x (y ∷ ys) = (x ≡ y) ⊎ Among x ys

-- the position at which a text of n bytes continues with these tokens: the first byte of the next one, or its end
abbrev pub next_at : {P : Type 0} → ℕ → List (Token P) → ℕ
next_at n [] = n
next_at n (t ∷ ts) = t.at

-- one fault of each kind for which a test passes, all at one position
unfoldable pub faults_at : {K : Type 0} → ℕ → (K → Bool) → List K → List (Fault K)
faults_at at test [] = []
faults_at at test (kind ∷ kinds) =
    if test kind then record { kind = kind; at = at } ∷ faults_at at test kinds else faults_at at test kinds

module _ {P T F K : Type 0} (r : Reader P T F K) where
  -- the fault of a text of n bytes that breaks off in a parser state
  abbrev pub stop_kind_at : ℕ → F → List (Token P) → Fault K
  stop_kind_at n f rest = record { kind = r.stop_kind f rest; at = next_at n rest }

  -- a fault of a text of n bytes with these tokens: a parser state that the text reaches shows it, or the text breaks
  -- off in such a state
  pub data FaultAt (n : ℕ) (ts : List (Token P)) (x : Fault K) : Type 0 where
    shows : (done rest : List (Token P)) (f : F) → onto done rest ≡ ts → reached r (pieces done) ≡ Some f
        → Among x (r.shown n done f rest) → FaultAt n ts x
    breaks : (done rest : List (Token P)) (f : F) → onto done rest ≡ ts → reached r (pieces done) ≡ Some f
        → BreaksOff r (pieces done) (pieces rest) → stop_kind_at n f rest ≡ x → FaultAt n ts x

  -- a fault isn't after another: it has a lesser position, or the same position and no greater number
  pub record NotAfter (x y : Fault K) : Type 0 where
    pub position : x.at ≤ y.at
    pub kind : x.at ≡ y.at → r.number x.kind ≤ r.number y.kind

  -- the first fault of a text: none of its faults comes before it
  pub record IsFirst (n : ℕ) (ts : List (Token P)) (x : Fault K) : Type 0 where
    pub is : FaultAt n ts x
    pub least : (y : Fault K) → FaultAt n ts y → NotAfter x y
