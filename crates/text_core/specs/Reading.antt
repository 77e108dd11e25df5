-- The procedure of reading: it keeps the first of the faults shown so far, and stops at the first piece that the parser
-- rejects.
use Rattle.std.specs.Prelude.{◌≡◌, ℕ, Bool, if◌then◌else◌, nat_lt, ◌==◌, ◌&&◌, ◌||◌, List, [], ◌∷◌, Option, Some, None}
use Rattle.text_core.specs.Tokens.{Token, pieces}
use Rattle.text_core.specs.Readers.{Fault, Reader}
use Rattle.text_core.specs.Faults.{stop_kind_at, FaultAt, IsFirst}

-- the answer of reading: a tree, or a refusal
pub data Answer (T K : Type 0) : Type 0 where
  Parsed : T → Answer T K
  Refused : Fault K → Answer T K

-- the progress of reading: stopped with a fault; or running, with the first fault so far, the tokens read, the last
-- one first, and the parser state
pub data Progress (P F K : Type 0) : Type 0 where
  Stopped : Fault K → Progress P F K
  Going : Option (Fault K) → List (Token P) → F → Progress P F K

module _ {P T F K : Type 0} (r : Reader P T F K) where
  -- a fault is reported in preference to another: it is at a lesser position, or at the same one with a lesser number
  abbrev pub is_before : Fault K → Fault K → Bool
  is_before x y = nat_lt x.at y.at || ((x.at == y.at) && nat_lt (r.number x.kind) (r.number y.kind))

  -- the first of a fault so far and another
  abbrev pub first_of : Option (Fault K) → Fault K → Fault K
  first_of None y = y
  first_of (Some x) y = if is_before y x then y else x

  -- the first of a fault so far and others
  abbrev pub first_among : Option (Fault K) → List (Fault K) → Option (Fault K)
  first_among best [] = best
  first_among best (x ∷ xs) = first_among (Some (first_of best x)) xs

  -- the answer at the end of a text
  abbrev pub ended : Option (Fault K) → Option T → Fault K → Answer T K
  ended None (Some t) stop_kind = Parsed t
  ended (Some x) (Some t) stop_kind = Refused x
  ended best None stop_kind = Refused (first_of best stop_kind)

  -- the progress after one more token
  abbrev pub further : Option (Fault K) → List (Token P) → Token P → Option F → Fault K → Progress P F K
  further best done p None stop_kind = Stopped (first_of best stop_kind)
  further best done p (Some g) stop_kind = Going best (p ∷ done) g

  -- the answer to a text of n bytes, from the remaining tokens
  abbrev pub run : ℕ → Progress P F K → List (Token P) → Answer T K
  run n (Stopped x) [] = Refused x
  run n (Going best done f) [] = ended (first_among best (r.shown n done f [])) (r.finish f) (stop_kind_at r n f [])
  run n (Stopped x) (p ∷ rest) = Refused x
  run n (Going best done f) (p ∷ rest) =
      run n (further (first_among best (r.shown n done f (p ∷ rest))) done p (r.step f p.piece)
      (stop_kind_at r n f (p ∷ rest))) rest

  -- the answer to a text
  abbrev pub answer : ℕ → List (Token P) → Answer T K
  answer n ts = run n (Going None [] r.beginning) ts

  -- the answer is right: a tree if the text is written like it, has no fault and denotes no other tree; else its first
  -- fault
  pub record IsTree (n : ℕ) (ts : List (Token P)) (t : T) : Type 0 where
    pub written : r.Writes t (pieces ts)
    pub faultless : (x : Fault K) → ¬ FaultAt r n ts x
    pub only : (u : T) → r.Writes u (pieces ts) → u ≡ t

  abbrev pub Answers : ℕ → List (Token P) → Answer T K → Type 0
  Answers n ts (Parsed t) = IsTree n ts t
  Answers n ts (Refused x) = IsFirst r n ts x
