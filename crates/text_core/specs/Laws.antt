-- The laws of a reader, and their consequences.
use Rattle.std.specs.Prelude.{◌≡◌, ℕ, List, [], Some}
use Rattle.text_core.specs.Tokens.{Token}
use Rattle.text_core.specs.Readers.{Fault, Reader, onto, walk, reached, IsBeginning}
use Rattle.text_core.specs.Faults.{IsFirst}
use Rattle.text_core.specs.Reading.{answer, Answers}

-- the laws of a reader; they concern only pieces and kinds
pub record Laws {P T F K : Type 0} (r : Reader P T F K) : Type 0 where
  -- each state that pieces reach can be completed to a whole text
  pub goes_on : (done : List P) (f : F) → reached r done ≡ Some f → IsBeginning r done
  -- in a state in which a text can end, the pieces read are those of the tree
  pub ends : (done : List P) (f : F) (t : T) → reached r done ≡ Some f → r.finish f ≡ Some t → r.Writes t (onto done [])
  -- the pieces of a tree lead to a state that ends with this tree
  pub reads : (t : T) (ps : List P) → r.Writes t ps → (f : F) × (walk r.step (Some r.beginning) ps ≡ Some f)
      × (r.finish f ≡ Some t)
  -- kinds with the same number are equal
  pub differ : (a b : K) → r.number a ≡ r.number b → a ≡ b

-- a reader that satisfies these laws answers exactly the tree, or exactly the first fault
pub record AnswersAll {P T F K : Type 0} (r : Reader P T F K) : Type 0 where
  pub each : (n : ℕ) (ts : List (Token P)) → Answers r n ts (answer r n ts)

-- each text denotes at most one tree
pub record OneTree {P T F K : Type 0} (r : Reader P T F K) : Type 0 where
  pub each : (a b : T) (ps : List P) → r.Writes a ps → r.Writes b ps → a ≡ b

-- each text has at most one first fault
pub record OneFirst {P T F K : Type 0} (r : Reader P T F K) : Type 0 where
  pub each : (n : ℕ) (ts : List (Token P)) (x y : Fault K) → IsFirst r n ts x → IsFirst r n ts y → x ≡ y
