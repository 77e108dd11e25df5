-- The effect of one token, and the meaning of the result of reading.
use Rattle.std.specs.Prelude.{◌≡◌, List, ◌∷◌, Option, Some, None, Result, Ok, Err, ⊤}
use Rattle.text_core.specs.Tokens.{Token}
use Rattle.text_core.specs.Readers.{Fault}
use Rattle.text_core.specs.Reading.{Answer, Parsed, Refused, first_of}
use Rattle.text_grammar.specs.declared.symbol.Symbol.{Symbol}
use Rattle.text_grammar.specs.declared.reading.Advance as code
use Rattle.text_grammar.specs.declared.reading.Advance.TheVariants.{Accepted, Rejected}
use Rattle.text_grammar.specs.declared.token.Refusal as code_refusal
use Rattle.text_grammar.specs.declared.token.Refusal.TheVariants.{Refuses, Memory}
use Rattle.text_grammar.specs.Grammars.{Event, Read}
use Rattle.text_grammar.specs.Leads.{Lead, Matches, Passes, Stuck}
use Rattle.text_grammar.specs.Texts.{Text, did, reader, first_shown}
use Rattle.text_grammar.specs.Marks.{refusal_of, fault_of}

module _ {P T K : Type 0} (x : Text P T K) where
  -- the first of two optional refusals
  abbrev pub first_of_two : Option (Fault K) → Option (Fault K) → Option (Fault K)
  first_of_two None other = other
  first_of_two (Some a) None = Some a
  first_of_two (Some a) (Some b) = Some (first_of (reader x) (Some a) b)

  -- the effect of a token with this lead: its marks are done, it is read, the remaining symbols are expected, and its
  -- first fault is reported; or it can't follow
  abbrev pub Follows : (List (Event P) → Type 0) → List (Event P) → Token P → Lead → List Symbol → code.Advance K
      → Type 0
  Follows Knows es t (Matches ms rest) expected (Accepted shown) =
      (expected ≡ rest) × Knows (Read t.piece ∷ did es ms)
      × (fault_of shown ≡ first_shown x None (x.faults (did es ms) t))
  Follows Knows es t (Matches ms rest) expected Rejected = ⊥
  Follows Knows es t (Passes ms) expected (Accepted shown) = ⊥
  Follows Knows es t (Passes ms) expected Rejected = ⊤
  Follows Knows es t Stuck expected (Accepted shown) = ⊥
  Follows Knows es t Stuck expected Rejected = ⊤

-- a result agrees with an answer, or memory ran out
abbrev pub Says : {T K Made : Type 0} → (Made → T → Type 0) → Answer T K → Result Made (code_refusal.Refusal K) → Type 0
Says Makes (Parsed t) (Ok made) = Makes made t
Says Makes (Parsed t) (Err (Refuses y)) = ⊥
Says Makes (Parsed t) (Err Memory) = ⊤
Says Makes (Refused y) (Ok made) = ⊥
Says Makes (Refused y) (Err (Refuses z)) = refusal_of z ≡ y
Says Makes (Refused y) (Err Memory) = ⊤
