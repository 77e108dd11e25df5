-- Worked values, on both sides, of signed numbers in texts in single bytes, and of refusals at `-` and at blanks.
use Rattle.std.specs.Prelude.{◌≡◌, ℕ, ◌^◌, ◌==◌, not, true, false, List, [], ◌∷◌, codes, ℤ, pos, negsuc, Some, None}
use Rattle.std.specs.Prelude.{map, Option}
use Rattle.text_core.specs.Choices.{when}
use Rattle.text_core.specs.Reading.{Answer, Parsed, Refused}
use Rattle.text_grammar.specs.declared.numeral.NumberContext.TheVariants.{Words}
use Rattle.text_grammar.specs.Grammars.{Event, Read, Did}
use Rattle.text_grammar.specs.Parts.{Part, Says, Puts, events_of, spelled, come, Stand}
use Rattle.text_grammar.specs.ByteTexts.{Numbered, Spelling, Signed, Line, fresh, with_sign, fold_of, numbers_of}
use Rattle.text_grammar.specs.ByteTexts.{HasNumbers, IsBounded, value_rule, signed_rule}
use Rattle.text_grammar.specs.SmallSigns.{rules_with_signed, signs_bytes, signs_answer}

-- the state after these numbers and values
abbrev pub behind_numbers : List ℤ → Spelling (List ℤ)
behind_numbers zs = record { own = zs; numeral = fresh; within = Words; values = [] }

-- the state after parts from there; they have no fault from there
abbrev pub comes_behind : List ℤ → List (Part ℕ Numbered) → Spelling (List ℤ)
comes_behind zs xs = come (fold_of signs_bytes) (numbers_of signs_bytes) (behind_numbers zs) xs

abbrev pub HaveNoFaultBehind : List ℤ → List (Part ℕ Numbered) → Type 0
HaveNoFaultBehind zs xs = Stand (fold_of signs_bytes) (numbers_of signs_bytes) (behind_numbers zs) xs

-- The refusal of this kind at this position.
abbrev pub refused_as : ℕ → ℕ → Answer (List ℤ) ℕ
refused_as kind at = Refused (record { kind = kind; at = at })

-- a text, and the right answer to it
pub record SignsCase : Type 0 where
  pub text : List ℕ
  pub comes : Answer (List ℤ) ℕ

abbrev pub signs_case : List ℕ → Answer (List ℤ) ℕ → SignsCase
signs_case text comes = record { text = text; comes = comes }

-- texts with the right answers
abbrev pub signs_cases : List SignsCase
signs_cases =
    -- no number, and two numbers
    signs_case (codes "\n") (Parsed [])
    ∷ signs_case (codes "n5n-12\n") (Parsed (pos 5 ∷ negsuc 11 ∷ []))
    -- the least and the greatest permitted numbers are accepted; those beyond are refused at their first byte, which is
    -- the sign if there is one
    ∷ signs_case (codes "n-20n9\n") (Parsed (negsuc 19 ∷ pos 9 ∷ []))
    ∷ signs_case (codes "n-21\n") (refused_as 3 1)
    ∷ signs_case (codes "n10\n") (refused_as 3 1)
    -- 0 is refused, and `01` for the number 0 at its beginning; `-0`, `--1` and a single `-` are no numbers
    ∷ signs_case (codes "n0\n") (refused_as 3 1)
    ∷ signs_case (codes "n01\n") (refused_as 3 1)
    ∷ signs_case (codes "n-0\n") (refused_as 1 2)
    ∷ signs_case (codes "n--1\n") (refused_as 1 2)
    ∷ signs_case (codes "n-\n") (refused_as 1 2)
    -- after two numbers a `-` is refused, also if no digit follows; of two refusals there the one with the lesser kind
    -- is reported
    ∷ signs_case (codes "n1n1n-1\n") (refused_as 4 5)
    ∷ signs_case (codes "n1n1n-n\n") (refused_as 4 5)
    ∷ signs_case (codes "n1n1n-99\n") (refused_as 3 5)
    ∷ signs_case (codes "n1n1n1\n") (Parsed (pos 1 ∷ pos 1 ∷ pos 1 ∷ []))
    -- the `-` of a value in a line is refused after two numbers, too; the values of the line itself count only from its
    -- line feed on
    ∷ signs_case (codes "n1n1v 3 -1\n\n") (refused_as 4 8)
    ∷ signs_case (codes "n1v 3 -1\n\n") (Parsed (pos 1 ∷ pos 3 ∷ negsuc 0 ∷ []))
    -- after three numbers a blank is refused, but a line without values is accepted
    ∷ signs_case (codes "n1n1n1v 1\n\n") (refused_as 5 7)
    ∷ signs_case (codes "n1n1n1v\n\n") (Parsed (pos 1 ∷ pos 1 ∷ pos 1 ∷ []))
    ∷ []

-- a text that refuses every signed number except -2
abbrev pub refuses_but_two : List ℤ → ℤ → Option ℕ
refuses_but_two s (pos n) = Some 3
refuses_but_two s (negsuc n) = when (not (n == 1)) 3

-- worked values of signed numbers, on both sides
pub record SignsAreWorkedOut : Type 0 where
  -- the sign negates a number, and doesn't change 0
  pub below : with_sign true 3 ≡ negsuc 2
  pub none_below : with_sign true 0 ≡ pos 0
  pub above : with_sign false 3 ≡ pos 3
  -- the text of a signed number, its events, and the state after it
  pub text : spelled (fold_of signs_bytes) (numbers_of signs_bytes) (Says 110 ∷ Puts (Signed (negsuc 4)) ∷ [])
      ≡ codes "n-5"
  pub events : events_of (fold_of signs_bytes) (numbers_of signs_bytes) (Puts (Signed (negsuc 4)) ∷ [])
      ≡ Did 6 ∷ Read 45 ∷ Read 53 ∷ Did 7 ∷ []
  pub comes : comes_behind (pos 7 ∷ []) (Puts (Signed (negsuc 4)) ∷ []) ≡ behind_numbers (pos 7 ∷ negsuc 4 ∷ [])
  -- a permitted signed number has no fault; another one has, and so has a `-` after two numbers
  pub stands : HaveNoFaultBehind (pos 7 ∷ []) (Puts (Signed (negsuc 19)) ∷ [])
  pub outside : ¬ HaveNoFaultBehind (pos 7 ∷ []) (Puts (Signed (negsuc 20)) ∷ [])
  pub third : HaveNoFaultBehind (pos 7 ∷ pos 7 ∷ []) (Puts (Signed (pos 1)) ∷ [])
  pub third_below : ¬ HaveNoFaultBehind (pos 7 ∷ pos 7 ∷ []) (Puts (Signed (negsuc 0)) ∷ [])
  -- a line of values has no fault if its blanks and signs have none
  pub line : HaveNoFaultBehind (pos 7 ∷ []) (Puts (Line (pos 1 ∷ negsuc 0 ∷ [])) ∷ [])
  pub line_plus : HaveNoFaultBehind (pos 7 ∷ pos 7 ∷ []) (Puts (Line (pos 1 ∷ pos 0 ∷ [])) ∷ [])
  pub line_below : ¬ HaveNoFaultBehind (pos 7 ∷ pos 7 ∷ []) (Puts (Line (pos 1 ∷ negsuc 0 ∷ [])) ∷ [])
  pub line_blank : ¬ HaveNoFaultBehind (pos 7 ∷ pos 7 ∷ pos 7 ∷ []) (Puts (Line (pos 1 ∷ [])) ∷ [])
  pub line_empty : HaveNoFaultBehind (pos 7 ∷ pos 7 ∷ pos 7 ∷ []) (Puts (Line []) ∷ [])
  -- the conditions on the text are satisfied; they are violated if each signed number is accepted, or if -2 is accepted
  -- and -1 isn't
  pub bounded : IsBounded signs_bytes
  pub endless : ¬ IsBounded (record signs_bytes { fault_of_signed = λ s z. None })
  pub gap : ¬ IsBounded (record signs_bytes { fault_of_signed = refuses_but_two })
  -- the rule of signed numbers must be this one, and not that of values
  pub numbers : HasNumbers signs_bytes.rules
  pub other_rule : ¬ HasNumbers (rules_with_signed value_rule)
  pub answers : map (λ c. signs_answer c.text) signs_cases ≡ map (λ c. c.comes) signs_cases
