-- Worked values of facts of a small program.
use Rattle.std.specs.Prelude.{◌≡◌, ℕ, List, [], ◌∷◌, ◌++◌, length, replicate, ℤ, pos, negsuc, None, Some, Vec}
use Rattle.std.specs.declared.alloc.Global.{Global}
use Rattle.poly_terms.specs.linear_forms.Forms.{Form}
use Rattle.poly_terms.specs.linear_forms.Certificates.{Implies}
use Rattle.poly_terms.specs.model.Terms.{Term, Literal, Variable, Negation, Subtraction}
use Rattle.poly_terms.specs.model.Programs.{Atom, Always, Compare, AtLeast, Rule, Program}
use Rattle.rule_questions.specs.ProgramQuestions.{forms_at}
use Rattle.location_facts.specs.declared.fact.LocFact.{LocFact}
use Rattle.location_facts.specs.Candidates.{IsCandidate, order_number, candidates}
use Rattle.location_facts.specs.declared.fact.FactProof.TheVariants.{Empty, Implied}
use Rattle.location_facts.specs.Certificates.{IsWithinLimit, Shows, IsShownBy}
use Rattle.location_facts.specs.Facts.{IsMetAt, HoldsAlways}
use Rattle.location_facts.specs.Faults.{rules_into, least_number}
use Rattle.location_facts.specs.Kept.{HasThose}
use Rattle.location_facts.specs.Rows.{row_before, row_after, combined}
use Rattle.location_facts.specs.Strengthening.{strongest_atoms, room_for, strengthened_rule, strengthened}

-- a fact by its parts; a form over one unknown
abbrev pub fact : ℕ → ℕ → ℕ → ℤ → LocFact
fact s i j k = record { symbol = s; plus = i; minus = j; least = k }

abbrev pub line : ℤ → ℤ → Form
line a c = record { coefs = a ∷ []; constant = c }

-- a rule from this symbol to l1 with one argument, this update, and the guard A >= 1
abbrev pub rule_from : ℕ → Term → Rule
rule_from source update = record {
  source = source;
  target = 1;
  left = 1;
  free = 0;
  names = (65 ∷ []) ∷ [];
  updates = update ∷ [];
  guard = Compare (Variable 0) AtLeast (Literal (pos 1)) ∷ [];
  cost = None;
}

-- the program l0(A) -> l1(A) :|: A >= 1 and l1(A) -> l1(A - 1) :|: A >= 1
abbrev pub entering : Rule
entering = rule_from 0 (Variable 0)

abbrev pub falling : Rule
falling = rule_from 1 (Subtraction (Variable 0) (Literal (pos 1)))

abbrev pub counting : Program
counting = record {
  symbols = record { name = 108 ∷ 48 ∷ []; arity = 1 } ∷ record { name = 108 ∷ 49 ∷ []; arity = 1 } ∷ [];
  start = 0;
  start_names = (65 ∷ []) ∷ [];
  rules = entering ∷ falling ∷ [];
}

-- the facts A >= 0, A >= 1 and -A >= -1 at l1
abbrev pub natural : LocFact
natural = fact 1 1 0 (pos 0)

abbrev pub positive : LocFact
positive = fact 1 1 0 (pos 1)

abbrev pub at_most_one : LocFact
at_most_one = fact 1 0 1 (negsuc 0)

-- a program in which l1 has nine places, and one in which l1 and l2 have two each; the start symbol is l0
abbrev pub wide : Program
wide = record counting {
  symbols = record { name = 108 ∷ 48 ∷ []; arity = 1 } ∷ record { name = 108 ∷ 49 ∷ []; arity = 9 } ∷ [];
}

abbrev pub branching : Program
branching = record counting {
  symbols = record { name = 108 ∷ 48 ∷ []; arity = 2 } ∷ record { name = 108 ∷ 49 ∷ []; arity = 2 }
      ∷ record { name = 108 ∷ 50 ∷ []; arity = 1 } ∷ [];
}

-- the facts of a symbol about two places with the leasts -1, 0 and 1
abbrev pub three : ℕ → ℕ → ℕ → List LocFact
three s i j = fact s i j (negsuc 0) ∷ fact s i j (pos 0) ∷ fact s i j (pos 1) ∷ []

-- the candidate facts are those of l1: first -A >= -1, 0 and 1, and then A >= -1, 0 and 1; the first has the number 246
-- and the last one 272. No candidate is about l0, about a second place, about the same place twice, or has the least 2
-- or -2. With two places, those with plus 0 come first, then those with plus 1, by minus, and then those with plus 2;
-- those of l2 come after those of l1. With nine places the eighth is the last
pub record CandidatesAreWorkedOut : Type 0 where
  pub all : candidates counting
      ≡ fact 1 0 1 (negsuc 0) ∷ fact 1 0 1 (pos 0) ∷ fact 1 0 1 (pos 1)
      ∷ fact 1 1 0 (negsuc 0) ∷ fact 1 1 0 (pos 0) ∷ fact 1 1 0 (pos 1) ∷ []
  pub first_number : order_number at_most_one ≡ 246
  pub last_number : order_number positive ≡ 272
  pub tried : IsCandidate counting natural
  pub tried_low : IsCandidate counting (fact 1 1 0 (negsuc 0))
  pub tried_high : IsCandidate counting (fact 1 1 0 (pos 1))
  pub start : ¬ (IsCandidate counting (fact 0 1 0 (pos 0)))
  pub no_symbol : ¬ (IsCandidate counting (fact 2 0 1 (pos 0)))
  pub second_place : ¬ (IsCandidate counting (fact 1 2 0 (pos 0)))
  pub second_minus : ¬ (IsCandidate counting (fact 1 0 2 (pos 0)))
  pub same_place : ¬ (IsCandidate counting (fact 1 1 1 (pos 0)))
  pub high : ¬ (IsCandidate counting (fact 1 1 0 (pos 2)))
  pub low : ¬ (IsCandidate counting (fact 1 1 0 (negsuc 1)))
  pub two_symbols : candidates branching
      ≡ (three 1 0 1 ++ three 1 0 2 ++ three 1 1 0 ++ three 1 1 2 ++ three 1 2 0 ++ three 1 2 1)
      ++ (three 2 0 1 ++ three 2 1 0)
  pub eighth_plus : IsCandidate wide (fact 1 8 0 (pos 0))
  pub eighth_minus : IsCandidate wide (fact 1 7 8 (pos 0))
  pub ninth_plus : ¬ (IsCandidate wide (fact 1 9 0 (pos 0)))
  pub ninth_minus : ¬ (IsCandidate wide (fact 1 0 9 (pos 0)))
  pub many : length (candidates wide) ≡ 216
  pub least_first : least_number (at_most_one ∷ positive ∷ []) 0 ≡ 0
  pub least_second : least_number (at_most_one ∷ positive ∷ []) 1 ≡ 247

-- l1(0) satisfies A >= 0 and -A >= -1, but not A >= 1; l1(2) doesn't satisfy -A >= -1; l0(-5) satisfies all facts of
-- l1. On every run A >= 0 holds at l1; A >= 1 doesn't, as a run from l0(1) reaches l1(0)
pub record FactsAreMet : Type 0 where
  pub natural_met : IsMetAt natural (record { at = 1; values = pos 0 ∷ [] })
  pub at_most_one_met : IsMetAt at_most_one (record { at = 1; values = pos 0 ∷ [] })
  pub positive_fails : ¬ (IsMetAt positive (record { at = 1; values = pos 0 ∷ [] }))
  pub at_most_one_fails : ¬ (IsMetAt at_most_one (record { at = 1; values = pos 2 ∷ [] }))
  pub elsewhere : IsMetAt positive (record { at = 0; values = negsuc 4 ∷ [] })
  pub natural_holds : HoldsAlways counting natural
  pub positive_fails_on_a_run : ¬ (HoldsAlways counting positive)

-- A >= 1 is the row A - 1 at the source, and after the second rule the goal A - 2; -A >= -1 is 1 - A, and 2 - A. The
-- combined rows of the second rule are its own row A - 1 and then A; the first rule has no fact at its source. Both
-- lead to l1, and none to l0
pub record RowsAreWorked : Type 0 where
  pub before : row_before positive ≡ line (pos 1) (negsuc 0)
  pub after : row_after (forms_at counting 2).new_values positive ≡ line (pos 1) (negsuc 1)
  pub before_minus : row_before at_most_one ≡ line (negsuc 0) (pos 1)
  pub after_minus : row_after (forms_at counting 2).new_values at_most_one ≡ line (negsuc 0) (pos 2)
  pub difference : row_before (fact 1 2 1 (negsuc 0)) ≡ record { coefs = negsuc 0 ∷ pos 1 ∷ []; constant = pos 1 }
  pub second : combined (forms_at counting 2) (natural ∷ []) ≡ line (pos 1) (negsuc 0) ∷ line (pos 1) (pos 0) ∷ []
  pub first : combined (forms_at counting 1) (natural ∷ []) ≡ line (pos 1) (negsuc 0) ∷ []
  pub into : rules_into counting 1 ≡ 1 ∷ 2 ∷ []
  pub into_start : rules_into counting 0 ≡ []

-- the rows 2*A - B and B - 1 over A and B
abbrev pub two_rows : List Form
two_rows =
    record { coefs = pos 2 ∷ negsuc 0 ∷ []; constant = pos 0 }
    ∷ record { coefs = pos 0 ∷ pos 1 ∷ []; constant = negsuc 0 } ∷ []

-- A >= 0 is shown after both rules: it follows from their own row, with 1 or nothing to spare. A >= 1 isn't shown after
-- the second one, not even under A >= 1 itself: it leads from A = 1 to 0. The rows 2*A >= B and B >= 1 show 2*A >= 0 by
-- the multipliers 1 and 1, but not A >= 0, nor 2*A >= 0 with 0 as the second multiplier. That the rule can't be used is
-- shown if its own row A - 1 and -A at its source, each once, add up to -1, and not by the first alone. By 1 and 0 the
-- second rule shows A >= 0 under A >= 0
pub record CertificatesAreWorked : Type 0 where
  pub by_first : Implies (combined (forms_at counting 1) (natural ∷ [])) (1 ∷ [])
      (row_after (forms_at counting 1).new_values natural)
  pub by_second : Implies (combined (forms_at counting 2) (natural ∷ [])) (1 ∷ 0 ∷ [])
      (row_after (forms_at counting 2).new_values natural)
  pub shown : (first : Vec ℕ Global) → first.items ≡ 1 ∷ 0 ∷ [] → IsShownBy counting 2 (natural ∷ []) natural
  pub not_positive : ¬ (IsShownBy counting 2 (positive ∷ []) positive)
  pub twice : (ones : Vec ℕ Global) → ones.items ≡ 1 ∷ 1 ∷ [] → Shows two_rows (line (pos 1) (pos 0)) (Implied ones 2)
  pub not_once : (ones : Vec ℕ Global) → ones.items ≡ 1 ∷ 1 ∷ []
      → ¬ (Shows two_rows (line (pos 1) (pos 0)) (Implied ones 1))
  pub not_by_first : (first : Vec ℕ Global) → first.items ≡ 1 ∷ 0 ∷ []
      → ¬ (Shows two_rows (line (pos 1) (pos 0)) (Implied first 2))
  pub empty : (ones : Vec ℕ Global) → ones.items ≡ 1 ∷ 1 ∷ []
      → Shows (combined (forms_at counting 2) (fact 1 0 1 (pos 0) ∷ []))
      (row_after (forms_at counting 2).new_values positive)
      (Empty ones)
  pub not_empty : (first : Vec ℕ Global) → first.items ≡ 1 ∷ 0 ∷ []
      → ¬ (Shows (combined (forms_at counting 2) (fact 1 0 1 (pos 0) ∷ []))
      (row_after (forms_at counting 2).new_values positive) (Empty first))
  pub limit : (most : Vec ℕ Global) → most.items ≡ 72057594037927936 ∷ []
      → IsWithinLimit (Implied most 72057594037927936)
  pub over : (more : Vec ℕ Global) → more.items ≡ 72057594037927937 ∷ [] → ¬ (IsWithinLimit (Implied more 1))
  pub over_empty : (more : Vec ℕ Global) → more.items ≡ 72057594037927937 ∷ [] → ¬ (IsWithinLimit (Empty more))
  pub over_den : (one : Vec ℕ Global) → one.items ≡ 1 ∷ [] → ¬ (IsWithinLimit (Implied one 72057594037927937))

-- the atoms A >= 0 and -A >= -1
abbrev pub natural_atom : Atom
natural_atom = Compare (Variable 0) AtLeast (Literal (pos 0))

abbrev pub at_most_one_atom : Atom
at_most_one_atom = Compare (Negation (Variable 0)) AtLeast (Literal (negsuc 0))

-- the second rule with this many atoms
abbrev pub long : ℕ → Rule
long n = record falling { guard = replicate n Always }

-- of A >= -1, A >= 1 and A >= 0 the atom is A >= 1; with a fact of each kind the atoms are ordered by plus and then by
-- minus, up to the eighth place of both; a rule gets the atoms of its source after its own, and so does each rule of a
-- program. Of two atoms, a rule with 63 atoms gets the first; a rule with 64 gets none, nor does one with 63 and a cost
pub record StrengtheningIsWorkedOut : Type 0 where
  pub greatest : strongest_atoms (fact 1 1 0 (negsuc 0) ∷ positive ∷ natural ∷ [])
      ≡ Compare (Variable 0) AtLeast (Literal (pos 1)) ∷ []
  pub ordered : strongest_atoms (natural ∷ fact 1 1 2 (pos 0) ∷ at_most_one ∷ [])
      ≡ at_most_one_atom ∷ natural_atom ∷ Compare (Subtraction (Variable 0) (Variable 1)) AtLeast (Literal (pos 0)) ∷ []
  pub last_places : strongest_atoms (fact 1 0 8 (pos 0) ∷ fact 1 7 8 (pos 0) ∷ fact 1 8 0 (pos 0) ∷ [])
      ≡ Compare (Negation (Variable 7)) AtLeast (Literal (pos 0))
      ∷ Compare (Subtraction (Variable 6) (Variable 7)) AtLeast (Literal (pos 0))
      ∷ Compare (Variable 7) AtLeast (Literal (pos 0)) ∷ []
  pub own_first : (strengthened_rule (natural ∷ []) falling).guard
      ≡ Compare (Variable 0) AtLeast (Literal (pos 1)) ∷ natural_atom ∷ []
  pub other_source : strengthened_rule (natural ∷ []) entering ≡ entering
  pub room : room_for falling ≡ 63
  pub filled : (strengthened_rule (natural ∷ at_most_one ∷ []) (long 63)).guard
      ≡ replicate 63 Always ++ at_most_one_atom ∷ []
  pub full : strengthened_rule (natural ∷ at_most_one ∷ []) (long 64) ≡ long 64
  pub cost_counts : strengthened_rule (natural ∷ at_most_one ∷ []) (record (long 63) { cost = Some (Variable 0) })
      ≡ record (long 63) { cost = Some (Variable 0) }
  pub cost_leaves_one : room_for (record (long 62) { cost = Some (Variable 0) }) ≡ 1
  pub whole : strengthened (natural ∷ []) counting
      ≡ record counting {
        rules = entering
            ∷ record falling { guard = Compare (Variable 0) AtLeast (Literal (pos 1)) ∷ natural_atom ∷ [] } ∷ [];
      }

-- of three facts, the two with the least 0 are those that satisfy the condition, in their order and not in another; of
-- two facts it is one, not neither and not both
pub record ThoseAreWorkedOut : Type 0 where
  pub those : HasThose (λ f. f.least ≡ pos 0) (natural ∷ positive ∷ fact 1 0 1 (pos 0) ∷ [])
      (natural ∷ fact 1 0 1 (pos 0) ∷ [])
  pub turned : ¬ (HasThose (λ f. f.least ≡ pos 0) (natural ∷ positive ∷ fact 1 0 1 (pos 0) ∷ [])
      (fact 1 0 1 (pos 0) ∷ natural ∷ []))
  pub less : ¬ (HasThose (λ f. f.least ≡ pos 0) (natural ∷ positive ∷ []) [])
  pub more : ¬ (HasThose (λ f. f.least ≡ pos 0) (natural ∷ positive ∷ []) (natural ∷ positive ∷ []))

-- All worked values of this file.
pub record FactsAreWorkedOut : Type 0 where
  pub candidates_are : CandidatesAreWorkedOut
  pub met : FactsAreMet
  pub rows : RowsAreWorked
  pub certificates : CertificatesAreWorked
  pub strengthening : StrengtheningIsWorkedOut
  pub those : ThoseAreWorkedOut
