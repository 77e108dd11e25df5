-- The texts of small answers, as they were worked out by hand.
use Rattle.std.specs.Prelude.{◌≡◌, ◌≢◌, ℕ, List, [], ◌∷◌, codes, ℤ, pos, negsuc}
use Rattle.std.specs.List.{flat_map}
use Rattle.poly_terms.specs.model.Terms.{Literal, Variable, Negation, Addition, Subtraction, Multiplication, Exponentiation}
use Rattle.its_model.specs.model.Programs.{Program}
use Rattle.refined_programs.specs.Annotated.{Section}
use Rattle.section_checks.specs.Faults.{WrongStart, WrongFacts, WrongBranch, WrongTest, WrongShape, WrongRules}
use Rattle.section_checks.specs.Faults.{OverLimit, NotNever, NotFact}
use Rattle.potential_types.specs.potential_nodes.Checks.{BadShape, MissingTime, BadMove, BadFloor, BadAmount}
use Rattle.potential_types.specs.potential_nodes.Checks.{BadGain, LowBound}
use Rattle.signed_bounds.specs.Bounds.{Signed, Constant, PositivePart, SumOf, NoParts, Part}
use Rattle.claim_types.specs.program_claims.Claims.{Time, Cost, Total, Above, Below, AtSymbol}
use Rattle.claim_types.specs.program_claims.Verdicts as verdicts
use Rattle.symbol_facts.specs.Facts.{SymbolFact}
use Rattle.symbol_facts.specs.Common.{summands}
use Rattle.claims_text.specs.Symbols.{symbol_fact_line}
use Rattle.claims_text.specs.Statements.{stated_text, stated_line}
use Rattle.claims_text.specs.Sections.{fault_text}
use Rattle.claims_text.specs.Lemmas.{refused_lemma_text, refused_claim_text}
use Rattle.claims_text.specs.Terms.{place_names, term_text}

-- a program with the symbols a and b, which starts with A
abbrev pub two_symbols : Program
two_symbols = record {
  symbols = record { name = codes "a"; arity = 1 } ∷ record { name = codes "b"; arity = 1 } ∷ [];
  start = 0;
  start_names = codes "A" ∷ [];
  rules = [];
}

-- the positive part of A, and one more
abbrev pub positive_a : Signed
positive_a = PositivePart (record { coef = pos 1; vars = 0 ∷ [] } ∷ [])

abbrev pub positive_a_plus_1 : Signed
positive_a_plus_1 = SumOf (Part positive_a (Part (Constant 1) NoParts))

-- a section with the copies a and b.1
abbrev pub two_copies : Section
two_copies = record {
  copies = record { name = codes "a"; over = 0; facts = [] } ∷ record { name = codes "b.1"; over = 1; facts = [] } ∷ [];
  branches = [];
}

-- a statement of each kind, in order
pub record StatementsAreWorkedOut : Type 0 where
  pub each : stated_text two_symbols []
      (Time 2 positive_a_plus_1 ∷ Cost 12 positive_a ∷ Total (Constant 3) ∷ Above 2 1 positive_a ∷ Below 2 1
      (Constant 0) ∷ [])
      ≡ codes "accepted\ntime 2: [A] + 1\ncost 12: [A]\ntotal: 3\nabove 2.1: [A]\nbelow 2.1: 0\n"
  pub none : stated_text two_symbols [] [] ≡ codes "accepted\n"
  pub fact : stated_text two_symbols [] (AtSymbol 1 (Variable 0) ∷ []) ≡ codes "accepted\nfact b: x1 >= 0\n"
  pub order : flat_map (stated_line two_symbols) (Total (Constant 1) ∷ Total (Constant 2) ∷ [])
      ≢ flat_map (stated_line two_symbols) (Total (Constant 2) ∷ Total (Constant 1) ∷ [])
  pub term : term_text place_names (Subtraction (Multiplication (Literal (pos 2)) (Variable 0)) (Addition (Negation (Variable 1)) (Literal (negsuc 2))))
      ≡ codes "((2*x1) - ((-x2) + -3))"
  pub power : term_text place_names (Exponentiation (Variable 9) 2) ≡ codes "(x10^2)"

-- a fact at the symbol b: these multiples of its places are together at least a number
abbrev pub at_b : List ℤ → ℤ → SymbolFact
at_b coefs least = record { symbol = 1; form = summands 0 coefs; least = least }

-- What is added comes first, and a 1 isn't written; a place without a multiple is left out, and 0 stands for none.
-- Facts come before statements.
pub record FactsAreWorkedOut : Type 0 where
  pub difference : symbol_fact_line two_symbols (at_b (negsuc 0 ∷ pos 1 ∷ []) (pos 0)) ≡ codes "fact b: x2 - x1 >= 0\n"
  pub multiples : symbol_fact_line two_symbols (at_b (pos 1 ∷ pos 0 ∷ negsuc 1 ∷ []) (negsuc 2))
      ≡ codes "fact b: x1 - 2*x3 >= -3\n"
  pub subtracted : symbol_fact_line two_symbols (at_b (negsuc 2 ∷ negsuc 0 ∷ []) (pos 4))
      ≡ codes "fact b: -3*x1 - x2 >= 4\n"
  pub nothing : symbol_fact_line two_symbols (at_b [] (negsuc 6)) ≡ codes "fact b: 0 >= -7\n"
  pub before : stated_text two_symbols (at_b (pos 1 ∷ []) (pos 0) ∷ []) (Total (Constant 3) ∷ [])
      ≡ codes "accepted\nfact b: x1 >= 0\ntotal: 3\n"

-- why parts aren't accepted
pub record RefusalsAreWorkedOut : Type 0 where
  pub start : fault_text two_copies WrongStart ≡ codes "no refinement: start\n"
  pub facts : fault_text two_copies (WrongFacts 2) ≡ codes "no refinement: facts b.1\n"
  pub branch : fault_text two_copies (WrongBranch 3) ≡ codes "no refinement: from 3\n"
  pub test : fault_text two_copies (WrongTest 2) ≡ codes "no refinement: if 2\n"
  pub rules : fault_text two_copies WrongRules ≡ codes "no refinement: rules\n"
  pub shape : fault_text two_copies (WrongShape 4) ≡ codes "no end 4: shape\n"
  pub limit : fault_text two_copies (OverLimit 2) ≡ codes "no end 2: limit\n"
  pub never : fault_text two_copies (NotNever 4) ≡ codes "no end 4: never\n"
  pub fact : fault_text two_copies (NotFact 5 12) ≡ codes "no end 5: fact 12\n"
  pub lemma_shape : refused_lemma_text 3 BadShape ≡ codes "no lemma 3: shape\n"
  pub missing : refused_lemma_text 3 (MissingTime 2) ≡ codes "no lemma 3: missing move 2\n"
  pub move : refused_lemma_text 3 (BadMove 2) ≡ codes "no lemma 3: move 2\n"
  pub floor : refused_lemma_text 3 (BadFloor 2) ≡ codes "no lemma 3: floor 2\n"
  pub amount : refused_lemma_text 3 (BadAmount 2) ≡ codes "no lemma 3: amount 2\n"
  pub gain : refused_lemma_text 3 (BadGain 2) ≡ codes "no lemma 3: gain 2\n"
  pub low : refused_lemma_text 3 LowBound ≡ codes "no lemma 3: bound\n"
  pub no_rule : refused_claim_text 1 verdicts.NoRule ≡ codes "no claim 1: rule\n"
  pub no_cost : refused_claim_text 1 verdicts.NoCost ≡ codes "no claim 1: cost\n"
  pub no_place : refused_claim_text 1 verdicts.NoPlace ≡ codes "no claim 1: place\n"
  pub no_copy : refused_claim_text 1 verdicts.NoCopy ≡ codes "no claim 1: copy\n"
  pub no_fact : refused_claim_text 1 verdicts.NoFact ≡ codes "no claim 1: fact\n"
  pub bad_lemma : refused_claim_text 12 verdicts.BadLemma ≡ codes "no claim 12: lemma\n"
  pub low_bound : refused_claim_text 1 verdicts.LowBound ≡ codes "no claim 1: bound\n"
  pub which : fault_text two_copies (NotFact 5 12) ≢ fault_text two_copies (NotFact 12 5)

pub record AnswersAreWorkedOut : Type 0 where
  pub statements : StatementsAreWorkedOut
  pub facts : FactsAreWorkedOut
  pub refusals : RefusalsAreWorkedOut
