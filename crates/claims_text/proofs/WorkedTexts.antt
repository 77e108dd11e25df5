-- The texts of small answers.
use Rattle.std.proofs.Common.{◌≡◌, ℕ, List, [], ◌∷◌, refl, ap, get_or, arith}
use Rattle.std.specs.Fmt.{digits}
use Rattle.std.specs.List.{flat_map}
use Rattle.signed_bounds.specs.Bounds.{Constant}
use Rattle.section_checks.specs.Faults.{NotFact}
use Rattle.claim_types.specs.program_claims.Claims.{Total}
use Rattle.claims_text.specs.Sections.{fault_text}
use Rattle.claims_text.specs.Statements.{stated_text, stated_line}
use Rattle.claims_text.specs.Worked.{StatementsAreWorkedOut, FactsAreWorkedOut, RefusalsAreWorkedOut}
use Rattle.claims_text.specs.Worked.{AnswersAreWorkedOut, two_symbols, two_copies}

-- statements in another order have another text
other_order : flat_map (stated_line two_symbols) (Total (Constant 1) ∷ Total (Constant 2) ∷ [])
    ≡ flat_map (stated_line two_symbols) (Total (Constant 2) ∷ Total (Constant 1) ∷ []) → ⊥
unfolding digits
other_order e = let digit : 49 ≡ 50 = ap (λ (w : List ℕ). get_or w 7 0) e in omega (arith, digit)

-- an end isn't a fact
other_end : fault_text two_copies (NotFact 5 12) ≡ fault_text two_copies (NotFact 12 5) → ⊥
unfolding digits
other_end e = let digit : 53 ≡ 49 = ap (λ (w : List ℕ). get_or w 7 0) e in omega (arith, digit)

statements : StatementsAreWorkedOut
unfolding stated_text digits
statements = record {
  each = refl;
  none = refl;
  fact = refl;
  order = other_order;
  term = refl;
  power = refl;
}

facts : FactsAreWorkedOut
unfolding stated_text digits
facts = record {
  difference = refl;
  multiples = refl;
  subtracted = refl;
  nothing = refl;
  before = refl;
}

refusals : RefusalsAreWorkedOut
unfolding digits
refusals = record {
  start = refl;
  facts = refl;
  branch = refl;
  test = refl;
  rules = refl;
  shape = refl;
  limit = refl;
  never = refl;
  fact = refl;
  lemma_shape = refl;
  missing = refl;
  move = refl;
  floor = refl;
  amount = refl;
  gain = refl;
  low = refl;
  no_rule = refl;
  no_cost = refl;
  no_place = refl;
  no_copy = refl;
  no_fact = refl;
  bad_lemma = refl;
  low_bound = refl;
  which = other_end;
}

pub worked_answers : AnswersAreWorkedOut
worked_answers = record { statements = statements; facts = facts; refusals = refusals }
