-- The worked texts of verdicts are right.
use Rattle.std.proofs.Common.{◌≡◌, ◌≢◌, ℕ, List, [], ◌∷◌, get_or, refl, ap, arith, codes}
use Rattle.std.specs.Fmt.{digits}
use Rattle.std.specs.List.{flat_map}
use Rattle.model.specs.Bounds.{Constant}
use Rattle.model.specs.Facts.{Time}
use Rattle.cert_types.specs.cert_rules.Reasons.{Shape}
use Rattle.check_text.specs.Texts.{accepted_text, fact_line, refused_node_text}
use Rattle.check_text.specs.WorkedTexts.{FactsAreWorkedOut, ReasonsAreWorkedOut, FaultsAreWorkedOut, AnswersAreWorkedOut}

-- facts in another order have another text
other_order : flat_map (fact_line (codes "A" ∷ [])) (Time 1 (Constant 1) ∷ Time 2 (Constant 2) ∷ [])
    ≢ flat_map (fact_line (codes "A" ∷ [])) (Time 2 (Constant 2) ∷ Time 1 (Constant 1) ∷ [])
unfolding digits
other_order e = let digit : 49 ≡ 50 = ap (λ (w : List ℕ). get_or w 5 0) e in omega (arith, digit)

-- the texts of refusals at lemma 1 node 20 and at lemma 20 node 1 differ
other_node : refused_node_text 1 20 Shape ≢ refused_node_text 20 1 Shape
unfolding digits
other_node e = let digit : 49 ≡ 50 = ap (λ (w : List ℕ). get_or w 9 0) e in omega (arith, digit)

-- the worked text of facts and gaps is right
facts_are : FactsAreWorkedOut
unfolding accepted_text digits
facts_are = record { each = refl; none = refl; order = other_order }

-- the worked texts of reasons are right
reasons_are : ReasonsAreWorkedOut
unfolding digits
reasons_are = record {
  shape = refl;
  empty = refl;
  reached = refl;
  zero = refl;
  move = refl;
  floor = refl;
  up = refl;
  low = refl;
  cost = refl;
  time = refl;
  size = refl;
  nonlinear = refl;
  large = refl;
  weaker = refl;
  node = refl;
  which = other_node;
}

-- the worked texts of faults are right
faults_are : FaultsAreWorkedOut
unfolding digits
faults_are = record {
  shape = refl;
  move = refl;
  floor = refl;
  kept = refl;
  balance = refl;
  constant = refl;
  nothing = refl;
  gap = refl;
  refused = refl;
  syntax = refl;
  deep = refl;
  reference = refl;
  limit = refl;
}

-- all worked texts are right
pub answers_are : AnswersAreWorkedOut
answers_are = record { facts = facts_are; reasons = reasons_are; faults = faults_are }
