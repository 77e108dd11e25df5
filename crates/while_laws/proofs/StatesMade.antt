-- The effect of a token of an expression on the reader's state is the step of parsing expressions, in terms.
use Rattle.std.proofs.Common.{◌≡◌, ℕ, ◌-◌, ◌^◌, ◌<◌, ◌≤◌, Bool, true, false, List, [], ◌∷◌, length}
use Rattle.std.proofs.Common.{Option, Some, None, refl, sym, ap, ◌∙◌, arith}
use Rattle.std.specs.Prelude.{nat_lt}
use Rattle.std.proofs.lemmas.Bool.Decides.{nat_tests}
use Rattle.text_core.specs.Names.{is_among, position_of}
use Rattle.expr_text.specs.Pieces as programs
use Rattle.expr_text.specs.Pieces.{Word, Digits, Open, Close, Plus, Minus, Times, Caret}
use Rattle.expr_text.specs.Trees.{Sum, Plain, Raised}
use Rattle.expr_text.specs.Terms.{sum_term}
use Rattle.expr_text.specs.GrammarStates as written
use Rattle.expr_text.specs.Steps.{step, finish, finish_from}
use Rattle.expr_text.specs.StateNames.{names_with_state}
use Rattle.expr_text.specs.TermGrammarStates.{Level, GrammarState, Wanted, BaseRead, terms_of_state, level_terms, operand_terms}
use Rattle.expr_text.specs.TermGrammarStates.{is_empty, limited, sum_made, with_number}
use Rattle.expr_reader.specs.StateSteps.{StepsTo, HasParts, Closes, behind_minus}
use Rattle.expr_reader.proofs.Simulation.{Holds, simulated}
use Rattle.expr_reader.proofs.TermLaws.{sum_of}
use Rattle.while_text.specs.model.Programs.{Name}
use Rattle.while_text.specs.model.Terms.{Variable}
use Rattle.while_text.specs.declared.piece.Sort.{Sort}
use Rattle.while_text.specs.Drafts.{number_of, state_after, closed_by, last_of, term_of, with_minus}
use Rattle.while_text.proofs.GrammarStates.{last_back}
use Rattle.while_text.proofs.ReadableDrafts.{number_below}
use Rattle.while_laws.specs.Spelled.{spelled_by}
use Rattle.while_laws.proofs.Sorts.{IsWritten, IsKnown, by_sort, modest, known_piece}

-- A list that isn't empty has a last element.
last_there : {X : Type 0} (test : List X → Bool) → ((x : X) (xs : List X) → test (x ∷ xs) ≡ false) → test [] ≡ true
    → (xs : List X) → test xs ≡ false → last_of xs ≡ None → ⊥
last_there test some nothing [] h e = cc
last_there test some nothing (x ∷ []) h e = cc
last_there test some nothing (x ∷ y ∷ xs) h e = last_there test some nothing (y ∷ xs) (some y xs) e

-- A bracket that is open closes.
closes : (f : GrammarState) → is_empty f.outer ≡ false → Closes f (closed_by (last_of f.outer) f)
closes f h = go (last_of f.outer) refl
  where
    go : (o : Option Level) → last_of f.outer ≡ o → Closes f (closed_by o f)
    go None e = absurd (last_there is_empty (λ x xs. refl) refl f.outer h e)
    go (Some level) e = record { outer_is = sym (last_back f.outer level e); operand_is = refl }

-- The number of a known name is its position.
pub known_number : (names : List Name) (bytes : List ℕ) → length names ≤ 32 → is_among bytes names ≡ true
    → number_of names bytes ≡ position_of bytes names
known_number names bytes few h = let low = number_below bytes names h in omega (arith, few, low)

-- The state after a `-`, if there are few before it.
minus_made : (f : GrammarState) → f.level.minuses < 2 ^ 32 - 1
    → HasParts (with_minus f) f.outer (behind_minus f.level f.operand) Wanted
minus_made f h = rw few (record { outer_is = refl; level_is = refl; operand_is = refl })
  where
    few : nat_lt f.level.minuses (2 ^ 32 - 1) ≡ true
    few = grind (arith, nat_tests, h)

-- The token leads to the terms of the written state after it.
steps_to : (names : List Name) (f : GrammarState) (sort : Sort) (bytes : List ℕ) (q : programs.Piece)
    → length names ≤ 32 → f.level.minuses < 2 ^ 32 - 1 → spelled_by sort bytes ≡ Some q → IsWritten sort bytes
    → IsKnown names sort bytes → StepsTo names f q (state_after (number_of names bytes) sort f)
steps_to names f sort bytes q few low e h k =
    by_sort (λ s x. IsWritten s bytes → IsKnown names s bytes → StepsTo names f x (state_after (number_of names bytes) s f))
    bytes
    (λ w v. record { outer_is = refl; level_is = refl; operand_is = ap (λ i. BaseRead (Variable i)) (known_number names bytes few v) })
    (λ n w v d. record { outer_is = refl; level_is = refl; operand_is = ap (with_number f.operand) w.0 })
    (λ w v. record { outer_is = refl; level_is = refl; operand_is = refl })
    (λ w v d. closes f d)
    (λ w v. record { outer_is = refl; level_is = refl; operand_is = refl })
    (λ w v. minus_made f low)
    (λ w v. record { outer_is = refl; level_is = refl; operand_is = refl })
    (λ w v. record { outer_is = refl; level_is = refl; operand_is = refl })
    sort q e h k

-- If its names are known, a token leads from the terms of a written state to those of the written state after it.
pub state_steps : (names : List Name) (e g : written.GrammarState) (sort : Sort) (bytes : List ℕ) (q : programs.Piece)
    → length names ≤ 32 → e.level.minuses < 2 ^ 32 - 1 → spelled_by sort bytes ≡ Some q → IsWritten sort bytes
    → IsKnown names sort bytes → step e q ≡ Some g → names ≡ names_with_state names e
    → (names ≡ names_with_state names g) × (state_after (number_of names bytes) sort (terms_of_state names e) ≡ terms_of_state names g)
state_steps names e g sort bytes q few low is h k leads all =
    go (simulated names e g q names names (terms_of_state names e) (state_after (number_of names bytes) sort (terms_of_state names e))
    all refl leads (modest sort bytes q is h) (steps_to names (terms_of_state names e) sort bytes q few low is h k)
    (known_piece names sort bytes q is k))
  where
    go : Holds names g names (state_after (number_of names bytes) sort (terms_of_state names e))
        → (names ≡ names_with_state names g) × (state_after (number_of names bytes) sort (terms_of_state names e) ≡ terms_of_state names g)
    go w = (w.names_are, w.state_is_represented)

-- The term of an expression that ends is that of the written expression.
pub term_made : (names : List Name) (g : written.GrammarState) (s : Sum) → finish g ≡ Some s
    → term_of (terms_of_state names g) ≡ limited (sum_term names s)
term_made names g s e = go g.outer g.operand e
  where
    same : (t : Sum) → Some t ≡ Some s → limited (sum_term names t) ≡ limited (sum_term names s)
    same t d = ap (λ x. limited (sum_term names x)) (one d)
      where
        one : Some t ≡ Some s → t ≡ s
        one c = cc

    go : (outer : List written.Level) (o : written.Operand) → finish_from outer g.level o ≡ Some s
        → sum_made (level_terms names g.level) (operand_terms names o) ≡ limited (sum_term names s)
    go (l ∷ outer) o d = cc
    go [] written.Wanted d = cc
    go [] (written.CaretRead b) d = cc
    go [] (written.BaseRead b) d = sym (sum_of names g.level (Plain b)) ∙ same _ d
    go [] (written.ExponentRead b ds) d = sym (sum_of names g.level (Raised b ds)) ∙ same _ d
