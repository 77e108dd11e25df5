-- Each state of an expression and of a guard can be completed, within any larger text that contains it.
use Rattle.std.specs.Prelude.{◌≡◌, ℕ, List, [], ◌∷◌, Some, refl}
use Rattle.std.proofs.Common.{ap}
use Rattle.expr_text.specs.Pieces.{Piece, Digits, Close, Sign, EqualSign, Related}
use Rattle.expr_text.specs.Trees.{Sum, Plain, Raised, Base, Number, Bracketed}
use Rattle.expr_text.specs.GrammarStates.{Level, Operand, Wanted, BaseRead, CaretRead, ExponentRead, GrammarState, sum_made}
use Rattle.expr_text.specs.GrammarStates.{beginning}
use Rattle.expr_text.specs.Steps.{read, step, finish}
use Rattle.expr_text.specs.Guards.{Atoms, Compared}
use Rattle.expr_text.specs.GuardGrammarStates as guards
use Rattle.expr_text.proofs.Ending.{related_step}
use Rattle.expr_text.specs.GuardGrammarStates.{Conjoined, GuardGrammarState, LeftSide, RightSide, atoms_with}

-- pieces of a larger text lead to an expression's state; the larger text can be completed if it can be completed after
-- one more piece of the expression, or where the expression ends
module _ {P : Type 0} (into : Piece → P) (At : List P → GrammarState → Type 0) (Goes : List P → Type 0)
    (steps : (done : List P) (e g : GrammarState) (p : Piece) → At done e → step e p ≡ Some g → At (into p ∷ done) g)
    (back : (p : P) (done : List P) → Goes (p ∷ done) → Goes done)
    (ends : (done : List P) (e : GrammarState) (s : Sum) → At done e → finish e ≡ Some s → Goes done) where
  behind_base : (outer : List Level) (level : Level) (b : Base) (done : List P) → At done (read outer level b) → Goes done
  behind_base [] level b done h = ends done (read [] level b) (sum_made level (Plain b)) h refl
  behind_base (l ∷ outer) level b done h =
      back (into Close) done (behind_base outer l (Bracketed (sum_made level (Plain b))) (into Close ∷ done)
      (steps done (read (l ∷ outer) level b) (read outer l (Bracketed (sum_made level (Plain b)))) Close h refl))

  behind_exponent : (outer : List Level) (level : Level) (b : Base) (ds : List ℕ) (done : List P) → At done (record { outer = outer; level = level; operand = ExponentRead b ds }) → Goes done
  behind_exponent [] level b ds done h = ends done (record { outer = []; level = level; operand = ExponentRead b ds }) (sum_made level (Raised b ds)) h refl
  behind_exponent (l ∷ outer) level b ds done h =
      back (into Close) done (behind_base outer l (Bracketed (sum_made level (Raised b ds))) (into Close ∷ done)
      (steps done (record { outer = l ∷ outer; level = level; operand = ExponentRead b ds }) (read outer l (Bracketed (sum_made level (Raised b ds)))) Close h refl))

  from_operand : (outer : List Level) (level : Level) (operand : Operand) (done : List P) → At done (record { outer = outer; level = level; operand = operand }) → Goes done
  from_operand outer level Wanted done h =
      back (into (Digits (49 ∷ []))) done (behind_base outer level (Number (49 ∷ [])) (into (Digits (49 ∷ [])) ∷ done)
      (steps done (record { outer = outer; level = level; operand = Wanted }) (read outer level (Number (49 ∷ []))) (Digits (49 ∷ [])) h refl))
  from_operand outer level (BaseRead b) done h = behind_base outer level b done h
  from_operand outer level (CaretRead b) done h =
      back (into (Digits (49 ∷ []))) done (behind_exponent outer level b (49 ∷ []) (into (Digits (49 ∷ [])) ∷ done)
      (steps done (record { outer = outer; level = level; operand = CaretRead b }) (record { outer = outer; level = level; operand = ExponentRead b (49 ∷ []) }) (Digits (49 ∷ [])) h refl))
  from_operand outer level (ExponentRead b ds) done h = behind_exponent outer level b ds done h

  -- each state of an expression can be completed
  pub expression_completed : (e : GrammarState) (done : List P) → At done e → Goes done
  expression_completed e done h = from_operand e.outer e.level e.operand done h

-- pieces of a larger text lead to a guard's state
module _ {P : Type 0} (into : Piece → P) (At : List P → GuardGrammarState → Type 0) (Goes : List P → Type 0)
    (steps : (done : List P) (g h : GuardGrammarState) (p : Piece) → At done g → guards.step g p ≡ Some h → At (into p ∷ done) h)
    (back : (p : P) (done : List P) → Goes (p ∷ done) → Goes done)
    (ends : (done : List P) (g : GuardGrammarState) (atoms : Atoms) → At done g → guards.finish g ≡ Some atoms → Goes done) where
  right_steps : (c : Conjoined) (l : Sum) (sign : Sign) (done : List P) (e f : GrammarState) (p : Piece) → At done (RightSide c l sign e) → step e p ≡ Some f → At (into p ∷ done) (RightSide c l sign f)
  right_steps c l sign done e f p h same = steps done (RightSide c l sign e) (RightSide c l sign f) p h (ap (λ o. guards.within (RightSide c l sign e) o p) same)

  right_ends : (c : Conjoined) (l : Sum) (sign : Sign) (done : List P) (e : GrammarState) (s : Sum) → At done (RightSide c l sign e) → finish e ≡ Some s → Goes done
  right_ends c l sign done e s h same = ends done (RightSide c l sign e) (atoms_with c (Compared l sign s)) h (ap (λ o. guards.ended c (guards.compared l sign o)) same)

  right_completed : (c : Conjoined) (l : Sum) (sign : Sign) (e : GrammarState) (done : List P) → At done (RightSide c l sign e) → Goes done
  right_completed c l sign e done h =
      expression_completed into (λ behind f. At behind (RightSide c l sign f)) Goes (right_steps c l sign) back (right_ends c l sign) e done h

  left_steps : (c : Conjoined) (done : List P) (e f : GrammarState) (p : Piece) → At done (LeftSide c e) → step e p ≡ Some f → At (into p ∷ done) (LeftSide c f)
  left_steps c done e f p h same = steps done (LeftSide c e) (LeftSide c f) p h (ap (λ o. guards.within (LeftSide c e) o p) same)

  left_ends : (c : Conjoined) (done : List P) (e : GrammarState) (s : Sum) → At done (LeftSide c e) → finish e ≡ Some s → Goes done
  left_ends c done e s h same =
      back (into (Related EqualSign)) done (right_completed c s EqualSign beginning (into (Related EqualSign) ∷ done)
      (steps done (LeftSide c e) (RightSide c s EqualSign beginning) (Related EqualSign) h (related_step c e s EqualSign same)))

  -- each state of a guard can be completed
  pub guard_completed : (g : GuardGrammarState) (done : List P) → At done g → Goes done
  guard_completed (LeftSide c e) done h = expression_completed into (λ behind f. At behind (LeftSide c f)) Goes (left_steps c) back (left_ends c) e done h
  guard_completed (RightSide c l sign e) done h = right_completed c l sign e done h
