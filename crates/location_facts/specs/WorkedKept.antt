-- Worked values of which facts of small programs are kept, and of the linear programs that decide whether a rule
-- implies a fact.
use Rattle.std.specs.Prelude.{◌≡◌, ℕ, List, [], ◌∷◌, ℤ, pos, negsuc, None}
use Rattle.poly_terms.specs.linear_forms.Certificates.{minus_one}
use Rattle.poly_terms.specs.linear_forms.Forms.{at}
use Rattle.poly_terms.specs.linear_forms.LinearProgram.{LinearProgram, IsSolution, IsDual}
use Rattle.poly_terms.specs.linear_forms.Questions.{Equation, equations}
use Rattle.poly_terms.specs.linear_forms.RuleQuestions.{RuleForms, empty_question}
use Rattle.poly_terms.specs.model.Programs.{Rule, Program}
use Rattle.poly_terms.specs.model.Terms.{Variable, Literal}
use Rattle.rule_questions.specs.ProgramQuestions.{forms_at}
use Rattle.location_facts.specs.declared.fact.LocFact.{LocFact}
use Rattle.location_facts.specs.Candidates.{candidates}
use Rattle.location_facts.specs.Kept.{goal_question, goal_program, IsSolvedWithin, IsImplied, AreKept}
use Rattle.location_facts.specs.Rows.{row_after, combined}
use Rattle.location_facts.specs.Worked.{fact, counting, natural, positive}

-- the rule from l0(A) to a symbol with the argument A
abbrev pub handing : ℕ → Rule
handing target = record {
  source = 0;
  target = target;
  left = 1;
  free = 0;
  names = (65 ∷ []) ∷ [];
  updates = Variable 0 ∷ [];
  guard = [];
  cost = None;
}

-- the program l0(A) -> l1(A), and the program l0(A) -> l0(A), in which no rule leads to l1
abbrev pub passing : Program
passing = record counting { rules = handing 1 ∷ [] }

abbrev pub staying : Program
staying = record counting { rules = handing 0 ∷ [] }

-- with any number of pivots, no fact of l1 is kept if a rule passes on any value: it has no rows, and a point refutes
-- each goal. If no rule leads to l1, all its facts are kept, contradictory ones too
pub record KeptAreWorkedOut : Type 0 where
  pub none : (pivots : ℕ) → AreKept passing pivots []
  pub all : (pivots : ℕ) → AreKept staying pivots (candidates staying)

-- an equation
abbrev pub equation : List ℤ → ℤ → Equation
equation numbers right = record { numbers = numbers; right = right }

-- the forms of the second rule, l1(A) -> l1(A - 1) :|: A >= 1
abbrev pub falling_forms : RuleForms
falling_forms = forms_at counting 2

-- the linear programs that ask, under a list of facts, whether the second rule has no point, and whether it implies a
-- fact
abbrev pub empty_program : List LocFact → LinearProgram
empty_program facts = goal_program falling_forms.unknowns (combined falling_forms facts) minus_one

abbrev pub fact_program : List LocFact → LocFact → LinearProgram
fact_program facts f =
    goal_program falling_forms.unknowns (combined falling_forms facts) (row_after falling_forms.new_values f)

-- under A >= 0 the rows are A - 1 and A, and the goal of A >= 0 is A - 1. The equations are -m - n = -1 and m - s = 1,
-- in the columns m, n and s. They have the solution m = 1, n = s = 0, and n = 1, m = s = 0 isn't one
pub record FollowingIsWorkedOut : Type 0 where
  pub equations_are : equations 0 (goal_question falling_forms.unknowns (combined falling_forms (natural ∷ []))
      (row_after falling_forms.new_values natural)).groups
      ≡ equation (negsuc 0 ∷ negsuc 0 ∷ pos 0 ∷ []) (negsuc 0) ∷ equation (pos 1 ∷ pos 0 ∷ negsuc 0 ∷ []) (pos 1) ∷ []
  pub columns : (fact_program (natural ∷ []) natural).columns ≡ 3
  pub solved : IsSolution (fact_program (natural ∷ []) natural) (at (pos 1 ∷ pos 0 ∷ pos 0 ∷ [])) (pos 1)
  pub unsolved : ¬ (IsSolution (fact_program (natural ∷ []) natural) (at (pos 0 ∷ pos 1 ∷ pos 0 ∷ [])) (pos 1))

-- under A >= 1 the rows are A - 1 twice, and the goal of A >= 1 is A - 2. The equations are -m - n = -1 and m + n - s =
-- 2. The dual 1, 1 refutes them, with the point A = 1. The dual also refutes that the rule has no point, with the
-- equations -m - n = 0 and m + n - s = 1. So the rule doesn't imply A >= 1 under itself, with any number of pivots
pub record NotFollowingIsWorkedOut : Type 0 where
  pub equations_are : equations 0 (goal_question falling_forms.unknowns (combined falling_forms (positive ∷ []))
      (row_after falling_forms.new_values positive)).groups
      ≡ equation (negsuc 0 ∷ negsuc 0 ∷ pos 0 ∷ []) (negsuc 0) ∷ equation (pos 1 ∷ pos 1 ∷ negsuc 0 ∷ []) (pos 2) ∷ []
  pub refuted : IsDual (fact_program (positive ∷ []) positive) (at (pos 1 ∷ pos 1 ∷ []))
  pub pointed : IsDual (empty_program (positive ∷ [])) (at (pos 1 ∷ pos 1 ∷ []))
  pub not_implied : (pivots : ℕ) → ¬ (IsImplied pivots falling_forms (positive ∷ []) positive)

-- the question whether the combined rows of a rule have no point is that of a rule with these rows as its own. Under -A
-- >= 0 they are A - 1 and -A, whose sum is -1. The equations are -m + n = 0 and m - s = 1, with the solution m = n = 1,
-- s = 0. Without facts the dual 1, 1 refutes that there is no point, with the point A = 1
pub record EmptyIsWorkedOut : Type 0 where
  pub asked : (r : RuleForms) (kept : List LocFact)
      → goal_question r.unknowns (combined r kept) minus_one ≡ empty_question (record r { rows = combined r kept })
  pub equations_are : equations 0 (goal_question falling_forms.unknowns
      (combined falling_forms (fact 1 0 1 (pos 0) ∷ [])) minus_one).groups
      ≡ equation (negsuc 0 ∷ pos 1 ∷ pos 0 ∷ []) (pos 0) ∷ equation (pos 1 ∷ pos 0 ∷ negsuc 0 ∷ []) (pos 1) ∷ []
  pub solved : IsSolution (empty_program (fact 1 0 1 (pos 0) ∷ [])) (at (pos 1 ∷ pos 1 ∷ pos 0 ∷ [])) (pos 1)
  pub refuted : IsDual (empty_program []) (at (pos 1 ∷ pos 1 ∷ []))

-- the program l0(A) -> l1(0)
abbrev pub resetting : Program
resetting = record counting { rules = record (handing 1) { updates = Literal (pos 0) ∷ [] } ∷ [] }

-- the linear program that asks whether its rule implies that A is at least a number
abbrev pub reset_program : ℤ → LinearProgram
reset_program k =
    goal_program (forms_at resetting 1).unknowns (combined (forms_at resetting 1) [])
    (row_after (forms_at resetting 1).new_values (fact 1 1 0 k))

-- the rule has no row, and the goal of A >= 0 is 0: the equations are 0 = 0 and -s = 0. The first tableau is the last
-- one, so the program is solved with 0 pivots, and the rule implies A >= 0. The goal of A >= -1 is 1: -s = -1 has the
-- solution s = 1, which takes a pivot, so with 0 pivots it isn't solved, and the rule doesn't imply A >= -1
pub record PivotsAreWorkedOut : Type 0 where
  pub equations_are : equations 0 (goal_question (forms_at resetting 1).unknowns
      (combined (forms_at resetting 1) []) (row_after (forms_at resetting 1).new_values natural)).groups
      ≡ equation (pos 0 ∷ []) (pos 0) ∷ equation (negsuc 0 ∷ []) (pos 0) ∷ []
  pub solved : IsSolvedWithin 0 (reset_program (pos 0))
  pub implied : IsImplied 0 (forms_at resetting 1) [] natural
  pub with_a_solution : IsSolution (reset_program (negsuc 0)) (at (pos 1 ∷ [])) (pos 1)
  pub hit_limit : ¬ (IsSolvedWithin 0 (reset_program (negsuc 0)))
  pub not_implied : ¬ (IsImplied 0 (forms_at resetting 1) [] (fact 1 1 0 (negsuc 0)))

-- A >= 0 and -A >= 0 at l1
abbrev pub zero_facts : List LocFact
zero_facts = fact 1 0 1 (pos 0) ∷ natural ∷ []

-- with 0 pivots the program that resets keeps some facts and drops others: it implies that A is at least 0 and at most
-- 0. That A is at least -1, or at most 1, takes a pivot; that A is at least 1, or at most -1, is false
pub record SomeAreKept : Type 0 where
  pub tried : candidates resetting
      ≡ fact 1 0 1 (negsuc 0) ∷ fact 1 0 1 (pos 0) ∷ fact 1 0 1 (pos 1)
      ∷ fact 1 1 0 (negsuc 0) ∷ natural ∷ fact 1 1 0 (pos 1) ∷ []
  pub some : AreKept resetting 0 zero_facts
  pub not_all : ¬ (AreKept resetting 0 (candidates resetting))
  pub not_one : ¬ (AreKept resetting 0 (natural ∷ []))
  pub not_none : ¬ (AreKept resetting 0 [])

-- All worked values of this file.
pub record KeptFactsAreWorkedOut : Type 0 where
  pub kept : KeptAreWorkedOut
  pub following : FollowingIsWorkedOut
  pub not_following : NotFollowingIsWorkedOut
  pub empty : EmptyIsWorkedOut
  pub pivots : PivotsAreWorkedOut
  pub some : SomeAreKept
