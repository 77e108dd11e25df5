-- Worked values: a section of a small program that is accepted, and the first faults of its variants.
use Rattle.std.specs.Prelude.{◌≡◌, ℕ, zero, suc, true, false, List, [], ◌∷◌, pos, negsuc, Some, None}
use Rattle.section_checks.specs.refined_programs.model.Terms.{Term, Literal, Variable, Negation, Subtraction}
use Rattle.section_checks.specs.refined_programs.model.Programs.{AtLeast, AtMost, Atom, Always, Compare, Rule, Program}
use Rattle.section_checks.specs.refined_programs.its_model.linear_forms.Forms.{Form}
use Rattle.section_checks.specs.refined_programs.Annotated.{Copy, Cases, To, Never, If, Branch, Section}
use Rattle.section_checks.specs.Faults.{WrongStart, WrongFacts, WrongBranch, WrongTest, WrongShape, WrongRules}
use Rattle.section_checks.specs.Faults.{OverLimit, NotNever, NotFact}
use Rattle.section_decide.specs.Deciding.{is_within_limits, section_fault}

-- a rule over A, without a free variable or a cost
abbrev pub over_a : ℕ → ℕ → Term → Atom → Rule
over_a source target update atom = record {
  source = source;
  target = target;
  left = 1;
  free = 0;
  names = (65 ∷ []) ∷ [];
  updates = update ∷ [];
  guard = atom ∷ [];
  cost = None;
}

-- a(A) -> b(A) where A >= 0, b(A) -> b(A - 1) where A >= 1, and b(A) -> c(A) where A <= -1
abbrev pub counting : Program
counting = record {
  symbols =
      record { name = 97 ∷ []; arity = 1 } ∷ record { name = 98 ∷ []; arity = 1 }
      ∷ record { name = 99 ∷ []; arity = 1 } ∷ [];
  start = 0;
  start_names = (65 ∷ []) ∷ [];
  rules =
      over_a 0 1 (Variable 0) (Compare (Variable 0) AtLeast (Literal (pos 0)))
      ∷ over_a 1 1 (Subtraction (Variable 0) (Literal (pos 1))) (Compare (Variable 0) AtLeast (Literal (pos 1)))
      ∷ over_a 1 2 (Variable 0) (Compare (Variable 0) AtMost (Negation (Literal (pos 1)))) ∷ [];
}

-- the forms A, and A - n
abbrev pub just_a : Form
just_a = record { coefs = pos 1 ∷ []; constant = pos 0 }

abbrev pub a_less_2 : Form
a_less_2 = record { coefs = pos 1 ∷ []; constant = negsuc 1 }

-- the form A + 0*B, which has a coefficient too many
abbrev pub wide : Form
wide = record { coefs = pos 1 ∷ pos 0 ∷ []; constant = pos 0 }

-- the copy `a` of the symbol with a number, with facts; and two copies of b, `b.1` and `b.2`, with facts
abbrev pub first_copy : ℕ → List Form → Copy
first_copy over facts = record { name = 97 ∷ []; over = over; facts = facts }

abbrev pub copies : List Form → List Form → List Copy
copies first second =
    first_copy 0 [] ∷ record { name = 98 ∷ 46 ∷ 49 ∷ []; over = 1; facts = first }
    ∷ record { name = 98 ∷ 46 ∷ 50 ∷ []; over = 1; facts = second } ∷ []

-- cases of the loop by a form: both paths lead to `b.2`, with multipliers for its fact
abbrev pub loop_by : Form → Cases
loop_by test = If test (To 2 ((1 ∷ 0 ∷ 0 ∷ 1 ∷ []) ∷ [])) (To 2 ((1 ∷ 0 ∷ 0 ∷ 1 ∷ []) ∷ []))

-- a branch of a rule at a copy
abbrev pub at : ℕ → ℕ → Cases → Branch
at source rule cases = record { source = source; rule = rule; cases = cases }

-- the branches: rule 1 enters by these cases; at `b.1` rule 2 leads on by these cases, and rule 3 is never enabled, by
-- these multipliers; at `b.2` rule 2 leads to `b.2` by these multipliers, and rule 3 is never enabled
abbrev pub branches : Cases → Cases → List ℕ → List ℕ → List Branch
branches enters loops never stays =
    at 0 1 enters ∷ at 1 2 loops ∷ at 1 3 (Never never) ∷ at 2 2 (To 2 (stays ∷ [])) ∷ at 2 3 (Never (1 ∷ 1 ∷ [])) ∷ []

-- the cases of entering, of the loop, and the certificates, all correct
abbrev pub enters : Cases
enters = To 1 ((1 ∷ 1 ∷ []) ∷ [])

abbrev pub right : List Branch
right = branches enters (loop_by a_less_2) (1 ∷ 1 ∷ []) (1 ∷ 0 ∷ 1 ∷ [])

-- a section of these copies and branches
abbrev pub section : List Copy → List Branch → Section
section cs bs = record { copies = cs; branches = bs }

-- the copies where both copies of b have the fact that A is at least 0
abbrev pub natural : List Copy
natural = copies (just_a ∷ []) (just_a ∷ [])

-- the section that splits by whether A is at least 2 is accepted; and so is one whose copies have no facts,
-- without certificates, in which rule 3, though never enabled, leads to a copy of c
abbrev pub plain_branches : List Branch
plain_branches = at 0 1 (To 1 []) ∷ at 1 2 (To 1 []) ∷ at 1 3 (To 2 []) ∷ []

abbrev pub plain_copies : List Copy
plain_copies =
    first_copy 0 [] ∷ record { name = 98 ∷ []; over = 1; facts = [] } ∷ record { name = 99 ∷ []; over = 2; facts = [] }
    ∷ []

pub record SectionsAreJudged : Type 0 where
  pub by_two : section_fault counting (section natural right) ≡ None
  pub plain : section_fault counting (section plain_copies plain_branches) ≡ None

-- faults of shape: the start, facts, branches, tests, ends, and the number of rules
pub record ShapesAreRefused : Type 0 where
  -- there is no copy; the first copy has a fact; or it is of another symbol
  pub no_copy : section_fault counting (section [] []) ≡ Some WrongStart
  pub start_fact : section_fault counting
      (section (first_copy 0 (just_a ∷ []) ∷ record { name = 98 ∷ []; over = 1; facts = [] } ∷ []) right)
      ≡ Some WrongStart
  pub start_symbol : section_fault counting
      (section (first_copy 1 [] ∷ record { name = 98 ∷ []; over = 1; facts = [] } ∷ []) right) ≡ Some WrongStart
  -- a fact of `b.1`, or of `b.2`, has a coefficient too many
  pub wide_fact : section_fault counting (section (copies (wide ∷ []) (just_a ∷ [])) right) ≡ Some (WrongFacts 2)
  pub wide_second : section_fault counting (section (copies (just_a ∷ []) (just_a ∷ wide ∷ [])) right)
      ≡ Some (WrongFacts 3)
  -- the branch of rule 3 at `b.1` is missing, or all after the second one are; one occurs twice; or two are exchanged
  pub missing : section_fault counting
      (section natural (at 0 1 enters ∷ at 1 2 (loop_by a_less_2) ∷ at 2 2 (To 2 ((1 ∷ 0 ∷ 1 ∷ []) ∷ []))
      ∷ at 2 3 (Never (1 ∷ 1 ∷ [])) ∷ [])) ≡ Some (WrongBranch 3)
  pub cut_off : section_fault counting (section natural (at 0 1 enters ∷ at 1 2 (loop_by a_less_2) ∷ []))
      ≡ Some (WrongBranch 3)
  pub twice : section_fault counting
      (section natural (at 0 1 enters ∷ at 1 2 (loop_by a_less_2) ∷ at 1 3 (Never (1 ∷ 1 ∷ []))
      ∷ at 2 2 (To 2 ((1 ∷ 0 ∷ 1 ∷ []) ∷ [])) ∷ at 2 3 (Never (1 ∷ 1 ∷ [])) ∷ at 2 3 (Never (1 ∷ 1 ∷ [])) ∷ []))
      ≡ Some (WrongBranch 6)
  pub exchanged : section_fault counting
      (section natural (at 1 2 (loop_by a_less_2) ∷ at 0 1 enters ∷ at 1 3 (Never (1 ∷ 1 ∷ []))
      ∷ at 2 2 (To 2 ((1 ∷ 0 ∷ 1 ∷ []) ∷ [])) ∷ at 2 3 (Never (1 ∷ 1 ∷ [])) ∷ [])) ≡ Some (WrongBranch 1)
  -- a test has a coefficient too many
  pub wide_test : section_fault counting
      (section natural (branches enters (loop_by wide) (1 ∷ 1 ∷ []) (1 ∷ 0 ∷ 1 ∷ []))) ≡ Some (WrongTest 2)
  -- rule 1 leads to a copy of another symbol than its target; to a copy that doesn't exist; or has no list for its fact
  pub other_symbol : section_fault counting
      (section natural (branches (To 0 []) (loop_by a_less_2) (1 ∷ 1 ∷ []) (1 ∷ 0 ∷ 1 ∷ []))) ≡ Some (WrongShape 1)
  pub no_such_copy : section_fault counting
      (section natural (branches (To 3 []) (loop_by a_less_2) (1 ∷ 1 ∷ []) (1 ∷ 0 ∷ 1 ∷ []))) ≡ Some (WrongShape 1)
  pub no_list : section_fault counting
      (section natural (branches (To 1 []) (loop_by a_less_2) (1 ∷ 1 ∷ []) (1 ∷ 0 ∷ 1 ∷ []))) ≡ Some (WrongShape 1)
  -- no end at a copy leaves the first copy
  pub no_rule : section_fault counting
      (section natural (branches (Never (1 ∷ [])) (loop_by a_less_2) (1 ∷ 1 ∷ []) (1 ∷ 0 ∷ 1 ∷ []))) ≡ Some WrongRules

-- faults of multipliers: their number, and what they show. The third end is that of the path where A is below 2, the
-- fourth that of rule 3 at `b.1`
pub record CertificatesAreRefused : Type 0 where
  -- three multipliers for two rows; and multipliers that don't show that A >= 0 and A <= -1 have no point
  pub long : section_fault counting
      (section natural (branches enters (loop_by a_less_2) (1 ∷ 1 ∷ 0 ∷ []) (1 ∷ 0 ∷ 1 ∷ []))) ≡ Some (WrongShape 4)
  pub never : section_fault counting
      (section natural (branches enters (loop_by a_less_2) (1 ∷ 0 ∷ []) (1 ∷ 0 ∷ 1 ∷ []))) ≡ Some (NotNever 4)
  -- a multiplier is over 2^56
  pub large : section_fault counting
      (section natural
      (branches enters (loop_by a_less_2) (72057594037927937 ∷ 72057594037927937 ∷ []) (1 ∷ 0 ∷ 1 ∷ [])))
      ≡ Some (WrongShape 4)
  -- multipliers don't show the fact of `b.2` after rule 2 at `b.2`; and a fact of `b.2` is too strong by 1 after rule 2
  -- at `b.1`
  pub fact : section_fault counting
      (section natural (branches enters (loop_by a_less_2) (1 ∷ 1 ∷ []) (1 ∷ 0 ∷ 0 ∷ []))) ≡ Some (NotFact 5 1)
  pub too_strong : section_fault counting
      (section (copies (just_a ∷ []) (record { coefs = pos 1 ∷ []; constant = negsuc 0 } ∷ [])) right)
      ≡ Some (NotFact 2 1)

-- the form 2^63*A, which is over the limit of coefficients
abbrev pub huge : Form
huge = record { coefs = pos 9223372036854775808 ∷ []; constant = pos 0 }

-- n atoms that always hold; a rule over A with n such atoms; and one with a cost besides
abbrev pub always : ℕ → List Atom
always zero = []
always (suc n) = Always ∷ always n

abbrev pub with_atoms : ℕ → Rule
with_atoms n = record (over_a 1 1 (Variable 0) Always) { guard = always n }

abbrev pub costly_with_atoms : ℕ → Rule
costly_with_atoms n = record (with_atoms n) { cost = Some (Variable 0) }

-- rules over the limits, and rules within them
pub record LimitsAreMet : Type 0 where
  -- a fact of `b.1` whose denial can't be expanded; and such a fact of `b.2`, which is reported before multipliers of
  -- the first end that don't show the fact of `b.1`
  pub huge_fact : section_fault counting (section (copies (huge ∷ []) (just_a ∷ [])) right) ≡ Some (OverLimit 1)
  pub before_multipliers : section_fault counting
      (section (copies (just_a ∷ []) (huge ∷ []))
      (branches (To 1 ((1 ∷ 0 ∷ []) ∷ [])) (loop_by a_less_2) (1 ∷ 1 ∷ []) (1 ∷ 0 ∷ 1 ∷ []))) ≡ Some (OverLimit 2)
  -- 64 atoms are within the limits, and so are 63 beside a cost
  pub full : is_within_limits (with_atoms 64) ≡ true
  pub over : is_within_limits (with_atoms 65) ≡ false
  pub full_beside_cost : is_within_limits (costly_with_atoms 63) ≡ true
  pub over_beside_cost : is_within_limits (costly_with_atoms 64) ≡ false
  -- an atom that reads a variable that doesn't exist is not within the limits
  pub other_variable : is_within_limits (over_a 1 1 (Variable 0) (Compare (Variable 1) AtLeast (Literal (pos 0))))
      ≡ false
