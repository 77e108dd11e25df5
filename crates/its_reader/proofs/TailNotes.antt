-- The code finds exactly the faults of the next token after a target.
use Rattle.std.specs.Prelude.{◌≡◌, ℕ, zero, suc, ◌+◌, ◌-◌, ◌<◌, Bool, true, false, not, ◌&&◌, ◌==◌, nat_le}
use Rattle.std.specs.Prelude.{if◌then◌else◌, List}
use Rattle.std.specs.Prelude.{[], ◌∷◌, ◌++◌, length, Option, Some, None, option_map, refl}
use Rattle.std.proofs.Common.{sym, ap, subst, ◌∙◌, append-nil, append_assoc, arith, inl, inr}
use Rattle.std.proofs.lemmas.Bool.Decides.{nat_tests}
use Rattle.model.specs.Programs.{Name}
use Rattle.model.specs.Limits.{rule_limit, atom_limit}
use Rattle.its_model.specs.Views.{atom_of}
use Rattle.its_model.specs.Valid.{cost_atoms}
use Rattle.poly_terms.specs.Views.{term_of}
use Rattle.its_text.specs.expr_text.Pieces as inner
use Rattle.its_text.specs.expr_text.Trees.{Sum, Named, Number, Bracketed}
use Rattle.its_text.specs.expr_text.GrammarStates as expression
use Rattle.its_text.specs.expr_text.GrammarStates.{Level, Operand, Wanted, BaseRead, CaretRead, ExponentRead, Summed}
use Rattle.its_text.specs.expr_text.GrammarStates.{NoSum}
use Rattle.its_text.specs.expr_text.GrammarStates.{PlusAfter}
use Rattle.its_text.specs.expr_text.GrammarStates.{MinusAfter, Factored, NoProduct, TimesAfter, beginning}
use Rattle.its_text.specs.expr_text.Steps as expression_steps
use Rattle.its_text.specs.expr_text.Guards.{Atom, Atoms, First, Joined, count_of, atoms_terms}
use Rattle.its_text.specs.expr_text.GuardGrammarStates as guards
use Rattle.its_text.specs.expr_text.GuardGrammarStates.{GuardGrammarState, LeftSide, RightSide, Conjoined, NoAtoms}
use Rattle.its_text.specs.expr_text.GuardGrammarStates.{JointAfter, ended}
use Rattle.its_text.specs.expr_text.GuardGrammarStates.{compared, no_atoms, truth_of, truth_in as truth_from}
use Rattle.its_text.specs.expr_text.GuardGrammarStates.{expression_in}
use Rattle.its_text.specs.expr_text.StateNames.{token_count, goes_on_with, is_state, before_expression, truth_worded}
use Rattle.expr_reader.specs.Variables.{names_in}
use Rattle.expr_reader.specs.Faults.{ends_before}
use Rattle.expr_reader.specs.GuardParts.{is_read, is_wanting}
use Rattle.expr_reader.specs.GuardRepresentation as standing
use Rattle.expr_reader.specs.GuardRepresentation.{atoms_in, atoms_of, atoms_before, limited_atom, IsWanting, IsInLeft}
use Rattle.expr_reader.specs.GuardRepresentation.{IsOpen}
use Rattle.expr_reader.specs.GuardRepresentation.{IsEnded, IsPartEnded, part_ended_none, part_ended_left}
use Rattle.expr_reader.specs.GuardRepresentation.{part_ended_right, part_ended_end}
use Rattle.expr_reader.specs.GuardRepresentation.{joined_only}
use Rattle.expr_reader.specs.Standing.{RepresentsExpression}
use Rattle.expr_reader.specs.declared.guard.GuardReader.{GuardReader}
use Rattle.expr_reader.proofs.Standing.{fresh_stands}
use Rattle.its_text.specs.Pieces.{Piece, In}
use Rattle.its_text.specs.Written.{NoGuard}
use Rattle.its_text.specs.Numbering.{left_names, atoms_of_cost}
use Rattle.its_text.specs.Kinds.{Limit, TooManyRules, TooManyAtoms, LongName}
use Rattle.its_text.specs.GrammarStates as grammar_states
use Rattle.its_text.specs.GrammarStates.{GrammarState, ArrowRead, Headed, rule_with}
use Rattle.its_text.specs.StateNames.{headed_names}
use Rattle.its_text.specs.Steps.{guard_named}
use Rattle.its_text.specs.StateFaults as shown
use Rattle.its_text.specs.StateFaults.{Tokens, OpenExpression, fault_if, long_name, is_word, is_open, begins, are_full}
use Rattle.its_text.specs.StateFaults.{can_end, ends_expression, is_full, open_expression_in, is_truth, is_left_side}
use Rattle.its_text.specs.StateFaults.{token_faults, next_faults}
use Rattle.its_reader.specs.Tests.{inner_next}
use Rattle.its_reader.specs.Standing.{KnowsArrow, cost_of}
use Rattle.its_reader.specs.Places.{TailPartEnded, IsGuard, IsHeaded}
use Rattle.its_reader.specs.FaultTests.{IsDigital, truth_in, step_faults, atom_faults, atoms_fill, atoms_full}
use Rattle.its_reader.specs.FaultTests.{rule_faults}
use Rattle.its_reader.specs.FaultTests.{mark_faults, behind_atoms_faults, guard_faults, tail_faults}
use Rattle.its_reader.specs.declared.parser_state.GuardOpening.{GuardOpening}
use Rattle.its_reader.specs.declared.parser_state.GuardOpening.TheVariants as openings
use Rattle.its_reader.specs.declared.parser_state.TailState.{TailState}
use Rattle.its_reader.specs.declared.parser_state.TailState.TheVariants as tails
use Rattle.its_reader.specs.declared.draft.Draft.{Draft}
use Rattle.its_reader.proofs.LeftNotes.{length-push, length-terms, as_many_rules}
use Rattle.its_reader.proofs.RightNotes.{not_none}
use Rattle.its_reader.proofs.GoingNotes.{going_is}
use Rattle.its_reader.proofs.GuardLaws.{guarded}

-- the code has as many atoms as the written guard
atoms_counted : (names : List Name) (atoms : Atoms) → length (atoms_terms names atoms) ≡ count_of atoms
atoms_counted names (First a) = refl
atoms_counted names (Joined atoms joint a) = length-push (atoms_terms names atoms) _
    ∙ ap suc (atoms_counted names atoms)

as_many_atoms : (names : List Name) (atoms : Atoms) (r : GuardReader) → atoms_in r ≡ atoms_of names atoms
    → length r.atoms.items ≡ count_of atoms
as_many_atoms names atoms r e =
    sym (length-terms atom_of r.atoms.items)
    ∙ (ap length e ∙ (length-terms limited_atom (atoms_terms names atoms) ∙ atoms_counted names atoms))

-- a cost counts as one atom in the code as in the written text
cost_counted : (names : List Name) (cost : Option Sum) → cost_atoms (cost_of names cost) ≡ atoms_of_cost cost
cost_counted names None = refl
cost_counted names (Some c) = refl

-- a cost alone is less than the limit on atoms
few_beside : (begun : Bool) (cost : Option Sum) → false ≡ nat_le atom_limit (0 + atoms_of_cost cost) && begun
few_beside begun None = refl
few_beside begun (Some c) = refl

-- with a cost there are as many atoms as the limit allows exactly if one atom less is written
pub one_beside : (n : ℕ) → nat_le (atom_limit - 1) n ≡ nat_le atom_limit (n + 1)
one_beside n = grind (arith, nat_tests)

pub none_beside : (n : ℕ) → nat_le atom_limit n ≡ nat_le atom_limit (n + 0)
none_beside n = grind (arith, nat_tests)

-- tests that pass can be left out of a conjunction
kept : (a b : Bool) → a && true && true && b ≡ a && b
kept true b = refl
kept false b = refl

-- the code tests for an operator as the written text does
operating_is : (behind : Option Piece) → standing.is_operating (inner_next behind) ≡ shown.is_operating behind
operating_is None = refl
operating_is (Some (In p)) = refl
operating_is (Some _) = refl

-- the test whether an expression ends before a piece depends only on the inner piece
ends_is : (e : expression.GrammarState) (next : Option Piece) → ends_expression e next ≡ ends_before e (inner_next next)
ends_is e None = refl
ends_is e (Some (In p)) = refl
ends_is e (Some _) = refl

-- an expression that is the atom that always holds has at least one token
truth_begun : (e : expression.GrammarState) (a : Atom) → truth_of e ≡ Some a → (token_count e == 0) ≡ false
truth_begun e a h = go e.outer e.level e.operand h
  where
    go : (outer : List Level) (level : Level) (o : Operand) → truth_from outer level o ≡ Some a
        → (token_count (record { outer = outer; level = level; operand = o }) == 0) ≡ false
    go outer level (BaseRead (Named name)) h = not_none _
    go outer level (BaseRead (Number digits)) h = not_none _
    go outer level (BaseRead (Bracketed s)) h = not_none _
    go outer level (CaretRead b) h = not_none _
    go outer level (ExponentRead b digits) h = not_none _
    go (l ∷ outer) level Wanted h = cc
    go [] level Wanted h = none level.sum level.product level.minuses h
      where
        none : (s : Summed) (p : Factored) (n : ℕ) → guards.truth_at s p n Wanted ≡ Some a
            → (token_count (record { outer = []; level = level; operand = Wanted }) == 0) ≡ false
        none NoSum NoProduct zero h = cc
        none NoSum NoProduct (suc n) h = cc
        none NoSum (TimesAfter q) n h = cc
        none (PlusAfter s) p n h = cc
        none (MinusAfter s) p n h = cc

-- an atom that has ended has at least one token
full_never : (others : ℕ) (g : GuardGrammarState) (atoms : Atoms) → guards.finish g ≡ Some atoms
    → is_full others g ≡ false
full_never others (RightSide c l sign e) atoms h = refl
full_never others (LeftSide NoAtoms e) atoms h = refl
full_never others (LeftSide (JointAfter before joint) e) atoms h = go (truth_of e) refl h
  where
    go : (o : Option Atom) → truth_of e ≡ o → ended (JointAfter before joint) o ≡ Some atoms
        → (token_count e == 0) && nat_le atom_limit (count_of before + others) ≡ false
    go None t h = cc
    go (Some a) t h = rw (truth_begun e a t) refl

-- after atoms that have ended no piece continues an expression
joining_stops : (e : expression.GrammarState) (joint : inner.Joint) → goes_on_with e (inner.Joining joint) ≡ false
joining_stops e joint = go e.outer e.level e.operand
  where
    go : (outer : List Level) (level : Level) (o : Operand)
        → is_state (expression_steps.step_from outer level o (inner.Joining joint)) ≡ false
    go outer level Wanted = refl
    go outer level (BaseRead b) = refl
    go outer level (CaretRead b) = refl
    go outer level (ExponentRead b digits) = refl

ended_stops : (g : GuardGrammarState) (p : inner.Piece) → guards.step g p ≡ joined_only (guards.finish g) p
    → goes_on_with (expression_in g) p ≡ false
ended_stops g (inner.Joining joint) h = joining_stops (expression_in g) joint
ended_stops g p h = go g (expression_steps.step (expression_in g) p) h
  where
    go : (g : GuardGrammarState) (o : Option expression.GrammarState) → guards.within g o p ≡ None → is_state o ≡ false
    go g None h = refl
    go (LeftSide c e) (Some more) h = cc
    go (RightSide c l sign e) (Some more) h = cc

-- whether the fault of a rule too many is shown
abbrev rules_shown : GuardOpening → Headed → GuardGrammarState → Option Piece → Bool
rules_shown openings.Mark h g next = is_word next && ends_expression (expression_in g) next && can_end (guards.finish g)
    && are_full (rule_with h NoGuard ∷ h.led.ruling.rules)
rules_shown openings.Square h g next = false

module _ (ts : Tokens) (at : ℕ) (next behind : Option Piece) (d : Draft) (digital : IsDigital next) where
  -- the faults that the grammar's state shows within a guard
  guarded_shows : (opening : GuardOpening) (h : Headed) (g : GuardGrammarState)
      → next_faults at (guarded opening h g) next behind
      ≡ fault_if (rules_shown opening h g next) (Limit TooManyRules) at
      ++ fault_if (is_full (atoms_of_cost h.led.cost) g && begins next) (Limit TooManyAtoms) at
      ++ fault_if (long_name next) (Limit LongName) at ++ token_faults at (open_expression_in (headed_names h) g)
      next behind
  guarded_shows openings.Mark h g = ap
      (λ xs. xs ++ fault_if (is_full (atoms_of_cost h.led.cost) g && begins next) (Limit TooManyAtoms) at
      ++ fault_if (long_name next) (Limit LongName) at ++ token_faults at (open_expression_in (headed_names h) g) next
      behind)
      (append-nil (fault_if (rules_shown openings.Mark h g next) (Limit TooManyRules) at))
  guarded_shows openings.Square h g = refl

  -- a name after `:|:` that begins an atom has the faults of the guard
  word_shows : (h : Headed) (name : Name) (next : Option Piece)
      → next_faults at (grammar_states.WordRead h name) next behind
      ≡ next_faults at (grammar_states.MarkGuarding h (guard_named name)) next behind
  word_shows h name None = refl
  word_shows h name (Some (In (inner.Word n))) = refl
  word_shows h name (Some (In _)) = refl
  word_shows h name (Some _) = refl

  -- the code's test for the word of the atom that always holds agrees with the grammar's
  truth_shows : (g : OpenExpression) → is_wanting d.rule.guard.state
      ≡ (g.leads_atom && (token_count g.grammar_state == 0))
      → (p : inner.Piece) (name : Name) → next ≡ Some (In p) → p ≡ inner.Word name
      → truth_in d.rule.guard (inner_next next) (inner_next behind) ≡ is_truth g name behind
  truth_shows g w p name e is =
      ap (λ o. truth_in d.rule.guard (inner_next o) (inner_next behind)) e
      ∙ (ap (λ p. truth_in d.rule.guard (Some p) (inner_next behind)) is
      ∙ (ap (λ v. is_wanting d.rule.guard.state && truth_worded name && not v) (operating_is behind)
      ∙ ap (λ v. v && truth_worded name && not (shown.is_operating behind)) w))

  -- the code finds the faults of an atom
  atom_shows : (names : List Name) (g : GuardGrammarState)
      → RepresentsExpression (before_expression names g) (expression_in g) (names_in d.rule.variables)
      d.rule.guard.expression
      → is_wanting d.rule.guard.state ≡ (is_left_side g && (token_count (expression_in g) == 0))
      → token_faults at (open_expression_in names g) next behind
      ≡ step_faults d.rule d.rule.guard.expression (truth_in d.rule.guard (inner_next next) (inner_next behind)) at
      (inner_next next)
  atom_shows names g s w = going_is at now d.rule d.rule.guard.expression
      (truth_in d.rule.guard (inner_next next) (inner_next behind)) behind s next digital (truth_shows now w)
    where
      now : OpenExpression
      now = record { names = before_expression names g; grammar_state = expression_in g; leads_atom = is_left_side g }

  -- the code finds the faults within an atom that hasn't ended
  unread_shows : (opening : GuardOpening) (h : Headed) (g : GuardGrammarState) → rules_shown opening h g next ≡ false
      → is_full (atoms_of_cost h.led.cost) g && begins next ≡ atoms_full d.rule next
      → is_read d.rule.guard.state ≡ false
      → RepresentsExpression (before_expression (headed_names h) g) (expression_in g) (names_in d.rule.variables)
      d.rule.guard.expression → is_wanting d.rule.guard.state
      ≡ (is_left_side g && (token_count (expression_in g) == 0))
      → next_faults at (guarded opening h g) next behind ≡ guard_faults (is_read d.rule.guard.state) opening d at next
      behind
  unread_shows opening h g rules full read s w =
      guarded_shows opening h g
      ∙ ((λ i. fault_if (rules i) (Limit TooManyRules) at ++ fault_if (full i) (Limit TooManyAtoms) at
      ++ fault_if (long_name next) (Limit LongName) at ++ atom_shows (headed_names h) g s w i)
      ∙ (append_assoc (fault_if (atoms_full d.rule next) (Limit TooManyAtoms) at)
      (fault_if (long_name next) (Limit LongName) at)
      (step_faults d.rule d.rule.guard.expression (truth_in d.rule.guard (inner_next next) (inner_next behind)) at
      (inner_next next))
      ∙ sym (ap (λ v. guard_faults v opening d at next behind) read)))

  -- no rule begins within an atom
  no_rule : (opening : GuardOpening) (h : Headed) (g : GuardGrammarState)
      → (is_word next ≡ true → ends_expression (expression_in g) next ≡ true → guards.finish g ≡ None)
      → rules_shown opening h g next ≡ false
  no_rule openings.Square h g none = refl
  no_rule openings.Mark h g none = go (is_word next) refl (ends_expression (expression_in g) next) refl
    where
      go : (v : Bool) → is_word next ≡ v → (w : Bool) → ends_expression (expression_in g) next ≡ w
          → v && w && can_end (guards.finish g) && are_full (rule_with h NoGuard ∷ h.led.ruling.rules) ≡ false
      go false a w b = refl
      go true a false b = refl
      go true a true b = rw (none a b) refl

  -- a name is no operator
  word_rests : (next : Option Piece) → is_word next ≡ true → standing.is_operating (inner_next next) ≡ false
  word_rests None e = cc
  word_rests (Some (In (inner.Word name))) e = refl
  word_rests (Some (In _)) e = cc
  word_rests (Some _) e = cc

  counted : (n : ℕ) (cost : Option Sum) (names : List Name) → length d.rule.guard.atoms.items ≡ n
      → option_map term_of d.rule.cost ≡ cost_of names cost → is_wanting d.rule.guard.state ≡ true
      → nat_le atom_limit (n + atoms_of_cost cost) && begins next ≡ atoms_full d.rule next
  counted n cost names e same w =
      sym (ap (λ v. v && atoms_fill d.rule && begins next) w
      ∙ (ap (λ m. nat_le atom_limit (m + cost_atoms (option_map term_of d.rule.cost)) && begins next) e
      ∙ ap (λ m. nat_le atom_limit (n + m) && begins next) (ap cost_atoms same ∙ cost_counted names cost)))

  -- where an atom must follow, the code finds whether one too many begins
  wanting_full : (l : ArrowRead) (names : List Name) (c : Conjoined) → KnowsArrow ts l d
      → atoms_in d.rule.guard ≡ atoms_before names c → is_wanting d.rule.guard.state ≡ true
      → is_full (atoms_of_cost l.cost) (LeftSide c beginning) && begins next ≡ atoms_full d.rule next
  wanting_full l names NoAtoms k a w = few_beside (begins next) l.cost
      ∙ counted 0 l.cost (left_names l.left) (sym (length-terms atom_of d.rule.guard.atoms.items) ∙ ap length a)
      k.cost_is w
  wanting_full l names (JointAfter atoms joint) k a w = counted (count_of atoms) l.cost (left_names l.left)
      (as_many_atoms names atoms d.rule.guard a) k.cost_is w

  wanting_shows : (opening : GuardOpening) (h : Headed) (g : GuardGrammarState) → KnowsArrow ts h.led d
      → IsWanting (headed_names h) g (names_in d.rule.variables) d.rule.guard
      → next_faults at (guarded opening h g) next behind ≡ guard_faults (is_read d.rule.guard.state) opening d at next
      behind
  wanting_shows opening h g led k =
      subst (λ g. next_faults at (guarded opening h g) next behind
      ≡ guard_faults (is_read d.rule.guard.state) opening d at next behind) (sym k.state_is_represented)
      (unread_shows opening h (LeftSide k.conjoined beginning)
      (no_rule opening h (LeftSide k.conjoined beginning) (λ a b. refl))
      (wanting_full h.led (names_in d.rule.variables) k.conjoined led k.atoms_are (ap is_wanting k.state_is))
      (ap is_read k.state_is)
      (subst (λ ns. RepresentsExpression ns beginning (names_in d.rule.variables) d.rule.guard.expression) k.names_are
      (fresh_stands (names_in d.rule.variables) d.rule.guard.expression k.expression))
      (ap is_wanting k.state_is))

  -- a number greater than 0 isn't 0
  positive : (n : ℕ) → 0 < n → (n == 0) ≡ false
  positive n h = grind (arith, nat_tests)

  begun_full : (others : ℕ) (c : Conjoined) (e : expression.GrammarState) → (token_count e == 0) ≡ false
      → is_full others (LeftSide c e) ≡ false
  begun_full others NoAtoms e b = refl
  begun_full others (JointAfter atoms joint) e b = rw b refl

  left_shows : (opening : GuardOpening) (h : Headed) (g : GuardGrammarState)
      → IsInLeft (inner_next next) (headed_names h) g (names_in d.rule.variables) d.rule.guard
      → next_faults at (guarded opening h g) next behind ≡ guard_faults (is_read d.rule.guard.state) opening d at next
      behind
  left_shows opening h g k =
      subst (λ g. next_faults at (guarded opening h g) next behind
      ≡ guard_faults (is_read d.rule.guard.state) opening d at next behind) (sym k.state_is_represented)
      (unread_shows opening h (LeftSide k.conjoined k.read)
      (no_rule opening h (LeftSide k.conjoined k.read)
      (λ a b. ap (ended k.conjoined) (k.follows (word_rests next a))))
      (ap (λ v. v && begins next) (begun_full (atoms_of_cost h.led.cost) k.conjoined k.read begun)
      ∙ sym (ap (λ v. v && atoms_fill d.rule && begins next) wanting)) (ap is_read k.state_is) k.expression
      (wanting ∙ sym begun))
    where
      begun : (token_count k.read == 0) ≡ false
      begun = positive (token_count k.read) k.begun

      wanting : is_wanting d.rule.guard.state ≡ false
      wanting = ap is_wanting k.state_is

  -- the code finds the faults within the right side of an atom
  right_shows : (opening : GuardOpening) (h : Headed) (g : GuardGrammarState)
      → IsOpen (inner_next next) (headed_names h) g (names_in d.rule.variables) d.rule.guard
      → next_faults at (guarded opening h g) next behind ≡ guard_faults (is_read d.rule.guard.state) opening d at next
      behind
  right_shows opening h g k =
      subst (λ g. next_faults at (guarded opening h g) next behind
      ≡ guard_faults (is_read d.rule.guard.state) opening d at next behind) (sym k.right.state_is_represented)
      (unread_shows opening h (RightSide k.right.conjoined k.right.left k.right.sign k.right.read)
      (no_rule opening h (RightSide k.right.conjoined k.right.left k.right.sign k.right.read)
      (λ a b. ap (λ o. ended k.right.conjoined (compared k.right.left k.right.sign o))
      (k.goes_on (sym (ends_is k.right.read next) ∙ b))))
      (sym (ap (λ v. v && atoms_fill d.rule && begins next) wanting)) (ap is_read k.right.state_is) k.right.expression
      wanting)
    where
      wanting : is_wanting d.rule.guard.state ≡ false
      wanting = ap is_wanting k.right.state_is

  -- an atom that has ended shows no fault of its own
  ended_silent : (names : List Name) (g : GuardGrammarState) (next : Option Piece)
      → ((p : inner.Piece) → inner_next next ≡ Some p → goes_on_with (expression_in g) p ≡ false)
      → token_faults at (open_expression_in names g) next behind ≡ []
  ended_silent names g None stops = refl
  ended_silent names g (Some (In p)) stops = rw (stops p refl) refl
  ended_silent names g (Some _) stops = refl

  word_ends : (e : expression.GrammarState) (next : Option Piece)
      → ((p : inner.Piece) → inner_next next ≡ Some p → goes_on_with e p ≡ false) → ends_expression e next ≡ true
  word_ends e None stops = refl
  word_ends e (Some (In p)) stops = ap not (stops p refl)
  word_ends e (Some _) stops = refl

  ended_shows : (opening : GuardOpening) (h : Headed) (g : GuardGrammarState)
      → length d.rules.items ≡ length h.led.ruling.rules
      → IsEnded (inner_next next) (headed_names h) g (names_in d.rule.variables) d.rule.guard
      → next_faults at (guarded opening h g) next behind
      ≡ guard_faults (is_read d.rule.guard.state) opening d at next behind
  ended_shows opening h g rules k = guarded_shows opening h g
      ∙ (by opening ∙ sym (ap (λ v. guard_faults v opening d at next behind) (ap is_read k.state_is)))
    where
      stops : (p : inner.Piece) → inner_next next ≡ Some p → goes_on_with (expression_in g) p ≡ false
      stops p e = ended_stops g p (k.joins p e)

      silent : token_faults at (open_expression_in (headed_names h) g) next behind ≡ []
      silent = ended_silent (headed_names h) g next stops

      shows_rules : rules_shown openings.Mark h g next
          ≡ (is_word next && nat_le rule_limit (suc (length d.rules.items)))
      shows_rules =
          (λ i. is_word next && word_ends (expression_in g) next stops i && can_end (k.finish_is i)
          && nat_le rule_limit (suc (sym rules i)))
          ∙ kept (is_word next) (nat_le rule_limit (suc (length d.rules.items)))

      by : (opening : GuardOpening) → fault_if (rules_shown opening h g next) (Limit TooManyRules) at
          ++ fault_if (is_full (atoms_of_cost h.led.cost) g && begins next) (Limit TooManyAtoms) at
          ++ fault_if (long_name next) (Limit LongName) at ++ token_faults at (open_expression_in (headed_names h) g)
          next behind
          ≡ behind_atoms_faults opening d at next
      by openings.Mark =
          (λ i. fault_if (shows_rules i) (Limit TooManyRules) at
          ++ fault_if (full_never (atoms_of_cost h.led.cost) g k.atoms k.finish_is i && begins next)
          (Limit TooManyAtoms) at ++ fault_if (long_name next) (Limit LongName) at ++ silent i)
          ∙ (append-nil (rule_faults d at next ++ [] ++ fault_if (long_name next) (Limit LongName) at)
          ∙ ap (λ xs. xs ++ fault_if (long_name next) (Limit LongName) at) (append-nil (rule_faults d at next)))
      by openings.Square =
          (λ i. fault_if (full_never (atoms_of_cost h.led.cost) g k.atoms k.finish_is i && begins next)
          (Limit TooManyAtoms) at ++ fault_if (long_name next) (Limit LongName) at ++ silent i)
          ∙ append-nil (fault_if (long_name next) (Limit LongName) at)

  part_ended_shows : (opening : GuardOpening) (h : Headed) (g : GuardGrammarState) → KnowsArrow ts h.led d
      → length d.rules.items ≡ length h.led.ruling.rules → IsPartEnded (inner_next next) (headed_names h) g
      (names_in d.rule.variables) d.rule.guard
      → next_faults at (guarded opening h g) next behind ≡ guard_faults (is_read d.rule.guard.state) opening d at next
      behind
  part_ended_shows opening h g led rules (part_ended_none k) = wanting_shows opening h g led k
  part_ended_shows opening h g led rules (part_ended_left k) = left_shows opening h g k
  part_ended_shows opening h g led rules (part_ended_right k) = right_shows opening h g k
  part_ended_shows opening h g led rules (part_ended_end k) = ended_shows opening h g rules k

  -- the faults of a state that denotes a guard are those of the guard
  state_shows : (opening : GuardOpening) (h : Headed) (g : GuardGrammarState) (f : GrammarState)
      → IsGuard next opening h g f → next_faults at f next behind ≡ next_faults at (guarded opening h g) next behind
  state_shows openings.Square h g f e = ap (λ f. next_faults at f next behind) e
  state_shows openings.Mark h g f (inl e) = ap (λ f. next_faults at f next behind) e
  state_shows openings.Mark h g f (inr (name, (e, (is, closed)))) = ap (λ f. next_faults at f next behind) e
      ∙ (word_shows h name next ∙ ap (λ g. next_faults at (grammar_states.MarkGuarding h g) next behind) (sym is))

  -- the code finds the faults before anything of a guard has been read
  fresh_shows : (h : Headed) → IsHeaded ts h d → fault_if (long_name next) (Limit LongName) at
      ++ token_faults at (open_expression_in (headed_names h) no_atoms) next behind ≡ atom_faults d.rule at next behind
  fresh_shows h k = ap (λ xs. fault_if (long_name next) (Limit LongName) at ++ xs) (go (k.guard (headed_names h)))
    where
      go : IsWanting (headed_names h) no_atoms (headed_names h) d.rule.guard
          → token_faults at (open_expression_in (headed_names h) no_atoms) next behind
          ≡ step_faults d.rule d.rule.guard.expression (truth_in d.rule.guard (inner_next next) (inner_next behind))
          at (inner_next next)
      go w = atom_shows (headed_names h) no_atoms
          (subst (λ ns. RepresentsExpression ns beginning (names_in d.rule.variables) d.rule.guard.expression)
          k.names_are (fresh_stands (names_in d.rule.variables) d.rule.guard.expression w.expression))
          (ap is_wanting w.state_is)

  marked_shows : (h : Headed) → IsHeaded ts h d → length d.rules.items ≡ length h.led.ruling.rules → (v w : Bool)
      → is_word next ≡ v → is_open behind ≡ w
      → fault_if (v && w && are_full (rule_with h NoGuard ∷ h.led.ruling.rules)) (Limit TooManyRules) at ++ [] ++ []
      ++ fault_if (long_name next) (Limit LongName) at ++ token_faults at
      (if v && w then None else open_expression_in (headed_names h) no_atoms) next behind
      ≡ mark_faults (v && w) d at next behind
  marked_shows h k rules true true a b = rw (a, rules) (simp append-nil)
  marked_shows h k rules true false a b = fresh_shows h k
  marked_shows h k rules false w a b = fresh_shows h k

  -- the faults that the grammar's state shows after a target at the next token are those that the code finds
  pub tail_next : (state : TailState) (f : GrammarState) → TailPartEnded ts next state d f
      → next_faults at f next behind ≡ tail_faults state d at next behind
  tail_next tails.Targeted f k = rw (k.1.0, as_many_rules k.0.led.ruling.rules d k.1.1.0.headed.led.rules_are)
      (simp append-nil)
  tail_next tails.GuardMarked f k = rw k.1.0
      (marked_shows k.0 k.1.1 (as_many_rules k.0.led.ruling.rules d k.1.1.headed.led.rules_are) (is_word next)
      (is_open behind) refl refl)
  tail_next tails.SquareOpened f k = rw k.1.0 (fresh_shows k.0 k.1.1)
  tail_next (tails.Guarding opening) f k = state_shows opening k.0 k.1.0 f k.1.1.0
      ∙ part_ended_shows opening k.0 k.1.0 k.1.1.1.0.led (as_many_rules k.0.led.ruling.rules d k.1.1.1.0.led.rules_are)
      k.1.1.1.1.1
