-- An atom ends in the code exactly if the written one ends.
use Rattle.std.proofs.Common.{◌≡◌, ℕ, zero, suc, Bool, true, false, not, ◌&&◌, if◌then◌else◌, List, [], ◌∷◌, ◌++◌, refl}
use Rattle.std.proofs.Common.{ap, sym, subst, ◌∙◌, Option, Some, None, is_some, codes}
use Rattle.std.proofs.lemmas.List.{map-append}
use Rattle.model.specs.Programs as plain
use Rattle.model.specs.Programs.{Name}
use Rattle.poly_terms.specs.Views.{term_of}
use Rattle.poly_terms.specs.Faults.{Fault}
use Rattle.its_model.specs.Views.{relation_of}
use Rattle.text_core.specs.Names.{is_same}
use Rattle.expr_text.specs.Pieces.{Sign, Piece, Word, Digits, Open, Close, Plus, Minus, Times, Caret, Related, Joining}
use Rattle.expr_text.specs.Trees.{Sum, Number, Named, Bracketed}
use Rattle.expr_text.specs.Terms.{with_sum, sum_term}
use Rattle.expr_text.specs.GrammarStates.{Summed, NoSum, PlusAfter, MinusAfter, Factored, NoProduct, TimesAfter, Level}
use Rattle.expr_text.specs.GrammarStates.{Operand, Wanted, BaseRead, CaretRead, ExponentRead, GrammarState}
use Rattle.expr_text.specs.Steps as inner
use Rattle.expr_text.specs.Guards as guards
use Rattle.expr_text.specs.Guards.{Truth, Capitals, Smalls, Always, Compared, with_atom, with_atoms, atom_term}
use Rattle.expr_text.specs.GuardGrammarStates as grammar_states
use Rattle.expr_text.specs.GuardGrammarStates.{Conjoined, NoAtoms, JointAfter, GuardGrammarState, LeftSide, RightSide, truth_named}
use Rattle.expr_text.specs.GuardGrammarStates.{truth_in, truth_of, atoms_with, compared, finish, step, step_behind, within}
use Rattle.expr_text.specs.StateNames.{with_conjoined, operates, is_state}
use Rattle.expr_text.specs.TermGrammarStates.{limited}
use Rattle.expr_reader.specs.declared.guard.Related as code
use Rattle.expr_reader.specs.declared.guard.GuardState.TheVariants as places
use Rattle.expr_reader.specs.declared.guard.GuardReader.{GuardReader}
use Rattle.expr_reader.specs.declared.expression.Expression.{Expression}
use Rattle.expr_reader.specs.Views.{term_in}
use Rattle.expr_text.specs.Differences.{differences, first_of_all}
use Rattle.expr_reader.specs.Faults.{ends_before, compared_fault, atom_fault}
use Rattle.expr_reader.specs.Standing.{RepresentsExpression, Clears}
use Rattle.expr_reader.specs.GuardRepresentation.{limited_atom, atoms_of, atoms_before, atoms_in, Relating, relating_of}
use Rattle.expr_reader.specs.GuardRepresentation.{relating_in, is_operating, IsInRight, IsAtTruth, IsEnded, Reads}
use Rattle.expr_reader.specs.GuardRepresentation.{reading_none, reading_left, reading_right, reading_truth, IsPartEnded}
use Rattle.expr_reader.specs.GuardRepresentation.{part_ended_none, part_ended_left, part_ended_right, part_ended_end, joined_only}
use Rattle.expr_reader.specs.GuardRepresentation.{EndsPart}
use Rattle.expr_reader.specs.GuardParts.{is_right, can_end, goes_on, ends_right}
use Rattle.expr_reader.proofs.LimitedFaults.{limited_differences}
use Rattle.expr_reader.proofs.Endings.{goes_on_is, can_end_is, finished_names, finish_ends}

-- a word that is an atom is the one that always holds
pub record IsAlways (a : guards.Atom) : Type 0 where
  pub truth : Truth
  pub same : a ≡ Always truth

named_always : (n : Name) (a : guards.Atom) → truth_named n ≡ Some a → IsAlways a
named_always n a = capitals (is_same n (codes "TRUE")) (is_same n (codes "true"))
  where
    capitals : (v w : Bool) → (if v then Some (Always Capitals) else (if w then Some (Always Smalls) else None)) ≡ Some a → IsAlways a
    capitals true w e = record { truth = Capitals; same = cc }
    capitals false true e = record { truth = Smalls; same = cc }
    capitals false false e = absurd cc

-- the state of an expression that consists of one word
abbrev pub word_state : Name → GrammarState
word_state n = record { outer = []; level = record { sum = NoSum; product = NoProduct; minuses = 0 }; operand = BaseRead (Named n) }

pub record IsWord (e : GrammarState) (a : guards.Atom) : Type 0 where
  pub word : Name
  pub same : e ≡ word_state word
  pub always : IsAlways a

-- a state that is the atom that always holds consists of one word
pub truth_word : (e : GrammarState) (a : guards.Atom) → truth_of e ≡ Some a → IsWord e a
truth_word e a t = all e.outer e.level.sum e.level.product e.level.minuses e.operand t refl
  where
    all : (outer : List Level) (sum : Summed) (product : Factored) (n : ℕ) (operand : Operand) → truth_in outer (record { sum = sum; product = product; minuses = n }) operand ≡ Some a
        → e ≡ record { outer = outer; level = record { sum = sum; product = product; minuses = n }; operand = operand } → IsWord e a
    all [] NoSum NoProduct zero (BaseRead (Named name)) t same = record { word = name; same = same; always = named_always name a t }
    all [] NoSum NoProduct zero (BaseRead (Number ds)) t same = absurd cc
    all [] NoSum NoProduct zero (BaseRead (Bracketed s)) t same = absurd cc
    all [] NoSum NoProduct zero Wanted t same = absurd cc
    all [] NoSum NoProduct zero (CaretRead b) t same = absurd cc
    all [] NoSum NoProduct zero (ExponentRead b ds) t same = absurd cc
    all [] NoSum NoProduct (suc n) operand t same = absurd cc
    all [] NoSum (TimesAfter p) n operand t same = absurd cc
    all [] (PlusAfter s) p n operand t same = absurd cc
    all [] (MinusAfter s) p n operand t same = absurd cc
    all (l ∷ outer) sum p n operand t same = absurd cc

-- the variables after an atom that has ended, and its term, are those of the written atom
ended_names : (before : List Name) (c : Conjoined) (a : guards.Atom) → with_atoms before (atoms_with c a) ≡ with_atom (with_conjoined before c) a
ended_names before NoAtoms a = refl
ended_names before (JointAfter atoms joint) a = refl

ended_terms : (names : List Name) (c : Conjoined) (a : guards.Atom) → atoms_of names (atoms_with c a) ≡ atoms_before names c ++ limited_atom (atom_term names a) ∷ []
ended_terms names NoAtoms a = refl
ended_terms names (JointAfter atoms joint) a = map-append limited_atom (guards.atoms_terms names atoms) (atom_term names a ∷ [])

-- after the word of the atom that always holds, only an operator or a relation continues the atom
word_joins : (c : Conjoined) (n : Name) (p : Piece) → operates p ≡ false → step (LeftSide c (word_state n)) p ≡ joined_only (finish (LeftSide c (word_state n))) p
word_joins c n (Word m) h = refl
word_joins c n (Digits ds) h = refl
word_joins c n Open h = refl
word_joins c n Close h = refl
word_joins c n Plus h = cc
word_joins c n Minus h = cc
word_joins c n Times h = cc
word_joins c n Caret h = cc
word_joins c n (Related sign) h = cc
word_joins c n (Joining joint) h = refl

-- after a right side that ends only a conjunction sign can follow
right_joins : (c : Conjoined) (l : Sum) (sign : Sign) (e : GrammarState) (p : Piece) → inner.step e p ≡ None → step (RightSide c l sign e) p ≡ joined_only (finish (RightSide c l sign e)) p
right_joins c l sign e p h = ap (λ o. within (RightSide c l sign e) o p) h ∙ only p
  where
    only : (p : Piece) → step_behind (RightSide c l sign e) p ≡ joined_only (finish (RightSide c l sign e)) p
    only (Word m) = refl
    only (Digits ds) = refl
    only Open = refl
    only Close = refl
    only Plus = refl
    only Minus = refl
    only Times = refl
    only Caret = refl
    only (Related other) = refl
    only (Joining joint) = refl

-- the parts of a conjunction of three tests that holds
all_true : (a b c : Bool) → a && b && c ≡ true → (a ≡ true) × (b && c ≡ true)
all_true true b c h = (refl, h)
all_true false b c h = absurd cc

rest_false : (a b c : Bool) → a && b && c ≡ false → a ≡ true → b && c ≡ false
rest_false true b c h e = h
rest_false false b c h e = absurd cc

-- the code's test for an atom's end agrees with the written state
ends_is : (before : List Name) (f : GrammarState) (names : List Name) (e : Expression) (next : Option Piece) → RepresentsExpression before f names e → not (goes_on e next) ≡ ends_before f next
ends_is before f names e None stands = refl
ends_is before f names e (Some p) stands = ap not (goes_on_is before f names e p stands)

tests_are : (before : List Name) (f : GrammarState) (names : List Name) (e : Expression) (next : Option Piece) → RepresentsExpression before f names e
    → (can_end e && not (goes_on e next)) ≡ (is_some (inner.finish f) && ends_before f next)
tests_are before f names e next stands = ap (λ v. v && not (goes_on e next)) (can_end_is before f names e stands) ∙ ap (λ v. is_some (inner.finish f) && v) (ends_is before f names e next stands)

-- an expression that doesn't end although the next piece doesn't continue it is incomplete
unfinished : (o : Option Sum) (v : Bool) → is_some o && v ≡ false → v ≡ true → o ≡ None
unfinished None v h e = refl
unfinished (Some s) true h e = absurd cc
unfinished (Some s) false h e = absurd cc

no_fault : (names : List Name) (l : Sum) (sign : Sign) (o : Option Sum) (v : Bool) → is_some o && v ≡ false → (if v then compared_fault names l sign o else None) ≡ None
no_fault names l sign None true h = refl
no_fault names l sign None false h = refl
no_fault names l sign (Some s) true h = absurd cc
no_fault names l sign (Some s) false h = refl

-- the atom that always holds has ended
truth_ended : (next : Option Piece) (before : List Name) (g : GuardGrammarState) (names : List Name) (r : GuardReader) → IsAtTruth next before g names r → IsEnded next before g names r
truth_ended next before g names r at =
    let is = truth_word at.read at.atom at.truth_is in
    let always = is.always.same in
    let joins : (p : Piece) → next ≡ Some p → step g p ≡ joined_only (finish g) p
    = λ p same. subst (λ g. step g p ≡ joined_only (finish g) p) (sym (at.state_is_represented ∙ ap (λ e. LeftSide at.conjoined e) is.same))
    (word_joins at.conjoined is.word p (sym (ap is_operating same) ∙ at.follows)) in
    record {
      atoms = atoms_with at.conjoined at.atom;
      finish_is = ap finish at.state_is_represented ∙ ap (λ o. grammar_states.ended at.conjoined o) at.truth_is;
      state_is = at.state_is;
      names_are = at.names_are ∙ sym (ended_names before at.conjoined at.atom ∙ ap (λ a. with_atom (with_conjoined before at.conjoined) a) always);
      atoms_are = at.atoms_are ∙ sym (ended_terms names at.conjoined at.atom ∙ ap (λ a. atoms_before names at.conjoined ++ limited_atom (atom_term names a) ∷ []) always);
      expression = at.expression;
      joins = joins;
    }

-- if no right side ends, the reader's state is unchanged, and there is no fault
pub stays : (next : Option Piece) (r : GuardReader) → ends_right r next ≡ false → EndsPart next r None r
stays next r h = record { part_ended = part_ended; fault_is = fault }
  where
    open_tests : (before : List Name) (g : GuardGrammarState) (names : List Name) (right : IsInRight before g names r) → is_some (inner.finish right.read) && ends_before right.read next ≡ false
    open_tests before g names right =
        sym (tests_are (with_sum (with_conjoined before right.conjoined) right.left) right.read names r.expression next right.expression)
        ∙ rest_false (is_right r.state) (can_end r.expression) (not (goes_on r.expression next)) h (ap is_right right.state_is)

    part_ended : (before : List Name) (g : GuardGrammarState) (names : List Name) → Reads next before g names r → IsPartEnded next before g names r
    part_ended before g names (reading_none at) = part_ended_none at
    part_ended before g names (reading_left at) = part_ended_left at
    part_ended before g names (reading_right at) = part_ended_right (record { right = at; goes_on = unfinished (inner.finish at.read) (ends_before at.read next) (open_tests before g names at) })
    part_ended before g names (reading_truth at) = part_ended_end (truth_ended next before g names r at)

    fault : (before : List Name) (g : GuardGrammarState) (names : List Name) → Reads next before g names r → None ≡ atom_fault names g next
    fault before g names (reading_none at) = sym (ap (λ g. atom_fault names g next) at.state_is_represented)
    fault before g names (reading_left at) = sym (ap (λ g. atom_fault names g next) at.state_is_represented)
    fault before g names (reading_right at) =
        sym (ap (λ g. atom_fault names g next) at.state_is_represented ∙ no_fault names at.left at.sign (inner.finish at.read) (ends_before at.read next) (open_tests before g names at))
    fault before g names (reading_truth at) = sym (ap (λ g. atom_fault names g next) at.state_is_represented)

-- an expression is given
pub record IsFinished (o : Option Sum) : Type 0 where
  pub sum : Sum
  pub same : o ≡ Some sum

finished : (o : Option Sum) (v : Bool) → is_some o && v ≡ true → IsFinished o
finished None v h = absurd cc
finished (Some s) v h = record { sum = s; same = refl }

ending : (o : Option Sum) (v : Bool) → is_some o && v ≡ true → v ≡ true
ending None v h = absurd cc
ending (Some s) v h = h

no_step : (o : Option GrammarState) → not (is_state o) ≡ true → o ≡ None
no_step None h = refl
no_step (Some f) h = absurd cc

before_step : (e : GrammarState) (next : Option Piece) (p : Piece) → ends_before e next ≡ true → next ≡ Some p → inner.step e p ≡ None
before_step e next p h same = no_step (inner.step e p) (sym (ap (ends_before e) same) ∙ h)

-- the left side and the relation of a pending atom are those of the written state
left_is : (names : List Name) (l : Sum) (sign : Sign) (rel : code.Related) → Some (relating_of rel) ≡ Some (record { left = limited (sum_term names l); relation = guards.relation_of sign })
    → relating_of rel ≡ record { left = limited (sum_term names l); relation = guards.relation_of sign }
left_is names l sign rel e = cc

module _ (next : Option Piece) (before : List Name) (g : GuardGrammarState) (names : List Name) (r q : GuardReader) (rel : code.Related) (at : IsInRight before g names r)
    (tests : is_some (inner.finish at.read) && ends_before at.read next ≡ true) (related : r.related ≡ Some rel) where
  done : IsFinished (inner.finish at.read)
  done = finished (inner.finish at.read) (ends_before at.read next) tests

  left_same : relating_of rel ≡ record { left = limited (sum_term names at.left); relation = guards.relation_of at.sign }
  left_same = left_is names at.left at.sign rel (ap relating_in (sym related) ∙ at.related_is)

  right_same : term_in r.expression ≡ limited (sum_term names done.sum)
  right_same = (finish_ends r.expression (term_in r.expression) refl).each (with_sum (with_conjoined before at.conjoined) at.left) names at.read done.sum at.expression done.same

  atom_same : plain.Compare (term_of rel.left) (relation_of rel.rel) (term_in r.expression) ≡ limited_atom (atom_term names (Compared at.left at.sign done.sum))
  atom_same =
      ap (λ (x : Relating). plain.Compare x.left x.relation (term_in r.expression)) left_same
      ∙ ap (λ t. plain.Compare (limited (sum_term names at.left)) (guards.relation_of at.sign) t) right_same

  names_same : names ≡ with_atoms before (atoms_with at.conjoined (Compared at.left at.sign done.sum))
  names_same = at.expression.names_are ∙ (finished_names (with_sum (with_conjoined before at.conjoined) at.left) at.read done.sum done.same ∙ sym (ended_names before at.conjoined (Compared at.left at.sign done.sum)))

  joins_only : (p : Piece) → next ≡ Some p → step g p ≡ joined_only (finish g) p
  joins_only p same =
      subst (λ g. step g p ≡ joined_only (finish g) p) (sym at.state_is_represented)
      (right_joins at.conjoined at.left at.sign at.read p (before_step at.read next p (ending (inner.finish at.read) (ends_before at.read next) tests) same))

  right_ended : q.state ≡ places.AtomRead → atoms_in q ≡ atoms_in r ++ plain.Compare (term_of rel.left) (relation_of rel.rel) (term_in r.expression) ∷ [] → Clears r.expression q.expression → IsEnded next before g names q
  right_ended state atoms clears = record {
    atoms = atoms_with at.conjoined (Compared at.left at.sign done.sum);
    finish_is = ap finish at.state_is_represented ∙ ap (λ o. grammar_states.ended at.conjoined (compared at.left at.sign o)) done.same;
    state_is = state;
    names_are = names_same;
    atoms_are = atoms ∙ (ap (λ found. found ++ plain.Compare (term_of rel.left) (relation_of rel.rel) (term_in r.expression) ∷ []) at.atoms_are
        ∙ (ap (λ a. atoms_before names at.conjoined ++ a ∷ []) atom_same ∙ sym (ended_terms names at.conjoined (Compared at.left at.sign done.sum))));
    expression = clears.each (with_sum (with_conjoined before at.conjoined) at.left) names at.read done.sum at.expression done.same;
    joins = joins_only;
  }

  right_fault : first_of_all (differences (term_of rel.left) (relation_of rel.rel) (term_in r.expression)) ≡ atom_fault names g next
  right_fault =
      ap (λ (x : Relating). first_of_all (differences x.left x.relation (term_in r.expression))) left_same
      ∙ (ap (λ t. first_of_all (differences (limited (sum_term names at.left)) (guards.relation_of at.sign) t)) right_same
      ∙ (limited_differences (sum_term names at.left) (guards.relation_of at.sign) (sum_term names done.sum)
      ∙ sym (ap (λ g. atom_fault names g next) at.state_is_represented
      ∙ (ap (λ v. if v then compared_fault names at.left at.sign (inner.finish at.read) else None) (ending (inner.finish at.read) (ends_before at.read next) tests)
      ∙ ap (compared_fault names at.left at.sign) done.same))))

-- if a right side ends, its atom is appended, and the fault is the first of its differences
pub ends : (next : Option Piece) (r q : GuardReader) (rel : code.Related) (fault : Option Fault) → ends_right r next ≡ true → r.related ≡ Some rel → q.state ≡ places.AtomRead
    → atoms_in q ≡ atoms_in r ++ plain.Compare (term_of rel.left) (relation_of rel.rel) (term_in r.expression) ∷ [] → Clears r.expression q.expression
    → fault ≡ first_of_all (differences (term_of rel.left) (relation_of rel.rel) (term_in r.expression)) → EndsPart next r fault q
ends next r q rel fault h related state atoms clears found = record { part_ended = part_ended; fault_is = faults }
  where
    misplaced : is_right r.state ≡ false → ⊥
    misplaced e = let t = (all_true (is_right r.state) (can_end r.expression) (not (goes_on r.expression next)) h).0 in cc

    tests : (before : List Name) (g : GuardGrammarState) (names : List Name) (at : IsInRight before g names r) → is_some (inner.finish at.read) && ends_before at.read next ≡ true
    tests before g names at =
        sym (tests_are (with_sum (with_conjoined before at.conjoined) at.left) at.read names r.expression next at.expression)
        ∙ (all_true (is_right r.state) (can_end r.expression) (not (goes_on r.expression next)) h).1

    part_ended : (before : List Name) (g : GuardGrammarState) (names : List Name) → Reads next before g names r → IsPartEnded next before g names q
    part_ended before g names (reading_none at) = absurd (misplaced (ap is_right at.state_is))
    part_ended before g names (reading_left at) = absurd (misplaced (ap is_right at.state_is))
    part_ended before g names (reading_right at) = part_ended_end (right_ended next before g names r q rel at (tests before g names at) related state atoms clears)
    part_ended before g names (reading_truth at) = absurd (misplaced (ap is_right at.state_is))

    faults : (before : List Name) (g : GuardGrammarState) (names : List Name) → Reads next before g names r → fault ≡ atom_fault names g next
    faults before g names (reading_none at) = absurd (misplaced (ap is_right at.state_is))
    faults before g names (reading_left at) = absurd (misplaced (ap is_right at.state_is))
    faults before g names (reading_right at) = found ∙ right_fault next before g names r q rel at (tests before g names at) related
    faults before g names (reading_truth at) = absurd (misplaced (ap is_right at.state_is))
