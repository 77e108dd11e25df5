-- A piece that doesn't continue a guard's expression is rejected, unless it is a relation after a left side that can
-- end.
use Rattle.std.proofs.Common.{◌≡◌, Bool, true, false, not, ◌&&◌, List, refl, ap, sym, subst, ◌∙◌, map, Option, Some}
use Rattle.std.proofs.Common.{None, is_some}
use Rattle.model.specs.Programs.{Name}
use Rattle.its_model.specs.Views.{atom_of}
use Rattle.expr_text.specs.Pieces.{Sign, Piece, Word, Digits, Open, Close, Plus, Minus, Times, Caret, Related, Joining}
use Rattle.expr_text.specs.Trees.{Sum}
use Rattle.expr_text.specs.Terms.{with_sum, sum_term}
use Rattle.expr_text.specs.GrammarStates.{GrammarState, beginning}
use Rattle.expr_text.specs.Steps as inner
use Rattle.expr_text.specs.Guards as guards
use Rattle.expr_text.specs.GuardGrammarStates.{Conjoined, GuardGrammarState, LeftSide, RightSide, truth_of, ended, compared, joined}
use Rattle.expr_text.specs.GuardGrammarStates.{related, step, step_behind, within}
use Rattle.expr_text.specs.StateNames.{with_conjoined, operates, is_state}
use Rattle.expr_text.specs.TermGrammarStates as terms
use Rattle.expr_text.specs.TermGrammarStates.{limited}
use Rattle.expr_text.proofs.Ending.{related_ends, related_step}
use Rattle.expr_reader.specs.declared.guard.GuardReader.{GuardReader}
use Rattle.expr_reader.specs.Views.{grammar_state_of, term_in}
use Rattle.expr_reader.specs.Standing.{RepresentsExpression, IsFresh, IsModest}
use Rattle.expr_reader.specs.GuardRepresentation.{Relating, IsOpen, Reads, reading_right, IsPartEnded, part_ended_none}
use Rattle.expr_reader.specs.GuardRepresentation.{part_ended_left, part_ended_right, part_ended_end, LeadsTo, Takes}
use Rattle.expr_reader.specs.GuardParts.{is_left, is_read, sign_read, Relates, can_end, IsRelated, IsUnrelated}
use Rattle.expr_reader.proofs.Standing.{fresh_stands}
use Rattle.expr_reader.proofs.Endings.{goes_on_is, can_end_is, finished_names, finish_ends}
use Rattle.expr_reader.proofs.GuardTaking.{no_step, read_unread, unchanged, changed}

-- a piece that doesn't continue the expression is rejected, unless it is a relation after a left side that can end
left_stuck : (c : Conjoined) (e : GrammarState) (p : Piece) → inner.step e p ≡ None → sign_read p ≡ None → (operates p ≡ false → truth_of e ≡ None) → step (LeftSide c e) p ≡ None
left_stuck c e p none other follows = ap (λ o. within (LeftSide c e) o p) none ∙ by p other follows
  where
    by : (p : Piece) → sign_read p ≡ None → (operates p ≡ false → truth_of e ≡ None) → step_behind (LeftSide c e) p ≡ None
    by (Related s) other follows = absurd cc
    by (Joining j) other follows = ap (λ o. joined j (ended c o)) (follows refl)
    by (Word n) other follows = refl
    by (Digits ds) other follows = refl
    by Open other follows = refl
    by Close other follows = refl
    by Plus other follows = refl
    by Minus other follows = refl
    by Times other follows = refl
    by Caret other follows = refl

right_stuck : (c : Conjoined) (l : Sum) (sign : Sign) (e : GrammarState) (p : Piece) → inner.step e p ≡ None → inner.finish e ≡ None → step (RightSide c l sign e) p ≡ None
right_stuck c l sign e p none unfinished = ap (λ o. within (RightSide c l sign e) o p) none ∙ by p
  where
    by : (p : Piece) → step_behind (RightSide c l sign e) p ≡ None
    by (Related s) = refl
    by (Joining j) = ap (λ o. joined j (ended c (compared l sign o))) unfinished
    by (Word n) = refl
    by (Digits ds) = refl
    by Open = refl
    by Close = refl
    by Plus = refl
    by Minus = refl
    by Times = refl
    by Caret = refl

-- a relation is rejected after a left side that can't end
unrelated_step : (c : Conjoined) (e : GrammarState) (sign : Sign) → inner.finish e ≡ None → step (LeftSide c e) (Related sign) ≡ None
unrelated_step c e sign none = ap (λ o. within (LeftSide c e) o (Related sign)) (related_ends e sign) ∙ ap (λ o. related c sign o) none

no_sum : (o : Option Sum) → is_some o ≡ false → o ≡ None
no_sum None h = refl
no_sum (Some s) h = absurd cc

a_sum : (o : Option Sum) → is_some o ≡ true → (s : Sum) × (o ≡ Some s)
a_sum None h = absurd cc
a_sum (Some s) h = (s, refl)

true_false : (a b : Bool) → a && b ≡ false → a ≡ true → b ≡ false
true_false true b h e = h
true_false false b h e = absurd cc

module _ (old : List Name) (r : GuardReader) (p : Piece) (unread : is_read r.state ≡ false) (stops : terms.goes_on_from (grammar_state_of r.expression).outer (grammar_state_of r.expression).operand p ≡ false) where
  unstepped : (base : List Name) (e : GrammarState) → RepresentsExpression base e old r.expression → inner.step e p ≡ None
  unstepped base e stands = no_step (inner.step e p) (sym (goes_on_is base e old r.expression p stands) ∙ stops)

  right_none : (before : List Name) (g : GuardGrammarState) (at : IsOpen (Some p) before g old r) → step g p ≡ None
  right_none before g at =
      let right = at.right in
      let none = unstepped (with_sum (with_conjoined before right.conjoined) right.left) right.read right.expression in
      ap (λ g. step g p) right.state_is_represented ∙ right_stuck right.conjoined right.left right.sign right.read p none (at.goes_on (ap (λ o. not (is_state o)) none))

  fresh_none : (before : List Name) (c : Conjoined) → old ≡ with_conjoined before c → IsFresh r.expression → inner.step beginning p ≡ None
  fresh_none before c names fresh = unstepped (with_conjoined before c) beginning (subst (λ ns. RepresentsExpression (with_conjoined before c) beginning ns r.expression) (sym names) (fresh_stands (with_conjoined before c) r.expression fresh))

  -- a piece that is no relation and doesn't continue the expression isn't taken, and nothing changes
  pub takes_none : (behind : Option Piece) (new : List Name) (q : GuardReader) → sign_read p ≡ None → new ≡ old → q ≡ r → Takes old r p behind false new q
  takes_none behind new q other names same = record { each = λ before g part_ended modest. unchanged behind before (step g p) old new r q (none before g part_ended) names same }
    where
      none : (before : List Name) (g : GuardGrammarState) → IsPartEnded (Some p) before g old r → step g p ≡ None
      none before g (part_ended_none at) = ap (λ g. step g p) at.state_is_represented ∙ left_stuck at.conjoined beginning p (fresh_none before at.conjoined at.names_are at.expression) other (λ h. refl)
      none before g (part_ended_left at) = ap (λ g. step g p) at.state_is_represented ∙ left_stuck at.conjoined at.read p (unstepped (with_conjoined before at.conjoined) at.read at.expression) other at.follows
      none before g (part_ended_right at) = right_none before g at
      none before g (part_ended_end at) = absurd (read_unread r unread at.state_is)

-- a relation is taken after a left side that can end
takes_related : (old new : List Name) (r q : GuardReader) (sign : Sign) (behind : Option Piece) → new ≡ old → IsRelated r sign q → Takes old r (Related sign) behind true new q
takes_related old new r q sign behind names is = record { each = each }
  where
    misplaced : is_left r.state ≡ false → ⊥
    misplaced e = let t = ap is_left is.was_left in cc

    each : (before : List Name) (g : GuardGrammarState) → IsPartEnded (Some (Related sign)) before g old r → IsModest (Related sign) → LeadsTo true behind before (step g (Related sign)) old r new q
    each before g (part_ended_left at) modest =
        let base = with_conjoined before at.conjoined in
        let s = a_sum (inner.finish at.read) (sym (can_end_is base at.read old r.expression at.expression) ∙ is.ended) in
        let left : term_in r.expression ≡ limited (sum_term old s.0) = (finish_ends r.expression (term_in r.expression) refl).each base old at.read s.0 at.expression s.1 in
        let reads : Reads behind before (RightSide at.conjoined s.0 sign beginning) old q = reading_right (record {
          conjoined = at.conjoined;
          left = s.0;
          sign = sign;
          read = beginning;
          state_is_represented = refl;
          state_is = is.state_is;
          atoms_are = ap (λ (v : _). map atom_of v.items) is.atoms_are ∙ at.atoms_are;
          related_is = is.related_is ∙ ap (λ t. let x : Relating = record { left = t; relation = guards.relation_of sign } in Some x) left;
          expression = subst (λ ns. RepresentsExpression (with_sum base s.0) beginning ns q.expression) (sym (at.expression.names_are ∙ finished_names base at.read s.0 s.1))
              (fresh_stands (with_sum base s.0) q.expression (is.cleared.each base old at.read s.0 at.expression s.1));
        }) in
        changed behind before (step g (Related sign)) (RightSide at.conjoined s.0 sign beginning) old new r q
        (ap (λ g. step g (Related sign)) at.state_is_represented ∙ related_step at.conjoined at.read s.0 sign s.1) (subst (λ ns. Reads behind before (RightSide at.conjoined s.0 sign beginning) ns q) (sym names) reads)
    each before g (part_ended_none at) modest = absurd (misplaced (ap is_left at.state_is))
    each before g (part_ended_right at) modest = absurd (misplaced (ap is_left at.right.state_is))
    each before g (part_ended_end at) modest = absurd (misplaced (ap is_left at.state_is))

takes_unrelated : (old new : List Name) (r q : GuardReader) (sign : Sign) (behind : Option Piece) → is_read r.state ≡ false
    → terms.goes_on_from (grammar_state_of r.expression).outer (grammar_state_of r.expression).operand (Related sign) ≡ false → new ≡ old → IsUnrelated r q → Takes old r (Related sign) behind false new q
takes_unrelated old new r q sign behind unread stops names is = record { each = λ before g part_ended modest. unchanged behind before (step g (Related sign)) old new r q (none before g part_ended) names is.kept }
  where
    none : (before : List Name) (g : GuardGrammarState) → IsPartEnded (Some (Related sign)) before g old r → step g (Related sign) ≡ None
    none before g (part_ended_none at) = ap (λ g. step g (Related sign)) at.state_is_represented
    none before g (part_ended_left at) =
        ap (λ g. step g (Related sign)) at.state_is_represented
        ∙ unrelated_step at.conjoined at.read sign (no_sum (inner.finish at.read)
        (sym (can_end_is (with_conjoined before at.conjoined) at.read old r.expression at.expression) ∙ true_false (is_left r.state) (can_end r.expression) is.not_left (ap is_left at.state_is)))
    none before g (part_ended_right at) = right_none old r (Related sign) unread stops before g at
    none before g (part_ended_end at) = absurd (read_unread r unread at.state_is)

-- a piece whose sign is read is the relation with that sign
sign_is : (p : Piece) (sign : Sign) → Some sign ≡ sign_read p → p ≡ Related sign
sign_is (Related s) sign h = cc
sign_is (Word n) sign h = absurd cc
sign_is (Digits ds) sign h = absurd cc
sign_is Open sign h = absurd cc
sign_is Close sign h = absurd cc
sign_is Plus sign h = absurd cc
sign_is Minus sign h = absurd cc
sign_is Times sign h = absurd cc
sign_is Caret sign h = absurd cc
sign_is (Joining j) sign h = absurd cc

-- a relation is taken after a left side that can end, and else nothing changes
pub takes_relation : (old new : List Name) (r q : GuardReader) (p : Piece) (sign : Sign) (behind : Option Piece) (taken : Bool) → is_read r.state ≡ false
    → terms.goes_on_from (grammar_state_of r.expression).outer (grammar_state_of r.expression).operand p ≡ false → Some sign ≡ sign_read p → new ≡ old → Relates r sign taken q → Takes old r p behind taken new q
takes_relation old new r q p sign behind taken unread stops read names relates =
    let same = sign_is p sign read in
    subst (λ p. Takes old r p behind taken new q) (sym same) (by taken relates (sym (ap (λ p. terms.goes_on_from (grammar_state_of r.expression).outer (grammar_state_of r.expression).operand p) same) ∙ stops))
  where
    by : (taken : Bool) → Relates r sign taken q → terms.goes_on_from (grammar_state_of r.expression).outer (grammar_state_of r.expression).operand (Related sign) ≡ false → Takes old r (Related sign) behind taken new q
    by true is stops = takes_related old new r q sign behind names is
    by false is stops = takes_unrelated old new r q sign behind unread stops names is
