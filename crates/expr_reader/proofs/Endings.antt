-- Whether an expression can end or continue, and its term when it ends, agree with the written state.
use Rattle.std.proofs.Common.{◌≡◌, false, not, ◌&&◌, List, [], ◌∷◌, ◌++◌, refl, ap, sym, subst, ◌∙◌, map, reverse}
use Rattle.std.proofs.Common.{Option, Some, None, is_some}
use Rattle.std.specs.Prelude.{⊤}
use Rattle.model.specs.Programs.{Name}
use Rattle.model.specs.Terms.{Term}
use Rattle.expr_text.specs.Pieces.{Piece, Word, Digits, Open, Close, Plus, Minus, Times, Caret, Related, Joining}
use Rattle.expr_text.specs.Trees.{Sum, Factor, Plain, Raised}
use Rattle.expr_text.specs.Terms.{with_sum, sum_term}
use Rattle.expr_text.specs.GrammarStates.{Level, Operand, Wanted, BaseRead, CaretRead, ExponentRead, GrammarState, sum_made}
use Rattle.expr_text.specs.Steps.{closed, step_behind, step_from, finish_from, finish}
use Rattle.expr_text.specs.StateNames.{names_with_state, is_state, goes_on_with}
use Rattle.expr_text.specs.TermGrammarStates as terms
use Rattle.expr_text.specs.TermGrammarStates.{limited, level_terms, operand_terms}
use Rattle.expr_reader.specs.declared.expression.Expression.{Expression}
use Rattle.expr_reader.specs.Views.{grammar_state_of, level_of, operand_of, term_in}
use Rattle.expr_reader.specs.Standing.{RepresentsExpression, Ends, Clears}
use Rattle.expr_reader.proofs.StateNames.{sum_names}
use Rattle.expr_reader.proofs.TermLaws.{sum_of, reverse_cons}

last_stands : (levels : List terms.Level) (l : terms.Level) → terms.is_empty (levels ++ l ∷ []) ≡ false
last_stands [] l = refl
last_stands (k ∷ levels) l = refl

-- if a bracket is open in the written state, one is open in the code's state
turned_stands : (names : List Name) (l : Level) (outer : List Level) → terms.is_empty (reverse (map (level_terms names) (l ∷ outer))) ≡ false
turned_stands names l outer = ap terms.is_empty (reverse_cons (level_terms names l) (map (level_terms names) outer)) ∙ last_stands (reverse (map (level_terms names) outer)) (level_terms names l)

close_goes : (names : List Name) (outer : List Level) (s : Sum) → not (terms.is_empty (reverse (map (level_terms names) outer))) ≡ is_state (closed outer s)
close_goes names [] s = refl
close_goes names (l ∷ outer) s = ap not (turned_stands names l outer)

behind_goes : (names : List Name) (outer : List Level) (level : Level) (f : Factor) (p : Piece)
    → terms.goes_on_behind (reverse (map (level_terms names) outer)) p ≡ is_state (step_behind outer level f p)
behind_goes names outer level f Plus = refl
behind_goes names outer level f Minus = refl
behind_goes names outer level f Times = refl
behind_goes names outer level f Close = close_goes names outer (sum_made level f)
behind_goes names outer level f Caret = refl
behind_goes names outer level f Open = refl
behind_goes names outer level f (Word n) = refl
behind_goes names outer level f (Digits ds) = refl
behind_goes names outer level f (Related s) = refl
behind_goes names outer level f (Joining j) = refl

from_goes : (names : List Name) (outer : List Level) (level : Level) (operand : Operand) (p : Piece)
    → terms.goes_on_from (reverse (map (level_terms names) outer)) (operand_terms names operand) p ≡ is_state (step_from outer level operand p)
from_goes names outer level Wanted (Word n) = refl
from_goes names outer level Wanted (Digits ds) = refl
from_goes names outer level Wanted Open = refl
from_goes names outer level Wanted Close = refl
from_goes names outer level Wanted Plus = refl
from_goes names outer level Wanted Minus = refl
from_goes names outer level Wanted Times = refl
from_goes names outer level Wanted Caret = refl
from_goes names outer level Wanted (Related s) = refl
from_goes names outer level Wanted (Joining j) = refl
from_goes names outer level (BaseRead b) Caret = refl
from_goes names outer level (BaseRead b) Plus = refl
from_goes names outer level (BaseRead b) Minus = refl
from_goes names outer level (BaseRead b) Times = refl
from_goes names outer level (BaseRead b) Close = behind_goes names outer level (Plain b) Close
from_goes names outer level (BaseRead b) Open = refl
from_goes names outer level (BaseRead b) (Word n) = refl
from_goes names outer level (BaseRead b) (Digits ds) = refl
from_goes names outer level (BaseRead b) (Related s) = refl
from_goes names outer level (BaseRead b) (Joining j) = refl
from_goes names outer level (CaretRead b) (Digits ds) = refl
from_goes names outer level (CaretRead b) (Word n) = refl
from_goes names outer level (CaretRead b) Open = refl
from_goes names outer level (CaretRead b) Close = refl
from_goes names outer level (CaretRead b) Plus = refl
from_goes names outer level (CaretRead b) Minus = refl
from_goes names outer level (CaretRead b) Times = refl
from_goes names outer level (CaretRead b) Caret = refl
from_goes names outer level (CaretRead b) (Related s) = refl
from_goes names outer level (CaretRead b) (Joining j) = refl
from_goes names outer level (ExponentRead b ds) p = behind_goes names outer level (Raised b ds) p

-- a piece continues the expression exactly if it continues the written state
pub goes_on_is : (before : List Name) (f : GrammarState) (names : List Name) (e : Expression) (p : Piece) → RepresentsExpression before f names e
    → terms.goes_on_from (grammar_state_of e).outer (grammar_state_of e).operand p ≡ goes_on_with f p
goes_on_is before f names e p stands = ap (λ t. terms.goes_on_from t.outer t.operand p) stands.state_is_represented ∙ from_goes names f.outer f.level f.operand p

from_ends : (names : List Name) (outer : List Level) (level : Level) (operand : Operand)
    → (terms.is_empty (reverse (map (level_terms names) outer)) && terms.has_factor (operand_terms names operand)) ≡ is_some (finish_from outer level operand)
from_ends names [] level Wanted = refl
from_ends names [] level (BaseRead b) = refl
from_ends names [] level (CaretRead b) = refl
from_ends names [] level (ExponentRead b ds) = refl
from_ends names (l ∷ outer) level operand = ap (λ v. v && terms.has_factor (operand_terms names operand)) (turned_stands names l outer)

-- the expression can end exactly if the written state can
pub can_end_is : (before : List Name) (f : GrammarState) (names : List Name) (e : Expression) → RepresentsExpression before f names e
    → (terms.is_empty (grammar_state_of e).outer && terms.has_factor (grammar_state_of e).operand) ≡ is_some (finish f)
can_end_is before f names e stands = ap (λ t. terms.is_empty t.outer && terms.has_factor t.operand) stands.state_is_represented ∙ from_ends names f.outer f.level f.operand

-- the term of the written expression that ends here, if one does
abbrev TermAt : List Name → Term → Option Sum → Type 0
TermAt names t None = ⊤
TermAt names t (Some s) = t ≡ limited (sum_term names s)

from_made : (names : List Name) (outer : List Level) (level : Level) (operand : Operand)
    → TermAt names (terms.sum_made (level_terms names level) (operand_terms names operand)) (finish_from outer level operand)
from_made names [] level Wanted = tt
from_made names [] level (BaseRead b) = sym (sum_of names level (Plain b))
from_made names [] level (CaretRead b) = tt
from_made names [] level (ExponentRead b ds) = sym (sum_of names level (Raised b ds))
from_made names (l ∷ outer) level operand = tt

-- no bracket is open when an expression ends
abbrev OuterAt : List Level → Option Sum → Type 0
OuterAt outer None = ⊤
OuterAt outer (Some s) = outer ≡ []

from_outer : (outer : List Level) (level : Level) (operand : Operand) → OuterAt outer (finish_from outer level operand)
from_outer [] level Wanted = tt
from_outer [] level (BaseRead b) = refl
from_outer [] level (CaretRead b) = tt
from_outer [] level (ExponentRead b ds) = refl
from_outer (l ∷ outer) level operand = tt

-- the variables known after the expression that ends here are those of the state
abbrev NamesAt : List Name → List Name → Option Sum → Type 0
NamesAt before names None = ⊤
NamesAt before names (Some s) = names ≡ with_sum before s

from_names : (before : List Name) (outer : List Level) (level : Level) (operand : Operand) → NamesAt before (names_with_state before (record { outer = outer; level = level; operand = operand })) (finish_from outer level operand)
from_names before [] level Wanted = tt
from_names before [] level (BaseRead b) = sym (sum_names before level (Plain b))
from_names before [] level (CaretRead b) = tt
from_names before [] level (ExponentRead b ds) = sym (sum_names before level (Raised b ds))
from_names before (l ∷ outer) level operand = tt

-- an expression has the variables of the state that it ends
pub finished_names : (before : List Name) (f : GrammarState) (s : Sum) → finish f ≡ Some s → names_with_state before f ≡ with_sum before s
finished_names before f s ends = subst (λ o. NamesAt before (names_with_state before f) o) ends (from_names before f.outer f.level f.operand)

-- the code's term of an expression that ends is that of the written expression
pub finish_ends : (e : Expression) (t : Term) → t ≡ term_in e → Ends e t
finish_ends e t made = record {
  each = λ before names f s stands ends.
      made ∙ (ap (λ t. terms.sum_made t.level t.operand) stands.state_is_represented ∙ subst (λ o. TermAt names (terms.sum_made (level_terms names f.level) (operand_terms names f.operand)) o) ends (from_made names f.outer f.level f.operand));
}

-- once an expression has ended, nothing of another one has been read
pub finish_clears : (e d : Expression) → level_of d.level ≡ terms.empty_level → operand_of d.operand ≡ terms.Wanted → map level_of d.outer.items ≡ map level_of e.outer.items → d.tokens ≡ 0 → Clears e d
finish_clears e d level operand outer tokens = record {
  each = λ before names f s stands ends.
      let none : f.outer ≡ [] = subst (λ o. OuterAt f.outer o) ends (from_outer f.outer f.level f.operand) in
      let levels : map level_of d.outer.items ≡ [] = outer ∙ (ap (λ t. t.outer) stands.state_is_represented ∙ ap (λ ls. reverse (map (level_terms names) ls)) none) in
      record { state_is_represented = state_parts levels; tokens_are = tokens };
}
  where
    state_parts : map level_of d.outer.items ≡ [] → grammar_state_of d ≡ record { outer = []; level = terms.empty_level; operand = terms.Wanted }
    state_parts a =
        let mk : List terms.Level → terms.Level → terms.Operand → terms.GrammarState = λ o l op. record { outer = o; level = l; operand = op } in
        ap (λ o. mk o (level_of d.level) (operand_of d.operand)) a ∙ (ap (λ l. mk [] l (operand_of d.operand)) level ∙ ap (λ op. mk [] terms.empty_level op) operand)
