-- The room that a guard has for one more token.
use Rattle.std.proofs.Common.{◌≡◌, ◌+◌, ◌≤◌, Bool, true, false, not, if◌then◌else◌, ◌&&◌, ◌↔◌, is_some, List}
use Rattle.std.proofs.Common.{length, Option, Some, refl, ap, sym, subst, ◌∙◌, arith}
use Rattle.expr_text.specs.model.Programs.{Name}
use Rattle.expr_text.specs.model.Limits.{variable_limit, atom_limit}
use Rattle.expr_text.specs.Pieces as inner
use Rattle.expr_text.specs.Trees.{Sum}
use Rattle.expr_text.specs.GrammarStates as expression
use Rattle.expr_text.specs.Steps as expression_steps
use Rattle.expr_text.specs.Guards.{count_of}
use Rattle.expr_text.specs.GuardGrammarStates.{Conjoined, NoAtoms, JointAfter, LeftSide}
use Rattle.expr_text.specs.GuardGrammarStates.{truth_of}
use Rattle.expr_text.specs.StateNames.{names_with_state, with_conjoined, operates, begins_expression}
use Rattle.expr_text.proofs.StateSteps.{with_piece, names_more, begins_truth}
use Rattle.expr_text.proofs.StateSteps.{truth_more, truth_goes_on}
use Rattle.its_text.specs.Pieces.{Piece, In}
use Rattle.its_text.specs.Numbering.{atoms_of_cost}
use Rattle.its_text.specs.StateFaults as shown
use Rattle.its_text.specs.StateFaults.{is_full, is_operating}
use Rattle.its_text.proofs.ValidRules.{at_most_one}
use Rattle.its_text.proofs.KeptStates.{begun, conjoined_count, counted}
use Rattle.its_text.proofs.ExpressionRoom.{room_for_one}
use Rattle.its_text.proofs.ExpressionRoom.{leading, leading_room}

-- A choice whose test fails is the second value, and one whose test holds is the first.
pub chosen_second : {X : Type 0} (v : Bool) (x y : X) → v ≡ false → (if v then x else y) ≡ y
chosen_second true x y e = cc
chosen_second false x y e = refl

pub chosen_first : {X : Type 0} (v : Bool) (x y : X) → v ≡ true → (if v then x else y) ≡ x
chosen_first true x y e = refl
chosen_first false x y e = cc

-- The variables that count after one more token.
counted_more : (names : List Name) (c : Conjoined) (e f : expression.GrammarState) (p : inner.Piece) (behind : Option Piece)
    → expression_steps.step e p ≡ Some f
    → counted names c f behind
    ≡ (if begins_truth e p && not (is_operating behind) then with_conjoined names c else with_piece
    (names_with_state (with_conjoined names c) e) p)
counted_more names c e f p behind same =
    ap (λ v. if v && not (is_operating behind) then with_conjoined names c else names_with_state (with_conjoined names c) f)
    (truth_more e f p same)
    ∙ ap (λ ns. if begins_truth e p && not (is_operating behind) then with_conjoined names c else ns)
    (names_more (with_conjoined names c) e f p same)

-- The variables that count before one more token.
counted_before : (names : List Name) (c : Conjoined) (e f : expression.GrammarState) (p : inner.Piece)
    → expression_steps.step e p ≡ Some f
    → counted names c e (Some (In p)) ≡ names_with_state (with_conjoined names c) e
counted_before names c e f p same =
    chosen_second (is_some (truth_of e) && not (operates p)) (with_conjoined names c)
    (names_with_state (with_conjoined names c) e) (truth_goes_on e f p same)

-- With one more name in a left side, the variables are within the limit exactly if there is room for it.
pub room_in_left : (names : List Name) (c : Conjoined) (e f : expression.GrammarState) (p : inner.Piece)
    (behind : Option Piece)
    → expression_steps.step e p ≡ Some f
    → (length (counted names c f behind) ≤ variable_limit)
    ↔ ((length (counted names c e (Some (In p))) ≤ variable_limit) ×
    (shown.passes_variables (leading (with_conjoined names c) e) p behind ≡ false))
room_in_left names c e f p behind same =
    let more = ap length (counted_more names c e f p behind same) in
    let before = ap length (counted_before names c e f p same) in
    let room = leading_room (with_conjoined names c) e p behind in (
      λ h.
          let k = room.0 (subst (λ n. n ≤ variable_limit) more h) in
          (subst (λ n. n ≤ variable_limit) (sym before) k.0, k.1),
      λ h. subst (λ n. n ≤ variable_limit) (sym more) (room.1 (subst (λ n. n ≤ variable_limit) before h.0, h.1)),
    )

-- With one more atom, a guard and the rule's cost are within the limit exactly if there is room for it.
pub room_for_atom : (cost : Option Sum) (c : Conjoined) (e f : expression.GrammarState) (p : inner.Piece)
    → expression_steps.step e p ≡ Some f
    → ((conjoined_count c + atoms_of_cost cost) + begun f ≤ atom_limit)
    ↔ (((conjoined_count c + atoms_of_cost cost) + begun e ≤ atom_limit) ×
    ((is_full (atoms_of_cost cost) (LeftSide c e) && begins_expression p) ≡ false))
room_for_atom cost NoAtoms e f p same =
    let one = at_most_one cost in (λ h. (omega (arith, one), refl), λ h. omega (arith, one))
room_for_atom cost (JointAfter atoms joint) e f p same =
    room_for_one atom_limit (count_of atoms + atoms_of_cost cost) e f p same
