-- Tokens spell at most one expression.
use Rattle.std.proofs.Common.{◌≡◌, ℕ, List, [], ◌∷◌, Option, Some, None, refl, sym, ap, ◌∙◌}
use Rattle.text_core.specs.Readers.{onto}
use Rattle.expr_text.specs.Pieces.{Piece}
use Rattle.expr_text.specs.Trees.{Sum, sum_behind}
use Rattle.expr_text.specs.GrammarStates.{GrammarState, beginning}
use Rattle.expr_text.specs.Steps.{step, finish}
use Rattle.expr_text.proofs.Reading.{behind_sum, sum_finish, expression_is_read}
use Rattle.while_text.specs.declared.piece.Piece as while_piece
use Rattle.while_laws.specs.Spelled.{SpellSum}

-- The state of parsing after tokens, of which the last one is first.
abbrev pub onward : Option GrammarState → Option Piece → Option GrammarState
onward None q = None
onward (Some f) None = None
onward (Some f) (Some q) = step f q

abbrev pub reach : List (Option Piece) → Option GrammarState
reach [] = Some beginning
reach (q ∷ done) = onward (reach done) q

-- The tokens of an expression lead to a state in which it can end.
pub sum_reached : (s : Sum) → reach (sum_behind Some s []) ≡ Some (behind_sum [] s)
sum_reached s =
    expression_is_read Some (λ (done : List (Option Piece)) (f : GrammarState). reach done ≡ Some f)
    (λ done e g q h k. ap (λ (o : Option GrammarState). onward o (Some q)) h ∙ k) s [] refl

-- Reversing a list twice gives the list.
onto_back : {X : Type 0} (xs rest : List X) → onto (onto xs rest) [] ≡ onto rest xs
onto_back [] rest = refl
onto_back (x ∷ xs) rest = onto_back xs (x ∷ rest)

onto_same : {X : Type 0} (xs ys : List X) → onto xs [] ≡ onto ys [] → xs ≡ ys
onto_same xs ys e = sym (onto_back xs []) ∙ ap (λ zs. onto zs []) e ∙ onto_back ys []

-- Two expressions that the same tokens spell are the same.
pub spelled_once : (text : List ℕ) (s t : Sum) (ps : List while_piece.Piece) → SpellSum text s ps → SpellSum text t ps → s ≡ t
spelled_once text s t ps h k =
    one (sym (sum_finish s) ∙ ap finish (grammar_state (sym (sum_reached s)
    ∙ ap reach (onto_same (sum_behind Some s []) (sum_behind Some t []) (sym h ∙ k)) ∙ sum_reached t)) ∙ sum_finish t)
  where
    grammar_state : Some (behind_sum [] s) ≡ Some (behind_sum [] t) → behind_sum [] s ≡ behind_sum [] t
    grammar_state d = cc

    one : Some s ≡ Some t → s ≡ t
    one d = cc
