-- Reading a while program token by token gives the answer to the whole text.
use Rattle.std.proofs.Common.{◌≡◌, ℕ, List, [], ◌∷◌, ◌++◌, length, Option, Some, None, refl, sym, ap, subst, ◌∙◌}
use Rattle.std.specs.Prelude.{Result}
use Rattle.text_grammar.specs.text_core.Tokens.{Token}
use Rattle.text_grammar.specs.text_core.Reading.{answer}
use Rattle.text_grammar.specs.declared.token.Refusal.{Refusal}
use Rattle.text_grammar.specs.Folds.{refusals}
use Rattle.text_grammar.specs.Following.{Says, first_of_two}
use Rattle.text_grammar.specs.Results.{AgreesWith, refused_in}
use Rattle.text_grammar.specs.Texts.{first_shown, reader}
use Rattle.text_grammar.proofs.ResultLaws.{says_then_agrees}
use Rattle.while_text.specs.while_tree.declared.stmt.Whole.{Whole}
use Rattle.while_text.specs.declared.kind.Kind.{Kind}
use Rattle.while_text.specs.declared.piece.Piece.{Piece}
use Rattle.while_text.specs.Faults.{fault_at}
use Rattle.while_text.specs.Lexing.{tokens}
use Rattle.while_text.specs.Reading.{while_text}
use Rattle.while_text.specs.Views.{source_of}

-- The code's first of three faults is the first of the list of those that exist.
pub first_of_faults : (text : List ℕ) (a b c : Option Kind) (p q r : ℕ)
    → first_of_two (while_text text) (first_of_two (while_text text) (fault_at a p) (fault_at b q)) (fault_at c r)
    ≡ first_shown (while_text text) None (refusals a p ++ (refusals b q ++ refusals c r))
first_of_faults text None None None p q r = refl
first_of_faults text None None (Some c) p q r = refl
first_of_faults text None (Some b) None p q r = refl
first_of_faults text None (Some b) (Some c) p q r = refl
first_of_faults text (Some a) None None p q r = refl
first_of_faults text (Some a) None (Some c) p q r = refl
first_of_faults text (Some a) (Some b) None p q r = refl
first_of_faults text (Some a) (Some b) (Some c) p q r = refl

-- A single fault is the first one.
pub first_of_one : (text : List ℕ) (a : Option Kind) (p : ℕ)
    → fault_at a p ≡ first_shown (while_text text) None (refusals a p)
first_of_one text None p = refl
first_of_one text (Some a) p = refl

-- Reading the tokens of a text gives the answer.
pub judged : (bytes text : List ℕ) (ts : List (Token Piece)) (result : Result Whole (Refusal Kind)) → text ≡ bytes
    → ts ≡ tokens bytes → Says (λ made t. source_of made ≡ t) (answer (reader (while_text text)) (length bytes) ts) result
    → AgreesWith source_of refused_in (answer (reader (while_text bytes)) (length bytes) (tokens bytes)) result
judged bytes text ts result e f s =
    says_then_agrees source_of (answer (reader (while_text bytes)) (length bytes) (tokens bytes)) result
    (subst (λ (us : List (Token Piece)). Says (λ made t. source_of made ≡ t)
    (answer (reader (while_text bytes)) (length bytes) us) result) f
    (subst (λ (r : List ℕ). Says (λ made t. source_of made ≡ t) (answer (reader (while_text r)) (length bytes) ts) result)
    e s))
