-- The canonical text of an expression is read as the expression's written form.
use Rattle.std.proofs.Common.{◌≡◌, ℕ, suc, true, List, ◌∷◌, ◌++◌, refl, ap, ◌∙◌}
use Rattle.std.specs.Prelude.{codes}
use Rattle.its_text.specs.expr_text.model.Programs.{Name}
use Rattle.its_text.specs.expr_text.model.Terms.{Term, Literal, Variable, Negation, Addition, Subtraction}
use Rattle.its_text.specs.expr_text.model.Terms.{Multiplication, Exponentiation}
use Rattle.std.specs.Prelude.{pos, negsuc}
use Rattle.its_text.specs.expr_text.text_core.Names.{IsName, continues_name}
use Rattle.its_text.specs.expr_text.text_core.Readers.{onto}
use Rattle.its_text.proofs.expr_text.text_core.PrefixLaws.{Stops}
use Rattle.its_text.specs.expr_text.Pieces as inner
use Rattle.its_text.specs.expr_text.Trees.{Sum, Bracketed, sum_behind, base_behind}
use Rattle.its_text.specs.Pieces.{Piece, In, word, digits}
use Rattle.its_text.specs.Lexing.{Within}
use Rattle.its_writer.specs.Layout.{numeral, integer_then, bracketed_then}
use Rattle.its_writer.specs.Expressions.{name_at, expression_then, operand_then}
use Rattle.its_writer.proofs.CanonicalSections.{operand_written, expression_written}
use Rattle.its_writer.specs.Spellable.{IsNatural}
use Rattle.its_writer.proofs.Lexed.{lexed, moved, word_lexed, numeral_lexed, IsApart, minus_lexed, name_apart, numeral_apart}

-- a text is read as these pieces, after any pieces, and before bytes that don't continue a name
pub record IsRead (d : ℕ) (text : List ℕ → List ℕ) (behind : List Piece → List Piece) : Type 0 where
  pub each : (before : List Piece) (rest : List ℕ) → Stops continues_name rest
      → onto before (lexed (Within d) (text rest)) ≡ onto (behind before) (lexed (Within d) rest)

-- an expression whose literals consist of digits, and whose variables have names
abbrev pub IsWritable : List Name → Term → Type 0
IsWritable names (Literal z) = IsNatural z
IsWritable names (Variable i) = IsName (name_at names i)
IsWritable names (Negation e) = IsWritable names e
IsWritable names (Addition d e) = IsWritable names d × IsWritable names e
IsWritable names (Subtraction d e) = IsWritable names d × IsWritable names e
IsWritable names (Multiplication d e) = IsWritable names d × IsWritable names e
IsWritable names (Exponentiation e n) = IsWritable names e

-- the text of a sum in brackets is read as the sum in brackets
pub bracketed_read : (d : ℕ) (text : List ℕ → List ℕ) (s : Sum) → IsRead (suc d) text (sum_behind In s)
    → IsRead d (bracketed_then true text) (base_behind In (Bracketed s))
bracketed_read d text s h = record {
  each = λ before rest stop.
      ap (λ ps. onto before (In inner.Open ∷ ps)) (moved (Within (suc d)) 1 (text (41 ∷ rest)))
      ∙ h.each (In inner.Open ∷ before) (41 ∷ rest) refl
      ∙ ap (λ ps. onto (sum_behind In s (In inner.Open ∷ before)) (In inner.Close ∷ ps)) (moved (Within d) 1 rest);
}

-- the text of a literal is read as its digits, and that of a variable as its name
literal_read : (d n : ℕ) → IsRead d (integer_then (pos n)) (λ before. digits (numeral n) ∷ before)
literal_read d n = record { each = λ before rest stop. ap (onto before) (numeral_lexed d n rest stop) }

name_read : (d : ℕ) (name : Name) → IsName name → IsRead d (λ rest. name ++ rest) (λ before. word name ∷ before)
name_read d name is = record { each = λ before rest stop. ap (onto before) (word_lexed d name rest is stop) }

-- an operand is read as its written form if its expression is
operand_read : (d : ℕ) (names : List Name) (e : Term) → IsWritable names e → IsRead (suc d) (expression_then names e) (sum_behind In (expression_written names e))
    → IsRead d (operand_then names e) (base_behind In (operand_written names e (expression_written names e)))
operand_read d names (Literal (pos n)) w h = literal_read d n
operand_read d names (Literal (negsuc n)) w h = absurd w
operand_read d names (Variable i) w h = name_read d (name_at names i) w
operand_read d names (Negation e) w h = bracketed_read d (expression_then names (Negation e)) (expression_written names (Negation e)) h
operand_read d names (Addition c e) w h = bracketed_read d (expression_then names (Addition c e)) (expression_written names (Addition c e)) h
operand_read d names (Subtraction c e) w h = bracketed_read d (expression_then names (Subtraction c e)) (expression_written names (Subtraction c e)) h
operand_read d names (Multiplication c e) w h = bracketed_read d (expression_then names (Multiplication c e)) (expression_written names (Multiplication c e)) h
operand_read d names (Exponentiation e n) w h = bracketed_read d (expression_then names (Exponentiation e n)) (expression_written names (Exponentiation e n)) h

-- a `-` before the text of an operand is not read as part of an arrow
operand_apart : (names : List Name) (e : Term) (rest : List ℕ) → IsWritable names e → IsApart (operand_then names e rest)
operand_apart names (Literal (pos n)) rest w = numeral_apart n rest
operand_apart names (Literal (negsuc n)) rest w = absurd w
operand_apart names (Variable i) rest w = name_apart (name_at names i) rest w
operand_apart names (Negation e) rest w = (refl, refl)
operand_apart names (Addition c e) rest w = (refl, refl)
operand_apart names (Subtraction c e) rest w = (refl, refl)
operand_apart names (Multiplication c e) rest w = (refl, refl)
operand_apart names (Exponentiation e n) rest w = (refl, refl)

-- the texts of a sum, a difference, a product, a negation and a power are read as such if those of their operands are
module _ (d : ℕ) (l r : List ℕ → List ℕ) (left right : List Piece → List Piece) (a : IsRead d l left) (b : IsRead d r right) where
  sum_read : IsRead d (λ rest. l (codes "+" ++ r rest)) (λ before. right (In inner.Plus ∷ left before))
  sum_read = record {
    each = λ before rest stop.
        a.each before (43 ∷ r rest) refl
        ∙ ap (λ ps. onto (left before) (In inner.Plus ∷ ps)) (moved (Within d) 1 (r rest))
        ∙ b.each (In inner.Plus ∷ left before) rest stop;
  }

  difference_read : ((rest : List ℕ) → IsApart (r rest)) → IsRead d (λ rest. l (codes "-" ++ r rest)) (λ before. right (In inner.Minus ∷ left before))
  difference_read apart = record {
    each = λ before rest stop.
        a.each before (45 ∷ r rest) refl
        ∙ ap (onto (left before)) (minus_lexed d (r rest) (apart rest))
        ∙ b.each (In inner.Minus ∷ left before) rest stop;
  }

  product_read : IsRead d (λ rest. l (codes "*" ++ r rest)) (λ before. right (In inner.Times ∷ left before))
  product_read = record {
    each = λ before rest stop.
        a.each before (42 ∷ r rest) refl
        ∙ ap (λ ps. onto (left before) (In inner.Times ∷ ps)) (moved (Within d) 1 (r rest))
        ∙ b.each (In inner.Times ∷ left before) rest stop;
  }

opposite_read : (d : ℕ) (text : List ℕ → List ℕ) (behind : List Piece → List Piece) → IsRead d text behind → ((rest : List ℕ) → IsApart (text rest))
    → IsRead d (λ rest. codes "-" ++ text rest) (λ before. behind (In inner.Minus ∷ before))
opposite_read d text behind h apart = record {
  each = λ before rest stop. ap (onto before) (minus_lexed d (text rest) (apart rest)) ∙ h.each (In inner.Minus ∷ before) rest stop;
}

power_read : (d n : ℕ) (text : List ℕ → List ℕ) (behind : List Piece → List Piece) → IsRead d text behind
    → IsRead d (λ rest. text (codes "^" ++ integer_then (pos n) rest)) (λ before. digits (numeral n) ∷ In inner.Caret ∷ behind before)
power_read d n text behind h = record {
  each = λ before rest stop.
      h.each before (94 ∷ integer_then (pos n) rest) refl
      ∙ ap (λ ps. onto (behind before) (In inner.Caret ∷ ps)) (moved (Within d) 1 (integer_then (pos n) rest) ∙ numeral_lexed d n rest stop);
}

-- the text of a writable expression is read as its written form
pub expression_read : (names : List Name) (e : Term) → IsWritable names e → (d : ℕ) → IsRead d (expression_then names e) (sum_behind In (expression_written names e))
expression_read names (Literal (pos n)) w d = literal_read d n
expression_read names (Literal (negsuc n)) w d = absurd w
expression_read names (Variable i) w d = name_read d (name_at names i) w
expression_read names (Negation e) w d =
    opposite_read d (operand_then names e) _ (operand_read d names e w (expression_read names e w (suc d))) (λ rest. operand_apart names e rest w)
expression_read names (Addition c e) w d =
    sum_read d (operand_then names c) (operand_then names e) _ _ (operand_read d names c w.0 (expression_read names c w.0 (suc d))) (operand_read d names e w.1 (expression_read names e w.1 (suc d)))
expression_read names (Subtraction c e) w d =
    difference_read d (operand_then names c) (operand_then names e) _ _ (operand_read d names c w.0 (expression_read names c w.0 (suc d))) (operand_read d names e w.1 (expression_read names e w.1 (suc d)))
    (λ rest. operand_apart names e rest w.1)
expression_read names (Multiplication c e) w d =
    product_read d (operand_then names c) (operand_then names e) _ _ (operand_read d names c w.0 (expression_read names c w.0 (suc d))) (operand_read d names e w.1 (expression_read names e w.1 (suc d)))
expression_read names (Exponentiation e n) w d =
    power_read d n (operand_then names e) _ (operand_read d names e w (expression_read names e w (suc d)))
