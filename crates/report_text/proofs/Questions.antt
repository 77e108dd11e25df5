-- The limits that linear programs exceeded are determined by their texts.
use Rattle.std.proofs.Common.{◌≡◌, ℕ, List, ◌++◌, get_or, codes, decimal, refl, sym, ◌∙◌, ap, arith}
use Rattle.its_model.proofs.text_core.PrefixLaws.{Stops}
use Rattle.cert_types.specs.declared.answer.Question.{Question}
use Rattle.cert_types.specs.declared.answer.Question.TheVariants as questions
use Rattle.farkas_cert.specs.linear_forms.declared.limit_cause.LimitCause.{LimitCause}
use Rattle.farkas_cert.specs.linear_forms.declared.limit_cause.LimitCause.TheVariants as causes
use Rattle.report_text.specs.Reasons.{question_text, cause_text, limit_hit_text, large_text}
use Rattle.report_text.specs.Printable.{IsShort, IsPrintableQuestion, IsPrintableCause, IsPrintableLimitHit}
use Rattle.report_text.proofs.DistinguishedTexts.{Determines, Any, determined_behind, determined_before, determined_both, same_after_word}
use Rattle.report_text.proofs.Digits.{is_number_byte, number_determined}
use Rattle.report_text.proofs.Points.{pair_determined}

-- a number after a word is determined by its text
number_after_word : (w : List ℕ) → Determines IsShort (λ n. w ++ decimal n) (Stops is_number_byte)
number_after_word w = determined_behind number_determined w

-- a number between two words is determined by its text
number_between_words : (w c : List ℕ) → ((u : List ℕ) → Stops is_number_byte (c ++ u)) → Determines IsShort (λ n. w ++ (decimal n ++ c)) Any
number_between_words w c stops = determined_behind (determined_before number_determined c Any (λ u s. stops u)) w

-- the first byte of a question
abbrev first_of : Question → ℕ
first_of (questions.Empty rule) = 101
first_of (questions.Rank rule) = 114
first_of (questions.Local rule place) = 108
first_of (questions.Cost rule) = 99

-- the first byte of a limit
abbrev first_of_cause : LimitCause → ℕ
first_of_cause (causes.Range pivot) = 114
first_of_cause (causes.Budget pivots) = 98
first_of_cause (causes.Wide entries) = 119
first_of_cause causes.Scale = 115

-- the first byte of a question is the first one of its text
first_is : (q : Question) (u : List ℕ) → get_or (question_text q ++ u) 0 0 ≡ first_of q
first_is (questions.Empty rule) u = refl
first_is (questions.Rank rule) u = refl
first_is (questions.Local rule place) u = refl
first_is (questions.Cost rule) u = refl

-- the first byte of the text of a limit
first_cause_is : (c : LimitCause) (u : List ℕ) → get_or (cause_text c ++ u) 0 0 ≡ first_of_cause c
first_cause_is (causes.Range pivot) u = refl
first_cause_is (causes.Budget pivots) u = refl
first_cause_is (causes.Wide entries) u = refl
first_cause_is causes.Scale u = refl

-- two questions with the same text and the same first byte are equal
question_one : (x y : Question) (u v : List ℕ) → IsPrintableQuestion x → IsPrintableQuestion y → Stops is_number_byte u → Stops is_number_byte v
    → question_text x ++ u ≡ question_text y ++ v → first_of x ≡ first_of y → (x ≡ y) × (u ≡ v)
question_one (questions.Empty a) (questions.Empty b) u v p q s t e k = let r = (number_after_word (codes "empty ")).each a b u v p q s t e in (ap questions.Empty r.0, r.1)
question_one (questions.Rank a) (questions.Rank b) u v p q s t e k = let r = (number_after_word (codes "rank ")).each a b u v p q s t e in (ap questions.Rank r.0, r.1)
question_one (questions.Local a i) (questions.Local b j) u v p q s t e k =
    let r = (determined_behind pair_determined (codes "local ")).each (a, i) (b, j) u v p q s t e in
    (ap (λ (z : ℕ × ℕ). questions.Local z.0 z.1) r.0, r.1)
question_one (questions.Cost a) (questions.Cost b) u v p q s t e k = let r = (number_after_word (codes "cost ")).each a b u v p q s t e in (ap questions.Cost r.0, r.1)
question_one x y u v p q s t e k = absurd (omega (arith, k))

-- the question of a linear program is determined by its text
pub question_determined : Determines IsPrintableQuestion question_text (Stops is_number_byte)
question_determined = record {
  each = λ x y u v p q s t e. question_one x y u v p q s t e (sym (first_is x u) ∙ (ap (λ (w : List ℕ). get_or w 0 0) e ∙ first_is y v));
}

-- two limits with the same text and the same first byte are equal
cause_one : (x y : LimitCause) (u v : List ℕ) → IsPrintableCause x → IsPrintableCause y → Stops is_number_byte u → Stops is_number_byte v
    → cause_text x ++ u ≡ cause_text y ++ v → first_of_cause x ≡ first_of_cause y → (x ≡ y) × (u ≡ v)
cause_one (causes.Range a) (causes.Range b) u v p q s t e k = let r = (number_after_word (codes "range at pivot ")).each a b u v p q s t e in (ap causes.Range r.0, r.1)
cause_one (causes.Budget a) (causes.Budget b) u v p q s t e k =
    let r = (number_between_words (codes "budget after ") (codes " pivots") (λ w. refl)).each a b u v p q tt tt e in
    (ap causes.Budget r.0, r.1)
cause_one (causes.Wide a) (causes.Wide b) u v p q s t e k =
    let r = (number_between_words (codes "wide ") (codes " entries") (λ w. refl)).each a b u v p q tt tt e in
    (ap causes.Wide r.0, r.1)
cause_one causes.Scale causes.Scale u v p q s t e k = (refl, same_after_word (codes "scale") u v e)
cause_one x y u v p q s t e k = absurd (omega (arith, k))

-- the limit that a linear program exceeded is determined by its text
pub cause_determined : Determines IsPrintableCause cause_text (Stops is_number_byte)
cause_determined = record {
  each = λ x y u v p q s t e. cause_one x y u v p q s t e (sym (first_cause_is x u) ∙ (ap (λ (w : List ℕ). get_or w 0 0) e ∙ first_cause_is y v));
}

-- a limit hit, the limit with its question, is determined by its text
pub limit_hit_determined : Determines IsPrintableLimitHit limit_hit_text (Stops is_number_byte)
limit_hit_determined =
    let both : Determines (λ (z : Question × LimitCause). IsPrintableQuestion z.0 × IsPrintableCause z.1) (λ (z : Question × LimitCause). question_text z.0 ++ (codes " " ++ cause_text z.1)) (Stops is_number_byte) =
    determined_both question_determined (determined_behind cause_determined (codes " ")) (λ c w fits after. refl) in
    record {
      each = λ x y u v p q s t e.
          let r = both.each (x.question, x.cause) (y.question, y.cause) u v (p.question, p.cause) (q.question, q.cause) s t e in
          (ap (λ (z : Question × LimitCause). record { question = z.0; cause = z.1 }) r.0, r.1);
    }

-- the number of nodes of a large bound is determined by its text
pub large_determined : Determines IsShort large_text Any
large_determined = number_between_words (codes "large ") (codes " nodes") (λ w. refl)
