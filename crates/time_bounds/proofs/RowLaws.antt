-- The rows and answers of rules, one by one, are those of the program.
use Rattle.std.proofs.Common.{◌≡◌, ℕ, zero, suc, ◌+◌, ◌-◌, ◌<◌, List, [], ◌∷◌, ◌++◌, length, map, get_or, All, Some}
use Rattle.std.proofs.Common.{refl, sym, ◌∙◌, ap, subst, arith}
use Rattle.std.specs.Prelude.{slice_get}
use Rattle.std.proofs.lemmas.List.{length-map}
use Rattle.model.specs.Programs as plain
use Rattle.model.specs.Programs.{rule_at}
use Rattle.its_model.specs.declared.program.Rule.{Rule}
use Rattle.its_model.specs.declared.program.Program.{Program}
use Rattle.its_model.specs.Valid.{IsValid}
use Rattle.its_model.specs.Views.{rule_of, program_of}
use Rattle.cert_types.proofs.Rules.{rule_here}
use Rattle.guard_prep.specs.declared.rule_rows.RuleRows.{RuleRows}
use Rattle.guard_prep.specs.Prepared.{Prepared, prepared}
use Rattle.guard_prep.specs.Views.{prepared_of}
use Rattle.guard_prep.specs.Laws.{IsPreparable}
use Rattle.guard_prep.proofs.StepLaws.{preparable}
use Rattle.cert_types.specs.declared.answer.GuardFeasibility.{GuardFeasibility}
use Rattle.cert_types.specs.Composing.{AreRowsOf}
use Rattle.rank_search.specs.rule_questions.EmptyAnswers.{IsEmptyAnswer, IsPrepared}
use Rattle.rank_search.specs.rule_questions.RuleAnswers.{AreEmptyAnswers, answer_for}
use Rattle.time_bounds.specs.Questions.{AreAnswersFrom}
use Rattle.model.proofs.Cases.{none_some}

-- a rule that was read is one of the program
pub rule_read : (p : Program) (i : ℕ) (r : Rule) → i < length p.rules.items → r ≡ get_or p.rules.items i r
    → rule_at (program_of p) (suc i) ≡ Some (rule_of r)
rule_read p i r l e =
    rule_here p (suc i) r (omega arith) (omega (arith, l)) (e ∙ ap (λ (j : ℕ). get_or p.rules.items j r) (let k : i ≡ suc i - 1 = omega arith in k))

-- a rule that was read of a valid program can be prepared
pub rule_preparable : (p : Program) (i : ℕ) (r : Rule) → IsValid (program_of p) → i < length p.rules.items → r ≡ get_or p.rules.items i r
    → IsPreparable (rule_of r)
rule_preparable p i r v l e = preparable (program_of p) (suc i) (rule_of r) v (rule_read p i r l e)

first_same : (a b : Prepared) (os bs : List Prepared) → a ∷ os ≡ b ∷ bs → a ≡ b
first_same a b os bs e = cc

rest_same : (a b : Prepared) (os bs : List Prepared) → a ∷ os ≡ b ∷ bs → os ≡ bs
rest_same a b os bs e = cc

empty_not : (a : Prepared) (os : List Prepared) → [] ≡ a ∷ os → ⊥
empty_not a os e = cc

-- the rule whose rows are at a position
pub record RowsAt (rules : List plain.Rule) (k : ℕ) (m : RuleRows) : Type 0 where
  pub rule : plain.Rule
  pub numbered : slice_get rules k ≡ Some rule
  pub same : prepared_of m ≡ prepared rule

-- the rows at a position are those of the rule there
pub rows_at : (prepared_rules : List RuleRows) (rules : List plain.Rule) (k : ℕ) (d : RuleRows) → map prepared_of prepared_rules ≡ map prepared rules → k < length prepared_rules
    → RowsAt rules k (get_or prepared_rules k d)
rows_at [] rules k d e l = absurd (omega (arith, l))
rows_at (m ∷ prepared_rules) [] k d e l = absurd (empty_not (prepared_of m) (map prepared_of prepared_rules) (sym e))
rows_at (m ∷ prepared_rules) (r ∷ rules) zero d e l = record {
  rule = r;
  numbered = refl;
  same = first_same (prepared_of m) (prepared r) (map prepared_of prepared_rules) (map prepared rules) e;
}
rows_at (m ∷ prepared_rules) (r ∷ rules) (suc k) d e l =
    let h = rows_at prepared_rules rules k d (rest_same (prepared_of m) (prepared r) (map prepared_of prepared_rules) (map prepared rules) e) (omega (arith, l)) in
    record { rule = h.rule; numbered = h.numbered; same = h.same }

-- the rows of the program's rules are those of rules that have some
pub are_prepared : (p : plain.Program) → IsValid p → (prepared_rules : List RuleRows) → AreRowsOf prepared_rules p → All IsPrepared prepared_rules
are_prepared p v prepared_rules rows k d l =
    let h = rows_at prepared_rules p.rules k d rows l in
    record { rule = h.rule; preparable = preparable p (suc k) h.rule v h.numbered; same = h.same }

-- there are as many prepared rows as rules
pub rows_length : (p : plain.Program) (prepared_rules : List RuleRows) → AreRowsOf prepared_rules p → length prepared_rules ≡ length p.rules
rows_length p prepared_rules rows = sym (length-map prepared_rules prepared_of) ∙ (ap (λ (ms : List Prepared). length ms) rows ∙ length-map p.rules prepared)

-- one answer more
pub answer_pushed : (pivots k : ℕ) (ms : List RuleRows) (os : List GuardFeasibility) (m : RuleRows) (a : GuardFeasibility) → AreAnswersFrom pivots k ms os
    → IsEmptyAnswer (prepared_of m) (k + length ms) pivots a → AreAnswersFrom pivots k (ms ++ m ∷ []) (os ++ a ∷ [])
answer_pushed pivots k [] [] m a h x = (subst (λ (n : ℕ). IsEmptyAnswer (prepared_of m) n pivots a) (let z : k + 0 ≡ k = omega arith in z) x, tt)
answer_pushed pivots k [] (b ∷ os) m a h x = absurd h
answer_pushed pivots k (n ∷ ms) [] m a h x = absurd h
answer_pushed pivots k (n ∷ ms) (b ∷ os) m a h x = (
  h.0,
  answer_pushed pivots (suc k) ms os m a h.1
      (subst (λ (n : ℕ). IsEmptyAnswer (prepared_of m) n pivots a) (let z : k + suc (length ms) ≡ suc k + length ms = omega arith in z) x),
)

-- there are as many answers for rows as rules
answers_long : (pivots k : ℕ) (prepared_rules : List RuleRows) (answers : List GuardFeasibility) → AreAnswersFrom pivots k prepared_rules answers → length answers ≡ length prepared_rules
answers_long pivots k [] [] h = refl
answers_long pivots k [] (a ∷ answers) h = absurd h
answers_long pivots k (m ∷ prepared_rules) [] h = absurd h
answers_long pivots k (m ∷ prepared_rules) (a ∷ answers) h = ap (λ (n : ℕ). suc n) (answers_long pivots (suc k) prepared_rules answers h.1)

answer_at : (pivots k : ℕ) (prepared_rules : List RuleRows) (rules : List plain.Rule) (answers : List GuardFeasibility) (i : ℕ) (r : plain.Rule) (a : GuardFeasibility)
    → map prepared_of prepared_rules ≡ map prepared rules → AreAnswersFrom pivots k prepared_rules answers → slice_get rules i ≡ Some r
    → slice_get answers i ≡ Some a → IsEmptyAnswer (prepared r) (k + i) pivots a
answer_at pivots k prepared_rules [] answers i r a e h f g = absurd (none_some r f)
answer_at pivots k [] (x ∷ rules) answers i r a e h f g = absurd (empty_not (prepared x) (map prepared rules) e)
answer_at pivots k (m ∷ prepared_rules) (x ∷ rules) [] i r a e h f g = absurd h
answer_at pivots k (m ∷ prepared_rules) (x ∷ rules) (b ∷ answers) zero r a e h f g =
    let same_rule : x ≡ r = cc in
    let same_answer : b ≡ a = cc in
    let first = first_same (prepared_of m) (prepared x) (map prepared_of prepared_rules) (map prepared rules) e in
    subst (λ (n : ℕ). IsEmptyAnswer (prepared r) n pivots a) (let z : k ≡ k + 0 = omega arith in z)
    (subst (λ (y : GuardFeasibility). IsEmptyAnswer (prepared r) k pivots y) same_answer
    (subst (λ (q : Prepared). IsEmptyAnswer q k pivots b) (first ∙ ap prepared same_rule) h.0))
answer_at pivots k (m ∷ prepared_rules) (x ∷ rules) (b ∷ answers) (suc i) r a e h f g =
    subst (λ (n : ℕ). IsEmptyAnswer (prepared r) n pivots a) (let z : suc k + i ≡ k + suc i = omega arith in z)
    (answer_at pivots (suc k) prepared_rules rules answers i r a (rest_same (prepared_of m) (prepared x) (map prepared_of prepared_rules) (map prepared rules) e) h.1 f g)

-- the answers for the rows of a program's rules are those for its rules
pub answers_of : (p : plain.Program) (pivots : ℕ) (prepared_rules : List RuleRows) (answers : List GuardFeasibility) → AreRowsOf prepared_rules p
    → AreAnswersFrom pivots 1 prepared_rules answers → AreEmptyAnswers p pivots answers
answers_of p pivots prepared_rules answers rows h = record {
  one_each = answers_long pivots 1 prepared_rules answers h ∙ rows_length p prepared_rules rows;
  each = each;
}
  where
    each : (t : ℕ) (r : plain.Rule) (a : GuardFeasibility) → rule_at p t ≡ Some r → answer_for answers t ≡ Some a → IsEmptyAnswer (prepared r) t pivots a
    each zero r a f g = absurd (none_some r f)
    each (suc i) r a f g =
        subst (λ (n : ℕ). IsEmptyAnswer (prepared r) n pivots a) (let z : 1 + i ≡ suc i = omega arith in z)
        (answer_at pivots 1 prepared_rules p.rules answers i r a rows h f g)
