-- The answers for the places of a live rule, by the rows that were prepared of it.
use Rattle.std.proofs.Common.{◌≡◌, ℕ, suc, ◌+◌, ◌<◌, List, [], length, get_or, Some, refl, sym, ◌∙◌, ap, subst, arith}
use Rattle.std.specs.Prelude.{slice_get}
use Rattle.std.proofs.lemmas.List.{length-map}
use Rattle.std.proofs.lemmas.Option.{slice_get_read}
use Rattle.model.specs.Programs.{rule_at}
use Rattle.its_model.specs.declared.program.Symbol.{Symbol}
use Rattle.its_model.specs.declared.program.Rule.{Rule}
use Rattle.its_model.specs.declared.program.Program.{Program}
use Rattle.its_model.specs.Valid.{IsValid}
use Rattle.its_model.specs.Views.{rule_of, program_of}
use Rattle.guard_prep.specs.declared.rule_rows.RuleRows.{RuleRows}
use Rattle.guard_prep.specs.Prepared.{Prepared, prepared}
use Rattle.guard_prep.specs.Views.{prepared_of}
use Rattle.guard_prep.proofs.StepLaws.{preparable}
use Rattle.local_size.specs.declared.answer.LocalAnswer.{LocalAnswer}
use Rattle.its_model.specs.poly_terms.Views.{form_of}
use Rattle.cert_types.specs.Composing.{AreRowsOf}
use Rattle.cert_types.specs.declared.answer.GuardFeasibility.{GuardFeasibility}
use Rattle.rank_search.specs.rule_questions.EmptyAnswers.{IsPrepared}
use Rattle.rank_search.specs.rule_questions.RuleAnswers.{AreEmptyAnswers}
use Rattle.rank_search.proofs.RankSets.{rule-of}
use Rattle.time_bounds.specs.declared.rule_statuses.RuleStatus.{RuleStatus}
use Rattle.time_bounds.specs.Locals.{AreAnswersAt, AreAnswersAfter}
use Rattle.time_bounds.proofs.RuleSymbols.{target_read, arity_read}
use Rattle.time_bounds.proofs.LocalLists.{answers_after}
use Rattle.time_bounds.proofs.RowLaws.{RowsAt, rows_at, rows_length, rule_read}
pub use Rattle.model.proofs.Cases.{IfOk-both as all_two}
use Rattle.model.proofs.Cases.{some_same}

module _ (p : Program) (pivots : ℕ) (valid : IsValid (program_of p)) (prepared_rules : List RuleRows) (rows : AreRowsOf prepared_rules (program_of p))
    (empties : List GuardFeasibility) (known : AreEmptyAnswers (program_of p) pivots empties) (i : ℕ) (low : i < length p.rules.items) (r : Rule)
    (r_is : r ≡ get_or p.rules.items i r) (m : RuleRows) (m_is : m ≡ get_or prepared_rules i m) (e : GuardFeasibility) (e_is : e ≡ get_or empties i e) where
  at : RowsAt (program_of p).rules i m
  at =
      subst (λ (x : RuleRows). RowsAt (program_of p).rules i x) (sym m_is)
      (rows_at prepared_rules (program_of p).rules i m rows (omega (arith, low, rows_length (program_of p) prepared_rules rows, length-map p.rules.items rule_of)))

  numbered : rule_at (program_of p) (suc i) ≡ Some (rule_of r)
  numbered = rule_read p i r low r_is

  same_rule : at.rule ≡ rule_of r
  same_rule = some_same at.rule (rule_of r) (sym at.numbered ∙ numbered)

  same : prepared_of m ≡ prepared (rule_of r)
  same = at.same ∙ ap prepared same_rule

  -- the rows that were read are prepared from a rule
  pub prepared_rule_prepared : IsPrepared m
  prepared_rule_prepared = record { rule = rule_of r; preparable = preparable (program_of p) (suc i) (rule_of r) valid numbered; same = same }

  -- the rows have a new value for each place
  pub prepared_rule_places : (x : Symbol) → x ≡ get_or p.symbols.items r.target x → length m.new_values.items ≡ x.arity
  prepared_rule_places x k =
      sym (length-map m.new_values.items form_of)
      ∙ (ap (λ (y : Prepared). length y.new_values) same
      ∙ ((rule-of (program_of p) [] 0 [] (suc i) (rule_of r) valid numbered).values
      ∙ arity_read p r.target x (target_read p valid i r low r_is) k))

  -- the answer that was read is the one at the rule's position
  pub empty_got : slice_get empties i ≡ Some e
  empty_got =
      slice_get_read empties (length empties) i e refl (omega (arith, low, known.one_each, length-map p.rules.items rule_of)) e_is

  -- these answers are those of the rule
  pub live_after : (f : RuleStatus) (answers : List LocalAnswer) (x : Symbol) → x ≡ get_or p.symbols.items r.target x → length answers ≡ x.arity
      → AreAnswersAt (prepared_of m) (i + 1) pivots e 1 answers → AreAnswersAfter (program_of p) pivots (i + 1) f answers
  live_after f answers x k long h =
      let next : i + 1 ≡ suc i = omega arith in
      subst (λ (n : ℕ). AreAnswersAfter (program_of p) pivots n f answers) (sym next)
      (answers_after (program_of p) pivots i (rule_of r) f e answers numbered (known.each (suc i) (rule_of r) e numbered empty_got)
      (long ∙ sym (arity_read p r.target x (target_read p valid i r low r_is) k))
      (subst (λ (y : Prepared). AreAnswersAt y (suc i) pivots e 1 answers) same
      (subst (λ (n : ℕ). AreAnswersAt (prepared_of m) n pivots e 1 answers) next h)))
