-- The new values of a rule are small.
use Rattle.std.proofs.Common.{◌-◌, ◌≤◌, sym, ap, subst}
use Rattle.std.proofs.Common.{List}
use Rattle.std.specs.Prelude.{nat_abs}
use Rattle.std.specs.List.{All}
use Rattle.std.proofs.lemmas.List.Elements.{All-weaker, All-from_recursion}
use Rattle.poly_terms.specs.linear_forms.Forms.{Form}
use Rattle.poly_terms.specs.Views.{form_of}
use Rattle.cert_types.specs.guard_prep.declared.rule_rows.RuleRows.{RuleRows}
use Rattle.cert_types.specs.guard_prep.Laws.{IsSmallForm}
use Rattle.cert_types.specs.guard_prep.Prepared.{Prepared, new_values_of, unknowns_of}
use Rattle.cert_types.proofs.guard_prep.SizeLaws.{rows-are-small}
use Rattle.cert_types.proofs.guard_prep.StepLaws.{preparable}
use Rattle.rule_questions.specs.EmptyAnswers.{IsPrepared}
use Rattle.rule_questions.specs.SmallForms.{IsSmall}
use Rattle.rule_questions.proofs.EmptyProblems.{rows-all}

-- the new values of a rule have small numbers
pub new_values-small : (m : RuleRows) → IsPrepared m → All (λ f. IsSmall (form_of f)) m.new_values.items
new_values-small m is =
    rows-all IsSmall m.new_values.items
    (subst (λ (fs : List Form). All IsSmall fs) (sym (ap (λ (q : Prepared). q.new_values) is.same))
    (All-weaker (IsSmallForm (unknowns_of is.rule)) IsSmall
    (λ f s. record { coefs = All-from_recursion (λ a. nat_abs a ≤ _) f.coefs s.coefs; constant = s.constant })
    (new_values_of is.rule) (All-from_recursion (IsSmallForm (unknowns_of is.rule)) (new_values_of is.rule)
    (rows-are-small.new_values is.rule is.preparable))))
