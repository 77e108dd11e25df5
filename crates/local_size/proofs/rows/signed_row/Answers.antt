use Rattle.std.proofs.Common.{◌≡◌, ◌∙◌, sym, subst}
use Rattle.simplex_core.specs.linear_forms.Combinations.{form_times}
use Rattle.simplex_core.specs.linear_forms.RuleQuestions.{before_rule}
use Rattle.cert_types.specs.rule_forms.Kinds.{unit_of}
use Rattle.poly_terms.specs.Views.{form_of}
use Rattle.local_size.specs.declared.kinds.Sign.{Sign}
use Rattle.local_size.specs.Asking.{sign_of}
use Rattle.local_size.proofs.QuestionRows.{once-form}
use Rattle.local_size.proofs.rows.signed_row.Goals as goal

pub returns-in-Plus : goal.returns-in-Plus
returns-in-Plus c =
    subst (λ (s : Sign). form_of c.in_ok-argument.argument
    ≡ form_times (unit_of (sign_of s)) (before_rule c.args.place))
    (sym c.in-Plus.is) (c.in_ok-argument.ensures ∙ sym (once-form (before_rule c.args.place)))
