-- The claims of a file that is accepted for a valid program are true.
use Rattle.std.proofs.Common.{◌≡◌, refl, Option, Some, None}
use Rattle.guard_prep.specs.model.Programs.{Rule, rule_at}
use Rattle.std.proofs.lemmas.List.Elements.{All-weaker}
use Rattle.cert_rules.specs.GapChecks.{GapHolds}
use Rattle.cert_rules.specs.rule_forms.Ranking.{NoRank}
use Rattle.cert_program.specs.RankedSets.{forms_in, forms_at, ranked_set}
use Rattle.cert_program.specs.Setting.{rows_in, new_values_in}
use Rattle.cert_program.specs.Laws.{AcceptedFilesHold, FormsAreThoseOfSettings}
use Rattle.cert_program.proofs.Faithful.{accepted-hold}
use Rattle.cert_program.proofs.RankedSets.{gap-excludes_all}

-- the rows of the forms of a rule are its prepared rows
rows-same : (o : Option Rule) → (forms_in o).rows ≡ rows_in o
rows-same None = refl
rows-same (Some r) = refl

new_values-same : (o : Option Rule) → (forms_in o).new_values ≡ new_values_in o
new_values-same None = refl
new_values-same (Some r) = refl

-- the forms of a program's rules have the rows and new values of the setting
pub forms-same : FormsAreThoseOfSettings
forms-same = record { rows = λ p t. rows-same (rule_at p t); new_values = λ p t. new_values-same (rule_at p t) }

-- every file that is accepted for a valid program holds
pub files-hold : AcceptedFilesHold
files-hold = record {
  each = λ p valid f h. record {
    facts = accepted-hold.each p valid f.lemmas h.lemmas;
    gaps = All-weaker (GapHolds p (forms_at p)) (λ g. NoRank (ranked_set p g.set g.rule g.shut))
        (λ g holds. gap-excludes_all p valid g holds) f.gaps h.gaps;
  };
}
