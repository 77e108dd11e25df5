-- A set of rules that is a valid argument of the search is a set as in the definition of questions.
use Rattle.std.proofs.Common.{ℕ, List}
use Rattle.cert_types.specs.rule_forms.RankLaws.{IsSetOf}
use Rattle.poly_terms.specs.model.Programs.{Program}
use Rattle.its_model.specs.Valid.{IsValid}
use Rattle.cert_types.specs.cert_rules.Gaps.{SymbolPlace}
use Rattle.rule_questions.specs.ProgramQuestions.{ranked_set}
use Rattle.rank_search.specs.RankAnswers.{IsRuleSet}
use Rattle.cert_types.proofs.cert_program.RankedSets.{set-is}
pub use Rattle.cert_types.proofs.cert_program.RankedSets.{standing, in-all, rule-of, rule-in, symbols-same}

-- the ranked set of a rule set has the properties of a set
pub set-of : (p : Program) (set : List ℕ) (strict : ℕ) (shut : List SymbolPlace) → IsValid p → IsRuleSet p set strict
    → IsSetOf (ranked_set p set strict shut)
set-of p set strict shut v s = set-is p set strict shut v s.rules s.inside
