use Rattle.std.proofs.Common.{◌≡◌, refl, sym, ◌∙◌, ap, subst, map}
use Rattle.bound_expr.specs.Views.{bound_of}
use Rattle.bound_table.specs.RewriteResult.{rewritten_within, answer_of}
use Rattle.cert_types.specs.cert_rules.Composed.{time_of}
use Rattle.cert_types.specs.cert_rules.Known.{Table}
use Rattle.cert_types.specs.cert_program.Setting.{setting_of}
use Rattle.cert_types.specs.AnswerViews.{gap_of}
use Rattle.cert_types.specs.Views.{rank_of, result_variable_of}
use Rattle.rank_search.specs.declared.answer.RankAnswer.{RankAnswer}
use Rattle.bound_fixpoint.specs.Derivations.{RankBy}
use Rattle.outcome.specs.Reports.{NoFunction, TimeHitLimit, TimeLarge}
use Rattle.bound_fixpoint.specs.Searches.{OfTime}
use Rattle.bound_fixpoint.specs.Answers.{Answer, Found, AnswersRanking}
use Rattle.size_bounds.specs.Tables.{bounds_in}
use Rattle.time_bounds.specs.ProgramRules.{ranking_of}
use Rattle.time_bounds.specs.Questions.{HasShape, program_in}
use Rattle.time_bounds.proofs.AnswerLaws.{found-sound, large-sound, time-sound, missing_of}
use Rattle.time_bounds.proofs.TablesOver.{table_over}
use Rattle.time_bounds.proofs.tried_rules.try_answer.Goals as goal

pub rank_premises-requires-clause-few : goal.rank_premises-requires-clause-few
rank_premises-requires-clause-few c = (subst HasShape c.in-Ranked.is c.requires.answered.shape).1

pub returns-in_ok-premises-in-Rewritten : goal.returns-in_ok-premises-in-Rewritten
returns-in_ok-premises-in-Rewritten c =
    let p = program_in c.args.cx.now in
    let b = bounds_in c.args.table.now in
    let node = rank_of c.in-Ranked.node in
    let premises = map result_variable_of c.in_ok-premises-in-Rewritten.premises.items in
    let told : Answer = Found (RankBy node) premises (bound_of c.in-Rewritten.bound) in
    let fits = subst (λ (x : Table). answer_of c.in_ok-bound-in-Ranked.field-0 ≡ rewritten_within (time_of p node x.time x.size))
    (table_over c.args.table.now) c.in_ok-bound-in-Ranked.ensures in (
      c.requires.untimed,
      time-sound p b c.args.cx.now.pivots c.args.cx.now.empties.items c.args.rule c.args.asked told c.requires.ready.empties c.requires.asked
          c.requires.answered
          (subst (λ (a : RankAnswer). AnswersRanking (setting_of p) b (ranking_of a) told) (sym c.in-Ranked.is)
          (found-sound p b node premises (bound_of c.in-Rewritten.bound) (sym (ap answer_of c.in-Rewritten.is) ∙ fits) c.in_ok-premises-in-Rewritten.ensures)),
    )

pub returns-in-Large : goal.returns-in-Large
returns-in-Large c =
    let p = program_in c.args.cx.now in
    let b = bounds_in c.args.table.now in
    let node = rank_of c.in-Ranked.node in
    let large = subst (λ (x : Table). answer_of c.in_ok-bound-in-Ranked.field-0 ≡ rewritten_within (time_of p node x.time x.size))
    (table_over c.args.table.now) c.in_ok-bound-in-Ranked.ensures in (
      c.requires.untimed,
      missing_of p b c.args.cx.now.pivots c.args.cx.now.empties.items c.args.rule c.args.asked _ (OfTime (TimeLarge c.in-Large.nodes)) c.requires.asked
          c.requires.answered c.in-Ranked.is
          (large-sound p b node c.in-Large.nodes (sym (ap answer_of c.in-Large.is) ∙ large)),
    )

pub returns-in-NoRank : goal.returns-in-NoRank
returns-in-NoRank c = (
  c.requires.untimed,
  missing_of (program_in c.args.cx.now) (bounds_in c.args.table.now) c.args.cx.now.pivots c.args.cx.now.empties.items c.args.rule c.args.asked _
      (OfTime (NoFunction (gap_of c.in-NoRank.gap))) c.requires.asked c.requires.answered c.in-NoRank.is refl,
)

pub returns-in-OutOfLimits : goal.returns-in-OutOfLimits
returns-in-OutOfLimits c = (
  c.requires.untimed,
  missing_of (program_in c.args.cx.now) (bounds_in c.args.table.now) c.args.cx.now.pivots c.args.cx.now.empties.items c.args.rule c.args.asked _
      (OfTime (TimeHitLimit c.in-OutOfLimits.limit_hit)) c.requires.asked c.requires.answered c.in-OutOfLimits.is refl,
)
