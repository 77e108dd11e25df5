use Rattle.std.proofs.Common.{◌≡◌, inr, List, [], ◌∷◌, All, refl, sym, ap, ◌∙◌, subst, length, arith}
use Rattle.std.proofs.lemmas.List.{length-append}
use Rattle.std.proofs.lemmas.List.Elements.{All-nil, All-cons, All-append}
use Rattle.bound_expr.specs.Views.{bound_of}
use Rattle.bound_table.specs.RewriteResult.{answer_of, rewritten_within}
use Rattle.outcome.specs.Views.{numbered_gap}
use Rattle.cert_types.specs.declared.gap.Gap as code
use Rattle.cert_types.specs.cert_rules.Composed.{time_of}
use Rattle.cert_types.specs.cert_rules.GapChecks.{GapHolds}
use Rattle.cert_types.specs.cert_rules.Gaps.{Gap}
use Rattle.cert_types.specs.cert_rules.Known.{Table}
use Rattle.cert_types.specs.cert_program.Setting.{setting_of}
use Rattle.cert_types.specs.AnswerViews.{gap_of}
use Rattle.cert_types.specs.Views.{rank_of}
use Rattle.rank_search.specs.declared.answer.RankAnswer.{RankAnswer}
use Rattle.rank_search.specs.rule_questions.ProgramQuestions.{forms_at}
use Rattle.bound_fixpoint.specs.Answers.{Lacks, AnswersRanking}
use Rattle.outcome.specs.Reports.{NoFunction, TimeHitLimit, TimeLarge}
use Rattle.bound_fixpoint.specs.Searches.{OfTime}
use Rattle.size_bounds.specs.Tables.{bounds_in}
use Rattle.time_bounds.specs.ProgramRules.{ranking_of}
use Rattle.time_bounds.specs.Questions.{HasShape, program_in}
use Rattle.time_bounds.proofs.AnswerLaws.{large-sound, time-sound, missing_unfit, gap_holds, untimed_none}
use Rattle.time_bounds.proofs.RuleNumbers.{rule_within}
use Rattle.time_bounds.proofs.TablesOver.{table_over}
use Rattle.time_bounds.proofs.NamedGaps.{gap_last}
use Rattle.time_bounds.proofs.reasons.no_time.Goals as goal

pub rank_time-requires-clause-over : goal.rank_time-requires-clause-over
rank_time-requires-clause-over c = (subst HasShape c.in-Ranked.is c.requires.missing.answered.shape).0

pub rank_time-requires-clause-few : goal.rank_time-requires-clause-few
rank_time-requires-clause-few c = (subst HasShape c.in-Ranked.is c.requires.missing.answered.shape).1

pub returns-in-Large-clause-said : goal.returns-in-Large-clause-said
returns-in-Large-clause-said c =
    let p = program_in c.args.cx.now in
    let b = bounds_in c.args.table.now in
    let node = rank_of c.in-Ranked.node in
    let m = c.requires.missing in
    let large = subst (λ (x : Table). answer_of c.in_ok-nodes-in-Ranked.field-0 ≡ rewritten_within (time_of p node x.time x.size))
    (table_over c.args.table.now) c.in_ok-nodes-in-Ranked.ensures in (
      untimed_none b c.args.rule c.requires.untimed,
      time-sound p b c.args.cx.now.pivots c.args.cx.now.empties.items c.args.rule c.args.asked (Lacks (OfTime (TimeLarge c.in-Large.nodes)))
          c.requires.ready.empties m.asked m.answered
          (subst (λ (a : RankAnswer). AnswersRanking (setting_of p) b (ranking_of a) (Lacks (OfTime (TimeLarge c.in-Large.nodes)))) (sym c.in-Ranked.is)
          (large-sound p b node c.in-Large.nodes (sym (ap answer_of c.in-Large.is) ∙ large))),
    )

pub returns-in-NoRank-clause-grown : goal.returns-in-NoRank-clause-grown
returns-in-NoRank-clause-grown c = inr (c.in-NoRank.gap, c.in_ok-push-in-NoRank.ensures.items)

pub returns-in-NoRank-clause-said : goal.returns-in-NoRank-clause-said
returns-in-NoRank-clause-said c =
    let p = program_in c.args.cx.now in
    let b = bounds_in c.args.table.now in
    let m = c.requires.missing in
    let n = numbered_gap c.push.new.self.items c.len.result in
    let last = gap_last c.args.gaps.now.items c.push.new.self.items c.in-NoRank.gap c.len.result c.in_ok-push-in-NoRank.ensures.items
    (omega (arith, c.len.ensures, c.push.new.self.ok.0)) in (
      untimed_none b c.args.rule c.requires.untimed,
      time-sound p b c.args.cx.now.pivots c.args.cx.now.empties.items c.args.rule c.args.asked (Lacks (OfTime (NoFunction n))) c.requires.ready.empties
          m.asked m.answered
          (subst (λ (a : RankAnswer). AnswersRanking (setting_of p) b (ranking_of a) (Lacks (OfTime (NoFunction n)))) (sym c.in-NoRank.is)
          (ap (λ (g : Gap). Lacks (OfTime (NoFunction g))) last)),
    )

pub returns-in-NoRank-clause-hold : goal.returns-in-NoRank-clause-hold
returns-in-NoRank-clause-hold c =
    let p = program_in c.args.cx.now in
    let holds = gap_holds p (bounds_in c.args.table.now) c.args.cx.now.pivots c.args.cx.now.empties.items c.args.rule c.args.asked c.in-NoRank.gap
    c.requires.ready.valid c.requires.ready.empties c.requires.start (rule_within p c.args.rule c.requires.rule.0 c.requires.rule.1)
    c.requires.missing c.in-NoRank.is in
    subst (λ (gs : List code.Gap). All (λ g. GapHolds p (forms_at p) (gap_of g)) gs) (sym c.in_ok-push-in-NoRank.ensures.items)
    (All-append (λ (g : code.Gap). GapHolds p (forms_at p) (gap_of g)) c.args.gaps.now.items (c.in-NoRank.gap ∷ []) c.requires.hold
    (All-cons (λ (g : code.Gap). GapHolds p (forms_at p) (gap_of g)) c.in-NoRank.gap [] holds
    (All-nil (λ (g : code.Gap). GapHolds p (forms_at p) (gap_of g)))))

pub returns-clause-said : goal.returns-clause-said
returns-clause-said c =
    let p = program_in c.args.cx.now in
    let b = bounds_in c.args.table.now in
    let m = c.requires.missing in (
      untimed_none b c.args.rule c.requires.untimed,
      time-sound p b c.args.cx.now.pivots c.args.cx.now.empties.items c.args.rule c.args.asked (Lacks (OfTime (TimeHitLimit c.in-OutOfLimits.limit_hit)))
          c.requires.ready.empties m.asked m.answered
          (subst (λ (a : RankAnswer). AnswersRanking (setting_of p) b (ranking_of a) (Lacks (OfTime (TimeHitLimit c.in-OutOfLimits.limit_hit)))) (sym c.in-OutOfLimits.is) refl),
    )

pub unreachable-requires : goal.unreachable-requires
unreachable-requires c =
    let p = program_in c.args.cx.now in
    let fits = subst (λ (x : Table). answer_of c.in_ok-nodes-in-Ranked.field-0 ≡ rewritten_within (time_of p (rank_of c.in-Ranked.node) x.time x.size))
    (table_over c.args.table.now) c.in_ok-nodes-in-Ranked.ensures in
    missing_unfit p (bounds_in c.args.table.now) c.args.cx.now.pivots c.args.cx.now.empties.items c.args.rule c.args.asked c.in-Ranked.node
    (bound_of c.in-Rewritten.field-0) c.requires.missing c.in-Ranked.is (sym (ap answer_of c.in-Rewritten.is) ∙ fits)

pub returns-in-NoRank-clause-in_order : goal.returns-in-NoRank-clause-in_order
returns-in-NoRank-clause-in_order c =
    let long = ap (λ (gs : List code.Gap). length gs) c.in_ok-push-in-NoRank.ensures.items
    ∙ length-append c.args.gaps.now.items (c.in-NoRank.gap ∷ []) in
    (omega (arith, long, c.len.ensures, c.push.new.self.ok.0), omega (arith, long))
