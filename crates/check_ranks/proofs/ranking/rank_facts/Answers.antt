use Rattle.std.proofs.Common.{ℕ, Option, subst}
use Rattle.std.specs.Prelude.{MatchOption}
use Rattle.std.specs.List.{AllByRecursion}
use Rattle.gap_checks.specs.GapTests.{IsFirstFailing}
use Rattle.cert_types.specs.Views.{rank_of}
use Rattle.cert_types.specs.cert_rules.AcceptsRank.{Loses}
use Rattle.cert_context.specs.CheckContexts.{setting}
use Rattle.check_ranks.proofs.RankAnswers.{behind, no-floor, rises}
use Rattle.check_ranks.proofs.ranking.rank_facts.Goals as goal

pub returns-in-Some : goal.returns-in-Some
returns-in-Some g c =
    let s = setting c.args.context.now in
    let n = rank_of c.args.node.now in
    rises s (g.K.Known.table c.args.known.now) n (c.in_ok-is_right.ensures.0 c.if-not-is_right.false) c.in-Some.rule
    (subst (λ (o : Option ℕ). MatchOption o (AllByRecursion (Loses s n) n.set) (λ t. IsFirstFailing (Loses s n) n.set t))
    c.in-Some.is c.in_ok-rule.ensures)

pub returns-then-not-is_floored : goal.returns-then-not-is_floored
returns-then-not-is_floored g c =
    let s = setting c.args.context.now in
    let n = rank_of c.args.node.now in
    no-floor s (g.K.Known.table c.args.known.now) n (c.in_ok-is_right.ensures.0 c.if-not-is_right.false)
    (subst (λ (o : Option ℕ). MatchOption o (AllByRecursion (Loses s n) n.set) (λ t. IsFirstFailing (Loses s n) n.set t))
    c.in_default.is c.in_ok-rule.ensures)
    (λ h. let f = c.in_ok-is_floored.ensures.1 h in let no : ⊥ = cc in no)

pub returns : goal.returns
returns g c =
    let s = setting c.args.context.now in
    let n = rank_of c.args.node.now in
    behind s (g.K.Known.table c.args.known.now) n (c.in_ok-is_right.ensures.0 c.if-not-is_right.false)
    (subst (λ (o : Option ℕ). MatchOption o (AllByRecursion (Loses s n) n.set) (λ t. IsFirstFailing (Loses s n) n.set t))
    c.in_default.is c.in_ok-rule.ensures)
    (c.in_ok-is_floored.ensures.0 c.if-not-is_floored.false) c.time_facts.result _ c.time_facts.ensures
