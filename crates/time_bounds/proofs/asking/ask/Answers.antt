use Rattle.std.proofs.Common.{◌≡◌, ℕ, List, sym, subst}
use Rattle.its_model.specs.Views.{program_of}
use Rattle.rank_search.specs.rule_questions.ProgramQuestions.{places_of}
use Rattle.bound_fixpoint.specs.Sets.{IsSetOfRule, AreShutOf}
use Rattle.time_bounds.specs.declared.asking.AnsweredRankQuestion.{AnsweredRankQuestion}
use Rattle.size_bounds.specs.Tables.{bounds_in}
use Rattle.time_bounds.specs.Questions.{IsAsked}
use Rattle.time_bounds.proofs.SetLaws.{open_rule, rule_set, may_all_run}
use Rattle.time_bounds.proofs.AnswerLaws.{both}
use Rattle.time_bounds.proofs.asking.ask.Goals as goal

pub answered-requires-clause-rules : goal.answered-requires-clause-rules
answered-requires-clause-rules c =
    let p = program_of c.args.cx.now.program.now in
    let tab = bounds_in c.args.table.now in
    let open_is = open_rule p c.args.table.now c.args.parts.now.untimed.items c.args.rule c.requires.parts.flags c.requires.table.start
    c.requires.untimed in
    rule_set p tab c.args.rule c.in_ok-found.found.set.items open_is.start open_is.rule c.in_ok-found.ensures.set.set

pub answered-requires-clause-may_run : goal.answered-requires-clause-may_run
answered-requires-clause-may_run c =
    let p = program_of c.args.cx.now.program.now in
    let tab = bounds_in c.args.table.now in
    let open_is = open_rule p c.args.table.now c.args.parts.now.untimed.items c.args.rule c.requires.parts.flags c.requires.table.start
    c.requires.untimed in
    may_all_run p tab c.args.rule c.in_ok-found.found.set.items c.args.cx.now.empties.items open_is.untimed c.in_ok-found.ensures.set.set
    c.requires.table.empty.each

pub returns-clause-asked : goal.returns-clause-asked
returns-clause-asked c =
    let p = program_of c.args.cx.now.program.now in
    let tab = bounds_in c.args.table.now in
    let set = c.in_ok-found.found.set.items in
    let shut = c.in_ok-found.found.shut.items in
    both c.answered.result (λ (a : AnsweredRankQuestion). a.set.items ≡ set) (λ (a : AnsweredRankQuestion). a.shut.items ≡ shut)
    (λ (a : AnsweredRankQuestion). IsAsked p tab c.args.rule a)
    (λ a f g. record {
      set = subst (λ (xs : List ℕ). IsSetOfRule p tab c.args.rule xs) (sym f) c.in_ok-found.ensures.set.set;
      shut = subst (λ (xs : List ℕ). AreShutOf p tab xs (places_of a.shut.items)) (sym f)
          (subst (λ (ys : List (ℕ × ℕ)). AreShutOf p tab set (places_of ys)) (sym g) c.in_ok-found.ensures.set.shut);
    }) c.answered.ensures.set c.answered.ensures.shut
