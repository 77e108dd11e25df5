use Rattle.std.proofs.Common.{◌≡◌, List, length, Option, None, sym, ◌∙◌, ap, subst, arith}
use Rattle.std.proofs.lemmas.List.{length-map, length-replicate}
use Rattle.its_model.specs.Views.{rule_of}
use Rattle.time_bounds.specs.declared.asking.AnsweredRankQuestion.{AnsweredRankQuestion}
use Rattle.time_bounds.specs.declared.sizing.ComponentAttempt.{ComponentAttempt}
use Rattle.time_bounds.specs.Questions.{AreAnsweredFrom, program_in}
use Rattle.time_bounds.specs.RoundsMade.{known_with}
use Rattle.time_bounds.specs.EarlierAnswers.{WereAttempts}
use Rattle.time_bounds.proofs.AnsweredQuestions.{none_kept}
use Rattle.time_bounds.proofs.MadeRounds.{round_made, round_kept, same_derivations, fewer_missing}
use Rattle.time_bounds.proofs.TrueAnswers.{were-none}
use Rattle.time_bounds.proofs.rounds.rounds.Goals as goal

pub loop-kept-init : goal.loop-kept-init
loop-kept-init c =
    let cx = c.args.cx.now in
    let b = known_with cx c.args.derived.now.derivations.items in
    let nothing : Option AnsweredRankQuestion = None in
    record {
      made = c.requires.made;
      kept = record {
        one_each =
            let long : length c.in_ok-kept.kept.asked.items ≡ c.len.result =
            ap (λ (os : List (Option AnsweredRankQuestion)). length os) c.in_ok-kept.ensures.asked ∙ length-replicate c.len.result nothing in
            omega (arith, long, c.len.ensures, cx.program.now.rules.ok.0, length-map cx.program.now.rules.items rule_of);
        answered =
            subst (λ (os : List (Option AnsweredRankQuestion)). AreAnsweredFrom (program_in cx) cx.pivots cx.empties.items 1 os)
            (sym c.in_ok-kept.ensures.asked) (none_kept (program_in cx) cx.pivots cx.empties.items 1 c.len.result);
        first = b;
        attempts =
            subst (λ (xs : List ComponentAttempt). WereAttempts (program_in cx) cx.pivots b b c.args.candidates.now xs)
            (sym c.in_ok-kept.ensures.attempts) (were-none (program_in cx) cx.pivots b b c.args.candidates.now);
      };
      derived = c.requires.derived;
    }

pub loop-kept-smaller : goal.loop-kept-smaller
loop-kept-smaller c =
    fewer_missing c.args.cx.now c.args.candidates.now c.loop-kept.derived.derivations.items c.next_round.new.derived.derivations.items c.in_ok-kept-2.kept
    c.in_ok-kept-2.ensures.round
    (λ e. let f : ⊥ = grind (
      arith,
      e,
      c.if-len-before.false,
      c.len-before.ensures,
      c.len-in-loop-kept.ensures,
      c.loop-kept.derived.derivations.ok.0,
      c.next_round.new.derived.derivations.ok.0,
    ) in f)

pub loop-kept-preserved : goal.loop-kept-preserved
loop-kept-preserved c = record {
  made =
      round_made c.args.cx.now c.args.candidates.now c.loop-kept.derived.derivations.items c.next_round.new.derived.derivations.items c.in_ok-kept-2.kept
      c.loop-kept.invariant.made c.in_ok-kept-2.ensures.round;
  kept =
      round_kept c.args.cx.now c.args.candidates.now c.loop-kept.derived.derivations.items c.next_round.new.derived.derivations.items c.in_ok-kept-2.kept
      c.in_ok-kept-2.ensures.round;
  derived = c.in_ok-kept-2.ensures.derived;
}

pub returns-then-len-before-clause-made : goal.returns-then-len-before-clause-made
returns-then-len-before-clause-made c =
    round_made c.args.cx.now c.args.candidates.now c.loop-kept.derived.derivations.items c.next_round.new.derived.derivations.items c.in_ok-kept-2.kept
    c.loop-kept.invariant.made c.in_ok-kept-2.ensures.round

pub returns-then-len-before-clause-last : goal.returns-then-len-before-clause-last
returns-then-len-before-clause-last c =
    let same : length c.next_round.new.derived.derivations.items ≡ length c.loop-kept.derived.derivations.items =
    omega (arith, c.if-len-before.true, c.len-before.ensures, c.len-in-loop-kept.ensures, c.loop-kept.derived.derivations.ok.0, c.next_round.new.derived.derivations.ok.0) in
    same_derivations c.args.cx.now c.args.candidates.now c.loop-kept.derived.derivations.items c.next_round.new.derived.derivations.items c.in_ok-kept-2.kept
    c.in_ok-kept-2.ensures.round same
