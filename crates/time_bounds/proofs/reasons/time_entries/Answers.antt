use Rattle.std.proofs.Common.{◌≡◌, ℕ, ◌+◌, List, [], ◌∷◌, length, map, All, ap, sym, subst, ◌∙◌, arith}
use Rattle.std.proofs.lemmas.List.{length-append}
use Rattle.std.proofs.lemmas.Iterator.Adapters.{YieldsList-from_vec}
use Rattle.std.proofs.lemmas.Iterator.Consumers.{YieldsList-turn}
use Rattle.outcome.specs.Views.{time_of}
use Rattle.outcome.specs.Printing.{HasItsGap}
use Rattle.outcome.specs.declared.entry.TimeEntry.{TimeEntry}
use Rattle.size_bounds.specs.Tables.{number_at}
use Rattle.size_bounds.specs.Tables.{bounds_in}
use Rattle.time_bounds.specs.ProgramSearches.{searches_of_program}
use Rattle.time_bounds.specs.Questions.{program_in}
use Rattle.time_bounds.specs.TimesSaid.{AreTimesOver}
use Rattle.time_bounds.specs.TriedRules.{IsAskedOver}
use Rattle.time_bounds.proofs.TimeNumbers.{times_carried, gaps_ordered}
use Rattle.time_bounds.proofs.NamedGaps.{said_grown, gaps_grown, grown_few}
use Rattle.time_bounds.proofs.NumberedLists.{each_read}
use Rattle.time_bounds.proofs.reasons.time_entries.Goals as goal

pub time_entry-requires-clause-asked : goal.time_entry-requires-clause-asked
time_entry-requires-clause-asked c =
    let b = bounds_in c.args.table.now in
    let gives = c.into_iter-question-iterator.ensures.into_iter_gives in
    let t = YieldsList-turn (YieldsList-from_vec {s = c.into_iter-question-iterator.result} c.args.asked.items gives.0 (gives.1 ∙ c.args.asked.ok.0))
    c.loop-question.yielded c.loop-question.question-iterator c.loop-question.yielded_by c.next.result c.next.new.self c.in-Some.question
    c.in-Some.is c.next.ensures.steps in
    subst (λ (n : ℕ). IsAskedOver (program_in c.args.cx.now) b b c.args.cx.now.pivots c.args.cx.now.empties.items n c.in-Some.question)
    (let z : 1 + length c.loop-question.yielded ≡ c.len.result + 1 = omega (arith, c.len.ensures, c.loop-question.times.ok.0, c.loop-question.invariant.one_each) in z)
    (each_read (IsAskedOver (program_in c.args.cx.now) b b c.args.cx.now.pivots c.args.cx.now.empties.items) 1 (length c.loop-question.yielded)
    c.args.asked.items c.in-Some.question c.requires.asked t.0 t.1)

pub loop-question-preserved : goal.loop-question-preserved
loop-question-preserved c =
    let p = program_in c.args.cx.now in
    let q = searches_of_program p c.args.cx.now.pivots in
    let b = bounds_in c.args.table.now in
    let pushed = c.in_ok-push.ensures.items in
    let more = length-append c.loop-question.yielded (c.in-Some.question ∷ []) in
    record {
      hold = c.in_ok-time_entry.ensures.hold;
      carried =
          times_carried (number_at c.args.table.now) c.loop-question.times.items _ c.in_ok-time_entry.field-0 (c.len.result + 1)
          c.loop-question.invariant.carried pushed
          (let z : c.len.result + 1 ≡ length c.loop-question.times.items + 1 = omega (arith, c.len.ensures, c.loop-question.times.ok.0) in z)
          c.in_ok-time_entry.ensures.carries;
      in_order =
          gaps_ordered c.loop-question.times.items _ c.in_ok-time_entry.field-0 (length c.loop-question.gaps.items) (length c.time_entry.new.gaps.items)
          c.loop-question.invariant.in_order pushed c.in_ok-time_entry.ensures.in_order;
      one_each =
          omega (
            arith,
            ap (λ (xs : List TimeEntry). length xs) pushed,
            length-append c.loop-question.times.items (c.in_ok-time_entry.field-0 ∷ []),
            more,
            c.loop-question.invariant.one_each,
          );
      few = omega (arith, grown_few c.loop-question.gaps.items c.time_entry.new.gaps.items c.in_ok-time_entry.ensures.grown, more, c.loop-question.invariant.few);
      said =
          subst (λ (xs : List TimeEntry). AreTimesOver q p b 1 (map (time_of c.time_entry.new.gaps.items) xs)) (sym {A = List TimeEntry} pushed)
          (said_grown q p b c.loop-question.gaps.items c.time_entry.new.gaps.items c.loop-question.times.items c.in_ok-time_entry.field-0 (c.len.result + 1)
          c.in_ok-time_entry.ensures.grown c.loop-question.invariant.gaps c.loop-question.invariant.said
          (let z : c.len.result + 1 ≡ 1 + length c.loop-question.times.items = omega (arith, c.len.ensures, c.loop-question.times.ok.0) in z)
          c.in_ok-time_entry.ensures.said);
      gaps =
          subst (λ (xs : List TimeEntry). All (HasItsGap (length c.time_entry.new.gaps.items)) xs) (sym {A = List TimeEntry} pushed)
          (gaps_grown c.loop-question.gaps.items c.time_entry.new.gaps.items c.loop-question.times.items c.in_ok-time_entry.field-0 c.in_ok-time_entry.ensures.grown
          c.loop-question.invariant.gaps c.in_ok-time_entry.ensures.gap);
    }
