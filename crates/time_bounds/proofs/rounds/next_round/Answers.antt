use Rattle.std.proofs.Common.{List, ◌++◌, map, refl, sym, ◌∙◌, ap, subst, append_assoc}
use Rattle.std.proofs.lemmas.List.{length-map}
use Rattle.its_model.specs.Views.{rule_of}
use Rattle.cert_types.specs.cert_program.Setting.{setting_of}
use Rattle.bound_fixpoint.specs.Answers.{SizesOf}
use Rattle.bound_fixpoint.specs.Derivations as plain
use Rattle.bound_fixpoint.specs.Rounds.{TriesAll, InTurn}
use Rattle.bound_derivations.specs.Views.{derivations_of}
use Rattle.time_bounds.specs.declared.sizing.ComponentAttempt.{ComponentAttempt}
use Rattle.time_bounds.specs.Candidates.{result_variables_in}
use Rattle.time_bounds.specs.ProgramSearches.{searches_of_program}
use Rattle.time_bounds.specs.Questions.{program_in}
use Rattle.time_bounds.specs.RoundsMade.{known_with}
use Rattle.time_bounds.specs.EarlierAnswers.{WereAttempts}
use Rattle.time_bounds.proofs.CandidateComponents.{are_components, live_components}
use Rattle.time_bounds.proofs.TrueAnswers.{grown-itself, grown-by, were-wider, asked_still}
use Rattle.time_bounds.proofs.rounds.next_round.Goals as goal

pub times_of_round-requires-clause-one_each : goal.times_of_round-requires-clause-one_each
times_of_round-requires-clause-one_each c =
    c.requires.kept.one_each ∙ length-map c.args.cx.now.program.now.rules.items rule_of

pub times_of_round-requires-clause-kept : goal.times_of_round-requires-clause-kept
times_of_round-requires-clause-kept c = c.requires.kept.answered

pub try_components-requires-clause-before : goal.try_components-requires-clause-before
try_components-requires-clause-before c =
    let cx = c.args.cx.now in
    let p = program_in cx in
    let old = c.args.derived.now.derivations.items in
    let mid = c.times_of_round.new.derived.derivations.items in
    let times = c.in_ok-asked.ensures.times in
    let kept = c.requires.kept in (
      kept.first,
      subst (λ (xs : List ComponentAttempt). WereAttempts p cx.pivots kept.first (known_with cx mid) c.args.candidates.now xs) (sym c.deref.ensures.value)
          (were-wider p cx.pivots kept.first (known_with cx old) kept.first (known_with cx mid) c.args.candidates.now c.args.kept.attempts.items
          (grown-itself kept.first) (grown-by p (derivations_of old) times.times (derivations_of mid) times.grown) kept.attempts),
    )

pub try_components-requires-clause-made : goal.try_components-requires-clause-made
try_components-requires-clause-made c =
    let times = c.in_ok-asked.ensures.times in
    record {
      earlier = derivations_of c.args.derived.now.derivations.items;
      made = c.requires.made;
      times = times.times;
      timed = times.timed;
      all = times.grown;
    }

pub returns-clause-round : goal.returns-clause-round
returns-clause-round c =
    let cx = c.args.cx.now in
    let p = program_in cx in
    let cs = c.args.candidates.now in
    let old = c.args.derived.now.derivations.items in
    let mid = c.times_of_round.new.derived.derivations.items in
    let new = c.try_components.new.derived.derivations.items in
    let times = c.in_ok-asked.ensures.times in
    let sizes = c.in_ok-attempts.ensures.sizes in
    let by_times = grown-by p (derivations_of old) times.times (derivations_of mid) times.grown in
    let by_sizes = grown-by p (derivations_of mid) sizes.sizes (derivations_of new) sizes.grown in
    record {
      more = times.times ++ sizes.sizes;
      round = record {
        times = times.times;
        timed = times.timed;
        components = map result_variables_in cs;
        are_components = are_components p cx.pivots cs c.requires.candidates;
        live = live_components p cx.pivots cs c.requires.candidates;
        sizes = sizes.sizes;
        sized =
            subst (λ (fs : List plain.Derivation). TriesAll (searches_of_program p cx.pivots) (setting_of p) InTurn fs
            (map SizesOf (map result_variables_in cs)) sizes.sizes) times.grown sizes.sized;
        all = refl;
      };
      grown =
          sizes.grown
          ∙ (ap (λ (fs : List plain.Derivation). fs ++ sizes.sizes) times.grown ∙ append_assoc (derivations_of old) times.times sizes.sizes);
      one_each = times.one_each;
      asked = asked_still p (known_with cx old) (known_with cx mid) (known_with cx new) by_sizes cx.pivots cx.empties.items 1
          c.in_ok-asked.asked.items times.asked_are;
      tried = sizes.one_each;
      attempts = were-wider p cx.pivots (known_with cx mid) (known_with cx new) (known_with cx old) (known_with cx new) cs
          c.in_ok-attempts.attempts.items by_times (grown-itself (known_with cx new)) sizes.attempts_are;
    }
