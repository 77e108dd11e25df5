use Rattle.std.proofs.Common.{◌≡◌, ℕ, ◌+◌, List, [], ◌∷◌, ◌++◌, length, map, take, get_or, refl, sym, ◌∙◌, ap, subst, append_assoc, arith}
use Rattle.std.proofs.lemmas.List.{append-nil, length-append, length-take-le, map-append, take_more}
use Rattle.cert_types.specs.cert_program.Setting.{setting_of}
use Rattle.bound_fixpoint.specs.Answers.{Target, SizesOf}
use Rattle.bound_fixpoint.specs.Derivations as plain
use Rattle.bound_fixpoint.specs.Laws.{AreUniform}
use Rattle.bound_fixpoint.specs.Rounds.{Tries, TriesAll, InTurn}
use Rattle.bound_derivations.specs.Views.{derivations_of}
use Rattle.time_bounds.specs.declared.candidates.Candidate.{Candidate}
use Rattle.time_bounds.specs.declared.sizing.ComponentAttempt.{ComponentAttempt}
use Rattle.time_bounds.specs.Attempts.{ArePlacesOf}
use Rattle.time_bounds.specs.Candidates.{IsRightCandidate, result_variables_in}
use Rattle.time_bounds.specs.ProgramSearches.{searches_of_program}
use Rattle.time_bounds.specs.Questions.{program_in}
use Rattle.time_bounds.specs.RoundsMade.{known_with, AreSizesMade}
use Rattle.time_bounds.specs.EarlierAnswers.{WereAttempts}
use Rattle.time_bounds.proofs.CandidateComponents.{within_all}
use Rattle.time_bounds.proofs.SizeRounds.{tries_more, were-append, one_at, one_before, uniform_with}
use Rattle.time_bounds.proofs.TrueAnswers.{grown-itself, grown-by, were-wider, standing-there}
use Rattle.time_bounds.proofs.TablesOver.{table_with}
use Rattle.time_bounds.proofs.sizing.try_components.Goals as goal

pub loop-candidate-init : goal.loop-candidate-init
loop-candidate-init c = record {
  sizes = record {
    sizes = [];
    sized = refl;
    grown = sym (append-nil (derivations_of c.args.derived.now.derivations.items));
    one_each = ap (λ (xs : List ComponentAttempt). length xs) c.new-attempts.ensures.items;
    attempts_are =
        subst (λ (xs : List ComponentAttempt). WereAttempts (program_in c.args.cx.now) c.args.cx.now.pivots (known_with c.args.cx.now c.args.derived.now.derivations.items)
        (known_with c.args.cx.now c.args.derived.now.derivations.items) [] xs) (sym c.new-attempts.ensures.items) tt;
  };
  derived = c.requires.derived;
}

pub try_component-requires-clause-candidate : goal.try_component-requires-clause-candidate
try_component-requires-clause-candidate c = (
  c.requires.candidates.local,
  subst (λ (x : Candidate). IsRightCandidate (program_in c.args.cx.now) c.args.cx.now.pivots c.requires.candidates.local x) (sym c.candidate-item.is)
      (c.requires.candidates.each c.loop-candidate.candidate-index c.candidate-item.result c.loop-candidate-test.true),
)

pub try_component-requires-clause-within : goal.try_component-requires-clause-within
try_component-requires-clause-within c =
    subst (λ (x : Candidate). ArePlacesOf (program_in c.args.cx.now) x) (sym c.candidate-item.is)
    (within_all (program_in c.args.cx.now) c.args.cx.now.pivots c.args.candidates.now c.requires.candidates c.loop-candidate.candidate-index
    c.candidate-item.result c.loop-candidate-test.true)

pub try_component-requires-clause-uniform : goal.try_component-requires-clause-uniform
try_component-requires-clause-uniform c =
    let p = program_in c.args.cx.now in
    let pivots = c.args.cx.now.pivots in
    let i = c.loop-candidate.candidate-index in
    let made = c.requires.made in
    let so_far = c.loop-candidate.invariant.sizes in
    let all : derivations_of c.loop-candidate.derived.derivations.items ≡ (made.earlier ++ made.times) ++ so_far.sizes =
    so_far.grown ∙ ap (λ (fs : List plain.Derivation). fs ++ so_far.sizes) made.all in
    subst (λ (fs : List plain.Derivation). AreUniform (plain.bounds_of p fs) (result_variables_in c.candidate-item.result)) (sym all)
    (uniform_with p pivots c.args.candidates.now c.requires.candidates made.earlier made.times so_far.sizes made.made made.timed
    (map result_variables_in (take i c.args.candidates.now)) (λ d h. one_before c.args.candidates.now i d h)
    (subst (λ (fs : List plain.Derivation). TriesAll (searches_of_program p pivots) (setting_of p) InTurn fs
    (map SizesOf (map result_variables_in (take i c.args.candidates.now))) so_far.sizes) made.all so_far.sized)
    (result_variables_in c.candidate-item.result)
    (one_at c.args.candidates.now i c.candidate-item.result c.loop-candidate-test.true c.candidate-item.is))

pub try_component-requires-clause-again : goal.try_component-requires-clause-again
try_component-requires-clause-again c =
    let p = program_in c.args.cx.now in
    let pivots = c.args.cx.now.pivots in
    let i = c.loop-candidate.candidate-index in
    let old = c.args.derived.now.derivations.items in
    let now = c.loop-candidate.derived.derivations.items in
    let so_far = c.loop-candidate.invariant.sizes in
    let were = were-wider p pivots c.requires.before.0 (known_with c.args.cx.now old) c.requires.before.0 (known_with c.args.cx.now now)
    c.args.candidates.now c.args.before.now (grown-itself c.requires.before.0)
    (grown-by p (derivations_of old) so_far.sizes (derivations_of now) so_far.grown) c.requires.before.1 in
    let long = length-take-le i c.args.candidates.now (omega (arith, c.loop-candidate-test.true)) in
    let at : c.len.result ≡ i = omega (arith, c.len.ensures, c.loop-candidate.attempts.ok.0, so_far.one_each, long) in
    let is = c.candidate-item.is ∙ ap (λ (n : ℕ). get_or c.args.candidates.now n c.candidate-item.result) (sym at) in
    standing-there p pivots c.requires.before.0 (known_with c.args.cx.now now) _ c.args.candidates.now c.args.before.now c.len.result
    c.candidate-item.result c.standing-again.result
    (table_with p c.loop-candidate.derived.table now c.loop-candidate.invariant.derived) were is c.standing-again.ensures

pub loop-candidate-preserved : goal.loop-candidate-preserved
loop-candidate-preserved c =
    let cx = c.args.cx.now in
    let p = program_in cx in
    let i = c.loop-candidate.candidate-index in
    let x = c.in_ok-try_component.field-0 in
    let one = c.candidate-item.result in
    let old = c.args.derived.now.derivations.items in
    let now = c.loop-candidate.derived.derivations.items in
    let new = c.try_component.new.derived.derivations.items in
    let ds = take i c.args.candidates.now in
    let so_far = c.loop-candidate.invariant.sizes in
    let step = c.in_ok-try_component.ensures.step in
    let rows : ds ++ one ∷ [] ≡ take (i + 1) c.args.candidates.now =
    ap (λ (y : Candidate). ds ++ y ∷ []) c.candidate-item.is ∙ sym (take_more c.args.candidates.now i one c.loop-candidate-test.true) in
    let tries = subst (λ (fs : List plain.Derivation). Tries (searches_of_program p cx.pivots) (setting_of p) fs (SizesOf (result_variables_in one)) step.more)
    so_far.grown step.tries in
    let sized = subst (λ (gs : List Target). TriesAll (searches_of_program p cx.pivots) (setting_of p) InTurn (derivations_of old) gs
    (so_far.sizes ++ step.more))
    (sym (map-append SizesOf (map result_variables_in ds) (result_variables_in one ∷ []))
    ∙ ap (map SizesOf) (sym (map-append result_variables_in ds (one ∷ []))))
    (tries_more (searches_of_program p cx.pivots) (setting_of p) (derivations_of old) (map SizesOf (map result_variables_in ds)) so_far.sizes
    (SizesOf (result_variables_in one)) step.more so_far.sized tries) in
    let were = were-append p cx.pivots (known_with cx old) (known_with cx new) ds c.loop-candidate.attempts.items one x so_far.one_each
    (were-wider p cx.pivots (known_with cx old) (known_with cx now) (known_with cx old) (known_with cx new) ds c.loop-candidate.attempts.items
    (grown-itself (known_with cx old)) (grown-by p (derivations_of now) step.more (derivations_of new) step.grown) so_far.attempts_are)
    (record {
      between = known_with cx now;
      after = grown-by p (derivations_of old) so_far.sizes (derivations_of now) so_far.grown;
      before = grown-by p (derivations_of now) step.more (derivations_of new) step.grown;
      attempt = step.attempt;
      found = step.found;
    }) in
    let made : AreSizesMade cx (ds ++ one ∷ []) old new (c.loop-candidate.attempts.items ++ x ∷ []) = record {
      sizes = so_far.sizes ++ step.more;
      sized = sized;
      grown =
          step.grown
          ∙ (ap (λ (fs : List plain.Derivation). fs ++ step.more) so_far.grown ∙ append_assoc (derivations_of old) so_far.sizes step.more);
      one_each =
          let more = length-append c.loop-candidate.attempts.items (x ∷ []) in
          let longer = length-append ds (one ∷ []) in
          omega (arith, more, longer, so_far.one_each);
      attempts_are = were;
    } in
    record {
      sizes =
          subst (λ (xs : List ComponentAttempt). AreSizesMade cx (take (i + 1) c.args.candidates.now) old new xs) (sym c.in_ok-push.ensures.items)
          (subst (λ (cs : List Candidate). AreSizesMade cx cs old new (c.loop-candidate.attempts.items ++ x ∷ [])) rows made);
      derived = c.in_ok-try_component.ensures.derived;
    }
