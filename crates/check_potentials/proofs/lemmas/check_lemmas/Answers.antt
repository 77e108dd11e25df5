use Rattle.std.proofs.Common.{◌≡◌, ◌++◌, ◌∷◌, [], ◌∙◌, Bool, List, length, map, refl, sym, ap, subst}
use Rattle.std.proofs.Common.{None, arith}
use Rattle.std.specs.Prelude.{option_map}
use Rattle.std.proofs.lemmas.List.{map-append}
use Rattle.signed_bounds.specs.Safe.{expands_to_squares}
use Rattle.potential_nodes.specs.Facts as plain
use Rattle.potential_nodes.specs.Facts.{AllSignedHold}
use Rattle.potential_nodes.specs.Acceptance.{refusal, fact_of, facts_after, first_refusal}
use Rattle.potential_types.specs.declared.facts.SignedFact.{SignedFact}
use Rattle.potential_types.specs.Views.{fact_view, lemma_of, reason_of}
use Rattle.check_potentials.specs.Grounds.{plain_ground, program}
use Rattle.never_rules.specs.Never.{TellNever}
use Rattle.check_potentials.proofs.ListLaws.{lemma-passed, lemma-found, lemma-none, facts-passed, facts-done}
use Rattle.check_potentials.proofs.lemmas.check_lemmas.Goals as goal

pub loop-i-init : goal.loop-i-init
loop-i-init c = record {
  refused = refl;
  facts_behind = refl;
  tell = subst (λ (fs : List SignedFact). TellNever (map fact_view fs) c.in_ok-never.never.items) c.deref.ensures.value
      c.in_ok-never.ensures.tell;
  all = c.in_ok-never.ensures.all;
}

pub refusal_given-requires-clause-tell : goal.refusal_given-requires-clause-tell
refusal_given-requires-clause-tell c =
    subst (λ (fs : List SignedFact). TellNever (map fact_view fs) c.deref-in-loop-i-2.result.now)
    (sym c.deref-in-loop-i.ensures.value)
    (subst (λ (flags : List Bool). TellNever (map fact_view c.loop-i.stated.items) flags)
    (sym c.deref-in-loop-i-2.ensures.value) c.loop-i.invariant.tell)

pub refusal_given-requires-clause-all : goal.refusal_given-requires-clause-all
refusal_given-requires-clause-all c =
    omega (arith, c.loop-i.invariant.all, ap length c.deref-in-loop-i-2.ensures.value)

pub loop-i-preserved : goal.loop-i-preserved
loop-i-preserved c =
    let g = plain_ground c.args.ground in
    let facts = map fact_view c.loop-i.stated.items in
    let l = c.index-lemmas-i.result in
    let all = first_refusal g (map fact_view c.args.facts.items) 1 (map lemma_of c.args.lemmas.now) in
    let accepted : None ≡ refusal g facts (lemma_of l) =
    sym (ap (option_map reason_of) c.in_default.is)
    ∙ (c.in_ok-refused.ensures
    ∙ ap (λ (fs : List SignedFact). refusal g (map fact_view fs) (lemma_of l)) c.deref-in-loop-i.ensures.value) in
    let pushed : map fact_view c.push.new.self.items ≡ facts ++ fact_view c.in_ok-fact.fact ∷ [] =
    ap (map fact_view) c.in_ok-push.ensures.items
    ∙ map-append fact_view c.loop-i.stated.items (c.in_ok-fact.fact ∷ []) in
    let added : map fact_view c.push.new.self.items ≡ facts ++ fact_of facts (lemma_of l) ∷ [] =
    pushed
    ∙ ap (λ (f : plain.SignedFact). facts ++ f ∷ []) (c.in_ok-fact.ensures
    ∙ ap (λ (fs : List SignedFact). fact_of (map fact_view fs) (lemma_of l)) c.deref-in-loop-i-3.ensures.value) in
    record {
      refused = rw added (lemma-passed g facts c.args.lemmas.now c.loop-i.i l all (omega arith) c.index-lemmas-i.is
          accepted c.loop-i.invariant.refused);
      facts_behind = rw added (facts-passed g facts c.args.lemmas.now c.loop-i.i l
          (facts_after (map fact_view c.args.facts.items) (map lemma_of c.args.lemmas.now)) (omega arith)
          c.index-lemmas-i.is c.loop-i.invariant.facts_behind);
      tell = subst (λ (fs : List plain.SignedFact). TellNever fs c.mark_never.new.never.items) (sym pushed)
          (c.mark_never.ensures.tell facts c.loop-i.invariant.tell);
      all = omega (arith, c.mark_never.ensures.length, c.loop-i.invariant.all);
    }

pub returns-in-Some-clause-judged : goal.returns-in-Some-clause-judged
returns-in-Some-clause-judged c =
    let g = plain_ground c.args.ground in
    let facts = map fact_view c.loop-i.stated.items in
    let l = c.index-lemmas-i.result in
    let all = first_refusal g (map fact_view c.args.facts.items) 1 (map lemma_of c.args.lemmas.now) in
    lemma-found g facts c.args.lemmas.now c.loop-i.i l (reason_of c.in-Some.reason) all (omega arith)
    c.index-lemmas-i.is
    (sym (ap (option_map reason_of) c.in-Some.is)
    ∙ (c.in_ok-refused.ensures
    ∙ ap (λ (fs : List SignedFact). refusal g (map fact_view fs) (lemma_of l)) c.deref-in-loop-i.ensures.value))
    c.loop-i.invariant.refused

pub returns-clause-judged : goal.returns-clause-judged
returns-clause-judged c =
    let g = plain_ground c.args.ground in
    let facts = map fact_view c.loop-i.stated.items in
    record {
      refused = lemma-none g facts c.args.lemmas.now c.loop-i.i
          (first_refusal g (map fact_view c.args.facts.items) 1 (map lemma_of c.args.lemmas.now)) (omega arith)
          c.loop-i.invariant.refused;
      facts_behind = facts-done g facts c.args.lemmas.now c.loop-i.i
          (facts_after (map fact_view c.args.facts.items) (map lemma_of c.args.lemmas.now)) (omega arith)
          c.loop-i.invariant.facts_behind;
    }

pub returns-clause-sound : goal.returns-clause-sound
returns-clause-sound c =
    let g = plain_ground c.args.ground in
    let p = program c.args.ground in
    let start = map fact_view c.args.facts.items in
    let lemmas = map lemma_of c.args.lemmas.now in
    let facts = map fact_view c.loop-i.stated.items in
    let refused = lemma-none g facts c.args.lemmas.now c.loop-i.i (first_refusal g start 1 lemmas) (omega arith)
    c.loop-i.invariant.refused in
    let behind = facts-done g facts c.args.lemmas.now c.loop-i.i (facts_after start lemmas) (omega arith)
    c.loop-i.invariant.facts_behind in
    λ hold. subst (AllSignedHold p) (sym behind)
    (c.accepted_lemmas_hold.ensures g start 1 lemmas
    (c.rows_are_true_ground.ensures.ground p expands_to_squares c.requires.valid)
    c.squares_are_safe.ensures.safe hold refused)
