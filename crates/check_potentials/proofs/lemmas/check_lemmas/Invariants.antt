use Rattle.std.proofs.Common.{◌≡◌, ◌+◌, ◌<◌, drop, length, map}
use Rattle.potential_nodes.specs.Acceptance.{facts_after, first_refusal}
use Rattle.potential_types.specs.Views.{fact_view, lemma_of}
use Rattle.check_potentials.specs.Grounds.{plain_ground}
use Rattle.never_rules.specs.Never.{TellNever}
use Rattle.check_potentials.proofs.lemmas.check_lemmas.Given as goal

-- the lemmas that are left decide, after the facts stated so far, whose flags are kept
abbrev pub invariant-loop-i : goal.invariant-loop-i
invariant-loop-i l = record {
  refused : first_refusal (plain_ground l.ground) (map fact_view l.stated.items) (l.i + 1)
      (map lemma_of (drop l.i l.lemmas))
      ≡ first_refusal (plain_ground l.ground) (map fact_view l.fn.facts.items) 1 (map lemma_of l.lemmas);
  facts_behind : facts_after (map fact_view l.stated.items) (map lemma_of (drop l.i l.lemmas))
      ≡ facts_after (map fact_view l.fn.facts.items) (map lemma_of l.lemmas);
  tell : TellNever (map fact_view l.stated.items) l.never.items;
  all : length l.ground.program.now.rules.items < length l.never.items;
}
