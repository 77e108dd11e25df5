-- A size that is found is accepted after lemmas that state the bounds of the table.
use Rattle.std.proofs.Common.{◌≡◌, List, [], ◌∷◌, refl, sym, ◌∙◌, ap, subst, Vec}
use Rattle.std.specs.declared.alloc.Global.{Global}
use Rattle.model.specs.Facts.{Fact}
use Rattle.cert_types.specs.declared.fact.Fact as code
use Rattle.cert_types.specs.declared.proof.Proof.{Proof}
use Rattle.cert_types.specs.cert_rules.Acceptance.{Accepts, facts_of}
use Rattle.cert_types.specs.cert_rules.AcceptsSizes.{spread_size, cycle_size}
use Rattle.cert_types.specs.cert_rules.Known as nodes
use Rattle.cert_types.specs.cert_rules.Nodes.{Member, Cycle, Spread}
use Rattle.cert_types.specs.cert_rules.Nodes as tree
use Rattle.cert_types.specs.cert_rules.Setting.{Setting}
use Rattle.cert_types.specs.Views.{proof_of, facts_of as facts_stated}
use Rattle.bound_fixpoint.specs.Keys.{Bounds, over}
use Rattle.bound_fixpoint.specs.Needs.{uses_for, spread_premises, cycle_premises}
use Rattle.bound_fixpoint.specs.Stated.{SayBounds}
use Rattle.bound_fixpoint.proofs.Keys.{size_fact}
use Rattle.bound_fixpoint.proofs.KnownPremises.{spread_known, cycle_known}
use Rattle.bound_fixpoint.proofs.NodeLemmas.{spread_lemma, spread_states, cycle_lemma, cycle_states, cycle_facts_at}
use Rattle.size_bounds.specs.declared.answer.SizeAnswer.TheVariants as answers
use Rattle.size_bounds.specs.declared.table.Table.{Table}
use Rattle.size_bounds.specs.Laws.{FoundSizesAreAccepted}
use Rattle.size_bounds.specs.SizeAnswers.{IsSpreadAnswer, IsCycleAnswer}
use Rattle.size_bounds.specs.Tables.{table_of, bounds_in, number_at}
use Rattle.size_bounds.proofs.TablesByKey.{table_by_key}

-- a node that is equal to one that is accepted and states some facts is accepted and states them
same_node : (s : Setting) (past : List (List Fact)) (x y : tree.Proof) (facts : List Fact) → x ≡ y → Accepts s past y
    → facts_of s past y ≡ facts → Accepts s past x × (facts_of s past x ≡ facts)
same_node s past x y facts e ok states = (subst (Accepts s past) (sym e) ok, ap (facts_of s past) e ∙ states)

module _ (s : Setting) (past : List (List Fact)) (t : Table) (all : Bounds)
    (say : SayBounds s past (number_at t) (bounds_in t) all) where
  -- the node found for a place that doesn't loop is accepted, and states its facts
  spread_found : (m : Member) (node : Proof) (facts : Vec code.Fact Global)
      → IsSpreadAnswer s (over (bounds_in t)) (number_at t) m (answers.Found node facts)
      → Accepts s past (proof_of node) × (facts_of s past (proof_of node) ≡ facts_stated facts.items)
  spread_found m node facts (ok, is, stated) =
      let known = spread_known (bounds_in t) s m ok in
      same_node s past (proof_of node) (Spread m (uses_for (number_at t) (spread_premises s m))) (facts_stated facts.items) is
      (spread_lemma s past (number_at t) (bounds_in t) all say m known ok)
      (spread_states s past (number_at t) (bounds_in t) all say m known ok
      ∙ (ap (λ (f : Fact). f ∷ [])
      (size_fact m.result_variable.rule m.result_variable.place (s.rewrite (spread_size s (over (bounds_in t)) m)) ok.shape.at.least)
      ∙ sym stated))

  -- the node found for the members of a loop is accepted, and states its facts
  cycle_found : (members : List Member) (node : Proof) (facts : Vec code.Fact Global)
      → IsCycleAnswer s (over (bounds_in t)) (number_at t) members (answers.Found node facts)
      → Accepts s past (proof_of node) × (facts_of s past (proof_of node) ≡ facts_stated facts.items)
  cycle_found members node facts (ok, is, stated) =
      let known = cycle_known (bounds_in t) s members ok in
      same_node s past (proof_of node)
      (Cycle members (uses_for (number_at t) (cycle_premises s (over (bounds_in t)) members))) (facts_stated facts.items) is
      (cycle_lemma s past (number_at t) (bounds_in t) all say members known ok)
      (cycle_states s past (number_at t) (bounds_in t) all say members known ok
      ∙ (sym (cycle_facts_at s (s.rewrite (cycle_size s (over (bounds_in t)) members)) members ok.shape.each)
      ∙ sym stated))

pub found_accepted : FoundSizesAreAccepted
found_accepted = record {
  spread = λ s past t all say m node facts h.
      spread_found s past t all say m node facts
      (subst (λ (tab : nodes.Table). IsSpreadAnswer s tab (number_at t) m (answers.Found node facts)) (table_by_key t) h);
  cycle = λ s past t all say members node facts h.
      cycle_found s past t all say members node facts
      (subst (λ (tab : nodes.Table). IsCycleAnswer s tab (number_at t) members (answers.Found node facts)) (table_by_key t)
      h);
}
