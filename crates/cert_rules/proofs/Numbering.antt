-- A lemma is accepted exactly if each of its nodes is accepted by itself.
use Rattle.std.proofs.Common.{◌↔◌, List, [], ◌∷◌, ◌++◌}
use Rattle.std.specs.List.{AllByRecursion}
use Rattle.std.proofs.lemmas.List.Elements.{All-from_recursion, recursion_from_All}
use Rattle.run_counting.specs.model.Facts.{Fact}
use Rattle.cert_rules.specs.Nodes.{Proof, Cite, Start, Empty, Unreached, Never, Rank, Spread, Cycle, Weaken, CostBound}
use Rattle.cert_rules.specs.Nodes.{Proofs, NoProof, AndProof}
use Rattle.cert_rules.specs.Numbering.{nodes_of, nodes_of_all}
use Rattle.cert_rules.specs.Setting.{Setting}
use Rattle.cert_rules.specs.Acceptance.{AcceptsNode, Accepts, AllAccepted}
use Rattle.cert_rules.specs.RefusalLaws.{LemmasAreTheirNodes}
use Rattle.cert_rules.proofs.CheckLists.{each-append, append-each}

module _ (s : Setting) (past : List (List Fact)) where
  -- all these nodes are accepted by themselves
  abbrev AllPass : List Proof → Type 0
  AllPass nodes = AllByRecursion (AcceptsNode s past) nodes

  -- if premises are accepted exactly if these nodes are, then the premises and a last node exactly if all of them are
  with_last : {X : Type 0} (nodes : List Proof) (last : Proof) → X ↔ AllPass nodes
      → (X × AcceptsNode s past last) ↔ AllPass (nodes ++ last ∷ [])
  with_last nodes last same = (
    (λ h. each-append (AcceptsNode s past) nodes (last ∷ []) (same.0 h.0) (h.1, tt)),
    (λ h. let k = append-each (AcceptsNode s past) nodes (last ∷ []) h in (same.1 k.0, k.1.0)),
  )

  -- a node without premises
  alone : (node : Proof) → AcceptsNode s past node ↔ AllPass (node ∷ [])
  alone node = ((λ h. (h, tt)), (λ h. h.0))

  mutual
    -- a lemma is accepted exactly if its nodes are accepted by themselves
    node-by-node : (proof : Proof) → Accepts s past proof ↔ AllPass (nodes_of proof)
    node-by-node (Cite n) = alone (Cite n)
    node-by-node Start = alone Start
    node-by-node (Empty t multipliers) = alone (Empty t multipliers)
    node-by-node (Unreached t uses) = with_last (nodes_of_all uses) (Unreached t uses) (use-by-use uses)
    node-by-node (Never child) = with_last (nodes_of child) (Never child) (node-by-node child)
    node-by-node (Rank node uses) = with_last (nodes_of_all uses) (Rank node uses) (use-by-use uses)
    node-by-node (Spread m uses) = with_last (nodes_of_all uses) (Spread m uses) (use-by-use uses)
    node-by-node (Cycle members uses) = with_last (nodes_of_all uses) (Cycle members uses) (use-by-use uses)
    node-by-node (Weaken child b) = with_last (nodes_of child) (Weaken child b) (node-by-node child)
    node-by-node (CostBound node uses) = with_last (nodes_of_all uses) (CostBound node uses) (use-by-use uses)

    use-by-use : (uses : Proofs) → AllAccepted s past uses ↔ AllPass (nodes_of_all uses)
    use-by-use NoProof = ((λ h. tt), (λ h. tt))
    use-by-use (AndProof proof uses) = both (node-by-node proof) (use-by-use uses)
      where
        both : Accepts s past proof ↔ AllPass (nodes_of proof) → AllAccepted s past uses ↔ AllPass (nodes_of_all uses)
            → AllAccepted s past (AndProof proof uses) ↔ AllPass (nodes_of proof ++ nodes_of_all uses)
        both one rest = (
          (λ h. each-append (AcceptsNode s past) (nodes_of proof) (nodes_of_all uses) (one.0 h.0) (rest.0 h.1)),
          (λ h.
              let k = append-each (AcceptsNode s past) (nodes_of proof) (nodes_of_all uses) h in (one.1 k.0, rest.1 k.1)),
        )

  pub accepted-nodes : (proof : Proof) → Accepts s past proof → AllPass (nodes_of proof)
  accepted-nodes proof = (node-by-node proof).0

  pub nodes-accepted : (proof : Proof) → AllPass (nodes_of proof) → Accepts s past proof
  nodes-accepted proof = (node-by-node proof).1

-- a lemma is accepted exactly if each of its nodes is accepted by itself
pub lemmas-nodes : LemmasAreTheirNodes
lemmas-nodes = record {
  each = λ s past proof. (
    (λ h. All-from_recursion (AcceptsNode s past) (nodes_of proof) (accepted-nodes s past proof h)),
    (λ h. nodes-accepted s past proof (recursion_from_All (AcceptsNode s past) (nodes_of proof) h)),
  );
}
