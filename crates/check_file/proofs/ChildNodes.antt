-- The nodes of a lemma are those of its premises and then its last node; and its facts in terms of its premises' facts.
use Rattle.std.proofs.Common.{◌≡◌, ◌+◌, List, [], ◌∷◌, ◌++◌, length, map, refl, sym, ap, ◌∙◌}
use Rattle.std.proofs.lemmas.List.{append-nil, append_assoc, length-append}
use Rattle.model.specs.Facts.{Fact}
use Rattle.cert_types.specs.cert_rules.Nodes.{Proof, Cite, Start, Empty, Unreached, Never, Rank, Spread, Cycle, Weaken}
use Rattle.cert_types.specs.cert_rules.Nodes.{CostBound, Proofs, NoProof, AndProof}
use Rattle.cert_types.specs.cert_rules.Numbering.{nodes_of, nodes_of_all}
use Rattle.cert_types.specs.cert_rules.Acceptance.{facts_of, joined_facts}
use Rattle.cert_types.specs.cert_rules.Setting.{Setting}
use Rattle.cert_types.specs.Views.{uses_of}
use Rattle.check_file.specs.Children.{list_of, children_of, nodes_in}
use Rattle.cert_context.specs.Statements.{all_facts}

-- the nodes of premises are those of their list
uses-nodes : (us : Proofs) → nodes_of_all us ≡ nodes_in (list_of us)
uses-nodes NoProof = refl
uses-nodes (AndProof p us) = ap (λ (ns : List Proof). nodes_of p ++ ns) (uses-nodes us)

-- the nodes of one derivation are those of the list of it
one-child : (p : Proof) → nodes_of p ≡ nodes_in (p ∷ [])
one-child p = sym (append-nil (nodes_of p))

-- nodes, with one more at the end
abbrev behind : Proof → List Proof → List Proof
behind p ns = ns ++ p ∷ []

-- the nodes of a derivation are those of its premises, and then its last node
pub nodes-children : (p : Proof) → nodes_of p ≡ nodes_in (children_of p) ++ p ∷ []
nodes-children (Cite n) = refl
nodes-children Start = refl
nodes-children (Empty t multipliers) = refl
nodes-children (Unreached t us) = ap (behind (Unreached t us)) (uses-nodes us)
nodes-children (Never child) = ap (behind (Never child)) (one-child child)
nodes-children (Rank node us) = ap (behind (Rank node us)) (uses-nodes us)
nodes-children (Spread m us) = ap (behind (Spread m us)) (uses-nodes us)
nodes-children (Cycle members us) = ap (behind (Cycle members us)) (uses-nodes us)
nodes-children (Weaken child b) = ap (behind (Weaken child b)) (one-child child)
nodes-children (CostBound node us) = ap (behind (CostBound node us)) (uses-nodes us)

-- a derivation has one node more than its premises
pub count-children : (p : Proof) → length (nodes_of p) ≡ length (nodes_in (children_of p)) + 1
count-children p = ap length (nodes-children p) ∙ length-append (nodes_in (children_of p)) (p ∷ [])

-- the facts of premises are those of their list, joined
pub uses-facts : (s : Setting) (past : List (List Fact)) (us : Proofs)
    → joined_facts s past us ≡ all_facts (map (facts_of s past) (list_of us))
uses-facts s past NoProof = refl
uses-facts s past (AndProof p us) = ap (λ (fs : List Fact). facts_of s past p ++ fs) (uses-facts s past us)

-- the nodes of two lists joined are those of the first and then those of the second
pub nodes-append : (ps qs : List Proof) → nodes_in (ps ++ qs) ≡ nodes_in ps ++ nodes_in qs
nodes-append [] qs = refl
nodes-append (p ∷ ps) qs =
    ap (λ (ns : List Proof). nodes_of p ++ ns) (nodes-append ps qs)
    ∙ sym (append_assoc (nodes_of p) (nodes_in ps) (nodes_in qs))

-- the nodes of a list with one more derivation are those of the list and then those of that derivation
pub nodes-push : (ps : List Proof) (p : Proof) → nodes_in (ps ++ p ∷ []) ≡ nodes_in ps ++ nodes_of p
nodes-push ps p = nodes-append ps (p ∷ []) ∙ ap (λ (ns : List Proof). nodes_in ps ++ ns) (append-nil (nodes_of p))

-- a list as premises, and these as a list again, is the same list
pub list-uses : (ps : List Proof) → list_of (uses_of ps) ≡ ps
list-uses [] = refl
list-uses (p ∷ ps) = ap (λ (qs : List Proof). p ∷ qs) (list-uses ps)
