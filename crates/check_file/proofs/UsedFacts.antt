-- The facts of a node's premises, in the code and in the definitions.
use Rattle.std.proofs.Common.{◌≡◌, List, [], ◌∷◌, map, sym, ap, ◌∙◌}
use Rattle.std.specs.List.{AllByRecursion}
use Rattle.std.proofs.lemmas.List.Elements.{All-nil}
use Rattle.model.specs.Facts.{Fact}
use Rattle.cert_types.specs.cert_rules.Nodes.{Proofs}
use Rattle.cert_types.specs.cert_rules.Acceptance.{facts_of, joined_facts}
use Rattle.cert_types.specs.cert_rules.Setting.{Setting}
use Rattle.cert_context.specs.declared.stated_facts.StatedFacts.{StatedFacts}
use Rattle.cert_context.specs.declared.stated_facts.PremiseFacts.{PremiseFacts}
use Rattle.cert_context.specs.Statements.{AreBased, all_facts, facts_by, joined_by, first_by}
use Rattle.check_file.specs.Children.{list_of}
use Rattle.check_file.proofs.ChildNodes.{uses-facts}

-- the joined facts of the premises in the code are those of the definitions
pub joined-uses : (s : Setting) (past : List (List Fact)) (kept : StatedFacts) (uses : List PremiseFacts) (us : Proofs)
    → map (facts_by kept) uses ≡ map (facts_of s past) (list_of us) → joined_by kept uses ≡ joined_facts s past us
joined-uses s past kept uses us e = ap all_facts e ∙ sym (uses-facts s past us)

-- the facts of the first premise, if there is only one, are the facts of that one
pub first-child : (kept : StatedFacts) (uses : List PremiseFacts) (fs : List Fact) → map (facts_by kept) uses ≡ fs ∷ []
    → first_by kept uses ≡ fs
first-child kept [] fs e = absurd (let no : ⊥ = cc in no)
first-child kept (used ∷ uses) fs e = same (facts_by kept used) fs (map (facts_by kept) uses) e
  where
    same : (a b : List Fact) (rest : List (List Fact)) → a ∷ rest ≡ b ∷ [] → a ≡ b
    same a b rest k = cc

-- if the bounds of all premises' facts have bases of at least 1, so have those of the first
pub first-based : (kept : StatedFacts) (uses : List PremiseFacts) → AllByRecursion AreBased (map (facts_by kept) uses)
    → AreBased (first_by kept uses)
first-based kept [] h = All-nil _
first-based kept (used ∷ uses) h = h.0
