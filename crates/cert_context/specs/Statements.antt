-- The facts of earlier lemmas, as the checker stores them.
use Rattle.std.specs.Prelude.{Result, Ok, Err, ℕ, zero, suc, List, [], ◌∷◌, ◌++◌, map}
use Rattle.std.specs.List.{All}
use Rattle.std.specs.Global.{Vec}
use Rattle.model.specs.Facts as plain
use Rattle.cert_types.specs.declared.fact.Fact.{Fact}
use Rattle.cert_types.specs.Views.{facts_of}
use Rattle.cert_types.specs.cert_rules.Laws.{HasBasedBound}
use Rattle.cert_context.specs.declared.stated_facts.StatedFacts.{StatedFacts}
use Rattle.cert_context.specs.declared.stated_facts.PremiseFacts.{PremiseFacts}
use Rattle.cert_context.specs.declared.stated_facts.PremiseFacts.TheVariants as by
use Rattle.cert_context.specs.declared.refusal.NodeFault.{NodeFault}

-- facts joined in order
abbrev pub all_facts : List (List plain.Fact) → List plain.Fact
all_facts [] = []
all_facts (facts ∷ others) = facts ++ all_facts others

-- the facts at a position of a list of lists of facts; past its end, none
abbrev pub facts_from : List (Vec Fact) → ℕ → List plain.Fact
facts_from [] n = []
facts_from (facts ∷ others) zero = facts_of facts.items
facts_from (facts ∷ others) (suc n) = facts_from others n

-- the facts stored at a position
abbrev pub stated_at : StatedFacts → ℕ → List plain.Fact
stated_at kept n = facts_from kept.stated.items n

-- the facts of the lemmas before, lemma by lemma
abbrev pub past_of : StatedFacts → List (List plain.Fact)
past_of kept = map (stated_at kept) kept.lemmas.items

-- the facts that a premise states
abbrev pub facts_by : StatedFacts → PremiseFacts → List plain.Fact
facts_by kept (by.StatedFacts n) = stated_at kept n
facts_by kept (by.Own facts) = facts_of facts.items

-- the facts that several premises state, joined in order
abbrev pub joined_by : StatedFacts → List PremiseFacts → List plain.Fact
joined_by kept uses = all_facts (map (facts_by kept) uses)

-- the facts of the first of several premises; no fact if there are none
abbrev pub first_by : StatedFacts → List PremiseFacts → List plain.Fact
first_by kept [] = []
first_by kept (used ∷ uses) = facts_by kept used

-- every base in the bounds of facts is at least 1
abbrev pub AreBased : List plain.Fact → Type 0
AreBased facts = All HasBasedBound facts

-- the answer with a node's facts as facts of its own
abbrev pub owned_by : Result (Vec Fact) NodeFault → Result PremiseFacts NodeFault
owned_by (Ok facts) = Ok (by.Own facts)
owned_by (Err fault) = Err fault
