-- Lists of lemmas: what is known after accepted ones, and which lemma is refused first.
use Rattle.std.specs.Prelude.{◌≡◌, List, Some, None, ⊤}
use Rattle.potential_nodes.specs.Facts.{SignedFact}
use Rattle.potential_nodes.specs.Ground.{Ground}
use Rattle.potential_nodes.specs.SignedNodes.{SignedLemma}
use Rattle.potential_nodes.specs.Acceptance as acceptance
use Rattle.potential_nodes.specs.Acceptance.{facts_after, first_refusal}
use Rattle.potential_types.specs.Views.{reason_of}
use Rattle.check_potentials.specs.declared.lemmas.Refusal.{Refusal}
use Rattle.check_potentials.specs.declared.lemmas.LemmaFault.{LemmaFault}
use Rattle.check_potentials.specs.declared.lemmas.LemmaFault.TheVariants.{Refused, Memory}

-- a refusal as plain data
abbrev pub refusal_of : Refusal → acceptance.Refusal
refusal_of r = record { number = r.number; reason = reason_of r.reason }

-- no lemma is refused, and these are the facts after all of them
pub record Accepts (g : Ground) (facts : List SignedFact) (lemmas : List SignedLemma) (found : List SignedFact) : Type 0
  where
    pub refused : first_refusal g facts 1 lemmas ≡ None
    pub facts_behind : found ≡ facts_after facts lemmas

-- the fault is the first lemma that is refused; want of memory says nothing
abbrev pub Refuses : Ground → List SignedFact → List SignedLemma → LemmaFault → Type 0
Refuses g facts lemmas (Refused r) = first_refusal g facts 1 lemmas ≡ Some (refusal_of r)
Refuses g facts lemmas Memory = ⊤
