-- Lists of derivations: such a list is the whole state of the rounds. Known bounds, and the numbers of lemmas, are
-- read off it.
use Rattle.std.specs.Prelude.{ℕ, zero, suc, cond, List, [], ◌∷◌, map, Option, Some, None}
use Rattle.rule_questions.specs.model.Programs.{Program}
use Rattle.rule_questions.specs.model.Bounds.{Bound}
use Rattle.rule_questions.specs.model.Facts.{Fact}
use Rattle.rule_questions.specs.model.Paths.{target_of}
use Rattle.rule_questions.specs.cert_rules.AcceptsPlain.{places_at}
use Rattle.rule_questions.specs.cert_rules.Nodes.{ResultVariable, Member, RankNode}
use Rattle.bound_fixpoint.specs.Keys.{Bounds, key, time_key, has_key, fact_at, start_bounds}

-- a node without its premises: the rows of a rule add up to -1 with these multipliers; a rule is unreached; a rule
-- never runs; a function ranks a rule; the size of a place that doesn't loop; and that of the members of a loop
pub data Node : Type 0 where
  EmptyBy : ℕ → List ℕ → Node
  UnreachedBy : ℕ → Node
  NeverBy : ℕ → Node
  RankBy : RankNode → Node
  SpreadBy : Member → Node
  CycleBy : List Member → Node

-- a derivation: the keys that get one bound; the proof node; the keys of the bounds that are its premises, in the
-- order of use; and the bound composed of these
pub record Derivation : Type 0 where
  pub keys : List ResultVariable
  pub node : Node
  pub premises : List ResultVariable
  pub bound : Bound

-- the keys of the places after a rule
abbrev pub keys_after : Program → ℕ → List ResultVariable
keys_after p t = map (λ i. key t i) (places_at p (target_of p t))

-- the keys whose bound a node states
abbrev pub keys_of : Program → Node → List ResultVariable
keys_of p (EmptyBy t multipliers) = time_key t ∷ []
keys_of p (UnreachedBy t) = time_key t ∷ []
keys_of p (NeverBy t) = keys_after p t
keys_of p (RankBy node) = time_key node.rule ∷ []
keys_of p (SpreadBy m) = m.result_variable ∷ []
keys_of p (CycleBy members) = map (λ m. m.result_variable) members

-- the derived bound of a key: that of the first derivation with the key
abbrev pub bound_found : List Derivation → Bounds
bound_found [] t i = None
bound_found (f ∷ fs) t i = cond (has_key f.keys t i) (Some f.bound) (bound_found fs t i)

-- the first bound, where there is one, else the second
abbrev pub first_of : Option Bound → Option Bound → Option Bound
first_of None b = b
first_of (Some a) b = Some a

-- all bounds known after these derivations: those of the virtual entry, and those derived
abbrev pub bounds_of : Program → List Derivation → Bounds
bounds_of p fs t i = first_of (start_bounds p t i) (bound_found fs t i)

-- the number of the first derivation with a key, if this many derivations come before; 0 if none has it
abbrev pub number_from : ℕ → List Derivation → ℕ → ℕ → ℕ
number_from n [] t i = 0
number_from n (f ∷ fs) t i = cond (has_key f.keys t i) (suc n) (number_from (suc n) fs t i)

-- the number of the lemma that states the bound of a key: lemmas are numbered from 1 in the order of derivations, and
-- 0 is the number of the virtual entry
abbrev pub number_in : List Derivation → ℕ → ℕ → ℕ
number_in fs zero i = 0
number_in fs (suc t) i = number_from 0 fs (suc t) i

-- the facts that a derivation states
abbrev pub facts_of_derivation : Derivation → List Fact
facts_of_derivation f = map (λ k. fact_at k f.bound) f.keys
