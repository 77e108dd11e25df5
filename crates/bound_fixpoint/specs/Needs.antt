-- The premises of nodes: the keys of the bounds that they need, and the lemmas that state these.
use Rattle.std.specs.Prelude.{ℕ, suc, ◌==◌, not, cond, List, [], ◌∷◌, ◌++◌, ℤ, map, filter}
use Rattle.rule_questions.specs.int_laws.NormalForm.{is_zero}
use Rattle.rule_questions.specs.model.Programs.{Program}
use Rattle.rule_questions.specs.model.Paths.{target_of}
use Rattle.rule_questions.specs.model.Entries.{is_in, entries}
use Rattle.rule_questions.specs.cert_rules.Nodes.{ResultVariable, Member, RankNode, Proof, Proofs, NoProof, AndProof, Start}
use Rattle.rule_questions.specs.cert_rules.Nodes.{Cite}
use Rattle.rule_questions.specs.cert_rules.Nodes.{Empty, Unreached, Never, Rank, Spread, Cycle}
use Rattle.rule_questions.specs.cert_rules.Setting.{Setting}
use Rattle.rule_questions.specs.cert_rules.Known.{Table}
use Rattle.rule_questions.specs.cert_rules.Checks.{needed_into, needed_times}
use Rattle.rule_questions.specs.cert_rules.Composed.{rank_form}
use Rattle.bound_fixpoint.specs.Keys.{Bounds, key, time_key, over}
use Rattle.bound_fixpoint.specs.Derivations.{Node, EmptyBy, UnreachedBy, NeverBy, RankBy, SpreadBy, CycleBy, Derivation, number_in}

-- the places that a form reads, ascending; the first of them has this number
abbrev pub read_places : ℕ → List ℤ → List ℕ
read_places i [] = []
read_places i (c ∷ cs) = cond (is_zero c) (read_places (suc i) cs) (i ∷ read_places (suc i) cs)

-- the premises of a ranking function at an entry: the entry's time, and then its sizes at the places that the function
-- reads after it
abbrev pub entry_premises : Program → RankNode → ℕ → List ResultVariable
entry_premises p node e =
    time_key e ∷ map (λ i. key e i) (read_places 1 (rank_form node.forms (target_of p e)).coefs)

abbrev pub premises_of_all : Program → RankNode → List ℕ → List ResultVariable
premises_of_all p node [] = []
premises_of_all p node (e ∷ es) = entry_premises p node e ++ premises_of_all p node es

-- the premises of a ranking node: those at each entry of its set, ascending
abbrev pub rank_premises : Program → RankNode → List ResultVariable
rank_premises p node = premises_of_all p node (entries p node.set)

-- the premises of a spread node: the sizes that its side bounds read, after each rule that can come before, up before
-- low
abbrev pub spread_premises : Setting → Member → List ResultVariable
spread_premises s m = needed_into s [] (m ∷ [])

-- the premises of a loop node: the sizes that its side bounds read outside the loop, member by member, and then the
-- times of the rules that multiply or add
abbrev pub cycle_premises : Setting → Table → List Member → List ResultVariable
cycle_premises s tab members = needed_into s members members ++ map time_key (needed_times s tab members)

-- the premises of a node over bounds; those of an unreached rule are the times of the rules that are known never to
-- run, which the node doesn't list
abbrev pub needs_of : Setting → Bounds → Node → List ResultVariable
needs_of s b (EmptyBy t multipliers) = []
needs_of s b (UnreachedBy t) = []
needs_of s b (NeverBy t) = time_key t ∷ []
needs_of s b (RankBy node) = rank_premises s.program node
needs_of s b (SpreadBy m) = spread_premises s m
needs_of s b (CycleBy members) = cycle_premises s (over b) members

-- each number once, in the order in which they come first
abbrev pub once : List ℕ → List ℕ
once [] = []
once (n ∷ ns) = n ∷ filter (λ m. not (m == n)) (once ns)

-- these lemmas, each cited
abbrev pub cites : List ℕ → Proofs
cites [] = NoProof
cites (n ∷ ns) = AndProof (Cite n) (cites ns)

-- the virtual entry first, where it is needed, and then each other lemma once, in the order in which the needed bounds
-- come
abbrev pub uses_from : List ℕ → Proofs
uses_from ns =
    cond (is_in 0 ns)
    (AndProof Start (cites (once (filter (λ n. not (n == 0)) ns))))
    (cites (once (filter (λ n. not (n == 0)) ns)))

-- the lemmas of needed bounds, where these are the numbers
abbrev pub uses_for : (ℕ → ℕ → ℕ) → List ResultVariable → Proofs
uses_for number premises = uses_from (map (λ k. number k.rule k.place) premises)

-- the lemma of a derivation
abbrev pub lemma_by : (ℕ → ℕ → ℕ) → Node → List ResultVariable → Proof
lemma_by number (EmptyBy t multipliers) premises = Empty t multipliers
lemma_by number (UnreachedBy t) premises = Unreached t (uses_for number premises)
lemma_by number (NeverBy t) premises = Never (Cite (number t 0))
lemma_by number (RankBy node) premises = Rank node (uses_for number premises)
lemma_by number (SpreadBy m) premises = Spread m (uses_for number premises)
lemma_by number (CycleBy members) premises = Cycle members (uses_for number premises)

-- a lemma for each derivation, in order
abbrev pub lemmas_of : List Derivation → List Proof
lemmas_of fs = map (λ f. lemma_by (number_in fs) f.node f.premises) fs
