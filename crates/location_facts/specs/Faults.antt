-- Facts with their proofs, and their first fault.
use Rattle.std.specs.Prelude.{◌≡◌, ◌⊎◌, ℕ, zero, suc, ◌+◌, ◌<◌, ◌≤◌, List, map, filter, length, Option, Some, None}
use Rattle.std.specs.Prelude.{slice_get}
use Rattle.std.specs.List.{All, range_with_len}
use Rattle.poly_terms.specs.model.Programs.{Program}
use Rattle.poly_terms.specs.model.Paths.{target_of, same_symbol}
use Rattle.rule_questions.specs.ProgramQuestions.{forms_at}
use Rattle.location_facts.specs.declared.fact.LocFact.{LocFact}
use Rattle.location_facts.specs.declared.fact.LocFacts.{LocFacts}
use Rattle.location_facts.specs.declared.fact.FactProof.{FactProof}
use Rattle.location_facts.specs.declared.fact.FactFault.{FactFault}
use Rattle.location_facts.specs.Candidates.{IsCandidate, order_number}
use Rattle.location_facts.specs.Certificates.{IsWithinLimit, Shows}
use Rattle.location_facts.specs.Rows.{row_after, combined}

-- the rules that lead to a symbol, ascending
abbrev pub rules_into : Program → ℕ → List ℕ
rules_into p s = filter (λ t. same_symbol (target_of p t) (Some s)) (range_with_len 1 (length p.rules))

-- the proofs of each fact, as lists
abbrev pub proofs_of : LocFacts → List (List FactProof)
proofs_of f = map (λ proofs. proofs.items) f.proofs.items

-- the least number in the order of facts that the fact at a position may have: one more than that of the fact before it
abbrev pub number_in : Option LocFact → ℕ
number_in None = 0
number_in (Some f) = order_number f

abbrev pub least_number : List LocFact → ℕ → ℕ
least_number kept zero = 0
least_number kept (suc i) = suc (number_in (slice_get kept i))

-- the fact with these proofs is at a position of the lists
pub record IsFactAt (kept : List LocFact) (proofs : List (List FactProof)) (i : ℕ) (f : LocFact) (ps : List FactProof)
    : Type 0 where
  pub fact : slice_get kept i ≡ Some f
  pub listed : slice_get proofs i ≡ Some ps

-- a fact is right, and so is the shape of its proofs: it is a candidate, its number is at least this one, and it has a
-- proof for each rule into its symbol, with numbers within the limit
pub record IsRight (p : Program) (least : ℕ) (f : LocFact) (ps : List FactProof) : Type 0 where
  pub candidate : IsCandidate p f
  pub behind : least ≤ order_number f
  pub one_each : length ps ≡ length (rules_into p f.symbol)
  pub numbers : All IsWithinLimit ps

-- the first n facts are right, with the shape of their proofs, and their numbers ascend
abbrev pub AreRight : Program → List LocFact → List (List FactProof) → ℕ → Type 0
AreRight p kept proofs n =
    (i : ℕ) (f : LocFact) (ps : List FactProof) → i < n → IsFactAt kept proofs i f ps
    → IsRight p (least_number kept i) f ps

-- of the proofs of a fact, this one is for rule t, the one at position k of those into its symbol
pub record IsProofFor (p : Program) (f : LocFact) (ps : List FactProof) (k t : ℕ) (proof : FactProof) : Type 0 where
  pub rule : slice_get (rules_into p f.symbol) k ≡ Some t
  pub listed : slice_get ps k ≡ Some proof

-- the proof shows the fact after rule t
abbrev pub ShowsFact : Program → List LocFact → LocFact → ℕ → FactProof → Type 0
ShowsFact p kept f t proof = Shows (combined (forms_at p t) kept) (row_after (forms_at p t).new_values f) proof

-- the first n proofs of a fact show it
abbrev pub ProofsShow : Program → List LocFact → LocFact → List FactProof → ℕ → Type 0
ProofsShow p kept f ps n =
    (k t : ℕ) (proof : FactProof) → k < n → IsProofFor p f ps k t proof → ShowsFact p kept f t proof

-- all proofs of the first n facts show their facts
abbrev pub AreShown : Program → List LocFact → List (List FactProof) → ℕ → Type 0
AreShown p kept proofs n =
    (i : ℕ) (f : LocFact) (ps : List FactProof) → i < n → IsFactAt kept proofs i f ps
    → ProofsShow p kept f ps (length ps)

-- there is no fault: there is a list of proofs for each fact, each fact and the shape of its proofs are right, and each
-- proof shows its fact
pub record AreProved (p : Program) (kept : List LocFact) (proofs : List (List FactProof)) : Type 0 where
  pub one_each : length proofs ≡ length kept
  pub right : AreRight p kept proofs (length kept)
  pub shown : AreShown p kept proofs (length kept)

-- there isn't one list of proofs for each fact
pub record IsUneven (kept : List LocFact) (proofs : List (List FactProof)) (x : FactFault) : Type 0 where
  pub uneven : ¬ (length proofs ≡ length kept)
  pub fact : x.fact ≡ 0
  pub rule : x.rule ≡ 0

-- the fact is the first that is wrong, itself or in the shape of its proofs
pub record IsFirstWrong (p : Program) (kept : List LocFact) (proofs : List (List FactProof)) (x : FactFault) : Type 0
  where
    pub one_each : length proofs ≡ length kept
    pub position : ℕ
    pub wrong : LocFact
    pub with_proofs : List FactProof
    pub stands : IsFactAt kept proofs position wrong with_proofs
    pub before : AreRight p kept proofs position
    pub is_wrong : ¬ (IsRight p (least_number kept position) wrong with_proofs)
    pub fact : x.fact ≡ position + 1
    pub rule : x.rule ≡ 0

-- all facts and shapes are right, and the proof of this fact by this rule is the first that doesn't show it
pub record IsFirstUnshown (p : Program) (kept : List LocFact) (proofs : List (List FactProof)) (x : FactFault) : Type 0
  where
    pub one_each : length proofs ≡ length kept
    pub right : AreRight p kept proofs (length kept)
    pub position : ℕ
    pub unshown : LocFact
    pub with_proofs : List FactProof
    pub stands : IsFactAt kept proofs position unshown with_proofs
    pub before : AreShown p kept proofs position
    pub proof_position : ℕ
    pub proof : FactProof
    pub refutes_for : IsProofFor p unshown with_proofs proof_position x.rule proof
    pub earlier : ProofsShow p kept unshown with_proofs proof_position
    pub shows_not : ¬ (ShowsFact p kept unshown x.rule proof)
    pub fact : x.fact ≡ position + 1

-- the first fault: uneven lists, then facts and shapes in order, then proofs by fact and then by rule
abbrev pub IsFirstFault : Program → List LocFact → List (List FactProof) → FactFault → Type 0
IsFirstFault p kept proofs x =
    IsUneven kept proofs x ⊎ (IsFirstWrong p kept proofs x ⊎ IsFirstUnshown p kept proofs x)
