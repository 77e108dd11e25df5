-- Facts and their proofs have at most one first fault, and if they have one they aren't faultless.
use Rattle.std.proofs.Common.{◌≡◌, ◌⊎◌, inl, inr, ℕ, ◌+◌, ◌<◌, ap, sym, ◌∙◌, subst, List, length}
use Rattle.std.specs.Prelude.{slice_get}
use Rattle.std.proofs.lemmas.Bool.{cases_order}
use Rattle.std.proofs.lemmas.Option.{slice_get_within}
use Rattle.poly_terms.specs.model.Programs.{Program}
use Rattle.poly_terms.proofs.model.Cases.{some_same}
use Rattle.location_facts.specs.declared.fact.LocFact.{LocFact}
use Rattle.location_facts.specs.declared.fact.FactProof.{FactProof}
use Rattle.location_facts.specs.declared.fact.FactFault.{FactFault}
use Rattle.location_facts.specs.Faults.{rules_into, IsFactAt, AreRight, IsProofFor, ShowsFact, ProofsShow, AreShown}
use Rattle.location_facts.specs.Faults.{AreProved, IsFirstWrong, IsFirstUnshown, IsFirstFault}
use Rattle.location_facts.specs.Laws.{FaultsAreDecided}
use Rattle.location_facts.proofs.FaultSteps.{fact-same}

-- a fault by its parts
abbrev made : ℕ → ℕ → FactFault
made fact rule = record { fact = fact; rule = rule }

-- faults with the same fact and the same rule are the same
fault-same : (x y : FactFault) → x.fact ≡ y.fact → x.rule ≡ y.rule → x ≡ y
fault-same x y e g =
    let first : x ≡ record { fact = y.fact; rule = x.rule } = ap (λ (n : ℕ). made n x.rule) e in
    let second : record { fact = y.fact; rule = x.rule } ≡ y = ap (λ (n : ℕ). made y.fact n) g in
    first ∙ second

module _ (p : Program) (kept : List LocFact) where
  -- a proof that doesn't show a fact isn't one of the first ones, which do
  shown-not : (f g : LocFact) (ps qs : List FactProof) (k m t : ℕ) (proof : FactProof) → f ≡ g → ps ≡ qs
      → IsProofFor p f ps k t proof → (ShowsFact p kept f t proof → ⊥) → ProofsShow p kept g qs m → k < m → ⊥
  shown-not f g ps qs k m t proof e h for not earlier l =
      not (subst (λ (x : LocFact). ShowsFact p kept x t proof) (sym e) (earlier k t proof l
      (subst (λ (x : LocFact). IsProofFor p x qs k t proof) e
      (subst (λ (xs : List FactProof). IsProofFor p f xs k t proof) h for))))

  -- the rule of a proof is determined by its position
  rule-same : (f g : LocFact) (ps qs : List FactProof) (k m t u : ℕ) (a b : FactProof) → f ≡ g → k ≡ m
      → IsProofFor p f ps k t a → IsProofFor p g qs m u b → t ≡ u
  rule-same f g ps qs k m t u a b e h for other =
      some_same t u
      (sym for.rule
      ∙ (ap (λ (x : LocFact). slice_get (rules_into p x.symbol) k) e
      ∙ (ap (λ (n : ℕ). slice_get (rules_into p g.symbol) n) h ∙ other.rule)))

  module _ (proofs : List (List FactProof)) where
    -- a fact at a position is one of the list
    inside : (i : ℕ) (f : LocFact) (ps : List FactProof) → IsFactAt kept proofs i f ps → i < length kept
    inside i f ps stands = slice_get_within kept i f stands.fact

    -- if all facts are right, none is wrong
    none-wrong : (x : FactFault) → AreRight p kept proofs (length kept) → IsFirstWrong p kept proofs x → ⊥
    none-wrong x right w =
        w.is_wrong
        (right w.position w.wrong w.with_proofs (inside w.position w.wrong w.with_proofs w.stands) w.stands)

    -- if all facts are shown, each proof shows its fact
    none-unshown : (x : FactFault) → AreShown p kept proofs (length kept) → IsFirstUnshown p kept proofs x → ⊥
    none-unshown x shown u =
        u.shows_not
        (shown u.position u.unshown u.with_proofs (inside u.position u.unshown u.with_proofs u.stands) u.stands
        u.proof_position x.rule u.proof
        (slice_get_within u.with_proofs u.proof_position u.proof u.refutes_for.listed) u.refutes_for)

    -- of two first wrong facts, neither comes before the other
    wrong-before : (x y : FactFault) (v : IsFirstWrong p kept proofs x) (w : IsFirstWrong p kept proofs y)
        → v.position < w.position → ⊥
    wrong-before x y v w l = v.is_wrong (w.before v.position v.wrong v.with_proofs l v.stands)

    wrong-one : (x y : FactFault) → IsFirstWrong p kept proofs x → IsFirstWrong p kept proofs y → x ≡ y
    wrong-one x y v w = go (cases_order v.position w.position)
      where
        go : (v.position ≡ w.position) ⊎ ((v.position < w.position) ⊎ (w.position < v.position)) → x ≡ y
        go (inl e) =
            fault-same x y (v.fact ∙ (ap (λ (n : ℕ). n + 1) e ∙ sym w.fact)) (v.rule ∙ sym w.rule)
        go (inr (inl l)) = absurd (wrong-before x y v w l)
        go (inr (inr l)) = absurd (wrong-before y x w v l)

    -- of two first proofs that don't show their fact, neither comes before the other
    unshown-before : (x y : FactFault) (u : IsFirstUnshown p kept proofs x) (v : IsFirstUnshown p kept proofs y)
        → u.position < v.position → ⊥
    unshown-before x y u v l =
        u.shows_not
        (v.before u.position u.unshown u.with_proofs l u.stands u.proof_position x.rule u.proof
        (slice_get_within u.with_proofs u.proof_position u.proof u.refutes_for.listed) u.refutes_for)

    unshown-one : (x y : FactFault) → IsFirstUnshown p kept proofs x → IsFirstUnshown p kept proofs y → x ≡ y
    unshown-one x y u v = go (cases_order u.position v.position)
      where
        one : u.position ≡ v.position → (u.unshown ≡ v.unshown) × (u.with_proofs ≡ v.with_proofs)
            → (u.proof_position ≡ v.proof_position)
            ⊎ ((u.proof_position < v.proof_position) ⊎ (v.proof_position < u.proof_position)) → x ≡ y
        one e (same, proofs-same) (inl h) =
            fault-same x y (u.fact ∙ (ap (λ (n : ℕ). n + 1) e ∙ sym v.fact))
            (rule-same u.unshown v.unshown u.with_proofs v.with_proofs u.proof_position v.proof_position x.rule y.rule
            u.proof v.proof same h u.refutes_for v.refutes_for)
        one e (same, proofs-same) (inr (inl l)) =
            absurd (shown-not u.unshown v.unshown u.with_proofs v.with_proofs u.proof_position v.proof_position x.rule
            u.proof same proofs-same u.refutes_for u.shows_not v.earlier l)
        one e (same, proofs-same) (inr (inr l)) =
            absurd (shown-not v.unshown u.unshown v.with_proofs u.with_proofs v.proof_position u.proof_position y.rule
            v.proof (sym same) (sym proofs-same) v.refutes_for v.shows_not u.earlier l)

        go : (u.position ≡ v.position) ⊎ ((u.position < v.position) ⊎ (v.position < u.position)) → x ≡ y
        go (inl e) =
            one e
            (fact-same kept proofs v.position u.unshown v.unshown u.with_proofs v.with_proofs
            (subst (λ (n : ℕ). IsFactAt kept proofs n u.unshown u.with_proofs) e u.stands) v.stands)
            (cases_order u.proof_position v.proof_position)
        go (inr (inl l)) = absurd (unshown-before x y u v l)
        go (inr (inr l)) = absurd (unshown-before y x v u l)

    -- if there is a first fault, the facts aren't faultless
    fault-excludes : (x : FactFault) → IsFirstFault p kept proofs x → AreProved p kept proofs → ⊥
    fault-excludes x (inl u) h = u.uneven h.one_each
    fault-excludes x (inr (inl w)) h = none-wrong x h.right w
    fault-excludes x (inr (inr u)) h = none-unshown x h.shown u

    -- there is at most one first fault
    fault-one : (x y : FactFault) → IsFirstFault p kept proofs x → IsFirstFault p kept proofs y → x ≡ y
    fault-one x y (inl u) (inl v) = fault-same x y (u.fact ∙ sym v.fact) (u.rule ∙ sym v.rule)
    fault-one x y (inl u) (inr (inl w)) = absurd (u.uneven w.one_each)
    fault-one x y (inl u) (inr (inr w)) = absurd (u.uneven w.one_each)
    fault-one x y (inr (inl w)) (inl u) = absurd (u.uneven w.one_each)
    fault-one x y (inr (inr w)) (inl u) = absurd (u.uneven w.one_each)
    fault-one x y (inr (inl v)) (inr (inl w)) = wrong-one x y v w
    fault-one x y (inr (inl w)) (inr (inr u)) = absurd (none-wrong x u.right w)
    fault-one x y (inr (inr u)) (inr (inl w)) = absurd (none-wrong y u.right w)
    fault-one x y (inr (inr u)) (inr (inr v)) = unshown-one x y u v

pub faults-are-decided : FaultsAreDecided
faults-are-decided = record { excluded = fault-excludes; one = fault-one }
