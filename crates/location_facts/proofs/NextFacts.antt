-- The next list of facts and its proofs, after one more fact.
use Rattle.std.proofs.Common.{◌≡◌, ℕ, ◌+◌, ◌*◌, ◌<◌, sym, subst, List, [], ◌∷◌, ◌++◌, length, take}
use Rattle.std.proofs.Common.{get_or}
use Rattle.std.proofs.Common.{Option, Some, None}
use Rattle.std.specs.Prelude.{Vec}
use Rattle.std.specs.declared.alloc.Global.{Global}
use Rattle.std.proofs.lemmas.List.{take_more, map-append}
use Rattle.poly_terms.specs.model.Programs.{Program}
use Rattle.location_facts.specs.declared.fact.LocFact.{LocFact}
use Rattle.location_facts.specs.declared.fact.FactProof.{FactProof}
use Rattle.location_facts.specs.Due.{lists_of}
use Rattle.location_facts.specs.Implied.{DecidesProofs, AreProofsUnder, IsPushed, AreInOrder}
use Rattle.location_facts.specs.Kept.{IsImpliedByAll, HasThose, IsNext, EndsWith, AreKept, Stays}
use Rattle.location_facts.specs.Candidates.{candidates}
use Rattle.location_facts.specs.Faults.{AreProved}
use Rattle.location_facts.proofs.CandidateList.{all-between}
use Rattle.location_facts.proofs.KeptLists.{those-kept, those-passed, those-all}
use Rattle.location_facts.proofs.RoundSteps.{between-ascend, proofs-pushed, proved-end}

module _ (p : Program) (pivots : ℕ) (kept : List LocFact) (n : ℕ) (d : LocFact) (l : n < length kept) where
  -- the first n + 1 facts are the first n and one more
  one-more : take (n + 1) kept ≡ take n kept ++ get_or kept n d ∷ []
  one-more = take_more kept n d l

  -- the implied facts, after one more
  pub next-pushed : (o : Option (Vec FactProof Global)) (found new : List LocFact)
      (lists new_lists : List (Vec FactProof Global))
      → HasThose (IsImpliedByAll p pivots kept) (take n kept) found → DecidesProofs p pivots kept (get_or kept n d) o
      → IsPushed (get_or kept n d) o found new lists new_lists
      → HasThose (IsImpliedByAll p pivots kept) (take (n + 1) kept) new
  next-pushed None found new lists new_lists h not (same, same_lists) =
      subst (λ (fs : List LocFact). HasThose (IsImpliedByAll p pivots kept) fs new) (sym one-more)
      (subst (HasThose (IsImpliedByAll p pivots kept) (take n kept ++ get_or kept n d ∷ [])) (sym same)
      (those-passed (IsImpliedByAll p pivots kept) (take n kept) found (get_or kept n d) h not))
  next-pushed (Some v) found new lists new_lists h verdict (same, same_lists) =
      subst (λ (fs : List LocFact). HasThose (IsImpliedByAll p pivots kept) fs new) (sym one-more)
      (subst (HasThose (IsImpliedByAll p pivots kept) (take n kept ++ get_or kept n d ∷ [])) (sym same)
      (those-kept (IsImpliedByAll p pivots kept) (take n kept) found (get_or kept n d) h verdict.0))

  -- the proofs of the implied facts, after one more
  pub shown-pushed : (o : Option (Vec FactProof Global)) (found new : List LocFact)
      (lists new_lists : List (Vec FactProof Global)) → AreProofsUnder p kept found (lists_of lists)
      → DecidesProofs p pivots kept (get_or kept n d) o → IsPushed (get_or kept n d) o found new lists new_lists
      → AreProofsUnder p kept new (lists_of new_lists)
  shown-pushed None found new lists new_lists h not (same, same_lists) =
      subst (λ (fs : List LocFact). AreProofsUnder p kept fs (lists_of new_lists)) (sym same)
      (subst (λ (vs : List (Vec FactProof Global)). AreProofsUnder p kept found (lists_of vs)) (sym same_lists) h)
  shown-pushed (Some v) found new lists new_lists h verdict (same, same_lists) =
      subst (λ (fs : List LocFact). AreProofsUnder p kept fs (lists_of new_lists)) (sym same)
      (subst (λ (vs : List (Vec FactProof Global)). AreProofsUnder p kept (found ++ get_or kept n d ∷ []) (lists_of vs))
      (sym same_lists)
      (subst (AreProofsUnder p kept (found ++ get_or kept n d ∷ []))
      (sym (map-append (λ (w : Vec FactProof Global). w.items) lists (v ∷ [])))
      (proofs-pushed p kept found (lists_of lists) (get_or kept n d) v.items h
      (record { one_each = verdict.1; numbers = verdict.2; shown = verdict.3 }))))

-- the list of candidates is in order
pub first-ordered : (p : Program) (kept : List LocFact) → kept ≡ candidates p → AreInOrder p kept
first-ordered p kept e =
    subst (AreInOrder p) (sym e)
    (between-ascend p (0 * 243) ((0 + length p.symbols) * 243) (candidates p) (all-between p))

-- a list all of whose facts are kept is the last one
pub ends-here : (p : Program) (pivots : ℕ) (kept next : List LocFact) → IsNext p pivots kept next
    → length next ≡ length kept
    → ((end : List LocFact) → EndsWith p pivots end kept → AreKept p pivots end) → AreKept p pivots next
ends-here p pivots kept next h e ends =
    let same : next ≡ kept = those-all (IsImpliedByAll p pivots kept) kept next h e in
    ends next (Stays (sym same) (subst (IsNext p pivots kept) same h))

-- the last list with its proofs has no fault
pub proved-here : (p : Program) (pivots : ℕ) (kept next : List LocFact) (proofs : List (List FactProof))
    → IsNext p pivots kept next → length next ≡ length kept → AreInOrder p kept → AreProofsUnder p kept next proofs
    → AreProved p next proofs
proved-here p pivots kept next proofs h e ordered under =
    let same : next ≡ kept = those-all (IsImpliedByAll p pivots kept) kept next h e in
    subst (λ (fs : List LocFact). AreProved p fs proofs) (sym same)
    (proved-end p kept proofs ordered (subst (λ (fs : List LocFact). AreProofsUnder p kept fs proofs) same under))
