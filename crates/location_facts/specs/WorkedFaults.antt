-- Worked values of faults of facts and their proofs, for a small program.
use Rattle.std.specs.Prelude.{◌≡◌, ℕ, List, [], ◌∷◌, Vec, pos}
use Rattle.std.specs.declared.alloc.Global.{Global}
use Rattle.location_facts.specs.declared.fact.FactProof.{FactProof}
use Rattle.location_facts.specs.declared.fact.FactProof.TheVariants.{Implied}
use Rattle.location_facts.specs.declared.fact.FactFault.{FactFault}
use Rattle.location_facts.specs.Faults.{AreProved, IsFirstFault}
use Rattle.location_facts.specs.Worked.{fact as fact_of, counting, natural, positive}

-- a fault
abbrev pub fault : ℕ → ℕ → FactFault
fault fact rule = record { fact = fact; rule = rule }

-- two proofs of a fact, for the first rule and for the second, with multipliers and the denominator 1
abbrev pub two_proofs : Vec ℕ Global → Vec ℕ Global → List FactProof
two_proofs first second = Implied first 1 ∷ Implied second 1 ∷ []

-- in the program that counts down, A >= 0 at l1 is shown by the multiplier 1 for the first rule, and by 1 and 0 for the
-- second; there is no fault
pub record ProvedIsWorkedOut : Type 0 where
  pub nothing : AreProved counting [] []
  pub natural_is : (one first : Vec ℕ Global) → one.items ≡ 1 ∷ [] → first.items ≡ 1 ∷ 0 ∷ []
      → AreProved counting (natural ∷ []) (two_proofs one first ∷ [])

-- a list of proofs that is missing or one too many is fault (0, 0). One proof instead of two, three proofs, the
-- denominator 0, and a multiplier or a denominator over 2^56 are fault (1, 0), even if the proofs show nothing. The
-- same fact again is fault (2, 0), and so is a lesser one; both come before a proof that doesn't show the first fact.
-- Of two facts with too few proofs the first is reported, and a missing list of proofs comes before a fact of the start
-- symbol
pub record ShapesAreWorkedOut : Type 0 where
  pub missing : IsFirstFault counting (natural ∷ []) [] (fault 0 0)
  pub too_many : (proofs : List FactProof) → IsFirstFault counting [] (proofs ∷ []) (fault 0 0)
  pub one_proof : (any : Vec ℕ Global) → IsFirstFault counting (natural ∷ []) ((Implied any 1 ∷ []) ∷ []) (fault 1 0)
  pub three_proofs : (one any : Vec ℕ Global)
      → IsFirstFault counting (natural ∷ []) ((Implied one 1 ∷ two_proofs one any) ∷ []) (fault 1 0)
  pub no_denominator : (one any : Vec ℕ Global)
      → IsFirstFault counting (natural ∷ []) ((Implied one 0 ∷ Implied any 1 ∷ []) ∷ []) (fault 1 0)
  pub large_denominator : (one any : Vec ℕ Global)
      → IsFirstFault counting (natural ∷ []) ((Implied one 1 ∷ Implied any 72057594037927937 ∷ []) ∷ []) (fault 1 0)
  pub large_multiplier : (more any : Vec ℕ Global) → more.items ≡ 72057594037927937 ∷ []
      → IsFirstFault counting (natural ∷ []) (two_proofs more any ∷ []) (fault 1 0)
  pub again : (none first : Vec ℕ Global) → none.items ≡ 0 ∷ [] → first.items ≡ 1 ∷ 0 ∷ []
      → IsFirstFault counting (natural ∷ natural ∷ []) (two_proofs none first ∷ two_proofs none first ∷ []) (fault 2 0)
  pub lesser : (none first : Vec ℕ Global) → none.items ≡ 0 ∷ [] → first.items ≡ 1 ∷ 0 ∷ []
      → IsFirstFault counting (positive ∷ natural ∷ []) (two_proofs none first ∷ two_proofs none first ∷ []) (fault 2 0)
  pub first_of_two : (any : Vec ℕ Global)
      → IsFirstFault counting (natural ∷ positive ∷ []) ((Implied any 1 ∷ []) ∷ (Implied any 1 ∷ []) ∷ []) (fault 1 0)
  pub uneven_first : IsFirstFault counting (fact_of 0 1 0 (pos 0) ∷ natural ∷ []) ([] ∷ []) (fault 0 0)

-- the multiplier 0 shows nothing for the first rule, which is fault (1, 1), whatever the second proof is; with 1 for
-- the first rule, the multipliers 0 and 0, or one instead of two, show nothing for the second, which is fault (1, 2).
-- Of two facts, if the first isn't shown after the second rule and the second isn't shown after the first, the first
-- fact's fault is reported
pub record UnshownIsWorkedOut : Type 0 where
  pub first_rule : (none any : Vec ℕ Global) → none.items ≡ 0 ∷ [] → any.items ≡ 0 ∷ 0 ∷ []
      → IsFirstFault counting (natural ∷ []) (two_proofs none any ∷ []) (fault 1 1)
  pub second_rule : (one zeros : Vec ℕ Global) → one.items ≡ 1 ∷ [] → zeros.items ≡ 0 ∷ 0 ∷ []
      → IsFirstFault counting (natural ∷ []) (two_proofs one zeros ∷ []) (fault 1 2)
  pub too_short : (one : Vec ℕ Global) → one.items ≡ 1 ∷ []
      → IsFirstFault counting (natural ∷ []) (two_proofs one one ∷ []) (fault 1 2)
  pub second_fact : (one first : Vec ℕ Global) → one.items ≡ 1 ∷ [] → first.items ≡ 1 ∷ 0 ∷ 0 ∷ []
      → IsFirstFault counting (natural ∷ positive ∷ []) (two_proofs one first ∷ two_proofs one first ∷ []) (fault 2 2)
  pub by_fact : (one zeros none first : Vec ℕ Global) → one.items ≡ 1 ∷ [] → zeros.items ≡ 0 ∷ 0 ∷ 0 ∷ []
      → none.items ≡ 0 ∷ [] → first.items ≡ 1 ∷ 0 ∷ 0 ∷ []
      → IsFirstFault counting (natural ∷ positive ∷ []) (two_proofs one zeros ∷ two_proofs none first ∷ []) (fault 1 2)

-- All worked values of this file.
pub record FaultsAreWorkedOut : Type 0 where
  pub proved : ProvedIsWorkedOut
  pub shapes : ShapesAreWorkedOut
  pub unshown : UnshownIsWorkedOut
