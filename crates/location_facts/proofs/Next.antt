-- A list of facts has one next list, and a sequence of lists has one last list.
use Rattle.std.proofs.Common.{◌≡◌, inl, inr, ℕ, List, [], ◌∷◌, ap, refl, sym, ◌∙◌, subst}
use Rattle.poly_terms.specs.model.Programs.{Program}
use Rattle.location_facts.specs.declared.fact.LocFact.{LocFact}
use Rattle.location_facts.specs.Candidates.{candidates}
use Rattle.location_facts.specs.Kept.{IsImpliedByAll, HasThose, IsNext, EndsWith, Stays, GoesOn}
use Rattle.location_facts.specs.Laws.{KeptFactsAreOne}

-- the facts of a list that satisfy a condition are unique
those-one : (Keeps : LocFact → Type 0) (facts those other : List LocFact) → HasThose Keeps facts those
    → HasThose Keeps facts other → those ≡ other
those-one Keeps [] those other h k = h ∙ sym k
those-one Keeps (f ∷ facts) those other (inl (keeps, (rest, e, h))) (inl (keeps', (rest', e', h'))) =
    e ∙ (ap (λ (fs : List LocFact). f ∷ fs) (those-one Keeps facts rest rest' h h') ∙ sym e')
those-one Keeps (f ∷ facts) those other (inl (keeps, (rest, e, h))) (inr (drops, h')) = absurd (drops keeps)
those-one Keeps (f ∷ facts) those other (inr (drops, h)) (inl (keeps, (rest, e, h'))) = absurd (drops keeps)
those-one Keeps (f ∷ facts) those other (inr (drops, h)) (inr (drops', h')) = those-one Keeps facts those other h h'

module _ (p : Program) (pivots : ℕ) where
  -- the next list is unique
  next-one : (old new other : List LocFact) → IsNext p pivots old new → IsNext p pivots old other → new ≡ other
  next-one old new other h k = those-one (IsImpliedByAll p pivots old) old new other h k

  -- the next lists of the same list are the same
  next-same : (old old' new new' : List LocFact) → old ≡ old' → IsNext p pivots old new → IsNext p pivots old' new'
      → new ≡ new'
  next-same old old' new new' same h k =
      next-one old new new' h (subst (λ (x : List LocFact). IsNext p pivots x new') (sym same) k)

  -- if all facts of a list are kept, each sequence from it ends with it
  stays-there : (kept end from : List LocFact) → IsNext p pivots kept kept → EndsWith p pivots end from → kept ≡ from
      → kept ≡ end
  stays-there kept end from still (Stays e next) same = same ∙ e
  stays-there kept end from still (GoesOn {new = new} next rest) same =
      stays-there kept end new still rest (next-same kept from kept new same still next)

  -- the last list is unique
  ends-one : (end end' from from' : List LocFact) → EndsWith p pivots end from → EndsWith p pivots end' from'
      → from ≡ from' → end ≡ end'
  ends-one end end' from from' (Stays e still) h same = sym e ∙ stays-there from end' from' still h same
  ends-one end end' from from' (GoesOn {new = new} next rest) (Stays e still) same =
      sym (sym e ∙ stays-there from' end from still (GoesOn next rest) (sym same))
  ends-one end end' from from' (GoesOn {new = new} next rest) (GoesOn {new = new'} next' rest') same =
      ends-one end end' new new' rest rest' (next-same from from' new new' same next next')

pub kept-one : KeptFactsAreOne
kept-one = record {
  next = next-one;
  ends = λ p pivots from end other h k. ends-one p pivots end other from from h k refl;
  kept = λ p pivots end other h k.
      ends-one p pivots end other (candidates p) (candidates p) h k refl;
}
