-- If each question has one answer, each program has one analysis.
use Rattle.std.proofs.Common.{◌≡◌, ℕ, suc, List, [], ◌∷◌, length, map, Some, None, refl, sym, ◌∙◌, ap, subst, arith}
use Rattle.model.specs.Programs.{Program}
use Rattle.model.specs.Bounds.{Bound}
use Rattle.outcome.specs.Reports.{Time, Timed, Untimed, NoTime, Size, Sized, Unsized, NoSize, Report, spendings}
use Rattle.cert_types.specs.cert_rules.Nodes.{ResultVariable}
use Rattle.cert_types.specs.cert_program.Setting.{setting_of}
use Rattle.bound_fixpoint.specs.Components.{AreApart}
use Rattle.bound_fixpoint.specs.Right.{AreOne}
use Rattle.bound_fixpoint.specs.Derivations.{Derivation, bounds_of}
use Rattle.bound_fixpoint.specs.Searches as searches
use Rattle.bound_fixpoint.specs.Searches.{OfTime, OfSize}
use Rattle.bound_fixpoint.proofs.DerivationsAreOne.{last_one, time_reason, reason_one}
use Rattle.time_bounds.specs.ProgramSearches.{searches_of_program}
use Rattle.time_bounds.specs.Analysis.{IsTimeOf, AreTimesOf, IsSizeOf, AreSizesOf, AreSizeRowsOf, AreCostsOver, IsAnalysis}
use Rattle.time_bounds.specs.Totals.{total_of}
use Rattle.time_bounds.proofs.CostEntries.{costs_one, joined}
use Rattle.model.proofs.Cases.{some_same as same_bound}

some_none : (b : Bound) → Some b ≡ None → ⊥
some_none b e = cc

-- two reports with the same parts are the same
same_report : (r q : Report) → r.times ≡ q.times → r.costs ≡ q.costs → r.total ≡ q.total → r.sizes ≡ q.sizes → r ≡ q
same_report r q times costs total sizes = λ i. record { times = times i; costs = costs i; total = total i; sizes = sizes i }

-- equal reasons for missing times, and for missing sizes, in one type are equal
one_time : (v w : NoTime) → OfTime v ≡ OfTime w → v ≡ w
one_time v w e = cc

one_size : (v w : NoSize) → OfSize v ≡ OfSize w → v ≡ w
one_size v w e = cc

module _ (p : Program) (pivots : ℕ) (one : AreOne (searches_of_program p pivots)) where
  abbrev q : searches.Searches
  q = searches_of_program p pivots

  -- the entry of each rule is unique
  said_one : (fs : List Derivation) (t : ℕ) (x y : Time) → IsTimeOf q p fs t x → IsTimeOf q p fs t y → x ≡ y
  said_one fs t (Timed b) (Timed c) h k = ap (λ (d : Bound). Timed d) (same_bound b c (sym h ∙ k))
  said_one fs t (Timed b) (Untimed w) h k = absurd (some_none b (sym h ∙ k.missing))
  said_one fs t (Untimed v) (Timed c) h k = absurd (some_none c (sym k ∙ h.missing))
  said_one fs t (Untimed v) (Untimed w) h k =
      ap (λ (n : NoTime). Untimed n)
      (one_time v w (time_reason q one (setting_of p) fs t (OfTime v) (OfTime w) h k))

  all_one : (fs : List Derivation) (k : ℕ) (xs ys : List Time) → length xs ≡ length ys → AreTimesOf q p fs k xs
      → AreTimesOf q p fs k ys → xs ≡ ys
  all_one fs k [] [] e h g = refl
  all_one fs k [] (y ∷ ys) e h g = let none : 0 ≡ suc (length ys) = e in absurd (omega (arith, none))
  all_one fs k (x ∷ xs) [] e h g = let none : suc (length xs) ≡ 0 = e in absurd (omega (arith, none))
  all_one fs k (x ∷ xs) (y ∷ ys) e h g =
      let long : suc (length xs) ≡ suc (length ys) = e in
      joined x y xs ys (said_one fs k x y h.0 g.0) (all_one fs (suc k) xs ys (omega (arith, long)) h.1 g.1)

  -- the entry of each place after a rule is unique, by the same list of components
  module _ (cs : List (List ResultVariable)) (are : (searches_of_program p pivots).AreComponents cs) (apart : AreApart cs)
      (fs : List Derivation) where
    size_one : (t i : ℕ) (x y : Size) → IsSizeOf q p fs t i x → IsSizeOf q p fs t i y → x ≡ y
    size_one t i (Sized b) (Sized c) h k = ap (λ (d : Bound). Sized d) (same_bound b c (sym h ∙ k))
    size_one t i (Sized b) (Unsized w) h k = absurd (some_none b (sym h ∙ k.missing))
    size_one t i (Unsized v) (Sized c) h k = absurd (some_none c (sym k ∙ h.missing))
    size_one t i (Unsized v) (Unsized w) h k =
        ap (λ (n : NoSize). Unsized n)
        (one_size v w (reason_one q one (setting_of p) cs are apart fs t i (OfSize v) (OfSize w) h k))

    places_one : (t i : ℕ) (xs ys : List Size) → length xs ≡ length ys → AreSizesOf q p fs t i xs
        → AreSizesOf q p fs t i ys → xs ≡ ys
    places_one t i [] [] e h g = refl
    places_one t i [] (y ∷ ys) e h g = let none : 0 ≡ suc (length ys) = e in absurd (omega (arith, none))
    places_one t i (x ∷ xs) [] e h g = let none : suc (length xs) ≡ 0 = e in absurd (omega (arith, none))
    places_one t i (x ∷ xs) (y ∷ ys) e h g =
        let long : suc (length xs) ≡ suc (length ys) = e in
        joined x y xs ys (size_one t i x y h.0 g.0) (places_one t (suc i) xs ys (omega (arith, long)) h.1 g.1)

    rows_one : (t : ℕ) (xs ys : List (List Size)) → map length xs ≡ map length ys → AreSizeRowsOf q p fs t xs
        → AreSizeRowsOf q p fs t ys → xs ≡ ys
    rows_one t [] [] e h g = refl
    rows_one t [] (y ∷ ys) e h g = absurd (let none : ⊥ = cc in none)
    rows_one t (x ∷ xs) [] e h g = absurd (let none : ⊥ = cc in none)
    rows_one t (x ∷ xs) (y ∷ ys) e h g =
        let first : length x ≡ length y = cc in
        let rest : map length xs ≡ map length ys = cc in
        joined x y xs ys (places_one t 1 x y first h.0 g.0) (rows_one (suc t) xs ys rest h.1 g.1)

  -- two analyses of a program, within the same number of pivots, are the same
  pub analysis_one : (r s : Report) → IsAnalysis p pivots r → IsAnalysis p pivots s → r ≡ s
  analysis_one r s h k =
      let derivations = last_one q one (setting_of p) h.derivations k.derivations h.last k.last in
      let said = subst (λ (fs : List Derivation). AreTimesOf q p fs 1 r.times) derivations h.times in
      let sized = subst (λ (fs : List Derivation). AreSizeRowsOf q p fs 1 r.sizes) derivations h.sizes in
      let times = all_one k.derivations 1 r.times s.times (h.one_each ∙ sym k.one_each) said k.times in
      let spent = subst (λ (fs : List Derivation). AreCostsOver p pivots (bounds_of p fs) 1 r.costs) derivations h.costs in
      let costs = costs_one p pivots (bounds_of p k.derivations) 1 r.costs s.costs (h.cost_each ∙ sym k.cost_each) spent k.costs in
      let round = k.last.closed in
      let sizes =
      rows_one round.components round.are_components round.live.apart k.derivations 1 r.sizes s.sizes
      (h.places ∙ sym k.places) sized k.sizes in
      same_report r s times costs (h.total ∙ ((λ i. total_of (spendings (times i) (costs i))) ∙ sym k.total)) sizes
