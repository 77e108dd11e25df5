-- The bounds in the report of an analysis are those that are known with its derivations.
use Rattle.std.proofs.Common.{◌≡◌, inl, inr, ℕ, zero, suc, ◌+◌, ◌<◌, ◌≤◌, List, [], ◌∷◌, length, map, Option, Some, None}
use Rattle.std.proofs.Common.{refl, sym, ◌∙◌, ap, subst, arith, slice_get}
use Rattle.std.proofs.lemmas.List.{length-map}
use Rattle.model.specs.Bounds.{Bound}
use Rattle.model.specs.Paths.{target_in}
use Rattle.model.specs.Programs.{Program, arity_of}
use Rattle.model.proofs.Cases.{none_some, some_same, slice_get-there}
use Rattle.model.proofs.Membership.{slice_get-below}
use Rattle.its_model.specs.Valid.{IsValid}
use Rattle.outcome.specs.Holding.{place_entry}
use Rattle.outcome.specs.Reports.{Time, Timed, Untimed, Size, Sized, Unsized, Report}
use Rattle.cert_types.specs.cert_rules.AcceptsPlain.{IsRule}
use Rattle.cert_types.specs.cert_program.Setting.{setting_of}
use Rattle.bound_fixpoint.specs.Derivations.{bound_found, bounds_of, first_of}
use Rattle.bound_fixpoint.specs.Keys.{IsPlace, start_bounds}
use Rattle.bound_fixpoint.specs.Searches.{Searches}
use Rattle.bound_fixpoint.specs.Justification.{AreJustified}
use Rattle.bound_fixpoint.proofs.MissingFalls.{IsKeyOfRule}
use Rattle.time_bounds.specs.Analysis.{IsTimeOf, IsSizeOf, IsAnalysis}
use Rattle.time_bounds.specs.ProgramSearches.{searches_of_program}
use Rattle.time_bounds.specs.SaidBounds.{time_said, size_said, bounds_said}
use Rattle.time_bounds.proofs.DerivationKeys.{none_found}
use Rattle.bound_fixpoint.proofs.SizesAreJustified.{all_justified}
use Rattle.time_bounds.proofs.OneProgram.{program_searches_one}
use Rattle.time_bounds.proofs.ReportEntries.{said_at, size_said_at, row_said_at}
use Rattle.time_bounds.proofs.RightSizings.{program_searches_right}

-- elements at the same position of lists with equal images have equal images
alike_at : {A B C : Type 0} (f : A → C) (g : B → C) (xs : List A) (ys : List B) → map f xs ≡ map g ys → (k : ℕ) (x : A) (y : B)
    → slice_get xs k ≡ Some x → slice_get ys k ≡ Some y → f x ≡ g y
alike_at f g [] ys e k x y a b = absurd (none_some x a)
alike_at f g (v ∷ xs) [] e k x y a b = absurd (none_some y b)
alike_at f g (v ∷ xs) (w ∷ ys) e zero x y a b =
    let first : f v ≡ g w = cc in
    ap f (sym (some_same v x a)) ∙ (first ∙ ap g (some_same w y b))
alike_at f g (v ∷ xs) (w ∷ ys) e (suc k) x y a b =
    let rest : map f xs ≡ map g ys = cc in
    alike_at f g xs ys rest k x y a b

-- past the end of a list there is no element
none_past : {A : Type 0} (xs : List A) (k : ℕ) → slice_get xs k ≡ None → k < length xs → ⊥
none_past xs k e l = let there = slice_get-there xs k l in none_some there.0 (sym e ∙ there.1)

-- a known bound, if no bound is derived for a key that isn't known initially
first_known : (o w : Option Bound) → (o ≡ None → w ≡ None) → o ≡ first_of o w
first_known None w h = sym (h refl)
first_known (Some b) w h = refl

module _ (p : Program) (pivots : ℕ) (valid : IsValid p) (r : Report) (h : IsAnalysis p pivots r) where
  abbrev q : Searches
  q = searches_of_program p pivots

  stand : AreJustified (setting_of p) h.derivations
  stand =
      all_justified (searches_of_program p pivots) (setting_of p) (program_searches_right.each p pivots valid)
      (program_searches_one.each p pivots) h.derivations h.last.made

  one_more : (k : ℕ) → 1 + k ≡ suc k
  one_more k = omega arith

  -- the entry of a rule follows from the derivations
  pub time-sound_at : (k : ℕ) (x : Time) → slice_get r.times k ≡ Some x → IsTimeOf q p h.derivations (suc k) x
  time-sound_at k x e =
      subst (λ (n : ℕ). IsTimeOf q p h.derivations n x) (one_more k) (said_at q p h.derivations 1 r.times k x h.times e)

  -- the entry of a place after a rule follows from the derivations
  pub size-sound : (k j : ℕ) (row : List Size) (x : Size) → slice_get r.sizes k ≡ Some row → slice_get row j ≡ Some x
      → IsSizeOf q p h.derivations (suc k) (suc j) x
  size-sound k j row x e f =
      subst (λ (n : ℕ). IsSizeOf q p h.derivations n (suc j) x) (one_more k)
      (subst (λ (n : ℕ). IsSizeOf q p h.derivations (1 + k) n x) (one_more j)
      (size_said_at q p h.derivations (1 + k) 1 row j x (row_said_at q p h.derivations 1 r.sizes k row h.sizes e) f))

  -- a rule has an entry, and a place after it has one
  rule_low : (k : ℕ) → IsRule p (suc k) → k < length p.rules
  rule_low k rule = slice_get-below p.rules k rule.rule rule.numbered

  rows_many : length r.sizes ≡ length p.rules
  rows_many =
      sym (length-map r.sizes length)
      ∙ (ap (λ (ns : List ℕ). length ns) h.places ∙ length-map p.rules (λ rule. arity_of p rule.target))

  timed : (k : ℕ) (o : Option Time) → slice_get r.times k ≡ o → time_said o ≡ bound_found h.derivations (suc k) 0
  timed k (Some (Timed b)) e = sym (time-sound_at k (Timed b) e)
  timed k (Some (Untimed why)) e = sym (time-sound_at k (Untimed why) e).missing
  timed k None e =
      sym (none_found (setting_of p) h.derivations stand (suc k) 0
      (λ is. none_past r.times k e (let l = rule_low k is.0 in omega (arith, l, h.one_each))))

  placed : (k j : ℕ) (row : List Size) → slice_get r.sizes k ≡ Some row → (o : Option Size) → slice_get row j ≡ o
      → size_said o ≡ bound_found h.derivations (suc k) (suc j)
  placed k j row e (Some (Sized b)) f = sym (size-sound k j row (Sized b) e f)
  placed k j row e (Some (Unsized why)) f = sym (size-sound k j row (Unsized why) e f).missing
  placed k j row e None f = sym (none_found (setting_of p) h.derivations stand (suc k) (suc j) other)
    where
      symbol : (rule : IsRule p (suc k)) (a : ℕ) → target_in (slice_get p.rules k) ≡ Some a → a ≡ rule.rule.target
      symbol rule a t = some_same a rule.rule.target (sym t ∙ ap target_in rule.numbered)

      inside : (rule : IsRule p (suc k)) → IsPlace p (suc k) (suc j) → j < length row
      inside rule place =
          let long : length row ≡ arity_of p rule.rule.target =
          alike_at length (λ u. arity_of p u.target) r.sizes p.rules h.places k row rule.rule e rule.numbered in
          let last = subst (λ (a : ℕ). suc j ≤ arity_of p a) (symbol rule place.symbol place.target) place.last in
          omega (arith, long, last)

      other : IsKeyOfRule p (suc k) (suc j) → ⊥
      other (rule, inl zero_is) = omega (arith, zero_is)
      other (rule, inr place) = none_past row j f (inside rule place)

  sized : (k j : ℕ) (o : Option (List Size)) → slice_get r.sizes k ≡ o
      → size_said (place_entry o (suc j)) ≡ bound_found h.derivations (suc k) (suc j)
  sized k j (Some row) e = placed k j row e (slice_get row j) refl
  sized k j None e =
      sym (none_found (setting_of p) h.derivations stand (suc k) (suc j)
      (λ is. none_past r.sizes k e (let l = rule_low k is.0 in omega (arith, l, rows_many))))

  same_at : (t i : ℕ) → bounds_said p r t i ≡ bounds_of p h.derivations t i
  same_at zero i =
      first_known (start_bounds p zero i) (bound_found h.derivations zero i)
      (λ e. none_found (setting_of p) h.derivations stand zero i (λ is. none_some is.0.rule is.0.numbered))
  same_at (suc k) zero = timed k (slice_get r.times k) refl
  same_at (suc k) (suc j) = sized k j (slice_get r.sizes k) refl

  -- the bounds of the report and the known bounds are the same, by key
  pub said_known : bounds_said p r ≡ bounds_of p h.derivations
  said_known = λ n t i. same_at t i n
