-- There is a number for each derivation: few bounds of a valid program are missing, and each derivation leaves fewer.
use Rattle.std.proofs.Common.{◌≡◌, ◌⊎◌, inl, inr, ℕ, ◌+◌, ◌*◌, ◌-◌, ◌<◌, ◌≤◌, ◌^◌, Bool, true, false, cond, List, []}
use Rattle.std.proofs.Common.{◌∷◌, ◌++◌, length, Option, Some, None, refl, sym, ◌∙◌, ap, subst, arith}
use Rattle.std.specs.Prelude.{⊤}
use Rattle.std.specs.List.{count_by, All}
use Rattle.std.proofs.lemmas.List.Elements.{All-head, All-tail}
use Rattle.std.proofs.lemmas.List.FromFn.{length-range_with_len}
use Rattle.model.specs.Bounds.{Bound, Constant}
use Rattle.model.proofs.Cases.{none_some}
use Rattle.model.specs.Paths.{target_of}
use Rattle.model.specs.Programs.{Program, arity_of}
use Rattle.its_model.specs.Valid.{IsValid}
use Rattle.guard_prep.proofs.StepLaws.{few-places}
use Rattle.bound_fixpoint.specs.Keys.{Bounds, IsPlace, has_key, lacks, rule_numbers}
use Rattle.bound_fixpoint.specs.Derivations as plain
use Rattle.bound_fixpoint.specs.Laws.{all_unsized, missing}
use Rattle.bound_fixpoint.proofs.Cases.{by_cases}
use Rattle.bound_fixpoint.proofs.Counts.{count-first}
use Rattle.bound_fixpoint.proofs.Keys.{has_key-first, has_key-later}
use Rattle.bound_fixpoint.proofs.DerivationLists.{bounds_of-append, bounds_of-kept, bounds_of-new, found-here, found-later}
use Rattle.bound_fixpoint.proofs.MissingFalls.{IsKeyOfRule, missing_falls}
use Rattle.cert_types.specs.cert_rules.AcceptsPlain.{places_at}
use Rattle.cert_types.specs.cert_rules.Nodes.{ResultVariable}
use Rattle.size_bounds.specs.declared.table.Table.{Table}
use Rattle.bound_derivations.specs.declared.derivation.Derivation.{Derivation}
use Rattle.bound_derivations.specs.Books.{AreDerivedBounds, IsKey, AreOpen}
use Rattle.bound_derivations.specs.Views.{derivations_of}

-- a test counts for at most 1
one_at_most : (v : Bool) → cond v 1 0 ≤ 1
one_at_most true = omega arith
one_at_most false = omega arith

-- no more elements pass a test than the list has
count_most : {A : Type 0} (test : A → Bool) (xs : List A) → count_by test xs ≤ length xs
count_most test [] = omega arith
count_most test (x ∷ xs) =
    let first = count-first test x xs in
    let one = one_at_most (test x) in
    let rest = count_most test xs in
    omega (arith, first, one, rest)

-- there are few places after a rule
places_few : (p : Program) → IsValid p → (o : Option ℕ) → length (places_at p o) ≤ 32
places_few p v None = omega arith
places_few p v (Some a) =
    let long = length-range_with_len 1 (arity_of p a) in
    let few = few-places p.symbols a v.symbols in
    omega (arith, long, few)

-- few sizes are missing after rules
sizes_few : (p : Program) → IsValid p → (b : Bounds) (ts : List ℕ) → all_unsized p b ts ≤ 32 * length ts
sizes_few p v b [] = omega arith
sizes_few p v b (t ∷ ts) =
    let here = count_most (λ i. lacks (b t i)) (places_at p (target_of p t)) in
    let few = places_few p v (target_of p t) in
    let rest = sizes_few p v b ts in
    omega (arith, here, few, rest)

-- of a valid program few bounds are missing, whatever is known
pub missing_few : (p : Program) → IsValid p → (b : Bounds) → missing p b ≤ 33000
missing_few p v b =
    let times = count_most (λ t. lacks (b t 0)) (rule_numbers p) in
    let sizes = sizes_few p v b (rule_numbers p) in
    let long = length-range_with_len 1 (length p.rules) in
    omega (arith, times, sizes, long, v.few_rules)

-- a key of a rule is one of those for which missing bounds are defined
key_of_rule : (p : Program) (t i : ℕ) → IsKey p t i → IsKeyOfRule p t i
key_of_rule p t i k = (k.rule, place k.place)
  where
    place : (i ≡ 0) ⊎ IsPlace p t i → (0 ≡ i) ⊎ IsPlace p t i
    place (inl e) = inl (sym e)
    place (inr is) = inr is

-- a derivation with open keys leaves fewer bounds missing
pub find_falls : (p : Program) (fs : List plain.Derivation) (g : plain.Derivation) → AreOpen p fs g.keys
    → missing p (plain.bounds_of p (fs ++ g ∷ [])) < missing p (plain.bounds_of p fs)
find_falls p fs g are = go g.keys refl are
  where
    go : (keys : List ResultVariable) → g.keys ≡ keys → AreOpen p fs keys
        → missing p (plain.bounds_of p (fs ++ g ∷ [])) < missing p (plain.bounds_of p fs)
    go [] e are = absurd (let one : 1 ≤ 0 = are.some in omega (arith, one))
    go (k ∷ keys) e are =
        let rule = All-head (λ x. IsKey p x.rule x.place) k keys are.each in
        let none = All-head (λ x. plain.bounds_of p fs x.rule x.place ≡ None) k keys are.unknown in
        let has = subst (λ (xs : List ResultVariable). has_key xs k.rule k.place ≡ true) (sym e) (has_key-first k keys) in
        missing_falls p (plain.bounds_of p fs) (plain.bounds_of p (fs ++ g ∷ []))
        (λ t i b known. bounds_of-kept p fs (g ∷ []) t i b known) k.rule k.place g.bound
        (key_of_rule p k.rule k.place rule) none
        (bounds_of-new p fs (g ∷ []) k.rule k.place none ∙ found-here g [] k.rule k.place has)

-- no key occurs twice
abbrev pub AreDistinct : List ResultVariable → Type 0
AreDistinct [] = ⊤
AreDistinct (k ∷ keys) = (has_key keys k.rule k.place ≡ false) × AreDistinct keys

-- the first of two bounds, if there is no second one, is the first
first_of_alone : (o : Option Bound) → plain.first_of o None ≡ o
first_of_alone None = refl
first_of_alone (Some b) = refl

module _ (p : Program) (fs : List plain.Derivation) (g : plain.Derivation) where
  -- the derivation with these keys alone
  abbrev pub derivation_at : List ResultVariable → plain.Derivation
  derivation_at keys = record { keys = keys; node = g.node; premises = g.premises; bound = g.bound }

  -- with one key derived more, every known bound stays known
  known_still : (k : ResultVariable) (ks : List ResultVariable) (t i : ℕ) (b : Bound)
      → plain.bounds_of p (fs ++ derivation_at ks ∷ []) t i ≡ Some b
      → plain.bounds_of p (fs ++ derivation_at (k ∷ ks) ∷ []) t i ≡ Some b
  known_still k ks t i b h = by (plain.bounds_of p fs t i) refl
    where
      by : (o : Option Bound) → plain.bounds_of p fs t i ≡ o
          → plain.bounds_of p (fs ++ derivation_at (k ∷ ks) ∷ []) t i ≡ Some b
      by (Some x) e =
          bounds_of-kept p fs (derivation_at (k ∷ ks) ∷ []) t i x e
          ∙ (sym (bounds_of-kept p fs (derivation_at ks ∷ []) t i x e) ∙ h)
      by None e =
          by_cases (has_key ks t i)
          (λ m. bounds_of-new p fs (derivation_at (k ∷ ks) ∷ []) t i e
          ∙ (found-here (derivation_at (k ∷ ks)) [] t i (has_key-later k ks t i m)
          ∙ (sym (found-here (derivation_at ks) [] t i m) ∙ (sym (bounds_of-new p fs (derivation_at ks ∷ []) t i e) ∙ h))))
          (λ m. absurd (none_some b
          (sym (bounds_of-new p fs (derivation_at ks ∷ []) t i e ∙ found-later (derivation_at ks) [] t i m) ∙ h)))

  -- with one key derived more, one bound fewer is missing
  one_falls : (k : ResultVariable) (ks : List ResultVariable) → has_key ks k.rule k.place ≡ false → IsKey p k.rule k.place
      → plain.bounds_of p fs k.rule k.place ≡ None
      → missing p (plain.bounds_of p (fs ++ derivation_at (k ∷ ks) ∷ []))
      < missing p (plain.bounds_of p (fs ++ derivation_at ks ∷ []))
  one_falls k ks new is none =
      missing_falls p (plain.bounds_of p (fs ++ derivation_at ks ∷ [])) (plain.bounds_of p (fs ++ derivation_at (k ∷ ks) ∷ []))
      (known_still k ks) k.rule k.place g.bound (key_of_rule p k.rule k.place is)
      (bounds_of-new p fs (derivation_at ks ∷ []) k.rule k.place none ∙ found-later (derivation_at ks) [] k.rule k.place new)
      (bounds_of-new p fs (derivation_at (k ∷ ks) ∷ []) k.rule k.place none
      ∙ found-here (derivation_at (k ∷ ks)) [] k.rule k.place (has_key-first k ks))

  -- with each key derived, one bound fewer is missing
  all_fall : (keys : List ResultVariable) → AreDistinct keys → All (λ k. IsKey p k.rule k.place) keys
      → All (λ k. plain.bounds_of p fs k.rule k.place ≡ None) keys
      → missing p (plain.bounds_of p (fs ++ derivation_at keys ∷ [])) + length keys ≤ missing p (plain.bounds_of p fs)
  all_fall [] apart each unknown =
      let same : plain.bounds_of p (fs ++ derivation_at [] ∷ []) ≡ plain.bounds_of p fs =
      (λ j t i. (bounds_of-append p fs (derivation_at [] ∷ []) t i ∙ first_of_alone (plain.bounds_of p fs t i)) j) in
      let e = ap (missing p) same in
      omega (arith, e)
  all_fall (k ∷ ks) apart each unknown =
      let rest = all_fall ks apart.1 (All-tail (λ x. IsKey p x.rule x.place) k ks each)
      (All-tail (λ x. plain.bounds_of p fs x.rule x.place ≡ None) k ks unknown) in
      let less = one_falls k ks apart.0 (All-head (λ x. IsKey p x.rule x.place) k ks each)
      (All-head (λ x. plain.bounds_of p fs x.rule x.place ≡ None) k ks unknown) in
      omega (arith, rest, less)

  -- a derivation with open keys leaves fewer bounds missing, by at least the number of its keys
  pub find_falls_by : AreDistinct g.keys → AreOpen p fs g.keys
      → missing p (plain.bounds_of p (fs ++ g ∷ [])) + length g.keys ≤ missing p (plain.bounds_of p fs)
  find_falls_by apart are = all_fall g.keys apart are.each are.unknown

-- there is a number for a derivation with open keys
pub room_for : (p : Program) (tab : Table) (derivations : List Derivation) (keys : List ResultVariable) → AreDerivedBounds p tab derivations
    → AreOpen p (derivations_of derivations) keys → length derivations + 1 < 2 ^ 32 - 1
room_for p tab derivations keys derived are =
    let less = find_falls p (derivations_of derivations)
    (record { keys = keys; node = plain.NeverBy 0; premises = []; bound = Constant 0 }) are in
    let few = derived.few in
    omega (arith, less, few)
