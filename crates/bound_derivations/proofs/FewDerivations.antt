-- Rounds make at most 36,000 derivations for a valid program: at most 3,000 before the first round, and then each one
-- leaves fewer bounds missing, of which there are at most 33,000.
use Rattle.std.proofs.Common.{◌≡◌, ℕ, suc, ◌+◌, ◌<◌, ◌≤◌, Bool, true, false, List, [], ◌∷◌, ◌++◌, length, map, filter, None}
use Rattle.std.proofs.Common.{refl, sym, ap, ◌∙◌, subst, arith, All, append_assoc}
use Rattle.std.proofs.lemmas.List.{append-nil, length-append, length-map}
use Rattle.std.proofs.lemmas.List.Elements.{All-head, All-tail}
use Rattle.std.proofs.lemmas.List.FromFn.{length-range_with_len}
use Rattle.its_model.specs.Valid.{IsValid}
use Rattle.model.specs.Programs.{Program}
use Rattle.cert_types.specs.cert_rules.Setting.{Setting}
use Rattle.bound_fixpoint.specs.Beginning.{AreEmptyDerivations, AreFirst, unreached_derivation, never_derivation, is_cut, is_dead, zeroed}
use Rattle.bound_fixpoint.specs.Beginning.{has_places, first_derivations}
use Rattle.bound_fixpoint.specs.Derivations.{Derivation, bounds_of}
use Rattle.bound_fixpoint.specs.Keys.{at_key, time_key, rule_numbers}
use Rattle.bound_fixpoint.specs.Laws.{missing}
use Rattle.bound_fixpoint.specs.Right.{AreRight, AreOne}
use Rattle.bound_fixpoint.specs.Rounds.{IsMade, Begun, Made}
use Rattle.bound_fixpoint.specs.Searches.{Searches}
use Rattle.bound_fixpoint.specs.Justification.{AreJustifiedAfter}
use Rattle.bound_fixpoint.proofs.DerivationLists.{bounds_of-kept, bounds_of-new, found-here}
use Rattle.bound_fixpoint.proofs.Keys.{has_key-all}
use Rattle.bound_fixpoint.proofs.MissingFalls.{missing_falls}
use Rattle.bound_fixpoint.proofs.RoundsEnd.{FindsMissing, round_missing}
use Rattle.bound_fixpoint.proofs.SizesAreJustified.{all_justified}
use Rattle.bound_derivations.proofs.Room.{missing_few}
use Rattle.model.specs.Paths.{target_of}

-- no more elements pass a test than the list has
filter-short : {A : Type 0} (test : A → Bool) (xs : List A) → length (filter test xs) ≤ length xs
filter-short test [] = omega arith
filter-short test (x ∷ xs) = go (test x) refl (filter-short test xs)
  where
    go : (v : Bool) → test x ≡ v → length (filter test xs) ≤ length xs → length (filter test (x ∷ xs)) ≤ suc (length xs)
    go true e rest = rw e (omega (arith, rest))
    go false e rest = rw e (omega (arith, rest))

-- there is a derivation for each infeasible rule
empties-count : (q : Searches) (ts : List ℕ) (fs : List Derivation) → AreEmptyDerivations q ts fs → length fs ≡ length ts
empties-count q [] fs e = ap (λ (xs : List Derivation). length xs) e
empties-count q (t ∷ ts) fs (multipliers, h, (rest, e, more)) =
    ap (λ (xs : List Derivation). length xs) e ∙ ap (λ (n : ℕ). suc n) (empties-count q ts rest more)

-- there are few derivations before the first round
first-few : (q : Searches) (p : Program) → IsValid p → (fs : List Derivation) → AreFirst q p fs → length fs ≤ 3000
first-few q p valid fs h =
    let rules = length-range_with_len 1 (length p.rules) in
    let whole : length fs ≡ length (first_derivations p h.is_empty h.is_unreached h.empties) =
    ap (λ (xs : List Derivation). length xs) h.in_order in
    let both = length-append h.empties (cut ++ never) in
    let two = length-append cut never in
    let one = empties-count q (filter h.is_empty (rule_numbers p)) h.empties h.are_empties in
    let empty = filter-short h.is_empty (rule_numbers p) in
    let cuts = length-map (filter (is_cut h.is_empty h.is_unreached) (rule_numbers p)) (unreached_derivation (map time_key (filter h.is_empty (rule_numbers p)))) in
    let few_cut = filter-short (is_cut h.is_empty h.is_unreached) (rule_numbers p) in
    let nevers = length-map (zeroed p h.is_empty h.is_unreached) (never_derivation p) in
    let placed = filter-short (λ t. has_places p (target_of p t)) (filter (is_dead h.is_empty h.is_unreached) (rule_numbers p)) in
    let dead = filter-short (is_dead h.is_empty h.is_unreached) (rule_numbers p) in
    omega (arith, rules, whole, both, two, one, empty, cuts, few_cut, nevers, placed, dead, valid.few_rules)
  where
    cut : List Derivation
    cut = map (unreached_derivation (map time_key (filter h.is_empty (rule_numbers p))))
        (filter (is_cut h.is_empty h.is_unreached) (rule_numbers p))

    never : List Derivation
    never = map (never_derivation p) (zeroed p h.is_empty h.is_unreached)

-- derivations that are justified after others, each with a key of a rule, lower the number of missing bounds by at
-- least their own number
falls : (s : Setting) (old fs more : List Derivation) → AreJustifiedAfter s fs more → All (FindsMissing s.program old) more
    → missing s.program (bounds_of s.program (fs ++ more)) + length more ≤ missing s.program (bounds_of s.program fs)
falls s old fs [] h k =
    let same : missing s.program (bounds_of s.program (fs ++ [])) ≡ missing s.program (bounds_of s.program fs) =
    ap (λ (xs : List Derivation). missing s.program (bounds_of s.program xs)) (append-nil fs) in
    omega (arith, same)
falls s old fs (f ∷ more) h k =
    let key = All-head (FindsMissing s.program old) f more k in
    let fresh : bounds_of s.program fs key.number key.place ≡ None =
    has_key-all (λ x. at_key (bounds_of s.program fs) x ≡ None) f.keys key.number key.place h.0.fresh key.has in
    let here : missing s.program (bounds_of s.program (fs ++ f ∷ [])) < missing s.program (bounds_of s.program fs) =
    missing_falls s.program (bounds_of s.program fs) (bounds_of s.program (fs ++ f ∷ []))
    (λ t i b e. bounds_of-kept s.program fs (f ∷ []) t i b e) key.number key.place f.bound key.rule fresh
    (bounds_of-new s.program fs (f ∷ []) key.number key.place fresh ∙ found-here f [] key.number key.place key.has) in
    let later = falls s old (fs ++ f ∷ []) more h.1 (All-tail (FindsMissing s.program old) f more k) in
    let same : missing s.program (bounds_of s.program ((fs ++ f ∷ []) ++ more)) ≡ missing s.program (bounds_of s.program (fs ++ f ∷ more)) =
    ap (λ (xs : List Derivation). missing s.program (bounds_of s.program xs)) (append_assoc fs (f ∷ []) more) in
    omega (arith, here, later, same)

-- the second part of a justified list is justified after the first
stand-rest : (s : Setting) (earlier xs ys : List Derivation) → AreJustifiedAfter s earlier (xs ++ ys) → AreJustifiedAfter s (earlier ++ xs) ys
stand-rest s earlier [] ys h = subst (λ (fs : List Derivation). AreJustifiedAfter s fs ys) (sym (append-nil earlier)) h
stand-rest s earlier (x ∷ xs) ys h =
    subst (λ (fs : List Derivation). AreJustifiedAfter s fs ys) (append_assoc earlier (x ∷ []) xs)
    (stand-rest s (earlier ++ x ∷ []) xs ys h.1)

module _ (q : Searches) (s : Setting) (valid : IsValid s.program) (right : AreRight q s) (one : AreOne q) where
  -- the number of derivations and missing bounds together is limited
  made-count : (fs : List Derivation) → IsMade q s fs → length fs + missing s.program (bounds_of s.program fs) ≤ 36000
  made-count fs (Begun h) =
      let few = first-few q s.program valid fs h in
      let rest = missing_few s.program valid (bounds_of s.program fs) in
      omega (arith, few, rest)
  made-count fs (Made {fs = old} {more = more} m n) =
      let before = made-count old m in
      let stand = stand-rest s [] old more (all_justified q s right one (old ++ more) (Made m n)).each in
      let fewer = falls s old old more stand (round_missing q s old more n) in
      let long = length-append old more in
      omega (arith, before, fewer, long)

  -- rounds make few derivations
  pub made-few : (fs : List Derivation) → IsMade q s fs → length fs ≤ 36000
  made-few fs h = let all = made-count fs h in omega (arith, all)
