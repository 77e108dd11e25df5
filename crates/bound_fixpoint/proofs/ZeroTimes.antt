-- Derivations that state of each of these rules that its time is 0.
use Rattle.std.proofs.Common.{◌≡◌, ℕ, suc, ◌==◌, true, false, List, [], ◌∷◌, ◌++◌, map, Some, None}
use Rattle.std.proofs.Common.{refl, sym, ◌∙◌, ap, subst}
use Rattle.std.proofs.lemmas.Bool.{or_left, or_right}
use Rattle.std.proofs.lemmas.List.Elements.{All-nil, All-cons}
use Rattle.rule_questions.specs.model.Bounds.{Bound, Constant}
use Rattle.rule_questions.specs.model.Entries.{is_in}
use Rattle.rule_questions.proofs.model.Membership.{same_number, is_in-cases, no_is_not_yes}
use Rattle.rule_questions.specs.cert_rules.Nodes.{ResultVariable}
use Rattle.bound_fixpoint.specs.Keys.{Bounds, time_key, at_key, has_key}
use Rattle.bound_fixpoint.specs.Derivations.{Derivation, bound_found}
use Rattle.bound_fixpoint.specs.Searches.{Searches}
use Rattle.bound_fixpoint.specs.Beginning.{AreEmptyDerivations, empty_derivation, unreached_derivation}
use Rattle.bound_fixpoint.proofs.Cases.{either, by_cases}
use Rattle.bound_fixpoint.proofs.Keys.{has_key-cases, has_key-first, has_key-none}
use Rattle.bound_fixpoint.proofs.DerivationLists.{found-here, found-later}
use Rattle.bound_fixpoint.proofs.FreshDerivations.{AscendFrom, AreOfRule, RulesAscend, AreFresh, AllFresh}

-- a derivation states that the time of a rule is 0
pub record IsZeroTime (t : ℕ) (f : Derivation) : Type 0 where
  pub keys : f.keys ≡ time_key t ∷ []
  pub bound : f.bound ≡ Constant 0

-- one derivation of the time 0 for each of these rules, in order
abbrev pub AreZeroTimesOf : List ℕ → List Derivation → Type 0
AreZeroTimesOf [] fs = fs ≡ []
AreZeroTimesOf (t ∷ ts) fs = (f : Derivation) × (rest : List Derivation) × (fs ≡ f ∷ rest) × IsZeroTime t f × AreZeroTimesOf ts rest

-- the derivations of infeasible rules state times of 0
pub empties_zero : (q : Searches) (ts : List ℕ) (fs : List Derivation) → AreEmptyDerivations q ts fs → AreZeroTimesOf ts fs
empties_zero q [] fs h = h
empties_zero q (t ∷ ts) fs (m, shown, (rest, e, later)) =
    (empty_derivation t m, rest, e, record { keys = refl; bound = refl }, empties_zero q ts rest later)

-- the derivations of unreached rules state times of 0
pub unreached_zero : (dead : List ResultVariable) (ts : List ℕ) → AreZeroTimesOf ts (map (unreached_derivation dead) ts)
unreached_zero dead [] = refl
unreached_zero dead (t ∷ ts) = (
  unreached_derivation dead t,
  map (unreached_derivation dead) ts,
  refl,
  record { keys = refl; bound = refl },
  unreached_zero dead ts,
)

-- derivations of zero times for appended lists of rules
pub zero_times-append : (ts us : List ℕ) (fs gs : List Derivation) → AreZeroTimesOf ts fs → AreZeroTimesOf us gs
    → AreZeroTimesOf (ts ++ us) (fs ++ gs)
zero_times-append [] us fs gs h k = subst (λ (xs : List Derivation). AreZeroTimesOf us (xs ++ gs)) (sym h) k
zero_times-append (t ∷ ts) us fs gs (f, rest, e, is, later) k =
    (f, rest ++ gs, ap (λ (xs : List Derivation). xs ++ gs) e, is, zero_times-append ts us rest gs later k)

-- the rules of derivations of zero times ascend, if the listed rules do
pub zero_times_ascend : (n : ℕ) (ts : List ℕ) (fs : List Derivation) → AscendFrom n ts → AreZeroTimesOf ts fs
    → RulesAscend n fs
zero_times_ascend n [] fs up h = subst (λ (xs : List Derivation). RulesAscend n xs) (sym h) tt
zero_times_ascend n (t ∷ ts) fs up (f, rest, e, is, later) =
    subst (λ (xs : List Derivation). RulesAscend n xs) (sym e) (
      t,
      up.0,
      subst (λ (ks : List ResultVariable). AreOfRule t ks) (sym is.keys)
          (All-cons (λ (k : ResultVariable). k.rule ≡ t) (time_key t) [] refl (All-nil (λ (k : ResultVariable). k.rule ≡ t))),
      zero_times_ascend (suc t) ts rest up.1 later,
    )

-- a key among the key of a rule's time is this key
pub only_time : (u t i : ℕ) → has_key (time_key u ∷ []) t i ≡ true → (u ≡ t) × (0 ≡ i)
only_time u t i m =
    either (has_key-cases (time_key u) [] t i m)
    (λ e. (ap (λ (k : ResultVariable). k.rule) e, ap (λ (k : ResultVariable). k.place) e)) (λ none. absurd (has_key-none t i none))

-- each of these rules has a derived time of 0
pub zero_found : (ts : List ℕ) (fs : List Derivation) → AreZeroTimesOf ts fs → (t : ℕ) → is_in t ts ≡ true
    → bound_found fs t 0 ≡ Some (Constant 0)
zero_found [] fs h t m = absurd (no_is_not_yes false refl m)
zero_found (u ∷ ts) fs (f, rest, e, is, later) t m =
    subst (λ (xs : List Derivation). bound_found xs t 0 ≡ Some (Constant 0)) (sym e)
    (by_cases (has_key f.keys t 0) here (other (zero_found ts rest later t)))
  where
    here : has_key f.keys t 0 ≡ true → bound_found (f ∷ rest) t 0 ≡ Some (Constant 0)
    here k = found-here f rest t 0 k ∙ ap (λ (b : Bound). Some b) is.bound

    other : (is_in t ts ≡ true → bound_found rest t 0 ≡ Some (Constant 0)) → has_key f.keys t 0 ≡ false
        → bound_found (f ∷ rest) t 0 ≡ Some (Constant 0)
    other ih k = found-later f rest t 0 k ∙ ih (either (is_in-cases t u ts m) mine (λ l. l))
      where
        mine : t ≡ u → is_in t ts ≡ true
        mine same =
            absurd (no_is_not_yes (has_key f.keys t 0) k
            (subst (λ (ks : List ResultVariable). has_key ks t 0 ≡ true) (sym is.keys)
            (subst (λ (n : ℕ). has_key (time_key n ∷ []) t 0 ≡ true) same (has_key-first (time_key t) []))))

-- derivations of zero times derive no other key
pub zero_missing : (ts : List ℕ) (fs : List Derivation) → AreZeroTimesOf ts fs → (t i : ℕ)
    → (is_in t ts ≡ true → 0 ≡ i → ⊥) → bound_found fs t i ≡ None
zero_missing [] fs h t i other = subst (λ (xs : List Derivation). bound_found xs t i ≡ None) (sym h) refl
zero_missing (u ∷ ts) fs (f, rest, e, is, later) t i other =
    subst (λ (xs : List Derivation). bound_found xs t i ≡ None) (sym e) (by_cases (has_key f.keys t i) here
    (λ k. found-later f rest t i k
    ∙ zero_missing ts rest later t i (λ m place. other (or_right (t == u) (is_in t ts) m) place)))
  where
    here : has_key f.keys t i ≡ true → bound_found (f ∷ rest) t i ≡ None
    here k =
        let only = only_time u t i (subst (λ (ks : List ResultVariable). has_key ks t i ≡ true) is.keys k) in
        absurd (other (or_left (t == u) (is_in t ts) (subst (λ (n : ℕ). (t == n) ≡ true) (sym only.0) (same_number t)))
        only.1)

-- the keys of derivations of zero times are unknown, if these times are missing
pub zero_fresh : (b : Bounds) (ts : List ℕ) (fs : List Derivation) → AreZeroTimesOf ts fs
    → ((t : ℕ) → is_in t ts ≡ true → b t 0 ≡ None) → AllFresh b fs
zero_fresh b [] fs h missing =
    subst (λ (xs : List Derivation). AllFresh b xs) (sym h) (All-nil (λ (f : Derivation). AreFresh b f.keys))
zero_fresh b (t ∷ ts) fs (f, rest, e, is, later) missing =
    subst (λ (xs : List Derivation). AllFresh b xs) (sym e)
    (All-cons (λ (x : Derivation). AreFresh b x.keys) f rest
    (subst (λ (ks : List ResultVariable). AreFresh b ks) (sym is.keys)
    (All-cons (λ (k : ResultVariable). at_key b k ≡ None) (time_key t) []
    (missing t (or_left (t == t) (is_in t ts) (same_number t))) (All-nil (λ (k : ResultVariable). at_key b k ≡ None))))
    (zero_fresh b ts rest later (λ u m. missing u (or_right (u == t) (is_in u ts) m))))
