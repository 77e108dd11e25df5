-- Derivations of ascending rules: if all keys are unknown at first, those of each derivation are unknown after the ones
-- before it.
use Rattle.std.proofs.Common.{◌≡◌, ℕ, zero, suc, ◌+◌, ◌<◌, ◌≤◌, Bool, true, false, List, [], ◌∷◌, ◌++◌, map, filter}
use Rattle.std.proofs.Common.{None, refl, sym, ◌∙◌, ap, subst, arith, All}
use Rattle.std.specs.List.{range_with_len}
use Rattle.std.proofs.lemmas.List.{append_assoc, append-nil}
use Rattle.std.proofs.lemmas.List.Elements.{All-nil, All-cons, All-head, All-tail}
use Rattle.rule_questions.specs.model.Programs.{Program}
use Rattle.rule_questions.specs.cert_rules.Nodes.{ResultVariable}
use Rattle.rule_questions.specs.cert_rules.Setting.{Setting}
use Rattle.bound_fixpoint.specs.Keys.{Bounds, at_key, has_key}
use Rattle.bound_fixpoint.specs.Derivations.{Derivation, bound_found, bounds_of}
use Rattle.bound_fixpoint.specs.Justification.{IsJustified, IsBeginning, AreJustifiedAfter}
use Rattle.bound_fixpoint.proofs.Cases.{by_cases}
use Rattle.bound_fixpoint.proofs.Keys.{has_key-all}
use Rattle.bound_fixpoint.proofs.DerivationLists.{found-later}
use Rattle.bound_fixpoint.proofs.MissingBounds.{all-has_key, missing_still}

-- numbers ascend, from this one on
abbrev pub AscendFrom : ℕ → List ℕ → Type 0
AscendFrom n [] = Unit {0}
AscendFrom n (m ∷ ms) = (n ≤ m) × AscendFrom (suc m) ms

-- numbers that ascend from one number on ascend from a lower one on
pub ascend_lower : (n m : ℕ) (ns : List ℕ) → n ≤ m → AscendFrom m ns → AscendFrom n ns
ascend_lower n m [] low h = tt
ascend_lower n m (k ∷ ns) low h = let least = h.0 in (omega (arith, low, least), h.1)

-- the numbers of a range ascend
pub range_ascends : (n k : ℕ) → AscendFrom n (range_with_len n k)
range_ascends n zero = tt
range_ascends n (suc k) = (
  omega arith,
  ascend_lower (suc n) (n + 1) (range_with_len (n + 1) k) (omega arith)
      (range_ascends (n + 1) k),
)

-- the numbers that pass a test ascend if all do
pub filter_ascends : (test : ℕ → Bool) (n : ℕ) (ns : List ℕ) → AscendFrom n ns → AscendFrom n (filter test ns)
filter_ascends test n [] h = tt
filter_ascends test n (m ∷ ns) h = go (test m) refl (filter_ascends test (suc m) ns h.1)
  where
    go : (v : Bool) → test m ≡ v → AscendFrom (suc m) (filter test ns) → AscendFrom n (filter test (m ∷ ns))
    go true e rest = rw e (h.0, rest)
    go false e rest = let least = h.0 in rw e (ascend_lower n (suc m) (filter test ns) (omega (arith, least)) rest)

-- all keys are of this rule
abbrev pub AreOfRule : ℕ → List ResultVariable → Type 0
AreOfRule t keys = All (λ k. k.rule ≡ t) keys

-- the keys of each derivation are of one rule, and these rules ascend, from this number on
abbrev pub RulesAscend : ℕ → List Derivation → Type 0
RulesAscend n [] = Unit {0}
RulesAscend n (f ∷ fs) = (t : ℕ) × (n ≤ t) × AreOfRule t f.keys × RulesAscend (suc t) fs

-- rules that ascend from one number on ascend from a lower one on
pub rules_lower : (n m : ℕ) (fs : List Derivation) → n ≤ m → RulesAscend m fs → RulesAscend n fs
rules_lower n m [] low h = tt
rules_lower n m (f ∷ fs) low (t, least, own, rest) = (t, omega (arith, low, least), own, rest)

-- derivations made of ascending rules have ascending rules
pub made_ascend : (make : ℕ → Derivation) → ((t : ℕ) → AreOfRule t (make t).keys) → (n : ℕ) (ts : List ℕ) → AscendFrom n ts
    → RulesAscend n (map make ts)
made_ascend make own n [] h = tt
made_ascend make own n (t ∷ ts) h = (t, h.0, own t, made_ascend make own (suc t) ts h.1)

-- no bound of these keys is known
abbrev pub AreFresh : Bounds → List ResultVariable → Type 0
AreFresh b keys = All (λ k. at_key b k ≡ None) keys

-- none of the keys of these derivations is known
abbrev pub AllFresh : Bounds → List Derivation → Type 0
AllFresh b fs = All (λ f. AreFresh b f.keys) fs

-- the keys of each derivation are unknown after those before it
abbrev pub FreshAfter : Program → List Derivation → List Derivation → Type 0
FreshAfter p earlier [] = Unit {0}
FreshAfter p earlier (f ∷ fs) = AreFresh (bounds_of p earlier) f.keys × FreshAfter p (earlier ++ f ∷ []) fs

module _ (p : Program) (earlier : List Derivation) (f : Derivation) (t : ℕ) (own : AreOfRule t f.keys) where
  -- keys of another rule stay unknown after a derivation
  other_rule : (u : ℕ) (keys : List ResultVariable) → t < u → AreOfRule u keys → AreFresh (bounds_of p earlier) keys
      → AreFresh (bounds_of p (earlier ++ f ∷ [])) keys
  other_rule u keys more others fresh =
      all-has_key (λ k. at_key (bounds_of p (earlier ++ f ∷ [])) k ≡ None) keys each
    where
      each : (v i : ℕ) → has_key keys v i ≡ true → bounds_of p (earlier ++ f ∷ []) v i ≡ None
      each v i m =
          missing_still p earlier (f ∷ []) v i
          (has_key-all (λ k. at_key (bounds_of p earlier) k ≡ None) keys v i fresh m)
          (by_cases (has_key f.keys v i) mine (λ k. found-later f [] v i k))
        where
          mine : has_key f.keys v i ≡ true → bound_found (f ∷ []) v i ≡ None
          mine k =
              let other : v ≡ u = has_key-all (λ k. k.rule ≡ u) keys v i others m in
              let same : v ≡ t = has_key-all (λ k. k.rule ≡ t) f.keys v i own k in
              absurd (omega (arith, other, same, more))

  -- keys of derivations of later rules stay unknown
  pub later_rules : (fs : List Derivation) (n : ℕ) → t < n → RulesAscend n fs → AllFresh (bounds_of p earlier) fs
      → AllFresh (bounds_of p (earlier ++ f ∷ [])) fs
  later_rules [] n more h fresh = All-nil (λ g. AreFresh (bounds_of p (earlier ++ f ∷ [])) g.keys)
  later_rules (g ∷ fs) n more (u, least, others, rest) fresh =
      All-cons (λ x. AreFresh (bounds_of p (earlier ++ f ∷ [])) x.keys) g fs
      (other_rule u g.keys (omega (arith, more, least)) others
      (All-head (λ x. AreFresh (bounds_of p earlier) x.keys) g fs fresh))
      (later_rules fs (suc u) (omega (arith, more, least)) rest
      (All-tail (λ x. AreFresh (bounds_of p earlier) x.keys) g fs fresh))

-- if the rules of derivations ascend and all their keys are unknown at first, the keys of each are unknown after those
-- before it
pub fresh_by_rules : (p : Program) (fs : List Derivation) (n : ℕ) (earlier : List Derivation) → RulesAscend n fs
    → AllFresh (bounds_of p earlier) fs → FreshAfter p earlier fs
fresh_by_rules p [] n earlier h fresh = tt
fresh_by_rules p (f ∷ fs) n earlier (t, least, own, rest) fresh = (
  All-head (λ x. AreFresh (bounds_of p earlier) x.keys) f fs fresh,
  fresh_by_rules p fs (suc t) (earlier ++ f ∷ []) rest
      (later_rules p earlier f t own fs (suc t) (omega arith) rest
      (All-tail (λ x. AreFresh (bounds_of p earlier) x.keys) f fs fresh)),
)

-- a prefix of a list is one of a longer list
pub begins_later : (before earlier more : List Derivation) → IsBeginning before earlier → IsBeginning before (earlier ++ more)
begins_later before earlier more b = record {
  between = b.between ++ more;
  same = sym (append_assoc before b.between more) ∙ ap (λ (xs : List Derivation). xs ++ more) b.same;
}

-- a list is a prefix of itself
pub begins_itself : (fs : List Derivation) → IsBeginning fs fs
begins_itself fs = record { between = []; same = append-nil fs }

-- derivations that are all justified over the same prefix, with keys unknown one after the other, are justified after
-- the list
pub justified_over : (s : Setting) (before earlier fs : List Derivation) → IsBeginning before earlier
    → All (IsJustified s (bounds_of s.program before)) fs → FreshAfter s.program earlier fs → AreJustifiedAfter s earlier fs
justified_over s before earlier [] begins stand fresh = tt
justified_over s before earlier (f ∷ fs) begins stand fresh = (
  record {
    before = before;
    begins = begins;
    stands = All-head (IsJustified s (bounds_of s.program before)) f fs stand;
    fresh = fresh.0;
  },
  justified_over s before (earlier ++ f ∷ []) fs (begins_later before earlier (f ∷ []) begins)
      (All-tail (IsJustified s (bounds_of s.program before)) f fs stand) fresh.1,
)

-- justified derivations after justified ones are justified together
pub stand-append : (s : Setting) (earlier xs ys : List Derivation) → AreJustifiedAfter s earlier xs → AreJustifiedAfter s (earlier ++ xs) ys
    → AreJustifiedAfter s earlier (xs ++ ys)
stand-append s earlier [] ys h k = subst (λ (fs : List Derivation). AreJustifiedAfter s fs ys) (append-nil earlier) k
stand-append s earlier (x ∷ xs) ys h k = (
  h.0,
  stand-append s (earlier ++ x ∷ []) xs ys h.1
      (subst (λ (fs : List Derivation). AreJustifiedAfter s fs ys) (sym (append_assoc earlier (x ∷ []) xs)) k),
)
