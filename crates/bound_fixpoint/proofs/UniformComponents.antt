-- Each derivation has all members of a component among its keys, or none; so all members have one bound, or none has
-- one.
use Rattle.std.proofs.Common.{◌≡◌, ◌⊎◌, inl, inr, ℕ, ◌≤◌, true, false, List, [], ◌∷◌, ◌++◌, map}
use Rattle.std.proofs.Common.{None, refl, sym, ◌∙◌, subst, arith, All}
use Rattle.std.proofs.lemmas.Bool.{or_cases, false_from_ne_true}
use Rattle.std.proofs.lemmas.List.Elements.{All-nil, All-cons, All-head, All-tail, All-append, All-map}
use Rattle.rule_questions.specs.model.Entries.{is_in}
use Rattle.rule_questions.specs.cert_rules.Nodes.{ResultVariable}
use Rattle.rule_questions.specs.cert_rules.Setting.{Setting}
use Rattle.bound_fixpoint.specs.Keys.{Bounds, time_key, at_key, has_key, lacks, rule_numbers}
use Rattle.bound_fixpoint.specs.Derivations.{Derivation, bound_found, bounds_of, keys_after}
use Rattle.bound_fixpoint.specs.Searches.{Searches, searches_of}
use Rattle.bound_fixpoint.specs.Answers.{TimeOf, SizesOf, are_open, Answer, Found, Lacks, derivations_by}
use Rattle.bound_fixpoint.specs.Components.{IsCovered, IsOneOf, AreApart, AreComponentsOf, IsDead}
use Rattle.bound_fixpoint.specs.Beginning.{AreFirst, never_derivation}
use Rattle.bound_fixpoint.specs.Rounds.{Tries, TriesAll, Together, InTurn, IsRound, IsMade, Begun, Made}
use Rattle.bound_fixpoint.specs.Laws.{AreUniform, ComponentsAreUniform}
use Rattle.bound_fixpoint.proofs.Cases.{either, false_true, lacks_none}
use Rattle.bound_fixpoint.proofs.Keys.{has_key-first, has_key-later}
use Rattle.bound_fixpoint.proofs.DerivationLists.{found-here, found-later}
use Rattle.bound_fixpoint.proofs.MissingBounds.{rule_bounds}
use Rattle.bound_fixpoint.proofs.KnownPremises.{of_each_in}
use Rattle.bound_fixpoint.proofs.DeadRules.{dead_by}
use Rattle.bound_fixpoint.proofs.ZeroTimes.{AreZeroTimesOf, empties_zero, unreached_zero, only_time}
use Rattle.bound_fixpoint.proofs.FirstDerivationsAreJustified.{empty_ones, cut_ones, sized_ones, dead_keys, cuts, nevers, sized_rule}
use Rattle.bound_fixpoint.proofs.FirstDerivationsAreJustified.{keys_after-sound}
use Rattle.bound_fixpoint.proofs.TimesAreJustified.{by_answer}

-- a derivation has all members of a component among its keys, or none
abbrev pub IsWhole : List ResultVariable → Derivation → Type 0
IsWhole c f = ((t i : ℕ) → has_key c t i ≡ true → has_key f.keys t i ≡ true)
    ⊎ ((t i : ℕ) → has_key c t i ≡ true → has_key f.keys t i ≡ false)

-- all members have one derived bound, or none has one
pub uniform_found : (c : List ResultVariable) (fs : List Derivation) → All (IsWhole c) fs → AreUniform (bound_found fs) c
uniform_found c [] whole t i u j m n = refl
uniform_found c (f ∷ fs) whole t i u j m n =
    go (All-head (IsWhole c) f fs whole) (uniform_found c fs (All-tail (IsWhole c) f fs whole) t i u j m n)
  where
    go : IsWhole c f → bound_found fs t i ≡ bound_found fs u j → bound_found (f ∷ fs) t i ≡ bound_found (f ∷ fs) u j
    go (inl all) rest = found-here f fs t i (all t i m) ∙ sym (found-here f fs u j (all u j n))
    go (inr none) rest = found-later f fs t i (none t i m) ∙ (rest ∙ sym (found-later f fs u j (none u j n)))

-- if a bound of these keys is missing, here is a key without one
pub open_one : (b : Bounds) (c : List ResultVariable) → are_open b c ≡ true → (t : ℕ) × ((i : ℕ) × (has_key c t i ≡ true) ×
    (b t i ≡ None))
open_one b [] h = absurd (false_true h)
open_one b (k ∷ c) h =
    go (or_cases (lacks (at_key b k)) (are_open b c) h) (open_one b c)
  where
    go : (lacks (at_key b k) ≡ true) ⊎ (are_open b c ≡ true)
        → (are_open b c ≡ true → (t : ℕ) × ((i : ℕ) × (has_key c t i ≡ true) × (b t i ≡ None)))
        → (t : ℕ) × ((i : ℕ) × (has_key (k ∷ c) t i ≡ true) × (b t i ≡ None))
    go (inl e) ih = (k.rule, (k.place, has_key-first k c, lacks_none (at_key b k) e))
    go (inr e) ih = let rest = ih e in (rest.0, (rest.1.0, has_key-later k c rest.0 rest.1.0 rest.1.1, rest.1.2))

-- if all members have one bound or none has one, and one is missing, all are missing
pub open_all : (b : Bounds) (c : List ResultVariable) → AreUniform b c → are_open b c ≡ true → (t i : ℕ) → has_key c t i ≡ true
    → b t i ≡ None
open_all b c uniform h t i m =
    let one = open_one b c h in uniform t i one.0 one.1.0 m one.1.1 ∙ one.1.2

-- a member of one of the components is covered by the components
pub member_covered : (cs : List (List ResultVariable)) (c : List ResultVariable) (t i : ℕ) → IsOneOf cs c → has_key c t i ≡ true
    → IsCovered cs t i
member_covered [] c t i one m = absurd one
member_covered (x ∷ cs) c t i (inl e) m = inl (subst (λ (ks : List ResultVariable). has_key ks t i ≡ true) (sym e) m)
member_covered (x ∷ cs) c t i (inr one) m = inr (member_covered cs c t i one m)

-- two of the components are the same, or share no member
same_or_apart : (cs : List (List ResultVariable)) → AreApart cs → (c d : List ResultVariable) → IsOneOf cs c → IsOneOf cs d
    → (c ≡ d) ⊎ ((t i : ℕ) → has_key c t i ≡ true → has_key d t i ≡ false)
same_or_apart [] apart c d one two = absurd one
same_or_apart (x ∷ cs) apart c d (inl e) (inl f) = inl (sym e ∙ f)
same_or_apart (x ∷ cs) apart c d (inl e) (inr two) =
    inr (λ t i m. false_from_ne_true (has_key d t i)
    (λ k. apart.0 t i (subst (λ (ks : List ResultVariable). has_key ks t i ≡ true) (sym e) m) (member_covered cs d t i two k)))
same_or_apart (x ∷ cs) apart c d (inr one) (inl f) =
    inr (λ t i m. false_from_ne_true (has_key d t i)
    (λ k. apart.0 t i (subst (λ (ks : List ResultVariable). has_key ks t i ≡ true) (sym f) k) (member_covered cs c t i one m)))
same_or_apart (x ∷ cs) apart c d (inr one) (inr two) = same_or_apart cs apart.1 c d one two

module _ (q : Searches) (s : Setting) (cs : List (List ResultVariable)) (are : AreComponentsOf q s.program cs) (c : List ResultVariable)
    (one : IsOneOf cs c) where
  -- members are places after live rules
  place_from_one : (t i : ℕ) → has_key c t i ≡ true → 1 ≤ i
  place_from_one t i m = ((are.live t i).0 (member_covered cs c t i one m)).2.least

  -- a derivation of a time has none of the members
  time_whole : (f : Derivation) (t : ℕ) → f.keys ≡ time_key t ∷ [] → IsWhole c f
  time_whole f t e = inr (λ u i m. false_from_ne_true (has_key f.keys u i) (other u i m))
    where
      other : (u i : ℕ) → has_key c u i ≡ true → has_key f.keys u i ≡ true → ⊥
      other u i m k =
          let only = only_time t u i (subst (λ (ks : List ResultVariable). has_key ks u i ≡ true) e k) in
          let place = only.1 in
          let low = place_from_one u i m in
          omega (arith, place, low)

  -- derivations of zero times have none of the members
  zero_whole : (ts : List ℕ) (fs : List Derivation) → AreZeroTimesOf ts fs → All (IsWhole c) fs
  zero_whole [] fs h = subst (λ (xs : List Derivation). All (IsWhole c) xs) (sym h) (All-nil (IsWhole c))
  zero_whole (t ∷ ts) fs (f, rest, e, is, later) =
      subst (λ (xs : List Derivation). All (IsWhole c) xs) (sym e)
      (All-cons (IsWhole c) f rest (time_whole f t is.keys) (zero_whole ts rest later))

  -- each derivation before the first round has all members or none
  pub first_whole : (fs : List Derivation) → AreFirst q s.program fs → All (IsWhole c) fs
  first_whole fs h =
      subst (λ (xs : List Derivation). All (IsWhole c) xs) (sym h.in_order)
      (All-append (IsWhole c) h.empties (cuts q s fs h ++ nevers q s fs h)
      (zero_whole (empty_ones q s fs h) h.empties (empties_zero q (empty_ones q s fs h) h.empties h.are_empties))
      (All-append (IsWhole c) (cuts q s fs h) (nevers q s fs h)
      (zero_whole (cut_ones q s fs h) (cuts q s fs h) (unreached_zero (dead_keys q s fs h) (cut_ones q s fs h)))
      (All-map (IsWhole c) (never_derivation s.program) (sized_ones q s fs h)
      (of_each_in (λ (t : ℕ). IsWhole c (never_derivation s.program t)) (sized_ones q s fs h) never))))
    where
      never : (t : ℕ) → is_in t (sized_ones q s fs h) ≡ true → IsWhole c (never_derivation s.program t)
      never t m = inr (λ u i n. false_from_ne_true (has_key (keys_after s.program t) u i) (other u i n))
        where
          other : (u i : ℕ) → has_key c u i ≡ true → has_key (keys_after s.program t) u i ≡ true → ⊥
          other u i n k =
              let rule = sized_rule q s fs h t m in
              let live = (are.live u i).0 (member_covered cs c u i one n) in
              let same = (keys_after-sound s.program t u i k).0 in
              live.1 (subst (λ (x : ℕ). IsDead s.program are.is_empty x) same
              (dead_by s.program h.is_empty are.is_empty (λ e is k. (are.empty e is).1 ((h.empty e is).0 k)) t rule.0
              rule.1))

  -- the derivations of rules in a round have none of the members
  pub times_whole : (fs : List Derivation) (ts : List ℕ) (times : List Derivation) → TriesAll q s Together fs (map TimeOf ts) times
      → All (IsWhole c) times
  times_whole fs [] times none = subst (λ (xs : List Derivation). All (IsWhole c) xs) (sym none) (All-nil (IsWhole c))
  times_whole fs (t ∷ ts) times (first, tries, (rest, e, later)) =
      subst (λ (xs : List Derivation). All (IsWhole c) xs) (sym e)
      (All-append (IsWhole c) first rest
      (by_answer (λ (xs : List Derivation). All (IsWhole c) xs) q s fs (TimeOf t) first tries (All-nil (IsWhole c))
      (λ open_now a is_answer. answer a))
      (times_whole fs ts rest later))
    where
      answer : (a : Answer) → All (IsWhole c) (derivations_by (TimeOf t) a)
      answer (Found node premises bound) =
          All-cons (IsWhole c) (record { keys = time_key t ∷ []; node = node; premises = premises; bound = bound }) []
          (time_whole (record { keys = time_key t ∷ []; node = node; premises = premises; bound = bound }) t refl)
          (All-nil (IsWhole c))
      answer (Lacks why) = All-nil (IsWhole c)

  -- a derivation of a component has all members if it is the same component, else none
  size_whole : (d : List ResultVariable) → IsOneOf cs d → (a : Answer) → All (IsWhole c) (derivations_by (SizesOf d) a)
  size_whole d two (Lacks why) = All-nil (IsWhole c)
  size_whole d two (Found node premises bound) =
      All-cons (IsWhole c) (record { keys = d; node = node; premises = premises; bound = bound }) []
      (either (same_or_apart cs are.apart c d one two)
      (λ same. inl (λ t i m. subst (λ (ks : List ResultVariable). has_key ks t i ≡ true) same m)) (λ apart. inr apart))
      (All-nil (IsWhole c))

  -- the derivations for a component have all its members, or none
  pub tried_whole : (fs : List Derivation) (d : List ResultVariable) → IsOneOf cs d → (more : List Derivation)
      → Tries q s fs (SizesOf d) more → All (IsWhole c) more
  tried_whole fs d two more tries =
      by_answer (λ (xs : List Derivation). All (IsWhole c) xs) q s fs (SizesOf d) more tries (All-nil (IsWhole c))
      (λ open_now a is_answer. size_whole d two a)

  pub sizes_whole : (fs : List Derivation) (ds : List (List ResultVariable)) → ((d : List ResultVariable) → IsOneOf ds d → IsOneOf cs d)
      → (sizes : List Derivation) → TriesAll q s InTurn fs (map SizesOf ds) sizes → All (IsWhole c) sizes
  sizes_whole fs [] two sizes none = subst (λ (xs : List Derivation). All (IsWhole c) xs) (sym none) (All-nil (IsWhole c))
  sizes_whole fs (d ∷ ds) two sizes (first, tries, (rest, e, later)) =
      subst (λ (xs : List Derivation). All (IsWhole c) xs) (sym e)
      (All-append (IsWhole c) first rest (tried_whole fs d (two d (inl refl)) first tries)
      (sizes_whole (fs ++ first) ds (λ x k. two x (inr k)) rest later))

  -- all members have one bound, or none has one
  pub uniform_bounds : (fs : List Derivation) → All (IsWhole c) fs → AreUniform (bounds_of s.program fs) c
  uniform_bounds fs whole t i u j m n =
      rule_bounds s.program fs t i ((are.live t i).0 (member_covered cs c t i one m)).0
      ∙ (uniform_found c fs whole t i u j m n
      ∙ sym (rule_bounds s.program fs u j ((are.live u j).0 (member_covered cs c u j one n)).0))

module _ (q : Searches) (s : Setting) (cs : List (List ResultVariable)) (are : AreComponentsOf q s.program cs)
    (only : (ds : List (List ResultVariable)) → q.AreComponents ds → ds ≡ cs) where
  -- each derivation of a round has all members of a component among its keys, or none
  pub round_whole : (fs more : List Derivation) → IsRound q s fs more → (c : List ResultVariable) → IsOneOf cs c → All (IsWhole c) more
  round_whole fs more n c one =
      subst (λ (xs : List Derivation). All (IsWhole c) xs) (sym n.all)
      (All-append (IsWhole c) n.times n.sizes
      (times_whole q s cs are c one fs (rule_numbers s.program) n.times n.timed)
      (sizes_whole q s cs are c one (fs ++ n.times) n.components
      (λ d k. subst (λ (es : List (List ResultVariable)). IsOneOf es d) (only n.components n.are_components) k) n.sizes n.sized))

  -- every list of derivations that rounds make has this property
  pub made_whole : (fs : List Derivation) → IsMade q s fs → (c : List ResultVariable) → IsOneOf cs c → All (IsWhole c) fs
  made_whole fs (Begun h) c one = first_whole q s cs are c one fs h
  made_whole fs (Made {fs = old} {more = more} m n) c one =
      All-append (IsWhole c) old more (made_whole old m c one) (round_whole old more n c one)

-- in every list of derivations that rounds make the members of each component have one size, or none
pub uniform_components : ComponentsAreUniform
uniform_components = record {
  each = λ a s are fs made keys one.
      uniform_bounds (searches_of a) s a.components are keys one fs
      (made_whole (searches_of a) s a.components are (λ ds h. sym h) fs made keys one);
}
