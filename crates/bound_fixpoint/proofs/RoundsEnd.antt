-- Rounds end: each derivation of a round has a key whose bound was missing before the round.
use Rattle.std.proofs.Common.{◌≡◌, ◌⊎◌, inl, inr, ℕ, ◌<◌, ◌==◌, true, List, [], ◌∷◌, ◌++◌, map, None, refl, sym}
use Rattle.std.proofs.Common.{◌∙◌, subst, All}
use Rattle.std.proofs.lemmas.Bool.{or_left, or_right}
use Rattle.std.proofs.lemmas.List.Elements.{All-nil, All-cons, All-head, All-append, All-weaker}
use Rattle.rule_questions.specs.model.Programs.{Program}
use Rattle.rule_questions.specs.model.Entries.{is_in}
use Rattle.rule_questions.proofs.model.Membership.{same_number}
use Rattle.rule_questions.specs.cert_rules.Nodes.{ResultVariable}
use Rattle.rule_questions.specs.cert_rules.Setting.{Setting}
use Rattle.rule_questions.specs.cert_rules.AcceptsPlain.{IsRule}
use Rattle.bound_fixpoint.specs.Keys.{time_key, has_key, rule_numbers}
use Rattle.bound_fixpoint.specs.Derivations.{Derivation, bounds_of}
use Rattle.bound_fixpoint.specs.Searches.{Searches, searches_of}
use Rattle.bound_fixpoint.specs.Answers.{TimeOf, SizesOf, is_open, Answer, Found, Lacks, derivations_by}
use Rattle.bound_fixpoint.specs.Components.{IsOneOf, AreComponentsOf}
use Rattle.bound_fixpoint.specs.Rounds.{TriesAll, Together, InTurn, IsRound}
use Rattle.bound_fixpoint.specs.Laws.{missing, RoundsEnd}
use Rattle.bound_fixpoint.proofs.Keys.{has_key-first}
use Rattle.bound_fixpoint.proofs.DerivationLists.{bounds_of-new, bounds_of-kept, found-here}
use Rattle.bound_fixpoint.proofs.MissingBounds.{missing_before}
use Rattle.bound_fixpoint.proofs.MissingFalls.{IsKeyOfRule, missing_falls}
use Rattle.bound_fixpoint.proofs.RuleNumbers.{in_rules}
use Rattle.bound_fixpoint.proofs.TimesAreJustified.{by_answer, open_time}
use Rattle.bound_fixpoint.proofs.UniformComponents.{open_one, member_covered}

-- a derivation has a key of a rule whose bound is missing after the earlier ones
pub record FindsMissing (p : Program) (fs : List Derivation) (f : Derivation) : Type 0 where
  pub number : ℕ
  pub place : ℕ
  pub has : has_key f.keys number place ≡ true
  pub rule : IsKeyOfRule p number place
  pub missing : bounds_of p fs number place ≡ None

-- a key that is missing after derivations was missing after fewer of them
derivations_before : (p : Program) (fs gs : List Derivation) (f : Derivation) → FindsMissing p (fs ++ gs) f → FindsMissing p fs f
derivations_before p fs gs f h = record {
  number = h.number;
  place = h.place;
  has = h.has;
  rule = h.rule;
  missing = missing_before p fs gs h.number h.place h.missing;
}

module _ (q : Searches) (s : Setting) where
  -- each derivation of a rule's time in a round has such a key
  times_missing : (fs : List Derivation) (ts : List ℕ) → ((t : ℕ) → is_in t ts ≡ true → IsRule s.program t)
      → (times : List Derivation) → TriesAll q s Together fs (map TimeOf ts) times → All (FindsMissing s.program fs) times
  times_missing fs [] rules times none =
      subst (λ (xs : List Derivation). All (FindsMissing s.program fs) xs) (sym none) (All-nil (FindsMissing s.program fs))
  times_missing fs (t ∷ ts) rules times (first, tries, (rest, e, later)) =
      subst (λ (xs : List Derivation). All (FindsMissing s.program fs) xs) (sym e)
      (All-append (FindsMissing s.program fs) first rest
      (by_answer (λ (xs : List Derivation). All (FindsMissing s.program fs) xs) q s fs (TimeOf t) first tries
      (All-nil (FindsMissing s.program fs)) (λ open_now a is_answer. answer open_now a))
      (times_missing fs ts (λ u m. rules u (or_right (u == t) (is_in u ts) m)) rest later))
    where
      answer : is_open (bounds_of s.program fs) (TimeOf t) ≡ true → (a : Answer)
          → All (FindsMissing s.program fs) (derivations_by (TimeOf t) a)
      answer open_now (Lacks why) = All-nil (FindsMissing s.program fs)
      answer open_now (Found node premises bound) =
          All-cons (FindsMissing s.program fs)
          (record { keys = time_key t ∷ []; node = node; premises = premises; bound = bound }) [] (record {
            number = t;
            place = 0;
            has = has_key-first (time_key t) [];
            rule = (rules t (or_left (t == t) (is_in t ts) (same_number t)), inl refl);
            missing = open_time (bounds_of s.program fs) t open_now;
          })
          (All-nil (FindsMissing s.program fs))

  -- each derivation of a component's size has such a key
  sizes_missing : (cs : List (List ResultVariable)) → AreComponentsOf q s.program cs → (fs : List Derivation) (ds : List (List ResultVariable))
      → ((d : List ResultVariable) → IsOneOf ds d → IsOneOf cs d) → (sizes : List Derivation)
      → TriesAll q s InTurn fs (map SizesOf ds) sizes → All (FindsMissing s.program fs) sizes
  sizes_missing cs are fs [] all sizes none =
      subst (λ (xs : List Derivation). All (FindsMissing s.program fs) xs) (sym none) (All-nil (FindsMissing s.program fs))
  sizes_missing cs are fs (d ∷ ds) all sizes (first, tries, (rest, e, later)) =
      subst (λ (xs : List Derivation). All (FindsMissing s.program fs) xs) (sym e)
      (All-append (FindsMissing s.program fs) first rest
      (by_answer (λ (xs : List Derivation). All (FindsMissing s.program fs) xs) q s fs (SizesOf d) first tries
      (All-nil (FindsMissing s.program fs)) (λ open_now a is_answer. answer open_now a))
      (All-weaker (FindsMissing s.program (fs ++ first)) (FindsMissing s.program fs)
      (derivations_before s.program fs first) rest
      (sizes_missing cs are (fs ++ first) ds (λ x k. all x (inr k)) rest later)))
    where
      answer : is_open (bounds_of s.program fs) (SizesOf d) ≡ true → (a : Answer)
          → All (FindsMissing s.program fs) (derivations_by (SizesOf d) a)
      answer open_now (Lacks why) = All-nil (FindsMissing s.program fs)
      answer open_now (Found node premises bound) =
          let one = open_one (bounds_of s.program fs) d open_now in
          let live = (are.live one.0 one.1.0).0 (member_covered cs d one.0 one.1.0 (all d (inl refl)) one.1.1) in
          All-cons (FindsMissing s.program fs) (record { keys = d; node = node; premises = premises; bound = bound }) []
          (record {
            number = one.0;
            place = one.1.0;
            has = one.1.1;
            rule = (live.0, inr live.2);
            missing = one.1.2;
          })
          (All-nil (FindsMissing s.program fs))

  -- each derivation of a round has such a key
  pub round_missing : (fs more : List Derivation) → IsRound q s fs more → All (FindsMissing s.program fs) more
  round_missing fs more n =
      subst (λ (xs : List Derivation). All (FindsMissing s.program fs) xs) (sym n.all)
      (All-append (FindsMissing s.program fs) n.times n.sizes
      (times_missing fs (rule_numbers s.program) (λ t m. in_rules s.program t m) n.times n.timed)
      (All-weaker (FindsMissing s.program (fs ++ n.times)) (FindsMissing s.program fs)
      (derivations_before s.program fs n.times) n.sizes
      (sizes_missing n.components n.live (fs ++ n.times) n.components (λ d k. k) n.sizes n.sized)))

  -- after a round with a derivation fewer bounds are missing
  pub round_ends : (fs more : List Derivation) → IsRound q s fs more
      → (missing s.program (bounds_of s.program (fs ++ more)) < missing s.program (bounds_of s.program fs))
      ⊎ (more ≡ [])
  round_ends fs [] n = inr refl
  round_ends fs (f ∷ rest) n =
      let h = All-head (FindsMissing s.program fs) f rest (round_missing fs (f ∷ rest) n) in
      inl (missing_falls s.program (bounds_of s.program fs) (bounds_of s.program (fs ++ f ∷ rest))
      (λ t i b e. bounds_of-kept s.program fs (f ∷ rest) t i b e) h.number h.place f.bound h.rule h.missing
      (bounds_of-new s.program fs (f ∷ rest) h.number h.place h.missing
      ∙ found-here f rest h.number h.place h.has))

-- rounds end: each derives a bound that was missing, or nothing
pub ends : RoundsEnd
ends = record { each = λ a s fs more n. round_ends (searches_of a) s fs more n }
