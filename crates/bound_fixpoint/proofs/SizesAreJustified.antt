-- The derivations of a round for components are justified after the earlier ones.
use Rattle.std.proofs.Common.{◌≡◌, inl, inr, ◌≤◌, true, List, [], ◌∷◌, ◌++◌, length, map, None, refl, sym, subst}
use Rattle.std.proofs.Common.{arith, All}
use Rattle.std.proofs.lemmas.List.Elements.{All-nil, All-cons, All-append}
use Rattle.rule_questions.specs.cert_rules.Nodes.{ResultVariable}
use Rattle.rule_questions.specs.cert_rules.Setting.{Setting}
use Rattle.bound_fixpoint.specs.Keys.{Bounds, at_key, rule_numbers}
use Rattle.bound_fixpoint.specs.Derivations.{Node, EmptyBy, UnreachedBy, NeverBy, RankBy, SpreadBy, CycleBy, Derivation, bounds_of}
use Rattle.bound_fixpoint.specs.Derivations.{keys_of}
use Rattle.bound_fixpoint.specs.Needs.{needs_of}
use Rattle.bound_fixpoint.specs.Justification.{composed_bound, IsJustified, AreJustifiedAfter, AreJustified}
use Rattle.bound_fixpoint.specs.Searches.{Searches, searches_of, SizeOutcome, SizedBy, Unsized}
use Rattle.bound_fixpoint.specs.Answers.{SizesOf, are_open, is_open, Answer, Found, Lacks, derivations_by, AnswersSizing}
use Rattle.bound_fixpoint.specs.Answers.{AnswersSize}
use Rattle.bound_fixpoint.specs.Components.{IsOneOf, AreComponentsOf}
use Rattle.bound_fixpoint.specs.Rounds.{Tries, TriesAll, InTurn, IsRound, IsMade, Begun, Made}
use Rattle.bound_fixpoint.specs.Right.{AcceptsSizing, AreRight, AreOne}
use Rattle.bound_fixpoint.specs.Laws.{MadeDerivationsAreJustified}
use Rattle.bound_fixpoint.proofs.Cases.{false_true}
use Rattle.bound_fixpoint.proofs.MissingBounds.{all-has_key}
use Rattle.bound_fixpoint.proofs.FreshDerivations.{FreshAfter, begins_itself, justified_over, stand-append}
use Rattle.bound_fixpoint.proofs.KnownPremises.{spread_known, cycle_known}
use Rattle.bound_fixpoint.proofs.FirstDerivationsAreJustified.{first_justified}
use Rattle.bound_fixpoint.proofs.DerivationsAreOne.{answers_one}
use Rattle.bound_fixpoint.proofs.TimesAreJustified.{by_answer, round_times_justified}
use Rattle.bound_fixpoint.proofs.UniformComponents.{IsWhole, open_all, tried_whole, times_whole, uniform_bounds}
use Rattle.bound_fixpoint.proofs.UniformComponents.{made_whole}

-- the derivation of an accepted node that gives sizes
abbrev pub sizing_derivation : Setting → Bounds → List ResultVariable → Node → Derivation
sizing_derivation s b keys node = record {
  keys = keys;
  node = node;
  premises = needs_of s b node;
  bound = composed_bound s b node;
}

-- the derivation of a sizing node is justified
sizing_justified : (s : Setting) (b : Bounds) (keys : List ResultVariable) (node : Node) → keys ≡ keys_of s.program node
    → AcceptsSizing s b node → IsJustified s b (sizing_derivation s b keys node)
sizing_justified s b keys (EmptyBy t multipliers) same ok = absurd ok
sizing_justified s b keys (UnreachedBy t) same ok = absurd ok
sizing_justified s b keys (NeverBy t) same ok = absurd ok
sizing_justified s b keys (RankBy node) same ok = absurd ok
sizing_justified s b keys (SpreadBy m) same ok = record {
  keys = same;
  accepted = ok.0;
  premises = refl;
  known = spread_known b s m ok.0;
  bound = refl;
}
sizing_justified s b keys (CycleBy members) same ok = record {
  keys = same;
  accepted = ok.0;
  premises = refl;
  known = cycle_known b s members ok.0;
  bound = refl;
}

-- a list of keys of which one is missing isn't empty
open_long : (b : Bounds) (keys : List ResultVariable) → are_open b keys ≡ true → 1 ≤ length keys
open_long b [] h = absurd (false_true h)
open_long b (k ∷ keys) h = omega arith

module _ (q : Searches) (s : Setting) (right : AreRight q s) where
  -- the derivation that an answer about a component gives is justified over these bounds
  size_justified : (b : Bounds) (keys : List ResultVariable) → is_open b (SizesOf keys) ≡ true → (a : Answer)
      → AnswersSize q s b keys a → All (IsJustified s b) (derivations_by (SizesOf keys) a)
  size_justified b keys open_now a h = go h.answer h.answered h.is_answer
    where
      go : (x : SizeOutcome) → q.Sizes b keys x → AnswersSizing s b x a → All (IsJustified s b) (derivations_by (SizesOf keys) a)
      go (SizedBy node) answered is_answer =
          let r = right.sizes b keys (SizedBy node) (open_long b keys open_now) answered in
          subst (λ (y : Answer). All (IsJustified s b) (derivations_by (SizesOf keys) y)) (sym is_answer)
          (All-cons (IsJustified s b) (sizing_derivation s b keys node) [] (sizing_justified s b keys node r.same r.accepted)
          (All-nil (IsJustified s b)))
      go (Unsized why) answered is_answer =
          subst (λ (y : Answer). All (IsJustified s b) (derivations_by (SizesOf keys) y)) (sym is_answer) (All-nil (IsJustified s b))

  module _ (cs : List (List ResultVariable)) (are : AreComponentsOf q s.program cs) where
    -- each derivation has all members of each component among its keys, or none
    abbrev pub AllWhole : List Derivation → Type 0
    AllWhole fs = (c : List ResultVariable) → IsOneOf cs c → All (IsWhole c) fs

    -- the keys of a component with a missing bound are all unknown
    tried_fresh : (fs : List Derivation) → AllWhole fs → (c : List ResultVariable) → IsOneOf cs c
        → is_open (bounds_of s.program fs) (SizesOf c) ≡ true → (a : Answer)
        → FreshAfter s.program fs (derivations_by (SizesOf c) a)
    tried_fresh fs whole c one open_now (Lacks why) = tt
    tried_fresh fs whole c one open_now (Found node premises bound) = (
      all-has_key (λ (k : ResultVariable). at_key (bounds_of s.program fs) k ≡ None) c
          (open_all (bounds_of s.program fs) c (uniform_bounds q s cs are c one fs (whole c one)) open_now),
      tt,
    )

    -- the derivation for a component is justified
    tried_justified : (fs : List Derivation) → AllWhole fs → (c : List ResultVariable) → IsOneOf cs c → (more : List Derivation)
        → Tries q s fs (SizesOf c) more → AreJustifiedAfter s fs more
    tried_justified fs whole c one more tries =
        by_answer (λ (xs : List Derivation). AreJustifiedAfter s fs xs) q s fs (SizesOf c) more tries tt answer
      where
        answer : is_open (bounds_of s.program fs) (SizesOf c) ≡ true → (a : Answer)
            → AnswersSize q s (bounds_of s.program fs) c a → AreJustifiedAfter s fs (derivations_by (SizesOf c) a)
        answer open_now a is_answer =
            justified_over s fs fs (derivations_by (SizesOf c) a) (begins_itself fs)
            (size_justified (bounds_of s.program fs) c open_now a is_answer) (tried_fresh fs whole c one open_now a)

    -- the derivations for some components, one after the other, are justified
    pub sizes_justified : (fs : List Derivation) → AllWhole fs → (ds : List (List ResultVariable))
        → ((d : List ResultVariable) → IsOneOf ds d → IsOneOf cs d) → (sizes : List Derivation)
        → TriesAll q s InTurn fs (map SizesOf ds) sizes → AreJustifiedAfter s fs sizes
    sizes_justified fs whole [] all sizes none =
        subst (λ (xs : List Derivation). AreJustifiedAfter s fs xs) (sym none) tt
    sizes_justified fs whole (d ∷ ds) all sizes (first, tries, (rest, e, later)) =
        subst (λ (xs : List Derivation). AreJustifiedAfter s fs xs) (sym e)
        (stand-append s fs first rest (tried_justified fs whole d (all d (inl refl)) first tries)
        (sizes_justified (fs ++ first) more_whole ds (λ x k. all x (inr k)) rest later))
      where
        more_whole : AllWhole (fs ++ first)
        more_whole c one =
            All-append (IsWhole c) fs first (whole c one)
            (tried_whole q s cs are c one fs d (all d (inl refl)) first tries)

module _ (q : Searches) (s : Setting) (right : AreRight q s) (one : AreOne q) where
  -- the derivations of a round are justified after the earlier ones
  round_justified : (fs : List Derivation) → IsMade q s fs → (more : List Derivation) → IsRound q s fs more → AreJustifiedAfter s fs more
  round_justified fs made more n =
      subst (λ (xs : List Derivation). AreJustifiedAfter s fs xs) (sym n.all)
      (stand-append s fs n.times n.sizes (round_times_justified q s right fs n.times n.timed)
      (sizes_justified q s right n.components n.live (fs ++ n.times) whole n.components (λ d k. k) n.sizes n.sized))
    where
      whole : (c : List ResultVariable) → IsOneOf n.components c → All (IsWhole c) (fs ++ n.times)
      whole c is =
          All-append (IsWhole c) fs n.times
          (made_whole q s n.components n.live (λ ds h. one.components ds n.components h n.are_components) fs made c is)
          (times_whole q s n.components n.live c is fs (rule_numbers s.program) n.times n.timed)

  -- all derivations of rounds are justified
  made_justified : (fs : List Derivation) → IsMade q s fs → AreJustifiedAfter s [] fs
  made_justified fs (Begun h) = first_justified q s fs h right
  made_justified fs (Made {fs = old} {more = more} m n) =
      stand-append s [] old more (made_justified old m) (round_justified old m more n)

  -- the same for searches with right answers, one to each question
  pub all_justified : (fs : List Derivation) → IsMade q s fs → AreJustified s fs
  all_justified fs made = record { each = made_justified fs made }

-- the derivations of rounds are justified, if the answers of the searches are right
pub derivations_justified : MadeDerivationsAreJustified
derivations_justified = record { each = λ a s right fs made. all_justified (searches_of a) s right (answers_one a) fs made }
