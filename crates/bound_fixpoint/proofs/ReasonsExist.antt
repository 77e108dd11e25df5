-- Where a round derives nothing, each missing bound has a reason.
use Rattle.std.proofs.Common.{◌≡◌, ◌⊎◌, inl, inr, ℕ, zero, suc, ◌==◌, ◌&&◌, ◌||◌, Bool, true, false, List, [], ◌∷◌}
use Rattle.std.proofs.Common.{◌++◌, map}
use Rattle.std.proofs.Common.{None, refl, sym, ◌∙◌, ap, subst, arith}
use Rattle.std.proofs.lemmas.Bool.{and_parts, or_left, or_right}
use Rattle.rule_questions.specs.model.Entries.{is_in}
use Rattle.rule_questions.proofs.model.Membership.{same_number-sound, same_number, is_in-cases, no_is_not_yes}
use Rattle.rule_questions.specs.cert_rules.Nodes.{ResultVariable}
use Rattle.rule_questions.specs.cert_rules.AcceptsPlain.{IsRule}
use Rattle.rule_questions.specs.cert_rules.Setting.{Setting}
use Rattle.bound_fixpoint.specs.Keys.{Bounds, has_key, at_key, lacks, rule_numbers}
use Rattle.bound_fixpoint.specs.Derivations.{Derivation, bounds_of}
use Rattle.bound_fixpoint.specs.Searches.{Searches, searches_of, NoBound}
use Rattle.bound_fixpoint.specs.Answers.{Target, TimeOf, SizesOf, keys_asked, are_open, Answer, Found, Lacks}
use Rattle.bound_fixpoint.specs.Answers.{derivations_by, AnswersTarget}
use Rattle.bound_fixpoint.specs.Components.{IsCovered, IsOneOf}
use Rattle.bound_fixpoint.specs.Rounds.{Tries, Manner, Together, InTurn, known_next, TriesAll, IsClosed}
use Rattle.bound_fixpoint.specs.Rounds.{IsAskedFor, IsNoBound}
use Rattle.bound_fixpoint.specs.Laws.{MissingBoundsHaveReasons}
use Rattle.bound_fixpoint.proofs.Cases.{either}
use Rattle.bound_fixpoint.proofs.RuleNumbers.{rule_in}
use Rattle.bound_fixpoint.proofs.DeadPlaces.{missing_live}
use Rattle.bound_fixpoint.proofs.DerivationsAreOne.{append-none}

-- if a key among these has no bound, one of these keys is open
pub open_by : (bs : Bounds) (keys : List ResultVariable) (t i : ℕ) → has_key keys t i ≡ true → bs t i ≡ None
    → are_open bs keys ≡ true
open_by bs [] t i m e = absurd (no_is_not_yes false refl m)
open_by bs (k ∷ keys) t i m e = go ((k.rule == t) && (k.place == i)) refl m (open_by bs keys t i)
  where
    go : (v : Bool) → ((k.rule == t) && (k.place == i)) ≡ v → (v || has_key keys t i) ≡ true
        → (has_key keys t i ≡ true → bs t i ≡ None → are_open bs keys ≡ true) → are_open bs (k ∷ keys) ≡ true
    go true same there rest =
        let both = and_parts (k.rule == t) (k.place == i) same in
        or_left (lacks (at_key bs k)) (are_open bs keys)
        (ap lacks (ap (λ (n : ℕ). bs n k.place) (same_number-sound k.rule t both.0)
        ∙ (ap (λ (n : ℕ). bs t n) (same_number-sound k.place i both.1) ∙ e)))
    go false other there rest = or_right (lacks (at_key bs k)) (are_open bs keys) (rest there e)

-- if appended lists are empty, both lists are
append-nothing : (fs gs : List Derivation) → [] ≡ fs ++ gs → (fs ≡ []) × (gs ≡ [])
append-nothing [] gs e = (refl, sym e)
append-nothing (f ∷ fs) gs e = absurd (nothing e)
  where
    nothing : {x : Derivation} {xs : List Derivation} → [] ≡ x ∷ xs → ⊥
    nothing n = cc

-- this target is among those queried
abbrev IsAskedIn : List Target → Target → Type 0
IsAskedIn [] g = ⊥
IsAskedIn (x ∷ gs) g = (x ≡ g) ⊎ IsAskedIn gs g

-- the time of a rule is queried among those of all
time_asked : (ts : List ℕ) (t : ℕ) → is_in t ts ≡ true → IsAskedIn (map TimeOf ts) (TimeOf t)
time_asked [] t m = absurd (no_is_not_yes false refl m)
time_asked (u ∷ ts) t m =
    either (is_in-cases t u ts m) (λ e. inl (ap (λ (n : ℕ). TimeOf n) (sym e))) (λ l. inr (time_asked ts t l))

-- the size of each component's members is queried
size_asked : (cs : List (List ResultVariable)) (keys : List ResultVariable) → IsOneOf cs keys
    → IsAskedIn (map SizesOf cs) (SizesOf keys)
size_asked [] keys h = absurd h
size_asked (c ∷ cs) keys (inl e) = inl (ap (λ (ks : List ResultVariable). SizesOf ks) e)
size_asked (c ∷ cs) keys (inr h) = inr (size_asked cs keys h)

-- a place that is covered is a member of one of the components
covered_member : (cs : List (List ResultVariable)) (t i : ℕ) → IsCovered cs t i
    → (keys : List ResultVariable) × IsOneOf cs keys × (has_key keys t i ≡ true)
covered_member [] t i h = absurd h
covered_member (c ∷ cs) t i (inl m) = (c, inl refl, m)
covered_member (c ∷ cs) t i (inr h) =
    let rest = covered_member cs t i h in (rest.0, inr rest.1, rest.2)

module _ (q : Searches) (s : Setting) (fs : List Derivation) where
  -- if nothing is derived, the next query knows what was known before
  stays : (manner : Manner) (first : List Derivation) → first ≡ [] → known_next manner fs first ≡ fs
  stays Together first e = refl
  stays InTurn first e = ap (λ (gs : List Derivation). fs ++ gs) e ∙ append-none fs

  -- if nothing is derived for a list of targets, nothing is derived for each of them
  nothing_of : (manner : Manner) (gs : List Target) → TriesAll q s manner fs gs [] → (g : Target) → IsAskedIn gs g
      → Tries q s fs g []
  nothing_of manner [] h g m = absurd m
  nothing_of manner (x ∷ gs) h g (inl e) =
      let none = append-nothing h.0 h.2.0 h.2.1 in
      subst (λ (y : Target). Tries q s fs y []) e (subst (λ (zs : List Derivation). Tries q s fs x zs) none.0 h.1)
  nothing_of manner (x ∷ gs) h g (inr m) =
      let none = append-nothing h.0 h.2.0 h.2.1 in
      nothing_of manner gs
      (subst (λ (zs : List Derivation). TriesAll q s manner zs gs []) (stays manner h.0 none.0)
      (subst (λ (zs : List Derivation). TriesAll q s manner (known_next manner fs h.0) gs zs) none.1 h.2.2)) g m

  -- an answer without a derivation is a reason
  says_why : (g : Target) (t i : ℕ) → bounds_of s.program fs t i ≡ None → IsAskedFor q s t i g
      → (a : Answer) → AnswersTarget q s (bounds_of s.program fs) g a → [] ≡ derivations_by g a
      → (why : NoBound) × IsNoBound q s fs t i why
  says_why g t i missing asked (Found node premises bound) is_answer e = absurd (nothing e)
    where
      nothing : {x : Derivation} {xs : List Derivation} → [] ≡ x ∷ xs → ⊥
      nothing n = cc
  says_why g t i missing asked (Lacks why) is_answer e =
      (why, record { missing = missing; target = g; asked = asked; is_answer = is_answer })

  -- each missing key of a queried target has a reason
  why_of : (g : Target) → Tries q s fs g [] → (t i : ℕ) → IsAskedFor q s t i g → has_key (keys_asked g) t i ≡ true
      → bounds_of s.program fs t i ≡ None → (why : NoBound) × IsNoBound q s fs t i why
  why_of g h t i asked has missing =
      let tried = h.tried (open_by (bounds_of s.program fs) (keys_asked g) t i has missing) in
      says_why g t i missing asked tried.0 tried.1 tried.2

  module _ (closed : IsClosed q s fs) where
    none_found : (closed.times ≡ []) × (closed.sizes ≡ [])
    none_found = append-nothing closed.times closed.sizes closed.all

    -- where a round derives nothing, a missing time of a rule has a reason
    pub time_why : (t : ℕ) → IsRule s.program t → bounds_of s.program fs t 0 ≡ None
        → (why : NoBound) × IsNoBound q s fs t 0 why
    time_why t rule missing =
        why_of (TimeOf t) (nothing_of Together (map TimeOf (rule_numbers s.program))
        (subst (λ (zs : List Derivation). TriesAll q s Together fs (map TimeOf (rule_numbers s.program)) zs) none_found.0
        closed.timed) (TimeOf t)
        (time_asked (rule_numbers s.program) t (rule_in s.program t rule.rule rule.numbered))) t 0 (rule, refl) here
        missing
      where
        here : has_key (keys_asked (TimeOf t)) t 0 ≡ true
        here = or_left ((t == t) && (0 == 0)) false (rw (same_number t) refl)

    -- where a round derives nothing, a missing size of a place in a component has a reason
    pub size_why : (t i : ℕ) → IsCovered closed.components t i → bounds_of s.program fs t i ≡ None
        → (why : NoBound) × IsNoBound q s fs t i why
    size_why t zero covered missing =
        let low = ((closed.live.live t 0).0 covered).2.least in absurd (omega (arith, low))
    size_why t (suc i) covered missing =
        let member = covered_member closed.components t (suc i) covered in
        why_of (SizesOf member.0) (nothing_of InTurn (map SizesOf closed.components) none (SizesOf member.0)
        (size_asked closed.components member.0 member.1)) t (suc i)
        (closed.components, closed.are_components, member.1, member.2) member.2 missing
      where
        none : TriesAll q s InTurn fs (map SizesOf closed.components) []
        none =
            subst (λ (zs : List Derivation). TriesAll q s InTurn fs (map SizesOf closed.components) zs) none_found.1
            (subst (λ (zs : List Derivation). TriesAll q s InTurn zs (map SizesOf closed.components) closed.sizes)
            (stays InTurn closed.times none_found.0) closed.sized)

-- where a round derives nothing, each missing time of a rule and each missing size in a component has a reason; and
-- with the last derivations each missing size of a place after a rule has one
pub reasons_justified : MissingBoundsHaveReasons
reasons_justified = record {
  times = λ a s fs closed t rule missing. time_why (searches_of a) s fs closed t rule missing;
  sizes = λ a s fs closed t i covered missing. size_why (searches_of a) s fs closed t i
      (subst (λ (cs : List (List ResultVariable)). IsCovered cs t i) closed.are_components covered) missing;
  places = λ a s fs last t i rule place missing. size_why (searches_of a) s fs last.closed t i
      ((last.closed.live.live t i).1 (
        rule,
        missing_live (searches_of a) s last.closed.components last.closed.live fs
            last.made t i rule place missing,
        place,
      )) missing;
}
