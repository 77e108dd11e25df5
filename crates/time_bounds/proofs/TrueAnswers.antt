-- An earlier answer for a component is the answer over bounds that have grown since, as long as its reason remains
-- true.
use Rattle.std.proofs.Common.{◌≡◌, ℕ, zero, suc, ◌<◌, ◌||◌, Bool, true, false, List, [], ◌∷◌, ◌++◌, length, get_or}
use Rattle.std.proofs.Common.{Option, Some, None, refl, sym, ◌∙◌, ap, subst, arith}
use Rattle.std.specs.Prelude.{slice_get, IfSome}
use Rattle.model.specs.Bounds.{Bound}
use Rattle.model.specs.Programs.{Program}
use Rattle.outcome.specs.Reports.{NoSize, SizeMissing, SizeNonlinear, SizeUntimed, SizeLarge}
use Rattle.cert_types.specs.declared.answer.GuardFeasibility.{GuardFeasibility}
use Rattle.cert_types.specs.cert_rules.Nodes.{ResultVariable, Member}
use Rattle.cert_types.specs.cert_rules.Known.{Table}
use Rattle.cert_types.specs.cert_rules.Reasons.{Reason}
use Rattle.cert_types.specs.cert_program.Setting.{setting_of}
use Rattle.cert_types.specs.Views.{result_variable_of}
use Rattle.rvg_components.specs.Flows.{Locals, loops}
use Rattle.bound_fixpoint.specs.Keys.{Bounds, at_key, lacks, over}
use Rattle.bound_fixpoint.specs.Derivations as plain
use Rattle.bound_fixpoint.specs.Searches.{Unsized}
use Rattle.bound_fixpoint.specs.Answers.{are_open}
use Rattle.bound_fixpoint.specs.Right.{IsReasonFor}
use Rattle.bound_fixpoint.proofs.DerivationLists.{bounds_of-kept}
use Rattle.size_nodes.specs.declared.sizing.Sizing.{Sizing}
use Rattle.size_nodes.specs.declared.sizing.Sizing.TheVariants as answers
use Rattle.time_bounds.specs.declared.asking.AnsweredRankQuestion.{AnsweredRankQuestion}
use Rattle.time_bounds.specs.declared.candidates.Candidate.{Candidate}
use Rattle.time_bounds.specs.declared.sizing.ComponentAttempt.{ComponentAttempt}
use Rattle.time_bounds.specs.declared.sizing.ComponentAttempt.TheVariants as attempts
use Rattle.time_bounds.specs.Attempts.{why_by, IsAttempt}
use Rattle.time_bounds.specs.Candidates.{result_variables_in}
use Rattle.time_bounds.specs.ProgramSizes.{AnswersMembers, AnswersPlaces, lacks_side_bounds}
use Rattle.time_bounds.specs.EarlierAnswers.{HasGrown, ReasonIsTrue, IsTrueAnswerAt, WasAttempt, WereAttempts, IsStillTrue}
use Rattle.time_bounds.specs.TriedRules.{AreAskedOver}
use Rattle.time_bounds.proofs.GrownBounds.{table_grown}
use Rattle.time_bounds.proofs.GrownChecks.{RemainsTrue, spread-still, cycle-still}

some-same : {A : Type 0} (x y : A) → Some x ≡ Some y → x ≡ y
some-same x y e = cc

-- the reason of a check remains true if that of the answer does
reason-stands : (tab : Table) (a : Sizing) (why : NoSize) (r : Reason) → ReasonIsTrue tab a → why_by a ≡ Some why → IsReasonFor why r
    → RemainsTrue tab r
reason-stands tab (answers.Found premises bound) why r stands says told = absurd stands
reason-stands tab (answers.Missing m) why r stands says told =
    subst (RemainsTrue tab) (sym (subst (λ (w : NoSize). IsReasonFor w r) (sym (some-same (SizeMissing (result_variable_of m)) why says)) told)) stands
reason-stands tab (answers.Nonlinear m) why r stands says told =
    subst (RemainsTrue tab) (sym (subst (λ (w : NoSize). IsReasonFor w r) (sym (some-same (SizeNonlinear (result_variable_of m)) why says)) told)) tt
reason-stands tab (answers.Untimed t) why r stands says told =
    subst (RemainsTrue tab) (sym (subst (λ (w : NoSize). IsReasonFor w r) (sym (some-same (SizeUntimed t) why says)) told)) stands
reason-stands tab (answers.Large n) why r stands says told =
    subst (RemainsTrue tab) (sym (subst (λ (w : NoSize). IsReasonFor w r) (sym (some-same (SizeLarge n) why says)) told)) tt

module _ (p : Program) (pivots : ℕ) (old new : Bounds) (grown : HasGrown old new) where
  -- the members have no size for the same reason
  sizing-stands : (looping : Bool) (members : List Member) (a : Sizing) (why : NoSize) → ReasonIsTrue (over new) a → why_by a ≡ Some why
      → AnswersMembers looping (setting_of p) (over old) members (Unsized why)
      → AnswersMembers looping (setting_of p) (over new) members (Unsized why)
  sizing-stands false [] a why stands says h = absurd h
  sizing-stands false (m ∷ []) a why stands says (r, told, first) = (
    r,
    told,
    spread-still (setting_of p) (over old) (over new) (table_grown old new grown) r
        (reason-stands (over new) a why r stands says told) m first,
  )
  sizing-stands false (m ∷ n ∷ members) a why stands says h = absurd h
  sizing-stands true members a why stands says (r, told, first) = (
    r,
    told,
    cycle-still (setting_of p) (over old) (over new) (table_grown old new grown) r
        (reason-stands (over new) a why r stands says told) members first,
  )

  sizing-of-stands : (local : Locals) (result_variables : List ResultVariable) (lacking : Option NoSize) (a : Sizing) (why : NoSize) → ReasonIsTrue (over new) a
      → why_by a ≡ Some why → AnswersPlaces (setting_of p) (over old) local result_variables lacking (Unsized why)
      → AnswersPlaces (setting_of p) (over new) local result_variables lacking (Unsized why)
  sizing-of-stands local result_variables (Some other) a why stands says h = h
  sizing-of-stands local result_variables None a why stands says h = record {
    members = h.members;
    are_members = h.are_members;
    sizing = sizing-stands (loops (setting_of p) local result_variables) h.members a why stands says h.sizing;
  }

  -- the component lacks a size by the same answer
  pub lacks-still : (c : Candidate) (a : Sizing) → ReasonIsTrue (over new) a → are_open new (result_variables_in c) ≡ true
      → IsAttempt p pivots old c (attempts.Failed a) → IsAttempt p pivots new c (attempts.Failed a)
  lacks-still c a stands unsized h = record {
    unsized = unsized;
    why = h.why;
    says = h.says;
    answered = (
      h.answered.0,
      h.answered.1,
      sizing-of-stands h.answered.0 (result_variables_in c) (lacks_side_bounds h.answered.0 (result_variables_in c)) a h.why stands h.says h.answered.2,
    );
  }

-- bounds have grown from themselves, and growth is transitive
pub grown-itself : (b : Bounds) → HasGrown b b
grown-itself b = record { each = λ t i x e. e }

pub grown-on : (a b c : Bounds) → HasGrown a b → HasGrown b c → HasGrown a c
grown-on a b c h k = record { each = λ t i x e. k.each t i x (h.each t i x e) }

-- bounds have grown when derivations are added
pub grown-derivations : (p : Program) (fs more : List plain.Derivation) → HasGrown (plain.bounds_of p fs) (plain.bounds_of p (fs ++ more))
grown-derivations p fs more = record { each = λ t i x e. bounds_of-kept p fs more t i x e }

pub grown-by : (p : Program) (fs more gs : List plain.Derivation) → gs ≡ fs ++ more → HasGrown (plain.bounds_of p fs) (plain.bounds_of p gs)
grown-by p fs more gs e =
    subst (λ (xs : List plain.Derivation). HasGrown (plain.bounds_of p fs) (plain.bounds_of p xs)) (sym e) (grown-derivations p fs more)

-- a bound that isn't missing isn't missing later
pub still_known : (old new : Bounds) → HasGrown old new → (t i : ℕ) → lacks (old t i) ≡ false → lacks (new t i) ≡ false
still_known old new grown t i h = go (old t i) refl h
  where
    go : (o : Option Bound) → old t i ≡ o → lacks o ≡ false → lacks (new t i) ≡ false
    go None e k = absurd (let f : ⊥ = cc in f)
    go (Some b) e k = ap lacks (grown.each t i b e)

-- if no key of some was missing, none is later
pub still_closed : (old new : Bounds) → HasGrown old new → (keys : List ResultVariable) → are_open old keys ≡ false → are_open new keys ≡ false
still_closed old new grown [] h = refl
still_closed old new grown (k ∷ keys) h =
    let both = parts (lacks (at_key old k)) (are_open old keys) h in
    join (lacks (at_key new k)) (are_open new keys) (still_known old new grown k.rule k.place both.0)
    (still_closed old new grown keys both.1)
  where
    parts : (v w : Bool) → (v || w) ≡ false → (v ≡ false) × (w ≡ false)
    parts true w e = absurd (let f : ⊥ = cc in f)
    parts false w e = (refl, e)

    join : (v w : Bool) → v ≡ false → w ≡ false → (v || w) ≡ false
    join true w e f = absurd (let g : ⊥ = cc in g)
    join false w e f = f

-- the queries of rules remain right when more bounds are known
pub asked_still : (p : Program) (b old new : Bounds) → HasGrown old new → (pivots : ℕ) (empties : List GuardFeasibility) (k : ℕ)
    (asked : List (Option AnsweredRankQuestion)) → AreAskedOver p b old pivots empties k asked → AreAskedOver p b new pivots empties k asked
asked_still p b old new grown pivots empties k [] h = tt
asked_still p b old new grown pivots empties k (None ∷ asked) h =
    (still_known old new grown k 0 h.0, asked_still p b old new grown pivots empties (suc k) asked h.1)
asked_still p b old new grown pivots empties k (Some a ∷ asked) h =
    (h.0, asked_still p b old new grown pivots empties (suc k) asked h.1)

module _ (p : Program) (pivots : ℕ) where
  -- an attempt at a component between bounds is one between wider ones
  pub was-wider : (first last begin end : Bounds) (c : Candidate) (x : ComponentAttempt) → HasGrown begin first → HasGrown last end
      → WasAttempt p pivots first last c x → WasAttempt p pivots begin end c x
  was-wider first last begin end c x earlier later h = record {
    between = h.between;
    after = grown-on begin first h.between earlier h.after;
    before = grown-on h.between last end h.before later;
    attempt = h.attempt;
    found = λ e. still_closed last end later (result_variables_in c) (h.found e);
  }

  -- the same for each attempt
  pub were-wider : (first last begin end : Bounds) (cs : List Candidate) (xs : List ComponentAttempt) → HasGrown begin first → HasGrown last end
      → WereAttempts p pivots first last cs xs → WereAttempts p pivots begin end cs xs
  were-wider first last begin end [] [] earlier later h = tt
  were-wider first last begin end [] (x ∷ xs) earlier later h = absurd h
  were-wider first last begin end (c ∷ cs) [] earlier later h = tt
  were-wider first last begin end (c ∷ cs) (x ∷ xs) earlier later h =
      (was-wider first last begin end c x earlier later h.0, were-wider first last begin end cs xs earlier later h.1)

  -- there are no attempts before the first component
  pub were-none : (first last : Bounds) (cs : List Candidate) → WereAttempts p pivots first last cs []
  were-none first last [] = tt
  were-none first last (c ∷ cs) = tt

  -- the attempts with one more
  pub were-more : (first last : Bounds) (cs : List Candidate) (xs : List ComponentAttempt) (c : Candidate) (x : ComponentAttempt)
      → WereAttempts p pivots first last cs xs → length xs < length cs → c ≡ get_or cs (length xs) c → WasAttempt p pivots first last c x
      → WereAttempts p pivots first last cs (xs ++ x ∷ [])
  were-more first last [] xs c x h few is was = absurd (omega (arith, few))
  were-more first last (d ∷ cs) [] c x h few is was =
      (subst (λ (y : Candidate). WasAttempt p pivots first last y x) is was, were-none first last cs)
  were-more first last (d ∷ cs) (y ∷ xs) c x h few is was = (h.0, were-more first last cs xs c x h.1 (omega (arith, few)) is was)

  -- the attempt at a position
  pub was-at : (first last : Bounds) (cs : List Candidate) (xs : List ComponentAttempt) (i : ℕ) (c : Candidate) (x : ComponentAttempt)
      → WereAttempts p pivots first last cs xs → slice_get xs i ≡ Some x → c ≡ get_or cs i c → WasAttempt p pivots first last c x
  was-at first last cs [] i c x h e is = absurd (let f : ⊥ = cc in f)
  was-at first last [] (y ∷ xs) i c x h e is = absurd h
  was-at first last (d ∷ cs) (y ∷ xs) zero c x h e is =
      subst (λ (w : ComponentAttempt). WasAttempt p pivots first last c w) (some-same y x e)
      (subst (λ (w : Candidate). WasAttempt p pivots first last w y) (sym is) h.0)
  was-at first last (d ∷ cs) (y ∷ xs) (suc i) c x h e is = was-at first last cs xs i c x h.1 e is

-- a property of the value of an option
pub some_holds : {A : Type 0} (o : Option A) (a : A) (P : A → Type 0) → o ≡ Some a → IfSome o P → P a
some_holds {A = A} o a P e h = subst (λ (x : Option A). IfSome x P) e h

-- an earlier answer at a position that remains true is that of the component there
pub standing-there : (p : Program) (pivots : ℕ) (first b : Bounds) (tab : Table) (cs : List Candidate) (xs : List ComponentAttempt) (i : ℕ)
    (c : Candidate) (o : Option Sizing) → tab ≡ over b → WereAttempts p pivots first b cs xs → c ≡ get_or cs i c
    → IfSome o (λ a. IsTrueAnswerAt tab xs i a) → IfSome o (λ a. IsStillTrue p pivots b c a)
standing-there p pivots first b tab cs xs i c None same h is k = tt
standing-there p pivots first b tab cs xs i c (Some a) same h is k = record {
  first = first;
  was = was-at p pivots first b cs xs i c (attempts.Failed a) h k.there is;
  stands = subst (λ (t : Table). ReasonIsTrue t a) same k.stands;
}

-- the element that was read at a position
pub read-at : (xs : List ComponentAttempt) (i : ℕ) (x : ComponentAttempt) → i < length xs → x ≡ get_or xs i x → slice_get xs i ≡ Some x
read-at [] i x few e = absurd (omega (arith, few))
read-at (y ∷ xs) zero x few e = ap Some (sym e)
read-at (y ∷ xs) (suc i) x few e = read-at xs i x (omega (arith, few)) e

-- an answer that is reused is at its position
pub again-at : (tab : Table) (xs : List ComponentAttempt) (i : ℕ) (b : Sizing) (o : Option Sizing) → slice_get xs i ≡ Some (attempts.Failed b)
    → IfSome o (λ a. (a ≡ b) × ReasonIsTrue tab a) → IfSome o (λ a. IsTrueAnswerAt tab xs i a)
again-at tab xs i b None e h = tt
again-at tab xs i b (Some a) e h = record {
  there = e ∙ ap (λ (x : Sizing). Some (attempts.Failed x)) (sym h.0);
  stands = h.1;
}
