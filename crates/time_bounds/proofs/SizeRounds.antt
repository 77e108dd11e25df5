-- The sizes of a round, one component more at a time.
use Rattle.std.proofs.Common.{◌≡◌, inl, inr, ℕ, zero, suc, ◌<◌, ◌≤◌, true, List, [], ◌∷◌, ◌++◌, length, map, take, get_or, All, None}
use Rattle.std.proofs.Common.{refl, sym, ◌∙◌, ap, subst, append_assoc, arith}
use Rattle.std.proofs.lemmas.List.{append-nil}
use Rattle.std.proofs.lemmas.List.Elements.{All-nil, All-cons, All-head, All-tail, All-append}
use Rattle.model.specs.Programs.{Program}
use Rattle.cert_types.specs.cert_rules.AcceptsPlain.{IsRule}
use Rattle.cert_types.specs.cert_rules.Nodes.{ResultVariable}
use Rattle.cert_types.specs.cert_rules.Setting.{Setting}
use Rattle.cert_types.specs.cert_program.Setting.{setting_of}
use Rattle.bound_fixpoint.specs.Keys.{Bounds, IsPlace, rule_numbers}
use Rattle.bound_fixpoint.specs.Derivations as plain
use Rattle.bound_fixpoint.specs.Derivations.{bounds_of}
use Rattle.bound_fixpoint.specs.Searches.{Searches}
use Rattle.bound_fixpoint.specs.Answers.{Target, TimeOf, SizesOf, are_open}
use Rattle.bound_fixpoint.specs.Components.{IsOneOf, AreComponentsOf}
use Rattle.bound_fixpoint.specs.Laws.{AreUniform}
use Rattle.bound_fixpoint.specs.Rounds.{Tries, TriesAll, Together, InTurn, IsMade}
use Rattle.bound_fixpoint.proofs.Cases.{false_true}
use Rattle.bound_fixpoint.proofs.MissingBounds.{all-has_key}
use Rattle.bound_fixpoint.proofs.UniformComponents.{IsWhole, times_whole, sizes_whole, uniform_bounds, open_all}
use Rattle.bound_derivations.specs.Books.{AreOpen, IsKey}
use Rattle.time_bounds.specs.declared.candidates.Candidate.{Candidate}
use Rattle.time_bounds.specs.declared.sizing.ComponentAttempt.{ComponentAttempt}
use Rattle.time_bounds.specs.ProgramSearches.{searches_of_program}
use Rattle.time_bounds.specs.Attempts.{ArePlacesOf}
use Rattle.time_bounds.specs.Candidates.{result_variables_in, AreCandidatesOf}
use Rattle.time_bounds.specs.EarlierAnswers.{WasAttempt, WereAttempts}
use Rattle.time_bounds.proofs.CandidateComponents.{are_components, live_components}
use Rattle.bound_fixpoint.proofs.UniformComponents.{made_whole}
use Rattle.time_bounds.proofs.OneProgram.{program_searches_one}

-- one more target is queried in turn
pub tries_more : (q : Searches) (s : Setting) (fs : List plain.Derivation) (gs : List Target) (found : List plain.Derivation) (g : Target)
    (more : List plain.Derivation) → TriesAll q s InTurn fs gs found → Tries q s (fs ++ found) g more
    → TriesAll q s InTurn fs (gs ++ g ∷ []) (found ++ more)
tries_more q s fs [] found g more none tries = (
  more,
  subst (λ (xs : List plain.Derivation). Tries q s xs g more)
      (ap (λ (xs : List plain.Derivation). fs ++ xs) none ∙ append-nil fs) tries,
  ([], ap (λ (xs : List plain.Derivation). xs ++ more) none ∙ sym (append-nil more), refl),
)
tries_more q s fs (h ∷ gs) found g more (first, tried, (rest, e, later)) tries = (
  first,
  tried,
  (
    rest ++ more,
    ap (λ (xs : List plain.Derivation). xs ++ more) e ∙ append_assoc first rest more,
    tries_more q s (fs ++ first) gs rest g more later
        (subst (λ (xs : List plain.Derivation). Tries q s xs g more)
        (ap (λ (xs : List plain.Derivation). fs ++ xs) e ∙ sym (append_assoc fs first rest)) tries),
  ),
)

-- the attempts with one more, after those for earlier components
pub were-append : (p : Program) (pivots : ℕ) (first last : Bounds) (cs : List Candidate) (xs : List ComponentAttempt) (c : Candidate) (x : ComponentAttempt)
    → length xs ≡ length cs → WereAttempts p pivots first last cs xs → WasAttempt p pivots first last c x
    → WereAttempts p pivots first last (cs ++ c ∷ []) (xs ++ x ∷ [])
were-append p pivots first last [] [] c x long h was = (was, tt)
were-append p pivots first last [] (y ∷ xs) c x long h was = absurd h
were-append p pivots first last (d ∷ cs) [] c x long h was = absurd (omega (arith, long))
were-append p pivots first last (d ∷ cs) (y ∷ xs) c x long h was =
    (h.0, were-append p pivots first last cs xs c x (omega (arith, long)) h.1 was)

-- a component at a position is one of all, and so is each one before it
pub one_at : (cs : List Candidate) (i : ℕ) (c : Candidate) → i < length cs → c ≡ get_or cs i c → IsOneOf (map result_variables_in cs) (result_variables_in c)
one_at [] i c l e = absurd (omega (arith, l))
one_at (d ∷ cs) zero c l e = inl (ap result_variables_in (sym e))
one_at (d ∷ cs) (suc i) c l e = inr (one_at cs i c (omega (arith, l)) e)

pub one_before : (cs : List Candidate) (i : ℕ) (keys : List ResultVariable) → IsOneOf (map result_variables_in (take i cs)) keys → IsOneOf (map result_variables_in cs) keys
one_before [] zero keys h = absurd h
one_before [] (suc i) keys h = absurd h
one_before (d ∷ cs) zero keys h = absurd h
one_before (d ∷ cs) (suc i) keys (inl e) = inl e
one_before (d ∷ cs) (suc i) keys (inr h) = inr (one_before cs i keys h)

-- the members of a component have one size or none with the derivations of rounds, the times of a further round, and
-- then sizes of components
pub uniform_with : (p : Program) (pivots : ℕ) (cs : List Candidate) → AreCandidatesOf p pivots cs → (earlier times sizes : List plain.Derivation)
    → IsMade (searches_of_program p pivots) (setting_of p) earlier
    → TriesAll (searches_of_program p pivots) (setting_of p) Together earlier (map TimeOf (rule_numbers p)) times → (ds : List (List ResultVariable))
    → ((d : List ResultVariable) → IsOneOf ds d → IsOneOf (map result_variables_in cs) d)
    → TriesAll (searches_of_program p pivots) (setting_of p) InTurn (earlier ++ times) (map SizesOf ds) sizes → (keys : List ResultVariable)
    → IsOneOf (map result_variables_in cs) keys → AreUniform (bounds_of p ((earlier ++ times) ++ sizes)) keys
uniform_with p pivots cs h earlier times sizes made timed ds within sized keys one =
    uniform_bounds (searches_of_program p pivots) (setting_of p) (map result_variables_in cs) live keys one ((earlier ++ times) ++ sizes)
    (All-append (IsWhole keys) (earlier ++ times) sizes
    (All-append (IsWhole keys) earlier times
    (made_whole (searches_of_program p pivots) (setting_of p) (map result_variables_in cs) live
    (λ es k. (program_searches_one.each p pivots).components es (map result_variables_in cs) k (are_components p pivots cs h)) earlier made keys one)
    (times_whole (searches_of_program p pivots) (setting_of p) (map result_variables_in cs) live keys one earlier (rule_numbers p) times timed))
    (sizes_whole (searches_of_program p pivots) (setting_of p) (map result_variables_in cs) live keys one (earlier ++ times) ds within sizes sized))
  where
    live : AreComponentsOf (searches_of_program p pivots) p (map result_variables_in cs)
    live = live_components p pivots cs h

-- if one of these keys is missing, there is a missing one
some_open : (b : Bounds) (keys : List ResultVariable) → are_open b keys ≡ true → 1 ≤ length keys
some_open b [] h = absurd (false_true h)
some_open b (k ∷ keys) h = omega arith

-- if the members of a component have one size or none, and one size is missing, all are open
pub places_open : (p : Program) (fs : List plain.Derivation) (c : Candidate) → ArePlacesOf p c → AreUniform (bounds_of p fs) (result_variables_in c)
    → are_open (bounds_of p fs) (result_variables_in c) ≡ true → AreOpen p fs (result_variables_in c)
places_open p fs c places uniform lacking = record {
  some = some_open (bounds_of p fs) (result_variables_in c) lacking;
  each = keys (result_variables_in c) places.each;
  unknown = all-has_key (λ (k : ResultVariable). bounds_of p fs k.rule k.place ≡ None) (result_variables_in c)
      (λ t i m. open_all (bounds_of p fs) (result_variables_in c) uniform lacking t i m);
}
  where
    keys : (result_variables : List ResultVariable) → All (λ m. IsRule p m.rule × IsPlace p m.rule m.place) result_variables → All (λ k. IsKey p k.rule k.place) result_variables
    keys [] h = All-nil (λ (k : ResultVariable). IsKey p k.rule k.place)
    keys (m ∷ result_variables) h =
        let own = All-head (λ (m : ResultVariable). IsRule p m.rule × IsPlace p m.rule m.place) m result_variables h in
        All-cons (λ (k : ResultVariable). IsKey p k.rule k.place) m result_variables (record { rule = own.0; place = inr own.1 })
        (keys result_variables (All-tail (λ (m : ResultVariable). IsRule p m.rule × IsPlace p m.rule m.place) m result_variables h))
