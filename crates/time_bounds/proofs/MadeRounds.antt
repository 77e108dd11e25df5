-- What a round makes of derivations.
use Rattle.std.proofs.Common.{◌≡◌, ◌⊎◌, inl, inr, ℕ, ◌+◌, ◌<◌, List, [], ◌∷◌, ◌++◌, length, refl, sym, ◌∙◌, ap, subst, arith}
use Rattle.std.proofs.lemmas.List.{append-nil, length-append, length-map}
use Rattle.cert_types.specs.cert_program.Setting.{setting_of}
use Rattle.bound_fixpoint.specs.Derivations as plain
use Rattle.bound_fixpoint.specs.Derivations.{bounds_of}
use Rattle.bound_fixpoint.specs.Laws.{missing}
use Rattle.bound_fixpoint.specs.Rounds.{IsRound, IsMade, IsLast, Made}
use Rattle.bound_fixpoint.proofs.RoundsEnd.{round_ends}
use Rattle.bound_derivations.specs.declared.derivation.Derivation.{Derivation}
use Rattle.bound_derivations.specs.Views.{derivation_of, derivations_of}
use Rattle.time_bounds.specs.declared.candidates.Candidate.{Candidate}
use Rattle.time_bounds.specs.declared.context.Context.{Context}
use Rattle.time_bounds.specs.declared.rounds.LastRound.{LastRound}
use Rattle.time_bounds.specs.ProgramSearches.{searches_of_program}
use Rattle.time_bounds.specs.Questions.{program_in}
use Rattle.time_bounds.specs.RoundsMade.{known_with, AreMade, AreKeptFor, IsRoundMade}
use Rattle.time_bounds.specs.EarlierAnswers.{WereAttempts}
use Rattle.time_bounds.specs.TriedRules.{AreAskedOver}
use Rattle.time_bounds.proofs.TriedDerivations.{kept_asked}

module _ (cx : Context) (cs : List Candidate) (old new : List Derivation) (kept : LastRound) where
  -- the derivations after a round are made by rounds
  pub round_made : AreMade cx old → IsRoundMade cx cs old new kept → AreMade cx new
  round_made made h =
      subst (λ (fs : List plain.Derivation). IsMade (searches_of_program (program_in cx) cx.pivots) (setting_of (program_in cx)) fs) (sym h.grown)
      (Made made h.round)

  -- the queries and attempts of a round are those that the next round gets
  pub round_kept : IsRoundMade cx cs old new kept → AreKeptFor cx cs new kept
  round_kept h = record {
    one_each = h.one_each;
    answered = kept_asked (program_in cx) (known_with cx old) (known_with cx new) cx.pivots cx.empties.items 1 kept.asked.items h.asked;
    first = known_with cx old;
    attempts = h.attempts;
  }

  -- the derivations after a round are as many as before it, and those that it made
  count : (h : IsRoundMade cx cs old new kept) → length new ≡ length old + length h.more
  count h =
      sym (length-map new derivation_of)
      ∙ (ap (λ (fs : List plain.Derivation). length fs) h.grown
      ∙ (length-append (derivations_of old) h.more ∙ ap (λ (n : ℕ). n + length h.more) (length-map old derivation_of)))

  -- if there are no more derivations than before, the round made none
  nothing_more : (h : IsRoundMade cx cs old new kept) → length new ≡ length old → h.more ≡ []
  nothing_more h e = none h.more (omega (arith, count h, e))
    where
      none : (fs : List plain.Derivation) → length fs ≡ 0 → fs ≡ []
      none [] l = refl
      none (f ∷ fs) l = absurd (omega (arith, l))

  -- a round without a derivation is one over the derivations that it leaves
  pub same_derivations : (h : IsRoundMade cx cs old new kept) → length new ≡ length old → IsRoundMade cx cs new new kept
  same_derivations h e =
      let same : derivations_of new ≡ derivations_of old =
      h.grown ∙ (ap (λ (fs : List plain.Derivation). derivations_of old ++ fs) (nothing_more h e) ∙ append-nil (derivations_of old)) in
      record {
        more = h.more;
        round =
            subst (λ (fs : List plain.Derivation). IsRound (searches_of_program (program_in cx) cx.pivots) (setting_of (program_in cx)) fs h.more)
            (sym same) h.round;
        grown = h.grown ∙ ap (λ (fs : List plain.Derivation). fs ++ h.more) (sym same);
        one_each = h.one_each;
        asked =
            subst (λ (fs : List plain.Derivation). AreAskedOver (program_in cx) (bounds_of (program_in cx) fs) (known_with cx new) cx.pivots
            cx.empties.items 1 kept.asked.items) (sym same) h.asked;
        tried = h.tried;
        attempts =
            subst (λ (fs : List plain.Derivation). WereAttempts (program_in cx) cx.pivots (bounds_of (program_in cx) fs) (known_with cx new) cs
            kept.attempts.items) (sym same) h.attempts;
      }

  -- after a round with a derivation fewer bounds are missing
  pub fewer_missing : (h : IsRoundMade cx cs old new kept) → (¬ (length new ≡ length old))
      → missing (program_in cx) (known_with cx new) < missing (program_in cx) (known_with cx old)
  fewer_missing h more =
      by (round_ends (searches_of_program (program_in cx) cx.pivots) (setting_of (program_in cx)) (derivations_of old) h.more h.round)
    where
      by : (missing (program_in cx) (bounds_of (program_in cx) (derivations_of old ++ h.more)) < missing (program_in cx) (known_with cx old))
          ⊎ (h.more ≡ []) → missing (program_in cx) (known_with cx new) < missing (program_in cx) (known_with cx old)
      by (inl l) =
          subst (λ (fs : List plain.Derivation). missing (program_in cx) (bounds_of (program_in cx) fs) < missing (program_in cx) (known_with cx old))
          (sym h.grown) l
      by (inr none) =
          let found : length h.more ≡ 0 = ap (λ (fs : List plain.Derivation). length fs) none in
          absurd (more (omega (arith, count h, found)))

-- derivations over which a round derives nothing are the last
pub round_closed : (cx : Context) (cs : List Candidate) (fs : List Derivation) (kept : LastRound) → AreMade cx fs → IsRoundMade cx cs fs fs kept
    → IsLast (searches_of_program (program_in cx) cx.pivots) (setting_of (program_in cx)) (derivations_of fs)
round_closed cx cs fs kept made h = record {
  made = made;
  closed =
      subst (λ (more : List plain.Derivation). IsRound (searches_of_program (program_in cx) cx.pivots) (setting_of (program_in cx)) (derivations_of fs) more)
      (nothing_more cx cs fs fs kept h refl) h.round;
}
