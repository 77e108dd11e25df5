-- Justified derivations, and others that aren't, of a program with an infeasible rule without which the other rule
-- isn't reached.
use Rattle.std.proofs.Common.{◌≡◌, zero, List, [], ◌∷◌, Some, refl, arith}
use Rattle.std.proofs.lemmas.Int.{ints}
use Rattle.std.proofs.lemmas.List.Elements.{All-nil, All-cons, All-head}
use Rattle.rule_questions.specs.model.Terms.{Variable}
use Rattle.rule_questions.specs.model.Bounds.{Constant}
use Rattle.rule_questions.specs.model.Paths.{Here, Onward}
use Rattle.rule_questions.proofs.model.Cases.{none_some}
use Rattle.rule_questions.specs.cert_rules.Nodes.{ResultVariable, Empty}
use Rattle.rule_questions.specs.cert_rules.AcceptsPlain.{IsRule, IsUnreached, AcceptsEmpty}
use Rattle.rule_questions.specs.cert_rules.WorkedSettings.{rule_over}
use Rattle.rule_questions.proofs.cert_rules.Refusals.{accepted}
use Rattle.rule_questions.proofs.cert_rules.ReachTests.{decides-unreached}
use Rattle.bound_fixpoint.specs.Keys.{Bounds, time_key}
use Rattle.bound_fixpoint.specs.Derivations.{Derivation, bounds_of}
use Rattle.bound_fixpoint.specs.Justification.{is_left, IsJustified, AreJustified}
use Rattle.bound_fixpoint.specs.Beginning.{empty_derivation, unreached_derivation}
use Rattle.bound_fixpoint.specs.WorkedBeginnings.{never_enter, cut_short}
use Rattle.bound_fixpoint.proofs.WorkedUnreached.{IsKnownIn, IsNew, first_over}

rule_2 : IsRule cut_short.program 2
rule_2 = record { rule = rule_over 1 1 0 (Variable 0) []; numbered = refl }

-- the rows of rule 1 have no point, as these multipliers show
empty_1 : AcceptsEmpty cut_short 1 (1 ∷ 1 ∷ [])
empty_1 = accepted cut_short [] (Empty 1 (1 ∷ 1 ∷ [])) refl

-- without rule 1 no path leads to l
cut : IsUnreached cut_short.program (is_left (time_key 1 ∷ [])) 2
cut = (decides-unreached cut_short.program (is_left (time_key 1 ∷ [])) 2).0 refl

-- the bounds known of the program
abbrev known_with : List Derivation → Bounds
known_with fs = bounds_of cut_short.program fs

abbrev first_alone : List Derivation
first_alone = empty_derivation 1 (1 ∷ 1 ∷ []) ∷ []

abbrev IsTime : ResultVariable → Type 0
IsTime k = k.place ≡ 0

abbrev IsZeroTime : Bounds → ResultVariable → Type 0
IsZeroTime bs k = bs k.rule 0 ≡ Some (Constant 0)

empty_justified : IsJustified cut_short (known_with []) (empty_derivation 1 (1 ∷ 1 ∷ []))
empty_justified = record {
  keys = refl;
  accepted = empty_1;
  premises = refl;
  known = All-nil (IsKnownIn (known_with []));
  bound = refl;
}

cut_justified : IsJustified cut_short (known_with first_alone) (unreached_derivation (time_key 1 ∷ []) 2)
cut_justified = record {
  keys = refl;
  accepted = (
    record {
      times = All-cons IsTime (time_key 1) [] refl (All-nil IsTime);
      zero = All-cons (IsZeroTime (known_with first_alone)) (time_key 1) [] refl
          (All-nil (IsZeroTime (known_with first_alone)));
    },
    record { shape = rule_2; reached = cut },
  );
  premises = tt;
  known = All-cons (IsKnownIn (known_with first_alone)) (time_key 1) [] (Constant 0, refl)
      (All-nil (IsKnownIn (known_with first_alone)));
  bound = refl;
}

pub on_empty : AreJustified cut_short (empty_derivation 1 (1 ∷ 1 ∷ []) ∷ unreached_derivation (time_key 1 ∷ []) 2 ∷ [])
on_empty = record {
  each = (
    record {
      before = [];
      begins = record { between = []; same = refl };
      stands = empty_justified;
      fresh = All-cons (IsNew (known_with [])) (time_key 1) [] refl (All-nil (IsNew (known_with [])));
    },
    (
      record {
        before = first_alone;
        begins = record { between = []; same = refl };
        stands = cut_justified;
        fresh = All-cons (IsNew (known_with first_alone)) (time_key 2) [] refl
            (All-nil (IsNew (known_with first_alone)));
      },
      tt,
    ),
  );
}

pub not_before_empty : AreJustified cut_short (unreached_derivation (time_key 1 ∷ []) 2 ∷ empty_derivation 1 (1 ∷ 1 ∷ []) ∷ []) → ⊥
not_before_empty h =
    none_some (Constant 0) (All-head (IsZeroTime (known_with [])) (time_key 1) []
    (first_over cut_short (unreached_derivation (time_key 1 ∷ []) 2) (empty_derivation 1 (1 ∷ 1 ∷ []) ∷ []) h).accepted.0.zero)

pub not_on_nothing : AreJustified cut_short (empty_derivation 1 (1 ∷ 1 ∷ []) ∷ unreached_derivation [] 2 ∷ []) → ⊥
not_on_nothing h =
    h.each.1.0.stands.accepted.1.reached (rule_over 1 1 0 (Variable 0) []) refl
    (Onward (Here refl)
    (record { number = 1; rule = never_enter; numbered = refl; allowed = refl; source = refl; target = refl }))
