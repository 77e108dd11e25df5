-- Justified derivations of the program with a rule that is never reached, and others that aren't.
use Rattle.std.proofs.Common.{◌≡◌, ℕ, zero, suc, Bool, true, List, [], ◌∷◌, Some}
use Rattle.std.proofs.Common.{None, refl, subst, arith}
use Rattle.std.proofs.lemmas.List.Elements.{All-nil, All-cons, All-head}
use Rattle.rule_questions.specs.model.Programs.{Rule}
use Rattle.rule_questions.specs.model.Terms.{Variable}
use Rattle.rule_questions.specs.model.Bounds.{Constant}
use Rattle.rule_questions.specs.model.Paths.{Here}
use Rattle.rule_questions.proofs.model.Cases.{none_some}
use Rattle.rule_questions.specs.cert_rules.Nodes.{ResultVariable}
use Rattle.rule_questions.specs.cert_rules.Known.{IsKnown}
use Rattle.rule_questions.specs.cert_rules.Setting.{Setting}
use Rattle.rule_questions.specs.cert_rules.AcceptsPlain.{IsRule, IsUnreached}
use Rattle.rule_questions.specs.cert_rules.WorkedSettings.{apart, enter, rule_over}
use Rattle.rule_questions.proofs.cert_rules.ReachTests.{decides-unreached}
use Rattle.bound_fixpoint.specs.Keys.{Bounds, key, time_key, at_key}
use Rattle.bound_fixpoint.specs.Derivations.{Derivation, bounds_of}
use Rattle.bound_fixpoint.specs.Justification.{is_left, IsJustified, IsBeginning, AreJustified}
use Rattle.bound_fixpoint.specs.Beginning.{unreached_derivation, never_derivation}

pub rule_1 : IsRule apart.program 1
rule_1 = record { rule = enter; numbered = refl }

pub rule_2 : IsRule apart.program 2
rule_2 = record { rule = rule_over 2 2 0 (Variable 0) []; numbered = refl }

-- the program has rules 1 and 2 alone
pub no_rule_0 : IsRule apart.program 0 → ⊥
no_rule_0 h = none h.rule h.numbered
  where
    none : (r : Rule) → None ≡ Some r → ⊥
    none r e = cc

pub no_rule_3 : (t : ℕ) → IsRule apart.program (suc (suc (suc t))) → ⊥
no_rule_3 t h = none h.rule h.numbered
  where
    none : (r : Rule) → None ≡ Some r → ⊥
    none r e = cc

-- rule 2 is unreached, also if all rules are allowed, and rule 1 isn't
pub no_way : IsUnreached apart.program (λ e. true) 2
no_way = (decides-unreached apart.program (λ e. true) 2).0 refl

pub reached : (f : ℕ → Bool) → IsUnreached apart.program f 1 → ⊥
reached f out = out enter refl (Here refl)

abbrev known_with : List Derivation → Bounds
known_with fs = bounds_of apart.program fs

abbrev pub IsKnownIn : Bounds → ResultVariable → Type 0
IsKnownIn bs k = IsKnown (at_key bs k)

abbrev pub IsNew : Bounds → ResultVariable → Type 0
IsNew bs k = at_key bs k ≡ None

abbrev IsTime : ResultVariable → Type 0
IsTime k = k.place ≡ 0

abbrev IsZeroTime : Bounds → ResultVariable → Type 0
IsZeroTime bs k = bs k.rule 0 ≡ Some (Constant 0)

time_justified : IsJustified apart (known_with []) (unreached_derivation [] 2)
time_justified = record {
  keys = refl;
  accepted = (
    record { times = All-nil IsTime; zero = All-nil (IsZeroTime (known_with [])) },
    record { shape = rule_2; reached = (decides-unreached apart.program (is_left []) 2).0 refl },
  );
  premises = tt;
  known = All-nil (IsKnownIn (known_with []));
  bound = refl;
}

size_justified : IsJustified apart (known_with (unreached_derivation [] 2 ∷ [])) (never_derivation apart.program 2)
size_justified = record {
  keys = refl;
  accepted = record { rule = rule_2; zero = refl };
  premises = refl;
  known = All-cons (IsKnownIn (known_with (unreached_derivation [] 2 ∷ []))) (time_key 2) [] (Constant 0, refl)
      (All-nil (IsKnownIn (known_with (unreached_derivation [] 2 ∷ []))));
  bound = refl;
}

pub stands : AreJustified apart (unreached_derivation [] 2 ∷ never_derivation apart.program 2 ∷ [])
stands = record {
  each = (
    record {
      before = [];
      begins = record { between = []; same = refl };
      stands = time_justified;
      fresh = All-cons (IsNew (known_with [])) (time_key 2) [] refl (All-nil (IsNew (known_with [])));
    },
    (
      record {
        before = unreached_derivation [] 2 ∷ [];
        begins = record { between = []; same = refl };
        stands = size_justified;
        fresh = All-cons (IsNew (known_with (unreached_derivation [] 2 ∷ []))) (key 2 1) [] refl
            (All-nil (IsNew (known_with (unreached_derivation [] 2 ∷ []))));
      },
      tt,
    ),
  );
}

-- a prefix of the empty list is empty
begins_nothing : (fs : List Derivation) → IsBeginning fs [] → fs ≡ []
begins_nothing [] h = refl
begins_nothing (f ∷ fs) h = absurd (some h.same)
  where
    some : {x : Derivation} {xs : List Derivation} → x ∷ xs ≡ [] → ⊥
    some e = cc

-- the first derivation is justified over no bounds
pub first_over : (s : Setting) (f : Derivation) (fs : List Derivation) → AreJustified s (f ∷ fs) → IsJustified s (bounds_of s.program []) f
first_over s f fs h =
    subst (λ (before : List Derivation). IsJustified s (bounds_of s.program before) f)
    (begins_nothing h.each.0.before h.each.0.begins) h.each.0.stands

pub not_without_time : AreJustified apart (never_derivation apart.program 2 ∷ []) → ⊥
not_without_time h = none_some (Constant 0) (first_over apart (never_derivation apart.program 2) [] h).accepted.zero

pub not_resting_on_others : AreJustified apart (unreached_derivation (time_key 1 ∷ []) 2 ∷ []) → ⊥
not_resting_on_others h =
    none_some (Constant 0) (All-head (IsZeroTime (known_with [])) (time_key 1) []
    (first_over apart (unreached_derivation (time_key 1 ∷ []) 2) [] h).accepted.0.zero)
