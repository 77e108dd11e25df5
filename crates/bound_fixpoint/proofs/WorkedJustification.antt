-- Justified derivations of the program that counts down, and others that aren't.
use Rattle.std.proofs.Common.{◌≡◌, ℕ, List, [], ◌∷◌, ◌++◌, length}
use Rattle.std.proofs.Common.{Some, None, refl, sym, ◌∙◌, ap, subst, arith, All}
use Rattle.std.proofs.lemmas.List.Elements.{All-nil, All-cons, All-head, All-tail}
use Rattle.rule_questions.specs.model.Bounds.{Constant, Input}
use Rattle.rule_questions.proofs.model.Cases.{none_some, some_none}
use Rattle.rule_questions.specs.cert_rules.Nodes.{ResultVariable}
use Rattle.rule_questions.specs.cert_rules.AcceptsRank.{AcceptsRank}
use Rattle.rule_questions.specs.cert_rules.AcceptsSizes.{AcceptsSpread, AcceptsCycle}
use Rattle.rule_questions.specs.cert_rules.WorkedSettings.{counting}
use Rattle.rule_questions.specs.cert_rules.Worked.{once_node, once_time, alone_node, entered_member}
use Rattle.rule_questions.specs.cert_rules.Worked.{entered_size, looped_member}
use Rattle.rule_questions.proofs.cert_rules.TestedNodes.{tested-rank, tested-spread, tested-cycle}
use Rattle.bound_fixpoint.specs.Keys.{Bounds, key, time_key, at_key, over}
use Rattle.bound_fixpoint.specs.Derivations.{Derivation, bounds_of}
use Rattle.bound_fixpoint.specs.Justification.{IsJustified, IsJustifiedAfter, AreJustified}
use Rattle.bound_fixpoint.specs.WorkedDerivations.{once_derivation, entered_derivation, alone_derivation, looped_derivation, alone_time}
use Rattle.bound_fixpoint.specs.WorkedJustification.{ranked_derivation, JustificationIsWorkedOut}
use Rattle.bound_fixpoint.proofs.DerivationLists.{bounds_of-kept}
use Rattle.bound_fixpoint.proofs.WorkedUnreached.{IsKnownIn, IsNew, first_over}
use Rattle.bound_fixpoint.proofs.WorkedUnreached as unreached

abbrev known_with : List Derivation → Bounds
known_with fs = bounds_of counting.program fs

-- the nodes of the four derivations are accepted over the bounds before them
once_ok : AcceptsRank counting (over (known_with [])) once_node
once_ok = tested-rank counting (over (known_with [])) once_node refl

abbrev two : List Derivation
two = once_derivation ∷ entered_derivation ∷ []

alone_ok : AcceptsRank counting (over (known_with two)) alone_node
alone_ok = tested-rank counting (over (known_with two)) alone_node refl

pub entered_ok : AcceptsSpread counting (over (known_with [])) entered_member
entered_ok = tested-spread counting (over (known_with [])) entered_member refl

pub looped_ok : AcceptsCycle counting (over (known_with two)) (looped_member ∷ [])
looped_ok = tested-cycle counting (over (known_with two)) (looped_member ∷ []) refl

-- if a single key is new, or is known, so are all keys of its list
one_new : (bs : Bounds) (k : ResultVariable) → IsNew bs k → All (IsNew bs) (k ∷ [])
one_new bs k h = All-cons (IsNew bs) k [] h (All-nil (IsNew bs))

one_known : (bs : Bounds) (k : ResultVariable) → IsKnownIn bs k → All (IsKnownIn bs) (k ∷ [])
one_known bs k h = All-cons (IsKnownIn bs) k [] h (All-nil (IsKnownIn bs))

two_known : (bs : Bounds) (k l : ResultVariable) → IsKnownIn bs k → IsKnownIn bs l → All (IsKnownIn bs) (k ∷ l ∷ [])
two_known bs k l h i = All-cons (IsKnownIn bs) k (l ∷ []) h (one_known bs l i)

once_justified : IsJustified counting (known_with []) once_derivation
once_justified = record {
  keys = refl;
  accepted = once_ok;
  premises = refl;
  known = one_known (known_with []) (time_key 0) (Constant 1, refl);
  bound = refl;
}

entered_justified : IsJustified counting (known_with []) entered_derivation
entered_justified = record {
  keys = refl;
  accepted = entered_ok;
  premises = refl;
  known = two_known (known_with []) (key 0 1) (key 0 1) (Input 0, refl) (Input 0, refl);
  bound = refl;
}

alone_justified : IsJustified counting (known_with two) alone_derivation
alone_justified = record {
  keys = refl;
  accepted = alone_ok;
  premises = refl;
  known = two_known (known_with two) (time_key 1) (key 1 1) (once_time, refl) (entered_size, refl);
  bound = refl;
}

looped_justified : IsJustified counting (known_with two) looped_derivation
looped_justified = record {
  keys = refl;
  accepted = looped_ok;
  premises = refl;
  known = one_known (known_with two) (key 1 1) (entered_size, refl);
  bound = refl;
}

-- a derivation that is justified over a prefix is justified after the whole list, if its keys are unknown there
justified_after : (before between : List Derivation) (f : Derivation) → IsJustified counting (known_with before) f
    → All (IsNew (known_with (before ++ between))) f.keys → IsJustifiedAfter counting (before ++ between) f
justified_after before between f h new = record {
  before = before;
  begins = record { between = between; same = refl };
  stands = h;
  fresh = new;
}

-- the first rule's time alone is justified
pub once_alone : AreJustified counting (once_derivation ∷ [])
once_alone = record { each = (justified_after [] [] once_derivation once_justified (one_new (known_with []) (time_key 1) refl), tt) }

four : AreJustified counting (once_derivation ∷ entered_derivation ∷ alone_derivation ∷ looped_derivation ∷ [])
four = record {
  each = (
    justified_after [] [] once_derivation once_justified (one_new (known_with []) (time_key 1) refl),
    (
      justified_after [] (once_derivation ∷ []) entered_derivation entered_justified
          (one_new (known_with (once_derivation ∷ [])) (key 1 1) refl),
      (
        justified_after two [] alone_derivation alone_justified (one_new (known_with two) (time_key 2) refl),
        (
          justified_after two (alone_derivation ∷ []) looped_derivation looped_justified
              (one_new (known_with (once_derivation ∷ entered_derivation ∷ alone_derivation ∷ [])) (key 2 1) refl),
          tt,
        ),
      ),
    ),
  );
}

-- a bound that is missing after all earlier derivations isn't known after the prefix over which a derivation is
-- justified
not_known : (earlier : List Derivation) (f : Derivation) (a : IsJustifiedAfter counting earlier f) (k : ResultVariable)
    → at_key (known_with earlier) k ≡ None → IsKnownIn (known_with a.before) k → ⊥
not_known earlier f a k missing h =
    none_some h.0 (sym missing ∙ subst (λ (fs : List Derivation). at_key (known_with fs) k ≡ Some h.0) a.begins.same
    (bounds_of-kept counting.program a.before a.begins.between k.rule k.place h.0 h.1))

abbrev first_place : List ResultVariable → ℕ
first_place [] = 0
first_place (k ∷ keys) = k.place

abbrev rule_of_keys : List ResultVariable → ℕ
rule_of_keys [] = 0
rule_of_keys (k ∷ keys) = k.rule

not_before : AreJustified counting (once_derivation ∷ alone_derivation ∷ entered_derivation ∷ []) → ⊥
not_before h =
    let a = h.each.1.0 in
    not_known (once_derivation ∷ []) alone_derivation a (key 1 1) refl
    (All-head (IsKnownIn (known_with a.before)) (key 1 1) []
    (All-tail (IsKnownIn (known_with a.before)) (time_key 1) (key 1 1 ∷ []) a.stands.known))

not_loop_before : AreJustified counting (looped_derivation ∷ entered_derivation ∷ []) → ⊥
not_loop_before h =
    let a = h.each.0 in
    not_known [] looped_derivation a (key 1 1) refl
    (All-head (IsKnownIn (known_with a.before)) (key 1 1) [] a.stands.known)

not_twice : AreJustified counting (once_derivation ∷ once_derivation ∷ []) → ⊥
not_twice h =
    some_none once_time
    (All-head (IsNew (known_with (once_derivation ∷ []))) (time_key 1) [] h.each.1.0.fresh)

not_bound : AreJustified counting (ranked_derivation (time_key 1 ∷ []) once_node (time_key 0 ∷ []) (Constant 1) ∷ []) → ⊥
not_bound h =
    other (first_over counting (ranked_derivation (time_key 1 ∷ []) once_node (time_key 0 ∷ []) (Constant 1)) [] h).bound
  where
    other : Constant 1 ≡ once_time → ⊥
    other e = cc

not_turned : AreJustified counting (once_derivation ∷ entered_derivation
    ∷ ranked_derivation (time_key 2 ∷ []) alone_node (key 1 1 ∷ time_key 1 ∷ []) alone_time ∷ []) → ⊥
not_turned h =
    let n : ◌≡◌ {A = ℕ} 1 0 = ap first_place h.each.1.1.0.stands.premises in omega (arith, n)

not_needed_twice : AreJustified counting (ranked_derivation (time_key 1 ∷ []) once_node (time_key 0 ∷ time_key 0 ∷ []) once_time
    ∷ []) → ⊥
not_needed_twice h =
    let n : ◌≡◌ {A = ℕ} 2 1 = ap length h.each.0.stands.premises in omega (arith, n)

not_without_need : AreJustified counting (ranked_derivation (time_key 1 ∷ []) once_node [] once_time ∷ []) → ⊥
not_without_need h = let n : ◌≡◌ {A = ℕ} 0 1 = ap length h.each.0.stands.premises in omega (arith, n)

not_other_key : AreJustified counting (ranked_derivation (time_key 2 ∷ []) once_node (time_key 0 ∷ []) once_time ∷ []) → ⊥
not_other_key h = let n : ◌≡◌ {A = ℕ} 2 1 = ap rule_of_keys h.each.0.stands.keys in omega (arith, n)

pub justification_worked : JustificationIsWorkedOut
justification_worked = record {
  none = record { each = tt };
  four = four;
  not_before = not_before;
  not_loop_before = not_loop_before;
  not_twice = not_twice;
  not_bound = not_bound;
  not_turned = not_turned;
  not_needed_twice = not_needed_twice;
  not_without_need = not_without_need;
  not_other_key = not_other_key;
  unreached = unreached.stands;
  not_without_time = unreached.not_without_time;
  not_resting_on_others = unreached.not_resting_on_others;
}
