-- The keys of justified derivations are those of rules and of the places after them, so no other bound is known.
use Rattle.std.proofs.Common.{◌≡◌, inl, inr, ℕ, zero, suc, true, List, [], ◌∷◌, ◌++◌, map, Option, Some, None}
use Rattle.std.proofs.Common.{refl, ap, subst}
use Rattle.std.specs.List.{Contains}
use Rattle.model.specs.Bounds.{Bound}
use Rattle.model.specs.Paths.{target_of, target_in}
use Rattle.model.specs.Programs.{Program, rule_at}
use Rattle.model.proofs.Cases.{none_some}
use Rattle.cert_types.specs.cert_rules.AcceptsPlain.{IsRule}
use Rattle.cert_types.specs.cert_rules.AcceptsSizes.{IsResultVariable, HasMemberShape}
use Rattle.cert_types.specs.cert_rules.Nodes.{ResultVariable, Member}
use Rattle.cert_types.specs.cert_rules.Setting.{Setting}
use Rattle.bound_fixpoint.specs.Derivations.{Node, EmptyBy, UnreachedBy, NeverBy, RankBy, SpreadBy, CycleBy, Derivation, keys_of}
use Rattle.bound_fixpoint.specs.Derivations.{bound_found}
use Rattle.bound_fixpoint.specs.Keys.{Bounds, IsPlace, key, time_key, has_key}
use Rattle.bound_fixpoint.specs.Justification.{AcceptsOver, IsJustified, AreJustifiedAfter, AreJustified}
use Rattle.bound_fixpoint.proofs.Cases.{either}
use Rattle.bound_fixpoint.proofs.DerivationLists.{found-derivation}
use Rattle.bound_fixpoint.proofs.FirstDerivationsAreJustified.{keys_after-sound}
use Rattle.bound_fixpoint.proofs.Keys.{has_key-cases, has_key-none, has_key-contained}
use Rattle.bound_fixpoint.proofs.ListMembers.{contains-cases, contains-none, map-contains, contained-all}
use Rattle.bound_fixpoint.proofs.MissingFalls.{IsKeyOfRule}

-- a key among a single key is that key
only_key : (k : ResultVariable) (t i : ℕ) → has_key (k ∷ []) t i ≡ true → k ≡ key t i
only_key k t i m = either (has_key-cases k [] t i m) (λ e. e) (λ later. absurd (has_key-none t i later))

-- the key of a rule's time, as the only key
time_alone : (p : Program) (u : ℕ) → IsRule p u → (t i : ℕ) → has_key (time_key u ∷ []) t i ≡ true → IsKeyOfRule p t i
time_alone p u rule t i m =
    let same = only_key (time_key u) t i m in (
      subst (λ (n : ℕ). IsRule p n) (ap (λ (k : ResultVariable). k.rule) same) rule,
      inl (ap (λ (k : ResultVariable). k.place) same),
    )

-- a result variable is a place after its rule
result_variable_place : (p : Program) (k : ResultVariable) → IsResultVariable p k → IsPlace p k.rule k.place
result_variable_place p k at = record {
  symbol = at.rule.target;
  target = leads k.rule at.numbered;
  least = at.least;
  last = at.most;
}
  where
    leads : (t : ℕ) → rule_at p t ≡ Some at.rule → target_of p t ≡ Some at.rule.target
    leads zero e = absurd (none_some at.rule e)
    leads (suc t) e = ap target_in e

result_variable_key : (p : Program) (k : ResultVariable) (t i : ℕ) → IsResultVariable p k → k ≡ key t i → IsKeyOfRule p t i
result_variable_key p k t i at e =
    subst (λ (x : ResultVariable). IsKeyOfRule p x.rule x.place) e
    (record { rule = at.rule; numbered = at.numbered }, inr (result_variable_place p k at))

-- the keys of a node that is accepted are those of a rule or of places after one
node_key : (s : Setting) (b : Bounds) (node : Node) (premises : List ResultVariable) → AcceptsOver s b node premises → (t i : ℕ)
    → has_key (keys_of s.program node) t i ≡ true → IsKeyOfRule s.program t i
node_key s b (EmptyBy u multipliers) premises ok t i m = time_alone s.program u ok.shape.rule t i m
node_key s b (UnreachedBy u) premises ok t i m = time_alone s.program u ok.1.shape t i m
node_key s b (RankBy node) premises ok t i m =
    time_alone s.program node.rule (ok.shape.rules node.rule ok.shape.inside) t i m
node_key s b (SpreadBy member) premises ok t i m =
    result_variable_key s.program member.result_variable t i ok.shape.at (only_key member.result_variable t i m)
node_key s b (CycleBy members) premises ok t i m =
    let there = map-contains (λ (x : Member). x.result_variable) (key t i) members
    (has_key-contained (map (λ x. x.result_variable) members) t i m) in
    let shape = contained-all (HasMemberShape s) members there.0 ok.shape.each there.1 in
    result_variable_key s.program there.0.result_variable t i shape.at there.2
node_key s b (NeverBy u) premises ok t i m =
    let told = keys_after-sound s.program u t i m in (
      subst (λ (n : ℕ). IsRule s.program n) told.0 ok.rule,
      inr (subst (λ (n : ℕ). IsPlace s.program n i) told.0 told.1),
    )

-- each derivation of a justified list is justified over some bounds
true_there : (s : Setting) (earlier fs : List Derivation) → AreJustifiedAfter s earlier fs → (f : Derivation) → Contains fs f
    → (b : Bounds) × IsJustified s b f
true_there s earlier [] h f m = absurd (contains-none f m)
true_there s earlier (g ∷ fs) h f m =
    either (contains-cases f g fs m)
    (λ e. subst (λ (x : Derivation). (b : Bounds) × IsJustified s b x) e (_, h.0.stands))
    (λ later. true_there s (earlier ++ g ∷ []) fs h.1 f later)

-- a derived key is that of a rule, or of a place after one
pub found_key : (s : Setting) (fs : List Derivation) → AreJustified s fs → (t i : ℕ) (b : Bound) → bound_found fs t i ≡ Some b
    → IsKeyOfRule s.program t i
found_key s fs all t i b e =
    let derivation = found-derivation fs t i b e in
    let over = true_there s [] fs all.each derivation.0 derivation.1 in
    node_key s over.0 derivation.0.node derivation.0.premises over.1.accepted t i
    (subst (λ (keys : List ResultVariable). has_key keys t i ≡ true) over.1.keys derivation.2)

-- no bound of another key is derived
pub none_found : (s : Setting) (fs : List Derivation) → AreJustified s fs → (t i : ℕ) → (IsKeyOfRule s.program t i → ⊥)
    → bound_found fs t i ≡ None
none_found s fs all t i other = go (bound_found fs t i) refl
  where
    go : (o : Option Bound) → bound_found fs t i ≡ o → bound_found fs t i ≡ None
    go None e = e
    go (Some b) e = absurd (other (found_key s fs all t i b e))
