-- A program without some atoms has weaker guards.
use Rattle.std.proofs.Common.{◌≡◌, ℕ, zero, suc, Bool, true, false, cond, List, [], ◌∷◌, filter, Option, Some, None}
use Rattle.std.proofs.Common.{refl, sym, subst}
use Rattle.std.specs.Prelude.{slice_get, option_map}
use Rattle.std.specs.List.{AllByRecursion}
use Rattle.std.proofs.lemmas.Option.{slice_get-map}
use Rattle.std.proofs.lemmas.List.Elements.{All-from_recursion, recursion_from_All}
use Rattle.refinement.specs.model.Programs.{Rule, Program, rule_at, AtomHolds}
use Rattle.refinement.specs.Laws.{IsWeaker, AreWeaker, HasWeakerGuards}
use Rattle.refinement.proofs.Keeping.{weaker_guards_keep_bounds}
use Rattle.section_makers.specs.Lighter.{is_small_atom, lighter_rule, lighter}
use Rattle.section_makers.specs.Laws.{LighterProgramsKeepBounds}

-- a property of all elements is one of those that pass a test
filtered-all : {X : Type 0} (P : X → Type 0) (test : X → Bool) (xs : List X) → AllByRecursion P xs
    → AllByRecursion P (filter test xs)
filtered-all P test [] h = tt
filtered-all P test (x ∷ xs) h = go (test x) refl (filtered-all P test xs h.1)
  where
    go : (v : Bool) → test x ≡ v → AllByRecursion P (filter test xs)
        → AllByRecursion P (cond v (x ∷ filter test xs) (filter test xs))
    go true e rest = (h.0, rest)
    go false e rest = rest

rule-weaker : (n : ℕ) (r : Rule) → IsWeaker r (lighter_rule n r)
rule-weaker n r = record {
  source = refl;
  target = refl;
  left = refl;
  free = refl;
  updates = refl;
  cost = refl;
  guard = λ env h. All-from_recursion (AtomHolds env) (filter (is_small_atom n) r.guard)
      (filtered-all (AtomHolds env) (is_small_atom n) r.guard (recursion_from_All (AtomHolds env) r.guard h));
}

option-weaker : (n : ℕ) (o : Option Rule) → AreWeaker o (option_map (lighter_rule n) o)
option-weaker n None = tt
option-weaker n (Some r) = rule-weaker n r

rules-weaker : (n : ℕ) (p : Program) (t : ℕ) → AreWeaker (rule_at p t) (rule_at (lighter n p) t)
rules-weaker n p zero = tt
rules-weaker n p (suc t) =
    subst (λ (o : Option Rule). AreWeaker (slice_get p.rules t) o) (sym (slice_get-map (lighter_rule n) p.rules t))
    (option-weaker n (slice_get p.rules t))

lighter-weaker : (n : ℕ) (p : Program) → HasWeakerGuards p (lighter n p)
lighter-weaker n p = record { start = refl; places = refl; rules = rules-weaker n p }

pub lighter_programs_keep_bounds : LighterProgramsKeepBounds
lighter_programs_keep_bounds = record {
  weaker = lighter-weaker;
  lifts = λ n p. weaker_guards_keep_bounds.lifts p (lighter n p) (lighter-weaker n p);
  bounds = λ n p. weaker_guards_keep_bounds.bounds p (lighter n p) (lighter-weaker n p);
}
