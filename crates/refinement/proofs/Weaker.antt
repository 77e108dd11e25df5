-- A program with weaker guards simulates the program, without facts.
use Rattle.std.proofs.Common.{◌≡◌, ℕ, List, ◌++◌, ℤ, Option, Some, None, refl, sym, ◌∙◌, subst}
use Rattle.std.specs.Prelude.{⊤}
use Rattle.model.specs.Programs.{Program, Rule, rule_at}
use Rattle.model.specs.Runs.{Config}
use Rattle.refinement.specs.Simulation.{IsEnabled, HasRuleBelow, HasEnabledCopy, Simulates}
use Rattle.refinement.specs.Laws.{AreWeaker, HasWeakerGuards, same_numbers}

-- a weaker rule is a copy of the rule with its number
below : (p q : Program) (t : ℕ) (weaker : Rule) (o : Option Rule) → rule_at p t ≡ o → AreWeaker o (Some weaker)
    → HasRuleBelow p same_numbers t weaker
below p q t weaker None e h = absurd h
below p q t weaker (Some r) e h = record {
  rule = r;
  numbered = e;
  copies = record {
    left = h.left;
    free = h.free;
    updates = h.updates;
    cost = h.cost;
    source = h.source;
    target = h.target;
  };
}

-- a weaker rule is enabled wherever the rule is
enabled_above : (p q : Program) (t : ℕ) (r : Rule) (c : Config) (free : List ℤ) (o : Option Rule) → rule_at q t ≡ o
    → AreWeaker (Some r) o → IsEnabled r c free → HasEnabledCopy q same_numbers t c free
enabled_above p q t r c free None e h enabled = absurd h
enabled_above p q t r c free (Some weaker) e h enabled = record {
  number = t;
  rule = weaker;
  numbered = e;
  above = refl;
  enabled = record {
    source = enabled.source ∙ sym h.source;
    left = enabled.left ∙ sym h.left;
    free_ones = enabled.free_ones ∙ sym h.free;
    guard = h.guard (c.values ++ free) enabled.guard;
  };
}

pub weaker-simulates : (p q : Program) → HasWeakerGuards p q → Simulates q p same_numbers (λ c. ⊤)
weaker-simulates p q h = record {
  start = h.start;
  places = h.places;
  entry = refl;
  first = λ c at. tt;
  copies = λ t weaker numbered. below p q t weaker (rule_at p t) refl
      (subst (λ (o : Option Rule). AreWeaker (rule_at p t) o) numbered (h.rules t));
  covered = λ t r c free facts numbered enabled. enabled_above p q t r c free (rule_at q t) refl
      (subst (λ (o : Option Rule). AreWeaker o (rule_at q t)) numbered (h.rules t)) enabled;
  kept = λ t r copy c d free facts numbered below guard leads. tt;
}
