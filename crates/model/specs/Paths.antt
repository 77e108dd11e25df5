-- Paths in a graph and along the rules of a program, and the notions defined by them.
use Rattle.std.specs.Prelude.{◌≡◌, ◌⊎◌, ℕ, zero, suc, ◌==◌, List, length, filter, Bool, true, false}
use Rattle.std.specs.Prelude.{Option, Some, None, slice_get}
use Rattle.std.specs.List.{range_with_len}
use Rattle.model.specs.Programs.{Program, Rule, rule_at}

-- a path, possibly empty, leads from one node to another
pub data Path (Edge : ℕ → ℕ → Type 0) (a : ℕ) : ℕ → Type 0 where
  Here : {b : ℕ} → a ≡ b → Path Edge a b
  Onward : {b c : ℕ} → Path Edge a b → Edge b c → Path Edge a c

-- a rule that is allowed leads from one symbol to another
pub record HasEdge (p : Program) (is_allowed : ℕ → Bool) (a b : ℕ) : Type 0 where
  pub number : ℕ
  pub rule : Rule
  pub numbered : rule_at p number ≡ Some rule
  pub allowed : is_allowed number ≡ true
  pub source : rule.source ≡ a
  pub target : rule.target ≡ b

-- a path of allowed rules, possibly empty, leads from one symbol to another
abbrev pub HasPath : Program → (ℕ → Bool) → ℕ → ℕ → Type 0
HasPath p is_allowed = Path (HasEdge p is_allowed)

-- a path of allowed rules leads from the start symbol to the symbol
abbrev pub IsReached : Program → (ℕ → Bool) → ℕ → Type 0
IsReached p is_allowed b = HasPath p is_allowed p.start b

-- allows every rule
abbrev pub any_rule : ℕ → Bool
any_rule t = true

-- the graph has a cycle: from the target of some rule a path leads back to its source
pub record HasCycle (p : Program) : Type 0 where
  pub from : ℕ
  pub to : ℕ
  pub edge : HasEdge p any_rule from to
  pub back : HasPath p any_rule to from

-- the target of a rule, if there is one
abbrev pub target_in : Option Rule → Option ℕ
target_in None = None
target_in (Some r) = Some r.target

-- the target of the rule with a number; that of the virtual entry, rule 0, is the start symbol
abbrev pub target_of : Program → ℕ → Option ℕ
target_of p zero = Some p.start
target_of p (suc t) = target_in (slice_get p.rules t)

-- the source of a rule, if there is one
abbrev pub source_in : Option Rule → Option ℕ
source_in None = None
source_in (Some r) = Some r.source

-- the source of the rule with a number; the virtual entry has none
abbrev pub source_of : Program → ℕ → Option ℕ
source_of p t = source_in (rule_at p t)

-- whether both symbols exist and are the same
abbrev pub same_symbol : Option ℕ → Option ℕ → Bool
same_symbol None b = false
same_symbol (Some a) None = false
same_symbol (Some a) (Some b) = a == b

-- whether rule e, or the virtual entry, can come just before rule t: its target is the source of t
abbrev pub comes_before : Program → ℕ → ℕ → Bool
comes_before p e t = same_symbol (target_of p e) (source_of p t)

-- the numbers of the virtual entry and of the rules
abbrev pub entry_and_rules : Program → List ℕ
entry_and_rules p = range_with_len 0 (suc (length p.rules))

-- the numbers of what can come just before rule t, in ascending order
abbrev pub pre : Program → ℕ → List ℕ
pre p t = filter (λ e. comes_before p e t) (entry_and_rules p)

-- rule e is untimed, and from its target a path of untimed rules, possibly empty, leads to the source of t
pub record LeadsBackTo (p : Program) (is_untimed : ℕ → Bool) (t e : ℕ) : Type 0 where
  pub untimed : is_untimed e ≡ true
  pub from : ℕ
  pub leads : target_of p e ≡ Some from
  pub to : ℕ
  pub leaves : source_of p t ≡ Some to
  pub path : HasPath p is_untimed from to

-- the set of rule t contains t itself, and each untimed rule from whose target a path of untimed rules leads to the
-- source of t
abbrev pub IsInSet : Program → (ℕ → Bool) → ℕ → ℕ → Type 0
IsInSet p is_untimed t e = (e ≡ t) ⊎ LeadsBackTo p is_untimed t e
