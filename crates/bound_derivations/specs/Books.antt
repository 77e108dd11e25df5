-- The derivations with their table by key: the table is the index of the list.
use Rattle.std.specs.Prelude.{◌≡◌, ◌⊎◌, ℕ, suc, ◌+◌, ◌-◌, ◌<◌, ◌≤◌, ◌^◌, List, ◌∷◌, length, map, Option, None}
use Rattle.std.specs.List.{All}
use Rattle.model.specs.Programs.{Program, arity_of}
use Rattle.cert_types.specs.cert_rules.AcceptsPlain.{IsRule}
use Rattle.cert_types.specs.cert_rules.Nodes.{ResultVariable}
use Rattle.bound_fixpoint.specs.Keys.{IsPlace}
use Rattle.bound_fixpoint.specs.Derivations as plain
use Rattle.bound_fixpoint.specs.Laws.{missing}
use Rattle.outcome.specs.declared.entry.Stored.{Stored}
use Rattle.size_bounds.specs.declared.table.Table.{Table}
use Rattle.bound_derivations.specs.declared.derivation.Derivation.{Derivation}
use Rattle.size_bounds.specs.Tables.{number_at}
use Rattle.size_bounds.specs.Tables.{bounds_in}
use Rattle.bound_derivations.specs.ByKey.{rows_of}
use Rattle.bound_derivations.specs.Views.{derivations_of}

-- the table has a position for each key: for the time of the virtual entry and of each rule, and for each place after
-- them
pub record HasKeys (p : Program) (tab : Table) : Type 0 where
  pub times : length tab.times.items ≡ suc (length p.rules)
  pub rows : map (λ (row : List (Option Stored)). length row) (rows_of tab)
      ≡ arity_of p p.start ∷ map (λ r. arity_of p r.target) p.rules

-- the table is the index of these derivations: it has their known bounds, and the numbers of their lemmas; and the
-- derivations and the missing bounds together are few enough for each lemma to have a number
pub record AreDerivedBounds (p : Program) (tab : Table) (derivations : List Derivation) : Type 0 where
  pub bounds : (t i : ℕ) → bounds_in tab t i ≡ plain.bounds_of p (derivations_of derivations) t i
  pub numbers : (t i : ℕ) → number_at tab t i ≡ plain.number_in (derivations_of derivations) t i
  pub keys : HasKeys p tab
  pub few : length derivations + missing p (plain.bounds_of p (derivations_of derivations)) < 2 ^ 32 - 1

-- the key of a rule of the program: of its time, or of a place after it
pub record IsKey (p : Program) (t i : ℕ) : Type 0 where
  pub rule : IsRule p t
  pub place : (i ≡ 0) ⊎ IsPlace p t i

-- these are keys of rules of the program, at least one, none of which has a known bound with the derivations
pub record AreOpen (p : Program) (fs : List plain.Derivation) (keys : List ResultVariable) : Type 0 where
  pub some : 1 ≤ length keys
  pub each : All (λ k. IsKey p k.rule k.place) keys
  pub unknown : All (λ k. plain.bounds_of p fs k.rule k.place ≡ None) keys
