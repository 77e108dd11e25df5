-- Gaps and proof files as plain data.
use Rattle.std.specs.Prelude.{ℕ, ◌&&◌, nat_eq, Bool, List, ℤ}
use Rattle.std.specs.List.{list_any}
use Rattle.cert_rules.specs.Nodes.{Proof}

-- a numerator for each unknown over one denominator; with the denominator 0 it is a ray
pub record ScaledPoint : Type 0 where
  pub parts : List ℤ
  pub den : ℕ

-- a place of a symbol, counted from 1
pub record SymbolPlace : Type 0 where
  pub symbol : ℕ
  pub place : ℕ

-- whether place i of symbol a is in the list
abbrev pub is_shut : List SymbolPlace → ℕ → ℕ → Bool
is_shut shut a i = list_any (λ c. nat_eq c.symbol a && nat_eq c.place i) shut

-- a gap: a rule and a set of rules, the shut places, a move (a scaled point) for each rule of the set, the floor (a
-- second scaled point of the strict rule), and a kept point for each rule of the set
pub record Gap : Type 0 where
  pub rule : ℕ
  pub set : List ℕ
  pub shut : List SymbolPlace
  pub moves : List ScaledPoint
  pub floor : ScaledPoint
  pub kept : List ScaledPoint

-- a proof file: lemmas, each of which may cite those before it, and gaps
pub record ProofFile : Type 0 where
  pub lemmas : List Proof
  pub gaps : List Gap
