-- The parts of the shape of a ranking node.
use Rattle.std.specs.Prelude.{◌≡◌, ℕ, ◌≤◌, true, List, length}
use Rattle.std.specs.List.{AllByRecursion}
use Rattle.model.specs.Entries.{is_in}
use Rattle.model.specs.Programs.{Program}
use Rattle.cert_types.specs.Views.{form_of}
use Rattle.cert_types.specs.declared.rank.Form.{Form}
use Rattle.cert_types.specs.cert_rules.AcceptsPlain.{IsRule, AreMultipliers}
use Rattle.cert_types.specs.cert_rules.AcceptsRank.{moves_of}
use Rattle.cert_types.specs.cert_rules.Limits.{IsInLimit}
use Rattle.cert_types.specs.cert_rules.Nodes.{RankNode}
use Rattle.cert_types.specs.cert_rules.Numbers.{IsAscending}
use Rattle.cert_types.specs.cert_rules.Setting.{Setting}

-- the symbol of a form
abbrev pub symbol_in : Form → ℕ
symbol_in f = (form_of f).symbol

-- the set ascends, has only numbers of rules and holds the rule
pub record IsRankSet (p : Program) (node : RankNode) : Type 0 where
  pub ascending : IsAscending node.set
  pub rules : AllByRecursion (IsRule p) node.set
  pub inside : is_in node.rule node.set ≡ true

-- there are multipliers for the rows of each rule of a set
pub record HasMoves (s : Setting) (set : List ℕ) (moves : List (List ℕ)) : Type 0 where
  pub long : length moves ≡ length set
  pub each : AllByRecursion (λ t. AreMultipliers s t (moves_of set moves t)) set

-- the denominator is at least 1 and within the limit, and there are multipliers for each rule of the set and for the
-- floor
pub record HasRankNumbers (s : Setting) (node : RankNode) : Type 0 where
  pub den : 1 ≤ node.den
  pub den_limit : IsInLimit node.den
  pub moves : HasMoves s node.set node.moves
  pub floor : AreMultipliers s node.rule node.floor
