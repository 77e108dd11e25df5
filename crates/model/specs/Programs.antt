-- Integer transition systems as plain data: symbols, rules and guards.
use Rattle.std.specs.Prelude.{◌≡◌, ℕ, zero, suc, List, ℤ, ◌≤ℤ◌, ◌<ℤ◌, Option, Some, None, slice_get, ⊤}
use Rattle.std.specs.List.{All}
use Rattle.model.specs.Terms.{Term, value}

-- a name, as its bytes
abbrev pub Name : Type 0
Name = List ℕ

-- the five relations of a guard
pub data Relation : Type 0 where
  AtLeast : Relation
  MoreThan : Relation
  AtMost : Relation
  LessThan : Relation
  EqualTo : Relation

-- an atom of a guard: the one that always holds, or a comparison of two expressions
pub data Atom : Type 0 where
  Always : Atom
  Compare : Term → Relation → Term → Atom

-- a function symbol, with the number of its places
pub record Symbol : Type 0 where
  pub name : Name
  pub arity : ℕ

-- a rule: its source and target by number, how many left and free variables it has, the names of all these (those of
-- the left ones first), an update for each place of the target, the atoms of the guard, and the cost if one is written
pub record Rule : Type 0 where
  pub source : ℕ
  pub target : ℕ
  pub left : ℕ
  pub free : ℕ
  pub names : List Name
  pub updates : List Term
  pub guard : List Atom
  pub cost : Option Term

-- a program: its symbols, the start symbol, the names of the start arguments, and the rules
pub record Program : Type 0 where
  pub symbols : List Symbol
  pub start : ℕ
  pub start_names : List Name
  pub rules : List Rule

-- the rule with a number; rules are numbered from 1, and no rule has the number 0
abbrev pub rule_at : Program → ℕ → Option Rule
rule_at p zero = None
rule_at p (suc t) = slice_get p.rules t

-- the number of places of a symbol; 0 if there is none
abbrev pub arity_in : Option Symbol → ℕ
arity_in None = 0
arity_in (Some s) = s.arity

-- the number of places of the symbol with a number
abbrev pub arity_of : Program → ℕ → ℕ
arity_of p s = arity_in (slice_get p.symbols s)

-- the relation holds of two integers
abbrev pub Related : Relation → ℤ → ℤ → Type 0
Related AtLeast x y = y ≤ℤ x
Related MoreThan x y = y <ℤ x
Related AtMost x y = x ≤ℤ y
Related LessThan x y = x <ℤ y
Related EqualTo x y = x ≡ y

-- an atom holds at these values of the rule's variables
abbrev pub AtomHolds : List ℤ → Atom → Type 0
AtomHolds env Always = ⊤
AtomHolds env (Compare d r e) = Related r (value d env) (value e env)

-- every atom of a guard holds
abbrev pub GuardHolds : List ℤ → List Atom → Type 0
GuardHolds env atoms = All (AtomHolds env) atoms
