-- Which programs have a text: their names, numbers and literals are as reading gives them.
use Rattle.std.specs.Prelude.{◌≡◌, ℕ, suc, ◌+◌, ◌≤◌, ◌<◌, nat_lt, nat_eq, if◌then◌else◌, List, [], ◌∷◌, length, ℤ}
use Rattle.std.specs.Prelude.{◌++◌, pos, negsuc, Option, Some, None, IsFalse, ⊤}
use Rattle.std.specs.List.{AllByRecursion}
use Rattle.its_text.specs.expr_text.model.Programs.{Name, Atom, Always, Compare, Rule, Program, arity_of}
use Rattle.its_text.specs.expr_text.model.Terms.{Term, Literal, Variable, Negation, Addition, Subtraction}
use Rattle.its_text.specs.expr_text.model.Terms.{Multiplication, Exponentiation}
use Rattle.its_text.specs.expr_text.text_core.Names.{IsName, AreDistinct}
use Rattle.its_text.specs.Numbering.{is_com}
use Rattle.its_writer.specs.Expressions.{name_at}
use Rattle.its_writer.specs.Texts.{symbol_names, left_names}

-- how many items are known after item i occurs, if n were known before it
abbrev pub known_with : ℕ → ℕ → ℕ
known_with n i = if nat_lt i n then n else suc i

-- an integer that digits alone write: it isn't negative
abbrev pub IsNatural : ℤ → Type 0
IsNatural (pos n) = ⊤
IsNatural (negsuc n) = ⊥

-- how many variables are known after an expression, if n were known before it
abbrev pub known_behind : ℕ → Term → ℕ
known_behind n (Literal z) = n
known_behind n (Variable i) = known_with n i
known_behind n (Negation e) = known_behind n e
known_behind n (Addition d e) = known_behind (known_behind n d) e
known_behind n (Subtraction d e) = known_behind (known_behind n d) e
known_behind n (Multiplication d e) = known_behind (known_behind n d) e
known_behind n (Exponentiation e m) = known_behind n e

-- an expression that a text can spell: no literal is negative, and each variable is one of those known before it or the
-- next one
abbrev pub IsSpellableTerm : ℕ → Term → Type 0
IsSpellableTerm n (Literal z) = IsNatural z
IsSpellableTerm n (Variable i) = i ≤ n
IsSpellableTerm n (Negation e) = IsSpellableTerm n e
IsSpellableTerm n (Addition d e) = IsSpellableTerm n d × IsSpellableTerm (known_behind n d) e
IsSpellableTerm n (Subtraction d e) = IsSpellableTerm n d × IsSpellableTerm (known_behind n d) e
IsSpellableTerm n (Multiplication d e) = IsSpellableTerm n d × IsSpellableTerm (known_behind n d) e
IsSpellableTerm n (Exponentiation e m) = IsSpellableTerm n e

-- how many variables are known after these expressions, if n were known before them
abbrev pub known_behind_all : ℕ → List Term → ℕ
known_behind_all n [] = n
known_behind_all n (e ∷ es) = known_behind_all (known_behind n e) es

-- expressions that a text can spell in this order, each with the variables known before it
abbrev pub AreSpellable : ℕ → List Term → Type 0
AreSpellable n [] = ⊤
AreSpellable n (e ∷ es) = IsSpellableTerm n e × AreSpellable (known_behind n e) es

-- the expression of a cost, if there is one
abbrev pub terms_of_cost : Option Term → List Term
terms_of_cost None = []
terms_of_cost (Some c) = c ∷ []

-- the two sides of an atom, followed by these expressions
abbrev pub terms_before : Atom → List Term → List Term
terms_before Always terms = terms
terms_before (Compare d relation e) terms = d ∷ e ∷ terms

-- the expressions of a guard, in order
abbrev pub terms_of_guard : List Atom → List Term
terms_of_guard [] = []
terms_of_guard (a ∷ atoms) = terms_before a (terms_of_guard atoms)

-- the expressions of a rule in the order of its text: the cost, the updates and the guard
abbrev pub terms_of : Rule → List Term
terms_of r = terms_of_cost r.cost ++ (r.updates ++ terms_of_guard r.guard)

-- a rule that a text can spell: it has distinct names for its variables; both symbols have as many places as it has
-- arguments; the target isn't named `Com_` and digits; and its free variables are numbered in order of occurrence
pub record IsSpellableRule (p : Program) (r : Rule) : Type 0 where
  pub names : AllByRecursion IsName r.names
  pub distinct : AreDistinct r.names
  pub named : length r.names ≡ r.left + r.free
  pub source_arity : arity_of p r.source ≡ r.left
  pub target_arity : arity_of p r.target ≡ length r.updates
  pub target : IsFalse (is_com (name_at (symbol_names p) r.target))
  pub terms : AreSpellable r.left (terms_of r)
  pub known : known_behind_all r.left (terms_of r) ≡ r.left + r.free

-- how many symbols are known after these rules, if n were known before them
abbrev pub symbols_behind : ℕ → List Rule → ℕ
symbols_behind n [] = n
symbols_behind n (r ∷ rules) = symbols_behind (known_with (known_with n r.source) r.target) rules

-- symbols are numbered in order of occurrence: each is one of those known before it or the next one
abbrev pub AreInOrder : ℕ → List Rule → Type 0
AreInOrder n [] = ⊤
AreInOrder n (r ∷ rules) =
    (r.source ≤ n) × (r.target ≤ known_with n r.source)
    × AreInOrder (known_with (known_with n r.source) r.target) rules

-- the left names of the first rule that leaves a symbol
abbrev pub names_at : ℕ → List Rule → Option (List Name)
names_at start [] = None
names_at start (r ∷ rules) = if nat_eq start r.source then Some (left_names r) else names_at start rules

-- a program that a text can spell: its symbols have distinct names and are numbered in order of occurrence, its rules
-- can be spelled, and the start symbol has the names of the first rule that leaves it
pub record IsSpellable (p : Program) : Type 0 where
  pub names : AllByRecursion IsName (symbol_names p)
  pub distinct : AreDistinct (symbol_names p)
  pub order : AreInOrder 0 p.rules
  pub known : symbols_behind 0 p.rules ≡ length p.symbols
  pub rules : AllByRecursion (IsSpellableRule p) p.rules
  pub start : p.start < length p.symbols
  pub start_names : names_at p.start p.rules ≡ Some p.start_names
