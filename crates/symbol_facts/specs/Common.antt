-- The facts that all copies of a symbol have: a fact at all copies of a symbol holds there.
use Rattle.std.specs.Cmp.Lexicographic.{pointwise}
use Rattle.std.specs.Ordering.{int_eq}
use Rattle.std.specs.Int.{int_min, int_max}
use Rattle.std.specs.Prelude.{ℕ, suc, List, [], ◌∷◌, ◌++◌, map, filter, fold, nat_eq, ℤ, pos, neg_ℤ}
use Rattle.std.specs.Prelude.{Bool, if◌then◌else◌, Option, Some, None}
use Rattle.model.specs.Polynomials.{Polynomial}
use Rattle.model.specs.Programs.{Symbol, Program}
use Rattle.refined_programs.specs.its_model.linear_forms.Forms.{Form}
use Rattle.refined_programs.specs.Annotated.{Copy, Section}
use Rattle.symbol_facts.specs.Facts.{SymbolFact}

-- two lists of coefficients are the same
abbrev pub are_same : List ℤ → List ℤ → Bool
are_same = pointwise int_eq

-- facts with one more: of two with the same coefficients the one with the lesser constant says more and is left, and a
-- fact with other coefficients comes last
abbrev pub with_fact : List Form → Form → List Form
with_fact [] f = f ∷ []
with_fact (g ∷ facts) f =
    if are_same f.coefs g.coefs then record { coefs = g.coefs; constant = int_min f.constant g.constant } ∷ facts
    else g ∷ with_fact facts f

-- the strongest of facts: each list of coefficients once, in the order in which they come
abbrev pub strongest : List Form → List Form
strongest facts = fold with_fact [] facts

-- the constant of the first fact with these coefficients, if there is one
abbrev pub constant_of : List ℤ → List Form → Option ℤ
constant_of coefs [] = None
constant_of coefs (f ∷ facts) = if are_same coefs f.coefs then Some f.constant else constant_of coefs facts

-- the weaker of a fact and one with this constant, if there is one
abbrev pub weaker : Form → Option ℤ → List Form
weaker f None = []
weaker f (Some constant) = record { coefs = f.coefs; constant = int_max f.constant constant } ∷ []

-- the join of two lists of facts, which holds wherever either does: of two facts with the same coefficients the weaker
-- one
abbrev pub join_facts : List Form → List Form → List Form
join_facts [] others = []
join_facts (f ∷ facts) others = weaker f (constant_of f.coefs others) ++ join_facts facts others

-- the join of facts with those of each copy, in order
abbrev pub join_at_copies : List Form → List Copy → List Form
join_at_copies facts [] = facts
join_at_copies facts (c ∷ copies) = join_at_copies (join_facts facts (strongest c.facts)) copies

-- what holds at each of some copies
abbrev pub common : List Copy → List Form
common [] = []
common (c ∷ copies) = join_at_copies (strongest c.facts) copies

-- the copies of a symbol, in order
abbrev pub copies_of : ℕ → List Copy → List Copy
copies_of symbol copies = filter (λ c. nat_eq c.over symbol) copies

-- coefficients that aren't 0, each with its variable, of which the first has number i
abbrev pub summand : ℕ → ℤ → Polynomial
summand i a = if int_eq a (pos 0) then [] else record { coef = a; vars = i ∷ [] } ∷ []

abbrev pub summands : ℕ → List ℤ → Polynomial
summands i [] = []
summands i (a ∷ coefs) = summand i a ++ summands (suc i) coefs

-- the fact at a symbol that a form is at least 0 there: what isn't constant is at least the negation of the constant
abbrev pub fact_at : ℕ → Form → SymbolFact
fact_at symbol f = record { symbol = symbol; form = summands 0 f.coefs; least = neg_ℤ f.constant }

-- the facts at symbols, the first of which has number s: those that all copies have
abbrev pub facts_at : List Copy → ℕ → List Symbol → List SymbolFact
facts_at copies s [] = []
facts_at copies s (symbol ∷ symbols) =
    map (fact_at s) (common (copies_of s copies)) ++ facts_at copies (suc s) symbols

-- the facts at the symbols of a program by a section, in order
abbrev pub symbol_facts : Program → Section → List SymbolFact
symbol_facts p s = facts_at s.copies 0 p.symbols
