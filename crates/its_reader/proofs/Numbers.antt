-- The numbers of symbols and variables are unchanged when more are read.
use Rattle.std.specs.Prelude.{◌≡◌, ℕ, true, List, [], ◌∷◌, ◌++◌, map, length, Option, Some, None, option_map, refl}
use Rattle.std.proofs.Common.{sym, ap, ◌∙◌, append-nil}
use Rattle.model.specs.Programs.{Name, Symbol}
use Rattle.text_core.specs.Names.{is_among, position_of}
use Rattle.its_text.specs.expr_text.Trees.{Sum}
use Rattle.its_text.specs.expr_text.Terms.{with_sum, sum_term}
use Rattle.its_text.specs.expr_text.TermGrammarStates.{limited}
use Rattle.its_text.proofs.expr_text.Stability.{extended, sum_extends, name_extends, sum_is_read, sum_term_stays}
use Rattle.its_text.proofs.expr_text.Stability.{position_stays}
use Rattle.its_text.proofs.expr_text.Stability.{among_with, among_more}
use Rattle.its_text.specs.Written.{WrittenRule}
use Rattle.its_text.specs.Numbering.{names_of, with_symbol, with_left, symbols_of, number_of, with_sums, sums_terms}
use Rattle.its_text.specs.Numbering.{term_in, rule_numbered, rules_numbered, with_cost, cost_term}
use Rattle.its_reader.specs.Standing.{updates_of, cost_of, limited_rule, rules_so_far}
use Rattle.its_reader.proofs.SymbolTables.{names_with}

-- a list continues others
abbrev pub GoesOn : List Name → List Name → Type 0
GoesOn names more = (new : List Name) × (more ≡ names ++ new)

-- a mapped list with one more element
pub map-push : {X Y : Type 0} (f : X → Y) (xs : List X) (x : X) → map f (xs ++ x ∷ []) ≡ map f xs ++ f x ∷ []
map-push f [] x = refl
map-push f (y ∷ xs) x = ap (λ ys. f y ∷ ys) (map-push f xs x)

-- numbering the right arguments by all variables of the rule gives the same as numbering each by those known once it is
-- read
pub updates_stay : (names : List Name) (arguments : List Sum) (all : List Name) → GoesOn (with_sums names arguments) all
    → map limited (sums_terms all arguments) ≡ updates_of names arguments
updates_stay names [] all h = refl
updates_stay names (s ∷ earlier) all h =
    map-push limited (sums_terms all earlier) (sum_term all s)
    ∙ (ap (λ ts. ts ++ limited (sum_term all s) ∷ [])
    (updates_stay names earlier all
    (extended (with_sums names earlier) (with_sums names (s ∷ earlier)) all
    (sum_extends (with_sums names earlier) s) h))
    ∙ ap (λ t. updates_of names earlier ++ limited t ∷ [])
    (ap (λ ns. sum_term ns s) h.1 ∙ sum_term_stays (with_sums names (s ∷ earlier)) h.0 s
    (sum_is_read (with_sums names earlier) s)))

-- the variables known after a cost continue those known before it
pub cost_goes_on : (names : List Name) (cost : Option Sum) → GoesOn names (with_cost names cost)
cost_goes_on names None = ([], sym (append-nil names))
cost_goes_on names (Some c) = sum_extends names c

-- numbering the cost by all variables of the rule gives the same as numbering it by those known once it is read
pub cost_stays : (names : List Name) (cost : Option Sum) (all : List Name) → GoesOn (with_cost names cost) all
    → option_map limited (cost_term all cost) ≡ cost_of names cost
cost_stays names None all h = refl
cost_stays names (Some c) all h = ap (λ t. Some (limited t))
    (ap (λ ns. sum_term ns c) h.1 ∙ sum_term_stays (with_sum names c) h.0 c (sum_is_read names c))

-- the symbols known after a term continue those known before it
pub symbol_goes_on : (symbols : List Symbol) (name : Name) (arity : ℕ)
    → GoesOn (names_of symbols) (names_of (with_symbol symbols name arity))
symbol_goes_on symbols name arity = let e = name_extends (names_of symbols) name in
    (e.0, sym (names_with symbols name arity) ∙ e.1)

-- the name of a symbol is among those of all symbols once it is read
pub symbol_among : (symbols : List Symbol) (name : Name) (arity : ℕ)
    → is_among name (names_of (with_symbol symbols name arity)) ≡ true
symbol_among symbols name arity = ap (is_among name) (sym (names_with symbols name arity))
    ∙ among_with name (names_of symbols)

-- the number of a name is unchanged in a list that continues the names
number_stays_on : (name : Name) (names all : List Name) → is_among name names ≡ true → GoesOn names all
    → position_of name all ≡ position_of name names
number_stays_on name names all h g = ap (position_of name) g.1 ∙ position_stays name names g.0 h

-- a name that is among names is among any that continue them
pub among_stays_on : (name : Name) (names all : List Name) → is_among name names ≡ true → GoesOn names all
    → is_among name all ≡ true
among_stays_on name names all h g = ap (is_among name) g.1 ∙ among_more name names g.0 h

-- numbering a rule by all symbols gives the same as numbering it by those known so far
rule_stays : (r : WrittenRule) (symbols all : List Symbol) → is_among r.left.name (names_of symbols) ≡ true
    → is_among (term_in r.target).name (names_of symbols) ≡ true → GoesOn (names_of symbols) (names_of all)
    → rule_numbered all r ≡ rule_numbered symbols r
rule_stays r symbols all a b g = λ i. record (rule_numbered symbols r) {
  source = number_stays_on r.left.name (names_of symbols) (names_of all) a g i;
  target = number_stays_on (term_in r.target).name (names_of symbols) (names_of all) b g i;
}

-- numbering rules by all symbols gives the same as numbering each by those known once it is read
pub rules_stay : (rules : List WrittenRule) (all : List Symbol) → GoesOn (names_of (symbols_of rules)) (names_of all)
    → map limited_rule (rules_numbered all rules) ≡ rules_so_far rules
rules_stay [] all h = refl
rules_stay (r ∷ earlier) all h =
    map-push limited_rule (rules_numbered all earlier) (rule_numbered all r)
    ∙ (ap (λ rs. rs ++ limited_rule (rule_numbered all r) ∷ []) (rules_stay earlier all
    (extended (names_of (symbols_of earlier)) (names_of (with_left (symbols_of earlier) r.left)) (names_of all) left
    (extended (names_of (with_left (symbols_of earlier) r.left)) (names_of (symbols_of (r ∷ earlier))) (names_of all)
    right h)))
    ∙ ap (λ q. rules_so_far earlier ++ limited_rule q ∷ [])
    (rule_stays r (symbols_of (r ∷ earlier)) all source target h))
  where
    left : GoesOn (names_of (symbols_of earlier)) (names_of (with_left (symbols_of earlier) r.left))
    left = symbol_goes_on (symbols_of earlier) r.left.name (length r.left.arguments)

    right : GoesOn (names_of (with_left (symbols_of earlier) r.left)) (names_of (symbols_of (r ∷ earlier)))
    right = symbol_goes_on (with_left (symbols_of earlier) r.left) (term_in r.target).name
        (length (term_in r.target).arguments)

    source : is_among r.left.name (names_of (symbols_of (r ∷ earlier))) ≡ true
    source = among_stays_on r.left.name (names_of (with_left (symbols_of earlier) r.left))
        (names_of (symbols_of (r ∷ earlier))) (symbol_among (symbols_of earlier) r.left.name (length r.left.arguments))
        right

    target : is_among (term_in r.target).name (names_of (symbols_of (r ∷ earlier))) ≡ true
    target = symbol_among (with_left (symbols_of earlier) r.left) (term_in r.target).name
        (length (term_in r.target).arguments)

-- the number of a source is unchanged when the target is read
pub source_stays : (r : WrittenRule) (earlier : List WrittenRule)
    → number_of (with_left (symbols_of earlier) r.left) r.left.name ≡ number_of (symbols_of (r ∷ earlier)) r.left.name
source_stays r earlier =
    sym (number_stays_on r.left.name (names_of (with_left (symbols_of earlier) r.left))
    (names_of (symbols_of (r ∷ earlier)))
    (symbol_among (symbols_of earlier) r.left.name (length r.left.arguments))
    (symbol_goes_on (with_left (symbols_of earlier) r.left) (term_in r.target).name
    (length (term_in r.target).arguments)))

-- the rules numbered so far are those of the program
pub rules_are_numbered : (rules : List WrittenRule) → map limited_rule (rules_numbered (symbols_of rules) rules)
    ≡ rules_so_far rules
rules_are_numbered rules = rules_stay rules (symbols_of rules) ([], sym (append-nil (names_of (symbols_of rules))))
