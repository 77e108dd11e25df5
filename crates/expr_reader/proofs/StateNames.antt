-- The names of a state are among the variables after it: later names change none of its terms.
use Rattle.std.proofs.Common.{◌≡◌, ℕ, zero, suc, List, [], ◌∷◌, ◌++◌, refl, ap, sym, subst, map}
use Rattle.std.specs.Prelude.{⊤}
use Rattle.model.specs.Programs.{Name}
use Rattle.expr_text.specs.Trees.{Alone, Single, Factor, Plain, Negated}
use Rattle.expr_text.specs.Terms.{with_sum, with_product, with_factor}
use Rattle.expr_text.specs.GrammarStates.{Summed, NoSum, PlusAfter, MinusAfter, Factored, NoProduct, TimesAfter, Level}
use Rattle.expr_text.specs.GrammarStates.{Operand, Wanted, BaseRead, CaretRead, ExponentRead, GrammarState, negated, product_with}
use Rattle.expr_text.specs.GrammarStates.{sum_with, product_made, sum_made}
use Rattle.expr_text.specs.StateNames.{with_summed, with_factored, with_level, with_outer, with_operand, names_with_state}
use Rattle.expr_text.specs.TermGrammarStates as terms
use Rattle.expr_text.specs.TermGrammarStates.{limited, summed_terms, factored_terms, level_terms}
use Rattle.expr_text.proofs.Stability.{extended, sum_extends, SumReads, sum_reads_more, sum_is_read, sum_term_stays}
use Rattle.expr_text.proofs.NamesRead.{Extends, extends_self}

-- the names of each part are among these
abbrev pub SummedReads : List Name → Summed → Type 0
SummedReads names NoSum = ⊤
SummedReads names (PlusAfter s) = SumReads names s
SummedReads names (MinusAfter s) = SumReads names s

abbrev pub FactoredReads : List Name → Factored → Type 0
FactoredReads names NoProduct = ⊤
FactoredReads names (TimesAfter p) = SumReads names (Alone p)

abbrev pub LevelReads : List Name → Level → Type 0
LevelReads names l = SummedReads names l.sum × FactoredReads names l.product

abbrev pub OuterReads : List Name → List Level → Type 0
OuterReads names [] = ⊤
OuterReads names (l ∷ outer) = OuterReads names outer × LevelReads names l

-- if the names of each part are among some, they are among any extension of these
summed_more : (names more : List Name) (s : Summed) → SummedReads names s → SummedReads (names ++ more) s
summed_more names more NoSum h = tt
summed_more names more (PlusAfter s) h = sum_reads_more names more s h
summed_more names more (MinusAfter s) h = sum_reads_more names more s h

factored_more : (names more : List Name) (p : Factored) → FactoredReads names p → FactoredReads (names ++ more) p
factored_more names more NoProduct h = tt
factored_more names more (TimesAfter p) h = sum_reads_more names more (Alone p) h

level_more : (names more : List Name) (l : Level) → LevelReads names l → LevelReads (names ++ more) l
level_more names more l h = (summed_more names more l.sum h.0, factored_more names more l.product h.1)

outer_more : (names more : List Name) (outer : List Level) → OuterReads names outer → OuterReads (names ++ more) outer
outer_more names more [] h = tt
outer_more names more (l ∷ outer) h = (outer_more names more outer h.0, level_more names more l h.1)

-- The variables known after each part extend those before it.
summed_extends : (names : List Name) (s : Summed) → Extends names (with_summed names s)
summed_extends names NoSum = extends_self names
summed_extends names (PlusAfter s) = sum_extends names s
summed_extends names (MinusAfter s) = sum_extends names s

factored_extends : (names : List Name) (p : Factored) → Extends names (with_factored names p)
factored_extends names NoProduct = extends_self names
factored_extends names (TimesAfter p) = sum_extends names (Alone p)

-- the variables known after a level extend those before it
pub level_extends : (names : List Name) (l : Level) → Extends names (with_level names l)
level_extends names l = extended names (with_summed names l.sum) (with_level names l) (summed_extends names l.sum) (factored_extends (with_summed names l.sum) l.product)

-- the variables known after the outer levels extend those before them
pub outer_extends : (names : List Name) (outer : List Level) → Extends names (with_outer names outer)
outer_extends names [] = extends_self names
outer_extends names (l ∷ outer) = extended names (with_outer names outer) (with_outer names (l ∷ outer)) (outer_extends names outer) (level_extends (with_outer names outer) l)

-- the variables known after an operand extend those before it
pub operand_extends : (names : List Name) (p : Operand) → Extends names (with_operand names p)
operand_extends names Wanted = extends_self names
operand_extends names (BaseRead b) = sum_extends names (Alone (Single (Plain b)))
operand_extends names (CaretRead b) = sum_extends names (Alone (Single (Plain b)))
operand_extends names (ExponentRead b ds) = sum_extends names (Alone (Single (Plain b)))

-- the variables known after a state extend those before it
pub state_extends : (names : List Name) (f : GrammarState) → Extends names (names_with_state names f)
state_extends names f =
    extended names (with_level (with_outer names f.outer) f.level) (names_with_state names f)
    (extended names (with_outer names f.outer) (with_level (with_outer names f.outer) f.level) (outer_extends names f.outer) (level_extends (with_outer names f.outer) f.level))
    (operand_extends (with_level (with_outer names f.outer) f.level) f.operand)

-- the names of each part are among the variables known once it is read
summed_is_read : (names : List Name) (s : Summed) → SummedReads (with_summed names s) s
summed_is_read names NoSum = tt
summed_is_read names (PlusAfter s) = sum_is_read names s
summed_is_read names (MinusAfter s) = sum_is_read names s

factored_is_read : (names : List Name) (p : Factored) → FactoredReads (with_factored names p) p
factored_is_read names NoProduct = tt
factored_is_read names (TimesAfter p) = sum_is_read names (Alone p)

-- the names of a level are among the variables known once it is read
pub level_is_read : (names : List Name) (l : Level) → LevelReads (with_level names l) l
level_is_read names l =
    let e = factored_extends (with_summed names l.sum) l.product in
    (subst (λ ns. SummedReads ns l.sum) (sym e.1) (summed_more (with_summed names l.sum) e.0 l.sum (summed_is_read names l.sum)), factored_is_read (with_summed names l.sum) l.product)

-- if the names of the outer levels are among some, they are among any extension of these
pub outer_along : (names more : List Name) (outer : List Level) → Extends names more → OuterReads names outer → OuterReads more outer
outer_along names more outer e h = subst (λ ns. OuterReads ns outer) (sym e.1) (outer_more names e.0 outer h)

-- if the names of a level are among some, they are among any extension of these
pub level_along : (names more : List Name) (l : Level) → Extends names more → LevelReads names l → LevelReads more l
level_along names more l e h = subst (λ ns. LevelReads ns l) (sym e.1) (level_more names e.0 l h)

-- the names of the outer levels are among the variables known once they are read
pub outer_is_read : (names : List Name) (outer : List Level) → OuterReads (with_outer names outer) outer
outer_is_read names [] = tt
outer_is_read names (l ∷ outer) =
    (outer_along (with_outer names outer) (with_outer names (l ∷ outer)) outer (level_extends (with_outer names outer) l) (outer_is_read names outer), level_is_read (with_outer names outer) l)

-- the terms of each part are the same over an extension of its names
summed_stay : (names more : List Name) (s : Summed) → SummedReads names s → summed_terms (names ++ more) s ≡ summed_terms names s
summed_stay names more NoSum h = refl
summed_stay names more (PlusAfter s) h = ap (λ t. terms.PlusAfter (limited t)) (sum_term_stays names more s h)
summed_stay names more (MinusAfter s) h = ap (λ t. terms.MinusAfter (limited t)) (sum_term_stays names more s h)

factored_stay : (names more : List Name) (p : Factored) → FactoredReads names p → factored_terms (names ++ more) p ≡ factored_terms names p
factored_stay names more NoProduct h = refl
factored_stay names more (TimesAfter p) h = ap (λ t. terms.TimesAfter (limited t)) (sum_term_stays names more (Alone p) h)

-- the terms of a level are the same over an extension of its names
pub level_stays : (names more : List Name) (l : Level) → LevelReads names l → level_terms (names ++ more) l ≡ level_terms names l
level_stays names more l h = rw (summed_stay names more l.sum h.0, factored_stay names more l.product h.1) refl

-- the terms of the outer levels are the same over an extension of their names
pub outer_stays : (names more : List Name) (outer : List Level) → OuterReads names outer → map (level_terms (names ++ more)) outer ≡ map (level_terms names) outer
outer_stays names more [] h = refl
outer_stays names more (l ∷ outer) h = rw (level_stays names more l h.1, outer_stays names more outer h.0) refl

-- `-` signs change neither the variables after a factor, nor those after its product and after its sum
negated_names : (names : List Name) (n : ℕ) (f : Factor) → with_factor names (negated n f) ≡ with_factor names f
negated_names names zero f = refl
negated_names names (suc n) f = negated_names names n (Negated f)

-- the variables of a product with one more factor are those read before the factor, and then the factor's own
pub product_names : (names : List Name) (p : Factored) (n : ℕ) (f : Factor) → with_product names (product_with p (negated n f)) ≡ with_factor (with_factored names p) f
product_names names NoProduct n f = negated_names names n f
product_names names (TimesAfter p) n f = negated_names (with_product names p) n f

-- the variables of a sum with one more factor are those of the level before it, and then the factor's own
pub sum_names : (names : List Name) (l : Level) (f : Factor) → with_sum names (sum_made l f) ≡ with_factor (with_level names l) f
sum_names names l f = go l.sum
  where
    go : (s : Summed) → with_sum names (sum_with s (product_made l f)) ≡ with_factor (with_factored (with_summed names s) l.product) f
    go NoSum = product_names names l.product l.minuses f
    go (PlusAfter s) = product_names (with_sum names s) l.product l.minuses f
    go (MinusAfter s) = product_names (with_sum names s) l.product l.minuses f
