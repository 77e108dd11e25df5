-- A comparison that can be expanded with limited exponents has no exponent over the limit.
use Rattle.std.proofs.Common.{◌≡◌, Option, Some, None, refl, sym, ◌∙◌}
use Rattle.std.specs.Prelude.{pos}
use Rattle.expr_text.specs.TermGrammarStates.{limited}
use Rattle.expr_text.proofs.LimitedFaults.{limited_fault, limited_itself}
use Rattle.while_text.specs.poly_terms.Faults.{Fault, LargeCoefficient, ManyTerms, HighDegree, or_else, first_fault}
use Rattle.while_text.specs.model.Programs as plain
use Rattle.while_text.specs.model.Programs.{Relation, AtLeast, MoreThan, AtMost, LessThan, EqualTo}
use Rattle.while_text.specs.model.Terms.{Term, Literal, Subtraction}
use Rattle.while_text.specs.Faults.{kind_in, lesser, fault_of_atom, fault_of_forms}
use Rattle.while_text.proofs.ReadableDrafts.{kind_none}

-- An expression that can be expanded with limited exponents has no exponent over the limit.
pub unlimited : (t : Term) → first_fault (limited t) ≡ None → limited t ≡ t
unlimited t h = limited_itself t (sym (limited_fault t) ∙ h)

-- If neither of two faults is chosen, the first is absent.
first_none : (a b : Option Fault) → or_else a b ≡ None → a ≡ None
first_none None b h = refl
first_none (Some fault) b h = cc

lesser_first : (a b : Option Fault) → lesser a b ≡ None → a ≡ None
lesser_first None b h = refl
lesser_first (Some fault) None h = cc
lesser_first (Some LargeCoefficient) (Some other) h = cc
lesser_first (Some ManyTerms) (Some LargeCoefficient) h = cc
lesser_first (Some ManyTerms) (Some ManyTerms) h = cc
lesser_first (Some ManyTerms) (Some HighDegree) h = cc
lesser_first (Some HighDegree) (Some other) h = cc

-- Both sides of a difference whose exponents needn't be limited have exponents within the limit.
sides : (l r : Term) → Subtraction (limited l) (limited r) ≡ Subtraction l r → (limited l ≡ l) × (limited r ≡ r)
sides l r e = (cc, cc)

strict_sides : (l r : Term) → Subtraction (Subtraction (limited l) (limited r)) (Literal (pos 1))
    ≡ Subtraction (Subtraction l r) (Literal (pos 1)) → (limited l ≡ l) × (limited r ≡ r)
strict_sides l r e = sides l r (inner e)
  where
    inner : Subtraction (Subtraction (limited l) (limited r)) (Literal (pos 1))
        ≡ Subtraction (Subtraction l r) (Literal (pos 1)) → Subtraction (limited l) (limited r) ≡ Subtraction l r
    inner d = cc

pub unlimited_sides : (l r : Term) (relation : Relation)
    → kind_in (fault_of_forms (plain.Compare (limited l) relation (limited r))) ≡ None
    → (limited l ≡ l) × (limited r ≡ r)
unlimited_sides l r relation h =
    go relation (lesser_first (fault_of_atom (plain.Compare (limited l) relation (limited r))) _ (kind_none _ h))
  where
    other_way : (limited r ≡ r) × (limited l ≡ l) → (limited l ≡ l) × (limited r ≡ r)
    other_way (a, b) = (b, a)

    go : (x : Relation) → fault_of_atom (plain.Compare (limited l) x (limited r)) ≡ None
        → (limited l ≡ l) × (limited r ≡ r)
    go AtLeast k = sides l r (unlimited (Subtraction l r) (first_none _ _ k))
    go MoreThan k =
        strict_sides l r (unlimited (Subtraction (Subtraction l r) (Literal (pos 1))) (first_none _ _ k))
    go AtMost k = other_way (sides r l (unlimited (Subtraction r l) (first_none _ _ k)))
    go LessThan k =
        other_way (strict_sides r l (unlimited (Subtraction (Subtraction r l) (Literal (pos 1))) (first_none _ _ k)))
    go EqualTo k = sides l r (unlimited (Subtraction l r) (first_none _ _ k))
