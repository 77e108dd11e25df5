-- The tokens of a class, and the class of a token.
use Rattle.std.proofs.Common.{◌≡◌, ℕ, if◌then◌else◌, List, Option, Some, None, refl, ap, arith}
use Rattle.std.specs.Prelude.{codes}
use Rattle.text_core.specs.Names.{is_same}
use Rattle.expr_text.specs.Pieces as programs
use Rattle.expr_text.specs.Pieces.{Word, Digits, Open, Close, Plus, Minus, Times, Caret, Related, Joining, Sign}
use Rattle.expr_text.specs.Pieces.{AtLeastSign, MoreThanSign, AtMostSign, LessThanSign, EqualSign, DoubleEqualSign}
use Rattle.expr_text.specs.Pieces.{Joint, Ampersands, Wedge}
use Rattle.expr_text.specs.Guards.{Truth, Capitals, Smalls}
use Rattle.while_text.specs.declared.piece.Sort.{Sort}
use Rattle.while_text.specs.declared.piece.Sort.TheVariants as sorts
use Rattle.while_text.specs.Grammar.{class_of_sort}
use Rattle.while_laws.specs.Spelled.{spelled_by, sign_by, joint_by, truth_by}

-- A token of a class is this token of programs' expressions.
pub name_spelled : (sort : Sort) (bytes : List ℕ) → class_of_sort sort ≡ 6 → spelled_by sort bytes ≡ Some (Word bytes)
name_spelled sorts.Name bytes h = refl
name_spelled sort bytes h = absurd (omega (arith, h))

pub number_spelled : (sort : Sort) (bytes : List ℕ) → class_of_sort sort ≡ 7
    → spelled_by sort bytes ≡ Some (Digits bytes)
number_spelled (sorts.Number n) bytes h = refl
number_spelled sort bytes h = absurd (omega (arith, h))

pub open_spelled : (sort : Sort) (bytes : List ℕ) → class_of_sort sort ≡ 12 → spelled_by sort bytes ≡ Some Open
open_spelled sorts.Open bytes h = refl
open_spelled sort bytes h = absurd (omega (arith, h))

pub close_spelled : (sort : Sort) (bytes : List ℕ) → class_of_sort sort ≡ 13 → spelled_by sort bytes ≡ Some Close
close_spelled sorts.Close bytes h = refl
close_spelled sort bytes h = absurd (omega (arith, h))

pub plus_spelled : (sort : Sort) (bytes : List ℕ) → class_of_sort sort ≡ 18 → spelled_by sort bytes ≡ Some Plus
plus_spelled sorts.Plus bytes h = refl
plus_spelled sort bytes h = absurd (omega (arith, h))

pub minus_spelled : (sort : Sort) (bytes : List ℕ) → class_of_sort sort ≡ 19 → spelled_by sort bytes ≡ Some Minus
minus_spelled sorts.Minus bytes h = refl
minus_spelled sort bytes h = absurd (omega (arith, h))

pub times_spelled : (sort : Sort) (bytes : List ℕ) → class_of_sort sort ≡ 20 → spelled_by sort bytes ≡ Some Times
times_spelled sorts.Times bytes h = refl
times_spelled sort bytes h = absurd (omega (arith, h))

pub caret_spelled : (sort : Sort) (bytes : List ℕ) → class_of_sort sort ≡ 21 → spelled_by sort bytes ≡ Some Caret
caret_spelled sorts.Caret bytes h = refl
caret_spelled sort bytes h = absurd (omega (arith, h))

-- Each relation has a sign, each token of the class of `&&` is a sign between atoms, and `TRUE` is the word of the atom
-- that always holds.
pub relation_signed : (sort : Sort) (bytes : List ℕ) → class_of_sort sort ≡ 17
    → (sign : Sign) × (sign_by sort bytes ≡ Some sign)
relation_signed sorts.AtLeast bytes h = (AtLeastSign, refl)
relation_signed sorts.MoreThan bytes h = (MoreThanSign, refl)
relation_signed sorts.AtMost bytes h = (AtMostSign, refl)
relation_signed sorts.LessThan bytes h = (LessThanSign, refl)
relation_signed sorts.Equal bytes h = ((if is_same bytes (codes "==") then DoubleEqualSign else EqualSign), refl)
relation_signed sort bytes h = absurd (omega (arith, h))

pub joint_signed : (sort : Sort) (bytes : List ℕ) → class_of_sort sort ≡ 16
    → (joint : Joint) × (joint_by sort bytes ≡ Some joint)
joint_signed sorts.Joint bytes h = ((if is_same bytes (codes "&&") then Ampersands else Wedge), refl)
joint_signed sort bytes h = absurd (omega (arith, h))

pub truth_worded : (sort : Sort) (bytes : List ℕ) → class_of_sort sort ≡ 5
    → (truth : Truth) × (truth_by sort bytes ≡ Some truth)
truth_worded sorts.Truth bytes h = ((if is_same bytes (codes "TRUE") then Capitals else Smalls), refl)
truth_worded sort bytes h = absurd (omega (arith, h))

-- The class of a token of programs' expressions.
abbrev pub class_in : programs.Piece → ℕ
class_in (Word name) = 6
class_in (Digits digits) = 7
class_in Open = 12
class_in Close = 13
class_in (Joining joint) = 16
class_in (Related sign) = 17
class_in Plus = 18
class_in Minus = 19
class_in Times = 20
class_in Caret = 21

abbrev class_or : Option programs.Piece → ℕ
class_or None = 0
class_or (Some q) = class_in q

pub spelled_class : (sort : Sort) (bytes : List ℕ) (q : programs.Piece) → spelled_by sort bytes ≡ Some q
    → class_of_sort sort ≡ class_in q
spelled_class sorts.Name bytes q e = ap class_or e
spelled_class (sorts.Number n) bytes q e = ap class_or e
spelled_class sorts.Open bytes q e = ap class_or e
spelled_class sorts.Close bytes q e = ap class_or e
spelled_class sorts.Plus bytes q e = ap class_or e
spelled_class sorts.Minus bytes q e = ap class_or e
spelled_class sorts.Times bytes q e = ap class_or e
spelled_class sorts.Caret bytes q e = ap class_or e
spelled_class sort bytes q e = cc

pub signed_class : (sort : Sort) (bytes : List ℕ) (sign : Sign) → sign_by sort bytes ≡ Some sign
    → class_of_sort sort ≡ 17
signed_class sorts.AtLeast bytes sign e = refl
signed_class sorts.MoreThan bytes sign e = refl
signed_class sorts.AtMost bytes sign e = refl
signed_class sorts.LessThan bytes sign e = refl
signed_class sorts.Equal bytes sign e = refl
signed_class sort bytes sign e = cc

pub joint_class : (sort : Sort) (bytes : List ℕ) (joint : Joint) → joint_by sort bytes ≡ Some joint
    → class_of_sort sort ≡ 16
joint_class sorts.Joint bytes joint e = refl
joint_class sort bytes joint e = cc

pub truth_class : (sort : Sort) (bytes : List ℕ) (truth : Truth) → truth_by sort bytes ≡ Some truth
    → class_of_sort sort ≡ 5
truth_class sorts.Truth bytes truth e = refl
truth_class sort bytes truth e = cc
