-- Signed bounds of the code as plain expressions, of which contracts speak.
use Rattle.std.specs.Prelude.{List, [], ◌∷◌, map}
use Rattle.poly_terms.specs.Views.{poly_of}
use Rattle.signed_bounds.specs.Bounds as plain
use Rattle.signed_bounds.specs.Bounds.{Constant, PositivePart, SumOf, ProductOf, MaximumOf, MinimumOf, PowerOf}
use Rattle.signed_bounds.specs.Bounds.{SignedParts, NoParts}
use Rattle.signed_bounds.specs.declared.signed.Signed.{Signed}
use Rattle.signed_bounds.specs.declared.signed.Signed.TheOpen.{Signed-F, Const, Part, Sum, Prod, Max, Min, Quotient, Root}
use Rattle.signed_bounds.specs.declared.signed.Signed.TheOpen.{Power}
use Rattle.signed_bounds.specs.declared.signed.Signed.TheFolds.{fold-Signed}

-- a list of expressions as the parts of a sum, a product, a maximum or a minimum
abbrev pub parts_of : List plain.Signed → SignedParts
parts_of [] = NoParts
parts_of (b ∷ bs) = plain.Part b (parts_of bs)

-- the parts with one more part at the end
abbrev pub with_part : SignedParts → plain.Signed → SignedParts
with_part NoParts b = plain.Part b NoParts
with_part (plain.Part c cs) b = plain.Part c (with_part cs b)

-- the expression of one node, given the expressions of its parts
abbrev pub signed_step : Signed-F plain.Signed → plain.Signed
signed_step (Const c) = Constant c
signed_step (Part p) = PositivePart (poly_of p)
signed_step (Sum bs) = SumOf (parts_of bs.items)
signed_step (Prod bs) = ProductOf (parts_of bs.items)
signed_step (Max bs) = MaximumOf (parts_of bs.items)
signed_step (Min b bs) = MinimumOf b.value (parts_of bs.items)
signed_step (Quotient b d) = plain.Quotient b.value d
signed_step (Root b) = plain.Root b.value
signed_step (Power c e) = PowerOf c e.value

-- the plain expression of a signed bound of the code
abbrev pub signed_of : Signed → plain.Signed
signed_of = fold-Signed plain.Signed signed_step

-- the plain expressions of a list of signed bounds
abbrev pub signeds_of : List Signed → List plain.Signed
signeds_of bs = map signed_of bs
