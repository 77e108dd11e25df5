-- The texts of bounds.
use Rattle.std.specs.Prelude.{ℕ, List, [], ◌∷◌, ◌++◌, map, codes, decimal}
use Rattle.signed_bounds.specs.Bounds.{Signed, Constant, PositivePart, SumOf, ProductOf, MaximumOf, MinimumOf, Quotient}
use Rattle.signed_bounds.specs.Bounds.{Root, PowerOf, SignedParts, NoParts, Part}
use Rattle.section_writer.specs.Lists.{each_behind}
use Rattle.potential_writer.specs.Parts.{poly_text}

-- the text of a bound, that of each of its parts behind a semicolon and a blank, and that of its parts with these between
-- them
abbrev mutual
  pub bound_text : Signed → List ℕ
  bound_text (Constant c) = decimal c
  bound_text (PositivePart p) = codes "part " ++ poly_text p
  bound_text (SumOf bs) = codes "sum (" ++ (parts_text bs ++ codes ")")
  bound_text (ProductOf bs) = codes "product (" ++ (parts_text bs ++ codes ")")
  bound_text (MaximumOf bs) = codes "maximum (" ++ (parts_text bs ++ codes ")")
  bound_text (MinimumOf b bs) = codes "minimum (" ++ (bound_text b ++ (more_parts_text bs ++ codes ")"))
  bound_text (Quotient b d) = codes "quotient (" ++ (bound_text b ++ (codes ") by " ++ decimal d))
  bound_text (Root b) = codes "root (" ++ (bound_text b ++ codes ")")
  bound_text (PowerOf c e) = codes "power " ++ (decimal c ++ (codes " to (" ++ (bound_text e ++ codes ")")))

  pub more_parts_text : SignedParts → List ℕ
  more_parts_text NoParts = []
  more_parts_text (Part b bs) = codes "; " ++ (bound_text b ++ more_parts_text bs)

  pub parts_text : SignedParts → List ℕ
  parts_text NoParts = []
  parts_text (Part b bs) = bound_text b ++ more_parts_text bs
