-- Variables are numbered by their first occurrence: names that come later change no number.
use Rattle.std.specs.Prelude.{◌≡◌, Bool, true, false, ◌||◌, if◌then◌else◌, List, [], ◌∷◌, ◌++◌, ⊤, refl}
use Rattle.std.proofs.Common.{sym, ◌∙◌, ap, subst, append_assoc, append-nil}
use Rattle.its_model.specs.model.Programs.{Name}
use Rattle.its_model.specs.model.Terms.{Variable, Negation, Exponentiation}
use Rattle.its_model.specs.text_core.Names.{is_same, is_among, position_of}
use Rattle.its_model.proofs.text_core.NameLaws.{is_same_self}
use Rattle.expr_text.specs.Trees.{Sum, Alone, Added, Subtracted, Product, Single, Multiplied, Factor, Plain, Raised}
use Rattle.expr_text.specs.Trees.{Negated, Base, Number, Named, Bracketed}
use Rattle.expr_text.specs.Terms.{number_of, with_name, with_sum, with_product, with_factor, with_base, sum_term}
use Rattle.expr_text.specs.Terms.{product_term, factor_term, base_term}

-- a name among some names is among any extension of these
pub among_more : (n : Name) (names more : List Name) → is_among n names ≡ true → is_among n (names ++ more) ≡ true
among_more n [] more h = cc
among_more n (m ∷ names) more h = go (is_same n m) h (λ e. among_more n names more e)
  where
    go : (v : Bool) → v || is_among n names ≡ true → (is_among n names ≡ true → is_among n (names ++ more) ≡ true) → v || is_among n (names ++ more) ≡ true
    go true e others = refl
    go false e others = others e

-- a name keeps its position in an extension of the list
pub position_stays : (n : Name) (names more : List Name) → is_among n names ≡ true → position_of n (names ++ more) ≡ position_of n names
position_stays n [] more h = cc
position_stays n (m ∷ names) more h = go (is_same n m) refl h (λ e. position_stays n names more e)
  where
    go : (v : Bool) → is_same n m ≡ v → v || is_among n names ≡ true → (is_among n names ≡ true → position_of n (names ++ more) ≡ position_of n names)
        → position_of n (m ∷ (names ++ more)) ≡ position_of n (m ∷ names)
    go true e found others = rw e refl
    go false e found others = rw (e, others found) refl

-- a name is in the list to which it was appended
pub among_last : (n : Name) (names : List Name) → is_among n (names ++ n ∷ []) ≡ true
among_last n [] = rw (is_same_self n) refl
among_last n (m ∷ names) = go (is_same n m) (among_last n names)
  where
    go : (v : Bool) → is_among n (names ++ n ∷ []) ≡ true → v || is_among n (names ++ n ∷ []) ≡ true
    go true e = refl
    go false e = e

-- a name is among the variables known once it is read, whether it was new or not
pub among_with : (n : Name) (names : List Name) → is_among n (with_name names n) ≡ true
among_with n names = go (is_among n names) refl
  where
    go : (v : Bool) → is_among n names ≡ v → is_among n (if v then names else names ++ n ∷ []) ≡ true
    go true e = e
    go false e = among_last n names

-- The variables known after a name extend those before it.
pub name_extends : (names : List Name) (n : Name) → (new : List Name) × (with_name names n ≡ names ++ new)
name_extends names n = go (is_among n names)
  where
    go : (v : Bool) → (new : List Name) × ((if v then names else names ++ n ∷ []) ≡ names ++ new)
    go true = ([], sym (append-nil names))
    go false = (n ∷ [], refl)

-- an extension of an extension is an extension
pub extended : (names middle last : List Name) → (a : (new : List Name) × (middle ≡ names ++ new)) → (b : (new : List Name) × (last ≡ middle ++ new)) → (new : List Name) × (last ≡ names ++ new)
extended names middle last a b = (a.0 ++ b.0, b.1 ∙ (ap (λ ns. ns ++ b.0) a.1 ∙ append_assoc names a.0 b.0))

mutual
  -- the variables known after an expression extend those before it
  pub sum_extends : (names : List Name) (s : Sum) → (new : List Name) × (with_sum names s ≡ names ++ new)
  sum_extends names (Alone p) = product_extends names p
  sum_extends names (Added s p) = extended names (with_sum names s) (with_product (with_sum names s) p) (sum_extends names s) (product_extends (with_sum names s) p)
  sum_extends names (Subtracted s p) = extended names (with_sum names s) (with_product (with_sum names s) p) (sum_extends names s) (product_extends (with_sum names s) p)

  product_extends : (names : List Name) (p : Product) → (new : List Name) × (with_product names p ≡ names ++ new)
  product_extends names (Single f) = factor_extends names f
  product_extends names (Multiplied p f) = extended names (with_product names p) (with_factor (with_product names p) f) (product_extends names p) (factor_extends (with_product names p) f)

  factor_extends : (names : List Name) (f : Factor) → (new : List Name) × (with_factor names f ≡ names ++ new)
  factor_extends names (Plain b) = base_extends names b
  factor_extends names (Raised b digits) = base_extends names b
  factor_extends names (Negated f) = factor_extends names f

  base_extends : (names : List Name) (b : Base) → (new : List Name) × (with_base names b ≡ names ++ new)
  base_extends names (Number digits) = ([], sym (append-nil names))
  base_extends names (Named n) = name_extends names n
  base_extends names (Bracketed s) = sum_extends names s

-- the names of an expression are among names
abbrev mutual
  -- the names of a sum are among names
  pub SumReads : List Name → Sum → Type 0
  SumReads names (Alone p) = ProductReads names p
  SumReads names (Added s p) = SumReads names s × ProductReads names p
  SumReads names (Subtracted s p) = SumReads names s × ProductReads names p

  -- the names of a product are among names
  pub ProductReads : List Name → Product → Type 0
  ProductReads names (Single f) = FactorReads names f
  ProductReads names (Multiplied p f) = ProductReads names p × FactorReads names f

  -- the names of a factor are among names
  pub FactorReads : List Name → Factor → Type 0
  FactorReads names (Plain b) = BaseReads names b
  FactorReads names (Raised b digits) = BaseReads names b
  FactorReads names (Negated f) = FactorReads names f

  -- a base that is a name, or the names in its bracket, are among names
  pub BaseReads : List Name → Base → Type 0
  BaseReads names (Number digits) = ⊤
  BaseReads names (Named n) = is_among n names ≡ true
  BaseReads names (Bracketed s) = SumReads names s

mutual
  -- if the names of a sum are among some, they are among any extension of these
  pub sum_reads_more : (names more : List Name) (s : Sum) → SumReads names s → SumReads (names ++ more) s
  sum_reads_more names more (Alone p) h = product_reads_more names more p h
  sum_reads_more names more (Added s p) h = (sum_reads_more names more s h.0, product_reads_more names more p h.1)
  sum_reads_more names more (Subtracted s p) h = (sum_reads_more names more s h.0, product_reads_more names more p h.1)

  product_reads_more : (names more : List Name) (p : Product) → ProductReads names p → ProductReads (names ++ more) p
  product_reads_more names more (Single f) h = factor_reads_more names more f h
  product_reads_more names more (Multiplied p f) h = (product_reads_more names more p h.0, factor_reads_more names more f h.1)

  factor_reads_more : (names more : List Name) (f : Factor) → FactorReads names f → FactorReads (names ++ more) f
  factor_reads_more names more (Plain b) h = base_reads_more names more b h
  factor_reads_more names more (Raised b digits) h = base_reads_more names more b h
  factor_reads_more names more (Negated f) h = factor_reads_more names more f h

  base_reads_more : (names more : List Name) (b : Base) → BaseReads names b → BaseReads (names ++ more) b
  base_reads_more names more (Number digits) h = tt
  base_reads_more names more (Named n) h = among_more n names more h
  base_reads_more names more (Bracketed s) h = sum_reads_more names more s h

-- if the names of an expression are among some, they are among any extension of these
sum_reads_with : (names middle last : List Name) (s : Sum) → (e : (new : List Name) × (last ≡ middle ++ new)) → SumReads middle s → SumReads last s
sum_reads_with names middle last s e h = subst (λ ns. SumReads ns s) (sym e.1) (sum_reads_more middle e.0 s h)

product_reads_with : (middle last : List Name) (p : Product) → (e : (new : List Name) × (last ≡ middle ++ new)) → ProductReads middle p → ProductReads last p
product_reads_with middle last p e h = subst (λ ns. ProductReads ns p) (sym e.1) (product_reads_more middle e.0 p h)

mutual
  -- the names of an expression are among the variables known once it is read
  pub sum_is_read : (names : List Name) (s : Sum) → SumReads (with_sum names s) s
  sum_is_read names (Alone p) = product_is_read names p
  sum_is_read names (Added s p) = (sum_reads_with names (with_sum names s) (with_product (with_sum names s) p) s (product_extends (with_sum names s) p) (sum_is_read names s), product_is_read (with_sum names s) p)
  sum_is_read names (Subtracted s p) = (sum_reads_with names (with_sum names s) (with_product (with_sum names s) p) s (product_extends (with_sum names s) p) (sum_is_read names s), product_is_read (with_sum names s) p)

  product_is_read : (names : List Name) (p : Product) → ProductReads (with_product names p) p
  product_is_read names (Single f) = factor_is_read names f
  product_is_read names (Multiplied p f) = (product_reads_with (with_product names p) (with_factor (with_product names p) f) p (factor_extends (with_product names p) f) (product_is_read names p), factor_is_read (with_product names p) f)

  factor_is_read : (names : List Name) (f : Factor) → FactorReads (with_factor names f) f
  factor_is_read names (Plain b) = base_is_read names b
  factor_is_read names (Raised b digits) = base_is_read names b
  factor_is_read names (Negated f) = factor_is_read names f

  base_is_read : (names : List Name) (b : Base) → BaseReads (with_base names b) b
  base_is_read names (Number digits) = tt
  base_is_read names (Named n) = among_with n names
  base_is_read names (Bracketed s) = sum_is_read names s

mutual
  -- the term of an expression is the same over an extension of its names
  pub sum_term_stays : (names more : List Name) (s : Sum) → SumReads names s → sum_term (names ++ more) s ≡ sum_term names s
  sum_term_stays names more (Alone p) h = product_term_stays names more p h
  sum_term_stays names more (Added s p) h = rw (sum_term_stays names more s h.0, product_term_stays names more p h.1) refl
  sum_term_stays names more (Subtracted s p) h = rw (sum_term_stays names more s h.0, product_term_stays names more p h.1) refl

  product_term_stays : (names more : List Name) (p : Product) → ProductReads names p → product_term (names ++ more) p ≡ product_term names p
  product_term_stays names more (Single f) h = factor_term_stays names more f h
  product_term_stays names more (Multiplied p f) h = rw (product_term_stays names more p h.0, factor_term_stays names more f h.1) refl

  factor_term_stays : (names more : List Name) (f : Factor) → FactorReads names f → factor_term (names ++ more) f ≡ factor_term names f
  factor_term_stays names more (Plain b) h = base_term_stays names more b h
  factor_term_stays names more (Raised b digits) h = ap (λ t. Exponentiation t (number_of digits)) (base_term_stays names more b h)
  factor_term_stays names more (Negated f) h = ap Negation (factor_term_stays names more f h)

  base_term_stays : (names more : List Name) (b : Base) → BaseReads names b → base_term (names ++ more) b ≡ base_term names b
  base_term_stays names more (Number digits) h = refl
  base_term_stays names more (Named n) h = ap Variable (position_stays n names more h)
  base_term_stays names more (Bracketed s) h = sum_term_stays names more s h
