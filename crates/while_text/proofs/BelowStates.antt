-- Expressions over the inputs: each token that is an input, or no name, keeps the variables of a front below the number
-- of inputs.
use Rattle.std.proofs.Common.{◌≡◌, ℕ, zero, suc, ◌-◌, ◌<◌, ◌^◌, Bool, true, false, List, [], ◌∷◌, ◌++◌, Option, Some, None, refl, subst}
use Rattle.std.specs.Prelude.{⊤, nat_lt}
use Rattle.std.specs.List.{AllByRecursion}
use Rattle.while_text.specs.model.Terms.{Term, Negation}
use Rattle.while_text.specs.poly_terms.Checked.{ReadsBelow}
use Rattle.expr_text.specs.TermGrammarStates.{Summed, NoSum, PlusAfter, MinusAfter, Factored, NoProduct, TimesAfter}
use Rattle.expr_text.specs.TermGrammarStates.{Level, Operand, Wanted, BaseRead, CaretRead, ExponentRead, GrammarState}
use Rattle.expr_text.specs.TermGrammarStates.{negated, factor_in, product_with, sum_with, with_number, with_caret}
use Rattle.expr_text.specs.TermGrammarStates.{product_made, sum_made}
use Rattle.expr_reader.specs.StateSteps.{behind_plus, behind_minus, behind_times}
use Rattle.while_text.specs.declared.piece.Sort.{Sort}
use Rattle.while_text.specs.declared.piece.Sort.TheVariants as sorts
use Rattle.while_text.specs.Drafts.{last_of, before_last, closed_by, with_minus, state_after, term_of, no_state}
use Rattle.while_text.specs.Faults.{is_name}

module _ (n : ℕ) where
  -- The variables of a sum that is being read are below n.
  abbrev pub SummedBelow : Summed → Type 0
  SummedBelow NoSum = ⊤
  SummedBelow (PlusAfter e) = ReadsBelow n e
  SummedBelow (MinusAfter e) = ReadsBelow n e

  abbrev pub FactoredBelow : Factored → Type 0
  FactoredBelow NoProduct = ⊤
  FactoredBelow (TimesAfter e) = ReadsBelow n e

  abbrev pub LevelBelow : Level → Type 0
  LevelBelow l = SummedBelow l.sum × FactoredBelow l.product

  abbrev pub OperandBelow : Operand → Type 0
  OperandBelow Wanted = ⊤
  OperandBelow (BaseRead e) = ReadsBelow n e
  OperandBelow (CaretRead e) = ReadsBelow n e
  OperandBelow (ExponentRead e k) = ReadsBelow n e

  pub record StateBelow (f : GrammarState) : Type 0 where
    pub outer : AllByRecursion LevelBelow f.outer
    pub level : LevelBelow f.level
    pub operand : OperandBelow f.operand

  -- The variables of a factor are below n if those of its operand are.
  factor_below : (o : Operand) → OperandBelow o → ReadsBelow n (factor_in o)
  factor_below Wanted h = tt
  factor_below (BaseRead e) h = h
  factor_below (CaretRead e) h = h
  factor_below (ExponentRead e k) h = h

  negated_below : (k : ℕ) (e : Term) → ReadsBelow n e → ReadsBelow n (negated k e)
  negated_below zero e h = h
  negated_below (suc k) e h = negated_below k (Negation e) h

  product_below : (f : Factored) (e : Term) → FactoredBelow f → ReadsBelow n e → ReadsBelow n (product_with f e)
  product_below NoProduct e h k = k
  product_below (TimesAfter d) e h k = (h, k)

  sum_below : (s : Summed) (e : Term) → SummedBelow s → ReadsBelow n e → ReadsBelow n (sum_with s e)
  sum_below NoSum e h k = k
  sum_below (PlusAfter d) e h k = (h, k)
  sum_below (MinusAfter d) e h k = (h, k)

  product_made_below : (l : Level) (o : Operand) → LevelBelow l → OperandBelow o → ReadsBelow n (product_made l o)
  product_made_below l o h k =
      product_below l.product (negated l.minuses (factor_in o)) h.1
      (negated_below l.minuses (factor_in o) (factor_below o k))

  sum_made_below : (l : Level) (o : Operand) → LevelBelow l → OperandBelow o → ReadsBelow n (sum_made l o)
  sum_made_below l o h k = sum_below l.sum (product_made l o) h.0 (product_made_below l o h k)

  pub term_below : (f : GrammarState) → StateBelow f → ReadsBelow n (term_of f)
  term_below f h = sum_made_below f.level f.operand h.level h.operand

  pub no_state_below : StateBelow no_state
  no_state_below = record { outer = tt; level = (tt, tt); operand = tt }

  -- A number keeps the variables of an operand below n.
  with_number_below : (o : Operand) (k : ℕ) → OperandBelow o → OperandBelow (with_number o k)
  with_number_below Wanted k h = tt
  with_number_below (BaseRead e) k h = tt
  with_number_below (CaretRead e) k h = h
  with_number_below (ExponentRead e m) k h = tt

  with_caret_below : (o : Operand) → OperandBelow o → OperandBelow (with_caret o)
  with_caret_below Wanted h = h
  with_caret_below (BaseRead e) h = h
  with_caret_below (CaretRead e) h = h
  with_caret_below (ExponentRead e m) h = h

  minus_level : (l : Level) (o : Operand) → LevelBelow l → OperandBelow o → LevelBelow (behind_minus l o)
  minus_level l Wanted h k = h
  minus_level l (BaseRead e) h k = (sum_made_below l (BaseRead e) h k, tt)
  minus_level l (CaretRead e) h k = (sum_made_below l (CaretRead e) h k, tt)
  minus_level l (ExponentRead e m) h k = (sum_made_below l (ExponentRead e m) h k, tt)

  with_minus_below : (f : GrammarState) → StateBelow f → StateBelow (with_minus f)
  with_minus_below f h = go (nat_lt f.level.minuses (2 ^ 32 - 1)) refl
    where
      go : (v : Bool) → nat_lt f.level.minuses (2 ^ 32 - 1) ≡ v → StateBelow (with_minus f)
      go true e = rw e (record {
        outer = h.outer;
        level = minus_level f.level f.operand h.level h.operand;
        operand = tt;
      })
      go false e = rw e h

  all_append : (ls : List Level) (l : Level) → AllByRecursion LevelBelow ls → LevelBelow l
      → AllByRecursion LevelBelow (ls ++ l ∷ [])
  all_append [] l h k = (k, tt)
  all_append (m ∷ ls) l (a, h) k = (a, all_append ls l h k)

  last_below : (ls : List Level) (l : Level) → AllByRecursion LevelBelow ls → last_of ls ≡ Some l → LevelBelow l
  last_below [] l h e = cc
  last_below (m ∷ []) l (a, h) e = subst LevelBelow (same e) a
    where
      same : Some m ≡ Some l → m ≡ l
      same d = cc
  last_below (m ∷ k ∷ ls) l (a, h) e = last_below (k ∷ ls) l h e

  before_below : (ls : List Level) → AllByRecursion LevelBelow ls → AllByRecursion LevelBelow (before_last ls)
  before_below [] h = tt
  before_below (m ∷ []) h = tt
  before_below (m ∷ k ∷ ls) (a, h) = (a, before_below (k ∷ ls) h)

  closed_below : (f : GrammarState) → StateBelow f → StateBelow (closed_by (last_of f.outer) f)
  closed_below f h = go (last_of f.outer) refl
    where
      go : (o : Option Level) → last_of f.outer ≡ o → StateBelow (closed_by o f)
      go None e = h
      go (Some l) e = record {
        outer = before_below f.outer h.outer;
        level = last_below f.outer l h.outer e;
        operand = term_below f h;
      }

  -- A token keeps the variables of a front below n if it is no name, or the name of a variable below n.
  pub state_below : (x : ℕ) (sort : Sort) (f : GrammarState) → (is_name sort ≡ true → x < n) → StateBelow f
      → StateBelow (state_after x sort f)
  state_below x sorts.Name f low h = record { outer = h.outer; level = h.level; operand = low refl }
  state_below x (sorts.Number k) f low h =
      record { outer = h.outer; level = h.level; operand = with_number_below f.operand k h.operand }
  state_below x sorts.Open f low h =
      record { outer = all_append f.outer f.level h.outer h.level; level = (tt, tt); operand = h.operand }
  state_below x sorts.Close f low h = closed_below f h
  state_below x sorts.Plus f low h =
      record { outer = h.outer; level = (sum_made_below f.level f.operand h.level h.operand, tt); operand = tt }
  state_below x sorts.Minus f low h = with_minus_below f h
  state_below x sorts.Times f low h =
      record { outer = h.outer; level = (h.level.0, product_made_below f.level f.operand h.level h.operand); operand = tt }
  state_below x sorts.Caret f low h =
      record { outer = h.outer; level = h.level; operand = with_caret_below f.operand h.operand }
  state_below x sort f low h = h
