-- Each piece leads from the terms of a written state to those of the written state after it.
use Rattle.std.proofs.Common.{◌≡◌, ℕ, min, ◌+◌, ◌≤◌, Bool, true, false, ◌||◌, if◌then◌else◌, List, [], ◌∷◌, ◌++◌, refl}
use Rattle.std.proofs.Common.{ap, sym, subst, ◌∙◌, map, reverse, arith, add-one, Option, Some, None, pos}
use Rattle.std.specs.Prelude.{⊤}
use Rattle.model.specs.Programs.{Name}
use Rattle.model.specs.Terms.{Literal, Variable}
use Rattle.model.specs.Limits.{coefficient_limit}
use Rattle.text_core.specs.Names.{is_same, is_among, position_of}
use Rattle.text_core.proofs.NameLaws.{is_same_self}
use Rattle.expr_text.specs.Pieces.{Piece, Word, Digits, Open, Close, Plus, Minus, Times, Caret, Related, Joining}
use Rattle.expr_text.specs.Trees.{Factor, Plain, Raised, Base}
use Rattle.expr_text.specs.Terms.{with_name, with_sum, with_factor, sum_term, product_term, factor_term, number_of}
use Rattle.expr_text.specs.GrammarStates.{PlusAfter, MinusAfter, NoProduct, TimesAfter, Level, Operand, Wanted, BaseRead}
use Rattle.expr_text.specs.GrammarStates.{CaretRead, ExponentRead, GrammarState, product_made, sum_made}
use Rattle.expr_text.specs.Steps.{wanted, closed, step_from, step}
use Rattle.expr_text.specs.StateNames.{with_level, with_outer, with_summed, names_with_state}
use Rattle.expr_text.specs.TermGrammarStates as terms
use Rattle.expr_text.specs.TermGrammarStates.{limited, summed_terms, factored_terms, level_terms, operand_terms, terms_of_state}
use Rattle.expr_text.proofs.Stability.{name_extends}
use Rattle.expr_reader.specs.StateSteps.{StepsTo, HasParts, Closes, with_piece, behind_plus, behind_times}
use Rattle.expr_reader.specs.Standing.{IsModest}
use Rattle.expr_reader.proofs.StateNames.{OuterReads, LevelReads, outer_is_read, level_is_read, outer_along}
use Rattle.expr_reader.proofs.StateNames.{level_extends, outer_stays, level_stays, product_names, sum_names}
use Rattle.expr_reader.proofs.TermLaws.{product_of, sum_of, last_is, reverse_cons}

-- a state of terms represents a written state over these variables
pub record Holds (before : List Name) (g : GrammarState) (names : List Name) (u : terms.GrammarState) : Type 0 where
  pub names_are : names ≡ names_with_state before g
  pub state_is_represented : u ≡ terms_of_state names g

abbrev pub HoldsAt : List Name → Option GrammarState → List Name → terms.GrammarState → Type 0
HoldsAt before None names u = ⊤
HoldsAt before (Some g) names u = Holds before g names u

-- a state is determined by its parts
state_made : (u : terms.GrammarState) (o : List terms.Level) (l : terms.Level) (op : terms.Operand) → HasParts u o l op → u ≡ record { outer = o; level = l; operand = op }
state_made u o l op is =
    let mk : List terms.Level → terms.Level → terms.Operand → terms.GrammarState = λ o l op. record { outer = o; level = l; operand = op } in
    ap (λ o. mk o u.level u.operand) is.outer_is ∙ (ap (λ l. mk o l u.operand) is.level_is ∙ ap (λ op. mk o l op) is.operand_is)

-- a new name has the position after the other names
position_with : (n : Name) (names : List Name) → position_of n (with_name names n) ≡ position_of n names
position_with n names = go (is_among n names) refl
  where
    last : (names : List Name) → is_among n names ≡ false → position_of n (names ++ n ∷ []) ≡ position_of n names
    last [] h = rw (is_same_self n) refl
    last (m ∷ names) h = at (is_same n m) refl h (λ e. last names e)
      where
        at : (v : Bool) → is_same n m ≡ v → v || is_among n names ≡ false → (is_among n names ≡ false → position_of n (names ++ n ∷ []) ≡ position_of n names)
            → position_of n (m ∷ (names ++ n ∷ [])) ≡ position_of n (m ∷ names)
        at true e h ih = cc
        at false e h ih = rw (e, ih h) refl

    go : (v : Bool) → is_among n names ≡ v → position_of n (if v then names else names ++ n ∷ []) ≡ position_of n names
    go true e = refl
    go false e = last names e

module _ (before : List Name) (outer : List Level) (level : Level) where
  -- the variables known after all parts before an operand
  abbrev names_before : List Name
  names_before = with_level (with_outer before outer) level

  outer_read : OuterReads names_before outer
  outer_read = outer_along (with_outer before outer) names_before outer (level_extends (with_outer before outer) level) (outer_is_read before outer)

  level_read : LevelReads names_before level
  level_read = level_is_read (with_outer before outer) level

  -- after a name, the state represents the written one
  word_holds : (n : Name) (u : terms.GrammarState) → StepsTo names_before (terms_of_state names_before (record { outer = outer; level = level; operand = Wanted })) (Word n) u
      → HoldsAt before (step_from outer level Wanted (Word n)) (with_name names_before n) u
  word_holds n u is =
      let e = name_extends names_before n in
      let outers : map (level_terms (with_name names_before n)) outer ≡ map (level_terms names_before) outer
      = ap (λ ns. map (level_terms ns) outer) e.1 ∙ outer_stays names_before e.0 outer outer_read in
      let levels : level_terms (with_name names_before n) level ≡ level_terms names_before level
      = ap (λ ns. level_terms ns level) e.1 ∙ level_stays names_before e.0 level level_read in
      record {
        names_are = refl;
        state_is_represented = state_made u _ _ _ (record {
          outer_is = is.outer_is ∙ ap reverse (sym outers);
          level_is = is.level_is ∙ sym levels;
          operand_is = is.operand_is ∙ ap (λ i. terms.BaseRead (Variable i)) (sym (position_with n names_before));
        });
      }

  -- after a number, the state represents the written one
  digits_hold : (ds : List ℕ) (u : terms.GrammarState) → IsModest (Digits ds) → StepsTo names_before (terms_of_state names_before (record { outer = outer; level = level; operand = Wanted })) (Digits ds) u
      → HoldsAt before (step_from outer level Wanted (Digits ds)) names_before u
  digits_hold ds u modest is =
      let at = is modest.0 in
      let least : min (number_of ds) (coefficient_limit + 1) ≡ number_of ds = smaller (number_of ds) modest.1 in
      record { names_are = refl; state_is_represented = state_made u _ _ _ (record { outer_is = at.outer_is; level_is = at.level_is; operand_is = at.operand_is ∙ ap (λ n. terms.BaseRead (Literal (pos n))) least }) }
    where
      smaller : (n : ℕ) → n ≤ coefficient_limit → min n (coefficient_limit + 1) ≡ n
      smaller n h = omega arith

  -- where an operand must follow, each piece leads to a state that represents the written one
  wanted_holds : (p : Piece) (u : terms.GrammarState) → IsModest p → StepsTo names_before (terms_of_state names_before (record { outer = outer; level = level; operand = Wanted })) p u
      → HoldsAt before (step_from outer level Wanted p) (with_piece names_before p) u
  wanted_holds (Word n) u modest is = word_holds n u is
  wanted_holds (Digits ds) u modest is = digits_hold ds u modest is
  wanted_holds Open u modest is =
      record { names_are = refl; state_is_represented = state_made u _ _ _ (record { outer_is = is.outer_is ∙ sym (reverse_cons (level_terms names_before level) (map (level_terms names_before) outer)); level_is = is.level_is; operand_is = is.operand_is }) }
  wanted_holds Minus u modest is =
      let more : ℕ → terms.Level = λ n. record { sum = summed_terms names_before level.sum; product = factored_terms names_before level.product; minuses = n } in
      record { names_are = refl; state_is_represented = state_made u _ _ _ (record { outer_is = is.outer_is; level_is = is.level_is ∙ ap more (add-one level.minuses); operand_is = is.operand_is }) }
  wanted_holds Close u modest is = tt
  wanted_holds Plus u modest is = tt
  wanted_holds Times u modest is = tt
  wanted_holds Caret u modest is = tt
  wanted_holds (Related s) u modest is = tt
  wanted_holds (Joining j) u modest is = tt

  module _ (f : Factor) where
    -- the variables known once the factor is read, and its term
    abbrev names_behind : List Name
    names_behind = with_factor names_before f

    abbrev state_levels : List terms.Level
    state_levels = reverse (map (level_terms names_behind) outer)

    abbrev operand_level : terms.Level
    operand_level = level_terms names_behind level

    -- the operand of the state is the factor
    abbrev IsFactor : terms.Operand → Type 0
    IsFactor o = terms.factor_in o ≡ limited (factor_term names_behind f)

    -- the product and the sum that are complete with the factor
    product_is : (o : terms.Operand) → IsFactor o → terms.product_made operand_level o ≡ limited (product_term names_behind (product_made level f))
    product_is o is = ap (λ t. terms.product_with operand_level.product (terms.negated operand_level.minuses t)) is ∙ sym (product_of names_behind level.product level.minuses f)

    sum_is : (o : terms.Operand) → IsFactor o → terms.sum_made operand_level o ≡ limited (sum_term names_behind (sum_made level f))
    sum_is o is = ap (λ t. terms.sum_with operand_level.sum (terms.product_with operand_level.product (terms.negated operand_level.minuses t))) is ∙ sym (sum_of names_behind level f)

    summed_names : names_behind ≡ with_sum (with_outer before outer) (sum_made level f)
    summed_names = sym (sum_names (with_outer before outer) level f)

    plus_holds : (o : terms.Operand) (u : terms.GrammarState) → IsFactor o → HasParts u state_levels (behind_plus operand_level o) terms.Wanted
        → Holds before (wanted outer (PlusAfter (sum_made level f)) NoProduct) names_behind u
    plus_holds o u same is = record {
      names_are = summed_names;
      state_is_represented = state_made u _ _ _ (record {
        outer_is = is.outer_is;
        level_is = is.level_is ∙ ap (λ t. let l : terms.Level = record { sum = terms.PlusAfter t; product = terms.NoProduct; minuses = 0 } in l) (sum_is o same);
        operand_is = is.operand_is;
      });
    }

    minus_holds : (o : terms.Operand) (u : terms.GrammarState) → IsFactor o → HasParts u state_levels (record { sum = terms.MinusAfter (terms.sum_made operand_level o); product = terms.NoProduct; minuses = 0 }) terms.Wanted
        → Holds before (wanted outer (MinusAfter (sum_made level f)) NoProduct) names_behind u
    minus_holds o u same is = record {
      names_are = summed_names;
      state_is_represented = state_made u _ _ _ (record {
        outer_is = is.outer_is;
        level_is = is.level_is ∙ ap (λ t. let l : terms.Level = record { sum = terms.MinusAfter t; product = terms.NoProduct; minuses = 0 } in l) (sum_is o same);
        operand_is = is.operand_is;
      });
    }

    times_hold : (o : terms.Operand) (u : terms.GrammarState) → IsFactor o → HasParts u state_levels (behind_times operand_level o) terms.Wanted
        → Holds before (wanted outer level.sum (TimesAfter (product_made level f))) names_behind u
    times_hold o u same is = record {
      names_are = sym (product_names (with_summed (with_outer before outer) level.sum) level.product level.minuses f);
      state_is_represented = state_made u _ _ _ (record {
        outer_is = is.outer_is;
        level_is = is.level_is ∙ ap (λ t. let l : terms.Level = record { sum = operand_level.sum; product = terms.TimesAfter t; minuses = 0 } in l) (product_is o same);
        operand_is = is.operand_is;
      });
    }

-- after the innermost bracket closes, the state represents the written one
close_holds : (before : List Name) (outer : List Level) (level : Level) (f : Factor) (o : terms.Operand) (u : terms.GrammarState)
    → terms.factor_in o ≡ limited (factor_term (with_factor (names_before before outer level) f) f)
    → (terms.is_empty (reverse (map (level_terms (with_factor (names_before before outer level) f)) outer)) ≡ false
    → Closes (record { outer = reverse (map (level_terms (with_factor (names_before before outer level) f)) outer); level = level_terms (with_factor (names_before before outer level) f) level; operand = o }) u)
    → HoldsAt before (closed outer (sum_made level f)) (with_factor (names_before before outer level) f) u
close_holds before [] level f o u same closes = tt
close_holds before (l ∷ outer) level f o u same closes =
    let names = with_factor (names_before before (l ∷ outer) level) f in
    let levels = map (level_terms names) outer in
    let turned = reverse_cons (level_terms names l) levels in
    let is = closes (ap terms.is_empty turned ∙ nonempty (reverse levels) (level_terms names l)) in
    let ends = last_is (reverse levels) u.outer (level_terms names l) u.level (sym turned ∙ is.outer_is) in
    record {
      names_are = summed_names before (l ∷ outer) level f;
      state_is_represented = state_made u _ _ _ (record { outer_is = sym ends.1; level_is = sym ends.0; operand_is = is.operand_is ∙ ap terms.BaseRead (sum_is before (l ∷ outer) level f o same) });
    }
  where
    nonempty : (levels : List terms.Level) (l : terms.Level) → terms.is_empty (levels ++ l ∷ []) ≡ false
    nonempty [] l = refl
    nonempty (k ∷ levels) l = refl

-- the operand of a written operand, as a term
abbrev operand_at : List Name → List Level → Level → Operand → terms.Operand
operand_at before outer level operand = operand_terms (names_with_state before (record { outer = outer; level = level; operand = operand })) operand

-- after a base, each piece leads to a state that represents the written one
base_holds : (before : List Name) (outer : List Level) (level : Level) (b : Base) (p : Piece) (u : terms.GrammarState)
    → StepsTo (names_with_state before (record { outer = outer; level = level; operand = BaseRead b })) (terms_of_state (names_with_state before (record { outer = outer; level = level; operand = BaseRead b })) (record { outer = outer; level = level; operand = BaseRead b })) p u
    → HoldsAt before (step_from outer level (BaseRead b) p) (with_piece (names_with_state before (record { outer = outer; level = level; operand = BaseRead b })) p) u
base_holds before outer level b Caret u is = record { names_are = refl; state_is_represented = state_made u _ _ _ is }
base_holds before outer level b Times u is = times_hold before outer level (Plain b) (operand_at before outer level (BaseRead b)) u refl is
base_holds before outer level b Plus u is = plus_holds before outer level (Plain b) (operand_at before outer level (BaseRead b)) u refl is
base_holds before outer level b Minus u is = minus_holds before outer level (Plain b) (operand_at before outer level (BaseRead b)) u refl is
base_holds before outer level b Close u is = close_holds before outer level (Plain b) (operand_at before outer level (BaseRead b)) u refl is
base_holds before outer level b (Word n) u is = tt
base_holds before outer level b (Digits ds) u is = tt
base_holds before outer level b Open u is = tt
base_holds before outer level b (Related s) u is = tt
base_holds before outer level b (Joining j) u is = tt

-- after an exponent, each piece leads to a state that represents the written one
exponent_holds : (before : List Name) (outer : List Level) (level : Level) (b : Base) (ds : List ℕ) (p : Piece) (u : terms.GrammarState)
    → StepsTo (names_with_state before (record { outer = outer; level = level; operand = ExponentRead b ds })) (terms_of_state (names_with_state before (record { outer = outer; level = level; operand = ExponentRead b ds })) (record { outer = outer; level = level; operand = ExponentRead b ds })) p u
    → HoldsAt before (step_from outer level (ExponentRead b ds) p) (with_piece (names_with_state before (record { outer = outer; level = level; operand = ExponentRead b ds })) p) u
exponent_holds before outer level b ds Times u is = times_hold before outer level (Raised b ds) (operand_at before outer level (ExponentRead b ds)) u refl is
exponent_holds before outer level b ds Plus u is = plus_holds before outer level (Raised b ds) (operand_at before outer level (ExponentRead b ds)) u refl is
exponent_holds before outer level b ds Minus u is = minus_holds before outer level (Raised b ds) (operand_at before outer level (ExponentRead b ds)) u refl is
exponent_holds before outer level b ds Close u is = close_holds before outer level (Raised b ds) (operand_at before outer level (ExponentRead b ds)) u refl is
exponent_holds before outer level b ds Caret u is = tt
exponent_holds before outer level b ds (Word n) u is = tt
exponent_holds before outer level b ds (Digits es) u is = tt
exponent_holds before outer level b ds Open u is = tt
exponent_holds before outer level b ds (Related s) u is = tt
exponent_holds before outer level b ds (Joining j) u is = tt

-- after a `^`, each piece leads to a state that represents the written one
caret_holds : (before : List Name) (outer : List Level) (level : Level) (b : Base) (p : Piece) (u : terms.GrammarState) → IsModest p
    → StepsTo (names_with_state before (record { outer = outer; level = level; operand = CaretRead b })) (terms_of_state (names_with_state before (record { outer = outer; level = level; operand = CaretRead b })) (record { outer = outer; level = level; operand = CaretRead b })) p u
    → HoldsAt before (step_from outer level (CaretRead b) p) (with_piece (names_with_state before (record { outer = outer; level = level; operand = CaretRead b })) p) u
caret_holds before outer level b (Digits ds) u modest is = record { names_are = refl; state_is_represented = state_made u _ _ _ (is modest.0) }
caret_holds before outer level b Caret u modest is = tt
caret_holds before outer level b Times u modest is = tt
caret_holds before outer level b Plus u modest is = tt
caret_holds before outer level b Minus u modest is = tt
caret_holds before outer level b Close u modest is = tt
caret_holds before outer level b (Word n) u modest is = tt
caret_holds before outer level b Open u modest is = tt
caret_holds before outer level b (Related s) u modest is = tt
caret_holds before outer level b (Joining j) u modest is = tt

-- after each part of an operand, each piece leads to a state that represents the written one
operand_holds : (before : List Name) (outer : List Level) (level : Level) (operand : Operand) (p : Piece) (u : terms.GrammarState) → IsModest p
    → StepsTo (names_with_state before (record { outer = outer; level = level; operand = operand })) (terms_of_state (names_with_state before (record { outer = outer; level = level; operand = operand })) (record { outer = outer; level = level; operand = operand })) p u
    → HoldsAt before (step_from outer level operand p) (with_piece (names_with_state before (record { outer = outer; level = level; operand = operand })) p) u
operand_holds before outer level Wanted p u modest is = wanted_holds before outer level p u modest is
operand_holds before outer level (BaseRead b) p u modest is = base_holds before outer level b p u is
operand_holds before outer level (CaretRead b) p u modest is = caret_holds before outer level b p u modest is
operand_holds before outer level (ExponentRead b ds) p u modest is = exponent_holds before outer level b ds p u is

-- a piece leads from the terms of a written state to those of the state after it
pub simulated : (before : List Name) (f g : GrammarState) (p : Piece) (old new : List Name) (t u : terms.GrammarState)
    → old ≡ names_with_state before f → t ≡ terms_of_state old f → step f p ≡ Some g → IsModest p → StepsTo old t p u → new ≡ with_piece old p → Holds before g new u
simulated before f g p old new t u names grammar_state to modest moves more =
    let at_names : t ≡ terms_of_state (names_with_state before f) f = grammar_state ∙ ap (λ ns. terms_of_state ns f) names in
    let moves_at : StepsTo (names_with_state before f) (terms_of_state (names_with_state before f) f) p u = subst (λ t. StepsTo (names_with_state before f) t p u) at_names (subst (λ ns. StepsTo ns t p u) names moves) in
    let held : HoldsAt before (step f p) (with_piece (names_with_state before f) p) u = operand_holds before f.outer f.level f.operand p u modest moves_at in
    let led : Holds before g (with_piece (names_with_state before f) p) u = subst (λ o. HoldsAt before o (with_piece (names_with_state before f) p) u) to held in
    subst (λ ns. Holds before g ns u) (sym (more ∙ ap (λ ns. with_piece ns p) names)) led
