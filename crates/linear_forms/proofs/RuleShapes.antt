-- The questions about rules are well formed.
use Rattle.std.proofs.Common.{◌≡◌, ℕ, zero, suc, ◌+◌, ◌≤◌, ap, arith, refl, sym, ◌∙◌, ◌⊎◌, inl, inr, Bool, true, false}
use Rattle.std.proofs.Common.{List, [], ◌∷◌, ◌++◌, length, map, replicate, length-append, get_or}
use Rattle.std.specs.Prelude.{ℤ, pos, negsuc, ◌*ℤ◌, if◌then◌else◌, nat_eq, not}
use Rattle.std.specs.List.{All, range_with_len}
use Rattle.std.proofs.lemmas.Bool.Decides.{eqb_tells}
use Rattle.std.proofs.lemmas.List.{length-replicate}
use Rattle.std.proofs.lemmas.List.Elements.{All-append, All-cons, All-nil, All-map, All-weaker, All-filter, All-head}
use Rattle.std.proofs.lemmas.List.Elements.{All-tail}
use Rattle.linear_forms.specs.Forms.{Form}
use Rattle.linear_forms.specs.Combinations.{form_sum, zero_form}
use Rattle.linear_forms.specs.Questions.{IsGroupShaped}
use Rattle.linear_forms.specs.RuleQuestions.{RuleForms, RankedSet, Coefficient, opposite, before_rule, after_rule}
use Rattle.linear_forms.specs.RuleQuestions.{at_source, at_target, open_places, coefficients, symbols_of_set}
use Rattle.linear_forms.specs.RuleQuestions.{move_group, floor_group, size_at, height_at}
use Rattle.linear_forms.specs.RuleQuestionLaws.{IsRuleShaped, AreRulesShaped, RuleQuestionsAreShaped}
use Rattle.linear_forms.proofs.SolutionLaws.{length-map}
use Rattle.linear_forms.proofs.CombinationLaws.{length-sum}

-- a form has no coefficient past n unknowns
abbrev Fits : ℕ → Form → Type 0
Fits n f = length f.coefs ≤ n

-- the negation of a fitting form fits, and so does the sum of two
opposite-fits : (n : ℕ) (f : Form) → Fits n f → Fits n (opposite f)
opposite-fits n f h = omega (arith, h, length-map (λ (a : ℤ). negsuc 0 *ℤ a) f.coefs)

sum-fits : (n : ℕ) (f g : Form) → Fits n f → Fits n g → Fits n (form_sum f g)
sum-fits n f g h k = length-sum f.coefs g.coefs n h k

-- the factor of a coefficient before a rule fits
before-fits : (n left i : ℕ) → left ≤ n → i ≤ left → Fits n (before_rule i)
before-fits n left zero l m = omega arith
before-fits n left (suc i) l m =
    let e = length-append (replicate i (pos 0)) (pos 1 ∷ []) in
    let k = length-replicate i (pos 0) in
    omega (arith, e, k, l, m)

-- the factor of a coefficient after a rule fits
form-at : (n i : ℕ) (fs : List Form) → All (λ f. length f.coefs ≤ n) fs → Fits n (get_or fs i zero_form)
form-at n i [] h = omega arith
form-at n zero (f ∷ fs) h = All-head (λ (g : Form). length g.coefs ≤ n) f fs h
form-at n (suc i) (f ∷ fs) h = form-at n i fs (All-tail (λ (g : Form). length g.coefs ≤ n) f fs h)

after-fits : (r : RuleForms) (i : ℕ) → IsRuleShaped r → Fits r.unknowns (after_rule r i)
after-fits r zero s = omega arith
after-fits r (suc i) s = form-at r.unknowns i r.new_values s.new_values_fit

-- a form that fits if a test passes, or else the form 0, fits
either-fits : (n : ℕ) (b : Bool) (f : Form) → (b ≡ true → Fits n f) → Fits n (if b then f else zero_form)
either-fits n true f h = h refl
either-fits n false f h = omega arith

-- a coefficient's place is one of its symbol
abbrev IsPlaced : RankedSet → Coefficient → Type 0
IsPlaced b c = c.place ≤ b.arity c.symbol

source-fits : (b : RankedSet) (t : ℕ) (c : Coefficient) → AreRulesShaped b → IsPlaced b c → Fits (b.rule t).unknowns (at_source (b.rule t) c)
source-fits b t c s p = either-fits (b.rule t).unknowns (nat_eq c.symbol (b.rule t).source) (before_rule c.place) (λ e. go e (eqb_tells c.symbol (b.rule t).source))
  where
    go : nat_eq c.symbol (b.rule t).source ≡ true → ((nat_eq c.symbol (b.rule t).source ≡ true) × (c.symbol ≡ (b.rule t).source)) ⊎ ((nat_eq c.symbol (b.rule t).source ≡ false) × ((c.symbol ≡ (b.rule t).source) → ⊥))
        → Fits (b.rule t).unknowns (before_rule c.place)
    go e (inl d) = before-fits (b.rule t).unknowns (b.rule t).left c.place (s.each t).left_fits
        (let same = ap b.arity d.1 in let left = s.left t in omega (arith, same, left, p))
    go e (inr d) = let clash : true ≡ false = sym e ∙ d.0 in absurd cc

target-fits : (b : RankedSet) (t : ℕ) (c : Coefficient) → AreRulesShaped b → Fits (b.rule t).unknowns (at_target (b.rule t) c)
target-fits b t c s = either-fits (b.rule t).unknowns (nat_eq c.symbol (b.rule t).target) (after_rule (b.rule t) c.place) (λ e. after-fits (b.rule t) c.place (s.each t))

-- the places of a range are below its end
pub range-below : (a n m : ℕ) → a + n ≤ suc m → All (λ i. i ≤ m) (range_with_len a n)
range-below a zero m l = All-nil (λ (i : ℕ). i ≤ m)
range-below a (suc n) m l = All-cons (λ (i : ℕ). i ≤ m) a (range_with_len (a + 1) n) (omega (arith, l)) (range-below (a + 1) n m (omega (arith, l)))

-- all coefficients are placed
pub coefficients-placed : (b : RankedSet) (ss : List ℕ) → All (IsPlaced b) (coefficients b ss)
coefficients-placed b [] = All-nil (IsPlaced b)
coefficients-placed b (s ∷ ss) =
    All-append (IsPlaced b) (map named (open_places b s ++ (0 ∷ []))) (coefficients b ss)
    (All-map (IsPlaced b) named (open_places b s ++ (0 ∷ []))
    (All-append (λ (i : ℕ). i ≤ b.arity s) (open_places b s) (0 ∷ [])
    (All-filter (λ (i : ℕ). not (b.shut s i)) (λ (i : ℕ). i ≤ b.arity s) (range_with_len 1 (b.arity s)) (range-below 1 (b.arity s) (b.arity s) (omega arith)))
    (All-cons (λ (i : ℕ). i ≤ b.arity s) 0 [] (omega arith) (All-nil (λ (i : ℕ). i ≤ b.arity s)))))
    (coefficients-placed b ss)
  where
    named : ℕ → Coefficient
    named = λ i. record { symbol = s; place = i }

module _ (b : RankedSet) (s : AreRulesShaped b) where
  -- the coefficients of the set
  abbrev cs : List Coefficient
  cs = coefficients b (symbols_of_set b)

  -- the group of a rule has its shape
  move-shaped : (t : ℕ) → IsGroupShaped (length cs) (move_group b cs t)
  move-shaped t = record {
    goals_are = length-map (λ (c : Coefficient). form_sum (at_source (b.rule t) c) (opposite (at_target (b.rule t) c))) cs;
    rows_fit = (s.each t).rows_fit;
    goals_fit = All-map (Fits (b.rule t).unknowns) (λ (c : Coefficient). form_sum (at_source (b.rule t) c) (opposite (at_target (b.rule t) c))) cs
        (All-weaker (IsPlaced b) (λ (c : Coefficient). Fits (b.rule t).unknowns (form_sum (at_source (b.rule t) c) (opposite (at_target (b.rule t) c))))
        (λ c p. sum-fits (b.rule t).unknowns (at_source (b.rule t) c) (opposite (at_target (b.rule t) c)) (source-fits b t c s p) (opposite-fits (b.rule t).unknowns (at_target (b.rule t) c) (target-fits b t c s)))
        cs (coefficients-placed b (symbols_of_set b)));
    fixed_fits = fixed (nat_eq t b.strict);
  }
    where
      fixed : (x : Bool) → length (if x then record { coefs = []; constant = negsuc 0 } else zero_form).coefs ≤ (b.rule t).unknowns
      fixed true = omega arith
      fixed false = omega arith

  -- the group of the floor has its shape
  floor-shaped : IsGroupShaped (length cs) (floor_group b cs)
  floor-shaped = record {
    goals_are = length-map (at_source (b.rule b.strict)) cs;
    rows_fit = (s.each b.strict).rows_fit;
    goals_fit = All-map (Fits (b.rule b.strict).unknowns) (at_source (b.rule b.strict)) cs
        (All-weaker (IsPlaced b) (λ (c : Coefficient). Fits (b.rule b.strict).unknowns (at_source (b.rule b.strict) c)) (λ c p. source-fits b b.strict c s p)
        cs (coefficients-placed b (symbols_of_set b)));
    fixed_fits = omega arith;
  }

  -- the groups of rules have their shape
  moves-shaped : (ts : List ℕ) → All (IsGroupShaped (length cs)) (map (move_group b cs) ts)
  moves-shaped [] = All-nil (IsGroupShaped (length cs))
  moves-shaped (t ∷ ts) = All-cons (IsGroupShaped (length cs)) (move_group b cs t) (map (move_group b cs) ts) (move-shaped t) (moves-shaped ts)

-- the questions about rules are well formed
pub questions-shaped : RuleQuestionsAreShaped
questions-shaped = record {
  empty = λ r s. record {
    groups_are = All-cons (IsGroupShaped 0) _ [] (record { goals_are = refl; rows_fit = s.rows_fit; goals_fit = All-nil (Fits r.unknowns); fixed_fits = omega arith }) (All-nil (IsGroupShaped 0));
    sizes_are = refl;
    heights_are = refl;
  };
  rank = λ b s. record {
    groups_are = All-append (IsGroupShaped (length (cs b s))) (map (move_group b (cs b s)) b.set) (floor_group b (cs b s) ∷ []) (moves-shaped b s b.set)
        (All-cons (IsGroupShaped (length (cs b s))) (floor_group b (cs b s)) [] (floor-shaped b s) (All-nil (IsGroupShaped (length (cs b s)))));
    sizes_are = length-map (size_at b) (cs b s);
    heights_are = length-map (height_at b) (cs b s);
  };
  local = λ r w fixed places s lw lf lp. record {
    groups_are = All-cons (IsGroupShaped (length places)) _ [] (record {
      goals_are = length-map before_rule places;
      rows_fit = s.rows_fit;
      goals_fit = All-map (Fits r.unknowns) before_rule places (All-weaker (λ (i : ℕ). i ≤ r.left) (λ (i : ℕ). Fits r.unknowns (before_rule i)) (λ i m. before-fits r.unknowns r.left i s.left_fits m) places lp);
      fixed_fits = sum-fits r.unknowns fixed (opposite w) lf (opposite-fits r.unknowns w lw);
    }) (All-nil (IsGroupShaped (length places)));
    sizes_are = length-map (λ (i : ℕ). if nat_eq i 0 then 0 else 1) places;
    heights_are = length-map (λ (i : ℕ). if nat_eq i 0 then 1 else 0) places;
  };
}
