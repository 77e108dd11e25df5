-- Affine functions on configurations: when they rank a rule of a set, which have least weight, and when none ranks it.
use Rattle.std.specs.Prelude.{◌≡◌, ℕ, suc, ◌+◌, ◌*◌, ◌≤◌, true, Bool, cond, List, [], ◌∷◌, ℤ, pos, ◌+ℤ◌, ◌*ℤ◌, ◌≤ℤ◌}
use Rattle.std.specs.List.{All}
use Rattle.linear_forms.specs.Forms.{Form, at, form_value}
use Rattle.linear_forms.specs.Sizes.{total_size}
use Rattle.linear_forms.specs.Points.{IsPoint}
use Rattle.linear_forms.specs.RuleQuestions.{RuleForms, RankedSet, symbols_of_set}
use Rattle.linear_forms.specs.Losses.{at_new_values}
use Rattle.rule_forms.specs.Bounds.{height}

-- a function: for each symbol a form in its places
abbrev pub Function : Type 0
Function = ℕ → Form

-- a form in the places of a rule's target, as a form in the rule's unknowns: each place has its new value
abbrev pub over_new_values : RuleForms → Form → Form
over_new_values r f = at_new_values f r.new_values

-- on the rational points of rule t, the function decreases by at least k
pub record Loses (b : RankedSet) (f : Function) (t k : ℕ) : Type 0 where
  pub each : (z : ℕ → ℤ) (d : ℤ) → IsPoint (b.rule t).rows z d
      → (form_value (over_new_values (b.rule t) (f (b.rule t).target)) z d +ℤ pos k *ℤ d)
      ≤ℤ form_value (f (b.rule t).source) z d

-- the function over q ranks the rule of the set that has to decrease: no rule of the set increases it, that rule
-- decreases it by at least q, and it is at least q before that rule, on all rational points of each rule
pub record Ranks (b : RankedSet) (f : Function) (q : ℕ) : Type 0 where
  pub positive : 1 ≤ q
  pub rises : All (λ t. Loses b f t 0) b.set
  pub falls : Loses b f b.strict q
  pub floor : (z : ℕ → ℤ) (d : ℤ) → IsPoint (b.rule b.strict).rows z d
      → (pos q *ℤ d) ≤ℤ form_value (f (b.rule b.strict).source) z d

-- the function has coefficient 0 at every shut place (one without a known size bound), and beyond the symbol's places
pub record Fits (b : RankedSet) (f : Function) : Type 0 where
  pub closed : (s j : ℕ) → b.shut s (suc j) ≡ true → at (f s).coefs j ≡ pos 0
  pub places : (s j : ℕ) → b.arity s ≤ j → at (f s).coefs j ≡ pos 0

-- no function with coefficient 0 at every shut place ranks the rule
pub record NoRank (b : RankedSet) : Type 0 where
  pub each : (f : Function) (q : ℕ) → Ranks b f q → ¬ (Fits b f)

-- the sum of a number for each entered symbol of the set
abbrev pub over_entered : (ℕ → Bool) → (ℕ → ℕ) → List ℕ → ℕ
over_entered entered g [] = 0
over_entered entered g (s ∷ ss) = cond (entered s) (g s) 0 + over_entered entered g ss

-- the sum of the absolute coefficients of a function at the entered symbols
abbrev pub size_of : RankedSet → Function → ℕ
size_of b f = over_entered b.entered (λ s. total_size (f s).coefs) (symbols_of_set b)

-- the sum of the positive parts of a function's constants at the entered symbols
abbrev pub height_of : RankedSet → Function → ℕ
height_of b f = over_entered b.entered (λ s. height (f s).constant) (symbols_of_set b)

-- f over q weighs at most g over e, by cross products: by the sizes and, if these are equal, by the heights
pub record WeighsNoMore (b : RankedSet) (f : Function) (q : ℕ) (g : Function) (e : ℕ) : Type 0 where
  pub sizes : size_of b f * e ≤ size_of b g * q
  pub heights : size_of b f * e ≡ size_of b g * q → height_of b f * e ≤ height_of b g * q

-- no function that ranks the rule with coefficient 0 at every shut place weighs less than this one
pub record IsLeastRank (b : RankedSet) (f : Function) (q : ℕ) : Type 0 where
  pub each : (g : Function) (e : ℕ) → Ranks b g e → Fits b g → WeighsNoMore b f q g e
