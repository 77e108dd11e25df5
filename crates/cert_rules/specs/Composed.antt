-- The bounds that nodes compose from known times and sizes.
use Rattle.std.specs.Prelude.{ℕ, suc, ◌==◌, ◌||◌, Bool, false, cond, List, [], ◌∷◌, ℤ, pos, nat_abs, Option, Some, None}
use Rattle.rule_forms.specs.int_laws.NormalForm.{is_zero}
use Rattle.run_counting.specs.model.Programs.{Program}
use Rattle.run_counting.specs.model.Bounds.{Bound, Constant, SumOf, ProductOf, Parts, NoParts, Part}
use Rattle.rule_forms.specs.linear_forms.Forms.{Form}
use Rattle.rule_forms.specs.Bounds.{height}
use Rattle.cert_rules.specs.Nodes.{SymbolForm, RankNode}
use Rattle.cert_rules.specs.Numbers.{rounded_up}
use Rattle.run_counting.specs.model.Paths.{target_of}
use Rattle.run_counting.specs.model.Entries.{entries}
use Rattle.rule_forms.specs.linear_forms.RuleQuestions.{constant_form}
use Rattle.cert_rules.specs.Known.{known}

-- two parts
abbrev pub both_parts : Bound → Bound → Parts
both_parts a b = Part a (Part b NoParts)

-- a part for each number of a list
abbrev pub parts_for : (ℕ → Bound) → List ℕ → Parts
parts_for f [] = NoParts
parts_for f (n ∷ ns) = Part (f n) (parts_for f ns)

-- for each place whose coefficient isn't 0 and which isn't left out, in order: the absolute coefficient over den,
-- rounded up, times the place's bound
abbrev pub place_parts : List ℤ → ℕ → (ℕ → Bool) → (ℕ → Bound) → Parts
place_parts [] den left_out sizes = NoParts
place_parts (c ∷ cs) den left_out sizes =
    cond (is_zero c || left_out 0)
    (place_parts cs den (λ j. left_out (suc j)) (λ j. sizes (suc j)))
    (Part (ProductOf (both_parts (Constant (rounded_up (nat_abs c) den)) (sizes 0)))
    (place_parts cs den (λ j. left_out (suc j)) (λ j. sizes (suc j))))

-- a form over a denominator as a bound, without the places left out: the positive part of the constant over den,
-- rounded up, and the parts of the places
abbrev pub rest_bound : Form → ℕ → (ℕ → Bool) → (ℕ → Bound) → Bound
rest_bound f den left_out sizes =
    SumOf (Part (Constant (rounded_up (height f.constant) den)) (place_parts f.coefs den left_out sizes))

-- the test that no place passes
abbrev pub no_place : ℕ → Bool
no_place j = false

-- a form over a denominator as a bound, with a bound for each place
abbrev pub form_bound : Form → ℕ → (ℕ → Bound) → Bound
form_bound f den sizes = rest_bound f den no_place sizes

-- the known size of each place after rule e, or 0; places count from 1 in facts, from 0 in forms
abbrev pub sizes_after : (ℕ → ℕ → Option Bound) → ℕ → ℕ → Bound
sizes_after size e j = known (size e (suc j))

-- the form of a ranking function at a symbol: the first form listed for it, or 0 if there is none
abbrev pub rank_form : List SymbolForm → Option ℕ → Form
rank_form forms None = constant_form (pos 0)
rank_form [] (Some a) = constant_form (pos 0)
rank_form (f ∷ forms) (Some a) = cond (f.symbol == a) f.form (rank_form forms (Some a))

-- the time of entry e, times the ranking function at the symbol that it leads to
abbrev pub entry_bound : Program → RankNode → (ℕ → Option Bound) → (ℕ → ℕ → Option Bound) → ℕ → Bound
entry_bound p node time size e =
    ProductOf (both_parts (known (time e))
    (form_bound (rank_form node.forms (target_of p e)) node.den (sizes_after size e)))

-- the time that a ranking function gives: the sum over the entries of its set
abbrev pub time_of : Program → RankNode → (ℕ → Option Bound) → (ℕ → ℕ → Option Bound) → Bound
time_of p node time size = SumOf (parts_for (entry_bound p node time size) (entries p node.set))
