-- The questions about rules: whether the rows of a rule have no rational point, whether a function ranks a rule of a
-- set, and which form bounds a new value.
use Rattle.std.specs.Prelude.{ℕ, zero, suc, ◌||◌, Bool, not, nat_eq, if◌then◌else◌, List, [], ◌∷◌, ◌++◌, map, filter}
use Rattle.std.specs.Prelude.{length, replicate, slice_index_or, ℤ, pos, negsuc}
use Rattle.std.specs.List.{list_any, range_with_len}
use Rattle.linear_forms.specs.Forms.{Form}
use Rattle.linear_forms.specs.Combinations.{form_sum, form_times, zero_form}
use Rattle.linear_forms.specs.Certificates.{minus_one}
use Rattle.linear_forms.specs.Questions.{Group, Question}

-- the data of a rule for a question: the symbols that it leads from and to; its unknowns, of which the first are its
-- left variables, one for each place of its source; its rows; and the new value at each place of its target
pub record RuleForms : Type 0 where
  pub source : ℕ
  pub target : ℕ
  pub left : ℕ
  pub unknowns : ℕ
  pub rows : List Form
  pub new_values : List Form

-- the form of a constant
abbrev pub constant_form : ℤ → Form
constant_form k = record { coefs = []; constant = k }

-- the form of a single unknown
abbrev pub unknown_form : ℕ → Form
unknown_form u = record { coefs = replicate u (pos 0) ++ (pos 1 ∷ []); constant = pos 0 }

-- the negated form
abbrev pub opposite : Form → Form
opposite f = form_times (negsuc 0) f

-- the factor of a coefficient of a function before a rule: places count from 1 and have the rule's left variables, and
-- place 0 stands for the constant
abbrev pub before_rule : ℕ → Form
before_rule zero = constant_form (pos 1)
before_rule (suc i) = unknown_form i

-- the factor of a coefficient after a rule: the new value at the place
abbrev pub after_rule : RuleForms → ℕ → Form
after_rule r zero = constant_form (pos 1)
after_rule r (suc i) = slice_index_or r.new_values i zero_form

-- the question whether the rows of a rule have no point, that is, whether -1 follows from them
abbrev pub empty_question : RuleForms → Question
empty_question r = record {
  parameters = 0;
  sizes = [];
  heights = [];
  groups = record { unknowns = r.unknowns; rows = r.rows; goals = []; fixed = minus_one } ∷ [];
}

-- a set of rules of a program, ascending, one of which has to decrease; the places that are shut, at which a function
-- must have coefficient 0; and the entered symbols, at which the function is weighed
pub record RankedSet : Type 0 where
  pub symbols : ℕ
  pub arity : ℕ → ℕ
  pub rule : ℕ → RuleForms
  pub set : List ℕ
  pub strict : ℕ
  pub shut : ℕ → ℕ → Bool
  pub entered : ℕ → Bool

-- a rule of the set leads from the symbol or to it
abbrev pub has_symbol : RankedSet → ℕ → Bool
has_symbol b s = list_any (λ t. nat_eq (b.rule t).source s || nat_eq (b.rule t).target s) b.set

-- the symbols of the set, in the order of symbols
abbrev pub symbols_of_set : RankedSet → List ℕ
symbols_of_set b = filter (has_symbol b) (range_with_len 0 b.symbols)

-- a coefficient of the function: that of a place of a symbol, or of place 0, the symbol's constant
pub record Coefficient : Type 0 where
  pub symbol : ℕ
  pub place : ℕ

-- the places of a symbol that aren't shut
abbrev pub open_places : RankedSet → ℕ → List ℕ
open_places b s = filter (λ i. not (b.shut s i)) (range_with_len 1 (b.arity s))

-- the coefficients of symbols: for each its places that aren't shut, and then its constant
abbrev pub coefficients : RankedSet → List ℕ → List Coefficient
coefficients b [] = []
coefficients b (s ∷ ss) = map (λ i. record { symbol = s; place = i }) (open_places b s ++ (0 ∷ [])) ++ coefficients b ss

-- the factor of a coefficient at the source of a rule
abbrev pub at_source : RuleForms → Coefficient → Form
at_source r c = if nat_eq c.symbol r.source then before_rule c.place else zero_form

-- the factor of a coefficient at the target of a rule, after it
abbrev pub at_target : RuleForms → Coefficient → Form
at_target r c = if nat_eq c.symbol r.target then after_rule r c.place else zero_form

-- the goal that is to follow from the rows of rule t: the function at its source, less the function at its target after
-- the rule, less 1 if t is the rule that has to decrease
abbrev pub move_group : RankedSet → List Coefficient → ℕ → Group
move_group b cs t = record {
  unknowns = (b.rule t).unknowns;
  rows = (b.rule t).rows;
  goals = map (λ c. form_sum (at_source (b.rule t) c) (opposite (at_target (b.rule t) c))) cs;
  fixed = if nat_eq t b.strict then minus_one else zero_form;
}

-- the goal that is to follow from the rows of the rule that has to decrease: the function at its source, less 1
abbrev pub floor_group : RankedSet → List Coefficient → Group
floor_group b cs = record {
  unknowns = (b.rule b.strict).unknowns;
  rows = (b.rule b.strict).rows;
  goals = map (at_source (b.rule b.strict)) cs;
  fixed = minus_one;
}

-- the size of a coefficient: 1 if it belongs to a place of an entered symbol
abbrev pub size_at : RankedSet → Coefficient → ℕ
size_at b c = if b.entered c.symbol then (if nat_eq c.place 0 then 0 else 1) else 0

-- the height of a coefficient: 1 if it is the constant of an entered symbol
abbrev pub height_at : RankedSet → Coefficient → ℕ
height_at b c = if b.entered c.symbol then (if nat_eq c.place 0 then 1 else 0) else 0

-- the question whether a function with coefficient 0 at each shut place ranks the rule of the set that has to decrease:
-- no rule of the set increases it, that rule decreases it by 1, and it is at least 1 before that rule
abbrev pub rank_question : RankedSet → Question
rank_question b =
    let cs = coefficients b (symbols_of_set b) in
    record {
      parameters = length cs;
      sizes = map (size_at b) cs;
      heights = map (height_at b) cs;
      groups = map (move_group b cs) b.set ++ (floor_group b cs ∷ []);
    }

-- the new value at a place of a rule's target, counted from 1, on the upper side; on the lower side its negation
abbrev pub value_up : RuleForms → ℕ → Form
value_up r place = after_rule r place

abbrev pub value_low : RuleForms → ℕ → Form
value_low r place = opposite (after_rule r place)

-- the question which form is at least w on the points of a rule: a fixed form plus these places with coefficients to be
-- found; place 0 is the constant
abbrev pub local_question : RuleForms → Form → List ℕ → Form → Question
local_question r w places fixed = record {
  parameters = length places;
  sizes = map (λ i. if nat_eq i 0 then 0 else 1) places;
  heights = map (λ i. if nat_eq i 0 then 1 else 0) places;
  groups =
      record {
        unknowns = r.unknowns;
        rows = r.rows;
        goals = map before_rule places;
        fixed = form_sum fixed (opposite w);
      } ∷ [];
}

-- the question which constant is at least w
abbrev pub constant_question : RuleForms → Form → Question
constant_question r w = local_question r w (0 ∷ []) zero_form

-- the question whether a fixed form, a left argument or its negation, is at least w
abbrev pub fixed_question : RuleForms → Form → Form → Question
fixed_question r w fixed = local_question r w [] fixed

-- the question which form in the left arguments is at least w
abbrev pub affine_question : RuleForms → Form → Question
affine_question r w = local_question r w (range_with_len 1 r.left ++ (0 ∷ [])) zero_form
