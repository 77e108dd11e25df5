-- Bounds by key: the bound of a rule is at place 0, its time, and at the places of its target, its sizes.
use Rattle.std.specs.Prelude.{◌≡◌, ℕ, zero, suc, ◌≤◌, ◌==◌, ◌&&◌, ◌||◌, nat_lt, Bool, true, false, cond, List, []}
use Rattle.std.specs.Prelude.{◌∷◌, length, Option, Some, None}
use Rattle.std.specs.List.{range_with_len}
use Rattle.rule_questions.specs.model.Programs.{Program, arity_of}
use Rattle.rule_questions.specs.model.Bounds.{Bound, Constant, Input}
use Rattle.rule_questions.specs.model.Facts.{Fact, Time, Size}
use Rattle.rule_questions.specs.model.Paths.{target_of}
use Rattle.rule_questions.specs.cert_rules.Nodes.{ResultVariable}
use Rattle.rule_questions.specs.cert_rules.Known.{Table}

-- bounds by rule and place, where they are known
abbrev pub Bounds : Type 0
Bounds = ℕ → ℕ → Option Bound

-- the key of a rule's place, and of its time
abbrev pub key : ℕ → ℕ → ResultVariable
key t i = record { rule = t; place = i }

abbrev pub time_key : ℕ → ResultVariable
time_key t = key t 0

-- the bound of a key
abbrev pub at_key : Bounds → ResultVariable → Option Bound
at_key b k = b k.rule k.place

-- whether a key is among these
abbrev pub has_key : List ResultVariable → ℕ → ℕ → Bool
has_key [] t i = false
has_key (k ∷ keys) t i = ((k.rule == t) && (k.place == i)) || has_key keys t i

-- the fact that a bound of a rule at a place is
abbrev pub place_fact : ℕ → ℕ → Bound → Fact
place_fact t zero b = Time t b
place_fact t (suc i) b = Size t (suc i) b

-- the fact that the bound of a key is b
abbrev pub fact_at : ResultVariable → Bound → Fact
fact_at k b = place_fact k.rule k.place b

-- the sizes among bounds; place 0 is no place of a target
abbrev pub size_by : Bounds → ℕ → ℕ → Option Bound
size_by b t zero = None
size_by b t (suc i) = b t (suc i)

-- the table of times and sizes over which nodes are judged
abbrev pub over : Bounds → Table
over b = record { time = λ t. b t 0; size = size_by b }

-- whether no bound is known
abbrev pub lacks : Option Bound → Bool
lacks None = true
lacks (Some b) = false

-- the rules without a time
abbrev pub is_untimed : Bounds → ℕ → Bool
is_untimed b t = lacks (b t 0)

-- the numbers of the rules, ascending
abbrev pub rule_numbers : Program → List ℕ
rule_numbers p = range_with_len 1 (length p.rules)

-- i is the number of a place of the target of rule t, from 1
pub record IsPlace (p : Program) (t i : ℕ) : Type 0 where
  pub symbol : ℕ
  pub target : target_of p t ≡ Some symbol
  pub least : 1 ≤ i
  pub last : i ≤ arity_of p symbol

-- the bounds known initially: the virtual entry occurs once, and its places have the sizes of the start arguments
abbrev pub start_size : ℕ → ℕ → Option Bound
start_size arity zero = Some (Constant 1)
start_size arity (suc j) = cond (nat_lt j arity) (Some (Input j)) None

abbrev pub start_bounds : Program → Bounds
start_bounds p zero i = start_size (arity_of p p.start) i
start_bounds p (suc t) i = None
