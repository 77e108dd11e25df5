-- The state of reading a section: what has been made of the pieces so far.
use Rattle.std.specs.Prelude.{ℕ, ◌-◌, ◌^◌, min, Bool, true, false, if◌then◌else◌, List, [], ◌∷◌, ◌++◌, map, take, drop}
use Rattle.std.specs.Prelude.{Option, Some, None, ℤ, pos, neg_ℤ, slice_get}
use Rattle.text_grammar.specs.text_core.Names.{is_among, position_of}
use Rattle.its_model.specs.model.Programs.{Name, Program}
use Rattle.its_model.specs.linear_forms.Forms.{Form}
use Rattle.refined_programs.specs.Annotated.{Copy, Cases, To, Never, If, Branch}
use Rattle.section_text.specs.declared.action.Role.{Role}
use Rattle.section_text.specs.declared.action.Role.TheVariants as roles
use Rattle.section_text.specs.declared.action.Action.{Action}
use Rattle.section_text.specs.declared.action.Action.TheVariants as actions
use Rattle.section_text.specs.declared.action.TheConstants.{ACTIONS}
use Rattle.section_text.specs.declared.piece.Sign.TheVariants as signs
use Rattle.section_text.specs.declared.piece.Sort.{Sort}
use Rattle.section_text.specs.declared.piece.Sort.TheVariants.{Number, Sign}
use Rattle.section_text.specs.declared.piece.Piece.{Piece}

-- a test whose cases are being read: those in which its form is at least 0, or the other ones, after the first ones
pub data OpenTest : Type 0 where
  InYes : Form → OpenTest
  InNo : Form → Cases → OpenTest

-- the role of the next piece, and whether a `-` was read last; the last number of the form that is being read, and the
-- numbers before it; the multipliers that are being read, and the lists before them; name, symbol and facts of the copy
-- that is being read; the names of all copies, and the copies that were read; the copy that a branch leaves, its rule,
-- and the copy that its last path leads to; the tests whose cases are being read, the innermost last, and the cases
-- that were read last; and the branches that were read
pub record Draft : Type 0 where
  pub role : Role
  pub negative : Bool
  pub coefs : List ℤ
  pub constant : Option ℤ
  pub numbers : List ℕ
  pub lists : List (List ℕ)
  pub name : Name
  pub over : ℕ
  pub facts : List Form
  pub names : List Name
  pub copies : List Copy
  pub source : ℕ
  pub rule : ℕ
  pub target : ℕ
  pub tests : List OpenTest
  pub cases : Cases
  pub branches : List Branch

-- cases that lead nowhere, without multipliers
abbrev pub no_cases : Cases
no_cases = Never []

-- the state in which nothing has been read
abbrev pub begun : Draft
begun = record {
  role = roles.Plain;
  negative = false;
  coefs = [];
  constant = None;
  numbers = [];
  lists = [];
  name = [];
  over = 0;
  facts = [];
  names = [];
  copies = [];
  source = 0;
  rule = 0;
  target = 0;
  tests = [];
  cases = no_cases;
  branches = [];
}

-- a number as 32 bits hold it, and as 64 bits do, capped
abbrev pub in_32 : ℕ → ℕ
in_32 n = min n (2 ^ 32 - 1)

abbrev pub in_64 : ℕ → ℕ
in_64 n = min n (2 ^ 64 - 1)

-- a number with its sign, up to 2^63-1 in absolute value
abbrev pub signed : Bool → ℕ → ℤ
signed negative n = if negative then neg_ℤ (pos (min n (2 ^ 63 - 1))) else pos (min n (2 ^ 63 - 1))

-- the bytes of a piece of a text
abbrev pub name_bytes : List ℕ → Piece → Name
name_bytes text p = take p.len (drop p.at text)

-- the number of a piece, 0 if it is no number
abbrev pub number_in : Sort → ℕ
number_in (Number n) = n
number_in _ = 0

-- the names with one more, unless it is listed
abbrev pub with_name : Name → List Name → List Name
with_name name names = if is_among name names then names else names ++ name ∷ []

-- the state after the name of a new copy
abbrev pub with_new_name : List ℕ → Piece → Draft → Draft
with_new_name text p d =
    record d { role = roles.Plain; name = name_bytes text p; names = with_name (name_bytes text p) d.names }

-- the coefficients with the last number added, if there is one
abbrev pub with_constant : List ℤ → Option ℤ → List ℤ
with_constant coefs None = coefs
with_constant coefs (Some z) = coefs ++ z ∷ []

-- the state in which the last number of the form is a coefficient, as another number follows
abbrev pub constant_kept : Draft → Draft
constant_kept d = record d { coefs = with_constant d.coefs d.constant }

-- the state with one more number of the form
abbrev pub with_integer : ℤ → Draft → Draft
with_integer z d = record d {
  role = roles.Plain;
  negative = false;
  coefs = with_constant d.coefs d.constant;
  constant = Some z;
}

-- the state after a number of a form, or its sign
abbrev pub read_integer : Sort → Draft → Draft
read_integer (Sign signs.Minus) d = record d { negative = true }
read_integer sort d = with_integer (signed d.negative (number_in sort)) d

-- the state after a piece without a role
abbrev pub plainly_read : Draft → Draft
plainly_read d = record d { role = roles.Plain }

-- the states after the name of a symbol, of the copy that a branch leaves, and of the copy that a path leads to
abbrev pub symbol_read : Program → List ℕ → Piece → Draft → Draft
symbol_read q text p d = record d {
  role = roles.Plain;
  over = in_32 (position_of (name_bytes text p) (map (λ s. s.name) q.symbols));
}

abbrev pub source_read : List ℕ → Piece → Draft → Draft
source_read text p d = record d { role = roles.Plain; source = in_32 (position_of (name_bytes text p) d.names) }

abbrev pub target_read : List ℕ → Piece → Draft → Draft
target_read text p d = record d { role = roles.Plain; target = in_32 (position_of (name_bytes text p) d.names) }

-- the states after the number of a rule, and after a multiplier
abbrev pub rule_read : Sort → Draft → Draft
rule_read sort d = record d { role = roles.Plain; rule = in_32 (number_in sort) }

abbrev pub multiplier_read : Sort → Draft → Draft
multiplier_read sort d = record d { role = roles.Plain; numbers = d.numbers ++ in_64 (number_in sort) ∷ [] }

-- the state after a piece, by its role
abbrev pub read_in : Role → Program → List ℕ → Piece → Draft → Draft
read_in roles.Plain q text p d = plainly_read d
read_in roles.CopyWord q text p d = plainly_read d
read_in roles.NewName q text p d = with_new_name text p d
read_in roles.Symbol q text p d = symbol_read q text p d
read_in roles.BranchWord q text p d = plainly_read d
read_in roles.Source q text p d = source_read text p d
read_in roles.Rule q text p d = rule_read p.sort d
read_in roles.CaseWord q text p d = plainly_read d
read_in roles.Target q text p d = target_read text p d
read_in roles.Integer q text p d = read_integer p.sort d
read_in roles.Multiplier q text p d = multiplier_read p.sort d

-- the constant of the form that was read, and the form
abbrev pub constant_in : Option ℤ → ℤ
constant_in None = pos 0
constant_in (Some z) = z

abbrev pub form_in : Draft → Form
form_in d = record { coefs = d.coefs; constant = constant_in d.constant }

abbrev pub without_form : Draft → Draft
without_form d = record d { coefs = []; constant = None }

-- the state after a form that is a fact of the copy
abbrev pub fact_read : Draft → Draft
fact_read d = record d { coefs = []; constant = None; facts = d.facts ++ form_in d ∷ [] }

-- the state after the line of a copy
abbrev pub copy_read : Draft → Draft
copy_read d = record d {
  name = [];
  facts = [];
  copies = d.copies ++ record { name = d.name; over = d.over; facts = d.facts } ∷ [];
}

-- the state after a list of multipliers
abbrev pub list_read : Draft → Draft
list_read d = record d { numbers = []; lists = d.lists ++ d.numbers ∷ [] }

-- the states after cases that lead to a copy, and after cases that lead nowhere
abbrev pub to_read : Draft → Draft
to_read d = record d { lists = []; cases = To d.target d.lists }

abbrev pub never_read : Draft → Draft
never_read d = record d { numbers = []; cases = Never d.numbers }

-- the state after the form of a test
abbrev pub test_read : Draft → Draft
test_read d = record d { coefs = []; constant = None; tests = d.tests ++ InYes (form_in d) ∷ [] }

-- the last of a list, and those before it
abbrev pub last_of : {X : Type 0} → List X → Option X
last_of [] = None
last_of (x ∷ []) = Some x
last_of (x ∷ y ∷ xs) = last_of (y ∷ xs)

abbrev pub before_last : {X : Type 0} → List X → List X
before_last [] = []
before_last (x ∷ []) = []
before_last (x ∷ y ∷ xs) = x ∷ before_last (y ∷ xs)

-- the state after the first cases of a test: its other ones come next
abbrev pub no_begun : OpenTest → Draft → Draft
no_begun (InYes form) d = record d { tests = d.tests ++ InNo form d.cases ∷ []; cases = no_cases }
no_begun (InNo form yes_cases) d = d

abbrev pub yes_read : Option OpenTest → Draft → Draft
yes_read None d = d
yes_read (Some test) d = no_begun test (record d { tests = before_last d.tests })

-- the state after all cases of a test
abbrev pub test_ended : OpenTest → Draft → Draft
test_ended (InYes form) d = d
test_ended (InNo form yes_cases) d = record d { cases = If form yes_cases d.cases }

abbrev pub no_read : Option OpenTest → Draft → Draft
no_read None d = d
no_read (Some test) d = test_ended test (record d { tests = before_last d.tests })

-- the state after the line of a branch
abbrev pub branch_read : Draft → Draft
branch_read d = record d {
  cases = no_cases;
  branches = d.branches ++ record { source = d.source; rule = d.rule; cases = d.cases } ∷ [];
}

-- the state after an action
abbrev pub acted : Action → Draft → Draft
acted (actions.Comes role) d = record d { role = role }
acted actions.FactRead d = fact_read d
acted actions.CopyRead d = copy_read d
acted actions.ListRead d = list_read d
acted actions.ToRead d = to_read d
acted actions.NeverRead d = never_read d
acted actions.TestRead d = test_read d
acted actions.YesRead d = yes_read (last_of d.tests) d
acted actions.NoRead d = no_read (last_of d.tests) d
acted actions.BranchRead d = branch_read d

-- the state after the action of a mark, if it has one
abbrev pub acted_if : Option Action → Draft → Draft
acted_if None d = d
acted_if (Some action) d = acted action d

abbrev pub done : ℕ → Draft → Draft
done mark d = acted_if (slice_get ACTIONS mark) d
