-- What reading remembers between the parts of a section, and properties of valid programs and of lists of copies.
use Rattle.std.proofs.Common.{◌≡◌, ℕ, zero, suc, ◌-◌, ◌<◌, ◌≤◌, ◌^◌, min, Bool, true, false, ◌||◌, List, [], ◌∷◌, ◌++◌, length}
use Rattle.std.proofs.Common.{map, Option, Some, None, refl, ap, sym, subst, ◌∙◌, arith}
use Rattle.std.specs.Prelude.{ℤ, is_some, slice_get, slice_index_or}
use Rattle.std.specs.List.{AllByRecursion, list_any}
use Rattle.std.proofs.lemmas.Bool.{or_parts}
use Rattle.std.proofs.lemmas.List.{length-map}
use Rattle.its_model.specs.model.Programs.{Name, Program, Rule, Symbol, rule_at}
use Rattle.its_model.specs.linear_forms.Forms.{Form}
use Rattle.its_model.specs.Valid.{IsValid, IsValidSymbol}
use Rattle.refined_programs.specs.Annotated.{Branch, Cases, Copy}
use Rattle.text_grammar.specs.text_core.Names.{AreDistinct, AreNames, IsName, is_among, is_same, position_of}
use Rattle.text_core.proofs.NameLaws.{differ_back, is_same_self}
use Rattle.text_core.proofs.PositionLaws.{listed_name, position_at}
use Rattle.section_text.specs.declared.action.Role.{Role}
use Rattle.section_text.specs.declared.action.Role.TheVariants as roles
use Rattle.section_text.specs.Drafts.{Draft, OpenTest, no_cases}
use Rattle.section_writer.specs.Limits.{IsCopyWithin}
use Rattle.section_writer.specs.Texts.{copy_name, symbol_name}

-- a draft without the role of its next piece and the sign that was read
pub record Kept : Type 0 where
  pub coefs : List ℤ
  pub constant : Option ℤ
  pub numbers : List ℕ
  pub lists : List (List ℕ)
  pub name : Name
  pub over : ℕ
  pub facts : List Form
  pub names : List Name
  pub copies : List Copy
  pub source : ℕ
  pub rule : ℕ
  pub target : ℕ
  pub tests : List OpenTest
  pub cases : Cases
  pub branches : List Branch

-- the draft before a piece of a role
abbrev pub in_role : Role → Kept → Draft
in_role r k = record {
  role = r;
  negative = false;
  coefs = k.coefs;
  constant = k.constant;
  numbers = k.numbers;
  lists = k.lists;
  name = k.name;
  over = k.over;
  facts = k.facts;
  names = k.names;
  copies = k.copies;
  source = k.source;
  rule = k.rule;
  target = k.target;
  tests = k.tests;
  cases = k.cases;
  branches = k.branches;
}

-- the draft before a piece that says no more than its class
abbrev pub st : Kept → Draft
st k = in_role roles.Plain k

-- no form is being read
abbrev pub bare : Kept → Kept
bare k = record k { coefs = []; constant = None }

-- neither a form nor multipliers are being read
abbrev pub cased : Kept → Kept
cased k = record k { coefs = []; constant = None; numbers = []; lists = [] }

-- no line is being read
abbrev pub lined : Kept → Kept
lined k = record k {
  coefs = [];
  constant = None;
  numbers = [];
  lists = [];
  name = [];
  facts = [];
  tests = [];
  cases = no_cases;
}

-- the names of the symbols of a program, and of copies
abbrev pub symbol_names : Program → List Name
symbol_names p = map (λ s. s.name) p.symbols

abbrev pub copy_names : List Copy → List Name
copy_names copies = map (λ c. c.name) copies

-- properties of a valid program
pub record Sure (p : Program) : Type 0 where
  pub few_rules : length p.rules ≤ 1000
  pub few_symbols : length p.symbols < 2 ^ 32
  pub symbols : AreNames (symbol_names p)

-- names that are names and differ are both
are_names : (names : List Name) → AllByRecursion IsName names → AreDistinct names → AreNames names
are_names [] h d = tt
are_names (n ∷ names) h d = (h.0, d.0, are_names names h.1 d.1)

pub sure_of : (p : Program) → IsValid p → length p.symbols < 2 ^ 32 → Sure p
sure_of p h few_symbols = record {
  few_rules = h.few_rules;
  few_symbols = few_symbols;
  symbols = are_names (symbol_names p) (named p.symbols h.symbols) h.distinct;
}
  where
    named : (ss : List Symbol) → AllByRecursion IsValidSymbol ss → AllByRecursion IsName (map (λ s. s.name) ss)
    named [] h = tt
    named (s ∷ ss) h = (h.0.name, named ss h.1)

-- the names of copies within the limits are names
pub copies_named : (p : Program) (cs : List Copy) → AllByRecursion (IsCopyWithin p) cs → AreDistinct (copy_names cs)
    → AreNames (copy_names cs)
copies_named p cs h d = are_names (copy_names cs) (named cs h) d
  where
    named : (cs : List Copy) → AllByRecursion (IsCopyWithin p) cs → AllByRecursion IsName (copy_names cs)
    named [] h = tt
    named (c ∷ cs) h = (h.0.name, named cs h.1)

-- a rule from 1 to the number of rules is there
pub rule_there : (p : Program) (r : ℕ) → 1 ≤ r → r ≤ length p.rules → is_some (rule_at p r) ≡ true
rule_there p zero some few = absurd (omega (arith, some))
rule_there p (suc t) some few = go p.rules t (omega (arith, few))
  where
    go : (rs : List Rule) (t : ℕ) → t < length rs → is_some (slice_get rs t) ≡ true
    go [] t low = absurd (omega (arith, low))
    go (r ∷ rs) zero low = refl
    go (r ∷ rs) (suc t) low = go rs t (omega (arith, low))

-- a name at a position is among the names
among_at : (names : List Name) (i : ℕ) → i < length names → is_among (slice_index_or names i []) names ≡ true
among_at [] i low = absurd (omega (arith, low))
among_at (n ∷ names) zero low = ap (λ (v : Bool). v || list_any (is_same n) names) (is_same_self n)
among_at (n ∷ names) (suc i) low =
    go (is_same (slice_index_or names i []) n) (list_any (is_same (slice_index_or names i [])) names)
    (among_at names i (omega (arith, low)))
  where
    go : (v w : Bool) → w ≡ true → (v || w) ≡ true
    go true w h = refl
    go false w h = h

-- a name of a list that is found at its position
pub record IsListed (names : List Name) (i : ℕ) (name : Name) : Type 0 where
  pub is : IsName name
  pub among : is_among name names ≡ true
  pub found : position_of name names ≡ i

listed_at : (names : List Name) (i : ℕ) → AreNames names → i < length names → IsListed names i (slice_index_or names i [])
listed_at names i are low = record {
  is = listed_name names i are low;
  among = among_at names i low;
  found = position_at names i are low;
}

-- a symbol that there is, and a copy, is found by its name
pub symbol_listed : (p : Program) → Sure p → (s : ℕ) → s < length p.symbols
    → IsListed (symbol_names p) s (symbol_name (slice_get p.symbols s))
symbol_listed p sure s low =
    subst (IsListed (symbol_names p) s) (here p.symbols s)
    (listed_at (symbol_names p) s sure.symbols (let e = length-map p.symbols (λ s. s.name) in omega (arith, e, low)))
  where
    here : (ss : List Symbol) (i : ℕ) → slice_index_or (map (λ s. s.name) ss) i [] ≡ symbol_name (slice_get ss i)
    here [] i = refl
    here (x ∷ ss) zero = refl
    here (x ∷ ss) (suc i) = here ss i

pub copy_listed : (cs : List Copy) → AreNames (copy_names cs) → (i : ℕ) → i < length cs
    → IsListed (copy_names cs) i (copy_name (slice_get cs i))
copy_listed cs are i low =
    subst (IsListed (copy_names cs) i) (here cs i)
    (listed_at (copy_names cs) i are (let e = length-map cs (λ c. c.name) in omega (arith, e, low)))
  where
    here : (cs : List Copy) (i : ℕ) → slice_index_or (copy_names cs) i [] ≡ copy_name (slice_get cs i)
    here [] i = refl
    here (x ∷ cs) zero = refl
    here (x ∷ cs) (suc i) = here cs i

-- a name that isn't among names isn't any one of them
not_one : (m n : Name) (before rest : List Name) → is_among m (before ++ n ∷ rest) ≡ false → is_same m n ≡ false
not_one m n [] rest h = (or_parts (is_same m n) (is_among m rest) h).0
not_one m n (k ∷ before) rest h = not_one m n before rest (or_parts (is_same m k) (is_among m (before ++ n ∷ rest)) h).1

-- of names that differ none is among those before it
pub new_name : (before : List Name) (n : Name) (rest : List Name) → AreDistinct (before ++ n ∷ rest)
    → is_among n before ≡ false
new_name [] n rest d = refl
new_name (m ∷ before) n rest d =
    rw (differ_back m n (not_one m n before rest d.0), new_name before n rest d.1) refl
