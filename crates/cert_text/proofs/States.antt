-- The state between the parts of a node, and properties of a valid program.
use Rattle.std.proofs.Common.{◌≡◌, ℕ, zero, suc, ◌-◌, ◌<◌, ◌≤◌, ◌^◌, min, Bool, true, false, cond, List, [], ◌∷◌, length}
use Rattle.std.proofs.Common.{map, Some, None, refl, ap, sym, subst, ◌∙◌, arith}
use Rattle.std.specs.Prelude.{nat_lt, slice_get, slice_index_or, if◌then◌else◌}
use Rattle.std.specs.List.{AllByRecursion, list_all}
use Rattle.std.proofs.lemmas.Bool.{le-ltb as false_lt}
use Rattle.std.proofs.lemmas.List.{length-map}
use Rattle.its_model.specs.model.Programs.{Name, Symbol, Program, arity_in, arity_of}
use Rattle.its_model.specs.model.Bounds.{Bound}
use Rattle.its_model.specs.Valid.{IsValid, IsValidSymbol}
use Rattle.cert_types.specs.rule_forms.linear_forms.Limits.{certificate_limit, point_limit}
use Rattle.cert_types.specs.cert_rules.AcceptsPlain.{IsRule}
use Rattle.cert_types.specs.cert_rules.Nodes.{Proof}
use Rattle.cert_types.specs.cert_rules.Gaps.{Gap}
use Rattle.text_grammar.specs.text_core.Choices.{when}
use Rattle.text_grammar.specs.text_core.Names.{IsName, AreDistinct, AreNames, begins_name, continues_name, position_of}
use Rattle.text_core.proofs.PositionLaws.{listed_name, position_at}
use Rattle.cert_lexer.specs.declared.inner.Inner.{Inner}
use Rattle.cert_lexer.specs.declared.kind.ProofKind.TheVariants as kind
use Rattle.cert_lexer.specs.Lexing.{symbol_names, symbol_of}
use Rattle.cert_text.specs.declared.phase.Next.TheVariants as next
use Rattle.cert_text.specs.Remembered.{Draft, Outer, State}
use Rattle.cert_text.specs.Texts.{name_at, name_in}

-- the part of the state that a node only adds to: lines, levels and premises
pub record Base : Type 0 where
  pub priced : Bool
  pub paid : Bool
  pub in_gap : Bool
  pub lemmas : List Proof
  pub gaps : List Gap
  pub levels : ℕ
  pub used : List Proof
  pub outer : Outer

-- what was read last: a number with its sign, a symbol, a node and a bound
pub record Last : Type 0 where
  pub number : ℕ
  pub negative : Bool
  pub symbol : ℕ
  pub node : Proof
  pub bound : Bound

-- the state between two parts, with an open bound's pieces and without
abbrev pub held : Base → Last → Draft → List Inner → State
held b l d xs = record {
  coming = next.Nothing;
  priced = b.priced;
  paid = b.paid;
  in_gap = b.in_gap;
  lemmas = b.lemmas;
  gaps = b.gaps;
  levels = b.levels;
  node = l.node;
  used = b.used;
  outer = b.outer;
  draft = d;
  number = l.number;
  negative = l.negative;
  symbol = l.symbol;
  pieces = xs;
  bound = l.bound;
}

abbrev pub st : Base → Last → Draft → State
st b l d = held b l d []

-- what was read last, with another number and sign
abbrev pub now : Last → ℕ → Bool → Last
now l n v = record l { number = n; negative = v }

-- the greatest number that is read
abbrev pub limit_of : Base → ℕ
limit_of b = if b.in_gap then point_limit else certificate_limit

pub limit_least : (b : Base) → 2 ^ 45 ≤ limit_of b
limit_least b = go b.in_gap
  where
    go : (v : Bool) → 2 ^ 45 ≤ cond v point_limit certificate_limit
    go true = omega arith
    go false = omega arith

pub limit_most : (b : Base) → limit_of b ≤ certificate_limit
limit_most b = go b.in_gap
  where
    go : (v : Bool) → cond v point_limit certificate_limit ≤ certificate_limit
    go true = omega arith
    go false = omega arith

-- outside a gap the limit of numbers is that of certificates, and in a gap that of points
pub limit_outside : (b : Base) → b.in_gap ≡ false → (n : ℕ) → n ≤ certificate_limit → n ≤ limit_of b
limit_outside b e n l = subst (λ (v : Bool). n ≤ cond v point_limit certificate_limit) (sym e) l

pub limit_inside : (b : Base) → b.in_gap ≡ true → (n : ℕ) → n ≤ point_limit → n ≤ limit_of b
limit_inside b e n l = subst (λ (v : Bool). n ≤ cond v point_limit certificate_limit) (sym e) l

-- a number within a limit isn't too large
pub none_large : (limit n : ℕ) → n ≤ limit → when (nat_lt limit n) kind.NumberTooLarge ≡ None
none_large limit n l = ap (λ (v : Bool). when v kind.NumberTooLarge) (false_lt limit n l)

-- the properties of a valid program that reading needs
pub record Sure (p : Program) : Type 0 where
  pub few_rules : length p.rules ≤ 1000
  pub few_places : (s : ℕ) → arity_of p s ≤ 32
  pub few_symbols : length p.symbols < 2 ^ 32
  pub symbols : AreNames (symbol_names p)
  pub arguments : AreNames p.start_names
  pub few_arguments : length p.start_names ≤ 32

-- names that are all valid and differ satisfy `AreNames`
are_names : (names : List Name) → AllByRecursion IsName names → AreDistinct names → AreNames names
are_names [] h d = tt
are_names (n ∷ names) h d = (h.0, d.0, are_names names h.1 d.1)

-- a symbol of a valid program has at most 32 places, and its name is a name
few : (ss : List Symbol) → AllByRecursion IsValidSymbol ss → (s : ℕ) → arity_in (slice_get ss s) ≤ 32
few [] h s = omega arith
few (x ∷ ss) h zero = h.0.arity
few (x ∷ ss) h (suc s) = few ss h.1 s

named : (ss : List Symbol) → AllByRecursion IsValidSymbol ss → AllByRecursion IsName (map (λ s. s.name) ss)
named [] h = tt
named (x ∷ ss) h = (h.0.name, named ss h.1)

-- a valid program has these properties
pub sure_of : (p : Program) → IsValid p → length p.symbols < 2 ^ 32 → Sure p
sure_of p h few_symbols = record {
  few_rules = h.few_rules;
  few_places = few p.symbols h.symbols;
  few_symbols = few_symbols;
  symbols = are_names (symbol_names p) (named p.symbols h.symbols) h.distinct;
  arguments = are_names p.start_names h.start_names h.start_distinct;
  few_arguments = (let e = h.start_places in let l = few p.symbols h.symbols p.start in omega (arith, e, l));
}

-- an element that is found has a position below the length
pub got_low : {X : Type 0} (xs : List X) (n : ℕ) (x : X) → slice_get xs n ≡ Some x → n < length xs
got_low [] n x e = cc
got_low (y ∷ ys) zero x e = omega arith
got_low (y ∷ ys) (suc n) x e = omega (arith, got_low ys n x e)

-- the number of a rule is at least 1 and at most 1000
pub rule_low : (p : Program) (r : ℕ) → Sure p → IsRule p r → r ≤ 1000
rule_low p zero sure is = let e = is.numbered in cc
rule_low p (suc t) sure is =
    let l = got_low p.rules t is.rule is.numbered in let m = sure.few_rules in omega (arith, l, m)

-- the name at a position of the list of names is that of the symbol
pub name_read : (ss : List Symbol) (s : ℕ) → slice_index_or (map (λ s. s.name) ss) s [] ≡ name_in (slice_get ss s)
name_read [] s = refl
name_read (x ∷ ss) zero = refl
name_read (x ∷ ss) (suc s) = name_read ss s

-- the name of an existing symbol
pub record HasName (p : Program) (s : ℕ) : Type 0 where
  pub first : ℕ
  pub others : List ℕ
  pub bytes : name_at p s ≡ first ∷ others
  pub begins : begins_name first ≡ true
  pub goes_on : list_all continues_name others ≡ true
  pub found : symbol_of (symbol_names p) (first ∷ others) ≡ s

pub symbol_name : (p : Program) → Sure p → (s : ℕ) → s < length p.symbols → HasName p s
symbol_name p sure s l =
    go (slice_index_or names s []) (listed_name names s sure.symbols low) refl
  where
    names : List Name
    names = symbol_names p

    low : s < length names
    low = omega (arith, l, length-map p.symbols (λ s. s.name))

    go : (w : Name) → IsName w → slice_index_or names s [] ≡ w → HasName p s
    go [] is e = absurd is
    go (c ∷ cs) is e = record {
      first = c;
      others = cs;
      bytes = sym (name_read p.symbols s) ∙ e;
      begins = is.0;
      goes_on = is.1;
      found =
          ap (λ (w : Name). symbol_of names w) (sym e)
          ∙ (let q = position_at names s sure.symbols low in let few = sure.few_symbols in
          let m : min (position_of (slice_index_or names s []) names) (2 ^ 32 - 1) ≡ s = omega (arith, q, l, few) in m);
    }
