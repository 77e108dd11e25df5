-- Nodes with all of their premises are read along their texts.
use Rattle.std.proofs.Common.{◌≡◌, ℕ, suc, ◌+◌, ◌-◌, ◌<◌, ◌≤◌, ◌^◌, Bool, true, false, List, [], ◌∷◌, ◌++◌, length, map}
use Rattle.std.proofs.Common.{None, refl, ap, sym, ◌∙◌, arith, inl, inr, append-nil, append_assoc}
use Rattle.std.specs.Prelude.{nat_lt, nat_le, ◌||◌, ◌&&◌, not, codes, All, Option}
use Rattle.std.specs.List.{AllByRecursion}
use Rattle.std.specs.Fmt.{decimal}
use Rattle.std.specs.Char.{is_ascii_digit}
use Rattle.std.proofs.lemmas.Bool.{le-ltb as false_lt}
use Rattle.std.proofs.lemmas.Bool.Decides.{nat_tests}
use Rattle.its_model.specs.model.Programs.{Program}
use Rattle.its_model.specs.model.Bounds.{Constant}
use Rattle.its_model.proofs.ListLaws.{all-from}
use Rattle.bound_text.specs.Texts.{text_of as text_of_bound}
use Rattle.bound_text.proofs.TextLexing.{Closes}
use Rattle.cert_types.specs.Views.{uses_of}
use Rattle.cert_types.specs.cert_rules.AcceptsPlain.{IsRule}
use Rattle.cert_types.specs.rule_forms.linear_forms.Limits.{certificate_limit}
use Rattle.cert_types.specs.cert_rules.Limits.{AreInLimit}
use Rattle.cert_types.specs.cert_rules.Nodes.{Proof, Cite, Start, Empty, Unreached, Never, Rank, Spread, Cycle}
use Rattle.cert_types.specs.cert_rules.Nodes.{Weaken, CostBound, Proofs, NoProof, AndProof}
use Rattle.text_grammar.specs.text_core.Choices.{when}
use Rattle.text_grammar.specs.text_core.Names.{begins_name, continues_name}
use Rattle.std.specs.List.{list_all}
use Rattle.text_core.proofs.PrefixLaws.{Stops}
use Rattle.text_grammar.specs.declared.symbol.Symbol.{Symbol}
use Rattle.text_grammar.specs.declared.symbol.Symbol.TheVariants as item
use Rattle.cert_lexer.specs.declared.kind.ProofKind.{ProofKind}
use Rattle.cert_lexer.specs.declared.kind.ProofKind.TheVariants as kind
use Rattle.cert_lexer.specs.declared.piece.Mode.TheVariants as mode
use Rattle.cert_lexer.specs.Grammar.{class_of_word}
use Rattle.cert_lexer.specs.Lexing.{ends_bound, mode_with, symbol_names, symbol_of, word_of}
use Rattle.cert_text.specs.declared.phase.Next.TheVariants as next
use Rattle.cert_text.specs.NumberFaults.{fault_of_node, or_else}
use Rattle.cert_text.specs.Lists.{listed, numbers_text}
use Rattle.cert_text.specs.Remembered.{Draft, Inside, State, in_64, no_draft}
use Rattle.cert_text.specs.Spelled.{AreProofsWithin, IsProofWithin, IsMemberWithin}
use Rattle.cert_text.specs.Texts.{cost_by_text, form_text, has_cost, have_cost, member_text, more_uses_text, node_text}
use Rattle.cert_text.specs.Texts.{uses_text}
use Rattle.cert_text.proofs.Along.{Along, Bytes, Then, becomes, flatten, makes, marks, reads, spelled_as}
use Rattle.cert_text.proofs.Cutting.{AtBound, AtClosed, AtPlain, Bare, Ending, blank, blank_closed, blank_to, brace, brace_at}
use Rattle.cert_text.proofs.Cutting.{bracket, bracket_at, mode_at, named, number, semicolon_at, to_cut, word}
use Rattle.cert_text.proofs.InnerTexts.{whole_bound}
use Rattle.cert_text.proofs.Listing.{numbers, plain, rule, rules, same_32}
use Rattle.cert_text.proofs.MemberTexts.{by, member, members}
use Rattle.cert_text.proofs.PartTexts.{both_true, fine, forms, moves}
use Rattle.cert_text.proofs.States.{Base, Last, Sure, limit_least, limit_of, limit_outside, none_large, st}

-- the piece after a node
pub data Ender : Type 0 where
  Feed : Ender
  Semi : Ender
  Brace : Ender
  Bracket : Ender

abbrev pub byte_of : Ender → ℕ
byte_of Feed = 10
byte_of Semi = 59
byte_of Brace = 125
byte_of Bracket = 41

-- the piece after a node ends a bound, a name and a number
ender_ends : (e : Ender) → ends_bound 0 (byte_of e) ≡ true
ender_ends Feed = refl
ender_ends Semi = refl
ender_ends Brace = refl
ender_ends Bracket = refl

ender_closes : (e : Ender) (others : List ℕ) → Closes (byte_of e ∷ others)
ender_closes Feed others = (refl, refl, refl)
ender_closes Semi others = (refl, refl, refl)
ender_closes Brace others = (refl, refl, refl)
ender_closes Bracket others = (refl, refl, refl)

name_stops : (e : Ender) (others : List ℕ) → Stops continues_name (byte_of e ∷ others)
name_stops e others = (ender_closes e others).0

digit_stops : (e : Ender) (others : List ℕ) → Stops is_ascii_digit (byte_of e ∷ others)
digit_stops e others = (ender_closes e others).1

-- the premises of a node end a name and a number
uses_name : (p : Program) (us : Proofs) (rest : List ℕ) → Stops continues_name (uses_text p us ++ rest)
uses_name p NoProof rest = refl
uses_name p (AndProof v us) rest = refl

uses_digit : (p : Program) (us : Proofs) (rest : List ℕ) → Stops is_ascii_digit (uses_text p us ++ rest)
uses_digit p NoProof rest = refl
uses_digit p (AndProof v us) rest = refl

-- derivations as a list
abbrev pub list_in : Proofs → List Proof
list_in NoProof = []
list_in (AndProof v us) = v ∷ list_in us

pub uses_same : (us : Proofs) → uses_of (list_in us) ≡ us
uses_same NoProof = refl
uses_same (AndProof v us) = ap (λ (ws : Proofs). AndProof v ws) (uses_same us)

-- the disjunction with false is the other test
pub or_false : (a : Bool) → a ≡ (a || false)
or_false true = refl
or_false false = refl

pub or_true : (a : Bool) → true ≡ (a || true)
or_true true = refl
or_true false = refl

pub or_assoc : (a b c : Bool) → ((a || b) || c) ≡ (a || (b || c))
or_assoc true b c = refl
or_assoc false b c = refl

pub or_left : (a b : Bool) → a ≡ true → (a || b) ≡ true
or_left true b h = refl
or_left false b h = cc

pub or_right : (a b : Bool) → b ≡ true → (a || b) ≡ true
or_right true b h = refl
or_right false b h = h

-- the state one level deeper
abbrev pub deeper : Base → Base
deeper b = record b { levels = suc b.levels }

-- the state after a node that is on a cost or isn't
abbrev pub paid : Base → Bool → Base
paid b v = record b { paid = v }

-- a level within the limit isn't too deep
deep_none : (level : ℕ) → level ≤ 64 → when (nat_lt 64 level) kind.TooDeep ≡ None
deep_none level l = ap (λ (v : Bool). when v kind.TooDeep) (false_lt 64 level l)

-- the number of an earlier lemma has no fault
lemma_none : (limit count n : ℕ) → n ≤ limit → 1 ≤ n → n ≤ count
    → or_else (when (nat_lt limit n) kind.NumberTooLarge) (when (not (nat_lt 0 n && nat_le n count)) kind.BadReference)
    ≡ None
lemma_none limit count n small some few =
    let first : nat_lt 0 n ≡ true = grind (arith, nat_tests) in
    let last : nat_le n count ≡ true = grind (arith, nat_tests) in
    ap (λ (o : Option ProofKind). or_else o (when (not (nat_lt 0 n && nat_le n count)) kind.BadReference))
    (none_large limit n small)
    ∙ ap (λ (v : Bool). when (not v) kind.BadReference) (both_true (nat_lt 0 n) (nat_le n count) first last)

-- after a node the level is the one around it
pub ended : (b : Base) (v w : Bool) (m : Last) (u : Proof) → v ≡ w
    → st (record (paid b v) { levels = suc b.levels - 1 }) (record m { node = u; bound = Constant 0 }) no_draft
    ≡ st (paid b w) (record m { node = u; bound = Constant 0 }) no_draft
ended b v w m u e =
    let less : suc b.levels - 1 ≡ b.levels = omega arith in
    ap (λ (n : ℕ). st (record (paid b v) { levels = n }) (record m { node = u; bound = Constant 0 }) no_draft) less
    ∙ ap (λ (x : Bool). st (paid b x) (record m { node = u; bound = Constant 0 }) no_draft) e

module _ {p : Program} {ss : List Symbol} {rest : List ℕ} {Q : State → Type 0} (b : Base) (l : Last) (d : Draft) where
  -- a node begins with its word
  begins : (c : ℕ) (others : List ℕ) → suc b.levels ≤ 64 → begins_name c ≡ true → list_all continues_name others ≡ true
      → Stops continues_name rest
      → fault_of_node (record (st (deeper b) l no_draft) { coming = next.Node }) (word_of (c ∷ others)) ≡ None
      → Along p ss (st (deeper b) (record l { symbol = symbol_of (symbol_names p) (c ∷ others) }) no_draft)
      (mode_with mode.Plain (named p c others)) rest Q
      → Along p (item.Mark 4 ∷ item.Piece (class_of_word (word_of (c ∷ others))) ∷ ss) (st b l d) mode.Plain
      (c ∷ (others ++ rest)) Q
  begins c others level first all stops none more =
      let more_levels : in_64 (b.levels + 1) ≡ suc b.levels = omega (arith, level) in
      marks 4 (becomes (ap (λ (n : ℕ). record (st (record b { levels = n }) l no_draft) { coming = next.Node }) more_levels)
      (word c others first all stops none more))

-- the bytes after the premises that are left
record Tail (bytes : List ℕ) : Type 0 where
  pub ender : Ender
  pub others : List ℕ
  pub is : bytes ≡ byte_of ender ∷ others

tail_of : (p : Program) (us : Proofs) (rest : List ℕ) → Tail (more_uses_text p us ++ (125 ∷ rest))
tail_of p NoProof rest = record { ender = Brace; others = rest; is = refl }
tail_of p (AndProof v us) rest = record { ender = Semi; others = _; is = refl }

-- lists of multipliers that are within the limit by `All` are so by recursion
each_list : (nss : List (List ℕ)) → All AreInLimit nss
    → AllByRecursion (AllByRecursion (λ n. n ≤ certificate_limit)) nss
each_list nss h = go nss (all-from AreInLimit nss h)
  where
    go : (nss : List (List ℕ)) → AllByRecursion AreInLimit nss
        → AllByRecursion (AllByRecursion (λ n. n ≤ certificate_limit)) nss
    go [] h = tt
    go (ns ∷ nss) h = (all-from (λ n. n ≤ certificate_limit) ns h.0, go nss h.1)

module _ {p : Program} (sure : Sure p) where
  mutual
    -- a node with all of its premises is read
    pub node : (v : Proof) {ss : List Symbol} {Q : State → Type 0} (b : Base) (l : Last) (d : Draft) (e : Ender)
        (others : List ℕ) → b.in_gap ≡ false → length b.lemmas ≤ 100000
        → IsProofWithin p (length b.lemmas) (suc b.levels) v → (has_cost v ≡ true → b.priced ≡ true)
        → ((m : Last) (g : Draft) (k : Ending) → m.node ≡ v
        → Along p ss (st (paid b (b.paid || has_cost v)) m g) (mode_at k) (byte_of e ∷ others) Q)
        → Along p (item.Made 4 ∷ ss) (st b l d) mode.Plain (node_text p v ++ byte_of e ∷ others) Q
    node (Cite n) b l d e others outside few h priced more =
        let small : n < 2 ^ 32 = (let k = h.1.1 in omega (arith, k, few)) in
        makes 4 (item.Mark 4 ∷ item.Piece 4 ∷ item.Piece 32 ∷ item.Mark 5 ∷ item.Made 8 ∷ item.Mark 6 ∷ []) (inl refl)
        (begins b l d 99 (codes "ite") h.0 refl refl refl (deep_none (suc b.levels) h.0)
        (blank Bare (marks 5 (number Bare n (omega (arith, small)) (digit_stops e others)
        (lemma_none (limit_of b) (length b.lemmas) n
        (let least = limit_least b in let few_lemmas = h.1.1 in omega (arith, least, few_lemmas, few)) h.1.0 h.1.1)
        (marks 6 (becomes
        (ap (λ (k : ℕ). st (record b { levels = suc b.levels - 1 })
        (record l { symbol = symbol_of (symbol_names p) (codes "cite"); number = n; node = Cite k; bound = Constant 0 })
        no_draft) (same_32 n small)
        ∙ ended b b.paid (b.paid || false) (record l { symbol = symbol_of (symbol_names p) (codes "cite"); number = n })
        (Cite n) (or_false b.paid))
        (more (record l { symbol = symbol_of (symbol_names p) (codes "cite"); number = n; node = Cite n; bound = Constant 0 })
        no_draft AtPlain refl)))))))
    node Start b l d e others outside few h priced more =
        makes 4 (item.Mark 4 ∷ item.Piece 5 ∷ item.Mark 7 ∷ []) (inr (inl refl))
        (begins b l d 115 (codes "tart") h.0 refl refl (name_stops e others) (deep_none (suc b.levels) h.0)
        (marks 7 (becomes (ended b b.paid (b.paid || false) (record l { symbol = symbol_of (symbol_names p) (codes "start") })
        Start (or_false b.paid))
        (more (record l { symbol = symbol_of (symbol_names p) (codes "start"); node = Start; bound = Constant 0 }) no_draft
        AtPlain refl))))
    node (Empty r ms) b l d e others outside few h priced more =
        spelled_as (flatten (Then (Bytes (codes "empty ")) (Then (Bytes (decimal r)) (Then (Bytes (codes " "))
        (Bytes (numbers_text ms))))) (byte_of e ∷ others))
        (makes 4 (item.Mark 4 ∷ item.Piece 6 ∷ item.Piece 32 ∷ item.Made 9 ∷ item.Piece 32 ∷ item.Made 15 ∷ item.Mark 8 ∷ [])
        (inr (inr (inl refl)))
        (begins b l d 101 (codes "mpty") h.0 refl refl refl (deep_none (suc b.levels) h.0)
        (blank Bare (rule (deeper b) (record l { symbol = symbol_of (symbol_names p) (codes "empty") }) no_draft r sure h.1.0 refl
        (blank Bare (numbers (deeper b) ms
        (fine (deeper b) outside ms (all-from (λ k. k ≤ certificate_limit) ms h.1.1))
        (record l { symbol = symbol_of (symbol_names p) (codes "empty"); number = r }) (record no_draft { rule = r })
        (λ m. marks 8 (becomes (ended b b.paid (b.paid || false) m (Empty r ms) (or_false b.paid))
        (more (record m { node = Empty r ms; bound = Constant 0 }) no_draft AtPlain refl)))))))))
    node (Unreached r us) b l d e others outside few h priced more =
        spelled_as (flatten (Then (Bytes (codes "unreached ")) (Then (Bytes (decimal r)) (Bytes (uses_text p us))))
        (byte_of e ∷ others))
        (makes 4 (item.Mark 4 ∷ item.Piece 7 ∷ item.Piece 32 ∷ item.Made 9 ∷ item.Made 5 ∷ item.Mark 9 ∷ [])
        (inr (inr (inr (inl refl))))
        (begins b l d 117 (codes "nreached") h.0.0 refl refl refl (deep_none (suc b.levels) h.0.0)
        (blank Bare (rule (deeper b) (record l { symbol = symbol_of (symbol_names p) (codes "unreached") }) no_draft r sure
        h.0.1 (uses_digit p us (byte_of e ∷ others))
        (uses us (deeper b) (record l { symbol = symbol_of (symbol_names p) (codes "unreached"); number = r })
        (record no_draft { rule = r }) (byte_of e ∷ others) outside few h.1 priced
        (λ m. marks 9 (becomes
        (ap (λ (ws : Proofs). st (record (paid b (b.paid || have_cost us)) { levels = suc b.levels - 1 })
        (record m { node = Unreached r ws; bound = Constant 0 }) no_draft) (uses_same us)
        ∙ ended b (b.paid || have_cost us) (b.paid || have_cost us) m (Unreached r us) refl)
        (more (record m { node = Unreached r us; bound = Constant 0 }) no_draft AtPlain refl))))))))
    node (Never child) b l d e others outside few h priced more =
        spelled_as (flatten (Then (Bytes (codes "never (")) (Then (Bytes (node_text p child)) (Bytes (codes ")"))))
        (byte_of e ∷ others))
        (makes 4 (item.Mark 4 ∷ item.Piece 8 ∷ item.Piece 32 ∷ item.Piece 38 ∷ item.Made 4 ∷ item.Piece 39 ∷ item.Mark 10 ∷ [])
        (inr (inr (inr (inr (inl refl)))))
        (begins b l d 110 (codes "ever") h.0.0 refl refl refl (deep_none (suc b.levels) h.0.0)
        (blank Bare (bracket (node child (deeper b) (record l { symbol = symbol_of (symbol_names p) (codes "never") }) no_draft
        Bracket (byte_of e ∷ others) outside few h.1 priced
        (λ m g k is. bracket_at k (marks 10 (becomes
        (ap (λ (w : Proof). st (record (paid b (b.paid || has_cost child)) { levels = suc b.levels - 1 })
        (record m { node = Never w; bound = Constant 0 }) no_draft) is
        ∙ ended b (b.paid || has_cost child) (b.paid || has_cost child) m (Never child) refl)
        (more (record m { node = Never child; bound = Constant 0 }) no_draft AtClosed refl)))))))))
    node (Rank n us) b l d e others outside few h priced more =
        spelled_as (flatten (Then (Then (Then (Bytes (codes "rank ")) (Then (Bytes (decimal n.rule)) (Then (Bytes (codes " set "))
        (Then (Bytes (numbers_text n.set)) (Then (Bytes (codes " den ")) (Bytes (decimal n.den)))))))
        (Then (Bytes (codes " forms ")) (Then (Bytes (listed (map (form_text p) n.forms))) (Then (Bytes (codes " moves "))
        (Then (Bytes (listed (map numbers_text n.moves))) (Then (Bytes (codes " floor ")) (Bytes (numbers_text n.floor))))))))
        (Bytes (uses_text p us))) (byte_of e ∷ others))
        (makes 4 (item.Mark 4 ∷ item.Piece 9 ∷ item.Piece 32 ∷ item.Made 9 ∷ item.Piece 32 ∷ item.Piece 15 ∷ item.Piece 32 ∷
        item.Made 11 ∷ item.Piece 32 ∷ item.Piece 16 ∷ item.Piece 32 ∷ item.Made 10 ∷ item.Piece 32 ∷ item.Piece 17 ∷
        item.Piece 32 ∷ item.Made 23 ∷ item.Piece 32 ∷ item.Piece 18 ∷ item.Piece 32 ∷ item.Made 26 ∷ item.Piece 32 ∷
        item.Piece 19 ∷ item.Piece 32 ∷ item.Made 15 ∷ item.Made 5 ∷ item.Mark 11 ∷ [])
        (inr (inr (inr (inr (inr (inl refl))))))
        (begins b l d 114 (codes "ank") h.0.0 refl refl refl (deep_none (suc b.levels) h.0.0)
        (blank Bare (rule (deeper b) (record l { symbol = symbol_of (symbol_names p) (codes "rank") }) no_draft n.rule sure
        h.0.1.rule refl
        (blank Bare (word 115 (codes "et") refl refl refl refl
        (blank Bare (rules sure (deeper b) n.set (all-from (IsRule p) n.set h.0.1.set)
        (record l { symbol = symbol_of (symbol_names p) (codes "set"); number = n.rule }) (record no_draft { rule = n.rule })
        (λ m. blank Bare (word 100 (codes "en") refl refl refl refl
        (blank Bare (plain (deeper b) (record m { symbol = symbol_of (symbol_names p) (codes "den") })
        (record no_draft { rule = n.rule; set = n.set }) n.den (limit_outside b outside n.den h.0.1.den) refl
        (blank Bare (word 102 (codes "orms") refl refl refl refl
        (blank Bare (forms sure (deeper b) outside n.forms h.0.1.some_form (all-from _ n.forms h.0.1.forms)
        (record m { symbol = symbol_of (symbol_names p) (codes "forms"); number = n.den })
        (record no_draft { rule = n.rule; set = n.set; den = n.den })
        (λ m1. blank Bare (word 109 (codes "oves") refl refl refl refl
        (blank Bare (moves sure (deeper b) outside n.moves h.0.1.some_move (each_list n.moves h.0.1.moves)
        (record m1 { symbol = symbol_of (symbol_names p) (codes "moves") })
        (record no_draft { rule = n.rule; set = n.set; den = n.den; forms = n.forms })
        (λ m2. blank Bare (word 102 (codes "loor") refl refl refl refl
        (blank Bare (numbers (deeper b) n.floor
        (fine (deeper b) outside n.floor (all-from (λ k. k ≤ certificate_limit) n.floor h.0.1.floor))
        (record m2 { symbol = symbol_of (symbol_names p) (codes "floor") })
        (record no_draft { rule = n.rule; set = n.set; den = n.den; forms = n.forms; moves = n.moves })
        (λ m3. uses us (deeper b) m3
        (record no_draft { rule = n.rule; set = n.set; den = n.den; forms = n.forms; moves = n.moves; numbers = n.floor })
        (byte_of e ∷ others) outside few h.1 priced
        (λ m4. marks 11 (becomes
        (ap (λ (ws : Proofs). st (record (paid b (b.paid || have_cost us)) { levels = suc b.levels - 1 })
        (record m4 { node = Rank n ws; bound = Constant 0 }) no_draft) (uses_same us)
        ∙ ended b (b.paid || have_cost us) (b.paid || have_cost us) m4 (Rank n us) refl)
        (more (record m4 { node = Rank n us; bound = Constant 0 }) no_draft AtPlain refl))))))))))))))))))))))))))))
    node (Spread w us) b l d e others outside few h priced more =
        spelled_as (flatten (Then (Bytes (codes "spread ")) (Then (Bytes (member_text w)) (Bytes (uses_text p us))))
        (byte_of e ∷ others))
        (makes 4 (item.Mark 4 ∷ item.Piece 10 ∷ item.Piece 32 ∷ item.Made 28 ∷ item.Made 5 ∷ item.Mark 12 ∷ [])
        (inr (inr (inr (inr (inr (inr (inl refl)))))))
        (begins b l d 115 (codes "pread") h.0.0 refl refl refl (deep_none (suc b.levels) h.0.0)
        (blank Bare (member sure (deeper b) outside w h.0.1 (uses_name p us (byte_of e ∷ others))
        (record l { symbol = symbol_of (symbol_names p) (codes "spread") })
        (record { den = 0; numbers = []; integers = []; form = no_draft.form }) 0 no_draft.result_variable no_draft
        (λ m g. uses us (deeper b) m _ (byte_of e ∷ others) outside few h.1 priced
        (λ m4. marks 12 (becomes
        (ap (λ (ws : Proofs). st (record (paid b (b.paid || have_cost us)) { levels = suc b.levels - 1 })
        (record m4 { node = Spread w ws; bound = Constant 0 }) no_draft) (uses_same us)
        ∙ ended b (b.paid || have_cost us) (b.paid || have_cost us) m4 (Spread w us) refl)
        (more (record m4 { node = Spread w us; bound = Constant 0 }) no_draft AtPlain refl))))))))
    node (Cycle ms us) b l d e others outside few h priced more =
        spelled_as (flatten (Then (Bytes (codes "cycle ")) (Then (Bytes (listed (map member_text ms))) (Bytes (uses_text p us))))
        (byte_of e ∷ others))
        (makes 4 (item.Mark 4 ∷ item.Piece 11 ∷ item.Piece 32 ∷ item.Piece 34 ∷ item.Made 28 ∷ item.Made 29 ∷ item.Made 5 ∷
        item.Mark 13 ∷ [])
        (inr (inr (inr (inr (inr (inr (inr (inl refl))))))))
        (begins b l d 99 (codes "ycle") h.0.0 refl refl refl (deep_none (suc b.levels) h.0.0)
        (blank Bare (members sure (deeper b) outside ms h.0.1.0 (all-from (IsMemberWithin p) ms h.0.1.1)
        (record l { symbol = symbol_of (symbol_names p) (codes "cycle") })
        (record { den = 0; numbers = []; integers = []; form = no_draft.form }) 0 no_draft.result_variable no_draft
        (λ m g k sq. uses us (deeper b) m _ (byte_of e ∷ others) outside few h.1 priced
        (λ m4. marks 13 (becomes
        (ap (λ (ws : Proofs). st (record (paid b (b.paid || have_cost us)) { levels = suc b.levels - 1 })
        (record m4 { node = Cycle ms ws; bound = Constant 0 }) no_draft) (uses_same us)
        ∙ ended b (b.paid || have_cost us) (b.paid || have_cost us) m4 (Cycle ms us) refl)
        (more (record m4 { node = Cycle ms us; bound = Constant 0 }) no_draft AtPlain refl))))))))
    node (Weaken child w) b l d e others outside few h priced more =
        spelled_as (flatten (Then (Bytes (codes "weaken (")) (Then (Bytes (node_text p child)) (Then (Bytes (codes ") to "))
        (Bytes (text_of_bound p.start_names w))))) (byte_of e ∷ others))
        (makes 4 (item.Mark 4 ∷ item.Piece 12 ∷ item.Piece 32 ∷ item.Piece 38 ∷ item.Made 4 ∷ item.Piece 39 ∷ item.Piece 32 ∷
        item.Piece 24 ∷ item.Piece 32 ∷ item.Piece 44 ∷ item.Made 40 ∷ item.Mark 14 ∷ [])
        (inr (inr (inr (inr (inr (inr (inr (inr (inl refl)))))))))
        (begins b l d 119 (codes "eaken") h.0.0 refl refl refl (deep_none (suc b.levels) h.0.0)
        (blank Bare (bracket (node child (deeper b) (record l { symbol = symbol_of (symbol_names p) (codes "weaken") }) no_draft
        Bracket _ outside few h.1 priced
        (λ m g k is. bracket_at k (blank_closed (reads (named p 116 (codes "o")) refl (to_cut p _ refl) (blank_to
        (whole_bound sure (paid (deeper b) (b.paid || has_cost child)) (record m { symbol = symbol_of (symbol_names p) (codes "to") })
        g w (byte_of e) others (ender_ends e) (ender_closes e others) h.0.1
        (marks 14 (becomes
        (ap (λ (u : Proof). st (record (paid b (b.paid || has_cost child)) { levels = suc b.levels - 1 })
        (record m { symbol = symbol_of (symbol_names p) (codes "to"); node = Weaken u w; bound = Constant 0 }) no_draft) is
        ∙ ended b (b.paid || has_cost child) (b.paid || has_cost child)
        (record m { symbol = symbol_of (symbol_names p) (codes "to") }) (Weaken child w) refl)
        (more (record m { symbol = symbol_of (symbol_names p) (codes "to"); node = Weaken child w; bound = Constant 0 }) no_draft
        AtBound refl)))))))))))))
    node (CostBound n us) b l d e others outside few h priced more =
        spelled_as (flatten (Then (Bytes (codes "cost ")) (Then (Bytes (decimal n.rule)) (Then (Bytes (codes " "))
        (Then (Bytes (cost_by_text n.by)) (Bytes (uses_text p us)))))) (byte_of e ∷ others))
        (makes 4 (item.Mark 4 ∷ item.Piece 13 ∷ item.Piece 32 ∷ item.Made 9 ∷ item.Piece 32 ∷ item.Made 31 ∷ item.Made 5 ∷
        item.Mark 15 ∷ [])
        (inr (inr (inr (inr (inr (inr (inr (inr (inr (inl refl))))))))))
        (begins b l d 99 (codes "ost") h.0.0 refl refl refl
        (ap (λ (v : Bool). or_else (when (not v) kind.Syntax) (when (nat_lt 64 (suc b.levels)) kind.TooDeep)) (priced refl)
        ∙ deep_none (suc b.levels) h.0.0)
        (blank Bare (rule (deeper b) (record l { symbol = symbol_of (symbol_names p) (codes "cost") }) no_draft n.rule sure
        h.0.1.0 refl
        (blank Bare (by sure (deeper b) outside n.by h.0.1.1 (uses_name p us (byte_of e ∷ others))
        (record l { symbol = symbol_of (symbol_names p) (codes "cost"); number = n.rule }) n.rule
        (λ m g. uses us (deeper b) m _ (byte_of e ∷ others) outside few h.1 (λ k. priced refl)
        (λ m4. marks 15 (becomes
        (ap (λ (ws : Proofs). st (record (paid b true) { levels = suc b.levels - 1 })
        (record m4 { node = CostBound n ws; bound = Constant 0 }) no_draft) (uses_same us)
        ∙ ended b true (b.paid || true) m4 (CostBound n us) (or_true b.paid))
        (more (record m4 { node = CostBound n us; bound = Constant 0 }) no_draft AtPlain refl))))))))))

    -- the premises of a node are read
    uses : (us : Proofs) {ss : List Symbol} {Q : State → Type 0} (b : Base) (l : Last) (d : Draft) (rest : List ℕ)
        → b.in_gap ≡ false → length b.lemmas ≤ 100000 → AreProofsWithin p (length b.lemmas) (suc b.levels) us
        → (have_cost us ≡ true → b.priced ≡ true)
        → ((m : Last) → Along p ss (st (paid b (b.paid || have_cost us)) m (record d { uses = list_in us })) mode.Plain rest Q)
        → Along p (item.Made 5 ∷ ss) (st b l d) mode.Plain (uses_text p us ++ rest) Q
    uses NoProof b l d rest outside few h priced more =
        makes 5 (item.Piece 32 ∷ item.Piece 14 ∷ item.Piece 32 ∷ item.Piece 36 ∷ item.Mark 16 ∷ item.Made 6 ∷ item.Mark 18 ∷ [])
        (inl refl)
        (blank Bare (word 117 (codes "ses") refl refl refl refl (blank Bare (brace (marks 16
        (makes 6 (item.Piece 37 ∷ []) (inl refl) (brace_at AtPlain (marks 18
        (becomes (ap (λ (v : Bool). st (paid b v) (record l { symbol = symbol_of (symbol_names p) (codes "uses") })
        (record d { uses = [] })) (or_false b.paid))
        (more (record l { symbol = symbol_of (symbol_names p) (codes "uses") })))))))))))
    uses (AndProof v us) b l d rest outside few h priced more =
        let t = tail_of p us rest in
        spelled_as (flatten (Then (Bytes (codes " uses {")) (Then (Bytes (node_text p v)) (Then (Bytes (more_uses_text p us))
        (Bytes (codes "}"))))) rest)
        (makes 5 (item.Piece 32 ∷ item.Piece 14 ∷ item.Piece 32 ∷ item.Piece 36 ∷ item.Mark 16 ∷ item.Made 6 ∷ item.Mark 18 ∷ [])
        (inl refl)
        (blank Bare (word 117 (codes "ses") refl refl refl refl (blank Bare (brace (marks 16
        (makes 6 (item.Made 4 ∷ item.Mark 17 ∷ item.Made 7 ∷ []) (inr (inl refl))
        (spelled_as (ap (λ (bs : List ℕ). node_text p v ++ bs) t.is)
        (node v (record b { outer = Inside d b.used b.outer; used = [] })
        (record l { symbol = symbol_of (symbol_names p) (codes "uses") }) no_draft t.ender t.others outside few h.0
        (λ k. priced (or_left (has_cost v) (have_cost us) k))
        (λ m g k is. marks 17 (spelled_as (sym t.is) (becomes
        (ap (λ (w : Proof). st (record (paid b (b.paid || has_cost v)) { outer = Inside d b.used b.outer; used = w ∷ [] })
        (record m { node = Start }) g) is)
        (more_uses us b (record m { node = Start }) g k d (v ∷ []) (b.paid || has_cost v) rest outside few h.1
        (λ j. priced (or_right (has_cost v) (have_cost us) j))
        (λ n. becomes (ap (λ (w : Bool). st (paid b w) n (record d { uses = v ∷ list_in us }))
        (or_assoc b.paid (has_cost v) (have_cost us))) (more n)))))))))))))))

    -- the premises that are left are read
    more_uses : (us : Proofs) {ss : List Symbol} {Q : State → Type 0} (b : Base) (l : Last) (g : Draft) (k : Ending)
        (d : Draft) (xs : List Proof) (q : Bool) (rest : List ℕ) → b.in_gap ≡ false → length b.lemmas ≤ 100000
        → AreProofsWithin p (length b.lemmas) (suc b.levels) us → (have_cost us ≡ true → b.priced ≡ true)
        → ((m : Last) → Along p ss (st (paid b (q || have_cost us)) m (record d { uses = xs ++ list_in us })) mode.Plain rest Q)
        → Along p (item.Made 7 ∷ item.Mark 18 ∷ ss) (st (record (paid b q) { outer = Inside d b.used b.outer; used = xs }) l g)
        (mode_at k) (more_uses_text p us ++ (125 ∷ rest)) Q
    more_uses NoProof b l g k d xs q rest outside few h priced more =
        makes 7 (item.Piece 37 ∷ []) (inl refl) (brace_at k (marks 18 (becomes
        (ap (λ (v : Bool). st (paid b v) l (record d { uses = xs })) (or_false q)
        ∙ ap (λ (ys : List Proof). st (paid b (q || false)) l (record d { uses = ys })) (sym (append-nil xs))) (more l))))
    more_uses (AndProof w us) b l g k d xs q rest outside few h priced more =
        let t = tail_of p us rest in
        spelled_as (flatten (Then (Bytes (codes "; ")) (Then (Bytes (node_text p w)) (Bytes (more_uses_text p us)))) (125 ∷ rest))
        (makes 7 (item.Piece 40 ∷ item.Piece 32 ∷ item.Made 4 ∷ item.Mark 17 ∷ item.Made 7 ∷ []) (inr (inl refl))
        (semicolon_at k (blank Bare
        (spelled_as (ap (λ (bs : List ℕ). node_text p w ++ bs) t.is)
        (node w (record (paid b q) { outer = Inside d b.used b.outer; used = xs }) l g t.ender t.others outside few h.0
        (λ j. priced (or_left (has_cost w) (have_cost us) j))
        (λ m f j is. marks 17 (spelled_as (sym t.is) (becomes
        (ap (λ (u : Proof). st (record (paid b (q || has_cost w)) { outer = Inside d b.used b.outer; used = xs ++ u ∷ [] })
        (record m { node = Start }) f) is)
        (more_uses us b (record m { node = Start }) f j d (xs ++ w ∷ []) (q || has_cost w) rest outside few h.1
        (λ i. priced (or_right (has_cost w) (have_cost us) i))
        (λ n. becomes (ap (λ (v : Bool). st (paid b v) n (record d { uses = (xs ++ w ∷ []) ++ list_in us }))
        (or_assoc q (has_cost w) (have_cost us))
        ∙ ap (λ (ys : List Proof). st (paid b (q || (has_cost w || have_cost us))) n (record d { uses = ys }))
        (append_assoc xs (w ∷ []) (list_in us))) (more n)))))))))))
