-- Numbers, rules and their lists are read along their texts.
use Rattle.std.proofs.Common.{◌≡◌, ℕ, suc, ◌-◌, ◌<◌, ◌≤◌, ◌^◌, min, Bool, true, false, List, [], ◌∷◌, ◌++◌}
use Rattle.std.proofs.Common.{map, Option, None, refl, ap, sym, ◌∙◌, arith, inl, inr, append-nil}
use Rattle.std.proofs.Common.{append_assoc}
use Rattle.std.specs.Prelude.{ℤ, pos, negsuc, neg_ℤ, nat_abs, nat_lt, not, is_some, codes}
use Rattle.std.specs.List.{AllByRecursion}
use Rattle.std.specs.Fmt.{decimal, signed_decimal}
use Rattle.std.specs.Char.{is_ascii_digit}
use Rattle.its_model.specs.model.Programs.{Program, Rule, rule_at}
use Rattle.cert_types.specs.cert_rules.AcceptsPlain.{IsRule}
use Rattle.text_grammar.specs.text_core.Choices.{when}
use Rattle.text_core.proofs.PrefixLaws.{Stops}
use Rattle.text_grammar.specs.declared.symbol.Symbol.{Symbol}
use Rattle.text_grammar.specs.declared.symbol.Symbol.TheVariants as item
use Rattle.cert_lexer.specs.declared.kind.ProofKind.{ProofKind}
use Rattle.cert_lexer.specs.declared.kind.ProofKind.TheVariants as kind
use Rattle.cert_lexer.specs.declared.piece.Mode.TheVariants as mode
use Rattle.cert_text.specs.NumberFaults.{or_else}
use Rattle.cert_text.specs.Lists.{each_before, each_behind, listed, numbers_text, ending_in}
use Rattle.cert_text.specs.Remembered.{Draft, State, in_32, in_64}
use Rattle.cert_text.proofs.Along.{Along, Bytes, Then, becomes, flatten, makes, marks, spelled_as}
use Rattle.cert_text.proofs.Cutting.{Within, Bare, mode_in, blank, closes, minus, number, opens, positive}
use Rattle.cert_text.proofs.States.{Base, Last, Sure, limit_of, limit_least, limit_most, none_large, now, rule_low, st}

-- a number that its type holds isn't changed by capping
pub same_32 : (n : ℕ) → n < 2 ^ 32 → in_32 n ≡ n
same_32 n l = omega (arith, l)

pub same_64 : (b : Base) (n : ℕ) → n ≤ limit_of b → in_64 n ≡ n
same_64 b n l = let m = limit_most b in omega (arith, l, m)

pub same_63 : (b : Base) (n : ℕ) → n ≤ limit_of b → min n (2 ^ 63 - 1) ≡ n
same_63 b n l = let m = limit_most b in omega (arith, l, m)

pub small_number : (b : Base) (n : ℕ) → n ≤ limit_of b → n < 2 ^ 127
small_number b n l = let m = limit_most b in omega (arith, l, m)

-- the number of a rule that exists has no fault
rule_none : (p : Program) (limit r : ℕ) → r ≤ limit → IsRule p r
    → or_else (when (nat_lt limit r) kind.NumberTooLarge) (when (not (is_some (rule_at p r))) kind.BadReference) ≡ None
rule_none p limit r l is =
    ap (λ (o : Option ProofKind). or_else o (when (not (is_some (rule_at p r))) kind.BadReference))
    (none_large limit r l)
    ∙ ap (λ (o : Option Rule). when (not (is_some o)) kind.BadReference) is.numbered

module _ {p : Program} {ss : List Symbol} {rest : List ℕ} {Q : State → Type 0} (b : Base) (l : Last) (d : Draft) where
  -- the number of a rule is read
  pub rule : (r : ℕ) → Sure p → IsRule p r → Stops is_ascii_digit rest
      → Along p ss (st b (record l { number = r }) (record d { rule = r })) mode.Plain rest Q
      → Along p (item.Made 9 ∷ ss) (st b l d) mode.Plain (decimal r ++ rest) Q
  rule r sure is stops more =
      let low = rule_low p r sure is in
      let least = limit_least b in
      let small : r ≤ limit_of b = omega (arith, low, least) in
      makes 9 (item.Mark 19 ∷ item.Made 8 ∷ item.Mark 20 ∷ []) (inl refl)
      (marks 19 (number Bare r (omega (arith, low)) stops (rule_none p (limit_of b) r small is)
      (marks 20 (becomes (ap (λ (n : ℕ). st b (record l { number = r }) (record d { rule = n }))
      (same_32 r (omega (arith, low)))) more))))

  -- the number of a rule in a set is read
  pub set_rule : (r : ℕ) → Sure p → IsRule p r → Stops is_ascii_digit rest
      → Along p ss (st b (record l { number = r }) (record d { set = d.set ++ r ∷ [] })) mode.Plain rest Q
      → Along p (item.Made 13 ∷ ss) (st b l d) mode.Plain (decimal r ++ rest) Q
  set_rule r sure is stops more =
      let low = rule_low p r sure is in
      let least = limit_least b in
      let small : r ≤ limit_of b = omega (arith, low, least) in
      makes 13 (item.Mark 19 ∷ item.Made 8 ∷ item.Mark 21 ∷ []) (inl refl)
      (marks 19 (number Bare r (omega (arith, low)) stops (rule_none p (limit_of b) r small is)
      (marks 21 (becomes (ap (λ (n : ℕ). st b (record l { number = r }) (record d { set = d.set ++ n ∷ [] }))
      (same_32 r (omega (arith, low)))) more))))

  -- a denominator is read
  pub plain : (n : ℕ) → n ≤ limit_of b → Stops is_ascii_digit rest
      → Along p ss (st b (record l { number = n }) (record d { den = n })) mode.Plain rest Q
      → Along p (item.Made 10 ∷ ss) (st b l d) mode.Plain (decimal n ++ rest) Q
  plain n small stops more =
      makes 10 (item.Mark 22 ∷ item.Made 8 ∷ item.Mark 23 ∷ []) (inl refl)
      (marks 22 (number Bare n (small_number b n small) stops (none_large (limit_of b) n small)
      (marks 23 (becomes (ap (λ (m : ℕ). st b (record l { number = n }) (record d { den = m }))
      (same_64 b n small)) more))))

  -- a natural number in a list is read
  pub list_number : (n : ℕ) → n ≤ limit_of b → Stops is_ascii_digit rest
      → Along p ss (st b (record l { number = n }) (record d { numbers = d.numbers ++ n ∷ [] })) mode.Plain rest Q
      → Along p (item.Made 17 ∷ ss) (st b l d) mode.Plain (decimal n ++ rest) Q
  list_number n small stops more =
      makes 17 (item.Mark 22 ∷ item.Made 8 ∷ item.Mark 25 ∷ []) (inl refl)
      (marks 22 (number Bare n (small_number b n small) stops (none_large (limit_of b) n small)
      (marks 25 (becomes (ap (λ (m : ℕ). st b (record l { number = n }) (record d { numbers = d.numbers ++ m ∷ [] }))
      (same_64 b n small)) more))))

  -- a number that may have a sign is read
  pub integer : (x : Within) (z : ℤ) → nat_abs z ≤ limit_of b → Stops is_ascii_digit rest
      → ((n : ℕ) (v : Bool) → Along p ss (st b (now l n v) (record d { integers = d.integers ++ z ∷ [] })) (mode_in x) rest Q)
      → Along p (item.Made 19 ∷ ss) (st b l d) (mode_in x) (signed_decimal z ++ rest) Q
  integer x (pos n) small stops more =
      makes 19 (item.Mark 26 ∷ item.Made 8 ∷ item.Mark 27 ∷ []) (inl refl)
      (marks 26 (number x n (small_number b n small) stops (none_large (limit_of b) n small)
      (marks 27 (becomes (ap (λ (k : ℕ). st b (record l { number = n; negative = false })
      (record d { integers = d.integers ++ pos k ∷ [] })) (same_63 b n small))
      (more n false)))))
  integer x (negsuc n) small stops more =
      makes 19 (item.Mark 26 ∷ item.Piece 42 ∷ item.Made 20 ∷ item.Mark 27 ∷ []) (inr (inl refl))
      (marks 26 (minus x (positive x (suc n) (small_number b (suc n) small) stops
      (none_large (limit_of b) (suc n) small) (omega arith)
      (marks 27 (becomes (ap (λ (k : ℕ). st b (record l { number = suc n; negative = true })
      (record d { integers = d.integers ++ neg_ℤ (pos k) ∷ [] })) (same_63 b (suc n) small))
      (more (suc n) true))))))

-- a blank, or the bracket that closes a list, ends a number
list_stops : (ws : List (List ℕ)) (rest : List ℕ)
    → Stops is_ascii_digit (each_behind (codes " ") ws ++ (93 ∷ rest))
list_stops [] rest = refl
list_stops (w ∷ ws) rest = refl

-- the text of a word with others after it, a blank before each
pub word_then : (w : List ℕ) (ws : List (List ℕ)) (rest : List ℕ)
    → each_behind (codes " ") (w ∷ ws) ++ rest ≡ 32 ∷ (w ++ (each_behind (codes " ") ws ++ rest))
word_then w ws rest = ap (λ (bs : List ℕ). 32 ∷ bs) (append_assoc w (each_behind (codes " ") ws) rest)

-- the text of a list of at least one word
pub words_then : (w : List ℕ) (ws : List (List ℕ)) (rest : List ℕ)
    → ((w ++ each_behind (codes " ") ws) ++ codes "]") ++ rest ≡ w ++ (each_behind (codes " ") ws ++ (93 ∷ rest))
words_then w ws rest =
    flatten (Then (Then (Bytes w) (Bytes (each_behind (codes " ") ws))) (Bytes (codes "]"))) rest

-- the text of a word with others after it, with a semicolon and a blank before each
pub next_then : (w : List ℕ) (ws : List (List ℕ)) (rest : List ℕ)
    → each_behind (codes "; ") (w ∷ ws) ++ rest ≡ 59 ∷ 32 ∷ (w ++ (each_behind (codes "; ") ws ++ rest))
next_then w ws rest = ap (λ (bs : List ℕ). 59 ∷ 32 ∷ bs) (append_assoc w (each_behind (codes "; ") ws) rest)

pub list_then : (w : List ℕ) (ws : List (List ℕ)) (rest : List ℕ)
    → listed (w ∷ ws) ++ rest ≡ 91 ∷ (w ++ (each_behind (codes "; ") ws ++ (93 ∷ rest)))
list_then w ws rest =
    ap (λ (bs : List ℕ). 91 ∷ bs)
    (flatten (Then (Then (Bytes w) (Bytes (each_behind (codes "; ") ws))) (Bytes (codes "]"))) rest)

module _ {p : Program} {ss : List Symbol} {rest : List ℕ} {Q : State → Type 0} (sure : Sure p) (b : Base) where
  -- the further rules of a set are read
  more_rules : (rs : List ℕ) → AllByRecursion (IsRule p) rs → (l : Last) (d : Draft)
      → ((m : Last) → Along p ss (st b m (record d { set = d.set ++ rs })) mode.Plain rest Q)
      → Along p (item.Made 14 ∷ ss) (st b l d) mode.Plain (each_behind (codes " ") (map decimal rs) ++ (93 ∷ rest)) Q
  more_rules [] all l d more =
      makes 14 (item.Piece 35 ∷ []) (inl refl)
      (closes Bare (becomes (ap (λ (rs : List ℕ). st b l (record d { set = rs })) (sym (append-nil d.set))) (more l)))
  more_rules (r ∷ rs) all l d more =
      spelled_as (word_then (decimal r) (map decimal rs) (93 ∷ rest))
      (makes 14 (item.Piece 32 ∷ item.Made 13 ∷ item.Made 14 ∷ []) (inr (inl refl))
      (blank Bare (set_rule b l d r sure all.0 (list_stops (map decimal rs) rest)
      (more_rules rs all.1 (record l { number = r }) (record d { set = d.set ++ r ∷ [] })
      (λ m. becomes (ap (λ (ns : List ℕ). st b m (record d { set = ns })) (append_assoc d.set (r ∷ []) rs)) (more m))))))

  -- a set of rules is read
  pub rules : (rs : List ℕ) → AllByRecursion (IsRule p) rs → (l : Last) (d : Draft)
      → ((m : Last) → Along p ss (st b m (record d { set = d.set ++ rs })) mode.Plain rest Q)
      → Along p (item.Made 11 ∷ ss) (st b l d) mode.Plain (numbers_text rs ++ rest) Q
  rules [] all l d more =
      makes 11 (item.Piece 34 ∷ item.Made 12 ∷ []) (inl refl)
      (opens Bare (makes 12 (item.Piece 35 ∷ []) (inl refl)
      (closes Bare (becomes (ap (λ (rs : List ℕ). st b l (record d { set = rs })) (sym (append-nil d.set))) (more l)))))
  rules (r ∷ rs) all l d more =
      makes 11 (item.Piece 34 ∷ item.Made 12 ∷ []) (inl refl)
      (opens Bare (spelled_as (words_then (decimal r) (map decimal rs) rest)
      (makes 12 (item.Made 13 ∷ item.Made 14 ∷ []) (inr (inl refl))
      (set_rule b l d r sure all.0 (list_stops (map decimal rs) rest)
      (more_rules rs all.1 (record l { number = r }) (record d { set = d.set ++ r ∷ [] })
      (λ m. becomes (ap (λ (ns : List ℕ). st b m (record d { set = ns })) (append_assoc d.set (r ∷ []) rs)) (more m)))))))

module _ {p : Program} {ss : List Symbol} {rest : List ℕ} {Q : State → Type 0} (b : Base) where
  -- the further numbers of a list are read
  more_numbers : (ns : List ℕ) → AllByRecursion (λ n. n ≤ limit_of b) ns → (l : Last) (d : Draft)
      → ((m : Last) → Along p ss (st b m (record d { numbers = d.numbers ++ ns })) mode.Plain rest Q)
      → Along p (item.Made 18 ∷ ss) (st b l d) mode.Plain (each_behind (codes " ") (map decimal ns) ++ (93 ∷ rest)) Q
  more_numbers [] all l d more =
      makes 18 (item.Piece 35 ∷ []) (inl refl)
      (closes Bare (becomes (ap (λ (ns : List ℕ). st b l (record d { numbers = ns })) (sym (append-nil d.numbers)))
      (more l)))
  more_numbers (n ∷ ns) all l d more =
      spelled_as (word_then (decimal n) (map decimal ns) (93 ∷ rest))
      (makes 18 (item.Piece 32 ∷ item.Made 17 ∷ item.Made 18 ∷ []) (inr (inl refl))
      (blank Bare (list_number b l d n all.0 (list_stops (map decimal ns) rest)
      (more_numbers ns all.1 (record l { number = n }) (record d { numbers = d.numbers ++ n ∷ [] })
      (λ m. becomes (ap (λ (ks : List ℕ). st b m (record d { numbers = ks })) (append_assoc d.numbers (n ∷ []) ns))
      (more m))))))

  -- a list of natural numbers is read
  pub numbers : (ns : List ℕ) → AllByRecursion (λ n. n ≤ limit_of b) ns → (l : Last) (d : Draft)
      → ((m : Last) → Along p ss (st b m (record d { numbers = ns; integers = [] })) mode.Plain rest Q)
      → Along p (item.Made 15 ∷ ss) (st b l d) mode.Plain (numbers_text ns ++ rest) Q
  numbers [] all l d more =
      makes 15 (item.Piece 34 ∷ item.Mark 24 ∷ item.Made 16 ∷ []) (inl refl)
      (opens Bare (marks 24 (makes 16 (item.Piece 35 ∷ []) (inl refl) (closes Bare (more l)))))
  numbers (n ∷ ns) all l d more =
      makes 15 (item.Piece 34 ∷ item.Mark 24 ∷ item.Made 16 ∷ []) (inl refl)
      (opens Bare (marks 24 (spelled_as (words_then (decimal n) (map decimal ns) rest)
      (makes 16 (item.Made 17 ∷ item.Made 18 ∷ []) (inr (inl refl))
      (list_number b l (record d { numbers = []; integers = [] }) n all.0 (list_stops (map decimal ns) rest)
      (more_numbers ns all.1 (record l { number = n }) (record d { numbers = n ∷ []; integers = [] }) more))))))

  -- integers up to the last one, and the bracket that closes their list, are read
  integers_from : (x : Within) (zs : List ℤ) (z : ℤ) → AllByRecursion (λ y. nat_abs y ≤ limit_of b) zs
      → nat_abs z ≤ limit_of b → (l : Last) (d : Draft)
      → ((n : ℕ) (v : Bool) → Along p ss (st b (now l n v) (record d { integers = d.integers ++ (zs ++ z ∷ []) })) mode.Plain rest
      Q)
      → Along p (item.Made 19 ∷ item.Made 22 ∷ ss) (st b l d) (mode_in x)
      (each_before zs ++ (signed_decimal z ++ (93 ∷ rest))) Q
  integers_from x [] z all small l d more =
      integer b l d x z small refl (λ n v. makes 22 (item.Piece 35 ∷ []) (inl refl) (closes x (more n v)))
  integers_from x (y ∷ ys) z all small l d more =
      spelled_as (append_assoc (signed_decimal y) (32 ∷ each_before ys) (signed_decimal z ++ (93 ∷ rest)))
      (integer b l d x y all.0 refl (λ n v. makes 22 (item.Piece 32 ∷ item.Made 19 ∷ item.Made 22 ∷ []) (inr (inl refl))
      (blank x (integers_from x ys z all.1 small (now l n v) (record d { integers = d.integers ++ y ∷ [] })
      (λ k w. becomes (ap (λ (ks : List ℤ). st b (now l k w) (record d { integers = ks }))
      (append_assoc d.integers (y ∷ []) (ys ++ z ∷ []))) (more k w))))))

  -- a list of coefficients and a constant is read
  pub integers : (x : Within) (zs : List ℤ) (z : ℤ) → AllByRecursion (λ y. nat_abs y ≤ limit_of b) zs
      → nat_abs z ≤ limit_of b → (l : Last) (d : Draft)
      → ((n : ℕ) (v : Bool) → Along p ss (st b (now l n v) (record d { numbers = []; integers = zs ++ z ∷ [] })) mode.Plain rest
      Q)
      → Along p (item.Made 21 ∷ ss) (st b l d) (mode_in x) (ending_in zs (signed_decimal z) ++ rest) Q
  integers x zs z all small l d more =
      makes 21 (item.Piece 34 ∷ item.Mark 24 ∷ item.Made 19 ∷ item.Made 22 ∷ []) (inl refl)
      (opens x (marks 24 (spelled_as
      (flatten (Then (Then (Bytes (each_before zs)) (Bytes (signed_decimal z))) (Bytes (codes "]"))) rest)
      (integers_from x zs z all small l (record d { numbers = []; integers = [] }) more))))
