-- Linear programs in their written form and the parts that print them, in both directions.
use Rattle.std.proofs.Common.{◌≡◌, ℕ, zero, suc, ◌<◌, ◌≤◌, ◌^◌, ◌-◌, List, [], ◌∷◌, ◌++◌, refl, ap, sym, ◌∙◌, arith, inl, inr}
use Rattle.std.proofs.Common.{Bool, true, false, None, append_assoc}
use Rattle.text_grammar.specs.text_core.Choices.{when}
use Rattle.std.specs.Prelude.{length, ◌≤ℤ◌, codes, ℤ, pos, negsuc, unsigned_abs, nat_lt, nat_le, int_lt, ◌||◌, if◌then◌else◌, Some}
use Rattle.std.specs.Fmt.{decimal, signed_decimal}
use Rattle.std.proofs.lemmas.Int.{ints}
use Rattle.std.proofs.lemmas.Bool.Decides.{nat_tests}
use Rattle.text_grammar.specs.Grammars.{alternatives}
use Rattle.text_grammar.specs.Sounding.{is_readable}
use Rattle.text_grammar.specs.Texts.{IsLawful}
use Rattle.text_grammar.specs.Parts.{Part, Says, Does, Puts, AllMake, spelled}
use Rattle.text_grammar.specs.ByteTexts.{Numbered, Natural, Signed, says, only, fold_of, numbers_of, grammar_of, with_sign}
use Rattle.text_grammar.specs.ByteTexts.{HasNumbers, IsBounded}
use Rattle.text_grammar.specs.ByteParts.{ValueOf, parts_of, OwnAreMade}
use Rattle.text_grammar.proofs.ByteLaws.{bytes_lawful}
use Rattle.text_grammar.proofs.ByteDerivations.{IsDerived, by, each_natural, each_signed}
use Rattle.text_grammar.proofs.Numerals.{none_when, some_none, when_none}
use Rattle.lp_text.specs.declared.kind.LpKind.{LpKind}
use Rattle.lp_text.specs.declared.kind.LpKind.TheVariants.{Syntax, NumberTooLarge, Limit}
use Rattle.lp_text.specs.declared.section.Section.{Section}
use Rattle.lp_text.specs.declared.section.Section.TheVariants.{Head, First, Second, Rows, Right}
use Rattle.lp_text.specs.declared.grammar.TheConstants.{LETTERS}
use Rattle.lp_text.specs.Lps.{Row, Lp, number_limit}
use Rattle.lp_text.specs.Texts.{State, number_of, is_too_large, is_beyond, fault_of_columns, fault_of_entry, columns_of}
use Rattle.lp_text.specs.Texts.{fault_of_signed_in, lp_bytes, lps}
use Rattle.lp_text.specs.Spelled.{costs_text, numbers_text, rows_text, text_of, AreCosts, AreNumbers, AreRowsOf, IsWithin}

-- the values of the nonterminals: a linear program, costs, rows, and the rest of a row, with the blank before it and
-- without it
abbrev pub LpValue : ℕ → Type 0
LpValue zero = Lp
LpValue (suc zero) = List ℕ
LpValue (suc (suc zero)) = List Row
LpValue (suc (suc (suc zero))) = Row
LpValue (suc (suc (suc (suc zero)))) = Row
LpValue (suc (suc (suc (suc (suc n))))) = ⊥

-- the parts that print these values
abbrev pub costs_parts : List ℕ → List (Part ℕ Numbered)
costs_parts [] = Says 10 ∷ []
costs_parts (c ∷ cs) = Says 32 ∷ Puts (Natural c) ∷ costs_parts cs

abbrev pub item_parts : List ℤ → ℤ → List (Part ℕ Numbered)
item_parts [] right = Says 61 ∷ Says 32 ∷ Does 11 ∷ Puts (Signed right) ∷ Says 10 ∷ []
item_parts (z ∷ zs) right = Puts (Signed z) ∷ Says 32 ∷ item_parts zs right

abbrev pub rows_parts : List Row → List (Part ℕ Numbered)
rows_parts [] = says (codes "end") (Says 10 ∷ [])
rows_parts (r ∷ rs) = says (codes "row ") (item_parts r.numbers r.right ++ rows_parts rs)

-- the parts of the lines after the second costs; those of the lines after the first costs
abbrev pub parts_after_second : Lp → List (Part ℕ Numbered)
parts_after_second p = Does 10 ∷ rows_parts p.rows

abbrev pub parts_after_first : Lp → List (Part ℕ Numbered)
parts_after_first p = says (codes "second") (Does 9 ∷ (costs_parts p.second ++ parts_after_second p))

abbrev pub lp_parts : (n : ℕ) → LpValue n → List (Part ℕ Numbered)
lp_parts zero p =
    says (codes "koat-lp 1")
    (Says 10 ∷ says (codes "cols ") (Puts (Signed p.columns) ∷ Says 10 ∷ says (codes "first") (Does 8 ∷ (costs_parts p.first ++ parts_after_first p))))
lp_parts (suc zero) cs = costs_parts cs
lp_parts (suc (suc zero)) rs = rows_parts rs
lp_parts (suc (suc (suc zero))) r = Says 32 ∷ item_parts r.numbers r.right
lp_parts (suc (suc (suc (suc zero)))) r = item_parts r.numbers r.right
lp_parts (suc (suc (suc (suc (suc n))))) b = absurd b

-- Kinds with the same number are the same.
same_kind : (a b : LpKind) → number_of a ≡ number_of b → a ≡ b
same_kind Syntax Syntax h = refl
same_kind NumberTooLarge NumberTooLarge h = refl
same_kind Limit Limit h = refl
same_kind a b h = absurd (omega (arith, h))

-- a number that isn't too large is within the limit, and conversely
pub small_if_not_too_large : (z : ℤ) → is_too_large z ≡ false → unsigned_abs z ≤ number_limit
small_if_not_too_large z h = grind (arith, nat_tests)

pub not_too_large_if_small : (z : ℤ) → unsigned_abs z ≤ number_limit → is_too_large z ≡ false
not_too_large_if_small z h = grind (arith, nat_tests)

-- a number with a sign has the number as its absolute value
abs-with_sign : (negative : Bool) (n : ℕ) → unsigned_abs (with_sign negative n) ≡ n
abs-with_sign false n = refl
abs-with_sign true zero = refl
abs-with_sign true (suc n) = refl

-- a number of columns has no fault exactly if it is neither too large nor beyond the limit
pub columns_valid_if_no_fault : (z : ℤ) → fault_of_columns z ≡ None → (is_too_large z ≡ false) × (is_beyond z ≡ false)
columns_valid_if_no_fault z h = go (is_too_large z) refl h
  where
    go : (v : Bool) → is_too_large z ≡ v → (if v then Some NumberTooLarge else when (is_beyond z) Limit) ≡ None
        → (is_too_large z ≡ false) × (is_beyond z ≡ false)
    go true e h = absurd (some_none NumberTooLarge h)
    go false e h = (e, none_when (is_beyond z) Limit h)

pub no_fault_if_columns_valid : (z : ℤ) → is_too_large z ≡ false → is_beyond z ≡ false → fault_of_columns z ≡ None
no_fault_if_columns_valid z h k =
    ap (λ (v : Bool). if v then Some NumberTooLarge else when (is_beyond z) Limit) h ∙ when_none (is_beyond z) Limit k

-- a number of a row has no fault exactly if it is neither one too many nor too large
pub entry_valid_if_no_fault : (columns count : ℕ) (z : ℤ) → fault_of_entry columns count z ≡ None
    → (nat_le columns count ≡ false) × (is_too_large z ≡ false)
entry_valid_if_no_fault columns count z h = go (nat_le columns count) refl h
  where
    go : (v : Bool) → nat_le columns count ≡ v → (if v then Some Syntax else when (is_too_large z) NumberTooLarge) ≡ None
        → (nat_le columns count ≡ false) × (is_too_large z ≡ false)
    go true e h = absurd (some_none Syntax h)
    go false e h = (e, none_when (is_too_large z) NumberTooLarge h)

pub no_fault_if_entry_valid : (columns count : ℕ) (z : ℤ) → nat_le columns count ≡ false → is_too_large z ≡ false
    → fault_of_entry columns count z ≡ None
no_fault_if_entry_valid columns count z h k =
    ap (λ (v : Bool). if v then Some Syntax else when (is_too_large z) NumberTooLarge) h
    ∙ when_none (is_too_large z) NumberTooLarge k

-- a signed number without a fault is within the limit
signed_small : (section : Section) (s : State) (z : ℤ) → fault_of_signed_in section s z ≡ None → is_too_large z ≡ false
signed_small Head s z h = (columns_valid_if_no_fault z h).0
signed_small First s z h = none_when (is_too_large z) NumberTooLarge h
signed_small Second s z h = none_when (is_too_large z) NumberTooLarge h
signed_small Rows s z h = (entry_valid_if_no_fault (columns_of s) (length s.numbers) z h).1
signed_small Right s z h = none_when (is_too_large z) NumberTooLarge h

-- the permitted numbers of columns are those from 1 to 64
pub not_beyond_if_permitted : (n : ℕ) → 1 ≤ n → n ≤ 64 → is_beyond (pos n) ≡ false
not_beyond_if_permitted n l k = both (int_lt (pos n) (pos 1)) (int_lt (pos 64) (pos n)) (not_less (pos n) (pos 1) (omega (arith, ints, l))) (not_less (pos 64) (pos n) (omega (arith, ints, k)))
  where
    both : (v w : Bool) → v ≡ false → w ≡ false → (v || w) ≡ false
    both true w h k = h
    both false w h k = k

    not_less : (a b : ℤ) → b ≤ℤ a → int_lt a b ≡ false
    not_less a b h = go (int_lt a b) refl
      where
        go : (v : Bool) → int_lt a b ≡ v → int_lt a b ≡ false
        go true e = absurd (omega (arith, ints, h, e))
        go false e = e

pub permitted_if_not_beyond : (z : ℤ) → is_beyond z ≡ false → (n : ℕ) × (z ≡ pos n) × (1 ≤ n) × (n ≤ 64)
permitted_if_not_beyond z h = go z (parts (int_lt z (pos 1)) (int_lt (pos 64) z) h)
  where
    parts : (v w : Bool) → (v || w) ≡ false → (v ≡ false) × (w ≡ false)
    parts true w h = cc
    parts false w h = (refl, h)

    go : (z : ℤ) → (int_lt z (pos 1) ≡ false) × (int_lt (pos 64) z ≡ false) → (n : ℕ) × (z ≡ pos n) × (1 ≤ n) × (n ≤ 64)
    go (pos n) k = (n, refl, omega (arith, ints, k.0), omega (arith, ints, k.1))
    go (negsuc n) k = absurd (omega (arith, ints, k.0))

-- if a number is permitted, so is each lesser one of its sign from 1 on
signed_below : (section : Section) (s : State) (negative : Bool) (m n : ℕ) → 1 ≤ m → m ≤ n
    → fault_of_signed_in section s (with_sign negative n) ≡ None → fault_of_signed_in section s (with_sign negative m) ≡ None
signed_below section s negative m n some l h = go section h
  where
    smaller : is_too_large (with_sign negative n) ≡ false → is_too_large (with_sign negative m) ≡ false
    smaller e =
        let a = abs-with_sign negative m in let b = abs-with_sign negative n in
        let k = small_if_not_too_large (with_sign negative n) e in
        not_too_large_if_small (with_sign negative m) (omega (arith, a, b, k, l))

    within : (negative : Bool) → is_beyond (with_sign negative n) ≡ false → is_beyond (with_sign negative m) ≡ false
    within false e = let w = permitted_if_not_beyond (pos n) e in
        let same : n ≡ w.0 = let p = w.1 in omega (arith, ints, p) in
        not_beyond_if_permitted m some (let k = w.3 in omega (arith, l, same, k))
    within true e = let w = permitted_if_not_beyond (with_sign true n) e in absurd (below n (omega (arith, some, l)) w.0 w.1)
      where
        below : (n : ℕ) → 1 ≤ n → (k : ℕ) → with_sign true n ≡ pos k → ⊥
        below zero l k e = omega (arith, l)
        below (suc n) l k e = omega (arith, ints, e)

    go : (section : Section) → fault_of_signed_in section s (with_sign negative n) ≡ None → fault_of_signed_in section s (with_sign negative m) ≡ None
    go Head h = let w = columns_valid_if_no_fault (with_sign negative n) h in
        no_fault_if_columns_valid (with_sign negative m) (smaller w.0) (within negative w.1)
    go Rows h = let w = entry_valid_if_no_fault (columns_of s) (length s.numbers) (with_sign negative n) h in
        no_fault_if_entry_valid (columns_of s) (length s.numbers) (with_sign negative m) w.0 (smaller w.1)
    go First h = when_none (is_too_large (with_sign negative m)) NumberTooLarge (smaller (none_when (is_too_large (with_sign negative n)) NumberTooLarge h))
    go Second h = when_none (is_too_large (with_sign negative m)) NumberTooLarge (smaller (none_when (is_too_large (with_sign negative n)) NumberTooLarge h))
    go Right h = when_none (is_too_large (with_sign negative m)) NumberTooLarge (smaller (none_when (is_too_large (with_sign negative n)) NumberTooLarge h))

-- a permitted cost is within the limit
pub cost_within_if_not_above : (n : ℕ) → nat_lt number_limit n ≡ false → n ≤ number_limit
cost_within_if_not_above n h = grind (arith, nat_tests)

pub cost_not_above_if_within : (n : ℕ) → n ≤ number_limit → nat_lt number_limit n ≡ false
cost_not_above_if_within n h = grind (arith, nat_tests)

-- permitted numbers are below 2^64, and each lesser one from 1 on is permitted
pub bounded : IsBounded lp_bytes
bounded = record {
  small = λ s n e. let l = cost_within_if_not_above n (none_when (nat_lt number_limit n) NumberTooLarge e) in omega (arith, l);
  below = λ s m n some l e.
      let k = cost_within_if_not_above n (none_when (nat_lt number_limit n) NumberTooLarge e) in
      when_none (nat_lt number_limit m) NumberTooLarge (cost_not_above_if_within m (omega (arith, l, k)));
  small_signed = λ s negative n e.
      let l = small_if_not_too_large (with_sign negative n) (signed_small s.section s (with_sign negative n) e) in
      let a = abs-with_sign negative n in omega (arith, l, a);
  below_signed = λ s negative m n some l e. signed_below s.section s negative m n some l e;
}

-- The grammar can be parsed, and has the rules of numbers.
pub readable : is_readable (grammar_of lp_bytes) ≡ true
readable = refl

pub numbers : HasNumbers lp_bytes.rules
numbers = record {
  value = refl;
  natural = refl;
  number = refl;
  positive = refl;
  digits = refl;
  line = refl;
  values = refl;
  signed = refl;
}

pub lps_lawful : IsLawful lps
lps_lawful = bytes_lawful lp_bytes readable same_kind

-- each alternative gives values of its nonterminal
pub lps_made : OwnAreMade lp_bytes LpValue lp_parts
lps_made = record {
  text = (λ (z, (cs, (ds, (rs, u)))). (record { columns = z; first = cs; second = ds; rows = rs }, refl), tt);
  others = go;
}
  where
    go : (n : ℕ) → AllMake (fold_of lp_bytes) (numbers_of lp_bytes) (grammar_of lp_bytes) (only LETTERS)
        (ValueOf LpValue lp_parts) (parts_of LpValue lp_parts) (suc (suc (suc (suc (suc (suc (suc (suc (suc n)))))))))
        (alternatives lp_bytes.rules (suc (suc (suc (suc (suc (suc (suc (suc (suc n))))))))))
    go zero = ((λ (c, (cs, u)). (c ∷ cs, refl)), ((λ u. ([], refl)), tt))
    go (suc zero) = ((λ (r, (rs, u)). (r ∷ rs, refl)), ((λ u. ([], refl)), tt))
    go (suc (suc zero)) = ((λ (r, u). (r, refl)), tt)
    go (suc (suc (suc zero))) = (
      (λ (right, u). (record { numbers = []; right = right }, refl)),
      ((λ (z, (r, u)). (record { numbers = z ∷ r.numbers; right = r.right }, refl)), tt),
    )
    go (suc (suc (suc (suc n)))) = tt

-- a linear program within the limits is derived
abbrev LpDerived : (n : ℕ) → ValueOf LpValue lp_parts n → Type 0
LpDerived n v = IsDerived lp_bytes bounded numbers readable LpValue lp_parts n v

costs_derived : (cs : List ℕ) → AreCosts cs → LpDerived 9 cs
costs_derived [] h = by lp_bytes bounded numbers readable LpValue lp_parts 9 _ (inr (inl refl)) tt tt
costs_derived (c ∷ cs) h =
    by lp_bytes bounded numbers readable LpValue lp_parts 9 _ (inl refl) (c, (cs, tt))
    (each_natural lp_bytes bounded numbers readable LpValue lp_parts c (let l = h.0 in omega (arith, l)), (costs_derived cs h.1, tt))

signed_derived : (z : ℤ) → unsigned_abs z ≤ number_limit → LpDerived 8 z
signed_derived z l = each_signed lp_bytes bounded numbers readable LpValue lp_parts z (omega (arith, l))

item_derived : (zs : List ℤ) (right : ℤ) → AreNumbers zs → unsigned_abs right ≤ number_limit
    → LpDerived 12 (record { numbers = zs; right = right })
item_derived [] right h l =
    by lp_bytes bounded numbers readable LpValue lp_parts 12 _ (inl refl) (right, tt) (signed_derived right l, tt)
item_derived (z ∷ zs) right h l =
    by lp_bytes bounded numbers readable LpValue lp_parts 12 _ (inr (inl refl)) (z, (record { numbers = zs; right = right }, tt)) (
      signed_derived z h.0,
      (
        by lp_bytes bounded numbers readable LpValue lp_parts 11 _ (inl refl) (record { numbers = zs; right = right }, tt)
            (item_derived zs right h.1 l, tt),
        tt,
      ),
    )

rows_derived : (n : ℕ) (rs : List Row) → AreRowsOf n rs → LpDerived 10 rs
rows_derived n [] h = by lp_bytes bounded numbers readable LpValue lp_parts 10 _ (inr (inl refl)) tt tt
rows_derived n (r ∷ rs) h =
    by lp_bytes bounded numbers readable LpValue lp_parts 10 _ (inl refl) (r, (rs, tt)) (
      by lp_bytes bounded numbers readable LpValue lp_parts 11 _ (inl refl) (r, tt)
          (item_derived r.numbers r.right h.0.numbers h.0.right, tt),
      (rows_derived n rs h.1, tt),
    )

pub lp_derived : (p : Lp) → IsWithin p → LpDerived 0 p
lp_derived p h =
    by lp_bytes bounded numbers readable LpValue lp_parts 0 _ (inl refl) (p.columns, (p.first, (p.second, (p.rows, tt)))) (
      signed_derived p.columns (let e = ap unsigned_abs h.counted in let l = h.few in omega (arith, e, l)),
      (costs_derived p.first h.first_costs, (costs_derived p.second h.second_costs, (rows_derived h.columns p.rows h.rows, tt))),
    )

-- the parts of costs, rows and linear programs spell their texts, before other parts
abbrev text_of_parts : List (Part ℕ Numbered) → List ℕ
text_of_parts xs = spelled (fold_of lp_bytes) (numbers_of lp_bytes) xs

costs_spell : (cs : List ℕ) (xs : List (Part ℕ Numbered)) → text_of_parts (costs_parts cs ++ xs) ≡ costs_text cs ++ text_of_parts xs
costs_spell [] xs = refl
costs_spell (c ∷ cs) xs =
    ap (λ (bs : List ℕ). 32 ∷ (decimal c ++ bs)) (costs_spell cs xs)
    ∙ ap (λ (bs : List ℕ). 32 ∷ bs) (sym (append_assoc (decimal c) (costs_text cs) (text_of_parts xs)))

item_spell : (zs : List ℤ) (right : ℤ) (xs : List (Part ℕ Numbered)) → text_of_parts (item_parts zs right ++ xs) ≡ numbers_text zs right ++ text_of_parts xs
item_spell [] right xs = ap (λ (bs : List ℕ). 61 ∷ 32 ∷ bs) (sym (append_assoc (signed_decimal right) (10 ∷ []) (text_of_parts xs)))
item_spell (z ∷ zs) right xs =
    ap (λ (bs : List ℕ). signed_decimal z ++ 32 ∷ bs) (item_spell zs right xs)
    ∙ sym (append_assoc (signed_decimal z) (32 ∷ numbers_text zs right) (text_of_parts xs))

rows_spell : (rs : List Row) → text_of_parts (rows_parts rs) ≡ rows_text rs
rows_spell [] = refl
rows_spell (r ∷ rs) =
    ap (λ (bs : List ℕ). codes "row " ++ bs) (item_spell r.numbers r.right (rows_parts rs) ∙ ap (λ (bs : List ℕ). numbers_text r.numbers r.right ++ bs) (rows_spell rs))

pub lp_spells : (p : Lp) → text_of_parts (lp_parts 0 p) ≡ text_of p
lp_spells p =
    ap (λ (bs : List ℕ). codes "koat-lp 1" ++ 10 ∷ (codes "cols " ++ (signed_decimal p.columns ++ 10 ∷ (codes "first" ++ bs))))
    (costs_spell p.first (parts_after_first p)
    ∙ ap (λ (bs : List ℕ). costs_text p.first ++ (codes "second" ++ bs))
    (costs_spell p.second (parts_after_second p) ∙ ap (λ (bs : List ℕ). costs_text p.second ++ bs) (rows_spell p.rows)))
