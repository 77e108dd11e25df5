-- Multipliers, forms and facts are read along their texts.
use Rattle.std.proofs.Common.{◌≡◌, ℕ, suc, ◌-◌, ◌<◌, ◌≤◌, ◌^◌, min, Bool, true, false, cond, List, [], ◌∷◌, ◌++◌}
use Rattle.std.proofs.Common.{Option, Some, None, refl, ap, sym, subst, ◌∙◌, arith, inl, inr, append-nil, append_assoc}
use Rattle.std.specs.Prelude.{ℤ, pos, negsuc, neg_ℤ, nat_abs, nat_lt}
use Rattle.std.specs.List.{AllByRecursion}
use Rattle.std.specs.Fmt.{decimal, signed_decimal}
use Rattle.std.specs.Char.{is_ascii_digit}
use Rattle.std.proofs.lemmas.Bool.{le-ltb as false_lt}
use Rattle.its_model.specs.model.Programs.{Program}
use Rattle.its_model.specs.linear_forms.Forms.{Form}
use Rattle.its_model.specs.linear_forms.Limits.{certificate_limit}
use Rattle.text_grammar.specs.text_core.Choices.{when}
use Rattle.text_core.proofs.PrefixLaws.{Stops}
use Rattle.text_grammar.specs.declared.symbol.Symbol.{Symbol}
use Rattle.text_grammar.specs.declared.symbol.Symbol.TheVariants as item
use Rattle.section_text.specs.declared.action.Role.TheVariants as roles
use Rattle.section_text.specs.declared.kind.SectionKind.TheVariants.{NumberTooLarge}
use Rattle.section_text.specs.declared.piece.Sort.TheVariants.{Number}
use Rattle.section_text.specs.Drafts.{Draft, in_64, with_constant}
use Rattle.section_text.specs.Grammar.{class_of_sort}
use Rattle.section_writer.specs.Limits.{AreWithin, IsFormWithin, IsSignedWithin, IsWithin}
use Rattle.section_writer.proofs.Along.{Along, becomes, makes, marks}
use Rattle.section_writer.proofs.Cutting.{blank, closes, minus, number_class, number_read, opens, positive_class, semicolon}
use Rattle.section_writer.proofs.Cutting.{signed_class}
use Rattle.section_writer.proofs.Following.{coefs_then, facts_then, form_then, lists_then, more_facts_then, more_lists_then}
use Rattle.section_writer.proofs.Following.{more_numbers_then, numbers_then}
use Rattle.section_writer.proofs.States.{Kept, bare, cased, in_role, st}

-- a number within the limit isn't too large
pub none_large : (n : ℕ) → IsWithin n → when (nat_lt certificate_limit n) NumberTooLarge ≡ None
none_large n small = ap (λ (v : Bool). when v NumberTooLarge) (false_lt certificate_limit n small)

-- 64 bits hold it
same_64 : (n : ℕ) → IsWithin n → in_64 n ≡ n
same_64 n small = omega (arith, small)

-- so do 63 bits and a sign
same_63 : (n : ℕ) → IsWithin n → min n (2 ^ 63 - 1) ≡ n
same_63 n small = omega (arith, small)

-- a blank or what closes a list stops a number
list_stops : (ns rest : List ℕ) → Stops is_ascii_digit (more_numbers_then ns rest)
list_stops [] rest = refl
list_stops (n ∷ ns) rest = refl

module _ {p : Program} {text : List ℕ} {ss : List Symbol} {rest : List ℕ} {Q : Draft → Type 0} where
  -- a multiplier
  multiplier : (n : ℕ) → IsWithin n → Stops is_ascii_digit rest → (k : Kept)
      → Along p text ss (st (record k { numbers = k.numbers ++ n ∷ [] })) rest Q
      → Along p text (item.Made 6 ∷ ss) (in_role roles.Multiplier k) (decimal n ++ rest) Q
  multiplier n small stops k more =
      makes 6 (item.Piece (class_of_sort (Number n)) ∷ []) (number_class n)
      (number_read n (st (record k { numbers = k.numbers ++ n ∷ [] })) small stops (λ at len. none_large n small)
      (λ at len. ap (λ (m : ℕ). st (record k { numbers = k.numbers ++ m ∷ [] })) (same_64 n small)) more)

  -- a coefficient, or the constant, of a form
  integer : (z : ℤ) → IsSignedWithin z → Stops is_ascii_digit rest → (k : Kept)
      → Along p text ss (st (record k { coefs = with_constant k.coefs k.constant; constant = Some z })) rest Q
      → Along p text (item.Made 10 ∷ ss) (in_role roles.Integer k) (signed_decimal z ++ rest) Q
  integer (pos n) small stops k more =
      makes 10 (item.Piece (class_of_sort (Number n)) ∷ []) (signed_class n)
      (number_read n (st (record k { coefs = with_constant k.coefs k.constant; constant = Some (pos n) })) small stops
      (λ at len. none_large n small)
      (λ at len. ap (λ (m : ℕ). st (record k { coefs = with_constant k.coefs k.constant; constant = Some (pos m) }))
      (same_63 n small)) more)
  integer (negsuc n) small stops k more =
      makes 10 (item.Piece 21 ∷ item.Piece 13 ∷ []) (inr (inr (inl refl)))
      (minus (record (in_role roles.Integer k) { negative = true }) (λ at len. refl) (λ at len. refl)
      (subst (λ (c : ℕ). Along p text (item.Piece c ∷ ss) (record (in_role roles.Integer k) { negative = true })
      (decimal (suc n) ++ rest) Q) (positive_class n)
      (number_read (suc n) (st (record k { coefs = with_constant k.coefs k.constant; constant = Some (negsuc n) })) small stops
      (λ at len. none_large (suc n) small)
      (λ at len. ap (λ (m : ℕ). st (record k { coefs = with_constant k.coefs k.constant; constant = Some (neg_ℤ (pos m)) }))
      (same_63 (suc n) small)) more)))

module _ {p : Program} {text : List ℕ} {ss : List Symbol} {rest : List ℕ} {Q : Draft → Type 0} where
  -- further multipliers, and all of a list
  more_numbers : (ns : List ℕ) → AreWithin ns → (k : Kept)
      → Along p text ss (st (record k { numbers = k.numbers ++ ns })) rest Q
      → Along p text (item.Made 17 ∷ ss) (st k) (more_numbers_then ns rest) Q
  more_numbers [] all k more =
      makes 17 (item.Piece 17 ∷ []) (inl refl)
      (closes refl (becomes (ap (λ (ns : List ℕ). st (record k { numbers = ns })) (sym (append-nil k.numbers))) more))
  more_numbers (n ∷ ns) all k more =
      makes 17 (item.Piece 14 ∷ item.Mark 9 ∷ item.Made 6 ∷ item.Made 17 ∷ []) (inr (inl refl))
      (blank refl (marks 9 (multiplier n all.0 (list_stops ns rest) k
      (more_numbers ns all.1 (record k { numbers = k.numbers ++ n ∷ [] })
      (becomes (ap (λ (ms : List ℕ). st (record k { numbers = ms })) (append_assoc k.numbers (n ∷ []) ns)) more)))))

  pub numbers : (ns : List ℕ) → AreWithin ns → (k : Kept) → Along p text ss (st (record k { numbers = ns })) rest Q
      → Along p text (item.Made 15 ∷ ss) (st (record k { numbers = [] })) (numbers_then ns rest) Q
  numbers [] all k more =
      makes 15 (item.Piece 16 ∷ item.Made 16 ∷ []) (inl refl)
      (opens refl (makes 16 (item.Piece 17 ∷ []) (inl refl) (closes refl more)))
  numbers (n ∷ ns) all k more =
      makes 15 (item.Piece 16 ∷ item.Made 16 ∷ []) (inl refl)
      (opens refl (makes 16 (item.Mark 9 ∷ item.Made 6 ∷ item.Made 17 ∷ []) (inr (inl refl))
      (marks 9 (multiplier n all.0 (list_stops ns rest) (record k { numbers = [] })
      (more_numbers ns all.1 (record k { numbers = n ∷ [] }) more)))))

  -- coefficients up to the constant, and what closes the form
  integers_from : (zs : List ℤ) (z : ℤ) → AllByRecursion IsSignedWithin zs → IsSignedWithin z → (k : Kept)
      → Along p text ss (st (record k { coefs = with_constant k.coefs k.constant ++ zs; constant = Some z })) rest Q
      → Along p text (item.Made 10 ∷ item.Made 11 ∷ ss) (in_role roles.Integer k)
      (coefs_then zs (signed_decimal z ++ (93 ∷ rest))) Q
  integers_from [] z all small k more =
      integer z small refl k (makes 11 (item.Piece 17 ∷ []) (inl refl)
      (closes refl (becomes (ap (λ (zs : List ℤ). st (record k { coefs = zs; constant = Some z }))
      (sym (append-nil (with_constant k.coefs k.constant)))) more)))
  integers_from (y ∷ ys) z all small k more =
      integer y all.0 refl k
      (makes 11 (item.Piece 14 ∷ item.Mark 8 ∷ item.Made 10 ∷ item.Made 11 ∷ []) (inr (inl refl))
      (blank refl (marks 8
      (integers_from ys z all.1 small (record k { coefs = with_constant k.coefs k.constant; constant = Some y })
      (becomes (ap (λ (zs : List ℤ). st (record k { coefs = zs; constant = Some z }))
      (append_assoc (with_constant k.coefs k.constant) (y ∷ []) ys)) more)))))

  -- a form
  pub form : (f : Form) → IsFormWithin f → (k : Kept)
      → Along p text ss (st (record k { coefs = f.coefs; constant = Some f.constant })) rest Q
      → Along p text (item.Made 9 ∷ ss) (st (bare k)) (form_then f rest) Q
  form f h k more =
      makes 9 (item.Piece 16 ∷ item.Mark 8 ∷ item.Made 10 ∷ item.Made 11 ∷ []) (inl refl)
      (opens refl (marks 8 (integers_from f.coefs f.constant h.coefs h.constant (bare k) more)))

module _ {p : Program} {text : List ℕ} {ss : List Symbol} {rest : List ℕ} {Q : Draft → Type 0} where
  -- further lists of multipliers, and all of them
  more_lists : (nss : List (List ℕ)) → AllByRecursion AreWithin nss → (k : Kept)
      → Along p text ss (st (record k { numbers = []; lists = k.lists ++ nss })) rest Q
      → Along p text (item.Made 14 ∷ ss) (st (record k { numbers = [] })) (more_lists_then nss rest) Q
  more_lists [] all k more =
      makes 14 (item.Piece 17 ∷ []) (inl refl)
      (closes refl (becomes (ap (λ (nss : List (List ℕ)). st (record k { numbers = []; lists = nss }))
      (sym (append-nil k.lists))) more))
  more_lists (ns ∷ nss) all k more =
      makes 14 (item.Piece 20 ∷ item.Piece 14 ∷ item.Made 15 ∷ item.Mark 12 ∷ item.Made 14 ∷ []) (inr (inl refl))
      (semicolon refl (blank refl (numbers ns all.0 k (marks 12
      (more_lists nss all.1 (record k { lists = k.lists ++ ns ∷ [] })
      (becomes (ap (λ (mss : List (List ℕ)). st (record k { numbers = []; lists = mss }))
      (append_assoc k.lists (ns ∷ []) nss)) more))))))

  pub lists : (nss : List (List ℕ)) → AllByRecursion AreWithin nss → (k : Kept)
      → Along p text ss (st (record k { numbers = []; lists = nss })) rest Q
      → Along p text (item.Piece 16 ∷ item.Made 13 ∷ ss) (st (record k { numbers = []; lists = [] })) (lists_then nss rest) Q
  lists [] all k more = opens refl (makes 13 (item.Piece 17 ∷ []) (inl refl) (closes refl more))
  lists (ns ∷ nss) all k more =
      opens refl (makes 13 (item.Made 15 ∷ item.Mark 12 ∷ item.Made 14 ∷ []) (inr (inl refl))
      (numbers ns all.0 (record k { lists = [] }) (marks 12 (more_lists nss all.1 (record k { lists = ns ∷ [] }) more))))

  -- further facts, and all of a copy
  more_facts : (fs : List Form) → AllByRecursion IsFormWithin fs → (k : Kept)
      → Along p text ss (st (bare (record k { facts = k.facts ++ fs }))) rest Q
      → Along p text (item.Made 8 ∷ ss) (st (bare k)) (more_facts_then fs rest) Q
  more_facts [] all k more =
      makes 8 (item.Piece 17 ∷ []) (inl refl)
      (closes refl (becomes (ap (λ (fs : List Form). st (bare (record k { facts = fs }))) (sym (append-nil k.facts))) more))
  more_facts (f ∷ fs) all k more =
      makes 8 (item.Piece 20 ∷ item.Piece 14 ∷ item.Made 9 ∷ item.Mark 10 ∷ item.Made 8 ∷ []) (inr (inl refl))
      (semicolon refl (blank refl (form f all.0 k (marks 10
      (more_facts fs all.1 (record k { facts = k.facts ++ f ∷ [] })
      (becomes (ap (λ (gs : List Form). st (bare (record k { facts = gs }))) (append_assoc k.facts (f ∷ []) fs)) more))))))

  pub facts : (fs : List Form) → AllByRecursion IsFormWithin fs → (k : Kept)
      → Along p text ss (st (bare (record k { facts = fs }))) rest Q
      → Along p text (item.Piece 16 ∷ item.Made 7 ∷ ss) (st (bare (record k { facts = [] }))) (facts_then fs rest) Q
  facts [] all k more = opens refl (makes 7 (item.Piece 17 ∷ []) (inl refl) (closes refl more))
  facts (f ∷ fs) all k more =
      opens refl (makes 7 (item.Made 9 ∷ item.Mark 10 ∷ item.Made 8 ∷ []) (inr (inl refl))
      (form f all.0 (record k { facts = [] }) (marks 10 (more_facts fs all.1 (record k { facts = f ∷ [] }) more))))
