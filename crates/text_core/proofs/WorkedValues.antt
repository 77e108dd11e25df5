-- The worked values of names, pieces and first faults.
use Rattle.std.proofs.Common.{◌≡◌, ℕ, true, false, [], ◌∷◌, Some, refl, ap, inl, inr, arith}
use Rattle.std.specs.Prelude.{codes}
use Rattle.text_core.specs.Readers.{Fault, IsBeginning}
use Rattle.text_core.specs.Faults.{shows, breaks}
use Rattle.text_core.specs.Rows.{Number, Comma, One, More, Begins, Behind, Open, Kind, Syntax, TooLarge, TooMany, rows}
use Rattle.text_core.specs.Worked.{NamesAreWorkedOut, PositionsAreFound, DigitsAreWorkedOut, TokensAreFound, BreaksAreWorked}
use Rattle.text_core.specs.Worked.{FaultsAreWorked, RowsAreRead, HasFault, tokens}
use Rattle.text_core.proofs.FirstFaults.{Ahead, answer_is, answers_all, one_tree_each, one_first_each, fault_ahead}
use Rattle.text_core.proofs.FirstFaults.{nowhere_begins, whole_ends}
use Rattle.text_core.proofs.RowLaws.{row_laws}

-- false isn't true
fails : false ≡ true → ⊥
fails h = cc

-- the worked values of names hold
pub names : NamesAreWorkedOut
names = record {
  small_letter = (refl, refl);
  capital_letter = (refl, refl);
  underscore = (refl, refl);
  dollar = (refl, refl);
  goes_on = (refl, refl);
  digit_first = λ h. fails h.0;
  apostrophe_first = λ h. fails h.0;
  dot_first = λ h. fails h.0;
  space_in_it = λ h. fails h.1;
  minus_behind_it = λ h. fails h.1;
  minus_in_it = λ h. fails h.1;
  nothing = λ h. h;
}

-- the worked values of positions hold
pub positions : PositionsAreFound
positions = record { same = refl; other = refl; small_for_capital = refl; longer = refl; shorter = refl; first = refl; twice = refl; absent = refl; among_none = refl }

-- the worked values of digits hold
pub digits : DigitsAreWorkedOut
digits = record { seven = refl; leading = refl; plain_seven = refl; zero_alone = refl; at_limit = refl; past_limit = refl }

-- the worked values of tokens hold
pub tokens_found : TokensAreFound
tokens_found = record { found = refl; nothing = refl }

-- a comma begins no row
no_comma : ¬ IsBeginning rows (Comma ∷ [])
no_comma = nowhere_begins rows row_laws (Comma ∷ []) refl

-- the worked values of prefixes and breaks hold
pub break_values : BreaksAreWorked
break_values = record {
  comma_begins = row_laws.goes_on (Comma ∷ Number 1 ∷ []) (Open (One 1)) refl;
  comma_is_none = whole_ends rows row_laws (Comma ∷ Number 1 ∷ []) (Open (One 1)) refl refl;
  two_are_whole = (More (One 1) 2, refl);
  two_begin = (More (One 1) 2, [], refl);
  nothing_begins = (One 0, Number 0 ∷ [], refl);
  nothing_is_none = whole_ends rows row_laws [] Begins refl refl;
  no_comma_first = no_comma;
  ends_early = (row_laws.goes_on (Comma ∷ Number 1 ∷ []) (Open (One 1)) refl, whole_ends rows row_laws (Comma ∷ Number 1 ∷ []) (Open (One 1)) refl refl);
  second_comma = (row_laws.goes_on (Comma ∷ Number 1 ∷ []) (Open (One 1)) refl, nowhere_begins rows row_laws (Comma ∷ Comma ∷ Number 1 ∷ []) refl);
  goes_on = λ b. b.1 (More (One 1) 2, [], refl);
  ends_well = λ b. b.1 (One 1, refl);
  broken_before = λ b. no_comma b.0;
}

-- the fault of a break isn't that of a large number
not_large : (at : ℕ) (x : Fault Kind) → record { kind = Syntax; at = at } ≡ x → x.kind ≡ TooLarge → ⊥
not_large at x e k = let s : Syntax ≡ x.kind = ap (λ (y : Fault Kind). y.kind) e in cc

not_many : (at : ℕ) (x : Fault Kind) → record { kind = Syntax; at = at } ≡ x → x.kind ≡ TooMany → ⊥
not_many at x e k = let s : Syntax ≡ x.kind = ap (λ (y : Fault Kind). y.kind) e in cc

-- `12,,` breaks off at its second comma
later : HasFault (codes "12,,") Syntax 3
later = breaks (record { piece = Comma; at = 2; upto = 3 } ∷ record { piece = Number 12; at = 0; upto = 2 } ∷ []) (record { piece = Comma; at = 3; upto = 4 } ∷ []) (Open (One 12)) refl refl
    (row_laws.goes_on (Comma ∷ Number 12 ∷ []) (Open (One 12)) refl, nowhere_begins rows row_laws (Comma ∷ Comma ∷ Number 12 ∷ []) refl) refl

-- no fault comes after a break
behind_break : (x : Fault Kind) → x.kind ≡ TooLarge → Ahead rows 5 [] (Some Begins) (tokens (codes "1,,12")) x → ⊥
behind_break x k (inl (inl a)) = a
behind_break x k (inl (inr b)) = not_large 0 x b.1 k
behind_break x k (inr (inl (inl a))) = a
behind_break x k (inr (inl (inr b))) = not_large 1 x b.1 k
behind_break x k (inr (inr (inl (inl a)))) = a
behind_break x k (inr (inr (inl (inr b)))) = not_large 2 x b.1 k
behind_break x k (inr (inr (inr a))) = a

-- a number that can't follow shows no fault
cannot_follow : (x : Fault Kind) → x.kind ≡ TooLarge → Ahead rows 4 [] (Some Begins) (tokens (codes "1 12")) x → ⊥
cannot_follow x k (inl (inl a)) = a
cannot_follow x k (inl (inr b)) = not_large 0 x b.1 k
cannot_follow x k (inr (inl (inl a))) = a
cannot_follow x k (inr (inl (inr b))) = not_large 2 x b.1 k
cannot_follow x k (inr (inr a)) = a

-- three numbers aren't too many
not_too_many : (x : Fault Kind) → x.kind ≡ TooMany → Ahead rows 5 [] (Some Begins) (tokens (codes "1,2,3")) x → ⊥
not_too_many x k (inl (inl a)) = a
not_too_many x k (inl (inr b)) = not_many 0 x b.1 k
not_too_many x k (inr (inl (inl a))) = a
not_too_many x k (inr (inl (inr b))) = not_many 1 x b.1 k
not_too_many x k (inr (inr (inl (inl a)))) = a
not_too_many x k (inr (inr (inl (inr b)))) = not_many 2 x b.1 k
not_too_many x k (inr (inr (inr (inl (inl a))))) = a
not_too_many x k (inr (inr (inr (inl (inr b))))) = not_many 3 x b.1 k
not_too_many x k (inr (inr (inr (inr (inl (inl a)))))) = a
not_too_many x k (inr (inr (inr (inr (inl (inr b)))))) = not_many 4 x b.1 k
not_too_many x k (inr (inr (inr (inr (inr (inl a)))))) = a
not_too_many x k (inr (inr (inr (inr (inr (inr b)))))) = not_many 5 x b.1 k

-- the worked values of the faults of texts of rows hold
pub fault_values : FaultsAreWorked
fault_values = record {
  row = answer_is rows row_laws 3 (tokens (codes "1,2"));
  ends_early = answer_is rows row_laws 3 (tokens (codes "1, "));
  second_comma = answer_is rows row_laws 3 (tokens (codes "1,,"));
  no_piece = answer_is rows row_laws 1 (tokens (codes ";"));
  large_first = answer_is rows row_laws 4 (tokens (codes "12,,"));
  breaks_later = later;
  not_first = λ h. let p = (h.least (record { kind = TooLarge; at = 0 }) (answer_is rows row_laws 4 (tokens (codes "12,,"))).is).position in omega (arith, p);
  nothing_behind = λ h. behind_break (record { kind = TooLarge; at = 3 }) refl (fault_ahead rows 5 (tokens (codes "1,,12")) (record { kind = TooLarge; at = 3 }) h);
  cannot_follow = λ h. cannot_follow (record { kind = TooLarge; at = 2 }) refl (fault_ahead rows 4 (tokens (codes "1 12")) (record { kind = TooLarge; at = 2 }) h);
  too_many = answer_is rows row_laws 8 (tokens (codes "1,2,3,4 "));
  three = λ at h. not_too_many (record { kind = TooMany; at = at }) refl (fault_ahead rows 5 (tokens (codes "1,2,3")) (record { kind = TooMany; at = at }) h);
  broken_many = answer_is rows row_laws 8 (tokens (codes "1,2,3,4,"));
  large_and_many = answer_is rows row_laws 8 (tokens (codes "1,2,3,10"));
  many_too =
      shows (record { piece = Number 10; at = 6; upto = 8 } ∷ record { piece = Comma; at = 5; upto = 6 } ∷ record { piece = Number 3; at = 4; upto = 5 } ∷ record { piece = Comma; at = 3; upto = 4 }
      ∷ record { piece = Number 2; at = 2; upto = 3 } ∷ record { piece = Comma; at = 1; upto = 2 } ∷ record { piece = Number 1; at = 0; upto = 1 } ∷ []) []
      (Behind (More (More (More (One 1) 2) 3) 10)) refl refl (inl refl);
}

-- the reader of rows satisfies the laws
pub read : RowsAreRead
read = record { laws = row_laws; answers = answers_all rows row_laws; one_row = one_tree_each rows row_laws; one_first = one_first_each rows row_laws }
