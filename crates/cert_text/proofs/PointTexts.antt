-- Scaled points and shut places are read along their texts.
use Rattle.std.proofs.Common.{◌≡◌, ℕ, suc, ◌-◌, ◌<◌, ◌≤◌, ◌^◌, min, Bool, true, false, cond, List, [], ◌∷◌, ◌++◌, length}
use Rattle.std.proofs.Common.{map, take, Option, Some, None, refl, ap, sym, ◌∙◌, arith, inl, inr, append-nil, append_assoc}
use Rattle.std.proofs.Common.{length-append}
use Rattle.std.specs.Prelude.{ℤ, pos, negsuc, neg_ℤ, nat_abs, nat_lt, nat_le, ◌==◌, ◌||◌, ◌&&◌, codes}
use Rattle.std.specs.List.{AllByRecursion, list_all}
use Rattle.std.specs.Fmt.{decimal, signed_decimal}
use Rattle.std.specs.Char.{is_ascii_digit}
use Rattle.std.proofs.Math.Seq.{drop-append_seam, take-append_seam}
use Rattle.std.proofs.lemmas.Bool.{le-ltb as false_lt, lt-leb as false_le}
use Rattle.std.proofs.lemmas.Bool.Decides.{nat_tests}
use Rattle.its_model.specs.model.Programs.{Name, Program, arity_of}
use Rattle.its_model.proofs.ListLaws.{all-from}
use Rattle.cert_types.specs.cert_rules.Gaps.{ScaledPoint, SymbolPlace}
use Rattle.text_grammar.specs.text_core.Choices.{when}
use Rattle.text_grammar.specs.text_core.Bytes.{value_up_to}
use Rattle.text_grammar.specs.text_core.Names.{begins_name, continues_name}
use Rattle.text_grammar.specs.text_core.Prefixes.{prefix}
use Rattle.text_core.proofs.PrefixLaws.{Stops, prefix-append}
use Rattle.text_grammar.specs.declared.symbol.Symbol.{Symbol}
use Rattle.text_grammar.specs.declared.symbol.Symbol.TheVariants as item
use Rattle.cert_lexer.specs.declared.kind.ProofKind.{ProofKind}
use Rattle.cert_lexer.specs.declared.kind.ProofKind.TheVariants as kind
use Rattle.cert_lexer.specs.declared.piece.Behind.TheVariants as behind
use Rattle.cert_lexer.specs.declared.piece.Mode.TheVariants as mode
use Rattle.cert_lexer.specs.declared.piece.Piece.{Piece}
use Rattle.cert_lexer.specs.declared.piece.Piece.TheVariants.{Place}
use Rattle.cert_lexer.specs.Lexing.{behind_dot, behind_last_dot, lexeme, place_in, place_lexeme, plain_lexeme, symbol_names}
use Rattle.cert_lexer.specs.Lexing.{symbol_of}
use Rattle.cert_text.specs.NumberFaults.{or_else}
use Rattle.cert_text.specs.Lists.{bracketed, each_before, each_behind, joined, listed}
use Rattle.cert_text.specs.Remembered.{Draft, State, last_of, point_in}
use Rattle.cert_text.specs.Spelled.{IsPlaceOf, IsPointWithin}
use Rattle.cert_text.specs.Texts.{name_at, symbol_place_text, point_text}
use Rattle.cert_text.proofs.Along.{Along, Bytes, IsCutOff, Then, becomes, flatten, makes, marks, reads, spelled_as}
use Rattle.cert_text.proofs.Cutting.{Bare, Digits, Shut, blank, closes, digits_of, minus, number, opens, positive, semicolon}
use Rattle.cert_text.proofs.KeptLaws.{before_behind, last_behind}
use Rattle.cert_text.proofs.Listing.{list_then, next_then, same_32, same_63, small_number, word_then, words_then}
use Rattle.cert_text.proofs.PartTexts.{bare, both_true}
use Rattle.cert_text.proofs.States.{Base, HasName, Last, Sure, limit_inside, limit_of, limit_least, none_large, now, st}
use Rattle.cert_text.proofs.States.{symbol_name}

-- the parts of a point and its denominator make the point
pub point_same : (z : ScaledPoint) → point_in (z.parts ++ pos z.den ∷ []) ≡ z
point_same z =
    ap (λ (xs : List ℤ). record { parts = xs; den = nat_abs (last_of (z.parts ++ pos z.den ∷ [])) })
    (before_behind z.parts (pos z.den))
    ∙ ap (λ (x : ℤ). record { parts = z.parts; den = nat_abs x }) (last_behind z.parts (pos z.den))

module _ {p : Program} {ss : List Symbol} {rest : List ℕ} {Q : State → Type 0} (b : Base) where
  -- the parts of a point up to its denominator, and the bracket that closes it, are read
  parts : (zs : List ℤ) (den : ℕ) → AllByRecursion (λ y. nat_abs y ≤ limit_of b) zs → den ≤ limit_of b → (l : Last)
      (d : Draft)
      → ((m : Last) → Along p ss (st b m (record d { integers = d.integers ++ (zs ++ pos den ∷ []) })) mode.Plain rest Q)
      → Along p (item.Made 38 ∷ ss) (st b l d) mode.Plain (each_before zs ++ (decimal den ++ (93 ∷ rest))) Q
  parts [] den all small l d more =
      makes 38 (item.Mark 26 ∷ item.Made 8 ∷ item.Mark 27 ∷ item.Made 39 ∷ []) (inl refl)
      (marks 26 (number Bare den (small_number b den small) refl (none_large (limit_of b) den small)
      (marks 27 (becomes (ap (λ (k : ℕ). st b (now l den false) (record d { integers = d.integers ++ pos k ∷ [] }))
      (same_63 b den small)) (makes 39 (item.Piece 35 ∷ []) (inl refl) (closes Bare (more (now l den false))))))))
  parts (pos n ∷ ys) den all small l d more =
      spelled_as (append_assoc (decimal n) (32 ∷ each_before ys) (decimal den ++ (93 ∷ rest)))
      (makes 38 (item.Mark 26 ∷ item.Made 8 ∷ item.Mark 27 ∷ item.Made 39 ∷ []) (inl refl)
      (marks 26 (number Bare n (small_number b n all.0) refl (none_large (limit_of b) n all.0)
      (marks 27 (becomes (ap (λ (k : ℕ). st b (now l n false) (record d { integers = d.integers ++ pos k ∷ [] }))
      (same_63 b n all.0)) (makes 39 (item.Piece 32 ∷ item.Made 38 ∷ []) (inr (inl refl))
      (blank Bare (parts ys den all.1 small (now l n false) (record d { integers = d.integers ++ pos n ∷ [] })
      (λ m. becomes (ap (λ (ks : List ℤ). st b m (record d { integers = ks }))
      (append_assoc d.integers (pos n ∷ []) (ys ++ pos den ∷ []))) (more m))))))))))
  parts (negsuc n ∷ ys) den all small l d more =
      spelled_as (append_assoc (signed_decimal (negsuc n)) (32 ∷ each_before ys) (decimal den ++ (93 ∷ rest)))
      (makes 38 (item.Mark 26 ∷ item.Piece 42 ∷ item.Made 20 ∷ item.Mark 27 ∷ item.Piece 32 ∷ item.Made 38 ∷ [])
      (inr (inl refl))
      (marks 26 (minus Bare (positive Bare (suc n) (small_number b (suc n) all.0) refl
      (none_large (limit_of b) (suc n) all.0) (omega arith)
      (marks 27 (becomes (ap (λ (k : ℕ). st b (now l (suc n) true) (record d { integers = d.integers ++ neg_ℤ (pos k) ∷ [] }))
      (same_63 b (suc n) all.0)) (blank Bare (parts ys den all.1 small (now l (suc n) true)
      (record d { integers = d.integers ++ negsuc n ∷ [] })
      (λ m. becomes (ap (λ (ks : List ℤ). st b m (record d { integers = ks }))
      (append_assoc d.integers (negsuc n ∷ []) (ys ++ pos den ∷ []))) (more m))))))))))

-- numbers within the limit of points are within the limit of the state in a gap
fine_parts : (b : Base) → b.in_gap ≡ true → (zs : List ℤ) → AllByRecursion (λ z. nat_abs z ≤ 2 ^ 45) zs
    → AllByRecursion (λ z. nat_abs z ≤ limit_of b) zs
fine_parts b inside [] h = tt
fine_parts b inside (z ∷ zs) h = (limit_inside b inside (nat_abs z) h.0, fine_parts b inside zs h.1)

module _ {p : Program} {ss : List Symbol} {rest : List ℕ} {Q : State → Type 0} (b : Base) (inside : b.in_gap ≡ true) where
  -- a scaled point is read
  pub point : (z : ScaledPoint) → IsPointWithin z → (l : Last) (d : Draft)
      → ((m : Last) → Along p ss (st b m (bare (record d { points = d.points ++ z ∷ [] }))) mode.Plain rest Q)
      → Along p (item.Made 37 ∷ ss) (st b l (bare d)) mode.Plain (point_text z ++ rest) Q
  point z h l d more =
      makes 37 (item.Piece 34 ∷ item.Mark 24 ∷ item.Made 38 ∷ item.Mark 44 ∷ []) (inl refl)
      (opens Bare (marks 24 (spelled_as
      (flatten (Then (Then (Bytes (each_before z.parts)) (Bytes (decimal z.den))) (Bytes (codes "]"))) rest)
      (parts b z.parts z.den (fine_parts b inside z.parts (all-from (λ x. nat_abs x ≤ 2 ^ 45) z.parts h.parts))
      (limit_inside b inside z.den h.den) l (bare d)
      (λ m. marks 44 (becomes (ap (λ (y : ScaledPoint). st b m (bare (record d { points = d.points ++ y ∷ [] })))
      (point_same z)) (more m)))))))

module _ {p : Program} {ss : List Symbol} {rest : List ℕ} {Q : State → Type 0} (b : Base) (inside : b.in_gap ≡ true) where
  -- the further points are read
  more_points : (zs : List ScaledPoint) → AllByRecursion IsPointWithin zs → (l : Last) (d : Draft)
      → ((m : Last) → Along p ss (st b m (bare (record d { points = d.points ++ zs }))) mode.Plain rest Q)
      → Along p (item.Made 36 ∷ ss) (st b l (bare d)) mode.Plain
      (each_behind (codes "; ") (map point_text zs) ++ (93 ∷ rest)) Q
  more_points [] all l d more =
      makes 36 (item.Piece 35 ∷ []) (inl refl)
      (closes Bare (becomes (ap (λ (zs : List ScaledPoint). st b l (bare (record d { points = zs })))
      (sym (append-nil d.points))) (more l)))
  more_points (z ∷ zs) all l d more =
      spelled_as (next_then (point_text z) (map point_text zs) (93 ∷ rest))
      (makes 36 (item.Piece 40 ∷ item.Piece 32 ∷ item.Made 37 ∷ item.Made 36 ∷ []) (inr (inl refl))
      (semicolon (blank Bare (point b inside z all.0 l d
      (λ m. more_points zs all.1 m (record d { points = d.points ++ z ∷ [] })
      (λ n. becomes (ap (λ (ys : List ScaledPoint). st b n (bare (record d { points = ys })))
      (append_assoc d.points (z ∷ []) zs)) (more n)))))))

  -- a list of points is read
  pub points : (zs : List ScaledPoint) → 1 ≤ length zs → AllByRecursion IsPointWithin zs → (l : Last) (d : Draft)
      → ((m : Last) → Along p ss (st b m (bare (record d { points = d.points ++ zs }))) mode.Plain rest Q)
      → Along p (item.Made 35 ∷ ss) (st b l (bare d)) mode.Plain (listed (map point_text zs) ++ rest) Q
  points [] one all l d more = absurd (omega (arith, one))
  points (z ∷ zs) one all l d more =
      spelled_as (list_then (point_text z) (map point_text zs) rest)
      (makes 35 (item.Piece 34 ∷ item.Made 37 ∷ item.Made 36 ∷ []) (inl refl)
      (opens Bare (point b inside z all.0 l d
      (λ m. more_points zs all.1 m (record d { points = d.points ++ z ∷ [] })
      (λ n. becomes (ap (λ (ys : List ScaledPoint). st b n (bare (record d { points = ys })))
      (append_assoc d.points (z ∷ []) zs)) (more n))))))

-- a digit is no dot, and continues a name
digit_no_dot : (c : ℕ) → is_ascii_digit c ≡ true → (c == 46) ≡ false
digit_no_dot c h = pick (c == 46) refl
  where
    pick : (v : Bool) → (c == 46) ≡ v → v ≡ false
    pick false e = refl
    pick true e =
        let same : c ≡ 46 = grind (arith, nat_tests) in let n : is_ascii_digit c ≡ false = ap is_ascii_digit same in cc

digit_goes_on : (c : ℕ) → is_ascii_digit c ≡ true → continues_name c ≡ true
digit_goes_on c h = go (begins_name c) (is_ascii_digit c) h
  where
    go : (v w : Bool) → w ≡ true → (v || w || (c == 39) || (c == 46)) ≡ true
    go true w e = refl
    go false true e = refl
    go false false e = cc

digits_go_on : (ds : List ℕ) → list_all is_ascii_digit ds ≡ true → list_all continues_name ds ≡ true
digits_go_on [] h = refl
digits_go_on (c ∷ cs) h = go (is_ascii_digit c) refl h (λ k. digits_go_on cs k)
  where
    go : (v : Bool) → is_ascii_digit c ≡ v → (v && list_all is_ascii_digit cs) ≡ true
        → (list_all is_ascii_digit cs ≡ true → list_all continues_name cs ≡ true)
        → (continues_name c && list_all continues_name cs) ≡ true
    go true e k ih = both_true (continues_name c) (list_all continues_name cs) (digit_goes_on c e) (ih k)
    go false e k ih = cc

-- digits have no dot
no_dot : (o : Option (List ℕ)) (ds : List ℕ) → list_all is_ascii_digit ds ≡ true → behind_last_dot o ds ≡ o
no_dot o [] h = refl
no_dot o (c ∷ cs) h = go (is_ascii_digit c) refl h (λ k. no_dot o cs k)
  where
    go : (v : Bool) → is_ascii_digit c ≡ v → (v && list_all is_ascii_digit cs) ≡ true
        → (list_all is_ascii_digit cs ≡ true → behind_last_dot o cs ≡ o)
        → behind_last_dot (cond (c == 46) (Some cs) o) cs ≡ o
    go true e k ih = ap (λ (v : Bool). behind_last_dot (cond v (Some cs) o) cs) (digit_no_dot c e) ∙ ih k
    go false e k ih = cc

last_dot : (o : Option (List ℕ)) (xs ds : List ℕ) → list_all is_ascii_digit ds ≡ true
    → behind_last_dot o (xs ++ 46 ∷ ds) ≡ Some ds
last_dot o [] ds h = no_dot (Some ds) ds h
last_dot o (x ∷ xs) ds h = last_dot (cond (x == 46) (Some (xs ++ 46 ∷ ds)) o) xs ds h

all_append : (xs ys : List ℕ) → list_all continues_name xs ≡ true → list_all continues_name ys ≡ true
    → list_all continues_name (xs ++ ys) ≡ true
all_append [] ys h k = k
all_append (x ∷ xs) ys h k = go (continues_name x) h (λ e. all_append xs ys e k)
  where
    go : (v : Bool) → (v && list_all continues_name xs) ≡ true
        → (list_all continues_name xs ≡ true → list_all continues_name (xs ++ ys) ≡ true)
        → (v && list_all continues_name (xs ++ ys)) ≡ true
    go true e ih = ih e
    go false e ih = cc

-- a name, a dot and digits are a place
place_found : (symbols : List Name) (s n : ℕ) (w : List ℕ) (d : Digits n) → n < 2 ^ 127 → symbol_of symbols w ≡ s
    → place_in symbols (w ++ 46 ∷ (d.first ∷ d.others)) (behind_last_dot None (w ++ 46 ∷ (d.first ∷ d.others)))
    ≡ Place s (behind.Number n)
place_found symbols s n w d small found =
    let ds : List ℕ = d.first ∷ d.others in
    let run : List ℕ = w ++ 46 ∷ ds in
    let all : list_all is_ascii_digit ds ≡ true = both_true (is_ascii_digit d.first) (list_all is_ascii_digit d.others) d.digit d.all in
    let long = length-append w (46 ∷ ds) in
    let front : length run - length ds - 1 ≡ length w = omega (arith, long) in
    ap (place_in symbols run) (last_dot None w ds all)
    ∙ ap (λ (v : Bool). cond v (Place (symbol_of symbols (take (length run - length ds - 1) run)) (behind_dot ds))
    (Place (symbol_of symbols run) behind.NoNumber)) all
    ∙ ap (λ (k : ℕ). Place (symbol_of symbols (take k run)) (behind_dot ds)) front
    ∙ ap (λ (v : List ℕ). Place (symbol_of symbols v) (behind_dot ds)) (take-append_seam w (46 ∷ ds))
    ∙ ap (λ (k : ℕ). Place k (behind_dot ds)) found
    ∙ ap (λ (v : Bool). Place s (cond v behind.LeadingZero (behind.Number (value_up_to (2 ^ 127) ds)))) d.proper
    ∙ ap (λ (k : ℕ). Place s (behind.Number k))
    (ap (λ (k : ℕ). min k (2 ^ 127)) d.value ∙ (let k : min n (2 ^ 127) ≡ n = omega (arith, small) in k))

-- a place is cut before a byte that doesn't continue a name
place_cut : (p : Program) (s n : ℕ) (h : HasName p s) (rest : List ℕ) → n < 2 ^ 127 → Stops continues_name rest
    → IsCutOff p mode.InShut (Place s (behind.Number n)) ((name_at p s ++ 46 ∷ decimal n) ++ rest) rest
place_cut p s n h rest small stops = go (digits_of n small)
  where
    go : (d : Digits n) → IsCutOff p mode.InShut (Place s (behind.Number n)) ((name_at p s ++ 46 ∷ decimal n) ++ rest) rest
    go d =
        let symbols = symbol_names p in
        let ds : List ℕ = d.first ∷ d.others in
        let tail : List ℕ = h.others ++ 46 ∷ ds in
        let digits : list_all is_ascii_digit ds ≡ true = both_true (is_ascii_digit d.first) (list_all is_ascii_digit d.others) d.digit d.all in
        let goes : list_all continues_name tail ≡ true = all_append h.others (46 ∷ ds) h.goes_on (digits_go_on ds digits) in
        record {
          first = h.first;
          others = tail ++ rest;
          some = length tail;
          begins = ap (λ (w : List ℕ). (w ++ 46 ∷ decimal n) ++ rest) h.bytes ∙ ap (λ (xs : List ℕ). (h.first ∷ (h.others ++ 46 ∷ xs)) ++ rest) d.bytes;
          cut =
              ap (λ (v : Bool). cond v (place_lexeme symbols (h.first ∷ prefix continues_name (tail ++ rest)))
              (plain_lexeme symbols h.first (tail ++ rest))) h.begins
              ∙ ap (λ (xs : List ℕ). place_lexeme symbols (h.first ∷ xs)) (prefix-append continues_name tail rest goes stops)
              ∙ ap (λ (q : Piece). lexeme q (length (h.first ∷ tail))) (place_found symbols s n (h.first ∷ h.others) d small h.found);
          behind = drop-append_seam tail rest;
        }

-- an existing place of a symbol has no fault
shut_none : (p : Program) (limit s n : ℕ) → s < length p.symbols → 1 ≤ n → n ≤ arity_of p s → n ≤ limit
    → or_else (when (nat_le (length p.symbols) s) kind.BadReference) (or_else (when (nat_lt limit n) kind.NumberTooLarge)
    (when ((n == 0) || nat_lt (arity_of p s) n) kind.BadReference)) ≡ None
shut_none p limit s n low some few small =
    let other : (n == 0) ≡ false = grind (arith, nat_tests) in
    ap (λ (v : Bool). or_else (when v kind.BadReference) (or_else (when (nat_lt limit n) kind.NumberTooLarge)
    (when ((n == 0) || nat_lt (arity_of p s) n) kind.BadReference))) (false_le (length p.symbols) s low)
    ∙ ap (λ (o : Option ProofKind). or_else o (when ((n == 0) || nat_lt (arity_of p s) n) kind.BadReference)) (none_large limit n small)
    ∙ ap (λ (v : Bool). when (v || nat_lt (arity_of p s) n) kind.BadReference) other
    ∙ ap (λ (v : Bool). when v kind.BadReference) (false_lt (arity_of p s) n few)

module _ {p : Program} {ss : List Symbol} {rest : List ℕ} {Q : State → Type 0} (sure : Sure p) (b : Base) (l : Last)
    (d : Draft) where
  -- a shut place is read
  pub place : (s : SymbolPlace) → IsPlaceOf p s → Stops continues_name rest
      → Along p ss (st b l (record d { shut = d.shut ++ s ∷ [] })) mode.InShut rest Q
      → Along p (item.Piece 43 ∷ ss) (st b l d) mode.InShut (symbol_place_text p s ++ rest) Q
  place s h stops more =
      let few = sure.few_places s.symbol in
      let least = limit_least b in
      let most = h.most in
      let small : s.place ≤ limit_of b = omega (arith, few, least, most) in
      reads (Place s.symbol (behind.Number s.place))
      (shut_none p (limit_of b) s.symbol s.place h.symbol h.least h.most small)
      (place_cut p s.symbol s.place (symbol_name p sure s.symbol h.symbol) rest (omega (arith, few, most)) stops)
      (becomes (ap (λ (n : ℕ). st b l (record d { shut = d.shut ++ record { symbol = s.symbol; place = n } ∷ [] }))
      (same_32 s.place (omega (arith, few, most)))) more)

-- a closing bracket, or a blank, ends a name
places_stop : (ws : List (List ℕ)) (rest : List ℕ) → Stops continues_name (each_behind (codes " ") ws ++ (93 ∷ rest))
places_stop [] rest = refl
places_stop (w ∷ ws) rest = refl

module _ {p : Program} {ss : List Symbol} {rest : List ℕ} {Q : State → Type 0} (sure : Sure p) (b : Base) (l : Last) where
  -- the further shut places are read
  more_places : (xs : List SymbolPlace) → AllByRecursion (IsPlaceOf p) xs → (d : Draft)
      → Along p ss (st b l (record d { shut = d.shut ++ xs })) mode.Plain rest Q
      → Along p (item.Made 34 ∷ ss) (st b l d) mode.InShut
      (each_behind (codes " ") (map (symbol_place_text p) xs) ++ (93 ∷ rest)) Q
  more_places [] all d more =
      makes 34 (item.Piece 35 ∷ []) (inl refl)
      (closes Shut (becomes (ap (λ (xs : List SymbolPlace). st b l (record d { shut = xs })) (sym (append-nil d.shut))) more))
  more_places (x ∷ xs) all d more =
      spelled_as (word_then (symbol_place_text p x) (map (symbol_place_text p) xs) (93 ∷ rest))
      (makes 34 (item.Piece 32 ∷ item.Piece 43 ∷ item.Made 34 ∷ []) (inr (inl refl))
      (blank Shut (place sure b l d x all.0 (places_stop (map (symbol_place_text p) xs) rest)
      (more_places xs all.1 (record d { shut = d.shut ++ x ∷ [] })
      (becomes (ap (λ (ys : List SymbolPlace). st b l (record d { shut = ys })) (append_assoc d.shut (x ∷ []) xs)) more)))))

  -- the list of shut places is read
  pub places : (xs : List SymbolPlace) → AllByRecursion (IsPlaceOf p) xs → (d : Draft)
      → Along p ss (st b l (record d { shut = d.shut ++ xs })) mode.Plain rest Q
      → Along p (item.Piece 34 ∷ item.Made 33 ∷ ss) (st b l d) mode.InShut
      (bracketed (joined (codes " ") (map (symbol_place_text p) xs)) ++ rest) Q
  places [] all d more =
      opens Shut (makes 33 (item.Piece 35 ∷ []) (inl refl)
      (closes Shut (becomes (ap (λ (xs : List SymbolPlace). st b l (record d { shut = xs })) (sym (append-nil d.shut))) more)))
  places (x ∷ xs) all d more =
      opens Shut (spelled_as (words_then (symbol_place_text p x) (map (symbol_place_text p) xs) rest)
      (makes 33 (item.Piece 43 ∷ item.Made 34 ∷ []) (inr (inl refl))
      (place sure b l d x all.0 (places_stop (map (symbol_place_text p) xs) rest)
      (more_places xs all.1 (record d { shut = d.shut ++ x ∷ [] })
      (becomes (ap (λ (ys : List SymbolPlace). st b l (record d { shut = ys })) (append_assoc d.shut (x ∷ []) xs)) more)))))
