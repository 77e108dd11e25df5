-- Scaled points and shut places that were read along bytes are spelled by them.
use Rattle.std.proofs.Common.{◌≡◌, ℕ, zero, suc, ◌-◌, ◌<◌, ◌≤◌, ◌^◌, min, Bool, true, false, cond, List, [], ◌∷◌, ◌++◌, length}
use Rattle.std.proofs.Common.{map, drop, Option, Some, None, refl, ap, sym, subst, ◌∙◌, arith, inl, inr, append-nil}
use Rattle.std.proofs.Common.{append_assoc}
use Rattle.std.specs.Prelude.{ℤ, pos, negsuc, neg_ℤ, nat_abs, nat_lt, nat_le, ◌==◌, ◌||◌, codes}
use Rattle.std.specs.List.{AllByRecursion}
use Rattle.std.specs.Fmt.{decimal, signed_decimal}
use Rattle.std.proofs.lemmas.Bool.{or_parts, leb-false as le_false, ltb-false as lt_false}
use Rattle.std.proofs.lemmas.Bool.Decides.{nat_tests}
use Rattle.its_model.specs.model.Programs.{Program, arity_of}
use Rattle.its_model.proofs.ListLaws.{all-to}
use Rattle.cert_types.specs.rule_forms.linear_forms.Limits.{certificate_limit, point_limit}
use Rattle.cert_types.specs.cert_rules.Gaps.{ScaledPoint, SymbolPlace}
use Rattle.text_grammar.specs.text_core.Choices.{when}
use Rattle.text_grammar.specs.text_core.Names.{continues_name}
use Rattle.text_grammar.specs.text_core.Prefixes.{prefix}
use Rattle.text_grammar.specs.declared.symbol.Symbol.{Symbol}
use Rattle.text_grammar.specs.declared.symbol.Symbol.TheVariants as item
use Rattle.cert_lexer.specs.declared.kind.ProofKind.{ProofKind}
use Rattle.cert_lexer.specs.declared.kind.ProofKind.TheVariants as kind
use Rattle.cert_lexer.specs.declared.piece.Behind.{Behind}
use Rattle.cert_lexer.specs.declared.piece.Behind.TheVariants as behind
use Rattle.cert_lexer.specs.declared.piece.Sign.TheVariants as sign
use Rattle.cert_lexer.specs.declared.piece.Mode.TheVariants as mode
use Rattle.cert_lexer.specs.declared.piece.Piece.{Piece}
use Rattle.cert_lexer.specs.declared.piece.Piece.TheVariants.{Place}
use Rattle.cert_lexer.specs.Lexing.{mode_with, symbol_names}
use Rattle.cert_lexer.proofs.PieceClasses.{class_place}
use Rattle.cert_lexer.proofs.PlaceBack.{place_back}
use Rattle.cert_text.specs.NumberFaults.{fault_of_behind, fault_of_piece, fault_of_place, or_else}
use Rattle.cert_text.specs.Lists.{bracketed, each_before, each_behind, joined, listed}
use Rattle.cert_text.specs.Reading.{moved}
use Rattle.cert_text.specs.Remembered.{Draft, State}
use Rattle.cert_text.specs.Spelled.{IsPlaceOf, IsPointWithin}
use Rattle.cert_text.specs.Texts.{name_at, symbol_place_text, point_text}
use Rattle.cert_text.proofs.Along.{Along, Bytes, Then, flatten}
use Rattle.cert_text.proofs.Back.{less, made_back, mark_back, on, read_back, shorter, sign_back, turned_to}
use Rattle.cert_text.proofs.Cutting.{Bare}
use Rattle.cert_text.proofs.Listing.{list_then, next_then, same_32, same_63, word_then, words_then}
use Rattle.cert_text.proofs.ListsBack.{none_small, number_back, number_small, or_none, positive_back, when_none}
use Rattle.cert_text.proofs.PartTexts.{bare}
use Rattle.cert_text.proofs.PartsBack.{name_found}
use Rattle.cert_text.proofs.PointTexts.{point_same}
use Rattle.cert_text.proofs.States.{Base, Last, Sure, limit_most, limit_of, now, st}

module _ {p : Program} {ss : List Symbol} {Q : State → Type 0} {R : Type 0} (b : Base) where
  -- the parts of a point up to its denominator that were read, with the bracket that closes it, are spelled by the
  -- bytes
  parts_back : (f : ℕ) {whole : List ℕ} → length whole < f → (l : Last) (d : Draft)
      → Along p (item.Made 38 ∷ ss) (st b l d) mode.Plain whole Q
      → ((zs : List ℤ) (den : ℕ) (m : Last) (rest : List ℕ) → AllByRecursion (λ y. nat_abs y ≤ limit_of b) zs
      → den ≤ limit_of b → whole ≡ each_before zs ++ (decimal den ++ (93 ∷ rest))
      → Along p ss (st b m (record d { integers = d.integers ++ (zs ++ pos den ∷ []) })) mode.Plain rest Q → R) → R
  parts_back zero few l d a k = absurd (omega (arith, few))
  parts_back (suc f) {whole} few l d a k =
      made_back 38 ((item.Mark 26 ∷ item.Made 8 ∷ item.Mark 27 ∷ item.Made 39 ∷ []) ∷
      (item.Mark 26 ∷ item.Piece 42 ∷ item.Made 20 ∷ item.Mark 27 ∷ item.Piece 32 ∷ item.Made 38 ∷ []) ∷ []) refl a (
        (λ x. number_back Bare (λ n h. number_small b n h) (mark_back 26 x) (λ n r1 none e1 y.
            let small = none_small (limit_of b) n none in
            made_back 39 ((item.Piece 35 ∷ []) ∷ (item.Piece 32 ∷ item.Made 38 ∷ []) ∷ []) refl
            (turned_to (ap (λ (j : ℕ). st b (now l n false) (record d { integers = d.integers ++ pos j ∷ [] }))
            (same_63 b n small)) (mark_back 27 y)) (
              (λ z. sign_back sign.CloseSquare z (λ rest e w. k [] n (now l n false) rest tt small (on (decimal n) e1 e) w)),
              (
                (λ z. sign_back sign.Blank z (λ r2 e2 w.
                    let one = shorter (decimal n) r1 e1 in let two = less 32 e2 in
                    parts_back f (omega (arith, few, one, two)) (now l n false)
                    (record d { integers = d.integers ++ pos n ∷ [] }) w
                    (λ zs den m rest all least e u. k (pos n ∷ zs) den m rest (small, all) least
                    (on (decimal n) e1 (on (codes " ") e2 e)
                    ∙ sym (append_assoc (decimal n) (32 ∷ each_before zs) (decimal den ++ (93 ∷ rest))))
                    (turned_to (ap (λ (ks : List ℤ). st b m (record d { integers = ks }))
                    (append_assoc d.integers (pos n ∷ []) (zs ++ pos den ∷ []))) u)))),
                tt,
              ),
            ))),
        (
          (λ x. sign_back sign.Minus (mark_back 26 x) (λ r0 e0 y.
              positive_back Bare (λ n h. number_small b n h) y (λ n r1 some none e1 z.
              sign_back sign.Blank (mark_back 27 z) (λ r2 e2 w.
              let one = less 45 e0 in let two = shorter (decimal n) r1 e1 in let three = less 32 e2 in
              signed n some (none_small (limit_of b) n none) r2 (on (codes "-") e0 (on (decimal n) e1 e2)) w
              (λ v m e' u c. parts_back f (omega (arith, few, one, two, three)) m e' u c))))),
          tt,
        ),
      )
    where
      signed : (n : ℕ) → 1 ≤ n → n ≤ limit_of b → (r2 : List ℕ) → whole ≡ 45 ∷ (decimal n ++ (32 ∷ r2))
          → Along p (item.Made 38 ∷ ss) (st b (now l n true)
          (record d { integers = d.integers ++ neg_ℤ (pos (min n (2 ^ 63 - 1))) ∷ [] })) mode.Plain r2 Q
          → ((v : ℕ) (m : Last) (e : Draft) → Along p (item.Made 38 ∷ ss) (st b m e) mode.Plain r2 Q
          → ((zs : List ℤ) (den : ℕ) (o : Last) (rest : List ℕ) → AllByRecursion (λ y. nat_abs y ≤ limit_of b) zs
          → den ≤ limit_of b → r2 ≡ each_before zs ++ (decimal den ++ (93 ∷ rest))
          → Along p ss (st b o (record e { integers = e.integers ++ (zs ++ pos den ∷ []) })) mode.Plain rest Q → R) → R)
          → R
      signed zero some small r2 e y on_it = absurd (omega (arith, some))
      signed (suc n) some small r2 e y on_it =
          on_it 0 (now l (suc n) true) (record d { integers = d.integers ++ negsuc n ∷ [] })
          (turned_to (ap (λ (j : ℕ). st b (now l (suc n) true) (record d { integers = d.integers ++ neg_ℤ (pos j) ∷ [] }))
          (same_63 b (suc n) small)) y)
          (λ zs den m rest all least f' u. k (negsuc n ∷ zs) den m rest (small, all) least
          (on (codes "-") e (ap (λ (bs : List ℕ). decimal (suc n) ++ (32 ∷ bs)) f')
          ∙ sym (append_assoc (signed_decimal (negsuc n)) (32 ∷ each_before zs) (decimal den ++ (93 ∷ rest))))
          (turned_to (ap (λ (ks : List ℤ). st b m (record d { integers = ks }))
          (append_assoc d.integers (negsuc n ∷ []) (zs ++ pos den ∷ []))) u))

-- in a gap the limit of numbers is that of points
in_points : (b : Base) → b.in_gap ≡ true → limit_of b ≡ point_limit
in_points b inside = ap (λ (v : Bool). cond v point_limit certificate_limit) inside

parts_within : (b : Base) → b.in_gap ≡ true → (zs : List ℤ) → AllByRecursion (λ z. nat_abs z ≤ limit_of b) zs
    → AllByRecursion (λ z. nat_abs z ≤ point_limit) zs
parts_within b inside [] h = tt
parts_within b inside (z ∷ zs) h =
    (subst (λ (k : ℕ). nat_abs z ≤ k) (in_points b inside) h.0, parts_within b inside zs h.1)

module _ {p : Program} {ss : List Symbol} {Q : State → Type 0} {R : Type 0} (b : Base) (inside : b.in_gap ≡ true) where
  -- a scaled point that was read is spelled by the bytes
  pub point_back : {whole : List ℕ} (l : Last) (d : Draft) → Along p (item.Made 37 ∷ ss) (st b l (bare d)) mode.Plain whole Q
      → ((z : ScaledPoint) (m : Last) (rest : List ℕ) → IsPointWithin z → whole ≡ point_text z ++ rest
      → Along p ss (st b m (bare (record d { points = d.points ++ z ∷ [] }))) mode.Plain rest Q → R) → R
  point_back l d a k =
      made_back 37 ((item.Piece 34 ∷ item.Mark 24 ∷ item.Made 38 ∷ item.Mark 44 ∷ []) ∷ []) refl a (
        (λ x. sign_back sign.OpenSquare x (λ r1 e1 y.
            parts_back b (suc (length r1)) (omega arith) l (bare d) (mark_back 24 y) (λ zs den m rest all small e w.
            let z : ScaledPoint = record { parts = zs; den = den } in
            k z m rest (record {
              parts = all-to (λ (x : ℤ). nat_abs x ≤ point_limit) zs (parts_within b inside zs all);
              den = subst (λ (j : ℕ). den ≤ j) (in_points b inside) small;
            })
            (on (codes "[") e1 (e ∙ sym (flatten (Then (Then (Bytes (each_before zs)) (Bytes (decimal den)))
            (Bytes (codes "]"))) rest)))
            (turned_to (ap (λ (y : ScaledPoint). st b m (bare (record d { points = d.points ++ y ∷ [] }))) (point_same z))
            (mark_back 44 w))))),
        tt,
      )

module _ {p : Program} {ss : List Symbol} {Q : State → Type 0} {R : Type 0} (b : Base) (inside : b.in_gap ≡ true) where
  -- the further points that were read are spelled by the bytes
  more_points_back : (f : ℕ) {whole : List ℕ} → length whole < f → (l : Last) (d : Draft)
      → Along p (item.Made 36 ∷ ss) (st b l (bare d)) mode.Plain whole Q
      → ((zs : List ScaledPoint) (m : Last) (rest : List ℕ) → AllByRecursion IsPointWithin zs
      → whole ≡ each_behind (codes "; ") (map point_text zs) ++ (93 ∷ rest)
      → Along p ss (st b m (bare (record d { points = d.points ++ zs }))) mode.Plain rest Q → R) → R
  more_points_back zero few l d a k = absurd (omega (arith, few))
  more_points_back (suc f) few l d a k =
      made_back 36 ((item.Piece 35 ∷ []) ∷ (item.Piece 40 ∷ item.Piece 32 ∷ item.Made 37 ∷ item.Made 36 ∷ []) ∷ []) refl a (
        (λ x. sign_back sign.CloseSquare x (λ rest e y. k [] l rest tt e
            (turned_to (ap (λ (zs : List ScaledPoint). st b l (bare (record d { points = zs }))) (sym (append-nil d.points))) y))),
        (
          (λ x. sign_back sign.Semicolon x (λ r1 e1 y. sign_back sign.Blank y (λ r2 e2 z.
              point_back b inside l d z (λ v m r3 is e3 w.
              let one = less 59 e1 in let two = less 32 e2 in let three = shorter (point_text v) r3 e3 in
              more_points_back f (omega (arith, few, one, two, three)) m (record d { points = d.points ++ v ∷ [] }) w
              (λ zs n rest all e u. k (v ∷ zs) n rest (is, all)
              (on (codes "; ") (on (codes ";") e1 e2) (on (point_text v) e3 e)
              ∙ sym (next_then (point_text v) (map point_text zs) (93 ∷ rest)))
              (turned_to (ap (λ (ys : List ScaledPoint). st b n (bare (record d { points = ys })))
              (append_assoc d.points (v ∷ []) zs)) u)))))),
          tt,
        ),
      )

  -- a list of points that was read is spelled by the bytes
  pub points_back : {whole : List ℕ} (l : Last) (d : Draft) → Along p (item.Made 35 ∷ ss) (st b l (bare d)) mode.Plain whole Q
      → ((zs : List ScaledPoint) (m : Last) (rest : List ℕ) → 1 ≤ length zs → AllByRecursion IsPointWithin zs
      → whole ≡ listed (map point_text zs) ++ rest
      → Along p ss (st b m (bare (record d { points = d.points ++ zs }))) mode.Plain rest Q → R) → R
  points_back l d a k =
      made_back 35 ((item.Piece 34 ∷ item.Made 37 ∷ item.Made 36 ∷ []) ∷ []) refl a (
        (λ x. sign_back sign.OpenSquare x (λ r1 e1 y. point_back b inside l d y (λ v m r2 is e2 z.
            more_points_back (suc (length r2)) (omega arith) m (record d { points = d.points ++ v ∷ [] }) z
            (λ zs n rest all e u. k (v ∷ zs) n rest (omega arith) (is, all)
            (on (codes "[") e1 (on (point_text v) e2 e) ∙ sym (list_then (point_text v) (map point_text zs) rest))
            (turned_to (ap (λ (ys : List ScaledPoint). st b n (bare (record d { points = ys })))
            (append_assoc d.points (v ∷ []) zs)) u))))),
        tt,
      )

-- the properties of a shut place without a fault
record IsShut (p : Program) (limit s : ℕ) (d : Behind) : Type 0 where
  pub place : ℕ
  pub is : d ≡ behind.Number place
  pub low : s < length p.symbols
  pub small : place ≤ limit
  pub least : 1 ≤ place
  pub most : place ≤ arity_of p s

shut_there : (p : Program) (limit s : ℕ) (d : Behind)
    → (n : ℕ) → d ≡ behind.Number n
    → or_else (when (nat_le (length p.symbols) s) kind.BadReference) (or_else (when (nat_lt limit n) kind.NumberTooLarge)
    (when ((n == 0) || nat_lt (arity_of p s) n) kind.BadReference)) ≡ None
    → IsShut p limit s d
shut_there p limit s d n is h =
    let f = or_none (when (nat_le (length p.symbols) s) kind.BadReference) (or_else (when (nat_lt limit n) kind.NumberTooLarge)
    (when ((n == 0) || nat_lt (arity_of p s) n) kind.BadReference)) h in
    let g = or_none (when (nat_lt limit n) kind.NumberTooLarge)
    (when ((n == 0) || nat_lt (arity_of p s) n) kind.BadReference) f.1 in
    let t = or_parts (n == 0) (nat_lt (arity_of p s) n)
    (when_none ((n == 0) || nat_lt (arity_of p s) n) kind.BadReference g.1) in
    let other = t.0 in
    record {
      place = n;
      is = is;
      low = le_false (length p.symbols) s (when_none (nat_le (length p.symbols) s) kind.BadReference f.0);
      small = none_small limit n g.0;
      least = (let l : 1 ≤ n = grind (arith, nat_tests) in l);
      most = lt_false (arity_of p s) n t.1;
    }

module _ {p : Program} {ss : List Symbol} {Q : State → Type 0} {R : Type 0} (sure : Sure p) (b : Base) (l : Last) where
  -- a shut place that was read is spelled by the bytes
  place_read : {whole : List ℕ} (d : Draft) → Along p (item.Piece 43 ∷ ss) (st b l d) mode.InShut whole Q
      → ((s : SymbolPlace) (rest : List ℕ) → IsPlaceOf p s → whole ≡ symbol_place_text p s ++ rest
      → Along p ss (st b l (record d { shut = d.shut ++ s ∷ [] })) mode.InShut rest Q → R) → R
  place_read d a k = read_back 43 a (λ q rest is none cut more.
      let c = class_place q is in
      let none' : fault_of_piece p (st b l d) (Place c.0 c.1) ≡ None =
      subst (λ (x : Piece). fault_of_piece p (st b l d) x ≡ None) c.2 none in
      let i = known c.0 c.1 none' in
      let most = limit_most b in
      let small = i.small in
      let piece : q ≡ Place c.0 (behind.Number i.place) = c.2 ∙ ap (λ (e : Behind). Place c.0 e) i.is in
      let f = place_back (symbol_names p) p.start_names cut.first cut.others c.0 i.place cut.some (omega (arith, most, small))
      (cut.cut ∙ ap (λ (x : Piece). record { piece = Some x; len = suc cut.some }) piece) in
      let place = f.0 in
      let few = sure.few_places c.0 in
      let arity = i.most in
      k (record { symbol = c.0; place = i.place }) rest (record { symbol = i.low; least = i.least; most = i.most })
      (cut.begins ∙ f.1 ∙ ap (λ (bs : List ℕ). (cut.first ∷ prefix continues_name cut.others) ++ bs) cut.behind
      ∙ ap (λ (bs : List ℕ). bs ++ rest) (place.run_is ∙ ap (λ (bs : List ℕ). bs ++ 46 ∷ decimal i.place)
      (sym (name_found p sure place.front c.0 place.found i.low))))
      (turned_to (ap (λ (n : ℕ). st b l (record d { shut = d.shut ++ record { symbol = c.0; place = n } ∷ [] }))
      (same_32 i.place (omega (arith, few, arity))))
      (subst (λ (x : Piece). Along p ss (moved p x (st b l d)) (mode_with mode.InShut x) rest Q) piece more)))
    where
      known : (s : ℕ) (d' : Behind) → fault_of_place p (st b l d) s d' ≡ None → IsShut p (limit_of b) s d'
      known s behind.NoNumber h =
          let f = or_none (when (nat_le (length p.symbols) s) kind.BadReference) (Some kind.Syntax) h in let e = f.1 in cc
      known s behind.Nothing h =
          let f = or_none (when (nat_le (length p.symbols) s) kind.BadReference) (Some kind.Syntax) h in let e = f.1 in cc
      known s behind.LeadingZero h =
          let f = or_none (when (nat_le (length p.symbols) s) kind.BadReference) (Some kind.Syntax) h in let e = f.1 in cc
      known s (behind.Number n) h = shut_there p (limit_of b) s (behind.Number n) n refl h

module _ {p : Program} {ss : List Symbol} {Q : State → Type 0} {R : Type 0} (sure : Sure p) (b : Base) (l : Last) where
  -- the further shut places that were read are spelled by the bytes
  more_places_back : (f : ℕ) {whole : List ℕ} → length whole < f → (d : Draft)
      → Along p (item.Made 34 ∷ ss) (st b l d) mode.InShut whole Q
      → ((xs : List SymbolPlace) (rest : List ℕ) → AllByRecursion (IsPlaceOf p) xs
      → whole ≡ each_behind (codes " ") (map (symbol_place_text p) xs) ++ (93 ∷ rest)
      → Along p ss (st b l (record d { shut = d.shut ++ xs })) mode.Plain rest Q → R) → R
  more_places_back zero few d a k = absurd (omega (arith, few))
  more_places_back (suc f) few d a k =
      made_back 34 ((item.Piece 35 ∷ []) ∷ (item.Piece 32 ∷ item.Piece 43 ∷ item.Made 34 ∷ []) ∷ []) refl a (
        (λ x. sign_back sign.CloseSquare x (λ rest e y. k [] rest tt e
            (turned_to (ap (λ (xs : List SymbolPlace). st b l (record d { shut = xs })) (sym (append-nil d.shut))) y))),
        (
          (λ x. sign_back sign.Blank x (λ r1 e1 y. place_read sure b l d y (λ s r2 is e2 z.
              let one = less 32 e1 in let two = shorter (symbol_place_text p s) r2 e2 in
              more_places_back f (omega (arith, few, one, two)) (record d { shut = d.shut ++ s ∷ [] }) z
              (λ xs rest all e w. k (s ∷ xs) rest (is, all)
              (on (codes " ") e1 (on (symbol_place_text p s) e2 e)
              ∙ sym (word_then (symbol_place_text p s) (map (symbol_place_text p) xs) (93 ∷ rest)))
              (turned_to (ap (λ (ys : List SymbolPlace). st b l (record d { shut = ys })) (append_assoc d.shut (s ∷ []) xs)) w))))),
          tt,
        ),
      )

  -- the list of shut places that was read is spelled by the bytes
  pub places_back : {whole : List ℕ} (d : Draft) → Along p (item.Piece 34 ∷ item.Made 33 ∷ ss) (st b l d) mode.InShut whole Q
      → ((xs : List SymbolPlace) (rest : List ℕ) → AllByRecursion (IsPlaceOf p) xs
      → whole ≡ bracketed (joined (codes " ") (map (symbol_place_text p) xs)) ++ rest
      → Along p ss (st b l (record d { shut = d.shut ++ xs })) mode.Plain rest Q → R) → R
  places_back d a k =
      sign_back sign.OpenSquare a (λ r1 e1 y.
      made_back 33 ((item.Piece 35 ∷ []) ∷ (item.Piece 43 ∷ item.Made 34 ∷ []) ∷ []) refl y (
        (λ z. sign_back sign.CloseSquare z (λ rest e w. k [] rest tt (on (codes "[") e1 e)
            (turned_to (ap (λ (xs : List SymbolPlace). st b l (record d { shut = xs })) (sym (append-nil d.shut))) w))),
        (
          (λ z. place_read sure b l d z (λ s r2 is e2 w.
              more_places_back (suc (length r2)) (omega arith) (record d { shut = d.shut ++ s ∷ [] }) w
              (λ xs rest all e v. k (s ∷ xs) rest (is, all)
              (on (codes "[") e1 (on (symbol_place_text p s) e2 e
              ∙ sym (words_then (symbol_place_text p s) (map (symbol_place_text p) xs) rest)))
              (turned_to (ap (λ (ys : List SymbolPlace). st b l (record d { shut = ys })) (append_assoc d.shut (s ∷ []) xs)) v)))),
          tt,
        ),
      ))
