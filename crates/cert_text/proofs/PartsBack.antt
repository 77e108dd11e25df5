-- Forms, side bounds and further parts of a node that were read along bytes are spelled by them.
use Rattle.std.proofs.Common.{◌≡◌, ℕ, zero, suc, ◌-◌, ◌<◌, ◌≤◌, ◌^◌, min, Bool, true, false, cond, List, [], ◌∷◌, ◌++◌, length, map}
use Rattle.std.proofs.Common.{Option, Some, None, slice_index_or, refl, ap, sym, subst, ◌∙◌, arith, inl, inr, append-nil}
use Rattle.std.proofs.Common.{append_assoc}
use Rattle.std.specs.Prelude.{ℤ, nat_abs, nat_lt, nat_le, not, ◌&&◌, codes}
use Rattle.std.specs.List.{AllByRecursion}
use Rattle.std.specs.Fmt.{decimal, signed_decimal}
use Rattle.std.proofs.lemmas.Bool.{and_parts, leb-false as le_false, leb-true}
use Rattle.std.proofs.lemmas.Bool.Decides.{nat_tests}
use Rattle.std.proofs.lemmas.List.{length-map}
use Rattle.its_model.specs.model.Programs.{Program, Rule, rule_at, arity_of}
use Rattle.its_model.proofs.ListLaws.{all-to}
use Rattle.cert_types.specs.rule_forms.linear_forms.Forms.{Form}
use Rattle.cert_types.specs.rule_forms.linear_forms.Limits.{certificate_limit, point_limit}
use Rattle.cert_types.specs.cert_rules.Limits.{IsInLimit, AreInLimit, IsFormInLimit}
use Rattle.cert_types.specs.cert_rules.Nodes.{ResultVariable, SideBound, Linear, Poly, SymbolForm}
use Rattle.text_core.proofs.PositionLaws.{at_position}
use Rattle.text_grammar.specs.text_core.Choices.{when}
use Rattle.text_grammar.specs.text_core.Faults.{Among}
use Rattle.text_grammar.specs.text_core.Names.{continues_name, position_of}
use Rattle.text_grammar.specs.text_core.Prefixes.{prefix}
use Rattle.text_grammar.specs.declared.symbol.Symbol.{Symbol}
use Rattle.text_grammar.specs.declared.symbol.Symbol.TheVariants as item
use Rattle.text_grammar.specs.Grammars.{alternatives}
use Rattle.cert_lexer.specs.declared.kind.ProofKind.{ProofKind}
use Rattle.cert_lexer.specs.declared.kind.ProofKind.TheVariants as kind
use Rattle.cert_lexer.specs.declared.piece.Word.{Word}
use Rattle.cert_lexer.specs.declared.piece.Word.TheVariants as word
use Rattle.cert_lexer.specs.declared.piece.Sign.TheVariants as sign
use Rattle.cert_lexer.specs.declared.piece.Mode.TheVariants as mode
use Rattle.cert_lexer.specs.declared.piece.Piece.{Piece}
use Rattle.cert_lexer.specs.declared.piece.Piece.TheVariants.{Name, Sign as ASign}
use Rattle.cert_lexer.specs.Grammar.{class_of_word, proof_grammar}
use Rattle.cert_lexer.specs.Lexing.{mode_with, symbol_names, symbol_of}
use Rattle.cert_lexer.proofs.PieceClasses.{class_word}
use Rattle.cert_lexer.proofs.CutBack.{plain_name}
use Rattle.cert_text.specs.NumberFaults.{fault_of_piece, has_place, or_else}
use Rattle.cert_text.specs.Lists.{each_behind, listed, numbers_text}
use Rattle.cert_text.specs.Reading.{moved}
use Rattle.cert_text.specs.Remembered.{Draft, State, done, form_in, no_form}
use Rattle.cert_text.specs.Spelled.{IsSideBoundWithin, IsResultVariableOf, IsSymbolFormWithin}
use Rattle.cert_text.specs.Texts.{side_bound_text, form_numbers, form_text, name_at}
use Rattle.cert_text.proofs.Along.{Along, Bytes, Then, flatten}
use Rattle.cert_text.proofs.Back.{less, made_any, made_back, mark_back, mode_to, on, read_back, shorter, sign_back, turned_to}
use Rattle.cert_text.proofs.Back.{word_back}
use Rattle.cert_text.proofs.Cutting.{Within, Bare, Shut, mode_in}
use Rattle.cert_text.proofs.Listing.{list_then, next_then}
use Rattle.cert_text.proofs.ListsBack.{blank_mode, integers_back, none_small, not_none, numbers_back, or_none, plain_back, when_none}
use Rattle.cert_text.proofs.PartTexts.{Scratch, bare, form_same, list_mode, name_mode, scratch}
use Rattle.cert_text.proofs.States.{Base, Last, Sure, limit_of, name_read, now, st}

-- a name is one of the words, or another name
name_word : (body : List Symbol) → Among body (alternatives proof_grammar.rules 41)
    → (w : Word) × (body ≡ item.Piece (class_of_word w) ∷ [])
name_word body (inl e) = (word.Lemma, e)
name_word body (inr (inl e)) = (word.Gap, e)
name_word body (inr (inr (inl e))) = (word.End, e)
name_word body (inr (inr (inr (inl e)))) = (word.Cite, e)
name_word body (inr (inr (inr (inr (inl e))))) = (word.Start, e)
name_word body (inr (inr (inr (inr (inr (inl e)))))) = (word.Empty, e)
name_word body (inr (inr (inr (inr (inr (inr (inl e))))))) = (word.Unreached, e)
name_word body (inr (inr (inr (inr (inr (inr (inr (inl e)))))))) = (word.Never, e)
name_word body (inr (inr (inr (inr (inr (inr (inr (inr (inl e))))))))) = (word.Rank, e)
name_word body (inr (inr (inr (inr (inr (inr (inr (inr (inr (inl e)))))))))) = (word.Spread, e)
name_word body (inr (inr (inr (inr (inr (inr (inr (inr (inr (inr (inl e))))))))))) = (word.Cycle, e)
name_word body (inr (inr (inr (inr (inr (inr (inr (inr (inr (inr (inr (inl e)))))))))))) = (word.Weaken, e)
name_word body (inr (inr (inr (inr (inr (inr (inr (inr (inr (inr (inr (inr (inl e))))))))))))) = (word.Cost, e)
name_word body (inr (inr (inr (inr (inr (inr (inr (inr (inr (inr (inr (inr (inr (inl e)))))))))))))) = (word.Uses, e)
name_word body (inr (inr (inr (inr (inr (inr (inr (inr (inr (inr (inr (inr (inr (inr (inl e))))))))))))))) = (word.Set, e)
name_word body (inr (inr (inr (inr (inr (inr (inr (inr (inr (inr (inr (inr (inr (inr (inr (inl e)))))))))))))))) = (word.Den, e)
name_word body (inr (inr (inr (inr (inr (inr (inr (inr (inr (inr (inr (inr (inr (inr (inr (inr (inl e))))))))))))))))) = (word.Forms, e)
name_word body (inr (inr (inr (inr (inr (inr (inr (inr (inr (inr (inr (inr (inr (inr (inr (inr (inr (inl e)))))))))))))))))) = (word.Moves, e)
name_word body (inr (inr (inr (inr (inr (inr (inr (inr (inr (inr (inr (inr (inr (inr (inr (inr (inr (inr (inl e))))))))))))))))))) = (word.Floor, e)
name_word body (inr (inr (inr (inr (inr (inr (inr (inr (inr (inr (inr (inr (inr (inr (inr (inr (inr (inr (inr (inl e)))))))))))))))))))) = (word.Up, e)
name_word body (inr (inr (inr (inr (inr (inr (inr (inr (inr (inr (inr (inr (inr (inr (inr (inr (inr (inr (inr (inr (inl e))))))))))))))))))))) = (word.Low, e)
name_word body (inr (inr (inr (inr (inr (inr (inr (inr (inr (inr (inr (inr (inr (inr (inr (inr (inr (inr (inr (inr (inr (inl e)))))))))))))))))))))) = (word.Poly, e)
name_word body (inr (inr (inr (inr (inr (inr (inr (inr (inr (inr (inr (inr (inr (inr (inr (inr (inr (inr (inr (inr (inr (inr (inl e))))))))))))))))))))))) = (word.Lin, e)
name_word body (inr (inr (inr (inr (inr (inr (inr (inr (inr (inr (inr (inr (inr (inr (inr (inr (inr (inr (inr (inr (inr (inr (inr (inl e)))))))))))))))))))))))) = (word.To, e)
name_word body (inr (inr (inr (inr (inr (inr (inr (inr (inr (inr (inr (inr (inr (inr (inr (inr (inr (inr (inr (inr (inr (inr (inr (inr (inl e))))))))))))))))))))))))) = (word.Shut, e)
name_word body (inr (inr (inr (inr (inr (inr (inr (inr (inr (inr (inr (inr (inr (inr (inr (inr (inr (inr (inr (inr (inr (inr (inr (inr (inr (inl e)))))))))))))))))))))))))) = (word.Kept, e)
name_word body (inr (inr (inr (inr (inr (inr (inr (inr (inr (inr (inr (inr (inr (inr (inr (inr (inr (inr (inr (inr (inr (inr (inr (inr (inr (inr (inl e))))))))))))))))))))))))))) = (word.Other, e)
name_word body (inr (inr (inr (inr (inr (inr (inr (inr (inr (inr (inr (inr (inr (inr (inr (inr (inr (inr (inr (inr (inr (inr (inr (inr (inr (inr (inr x))))))))))))))))))))))))))) = absurd x

-- a name without a fault is that of its symbol
pub name_found : (p : Program) → Sure p → (name : List ℕ) (s : ℕ) → symbol_of (symbol_names p) name ≡ s
    → s < length p.symbols → name_at p s ≡ name
name_found p sure name s e low =
    let few = sure.few_symbols in
    let many = length-map p.symbols (λ s. s.name) in
    let here : position_of name (symbol_names p) ≡ s = omega (arith, e, low, few) in
    let there : position_of name (symbol_names p) < length (symbol_names p) = omega (arith, here, low, many) in
    sym (name_read p.symbols s) ∙ ap (λ (k : ℕ). slice_index_or (symbol_names p) k []) (sym here)
    ∙ at_position (symbol_names p) name there

-- outside a gap the limit of numbers is that of certificates
pub in_limit : (b : Base) → b.in_gap ≡ false → limit_of b ≡ certificate_limit
in_limit b outside = ap (λ (v : Bool). cond v point_limit certificate_limit) outside

pub numbers_within : (b : Base) → b.in_gap ≡ false → (ns : List ℕ) → AllByRecursion (λ n. n ≤ limit_of b) ns → AreInLimit ns
numbers_within b outside ns h = all-to IsInLimit ns (go ns h)
  where
    go : (ns : List ℕ) → AllByRecursion (λ n. n ≤ limit_of b) ns → AllByRecursion IsInLimit ns
    go [] h = tt
    go (n ∷ ns) h = (subst (λ (k : ℕ). n ≤ k) (in_limit b outside) h.0, go ns h.1)

pub form_within : (b : Base) → b.in_gap ≡ false → (f : Form) → AllByRecursion (λ z. nat_abs z ≤ limit_of b) f.coefs
    → nat_abs f.constant ≤ limit_of b → IsFormInLimit f
form_within b outside f h small = record {
  coefs = all-to (λ (c : ℤ). IsInLimit (nat_abs c)) f.coefs (go f.coefs h);
  constant = subst (λ (k : ℕ). nat_abs f.constant ≤ k) (in_limit b outside) small;
}
  where
    go : (zs : List ℤ) → AllByRecursion (λ z. nat_abs z ≤ limit_of b) zs → AllByRecursion (λ c. IsInLimit (nat_abs c)) zs
    go [] h = tt
    go (z ∷ zs) h = (subst (λ (k : ℕ). nat_abs z ≤ k) (in_limit b outside) h.0, go zs h.1)

-- a place without a fault is one of the rule's target
pub place_there : (p : Program) (r n : ℕ) → when (not (has_place p (rule_at p r) n)) kind.BadReference ≡ None
    → IsResultVariableOf p (record { rule = r; place = n })
place_there p r n h = go (rule_at p r) refl (not_none (has_place p (rule_at p r) n) kind.BadReference h)
  where
    go : (o : Option Rule) → rule_at p r ≡ o → has_place p o n ≡ true → IsResultVariableOf p (record { rule = r; place = n })
    go None e h = cc
    go (Some x) e h =
        let t = and_parts (nat_lt 0 n) (nat_le n (arity_of p x.target)) h in
        let some = t.0 in
        record {
          rule = x;
          numbered = e;
          least = (let l : 1 ≤ n = grind (arith, nat_tests) in l);
          most = leb-true n (arity_of p x.target) t.1;
        }

module _ {p : Program} {ss : List Symbol} {whole : List ℕ} {Q : State → Type 0} {R : Type 0} (sure : Sure p) (b : Base)
    (l : Last) (d : Draft) where
  -- the name of a symbol that was read is spelled by the bytes
  pub symbol_back : Along p (item.Made 41 ∷ ss) (done 28 (st b l d)) mode.Plain whole Q
      → ((s : ℕ) (x : Within) (rest : List ℕ) → s < length p.symbols → whole ≡ name_at p s ++ rest
      → Along p ss (st b (record l { symbol = s }) d) (mode_in x) rest Q → R) → R
  symbol_back a k =
      let t = made_any 41 a in
      let w = name_word t.0 t.1 in
      read_back (class_of_word w.0) (subst (λ (xs : List Symbol). Along p (xs ++ ss) (done 28 (st b l d)) mode.Plain whole Q) w.1 t.2)
      (λ q rest is none cut more.
      let c = class_word q w.0 is in
      let n = plain_name (symbol_names p) cut.first cut.others w.0 c.0 cut.some
      (cut.cut ∙ ap (λ (x : Piece). record { piece = Some x; len = suc cut.some }) c.1) in
      let none' : fault_of_piece p (done 28 (st b l d)) (Name w.0 c.0) ≡ None =
      subst (λ (x : Piece). fault_of_piece p (done 28 (st b l d)) x ≡ None) c.1 none in
      let low = le_false (length p.symbols) c.0 (when_none (nat_le (length p.symbols) c.0) kind.BadReference none') in
      k c.0 (list_mode w.0) rest low
      (cut.begins ∙ n.3 ∙ ap (λ (bs : List ℕ). (cut.first ∷ prefix continues_name cut.others) ++ bs) cut.behind
      ∙ ap (λ (bs : List ℕ). bs ++ rest)
      (sym (name_found p sure (cut.first ∷ prefix continues_name cut.others) c.0 n.1 low)))
      (mode_to (name_mode w.0 c.0)
      (subst (λ (x : Piece). Along p ss (moved p x (done 28 (st b l d))) (mode_with mode.Plain x) rest Q) c.1 more)))

module _ {p : Program} {ss : List Symbol} {Q : State → Type 0} {R : Type 0} (sure : Sure p) (b : Base)
    (outside : b.in_gap ≡ false) where
  -- the form at a symbol that was read is spelled by the bytes
  pub form_back : {whole : List ℕ} (l : Last) (d : Draft) → Along p (item.Made 24 ∷ ss) (st b l (bare d)) mode.Plain whole Q
      → ((f : SymbolForm) (m : Last) (rest : List ℕ) → IsSymbolFormWithin p f → whole ≡ form_text p f ++ rest
      → Along p ss (st b m (bare (record d { forms = d.forms ++ f ∷ [] }))) mode.Plain rest Q → R) → R
  form_back l d a k =
      made_back 24 ((item.Mark 28 ∷ item.Made 41 ∷ item.Piece 32 ∷ item.Made 21 ∷ item.Mark 29 ∷ []) ∷ []) refl a (
        (λ x. symbol_back sure b l (bare d) (mark_back 28 x) (λ s y r1 low e1 z.
            sign_back sign.Blank z (λ r2 e2 w.
            integers_back b y (record l { symbol = s }) (bare d) (mode_to (blank_mode y) w)
            (λ zs c n v rest all small e u.
            let f : Form = record { coefs = zs; constant = c } in
            k (record { symbol = s; form = f }) (now (record l { symbol = s }) n v) rest
            (record { symbol = low; form = form_within b outside f all small })
            (on (name_at p s) e1 (on (codes " ") e2 e) ∙ sym (append_assoc (name_at p s) (32 ∷ form_numbers f) rest))
            (turned_to
            (ap (λ (g : Form). st b (now (record l { symbol = s }) n v)
            (bare (record d { forms = d.forms ++ record { symbol = s; form = g } ∷ [] }))) (form_same f))
            (mark_back 29 u)))))),
        tt,
      )

module _ {p : Program} {ss : List Symbol} {Q : State → Type 0} {R : Type 0} (sure : Sure p) (b : Base)
    (outside : b.in_gap ≡ false) where
  -- the further forms that were read are spelled by the bytes
  more_forms_back : (f : ℕ) {whole : List ℕ} → length whole < f → (l : Last) (d : Draft)
      → Along p (item.Made 25 ∷ ss) (st b l (bare d)) mode.Plain whole Q
      → ((fs : List SymbolForm) (m : Last) (rest : List ℕ) → AllByRecursion (IsSymbolFormWithin p) fs
      → whole ≡ each_behind (codes "; ") (map (form_text p) fs) ++ (93 ∷ rest)
      → Along p ss (st b m (bare (record d { forms = d.forms ++ fs }))) mode.Plain rest Q → R) → R
  more_forms_back zero few l d a k = absurd (omega (arith, few))
  more_forms_back (suc f) few l d a k =
      made_back 25 ((item.Piece 35 ∷ []) ∷ (item.Piece 40 ∷ item.Piece 32 ∷ item.Made 24 ∷ item.Made 25 ∷ []) ∷ []) refl a (
        (λ x. sign_back sign.CloseSquare x (λ rest e y. k [] l rest tt e
            (turned_to (ap (λ (fs : List SymbolForm). st b l (bare (record d { forms = fs }))) (sym (append-nil d.forms))) y))),
        (
          (λ x. sign_back sign.Semicolon x (λ r1 e1 y. sign_back sign.Blank y (λ r2 e2 z.
              form_back sure b outside l d z (λ g m r3 is e3 w.
              let one = less 59 e1 in let two = less 32 e2 in let three = shorter (form_text p g) r3 e3 in
              more_forms_back f (omega (arith, few, one, two, three)) m (record d { forms = d.forms ++ g ∷ [] }) w
              (λ fs n rest all e u. k (g ∷ fs) n rest (is, all)
              (on (codes "; ") (on (codes ";") e1 e2) (on (form_text p g) e3 e)
              ∙ sym (next_then (form_text p g) (map (form_text p) fs) (93 ∷ rest)))
              (turned_to (ap (λ (gs : List SymbolForm). st b n (bare (record d { forms = gs })))
              (append_assoc d.forms (g ∷ []) fs)) u)))))),
          tt,
        ),
      )

  -- a list of forms that was read is spelled by the bytes
  pub forms_back : {whole : List ℕ} (l : Last) (d : Draft) → Along p (item.Made 23 ∷ ss) (st b l (bare d)) mode.Plain whole Q
      → ((fs : List SymbolForm) (m : Last) (rest : List ℕ) → 1 ≤ length fs → AllByRecursion (IsSymbolFormWithin p) fs
      → whole ≡ listed (map (form_text p) fs) ++ rest
      → Along p ss (st b m (bare (record d { forms = d.forms ++ fs }))) mode.Plain rest Q → R) → R
  forms_back l d a k =
      made_back 23 ((item.Piece 34 ∷ item.Made 24 ∷ item.Made 25 ∷ []) ∷ []) refl a (
        (λ x. sign_back sign.OpenSquare x (λ r1 e1 y. form_back sure b outside l d y (λ g m r2 is e2 z.
            more_forms_back (suc (length r2)) (omega arith) m (record d { forms = d.forms ++ g ∷ [] }) z
            (λ fs n rest all e u. k (g ∷ fs) n rest (omega arith) (is, all)
            (on (codes "[") e1 (on (form_text p g) e2 e) ∙ sym (list_then (form_text p g) (map (form_text p) fs) rest))
            (turned_to (ap (λ (gs : List SymbolForm). st b n (bare (record d { forms = gs })))
            (append_assoc d.forms (g ∷ []) fs)) u))))),
        tt,
      )

  -- the further lists of multipliers that were read are spelled by the bytes
  more_moves_back : (f : ℕ) {whole : List ℕ} → length whole < f → (l : Last) (d : Draft)
      → Along p (item.Made 27 ∷ ss) (st b l (bare d)) mode.Plain whole Q
      → ((nss : List (List ℕ)) (m : Last) (rest : List ℕ) → AllByRecursion AreInLimit nss
      → whole ≡ each_behind (codes "; ") (map numbers_text nss) ++ (93 ∷ rest)
      → Along p ss (st b m (bare (record d { moves = d.moves ++ nss }))) mode.Plain rest Q → R) → R
  more_moves_back zero few l d a k = absurd (omega (arith, few))
  more_moves_back (suc f) few l d a k =
      made_back 27 ((item.Piece 35 ∷ []) ∷ (item.Piece 40 ∷ item.Piece 32 ∷ item.Made 15 ∷ item.Mark 30 ∷ item.Made 27 ∷ []) ∷ [])
      refl a (
        (λ x. sign_back sign.CloseSquare x (λ rest e y. k [] l rest tt e
            (turned_to (ap (λ (nss : List (List ℕ)). st b l (bare (record d { moves = nss }))) (sym (append-nil d.moves))) y))),
        (
          (λ x. sign_back sign.Semicolon x (λ r1 e1 y. sign_back sign.Blank y (λ r2 e2 z.
              numbers_back b l (bare d) z (λ ns m r3 is e3 w.
              let one = less 59 e1 in let two = less 32 e2 in let three = shorter (numbers_text ns) r3 e3 in
              more_moves_back f (omega (arith, few, one, two, three)) m (record d { moves = d.moves ++ ns ∷ [] }) (mark_back 30 w)
              (λ nss n rest all e u. k (ns ∷ nss) n rest (numbers_within b outside ns is, all)
              (on (codes "; ") (on (codes ";") e1 e2) (on (numbers_text ns) e3 e)
              ∙ sym (next_then (numbers_text ns) (map numbers_text nss) (93 ∷ rest)))
              (turned_to (ap (λ (gs : List (List ℕ)). st b n (bare (record d { moves = gs })))
              (append_assoc d.moves (ns ∷ []) nss)) u)))))),
          tt,
        ),
      )

  -- all lists of multipliers that were read are spelled by the bytes
  pub moves_back : {whole : List ℕ} (l : Last) (d : Draft) → Along p (item.Made 26 ∷ ss) (st b l (bare d)) mode.Plain whole Q
      → ((nss : List (List ℕ)) (m : Last) (rest : List ℕ) → 1 ≤ length nss → AllByRecursion AreInLimit nss
      → whole ≡ listed (map numbers_text nss) ++ rest
      → Along p ss (st b m (bare (record d { moves = d.moves ++ nss }))) mode.Plain rest Q → R) → R
  moves_back l d a k =
      made_back 26 ((item.Piece 34 ∷ item.Made 15 ∷ item.Mark 30 ∷ item.Made 27 ∷ []) ∷ []) refl a (
        (λ x. sign_back sign.OpenSquare x (λ r1 e1 y. numbers_back b l (bare d) y (λ ns m r2 is e2 z.
            more_moves_back (suc (length r2)) (omega arith) m (record d { moves = d.moves ++ ns ∷ [] }) (mark_back 30 z)
            (λ nss n rest all e u. k (ns ∷ nss) n rest (omega arith) (numbers_within b outside ns is, all)
            (on (codes "[") e1 (on (numbers_text ns) e2 e) ∙ sym (list_then (numbers_text ns) (map numbers_text nss) rest))
            (turned_to (ap (λ (gs : List (List ℕ)). st b n (bare (record d { moves = gs })))
            (append_assoc d.moves (ns ∷ []) nss)) u))))),
        tt,
      )

  -- a side bound that was read is spelled by the bytes
  pub side_bound_back : {whole : List ℕ} (l : Last) (d : Draft) → Along p (item.Made 30 ∷ ss) (st b l d) mode.Plain whole Q
      → ((y : SideBound) (m : Last) (g : Scratch) (rest : List ℕ) → IsSideBoundWithin y → whole ≡ side_bound_text y ++ rest
      → Along p ss (st b m (scratch g (record d { side_bound = y }))) mode.Plain rest Q → R) → R
  side_bound_back l d a k =
      made_back 30 ((item.Piece 22 ∷ item.Mark 35 ∷ []) ∷ (item.Piece 23 ∷ item.Piece 32 ∷ item.Made 10 ∷ item.Piece 32 ∷
      item.Made 21 ∷ item.Mark 36 ∷ item.Piece 32 ∷ item.Made 15 ∷ item.Mark 37 ∷ []) ∷ []) refl a (
        (λ x. word_back word.Poly (λ e. cc) (λ c cs. refl) x (λ symbol rest none e y.
            k Poly (record l { symbol = symbol })
            (record { den = d.den; numbers = d.numbers; integers = d.integers; form = d.form }) rest tt e (mark_back 35 y))),
        (
          (λ x. word_back word.Lin (λ e. cc) (λ c cs. refl) x (λ symbol r1 none e1 y.
              sign_back sign.Blank y (λ r2 e2 z.
              plain_back b (record l { symbol = symbol }) d z (λ den r3 few e3 w.
              sign_back sign.Blank w (λ r4 e4 u.
              integers_back b Bare (record l { symbol = symbol; number = den }) (record d { den = den }) u
              (λ zs c n v r5 all small e5 t.
              sign_back sign.Blank (mark_back 36 t) (λ r6 e6 o.
              numbers_back b (now (record l { symbol = symbol }) n v) (record d {
                den = den;
                numbers = [];
                integers = [];
                form = form_in (zs ++ c ∷ []);
              }) o (λ ms m rest every e7 i.
              let f : Form = record { coefs = zs; constant = c } in
              k (Linear den f ms) m (record { den = den; numbers = []; integers = []; form = no_form }) rest (
                subst (λ (j : ℕ). den ≤ j) (in_limit b outside) few,
                form_within b outside f all small,
                numbers_within b outside ms every,
              )
              (on (codes "lin") e1 (on (codes " ") e2 (on (decimal den) e3 (on (codes " ") e4 (on (form_numbers f) e5
              (on (codes " ") e6 e7)))))
              ∙ sym (flatten (Then (Bytes (codes "lin ")) (Then (Bytes (decimal den)) (Then (Bytes (codes " "))
              (Then (Bytes (form_numbers f)) (Then (Bytes (codes " ")) (Bytes (numbers_text ms))))))) rest))
              (turned_to
              (ap (λ (g : Form). st b m (record d { den = den; numbers = []; integers = []; form = no_form; side_bound = Linear den g ms }))
              (form_same f)) (mark_back 37 i)))))))))),
          tt,
        ),
      )
