-- Forms, side bounds and further parts of a node are read along their texts.
use Rattle.std.proofs.Common.{◌≡◌, ℕ, ◌<◌, ◌≤◌, Bool, true, false, List, [], ◌∷◌, ◌++◌, length, map, Option}
use Rattle.std.proofs.Common.{None, refl, ap, sym, ◌∙◌, arith, inl, inr, append-nil, append_assoc}
use Rattle.std.specs.Prelude.{ℤ, nat_abs, nat_lt, nat_le, not, ◌&&◌, codes}
use Rattle.std.specs.List.{AllByRecursion}
use Rattle.std.specs.Fmt.{decimal}
use Rattle.std.proofs.lemmas.Bool.{lt-leb as false_le}
use Rattle.std.proofs.lemmas.Bool.Decides.{nat_tests}
use Rattle.its_model.specs.model.Programs.{Program, Rule, rule_at, arity_of}
use Rattle.its_model.proofs.ListLaws.{all-from}
use Rattle.cert_types.specs.rule_forms.linear_forms.Forms.{Form}
use Rattle.cert_types.specs.cert_rules.Nodes.{ResultVariable, SideBound, Linear, Poly, SymbolForm}
use Rattle.cert_types.specs.rule_forms.linear_forms.Limits.{certificate_limit}
use Rattle.text_grammar.specs.text_core.Choices.{when}
use Rattle.text_grammar.specs.text_core.Faults.{Among}
use Rattle.text_grammar.specs.text_core.Names.{continues_name}
use Rattle.text_core.proofs.PrefixLaws.{Stops}
use Rattle.text_grammar.specs.declared.symbol.Symbol.{Symbol}
use Rattle.text_grammar.specs.declared.symbol.Symbol.TheVariants as item
use Rattle.text_grammar.specs.Grammars.{alternatives}
use Rattle.cert_lexer.specs.declared.piece.Word.{Word}
use Rattle.cert_lexer.specs.declared.piece.Word.TheVariants as word
use Rattle.cert_lexer.specs.declared.piece.Piece.TheVariants.{Name}
use Rattle.cert_lexer.specs.declared.piece.Mode.TheVariants as mode
use Rattle.cert_lexer.specs.declared.kind.ProofKind.{ProofKind}
use Rattle.cert_lexer.specs.declared.kind.ProofKind.TheVariants as kind
use Rattle.cert_lexer.specs.Grammar.{class_of_word, proof_grammar}
use Rattle.cert_lexer.specs.Lexing.{mode_with, symbol_names, symbol_of, word_of}
use Rattle.cert_text.specs.NumberFaults.{has_place, or_else}
use Rattle.cert_text.specs.Lists.{each_behind, listed, numbers_text}
use Rattle.cert_text.specs.Remembered.{Draft, State, done, form_in, no_form, last_of}
use Rattle.cert_text.specs.Spelled.{IsSideBoundWithin, IsResultVariableOf, IsSymbolFormWithin}
use Rattle.cert_text.specs.Texts.{side_bound_text, form_numbers, form_text, name_at}
use Rattle.cert_text.proofs.Along.{Along, Bytes, Then, becomes, flatten, in_mode, makes, marks, reads, spelled_as}
use Rattle.cert_text.proofs.Cutting.{Within, Bare, Shut, mode_in, blank, closes, name_cut, named, opens}
use Rattle.cert_text.proofs.Cutting.{semicolon, word as read_word}
use Rattle.cert_text.proofs.KeptLaws.{before_behind, last_behind}
use Rattle.cert_text.proofs.Listing.{integers, list_then, next_then, numbers, plain}
use Rattle.cert_text.proofs.States.{Base, Last, Sure, limit_of, limit_outside, none_large, now, st}
use Rattle.cert_text.proofs.States.{symbol_name}

-- the class of a name is one of those of names
name_class : (w : Word) → Among (item.Piece (class_of_word w) ∷ []) (alternatives proof_grammar.rules 41)
name_class word.Lemma = inl refl
name_class word.Gap = inr (inl refl)
name_class word.End = inr (inr (inl refl))
name_class word.Cite = inr (inr (inr (inl refl)))
name_class word.Start = inr (inr (inr (inr (inl refl))))
name_class word.Empty = inr (inr (inr (inr (inr (inl refl)))))
name_class word.Unreached = inr (inr (inr (inr (inr (inr (inl refl))))))
name_class word.Never = inr (inr (inr (inr (inr (inr (inr (inl refl)))))))
name_class word.Rank = inr (inr (inr (inr (inr (inr (inr (inr (inl refl))))))))
name_class word.Spread = inr (inr (inr (inr (inr (inr (inr (inr (inr (inl refl)))))))))
name_class word.Cycle = inr (inr (inr (inr (inr (inr (inr (inr (inr (inr (inl refl))))))))))
name_class word.Weaken = inr (inr (inr (inr (inr (inr (inr (inr (inr (inr (inr (inl refl)))))))))))
name_class word.Cost = inr (inr (inr (inr (inr (inr (inr (inr (inr (inr (inr (inr (inl refl))))))))))))
name_class word.Uses = inr (inr (inr (inr (inr (inr (inr (inr (inr (inr (inr (inr (inr (inl refl)))))))))))))
name_class word.Set = inr (inr (inr (inr (inr (inr (inr (inr (inr (inr (inr (inr (inr (inr (inl refl))))))))))))))
name_class word.Den = inr (inr (inr (inr (inr (inr (inr (inr (inr (inr (inr (inr (inr (inr (inr (inl refl)))))))))))))))
name_class word.Forms = inr (inr (inr (inr (inr (inr (inr (inr (inr (inr (inr (inr (inr (inr (inr (inr (inl refl))))))))))))))))
name_class word.Moves = inr (inr (inr (inr (inr (inr (inr (inr (inr (inr (inr (inr (inr (inr (inr (inr (inr (inl refl)))))))))))))))))
name_class word.Floor = inr (inr (inr (inr (inr (inr (inr (inr (inr (inr (inr (inr (inr (inr (inr (inr (inr (inr (inl refl))))))))))))))))))
name_class word.Up = inr (inr (inr (inr (inr (inr (inr (inr (inr (inr (inr (inr (inr (inr (inr (inr (inr (inr (inr (inl refl)))))))))))))))))))
name_class word.Low = inr (inr (inr (inr (inr (inr (inr (inr (inr (inr (inr (inr (inr (inr (inr (inr (inr (inr (inr (inr (inl refl))))))))))))))))))))
name_class word.Poly = inr (inr (inr (inr (inr (inr (inr (inr (inr (inr (inr (inr (inr (inr (inr (inr (inr (inr (inr (inr (inr (inl refl)))))))))))))))))))))
name_class word.Lin = inr (inr (inr (inr (inr (inr (inr (inr (inr (inr (inr (inr (inr (inr (inr (inr (inr (inr (inr (inr (inr (inr (inl refl))))))))))))))))))))))
name_class word.To = inr (inr (inr (inr (inr (inr (inr (inr (inr (inr (inr (inr (inr (inr (inr (inr (inr (inr (inr (inr (inr (inr (inr (inl refl)))))))))))))))))))))))
name_class word.Shut = inr (inr (inr (inr (inr (inr (inr (inr (inr (inr (inr (inr (inr (inr (inr (inr (inr (inr (inr (inr (inr (inr (inr (inr (inl refl))))))))))))))))))))))))
name_class word.Kept = inr (inr (inr (inr (inr (inr (inr (inr (inr (inr (inr (inr (inr (inr (inr (inr (inr (inr (inr (inr (inr (inr (inr (inr (inr (inl refl)))))))))))))))))))))))))
name_class word.Other = inr (inr (inr (inr (inr (inr (inr (inr (inr (inr (inr (inr (inr (inr (inr (inr (inr (inr (inr (inr (inr (inr (inr (inr (inr (inr (inl refl))))))))))))))))))))))))))

-- the mode after a name
pub list_mode : Word → Within
list_mode word.Shut = Shut
list_mode w = Bare

pub name_mode : (w : Word) (symbol : ℕ) → mode_with mode.Plain (Name w symbol) ≡ mode_in (list_mode w)
unfolding list_mode
name_mode word.Shut symbol = refl
name_mode w symbol = refl

-- the parts without a list of multipliers
abbrev pub bare : Draft → Draft
bare d = record d { numbers = []; integers = [] }

-- the parts after a side bound
pub record Scratch : Type 0 where
  pub den : ℕ
  pub numbers : List ℕ
  pub integers : List ℤ
  pub form : Form

abbrev pub scratch : Scratch → Draft → Draft
scratch g d = record d { den = g.den; numbers = g.numbers; integers = g.integers; form = g.form }

-- the parts with a place and its local bound added
abbrev pub placed : Scratch → ℕ → ResultVariable → Draft → Draft
placed g r sp d = record (scratch g d) { rule = r; result_variable = sp; up = Poly; side_bound = Poly }

-- coefficients and a constant are a form
pub form_same : (f : Form) → form_in (f.coefs ++ f.constant ∷ []) ≡ f
form_same f =
    ap (λ (cs : List ℤ). record { coefs = cs; constant = last_of (f.coefs ++ f.constant ∷ []) })
    (before_behind f.coefs f.constant)
    ∙ ap (λ (z : ℤ). record { coefs = f.coefs; constant = z }) (last_behind f.coefs f.constant)

-- the conjunction of two true tests is true
pub both_true : (a b : Bool) → a ≡ true → b ≡ true → (a && b) ≡ true
both_true true b h k = k
both_true false b h k = cc

-- the number of an existing place has no fault
pub place_none : (p : Program) (limit r n : ℕ) (sp : ResultVariable) → IsResultVariableOf p sp → r ≡ sp.rule → n ≡ sp.place → n ≤ limit
    → or_else (when (nat_lt limit n) kind.NumberTooLarge) (when (not (has_place p (rule_at p r) n)) kind.BadReference)
    ≡ None
place_none p limit r n sp is e f l =
    let some : nat_lt 0 n ≡ true = (let h = is.least in let k : 1 ≤ n = omega (arith, h, f) in grind (arith, nat_tests)) in
    let few : nat_le n (arity_of p is.rule.target) ≡ true =
    (let h = is.most in let k : n ≤ arity_of p is.rule.target = omega (arith, h, f) in grind (arith, nat_tests)) in
    ap (λ (o : Option ProofKind). or_else o (when (not (has_place p (rule_at p r) n)) kind.BadReference))
    (none_large limit n l)
    ∙ ap (λ (o : Option Rule). when (not (has_place p o n)) kind.BadReference) (ap (rule_at p) e ∙ is.numbered)
    ∙ ap (λ (v : Bool). when (not v) kind.BadReference) (both_true (nat_lt 0 n) (nat_le n (arity_of p is.rule.target)) some few)

module _ {p : Program} {ss : List Symbol} {rest : List ℕ} {Q : State → Type 0} (sure : Sure p) (b : Base) (l : Last)
    (d : Draft) where
  -- the name of a symbol is read
  pub symbol : (s : ℕ) → s < length p.symbols → Stops continues_name rest
      → ((x : Within) → Along p ss (st b (record l { symbol = s }) d) (mode_in x) rest Q)
      → Along p (item.Made 41 ∷ ss) (done 28 (st b l d)) mode.Plain (name_at p s ++ rest) Q
  symbol s low stops more =
      let h = symbol_name p sure s low in
      let w = word_of (h.first ∷ h.others) in
      spelled_as (ap (λ (bs : List ℕ). bs ++ rest) h.bytes)
      (makes 41 (item.Piece (class_of_word w) ∷ []) (name_class w)
      (reads (named p h.first h.others)
      (ap (λ (k : ℕ). when (nat_le (length p.symbols) k) kind.BadReference) h.found
      ∙ ap (λ (v : Bool). when v kind.BadReference) (false_le (length p.symbols) s low))
      (name_cut p h.first h.others rest h.begins h.goes_on stops)
      (in_mode (name_mode w (symbol_of (symbol_names p) (h.first ∷ h.others)))
      (becomes (ap (λ (k : ℕ). st b (record l { symbol = k }) d) h.found) (more (list_mode w))))))

module _ (b : Base) (outside : b.in_gap ≡ false) where
  -- multipliers within the limit of certificates are within the limit of the state
  pub fine : (ns : List ℕ) → AllByRecursion (λ n. n ≤ certificate_limit) ns → AllByRecursion (λ n. n ≤ limit_of b) ns
  fine [] h = tt
  fine (n ∷ ns) h = (limit_outside b outside n h.0, fine ns h.1)

  pub fine_signed : (zs : List ℤ) → AllByRecursion (λ z. nat_abs z ≤ certificate_limit) zs
      → AllByRecursion (λ z. nat_abs z ≤ limit_of b) zs
  fine_signed [] h = tt
  fine_signed (z ∷ zs) h = (limit_outside b outside (nat_abs z) h.0, fine_signed zs h.1)

module _ {p : Program} {ss : List Symbol} {rest : List ℕ} {Q : State → Type 0} (sure : Sure p) (b : Base)
    (outside : b.in_gap ≡ false) where
  -- the form at a symbol is read
  pub form : (f : SymbolForm) → IsSymbolFormWithin p f → (l : Last) (d : Draft)
      → ((m : Last) → Along p ss (st b m (bare (record d { forms = d.forms ++ f ∷ [] }))) mode.Plain rest Q)
      → Along p (item.Made 24 ∷ ss) (st b l (bare d)) mode.Plain (form_text p f ++ rest) Q
  form f h l d more =
      spelled_as (append_assoc (name_at p f.symbol) (32 ∷ form_numbers f.form) rest)
      (makes 24 (item.Mark 28 ∷ item.Made 41 ∷ item.Piece 32 ∷ item.Made 21 ∷ item.Mark 29 ∷ []) (inl refl)
      (marks 28 (symbol sure b l (bare d) f.symbol h.symbol refl
      (λ x. blank x (integers b x f.form.coefs f.form.constant
      (fine_signed b outside f.form.coefs (all-from (λ z. nat_abs z ≤ certificate_limit) f.form.coefs h.form.coefs))
      (limit_outside b outside (nat_abs f.form.constant) h.form.constant) (record l { symbol = f.symbol }) (bare d)
      (λ n v. marks 29 (becomes
      (ap (λ (g : Form). st b (now (record l { symbol = f.symbol }) n v)
      (bare (record d { forms = d.forms ++ record { symbol = f.symbol; form = g } ∷ [] }))) (form_same f.form))
      (more (now (record l { symbol = f.symbol }) n v)))))))))

module _ {p : Program} {ss : List Symbol} {rest : List ℕ} {Q : State → Type 0} (sure : Sure p) (b : Base)
    (outside : b.in_gap ≡ false) where
  -- the further forms are read
  more_forms : (fs : List SymbolForm) → AllByRecursion (IsSymbolFormWithin p) fs → (l : Last) (d : Draft)
      → ((m : Last) → Along p ss (st b m (bare (record d { forms = d.forms ++ fs }))) mode.Plain rest Q)
      → Along p (item.Made 25 ∷ ss) (st b l (bare d)) mode.Plain
      (each_behind (codes "; ") (map (form_text p) fs) ++ (93 ∷ rest)) Q
  more_forms [] all l d more =
      makes 25 (item.Piece 35 ∷ []) (inl refl)
      (closes Bare (becomes (ap (λ (fs : List SymbolForm). st b l (bare (record d { forms = fs })))
      (sym (append-nil d.forms))) (more l)))
  more_forms (f ∷ fs) all l d more =
      spelled_as (next_then (form_text p f) (map (form_text p) fs) (93 ∷ rest))
      (makes 25 (item.Piece 40 ∷ item.Piece 32 ∷ item.Made 24 ∷ item.Made 25 ∷ []) (inr (inl refl))
      (semicolon (blank Bare (form sure b outside f all.0 l d
      (λ m. more_forms fs all.1 m (record d { forms = d.forms ++ f ∷ [] })
      (λ n. becomes (ap (λ (gs : List SymbolForm). st b n (bare (record d { forms = gs })))
      (append_assoc d.forms (f ∷ []) fs)) (more n)))))))

  -- a list of forms is read
  pub forms : (fs : List SymbolForm) → 1 ≤ length fs → AllByRecursion (IsSymbolFormWithin p) fs → (l : Last)
      (d : Draft) → ((m : Last) → Along p ss (st b m (bare (record d { forms = d.forms ++ fs }))) mode.Plain rest Q)
      → Along p (item.Made 23 ∷ ss) (st b l (bare d)) mode.Plain (listed (map (form_text p) fs) ++ rest) Q
  forms [] one all l d more = absurd (omega (arith, one))
  forms (f ∷ fs) one all l d more =
      spelled_as (list_then (form_text p f) (map (form_text p) fs) rest)
      (makes 23 (item.Piece 34 ∷ item.Made 24 ∷ item.Made 25 ∷ []) (inl refl)
      (opens Bare (form sure b outside f all.0 l d
      (λ m. more_forms fs all.1 m (record d { forms = d.forms ++ f ∷ [] })
      (λ n. becomes (ap (λ (gs : List SymbolForm). st b n (bare (record d { forms = gs })))
      (append_assoc d.forms (f ∷ []) fs)) (more n))))))

  -- the further lists of multipliers are read
  more_moves : (nss : List (List ℕ)) → AllByRecursion (AllByRecursion (λ n. n ≤ certificate_limit)) nss
      → (l : Last) (d : Draft)
      → ((m : Last) → Along p ss (st b m (bare (record d { moves = d.moves ++ nss }))) mode.Plain rest Q)
      → Along p (item.Made 27 ∷ ss) (st b l (bare d)) mode.Plain
      (each_behind (codes "; ") (map numbers_text nss) ++ (93 ∷ rest)) Q
  more_moves [] all l d more =
      makes 27 (item.Piece 35 ∷ []) (inl refl)
      (closes Bare (becomes (ap (λ (nss : List (List ℕ)). st b l (bare (record d { moves = nss })))
      (sym (append-nil d.moves))) (more l)))
  more_moves (ns ∷ nss) all l d more =
      spelled_as (next_then (numbers_text ns) (map numbers_text nss) (93 ∷ rest))
      (makes 27 (item.Piece 40 ∷ item.Piece 32 ∷ item.Made 15 ∷ item.Mark 30 ∷ item.Made 27 ∷ []) (inr (inl refl))
      (semicolon (blank Bare (numbers b ns (fine b outside ns all.0) l (bare d)
      (λ m. marks 30 (more_moves nss all.1 m (record d { moves = d.moves ++ ns ∷ [] })
      (λ n. becomes (ap (λ (gs : List (List ℕ)). st b n (bare (record d { moves = gs })))
      (append_assoc d.moves (ns ∷ []) nss)) (more n))))))))

  -- all lists of multipliers are read
  pub moves : (nss : List (List ℕ)) → 1 ≤ length nss → AllByRecursion (AllByRecursion (λ n. n ≤ certificate_limit)) nss
      → (l : Last) (d : Draft)
      → ((m : Last) → Along p ss (st b m (bare (record d { moves = d.moves ++ nss }))) mode.Plain rest Q)
      → Along p (item.Made 26 ∷ ss) (st b l (bare d)) mode.Plain (listed (map numbers_text nss) ++ rest) Q
  moves [] one all l d more = absurd (omega (arith, one))
  moves (ns ∷ nss) one all l d more =
      spelled_as (list_then (numbers_text ns) (map numbers_text nss) rest)
      (makes 26 (item.Piece 34 ∷ item.Made 15 ∷ item.Mark 30 ∷ item.Made 27 ∷ []) (inl refl)
      (opens Bare (numbers b ns (fine b outside ns all.0) l (bare d)
      (λ m. marks 30 (more_moves nss all.1 m (record d { moves = d.moves ++ ns ∷ [] })
      (λ n. becomes (ap (λ (gs : List (List ℕ)). st b n (bare (record d { moves = gs })))
      (append_assoc d.moves (ns ∷ []) nss)) (more n)))))))

  -- a side bound is read
  pub side_bound : (a : SideBound) → IsSideBoundWithin a → Stops continues_name rest → (l : Last) (d : Draft)
      → ((m : Last) (g : Scratch) → Along p ss (st b m (scratch g (record d { side_bound = a }))) mode.Plain rest Q)
      → Along p (item.Made 30 ∷ ss) (st b l d) mode.Plain (side_bound_text a ++ rest) Q
  side_bound Poly h stops l d more =
      makes 30 (item.Piece 22 ∷ item.Mark 35 ∷ []) (inl refl)
      (read_word 112 (codes "oly") refl refl stops refl
      (marks 35 (more (record l { symbol = symbol_of (symbol_names p) (codes "poly") })
      (record { den = d.den; numbers = d.numbers; integers = d.integers; form = d.form }))))
  side_bound (Linear den form ms) h stops l d more =
      spelled_as (flatten (Then (Bytes (codes "lin ")) (Then (Bytes (decimal den)) (Then (Bytes (codes " "))
      (Then (Bytes (form_numbers form)) (Then (Bytes (codes " ")) (Bytes (numbers_text ms))))))) rest)
      (makes 30 (item.Piece 23 ∷ item.Piece 32 ∷ item.Made 10 ∷ item.Piece 32 ∷ item.Made 21 ∷ item.Mark 36 ∷
      item.Piece 32 ∷ item.Made 15 ∷ item.Mark 37 ∷ []) (inr (inl refl))
      (read_word 108 (codes "in") refl refl refl refl
      (blank Bare (plain b (record l { symbol = symbol_of (symbol_names p) (codes "lin") }) d den
      (limit_outside b outside den h.0) refl
      (blank Bare (integers b Bare form.coefs form.constant
      (fine_signed b outside form.coefs (all-from (λ z. nat_abs z ≤ certificate_limit) form.coefs h.1.coefs))
      (limit_outside b outside (nat_abs form.constant) h.1.constant)
      (record l { symbol = symbol_of (symbol_names p) (codes "lin"); number = den }) (record d { den = den })
      (λ n v. marks 36 (blank Bare (numbers b ms
      (fine b outside ms (all-from (λ k. k ≤ certificate_limit) ms h.2))
      (now (record l { symbol = symbol_of (symbol_names p) (codes "lin") }) n v)
      (record d {
        den = den;
        numbers = [];
        integers = [];
        form = form_in (form.coefs ++ form.constant ∷ []);
      })
      (λ m. marks 37 (becomes
      (ap (λ (g : Form). st b m (record d { den = den; numbers = []; integers = []; form = no_form; side_bound = Linear den g ms }))
      (form_same form)) (more m (record { den = den; numbers = []; integers = []; form = no_form })))))))))))))
