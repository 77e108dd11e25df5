-- The rows of a rule's decrease and of a floor: their numbers are small, and they are certified exactly if the decrease
-- and the floor are.
use Rattle.std.proofs.Common.{◌≡◌, ◌↔◌, ℕ, ◌^◌, ◌<◌, ◌≤◌, Bool, List, [], ◌∷◌, length, map, get_or, All, Option, Some, None, Vec}
use Rattle.std.proofs.Common.{refl, sym, ap, ◌∙◌, subst, arith}
use Rattle.std.specs.declared.alloc.Global.{Global}
use Rattle.std.specs.Prelude.{pos}
use Rattle.std.specs.Bool.{IsTrue}
use Rattle.std.proofs.lemmas.List.{length-map}
use Rattle.std.proofs.lemmas.List.Elements.{All-nil, All-cons, All-head, All-tail}
use denote.Ref.{Bor}
use Rattle.guard_prep.specs.declared.rule_rows.RuleRows.{RuleRows}
use Rattle.its_model.specs.Valid.{IsValid}
use Rattle.model.specs.Paths.{source_of}
use Rattle.model.specs.Programs.{Program}
use Rattle.poly_terms.specs.Views.{form_of}
use Rattle.poly_terms.specs.declared.poly.Row.{Row}
use Rattle.poly_terms.specs.linear_forms.Certificates.{Implies}
use Rattle.poly_terms.specs.linear_forms.Combinations.{less}
use Rattle.poly_terms.specs.linear_forms.Forms.{Form}
use Rattle.poly_terms.specs.linear_forms.Losses.{loss}
use Rattle.poly_terms.specs.linear_forms.RuleQuestions.{constant_form}
use Rattle.cert_types.specs.Sizes.{form_found, IsShort}
use Rattle.cert_types.specs.Views.{form_of as form_at_symbol, rank_of}
use Rattle.cert_types.specs.declared.rank.Form as code
use Rattle.cert_types.specs.declared.rank.RankNode as code_node
use Rattle.cert_types.specs.cert_rules.AcceptsPlain.{IsRule}
use Rattle.cert_types.specs.cert_rules.AcceptsRank.{HasFormShape, HasRankShape, HasFloor, Loses, at_source, at_target}
use Rattle.cert_types.specs.cert_rules.AcceptsRank.{least_loss, moves_of}
use Rattle.cert_types.specs.cert_rules.Composed.{rank_form}
use Rattle.cert_types.specs.cert_rules.Limits.{IsFormInLimit, AreInLimit}
use Rattle.cert_types.specs.cert_rules.Nodes.{SymbolForm}
use Rattle.cert_types.specs.cert_program.Setting.{setting_of}
use Rattle.gap_checks.proofs.GapFaults.{in-list}
use Rattle.cert_context.specs.Columns.{IsAlike}
use Rattle.cert_context.specs.SuitedRows.{SuitsGoals}
use Rattle.cert_context.proofs.FormColumns.{by-alike}
use Rattle.cert_context.proofs.Rows.{few-places}
use Rattle.check_ranks.specs.Goals.{AreWithin}
use Rattle.check_ranks.proofs.RankForms.{form-limited, form-width}
use Rattle.check_ranks.proofs.RankShapes.{moves-is}

-- forms of the right shape have few coefficients
pub forms-short : (p : Program) (fs : List code.Form) → IsValid p → All (HasFormShape p) (map form_at_symbol fs)
    → All IsShort fs
forms-short p [] v h = All-nil IsShort
forms-short p (f ∷ fs) v h =
    let few = few-places p f.symbol v in
    let long = (All-head (HasFormShape p) (form_at_symbol f) (map form_at_symbol fs) h).long in
    All-cons IsShort f fs (omega (arith, few, long))
    (forms-short p fs v (All-tail (HasFormShape p) (form_at_symbol f) (map form_at_symbol fs) h))

module _ (p : Program) (n : code_node.RankNode) (h : HasRankShape (setting_of p) (rank_of n)) where
  abbrev forms : List SymbolForm
  forms = (rank_of n).forms

  -- the form at a symbol is within the limit
  pub found-limited : (o : Option (Bor code.Form)) (a : Option ℕ) → form_found o ≡ rank_form forms a
      → IsFormInLimit (form_found o)
  found-limited o a e = subst IsFormInLimit (sym e) (form-limited p forms h.forms a)

  -- the form at a symbol has few coefficients
  pub found-short : IsValid p → (o : Option (Bor code.Form)) (a : Option ℕ) → form_found o ≡ rank_form forms a
      → length (form_found o).coefs < 2 ^ 31
  found-short v o None e = omega (arith, ap (λ (f : Form). length f.coefs) e)
  found-short v o (Some a) e =
      omega (arith, ap (λ (f : Form). length f.coefs) e, form-width p forms h.forms a, few-places p a v)

  -- the strict rule is a rule of the program
  pub strict-rule : IsRule p n.rule
  strict-rule = h.rules n.rule h.inside

  module _ (t : ℕ) (m : RuleRows) (suits : SuitsGoals p t m) where
    -- the form at the source of a rule has at most as many coefficients as the rule has unknowns
    pub found-width : (o : Option (Bor code.Form)) → form_found o ≡ at_source p (rank_of n) t
        → length (form_found o).coefs ≤ m.unknowns
    found-width o e = go (source_of p t) refl
      where
        go : (a : Option ℕ) → source_of p t ≡ a → length (form_found o).coefs ≤ m.unknowns
        go None k = omega (arith, ap (λ (f : Form). length f.coefs) (e ∙ ap (rank_form forms) k))
        go (Some a) k =
            omega (
              arith,
              ap (λ (f : Form). length f.coefs) (e ∙ ap (rank_form forms) k),
              form-width p forms h.forms a,
              suits.left a k,
            )

    pub found-within : (o : Option (Bor code.Form)) → form_found o ≡ at_source p (rank_of n) t
        → AreWithin m.unknowns (form_found o) (map form_of m.new_values.items)
    found-within o e = record { before = found-width o e; new_values = suits.width }

  -- a test that decides whether the row of the decrease is certified decides whether the decrease is
  pub losing-by : (t least : ℕ) (b : Bool) (goal : Row) (rows new_values : List Form) (ms : List ℕ)
      (before after : Option (Bor code.Form)) → IsTrue b ↔ Implies rows ms (form_of goal)
      → IsAlike (form_of goal) (loss (form_found before) (form_found after) new_values (pos least))
      → rows ≡ (setting_of p).rows t → new_values ≡ (setting_of p).new_values t → form_found before ≡ at_source p (rank_of n) t
      → form_found after ≡ at_target p (rank_of n) t → pos least ≡ least_loss (rank_of n) t
      → IsTrue b ↔ Implies ((setting_of p).rows t) ms
      (loss (at_source p (rank_of n) t) (at_target p (rank_of n) t) ((setting_of p).new_values t) (least_loss (rank_of n) t))
  losing-by t least b goal rows new_values ms before after k a e d f g l =
      subst (λ (T : Type 0). IsTrue b ↔ T)
      (λ i. Implies (e i) ms (loss (f i) (g i) (d i) (l i)))
      (by-alike rows ms (form_of goal) (loss (form_found before) (form_found after) new_values (pos least)) b k a)

  -- a test that decides whether the row of the floor is certified decides whether the floor is
  pub floor-by : (b : Bool) (goal : Row) (rows : List Form) (before : Option (Bor code.Form))
      → IsTrue b ↔ Implies rows n.floor.items (form_of goal)
      → IsAlike (form_of goal) (less (form_found before) (constant_form (pos n.den)))
      → rows ≡ (setting_of p).rows n.rule → form_found before ≡ at_source p (rank_of n) n.rule
      → IsTrue b ↔ HasFloor (setting_of p) (rank_of n)
  floor-by b goal rows before k a e f =
      subst (λ (T : Type 0). IsTrue b ↔ T)
      (λ i. Implies (e i) n.floor.items (less (f i) (constant_form (pos n.den))))
      (by-alike rows n.floor.items (form_of goal) (less (form_found before) (constant_form (pos n.den))) b k a)

  module _ (i : ℕ) (m : Vec ℕ Global) (l : i < length n.set.items) (e : m ≡ get_or n.moves.items i m) where
    moves-long : length n.moves.items ≡ length n.set.items
    moves-long = sym (length-map n.moves.items (λ (v : Vec ℕ Global). v.items)) ∙ h.one_each

    -- the multipliers at a position of the set are those of the rule at that position
    same-moves : moves_of n.set.items (rank_of n).moves (get_or n.set.items i 0) ≡ m.items
    same-moves = moves-is n.set.items n.moves.items i m h.ascending moves-long l e

    pub moves-limited : IsRule p (get_or n.set.items i 0) → AreInLimit m.items
    moves-limited is = subst AreInLimit same-moves (h.moves (get_or n.set.items i 0) (in-list n.set.items i 0 l)).limit

    -- a test with these multipliers decides whether the function decreases as required by that rule
    pub loses-by : (b : Bool) (t : ℕ) (ms : List ℕ) → t ≡ get_or n.set.items i 0 → ms ≡ m.items
        → IsTrue b ↔ Implies ((setting_of p).rows t) ms
        (loss (at_source p (rank_of n) t) (at_target p (rank_of n) t) ((setting_of p).new_values t) (least_loss (rank_of n) t))
        → IsTrue b ↔ Loses (setting_of p) (rank_of n) (get_or n.set.items i 0)
    loses-by b t ms d o k =
        subst (λ (u : ℕ). IsTrue b ↔ Loses (setting_of p) (rank_of n) u) d
        (subst (λ (xs : List ℕ). IsTrue b ↔ Implies ((setting_of p).rows t) xs
        (loss (at_source p (rank_of n) t) (at_target p (rank_of n) t) ((setting_of p).new_values t) (least_loss (rank_of n) t)))
        (o ∙ (sym same-moves ∙ ap (moves_of n.set.items (rank_of n).moves) (sym d))) k)

    -- the number at a position of the set is that of a rule
    pub rule-there : IsRule p (get_or n.set.items i 0)
    rule-there = h.rules (get_or n.set.items i 0) (in-list n.set.items i 0 l)
