-- The lines of copies and of branches are read along their texts.
use Rattle.std.proofs.Common.{◌≡◌, ℕ, suc, ◌-◌, ◌<◌, ◌≤◌, ◌^◌, min, Bool, true, false, cond, not, List, [], ◌∷◌, ◌++◌, length, map, codes}
use Rattle.std.proofs.Common.{Option, Some, None, refl, ap, sym, ◌∙◌, arith, inl, inr}
use Rattle.std.specs.Prelude.{is_some, nat_le, nat_lt, slice_get}
use Rattle.std.specs.Fmt.{decimal}
use Rattle.std.proofs.lemmas.Bool.{le-ltb as false_lt, lt-leb as false_le}
use Rattle.its_model.specs.model.Limits.{name_limit}
use Rattle.its_model.specs.model.Programs.{Name, Program, rule_at}
use Rattle.its_model.specs.linear_forms.Limits.{certificate_limit}
use Rattle.refined_programs.specs.Annotated.{Branch, Copy}
use Rattle.text_grammar.specs.text_core.Choices.{when}
use Rattle.text_grammar.specs.text_core.Names.{AreNames, is_among, position_of}
use Rattle.text_grammar.specs.declared.symbol.Symbol.{Symbol}
use Rattle.text_grammar.specs.declared.symbol.Symbol.TheVariants as item
use Rattle.section_text.specs.declared.action.Role.TheVariants as roles
use Rattle.section_text.specs.declared.kind.SectionKind.{SectionKind}
use Rattle.section_text.specs.declared.kind.SectionKind.TheVariants.{BadReference, Limit, NumberTooLarge}
use Rattle.section_text.specs.declared.piece.Sort.TheVariants.{Number}
use Rattle.section_text.specs.Drafts.{Draft, in_32, with_name}
use Rattle.section_text.specs.Faults.{fault_of_new_name, branch_limit, copy_limit, or_else}
use Rattle.section_text.specs.Grammar.{class_of_sort}
use Rattle.section_writer.specs.Limits.{IsBranchWithin, IsCopyWithin}
use Rattle.section_writer.specs.Texts.{copy_name, symbol_name}
use Rattle.section_writer.proofs.Along.{Along, makes, marks}
use Rattle.section_writer.proofs.CaseTexts.{cases, listed_none, listed_position}
use Rattle.section_writer.proofs.Cutting.{blank, feed, name_in, number_class, number_read, word_in}
use Rattle.section_writer.proofs.Following.{branch_then, copy_then}
use Rattle.section_writer.proofs.Listing.{facts, none_large}
use Rattle.section_writer.proofs.States.{Kept, Sure, cased, copy_listed, copy_names, in_role, lined, rule_there, st, symbol_listed}
use Rattle.section_writer.proofs.States.{symbol_names}

-- a new name that isn't too long has no fault
new_none : (name : Name) (d : Draft) → is_among name d.names ≡ false → length name ≤ name_limit
    → fault_of_new_name name d ≡ None
new_none name d new short =
    ap (λ (v : Bool). or_else (when v BadReference) (when (nat_lt name_limit (length name)) Limit)) new
    ∙ ap (λ (v : Bool). when v Limit) (false_lt name_limit (length name) short)

-- it is the last one of the names
new_last : (name : Name) (names : List Name) → is_among name names ≡ false → with_name name names ≡ names ++ name ∷ []
new_last name names new = ap (λ (v : Bool). cond v names (names ++ name ∷ [])) new

-- the number of a rule that there is has no fault
rule_none : (p : Program) (r : ℕ) → r ≤ certificate_limit → is_some (rule_at p r) ≡ true
    → or_else (when (nat_lt certificate_limit r) NumberTooLarge) (when (not (is_some (rule_at p r))) BadReference) ≡ None
rule_none p r small there =
    ap (λ (o : Option SectionKind). or_else o (when (not (is_some (rule_at p r))) BadReference)) (none_large r small)
    ∙ ap (λ (v : Bool). when (not v) BadReference) there

module _ {p : Program} {text : List ℕ} {ss : List Symbol} {rest : List ℕ} {Q : Draft → Type 0} (sure : Sure p) where
  -- the line of a copy with a new name
  pub copy_line : (c : Copy) → IsCopyWithin p c → (k : Kept) → length k.copies < copy_limit → is_among c.name k.names ≡ false
      → Along p text ss
      (st (lined (record k { over = c.over; names = k.names ++ c.name ∷ []; copies = k.copies ++ c ∷ [] }))) rest Q
      → Along p text (item.Made 3 ∷ ss) (st (lined k)) (copy_then p c rest) Q
  copy_line c h k few new more =
      let named : Kept = record (lined k) { name = c.name; names = k.names ++ c.name ∷ [] } in
      let placed : Kept = record named { over = c.over } in
      let is = symbol_listed p sure c.over h.over in
      makes 3 (item.Mark 0 ∷ item.Piece 0 ∷ item.Piece 14 ∷ item.Mark 1 ∷ item.Made 5 ∷ item.Piece 14 ∷ item.Piece 1 ∷
      item.Piece 14 ∷ item.Mark 2 ∷ item.Made 5 ∷ item.Piece 14 ∷ item.Piece 2 ∷ item.Piece 14 ∷ item.Piece 16 ∷
      item.Made 7 ∷ item.Mark 11 ∷ item.Piece 15 ∷ []) (inl refl)
      (marks 0 (word_in {k = lined k} roles.CopyWord 99 (codes "opy") refl refl refl
      (λ q. ap (λ (v : Bool). when v Limit) (false_le copy_limit (length k.copies) few)) (λ q. refl)
      (blank refl (marks 1 (name_in {k = lined k} roles.NewName c.name (st named) h.name refl
      (λ q b. ap (λ (n : Name). fault_of_new_name n (in_role roles.NewName (lined k))) b
      ∙ new_none c.name (in_role roles.NewName (lined k)) new h.short)
      (λ q b. ap (λ (n : Name). st (record (lined k) { name = n; names = with_name n k.names })) b
      ∙ ap (λ (ns : List Name). st (record (lined k) { name = c.name; names = ns })) (new_last c.name k.names new))
      (blank refl (word_in {k = named} roles.Plain 111 (codes "f") refl refl refl (λ q. refl) (λ q. refl)
      (blank refl (marks 2 (name_in {k = named} roles.Symbol (symbol_name (slice_get p.symbols c.over)) (st placed) is.is refl
      (λ q b. ap (λ (n : Name). when (not (is_among n (symbol_names p))) BadReference) b
      ∙ listed_none (symbol_names p) c.over (symbol_name (slice_get p.symbols c.over)) is)
      (λ q b. ap (λ (n : Name). st (record named { over = in_32 (position_of n (symbol_names p)) })) b
      ∙ ap (λ (s : ℕ). st (record named { over = s }))
      (listed_position (symbol_names p) c.over (length p.symbols) (symbol_name (slice_get p.symbols c.over)) is h.over
      (let e = sure.few_symbols in omega (arith, e))))
      (blank refl (word_in {k = placed} roles.Plain 102 (codes "acts") refl refl refl (λ q. refl) (λ q. refl)
      (blank refl (facts c.facts h.facts placed (marks 11 (feed refl more))))))))))))))))

module _ {p : Program} {text : List ℕ} {ss : List Symbol} {rest : List ℕ} {Q : Draft → Type 0} (sure : Sure p)
    (copies : List Copy) (are : AreNames (copy_names copies)) (few : length copies ≤ copy_limit) where
  -- the line of a branch between copies
  pub branch_line : (b : Branch) → IsBranchWithin p (length copies) b → (k : Kept) → k.names ≡ copy_names copies
      → length k.branches < branch_limit
      → ((t : ℕ) → Along p text ss (st (lined (record k {
        source = b.source;
        rule = b.rule;
        target = t;
        branches = k.branches ++ b ∷ [];
      }))) rest Q)
      → Along p text (item.Made 4 ∷ ss) (st (lined k)) (branch_then copies b rest) Q
  branch_line b h k e fewer more =
      let from : Kept = record (lined k) { source = b.source } in
      let by : Kept = record from { rule = b.rule } in
      let is = copy_listed copies are b.source h.source in
      let last = h.last in
      let few_rules = sure.few_rules in
      let small : b.rule ≤ certificate_limit = omega (arith, last, few_rules) in
      makes 4 (item.Mark 3 ∷ item.Piece 3 ∷ item.Piece 14 ∷ item.Mark 4 ∷ item.Made 5 ∷ item.Piece 14 ∷ item.Piece 4 ∷
      item.Piece 14 ∷ item.Mark 5 ∷ item.Made 6 ∷ item.Piece 14 ∷ item.Made 12 ∷ item.Mark 18 ∷ item.Piece 15 ∷ []) (inl refl)
      (marks 3 (word_in {k = lined k} roles.BranchWord 102 (codes "rom") refl refl refl
      (λ q. ap (λ (v : Bool). when v Limit) (false_le branch_limit (length k.branches) fewer)) (λ q. refl)
      (blank refl (marks 4 (name_in {k = lined k} roles.Source (copy_name (slice_get copies b.source)) (st from) is.is refl
      (λ q n. ap (λ (m : Name). when (not (is_among m k.names)) BadReference) n
      ∙ ap (λ (ns : List Name). when (not (is_among (copy_name (slice_get copies b.source)) ns)) BadReference) e ∙ listed_none (copy_names copies) b.source (copy_name (slice_get copies b.source)) is)
      (λ q n. ap (λ (m : Name). st (record (lined k) { source = in_32 (position_of m k.names) })) n
      ∙ ap (λ (ns : List Name). st (record (lined k) { source = in_32 (position_of (copy_name (slice_get copies b.source)) ns) })) e
      ∙ ap (λ (i : ℕ). st (record (lined k) { source = i }))
      (listed_position (copy_names copies) b.source (length copies) (copy_name (slice_get copies b.source)) is h.source (omega (arith, few))))
      (blank refl (word_in {k = from} roles.Plain 114 (codes "ule") refl refl refl (λ q. refl) (λ q. refl)
      (blank refl (marks 5 (makes 6 (item.Piece (class_of_sort (Number b.rule)) ∷ []) (number_class b.rule)
      (number_read {d = in_role roles.Rule from} b.rule (st by) small refl
      (λ at len. rule_none p b.rule small (rule_there p b.rule h.first h.last))
      (λ at len. ap (λ (r : ℕ). st (record from { rule = r }))
      (let low : min b.rule (2 ^ 32 - 1) ≡ b.rule = omega (arith, last, few_rules) in low))
      (blank refl (cases copies are few b.cases 0 h.cases by e refl (λ t. marks 18 (feed refl (more t))))))))))))))))
