-- Cases are read along their text.
use Rattle.std.proofs.Common.{◌≡◌, ℕ, suc, ◌-◌, ◌<◌, ◌≤◌, ◌^◌, min, Bool, not, List, [], ◌∷◌, ◌++◌, length, codes}
use Rattle.std.proofs.Common.{Option, Some, None, refl, ap, sym, ◌∙◌, arith, inl, inr, length-append}
use Rattle.std.specs.Prelude.{nat_le, slice_get}
use Rattle.std.proofs.lemmas.Bool.{lt-leb as false_le}
use Rattle.its_model.specs.model.Programs.{Name, Program}
use Rattle.refined_programs.specs.Annotated.{Copy, Cases, To, Never, If}
use Rattle.text_grammar.specs.text_core.Choices.{when}
use Rattle.text_grammar.specs.text_core.Names.{AreNames, is_among, position_of}
use Rattle.text_grammar.specs.declared.symbol.Symbol.{Symbol}
use Rattle.text_grammar.specs.declared.symbol.Symbol.TheVariants as item
use Rattle.section_text.specs.declared.action.Role.TheVariants as roles
use Rattle.section_text.specs.declared.kind.SectionKind.TheVariants.{BadReference, TooDeep}
use Rattle.section_text.specs.Drafts.{Draft, InYes, InNo, in_32, no_cases}
use Rattle.section_text.specs.Faults.{copy_limit, level_limit}
use Rattle.section_text.proofs.LastLaws.{ends_last, no_last}
use Rattle.section_writer.specs.Limits.{AreCasesWithin}
use Rattle.section_writer.specs.Texts.{copy_name}
use Rattle.section_writer.proofs.Along.{Along, becomes, makes, marks}
use Rattle.section_writer.proofs.Cutting.{blank, bracket, name_in, unbracket, word_in}
use Rattle.section_writer.proofs.Following.{cases_then}
use Rattle.section_writer.proofs.Listing.{form, lists, numbers}
use Rattle.section_writer.proofs.States.{IsListed, Kept, cased, copy_listed, copy_names, in_role, st}

-- the name of a copy that there is has no fault, and says its position
pub listed_none : (names : List Name) (i : ℕ) (name : Name) → IsListed names i name
    → when (not (is_among name names)) BadReference ≡ None
listed_none names i name h = ap (λ (v : Bool). when (not v) BadReference) h.among

pub listed_position : (names : List Name) (i most : ℕ) (name : Name) → IsListed names i name → i < most → most ≤ 2 ^ 32
    → in_32 (position_of name names) ≡ i
listed_position names i most name h low few = let e = h.found in omega (arith, e, low, few)

-- at this level cases aren't too deep
level_none : (level : ℕ) → level < level_limit → when (nat_le level_limit level) TooDeep ≡ None
level_none level low = ap (λ (v : Bool). when v TooDeep) (false_le level_limit level low)

module _ {p : Program} {text : List ℕ} {Q : Draft → Type 0} (copies : List Copy) (are : AreNames (copy_names copies))
    (few : length copies ≤ copy_limit) where
  -- cases inside of as many others as there are open tests
  pub cases : (c : Cases) {ss : List Symbol} {rest : List ℕ} (level : ℕ) → AreCasesWithin (length copies) level c → (k : Kept)
      → k.names ≡ copy_names copies → length k.tests ≡ level
      → ((t : ℕ) → Along p text ss (st (cased (record k { target = t; cases = c }))) rest Q)
      → Along p text (item.Made 12 ∷ ss) (st (cased k)) (cases_then copies c rest) Q
  cases (To copy by) level h k e l more =
      let is = copy_listed copies are copy h.1 in
      makes 12 (item.Mark 6 ∷ item.Piece 5 ∷ item.Piece 14 ∷ item.Mark 7 ∷ item.Made 5 ∷ item.Piece 14 ∷ item.Piece 6 ∷
      item.Piece 14 ∷ item.Piece 16 ∷ item.Made 13 ∷ item.Mark 13 ∷ []) (inl refl)
      (marks 6 (word_in {k = cased k} roles.CaseWord 116 (codes "o") refl refl refl
      (λ q. ap (λ (n : ℕ). when (nat_le level_limit n) TooDeep) l ∙ level_none level h.0) (λ q. refl)
      (blank refl (marks 7 (name_in {k = cased k} roles.Target (copy_name (slice_get copies copy)) (st (cased (record k { target = copy }))) is.is refl
      (λ q b. ap (λ (n : Name). when (not (is_among n k.names)) BadReference) b
      ∙ ap (λ (ns : List Name). when (not (is_among (copy_name (slice_get copies copy)) ns)) BadReference) e ∙ listed_none (copy_names copies) copy (copy_name (slice_get copies copy)) is)
      (λ q b. ap (λ (n : Name). st (cased (record k { target = in_32 (position_of n k.names) }))) b
      ∙ ap (λ (ns : List Name). st (cased (record k { target = in_32 (position_of (copy_name (slice_get copies copy)) ns) }))) e
      ∙ ap (λ (i : ℕ). st (cased (record k { target = i })))
      (listed_position (copy_names copies) copy (length copies) (copy_name (slice_get copies copy)) is h.1 (omega (arith, few))))
      (blank refl (word_in {k = cased (record k { target = copy })} roles.Plain 98 (codes "y") refl refl refl (λ q. refl) (λ q. refl)
      (blank refl (lists by h.2 (cased (record k { target = copy })) (marks 13 (more copy)))))))))))
  cases (Never by) level h k e l more =
      makes 12 (item.Mark 6 ∷ item.Piece 7 ∷ item.Piece 14 ∷ item.Made 15 ∷ item.Mark 14 ∷ []) (inr (inl refl))
      (marks 6 (word_in {k = cased k} roles.CaseWord 110 (codes "ever") refl refl refl
      (λ q. ap (λ (n : ℕ). when (nat_le level_limit n) TooDeep) l ∙ level_none level h.0) (λ q. refl)
      (blank refl (numbers by h.1 (cased k) (marks 14 (more k.target))))))
  cases (If test yes_cases other_cases) level h k e l more =
      let in_yes : Kept = cased (record k { tests = k.tests ++ InYes test ∷ [] }) in
      let yes_length = length-append k.tests (InYes test ∷ []) in
      let no_length = length-append k.tests (InNo test yes_cases ∷ []) in
      makes 12 (item.Mark 6 ∷ item.Piece 8 ∷ item.Piece 14 ∷ item.Made 9 ∷ item.Mark 15 ∷ item.Piece 14 ∷ item.Piece 9 ∷
      item.Piece 14 ∷ item.Piece 18 ∷ item.Made 12 ∷ item.Mark 16 ∷ item.Piece 19 ∷ item.Piece 14 ∷ item.Piece 10 ∷
      item.Piece 14 ∷ item.Piece 18 ∷ item.Made 12 ∷ item.Piece 19 ∷ item.Mark 17 ∷ []) (inr (inr (inl refl)))
      (marks 6 (word_in {k = cased k} roles.CaseWord 105 (codes "f") refl refl refl
      (λ q. ap (λ (n : ℕ). when (nat_le level_limit n) TooDeep) l ∙ level_none level h.0) (λ q. refl)
      (blank refl (form test h.1 (cased k) (marks 15
      (blank refl (word_in {k = in_yes} roles.Plain 116 (codes "hen") refl refl refl (λ q. refl) (λ q. refl)
      (blank refl (bracket refl (cases yes_cases (suc level) h.2 (record k { tests = k.tests ++ InYes test ∷ [] }) e
      (omega (arith, yes_length, l)) (λ t. marks 16
      (becomes (no_last (st (cased (record in_yes { target = t; cases = yes_cases }))) k.tests (InYes test) refl)
      (unbracket refl (blank refl (word_in
      {k = cased (record k { tests = k.tests ++ InNo test yes_cases ∷ []; target = t; cases = no_cases })} roles.Plain 101
      (codes "lse") refl refl refl (λ q. refl) (λ q. refl)
      (blank refl (bracket refl (cases other_cases (suc level) h.3
      (record k { tests = k.tests ++ InNo test yes_cases ∷ []; target = t; cases = no_cases }) e
      (omega (arith, no_length, l)) (λ u. unbracket refl (marks 17
      (becomes (ends_last (st (cased (record k {
        tests = k.tests ++ InNo test yes_cases ∷ [];
        target = u;
        cases = other_cases;
      }))) k.tests (InNo test yes_cases) refl) (more u))))))))))))))))))))))
