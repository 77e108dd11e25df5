-- A file has one cut, whose parts make up the file after its first line.
use Rattle.std.proofs.Common.{◌≡◌, ◌++◌, ◌∙◌, ℕ, Bool, true, false, cond, List, [], ◌∷◌, refl, sym, ap}
use Rattle.std.proofs.lemmas.List.{append_cancel_left}
use Rattle.std.proofs.lemmas.List.Folds.{concat-append}
use Rattle.std.specs.List.{concat}
use Rattle.text_core.specs.Prefixes.{prefix, rest}
use Rattle.text_core.proofs.PrefixLaws.{prefix-rest}
use Rattle.proof_parts.specs.Lines.{lines_of}
use Rattle.proof_parts.specs.Kinds.{is_section_line, is_end_line, is_signed_line}
use Rattle.proof_parts.specs.Head.{first_line}
use Rattle.proof_parts.specs.Parts.{Parts, IsCut, all_parts, parts_of_lines, through, past, behind_section}
use Rattle.proof_parts.specs.Parts.{behind_plain}
use Rattle.proof_parts.proofs.LineLaws.{concat-lines}

-- the lines up to the first that passes a test and those behind it are the lines
through-past : (test : List ℕ → Bool) (lines : List (List ℕ)) → through test lines ++ past test lines ≡ lines
through-past test [] = refl
through-past test (line ∷ lines) = go (test line) (through-past test lines) where
  go : (v : Bool) → through test lines ++ past test lines ≡ lines
      → (line ∷ cond v [] (through test lines)) ++ cond v lines (past test lines) ≡ line ∷ lines
  go true ih = refl
  go false ih = ap (λ ls. line ∷ ls) ih

-- where two lists of lines make a third one, so do their bytes
concat-split : (front back lines : List (List ℕ)) → front ++ back ≡ lines → concat front ++ concat back ≡ concat lines
concat-split front back lines e = sym (concat-append front back) ∙ ap concat e

-- the parts of lines one behind the other are their bytes
pub parts-whole : (lines : List (List ℕ)) → all_parts (parts_of_lines lines) ≡ concat lines
parts-whole lines =
    let signed = concat-split (prefix is_signed_line (behind_plain lines)) (rest is_signed_line (behind_plain lines))
    (behind_plain lines) (prefix-rest is_signed_line (behind_plain lines)) in
    let plain = concat-split (through is_end_line (behind_section lines)) (behind_plain lines) (behind_section lines)
    (through-past is_end_line (behind_section lines)) in
    let section = concat-split (prefix is_section_line lines) (behind_section lines) lines
    (prefix-rest is_section_line lines) in
    ap (λ (ys : List ℕ). concat (prefix is_section_line lines) ++ (concat (through is_end_line (behind_section
    lines)) ++ ys)) signed
    ∙ (ap (λ (ys : List ℕ). concat (prefix is_section_line lines) ++ ys) plain ∙ section)

-- a file has one cut
pub unique : (bytes : List ℕ) (p q : Parts) → IsCut bytes p → IsCut bytes q → p ≡ q
unique bytes p q f g =
    let same : f.behind ≡ g.behind = append_cancel_left first_line f.behind g.behind (sym f.begins ∙ g.begins) in
    f.parts_are ∙ (ap (λ (b : List ℕ). parts_of_lines (lines_of b)) same ∙ sym g.parts_are)

-- its parts one behind the other are the file without its first line
pub whole : (bytes : List ℕ) (p : Parts) → IsCut bytes p → bytes ≡ first_line ++ all_parts p
whole bytes p f =
    f.begins
    ∙ ap (λ (ys : List ℕ). first_line ++ ys)
    (sym (concat-lines f.behind) ∙ (sym (parts-whole (lines_of f.behind)) ∙ ap all_parts (sym f.parts_are)))

-- four texts are the parts of lines, where each is the part that it is to be
pub parts-by : (lines : List (List ℕ)) (section plain signed claims : List ℕ)
    → section ≡ concat (prefix is_section_line lines) → plain ≡ concat (through is_end_line (behind_section lines))
    → signed ≡ concat (prefix is_signed_line (behind_plain lines))
    → claims ≡ concat (rest is_signed_line (behind_plain lines))
    → record { section = section; plain = plain; signed = signed; claims = claims } ≡ parts_of_lines lines
parts-by lines section plain signed claims e f g h = rw e (rw f (rw g (rw h refl)))
