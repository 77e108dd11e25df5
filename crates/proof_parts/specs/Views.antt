-- Parts of the code as bytes with positions.
use Rattle.std.specs.Prelude.{◌≡◌, ℕ, ◌+◌, length}
use Rattle.proof_parts.specs.declared.parts.Parts as code
use Rattle.proof_parts.specs.Head.{first_line_len}
use Rattle.proof_parts.specs.Parts.{Parts}

-- the parts, as bytes
abbrev pub parts_of : code.Parts → Parts
parts_of p = record {
  section = p.section.text.now;
  plain = p.plain.text.now;
  signed = p.signed.text.now;
  claims = p.claims.text.now;
}

-- the parts follow one another, from the end of the first line to the end of a file of this length
pub record ArePlaced (size : ℕ) (p : code.Parts) : Type 0 where
  pub section : p.section.at ≡ first_line_len
  pub plain : p.plain.at ≡ p.section.at + length p.section.text.now
  pub signed : p.signed.at ≡ p.plain.at + length p.plain.text.now
  pub claims : p.claims.at ≡ p.signed.at + length p.signed.text.now
  pub all : size ≡ p.claims.at + length p.claims.text.now
