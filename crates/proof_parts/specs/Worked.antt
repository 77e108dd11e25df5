-- Files of which the cut was worked out by hand.
use Rattle.std.specs.Prelude.{◌≡◌, ℕ, List, [], ◌∷◌, codes, true, false}
use Rattle.proof_parts.specs.Lines.{lines_of, begins_with_word}
use Rattle.proof_parts.specs.Head.{agreeing, first_line, begins_third_form}
use Rattle.proof_parts.specs.Parts.{Parts, parts_of_lines}

-- the parts of a text behind the first line
abbrev pub cut_of : List ℕ → Parts
cut_of bytes = parts_of_lines (lines_of bytes)

pub record CutsAreWorkedOut : Type 0 where
  -- lines, of which the last may lack its line feed
  pub lines : lines_of (codes "a\n\nb") ≡ codes "a\n" ∷ codes "\n" ∷ codes "b" ∷ []
  -- a word is the longest run of bytes of a name
  pub word : begins_with_word (codes "copy") (codes "copy a") ≡ true
  pub longer : begins_with_word (codes "copy") (codes "copy.1 a") ≡ false
  pub shorter : begins_with_word (codes "copy") (codes "cop") ≡ false
  pub later : begins_with_word (codes "copy") (codes " copy") ≡ false
  -- a file with all parts, and one with none but the plain part
  pub all : cut_of (codes "copy a\nfrom a\nkoat-proof 1\nlemma\nend\nsigned s\nclaim c\n") ≡ record {
    section = codes "copy a\nfrom a\n";
    plain = codes "koat-proof 1\nlemma\nend\n";
    signed = codes "signed s\n";
    claims = codes "claim c\n";
  }
  pub plain_alone : cut_of (codes "koat-proof 2\nend\n") ≡ record {
    section = [];
    plain = codes "koat-proof 2\nend\n";
    signed = [];
    claims = [];
  }
  -- lines of a section behind the plain part are no section, and a second `end` ends nothing
  pub late : cut_of (codes "end\ncopy a\nend\n") ≡ record {
    section = [];
    plain = codes "end\n";
    signed = [];
    claims = codes "copy a\nend\n";
  }
  -- without an `end` all is in the plain part; a signed lemma behind a claim stays with the claims
  pub endless : cut_of (codes "from a\nlemma\nsigned s\n") ≡ record {
    section = codes "from a\n";
    plain = codes "lemma\nsigned s\n";
    signed = [];
    claims = [];
  }
  pub mixed : cut_of (codes "end\nclaim c\nsigned s\n") ≡ record {
    section = [];
    plain = codes "end\n";
    signed = [];
    claims = codes "claim c\nsigned s\n";
  }
  -- the first line, up to the first byte that differs
  pub first : agreeing (codes "koat-proof 3\nend\n") first_line ≡ 13
  pub blank : agreeing (codes "koat-proof 3 \n") first_line ≡ 12
  pub short : agreeing (codes "koat") first_line ≡ 4
  pub other : agreeing (codes "koat-proof 2\n") first_line ≡ 11
  -- the number of the form decides which form it is
  pub third : begins_third_form (codes "koat-proof 3") ≡ true
  pub spoiled : begins_third_form (codes "koat-proof 3x") ≡ true
  pub thirty : begins_third_form (codes "koat-proof 30\n") ≡ false
  pub second : begins_third_form (codes "koat-proof 2\n") ≡ false
