-- The code's state of reading as plain data.
use Rattle.std.specs.Prelude.{map}
use Rattle.refined_programs.specs.Ends.{lists_of}
use Rattle.refined_programs.specs.Views.{annotated_branch, annotated_cases, annotated_copy, affine_form}
use Rattle.section_text.specs.declared.draft.OpenTest as test
use Rattle.section_text.specs.declared.draft.OpenTest.TheVariants as tests
use Rattle.section_text.specs.declared.draft.Draft as draft
use Rattle.section_text.specs.declared.text.SectionReading.{SectionReading}
use Rattle.section_text.specs.Drafts.{OpenTest, InYes, InNo, Draft}
use Rattle.section_text.specs.Reading.{Progress}
use Rattle.section_text.specs.CopyNames.{names_in}

-- a test whose cases are being read, as plain data
abbrev pub open_of : test.OpenTest → OpenTest
open_of (tests.InYes form) = InYes (affine_form form)
open_of (tests.InNo form yes_cases) = InNo (affine_form form) (annotated_cases yes_cases)

-- the state of reading as plain data
abbrev pub draft_of : draft.Draft → Draft
draft_of d = record {
  role = d.role;
  negative = d.negative;
  coefs = d.coefs.items;
  constant = d.constant;
  numbers = d.numbers.items;
  lists = lists_of d.lists.items;
  name = d.name.items;
  over = d.over;
  facts = map affine_form d.facts.items;
  names = names_in d.names;
  copies = map annotated_copy d.copies.items;
  source = d.source;
  rule = d.rule;
  target = d.target;
  tests = map open_of d.tests.items;
  cases = annotated_cases d.cases;
  branches = map annotated_branch d.branches.items;
}

-- the progress of reading as plain data
abbrev pub progress_of : SectionReading → Progress
progress_of s = record { draft = draft_of s.draft; broken = s.broken }
