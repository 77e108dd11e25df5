-- Files of the code as plain data.
use Rattle.std.specs.Prelude.{Option, map, option_map}
use Rattle.refined_programs.specs.Annotated as annotated
use Rattle.refined_programs.specs.Views.{annotated_of}
use Rattle.refined_programs.specs.declared.section.Section.{Section}
use Rattle.cert_types.specs.AnswerViews as plain_files
use Rattle.potential_types.specs.Views.{lemma_of}
use Rattle.claim_types.specs.Views.{claims_of}
use Rattle.refined_files.specs.Files as files
use Rattle.refined_types.specs.declared.file.RefinedFile.{RefinedFile}

-- a section, where there is one, as plain data
abbrev pub section_view : Option Section → Option annotated.Section
section_view o = option_map annotated_of o

-- a file as plain data
abbrev pub file_view : RefinedFile → files.RefinedFile
file_view f = record {
  section = section_view f.section;
  plain = plain_files.file_of f.plain;
  signed = map lemma_of f.signed.items;
  claims = claims_of f.claims.items;
}
