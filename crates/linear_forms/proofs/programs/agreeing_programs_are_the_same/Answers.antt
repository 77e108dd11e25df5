use Rattle.linear_forms.proofs.ProgramLaws.{agree-symmetric, agree-solutions, agree-least, agree-duals}
use Rattle.linear_forms.proofs.programs.agreeing_programs_are_the_same.Goals as goal

pub returns : goal.returns
returns c = record { symmetric = agree-symmetric; solutions = agree-solutions; least = agree-least; duals = agree-duals }
