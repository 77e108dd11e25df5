use Rattle.signed_bounds.proofs.WorkedValues.{squares, products, constant_parts, sums, quotients, shapes, limits}
use Rattle.signed_bounds.proofs.worked.comparisons_are_as_worked_out.Goals as goal

pub returns-clause-squares : goal.returns-clause-squares
returns-clause-squares c = squares

pub returns-clause-products : goal.returns-clause-products
returns-clause-products c = products

pub returns-clause-sums : goal.returns-clause-sums
returns-clause-sums c = sums

pub returns-clause-quotients : goal.returns-clause-quotients
returns-clause-quotients c = quotients

pub returns-clause-shapes : goal.returns-clause-shapes
returns-clause-shapes c = shapes

pub returns-clause-constant_parts : goal.returns-clause-constant_parts
returns-clause-constant_parts c = constant_parts

pub returns-clause-limits : goal.returns-clause-limits
returns-clause-limits c = limits
