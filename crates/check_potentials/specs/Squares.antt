-- Squares and lines of the code as plain data.
use Rattle.potential_ground.specs.SquareRows as plain
use Rattle.check_potentials.specs.declared.squares.Square.{Square}
use Rattle.check_potentials.specs.declared.squares.Line.{Line}

-- a number times the square of a variable
abbrev pub square_view : Square → plain.Square
square_view s = record { coef = s.coef; variable = s.variable }

-- a slope and an offset
abbrev pub line_view : Line → plain.Line
line_view l = record { slope = l.slope; offset = l.offset }
