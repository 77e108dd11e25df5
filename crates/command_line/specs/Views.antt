-- The code's types as plain data.
use Rattle.std.specs.Prelude.{string_bytes}
use Rattle.command_line.specs.declared.request.Request.{Request}
use Rattle.command_line.specs.declared.request.Request.TheVariants.{OfProgram, OfPair, OfNumber, OfFile, While}
use Rattle.command_line.specs.Requests as requests

-- a request as plain data
abbrev pub request_of : Request → requests.Request
request_of (OfProgram task pivots file) = requests.OfProgram task pivots (string_bytes file)
request_of (OfPair task file second) = requests.OfPair task (string_bytes file) (string_bytes second)
request_of (OfNumber task n) = requests.OfNumber task n
request_of (OfFile task file) = requests.OfFile task (string_bytes file)
request_of (While pivots file) = requests.While pivots (string_bytes file)
