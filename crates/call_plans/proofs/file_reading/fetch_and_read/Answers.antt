use Rattle.std.proofs.Common.{string_bytes}
use Rattle.call_plans.specs.Calls.{shelf_use_of}
use Rattle.call_plans.proofs.Fetched.{got_of}
use Rattle.call_plans.proofs.file_reading.fetch_and_read.Goals as goal

pub returns-in-Ok-clause-gives : goal.returns-in-Ok-clause-gives
returns-in-Ok-clause-gives g c =
    got_of (g.R.Reader.kind c.args.reader.now) (λ meaning. g.R.Reader.plain meaning)
    (shelf_use_of g.F.Shelf c.args.shelf.now c.fetch.new.self) c.as_str.result.now (string_bytes c.args.file.now)
    c.limit.result c.in-Ok.bytes.items c.deref.result.now c.read_text.result c.as_str.ensures.value c.limit.ensures
    c.deref.ensures.value c.in-Ok.ensures.ok c.in-Ok.ensures.takes c.in-Ok.ensures.within c.read_text.ensures
