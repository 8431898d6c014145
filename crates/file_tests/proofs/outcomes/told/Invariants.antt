use Rattle.std.proofs.Common.{length, drop}
use Rattle.files.specs.Readers.{reader_stream}
use Rattle.file_tests.proofs.outcomes.told.Given as goal

-- the events that are left
abbrev pub decreases-loop-next : goal.decreases-loop-next
decreases-loop-next g l =
    length (reader_stream g.F.Form.read g.P.Payload.kind l.reader.state l.reader.number (drop l.reader.place l.reader.bytes.now)).entries
