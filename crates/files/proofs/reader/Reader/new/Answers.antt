use Rattle.files.proofs.Courses.{file_told, file_sound}
use Rattle.files.proofs.reader.Reader.new.Goals as goal

pub returns-clause-told : goal.returns-clause-told
returns-clause-told g c = file_told g.F.Form.read g.P.Payload.kind c.args.bytes.now

pub returns-clause-sound : goal.returns-clause-sound
returns-clause-sound g c = file_sound g.F.Form.read g.P.Payload.kind c.args.bytes.now
