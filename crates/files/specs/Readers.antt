-- What a reader has left.
--     reader_stream read k s n bs     the stream of a reader in the state s, before the event number n, with the bytes bs left
use Rattle.std.specs.Prelude.{ℕ, List, Ok, Err}
use Rattle.rows.specs.Kinds.{Kind}
use Rattle.rewriting.specs.Streams.{Stream}
use Rattle.files.specs.declared.reader.State.{State}
use Rattle.files.specs.declared.reader.State.TheVariants.{Reading, Ended, Failed}
use Rattle.files.specs.Reading.{Reads, one, Course, ends, course, stream_of}

abbrev pub reader_course : Reads → Kind → State → ℕ → List ℕ → Course
reader_course read k Reading n bs = course (one read k) n bs
reader_course read k Ended n bs = ends (Ok tt)
reader_course read k (Failed f) n bs = ends (Err f)

abbrev pub reader_stream : Reads → Kind → State → ℕ → List ℕ → Stream
reader_stream read k s n bs = stream_of (reader_course read k s n bs)
