-- The binary form has one way to write what it can.
--     Spells k src bs         the file bs is read as the stream src, and no other file is
use Rattle.std.specs.Prelude.{◌≡◌, ℕ, List}
use Rattle.files.specs.Reading.{file_stream}
use Rattle.groups.specs.Groups.{Bytes}
use Rattle.rewriting.specs.Streams.{Stream}
use Rattle.rows.specs.Kinds.{Kind}
use Rattle.binary.specs.Binary.{binary_read}

unfoldable pub Spells : Kind → Stream → List ℕ → Type 0
Spells k src bs = (file_stream binary_read k bs ≡ src) × ((cs : List ℕ) → Bytes cs → file_stream binary_read k cs ≡ src → cs ≡ bs)
