-- Characters that lowering A to Z lowers right, the most of those there are: what the code tests before anything else. Assumes nothing.
use Rattle.std.specs.Prelude.{Bool, ◌&&◌, ◌||◌, ℕ, leb, ltb}

-- ASCII, and three great ranges without capitals: Hebrew to Myanmar, the ideographs with what is about them, Hangul with what is about it
unfoldable pub caseless : ℕ → Bool
caseless u = ltb u 0x80 || (leb 0x590 u && ltb u 0x10A0) || (leb 0x2CF3 u && ltb u 0xA640) || (leb 0xA7F6 u && ltb u 0xD800)
