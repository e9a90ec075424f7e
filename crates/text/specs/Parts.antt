-- The text of a part of a block, and a name of it. Assumes nothing.
use Rattle.std.specs.Prelude.{List, ℕ}
use Rattle.text.specs.Name.{base, rendered}
use Rattle.text.specs.declared.text.Part.{Part}

-- '"Base" is the text without it', of a part
abbrev pub base_in : Part → List ℕ
base_in p = base p.wide p.bytes.now

-- '"rendered" with it', of a part
abbrev pub rendered_in : Part → ℕ → List ℕ
rendered_in p number = rendered p.wide p.bytes.now number
