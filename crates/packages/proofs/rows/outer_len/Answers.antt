-- `packages::rows::outer_len` meets its contract. Assumes nothing.
use Rattle.packages.proofs.rows.outer_len.Goals as goal

pub map_or-requires : goal.map_or-requires
map_or-requires c = λ x q _ _ _ _ _ _. c.requires.outer x q
