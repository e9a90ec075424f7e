-- `plain::base_len` meets its contract: what is ASCII takes as many bytes as it has. Assumes nothing.
use native.Mathlib.Omega.{arith}
use Rattle.text.specs.PlainLaws.{plain-length}
use Rattle.text.proofs.plain.base_len.Goals as goal

pub returns-then-is_plain : goal.returns-then-is_plain
returns-then-is_plain c = (search plain-length, omega arith)
