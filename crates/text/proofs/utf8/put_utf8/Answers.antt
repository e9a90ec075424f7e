-- `text::utf8::put_utf8` meets its contract: each case stores the bytes that its law names. Assumes nothing.
use mathlib.Core.Path.{ap}
use native.Mathlib.Omega.{arith}
use lib.ListN.{length, length-set}
use Rattle.base.specs.OutputLaws.{wrote_stores}
use Rattle.text.specs.Utf8Laws.{utf8_1, utf8_2, utf8_3, utf8_4}
use Rattle.text.proofs.utf8.put_utf8.Goals as goal

pub bounds-out-0 : goal.bounds-out-0
bounds-out-0 c = omega (arith, ap length (utf8_1 c.if-c-lt128.true))

pub returns-then-c-lt128 : goal.returns-then-c-lt128
returns-then-c-lt128 c = wrote_stores (utf8_1 c.if-c-lt128.true) c.requires.1

pub bounds-out-0-then-c-lt2048 : goal.bounds-out-0-then-c-lt2048
bounds-out-0-then-c-lt2048 c = omega (arith, ap length (utf8_2 c.if-c-lt128.false c.if-c-lt2048.true))

pub bounds-out-1 : goal.bounds-out-1
bounds-out-1 c = simp length-set (omega (arith, ap length (utf8_2 c.if-c-lt128.false c.if-c-lt2048.true)))

pub returns-then-c-lt2048 : goal.returns-then-c-lt2048
returns-then-c-lt2048 c = wrote_stores (utf8_2 c.if-c-lt128.false c.if-c-lt2048.true) c.requires.1

pub bounds-out-0-then-c-lt65536 : goal.bounds-out-0-then-c-lt65536
bounds-out-0-then-c-lt65536 c = omega (arith, ap length (utf8_3 c.if-c-lt2048.false c.if-c-lt65536.true))

pub bounds-out-1-then-c-lt65536 : goal.bounds-out-1-then-c-lt65536
bounds-out-1-then-c-lt65536 c = simp length-set (omega (arith, ap length (utf8_3 c.if-c-lt2048.false c.if-c-lt65536.true)))

pub bounds-out-2 : goal.bounds-out-2
bounds-out-2 c = simp length-set (omega (arith, ap length (utf8_3 c.if-c-lt2048.false c.if-c-lt65536.true)))

pub returns-then-c-lt65536 : goal.returns-then-c-lt65536
returns-then-c-lt65536 c = wrote_stores (utf8_3 c.if-c-lt2048.false c.if-c-lt65536.true) c.requires.1

pub bounds-out-0-2 : goal.bounds-out-0-2
bounds-out-0-2 c = omega (arith, ap length (utf8_4 c.if-c-lt65536.false))

pub bounds-out-1-2 : goal.bounds-out-1-2
bounds-out-1-2 c = simp length-set (omega (arith, ap length (utf8_4 c.if-c-lt65536.false)))

pub bounds-out-2-2 : goal.bounds-out-2-2
bounds-out-2-2 c = simp length-set (omega (arith, ap length (utf8_4 c.if-c-lt65536.false)))

pub bounds-out-3 : goal.bounds-out-3
bounds-out-3 c = simp length-set (omega (arith, ap length (utf8_4 c.if-c-lt65536.false)))

pub returns : goal.returns
returns c = wrote_stores (utf8_4 c.if-c-lt65536.false) c.requires.1
