-- `reader::own_fine` meets its contract. Assumes nothing.
use Rattle.reader.specs.CodeLaws.{opcodes_then, opcodes_else, own_more, own_not}
use Rattle.std.proofs.Common.{◌∙◌}
use Rattle.reader.proofs.own_fine.Goals as goal
use Rattle.reader.proofs.own_fine.Goals.{then-opcodes_fine, else-opcodes_fine}

pub returns-then-last_fine : goal.returns-then-last_fine
returns-then-last_fine c =
    let p = c.args.program.now in
    own_more c.requires.1 p.constants.now p.inner.now c.counts_fine.ensures c.if-not-counts_fine.false
    (elim c.if-opcodes_fine.branch [ then-opcodes_fine w ↦ opcodes_then c.requires.1 p.constants.now p.inner.now c.counts_fine.ensures c.if-not-counts_fine.false c.opcodes_fine.ensures w.if-opcodes_fine.true w.opcode.ensures (w.value-is ∙ w.last_fine.ensures) | else-opcodes_fine w ↦ opcodes_else c.requires.1 p.constants.now p.inner.now c.counts_fine.ensures c.if-not-counts_fine.false c.opcodes_fine.ensures w.if-opcodes_fine.false w.value-is ])
    c.if-last_fine.true c.globals_fine.ensures

pub returns-else-last_fine : goal.returns-else-last_fine
returns-else-last_fine c =
    let p = c.args.program.now in
    own_not c.requires.1 p.constants.now p.inner.now c.counts_fine.ensures c.if-not-counts_fine.false
    (elim c.if-opcodes_fine.branch [ then-opcodes_fine w ↦ opcodes_then c.requires.1 p.constants.now p.inner.now c.counts_fine.ensures c.if-not-counts_fine.false c.opcodes_fine.ensures w.if-opcodes_fine.true w.opcode.ensures (w.value-is ∙ w.last_fine.ensures) | else-opcodes_fine w ↦ opcodes_else c.requires.1 p.constants.now p.inner.now c.counts_fine.ensures c.if-not-counts_fine.false c.opcodes_fine.ensures w.if-opcodes_fine.false w.value-is ])
    c.if-last_fine.false
