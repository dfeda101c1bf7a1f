-- `reader::opcode_fine` meets its contract. Assumes nothing.
use Rattle.image.proofs.Parts.{length_tab}
use Rattle.reader.specs.RulesLaws.{operand_is}
use Rattle.reader.proofs.opcode_fine.Goals as goal

pub returns-in-Global : goal.returns-in-Global
returns-in-Global c = operand_is c.args.n c.args.o c.operand_kind.ensures c.in-Global.is (simp length_tab)

pub returns-in-Upvalue : goal.returns-in-Upvalue
returns-in-Upvalue c = operand_is c.args.n c.args.o c.operand_kind.ensures c.in-Upvalue.is (simp length_tab)

pub returns-in-Const : goal.returns-in-Const
returns-in-Const c = operand_is c.args.n c.args.o c.operand_kind.ensures c.in-Const.is (simp length_tab)

pub returns-in-Target : goal.returns-in-Target
returns-in-Target c = operand_is c.args.n c.args.o c.operand_kind.ensures c.in-Target.is (simp length_tab)
