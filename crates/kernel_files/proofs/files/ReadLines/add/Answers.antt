use Rattle.kernel_files.proofs.FileLaws.{added, wrong_in}
use Rattle.kernel_files.proofs.files.ReadLines.add.Goals as goal

pub returns-in_ok-wrong-in-Insn-clause-lines : goal.returns-in_ok-wrong-in-Insn-clause-lines
returns-in_ok-wrong-in-Insn-clause-lines g c =
    added c.args.declarations.now c.args.ids.now.ids c.args.self.now c.add_insn.new.self c.read.new.self c.args.entry.now c.in-Insn.declared c.in-Insn.name c.in-Insn.place c.as_slice.result.now c.in-Insn.stored c.in-Insn.value c.as_slice-in-Insn.result.now c.in-Insn.options c.as_slice-in-Insn-2.result.now
    c.in-Insn.is c.as_slice.ensures c.as_slice-in-Insn.ensures c.as_slice-in-Insn-2.ensures c.in_ok-faults.ensures.parts c.in_ok-wrong-in-Insn.ensures.lines

pub returns-in_ok-wrong-in-Insn-clause-faults : goal.returns-in_ok-wrong-in-Insn-clause-faults
returns-in_ok-wrong-in-Insn-clause-faults g c =
    wrong_in c.args.declarations.now c.args.ids.now.ids c.args.ids.now.taken c.args.self.now c.args.entry.now.item c.in-Insn.declared c.in-Insn.name c.in-Insn.place c.as_slice.result.now c.in-Insn.stored c.in-Insn.value c.as_slice-in-Insn.result.now c.in-Insn.options c.as_slice-in-Insn-2.result.now
    c.in_ok-faults.faults c.in_ok-wrong-in-Insn.wrong c.or.result c.in-Insn.is c.as_slice.ensures c.as_slice-in-Insn.ensures c.as_slice-in-Insn-2.ensures c.in_ok-faults.ensures.faults c.in_ok-wrong-in-Insn.ensures.faults c.or.ensures
