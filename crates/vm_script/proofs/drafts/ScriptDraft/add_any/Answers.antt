use Rattle.std.proofs.Common.{sym}
use Rattle.vm_script.proofs.drafts.ScriptDraft.add_any.Goals as goal

pub returns-then-begins : goal.returns-then-begins
returns-then-begins c = rw (sym c.if-begins.ensures) c.add_device.ensures

pub returns-then-begins-2 : goal.returns-then-begins-2
returns-then-begins-2 c = rw (sym c.if-begins.ensures, sym c.if-begins-2.ensures) c.add_process.ensures

pub returns-else-begins-2 : goal.returns-else-begins-2
returns-else-begins-2 c = rw (sym c.if-begins.ensures, sym c.if-begins-2.ensures) c.add_own.ensures
