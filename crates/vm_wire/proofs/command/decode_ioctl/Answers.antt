use Rattle.std.proofs.Common.{ap, sym, ◌∙◌}
use Rattle.v4l_const.specs.IoctlCode.{ioctl_of}
use Rattle.vm_wire.proofs.DecidedLemmas.{ioctl_judged}
use Rattle.vm_wire.proofs.command.decode_ioctl.Goals as goal

-- src/command.rt:160:1
pub returns : goal.returns
returns c =
    ioctl_judged c.args.b.now c.args.writable c.in-Some.code c.le32-2.result c.payload_size-size.result c.new.result
    (ap ioctl_of (sym c.le32.ensures) ∙ (sym c.of.ensures.value ∙ c.in-Some.is))
    c.payload_size-size.ensures c.if-b-end.false (sym c.if-is_cut.false ∙ c.is_cut.ensures) c.if-writable-size.false c.le32-2.ensures c.new.ensures
