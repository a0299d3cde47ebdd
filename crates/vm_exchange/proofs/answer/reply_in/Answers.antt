use Rattle.std.proofs.Common.{ap, ◌∙◌}
use Rattle.std.specs.Option.{unwrap_or}
use Rattle.v4l_const.specs.declared.errno.Errno.TheVariants.{Eio}
use Rattle.vm_local.specs.declared.reply.Reply.TheVariants.{Refused}
use Rattle.vm_exchange.proofs.answer.reply_in.Goals as goal

pub returns : goal.returns
returns c = λ line reply crosses may.
    c.unwrap_or.ensures ∙ ap (λ o. unwrap_or o (Refused Eio)) (c.told.ensures line reply crosses may)
