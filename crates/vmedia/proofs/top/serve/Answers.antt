-- What is done of judged words is done of the words.
use Rattle.std.proofs.Common.{◌∙◌, ap, map}
use Rattle.std.specs.String.{string_bytes}
use Rattle.vm_words.specs.Command.{reads_script}
use Rattle.vmedia.proofs.top.serve.Goals as goal

pub serve_judged-requires : goal.serve_judged-requires
serve_judged-requires g c = c.in-Ok.ensures.served

pub returns-in-Ok-clause-ends : goal.returns-in-Ok-clause-ends
returns-in-Ok-clause-ends g c = c.serve_judged.ensures.ends (map string_bytes c.args.words.now) c.in-Ok.ensures.command

pub returns-in-Ok-clause-untouched : goal.returns-in-Ok-clause-untouched
returns-in-Ok-clause-untouched g c = λ none. c.serve_judged.ensures.untouched (ap reads_script c.in-Ok.ensures.command ∙ none)
