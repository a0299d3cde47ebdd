use Rattle.std.proofs.Common.{inl, inr}
use Rattle.vm_exchange.proofs.AnswerLemmas.{read_as}
use Rattle.vm_exchange.proofs.answer.read_in.Goals as goal

pub returns-in-QueryCap : goal.returns-in-QueryCap
returns-in-QueryCap c = λ line reply crosses may.
    read_as c.args.kept.now.local line c.args.call.now _ reply c.args.bytes.now _ c.in-QueryCap.is crosses c.requires.words c.requires.record.range may c.caps_in.ensures

pub returns-in-EnumFmt : goal.returns-in-EnumFmt
returns-in-EnumFmt c = λ line reply crosses may.
    read_as c.args.kept.now.local line c.args.call.now _ reply c.args.bytes.now _ c.in-EnumFmt.is crosses c.requires.words c.requires.record.range may c.code_in.ensures

pub returns-in-GFmt : goal.returns-in-GFmt
returns-in-GFmt c = λ line reply crosses may.
    elim c.in-GFmt.is [
      | inl is ↦ read_as c.args.kept.now.local line c.args.call.now _ reply c.args.bytes.now _ is.1 crosses c.requires.words c.requires.record.range may c.format_in.ensures
      | inr other ↦ elim other [
        | inl is ↦ read_as c.args.kept.now.local line c.args.call.now _ reply c.args.bytes.now _ is.4 crosses c.requires.words c.requires.record.range may c.format_in.ensures
        | inr is ↦ read_as c.args.kept.now.local line c.args.call.now _ reply c.args.bytes.now _ is.4 crosses c.requires.words c.requires.record.range may c.format_in.ensures
      ]
    ]

pub returns-in-EnumInput : goal.returns-in-EnumInput
returns-in-EnumInput c = λ line reply crosses may.
    read_as c.args.kept.now.local line c.args.call.now _ reply c.args.bytes.now _ c.in-EnumInput.is crosses c.requires.words c.requires.record.range may c.name_in.ensures

pub returns-in-GInput : goal.returns-in-GInput
returns-in-GInput c = λ line reply crosses may.
    elim c.in-GInput.is [
      | inl is ↦ read_as c.args.kept.now.local line c.args.call.now _ reply c.args.bytes.now _ is crosses c.requires.words c.requires.record.range may c.input_in.ensures
      | inr is ↦ read_as c.args.kept.now.local line c.args.call.now _ reply c.args.bytes.now _ is.1 crosses c.requires.words c.requires.record.range may c.input_in.ensures
    ]

pub returns-in-ReqBufs : goal.returns-in-ReqBufs
returns-in-ReqBufs c = λ line reply crosses may.
    read_as c.args.kept.now.local line c.args.call.now _ reply c.args.bytes.now _ c.in-ReqBufs.is crosses c.requires.words c.requires.record.range may c.count_in.ensures

pub returns-in-QueryBuf : goal.returns-in-QueryBuf
returns-in-QueryBuf c = λ line reply crosses may.
    read_as c.args.kept.now.local line c.args.call.now _ reply c.args.bytes.now _ c.in-QueryBuf.is crosses c.requires.words c.requires.record.range may c.buffer_in.ensures
