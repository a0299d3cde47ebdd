-- The laws, from the lemmas on each kind of entry.
use Rattle.std.proofs.Common.{refl}
use Rattle.vm_local.specs.declared.call.Call.TheVariants.{QBuf}
use Rattle.vm_local.specs.Calls.{row_of}
use Rattle.vm_home.specs.Laws.{OpenHasNone, MadeIsHome, QueuedGoesAlong, QueuedStaysAway, GivenComesHome, TouchedIsHome, TouchedComesHome, CallAddsFew, StepTakesOne}
use Rattle.vm_home.specs.Moves.{memory_at}
use Rattle.vm_home.proofs.ToComeLemmas.{call_grows, step_shrinks}
use Rattle.vm_home.proofs.FactLemmas.{facts_of}
use Rattle.vm_home.proofs.MoveLemmas.{opened_home, ualloc_home, sent_out}
use Rattle.vm_home.proofs.DeviceLemmas.{qbuf_sends, along_home, qbuf_home, given_home}
use Rattle.vm_home.proofs.PayloadLemmas.{touches_it, touched_home, payload_done}

pub opens_bare : OpenHasNone
opens_bare s next line nonblock = opened_home s next line nonblock

pub made_home : MadeIsHome
made_home s next line len off pages u mem home = ualloc_home s next line u len off pages mem home

pub queued_goes : QueuedGoesAlong
queued_goes s t i used ts user home reached pass h =
    let w : _ = qbuf_sends s 0 0 t i user used ts reached (pass 0 0) in
    (w.0, w.1.along, along_home s (QBuf t i user used ts) w.0 home w.1 h, sent_out s w.0 home h)

pub queued_away : QueuedStaysAway
queued_away s next line t i used ts user home = qbuf_home s next line t i user used ts home

pub given_back : GivenComesHome
given_back s next t i owed mem out home reached first goes is apart h =
    given_home s next t i (memory_at s t i) mem out home reached (record { rest = owed; owed = first; number = refl }) goes is apart h

pub touched_out : TouchedIsHome
touched_out s call home touches pass h = touched_home s call home (touches_it s 0 0 call touches (pass 0 0)) h

pub touched_back : TouchedComesHome
touched_back s line call before after reply home reached touches pass is done h =
    let w : _ = payload_done s 0 0 call before after reply reached touches (pass 0 0) is done in
    ((row_of s 0 0 call).next, w.1.leads line, w.1.home home h)

pub call_few : CallAddsFew
call_few s t line call reply = call_grows s t line call reply

pub step_one : StepTakesOne
step_one s t e reached step = step_shrinks s t e (facts_of s reached).sound.long step
