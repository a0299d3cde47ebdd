use Rattle.std.proofs.Common.{◌≡◌, Some, None, get_or, rules, refl}
use Rattle.std.proofs.lemmas.Result.{err_from_is_err_and}
use Rattle.vm_device.proofs.CallLemmas.{not_come, has_come, quiet_where, put_back, on_ok, on_err, one_changed}
use Rattle.vm_device.proofs.calls.call.Goals as goal

pub ioctl-requires-clause-quiet : goal.ioctl-requires-clause-quiet
ioctl-requires-clause-quiet c =
    let there : get_or c.args.sessions.now c.args.session None ≡ Some c.in_ok-session.session.now = search rules in
    quiet_where _ c.in_ok-session.session.now c.args.code c.args.payload.now there c.requires.waits

pub returns-clause-called : goal.returns-clause-called
returns-clause-called c = λ d same.
    let there : get_or c.args.sessions.now c.args.session None ≡ Some c.in_ok-session.session.now = search rules in
    has_come d c.args.sessions.now c.args.session c.in_ok-session.session.now c.args.code c.args.payload.now c.args.behind.now c.args.held.now.items same there
    c.come.new.held.items c.ioctl.new.held.items c.ioctl.new.payload c.ioctl.new.self c.ioctl.result c.in_ok-come.ensures.ok
    c.ioctl.ensures.ok c.ioctl.ensures.err c.ioctl.ensures.session_kept c.ioctl.ensures.payload_kept c.ioctl.ensures.held c.ioctl.ensures.held_kept

pub returns-in_err-come-clause-called : goal.returns-in_err-come-clause-called
returns-in_err-come-clause-called c = λ d same.
    let there : get_or c.args.sessions.now c.args.session None ≡ Some c.in_ok-session.session.now = search rules in
    let exit = err_from_is_err_and c.from_residual-in_err-come.result c.from_residual-in_err-come.ensures.1 in
    rw (exit.1, exit.2)
    (not_come d c.args.sessions.now c.args.session c.in_ok-session.session.now c.args.code c.args.payload.now c.args.behind.now c.args.held.now.items same there
    c.come.new.held.items _ c.in_err-come.ensures.err c.in_err-come.ensures.kept)

pub returns-in_err-come-clause-kept : goal.returns-in_err-come-clause-kept
returns-in_err-come-clause-kept c =
    let there : get_or c.args.sessions.now c.args.session None ≡ Some c.in_ok-session.session.now = search rules in
    let exit = err_from_is_err_and c.from_residual-in_err-come.result c.from_residual-in_err-come.ensures.1 in
    rw exit.1 (put_back c.args.sessions.now c.args.session c.in_ok-session.session.now c.in_ok-session.session.now there refl)

pub returns-clause-one : goal.returns-clause-one
returns-clause-one c =
    let there : get_or c.args.sessions.now c.args.session None ≡ Some c.in_ok-session.session.now = search rules in
    on_ok c.ioctl.result (one_changed c.args.sessions.now c.args.session c.in_ok-session.session.now c.ioctl.new.self there)

pub returns-clause-kept : goal.returns-clause-kept
returns-clause-kept c =
    let there : get_or c.args.sessions.now c.args.session None ≡ Some c.in_ok-session.session.now = search rules in
    on_err c.ioctl.result c.ioctl.ensures.session_kept (λ same. put_back c.args.sessions.now c.args.session c.in_ok-session.session.now c.ioctl.new.self there same)
