-- The calls that wait for sessions that are quiet.
use Rattle.std.proofs.Common.{ℕ, List, map}
use Rattle.std.specs.List.{filter}
use Rattle.vm_device.specs.Device.{DeviceState, session_of, is_at_rest}
use Rattle.vm_host.specs.declared.waiting.Waiting.{Waiting}

-- the sessions of these calls that are quiet
abbrev pub quiet_among : DeviceState → List Waiting → List ℕ
quiet_among d calls = filter (λ session. is_at_rest (session_of d session)) (map (λ w. w.session) calls)
