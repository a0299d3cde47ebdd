-- What can be done is the same of the device at its end of the link and of the device's part.
use Rattle.std.proofs.Common.{◌≡◌, ℕ, ◌==◌, ◌&&◌, ◌||◌, not, List, [], ◌∷◌, map, refl, ap}
use Rattle.std.specs.List.{filter, list_any}
use Rattle.std.proofs.lemmas.List.Elements.{filter_agree}
use Rattle.vm_device.specs.Device.{session_of, is_ready, is_at_rest, ready_ids as ready_in}
use Rattle.vm_host.specs.Host.{HostState, is_waited_in, waits as waits_at, can_begin as can_begin_at, can_resume as can_resume_at, ready_ids as ready_ids_at, resumable_ids as resumable_ids_at}
use Rattle.vm_host.specs.Part.{Call, call_of, part_of, waits, can_begin, can_resume, ready_ids, resumable_ids}
use Rattle.vm_host.specs.declared.waiting.Waiting.{Waiting}

any_called : (session : ℕ) (calls : List Waiting) → list_any (λ (c : Call). c.session == session) (map call_of calls) ≡ is_waited_in calls session
any_called session [] = refl
any_called session (w ∷ ws) = ap (λ b. (w.session == session) || b) (any_called session ws)

sessions_called : (calls : List Waiting) → map (λ (c : Call). c.session) (map call_of calls) ≡ map (λ (w : Waiting). w.session) calls
sessions_called [] = refl
sessions_called (w ∷ ws) = ap (λ (ns : List ℕ). w.session ∷ ns) (sessions_called ws)

pub part_waits : (h : HostState) (session : ℕ) → waits (part_of h) session ≡ waits_at h session
part_waits h session = any_called session h.waiting

pub part_begins : (h : HostState) (session : ℕ) → can_begin (part_of h) session ≡ can_begin_at h session
part_begins h session = ap (λ b. not b && is_ready (session_of h.device session)) (part_waits h session)

pub part_resumes : (h : HostState) (session : ℕ) → can_resume (part_of h) session ≡ can_resume_at h session
part_resumes h session = ap (λ b. b && is_at_rest (session_of h.device session)) (part_waits h session)

pub part_ready : (h : HostState) → ready_ids (part_of h) ≡ ready_ids_at h
part_ready h =
    filter_agree (λ session. not (waits (part_of h) session)) (λ session. not (waits_at h session)) (λ session. ap not (part_waits h session)) (ready_in h.device)

pub part_resumable : (h : HostState) → resumable_ids (part_of h) ≡ resumable_ids_at h
part_resumable h = ap (λ (ns : List ℕ). filter (λ session. is_at_rest (session_of h.device session)) ns) (sessions_called h.waiting)
