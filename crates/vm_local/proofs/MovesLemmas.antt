-- A record moves as the states do that it is the record of.
use Rattle.std.proofs.Common.{◌≡◌, ℕ, true, false, List, [], ◌∷◌, length, get_or, set, map, max, drop, Some, None, is_some, slice_get, refl, sym, ap, ◌∙◌, arith, true≢false}
use Rattle.std.proofs.lemmas.Option.{none-some}
use Rattle.std.proofs.Math.Nat.{sub-add-eq-max}
use Rattle.std.proofs.lemmas.List.{map-set}
use Rattle.v4l_format.specs.Fmt.{picture_size}
use Rattle.v4l_rules.specs.Refusals.{first_refusal}
use Rattle.vm_local.specs.declared.call.Call.{Call}
use Rattle.vm_local.specs.declared.owed.Owed.{Owed as OwedEntry}
use Rattle.vm_local.specs.declared.reply.Reply.{Reply}
use Rattle.vm_local.specs.declared.reply.Reply.TheVariants.{Refused}
use Rattle.vm_local.specs.State.{LocalState}
use Rattle.vm_local.specs.Same.{address_in}
use Rattle.vm_local.specs.Memory.{bytes_of}
use Rattle.vm_local.specs.Queue.{can_finish}
use Rattle.vm_local.specs.Calls.{row_of}
use Rattle.vm_local.specs.Steps.{target, head_buffer, number_of, item_given, finished, marked_bad, given}
use Rattle.vm_local.specs.Log.{row_for, called}
use Rattle.vm_local.specs.Record.{unwritten, zeros, without_bytes, is_refusal, with_call}
use Rattle.vm_local.proofs.KeptLemmas.{some_same, refused_call}
use Rattle.vm_local.proofs.StepLemmas.{Went, done_by, frame_made, frame_failed, finished_by, failed_by, given_by, Gave}
use Rattle.vm_local.proofs.WithoutBytesLemmas.{same_refusals, same_waits, same_call, same_frame, same_failed, same_item, fronted, fronted_long, zeros_of_zeros}
use Rattle.vm_local.proofs.RecordLemmas.{unwritten_long}
use Rattle.vm_local.proofs.OrderlyLemmas.{taken_for}

-- ---- calls

went_by : (s t : LocalState) (line : ℕ) (call : Call) (reply : Reply) → is_refusal reply ≡ false → called s line call reply ≡ Some t →
    Went (first_refusal (row_for s line call reply).refusals) (row_for s line call reply) reply t
unfolding called
went_by s t line call reply done leads =
    done_by (first_refusal (row_for s line call reply).refusals) (row_for s line call reply) s reply t done leads

-- a refused call
pub stays_refused : (r s t : LocalState) (line : ℕ) (call : Call) (reply : Reply) → r ≡ without_bytes s → called s line call reply ≡ Some t →
    is_refusal reply ≡ true → r ≡ without_bytes t
stays_refused r s t line call (Refused e) shown leads is = shown ∙ ap (λ (x : LocalState). without_bytes x) (sym (refused_call s line call e t leads))
stays_refused r s t line call reply shown leads is = absurd (true≢false (sym is))

-- a call that is done, and that a refusal stops or that waits: there is none
pub none_stopped : (r s t : LocalState) (line : ℕ) (call : Call) (reply : Reply) → r ≡ without_bytes s → called s line call reply ≡ Some t →
    is_refusal reply ≡ false → is_some (first_refusal (row_of r line (address_in reply) call).refusals) ≡ true → r ≡ without_bytes t
none_stopped r s t line call reply shown leads done stopped =
    let none : first_refusal (row_of r line (address_in reply) call).refusals ≡ None =
    ap (λ (x : LocalState). first_refusal (row_of x line (address_in reply) call).refusals) shown ∙
    (ap (λ rs. first_refusal rs) (same_refusals s line (address_in reply) call) ∙ (went_by s t line call reply done leads).0) in
    absurd (true≢false (sym stopped ∙ ap (λ o. is_some o) none))

pub none_waits : (r s t : LocalState) (line : ℕ) (call : Call) (reply : Reply) → r ≡ without_bytes s → called s line call reply ≡ Some t →
    is_refusal reply ≡ false → (row_of r line (address_in reply) call).waits ≡ true → r ≡ without_bytes t
none_waits r s t line call reply shown leads done waits =
    let goes : (row_of r line (address_in reply) call).waits ≡ false =
    ap (λ (x : LocalState). (row_of x line (address_in reply) call).waits) shown ∙
    (same_waits s line (address_in reply) call ∙ (went_by s t line call reply done leads).1) in
    absurd (true≢false (sym waits ∙ goes))

-- a call that is done
pub goes_on : (r s t r' : LocalState) (line addr : ℕ) (call : Call) (reply : Reply) → r ≡ without_bytes s → called s line call reply ≡ Some t →
    is_refusal reply ≡ false → addr ≡ address_in reply → r' ≡ with_call r line addr call → r' ≡ without_bytes t
goes_on r s t r' line addr call reply shown leads done at moved =
    let went : Went (first_refusal (row_for s line call reply).refusals) (row_for s line call reply) reply t = went_by s t line call reply done leads in
    moved ∙ (ap (λ (x : LocalState). with_call x line addr call) shown ∙ (ap (λ k. with_call (without_bytes s) line k call) at ∙
    (same_call s line (address_in reply) call went.0 ∙ ap (λ (x : LocalState). without_bytes x) (sym went.3))))

-- ---- frames

pub frame_moves : (r s t r' : LocalState) → r ≡ without_bytes s → finished s ≡ Some t → r' ≡ without_bytes (frame_made r) → r' ≡ without_bytes t
frame_moves r s t r' shown leads moved =
    moved ∙ (ap (λ (x : LocalState). without_bytes (frame_made x)) shown ∙
    (same_frame s ∙ ap (λ (x : LocalState). without_bytes x) (sym (finished_by s t leads).1)))

pub failure_moves : (r s t r' : LocalState) → r ≡ without_bytes s → marked_bad s ≡ Some t → r' ≡ frame_failed r → r' ≡ without_bytes t
failure_moves r s t r' shown leads moved =
    moved ∙ (ap (λ (x : LocalState). frame_failed x) shown ∙
    (same_failed s ∙ ap (λ (x : LocalState). without_bytes x) (sym (failed_by s t leads).1)))

-- where no frame can be finished, none is
pub none_finished : (r s t : LocalState) → r ≡ without_bytes s → finished s ≡ Some t → can_finish r ≡ false → r ≡ without_bytes t
none_finished r s t shown leads never =
    absurd (true≢false (sym (ap (λ (x : LocalState). can_finish x) shown ∙ (finished_by s t leads).0) ∙ never))

pub none_failed : (r s t : LocalState) → r ≡ without_bytes s → marked_bad s ≡ Some t → can_finish r ≡ false → r ≡ without_bytes t
none_failed r s t shown leads never =
    absurd (true≢false (sym (ap (λ (x : LocalState). can_finish x) shown ∙ (failed_by s t leads).0) ∙ never))

zeros_unwritten : (ns : List ℕ) → map zeros (map unwritten ns) ≡ map unwritten ns
zeros_unwritten [] = refl
zeros_unwritten (n ∷ ns) = rw (zeros_of_zeros n, zeros_unwritten ns) refl

-- the frame's memory is as long as its picture at least
pub frame_lengthened : (old mid : LocalState) (ns more : List ℕ) (m size : ℕ) → mid ≡ taken_for old true size → mid.memories ≡ map unwritten ns →
    size ≡ picture_size (target old).format → m ≡ number_of (head_buffer (target old)) → more ≡ set ns m (max (get_or ns m 0) size) →
    record mid { memories = map unwritten more } ≡ without_bytes (frame_made old)
frame_lengthened old mid ns more m size took short sized at longer =
    let whole : ℕ = picture_size (target old).format in
    let place : ℕ = number_of (head_buffer (target old)) in
    let all : mid ≡ taken_for old true whole = took ∙ ap (λ n. taken_for old true n) sized in
    let was : old.memories ≡ map unwritten ns = ap (λ (x : LocalState). x.memories) (sym all) ∙ short in
    let here : length (bytes_of old place) ≡ get_or ns place 0 =
    ap (λ (ms : List (List ℕ)). length (get_or ms place [])) was ∙ unwritten_long ns place in
    let long : length (fronted old) ≡ max (get_or ns place 0) whole =
    omega (arith, fronted_long old, here, sub-add-eq-max (get_or ns place 0) whole) in
    let memories : map unwritten more ≡ map zeros (set old.memories place (fronted old)) =
    ap (λ (xs : List ℕ). map unwritten xs) longer ∙ (map-set unwritten ns m (max (get_or ns m 0) size) ∙
    (ap (λ k. set (map unwritten ns) k (unwritten (max (get_or ns k 0) size))) at ∙
    (ap (λ n. set (map unwritten ns) place (unwritten (max (get_or ns place 0) n))) sized ∙
    (ap (λ n. set (map unwritten ns) place (unwritten n)) (sym long) ∙
    (ap (λ (xs : List (List ℕ)). set xs place (zeros (fronted old))) (sym (ap (λ (ms : List (List ℕ)). map zeros ms) was ∙ zeros_unwritten ns)) ∙
    sym (map-set zeros old.memories place (fronted old))))))) in
    λ i. record (all i) { memories = memories i }

-- ---- what is given

pub gift_moves : (r s t r' : LocalState) (o : OwedEntry) → r ≡ without_bytes s → given s ≡ Some t → slice_get r.owed 0 ≡ Some o →
    r' ≡ item_given (record r { owed = drop 1 r.owed }) o.queue o.item → r' ≡ without_bytes t
gift_moves r s t r' o shown leads first moved =
    let g : Gave s s.owed t = given_by s t leads in
    let here : slice_get s.owed 0 ≡ Some o = ap (λ (x : LocalState). slice_get x.owed 0) (sym shown) ∙ first in
    let one : o ≡ g.0 = some_same o g.0 o (sym here ∙ ap (λ xs. slice_get xs 0) g.2) in
    let rest : drop 1 s.owed ≡ g.1 = ap (λ xs. drop 1 xs) g.2 in
    moved ∙ (ap (λ (x : LocalState). item_given (record x { owed = drop 1 x.owed }) o.queue o.item) shown ∙
    (same_item (record s { owed = drop 1 s.owed }) o.queue o.item ∙
    (ap (λ xs. without_bytes (item_given (record s { owed = xs }) o.queue o.item)) rest ∙
    (ap (λ (x : OwedEntry). without_bytes (item_given (record s { owed = g.1 }) x.queue x.item)) one ∙
    ap (λ (x : LocalState). without_bytes x) (sym g.3)))))

pub none_given : (r s t : LocalState) → r ≡ without_bytes s → given s ≡ Some t → slice_get r.owed 0 ≡ None → r ≡ without_bytes t
none_given r s t shown leads none =
    let g : Gave s s.owed t = given_by s t leads in
    let some : slice_get r.owed 0 ≡ Some g.0 = ap (λ (x : LocalState). slice_get x.owed 0) shown ∙ ap (λ xs. slice_get xs 0) g.2 in
    absurd (none-some g.0 (sym none ∙ some))
