-- What keeps all pictures of one size.
use Rattle.std.proofs.Common.{◌≡◌, ℕ, zero, suc, ◌<◌, List, [], ◌∷◌, length, get_or, set, map, ◌++◌, take, drop, refl, sym, ap, ◌∙◌, arith, length-set}
use Rattle.std.proofs.lemmas.List.{length-map, take_at}
use Rattle.v4l_format.specs.declared.fmt.Fmt.{Fmt}
use Rattle.vm_local.specs.State.{QueueState, opening_queue}
use Rattle.vm_local.specs.Sizes.{SameSize, SizesAgree, resized}

-- lists as long as each other, with the same format at each place
pub sizes_kept : (qs ps : List QueueState) → length ps ≡ length qs →
    ((i : ℕ) → i < length qs → (get_or ps i opening_queue).format ≡ (get_or qs i opening_queue).format) →
    SizesAgree qs → SizesAgree ps
sizes_kept qs ps same formats agree =
    λ i j hi hj.
    let hi' : i < length qs = omega (arith, same, hi) in
    let hj' : j < length qs = omega (arith, same, hj) in
    let a : SameSize (get_or qs i opening_queue) (get_or qs j opening_queue) = agree i j hi' hj' in
    rw (formats i hi', formats j hj') a

pub format_set : (qs : List QueueState) (p : ℕ) (v : QueueState) → v.format ≡ (get_or qs p opening_queue).format →
    (i : ℕ) → i < length qs → (get_or (set qs p v) i opening_queue).format ≡ (get_or qs i opening_queue).format
format_set [] p v h i hi = refl
format_set (q ∷ qs) zero v h zero hi = h
format_set (q ∷ qs) zero v h (suc i) hi = refl
format_set (q ∷ qs) (suc p) v h zero hi = refl
format_set (q ∷ qs) (suc p) v h (suc i) hi = format_set qs p v h i (omega (arith, hi))

pub sizes_kept_set : (qs : List QueueState) (p : ℕ) (v : QueueState) → v.format ≡ (get_or qs p opening_queue).format →
    SizesAgree qs → SizesAgree (set qs p v)
sizes_kept_set qs p v h = sizes_kept qs (set qs p v) (length-set qs p v) (format_set qs p v h)

pub format_map : (f : QueueState → QueueState) → ((q : QueueState) → (f q).format ≡ q.format) → (qs : List QueueState) →
    (i : ℕ) → i < length qs → (get_or (map f qs) i opening_queue).format ≡ (get_or qs i opening_queue).format
format_map f h [] i hi = refl
format_map f h (q ∷ qs) zero hi = h q
format_map f h (q ∷ qs) (suc i) hi = format_map f h qs i (omega (arith, hi))

pub sizes_kept_map : (f : QueueState → QueueState) → ((q : QueueState) → (f q).format ≡ q.format) → (qs : List QueueState) →
    SizesAgree qs → SizesAgree (map f qs)
sizes_kept_map f h qs = sizes_kept qs (map f qs) (length-map qs f) (format_map f h qs)

-- the same where a slice of all places was written
pub sizes_kept_refill : (f : QueueState → QueueState) → ((q : QueueState) → (f q).format ≡ q.format) → (qs seen ws : List QueueState) →
    seen ≡ qs → ws ≡ map f seen → SizesAgree qs → SizesAgree (take (length qs) (ws ++ drop (length ws) qs))
sizes_kept_refill f h qs seen ws same written agree =
    let all : ws ≡ map f qs = written ∙ ap (λ xs. map f xs) same in
    let long : length ws ≡ length qs = ap (λ xs. length xs) all ∙ length-map qs f in
    rw (take_at ws (drop (length ws) qs) (length qs) long, all) (sizes_kept_map f h qs agree)

-- all queues resized as a format is
pub size_of_resized : (f : Fmt) (qs : List QueueState) (i : ℕ) → i < length qs →
    ((get_or (map (resized f) qs) i opening_queue).format.width ≡ f.width) ×
    ((get_or (map (resized f) qs) i opening_queue).format.height ≡ f.height)
size_of_resized f [] i hi = absurd (omega (arith, hi))
size_of_resized f (q ∷ qs) zero hi = (refl, refl)
size_of_resized f (q ∷ qs) (suc i) hi = size_of_resized f qs i (omega (arith, hi))

-- the same, and one queue with just this format
pub size_of_reformat : (f : Fmt) (qs : List QueueState) (p : ℕ) (v : QueueState) → v.format ≡ f → (i : ℕ) → i < length qs →
    ((get_or (set (map (resized f) qs) p v) i opening_queue).format.width ≡ f.width) ×
    ((get_or (set (map (resized f) qs) p v) i opening_queue).format.height ≡ f.height)
size_of_reformat f [] p v h i hi = absurd (omega (arith, hi))
size_of_reformat f (q ∷ qs) zero v h zero hi = (ap (λ (g : Fmt). g.width) h, ap (λ (g : Fmt). g.height) h)
size_of_reformat f (q ∷ qs) zero v h (suc i) hi = size_of_resized f qs i (omega (arith, hi))
size_of_reformat f (q ∷ qs) (suc p) v h zero hi = (refl, refl)
size_of_reformat f (q ∷ qs) (suc p) v h (suc i) hi = size_of_reformat f qs p v h i (omega (arith, hi))

pub sizes_agree_reformat : (f : Fmt) (qs : List QueueState) (p : ℕ) (v : QueueState) → v.format ≡ f → SizesAgree (set (map (resized f) qs) p v)
sizes_agree_reformat f qs p v h =
    λ i j hi hj.
    let long : length (set (map (resized f) qs) p v) ≡ length qs = length-set (map (resized f) qs) p v ∙ length-map qs (resized f) in
    let a : _ = size_of_reformat f qs p v h i (omega (arith, hi, long)) in
    let b : _ = size_of_reformat f qs p v h j (omega (arith, hj, long)) in
    (a.0 ∙ sym b.0, a.1 ∙ sym b.1)

pub sizes_agree_refilled : (f : Fmt) (qs seen ws : List QueueState) (p : ℕ) (v : QueueState) → v.format ≡ f → seen ≡ qs →
    ws ≡ set (map (resized f) seen) p v → SizesAgree (take (length qs) (ws ++ drop (length ws) qs))
sizes_agree_refilled f qs seen ws p v h same written =
    let all : ws ≡ set (map (resized f) qs) p v = written ∙ ap (λ xs. set (map (resized f) xs) p v) same in
    let long : length ws ≡ length qs = ap (λ xs. length xs) all ∙ (length-set (map (resized f) qs) p v ∙ length-map qs (resized f)) in
    rw (take_at ws (drop (length ws) qs) (length qs) long, all) (sizes_agree_reformat f qs p v h)
