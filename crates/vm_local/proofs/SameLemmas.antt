-- Two replies are tested to be the same exactly where they are equal, and the derived test is this one.
use Rattle.std.proofs.Common.{◌≡◌, ℕ, ◌-◌, Bool, true, false, ◌&&◌, ◌==◌, List, ◌++◌, length, take, replicate, refl, sym, ap, ◌∙◌, subst, eqb, if◌then◌else◌}
use Rattle.std.specs.Bool.{Decides}
use Rattle.std.specs.Str.{bytes_eq}
use Rattle.std.proofs.lemmas.Bool.{false≢true, eqb-true, eq-eqb}
use Rattle.std.proofs.lemmas.Bool.Decides.{same_from_decides}
use Rattle.std.proofs.lemmas.Slice.Eq.{bytes_eq-Decides}
use Rattle.std.proofs.Math.Seq.{take-append_seam}
use Rattle.v4l_const.specs.Errno.{errno_number}
use Rattle.v4l_const.specs.declared.errno.Errno.{Errno}
use Rattle.v4l_const.specs.declared.errno.Errno.TheVariants.{Enoent, Eio, Ebadf, Eagain, Enomem, Eacces, Efault, Ebusy, Einval, Enotty, Edeadlk, Emsgsize, Eopnotsupp}
use Rattle.v4l_format.specs.declared.fmt.Fmt.{Fmt}
use Rattle.vm_local.specs.declared.reply.Reply.{Reply}
use Rattle.vm_local.specs.declared.reply.Reply.TheVariants.{Done, Refused, Caps, Code, Format, InputName, InputIs, Count, Buf, Pages, Frame, Mapped, Bytes, Digest, Event}
use Rattle.vm_local.specs.contracts.reply.ReplyPartialEq.TheImpl.{ghosts}
use Rattle.vm_local.specs.Same.{same_format, same_reply}

both : (a b : Bool) → (a && b) ≡ true → (a ≡ true) × (b ≡ true)
both true b h = (refl, h)
both false b h = absurd (false≢true h)

and_both : (a b : Bool) → a ≡ true → b ≡ true → (a && b) ≡ true
and_both a b p q = rw (p, q) refl

-- ---- errors and formats

abbrev errno_from : ℕ → Errno
errno_from n =
    if eqb n 2 then Enoent else (
    if eqb n 5 then Eio else (
    if eqb n 9 then Ebadf else (
    if eqb n 11 then Eagain else (
    if eqb n 12 then Enomem else (
    if eqb n 13 then Eacces else (
    if eqb n 14 then Efault else (
    if eqb n 16 then Ebusy else (
    if eqb n 22 then Einval else (
    if eqb n 25 then Enotty else (
    if eqb n 35 then Edeadlk else (
    if eqb n 90 then Emsgsize else (
    Eopnotsupp))))))))))))

errno_back : (e : Errno) → errno_from (errno_number e) ≡ e
errno_back Enoent = refl
errno_back Eio = refl
errno_back Ebadf = refl
errno_back Eagain = refl
errno_back Enomem = refl
errno_back Eacces = refl
errno_back Efault = refl
errno_back Ebusy = refl
errno_back Einval = refl
errno_back Enotty = refl
errno_back Edeadlk = refl
errno_back Emsgsize = refl
errno_back Eopnotsupp = refl

errno_same : (e d : Errno) → (errno_number e == errno_number d) ≡ true → e ≡ d
errno_same e d h = sym (errno_back e) ∙ (ap errno_from (eqb-true (errno_number e) (errno_number d) h) ∙ errno_back d)

format_same : (f g : Fmt) → same_format f g ≡ true → f ≡ g
format_same f g h =
    let codes : _ = both (f.code.0 == g.code.0) ((f.width == g.width) && (f.height == g.height)) h in
    let sizes : _ = both (f.width == g.width) (f.height == g.height) codes.1 in
    let wide : f.width ≡ g.width = eqb-true f.width g.width sizes.0 in
    let high : f.height ≡ g.height = eqb-true f.height g.height sizes.1 in
    let code : f.code ≡ g.code = ap (λ n. record { 0 = n }) (eqb-true f.code.0 g.code.0 codes.0) in
    ap (λ c. record { code = c; width = f.width; height = f.height }) code ∙
    (ap (λ n. record { code = g.code; width = n; height = f.height }) wide ∙ ap (λ n. record { code = g.code; width = g.width; height = n }) high)

-- ---- replies

same_itself : (r : Reply) → same_reply r r ≡ true
same_itself Done = refl
same_itself (Refused e) = eq-eqb _ _ refl
same_itself (Caps all device) = and_both _ _ (eq-eqb all all refl) (eq-eqb device device refl)
same_itself (Code f) = eq-eqb _ _ refl
same_itself (Format f line size) =
    and_both _ _ (and_both _ _ (eq-eqb f.code.0 f.code.0 refl) (and_both _ _ (eq-eqb f.width f.width refl) (eq-eqb f.height f.height refl)))
    (and_both _ _ (eq-eqb line line refl) (eq-eqb size size refl))
same_itself (InputName i) = eq-eqb _ _ refl
same_itself (InputIs i) = eq-eqb _ _ refl
same_itself (Count n) = eq-eqb _ _ refl
same_itself (Buf len flags) = and_both _ _ (eq-eqb len len refl) (eq-eqb flags flags refl)
same_itself (Pages n) = eq-eqb _ _ refl
same_itself (Frame i used seq ts flags) =
    and_both _ _ (eq-eqb i i refl) (and_both _ _ (eq-eqb used used refl) (and_both _ _ (eq-eqb seq seq refl)
    (and_both _ _ (eq-eqb ts ts refl) (eq-eqb flags flags refl))))
same_itself (Mapped addr len) = and_both _ _ (eq-eqb addr addr refl) (eq-eqb len len refl)
same_itself (Bytes bytes) = (bytes_eq-Decides bytes bytes).1 refl
same_itself (Digest digest) = (bytes_eq-Decides digest digest).1 refl
same_itself (Event kind frame pending seq) =
    and_both _ _ (eq-eqb kind kind refl) (and_both _ _ (eq-eqb frame frame refl) (and_both _ _ (eq-eqb pending pending refl) (eq-eqb seq seq refl)))

same_is : (a b : Reply) → same_reply a b ≡ true → a ≡ b
same_is Done Done h = refl
same_is (Refused e) (Refused d) h = ap (λ x. Refused x) (errno_same e d h)
same_is (Caps all device) (Caps every other) h =
    let s : _ = both (all == every) (device == other) h in
    ap (λ n. Caps n device) (eqb-true all every s.0) ∙ ap (λ n. Caps every n) (eqb-true device other s.1)
same_is (Code f) (Code g) h = ap (λ n. Code (record { 0 = n })) (eqb-true f.0 g.0 h)
same_is (Format f line size) (Format g row whole) h =
    let s : _ = both (same_format f g) ((line == row) && (size == whole)) h in
    let t : _ = both (line == row) (size == whole) s.1 in
    ap (λ x. Format x line size) (format_same f g s.0) ∙ (ap (λ n. Format g n size) (eqb-true line row t.0) ∙ ap (λ n. Format g row n) (eqb-true size whole t.1))
same_is (InputName i) (InputName j) h = ap (λ n. InputName n) (eqb-true i j h)
same_is (InputIs i) (InputIs j) h = ap (λ n. InputIs n) (eqb-true i j h)
same_is (Count m) (Count n) h = ap (λ k. Count k) (eqb-true m n h)
same_is (Buf len flags) (Buf n marks) h =
    let s : _ = both (len == n) (flags == marks) h in
    ap (λ k. Buf k flags) (eqb-true len n s.0) ∙ ap (λ k. Buf n k) (eqb-true flags marks s.1)
same_is (Pages m) (Pages n) h = ap (λ k. Pages k) (eqb-true m n h)
same_is (Frame i used seq ts flags) (Frame j n k u marks) h =
    let s : _ = both (i == j) ((used == n) && ((seq == k) && ((ts == u) && (flags == marks)))) h in
    let t : _ = both (used == n) ((seq == k) && ((ts == u) && (flags == marks))) s.1 in
    let v : _ = both (seq == k) ((ts == u) && (flags == marks)) t.1 in
    let w : _ = both (ts == u) (flags == marks) v.1 in
    ap (λ x. Frame x used seq ts flags) (eqb-true i j s.0) ∙ (ap (λ x. Frame j x seq ts flags) (eqb-true used n t.0) ∙
    (ap (λ x. Frame j n x ts flags) (eqb-true seq k v.0) ∙ (ap (λ x. Frame j n k x flags) (eqb-true ts u w.0) ∙
    ap (λ x. Frame j n k u x) (eqb-true flags marks w.1))))
same_is (Mapped addr len) (Mapped at n) h =
    let s : _ = both (addr == at) (len == n) h in
    ap (λ k. Mapped k len) (eqb-true addr at s.0) ∙ ap (λ k. Mapped at k) (eqb-true len n s.1)
same_is (Bytes xs) (Bytes ys) h = ap (λ zs. Bytes zs) ((bytes_eq-Decides xs ys).0 h)
same_is (Digest xs) (Digest ys) h = ap (λ zs. Digest zs) ((bytes_eq-Decides xs ys).0 h)
same_is (Event kind frame pending seq) (Event k f p n) h =
    let s : _ = both (kind == k) ((frame == f) && ((pending == p) && (seq == n))) h in
    let t : _ = both (frame == f) ((pending == p) && (seq == n)) s.1 in
    let u : _ = both (pending == p) (seq == n) t.1 in
    ap (λ x. Event x frame pending seq) (eqb-true kind k s.0) ∙ (ap (λ x. Event k x pending seq) (eqb-true frame f t.0) ∙
    (ap (λ x. Event k f x seq) (eqb-true pending p u.0) ∙ ap (λ x. Event k f p x) (eqb-true seq n u.1)))
same_is a b h = absurd (false≢true h)

pub same_reply_decides : (a b : Reply) → Decides (same_reply a b) (a ≡ b)
same_reply_decides a b = (same_is a b, λ e. subst (λ x. same_reply a x ≡ true) e (same_itself a))

-- ---- the derived test

derived_errno : (e d : Errno) → ghosts.eq (Refused e) (Refused d) ≡ (errno_number e == errno_number d)
derived_errno Enoent Enoent = refl
derived_errno Eio Eio = refl
derived_errno Ebadf Ebadf = refl
derived_errno Eagain Eagain = refl
derived_errno Enomem Enomem = refl
derived_errno Eacces Eacces = refl
derived_errno Efault Efault = refl
derived_errno Ebusy Ebusy = refl
derived_errno Einval Einval = refl
derived_errno Enotty Enotty = refl
derived_errno Edeadlk Edeadlk = refl
derived_errno Emsgsize Emsgsize = refl
derived_errno Eopnotsupp Eopnotsupp = refl
derived_errno e d = refl

-- a list as an array of 256 holds it, with zeros behind it
abbrev padded : List ℕ → List ℕ
padded xs = xs ++ replicate (256 - length xs) 0

derived_bytes : (xs ys : List ℕ) → ghosts.eq (Bytes xs) (Bytes ys) ≡ bytes_eq xs ys
derived_bytes xs ys =
    let tests : List ℕ → Bool = λ zs. (length xs == length zs) && bytes_eq (padded xs) (padded zs) in
    let there : tests ys ≡ true → xs ≡ ys = λ h.
    let s : _ = both (length xs == length ys) (bytes_eq (padded xs) (padded ys)) h in
    let whole : padded xs ≡ padded ys = (bytes_eq-Decides (padded xs) (padded ys)).0 s.1 in
    sym (take-append_seam xs (replicate (256 - length xs) 0)) ∙ (ap (λ zs. take (length xs) zs) whole ∙
    (ap (λ n. take n (padded ys)) (eqb-true (length xs) (length ys) s.0) ∙ take-append_seam ys (replicate (256 - length ys) 0))) in
    let back : xs ≡ ys → tests ys ≡ true = λ e. subst (λ zs. tests zs ≡ true) e
    (and_both (length xs == length xs) (bytes_eq (padded xs) (padded xs)) (eq-eqb (length xs) (length xs) refl) ((bytes_eq-Decides (padded xs) (padded xs)).1 refl)) in
    same_from_decides (tests ys) (bytes_eq xs ys) (there, back) (bytes_eq-Decides xs ys)

pub derived_same : (a b : Reply) → ghosts.eq a b ≡ same_reply a b
derived_same Done Done = refl
derived_same (Refused e) (Refused d) = derived_errno e d
derived_same (Caps all device) (Caps every other) = refl
derived_same (Code f) (Code g) = refl
derived_same (Format f line size) (Format g row whole) = refl
derived_same (InputName i) (InputName j) = refl
derived_same (InputIs i) (InputIs j) = refl
derived_same (Count m) (Count n) = refl
derived_same (Buf len flags) (Buf n marks) = refl
derived_same (Pages m) (Pages n) = refl
derived_same (Frame i used seq ts flags) (Frame j n k u marks) = refl
derived_same (Mapped addr len) (Mapped at n) = refl
derived_same (Bytes xs) (Bytes ys) = derived_bytes xs ys
derived_same (Digest xs) (Digest ys) = refl
derived_same (Event kind frame pending seq) (Event k f p n) = refl
derived_same a b = refl
