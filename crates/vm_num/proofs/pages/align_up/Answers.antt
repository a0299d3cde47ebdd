use Rattle.std.proofs.Common.{◌≡◌, ℕ, ◌+◌, ◌*◌, ◌/◌, ◌%◌, ◌<◌, ◌≤◌, ⊎_elim, arith}
use Rattle.std.proofs.Math.Nat.{mul-le-mul_right}
use Rattle.std.proofs.lemmas.Bool.{cases_lt}
use Rattle.std.proofs.lemmas.Nat.{div-add-mod'}
use Rattle.vm_num.proofs.pages.align_up.Goals as goal

-- a multiple of a that is less than a above n is no more than a multiple that is n or more
no_multiple_between : (r m n a : ℕ) → r < n + a → n ≤ m → r % a ≡ 0 → m % a ≡ 0 → r ≤ m
no_multiple_between r m n a near above r_whole m_whole =
    let r_is : r / a * a + r % a ≡ r = div-add-mod' r a in
    let m_is : m / a * a + m % a ≡ m = div-add-mod' m a in
    ⊎_elim
    (λ (less : m / a < r / a).
    let more : (m / a + 1) * a ≤ r / a * a = mul-le-mul_right a (omega arith) in omega arith)
    (λ (same : r / a ≤ m / a).
    let fewer : r / a * a ≤ m / a * a = mul-le-mul_right a same in omega arith)
    (cases_lt (m / a) (r / a))

pub returns-clause-least : goal.returns-clause-least
returns-clause-least c m above whole =
    no_multiple_between _ m c.args.n c.args.a c.next_multiple_of.ensures.upper_bound above c.next_multiple_of.ensures.multiple whole
