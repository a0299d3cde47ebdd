-- What stands in a slice after its parts were written one behind the other.
use Rattle.std.proofs.Common.{◌≡◌, ◌+◌, ℕ, List, ◌++◌, length, take, drop, refl, sym, ap, ◌∙◌, subst, append_assoc, ◌≤◌, replicate, length-append, arith}
use Rattle.std.proofs.lemmas.List.{drop-drop, length-drop, length-take-le, take_at}
use Rattle.std.proofs.Math.Seq.{drop-append-add}
use Rattle.vm_wire.specs.Wire.{le, pad}

-- bytes that are written right behind a front, over what stood there at first
pub behind : (out before now front bytes : List ℕ) (at to more : ℕ) → length front ≡ at → to ≡ at + more → before ≡ front ++ drop at out
    → now ≡ take at before ++ (bytes ++ drop to before) → now ≡ (front ++ bytes) ++ drop to out
behind out before now front bytes at to more ends further stood written =
    let P : List ℕ → Type 0 = λ b. now ≡ take at b ++ (bytes ++ drop to b) in
    let kept : take at (front ++ drop at out) ≡ front = take_at front (drop at out) at ends in
    let left : drop to (front ++ drop at out) ≡ drop to out =
    ap (λ n. drop n (front ++ drop at out)) (further ∙ ap (λ n. n + more) (sym ends))
    ∙ (drop-append-add front (drop at out) more ∙ (drop-drop more at out ∙ ap (λ n. drop n out) (sym further))) in
    subst P stood written ∙ (ap (λ b. b ++ (bytes ++ drop to (front ++ drop at out))) kept ∙ (ap (λ b. front ++ (bytes ++ b)) left ∙ sym (append_assoc front bytes (drop to out))))

-- six numbers, the second and the last of them pads
pub six_numbers : (out o1 o2 o3 o4 o5 : List ℕ) (number third fourth fifth : ℕ) → o1 ≡ le number ++ pad ++ drop 8 out
    → o2 ≡ take 8 o1 ++ (le third ++ drop 12 o1) → o3 ≡ take 12 o2 ++ (le fourth ++ drop 16 o2) → o4 ≡ take 16 o3 ++ (le fifth ++ drop 20 o3)
    → o5 ≡ take 20 o4 ++ (pad ++ drop 24 o4) → o5 ≡ (le number ++ pad ++ le third ++ le fourth ++ le fifth ++ pad) ++ drop 24 out
six_numbers out o1 o2 o3 o4 o5 number third fourth fifth e1 e2 e3 e4 e5 =
    let f2 : o2 ≡ (le number ++ pad ++ le third) ++ drop 12 out = behind out o1 o2 (le number ++ pad) (le third) 8 12 4 refl refl e1 e2 in
    let f3 : o3 ≡ (le number ++ pad ++ le third ++ le fourth) ++ drop 16 out = behind out o2 o3 (le number ++ pad ++ le third) (le fourth) 12 16 4 refl refl f2 e3 in
    let f4 : o4 ≡ (le number ++ pad ++ le third ++ le fourth ++ le fifth) ++ drop 20 out = behind out o3 o4 (le number ++ pad ++ le third ++ le fourth) (le fifth) 16 20 4 refl refl f3 e4 in
    behind out o4 o5 (le number ++ pad ++ le third ++ le fourth ++ le fifth) pad 20 24 4 refl refl f4 e5

-- a part that is filled with zeros
pub zeros_written : (out now : List ℕ) (at to count : ℕ) → to ≡ at + count → to ≤ length out → now ≡ replicate (length (take count (drop at out))) 0
    → take at out ++ (now ++ drop count (drop at out)) ≡ take at out ++ (replicate count 0 ++ drop to out)
zeros_written out now at to count further long filled =
    let part : length (take count (drop at out)) ≡ count = length-take-le count (drop at out) (omega (arith, long, further, length-drop at out)) in
    let zeros : now ≡ replicate count 0 = filled ∙ ap (λ n. replicate n 0) part in
    let left : drop count (drop at out) ≡ drop to out = drop-drop count at out ∙ ap (λ n. drop n out) (sym further) in
    ap (λ b. take at out ++ (b ++ drop count (drop at out))) zeros ∙ ap (λ b. take at out ++ (replicate count 0 ++ b)) left

-- a part that leaves a slice as long as it was fills its place
pub fills : (before now part : List ℕ) (at count : ℕ) → at + count ≤ length before → length now ≡ length before → now ≡ take at before ++ (part ++ drop (at + count) before) → length part ≡ count
fills before now part at count within kept written =
    let sum : length now ≡ length (take at before) + (length part + length (drop (at + count) before)) = ap length written ∙ simp length-append refl in
    omega (arith, sum, kept, within, length-take-le at before (omega (arith, within)), length-drop (at + count) before)

-- two numbers, and three parts behind them
pub message_written : (out o1 o2 o3 o4 front behind_it : List ℕ) (number session : ℕ) → o1 ≡ le number ++ drop 4 out → o2 ≡ take 4 o1 ++ (le session ++ drop 8 o1)
    → o3 ≡ take 8 o2 ++ (front ++ drop 96 o2) → length front ≡ 88 → o4 ≡ take 96 o3 ++ (behind_it ++ drop 608 o3)
    → o4 ≡ (le number ++ le session ++ front ++ behind_it) ++ drop 608 out
message_written out o1 o2 o3 o4 front behind_it number session e1 e2 e3 sized e4 =
    let f2 : o2 ≡ (le number ++ le session) ++ drop 8 out = behind out o1 o2 (le number) (le session) 4 8 4 refl refl e1 e2 in
    let f3 : o3 ≡ (le number ++ le session ++ front) ++ drop 96 out = behind out o2 o3 (le number ++ le session) front 8 96 88 refl refl f2 e3 in
    let ends : length (le number ++ le session ++ front) ≡ 96 = omega (arith, sized) in
    behind out o3 o4 (le number ++ le session ++ front) behind_it 96 608 512 ends refl f3 e4
