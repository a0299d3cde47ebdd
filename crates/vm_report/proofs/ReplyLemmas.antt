-- A reply is read from the words that are printed of it, and from no others.
use Rattle.std.proofs.Common.{◌≡◌, ℕ, ◌-◌, ◌/◌, ◌^◌, ◌<◌, ◌==◌, Bool, true, false, ◌&&◌, List, [], ◌∷◌, length, drop, get_or, codes, refl, ap, sym, ◌∙◌, subst, arith, Option, Some, None, Result, Ok, Err, zero, suc, if◌then◌else◌}
use Rattle.std.specs.Prelude.{nat_le, nat_lt}
use Rattle.std.specs.Fmt.{decimal}
use Rattle.std.specs.Int.{to_be_bytes, to_le_bytes, from_be_bytes, from_le_bytes, w32, w64}
use Rattle.std.specs.List.{list_all, find}
use Rattle.std.specs.Option.{option_map, option_and_then}
use Rattle.std.specs.Str.{bytes_eq}
use Rattle.std.proofs.lemmas.Bool.Decides.{nat_tests}
use Rattle.std.proofs.lemmas.Nat.{be_bytes_4, be_bytes_8, le_bytes_4, from_be_bytes-to_be_bytes_4, from_be_bytes-to_be_bytes_8}
use Rattle.hex.specs.Hex.{encode_lower, decode_sized, IsBytes}
use Rattle.hex.specs.declared.error.FromHexError.{FromHexError}
use Rattle.hex.proofs.HexLemmas.{decode_of-ok, decode_sized-ok, decode_sized-twice, decode_sized-encode_lower, length-encode_with}
use Rattle.v4l_const.specs.Errno.{errno_number, errno_name, errno_of, errnos}
use Rattle.v4l_const.specs.declared.errno.Errno.{Errno}
use Rattle.v4l_const.specs.declared.errno.Errno.TheVariants.{Enoent, Eio, Ebadf, Eagain, Enomem, Eacces, Efault, Ebusy, Einval, Enotty, Edeadlk, Emsgsize, Eopnotsupp}
use Rattle.v4l_const.specs.declared.four_cc.FourCc.{FourCc}
use Rattle.v4l_format.specs.Pattern.{patterns}
use Rattle.vm_local.specs.declared.call.Call.{Call}
use Rattle.vm_local.specs.declared.call.Call.TheVariants as Asks
use Rattle.vm_local.specs.declared.reply.Reply.{Reply}
use Rattle.vm_local.specs.declared.reply.Reply.TheVariants as Replies
use Rattle.vm_wire.specs.Records.{input_name}
use Rattle.vm_script.specs.Words.{code_in, is_visible}
use Rattle.vm_report.specs.declared.tells.Tells.{Tells}
use Rattle.vm_report.specs.declared.tells.Tells.TheVariants as Kinds
use Rattle.vm_report.specs.Text.{flags_text, address_text, code_text, reply_words, is_kind_of}
use Rattle.vm_report.specs.Printed.{IsCode, IsSmall, FitsReply}
use Rattle.vm_report.specs.Reading.{exact_bytes, bytes_told, flags_told, address_told, small_told, code_told, input_told, count_told, long_told, named, errno_told, refusal_told, two_told, tells, told, reply_told}
use Rattle.vm_report.proofs.WordLemmas.{same_word, word_same, both, number_fits, number_again}

-- ---- options

pub map_gave : {A B : Type 0} (f : A → B) (o : Option A) (y : B) → option_map f o ≡ Some y → (x : A) × (o ≡ Some x) × (f x ≡ y)
map_gave f None y e = absurd (cc)
map_gave f (Some x) y e = (x, refl, cc)

pub then_gave : {A B : Type 0} (f : A → Option B) (o : Option A) (y : B) → option_and_then f o ≡ Some y → (x : A) × (o ≡ Some x) × (f x ≡ Some y)
then_gave f None y e = absurd (cc)
then_gave f (Some x) y e = (x, refl, e)

pub two_gave : {A B C : Type 0} (f : A → B → C) (a : Option A) (b : Option B) (z : C) → two_told f a b ≡ Some z → (x : A) × (y : B) × (a ≡ Some x) × (b ≡ Some y) × (f x y ≡ z)
two_gave f None b z e = absurd (cc)
two_gave f (Some x) None z e = absurd (cc)
two_gave f (Some x) (Some y) z e = (x, y, refl, refl, cc)

pub if_gave : {A : Type 0} (test : Bool) (o : Option A) (x : A) → (if test then o else None) ≡ Some x → (test ≡ true) × (o ≡ Some x)
if_gave true o x e = (refl, e)
if_gave false o x e = absurd (cc)

-- ---- numbers

pub count_fits : (word : List ℕ) (n : ℕ) → count_told word ≡ Some n → (decimal n ≡ word) × (n < 2 ^ 32)
count_fits word n e = let fits = number_fits (2 ^ 32 - 1) word n e in (fits.0, let h = fits.1 in omega (arith, h))

pub count_again : (n : ℕ) → n < 2 ^ 32 → count_told (decimal n) ≡ Some n
count_again n h = number_again (2 ^ 32 - 1) n (omega (arith, h)) (omega (arith, h))

long_fits : (word : List ℕ) (n : ℕ) → long_told word ≡ Some n → (decimal n ≡ word) × (n < 2 ^ 64)
long_fits word n e = let fits = number_fits (2 ^ 64 - 1) word n e in (fits.0, let h = fits.1 in omega (arith, h))

long_again : (n : ℕ) → n < 2 ^ 64 → long_told (decimal n) ≡ Some n
long_again n h = number_again (2 ^ 64 - 1) n (omega (arith, h)) h

-- ---- digits

pub record IsRead (n : ℕ) (word bytes : List ℕ) : Type 0 where
  pub written : encode_lower bytes ≡ word
  pub held : IsBytes bytes
  pub count : length bytes ≡ n

bytes_by : (n : ℕ) (word : List ℕ) (r : Result (List ℕ) FromHexError) (bytes : List ℕ) → decode_sized word n ≡ r → exact_bytes word r ≡ Some bytes → IsRead n word bytes
bytes_by n word (Err e) bytes f h = absurd (cc)
bytes_by n word (Ok xs) bytes f h =
    let g = if_gave (bytes_eq (encode_lower xs) word) (Some xs) bytes h in
    let twice = decode_sized-ok word n xs f in
    let held = decode_of-ok word xs (sym (decode_sized-twice word n twice) ∙ f) in
    let long = held.2 in
    subst (IsRead n word) (let e : xs ≡ bytes = cc in e) (record { written = same_word (encode_lower xs) word g.0; held = held.3; count = omega (arith, twice, long) })

pub bytes_fit : (n : ℕ) (word bytes : List ℕ) → bytes_told n word ≡ Some bytes → IsRead n word bytes
bytes_fit n word bytes e = bytes_by n word (decode_sized word n) bytes refl e

pub bytes_again : (n : ℕ) (bytes : List ℕ) → length bytes ≡ n → IsBytes bytes → bytes_told n (encode_lower bytes) ≡ Some bytes
bytes_again n bytes count h = rw (decode_sized-encode_lower bytes n count h, word_same (encode_lower bytes)) refl

four_below : (bytes : List ℕ) → length bytes ≡ 4 → IsBytes bytes → from_be_bytes w32 bytes < 2 ^ 32
four_below [] four h = absurd (omega (arith, four))
four_below (a ∷ []) four h = absurd (omega (arith, four))
four_below (a ∷ b ∷ []) four h = absurd (omega (arith, four))
four_below (a ∷ b ∷ c ∷ []) four h = absurd (omega (arith, four))
four_below (a ∷ b ∷ c ∷ d ∷ []) four h = omega (arith, h 0, h 1, h 2, h 3)
four_below (a ∷ b ∷ c ∷ d ∷ e ∷ bytes) four h = absurd (omega (arith, four))

eight_below : (bytes : List ℕ) → length bytes ≡ 8 → IsBytes bytes → from_be_bytes w64 bytes < 2 ^ 64
eight_below [] eight h = absurd (omega (arith, eight))
eight_below (a ∷ []) eight h = absurd (omega (arith, eight))
eight_below (a ∷ b ∷ []) eight h = absurd (omega (arith, eight))
eight_below (a ∷ b ∷ c ∷ []) eight h = absurd (omega (arith, eight))
eight_below (a ∷ b ∷ c ∷ d ∷ []) eight h = absurd (omega (arith, eight))
eight_below (a ∷ b ∷ c ∷ d ∷ e ∷ []) eight h = absurd (omega (arith, eight))
eight_below (a ∷ b ∷ c ∷ d ∷ e ∷ f ∷ []) eight h = absurd (omega (arith, eight))
eight_below (a ∷ b ∷ c ∷ d ∷ e ∷ f ∷ g ∷ []) eight h = absurd (omega (arith, eight))
eight_below (a ∷ b ∷ c ∷ d ∷ e ∷ f ∷ g ∷ i ∷ []) eight h = omega (arith, h 0, h 1, h 2, h 3, h 4, h 5, h 6, h 7)
eight_below (a ∷ b ∷ c ∷ d ∷ e ∷ f ∷ g ∷ i ∷ j ∷ bytes) eight h = absurd (omega (arith, eight))

pub flags_fit : (word : List ℕ) (n : ℕ) → flags_told word ≡ Some n → (flags_text n ≡ word) × (n < 2 ^ 32)
unfolding flags_text
flags_fit word n e =
    let g = map_gave (from_be_bytes w32) (bytes_told 4 word) n e in
    let read = bytes_fit 4 word g.0 g.1 in
    let below = subst (λ k. k < 2 ^ 32) g.2 (four_below g.0 read.count read.held) in
    (ap encode_lower (be_bytes_4 g.0 n read.count read.held (sym g.2)) ∙ read.written, below)

pub flags_again : (n : ℕ) → n < 2 ^ 32 → flags_told (flags_text n) ≡ Some n
unfolding flags_text
flags_again n h = rw (bytes_again 4 (to_be_bytes w32 n) refl (four_bytes n)) (ap Some (from_be_bytes-to_be_bytes_4 n h))
  where
    four_bytes : (n : ℕ) → IsBytes (to_be_bytes w32 n)
    four_bytes n zero = omega arith
    four_bytes n (suc zero) = omega arith
    four_bytes n (suc (suc zero)) = omega arith
    four_bytes n (suc (suc (suc zero))) = omega arith
    four_bytes n (suc (suc (suc (suc i)))) = omega arith

pub address_fits : (word : List ℕ) (n : ℕ) → address_told word ≡ Some n → (address_text n ≡ word) × (n < 2 ^ 64)
unfolding address_text
address_fits word n e =
    let g = map_gave (from_be_bytes w64) (bytes_told 8 word) n e in
    let read = bytes_fit 8 word g.0 g.1 in
    let below = subst (λ k. k < 2 ^ 64) g.2 (eight_below g.0 read.count read.held) in
    (ap encode_lower (be_bytes_8 g.0 n read.count read.held (sym g.2)) ∙ read.written, below)

pub address_again : (n : ℕ) → n < 2 ^ 64 → address_told (address_text n) ≡ Some n
unfolding address_text
address_again n h = rw (bytes_again 8 (to_be_bytes w64 n) refl (eight_bytes n)) (ap Some (from_be_bytes-to_be_bytes_8 n h))
  where
    eight_bytes : (n : ℕ) → IsBytes (to_be_bytes w64 n)
    eight_bytes n zero = omega arith
    eight_bytes n (suc zero) = omega arith
    eight_bytes n (suc (suc zero)) = omega arith
    eight_bytes n (suc (suc (suc zero))) = omega arith
    eight_bytes n (suc (suc (suc (suc zero)))) = omega arith
    eight_bytes n (suc (suc (suc (suc (suc zero))))) = omega arith
    eight_bytes n (suc (suc (suc (suc (suc (suc zero)))))) = omega arith
    eight_bytes n (suc (suc (suc (suc (suc (suc (suc zero))))))) = omega arith
    eight_bytes n (suc (suc (suc (suc (suc (suc (suc (suc i)))))))) = omega arith

small_by : (test : Bool) (n : ℕ) (word bytes : List ℕ) → nat_lt 256 n ≡ test → (if test then None else bytes_told n word) ≡ Some bytes → (encode_lower bytes ≡ word) × IsSmall bytes
small_by true n word bytes e h = absurd (cc)
small_by false n word bytes e h =
    let read = bytes_fit n word bytes h in
    let count = read.count in
    (read.written, (read.held, grind (arith, nat_tests)))

small_fits : (word bytes : List ℕ) → small_told word ≡ Some bytes → (encode_lower bytes ≡ word) × IsSmall bytes
small_fits word bytes e = small_by (nat_lt 256 (length word / 2)) (length word / 2) word bytes refl e

not_more : {A : Type 0} (test : Bool) (o : Option A) → test ≡ false → (if test then None else o) ≡ o
not_more true o e = absurd (cc)
not_more false o e = refl

small_again : (bytes : List ℕ) → IsSmall bytes → small_told (encode_lower bytes) ≡ Some bytes
small_again bytes h =
    let long = length-encode_with (codes "0123456789abcdef") bytes in
    let few = h.1 in
    let half : length (encode_lower bytes) / 2 ≡ length bytes = omega (arith, long) in
    let within : nat_lt 256 (length bytes) ≡ false = grind (arith, nat_tests) in
    let P : ℕ → Type 0 = λ n. (if nat_lt 256 n then None else bytes_told n (encode_lower bytes)) ≡ Some bytes in
    subst P (sym half) (not_more (nat_lt 256 (length bytes)) (bytes_told (length bytes) (encode_lower bytes)) within ∙ bytes_again (length bytes) bytes refl h.0)

-- ---- codes, inputs and errors

visible_byte : (b : ℕ) → is_visible b ≡ true → b < 256
visible_byte b seen = let high = (both (nat_le 33 b) (nat_le b 126) seen).1 in grind (arith, nat_tests)

code_text_by : (word : List ℕ) (n : ℕ) → (length word == 4) ≡ true → list_all is_visible word ≡ true → from_le_bytes w32 word ≡ n → to_le_bytes w32 n ≡ word
code_text_by [] n four seen is = absurd (cc)
code_text_by (a ∷ []) n four seen is = absurd (cc)
code_text_by (a ∷ b ∷ []) n four seen is = absurd (cc)
code_text_by (a ∷ b ∷ c ∷ []) n four seen is = absurd (cc)
code_text_by (a ∷ b ∷ c ∷ d ∷ []) n four seen is =
    let first = both (is_visible a) (list_all is_visible (b ∷ c ∷ d ∷ [])) seen in
    let second = both (is_visible b) (list_all is_visible (c ∷ d ∷ [])) first.1 in
    let third = both (is_visible c) (list_all is_visible (d ∷ [])) second.1 in
    let fourth = both (is_visible d) true third.1 in
    le_bytes_4 (a ∷ b ∷ c ∷ d ∷ []) n refl (small (visible_byte a first.0) (visible_byte b second.0) (visible_byte c third.0) (visible_byte d fourth.0)) (sym is)
  where
    small : a < 256 → b < 256 → c < 256 → d < 256 → (i : ℕ) → get_or (a ∷ b ∷ c ∷ d ∷ []) i 0 < 256
    small p q r s zero = p
    small p q r s (suc zero) = q
    small p q r s (suc (suc zero)) = r
    small p q r s (suc (suc (suc zero))) = s
    small p q r s (suc (suc (suc (suc i)))) = omega arith
code_text_by (a ∷ b ∷ c ∷ d ∷ e ∷ word) n four seen is = absurd (grind (arith, nat_tests))

code_fits : (word : List ℕ) (code : FourCc) → code_told word ≡ Some code → (code_text code ≡ word) × IsCode code
unfolding code_text
code_fits word code e =
    let g = map_gave (λ n. record { 0 = n }) (code_in word) code e in
    let h = if_gave ((length word == 4) && list_all is_visible word) (Some (from_le_bytes w32 word)) g.0 g.1 in
    let parted = both (length word == 4) (list_all is_visible word) h.0 in
    let P : FourCc → Type 0 = λ c. (code_text c ≡ word) × IsCode c in
    let text = code_text_by word g.0 parted.0 parted.1 (let is : from_le_bytes w32 word ≡ g.0 = cc in is) in
    subst P g.2 (text, subst (λ w. code_in w ≡ Some g.0) (sym text) g.1)

code_again : (code : FourCc) → IsCode code → code_told (code_text code) ≡ Some code
code_again code h = rw h refl

find_gave : {A : Type 0} (p : A → Bool) (xs : List A) (x : A) → find p xs ≡ Some x → p x ≡ true
find_gave p [] x e = absurd (cc)
find_gave p (y ∷ ys) x e = by_test (p y) refl e (find_gave p ys x)
  where
    by_test : (test : Bool) → p y ≡ test → (if test then Some y else find p ys) ≡ Some x → (find p ys ≡ Some x → p x ≡ true) → p x ≡ true
    by_test true is f rest = subst (λ z. p z ≡ true) (cc) is
    by_test false is f rest = rest f

input_within : (word : List ℕ) (i : ℕ) → input_told word ≡ Some i → nat_lt i (length patterns) ≡ true
input_within word i e = by_tests (bytes_eq (input_name 0) word) (bytes_eq (input_name 1) word) (bytes_eq (input_name 2) word) (bytes_eq (input_name 3) word) e
  where
    by_tests : (a b c d : Bool) → (if a then Some 0 else (if b then Some 1 else (if c then Some 2 else (if d then Some 3 else None)))) ≡ Some i → nat_lt i (length patterns) ≡ true
    by_tests true b c d f = let is : 0 ≡ i = cc in subst (λ k. nat_lt k (length patterns) ≡ true) is refl
    by_tests false true c d f = let is : 1 ≡ i = cc in subst (λ k. nat_lt k (length patterns) ≡ true) is refl
    by_tests false false true d f = let is : 2 ≡ i = cc in subst (λ k. nat_lt k (length patterns) ≡ true) is refl
    by_tests false false false true f = let is : 3 ≡ i = cc in subst (λ k. nat_lt k (length patterns) ≡ true) is refl
    by_tests false false false false f = absurd (cc)

input_fits : (word : List ℕ) (i : ℕ) → input_told word ≡ Some i → (input_name i ≡ word) × (nat_lt i (length patterns) ≡ true)
input_fits word i e = (same_word (input_name i) word (find_gave (λ k. bytes_eq (input_name k) word) (0 ∷ 1 ∷ 2 ∷ 3 ∷ []) i e), input_within word i e)

input_again : (i : ℕ) → nat_lt i (length patterns) ≡ true → input_told (input_name i) ≡ Some i
input_again zero h = refl
input_again (suc zero) h = refl
input_again (suc (suc zero)) h = refl
input_again (suc (suc (suc zero))) h = refl
input_again (suc (suc (suc (suc i)))) h = absurd (grind (arith, nat_tests))

number_of_errno : (n : ℕ) (e : Errno) → errno_of n ≡ Some e → n ≡ errno_number e
number_of_errno n e h = let same = find_gave (λ x. n == errno_number x) errnos e h in grind (arith, nat_tests)

errno_again : (e : Errno) → errno_of (errno_number e) ≡ Some e
errno_again Enoent = refl
errno_again Eio = refl
errno_again Ebadf = refl
errno_again Eagain = refl
errno_again Enomem = refl
errno_again Eacces = refl
errno_again Efault = refl
errno_again Ebusy = refl
errno_again Einval = refl
errno_again Enotty = refl
errno_again Edeadlk = refl
errno_again Emsgsize = refl
errno_again Eopnotsupp = refl

errno_small : (e : Errno) → errno_number e < 2 ^ 32
errno_small Enoent = omega arith
errno_small Eio = omega arith
errno_small Ebadf = omega arith
errno_small Eagain = omega arith
errno_small Enomem = omega arith
errno_small Eacces = omega arith
errno_small Efault = omega arith
errno_small Ebusy = omega arith
errno_small Einval = omega arith
errno_small Enotty = omega arith
errno_small Edeadlk = omega arith
errno_small Emsgsize = omega arith
errno_small Eopnotsupp = omega arith

pub refusal_fits : (words : List (List ℕ)) (e : Errno) → refusal_told words ≡ Some e → reply_words (Replies.Refused e) ≡ words
refusal_fits (err ∷ number ∷ name ∷ []) e h =
    let first = if_gave (bytes_eq err (codes "err")) (errno_told number name) e h in
    let named_by = then_gave (named name) (option_and_then errno_of (count_told number)) e first.1 in
    let found = if_gave (bytes_eq (errno_name named_by.0) name) (Some named_by.0) e named_by.2 in
    let counted = then_gave errno_of (count_told number) named_by.0 named_by.1 in
    let same : named_by.0 ≡ e = cc in
    let n : counted.0 ≡ errno_number e = number_of_errno counted.0 named_by.0 counted.2 ∙ ap errno_number same in
    let number_is : decimal (errno_number e) ≡ number = ap decimal (sym n) ∙ (count_fits number counted.0 counted.1).0 in
    let name_is : errno_name e ≡ name = ap errno_name (sym same) ∙ same_word (errno_name named_by.0) name found.0 in
    rw (number_is, name_is, same_word err (codes "err") first.0) refl
refusal_fits [] e h = absurd (cc)
refusal_fits (a ∷ []) e h = absurd (cc)
refusal_fits (a ∷ b ∷ []) e h = absurd (cc)
refusal_fits (a ∷ b ∷ c ∷ d ∷ words) e h = absurd (cc)

pub refusal_again : (e : Errno) → refusal_told (reply_words (Replies.Refused e)) ≡ Some e
refusal_again e = rw (count_again (errno_number e) (errno_small e), errno_again e, word_same (errno_name e)) refl

-- ---- kinds

-- what is told where a call isn't refused is of this kind
abbrev pub has_kind : Tells → Reply → Bool
has_kind Kinds.Nothing Replies.Done = true
has_kind Kinds.Caps (Replies.Caps all device) = true
has_kind Kinds.Code (Replies.Code code) = true
has_kind Kinds.Format (Replies.Format f line size) = true
has_kind Kinds.InputName (Replies.InputName input) = nat_lt input (length patterns)
has_kind Kinds.InputIs (Replies.InputIs input) = true
has_kind Kinds.Count (Replies.Count count) = true
has_kind Kinds.Buf (Replies.Buf len flags) = true
has_kind Kinds.Pages (Replies.Pages count) = true
has_kind Kinds.Frame (Replies.Frame index used sequence timestamp flags) = true
has_kind Kinds.Mapping (Replies.Mapped address len) = true
has_kind Kinds.Bytes (Replies.Bytes bytes) = true
has_kind Kinds.Digest (Replies.Digest digest) = true
has_kind Kinds.Event (Replies.Event kind frame pending sequence) = true
has_kind kind reply = false

abbrev is_refusal : Reply → Bool
is_refusal (Replies.Refused e) = true
is_refusal reply = false

kind_same : (call : Call) (r : Reply) → is_refusal r ≡ false → is_kind_of call r ≡ has_kind (tells call) r
kind_same call (Replies.Refused e) h = absurd (cc)
kind_same (Asks.OpenHandle nonblock) Replies.Done h = refl
kind_same Asks.CloseHandle Replies.Done h = refl
kind_same Asks.QueryCap Replies.Done h = refl
kind_same (Asks.EnumFmt t i) Replies.Done h = refl
kind_same (Asks.GFmt t) Replies.Done h = refl
kind_same (Asks.TryFmt t f w height) Replies.Done h = refl
kind_same (Asks.SFmt t f w height) Replies.Done h = refl
kind_same (Asks.EnumInput i) Replies.Done h = refl
kind_same Asks.GInput Replies.Done h = refl
kind_same (Asks.SInput i) Replies.Done h = refl
kind_same (Asks.ReqBufs t m n) Replies.Done h = refl
kind_same (Asks.QueryBuf t i) Replies.Done h = refl
kind_same (Asks.UAlloc u len off) Replies.Done h = refl
kind_same (Asks.QBuf t i user used ts) Replies.Done h = refl
kind_same (Asks.StreamOn t) Replies.Done h = refl
kind_same (Asks.StreamOff t) Replies.Done h = refl
kind_same (Asks.DqBuf t) Replies.Done h = refl
kind_same (Asks.Mmap m t i ro) Replies.Done h = refl
kind_same (Asks.Munmap m) Replies.Done h = refl
kind_same (Asks.Peek m off len) Replies.Done h = refl
kind_same (Asks.Hash m) Replies.Done h = refl
kind_same (Asks.Poke m off bytes) Replies.Done h = refl
kind_same (Asks.Fill m seed) Replies.Done h = refl
kind_same (Asks.Subscribe e) Replies.Done h = refl
kind_same (Asks.Unsubscribe e) Replies.Done h = refl
kind_same Asks.DqEvent Replies.Done h = refl
kind_same Asks.CloseHandle (Replies.Caps a b) h = refl
kind_same Asks.CloseHandle (Replies.Code a) h = refl
kind_same Asks.CloseHandle (Replies.Format a b c) h = refl
kind_same Asks.CloseHandle (Replies.InputName a) h = refl
kind_same Asks.CloseHandle (Replies.InputIs a) h = refl
kind_same Asks.CloseHandle (Replies.Count a) h = refl
kind_same Asks.CloseHandle (Replies.Buf a b) h = refl
kind_same Asks.CloseHandle (Replies.Pages a) h = refl
kind_same Asks.CloseHandle (Replies.Frame a b c d g) h = refl
kind_same Asks.CloseHandle (Replies.Mapped a b) h = refl
kind_same Asks.CloseHandle (Replies.Bytes a) h = refl
kind_same Asks.CloseHandle (Replies.Digest a) h = refl
kind_same Asks.CloseHandle (Replies.Event a b c d) h = refl
kind_same call r h = refl

-- ---- what an `ok` tells

record Shows (kind : Tells) (words : List (List ℕ)) (reply : Reply) : Type 0 where
  pub printed : reply_words reply ≡ codes "ok" ∷ words
  pub fits : FitsReply reply
  pub has : has_kind kind reply ≡ true

shown : (kind : Tells) (words : List (List ℕ)) (r : Reply) → told kind words ≡ Some r → Shows kind words r
shown Kinds.Nothing [] r e = subst (Shows Kinds.Nothing []) (let same : Replies.Done ≡ r = cc in same) (record { printed = refl; fits = tt; has = refl })
shown Kinds.Caps (a ∷ b ∷ []) r e =
    let g = two_gave Replies.Caps (flags_told a) (flags_told b) r e in
    let x = flags_fit a g.0 g.2 in
    let y = flags_fit b g.1 g.3 in
    subst (Shows Kinds.Caps (a ∷ b ∷ [])) g.4 (record { printed = rw (x.0, y.0) refl; fits = (x.1, y.1); has = refl })
shown Kinds.Code (a ∷ []) r e =
    let g = map_gave Replies.Code (code_told a) r e in
    let x = code_fits a g.0 g.1 in
    subst (Shows Kinds.Code (a ∷ [])) g.2 (record { printed = rw x.0 refl; fits = x.1; has = refl })
shown Kinds.Format (a ∷ b ∷ c ∷ d ∷ i ∷ []) r e =
    let g = then_gave _ (code_told a) r e in
    let h = then_gave _ (count_told b) r g.2 in
    let j = then_gave _ (count_told c) r h.2 in
    let k = then_gave _ (count_told d) r j.2 in
    let l = map_gave _ (count_told i) r k.2 in
    let x = code_fits a g.0 g.1 in
    let y = count_fits b h.0 h.1 in
    let z = count_fits c j.0 j.1 in
    let u = count_fits d k.0 k.1 in
    let v = count_fits i l.0 l.1 in
    subst (Shows Kinds.Format (a ∷ b ∷ c ∷ d ∷ i ∷ [])) l.2 (record { printed = rw (x.0, y.0, z.0, u.0, v.0) refl; fits = (x.1, y.1, z.1, u.1, v.1); has = refl })
shown Kinds.InputName (a ∷ []) r e =
    let g = map_gave Replies.InputName (input_told a) r e in
    let x = input_fits a g.0 g.1 in
    subst (Shows Kinds.InputName (a ∷ [])) g.2 (record { printed = rw x.0 refl; fits = tt; has = x.1 })
shown Kinds.InputIs (a ∷ []) r e =
    let g = map_gave Replies.InputIs (count_told a) r e in
    let x = count_fits a g.0 g.1 in
    subst (Shows Kinds.InputIs (a ∷ [])) g.2 (record { printed = rw x.0 refl; fits = x.1; has = refl })
shown Kinds.Count (a ∷ []) r e =
    let g = map_gave Replies.Count (count_told a) r e in
    let x = count_fits a g.0 g.1 in
    subst (Shows Kinds.Count (a ∷ [])) g.2 (record { printed = rw x.0 refl; fits = x.1; has = refl })
shown Kinds.Buf (a ∷ b ∷ []) r e =
    let g = two_gave Replies.Buf (count_told a) (flags_told b) r e in
    let x = count_fits a g.0 g.2 in
    let y = flags_fit b g.1 g.3 in
    subst (Shows Kinds.Buf (a ∷ b ∷ [])) g.4 (record { printed = rw (x.0, y.0) refl; fits = (x.1, y.1); has = refl })
shown Kinds.Pages (a ∷ []) r e =
    let g = map_gave Replies.Pages (count_told a) r e in
    let x = count_fits a g.0 g.1 in
    subst (Shows Kinds.Pages (a ∷ [])) g.2 (record { printed = rw x.0 refl; fits = x.1; has = refl })
shown Kinds.Frame (a ∷ b ∷ c ∷ d ∷ i ∷ []) r e =
    let g = then_gave _ (count_told a) r e in
    let h = then_gave _ (count_told b) r g.2 in
    let j = then_gave _ (count_told c) r h.2 in
    let k = then_gave _ (long_told d) r j.2 in
    let l = map_gave _ (flags_told i) r k.2 in
    let x = count_fits a g.0 g.1 in
    let y = count_fits b h.0 h.1 in
    let z = count_fits c j.0 j.1 in
    let u = long_fits d k.0 k.1 in
    let v = flags_fit i l.0 l.1 in
    subst (Shows Kinds.Frame (a ∷ b ∷ c ∷ d ∷ i ∷ [])) l.2 (record { printed = rw (x.0, y.0, z.0, u.0, v.0) refl; fits = (x.1, y.1, z.1, u.1, v.1); has = refl })
shown Kinds.Mapping (a ∷ b ∷ []) r e =
    let g = two_gave Replies.Mapped (address_told a) (count_told b) r e in
    let x = address_fits a g.0 g.2 in
    let y = count_fits b g.1 g.3 in
    subst (Shows Kinds.Mapping (a ∷ b ∷ [])) g.4 (record { printed = rw (x.0, y.0) refl; fits = (x.1, y.1); has = refl })
shown Kinds.Bytes (a ∷ []) r e =
    let g = map_gave Replies.Bytes (small_told a) r e in
    let x = small_fits a g.0 g.1 in
    subst (Shows Kinds.Bytes (a ∷ [])) g.2 (record { printed = rw x.0 refl; fits = x.1; has = refl })
shown Kinds.Digest (a ∷ []) r e =
    let g = map_gave Replies.Digest (bytes_told 32 a) r e in
    let x = bytes_fit 32 a g.0 g.1 in
    subst (Shows Kinds.Digest (a ∷ [])) g.2 (record { printed = rw x.written refl; fits = (x.held, x.count); has = refl })
shown Kinds.Event (a ∷ b ∷ c ∷ d ∷ []) r e =
    let g = then_gave _ (count_told a) r e in
    let h = then_gave _ (count_told b) r g.2 in
    let j = then_gave _ (count_told c) r h.2 in
    let l = map_gave _ (count_told d) r j.2 in
    let x = count_fits a g.0 g.1 in
    let y = count_fits b h.0 h.1 in
    let z = count_fits c j.0 j.1 in
    let v = count_fits d l.0 l.1 in
    subst (Shows Kinds.Event (a ∷ b ∷ c ∷ d ∷ [])) l.2 (record { printed = rw (x.0, y.0, z.0, v.0) refl; fits = (x.1, y.1, z.1, v.1); has = refl })
shown kind words r e = absurd (cc)

told_again : (kind : Tells) (r : Reply) → has_kind kind r ≡ true → FitsReply r → told kind (drop 1 (reply_words r)) ≡ Some r
told_again Kinds.Nothing Replies.Done h f = refl
told_again Kinds.Caps (Replies.Caps all device) h f = rw (flags_again all f.0, flags_again device f.1) refl
told_again Kinds.Code (Replies.Code code) h f = rw (code_again code f) refl
told_again Kinds.Format (Replies.Format x line size) h f = rw (code_again x.code f.0, count_again x.width f.1, count_again x.height f.2, count_again line f.3, count_again size f.4) refl
told_again Kinds.InputName (Replies.InputName input) h f = rw (input_again input h) refl
told_again Kinds.InputIs (Replies.InputIs input) h f = rw (count_again input f) refl
told_again Kinds.Count (Replies.Count count) h f = rw (count_again count f) refl
told_again Kinds.Buf (Replies.Buf len flags) h f = rw (count_again len f.0, flags_again flags f.1) refl
told_again Kinds.Pages (Replies.Pages count) h f = rw (count_again count f) refl
told_again Kinds.Frame (Replies.Frame index used sequence timestamp flags) h f = rw (count_again index f.0, count_again used f.1, count_again sequence f.2, long_again timestamp f.3, flags_again flags f.4) refl
told_again Kinds.Mapping (Replies.Mapped address len) h f = rw (address_again address f.0, count_again len f.1) refl
told_again Kinds.Bytes (Replies.Bytes bytes) h f = rw (small_again bytes f) refl
told_again Kinds.Digest (Replies.Digest digest) h f = rw (bytes_again 32 digest f.1 f.0) refl
told_again Kinds.Event (Replies.Event kind frame pending sequence) h f = rw (count_again kind f.0, count_again frame f.1, count_again pending f.2, count_again sequence f.3) refl
told_again kind r h f = absurd (cc)

-- ---- replies

ok_by : (call : Call) (first : List ℕ) (words : List (List ℕ)) (r : Reply) → bytes_eq first (codes "ok") ≡ true → Shows (tells call) words r → (reply_words r ≡ first ∷ words) × (is_kind_of call r ≡ true) × FitsReply r
ok_by call first words (Replies.Refused e) is s = absurd (let k = s.has in cc)
ok_by call first words Replies.Done is s = (s.printed ∙ ap (λ x. x ∷ words) (sym (same_word first (codes "ok") is)), kind_same call Replies.Done refl ∙ s.has, s.fits)
ok_by call first words (Replies.Caps a b) is s = (s.printed ∙ ap (λ x. x ∷ words) (sym (same_word first (codes "ok") is)), kind_same call (Replies.Caps a b) refl ∙ s.has, s.fits)
ok_by call first words (Replies.Code a) is s = (s.printed ∙ ap (λ x. x ∷ words) (sym (same_word first (codes "ok") is)), kind_same call (Replies.Code a) refl ∙ s.has, s.fits)
ok_by call first words (Replies.Format a b c) is s = (s.printed ∙ ap (λ x. x ∷ words) (sym (same_word first (codes "ok") is)), kind_same call (Replies.Format a b c) refl ∙ s.has, s.fits)
ok_by call first words (Replies.InputName a) is s = (s.printed ∙ ap (λ x. x ∷ words) (sym (same_word first (codes "ok") is)), kind_same call (Replies.InputName a) refl ∙ s.has, s.fits)
ok_by call first words (Replies.InputIs a) is s = (s.printed ∙ ap (λ x. x ∷ words) (sym (same_word first (codes "ok") is)), kind_same call (Replies.InputIs a) refl ∙ s.has, s.fits)
ok_by call first words (Replies.Count a) is s = (s.printed ∙ ap (λ x. x ∷ words) (sym (same_word first (codes "ok") is)), kind_same call (Replies.Count a) refl ∙ s.has, s.fits)
ok_by call first words (Replies.Buf a b) is s = (s.printed ∙ ap (λ x. x ∷ words) (sym (same_word first (codes "ok") is)), kind_same call (Replies.Buf a b) refl ∙ s.has, s.fits)
ok_by call first words (Replies.Pages a) is s = (s.printed ∙ ap (λ x. x ∷ words) (sym (same_word first (codes "ok") is)), kind_same call (Replies.Pages a) refl ∙ s.has, s.fits)
ok_by call first words (Replies.Frame a b c d g) is s = (s.printed ∙ ap (λ x. x ∷ words) (sym (same_word first (codes "ok") is)), kind_same call (Replies.Frame a b c d g) refl ∙ s.has, s.fits)
ok_by call first words (Replies.Mapped a b) is s = (s.printed ∙ ap (λ x. x ∷ words) (sym (same_word first (codes "ok") is)), kind_same call (Replies.Mapped a b) refl ∙ s.has, s.fits)
ok_by call first words (Replies.Bytes a) is s = (s.printed ∙ ap (λ x. x ∷ words) (sym (same_word first (codes "ok") is)), kind_same call (Replies.Bytes a) refl ∙ s.has, s.fits)
ok_by call first words (Replies.Digest a) is s = (s.printed ∙ ap (λ x. x ∷ words) (sym (same_word first (codes "ok") is)), kind_same call (Replies.Digest a) refl ∙ s.has, s.fits)
ok_by call first words (Replies.Event a b c d) is s = (s.printed ∙ ap (λ x. x ∷ words) (sym (same_word first (codes "ok") is)), kind_same call (Replies.Event a b c d) refl ∙ s.has, s.fits)

-- what is read is printed as the words, and is of the call's kind
pub reply_fits : (call : Call) (words : List (List ℕ)) (r : Reply) → reply_told call words ≡ Some r → (reply_words r ≡ words) × (is_kind_of call r ≡ true) × FitsReply r
reply_fits call [] r e = absurd (cc)
reply_fits call (first ∷ words) r e = by_test (bytes_eq first (codes "ok")) refl e
  where
    by_test : (test : Bool) → bytes_eq first (codes "ok") ≡ test → (if test then told (tells call) words else option_map Replies.Refused (refusal_told (first ∷ words))) ≡ Some r → (reply_words r ≡ first ∷ words) × (is_kind_of call r ≡ true) × FitsReply r
    by_test true is h = ok_by call first words r is (shown (tells call) words r h)
    by_test false is h =
        let g = map_gave Replies.Refused (refusal_told (first ∷ words)) r h in
        let P : Reply → Type 0 = λ x. (reply_words x ≡ first ∷ words) × (is_kind_of call x ≡ true) × FitsReply x in
        subst P g.2 (refusal_fits (first ∷ words) g.0 g.1, refl, tt)

-- a reply of the call's kind is read from the words that are printed of it
pub reply_again : (call : Call) (r : Reply) → is_kind_of call r ≡ true → FitsReply r → reply_told call (reply_words r) ≡ Some r
reply_again call (Replies.Refused e) h f = ap (option_map Replies.Refused) (refusal_again e)
reply_again call Replies.Done h f = told_again (tells call) Replies.Done (sym (kind_same call Replies.Done refl) ∙ h) f
reply_again call (Replies.Caps a b) h f = told_again (tells call) (Replies.Caps a b) (sym (kind_same call (Replies.Caps a b) refl) ∙ h) f
reply_again call (Replies.Code a) h f = told_again (tells call) (Replies.Code a) (sym (kind_same call (Replies.Code a) refl) ∙ h) f
reply_again call (Replies.Format a b c) h f = told_again (tells call) (Replies.Format a b c) (sym (kind_same call (Replies.Format a b c) refl) ∙ h) f
reply_again call (Replies.InputName a) h f = told_again (tells call) (Replies.InputName a) (sym (kind_same call (Replies.InputName a) refl) ∙ h) f
reply_again call (Replies.InputIs a) h f = told_again (tells call) (Replies.InputIs a) (sym (kind_same call (Replies.InputIs a) refl) ∙ h) f
reply_again call (Replies.Count a) h f = told_again (tells call) (Replies.Count a) (sym (kind_same call (Replies.Count a) refl) ∙ h) f
reply_again call (Replies.Buf a b) h f = told_again (tells call) (Replies.Buf a b) (sym (kind_same call (Replies.Buf a b) refl) ∙ h) f
reply_again call (Replies.Pages a) h f = told_again (tells call) (Replies.Pages a) (sym (kind_same call (Replies.Pages a) refl) ∙ h) f
reply_again call (Replies.Frame a b c d g) h f = told_again (tells call) (Replies.Frame a b c d g) (sym (kind_same call (Replies.Frame a b c d g) refl) ∙ h) f
reply_again call (Replies.Mapped a b) h f = told_again (tells call) (Replies.Mapped a b) (sym (kind_same call (Replies.Mapped a b) refl) ∙ h) f
reply_again call (Replies.Bytes a) h f = told_again (tells call) (Replies.Bytes a) (sym (kind_same call (Replies.Bytes a) refl) ∙ h) f
reply_again call (Replies.Digest a) h f = told_again (tells call) (Replies.Digest a) (sym (kind_same call (Replies.Digest a) refl) ∙ h) f
reply_again call (Replies.Event a b c d) h f = told_again (tells call) (Replies.Event a b c d) (sym (kind_same call (Replies.Event a b c d) refl) ∙ h) f
