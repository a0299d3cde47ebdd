-- The words of a printed line are those that it was printed of.
use Rattle.std.proofs.Common.{◌≡◌, ℕ, zero, suc, ◌/◌, ◌%◌, ◌^◌, ◌<◌, ◌==◌, Bool, true, false, not, ◌&&◌, List, [], ◌∷◌, ◌++◌, append_assoc, length, get_or, codes, refl, ap, arith}
use Rattle.std.specs.Prelude.{nat_le}
use Rattle.std.specs.Fmt.{decimal}
use Rattle.std.specs.Int.{to_be_bytes, w32, w64}
use Rattle.std.specs.List.{list_all, join_with_byte}
use Rattle.std.specs.Str.{bytes_eq}
use Rattle.std.proofs.lemmas.Bool.Decides.{nat_tests}
use Rattle.hex.specs.Hex.{encode_lower, encode_with, lower_digits, IsBytes}
use Rattle.hex.proofs.HexLemmas.{length-encode_with}
use Rattle.v4l_const.specs.Errno.{errno_number, errno_name}
use Rattle.v4l_const.specs.declared.errno.Errno.{Errno}
use Rattle.v4l_const.specs.declared.errno.Errno.TheVariants.{Enoent, Eio, Ebadf, Eagain, Enomem, Eacces, Efault, Ebusy, Einval, Enotty, Edeadlk, Emsgsize, Eopnotsupp}
use Rattle.v4l_const.specs.declared.four_cc.FourCc.{FourCc}
use Rattle.vm_local.specs.declared.reply.Reply.{Reply}
use Rattle.vm_local.specs.declared.reply.Reply.TheVariants.{Done, Refused, Caps, Code, Format, InputName, InputIs, Count, Buf, Pages, Frame, Mapped, Bytes, Digest, Event}
use Rattle.vm_wire.specs.Records.{input_name}
use Rattle.vm_script.specs.Words.{is_digit, is_visible, ends_line}
use Rattle.vm_script.proofs.WordLemmas.{is_whole}
use Rattle.vm_report.specs.Printed.{FitsReply, IsCode}
use Rattle.vm_report.specs.Text.{flags_text, address_text, code_text, reply_words}
use Rattle.vm_report.specs.Reading.{is_space, words_of}
use Rattle.vm_report.proofs.WordLemmas.{same_word, both, decimal_digits}
use Rattle.vm_report.proofs.PieceLemmas.{no_equals, joined_pieces, join_all}
use Rattle.vm_report.proofs.ReplyLemmas.{if_gave}

-- ---- words without spaces and newlines

-- all bytes stand above the space
abbrev pub is_dark : List ℕ → Bool
is_dark w = list_all (nat_le 33) w

abbrev pub is_plain : List ℕ → Bool
is_plain w = is_whole is_space w && is_whole ends_line w

-- dark, and no equals sign
abbrev pub is_said : List ℕ → Bool
is_said w = is_dark w && not (bytes_eq w (codes "="))

pub weaker : (p q : ℕ → Bool) → ((b : ℕ) → p b ≡ true → q b ≡ true) → (xs : List ℕ) → list_all p xs ≡ true → list_all q xs ≡ true
weaker p q h [] all = refl
weaker p q h (x ∷ xs) all = let parted = both (p x) (list_all p xs) all in rw (h x parted.0, weaker p q h xs parted.1) refl

no_space : (b : ℕ) → nat_le 33 b ≡ true → not (is_space b) ≡ true
no_space b h = grind (arith, nat_tests)

no_newline : (b : ℕ) → nat_le 33 b ≡ true → not (ends_line b) ≡ true
no_newline b h = grind (arith, nat_tests)

pub dark_plain : (w : List ℕ) → is_dark w ≡ true → is_plain w ≡ true
dark_plain w h = rw (weaker (nat_le 33) (λ b. not (is_space b)) no_space w h, weaker (nat_le 33) (λ b. not (ends_line b)) no_newline w h) refl

digit_dark : (b : ℕ) → is_digit b ≡ true → nat_le 33 b ≡ true
digit_dark b h = let low = (both (nat_le 48 b) (nat_le b 57) h).0 in grind (arith, nat_tests)

visible_dark : (b : ℕ) → is_visible b ≡ true → nat_le 33 b ≡ true
visible_dark b h = (both (nat_le 33 b) (nat_le b 126) h).0

pub decimal_dark : (n : ℕ) → n < 2 ^ 64 → is_dark (decimal n) ≡ true
decimal_dark n h = weaker is_digit (nat_le 33) digit_dark (decimal n) (decimal_digits n h)

hex_dark : (i : ℕ) → i < 16 → nat_le 33 (get_or lower_digits i 0) ≡ true
hex_dark zero h = refl
hex_dark (suc zero) h = refl
hex_dark (suc (suc zero)) h = refl
hex_dark (suc (suc (suc zero))) h = refl
hex_dark (suc (suc (suc (suc zero)))) h = refl
hex_dark (suc (suc (suc (suc (suc zero))))) h = refl
hex_dark (suc (suc (suc (suc (suc (suc zero)))))) h = refl
hex_dark (suc (suc (suc (suc (suc (suc (suc zero))))))) h = refl
hex_dark (suc (suc (suc (suc (suc (suc (suc (suc zero)))))))) h = refl
hex_dark (suc (suc (suc (suc (suc (suc (suc (suc (suc zero))))))))) h = refl
hex_dark (suc (suc (suc (suc (suc (suc (suc (suc (suc (suc zero)))))))))) h = refl
hex_dark (suc (suc (suc (suc (suc (suc (suc (suc (suc (suc (suc zero))))))))))) h = refl
hex_dark (suc (suc (suc (suc (suc (suc (suc (suc (suc (suc (suc (suc zero)))))))))))) h = refl
hex_dark (suc (suc (suc (suc (suc (suc (suc (suc (suc (suc (suc (suc (suc zero))))))))))))) h = refl
hex_dark (suc (suc (suc (suc (suc (suc (suc (suc (suc (suc (suc (suc (suc (suc zero)))))))))))))) h = refl
hex_dark (suc (suc (suc (suc (suc (suc (suc (suc (suc (suc (suc (suc (suc (suc (suc zero))))))))))))))) h = refl
hex_dark (suc (suc (suc (suc (suc (suc (suc (suc (suc (suc (suc (suc (suc (suc (suc (suc i)))))))))))))))) h = absurd (omega (arith, h))

pub digits_dark : (bytes : List ℕ) → IsBytes bytes → is_dark (encode_lower bytes) ≡ true
unfolding encode_with
digits_dark [] h = refl
digits_dark (b ∷ bytes) h =
    let small : b < 256 = h 0 in
    rw (hex_dark (b / 16) (omega (arith, small)), hex_dark (b % 16) (omega arith), digits_dark bytes (λ i. h (suc i))) refl

-- ---- no equals sign

not_by_length : (w : List ℕ) → (length w ≡ 1 → ⊥) → bytes_eq w (codes "=") ≡ false
not_by_length w other = by_test (bytes_eq w (codes "=")) refl
  where
    by_test : (test : Bool) → bytes_eq w (codes "=") ≡ test → test ≡ false
    by_test true e = absurd (other (ap length (same_word w (codes "=") e)))
    by_test false e = refl

pub not_digits : (w c : List ℕ) → list_all is_digit w ≡ true → list_all is_digit c ≡ false → bytes_eq w c ≡ false
not_digits w c h k = by_test (bytes_eq w c) refl
  where
    by_test : (test : Bool) → bytes_eq w c ≡ test → test ≡ false
    by_test true e = absurd (let same : list_all is_digit w ≡ list_all is_digit c = ap (list_all is_digit) (same_word w c e) in cc)
    by_test false e = refl

said : (w : List ℕ) → is_dark w ≡ true → bytes_eq w (codes "=") ≡ false → is_said w ≡ true
said w h k = rw (h, k) refl

pub decimal_said : (n : ℕ) → n < 2 ^ 64 → is_said (decimal n) ≡ true
decimal_said n h = said (decimal n) (decimal_dark n h) (not_digits (decimal n) (codes "=") (decimal_digits n h) refl)

count_said : (n : ℕ) → n < 2 ^ 32 → is_said (decimal n) ≡ true
count_said n h = decimal_said n (omega (arith, h))

digits_said : (bytes : List ℕ) → IsBytes bytes → is_said (encode_lower bytes) ≡ true
digits_said bytes h = said (encode_lower bytes) (digits_dark bytes h) (not_by_length (encode_lower bytes) (λ one. let twice = length-encode_with lower_digits bytes in omega (arith, twice, one)))

four_bytes : (n : ℕ) → IsBytes (to_be_bytes w32 n)
four_bytes n zero = omega arith
four_bytes n (suc zero) = omega arith
four_bytes n (suc (suc zero)) = omega arith
four_bytes n (suc (suc (suc zero))) = omega arith
four_bytes n (suc (suc (suc (suc i)))) = omega arith

eight_bytes : (n : ℕ) → IsBytes (to_be_bytes w64 n)
eight_bytes n zero = omega arith
eight_bytes n (suc zero) = omega arith
eight_bytes n (suc (suc zero)) = omega arith
eight_bytes n (suc (suc (suc zero))) = omega arith
eight_bytes n (suc (suc (suc (suc zero)))) = omega arith
eight_bytes n (suc (suc (suc (suc (suc zero))))) = omega arith
eight_bytes n (suc (suc (suc (suc (suc (suc zero)))))) = omega arith
eight_bytes n (suc (suc (suc (suc (suc (suc (suc zero))))))) = omega arith
eight_bytes n (suc (suc (suc (suc (suc (suc (suc (suc i)))))))) = omega arith

flags_said : (n : ℕ) → is_said (flags_text n) ≡ true
unfolding flags_text
flags_said n = digits_said (to_be_bytes w32 n) (four_bytes n)

pub address_said : (n : ℕ) → is_said (address_text n) ≡ true
unfolding address_text
address_said n = digits_said (to_be_bytes w64 n) (eight_bytes n)

code_said : (code : FourCc) → IsCode code → is_said (code_text code) ≡ true
code_said code h =
    let w : List ℕ = code_text code in
    let g = if_gave ((length w == 4) && list_all is_visible w) _ code.0 h in
    let parted = both (length w == 4) (list_all is_visible w) g.0 in
    let four : length w ≡ 4 = (let e = parted.0 in grind (arith, nat_tests)) in
    said w (weaker is_visible (nat_le 33) visible_dark w parted.1) (not_by_length w (λ one. omega (arith, four, one)))

errno_said : (e : Errno) → is_said (errno_name e) ≡ true
errno_said Enoent = refl
errno_said Eio = refl
errno_said Ebadf = refl
errno_said Eagain = refl
errno_said Enomem = refl
errno_said Eacces = refl
errno_said Efault = refl
errno_said Ebusy = refl
errno_said Einval = refl
errno_said Enotty = refl
errno_said Edeadlk = refl
errno_said Emsgsize = refl
errno_said Eopnotsupp = refl

errno_small : (e : Errno) → errno_number e < 2 ^ 32
errno_small Enoent = omega arith
errno_small Eio = omega arith
errno_small Ebadf = omega arith
errno_small Eagain = omega arith
errno_small Enomem = omega arith
errno_small Eacces = omega arith
errno_small Efault = omega arith
errno_small Ebusy = omega arith
errno_small Einval = omega arith
errno_small Enotty = omega arith
errno_small Edeadlk = omega arith
errno_small Emsgsize = omega arith
errno_small Eopnotsupp = omega arith

input_said : (i : ℕ) → is_said (input_name i) ≡ true
input_said zero = refl
input_said (suc zero) = refl
input_said (suc (suc zero)) = refl
input_said (suc (suc (suc zero))) = refl
input_said (suc (suc (suc (suc i)))) = refl

-- the words of a reply
pub reply_said : (r : Reply) → FitsReply r → list_all is_said (reply_words r) ≡ true
reply_said Done f = refl
reply_said (Refused e) f = rw (count_said (errno_number e) (errno_small e), errno_said e) refl
reply_said (Caps all device) f = rw (flags_said all, flags_said device) refl
reply_said (Code code) f = rw (code_said code f) refl
reply_said (Format x line size) f = rw (code_said x.code f.0, count_said x.width f.1, count_said x.height f.2, count_said line f.3, count_said size f.4) refl
reply_said (InputName input) f = rw (input_said input) refl
reply_said (InputIs input) f = rw (count_said input f) refl
reply_said (Count count) f = rw (count_said count f) refl
reply_said (Buf len flags) f = rw (count_said len f.0, flags_said flags) refl
reply_said (Pages count) f = rw (count_said count f) refl
reply_said (Frame index used sequence timestamp flags) f = rw (count_said index f.0, count_said used f.1, count_said sequence f.2, decimal_said timestamp f.3, flags_said flags) refl
reply_said (Mapped address len) f = rw (address_said address, count_said len f.1) refl
reply_said (Bytes bytes) f = rw (digits_said bytes f.0) refl
reply_said (Digest digest) f = rw (digits_said digest f.0) refl
reply_said (Event kind frame pending sequence) f = rw (count_said kind f.0, count_said frame f.1, count_said pending f.2, count_said sequence f.3) refl

pub said_plain : (ws : List (List ℕ)) → list_all is_said ws ≡ true → (list_all is_plain ws ≡ true) × (no_equals ws ≡ true)
said_plain [] h = (refl, refl)
said_plain (w ∷ ws) h =
    let parted = both (is_said w) (list_all is_said ws) h in
    let word = both (is_dark w) (not (bytes_eq w (codes "="))) parted.0 in
    let rest = said_plain ws parted.1 in
    (rw (dark_plain w word.0, rest.0) refl, rw (word.1, rest.1) refl)

-- ---- lines

plain_parts : (ws : List (List ℕ)) → list_all is_plain ws ≡ true → (list_all (is_whole is_space) ws ≡ true) × (list_all (is_whole ends_line) ws ≡ true)
plain_parts [] h = (refl, refl)
plain_parts (w ∷ ws) h =
    let parted = both (is_plain w) (list_all is_plain ws) h in
    let word = both (is_whole is_space w) (is_whole ends_line w) parted.0 in
    let rest = plain_parts ws parted.1 in
    (rw (word.0, rest.0) refl, rw (word.1, rest.1) refl)

-- the words of a line of plain words
pub line_words : (ws : List (List ℕ)) → list_all is_plain ws ≡ true → 0 < length ws → words_of (join_with_byte 32 ws) ≡ ws
line_words ws h some = joined_pieces 32 is_space refl ws (plain_parts ws h).0 some

-- such a line has no newline
pub line_whole : (ws : List (List ℕ)) → list_all is_plain ws ≡ true → is_whole ends_line (join_with_byte 32 ws) ≡ true
line_whole ws h = join_all (λ b. not (ends_line b)) 32 refl ws (plain_parts ws h).1

pub plain_append : (xs ys : List (List ℕ)) → list_all is_plain xs ≡ true → list_all is_plain ys ≡ true → list_all is_plain (xs ++ ys) ≡ true
plain_append [] ys h k = k
plain_append (x ∷ xs) ys h k = let parted = both (is_plain x) (list_all is_plain xs) h in rw (parted.0, plain_append xs ys parted.1 k) refl

pub join_append : (c : ℕ) (xs ys : List (List ℕ)) → 0 < length xs → 0 < length ys → join_with_byte c (xs ++ ys) ≡ join_with_byte c xs ++ c ∷ join_with_byte c ys
join_append c [] ys h k = absurd (omega arith)
join_append c (x ∷ []) [] h k = absurd (omega arith)
join_append c (x ∷ []) (y ∷ ys) h k = refl
join_append c (x ∷ z ∷ xs) ys h k = rw (join_append c (z ∷ xs) ys (omega arith) k) (simp append_assoc)
