-- Each line is read from the words that are printed of it, and from no others.
use Rattle.std.proofs.Common.{◌≡◌, ℕ, ◌<◌, ◌^◌, ◌==◌, Bool, true, false, not, ◌&&◌, ◌||◌, List, [], ◌∷◌, ◌++◌, length, length-append, subst, codes, refl, ap, sym, ◌∙◌, append_assoc, arith, Option, Some, None, Result, Ok, Err, if◌then◌else◌}
use Rattle.std.specs.Prelude.{nat_le, IfSome, filter}
use Rattle.std.specs.Fmt.{decimal}
use Rattle.std.specs.List.{list_all, join_with_byte}
use Rattle.std.specs.Option.{option_map}
use Rattle.std.specs.Str.{bytes_eq}
use Rattle.std.proofs.lemmas.Bool.Decides.{nat_tests}
use Rattle.hex.specs.Hex.{encode_lower}
use Rattle.vm_local.specs.declared.call.Call.{Call}
use Rattle.vm_local.specs.declared.entry.Entry.{Entry}
use Rattle.vm_local.specs.declared.entry.Entry.TheVariants.{Called, Finish, Bad, Give}
use Rattle.vm_local.specs.declared.reply.Reply.{Reply}
use Rattle.vm_local.specs.declared.reply.Reply.TheVariants.{Refused}
use Rattle.vm_region.specs.declared.entry.RegionEntry.{RegionEntry}
use Rattle.vm_region.specs.declared.entry.RegionEntry.TheVariants.{Map, Drop}
use Rattle.vm_script.specs.declared.fault.ScriptKind.{ScriptKind}
use Rattle.vm_script.specs.declared.line.RawChain.{RawChain}
use Rattle.vm_script.specs.declared.statement.Statement.{Statement}
use Rattle.vm_script.specs.Words.{words_in, lines_in, is_digit, is_lower, begins_lower, is_name, name_in, ends_line, is_empty, parts_words, pieces_by}
use Rattle.vm_script.specs.Statements.{built_statement_in, call_numbers, is_statement, reads_as}
use Rattle.vm_script.proofs.CallLemmas.{same_call}
use Rattle.vm_script.proofs.StatementLemmas.{statement_is}
use Rattle.vm_script.proofs.WordLemmas.{is_whole, is_word as vm_word, words_are_words, rejoin, piece_last, pieces_whole}
use Rattle.vm_report.specs.Logs.{HandleLog}
use Rattle.vm_report.specs.Text.{address_text, reply_words, is_kind_of, call_text, session_text, head_text, journal_line}
use Rattle.vm_script.specs.Words.{IsEcho}
use Rattle.vm_report.specs.Printed.{FitsReply, FitsJournal, FitsEntry, IsDigest, raw_in}
use Rattle.vm_report.specs.Reading.{is_space, count_told, address_told, reply_told, is_word, if_fine, statement_told, entry_told, call_told, chain_told, session_told, step_told, fresh, head_told, process_told, map_told, drop_told, digest_told}
use Rattle.vm_report.proofs.WordLemmas.{same_word, word_same, both, decimal_digits}
use Rattle.vm_report.proofs.ReplyLemmas.{map_gave, then_gave, two_gave, if_gave, count_fits, count_again, bytes_fit, bytes_again, address_fits, address_again, reply_fits, reply_again}
use Rattle.vm_report.proofs.PieceLemmas.{join_all, pieces_all}
use Rattle.vm_report.proofs.LineLemmas.{weaker, is_dark, is_plain, dark_plain, decimal_dark, digits_dark, address_said, not_digits, reply_said, said_plain, plain_append, join_append}
use Rattle.vm_report.proofs.BodyLemmas.{raws_head, is_step}

-- ---- heads

abbrev pub head_words : HandleLog → List (List ℕ)
head_words h = codes "handle" ∷ decimal h.process ∷ h.name ∷ session_text h.session ∷ []

pub head_line : (h : HandleLog) → head_text h ≡ join_with_byte 32 (head_words h) ++ codes "\n"
head_line h = simp append_assoc

small_dark : (n : ℕ) → n < 2 ^ 32 → is_dark (decimal n) ≡ true
small_dark n h = decimal_dark n (omega (arith, h))

letter_dark : (b : ℕ) → (is_lower b || is_digit b) ≡ true → nat_le 33 b ≡ true
letter_dark b h = by_tests (is_lower b) (is_digit b) refl refl h
  where
    by_tests : (x y : Bool) → is_lower b ≡ x → is_digit b ≡ y → (x || y) ≡ true → nat_le 33 b ≡ true
    by_tests true y e f g = let low = (both (nat_le 97 b) (nat_le b 122) e).0 in grind (arith, nat_tests)
    by_tests false true e f g = let low = (both (nat_le 48 b) (nat_le b 57) f).0 in grind (arith, nat_tests)
    by_tests false false e f g = absurd (cc)

letters_dark : (w : List ℕ) → list_all (λ b. is_lower b || is_digit b) w ≡ true → is_dark w ≡ true
letters_dark [] h = refl
letters_dark (b ∷ bs) h = let parted = both (is_lower b || is_digit b) (list_all (λ x. is_lower x || is_digit x) bs) h in rw (letter_dark b parted.0, letters_dark bs parted.1) refl

name_dark : (w : List ℕ) → is_name w ≡ true → is_dark w ≡ true
name_dark w h =
    let first = both (begins_lower w && list_all (λ b. is_lower b || is_digit b) w) (nat_le (length w) 8) h in
    letters_dark w (both (begins_lower w) (list_all (λ b. is_lower b || is_digit b) w) first.0).1

session_dark : (s : Option ℕ) → IfSome s (λ n. n < 2 ^ 32) → is_dark (session_text s) ≡ true
session_dark None h = refl
session_dark (Some n) h = small_dark n h

pub head_plain : (h : HandleLog) → h.process < 2 ^ 32 → is_name h.name ≡ true → IfSome h.session (λ n. n < 2 ^ 32) → list_all is_plain (head_words h) ≡ true
head_plain h p n s = rw (dark_plain (decimal h.process) (small_dark h.process p), dark_plain h.name (name_dark h.name n), dark_plain (session_text h.session) (session_dark h.session s)) refl

session_fits : (word : List ℕ) (s : Option ℕ) → session_told word ≡ Some s → (session_text s ≡ word) × IfSome s (λ n. n < 2 ^ 32)
session_fits word s e = by_test (bytes_eq word (codes "-")) refl e
  where
    by_test : (test : Bool) → bytes_eq word (codes "-") ≡ test → (if test then Some None else option_map Some (count_told word)) ≡ Some s → (session_text s ≡ word) × IfSome s (λ n. n < 2 ^ 32)
    by_test true is f =
        let P : Option ℕ → Type 0 = λ o. (session_text o ≡ word) × IfSome o (λ n. n < 2 ^ 32) in
        let same : None ≡ s = cc in
        subst P same (sym (same_word word (codes "-") is), tt)
    by_test false is f =
        let g = map_gave Some (count_told word) s f in
        let P : Option ℕ → Type 0 = λ o. (session_text o ≡ word) × IfSome o (λ n. n < 2 ^ 32) in
        subst P g.2 (count_fits word g.0 g.1)

session_again : (s : Option ℕ) → IfSome s (λ n. n < 2 ^ 32) → session_told (session_text s) ≡ Some s
session_again None h = refl
session_again (Some n) h = rw (not_digits (decimal n) (codes "-") (decimal_digits n (omega (arith, h))) refl, count_again n h) refl

-- what a head tells
pub record IsHead (words : List (List ℕ)) (h : HandleLog) : Type 0 where
  pub printed : codes "handle" ∷ words ≡ head_words h
  pub process : h.process < 2 ^ 32
  pub name : is_name h.name ≡ true
  pub session : IfSome h.session (λ n. n < 2 ^ 32)
  pub entries : h.entries ≡ []

cells : (w a b c d e f : List ℕ) → a ≡ d → b ≡ e → c ≡ f → w ∷ a ∷ b ∷ c ∷ [] ≡ w ∷ d ∷ e ∷ f ∷ []
cells w a b c d e f p q r = rw (p, q, r) refl

pub head_fits : (words : List (List ℕ)) (h : HandleLog) → head_told words ≡ Some h → IsHead words h
head_fits (a ∷ b ∷ c ∷ []) h e =
    let p = then_gave _ (count_told a) h e in
    let n = then_gave _ (name_in b) h p.2 in
    let s = map_gave _ (session_told c) h n.2 in
    let x = count_fits a p.0 p.1 in
    let z = session_fits c s.0 s.1 in
    let y = if_gave (is_name b) (Some b) n.0 n.1 in
    let same : b ≡ n.0 = cc in
    subst (IsHead (a ∷ b ∷ c ∷ [])) s.2 (record { printed = cells (codes "handle") a b c (decimal p.0) n.0 (session_text s.0) (sym x.0) same (sym z.0); process = x.1; name = subst (λ w. is_name w ≡ true) same y.0; session = z.1; entries = refl })
head_fits [] h e = absurd (cc)
head_fits (a ∷ []) h e = absurd (cc)
head_fits (a ∷ b ∷ []) h e = absurd (cc)
head_fits (a ∷ b ∷ c ∷ d ∷ words) h e = absurd (cc)

pub head_again : (p : ℕ) (n : List ℕ) (s : Option ℕ) → p < 2 ^ 32 → is_name n ≡ true → IfSome s (λ k. k < 2 ^ 32) → head_told (decimal p ∷ n ∷ session_text s ∷ []) ≡ Some (fresh p n s)
head_again p n s small name session = rw (count_again p small, name, session_again s session) refl

pub raws_line : (p : ℕ) → raws_head p ≡ join_with_byte 32 (codes "raws" ∷ decimal p ∷ []) ++ codes "\n"
raws_line p = simp append_assoc

pub raws_plain : (p : ℕ) → p < 2 ^ 32 → list_all is_plain (codes "raws" ∷ decimal p ∷ []) ≡ true
raws_plain p h = rw (dark_plain (decimal p) (small_dark p h)) refl

pub process_fits : (words : List (List ℕ)) (p : ℕ) → process_told words ≡ Some p → (words ≡ decimal p ∷ []) × (p < 2 ^ 32)
process_fits (a ∷ []) p e = let x = count_fits a p e in (rw x.0 refl, x.1)
process_fits [] p e = absurd (cc)
process_fits (a ∷ b ∷ words) p e = absurd (cc)

-- ---- steps of the device

abbrev pub step_word : Entry → List ℕ
step_word Finish = codes "finish"
step_word Bad = codes "bad"
step_word Give = codes "give"
step_word (Called line call reply) = []

step_by : (word : List ℕ) (e : Entry) (a b c : Bool) → bytes_eq word (codes "finish") ≡ a → bytes_eq word (codes "bad") ≡ b → bytes_eq word (codes "give") ≡ c
    → (if a then Some Finish else (if b then Some Bad else (if c then Some Give else None))) ≡ Some e → (word ≡ step_word e) × (is_step e ≡ true) × FitsEntry e
step_by word e true b c f g h is = let P : Entry → Type 0 = λ x. (word ≡ step_word x) × (is_step x ≡ true) × FitsEntry x in let same : Finish ≡ e = cc in subst P same (same_word word (codes "finish") f, refl, tt)
step_by word e false true c f g h is = let P : Entry → Type 0 = λ x. (word ≡ step_word x) × (is_step x ≡ true) × FitsEntry x in let same : Bad ≡ e = cc in subst P same (same_word word (codes "bad") g, refl, tt)
step_by word e false false true f g h is = let P : Entry → Type 0 = λ x. (word ≡ step_word x) × (is_step x ≡ true) × FitsEntry x in let same : Give ≡ e = cc in subst P same (same_word word (codes "give") h, refl, tt)
step_by word e false false false f g h is = absurd (cc)

pub step_fits : (words : List (List ℕ)) (e : Entry) → step_told words ≡ Some e → (words ≡ step_word e ∷ []) × (is_step e ≡ true) × FitsEntry e
step_fits (a ∷ []) e is = let s = step_by a e (bytes_eq a (codes "finish")) (bytes_eq a (codes "bad")) (bytes_eq a (codes "give")) refl refl refl is in (ap (λ x. x ∷ []) s.0, s.1, s.2)
step_fits [] e is = absurd (cc)
step_fits (a ∷ b ∷ words) e is = absurd (cc)

-- ---- the region and the digest

abbrev pub journal_words : RegionEntry → List (List ℕ)
journal_words (Map addr pages count) = codes "map" ∷ address_text addr ∷ decimal pages ∷ decimal count ∷ []
journal_words (Drop addr count) = codes "drop" ∷ address_text addr ∷ decimal count ∷ []

pub journal_text : (e : RegionEntry) → journal_line e ≡ join_with_byte 32 (journal_words e) ++ codes "\n"
journal_text (Map addr pages count) = simp append_assoc
journal_text (Drop addr count) = simp append_assoc

address_plain : (n : ℕ) → is_plain (address_text n) ≡ true
address_plain n = dark_plain (address_text n) (both (is_dark (address_text n)) (not (bytes_eq (address_text n) (codes "="))) (address_said n)).0

pub journal_plain : (e : RegionEntry) → FitsJournal e → list_all is_plain (journal_words e) ≡ true
journal_plain (Map addr pages count) f = rw (address_plain addr, dark_plain (decimal pages) (small_dark pages f.1), dark_plain (decimal count) (small_dark count f.2)) refl
journal_plain (Drop addr count) f = rw (address_plain addr, dark_plain (decimal count) (small_dark count f.1)) refl

pub map_fits : (words : List (List ℕ)) (e : RegionEntry) → map_told words ≡ Some e → (journal_words e ≡ codes "map" ∷ words) × FitsJournal e
map_fits (a ∷ b ∷ c ∷ []) e is =
    let g = then_gave _ (address_told a) e is in
    let h = two_gave (Map g.0) (count_told b) (count_told c) e g.2 in
    let x = address_fits a g.0 g.1 in
    let y = count_fits b h.0 h.2 in
    let z = count_fits c h.1 h.3 in
    let P : RegionEntry → Type 0 = λ k. (journal_words k ≡ codes "map" ∷ a ∷ b ∷ c ∷ []) × FitsJournal k in
    subst P h.4 (rw (x.0, y.0, z.0) refl, (x.1, y.1, z.1))
map_fits [] e is = absurd (cc)
map_fits (a ∷ []) e is = absurd (cc)
map_fits (a ∷ b ∷ []) e is = absurd (cc)
map_fits (a ∷ b ∷ c ∷ d ∷ words) e is = absurd (cc)

pub drop_fits : (words : List (List ℕ)) (e : RegionEntry) → drop_told words ≡ Some e → (journal_words e ≡ codes "drop" ∷ words) × FitsJournal e
drop_fits (a ∷ b ∷ []) e is =
    let h = two_gave Drop (address_told a) (count_told b) e is in
    let x = address_fits a h.0 h.2 in
    let y = count_fits b h.1 h.3 in
    let P : RegionEntry → Type 0 = λ k. (journal_words k ≡ codes "drop" ∷ a ∷ b ∷ []) × FitsJournal k in
    subst P h.4 (rw (x.0, y.0) refl, (x.1, y.1))
drop_fits [] e is = absurd (cc)
drop_fits (a ∷ []) e is = absurd (cc)
drop_fits (a ∷ b ∷ c ∷ words) e is = absurd (cc)

pub map_again : (addr pages count : ℕ) → FitsJournal (Map addr pages count) → map_told (address_text addr ∷ decimal pages ∷ decimal count ∷ []) ≡ Some (Map addr pages count)
map_again addr pages count f = rw (address_again addr f.0, count_again pages f.1, count_again count f.2) refl

pub drop_again : (addr count : ℕ) → FitsJournal (Drop addr count) → drop_told (address_text addr ∷ decimal count ∷ []) ≡ Some (Drop addr count)
drop_again addr count f = rw (address_again addr f.0, count_again count f.1) refl

pub digest_fits : (words : List (List ℕ)) (digest : List ℕ) → digest_told words ≡ Some digest → (words ≡ encode_lower digest ∷ []) × IsDigest digest
digest_fits (a ∷ []) digest e = let x = bytes_fit 32 a digest e in (ap (λ w. w ∷ []) (sym x.written), (x.held, x.count))
digest_fits [] digest e = absurd (cc)
digest_fits (a ∷ b ∷ words) digest e = absurd (cc)

pub digest_again : (digest : List ℕ) → IsDigest digest → digest_told (encode_lower digest ∷ []) ≡ Some digest
digest_again digest h = bytes_again 32 digest h.1 h.0

pub wire_line : (digest : List ℕ) → codes "wire " ++ encode_lower digest ++ codes "\n" ≡ join_with_byte 32 (codes "wire" ∷ encode_lower digest ∷ []) ++ codes "\n"
wire_line digest = simp append_assoc

pub wire_plain : (digest : List ℕ) → IsDigest digest → list_all is_plain (codes "wire" ∷ encode_lower digest ∷ []) ≡ true
wire_plain digest h = rw (dark_plain (encode_lower digest) (digits_dark digest h.0)) refl

-- ---- lines with a reply

abbrev pub answer_words : ℕ → List (List ℕ) → Reply → List (List ℕ)
answer_words line words reply = decimal line ∷ (words ++ codes "=" ∷ reply_words reply)

pub some_reply : (r : Reply) → 0 < length (reply_words r)
some_reply (Refused e) = omega arith
some_reply r = omega arith

pub answer_line : (line : ℕ) (echo : List ℕ) (reply : Reply) → join_with_byte 32 (words_in echo) ≡ echo → 0 < length (words_in echo) → 0 < length (reply_words reply)
    → call_text line echo reply ≡ join_with_byte 32 (answer_words line (words_in echo) reply) ++ codes "\n"
answer_line line echo reply joined some told =
    let ws : List (List ℕ) = words_in echo in
    let rs : List (List ℕ) = reply_words reply in
    let last : join_with_byte 32 (codes "=" ∷ rs) ≡ codes "=" ++ 32 ∷ join_with_byte 32 rs = join_append 32 (codes "=" ∷ []) rs (omega arith) told in
    let middle : join_with_byte 32 (ws ++ codes "=" ∷ rs) ≡ join_with_byte 32 ws ++ 32 ∷ join_with_byte 32 (codes "=" ∷ rs) = join_append 32 ws (codes "=" ∷ rs) some (omega arith) in
    let more : 0 < length (ws ++ codes "=" ∷ rs) = (rw (length-append ws (codes "=" ∷ rs)) (omega (arith, some))) in
    let first : join_with_byte 32 (decimal line ∷ (ws ++ codes "=" ∷ rs)) ≡ decimal line ++ 32 ∷ join_with_byte 32 (ws ++ codes "=" ∷ rs) = join_append 32 (decimal line ∷ []) (ws ++ codes "=" ∷ rs) (omega arith) more in
    rw (first, middle, last, joined) (simp append_assoc)

-- the words of an echo
pub echo_fits : (words : List (List ℕ)) → list_all vm_word words ≡ true → list_all (is_whole ends_line) words ≡ true → IsEcho (join_with_byte 32 words) × (words_in (join_with_byte 32 words) ≡ words)
echo_fits words are whole =
    let again : words_in (join_with_byte 32 words) ≡ words = rejoin words are in
    ((piece_last ends_line (join_with_byte 32 words) (join_all (λ b. not (ends_line b)) 32 refl words whole), ap (join_with_byte 32) again), again)

said_by : (name : List ℕ) (call : Call) (r : Result Statement ScriptKind) → is_statement name call r ≡ true → (s : Statement) × (r ≡ Ok s) × (s.handle ≡ name) × (s.call ≡ call)
said_by name call (Ok s) h =
    let parted = both (bytes_eq s.handle name) (bytes_eq (call_numbers s.call) (call_numbers call)) h in
    (s, refl, same_word s.handle name parted.0, same_call s.call call (same_word (call_numbers s.call) (call_numbers call) parted.1))
said_by name call (Err kind) h = absurd (cc)

words_vm : (ws : List (List ℕ)) → list_all is_word ws ≡ list_all vm_word ws
unfolding is_word
words_vm ws = refl

echo_are : (echo : List ℕ) → list_all is_word (words_in echo) ≡ true
echo_are echo = words_vm (words_in echo) ∙ words_are_words echo

statement_again : (echo : List ℕ) (s : Statement) → built_statement_in (words_in echo) ≡ Ok s → statement_told (words_in echo) ≡ Some s
statement_again echo s is = rw (echo_are echo, is) refl

entry_again : (name : List ℕ) (n : ℕ) (s : Statement) (call : Call) (r : Reply) → s.handle ≡ name → s.call ≡ call → is_kind_of call r ≡ true → FitsReply r → entry_told name n (reply_words r) s ≡ Some (Called n call r)
entry_again name n s call r handle asks kind fits =
    let e : bytes_eq s.handle name ≡ true = rw handle (word_same name) in
    let k : is_kind_of s.call r ≡ true = (let P : Call → Type 0 = λ c. is_kind_of c r ≡ true in subst P (sym asks) kind) in
    rw (e, reply_again s.call r k fits) (ap (λ c. Some (Called n c r)) asks)

-- a call is read from what is printed of it
pub call_again : (echo name : List ℕ) (n : ℕ) (call : Call) (r : Reply) → n < 2 ^ 32 → reads_as echo name call ≡ true → is_kind_of call r ≡ true → FitsReply r → call_told name (decimal n) (words_in echo) (reply_words r) ≡ Some (Called n call r)
call_again echo name n call r small reading kind fits =
    let said = said_by name call (built_statement_in (words_in echo)) reading in
    rw (count_again n small, statement_again echo said.0 said.1) (entry_again name n said.0 call r said.2 said.3 kind fits)

some_words : (ws : List (List ℕ)) (s : Statement) → built_statement_in ws ≡ Ok s → 0 < length ws
some_words [] s is = absurd (cc)
some_words (w ∷ ws) s is = omega arith

pub echo_some : (echo name : List ℕ) (call : Call) → reads_as echo name call ≡ true → 0 < length (words_in echo)
echo_some echo name call reading = let said = said_by name call (built_statement_in (words_in echo)) reading in some_words (words_in echo) said.0 said.1

fine_gave : (r : Result Statement ScriptKind) (s : Statement) → if_fine r ≡ Some s → r ≡ Ok s
fine_gave (Ok x) s e = ap Ok (let same : x ≡ s = cc in same)
fine_gave (Err kind) s e = absurd (cc)

-- what a line with a reply tells
pub record IsCalled (name line : List ℕ) (words reply : List (List ℕ)) (e : Entry) : Type 0 where
  pub n : ℕ
  pub call : Call
  pub r : Reply
  pub entry : Called n call r ≡ e
  pub number : decimal n ≡ line
  pub small : n < 2 ^ 32
  pub are : list_all vm_word words ≡ true
  pub some : 0 < length words
  pub reading : reads_as (join_with_byte 32 words) name call ≡ true
  pub told : reply_words r ≡ reply
  pub kind : is_kind_of call r ≡ true
  pub fits : FitsReply r

pub call_fits : (name line : List ℕ) (words reply : List (List ℕ)) (e : Entry) → call_told name line words reply ≡ Some e → IsCalled name line words reply e
call_fits name line words reply e is =
    let g = then_gave _ (count_told line) e is in
    let h = then_gave (entry_told name g.0 reply) (statement_told words) e g.2 in
    let s : Statement = h.0 in
    let st = if_gave (list_all is_word words) (if_fine (built_statement_in words)) s h.1 in
    let built = fine_gave (built_statement_in words) s st.1 in
    let en = if_gave (bytes_eq s.handle name) (option_map (λ r. Called g.0 s.call r) (reply_told s.call reply)) e h.2 in
    let r = map_gave (λ r. Called g.0 s.call r) (reply_told s.call reply) e en.1 in
    let fits = reply_fits s.call reply r.0 r.1 in
    let are : list_all vm_word words ≡ true = sym (words_vm words) ∙ st.0 in
    let again : words_in (join_with_byte 32 words) ≡ words = rejoin words are in
    let x = count_fits line g.0 g.1 in
    let reads_it : is_statement s.handle s.call (built_statement_in (words_in (join_with_byte 32 words))) ≡ true =
    (let P : List (List ℕ) → Type 0 = λ ws. is_statement s.handle s.call (built_statement_in ws) ≡ true in subst P (sym again) (statement_is words s built)) in
    let named : s.handle ≡ name = same_word s.handle name en.0 in
    record {
      n = g.0;
      call = s.call;
      r = r.0;
      entry = r.2;
      number = x.0;
      small = x.1;
      are = are;
      some = some_words words s built;
      reading = (let P : List ℕ → Type 0 = λ w. is_statement w s.call (built_statement_in (words_in (join_with_byte 32 words))) ≡ true in subst P named reads_it);
      told = fits.0;
      kind = fits.1;
      fits = fits.2;
    }

-- ---- raw lines

pub chain_again : (echo : List ℕ) (chain : RawChain) → raw_in (words_in echo) ≡ Some chain → chain_told (words_in echo) ≡ Some chain
chain_again echo chain is = rw (echo_are echo) is

some_raw : (ws : List (List ℕ)) (chain : RawChain) → raw_in ws ≡ Some chain → 0 < length ws
some_raw [] chain is = absurd (cc)
some_raw (w ∷ ws) chain is = omega arith

pub raw_some : (echo : List ℕ) (chain : RawChain) → raw_in (words_in echo) ≡ Some chain → 0 < length (words_in echo)
raw_some echo chain is = some_raw (words_in echo) chain is

pub chain_fits : (words : List (List ℕ)) (chain : RawChain) → chain_told words ≡ Some chain → (list_all vm_word words ≡ true) × (0 < length words) × (raw_in (words_in (join_with_byte 32 words)) ≡ Some chain)
chain_fits words chain is =
    let g = if_gave (list_all is_word words) (raw_in words) chain is in
    let are : list_all vm_word words ≡ true = sym (words_vm words) ∙ g.0 in
    let P : List (List ℕ) → Type 0 = λ ws. raw_in ws ≡ Some chain in
    (are, some_raw words chain g.1, subst P (sym (rejoin words are)) g.1)

-- ---- plain words of lines with replies

unparted : (b : ℕ) → not (parts_words b) ≡ true → not (is_space b) ≡ true
unparted b h = by_tests (b == 32) (b == 9) (b == 13) h
  where
    by_tests : (x y z : Bool) → not (x || y || z) ≡ true → not x ≡ true
    by_tests true y z h = absurd (cc)
    by_tests false y z h = refl

whole_words : (ws : List (List ℕ)) → list_all vm_word ws ≡ true → list_all (is_whole ends_line) ws ≡ true → list_all is_plain ws ≡ true
whole_words [] h k = refl
whole_words (w ∷ ws) h k =
    let word = both (vm_word w) (list_all vm_word ws) h in
    let line = both (is_whole ends_line w) (list_all (is_whole ends_line) ws) k in
    let parts = both (not (is_empty w)) (is_whole parts_words w) word.0 in
    rw (weaker (λ b. not (parts_words b)) (λ b. not (is_space b)) unparted w parts.1, line.0, whole_words ws word.1 line.1) refl

keeps : (keep p : List ℕ → Bool) (w : List ℕ) (ws : List (List ℕ)) (b : Bool) → p w ≡ true → list_all p (filter keep ws) ≡ true → list_all p (if b then w ∷ filter keep ws else filter keep ws) ≡ true
keeps keep p w ws true first rest = rw first rest
keeps keep p w ws false first rest = rest

kept : (keep p : List ℕ → Bool) (ws : List (List ℕ)) → list_all p ws ≡ true → list_all p (filter keep ws) ≡ true
kept keep p [] h = refl
kept keep p (w ∷ ws) h = let parted = both (p w) (list_all p ws) h in keeps keep p w ws (keep w) parted.0 (kept keep p ws parted.1)

one_line : (text : List ℕ) → lines_in text ≡ text ∷ [] → list_all (is_whole ends_line) (words_in text) ≡ true
one_line text one =
    let whole : is_whole ends_line text ≡ true =
    (let all : list_all (is_whole ends_line) (lines_in text) ≡ true = pieces_whole ends_line text in
    let P : List (List ℕ) → Type 0 = λ ls. list_all (is_whole ends_line) ls ≡ true in
    (both (is_whole ends_line text) true (subst P one all)).0) in
    kept (λ w. not (is_empty w)) (is_whole ends_line) (pieces_by parts_words text) (pieces_all (λ b. not (ends_line b)) parts_words text whole)

-- the words of a line with a reply
pub answer_plain : (n : ℕ) (echo : List ℕ) (r : Reply) → n < 2 ^ 32 → IsEcho echo → FitsReply r → list_all is_plain (answer_words n (words_in echo) r) ≡ true
answer_plain n echo r small is fits =
    let words = whole_words (words_in echo) (words_are_words echo) (one_line echo is.0) in
    let told = said_plain (reply_words r) (reply_said r fits) in
    rw (dark_plain (decimal n) (small_dark n small), plain_append (words_in echo) (codes "=" ∷ reply_words r) words told.0) refl
