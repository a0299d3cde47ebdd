-- What is read is printed as the text.
use Rattle.std.proofs.Common.{◌≡◌, ℕ, zero, suc, ◌+◌, ◌<◌, ◌^◌, ◌⊎◌, inl, inr, Bool, true, false, not, ◌&&◌, List, [], ◌∷◌, ◌++◌, length, replicate, take, drop, subst, codes, refl, ap, sym, ◌∙◌, append_assoc, arith, Option, Some, if◌then◌else◌}
use Rattle.std.specs.Prelude.{nat_lt}
use Rattle.std.specs.List.{list_all, join_with_byte, AllByRecursion}
use Rattle.std.specs.Option.{option_map, option_and_then}
use Rattle.std.specs.Str.{bytes_eq}
use Rattle.std.proofs.lemmas.Bool.Decides.{nat_tests}
use Rattle.std.proofs.lemmas.List.{append-nil}
use Rattle.hex.specs.Hex.{encode_lower, IsBytes}
use Rattle.v4l_const.specs.declared.errno.Errno.{Errno}
use Rattle.vm_local.specs.declared.entry.Entry.{Entry}
use Rattle.vm_local.specs.declared.entry.Entry.TheVariants.{Called, Finish, Bad, Give}
use Rattle.vm_local.specs.declared.reply.Reply.TheVariants.{Refused}
use Rattle.vm_region.specs.declared.entry.RegionEntry.{RegionEntry}
use Rattle.vm_script.specs.declared.line.RawChain.{RawChain}
use Rattle.vm_script.specs.Words.{lines_in, words_in, ends_line, is_empty}
use Rattle.vm_script.proofs.WordLemmas.{is_whole, pieces_whole}
use Rattle.vm_report.specs.declared.draft.Draft.{Draft}
use Rattle.vm_report.specs.declared.draft.Place.{Place}
use Rattle.vm_report.specs.declared.draft.Place.TheVariants.{Opening, Log, RawHead, Raws, Region, Wire, End}
use Rattle.vm_script.specs.Drafts.{process_limit}
use Rattle.vm_report.specs.Logs.{HandleLog, Logs}
use Rattle.vm_report.specs.Text.{call_text, journal_line, head_text, raw_text}
use Rattle.vm_script.specs.Words.{IsEcho}
use Rattle.vm_report.specs.Printed.{FitsHandle, FitsEntry, FitsJournal, IsDigest, IsPrinted, raw_in}
use Rattle.vm_report.specs.Reading.{is_space, words_of, last_equals, call_told, chain_told, refusal_told, step_told, head_told, process_told, map_told, drop_told, digest_told, count_told, closed, begins, may_end, at_place, with_handle, with_raws, with_entry, step_at, with_raw, raw_told, reply_at, with_answer, with_region, with_journal, wired, with_wire, with_end, with_words, with_line, with_lines, nothing, finished_at, finished, read}
use Rattle.vm_report.proofs.WordLemmas.{same_word, both}
use Rattle.vm_report.proofs.PieceLemmas.{words_joined, lines_joined, some_pieces, pieces_all, equals_splits}
use Rattle.vm_report.proofs.ReplyLemmas.{map_gave, then_gave, if_gave, count_fits, refusal_fits}
use Rattle.vm_report.proofs.SayLemmas.{head_line, head_fits, raws_line, process_fits, step_word, step_fits, journal_words, journal_text, map_fits, drop_fits, digest_fits, wire_line, answer_line, some_reply, echo_fits, call_fits, chain_fits}
use Rattle.vm_report.proofs.BodyLemmas.{raws_head, step_text, is_step, step_grows, call_grows}
use Rattle.vm_report.proofs.PartLemmas.{body, Echoes, text_at, IsPart, Grows, next, handle_grows, raws_grow, entry_grows, all_snoc, raw_log, more_raw, first_grows, next_grows, region_grows, with_region_entry, journal_grows, with_digest, wire_grows}

-- ---- what one line tells

abbrev pub is_end : Place → Bool
is_end End = true
is_end place = false

-- what follows a line: a newline, and nothing behind the last, which is empty
abbrev pub newline : Place → List ℕ
newline End = []
newline place = codes "\n"

pub newline_open : (p : Place) → is_end p ≡ false → newline p ≡ codes "\n"
newline_open Opening h = refl
newline_open (Log k) h = refl
newline_open (RawHead p) h = refl
newline_open (Raws p) h = refl
newline_open Region h = refl
newline_open Wire h = refl
newline_open End h = absurd (cc)

pub record Reads (d : Draft) (x : Echoes) (line : List ℕ) (e : Draft) : Type 0 where
  pub y : Echoes
  pub part : IsPart e.logs e.place y
  pub text : text_at e.logs e.place y ≡ text_at d.logs d.place x ++ (line ++ newline e.place)
  pub before : is_end d.place ≡ false

read_by : (d : Draft) (x : Echoes) (more : Logs) (there : Place) (y : Echoes) (line said : List ℕ) → Grows d.logs d.place x more there y line → line ≡ said ++ codes "\n" → is_end there ≡ false → is_end d.place ≡ false
    → Reads d x said (record { logs = more; place = there })
read_by d x more there y line said grows is still before = record {
  y = y;
  part = grows.part;
  text = grows.text ∙ ap (λ l. text_at d.logs d.place x ++ l) (is ∙ ap (λ n. said ++ n) (sym (newline_open there still)));
  before = before;
}

begins_open : (place : Place) (p : ℕ) → begins place p ≡ true → is_end place ≡ false
begins_open Opening p h = refl
begins_open (Log k) p h = refl
begins_open (Raws q) p h = refl
begins_open (RawHead q) p h = absurd (cc)
begins_open Region p h = absurd (cc)
begins_open Wire p h = absurd (cc)
begins_open End p h = absurd (cc)

ends_open : (place : Place) → may_end place ≡ true → is_end place ≡ false
ends_open Opening h = refl
ends_open (Log k) h = refl
ends_open (Raws q) h = refl
ends_open (RawHead q) h = absurd (cc)
ends_open Region h = absurd (cc)
ends_open Wire h = absurd (cc)
ends_open End h = absurd (cc)

below_limit : (p : ℕ) → nat_lt p process_limit ≡ true → p < process_limit
below_limit p h = grind (arith, nat_tests)

handle_read : (d : Draft) (x : Echoes) (words : List (List ℕ)) (e : Draft) → IsPart d.logs d.place x → with_handle d words ≡ Some e → Reads d x (join_with_byte 32 (codes "handle" ∷ words)) e
handle_read d x words e part is =
    let g = then_gave _ (head_told words) e is in
    let h : HandleLog = g.0 in
    let head = head_fits words h g.1 in
    let t = if_gave (nat_lt h.process process_limit && begins d.place h.process) (Some (at_place d (Log h))) e g.2 in
    let tests = both (nat_lt h.process process_limit) (begins d.place h.process) t.0 in
    let fits : FitsHandle h = record { process = below_limit h.process tests.0; name = head.name; session = head.session; entries = (let P : List Entry → Type 0 = AllByRecursion FitsEntry in subst P (sym head.entries) tt) } in
    let same : at_place d (Log h) ≡ e = cc in
    subst (Reads d x (join_with_byte 32 (codes "handle" ∷ words))) same
    (read_by d x (closed d.logs d.place) (Log h) (next d.place x) (head_text h) (join_with_byte 32 (codes "handle" ∷ words)) (handle_grows d.logs d.place x h part tests.1 fits head.entries)
    (head_line h ∙ ap (λ ws. join_with_byte 32 ws ++ codes "\n") (sym head.printed)) refl (begins_open d.place h.process tests.1))

raws_read : (d : Draft) (x : Echoes) (words : List (List ℕ)) (e : Draft) → IsPart d.logs d.place x → with_raws d words ≡ Some e → Reads d x (join_with_byte 32 (codes "raws" ∷ words)) e
raws_read d x words e part is =
    let g = then_gave _ (process_told words) e is in
    let p : ℕ = g.0 in
    let told = process_fits words p g.1 in
    let t = if_gave (nat_lt p process_limit && begins d.place p) (Some (at_place d (RawHead p))) e g.2 in
    let tests = both (nat_lt p process_limit) (begins d.place p) t.0 in
    let same : at_place d (RawHead p) ≡ e = cc in
    subst (Reads d x (join_with_byte 32 (codes "raws" ∷ words))) same
    (read_by d x (closed d.logs d.place) (RawHead p) (next d.place x) (raws_head p) (join_with_byte 32 (codes "raws" ∷ words)) (raws_grow d.logs d.place x p part tests.1 (below_limit p tests.0))
    (raws_line p ∙ ap (λ ws. join_with_byte 32 (codes "raws" ∷ ws) ++ codes "\n") (sym told.0)) refl (begins_open d.place p tests.1))

step_line : (e : Entry) → is_step e ≡ true → step_text e ≡ join_with_byte 32 (codes "+" ∷ step_word e ∷ []) ++ codes "\n"
step_line Finish h = refl
step_line Bad h = refl
step_line Give h = refl
step_line (Called line call reply) h = absurd (cc)

step_read_at : (logs : Logs) (place : Place) (x : Echoes) (words : List (List ℕ)) (e : Draft) → IsPart logs place x → step_at logs place words ≡ Some e → Reads (record { logs = logs; place = place }) x (join_with_byte 32 (codes "+" ∷ words)) e
step_read_at logs (Log h) x words e part is =
    let g = map_gave (with_entry logs h) (step_told words) e is in
    let told = step_fits words g.0 g.1 in
    let grows = step_grows h.name h.entries g.0 x.now told.1 part.here.0.reads in
    subst (Reads (record { logs = logs; place = Log h }) x (join_with_byte 32 (codes "+" ∷ words))) g.2
    (read_by (record { logs = logs; place = Log h }) x logs (Log (record h { entries = h.entries ++ g.0 ∷ [] })) (record x { now = x.now }) (step_text g.0) (join_with_byte 32 (codes "+" ∷ words))
    (entry_grows logs h x g.0 x.now (step_text g.0) part grows.0 grows.1 part.here.0.echoes told.2)
    (step_line g.0 told.1 ∙ ap (λ ws. join_with_byte 32 (codes "+" ∷ ws) ++ codes "\n") (sym told.0)) refl refl)
step_read_at logs Opening x words e part is = absurd (cc)
step_read_at logs (RawHead p) x words e part is = absurd (cc)
step_read_at logs (Raws p) x words e part is = absurd (cc)
step_read_at logs Region x words e part is = absurd (cc)
step_read_at logs Wire x words e part is = absurd (cc)
step_read_at logs End x words e part is = absurd (cc)

region_read : (d : Draft) (x : Echoes) (words : List (List ℕ)) (e : Draft) → IsPart d.logs d.place x → with_region d words ≡ Some e → Reads d x (join_with_byte 32 (codes "region" ∷ words)) e
region_read d x [] e part is =
    let t = if_gave (may_end d.place) (Some (at_place d Region)) e is in
    let same : at_place d Region ≡ e = cc in
    subst (Reads d x (codes "region")) same
    (read_by d x (closed d.logs d.place) Region (next d.place x) (codes "region\n") (codes "region") (region_grows d.logs d.place x part t.0) refl refl (ends_open d.place t.0))
region_read d x (w ∷ words) e part is = absurd (cc)

journal_read : (logs : Logs) (place : Place) (x : Echoes) (ws : List (List ℕ)) (k : RegionEntry) (e : Draft) → IsPart logs place x → journal_words k ≡ ws → FitsJournal k → with_journal (record { logs = logs; place = place }) k ≡ Some e
    → Reads (record { logs = logs; place = place }) x (join_with_byte 32 ws) e
journal_read logs Region x ws k e part told fits is =
    let same : record { logs = with_region_entry logs k; place = Region } ≡ e = cc in
    subst (Reads (record { logs = logs; place = Region }) x (join_with_byte 32 ws)) same
    (read_by (record { logs = logs; place = Region }) x (with_region_entry logs k) Region x (journal_line k) (join_with_byte 32 ws) (journal_grows logs x k part fits)
    (journal_text k ∙ ap (λ v. join_with_byte 32 v ++ codes "\n") told) refl refl)
journal_read logs Opening x ws k e part told fits is = absurd (cc)
journal_read logs (Log h) x ws k e part told fits is = absurd (cc)
journal_read logs (RawHead p) x ws k e part told fits is = absurd (cc)
journal_read logs (Raws p) x ws k e part told fits is = absurd (cc)
journal_read logs Wire x ws k e part told fits is = absurd (cc)
journal_read logs End x ws k e part told fits is = absurd (cc)

wire_read_at : (logs : Logs) (place : Place) (x : Echoes) (words : List (List ℕ)) (digest : List ℕ) (e : Draft) → IsPart logs place x → (words ≡ encode_lower digest ∷ []) × IsDigest digest → wired (record { logs = logs; place = place }) digest ≡ Some e
    → Reads (record { logs = logs; place = place }) x (join_with_byte 32 (codes "wire" ∷ words)) e
wire_read_at logs Region x words digest e part told is =
    let same : record { logs = with_digest logs digest; place = Wire } ≡ e = cc in
    subst (Reads (record { logs = logs; place = Region }) x (join_with_byte 32 (codes "wire" ∷ words))) same
    (read_by (record { logs = logs; place = Region }) x (with_digest logs digest) Wire x (codes "wire " ++ encode_lower digest ++ codes "\n") (join_with_byte 32 (codes "wire" ∷ words)) (wire_grows logs x digest part told.1)
    (wire_line digest ∙ ap (λ ws. join_with_byte 32 (codes "wire" ∷ ws) ++ codes "\n") (sym told.0)) refl refl)
wire_read_at logs Opening x words digest e part told is = absurd (cc)
wire_read_at logs (Log h) x words digest e part told is = absurd (cc)
wire_read_at logs (RawHead p) x words digest e part told is = absurd (cc)
wire_read_at logs (Raws p) x words digest e part told is = absurd (cc)
wire_read_at logs Wire x words digest e part told is = absurd (cc)
wire_read_at logs End x words digest e part told is = absurd (cc)

wire_read : (d : Draft) (x : Echoes) (words : List (List ℕ)) (e : Draft) → IsPart d.logs d.place x → with_wire d words ≡ Some e → Reads d x (join_with_byte 32 (codes "wire" ∷ words)) e
wire_read d x words e part is =
    let g = then_gave (wired d) (digest_told words) e is in
    wire_read_at d.logs d.place x words g.0 e part (digest_fits words g.0 g.1) g.2

end_read_at : (logs : Logs) (place : Place) (x : Echoes) (words : List (List ℕ)) (e : Draft) → IsPart logs place x → with_end (record { logs = logs; place = place }) words ≡ Some e → Reads (record { logs = logs; place = place }) x (join_with_byte 32 ([] ∷ words)) e
end_read_at logs Wire x [] e part is =
    let same : record { logs = logs; place = End } ≡ e = cc in
    subst (Reads (record { logs = logs; place = Wire }) x []) same
    (record { y = x; part = record { closed = part.closed; here = tt }; text = sym (append-nil (text_at logs Wire x)); before = refl })
end_read_at logs place x (w ∷ words) e part is = absurd (cc)
end_read_at logs Opening x [] e part is = absurd (cc)
end_read_at logs (Log h) x [] e part is = absurd (cc)
end_read_at logs (RawHead p) x [] e part is = absurd (cc)
end_read_at logs (Raws p) x [] e part is = absurd (cc)
end_read_at logs Region x [] e part is = absurd (cc)
end_read_at logs End x [] e part is = absurd (cc)

-- ---- lines with replies

whole_take : (n : ℕ) (ws : List (List ℕ)) → list_all (is_whole ends_line) ws ≡ true → list_all (is_whole ends_line) (take n ws) ≡ true
whole_take zero ws h = refl
whole_take (suc n) [] h = refl
whole_take (suc n) (w ∷ ws) h = let parted = both (is_whole ends_line w) (list_all (is_whole ends_line) ws) h in rw (parted.0, whole_take n ws parted.1) refl

log_read : (logs : Logs) (h : HandleLog) (x : Echoes) (line : List ℕ) (words reply : List (List ℕ)) (e : Draft) → IsPart logs (Log h) x → list_all (is_whole ends_line) words ≡ true
    → option_map (with_entry logs h) (call_told h.name line words reply) ≡ Some e → Reads (record { logs = logs; place = Log h }) x (join_with_byte 32 (line ∷ (words ++ codes "=" ∷ reply))) e
log_read logs h x line words reply e part whole is =
    let g = map_gave (with_entry logs h) (call_told h.name line words reply) e is in
    let told = call_fits h.name line words reply g.0 g.1 in
    let echo : List ℕ = join_with_byte 32 words in
    let said = echo_fits words told.are whole in
    let some : 0 < length (words_in echo) = (let P : List (List ℕ) → Type 0 = λ ws. 0 < length ws in subst P (sym said.1) told.some) in
    let grows = call_grows h.name h.entries told.n told.call told.r x.now echo told.reading told.kind part.here.0.reads in
    let entry : Entry = Called told.n told.call told.r in
    let made : with_entry logs h entry ≡ e = ap (with_entry logs h) told.entry ∙ g.2 in
    subst (Reads (record { logs = logs; place = Log h }) x (join_with_byte 32 (line ∷ (words ++ codes "=" ∷ reply)))) made
    (read_by (record { logs = logs; place = Log h }) x logs (Log (record h { entries = h.entries ++ entry ∷ [] })) (record x { now = x.now ++ echo ∷ [] }) (call_text told.n echo told.r) (join_with_byte 32 (line ∷ (words ++ codes "=" ∷ reply)))
    (entry_grows logs h x entry (x.now ++ echo ∷ []) (call_text told.n echo told.r) part grows.0 grows.1 (all_snoc IsEcho x.now echo part.here.0.echoes said.0) (told.small, told.fits))
    (answer_line told.n echo told.r said.0.1 some (some_reply told.r) ∙ rw (told.number, said.1, told.told) refl) refl refl)

raw_read : (logs : Logs) (place : Place) (p : ℕ) (x : Echoes) (line : List ℕ) (words reply : List (List ℕ)) (e : Draft)
    → ((n : ℕ) (chain : RawChain) (errno : Errno) (echo : List ℕ) → n < 2 ^ 32 → IsEcho echo → raw_in (words_in echo) ≡ Some chain → Grows logs place x (with_raw logs p n chain errno).logs (Raws p) (more_raw x echo) (raw_text (raw_log p n chain errno) echo))
    → is_end place ≡ false → list_all (is_whole ends_line) words ≡ true
    → raw_told logs p line words reply ≡ Some e → Reads (record { logs = logs; place = place }) x (join_with_byte 32 (line ∷ (words ++ codes "=" ∷ reply))) e
raw_read logs place p x line words reply e grows still whole is =
    let g = then_gave _ (count_told line) e is in
    let c = then_gave _ (chain_told words) e g.2 in
    let r = map_gave _ (refusal_told reply) e c.2 in
    let number = count_fits line g.0 g.1 in
    let chain = chain_fits words c.0 c.1 in
    let told = refusal_fits reply r.0 r.1 in
    let echo : List ℕ = join_with_byte 32 words in
    let said = echo_fits words chain.0 whole in
    let some : 0 < length (words_in echo) = (let P : List (List ℕ) → Type 0 = λ ws. 0 < length ws in subst P (sym said.1) chain.1) in
    subst (Reads (record { logs = logs; place = place }) x (join_with_byte 32 (line ∷ (words ++ codes "=" ∷ reply)))) r.2
    (read_by (record { logs = logs; place = place }) x (with_raw logs p g.0 c.0 r.0).logs (Raws p) (more_raw x echo) (raw_text (raw_log p g.0 c.0 r.0) echo) (join_with_byte 32 (line ∷ (words ++ codes "=" ∷ reply)))
    (grows g.0 c.0 r.0 echo number.1 said.0 chain.2)
    (answer_line g.0 echo (Refused r.0) said.0.1 some (omega arith) ∙ rw (number.0, said.1, told) refl) refl still)

reply_read_at : (logs : Logs) (place : Place) (x : Echoes) (line : List ℕ) (words reply : List (List ℕ)) (e : Draft) → IsPart logs place x → list_all (is_whole ends_line) words ≡ true
    → reply_at logs place line words reply ≡ Some e → Reads (record { logs = logs; place = place }) x (join_with_byte 32 (line ∷ (words ++ codes "=" ∷ reply))) e
reply_read_at logs (Log h) x line words reply e part whole is = log_read logs h x line words reply e part whole is
reply_read_at logs (RawHead p) x line words reply e part whole is = raw_read logs (RawHead p) p x line words reply e (λ n chain errno echo small said raw. first_grows logs p x n chain errno echo part small said raw) refl whole is
reply_read_at logs (Raws p) x line words reply e part whole is = raw_read logs (Raws p) p x line words reply e (λ n chain errno echo small said raw. next_grows logs p x n chain errno echo part small said raw) refl whole is
reply_read_at logs Opening x line words reply e part whole is = absurd (cc)
reply_read_at logs Region x line words reply e part whole is = absurd (cc)
reply_read_at logs Wire x line words reply e part whole is = absurd (cc)
reply_read_at logs End x line words reply e part whole is = absurd (cc)

answer_read : (d : Draft) (x : Echoes) (line : List ℕ) (words : List (List ℕ)) (e : Draft) → IsPart d.logs d.place x → list_all (is_whole ends_line) words ≡ true → with_answer d line words ≡ Some e → Reads d x (join_with_byte 32 (line ∷ words)) e
answer_read d x line words e part whole is =
    let g = then_gave _ (last_equals words) e is in
    let splits = equals_splits words g.0 g.1 in
    let P : List (List ℕ) → Type 0 = λ ws. Reads d x (join_with_byte 32 (line ∷ ws)) e in
    subst P splits.whole (reply_read_at d.logs d.place x line (take g.0 words) (drop (g.0 + 1) words) e part (whole_take g.0 words whole) g.2)

-- ---- lines

test_gave : {A : Type 0} (test : Bool) (o p : Option A) (x : A) → (if test then o else p) ≡ Some x → ((test ≡ true) × (o ≡ Some x)) ⊎ ((test ≡ false) × (p ≡ Some x))
test_gave true o p x e = inl (refl, e)
test_gave false o p x e = inr (refl, e)

empty_is : (w : List ℕ) → is_empty w ≡ true → w ≡ []
empty_is [] h = refl
empty_is (b ∷ bs) h = absurd (cc)

first_is : (d : Draft) (x : Echoes) (first word : List ℕ) (words : List (List ℕ)) (e : Draft) → first ≡ word → Reads d x (join_with_byte 32 (word ∷ words)) e → Reads d x (join_with_byte 32 (first ∷ words)) e
first_is d x first word words e same r = let P : List ℕ → Type 0 = λ w. Reads d x (join_with_byte 32 (w ∷ words)) e in subst P (sym same) r

words_read : (d : Draft) (x : Echoes) (first : List ℕ) (words : List (List ℕ)) (e : Draft) → IsPart d.logs d.place x → list_all (is_whole ends_line) words ≡ true → with_words d (first ∷ words) ≡ Some e → Reads d x (join_with_byte 32 (first ∷ words)) e
words_read d x first words e part whole is =
    elim (test_gave (bytes_eq first (codes "handle")) _ _ e is) [
      | inl a ↦ first_is d x first (codes "handle") words e (same_word first (codes "handle") a.0) (handle_read d x words e part a.1)
      | inr a ↦ elim (test_gave (bytes_eq first (codes "raws")) _ _ e a.1) [
        | inl b ↦ first_is d x first (codes "raws") words e (same_word first (codes "raws") b.0) (raws_read d x words e part b.1)
        | inr b ↦ elim (test_gave (bytes_eq first (codes "+")) _ _ e b.1) [
          | inl c ↦ first_is d x first (codes "+") words e (same_word first (codes "+") c.0) (step_read_at d.logs d.place x words e part c.1)
          | inr c ↦ elim (test_gave (bytes_eq first (codes "region")) _ _ e c.1) [
            | inl f ↦ first_is d x first (codes "region") words e (same_word first (codes "region") f.0) (region_read d x words e part f.1)
            | inr f ↦ elim (test_gave (bytes_eq first (codes "map")) _ _ e f.1) [
              | inl g ↦ first_is d x first (codes "map") words e (same_word first (codes "map") g.0) (map_read g.1)
              | inr g ↦ elim (test_gave (bytes_eq first (codes "drop")) _ _ e g.1) [
                | inl h ↦ first_is d x first (codes "drop") words e (same_word first (codes "drop") h.0) (drop_read h.1)
                | inr h ↦ elim (test_gave (bytes_eq first (codes "wire")) _ _ e h.1) [
                  | inl i ↦ first_is d x first (codes "wire") words e (same_word first (codes "wire") i.0) (wire_read d x words e part i.1)
                  | inr i ↦ elim (test_gave (is_empty first) _ _ e i.1) [
                    | inl j ↦ first_is d x first [] words e (empty_is first j.0) (end_read_at d.logs d.place x words e part j.1)
                    | inr j ↦ answer_read d x first words e part whole j.1
                  ]
                ]
              ]
            ]
          ]
        ]
      ]
    ]
  where
    map_read : option_and_then (with_journal d) (map_told words) ≡ Some e → Reads d x (join_with_byte 32 (codes "map" ∷ words)) e
    map_read h = let g = then_gave (with_journal d) (map_told words) e h in let told = map_fits words g.0 g.1 in journal_read d.logs d.place x (codes "map" ∷ words) g.0 e part told.0 told.1 g.2

    drop_read : option_and_then (with_journal d) (drop_told words) ≡ Some e → Reads d x (join_with_byte 32 (codes "drop" ∷ words)) e
    drop_read h = let g = then_gave (with_journal d) (drop_told words) e h in let told = drop_fits words g.0 g.1 in journal_read d.logs d.place x (codes "drop" ∷ words) g.0 e part told.0 told.1 g.2

split_read : (d : Draft) (x : Echoes) (ws : List (List ℕ)) (e : Draft) → IsPart d.logs d.place x → list_all (is_whole ends_line) ws ≡ true → with_words d ws ≡ Some e → Reads d x (join_with_byte 32 ws) e
split_read d x [] e part whole is = absurd (cc)
split_read d x (first ∷ words) e part whole is = words_read d x first words e part (both (is_whole ends_line first) (list_all (is_whole ends_line) words) whole).1 is

pub line_read : (d : Draft) (x : Echoes) (line : List ℕ) (e : Draft) → IsPart d.logs d.place x → is_whole ends_line line ≡ true → with_line d line ≡ Some e → Reads d x line e
line_read d x line e part whole is =
    let P : List ℕ → Type 0 = λ l. Reads d x l e in
    subst P (words_joined line) (split_read d x (words_of line) e part (pieces_all (λ b. not (ends_line b)) is_space line whole) is)

-- ---- texts

pub record ReadsAll (d : Draft) (x : Echoes) (rest : List ℕ) (e : Draft) : Type 0 where
  pub y : Echoes
  pub part : IsPart e.logs e.place y
  pub text : text_at e.logs e.place y ≡ text_at d.logs d.place x ++ rest
  pub before : is_end d.place ≡ false

end_newline : (p : Place) → is_end p ≡ true → newline p ≡ []
end_newline End h = refl
end_newline Opening h = absurd (cc)
end_newline (Log k) h = absurd (cc)
end_newline (RawHead q) h = absurd (cc)
end_newline (Raws q) h = absurd (cc)
end_newline Region h = absurd (cc)
end_newline Wire h = absurd (cc)

lines_read : (d : Draft) (x : Echoes) (line : List ℕ) (lines : List (List ℕ)) (e : Draft) → IsPart d.logs d.place x → list_all (is_whole ends_line) (line ∷ lines) ≡ true → with_lines d (line ∷ lines) ≡ Some e → is_end e.place ≡ true
    → ReadsAll d x (join_with_byte 10 (line ∷ lines)) e
lines_read d x line [] e part whole is end =
    let g = then_gave (λ m. with_lines m []) (with_line d line) e is in
    let same : g.0 ≡ e = cc in
    let r = line_read d x line e part (both (is_whole ends_line line) true whole).0 (g.1 ∙ ap Some same) in
    record { y = r.y; part = r.part; text = r.text ∙ rw (end_newline e.place end, append-nil line) refl; before = r.before }
lines_read d x line (l ∷ lines) e part whole is end =
    let g = then_gave (λ m. with_lines m (l ∷ lines)) (with_line d line) e is in
    let parted = both (is_whole ends_line line) (list_all (is_whole ends_line) (l ∷ lines)) whole in
    let r = line_read d x line g.0 part parted.0 g.1 in
    let rest = lines_read g.0 r.y l lines e r.part parted.1 g.2 end in
    record { y = rest.y; part = rest.part; text = rest.text ∙ rw (r.text, newline_open g.0.place rest.before) (simp append_assoc); before = r.before }

abbrev pub no_echoes : Echoes
no_echoes = record { calls = []; now = []; raws = [] }

zero_bytes : (n : ℕ) → IsBytes (replicate n 0)
zero_bytes zero i = omega arith
zero_bytes (suc n) zero = omega arith
zero_bytes (suc n) (suc i) = zero_bytes n i

pub nothing_part : IsPart nothing.logs nothing.place no_echoes
nothing_part = record {
  closed = record { reads = refl; count = refl; echoes = tt; raw_echoes = tt; chains = tt; handles = tt; raws = tt; journal = tt; wire = (zero_bytes 32, refl); handles_rise = tt; raws_rise = tt };
  here = record { handles = refl; raws = refl; journal = refl };
}

pub nothing_text : text_at nothing.logs nothing.place no_echoes ≡ []
unfolding body
nothing_text = refl

finished_gave : (logs : Logs) (place : Place) (all : Logs) → finished_at logs place ≡ Some all → (is_end place ≡ true) × (logs ≡ all)
finished_gave logs End all h = (refl, let same : logs ≡ all = cc in same)
finished_gave logs Opening all h = absurd (cc)
finished_gave logs (Log k) all h = absurd (cc)
finished_gave logs (RawHead p) all h = absurd (cc)
finished_gave logs (Raws p) all h = absurd (cc)
finished_gave logs Region all h = absurd (cc)
finished_gave logs Wire all h = absurd (cc)

closed_printed : (logs : Logs) (place : Place) (x : Echoes) (text : List ℕ) → is_end place ≡ true → IsPart logs place x → text_at logs place x ≡ text → IsPrinted text logs
closed_printed logs End x text end part is =
    let c = part.closed in (
      record { calls = x.calls; raws = x.raws },
      record {
        prints = (c.reads, c.count, sym is);
        echoes = c.echoes;
        raw_echoes = c.raw_echoes;
        chains = c.chains;
        handles = c.handles;
        raws = c.raws;
        journal = c.journal;
        wire = c.wire;
        handles_rise = c.handles_rise;
        raws_rise = c.raws_rise;
      },
    )
closed_printed logs Opening x text end part is = absurd (cc)
closed_printed logs (Log k) x text end part is = absurd (cc)
closed_printed logs (RawHead p) x text end part is = absurd (cc)
closed_printed logs (Raws p) x text end part is = absurd (cc)
closed_printed logs Region x text end part is = absurd (cc)
closed_printed logs Wire x text end part is = absurd (cc)

lines_printed : (lines : List (List ℕ)) (e : Draft) → 0 < length lines → list_all (is_whole ends_line) lines ≡ true → with_lines nothing lines ≡ Some e → is_end e.place ≡ true → IsPrinted (join_with_byte 10 lines) e.logs
lines_printed [] e some whole is end = absurd (omega arith)
lines_printed (line ∷ lines) e some whole is end =
    let r = lines_read nothing no_echoes line lines e nothing_part whole is end in
    closed_printed e.logs e.place r.y (join_with_byte 10 (line ∷ lines)) end r.part (r.text ∙ ap (λ t. t ++ join_with_byte 10 (line ∷ lines)) nothing_text)

-- what is read of a text prints as it
pub read_printed : (text : List ℕ) (logs : Logs) → read text ≡ Some logs → IsPrinted text logs
read_printed text logs is =
    let g = then_gave finished (with_lines nothing (lines_in text)) logs is in
    let f = finished_gave g.0.logs g.0.place logs g.2 in
    let printed = lines_printed (lines_in text) g.0 (some_pieces ends_line text) (pieces_whole ends_line text) g.1 f.0 in
    let P : List ℕ → Type 0 = λ t. IsPrinted t g.0.logs in
    subst (IsPrinted text) f.1 (subst P (lines_joined text) printed)
