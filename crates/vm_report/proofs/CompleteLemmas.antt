-- What is printed is read.
use Rattle.std.proofs.Common.{◌≡◌, ◌≤◌, ℕ, zero, suc, ◌+◌, ◌<◌, ◌^◌, inl, inr, true, false, ◌&&◌, List, [], ◌∷◌, ◌++◌, length, map, flat_map, take, drop, subst, codes, refl, ap, sym, ◌∙◌, append_assoc, arith, Option, Some}
use Rattle.std.specs.Prelude.{nat_lt}
use Rattle.std.specs.Fmt.{decimal}
use Rattle.std.specs.List.{list_all, join_with_byte, AllByRecursion}
use Rattle.std.specs.Option.{option_map, option_and_then}
use Rattle.std.proofs.lemmas.Bool.{cases_lt, cases_eq}
use Rattle.std.proofs.lemmas.Bool.Decides.{nat_tests}
use Rattle.std.proofs.lemmas.Fmt.{decimal_nonempty}
use Rattle.std.proofs.lemmas.List.{append-nil}
use Rattle.hex.specs.Hex.{encode_lower}
use Rattle.v4l_const.specs.declared.errno.Errno.{Errno}
use Rattle.vm_local.specs.declared.call.Call.{Call}
use Rattle.vm_local.specs.declared.entry.Entry.{Entry}
use Rattle.vm_local.specs.declared.entry.Entry.TheVariants.{Called, Finish, Bad, Give}
use Rattle.vm_local.specs.declared.reply.Reply.{Reply}
use Rattle.vm_local.specs.declared.reply.Reply.TheVariants.{Refused}
use Rattle.vm_region.specs.declared.entry.RegionEntry.{RegionEntry}
use Rattle.vm_region.specs.declared.entry.RegionEntry.TheVariants.{Map, Drop}
use Rattle.vm_script.specs.declared.line.RawChain.{RawChain}
use Rattle.vm_script.specs.Statements.{reads_as}
use Rattle.vm_script.specs.Words.{lines_in, words_in, ends_line, is_empty, pieces_by}
use Rattle.vm_script.proofs.WordLemmas.{is_whole, piece_then}
use Rattle.vm_report.specs.declared.draft.Draft.{Draft}
use Rattle.vm_report.specs.declared.draft.Place.{Place}
use Rattle.vm_report.specs.declared.draft.Place.TheVariants.{Opening, Log, RawHead, Raws, Region, Wire, End}
use Rattle.vm_script.specs.Drafts.{process_limit}
use Rattle.vm_report.specs.Logs.{HandleLog, RawLog, Logs}
use Rattle.vm_report.specs.Text.{reply_words, is_kind_of, call_text, journal_line, head_text, raw_text, text_of, Words, reads, all_read}
use Rattle.vm_script.specs.Words.{IsEcho}
use Rattle.vm_report.specs.Printed.{FitsHandle, FitsRaw, FitsReply, FitsEntry, FitsJournal, IsDigest, IsRising, AreRawWords, IsPrintedWith, IsPrinted, raw_in}
use Rattle.vm_report.specs.Reading.{chain_told, refusal_told, step_told, closed, begins, may_end, at_place, headed, fresh, with_entry, with_raw, raw_told, reply_at, with_answer, with_journal, wired, with_words, with_line, with_lines, nothing, finished, read}
use Rattle.vm_report.proofs.WordLemmas.{both, decimal_digits}
use Rattle.vm_report.proofs.PieceLemmas.{equals_at}
use Rattle.vm_report.proofs.ReplyLemmas.{then_gave, count_again, refusal_again}
use Rattle.vm_report.proofs.LineLemmas.{is_plain, not_digits, reply_said, said_plain, line_words, line_whole}
use Rattle.vm_report.proofs.SayLemmas.{head_words, head_line, head_plain, head_again, raws_line, raws_plain, step_word, journal_words, journal_text, journal_plain, map_again, drop_again, digest_again, wire_line, wire_plain, answer_words, some_reply, answer_line, answer_plain, call_again, echo_some, chain_again, raw_some}
use Rattle.vm_report.proofs.BodyLemmas.{raws_head, step_text, is_step, step_grows, call_grows}
use Rattle.vm_report.proofs.PartLemmas.{Echoes, words_at, text_at, IsPart, Grows, next, handle_grows, raws_grow, entry_grows, all_snoc, raw_log, more_raw, first_grows, next_grows, region_grows, with_region_entry, journal_grows, with_digest, wire_grows}
use Rattle.vm_report.proofs.SoundLemmas.{no_echoes, nothing_part, nothing_text}

-- ---- runs

abbrev pub ended : List ℕ → List ℕ
ended line = line ++ 10 ∷ []

-- lines by which a text goes on
pub record Runs (d : Draft) (x : Echoes) (e : Draft) (y : Echoes) : Type 0 where
  pub lines : List (List ℕ)
  pub runs : with_lines d lines ≡ Some e
  pub whole : list_all (is_whole ends_line) lines ≡ true
  pub part : IsPart e.logs e.place y
  pub text : text_at e.logs e.place y ≡ text_at d.logs d.place x ++ flat_map ended lines

lines_append : (d : Draft) (xs ys : List (List ℕ)) (e : Draft) → with_lines d xs ≡ Some e → with_lines d (xs ++ ys) ≡ with_lines e ys
lines_append d [] ys e h = ap (λ z. with_lines z ys) (let same : d ≡ e = cc in same)
lines_append d (x ∷ xs) ys e h =
    let g = then_gave (λ m. with_lines m xs) (with_line d x) e h in
    ap (option_and_then (λ m. with_lines m (xs ++ ys))) g.1 ∙ lines_append g.0 xs ys e g.2

all_append : (xs ys : List (List ℕ)) → list_all (is_whole ends_line) xs ≡ true → list_all (is_whole ends_line) ys ≡ true → list_all (is_whole ends_line) (xs ++ ys) ≡ true
all_append [] ys h k = k
all_append (x ∷ xs) ys h k = let parted = both (is_whole ends_line x) (list_all (is_whole ends_line) xs) h in rw (parted.0, all_append xs ys parted.1 k) refl

flat_append : (xs ys : List (List ℕ)) → flat_map ended (xs ++ ys) ≡ flat_map ended xs ++ flat_map ended ys
flat_append [] ys = refl
flat_append (x ∷ xs) ys = rw (flat_append xs ys) (sym (append_assoc (ended x) (flat_map ended xs) (flat_map ended ys)))

runs_none : (d : Draft) (x : Echoes) → IsPart d.logs d.place x → Runs d x d x
runs_none d x part = record { lines = []; runs = refl; whole = refl; part = part; text = sym (append-nil (text_at d.logs d.place x)) }

pub runs_then : (d : Draft) (x : Echoes) (e : Draft) (y : Echoes) (f : Draft) (z : Echoes) → Runs d x e y → Runs e y f z → Runs d x f z
runs_then d x e y f z a b = record {
  lines = a.lines ++ b.lines;
  runs = lines_append d a.lines b.lines e a.runs ∙ b.runs;
  whole = all_append a.lines b.lines a.whole b.whole;
  part = b.part;
  text = b.text ∙ rw (a.text, flat_append a.lines b.lines) (append_assoc (text_at d.logs d.place x) (flat_map ended a.lines) (flat_map ended b.lines));
}

pub runs_one : (d : Draft) (x : Echoes) (ws : List (List ℕ)) (e : Draft) (y : Echoes) (line : List ℕ) → list_all is_plain ws ≡ true → 0 < length ws → with_words d ws ≡ Some e → Grows d.logs d.place x e.logs e.place y line → line ≡ join_with_byte 32 ws ++ codes "\n"
    → Runs d x e y
runs_one d x ws e y line plain some is grows said = record {
  lines = join_with_byte 32 ws ∷ [];
  runs = ap (option_and_then (λ m. Some m)) (ap (with_words d) (line_words ws plain some) ∙ is);
  whole = rw (line_whole ws plain) refl;
  part = grows.part;
  text = grows.text ∙ ap (λ l. text_at d.logs d.place x ++ l) (said ∙ sym (append-nil (join_with_byte 32 ws ++ codes "\n")));
}

-- ---- heads

headed_is : (d : Draft) (p : ℕ) (place : Place) → p < process_limit → begins d.place p ≡ true → headed d p place ≡ Some (at_place d place)
headed_is d p place small at = let e : nat_lt p process_limit ≡ true = grind (arith, nat_tests) in rw (e, at) refl

handle_run : (d : Draft) (x : Echoes) (p : ℕ) (n : List ℕ) (s : Option ℕ) → IsPart d.logs d.place x → begins d.place p ≡ true → FitsHandle (fresh p n s) → Runs d x (at_place d (Log (fresh p n s))) (next d.place x)
handle_run d x p n s part at fits =
    let h : HandleLog = fresh p n s in
    let small = fits.process in
    runs_one d x (head_words h) (at_place d (Log h)) (next d.place x) (head_text h) (head_plain h (omega (arith, small)) fits.name fits.session) (omega arith)
    (ap (option_and_then (λ k. headed d k.process (Log k))) (head_again p n s (omega (arith, small)) fits.name fits.session) ∙ headed_is d p (Log h) small at)
    (handle_grows d.logs d.place x h part at fits refl) (head_line h)

raws_run : (d : Draft) (x : Echoes) (p : ℕ) → IsPart d.logs d.place x → begins d.place p ≡ true → p < process_limit → Runs d x (at_place d (RawHead p)) (next d.place x)
raws_run d x p part at small =
    runs_one d x (codes "raws" ∷ decimal p ∷ []) (at_place d (RawHead p)) (next d.place x) (raws_head p) (raws_plain p (omega (arith, small))) (omega arith)
    (ap (option_and_then (λ k. headed d k (RawHead k))) (count_again p (omega (arith, small))) ∙ headed_is d p (RawHead p) small at)
    (raws_grow d.logs d.place x p part at small) (raws_line p)

-- ---- entries

step_line : (e : Entry) → is_step e ≡ true → step_text e ≡ join_with_byte 32 (codes "+" ∷ step_word e ∷ []) ++ codes "\n"
step_line Finish h = refl
step_line Bad h = refl
step_line Give h = refl
step_line (Called line call reply) h = absurd (cc)

step_plain : (e : Entry) → is_step e ≡ true → list_all is_plain (codes "+" ∷ step_word e ∷ []) ≡ true
step_plain Finish h = refl
step_plain Bad h = refl
step_plain Give h = refl
step_plain (Called line call reply) h = absurd (cc)

step_again : (e : Entry) → is_step e ≡ true → step_told (step_word e ∷ []) ≡ Some e
step_again Finish h = refl
step_again Bad h = refl
step_again Give h = refl
step_again (Called line call reply) h = absurd (cc)

abbrev with_one : HandleLog → Entry → HandleLog
with_one h e = record h { entries = h.entries ++ e ∷ [] }

step_fit : (e : Entry) → is_step e ≡ true → FitsEntry e
step_fit Finish h = tt
step_fit Bad h = tt
step_fit Give h = tt
step_fit (Called line call reply) h = absurd (cc)

step_run : (logs : Logs) (h : HandleLog) (x : Echoes) (e : Entry) → IsPart logs (Log h) x → is_step e ≡ true → Runs (record { logs = logs; place = Log h }) x (record { logs = logs; place = Log (with_one h e) }) (record x { now = x.now })
step_run logs h x e part step =
    let grows = step_grows h.name h.entries e x.now step part.here.0.reads in
    runs_one (record { logs = logs; place = Log h }) x (codes "+" ∷ step_word e ∷ []) (record { logs = logs; place = Log (with_one h e) }) (record x { now = x.now }) (step_text e) (step_plain e step) (omega arith)
    (ap (option_map (with_entry logs h)) (step_again e step))
    (entry_grows logs h x e x.now (step_text e) part grows.0 grows.1 part.here.0.echoes (step_fit e step)) (step_line e step)

some_bytes : (w : List ℕ) → 0 < length w → is_empty w ≡ false
some_bytes [] h = absurd (omega arith)
some_bytes (b ∷ bs) h = refl

-- a line that begins with a number
answer_first : (d : Draft) (n : ℕ) (words : List (List ℕ)) → n < 2 ^ 32 → with_words d (decimal n ∷ words) ≡ with_answer d (decimal n) words
answer_first d n words small =
    let wide : n < 2 ^ 64 = omega (arith, small) in
    let digits = decimal_digits n wide in
    rw (
      not_digits (decimal n) (codes "handle") digits refl,
      not_digits (decimal n) (codes "raws") digits refl,
      not_digits (decimal n) (codes "+") digits refl,
      not_digits (decimal n) (codes "region") digits refl,
      not_digits (decimal n) (codes "map") digits refl,
      not_digits (decimal n) (codes "drop") digits refl,
      not_digits (decimal n) (codes "wire") digits refl,
      some_bytes (decimal n) (decimal_nonempty n wide),
    ) refl

take_front : (xs ys : List (List ℕ)) → take (length xs) (xs ++ ys) ≡ xs
take_front [] ys = refl
take_front (x ∷ xs) ys = ap (λ l. x ∷ l) (take_front xs ys)

drop_front : (xs : List (List ℕ)) (y : List ℕ) (ys : List (List ℕ)) → drop (length xs + 1) (xs ++ y ∷ ys) ≡ ys
drop_front [] y ys = refl
drop_front (x ∷ xs) y ys = let e : suc (length xs) + 1 ≡ suc (length xs + 1) = omega arith in rw e (drop_front xs y ys)

answer_is : (d : Draft) (n : ℕ) (words : List (List ℕ)) (r : Reply) → n < 2 ^ 32 → FitsReply r → with_words d (answer_words n words r) ≡ reply_at d.logs d.place (decimal n) words (reply_words r)
answer_is d n words r small fits =
    let told = said_plain (reply_words r) (reply_said r fits) in
    let all : List (List ℕ) = words ++ codes "=" ∷ reply_words r in
    let F : ℕ → Option Draft = λ at. reply_at d.logs d.place (decimal n) (take at all) (drop (at + 1) all) in
    answer_first d n all small ∙ ap (option_and_then F) (equals_at words (reply_words r) told.1)
    ∙ (let G : List (List ℕ) → List (List ℕ) → Option Draft = λ a b. reply_at d.logs d.place (decimal n) a b in
    ap (λ a. G a (drop (length words + 1) all)) (take_front words (codes "=" ∷ reply_words r)) ∙ ap (λ b. G words b) (drop_front words (codes "=") (reply_words r)))

call_run : (logs : Logs) (h : HandleLog) (x : Echoes) (n : ℕ) (call : Call) (r : Reply) (echo : List ℕ) → IsPart logs (Log h) x → n < 2 ^ 32 → FitsReply r → reads_as echo h.name call ≡ true → is_kind_of call r ≡ true → IsEcho echo
    → Runs (record { logs = logs; place = Log h }) x (record { logs = logs; place = Log (with_one h (Called n call r)) }) (record x { now = x.now ++ echo ∷ [] })
call_run logs h x n call r echo part small fits reading kind is =
    let grows = call_grows h.name h.entries n call r x.now echo reading kind part.here.0.reads in
    let d : Draft = record { logs = logs; place = Log h } in
    runs_one d x (answer_words n (words_in echo) r) (record { logs = logs; place = Log (with_one h (Called n call r)) }) (record x { now = x.now ++ echo ∷ [] }) (call_text n echo r) (answer_plain n echo r small is fits) (omega arith)
    (answer_is d n (words_in echo) r small fits ∙ ap (option_map (with_entry logs h)) (call_again echo h.name n call r small reading kind fits))
    (entry_grows logs h x (Called n call r) (x.now ++ echo ∷ []) (call_text n echo r) part grows.0 grows.1 (all_snoc IsEcho x.now echo part.here.0.echoes is) (small, fits))
    (answer_line n echo r is.1 (echo_some echo h.name call reading) (some_reply r))

abbrev with_all : HandleLog → List Entry → HandleLog
with_all h es = record h { entries = es }

entries_run : (logs : Logs) (h : HandleLog) (x : Echoes) (es all : List Entry) (ws now : List (List ℕ)) → IsPart logs (Log h) x → reads h.name es ws ≡ true → AllByRecursion FitsEntry es → AllByRecursion IsEcho ws
    → h.entries ++ es ≡ all → x.now ++ ws ≡ now → Runs (record { logs = logs; place = Log h }) x (record { logs = logs; place = Log (with_all h all) }) (record x { now = now })
entries_run logs h x [] all [] now part reading fits are e f =
    let P : List Entry → List (List ℕ) → Type 0 = λ a b. Runs (record { logs = logs; place = Log h }) x (record { logs = logs; place = Log (with_all h a) }) (record x { now = b }) in
    let g : h.entries ≡ all = sym (append-nil h.entries) ∙ e in
    let k : x.now ≡ now = sym (append-nil x.now) ∙ f in
    subst (λ a. P a now) g (subst (λ b. P h.entries b) k (runs_none (record { logs = logs; place = Log h }) x part))
entries_run logs h x [] all (w ∷ ws) now part reading fits are e f = absurd (cc)
entries_run logs h x (Called n call r ∷ es) all [] now part reading fits are e f = absurd (cc)
entries_run logs h x (Called n call r ∷ es) all (w ∷ ws) now part reading fits are e f =
    let parted = both (reads_as w h.name call && is_kind_of call r) (reads h.name es ws) reading in
    let one = both (reads_as w h.name call) (is_kind_of call r) parted.0 in
    let a = call_run logs h x n call r w part fits.0.0 fits.0.1 one.0 one.1 are.0 in
    let b = entries_run logs (with_one h (Called n call r)) (record x { now = x.now ++ w ∷ [] }) es all ws now a.part parted.1 fits.1 are.1 (append_assoc h.entries (Called n call r ∷ []) es ∙ e) (append_assoc x.now (w ∷ []) ws ∙ f) in
    runs_then _ x _ _ _ _ a b
entries_run logs h x (Finish ∷ es) all ws now part reading fits are e f =
    let a = step_run logs h x Finish part refl in
    runs_then _ x _ _ _ _ a (entries_run logs (with_one h Finish) x es all ws now a.part reading fits.1 are (append_assoc h.entries (Finish ∷ []) es ∙ e) f)
entries_run logs h x (Bad ∷ es) all ws now part reading fits are e f =
    let a = step_run logs h x Bad part refl in
    runs_then _ x _ _ _ _ a (entries_run logs (with_one h Bad) x es all ws now a.part reading fits.1 are (append_assoc h.entries (Bad ∷ []) es ∙ e) f)
entries_run logs h x (Give ∷ es) all ws now part reading fits are e f =
    let a = step_run logs h x Give part refl in
    runs_then _ x _ _ _ _ a (entries_run logs (with_one h Give) x es all ws now a.part reading fits.1 are (append_assoc h.entries (Give ∷ []) es ∙ e) f)

-- a handle with its log
log_run : (d : Draft) (x : Echoes) (h : HandleLog) (ws : List (List ℕ)) → IsPart d.logs d.place x → begins d.place h.process ≡ true → FitsHandle h → reads h.name h.entries ws ≡ true → AllByRecursion IsEcho ws
    → Runs d x (at_place d (Log h)) (record { calls = (words_at d.place x).calls; now = ws; raws = (words_at d.place x).raws })
log_run d x h ws part at fits reading are =
    let begun : HandleLog = fresh h.process h.name h.session in
    let a = handle_run d x h.process h.name h.session part at (record { process = fits.process; name = fits.name; session = fits.session; entries = tt }) in
    let b = entries_run (closed d.logs d.place) begun (next d.place x) h.entries h.entries ws ws a.part reading fits.entries are refl refl in
    runs_then d x _ _ _ _ a b

-- ---- raw lines

raw_is : (logs : Logs) (p n : ℕ) (chain : RawChain) (errno : Errno) (echo : List ℕ) → n < 2 ^ 32 → raw_in (words_in echo) ≡ Some chain
    → raw_told logs p (decimal n) (words_in echo) (reply_words (Refused errno)) ≡ Some (with_raw logs p n chain errno)
raw_is logs p n chain errno echo small is =
    let F : ℕ → Option Draft = λ k. option_and_then (λ c. option_map (λ e. with_raw logs p k c e) (refusal_told (reply_words (Refused errno)))) (chain_told (words_in echo)) in
    let G : RawChain → Option Draft = λ c. option_map (λ e. with_raw logs p n c e) (refusal_told (reply_words (Refused errno))) in
    ap (option_and_then F) (count_again n small) ∙ ap (option_and_then G) (chain_again echo chain is) ∙ ap (option_map (λ e. with_raw logs p n chain e)) (refusal_again errno)

first_run : (logs : Logs) (p : ℕ) (x : Echoes) (n : ℕ) (chain : RawChain) (errno : Errno) (echo : List ℕ) → IsPart logs (RawHead p) x → n < 2 ^ 32 → raw_in (words_in echo) ≡ Some chain → IsEcho echo
    → Runs (record { logs = logs; place = RawHead p }) x (with_raw logs p n chain errno) (more_raw x echo)
first_run logs p x n chain errno echo part small raw is =
    let d : Draft = record { logs = logs; place = RawHead p } in
    runs_one d x (answer_words n (words_in echo) (Refused errno)) (with_raw logs p n chain errno) (more_raw x echo) (raw_text (raw_log p n chain errno) echo) (answer_plain n echo (Refused errno) small is tt) (omega arith)
    (answer_is d n (words_in echo) (Refused errno) small tt ∙ raw_is logs p n chain errno echo small raw)
    (first_grows logs p x n chain errno echo part small is raw) (answer_line n echo (Refused errno) is.1 (raw_some echo chain raw) (omega arith))

next_run : (logs : Logs) (p : ℕ) (x : Echoes) (n : ℕ) (chain : RawChain) (errno : Errno) (echo : List ℕ) → IsPart logs (Raws p) x → n < 2 ^ 32 → raw_in (words_in echo) ≡ Some chain → IsEcho echo
    → Runs (record { logs = logs; place = Raws p }) x (with_raw logs p n chain errno) (more_raw x echo)
next_run logs p x n chain errno echo part small raw is =
    let d : Draft = record { logs = logs; place = Raws p } in
    runs_one d x (answer_words n (words_in echo) (Refused errno)) (with_raw logs p n chain errno) (more_raw x echo) (raw_text (raw_log p n chain errno) echo) (answer_plain n echo (Refused errno) small is tt) (omega arith)
    (answer_is d n (words_in echo) (Refused errno) small tt ∙ raw_is logs p n chain errno echo small raw)
    (next_grows logs p x n chain errno echo part small is raw) (answer_line n echo (Refused errno) is.1 (raw_some echo chain raw) (omega arith))

-- ---- handles and raw lines in printed order

-- the least process that a handle, and a raw line, may have here
abbrev least_handle : Place → ℕ
least_handle (Log h) = h.process
least_handle (Raws q) = q + 1
least_handle place = 0

abbrev least_raw : Place → ℕ
least_raw (Log h) = h.process
least_raw (Raws q) = q
least_raw place = 0

begins_least : (place : Place) (p : ℕ) → may_end place ≡ true → least_handle place ≤ p → begins place p ≡ true
begins_least Opening p h low = refl
begins_least (Log k) p h low = grind (arith, nat_tests)
begins_least (Raws q) p h low = grind (arith, nat_tests)
begins_least (RawHead q) p h low = absurd (cc)
begins_least Region p h low = absurd (cc)
begins_least Wire p h low = absurd (cc)
begins_least End p h low = absurd (cc)

-- what is left to print from here on
record Ready (place : Place) (hs : List HandleLog) (ws : List (List (List ℕ))) (rs : List RawLog) (es : List (List ℕ)) : Type 0 where
  pub ends : may_end place ≡ true
  pub reads : all_read hs ws ≡ true
  pub echoes : AllByRecursion (AllByRecursion IsEcho) ws
  pub raw_echoes : AllByRecursion IsEcho es
  pub chains : AreRawWords es rs
  pub handles : AllByRecursion FitsHandle hs
  pub raws : AllByRecursion FitsRaw rs
  pub handles_rise : IsRising (least_handle place) (map (λ h. h.process) hs)
  pub raws_rise : IsRising (least_raw place) (map (λ r. r.process) rs)

abbrev more_logs : Logs → List HandleLog → List RawLog → Logs
more_logs logs hs rs = record logs { handles = logs.handles ++ hs; raws = logs.raws ++ rs }

abbrev more_words : Words → List (List (List ℕ)) → List (List ℕ) → Words
more_words words ws es = record { calls = words.calls ++ ws; raws = words.raws ++ es }

record Merged (d : Draft) (x : Echoes) (hs : List HandleLog) (ws : List (List (List ℕ))) (rs : List RawLog) (es : List (List ℕ)) : Type 0 where
  pub e : Draft
  pub y : Echoes
  pub runs : Runs d x e y
  pub ends : may_end e.place ≡ true
  pub logs : closed e.logs e.place ≡ more_logs (closed d.logs d.place) hs rs
  pub words : words_at e.place y ≡ more_words (words_at d.place x) ws es

abbrev Goes : List HandleLog → List (List (List ℕ)) → List RawLog → List (List ℕ) → Type 0
Goes hs ws rs es = (d : Draft) (x : Echoes) → IsPart d.logs d.place x → Ready d.place hs ws rs es → Merged d x hs ws rs es

merged_none : Goes [] [] [] []
merged_none d x part ready = record {
  e = d;
  y = x;
  runs = runs_none d x part;
  ends = ready.ends;
  logs = (let l : Logs = closed d.logs d.place in rw (append-nil l.handles, append-nil l.raws) refl);
  words = (let v : Words = words_at d.place x in rw (append-nil v.calls, append-nil v.raws) refl);
}

merged_handle : (h : HandleLog) (hs : List HandleLog) (w : List (List ℕ)) (ws : List (List (List ℕ))) (rs : List RawLog) (es : List (List ℕ)) → IsRising h.process (map (λ r. r.process) rs) → Goes hs ws rs es → Goes (h ∷ hs) (w ∷ ws) rs es
merged_handle h hs w ws rs es rise goes d x part ready =
    let parted = both (reads h.name h.entries w) (all_read hs ws) ready.reads in
    let all : Logs = closed d.logs d.place in
    let words : Words = words_at d.place x in
    let at = begins_least d.place h.process ready.ends ready.handles_rise.0 in
    let next : Echoes = record { calls = words.calls; now = w; raws = words.raws } in
    let a = log_run d x h w part at ready.handles.0 parted.0 ready.echoes.0 in
    let left : Ready (Log h) hs ws rs es = record {
      ends = refl;
      reads = parted.1;
      echoes = ready.echoes.1;
      raw_echoes = ready.raw_echoes;
      chains = ready.chains;
      handles = ready.handles.1;
      raws = ready.raws;
      handles_rise = ready.handles_rise.1;
      raws_rise = rise;
    } in
    let m = goes (at_place d (Log h)) next a.part left in
    record {
      e = m.e;
      y = m.y;
      runs = runs_then d x (at_place d (Log h)) next m.e m.y a m.runs;
      ends = m.ends;
      logs = m.logs ∙ ap (λ z. record all { handles = z; raws = all.raws ++ rs }) (append_assoc all.handles (h ∷ []) hs);
      words = m.words ∙ ap (λ z. record { calls = z; raws = words.raws ++ es }) (append_assoc words.calls (w ∷ []) ws);
    }

rising_from : (n m : ℕ) (ks : List ℕ) → IsRising n ks → m ≤ n → IsRising m ks
rising_from n m [] rise low = tt
rising_from n m (k ∷ ks) rise low = (let first = rise.0 in omega (arith, first, low), rise.1)

abbrev behind_raw : Draft → RawLog → Draft
behind_raw d r = record { logs = record (closed d.logs d.place) { raws = (closed d.logs d.place).raws ++ r ∷ [] }; place = Raws r.process }

-- a raw line behind this place
record RawRuns (d : Draft) (x : Echoes) (r : RawLog) (e : List ℕ) : Type 0 where
  pub now : List (List ℕ)
  pub runs : Runs d x (behind_raw d r) (record { calls = (words_at d.place x).calls; now = now; raws = (words_at d.place x).raws ++ e ∷ [] })

raw_begins : (d : Draft) (x : Echoes) (r : RawLog) (e : List ℕ) → IsPart d.logs d.place x → begins d.place r.process ≡ true → FitsRaw r → raw_in (words_in e) ≡ Some r.chain → IsEcho e → RawRuns d x r e
raw_begins d x r e part at fits chain is =
    let a = raws_run d x r.process part at fits.process in
    let b = first_run (closed d.logs d.place) r.process (next d.place x) r.line r.chain r.errno e a.part fits.line chain is in
    record { now = []; runs = runs_then d x _ _ _ _ a b }

raw_goes_on : (logs : Logs) (q : ℕ) (x : Echoes) (r : RawLog) (e : List ℕ) → IsPart logs (Raws q) x → q ≡ r.process → FitsRaw r → raw_in (words_in e) ≡ Some r.chain → IsEcho e → RawRuns (record { logs = logs; place = Raws q }) x r e
raw_goes_on logs q x r e part same fits chain is =
    let P : ℕ → Type 0 = λ k. IsPart logs (Raws k) x → Runs (record { logs = logs; place = Raws k }) x (behind_raw (record { logs = logs; place = Raws k }) r) (more_raw x e) in
    record { now = x.now; runs = subst P (sym same) (λ p. next_run logs r.process x r.line r.chain r.errno e p fits.line chain is) part }

raw_runs_at : (logs : Logs) (place : Place) (x : Echoes) (r : RawLog) (e : List ℕ) → IsPart logs place x → may_end place ≡ true → least_raw place ≤ r.process → FitsRaw r → raw_in (words_in e) ≡ Some r.chain → IsEcho e → RawRuns (record { logs = logs; place = place }) x r e
raw_runs_at logs (Raws q) x r e part ends low fits chain is =
    elim (cases_eq q r.process) [
      | inl same ↦ raw_goes_on logs q x r e part same fits chain is
      | inr other ↦ raw_begins (record { logs = logs; place = Raws q }) x r e part (begins_least (Raws q) r.process refl (grind (arith, other))) fits chain is
    ]
raw_runs_at logs Opening x r e part ends low fits chain is = raw_begins (record { logs = logs; place = Opening }) x r e part refl fits chain is
raw_runs_at logs (Log h) x r e part ends low fits chain is = raw_begins (record { logs = logs; place = Log h }) x r e part (begins_least (Log h) r.process refl low) fits chain is
raw_runs_at logs (RawHead q) x r e part ends low fits chain is = absurd (cc)
raw_runs_at logs Region x r e part ends low fits chain is = absurd (cc)
raw_runs_at logs Wire x r e part ends low fits chain is = absurd (cc)
raw_runs_at logs End x r e part ends low fits chain is = absurd (cc)

merged_raw : (r : RawLog) (rs : List RawLog) (e : List ℕ) (es : List (List ℕ)) (hs : List HandleLog) (ws : List (List (List ℕ))) → IsRising (r.process + 1) (map (λ h. h.process) hs) → Goes hs ws rs es → Goes hs ws (r ∷ rs) (e ∷ es)
merged_raw r rs e es hs ws rise goes d x part ready =
    let all : Logs = closed d.logs d.place in
    let words : Words = words_at d.place x in
    let a = raw_runs_at d.logs d.place x r e part ready.ends ready.raws_rise.0 ready.raws.0 ready.chains.0 ready.raw_echoes.0 in
    let y : Echoes = record { calls = words.calls; now = a.now; raws = words.raws ++ e ∷ [] } in
    let left : Ready (Raws r.process) hs ws rs es = record {
      ends = refl;
      reads = ready.reads;
      echoes = ready.echoes;
      raw_echoes = ready.raw_echoes.1;
      chains = ready.chains.1;
      handles = ready.handles;
      raws = ready.raws.1;
      handles_rise = rise;
      raws_rise = ready.raws_rise.1;
    } in
    let m = goes (behind_raw d r) y a.runs.part left in
    record {
      e = m.e;
      y = m.y;
      runs = runs_then d x (behind_raw d r) y m.e m.y a.runs m.runs;
      ends = m.ends;
      logs = m.logs ∙ ap (λ z. record all { handles = all.handles ++ hs; raws = z }) (append_assoc all.raws (r ∷ []) rs);
      words = m.words ∙ ap (λ z. record { calls = words.calls ++ ws; raws = z }) (append_assoc words.raws (e ∷ []) es);
    }

merged : (n : ℕ) (hs : List HandleLog) (ws : List (List (List ℕ))) (rs : List RawLog) (es : List (List ℕ)) → length hs + length rs ≤ n → Goes hs ws rs es
merged n [] [] [] [] few d x part ready = merged_none d x part ready
merged n [] (w ∷ ws) rs es few d x part ready = absurd (let h = ready.reads in cc)
merged n (h ∷ hs) [] rs es few d x part ready = absurd (let h = ready.reads in cc)
merged n hs ws [] (e ∷ es) few d x part ready = absurd ready.chains
merged n hs ws (r ∷ rs) [] few d x part ready = absurd ready.chains
merged zero (h ∷ hs) (w ∷ ws) [] [] few d x part ready = absurd (omega (arith, few))
merged zero [] [] (r ∷ rs) (e ∷ es) few d x part ready = absurd (omega (arith, few))
merged zero (h ∷ hs) (w ∷ ws) (r ∷ rs) (e ∷ es) few d x part ready = absurd (omega (arith, few))
merged (suc n) (h ∷ hs) (w ∷ ws) [] [] few d x part ready = merged_handle h hs w ws [] [] tt (merged n hs ws [] [] (omega (arith, few))) d x part ready
merged (suc n) [] [] (r ∷ rs) (e ∷ es) few d x part ready = merged_raw r rs e es [] [] tt (merged n [] [] rs es (omega (arith, few))) d x part ready
merged (suc n) (h ∷ hs) (w ∷ ws) (r ∷ rs) (e ∷ es) few d x part ready =
    elim (cases_lt r.process h.process) [
      | inl raw ↦ merged_raw r rs e es (h ∷ hs) (w ∷ ws) (omega (arith, raw), ready.handles_rise.1) (merged n (h ∷ hs) (w ∷ ws) rs es (omega (arith, few))) d x part ready
      | inr handle ↦ merged_handle h hs w ws (r ∷ rs) (e ∷ es) (handle, ready.raws_rise.1) (merged n hs ws (r ∷ rs) (e ∷ es) (omega (arith, few))) d x part ready
    ]

-- ---- the region and the digest

region_run : (d : Draft) (x : Echoes) → IsPart d.logs d.place x → may_end d.place ≡ true → Runs d x (at_place d Region) (next d.place x)
region_run d x part ends =
    runs_one d x (codes "region" ∷ []) (at_place d Region) (next d.place x) (codes "region\n") refl (omega arith) (rw ends refl) (region_grows d.logs d.place x part ends) refl

journal_is : (logs : Logs) (k : RegionEntry) → FitsJournal k → with_words (record { logs = logs; place = Region }) (journal_words k) ≡ Some (record { logs = with_region_entry logs k; place = Region })
journal_is logs (Map addr pages count) fits = ap (option_and_then (with_journal (record { logs = logs; place = Region }))) (map_again addr pages count fits)
journal_is logs (Drop addr count) fits = ap (option_and_then (with_journal (record { logs = logs; place = Region }))) (drop_again addr count fits)

some_journal : (k : RegionEntry) → 0 < length (journal_words k)
some_journal (Map addr pages count) = omega arith
some_journal (Drop addr count) = omega arith

abbrev with_journals : Logs → List RegionEntry → Logs
with_journals logs ks = record logs { journal = ks }

journal_run : (logs : Logs) (x : Echoes) (ks all : List RegionEntry) → IsPart logs Region x → AllByRecursion FitsJournal ks → logs.journal ++ ks ≡ all → Runs (record { logs = logs; place = Region }) x (record { logs = with_journals logs all; place = Region }) x
journal_run logs x [] all part fits is =
    let P : List RegionEntry → Type 0 = λ z. Runs (record { logs = logs; place = Region }) x (record { logs = with_journals logs z; place = Region }) x in
    subst P (sym (append-nil logs.journal) ∙ is) (runs_none (record { logs = logs; place = Region }) x part)
journal_run logs x (k ∷ ks) all part fits is =
    let d : Draft = record { logs = logs; place = Region } in
    let a : Runs d x (record { logs = with_region_entry logs k; place = Region }) x = runs_one d x (journal_words k) (record { logs = with_region_entry logs k; place = Region }) x (journal_line k) (journal_plain k fits.0) (some_journal k) (journal_is logs k fits.0) (journal_grows logs x k part fits.0) (journal_text k) in
    runs_then d x _ x _ x a (journal_run (with_region_entry logs k) x ks all a.part fits.1 (append_assoc logs.journal (k ∷ []) ks ∙ is))

wire_run : (logs : Logs) (x : Echoes) (digest : List ℕ) → IsPart logs Region x → IsDigest digest → Runs (record { logs = logs; place = Region }) x (record { logs = with_digest logs digest; place = Wire }) x
wire_run logs x digest part fits =
    let d : Draft = record { logs = logs; place = Region } in
    runs_one d x (codes "wire" ∷ encode_lower digest ∷ []) (record { logs = with_digest logs digest; place = Wire }) x (codes "wire " ++ encode_lower digest ++ codes "\n") (wire_plain digest fits) (omega arith)
    (ap (option_and_then (wired d)) (digest_again digest fits)) (wire_grows logs x digest part fits) (wire_line digest)

-- ---- the whole

ended_pieces : (lines : List (List ℕ)) → list_all (is_whole ends_line) lines ≡ true → pieces_by ends_line (flat_map ended lines) ≡ lines ++ [] ∷ []
ended_pieces [] h = refl
ended_pieces (l ∷ lines) h =
    let parted = both (is_whole ends_line l) (list_all (is_whole ends_line) lines) h in
    ap (pieces_by ends_line) (append_assoc l (10 ∷ []) (flat_map ended lines)) ∙ piece_then ends_line l 10 (flat_map ended lines) parted.0 refl ∙ ap (λ z. l ∷ z) (ended_pieces lines parted.1)

printed_with : (text : List ℕ) (logs : Logs) (words : Words) → IsPrintedWith words text logs → read text ≡ Some logs
printed_with text logs words p =
    let ready : Ready Opening logs.handles words.calls logs.raws words.raws = record {
      ends = refl;
      reads = p.prints.0;
      echoes = p.echoes;
      raw_echoes = p.raw_echoes;
      chains = p.chains;
      handles = p.handles;
      raws = p.raws;
      handles_rise = p.handles_rise;
      raws_rise = p.raws_rise;
    } in
    let m = merged (length logs.handles + length logs.raws) logs.handles words.calls logs.raws words.raws (omega arith) nothing no_echoes nothing_part ready in
    let at : Logs = closed m.e.logs m.e.place in
    let x : Echoes = next m.e.place m.y in
    let a = region_run m.e m.y m.runs.part m.ends in
    let none : at.journal ≡ [] = ap (λ z. z.journal) m.logs in
    let b = journal_run at x logs.journal logs.journal a.part p.journal (ap (λ z. z ++ logs.journal) none) in
    let c = wire_run (with_journals at logs.journal) x logs.wire b.part p.wire in
    let last : Logs = with_digest (with_journals at logs.journal) logs.wire in
    let runs : Runs nothing no_echoes (record { logs = last; place = Wire }) x =
    runs_then nothing no_echoes m.e m.y _ x m.runs (runs_then m.e m.y _ x _ x a (runs_then _ x _ x _ x b c)) in
    let same : last ≡ logs = ap (λ z. with_digest (with_journals z logs.journal) logs.wire) m.logs in
    let told : record { calls = x.calls; raws = x.raws } ≡ words = ap (λ z. record { calls = z.calls; raws = z.raws }) m.words in
    let printed : text_of last (record { calls = x.calls; raws = x.raws }) ≡ flat_map ended runs.lines = runs.text ∙ ap (λ t. t ++ flat_map ended runs.lines) nothing_text in
    let whole : text ≡ flat_map ended runs.lines =
    p.prints.2 ∙ sym (ap (λ z. text_of z words) same) ∙ sym (ap (λ z. text_of last z) told) ∙ printed in
    let pieces : lines_in text ≡ runs.lines ++ [] ∷ [] = ap lines_in whole ∙ ended_pieces runs.lines runs.whole in
    let ends : with_lines nothing (runs.lines ++ [] ∷ []) ≡ Some (record { logs = last; place = End }) = lines_append nothing runs.lines ([] ∷ []) (record { logs = last; place = Wire }) runs.runs in
    ap (λ ls. option_and_then finished (with_lines nothing ls)) pieces ∙ ap (option_and_then finished) ends ∙ ap Some same

-- what prints as a text is read of it
pub printed_read : (text : List ℕ) (logs : Logs) → IsPrinted text logs → read text ≡ Some logs
printed_read text logs p = printed_with text logs p.0 p.1

-- a text tells one run's logs
pub one_run : (text : List ℕ) (logs others : Logs) → IsPrinted text logs → IsPrinted text others → logs ≡ others
one_run text logs others p q = let e : Some logs ≡ Some others = sym (printed_read text logs p) ∙ printed_read text others q in cc
