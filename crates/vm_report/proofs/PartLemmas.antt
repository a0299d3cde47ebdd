-- What the lines of a text so far are printed of, and how one line more makes it grow.
use Rattle.std.proofs.Common.{◌≡◌, ◌≤◌, ℕ, ◌^◌, ◌<◌, ◌==◌, Bool, true, false, ◌||◌, List, [], ◌∷◌, ◌++◌, length, map, flat_map, subst, codes, refl, ap, sym, ◌∙◌, append_assoc, arith, eq-eqb, length-append, Some}
use Rattle.std.specs.List.{range_with_len, list_any, AllByRecursion}
use Rattle.std.proofs.lemmas.Bool.{ne_eqb}
use Rattle.std.proofs.lemmas.Bool.Decides.{nat_tests}
use Rattle.std.proofs.lemmas.Grind.{common_steps}
use Rattle.std.proofs.lemmas.List.{append-nil}
use Rattle.hex.specs.Hex.{encode_lower}
use Rattle.v4l_const.specs.declared.errno.Errno.{Errno}
use Rattle.vm_local.specs.declared.entry.Entry.{Entry}
use Rattle.vm_region.specs.declared.entry.RegionEntry.{RegionEntry}
use Rattle.vm_script.specs.declared.line.RawChain.{RawChain}
use Rattle.vm_script.specs.Grammar.{words_in}
use Rattle.vm_report.specs.declared.draft.Place.{Place}
use Rattle.vm_report.specs.declared.draft.Place.TheVariants.{Opening, Log, RawHead, Raws, Region, Wire, End}
use Rattle.vm_script.specs.Drafts.{process_limit}
use Rattle.vm_report.specs.Logs.{HandleLog, RawLog, Logs}
use Rattle.vm_report.specs.Text.{entries_text, head_text, handle_text, handles_text, raw_text, raws_text, process_text, journal_line, text_of, Words, reads, all_read}
use Rattle.vm_script.specs.Words.{IsEcho}
use Rattle.vm_report.specs.Printed.{FitsHandle, FitsRaw, FitsEntry, FitsJournal, IsDigest, IsRising, AreRawWords, raw_in}
use Rattle.vm_report.specs.Reading.{closed, begins, may_end}
use Rattle.vm_report.proofs.BodyLemmas.{flat_grown, AtMost, RawsAtMost, RawsBelow, handles_snoc, handles_none, any_none, raws_head, raws_same, raws_first, raws_next, lengths, all_read_snoc}

-- ---- the body of a text: all processes' handles and raw lines

unfoldable pub body : Logs → Words → List ℕ
body logs words = flat_map (process_text logs words) (range_with_len 0 process_limit)

abbrev with_log : Logs → HandleLog → Logs
with_log logs h = record logs { handles = logs.handles ++ h ∷ [] }

abbrev more_calls : Words → List (List ℕ) → Words
more_calls words es = record { calls = words.calls ++ es ∷ []; raws = words.raws }

no_raws : (q p : ℕ) (rs : List RawLog) (es : List (List ℕ)) → RawsBelow p rs → p ≤ q → raws_text q rs es ≡ []
no_raws q p rs es low h = rw (any_none q p rs low h) refl

-- one handle more
pub body_handle : (logs : Logs) (words : Words) (h : HandleLog) (es : List (List ℕ)) → length logs.handles ≡ length words.calls → AtMost h.process logs.handles → RawsBelow h.process logs.raws → h.process < process_limit
    → body (with_log logs h) (more_calls words es) ≡ body logs words ++ handle_text h es
unfolding body
body_handle logs words h es same handles raws small =
    flat_grown (process_text logs words) (process_text (with_log logs h) (more_calls words es)) (handle_text h es) h.process 0 process_limit (omega arith) small
    (λ q other. (let not_it : (h.process == q) ≡ false = ne_eqb h.process q (λ e. other (sym e)) in
    ap (λ x. x ++ raws_text q logs.raws words.raws) (handles_snoc q logs.handles h words.calls es same ∙ rw not_it (append-nil (handles_text q logs.handles words.calls)))))
    (rw (handles_snoc h.process logs.handles h words.calls es same, eq-eqb h.process h.process refl, no_raws h.process h.process logs.raws words.raws raws (omega arith)) (grind (arith, common_steps)))
    (λ q later. rw (handles_none q h.process logs.handles words.calls handles later, no_raws q h.process logs.raws words.raws raws (omega (arith, later))) refl)

abbrev with_raw_log : Logs → RawLog → Logs
with_raw_log logs r = record logs { raws = logs.raws ++ r ∷ [] }

abbrev more_raws : Words → List ℕ → Words
more_raws words e = record { calls = words.calls; raws = words.raws ++ e ∷ [] }

below_from : (p q : ℕ) (rs : List RawLog) → RawsAtMost p rs → p < q → RawsBelow q rs
below_from p q [] low h = tt
below_from p q (r ∷ rs) low h = (let first = low.0 in omega (arith, first, h), below_from p q rs low.1 h)

at_most_from : (p : ℕ) (rs : List RawLog) → RawsBelow p rs → RawsAtMost p rs
at_most_from p [] low = tt
at_most_from p (r ∷ rs) low = (let first = low.0 in omega (arith, first), at_most_from p rs low.1)

body_raw : (logs : Logs) (words : Words) (r : RawLog) (e x : List ℕ) → length words.raws ≡ length logs.raws → AtMost r.process logs.handles → RawsAtMost r.process logs.raws → r.process < process_limit
    → raws_text r.process (logs.raws ++ r ∷ []) (words.raws ++ e ∷ []) ≡ raws_text r.process logs.raws words.raws ++ x
    → body (with_raw_log logs r) (more_raws words e) ≡ body logs words ++ x
unfolding body
body_raw logs words r e x same handles raws small grows =
    flat_grown (process_text logs words) (process_text (with_raw_log logs r) (more_raws words e)) x r.process 0 process_limit (omega arith) small
    (λ q other. ap (λ y. handles_text q logs.handles words.calls ++ y) (raws_same q logs.raws r words.raws e same other))
    (rw grows (sym (append_assoc (handles_text r.process logs.handles words.calls) (raws_text r.process logs.raws words.raws) x)))
    (λ q later. rw (handles_none q r.process logs.handles words.calls handles later, no_raws q q logs.raws words.raws (below_from r.process q logs.raws raws later) (omega arith)) refl)

-- the first raw line of its process, and one more
pub body_first : (logs : Logs) (words : Words) (r : RawLog) (e : List ℕ) → length words.raws ≡ length logs.raws → AtMost r.process logs.handles → RawsBelow r.process logs.raws → r.process < process_limit
    → body (with_raw_log logs r) (more_raws words e) ≡ body logs words ++ (raws_head r.process ++ raw_text r e)
body_first logs words r e same handles raws small =
    body_raw logs words r e (raws_head r.process ++ raw_text r e) same handles (at_most_from r.process logs.raws raws) small
    (raws_first logs.raws r words.raws e same (any_none r.process r.process logs.raws raws (omega arith)))

pub body_next : (logs : Logs) (words : Words) (r : RawLog) (e : List ℕ) → length words.raws ≡ length logs.raws → AtMost r.process logs.handles → RawsAtMost r.process logs.raws → r.process < process_limit
    → list_any (λ k. k.process == r.process) logs.raws ≡ true
    → body (with_raw_log logs r) (more_raws words e) ≡ body logs words ++ raw_text r e
body_next logs words r e same handles raws small some =
    body_raw logs words r e (raw_text r e) same handles raws small (raws_next logs.raws r words.raws e same some)

-- ---- what was read

-- the words of the calls of the handles that were read, of the one that is being read, and of raw lines
pub record Echoes : Type 0 where
  pub calls : List (List (List ℕ))
  pub now : List (List ℕ)
  pub raws : List (List ℕ)

abbrev pub words_at : Place → Echoes → Words
words_at (Log h) x = record { calls = x.calls ++ x.now ∷ []; raws = x.raws }
words_at place x = record { calls = x.calls; raws = x.raws }

-- the text so far
abbrev pub text_at : Logs → Place → Echoes → List ℕ
text_at logs Opening x = body logs (record { calls = x.calls; raws = x.raws })
text_at logs (Log h) x = body (closed logs (Log h)) (words_at (Log h) x)
text_at logs (RawHead p) x = body logs (record { calls = x.calls; raws = x.raws }) ++ raws_head p
text_at logs (Raws p) x = body logs (record { calls = x.calls; raws = x.raws })
text_at logs Region x = body logs (record { calls = x.calls; raws = x.raws }) ++ codes "region\n" ++ flat_map journal_line logs.journal
text_at logs Wire x = text_of logs (record { calls = x.calls; raws = x.raws })
text_at logs End x = text_of logs (record { calls = x.calls; raws = x.raws })

pub record IsClosed (logs : Logs) (words : Words) : Type 0 where
  pub reads : all_read logs.handles words.calls ≡ true
  pub count : length words.raws ≡ length logs.raws
  pub echoes : AllByRecursion (AllByRecursion IsEcho) words.calls
  pub raw_echoes : AllByRecursion IsEcho words.raws
  pub chains : AreRawWords words.raws logs.raws
  pub handles : AllByRecursion FitsHandle logs.handles
  pub raws : AllByRecursion FitsRaw logs.raws
  pub journal : AllByRecursion FitsJournal logs.journal
  pub wire : IsDigest logs.wire
  pub handles_rise : IsRising 0 (map (λ h. h.process) logs.handles)
  pub raws_rise : IsRising 0 (map (λ r. r.process) logs.raws)

pub record IsNow (h : HandleLog) (now : List (List ℕ)) : Type 0 where
  pub reads : reads h.name h.entries now ≡ true
  pub fits : FitsHandle h
  pub echoes : AllByRecursion IsEcho now

-- so far only handles up to this process, and raw lines before it, and nothing of the region
pub record IsBefore (logs : Logs) (p : ℕ) : Type 0 where
  pub handles : AtMost p logs.handles
  pub raws : RawsBelow p logs.raws
  pub journal : logs.journal ≡ []

pub record IsWithin (logs : Logs) (p : ℕ) : Type 0 where
  pub process : p < process_limit
  pub handles : AtMost p logs.handles
  pub raws : RawsAtMost p logs.raws
  pub some : list_any (λ k. k.process == p) logs.raws ≡ true
  pub journal : logs.journal ≡ []

pub record IsNothing (logs : Logs) : Type 0 where
  pub handles : logs.handles ≡ []
  pub raws : logs.raws ≡ []
  pub journal : logs.journal ≡ []

abbrev pub IsAt : Logs → Place → Echoes → Type 0
IsAt logs Opening x = IsNothing logs
IsAt logs (Log h) x = IsNow h x.now × IsBefore logs h.process
IsAt logs (RawHead p) x = (p < process_limit) × IsBefore logs p
IsAt logs (Raws p) x = IsWithin logs p
IsAt logs Region x = Unit {0}
IsAt logs Wire x = Unit {0}
IsAt logs End x = Unit {0}

pub record IsPart (logs : Logs) (place : Place) (x : Echoes) : Type 0 where
  pub closed : IsClosed logs (record { calls = x.calls; raws = x.raws })
  pub here : IsAt logs place x

-- ---- lists that grow

pub all_snoc : {T : Type 0} (P : T → Type 0) (xs : List T) (x : T) → AllByRecursion P xs → P x → AllByRecursion P (xs ++ x ∷ [])
all_snoc P [] x all one = (one, tt)
all_snoc P (y ∷ ys) x all one = (all.0, all_snoc P ys x all.1 one)

rising_handles : (least : ℕ) (hs : List HandleLog) (h : HandleLog) → least ≤ h.process → AtMost h.process hs → IsRising least (map (λ k. k.process) hs) → IsRising least (map (λ k. k.process) (hs ++ h ∷ []))
rising_handles least [] h low most rise = (low, tt)
rising_handles least (k ∷ hs) h low most rise = (rise.0, rising_handles k.process hs h most.0 most.1 rise.1)

rising_raws : (least : ℕ) (rs : List RawLog) (r : RawLog) → least ≤ r.process → RawsAtMost r.process rs → IsRising least (map (λ k. k.process) rs) → IsRising least (map (λ k. k.process) (rs ++ r ∷ []))
rising_raws least [] r low most rise = (low, tt)
rising_raws least (k ∷ rs) r low most rise = (rise.0, rising_raws k.process rs r most.0 most.1 rise.1)

chains_snoc : (es : List (List ℕ)) (rs : List RawLog) (e : List ℕ) (r : RawLog) → AreRawWords es rs → raw_in (words_in e) ≡ Some r.chain → AreRawWords (es ++ e ∷ []) (rs ++ r ∷ [])
chains_snoc [] [] e r all one = (one, tt)
chains_snoc [] (k ∷ rs) e r all one = absurd all
chains_snoc (x ∷ es) [] e r all one = absurd all
chains_snoc (x ∷ es) (k ∷ rs) e r all one = (all.0, chains_snoc es rs e r all.1 one)

at_most_more : (p q : ℕ) (hs : List HandleLog) → AtMost p hs → p ≤ q → AtMost q hs
at_most_more p q [] low h = tt
at_most_more p q (k ∷ hs) low h = (let first = low.0 in omega (arith, first, h), at_most_more p q hs low.1 h)

below_more : (p q : ℕ) (rs : List RawLog) → RawsBelow p rs → p ≤ q → RawsBelow q rs
below_more p q [] low h = tt
below_more p q (r ∷ rs) low h = (let first = low.0 in omega (arith, first, h), below_more p q rs low.1 h)

-- ---- the log that was read is one of the logs

closed_log : (logs : Logs) (h : HandleLog) (x : Echoes) → IsPart logs (Log h) x → IsClosed (closed logs (Log h)) (words_at (Log h) x)
closed_log logs h x part =
    let c = part.closed in
    let now = part.here.0 in
    let before = part.here.1 in
    record {
      reads = all_read_snoc logs.handles h x.calls x.now c.reads now.reads;
      count = c.count;
      echoes = all_snoc (AllByRecursion IsEcho) x.calls x.now c.echoes now.echoes;
      raw_echoes = c.raw_echoes;
      chains = c.chains;
      handles = all_snoc FitsHandle logs.handles h c.handles now.fits;
      raws = c.raws;
      journal = c.journal;
      wire = c.wire;
      handles_rise = rising_handles 0 logs.handles h (omega arith) before.handles c.handles_rise;
      raws_rise = c.raws_rise;
    }

pub closed_all : (logs : Logs) (place : Place) (x : Echoes) → IsPart logs place x → IsClosed (closed logs place) (words_at place x)
closed_all logs Opening x part = part.closed
closed_all logs (Log h) x part = closed_log logs h x part
closed_all logs (RawHead p) x part = part.closed
closed_all logs (Raws p) x part = part.closed
closed_all logs Region x part = part.closed
closed_all logs Wire x part = part.closed
closed_all logs End x part = part.closed

-- where a head may stand, all is before it
nothing_before : (p : ℕ) (logs : Logs) → IsNothing logs → IsBefore logs p
nothing_before p logs none = record {
  handles = (let P : List HandleLog → Type 0 = AtMost p in subst P (sym none.handles) tt);
  raws = (let P : List RawLog → Type 0 = RawsBelow p in subst P (sym none.raws) tt);
  journal = none.journal;
}

pub head_before : (logs : Logs) (place : Place) (x : Echoes) (p : ℕ) → IsPart logs place x → begins place p ≡ true → IsBefore (closed logs place) p
head_before logs Opening x p part h = nothing_before p logs part.here
head_before logs (Log k) x p part h =
    let before = part.here.1 in
    let low : k.process ≤ p = grind (arith, nat_tests) in
    record {
      handles = all_snoc (λ y. y.process ≤ p) logs.handles k (at_most_more k.process p logs.handles before.handles low) low;
      raws = below_more k.process p logs.raws before.raws low;
      journal = before.journal;
    }
head_before logs (Raws last) x p part h =
    let within = part.here in
    let low : last < p = grind (arith, nat_tests) in
    record {
      handles = at_most_more last p logs.handles within.handles (omega (arith, low));
      raws = below_from last p logs.raws within.raws low;
      journal = within.journal;
    }
head_before logs (RawHead q) x p part h = absurd (cc)
head_before logs Region x p part h = absurd (cc)
head_before logs Wire x p part h = absurd (cc)
head_before logs End x p part h = absurd (cc)

text_begins : (logs : Logs) (place : Place) (x : Echoes) (p : ℕ) → begins place p ≡ true → text_at logs place x ≡ body (closed logs place) (words_at place x)
text_begins logs Opening x p h = refl
text_begins logs (Log k) x p h = refl
text_begins logs (Raws last) x p h = refl
text_begins logs (RawHead q) x p h = absurd (cc)
text_begins logs Region x p h = absurd (cc)
text_begins logs Wire x p h = absurd (cc)
text_begins logs End x p h = absurd (cc)

-- ---- one line more

-- the words when the log of a handle, or of raw lines, begins
abbrev pub next : Place → Echoes → Echoes
next place x = record { calls = (words_at place x).calls; now = []; raws = (words_at place x).raws }

pub record Grows (logs : Logs) (place : Place) (x : Echoes) (more : Logs) (there : Place) (y : Echoes) (line : List ℕ) : Type 0 where
  pub part : IsPart more there y
  pub text : text_at more there y ≡ text_at logs place x ++ line

pub handle_grows : (logs : Logs) (place : Place) (x : Echoes) (h : HandleLog) → IsPart logs place x → begins place h.process ≡ true → FitsHandle h → h.entries ≡ []
    → Grows logs place x (closed logs place) (Log h) (next place x) (head_text h)
handle_grows logs place x h part at fits none =
    let before = head_before logs place x h.process part at in
    let all = closed_all logs place x part in
    let empty : handle_text h [] ≡ head_text h = rw none (append-nil (head_text h)) in
    record {
      part = record { closed = all; here = (record { reads = rw none refl; fits = fits; echoes = tt }, before) };
      text = body_handle (closed logs place) (words_at place x) h [] (lengths (closed logs place).handles (words_at place x).calls all.reads) before.handles before.raws fits.process ∙ rw (empty, text_begins logs place x h.process at) refl;
    }

pub raws_grow : (logs : Logs) (place : Place) (x : Echoes) (p : ℕ) → IsPart logs place x → begins place p ≡ true → p < process_limit
    → Grows logs place x (closed logs place) (RawHead p) (next place x) (raws_head p)
raws_grow logs place x p part at small =
    record {
      part = record { closed = closed_all logs place x part; here = (small, head_before logs place x p part at) };
      text = rw (text_begins logs place x p at) refl;
    }

-- an entry of a log
pub entry_grows : (logs : Logs) (h : HandleLog) (x : Echoes) (e : Entry) (more : List (List ℕ)) (line : List ℕ) → IsPart logs (Log h) x
    → entries_text (h.entries ++ e ∷ []) more ≡ entries_text h.entries x.now ++ line → reads h.name (h.entries ++ e ∷ []) more ≡ true → AllByRecursion IsEcho more → FitsEntry e
    → Grows logs (Log h) x logs (Log (record h { entries = h.entries ++ e ∷ [] })) (record x { now = more }) line
entry_grows logs h x e more line part text read echoes fits =
    let now = part.here.0 in
    let before = part.here.1 in
    let k : HandleLog = record h { entries = h.entries ++ e ∷ [] } in
    let words : Words = record { calls = x.calls; raws = x.raws } in
    let same = lengths logs.handles x.calls part.closed.reads in
    let old = body_handle logs words h x.now same before.handles before.raws now.fits.process in
    let new = body_handle logs words k more same before.handles before.raws now.fits.process in
    record {
      part = record {
        closed = part.closed;
        here = (
          record {
            reads = read;
            fits = record { process = now.fits.process; name = now.fits.name; session = now.fits.session; entries = all_snoc FitsEntry h.entries e now.fits.entries fits };
            echoes = echoes;
          },
          before,
        );
      };
      text = new ∙ rw (old, text) (grind (arith, common_steps));
    }

-- a raw line of this process
abbrev pub raw_log : ℕ → ℕ → RawChain → Errno → RawLog
raw_log p line chain errno = record { process = p; line = line; chain = chain; errno = errno }

abbrev pub more_raw : Echoes → List ℕ → Echoes
more_raw x e = record { calls = x.calls; now = x.now; raws = x.raws ++ e ∷ [] }

raw_closed : (logs : Logs) (words : Words) (r : RawLog) (e : List ℕ) → IsClosed logs words → RawsAtMost r.process logs.raws → FitsRaw r → IsEcho e → raw_in (words_in e) ≡ Some r.chain → IsClosed (with_raw_log logs r) (more_raws words e)
raw_closed logs words r e c most fits echo chain = record {
  reads = c.reads;
  count = (let n = c.count in rw (length-append words.raws (e ∷ []), length-append logs.raws (r ∷ [])) (omega (arith, n)));
  echoes = c.echoes;
  raw_echoes = all_snoc IsEcho words.raws e c.raw_echoes echo;
  chains = chains_snoc words.raws logs.raws e r c.chains chain;
  handles = c.handles;
  raws = all_snoc FitsRaw logs.raws r c.raws fits;
  journal = c.journal;
  wire = c.wire;
  handles_rise = c.handles_rise;
  raws_rise = rising_raws 0 logs.raws r (omega arith) most c.raws_rise;
}

some_snoc : (p : ℕ) (rs : List RawLog) (r : RawLog) → r.process ≡ p → list_any (λ k. k.process == p) (rs ++ r ∷ []) ≡ true
some_snoc p [] r is = rw (is, eq-eqb p p refl) refl
some_snoc p (k ∷ rs) r is = rw (some_snoc p rs r is) (by_test (k.process == p))
  where
    by_test : (a : Bool) → (a || true) ≡ true
    by_test true = refl
    by_test false = refl

most_snoc : (p : ℕ) (rs : List RawLog) (r : RawLog) → RawsAtMost p rs → r.process ≡ p → RawsAtMost p (rs ++ r ∷ [])
most_snoc p rs r most is = all_snoc (λ k. k.process ≤ p) rs r most (omega (arith, is))

pub first_grows : (logs : Logs) (p : ℕ) (x : Echoes) (line : ℕ) (chain : RawChain) (errno : Errno) (e : List ℕ) → IsPart logs (RawHead p) x → line < 2 ^ 32 → IsEcho e → raw_in (words_in e) ≡ Some chain
    → Grows logs (RawHead p) x (with_raw_log logs (raw_log p line chain errno)) (Raws p) (more_raw x e) (raw_text (raw_log p line chain errno) e)
first_grows logs p x line chain errno e part small echo is =
    let r : RawLog = raw_log p line chain errno in
    let words : Words = record { calls = x.calls; raws = x.raws } in
    let before = part.here.1 in
    let most = at_most_from p logs.raws before.raws in
    record {
      part = record {
        closed = raw_closed logs words r e part.closed most (record { process = part.here.0; line = small }) echo is;
        here = record { process = part.here.0; handles = before.handles; raws = most_snoc p logs.raws r most refl; some = some_snoc p logs.raws r refl; journal = before.journal };
      };
      text = body_first logs words r e part.closed.count before.handles before.raws part.here.0 ∙ sym (append_assoc (body logs words) (raws_head p) (raw_text r e));
    }

pub next_grows : (logs : Logs) (p : ℕ) (x : Echoes) (line : ℕ) (chain : RawChain) (errno : Errno) (e : List ℕ) → IsPart logs (Raws p) x → line < 2 ^ 32 → IsEcho e → raw_in (words_in e) ≡ Some chain
    → Grows logs (Raws p) x (with_raw_log logs (raw_log p line chain errno)) (Raws p) (more_raw x e) (raw_text (raw_log p line chain errno) e)
next_grows logs p x line chain errno e part small echo is =
    let r : RawLog = raw_log p line chain errno in
    let words : Words = record { calls = x.calls; raws = x.raws } in
    let within = part.here in
    record {
      part = record {
        closed = raw_closed logs words r e part.closed within.raws (record { process = within.process; line = small }) echo is;
        here = record { process = within.process; handles = within.handles; raws = most_snoc p logs.raws r within.raws refl; some = some_snoc p logs.raws r refl; journal = within.journal };
      };
      text = body_next logs words r e part.closed.count within.handles within.raws within.process within.some;
    }

-- ---- the region and the digest

no_journal : (logs : Logs) (place : Place) (x : Echoes) → IsPart logs place x → may_end place ≡ true → (closed logs place).journal ≡ []
no_journal logs Opening x part h = part.here.journal
no_journal logs (Log k) x part h = part.here.1.journal
no_journal logs (Raws p) x part h = part.here.journal
no_journal logs (RawHead q) x part h = absurd (cc)
no_journal logs Region x part h = absurd (cc)
no_journal logs Wire x part h = absurd (cc)
no_journal logs End x part h = absurd (cc)

text_ends : (logs : Logs) (place : Place) (x : Echoes) → may_end place ≡ true → text_at logs place x ≡ body (closed logs place) (words_at place x)
text_ends logs Opening x h = refl
text_ends logs (Log k) x h = refl
text_ends logs (Raws last) x h = refl
text_ends logs (RawHead q) x h = absurd (cc)
text_ends logs Region x h = absurd (cc)
text_ends logs Wire x h = absurd (cc)
text_ends logs End x h = absurd (cc)

pub region_grows : (logs : Logs) (place : Place) (x : Echoes) → IsPart logs place x → may_end place ≡ true → Grows logs place x (closed logs place) Region (next place x) (codes "region\n")
region_grows logs place x part at =
    record {
      part = record { closed = closed_all logs place x part; here = tt };
      text = rw (no_journal logs place x part at, text_ends logs place x at) (append-nil (body (closed logs place) (words_at place x) ++ codes "region\n"));
    }

abbrev pub with_region_entry : Logs → RegionEntry → Logs
with_region_entry logs e = record logs { journal = logs.journal ++ e ∷ [] }

journal_snoc : (es : List RegionEntry) (e : RegionEntry) → flat_map journal_line (es ++ e ∷ []) ≡ flat_map journal_line es ++ journal_line e
journal_snoc [] e = append-nil (journal_line e)
journal_snoc (k ∷ es) e = rw (journal_snoc es e) (sym (append_assoc (journal_line k) (flat_map journal_line es) (journal_line e)))

body_journal : (logs : Logs) (words : Words) (e : RegionEntry) → body (with_region_entry logs e) words ≡ body logs words
unfolding body
body_journal logs words e = refl

pub journal_grows : (logs : Logs) (x : Echoes) (e : RegionEntry) → IsPart logs Region x → FitsJournal e → Grows logs Region x (with_region_entry logs e) Region x (journal_line e)
journal_grows logs x e part fits =
    let c = part.closed in
    let words : Words = record { calls = x.calls; raws = x.raws } in
    record {
      part = record {
        closed = record {
          reads = c.reads;
          count = c.count;
          echoes = c.echoes;
          raw_echoes = c.raw_echoes;
          chains = c.chains;
          handles = c.handles;
          raws = c.raws;
          journal = all_snoc FitsJournal logs.journal e c.journal fits;
          wire = c.wire;
          handles_rise = c.handles_rise;
          raws_rise = c.raws_rise;
        };
        here = tt;
      };
      text = rw (body_journal logs words e, journal_snoc logs.journal e) (simp append_assoc);
    }

abbrev pub with_digest : Logs → List ℕ → Logs
with_digest logs digest = record logs { wire = digest }

text_is : (logs : Logs) (words : Words) (digest : List ℕ) → text_of (with_digest logs digest) words ≡ body logs words ++ codes "region\n" ++ flat_map journal_line logs.journal ++ codes "wire " ++ encode_lower digest ++ codes "\n"
unfolding body
text_is logs words digest = refl

pub wire_grows : (logs : Logs) (x : Echoes) (digest : List ℕ) → IsPart logs Region x → IsDigest digest → Grows logs Region x (with_digest logs digest) Wire x (codes "wire " ++ encode_lower digest ++ codes "\n")
wire_grows logs x digest part fits =
    let c = part.closed in
    let words : Words = record { calls = x.calls; raws = x.raws } in
    record {
      part = record {
        closed = record {
          reads = c.reads;
          count = c.count;
          echoes = c.echoes;
          raw_echoes = c.raw_echoes;
          chains = c.chains;
          handles = c.handles;
          raws = c.raws;
          journal = c.journal;
          wire = fits;
          handles_rise = c.handles_rise;
          raws_rise = c.raws_rise;
        };
        here = tt;
      };
      text = text_is logs words digest ∙ simp append_assoc;
    }
