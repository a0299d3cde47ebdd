-- How one process begins its next statement.
use Rattle.std.proofs.Common.{◌≡◌, ◌<◌, ◌≤◌, ◌+◌, ℕ, Bool, true, false, not, if◌then◌else◌, suc, List, [], ◌∷◌, ◌++◌, All, length, drop, get_or, set, Option, Some, None, refl, sym, ap, ◌∙◌, subst, arith}
use Rattle.std.specs.List.{slice_get}
use Rattle.std.specs.Option.{option_and_then}
use Rattle.std.proofs.lemmas.Bool.{false≢true}
use Rattle.std.proofs.lemmas.Option.{slice_get_within, get_or_from_slice_get}
use Rattle.vm_chain.specs.declared.desc.Desc.{Desc}
use Rattle.vm_home.specs.Moves.{touches_bytes}
use Rattle.vm_link.specs.Parcel.{IsPostable}
use Rattle.vm_link.specs.Queue.{Queue, posted, free_count}
use Rattle.vm_link.specs.declared.parcel.Parcel.{Parcel}
use Rattle.vm_script.specs.Script.{ProcessLines}
use Rattle.vm_script.specs.declared.line.Line.{Line}
use Rattle.vm_script.specs.declared.line.LineKind.{LineKind}
use Rattle.vm_script.specs.declared.line.LineKind.TheVariants.{OnHandle, Raw}
use Rattle.vm_script.specs.declared.line.RawChain.{RawChain}
use Rattle.vm_script.specs.declared.line.RawChain.TheVariants.{Loop, Outside, Order, Zero, Addr, Indirect, Bytes}
use Rattle.vm_exchange.specs.Entries.{crossing_bytes}
use Rattle.vm_exchange.specs.declared.way.Way.{Way}
use Rattle.vm_exchange.specs.declared.way.Way.TheVariants.{Crosses, AnsweredHere, Waits, TouchesMemory}
use Rattle.vm_handle.specs.Handle.{HandleState}
use Rattle.vm_handle.specs.declared.started.Started.{Started}
use Rattle.vm_handle.specs.declared.started.Started.TheVariants.{Answered, Send, Wait}
use Rattle.vm_guest.specs.Asking.{asked_by, is_leased}
use Rattle.vm_guest.specs.Caller.{CanBegin, Starts, StartsBy, way_in}
use Rattle.vm_guest.specs.Chain.{IsHome, with_bytes}
use Rattle.vm_guest.specs.Lines.{BeginsCall}
use Rattle.vm_guest.specs.Message.{Sending, OfCall, OfRaw, Carries}
use Rattle.vm_guest.specs.Orderly.{IsFitKind, IsOrderly, HasOrder, HasTables, HasChains, table_for}
use Rattle.vm_guest.specs.Process.{ProcessState, begun, current, next, issuing}
use Rattle.vm_guest.specs.Queues.{HasRoomFor, BeginsAt, Posts}
use Rattle.vm_guest.specs.Raw.{raw_table, raw_bytes, IsFitRaw}
use Rattle.vm_guest.specs.declared.asked.Asked.{Asked}
use Rattle.vm_guest.specs.declared.asked.Statement.{Statement}
use Rattle.vm_guest.specs.declared.status.Status.TheVariants.{AtRest, Crossing, Blocked}
use Rattle.vm_guest.proofs.CallerLemmas.{stands_at, chain_home, table_ready, chains_sent, chains_here, chains_waiting, chains_raw, sends_call, sends_where}
use Rattle.vm_guest.proofs.LineLemmas.{IsLine, line_of}
use Rattle.vm_guest.proofs.ProcessLemmas.{IsNext, is_next, asked_what_is, line_at}
use Rattle.vm_guest.proofs.StatementLemmas.{can_begin, issuing_next}

-- ---- the call that is begun

then_asked : (o : Option Statement) (a : Asked) → option_and_then asked_by o ≡ Some a → (s : Statement) × (o ≡ Some s) × (asked_by s ≡ Some a)
then_asked None a is = cc
then_asked (Some s) a is = (s, refl, is)

not_false : (b : Bool) → not b ≡ true → b ≡ false
not_false true is = absurd (false≢true is)
not_false false is = refl

-- Whose statement a call is that can be begun.
pub record IsBeginning (p : ProcessState) (a : Asked) : Type 0 where
  pub statement : Statement
  pub next_is : next p ≡ Some statement
  pub asked : asked_by statement ≡ Some a
  pub rests : p.status ≡ AtRest
  pub at : current p ≡ Some statement
  pub what : statement.what ≡ OnHandle a.handle a.call
  pub usual : touches_bytes a.call ≡ false

pub beginning : (p : ProcessState) (a : Asked) → option_and_then asked_by (issuing p) ≡ Some a → IsBeginning p a
beginning p a is =
    let w : (s : Statement) × (issuing p ≡ Some s) × (asked_by s ≡ Some a) = then_asked (issuing p) a is in
    let i : (next p ≡ Some w.0) × (not (is_leased w.0.what) ≡ true) = issuing_next p w.0 w.1 in
    let n : IsNext p w.0 = is_next p w.0 i.0 in
    let what : w.0.what ≡ OnHandle a.handle a.call = (asked_what_is w.0 a w.2).1 in
    record {
      statement = w.0;
      next_is = i.0;
      asked = w.2;
      rests = n.rests;
      at = n.at;
      what = what;
      usual = not_false (touches_bytes a.call) (sym (ap (λ k. not (is_leased k)) what) ∙ i.1);
    }

pub beginning_of : (p o : ProcessState) (a : Asked) → p ≡ o → option_and_then asked_by (issuing o) ≡ Some a → IsBeginning p a
beginning_of p o a same is = beginning p a (subst (λ x. option_and_then asked_by (issuing x) ≡ Some a) (sym same) is)

pub may_begin : (p o : ProcessState) (a : Asked) → p ≡ o → HasOrder o → option_and_then asked_by (issuing o) ≡ Some a → CanBegin p.handles a
may_begin p o a same order is =
    let b : IsBeginning p a = beginning_of p o a same is in
    can_begin p b.statement a (subst HasOrder (sym same) order) b.next_is b.asked

pub beginning_home : (p o : ProcessState) (a : Asked) (chain : Option Parcel) (parcel : Parcel) (tables : List (List Desc)) → p ≡ o → option_and_then asked_by (issuing o) ≡ Some a →
    chain ≡ Some parcel → HasChains p chain tables → IsHome p.number parcel
beginning_home p o a chain parcel tables same is taken has = chain_home p.number p.status chain parcel (beginning_of p o a same is).rests taken has.at_home

-- ---- a call's chain is posted

sent_by : (way : Way) (n : ℕ) (a : Asked) (handles hs : List HandleState) (chain chain' : Parcel) (len : ℕ) → StartsBy way a handles chain (Send len) hs chain' → IsHome n chain →
    IsPostable chain' × (length chain'.table ≤ 4)
sent_by (Crosses c) n a handles hs chain chain' len starts home =
    let carries : Carries n (OfCall c starts.0) chain' = starts.5 n home in
    subst (λ (x : Parcel). IsPostable x × (length x.table ≤ 4)) (sym carries.1.is) ((omega arith, omega arith, omega arith), omega arith)
sent_by AnsweredHere n a handles hs chain chain' len starts home = let w : Send len ≡ Answered = starts.3 in cc
sent_by Waits n a handles hs chain chain' len starts home = let w : Send len ≡ Wait = starts.1 in cc
sent_by TouchesMemory n a handles hs chain chain' len starts home = absurd starts

pub sent_postable : (n : ℕ) (a : Asked) (handles hs : List HandleState) (chain chain' : Parcel) (started : Started) (len : ℕ) → Starts a handles chain started hs chain' → started ≡ Send len →
    IsHome n chain → IsPostable chain'
sent_postable n a handles hs chain chain' started len starts sent home =
    (sent_by (way_in handles a) n a handles hs chain chain' len (subst (λ x. StartsBy (way_in handles a) a handles chain x hs chain') sent starts) home).0

pub sent_room : (p o : ProcessState) (a : Asked) (hs : List HandleState) (chain chain' : Parcel) (started : Started) (len : ℕ) (q : Queue) → p ≡ o → Starts a p.handles chain started hs chain' →
    started ≡ Send len → IsHome p.number chain → HasRoomFor o (OnHandle a.handle a.call) q → length chain'.table ≤ free_count q
sent_room p o a hs chain chain' started len q same starts sent home room =
    let by : StartsBy (way_in p.handles a) a p.handles chain (Send len) hs chain' = subst (λ x. StartsBy (way_in p.handles a) a p.handles chain x hs chain') sent starts in
    let there : HasRoomFor p (OnHandle a.handle a.call) q = subst (λ x. HasRoomFor x (OnHandle a.handle a.call) q) (sym same) room in
    let free : 4 ≤ free_count q = there (sends_where (way_in p.handles a) a p.handles hs chain chain' len by) in
    let few : length chain'.table ≤ 4 = (sent_by (way_in p.handles a) p.number a p.handles hs chain chain' len by home).1 in
    omega (arith, free, few)

pub begins_sent : (p o : ProcessState) (a : Asked) (hs : List HandleState) (chain chain' : Parcel) (started : Started) (len : ℕ) (q q' : Queue) → p ≡ o → Starts a p.handles chain started hs chain' →
    started ≡ Send len → IsHome p.number chain → q' ≡ posted q chain' → BeginsAt a.line (OnHandle a.handle a.call) o q (record p { handles = hs; status = Crossing }) q'
begins_sent p o a hs chain chain' started len q q' same starts sent home is =
    let by : StartsBy (way_in p.handles a) a p.handles chain (Send len) hs chain' = subst (λ x. StartsBy (way_in p.handles a) a p.handles chain x hs chain') sent starts in
    let w : (sends : Option Sending) × BeginsCall (way_in p.handles a) a.line a.handle a.call p (record p { handles = hs; status = Crossing }) sends × Posts p.number sends q (posted q chain') =
    sends_call (way_in p.handles a) p a chain chain' len hs q by home in
    subst (λ x. BeginsAt a.line (OnHandle a.handle a.call) x q (record p { handles = hs; status = Crossing }) q') same
    (record { sends = w.0; begins = w.1; posts = subst (λ x. Posts p.number w.0 q x) (sym is) w.2 })

pub kept_sent : (p o : ProcessState) (a : Asked) (hs : List HandleState) (chain left : Option Parcel) (tables : List (List Desc)) → p ≡ o → option_and_then asked_by (issuing o) ≡ Some a → left ≡ None →
    HasChains p chain tables → HasChains (record p { handles = hs; status = Crossing }) left tables
kept_sent p o a hs chain left tables same is none has =
    let b : IsBeginning p a = beginning_of p o a same is in
    subst (λ x. HasChains (record p { handles = hs; status = Crossing }) x tables) (sym none) (chains_sent p b.statement a.handle a.call hs chain tables b.rests b.at b.what has)

-- ---- a call is answered at once

here_by : (way : Way) (p : ProcessState) (a : Asked) (hs : List HandleState) (chain chain' : Parcel) → StartsBy way a p.handles chain Answered hs chain' →
    (chain' ≡ chain) × BeginsCall way a.line a.handle a.call p (record p { handles = hs; answered = p.answered + 1; status = AtRest }) None
here_by (Crosses c) p a hs chain chain' starts = let w : Answered ≡ Send (length (crossing_bytes c)) = starts.4 in cc
here_by AnsweredHere p a hs chain chain' starts =
    (starts.4, (starts.0, starts.1, ap (λ xs. record p { handles = xs; answered = p.answered + 1; status = AtRest }) starts.2, refl))
here_by Waits p a hs chain chain' starts = let w : Answered ≡ Wait = starts.1 in cc
here_by TouchesMemory p a hs chain chain' starts = absurd starts

here_starts : (p : ProcessState) (a : Asked) (hs : List HandleState) (chain chain' : Parcel) (started : Started) → Starts a p.handles chain started hs chain' → started ≡ Answered →
    (chain' ≡ chain) × BeginsCall (way_in p.handles a) a.line a.handle a.call p (record p { handles = hs; answered = p.answered + 1; status = AtRest }) None
here_starts p a hs chain chain' started starts here =
    here_by (way_in p.handles a) p a hs chain chain' (subst (λ x. StartsBy (way_in p.handles a) a p.handles chain x hs chain') here starts)

pub begins_here : (p o : ProcessState) (a : Asked) (hs : List HandleState) (chain chain' : Parcel) (started : Started) (q : Queue) → p ≡ o → option_and_then asked_by (issuing o) ≡ Some a →
    Starts a p.handles chain started hs chain' → started ≡ Answered → BeginsAt a.line (OnHandle a.handle a.call) o q (record p { handles = hs; answered = p.answered + 1 }) q
begins_here p o a hs chain chain' started q same is starts here =
    let b : IsBeginning p a = beginning_of p o a same is in
    let begins : BeginsCall (way_in p.handles a) a.line a.handle a.call p (record p { handles = hs; answered = p.answered + 1; status = AtRest }) None =
    (here_starts p a hs chain chain' started starts here).1 in
    subst (λ x. BeginsAt a.line (OnHandle a.handle a.call) x q (record p { handles = hs; answered = p.answered + 1 }) q) same
    (record {
      sends = None;
      begins = subst (λ x. BeginsCall (way_in p.handles a) a.line a.handle a.call p (record p { handles = hs; answered = p.answered + 1; status = x }) None) (sym b.rests) begins;
      posts = refl;
    })

pub kept_here : (p o : ProcessState) (a : Asked) (hs : List HandleState) (chain : Option Parcel) (parcel parcel' : Parcel) (started : Started) (tables : List (List Desc)) → p ≡ o →
    option_and_then asked_by (issuing o) ≡ Some a → chain ≡ Some parcel → Starts a p.handles parcel started hs parcel' → started ≡ Answered → HasChains p chain tables →
    HasChains (record p { handles = hs; answered = p.answered + 1 }) (Some parcel') tables
kept_here p o a hs chain parcel parcel' started tables same is taken starts here has =
    let b : IsBeginning p a = beginning_of p o a same is in
    let stays : chain ≡ Some parcel' = taken ∙ ap (λ (x : Parcel). Some x) (sym (here_starts p a hs parcel parcel' started starts here).0) in
    subst (λ x. HasChains (record p { handles = hs; answered = p.answered + 1; status = x }) (Some parcel') tables) (sym b.rests)
    (subst (λ c. HasChains (record p { handles = hs; answered = p.answered + 1; status = AtRest }) c tables) stays (chains_here p b.statement hs chain tables b.rests b.at has))

-- ---- a call waits

waits_by : (way : Way) (p : ProcessState) (a : Asked) (hs : List HandleState) (chain chain' : Parcel) → StartsBy way a p.handles chain Wait hs chain' →
    (chain' ≡ chain) × BeginsCall way a.line a.handle a.call p (record p { handles = hs; status = Blocked }) None
waits_by (Crosses c) p a hs chain chain' starts = let w : Wait ≡ Send (length (crossing_bytes c)) = starts.4 in cc
waits_by AnsweredHere p a hs chain chain' starts = let w : Wait ≡ Answered = starts.3 in cc
waits_by Waits p a hs chain chain' starts = (starts.2, (ap (λ xs. record p { handles = xs; status = Blocked }) starts.0, refl))
waits_by TouchesMemory p a hs chain chain' starts = absurd starts

waits_starts : (p : ProcessState) (a : Asked) (hs : List HandleState) (chain chain' : Parcel) (started : Started) → Starts a p.handles chain started hs chain' → started ≡ Wait →
    (chain' ≡ chain) × BeginsCall (way_in p.handles a) a.line a.handle a.call p (record p { handles = hs; status = Blocked }) None
waits_starts p a hs chain chain' started starts waits =
    waits_by (way_in p.handles a) p a hs chain chain' (subst (λ x. StartsBy (way_in p.handles a) a p.handles chain x hs chain') waits starts)

pub kept_waiting : (p o : ProcessState) (a : Asked) (hs : List HandleState) (chain : Option Parcel) (parcel parcel' : Parcel) (started : Started) (tables : List (List Desc)) → p ≡ o →
    option_and_then asked_by (issuing o) ≡ Some a → chain ≡ Some parcel → Starts a p.handles parcel started hs parcel' → started ≡ Wait → HasChains p chain tables →
    HasChains (record p { handles = hs; status = Blocked }) (Some parcel') tables
kept_waiting p o a hs chain parcel parcel' started tables same is taken starts waits has =
    let b : IsBeginning p a = beginning_of p o a same is in
    let stays : chain ≡ Some parcel' = taken ∙ ap (λ (x : Parcel). Some x) (sym (waits_starts p a hs parcel parcel' started starts waits).0) in
    subst (λ c. HasChains (record p { handles = hs; status = Blocked }) c tables) stays (chains_waiting p b.statement hs chain tables b.rests b.at has).0

-- ---- a raw line

-- The next statement is a raw line, whose bytes fit into a page.
pub record IsRawNext (p : ProcessState) (s : Statement) (line : RawChain) : Type 0 where
  pub rests : p.status ≡ AtRest
  pub at : current p ≡ Some s
  pub within : p.answered < length p.statements
  pub small : length (raw_bytes line) ≤ 4096

raw_fit : (n : ℕ) (what : LineKind) (line : RawChain) → what ≡ Raw line → IsFitKind n what → IsFitRaw line
raw_fit n what line is fit = subst (λ w. IsFitKind n w) is fit

raw_small : (line : RawChain) → IsFitRaw line → length (raw_bytes line) ≤ 4096
raw_small Loop fit = omega arith
raw_small Outside fit = omega arith
raw_small Order fit = omega arith
raw_small Zero fit = omega arith
raw_small Addr fit = omega arith
raw_small Indirect fit = omega arith
raw_small (Bytes bytes room) fit = omega (arith, fit.1)

pub raw_next : (p o : ProcessState) (s : Statement) (line : RawChain) → p ≡ o → HasOrder o → issuing o ≡ Some s → s.what ≡ Raw line → IsRawNext p s line
raw_next p o s line same order is what =
    let n : IsNext p s = is_next p s (issuing_next p s (subst (λ x. issuing x ≡ Some s) (sym same) is)).0 in
    let here : IsOrderly order.0 order.1 p = subst (λ x. IsOrderly order.0 order.1 x) (sym same) order.2 in
    let l : IsLine order.1.lines p.answered s = line_of order.1.lines p.answered s (line_at order.0 order.1 p s here n.at) in
    let fit : IsFitRaw line = raw_fit (length order.1.handles) l.line.what line (ap (λ (x : Statement). x.what) l.is ∙ what)
    (fit_at order.1 p.answered l.line here.fit.each l.at) in
    record { rests = n.rests; at = n.at; within = slice_get_within p.statements p.answered s n.at; small = raw_small line fit }
  where
    fit_at : (lines : ProcessLines) (i : ℕ) (l : Line) → All (λ x. IsFitKind (length lines.handles) x.what) lines.lines → slice_get lines.lines i ≡ Some l → IsFitKind (length lines.handles) l.what
    fit_at lines i l all is = subst (λ (x : Line). IsFitKind (length lines.handles) x.what) (get_or_from_slice_get lines.lines i l l is) (all i l (slice_get_within lines.lines i l is))

few_bytes : (b : Bool) (x y z : Desc) → (1 ≤ length (if b then x ∷ [] else y ∷ z ∷ [])) × (length (if b then x ∷ [] else y ∷ z ∷ []) ≤ 4)
few_bytes true x y z = (omega arith, omega arith)
few_bytes false x y z = (omega arith, omega arith)

raw_few : (n : ℕ) (line : RawChain) → (1 ≤ length (raw_table n line)) × (length (raw_table n line) ≤ 4)
raw_few n Loop = (omega arith, omega arith)
raw_few n Outside = (omega arith, omega arith)
raw_few n Order = (omega arith, omega arith)
raw_few n Zero = (omega arith, omega arith)
raw_few n Addr = (omega arith, omega arith)
raw_few n Indirect = (omega arith, omega arith)
raw_few n (Bytes bytes room) = few_bytes _ _ _ _

-- the front of a list in the place of as many others
whole_still : {A : Type 0} (xs ys : List A) → length xs ≤ length ys → length (xs ++ drop (length xs) ys) ≡ length ys
whole_still [] ys fits = refl
whole_still (x ∷ xs) [] fits = absurd (omega (arith, fits))
whole_still (x ∷ xs) (y ∷ ys) fits = ap suc (whole_still xs ys (omega (arith, fits)))

-- the chain with a raw line's table and bytes
raw_carries : (n : ℕ) (line : RawChain) (own chain : Parcel) (table : List Desc) → IsHome n own → table ≡ raw_table n line → length (raw_bytes line) ≤ 4096 →
    chain ≡ record (with_bytes own (raw_bytes line)) { table = table } → Carries n (OfRaw line) chain
raw_carries n line own chain table home ready small is =
    let bytes : List ℕ = raw_bytes line in
    record {
      behind = drop (length bytes) home.1.behind;
      reply = home.1.reply;
      room = home.1.room;
      is = is ∙ (ap (λ (t : List Desc). record (with_bytes own bytes) { table = t }) ready ∙ ap (λ (x : Parcel). record (with_bytes x bytes) { table = raw_table n line }) home.1.is);
      roomy = home.1.roomy;
      whole_command = whole_still bytes home.1.behind (omega (arith, small, home.1.whole_command)) ∙ home.1.whole_command;
      whole_reply = home.1.whole_reply;
    }

raw_postable : (n : ℕ) (line : RawChain) (chain : Parcel) → Carries n (OfRaw line) chain → IsPostable chain × (length chain.table ≤ 4)
raw_postable n line chain carries =
    let few : (1 ≤ length (raw_table n line)) × (length (raw_table n line) ≤ 4) = raw_few n line in
    subst (λ (x : Parcel). IsPostable x × (length x.table ≤ 4)) (sym carries.is) ((few.0, few.1, omega arith), few.1)

-- The chain of a raw line that is posted.
pub record IsRawSent (p : ProcessState) (line : RawChain) (chain : Parcel) : Type 0 where
  pub carries : Carries p.number (OfRaw line) chain
  pub postable : IsPostable chain
  pub few : length chain.table ≤ 4

pub raw_sent : (p : ProcessState) (s : Statement) (line : RawChain) (o : Option Parcel) (own chain : Parcel) (tables : List (List Desc)) (table : List Desc) → IsRawNext p s line → s.what ≡ Raw line →
    o ≡ Some own → HasChains p o tables → table ≡ get_or tables p.answered table → chain ≡ record (with_bytes own (raw_bytes line)) { table = table } → IsRawSent p line chain
raw_sent p s line o own chain tables table n what taken has stands is =
    let ready : HasTables p.number p.statements p.answered tables = subst (λ x. HasTables p.number p.statements (begun (record p { status = x })) tables) n.rests has.ready in
    let inside : p.answered < length tables = omega (arith, n.within, ready.0) in
    let own_table : table ≡ raw_table p.number line =
    stands ∙ (stands_at tables p.answered table [] inside ∙ (table_ready p.number p.statements p.answered tables s n.at ready ∙ ap (λ w. table_for p.number w) what)) in
    let carries : Carries p.number (OfRaw line) chain =
    raw_carries p.number line own chain table (chain_home p.number p.status o own n.rests taken has.at_home) own_table n.small is in
    let post : IsPostable chain × (length chain.table ≤ 4) = raw_postable p.number line chain carries in
    record { carries = carries; postable = post.0; few = post.1 }

pub begins_raw : (p o : ProcessState) (line : ℕ) (raw : RawChain) (chain : Parcel) (q q' : Queue) → p ≡ o → IsRawSent p raw chain → q' ≡ posted q chain →
    BeginsAt line (Raw raw) o q (record p { status = Crossing }) q'
begins_raw p o line raw chain q q' same sent is =
    subst (λ x. BeginsAt line (Raw raw) x q (record p { status = Crossing }) q') same
    (record { sends = Some (OfRaw raw); begins = (refl, refl); posts = (chain, sent.carries, is) })

pub kept_raw : (p : ProcessState) (s : Statement) (line : RawChain) (chain left : Option Parcel) (parcel : Parcel) (tables : List (List Desc)) (table : List Desc) → IsRawNext p s line → s.what ≡ Raw line →
    chain ≡ Some parcel → left ≡ None → HasChains p chain tables → table ≡ parcel.table → HasChains (record p { status = Crossing }) left (set tables p.answered table)
kept_raw p s line chain left parcel tables table n what taken none has is =
    subst (λ x. HasChains (record p { status = Crossing }) x (set tables p.answered table)) (sym none)
    (subst (λ t. HasChains (record p { status = Crossing }) None (set tables p.answered t)) (sym is) (chains_raw p s line chain parcel tables n.rests n.at what taken has))
