-- What one process's driver does, in the words of its steps.
use Rattle.std.proofs.Common.{◌≡◌, ◌<◌, ◌+◌, ℕ, zero, suc, true, List, [], ◌∷◌, ◌++◌, length, drop, map, get_or, set, Option, Some, None, IsSome, refl, sym, ap, ◌∙◌, subst, arith, length-set, get_or-set_same}
use Rattle.std.specs.List.{slice_get}
use Rattle.std.proofs.lemmas.List.{drop_more, drop-set-lt}
use Rattle.std.proofs.lemmas.Option.{slice_get_within, get_or_from_slice_get}
use Rattle.vm_chain.specs.declared.desc.Desc.{Desc}
use Rattle.v4l_const.specs.declared.errno.Errno.{Errno}
use Rattle.vm_local.specs.declared.call.Call.{Call}
use Rattle.vm_link.specs.Queue.{Queue, posted}
use Rattle.vm_link.specs.declared.parcel.Finished.{Finished}
use Rattle.vm_link.specs.declared.parcel.Parcel.{Parcel}
use Rattle.vm_script.specs.declared.line.LineKind.TheVariants.{OnHandle, Raw}
use Rattle.vm_script.specs.declared.line.RawChain.{RawChain}
use Rattle.vm_exchange.specs.declared.way.Way.{Way}
use Rattle.vm_exchange.specs.declared.way.Way.TheVariants.{Crosses, AnsweredHere, Waits, TouchesMemory}
use Rattle.vm_handle.specs.declared.started.Started.TheVariants.{Answered, Send, Wait}
use Rattle.vm_handle.specs.Handle.{HandleState}
use Rattle.vm_guest.specs.Caller.{CanLog, StartsBy}
use Rattle.vm_guest.specs.Chain.{IsChain, IsOwn, IsHome, chain_table, chain_pages}
use Rattle.vm_guest.specs.Lines.{BeginsCall, sends_by, CanAnswer}
use Rattle.vm_guest.specs.Message.{Sending, OfCall, returning_of}
use Rattle.vm_guest.specs.Orderly.{HasOrder, IsThere, HasChain, HasTables, HasOwnTable, table_for, IsOwnTable, HasChains}
use Rattle.vm_guest.specs.Process.{ProcessState, begun, current, crossing}
use Rattle.vm_guest.specs.Queues.{Posts}
use Rattle.vm_guest.specs.declared.asked.Asked.{Asked}
use Rattle.vm_guest.specs.declared.asked.Statement.{Statement}
use Rattle.vm_guest.specs.declared.status.Status.{Status}
use Rattle.vm_guest.specs.declared.status.Status.TheVariants.{AtRest, Crossing, Blocked, Lent}
use Rattle.vm_guest.proofs.ProcessLemmas.{IsOn, is_on, asked_of}
use Rattle.vm_guest.proofs.StatementLemmas.{IsUnderWay, under_way, out_here}

-- what stands at a place of a list, whatever would stand past its end
pub stands_at : {A : Type 0} (xs : List A) (i : ℕ) (d e : A) → i < length xs → get_or xs i d ≡ get_or xs i e
stands_at [] i d e within = absurd (omega (arith, within))
stands_at (x ∷ xs) zero d e within = refl
stands_at (x ∷ xs) (suc i) d e within = stands_at xs i d e (omega (arith, within))

-- ---- the chain is at home

there_some : (n : ℕ) (o : Option Parcel) → IsThere n o → IsSome o
there_some n None there = absurd there
there_some n (Some parcel) there = refl

pub chain_there : (n : ℕ) (status : Status) (o : Option Parcel) → status ≡ AtRest → HasChain n status o → IsSome o
chain_there n status o rests has = there_some n o (subst (λ x. HasChain n x o) rests has)

pub chain_home : (n : ℕ) (status : Status) (o : Option Parcel) (parcel : Parcel) → status ≡ AtRest → o ≡ Some parcel → HasChain n status o → IsHome n parcel
chain_home n status o parcel rests is has = subst (λ x. IsThere n x) is (subst (λ x. HasChain n x o) rests has)

-- a process's chain with no memory in it, once it came back
pub own_home : (n : ℕ) (parcel : Parcel) → IsOwn n parcel → IsHome n (record parcel { held = [] })
own_home n parcel own = (
  own.0,
  record {
    behind = own.1.behind;
    reply = own.1.reply;
    room = own.1.room;
    is = ap (λ (x : Parcel). record x { held = [] }) own.1.is;
    roomy = own.1.roomy;
    whole_command = own.1.whole_command;
    whole_reply = own.1.whole_reply;
  },
)

-- a raw line's chain, with the process's own table again
pub raw_home : (n len : ℕ) (table posted_table : List Desc) (parcel : Parcel) → IsChain n posted_table [] parcel.held parcel → table ≡ chain_table n len →
    IsHome n (record parcel { table = table; held = [] })
raw_home n len table posted_table parcel raw is = (
  len,
  record {
    behind = raw.behind;
    reply = raw.reply;
    room = raw.room;
    is = ap (λ (x : Parcel). record x { table = table; held = [] }) raw.is
        ∙ ap {A = List Desc} {B = Parcel} (λ t. record { who = n; table = t; pages = chain_pages n ([] ++ raw.behind) raw.reply; held = []; room = raw.room }) is;
    roomy = raw.roomy;
    whole_command = raw.whole_command;
    whole_reply = raw.whole_reply;
  },
)

-- ---- the tables of raw lines

abbrev tail_or : List (List Desc) → List (List Desc)
tail_or [] = []
tail_or (x ∷ xs) = xs

abbrev head_or : List Desc → List (List Desc) → List Desc
head_or d [] = d
head_or d (x ∷ xs) = x

next_tables : (n : ℕ) (ss : List Statement) (at : ℕ) (tables : List (List Desc)) (s : Statement) → at < length ss → HasTables n ss at tables → HasTables n ss (at + 1) tables
next_tables n ss at tables s within ready =
    let inside : at < length tables = omega (arith, within, ready.0) in
    let both : get_or tables at [] ∷ drop (at + 1) tables ≡ table_for n (get_or ss at s).what ∷ map (λ x. table_for n x.what) (drop (at + 1) ss) =
    sym (drop_more tables at [] inside) ∙ (ready.1 ∙ ap (λ (xs : List Statement). map (λ x. table_for n x.what) xs) (drop_more ss at s within)) in
    (ready.0, ap (λ (xs : List (List Desc)). tail_or xs) both)

-- one more is begun
pub tables_next : (n : ℕ) (ss : List Statement) (at : ℕ) (tables : List (List Desc)) (s : Statement) → slice_get ss at ≡ Some s → HasTables n ss at tables → HasTables n ss (at + 1) tables
tables_next n ss at tables s is ready = next_tables n ss at tables s (slice_get_within ss at s is) ready

-- the tables behind one that is exchanged
pub tables_set : (n : ℕ) (ss : List Statement) (at : ℕ) (tables : List (List Desc)) (table : List Desc) → HasTables n ss (at + 1) tables → HasTables n ss (at + 1) (set tables at table)
tables_set n ss at tables table ready =
    (length-set tables at table ∙ ready.0, drop-set-lt (at + 1) tables at table (omega arith) ∙ ready.1)

-- the table that is ready for a statement
pub table_ready : (n : ℕ) (ss : List Statement) (at : ℕ) (tables : List (List Desc)) (s : Statement) → slice_get ss at ≡ Some s → HasTables n ss at tables → get_or tables at [] ≡ table_for n s.what
table_ready n ss at tables s is ready =
    let within : at < length ss = slice_get_within ss at s is in
    let inside : at < length tables = omega (arith, within, ready.0) in
    let both : get_or tables at [] ∷ drop (at + 1) tables ≡ table_for n (get_or ss at s).what ∷ map (λ x. table_for n x.what) (drop (at + 1) ss) =
    sym (drop_more tables at [] inside) ∙ (ready.1 ∙ ap (λ (xs : List Statement). map (λ x. table_for n x.what) xs) (drop_more ss at s within)) in
    ap (λ (xs : List (List Desc)). head_or [] xs) both ∙ ap (λ (x : Statement). table_for n x.what) (get_or_from_slice_get ss at s s is)

-- ---- what it keeps besides

call_own : (n : ℕ) (o : Option Statement) (s : Statement) (h : ℕ) (call : Call) (table : List Desc) → o ≡ Some s → s.what ≡ OnHandle h call → HasOwnTable n o table
call_own n o s h call table is what = subst (λ x. HasOwnTable n x table) (sym is) (subst (λ w. IsOwnTable n w table) (sym what) tt)

-- a call is begun, and its chain is on the link
pub chains_sent : (p : ProcessState) (s : Statement) (h : ℕ) (call : Call) (hs : List HandleState) (chain : Option Parcel) (tables : List (List Desc)) → p.status ≡ AtRest → current p ≡ Some s →
    s.what ≡ OnHandle h call → HasChains p chain tables → HasChains (record p { handles = hs; status = Crossing }) None tables
chains_sent p s h call hs chain tables rests at what has = record {
  at_home = tt;
  ready = tables_next p.number p.statements p.answered tables s at (subst (λ x. HasTables p.number p.statements (begun (record p { status = x })) tables) rests has.ready);
  own = call_own p.number (current p) s h call (get_or tables p.answered []) at what;
}

-- a statement is begun and answered at once, and the chain is at home
pub chains_here : (p : ProcessState) (s : Statement) (hs : List HandleState) (chain : Option Parcel) (tables : List (List Desc)) → p.status ≡ AtRest → current p ≡ Some s → HasChains p chain tables →
    HasChains (record p { handles = hs; answered = p.answered + 1; status = AtRest }) chain tables
chains_here p s hs chain tables rests at has = record {
  at_home = subst (λ x. HasChain p.number x chain) rests has.at_home;
  ready = tables_next p.number p.statements p.answered tables s at (subst (λ x. HasTables p.number p.statements (begun (record p { status = x })) tables) rests has.ready);
  own = tt;
}

-- the same where the process is blocked, or its memory is out
pub chains_waiting : (p : ProcessState) (s : Statement) (hs : List HandleState) (chain : Option Parcel) (tables : List (List Desc)) → p.status ≡ AtRest → current p ≡ Some s → HasChains p chain tables →
    HasChains (record p { handles = hs; status = Blocked }) chain tables × HasChains (record p { handles = hs; status = Lent }) chain tables
chains_waiting p s hs chain tables rests at has =
    let home : IsThere p.number chain = subst (λ x. HasChain p.number x chain) rests has.at_home in
    let ready : HasTables p.number p.statements (p.answered + 1) tables =
    tables_next p.number p.statements p.answered tables s at (subst (λ x. HasTables p.number p.statements (begun (record p { status = x })) tables) rests has.ready) in
    (record { at_home = home; ready = ready; own = tt }, record { at_home = home; ready = ready; own = tt })

-- a raw line is begun: the process's own table stands in its place
pub chains_raw : (p : ProcessState) (s : Statement) (line : RawChain) (chain : Option Parcel) (parcel : Parcel) (tables : List (List Desc)) → p.status ≡ AtRest → current p ≡ Some s →
    s.what ≡ Raw line → chain ≡ Some parcel → HasChains p chain tables → HasChains (record p { status = Crossing }) None (set tables p.answered parcel.table)
chains_raw p s line chain parcel tables rests at what is has =
    let home : IsHome p.number parcel = chain_home p.number p.status chain parcel rests is has.at_home in
    let ready : HasTables p.number p.statements p.answered tables = subst (λ x. HasTables p.number p.statements (begun (record p { status = x })) tables) rests has.ready in
    let inside : p.answered < length tables = omega (arith, slice_get_within p.statements p.answered s at, ready.0) in
    let own : IsOwnTable p.number (Raw line) parcel.table = (home.0, ap (λ (x : Parcel). x.table) home.1.is) in
    record {
      at_home = tt;
      ready = tables_set p.number p.statements p.answered tables parcel.table (tables_next p.number p.statements p.answered tables s at ready);
      own = subst (λ t. HasOwnTable p.number (current p) t) (sym (get_or-set_same tables p.answered parcel.table [] inside))
          (subst (λ o. HasOwnTable p.number o parcel.table) (sym at) (subst (λ w. IsOwnTable p.number w parcel.table) (sym what) own));
    }

-- a statement's chain came back
pub chains_back : (p : ProcessState) (hs : List HandleState) (raws : List (Option Errno)) (chain : Option Parcel) (parcel : Parcel) (tables : List (List Desc)) → p.status ≡ Crossing → IsHome p.number parcel →
    HasChains p chain tables → HasChains (record p { handles = hs; raws = raws; answered = p.answered + 1; status = AtRest }) (Some parcel) tables
chains_back p hs raws chain parcel tables crosses home has = record {
  at_home = home;
  ready = subst (λ x. HasTables p.number p.statements (begun (record p { status = x })) tables) crosses has.ready;
  own = tt;
}

-- ---- what a call that is begun sends

pub sends_call : (way : Way) (p : ProcessState) (a : Asked) (chain chain' : Parcel) (len : ℕ) (hs : List HandleState) (q : Queue) → StartsBy way a p.handles chain (Send len) hs chain' → IsHome p.number chain →
    (sends : Option Sending) × BeginsCall way a.line a.handle a.call p (record p { handles = hs; status = Crossing }) sends × Posts p.number sends q (posted q chain')
sends_call (Crosses c) p a chain chain' len hs q starts home =
    (Some (OfCall c starts.0), (starts.0, starts.1, starts.2, ap (λ xs. record p { handles = xs; status = Crossing }) starts.3, refl), (chain', starts.5 p.number home, refl))
sends_call AnsweredHere p a chain chain' len hs q starts home = let w : Send len ≡ Answered = starts.3 in cc
sends_call Waits p a chain chain' len hs q starts home = let w : Send len ≡ Wait = starts.1 in cc
sends_call TouchesMemory p a chain chain' len hs q starts home = absurd starts

pub sends_where : (way : Way) (a : Asked) (handles hs : List HandleState) (chain chain' : Parcel) (len : ℕ) → StartsBy way a handles chain (Send len) hs chain' → sends_by way ≡ true
sends_where (Crosses c) a handles hs chain chain' len starts = refl
sends_where AnsweredHere a handles hs chain chain' len starts = let w : Send len ≡ Answered = starts.3 in cc
sends_where Waits a handles hs chain chain' len starts = let w : Send len ≡ Wait = starts.1 in cc
sends_where TouchesMemory a handles hs chain chain' len starts = absurd starts

-- ---- what came back

pub can_log : (p : ProcessState) (s : Statement) (h : ℕ) (call : Call) (f : Finished) → HasOrder p → crossing p ≡ Some s → s.what ≡ OnHandle h call → IsOwn p.number f.parcel →
    CanAnswer s.line (OnHandle h call) p (returning_of f) → CanLog p.handles (asked_of s h call) f
can_log p s h call f order is what own can =
    let way : IsUnderWay p s = under_way p s is in
    let on : IsOn order.1 p s h call = is_on order.0 order.1 p s h call order.2 way.at what in
    record {
      within = on.within;
      out = out_here order.0 order.1 p s h call Crossing order.2 on way.crosses;
      pages = ap (λ (x : Parcel). length x.pages) own.1.is;
      command = can.0;
      crossed = can.1;
      may = can.2;
    }
