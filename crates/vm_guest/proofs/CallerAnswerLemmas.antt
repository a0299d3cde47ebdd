-- How one process's statement is answered by what came back.
use Rattle.std.proofs.Common.{◌≡◌, ◌<◌, ◌+◌, ℕ, Bool, true, false, List, [], length, get_or, set, Option, Some, None, IsSome, refl, sym, ap, ◌∙◌, subst, arith}
use Rattle.std.specs.Option.{option_and_then}
use Rattle.std.proofs.lemmas.Bool.{false≢true}
use Rattle.std.proofs.lemmas.List.{length-map}
use Rattle.std.proofs.lemmas.Option.{slice_get_within}
use Rattle.v4l_const.specs.declared.errno.Errno.{Errno}
use Rattle.vm_chain.specs.declared.desc.Desc.{Desc}
use Rattle.vm_link.specs.declared.parcel.Finished.{Finished}
use Rattle.vm_link.specs.declared.parcel.Parcel.{Parcel}
use Rattle.vm_script.specs.declared.line.LineKind.{LineKind}
use Rattle.vm_script.specs.declared.line.LineKind.TheVariants.{OnHandle, Raw}
use Rattle.vm_script.specs.declared.line.RawChain.{RawChain}
use Rattle.vm_wire.specs.declared.command.Command.{Command}
use Rattle.vm_handle.specs.Handle.{HandleState, Keeps}
use Rattle.vm_guest.specs.Asking.{asked_in, asked_by, statement_of, statements_of}
use Rattle.vm_guest.specs.Caller.{CanLog, Logs, LogsBy, command_asked}
use Rattle.vm_guest.specs.Chain.{IsChain, IsOwn, IsHome, chain_table, reply_bytes}
use Rattle.vm_guest.specs.Lines.{AnsweredFor, AnswersRaw, CallAnswered, CanAnswer, RawAnswered}
use Rattle.vm_guest.specs.Message.{returning_of}
use Rattle.vm_guest.specs.Orderly.{IsOrderly, HasOrder, HasOwnTable, IsOwnTable, HasChains}
use Rattle.vm_guest.specs.Process.{ProcessState, current, current_call, some_if, is_crossing, crossing, crossing_call, handle_in}
use Rattle.vm_guest.specs.Queues.{CanBeAnswered, IsAnswered, IsChainFor, KeepsFor}
use Rattle.vm_guest.specs.Raw.{raw_table, errno_told}
use Rattle.vm_guest.specs.declared.asked.Asked.{Asked}
use Rattle.vm_guest.specs.declared.asked.Statement.{Statement}
use Rattle.vm_guest.specs.declared.status.Status.TheVariants.{AtRest, Crossing}
use Rattle.vm_guest.proofs.CallerLemmas.{stands_at, own_home, raw_home, tables_set, chains_back, can_log}
use Rattle.vm_guest.proofs.ProcessLemmas.{if_some, asked_what_is}
use Rattle.vm_guest.proofs.StatementLemmas.{IsUnderWay, under_way}

-- ---- a call came back

-- The call whose chain came back.
pub record IsCallBack (p : ProcessState) (a : Asked) (f : Finished) : Type 0 where
  pub statement : Statement
  pub crosses : crossing p ≡ Some statement
  pub status : p.status ≡ Crossing
  pub at : current p ≡ Some statement
  pub line : statement.line ≡ a.line
  pub what : statement.what ≡ OnHandle a.handle a.call
  pub own : IsOwn p.number f.parcel
  pub can : CanAnswer a.line (OnHandle a.handle a.call) p (returning_of f)

pub call_back : (p o : ProcessState) (a : Asked) (f : Finished) → p ≡ o → CanBeAnswered o f → crossing_call p ≡ Some a → IsCallBack p a f
call_back p o a f same can is = by_order (subst (λ x. CanBeAnswered x f) (sym same) can)
  where
    by_order : CanBeAnswered p f → IsCallBack p a f
    by_order b =
        let way : IsUnderWay p b.statement = under_way p b.statement b.under_way in
        let call : current_call p ≡ Some a = (if_some (is_crossing p.status) (current_call p) a is).1 in
        let asks : asked_by b.statement ≡ Some a = sym (ap (λ o. option_and_then asked_by o) way.at) ∙ call in
        let w : (b.statement.line ≡ a.line) × (b.statement.what ≡ OnHandle a.handle a.call) = asked_what_is b.statement a asks in
        record {
          statement = b.statement;
          crosses = b.under_way;
          status = way.crosses;
          at = way.at;
          line = w.0;
          what = w.1;
          own = subst (λ k. IsChainFor p.number k f.parcel) w.1 b.chain;
          can = subst (λ n. CanAnswer n (OnHandle a.handle a.call) p (returning_of f)) w.0 (subst (λ k. CanAnswer b.statement.line k p (returning_of f)) w.1 b.answers);
        }

pub may_log : (p o : ProcessState) (a : Asked) (f : Finished) → p ≡ o → HasOrder o → IsCallBack p a f → CanLog p.handles a f
may_log p o a f same order b =
    subst (λ n. CanLog p.handles (record { line = n; handle = a.handle; call = a.call }) f) b.line
    (can_log p b.statement a.handle a.call f (subst HasOrder (sym same) order) b.crosses b.what b.own
    (subst (λ n. CanAnswer n (OnHandle a.handle a.call) p (returning_of f)) (sym b.line) b.can))

logs_with : (o : Option Command) (c : Command) (handles hs : List HandleState) (a : Asked) (f : Finished) → o ≡ Some c → LogsBy o handles a f hs → LogsBy (Some c) handles a f hs
logs_with o c handles hs a f is logs = subst (λ x. LogsBy x handles a f hs) is logs

pub answers_call : (p o : ProcessState) (a : Asked) (f : Finished) (hs : List HandleState) → p ≡ o → IsCallBack p a f → Logs p.handles a f hs →
    Keeps (handle_in hs a.handle).log (handle_in hs a.handle).session (handle_in hs a.handle).stage → IsAnswered o f (record p { handles = hs; answered = p.answered + 1; status = AtRest })
answers_call p o a f hs same b logs keeps =
    let p' : ProcessState = record p { handles = hs; answered = p.answered + 1; status = AtRest } in
    let logged : LogsBy (Some b.can.0) p.handles a f hs = logs_with (command_asked p.handles a) b.can.0 p.handles hs a f b.can.1 logs in
    let by_call : CallAnswered a.line a.handle a.call p (returning_of f) p' = record {
      command = b.can.0;
      crossed = b.can.1;
      may = b.can.2;
      after = λ reply answer. ap (λ xs. record p { handles = xs; answered = p.answered + 1; status = AtRest }) (logged reply answer);
    } in
    subst (λ x. IsAnswered x f p') same (record {
      statement = b.statement;
      under_way = b.crosses;
      answers = subst (λ n. AnsweredFor n b.statement.what p (returning_of f) p') (sym b.line)
          (subst (λ k. AnsweredFor a.line k p (returning_of f) p') (sym b.what) by_call);
      keeps = subst (λ k. KeepsFor k p') (sym b.what) keeps;
    })

pub kept_call : (p : ProcessState) (a : Asked) (f : Finished) (hs : List HandleState) (parcel : Parcel) (chain : Option Parcel) (tables : List (List Desc)) → IsCallBack p a f →
    parcel ≡ record f.parcel { held = [] } → HasChains p chain tables → HasChains (record p { handles = hs; answered = p.answered + 1; status = AtRest }) (Some parcel) tables
kept_call p a f hs parcel chain tables b is has =
    let home : IsHome p.number parcel = subst (λ (x : Parcel). IsHome p.number x) (sym is) (own_home p.number f.parcel b.own) in
    chains_back p hs p.raws chain parcel tables b.status home has

-- ---- a raw line came back

-- The raw line whose chain came back.
pub record IsRawBack (p : ProcessState) (f : Finished) : Type 0 where
  pub statement : Statement
  pub raw : RawChain
  pub crosses : crossing p ≡ Some statement
  pub status : p.status ≡ Crossing
  pub at : current p ≡ Some statement
  pub what : statement.what ≡ Raw raw
  pub posted : IsChain p.number (raw_table p.number raw) [] f.parcel.held f.parcel
  pub answers : AnswersRaw (returning_of f)

asks_nothing : (line : ℕ) (what : LineKind) → asked_in line what ≡ None → (raw : RawChain) × (what ≡ Raw raw)
asks_nothing line (OnHandle h call) is = cc
asks_nothing line (Raw raw) is = (raw, refl)

none_if : (b : Bool) (o : Option Asked) → b ≡ true → some_if b o ≡ None → o ≡ None
none_if true o is none = none
none_if false o is none = cc

pub raw_back : (p o : ProcessState) (f : Finished) → p ≡ o → CanBeAnswered o f → crossing_call p ≡ None → IsRawBack p f
raw_back p o f same can is = by_order (subst (λ x. CanBeAnswered x f) (sym same) can)
  where
    by_order : CanBeAnswered p f → IsRawBack p f
    by_order b =
        let way : IsUnderWay p b.statement = under_way p b.statement b.under_way in
        let none : current_call p ≡ None = none_if (is_crossing p.status) (current_call p) (ap (λ x. is_crossing x) way.crosses) is in
        let asks : asked_by b.statement ≡ None = sym (ap (λ o. option_and_then asked_by o) way.at) ∙ none in
        let w : (raw : RawChain) × (b.statement.what ≡ Raw raw) = asks_nothing b.statement.line b.statement.what asks in
        record {
          statement = b.statement;
          raw = w.0;
          crosses = b.under_way;
          status = way.crosses;
          at = way.at;
          what = w.1;
          posted = subst (λ k. IsChainFor p.number k f.parcel) w.1 b.chain;
          answers = subst (λ k. CanAnswer b.statement.line k p (returning_of f)) w.1 b.answers;
        }

-- there is a place for its errno, and for its table
pub raw_places : (p o : ProcessState) (f : Finished) (chain : Option Parcel) (tables : List (List Desc)) → p ≡ o → HasOrder o → IsRawBack p f → HasChains p chain tables →
    (p.answered < length p.raws) × (p.answered < length tables)
raw_places p o f chain tables same order b has =
    let here : IsOrderly order.0 order.1 p = subst (λ x. IsOrderly order.0 order.1 x) (sym same) order.2 in
    let within : p.answered < length p.statements = slice_get_within p.statements p.answered b.statement b.at in
    let lines : length p.statements ≡ length (statements_of order.1.lines) = ap (λ (ss : List Statement). length ss) here.statements in
    (omega (arith, within, lines ∙ length-map order.1.lines statement_of, here.all_raws), omega (arith, within, has.ready.0))

told_some : (o : Option Errno) → IsSome o → (errno : Errno) × (o ≡ Some errno)
told_some None is = absurd (false≢true is)
told_some (Some errno) is = (errno, refl)

pub answers_raw : (p o : ProcessState) (f : Finished) (answer : Option Errno) → p ≡ o → IsRawBack p f → answer ≡ errno_told (reply_bytes f) →
    IsAnswered o f (record p { raws = set p.raws p.answered answer; answered = p.answered + 1; status = AtRest })
answers_raw p o f answer same b is =
    let p' : ProcessState = record p { raws = set p.raws p.answered answer; answered = p.answered + 1; status = AtRest } in
    let told : (errno : Errno) × (errno_told (reply_bytes f) ≡ Some errno) = told_some (errno_told (reply_bytes f)) b.answers.1 in
    let by_raw : RawAnswered p (returning_of f) p' =
    (told.0, told.1, ap (λ x. record p { raws = set p.raws p.answered x; answered = p.answered + 1; status = AtRest }) (is ∙ told.1)) in
    subst (λ x. IsAnswered x f p') same (record {
      statement = b.statement;
      under_way = b.crosses;
      answers = subst (λ k. AnsweredFor b.statement.line k p (returning_of f) p') (sym b.what) by_raw;
      keeps = subst (λ k. KeepsFor k p') (sym b.what) tt;
    })

own_at : (n : ℕ) (o : Option Statement) (s : Statement) (raw : RawChain) (table : List Desc) → o ≡ Some s → s.what ≡ Raw raw → HasOwnTable n o table → IsOwnTable n (Raw raw) table
own_at n o s raw table is what own = subst (λ w. IsOwnTable n w table) what (subst (λ x. HasOwnTable n x table) is own)

pub kept_raw : (p : ProcessState) (f : Finished) (raws : List (Option Errno)) (parcel : Parcel) (chain : Option Parcel) (tables : List (List Desc)) (table table' : List Desc) → IsRawBack p f →
    HasChains p chain tables → table ≡ get_or tables p.answered table → p.answered < length tables → parcel ≡ record f.parcel { table = table; held = [] } →
    HasChains (record p { raws = raws; answered = p.answered + 1; status = AtRest }) (Some parcel) (set tables p.answered table')
kept_raw p f raws parcel chain tables table table' b has stands inside is =
    let own : IsOwnTable p.number (Raw b.raw) (get_or tables p.answered []) = own_at p.number (crossing p) b.statement b.raw (get_or tables p.answered []) b.crosses b.what has.own in
    let same : table ≡ chain_table p.number own.0 = stands ∙ (stands_at tables p.answered table [] inside ∙ own.1) in
    let home : IsHome p.number parcel =
    subst (λ (x : Parcel). IsHome p.number x) (sym is) (raw_home p.number own.0 table (raw_table p.number b.raw) f.parcel b.posted same) in
    let back : HasChains (record p { raws = raws; answered = p.answered + 1; status = AtRest }) (Some parcel) tables = chains_back p p.handles raws chain parcel tables b.status home has in
    record {
      at_home = home;
      ready = tables_set p.number p.statements p.answered tables table' back.ready;
      own = tt;
    }
