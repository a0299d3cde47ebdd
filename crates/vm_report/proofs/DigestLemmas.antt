-- Lemmas on what crossed for a log and for handles.
use Rattle.std.proofs.Common.{◌≡◌, ℕ, ◌<◌, ◌≤◌, ◌+◌, ◌^◌, get_or, drop, List, [], ◌∷◌, ◌++◌, Option, Some, None, IsSome, refl, ap, sym, subst, ◌∙◌, append_assoc, length, flat_map, map, max, arith}
use Rattle.std.proofs.lemmas.List.{append-nil, drop_more, drop_all}
use Rattle.std.specs.List.{AllByRecursion}
use Rattle.std.specs.Option.{option_and_then}
use Rattle.sha2.specs.declared.Sha256.{Sha256}
use Rattle.sha2.specs.Hashers.{Holds256}
use Rattle.v4l_const.specs.declared.model.Model.{Model}
use Rattle.vm_local.specs.declared.call.Call.{Call}
use Rattle.vm_local.specs.declared.entry.Entry.{Entry}
use Rattle.vm_local.specs.declared.entry.Entry.TheVariants.{Called}
use Rattle.vm_local.specs.declared.reply.Reply.{Reply}
use Rattle.vm_wire.specs.declared.response.Response.{Response}
use Rattle.vm_wire.specs.Wire.{response_bytes}
use Rattle.vm_local.specs.Record.{RecordState, without_bytes}
use Rattle.vm_local.specs.State.{LocalState, opening}
use Rattle.vm_local.specs.Log.{after, replay_from}
use Rattle.vm_exchange.specs.declared.crossing.Crossing.{Crossing}
use Rattle.vm_exchange.specs.Entries.{crossing_bytes}
use Rattle.vm_exchange.specs.Exchange.{crossing, crossing_of, response_to}
use Rattle.vm_exchange.specs.Laws.{Fits}
use Rattle.vm_exchange.specs.Range.{IsInRange, IsRecord, IsOffered, HasWords}
use Rattle.vm_exchange.proofs.FitLemmas.{crossing_fits}
use Rattle.vm_exchange.proofs.OfferLemmas.{reply_offered}
use Rattle.vm_exchange.proofs.RecordLemmas.{record_of, same_way, same_response}
use Rattle.vm_exchange.proofs.RangeLemmas.{after_in_range, opening_in_range}
use Rattle.vm_report.specs.Digest.{wire_of, wire_of_call, wires_from, or_nothing}

-- ---- one call

-- the record is that of a state in range
abbrev pub Shows : RecordState → Type 0
Shows kept = (s : LocalState) × (kept.local ≡ without_bytes s) × IsInRange s

pub record_at : (kept : RecordState) → Shows kept → IsRecord kept.local
record_at kept (s, shown, range) = subst IsRecord (sym shown) (record_of s range)

-- what crosses by the record crosses by the state
crosses : (session : ℕ) (s : LocalState) (kept : RecordState) (call : Call) (o : Option Crossing) → kept.local ≡ without_bytes s → o ≡ crossing_of session kept.local call
    → crossing_of session s call ≡ o
crosses session s kept call o shown is =
    sym (is ∙ ap (λ l. crossing_of session l call) shown ∙ ap crossing (same_way session s call))

pub crossing_fit : (session : ℕ) (kept : RecordState) (call : Call) (o : Option Crossing) (c : Crossing) → session < 2 ^ 32 → Shows kept → o ≡ crossing_of session kept.local call → o ≡ Some c
    → Fits c
crossing_fit session kept call o c small (s, shown, range) is some = crossing_fits session s call c small range (crosses session s kept call o shown is ∙ some)

-- nothing is hashed where nothing crosses
pub none_crossed : (session : ℕ) (s : LocalState) (kept : RecordState) (call : Call) (reply : Reply) (o : Option Crossing) (m : List ℕ) (h : Sha256) → kept.local ≡ without_bytes s
    → o ≡ crossing_of session kept.local call → o ≡ None → Holds256 h m → Holds256 h (m ++ wire_of_call session s (crossing_of session s call) call reply)
none_crossed session s kept call reply o m h shown is none holds =
    let P : Option Crossing → Type 0 = λ x. Holds256 h (m ++ wire_of_call session s x call reply) in
    let Q : List ℕ → Type 0 = λ x. Holds256 h x in
    subst P (sym (crosses session s kept call o shown is ∙ none)) (subst Q (sym (append-nil m)) holds)

pub some_crossed : (session : ℕ) (s : LocalState) (kept : RecordState) (call : Call) (reply : Reply) (o : Option Crossing) (c : Crossing) (r : Response) (m : List ℕ) (old mid new : Sha256)
    → kept.local ≡ without_bytes s → o ≡ crossing_of session kept.local call → o ≡ Some c → r ≡ response_to session kept.local call reply
    → ((n : List ℕ) → Holds256 old n → Holds256 mid (n ++ crossing_bytes c)) → ((n : List ℕ) → Holds256 mid n → Holds256 new (n ++ response_bytes r))
    → Holds256 old m → Holds256 new (m ++ wire_of_call session s (crossing_of session s call) call reply)
some_crossed session s kept call reply o c r m old mid new shown is some answers first second holds =
    let says : r ≡ response_to session s call reply = answers ∙ ap (λ l. response_to session l call reply) shown ∙ same_response session s call reply in
    let P : Option Crossing → Type 0 = λ x. Holds256 new (m ++ wire_of_call session s x call reply) in
    let Q : List ℕ → Type 0 = λ x. Holds256 new x in
    let R : Response → Type 0 = λ x. Holds256 new (m ++ (crossing_bytes c ++ response_bytes x)) in
    let both : Holds256 new (m ++ (crossing_bytes c ++ response_bytes r)) =
    subst Q (append_assoc m (crossing_bytes c) (response_bytes r)) (second (m ++ crossing_bytes c) (first m holds)) in
    subst P (sym (crosses session s kept call o shown is ∙ some)) (subst R says both)

-- ---- a log that is hashed entry by entry

-- The second hasher holds what crossed for the entries before those that are left, behind what the first holds, and
-- the record is that of the state there, with room for the rest.
pub record Follows (model : Model) (session : ℕ) (all rest : List Entry) (kept : RecordState) (old new : Sha256) : Type 0 where
  pub state : LocalState
  pub shown : kept.local ≡ without_bytes state
  pub range : IsInRange state
  pub room : length rest ≤ kept.room
  pub legal : IsSome (replay_from state rest)
  pub hashed : List ℕ
  pub all_of : hashed ++ wires_from session state rest ≡ wires_from session (opening model) all
  pub holds : (m : List ℕ) → Holds256 old m → Holds256 new (m ++ hashed)

pub follows_none : (model : Model) (session : ℕ) (log : List Entry) (kept : RecordState) (hasher : Sha256) → kept.local ≡ opening model → length log ≤ kept.room
    → IsSome (replay_from (opening model) log) → Follows model session log log kept hasher hasher
follows_none model session log kept hasher shown room legal = record {
  state = opening model;
  shown = shown;
  range = opening_in_range model;
  room = room;
  legal = legal;
  hashed = [];
  all_of = refl;
  holds = λ m h. let P : List ℕ → Type 0 = λ x. Holds256 hasher x in subst P (sym (append-nil m)) h;
}

-- from where the next entry leads to a state
abbrev pub Leads : RecordState → Entry → Type 0
Leads kept e = (s : LocalState) × (t : LocalState) × (kept.local ≡ without_bytes s) × IsInRange s × (after s e ≡ Some t)

pub leads_show : (kept : RecordState) (e : Entry) → Leads kept e → Shows kept
leads_show kept e (s, t, shown, range, comes) = (s, shown, range)

pub leads_offer : (kept : RecordState) (line : ℕ) (call : Call) (reply : Reply) (e : Entry) → e ≡ Called line call reply → Leads kept e → IsOffered call reply
leads_offer kept line call reply e is (s, t, shown, range, comes) =
    reply_offered s t line call reply range (subst (λ x. after s x ≡ Some t) is comes)

follows_leads : (model : Model) (session : ℕ) (all rest : List Entry) (e : Entry) (kept : RecordState) (old new : Sha256)
    → Follows model session all (e ∷ rest) kept old new → Leads kept e
follows_leads model session all rest e kept old new f = by_state (after f.state e) refl f.legal
  where
    by_state : (o : Option LocalState) → after f.state e ≡ o → IsSome (option_and_then (λ t. replay_from t rest) o) → Leads kept e
    by_state None is legal = cc
    by_state (Some t) is legal = (f.state, t, f.shown, f.range, is)

follows_more : (model : Model) (session : ℕ) (all rest : List Entry) (e : Entry) (kept kept' : RecordState) (old new more : Sha256)
    → Follows model session all (e ∷ rest) kept old new
    → ((m : List ℕ) (s : LocalState) → kept.local ≡ without_bytes s → Holds256 new m → Holds256 more (m ++ wire_of session s e))
    → HasWords e
    → ((s t : LocalState) → kept.local ≡ without_bytes s → after s e ≡ Some t → kept'.local ≡ without_bytes t)
    → kept'.room + 1 ≡ kept.room
    → Follows model session all rest kept' old more
follows_more model session all rest e kept kept' old new more f adds words moves less = by_state (after f.state e) refl f.legal f.all_of
  where
    by_state : (o : Option LocalState) → after f.state e ≡ o → IsSome (option_and_then (λ t. replay_from t rest) o)
        → f.hashed ++ (wire_of session f.state e ++ or_nothing o (λ t. wires_from session t rest)) ≡ wires_from session (opening model) all
        → Follows model session all rest kept' old more
    by_state None is legal all_of = cc
    by_state (Some t) is legal all_of = record {
      state = t;
      shown = moves f.state t f.shown is;
      range = after_in_range f.state t e f.range words is;
      room = let room = f.room in omega (arith, room, less);
      legal = legal;
      hashed = f.hashed ++ wire_of session f.state e;
      all_of = append_assoc f.hashed (wire_of session f.state e) (wires_from session t rest) ∙ all_of;
      holds = λ m h.
          let P : List ℕ → Type 0 = λ x. Holds256 more x in
          subst P (append_assoc m f.hashed (wire_of session f.state e)) (adds (m ++ f.hashed) f.state f.shown (f.holds m h));
    }

-- as much room as there are entries
pub roomy : (entries before room : ℕ) → room ≡ max before entries → entries ≤ room
roomy entries before room is = omega (arith, is)

-- the same where the next entry is the one at a place of the log

next_left : (all : List Entry) (i : ℕ) (e : Entry) → i < length all → e ≡ get_or all i e → drop i all ≡ e ∷ drop (i + 1) all
next_left all i e within is = drop_more all i e within ∙ ap (λ x. x ∷ drop (i + 1) all) (sym is)

follows_next : (model : Model) (session : ℕ) (all : List Entry) (i : ℕ) (e : Entry) (kept : RecordState) (old new : Sha256) → i < length all → e ≡ get_or all i e
    → Follows model session all (drop i all) kept old new → Follows model session all (e ∷ drop (i + 1) all) kept old new
follows_next model session all i e kept old new within is f =
    let P : List Entry → Type 0 = λ x. Follows model session all x kept old new in subst P (next_left all i e within is) f

pub leads_at : (model : Model) (session : ℕ) (all : List Entry) (i : ℕ) (e : Entry) (kept : RecordState) (old new : Sha256) → i < length all → e ≡ get_or all i e
    → Follows model session all (drop i all) kept old new → Leads kept e
leads_at model session all i e kept old new within is f =
    follows_leads model session all (drop (i + 1) all) e kept old new (follows_next model session all i e kept old new within is f)

-- there is room for the next entry
pub room_at : (model : Model) (session : ℕ) (all : List Entry) (i : ℕ) (e : Entry) (kept : RecordState) (old new : Sha256) → i < length all → e ≡ get_or all i e
    → Follows model session all (drop i all) kept old new → 0 < kept.room
room_at model session all i e kept old new within is f =
    let room = (follows_next model session all i e kept old new within is f).room in omega (arith, room)

pub follows_at : (model : Model) (session : ℕ) (all : List Entry) (i : ℕ) (e : Entry) (kept kept' : RecordState) (old new more : Sha256) → i < length all → e ≡ get_or all i e
    → Follows model session all (drop i all) kept old new
    → ((m : List ℕ) (s : LocalState) → kept.local ≡ without_bytes s → Holds256 new m → Holds256 more (m ++ wire_of session s e))
    → HasWords e
    → ((s t : LocalState) → kept.local ≡ without_bytes s → after s e ≡ Some t → kept'.local ≡ without_bytes t)
    → kept'.room + 1 ≡ kept.room
    → Follows model session all (drop (i + 1) all) kept' old more
follows_at model session all i e kept kept' old new more within is f adds words moves less =
    follows_more model session all (drop (i + 1) all) e kept kept' old new more (follows_next model session all i e kept old new within is f) adds words moves less

pub follows_all : (model : Model) (session : ℕ) (log : List Entry) (kept : RecordState) (old new : Sha256) → Follows model session log [] kept old new
    → (m : List ℕ) → Holds256 old m → Holds256 new (m ++ wires_from session (opening model) log)
follows_all model session log kept old new f m h =
    let whole : f.hashed ≡ wires_from session (opening model) log = sym (append-nil f.hashed) ∙ f.all_of in
    let P : List ℕ → Type 0 = λ x. Holds256 new (m ++ x) in subst P whole (f.holds m h)

-- ---- what holds of each entry

-- behind one more that has it
pub all_behind : {A : Type 0} (P : A → Type 0) (xs : List A) (i : ℕ) (x : A) → i < length xs → x ≡ get_or xs i x → P x
    → (AllByRecursion P (drop i xs) → AllByRecursion P xs) → AllByRecursion P (drop (i + 1) xs) → AllByRecursion P xs
all_behind P xs i x within is has whole rest =
    let next : drop i xs ≡ x ∷ drop (i + 1) xs = drop_more xs i x within ∙ ap (λ y. y ∷ drop (i + 1) xs) (sym is) in
    whole (subst (AllByRecursion P) (sym next) (has, rest))

-- ---- handles that are hashed one after the other

-- what is hashed of those before this one, with this one's, and then of those that are left
pub handles_more : {A B : Type 0} (f : B → List ℕ) (g : A → B) (xs : List A) (i : ℕ) (x : A) (hashed : List ℕ) → i < length xs → x ≡ get_or xs i x
    → hashed ++ flat_map f (map g (drop i xs)) ≡ flat_map f (map g xs)
    → (hashed ++ f (g x)) ++ flat_map f (map g (drop (i + 1) xs)) ≡ flat_map f (map g xs)
handles_more f g xs i x hashed within is whole =
    let next : drop i xs ≡ x ∷ drop (i + 1) xs = drop_more xs i x within ∙ ap (λ y. y ∷ drop (i + 1) xs) (sym is) in
    append_assoc hashed (f (g x)) (flat_map f (map g (drop (i + 1) xs))) ∙ (ap (λ ys. hashed ++ flat_map f (map g ys)) (sym next) ∙ whole)

-- the next one has what all that are left have
pub next_has : {A : Type 0} (P : A → Type 0) (xs : List A) (i : ℕ) (x : A) → i < length xs → x ≡ get_or xs i x → AllByRecursion P (drop i xs) → P x × AllByRecursion P (drop (i + 1) xs)
next_has P xs i x within is all =
    let next : drop i xs ≡ x ∷ drop (i + 1) xs = drop_more xs i x within ∙ ap (λ y. y ∷ drop (i + 1) xs) (sym is) in
    subst (AllByRecursion P) next all

-- nothing is left behind the last one
pub none_left : {A : Type 0} (P : A → Type 0) (xs : List A) (i : ℕ) → length xs ≤ i → AllByRecursion P (drop i xs)
none_left P xs i beyond = subst (AllByRecursion P) (sym (drop_all i xs beyond)) tt

pub all_hashed : {A B : Type 0} (f : B → List ℕ) (g : A → B) (xs : List A) (i : ℕ) (hashed : List ℕ) → length xs ≤ i
    → hashed ++ flat_map f (map g (drop i xs)) ≡ flat_map f (map g xs) → hashed ≡ flat_map f (map g xs)
all_hashed f g xs i hashed beyond whole =
    sym (append-nil hashed) ∙ (ap (λ ys. hashed ++ flat_map f (map g ys)) (sym (drop_all i xs beyond)) ∙ whole)
