-- Lemmas on the top call's endings: each has its cause.
use Rattle.std.proofs.Common.{◌≡◌, true, false, ℕ, ◌==◌, ◌≤◌, ◌⊎◌, List, Option, Some, None, Ok, Err, IsSome, IfSome, length, refl, sym, ap, ◌∙◌, subst, arith, inl, inr, if◌then◌else◌}
use Rattle.vm_io.specs.Bytes.{WasAppended, PartAppended}
use Rattle.vm_io.specs.Faults.{Rose}
use Rattle.vm_script.specs.Script.{ScriptLines}
use Rattle.vm_script.specs.Grammar.{script_of}
use Rattle.vmedia.specs.declared.ending.Ending.{Ending}
use Rattle.vmedia.specs.declared.ending.Ending.TheVariants.{Ran, BadWords, BadScript, SourceFailed, SinkFailed, NoMemory}
use Rattle.vm_words.specs.declared.command.Command.{Command}
use Rattle.vm_words.specs.declared.command.Command.TheVariants.{OnScript, Bulk}
use Rattle.vm_words.specs.declared.command.Task.{Task}
use Rattle.vm_words.specs.declared.command.Task.TheVariants.{Check, Run}
use Rattle.vm_words.specs.Command.{command_in, reads_script}
use Rattle.vmedia.specs.Run.{Failures}
use Rattle.vmedia.specs.Top.{Outside, failed, Answers, Tells, TellsTask, TellsDone, TellsBad, TellsFault, ReadToEnd, IsWritten, WroteAll, Wrote, Ends, EndsWith, ReadsWell, status_of, usage_line, script_limit}

-- ---- an ending is known by its status

abbrev ending_of : ℕ → Ending
ending_of n = if n == 0 then Ran else (if n == 2 then BadWords else (if n == 3 then BadScript else (if n == 4 then SourceFailed else (if n == 5 then SinkFailed else NoMemory))))

ending_found : (e : Ending) → ending_of (status_of e) ≡ e
ending_found Ran = refl
ending_found BadWords = refl
ending_found BadScript = refl
ending_found SourceFailed = refl
ending_found SinkFailed = refl
ending_found NoMemory = refl

same_ending : (e f : Ending) → status_of e ≡ status_of f → e ≡ f
same_ending e f same = sym (ending_found e) ∙ ap ending_of same ∙ ending_found f

-- words aren't both served and none
not_both : {A : Type 0} (o : Option A) (x : A) → o ≡ Some x → o ≡ None → ⊥
not_both o x some none = let both : Some x ≡ None = sym some ∙ none in cc

not_served : {A : Type 0} (o : Option A) → IsSome o → o ≡ None → ⊥
not_served (Some x) some none = cc
not_served None some none = cc

-- a script isn't faulty
not_faulty : (bytes text : List ℕ) (s : ScriptLines) → length bytes ≤ script_limit → script_of bytes ≡ Ok s → TellsFault bytes text → ⊥
not_faulty bytes text s short reads fault = elim fault [
  | inl long ↦ omega (arith, short, long.0)
  | inr faulty ↦ let both : Ok s ≡ Err faulty.1.0 = sym reads ∙ faulty.1.1 in cc
]

-- ---- what a command says of the script

-- words that read a script are served
reads_some : (o : Option Command) → reads_script o ≡ true → IsSome o
reads_some (Some command) reads = refl
reads_some None reads = absurd (cc)

same_command : (o : Option Command) (c d : Command) → o ≡ Some c → o ≡ Some d → c ≡ d
same_command o c d this that = let both : Some c ≡ Some d = sym this ∙ that in cc

-- a fault is told of the source's bytes alone
bad_told : (command : Command) (left : Option (List ℕ)) (text : List ℕ) → TellsBad command left text → IfSome left (λ b. TellsFault b text)
bad_told (OnScript task) left text tells = tells
bad_told (Bulk n) left text tells = absurd tells

-- the bytes of a script that something is told of are one
abbrev AreScript : List ℕ → Type 0
AreScript bytes = (s : ScriptLines) × (length bytes ≤ script_limit) × (script_of bytes ≡ Ok s)

task_reads : (task : Task) (fails : Failures) (bytes text : List ℕ) → TellsTask task fails bytes text → AreScript bytes
task_reads Check fails bytes text tells = (tells.1.0, tells.0, tells.1.1)
task_reads (Run seed) fails bytes text tells = (tells.1.0, tells.0, tells.1.1)

done_reads : (command : Command) (fails : Failures) (left : Option (List ℕ)) (bytes text : List ℕ) → reads_script (Some command) ≡ true → left ≡ Some bytes → TellsDone command fails left text → AreScript bytes
done_reads (OnScript task) fails left bytes text reads tells done =
    let P : Option (List ℕ) → Type 0 = λ o. IfSome o (λ b. TellsTask task fails b text) in
    task_reads task fails bytes text (subst P tells done)
done_reads (Bulk n) fails left bytes text reads tells done = absurd (cc)

module _ (words : List (List ℕ)) (before after : Outside) where
  -- ---- what was written, and the ending that goes with it

  written_whole : (text : List ℕ) (told : Ending) → Tells words (failed before after) before.source.left told text → WroteAll before.sink after.sink text → ReadsWell before after
      → (told ≡ Ran → ReadToEnd words after) → (told ≡ BadWords → after.source.left ≡ before.source.left) → Ends words before after told
  written_whole text Ran tells wrote well read still = ((well, (text, tells, wrote)), read refl)
  written_whole text BadWords tells wrote well read still = ((well, (text, tells, wrote)), still refl)
  written_whole text BadScript tells wrote well read still = (well, (text, tells, wrote))
  written_whole text SourceFailed tells wrote well read still = absurd tells.2
  written_whole text SinkFailed tells wrote well read still = absurd tells.2
  written_whole text NoMemory tells wrote well read still = absurd tells.2

  pub ends_written : (text : List ℕ) (told ending : Ending) → Tells words (failed before after) before.source.left told text → IsWritten before.sink after.sink text told ending → ReadsWell before after
      → (told ≡ Ran → ReadToEnd words after) → (told ≡ BadWords → after.source.left ≡ before.source.left) → Ends words before after ending
  ends_written text told ending tells written well read still =
      let P : Ending → Type 0 = λ e. Ends words before after e in elim written [
        | inl whole ↦ subst P (sym whole.0) (written_whole text told tells whole.1 well read still)
        | inr part ↦ subst P (sym part.0) (well, (told, text, tells, part.1))
      ]

  -- an answer to a command is one to the words that ask for it
  tells_served : (command : Command) (told : Ending) (text : List ℕ) → command_in words ≡ Some command → Answers command (failed before after) before.source.left told text → Tells words (failed before after) before.source.left told text
  tells_served command Ran text served answers = (command, served, answers)
  tells_served command BadWords text served answers = absurd answers
  tells_served command BadScript text served answers = (command, served, answers)
  tells_served command SourceFailed text served answers = absurd answers
  tells_served command SinkFailed text served answers = absurd answers
  tells_served command NoMemory text served answers = absurd answers

  served_still : (command : Command) (told : Ending) (text : List ℕ) → Answers command (failed before after) before.source.left told text → told ≡ BadWords → after.source.left ≡ before.source.left
  served_still command told text answers bad =
      let P : Ending → Type 0 = λ e. Answers command (failed before after) before.source.left e text in absurd (subst P bad answers)

  -- what was written of an answer to the source's bytes
  pub ends_served : (command : Command) (text : List ℕ) (told ending : Ending) → command_in words ≡ Some command → Answers command (failed before after) before.source.left told text → IsWritten before.sink after.sink text told ending → ReadsWell before after
      → (told ≡ Ran → ReadToEnd words after) → Ends words before after ending
  ends_served command text told ending served answers written well read =
      ends_written text told ending (tells_served command told text served answers) written well read (served_still command told text answers)

  -- the source failed, where the words ask for its script
  pub ends_unread : (command : Command) → command_in words ≡ Some command → reads_script (Some command) ≡ true → Rose before.source.faults after.source.faults → after.sink ≡ before.sink → Ends words before after SourceFailed
  ends_unread command served reads rose still = (ap reads_script served ∙ reads, rose, still)

  -- memory was wanting, where the words are served
  pub ends_wanting : (command : Command) → command_in words ≡ Some command → ReadsWell before after → after.sink ≡ before.sink → Ends words before after NoMemory
  ends_wanting command served well still = (subst IsSome (sym served) refl, well, still)

  -- ---- the endings, one by one

  well_read : (e : Ending) → Ends words before after e → (status_of e ≡ 4 → ⊥) → ReadsWell before after
  well_read Ran ends other = ends.0.0
  well_read BadWords ends other = ends.0.0
  well_read BadScript ends other = ends.0
  well_read SourceFailed ends other = absurd (other refl)
  well_read SinkFailed ends other = ends.0
  well_read NoMemory ends other = ends.1

  well_written : (e : Ending) → Ends words before after e → (status_of e ≡ 5 → ⊥) → after.sink.faults ≡ before.sink.faults
  well_written Ran ends other = ends.0.1.2.1
  well_written BadWords ends other = ends.0.1.2.1
  well_written BadScript ends other = ends.1.2.1
  well_written SourceFailed ends other = ap (λ sink. sink.faults) ends.2
  well_written SinkFailed ends other = absurd (other refl)
  well_written NoMemory ends other = ap (λ sink. sink.faults) ends.2

  of_bad_words : (e : Ending) → Ends words before after e → command_in words ≡ None → (status_of e ≡ 2) ⊎ (status_of e ≡ 5)
  of_bad_words Ran ends bad = absurd (not_both (command_in words) ends.0.1.1.0 ends.0.1.1.1 bad)
  of_bad_words BadWords ends bad = inl refl
  of_bad_words BadScript ends bad = absurd (not_both (command_in words) ends.1.1.0 ends.1.1.1 bad)
  of_bad_words SourceFailed ends bad = absurd (not_served (command_in words) (reads_some (command_in words) ends.0) bad)
  of_bad_words SinkFailed ends bad = inr refl
  of_bad_words NoMemory ends bad = absurd (not_served (command_in words) ends.0 bad)

  of_script : (e : Ending) → Ends words before after e → (bytes : List ℕ) (s : ScriptLines) → reads_script (command_in words) ≡ true → before.source.left ≡ Some bytes → length bytes ≤ script_limit → script_of bytes ≡ Ok s
      → (Rose before.source.faults after.source.faults → ⊥) → (Rose before.sink.faults after.sink.faults → ⊥) → (status_of e ≡ 0) ⊎ (status_of e ≡ 6)
  of_script Ran ends bytes s served tells short reads source_well sink_well = inl refl
  of_script BadWords ends bytes s served tells short reads source_well sink_well = absurd (not_served (command_in words) (reads_some (command_in words) served) ends.0.1.1.0)
  of_script BadScript ends bytes s served tells short reads source_well sink_well =
      let P : Option (List ℕ) → Type 0 = λ o. IfSome o (λ b. TellsFault b ends.1.0) in
      absurd (not_faulty bytes ends.1.0 s short reads (subst P tells (bad_told ends.1.1.0 before.source.left ends.1.0 ends.1.1.2)))
  of_script SourceFailed ends bytes s served tells short reads source_well sink_well = absurd (source_well ends.1)
  of_script SinkFailed ends bytes s served tells short reads source_well sink_well = absurd (sink_well ends.1.3.0)
  of_script NoMemory ends bytes s served tells short reads source_well sink_well = inr refl

  of_faulty : (e : Ending) → Ends words before after e → (bytes text : List ℕ) → reads_script (command_in words) ≡ true → before.source.left ≡ Some bytes → TellsFault bytes text
      → (Rose before.source.faults after.source.faults → ⊥) → (Rose before.sink.faults after.sink.faults → ⊥) → (status_of e ≡ 3) ⊎ (status_of e ≡ 6)
  of_faulty Ran ends bytes text served tells fault source_well sink_well =
      let reads : reads_script (Some ends.0.1.1.0) ≡ true = ap reads_script (sym ends.0.1.1.1) ∙ served in
      let script = done_reads ends.0.1.1.0 (failed before after) before.source.left bytes ends.0.1.0 reads tells ends.0.1.1.2 in
      absurd (not_faulty bytes text script.0 script.1 script.2 fault)
  of_faulty BadWords ends bytes text served tells fault source_well sink_well = absurd (not_served (command_in words) (reads_some (command_in words) served) ends.0.1.1.0)
  of_faulty BadScript ends bytes text served tells fault source_well sink_well = inl refl
  of_faulty SourceFailed ends bytes text served tells fault source_well sink_well = absurd (source_well ends.1)
  of_faulty SinkFailed ends bytes text served tells fault source_well sink_well = absurd (sink_well ends.1.3.0)
  of_faulty NoMemory ends bytes text served tells fault source_well sink_well = inr refl

  of_bulk : (e : Ending) → Ends words before after e → (n : ℕ) → command_in words ≡ Some (Bulk n) → (Rose before.sink.faults after.sink.faults → ⊥) → (status_of e ≡ 0) ⊎ (status_of e ≡ 6)
  of_bulk Ran ends n served sink_well = inl refl
  of_bulk BadWords ends n served sink_well = absurd (not_both (command_in words) (Bulk n) served ends.0.1.1.0)
  of_bulk BadScript ends n served sink_well =
      let P : Command → Type 0 = λ c. TellsBad c before.source.left ends.1.0 in
      absurd (subst P (same_command (command_in words) ends.1.1.0 (Bulk n) ends.1.1.1 served) ends.1.1.2)
  of_bulk SourceFailed ends n served sink_well = let both : false ≡ true = sym (ap reads_script served) ∙ ends.0 in absurd (cc)
  of_bulk SinkFailed ends n served sink_well = absurd (sink_well ends.1.3.0)
  of_bulk NoMemory ends n served sink_well = inr refl

  -- ---- the statuses, one by one

  module _ (r : ℕ) (ends : EndsWith words before after r) where
    ends_as : (e : Ending) → r ≡ status_of e → Ends words before after e
    ends_as e is = let P : Ending → Type 0 = λ x. Ends words before after x in subst P (same_ending ends.0 e (sym ends.1 ∙ is)) ends.2

    either : (a b : ℕ) → (status_of ends.0 ≡ a) ⊎ (status_of ends.0 ≡ b) → (r ≡ a) ⊎ (r ≡ b)
    either a b one = elim one [ inl is ↦ inl (ends.1 ∙ is) | inr is ↦ inr (ends.1 ∙ is) ]

    pub ends_usage : r ≡ 2 → (command_in words ≡ None) × WasAppended before.sink.held after.sink.held usage_line
    ends_usage is =
        let e = ends_as BadWords is in
        (e.0.1.1.0, subst (WasAppended before.sink.held after.sink.held) e.0.1.1.1 e.0.1.2.0)

    pub ends_bad_words : command_in words ≡ None → (r ≡ 2) ⊎ (r ≡ 5)
    ends_bad_words bad = either 2 5 (of_bad_words ends.0 ends.2 bad)

    pub ends_run : r ≡ 0 → Wrote before.sink.held after.sink.held (Tells words (failed before after) before.source.left Ran)
    ends_run is = let e = ends_as Ran is in (e.0.1.0, e.0.1.1, e.0.1.2.0)

    pub ends_read : r ≡ 0 → ReadToEnd words after
    ends_read is = (ends_as Ran is).1

    pub ends_script : r ≡ 3 → Wrote before.sink.held after.sink.held (Tells words (failed before after) before.source.left BadScript)
    ends_script is = let e = ends_as BadScript is in (e.1.0, e.1.1, e.1.2.0)

    pub ends_source : r ≡ 4 → Rose before.source.faults after.source.faults × (after.sink.held ≡ before.sink.held)
    ends_source is = let e = ends_as SourceFailed is in (e.1, ap (λ sink. sink.held) e.2)

    pub ends_reads_well : (r ≡ 4 → ⊥) → after.source.faults ≡ before.source.faults
    ends_reads_well other = well_read ends.0 ends.2 (λ is. other (ends.1 ∙ is))

    pub ends_sink : r ≡ 5 → Rose before.sink.faults after.sink.faults
        × ((told : Ending) × (text : List ℕ) × Tells words (failed before after) before.source.left told text × PartAppended before.sink.held after.sink.held text)
    ends_sink is = let e = ends_as SinkFailed is in (e.1.3.0, (e.1.0, e.1.1, e.1.2, e.1.3.1))

    pub ends_writes_well : (r ≡ 5 → ⊥) → after.sink.faults ≡ before.sink.faults
    ends_writes_well other = well_written ends.0 ends.2 (λ is. other (ends.1 ∙ is))

    pub ends_memory : r ≡ 6 → after.sink.held ≡ before.sink.held
    ends_memory is = let e = ends_as NoMemory is in ap (λ sink. sink.held) e.2

    pub ends_complete : (bytes : List ℕ) (s : ScriptLines) → reads_script (command_in words) ≡ true → before.source.left ≡ Some bytes → length bytes ≤ script_limit → script_of bytes ≡ Ok s
        → (Rose before.source.faults after.source.faults → ⊥) → (Rose before.sink.faults after.sink.faults → ⊥) → (r ≡ 0) ⊎ (r ≡ 6)
    ends_complete bytes s served tells short reads source_well sink_well = either 0 6 (of_script ends.0 ends.2 bytes s served tells short reads source_well sink_well)

    pub ends_bulk : (n : ℕ) → command_in words ≡ Some (Bulk n) → (Rose before.sink.faults after.sink.faults → ⊥) → (r ≡ 0) ⊎ (r ≡ 6)
    ends_bulk n served sink_well = either 0 6 (of_bulk ends.0 ends.2 n served sink_well)

    pub ends_faulty : (bytes text : List ℕ) → reads_script (command_in words) ≡ true → before.source.left ≡ Some bytes → TellsFault bytes text
        → (Rose before.source.faults after.source.faults → ⊥) → (Rose before.sink.faults after.sink.faults → ⊥) → (r ≡ 3) ⊎ (r ≡ 6)
    ends_faulty bytes text served tells fault source_well sink_well = either 3 6 (of_faulty ends.0 ends.2 bytes text served tells fault source_well sink_well)
