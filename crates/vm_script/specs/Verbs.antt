-- The verbs of statements, and which lines are built.
use Rattle.std.specs.Prelude.{ℕ, Bool, false, List, [], ◌∷◌, Option, codes, not}
use Rattle.std.specs.List.{find}
use Rattle.std.specs.Str.{bytes_eq}
use Rattle.vm_script.specs.declared.verb.Verb.{Verb}
use Rattle.vm_script.specs.declared.verb.Verb.TheVariants.{Open, Close, QueryCap, EnumFmt, GFmt, TryFmt, SFmt, EnumInput, GInput, SInput, ReqBufs, QueryBuf, UAlloc, QBuf, StreamOn, StreamOff, DqBuf, Mmap, Munmap, Read, Hash, Write, Fill, Subscribe, Unsubscribe, DqEvent}

-- ---- the verbs

abbrev pub word_of : Verb → List ℕ
word_of Open = codes "open"
word_of Close = codes "close"
word_of QueryCap = codes "querycap"
word_of EnumFmt = codes "enumfmt"
word_of GFmt = codes "gfmt"
word_of TryFmt = codes "tryfmt"
word_of SFmt = codes "sfmt"
word_of EnumInput = codes "enuminput"
word_of GInput = codes "ginput"
word_of SInput = codes "sinput"
word_of ReqBufs = codes "reqbufs"
word_of QueryBuf = codes "querybuf"
word_of UAlloc = codes "ualloc"
word_of QBuf = codes "qbuf"
word_of StreamOn = codes "streamon"
word_of StreamOff = codes "streamoff"
word_of DqBuf = codes "dqbuf"
word_of Mmap = codes "mmap"
word_of Munmap = codes "munmap"
word_of Read = codes "read"
word_of Hash = codes "hash"
word_of Write = codes "write"
word_of Fill = codes "fill"
word_of Subscribe = codes "subscribe"
word_of Unsubscribe = codes "unsubscribe"
word_of DqEvent = codes "dqevent"

abbrev pub verbs : List Verb
verbs =
    Open ∷ Close ∷ QueryCap ∷ EnumFmt ∷ GFmt ∷ TryFmt ∷ SFmt ∷ EnumInput ∷ GInput ∷ SInput
    ∷ ReqBufs ∷ QueryBuf ∷ UAlloc ∷ QBuf ∷ StreamOn ∷ StreamOff ∷ DqBuf
    ∷ Mmap ∷ Munmap ∷ Read ∷ Hash ∷ Write ∷ Fill ∷ Subscribe ∷ Unsubscribe ∷ DqEvent ∷ []

-- the verb that a line's first word is
abbrev pub verb_of : List ℕ → Option Verb
verb_of word = find (λ v. bytes_eq (word_of v) word) verbs

-- ---- what is built

-- the first word is this one
abbrev pub begins : List ℕ → List (List ℕ) → Bool
begins word [] = false
begins word (first ∷ words) = bytes_eq first word

-- the line is built: every line is but one that begins with `raw`
abbrev pub is_built_line : List (List ℕ) → Bool
is_built_line words = not (begins (codes "raw") words)
