-- Why there are no words of the command line to judge.
use Rattle.std.specs.declared.io.ErrorKind.{ErrorKind}
use Rattle.std.specs.declared.io.ErrorKind.TheVariants.{InvalidData}
use Rattle.vmedia.specs.declared.words.WordsError.{WordsError}
use Rattle.vmedia.specs.declared.words.WordsError.TheVariants.{NotUtf8, Memory}

-- by the kind of std's error: a word that isn't UTF-8 is InvalidData there
abbrev pub words_error : ErrorKind → WordsError
words_error InvalidData = NotUtf8
words_error kind = Memory
